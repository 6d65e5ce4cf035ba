-- Numbers as they are printed.
-- Assumes nothing.
use Rattle.std.specs.Prelude.{true, false, List, [], ◌∷◌, ◌++◌, ℕ, zero, suc, ◌+◌, ◌-◌, ◌*◌, ◌/◌, ◌%◌, ltb, ℤ, pos, negsuc}
use Rattle.text.specs.Bytes.{bytes}

-- the last digit of n: 48 is `0`
abbrev pub last_digit : ℕ → List ℕ
last_digit n = (48 + n % 10) ∷ []

-- the digits of n, if they are at most f
unfoldable pub digits : ℕ → ℕ → List ℕ
digits zero n = []
digits (suc f) n = elim (ltb n 10) [ true ↦ last_digit n | false ↦ digits f (n / 10) ++ last_digit n ]

-- the decimal digits of n, the first of them no 0 but for n = 0
unfoldable pub decimal : ℕ → List ℕ
decimal n = digits (suc n) n

-- what digits after the value v stand for
unfoldable pub value_from : ℕ → List ℕ → ℕ
value_from v [] = v
value_from v (digit ∷ rest) = value_from (v * 10 + (digit - 48)) rest

-- a minus sign where z is below 0
unfoldable pub signed_text : ℤ → List ℕ
signed_text (pos n) = decimal n
signed_text (negsuc n) = bytes "-" ++ decimal (suc n)
