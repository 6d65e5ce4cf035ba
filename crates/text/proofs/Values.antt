-- A printed number tells which number it is: no digit is lost, none stands before the first that counts, and no sign is lost.
-- Assumes nothing.
use mathlib.Core.Path.{◌≡◌, refl, sym, ◌∙◌, ap}
use mathlib.Core.List.{List, [], ◌∷◌, ◌++◌}
use Prim.Native.Nat.{ℕ, suc, ◌+◌, ◌-◌, ◌*◌, ◌/◌, ◌%◌, ◌≤◌, ◌<◌}
use native.Mathlib.Omega.{arith}
use lib.IntN.{ℤ, pos, negsuc}
use lib.ListN.{get_or, drop}
use Rattle.text.specs.Bytes.{bytes}
use Rattle.text.specs.Number.{last_digit, decimal, signed_text, value_from}
use Rattle.text.proofs.Numbers.{decimal_one, decimal_more, by_digits}

value_append : (v : ℕ) (a b : List ℕ) → value_from v (a ++ b) ≡ value_from (value_from v a) b
unfolding value_from
value_append v [] b = refl
value_append v (d ∷ a) b = value_append (v * 10 + (d - 48)) a b

-- the digits of n stand for n
pub decimal_value : (n : ℕ) → value_from 0 (decimal n) ≡ n
unfolding value_from
decimal_value =
    by_digits (λ n. value_from 0 (decimal n) ≡ n) (λ n h. rw (decimal_one n h) (omega arith))
    (λ n h e. rw (decimal_more n h, value_append 0 (decimal (n / 10)) (last_digit n), e) (omega arith))

pub decimal_tells : (m n : ℕ) → decimal m ≡ decimal n → m ≡ n
decimal_tells m n e = sym (decimal_value m) ∙ ap (value_from 0) e ∙ decimal_value n

-- the first digit: 48 is `0`, which only the number 0 begins with
pub record Begins (n : ℕ) : Type 0 where
  pub digit : ℕ
  pub rest : List ℕ
  pub is : decimal n ≡ digit ∷ rest
  pub low : 48 ≤ digit
  pub no_zero : 0 < n → 49 ≤ digit

pub decimal_begins : (n : ℕ) → Begins n
decimal_begins =
    by_digits Begins (λ n h. record { digit = 48 + n % 10; rest = []; is = decimal_one n h; low = omega arith; no_zero = λ p. omega arith })
    (λ n h b. record {
      digit = b.digit;
      rest = b.rest ++ last_digit n;
      is = decimal_more n h ∙ ap (λ (ds : List ℕ). ds ++ last_digit n) b.is;
      low = b.low;
      no_zero = λ p. b.no_zero (omega arith);
    })

-- 45 is the minus sign
unsigned : (n : ℕ) (rest : List ℕ) → decimal n ≡ 45 ∷ rest → ⊥
unsigned n rest e =
    let b = decimal_begins n in
    let h : b.digit ≡ 45 = ap (λ (l : List ℕ). get_or l 0 0) (sym b.is ∙ e) in
    omega (arith, b.low)

pub signed_tells : (x y : ℤ) → signed_text x ≡ signed_text y → x ≡ y
unfolding signed_text bytes
signed_tells (pos m) (pos n) e = ap pos (decimal_tells m n e)
signed_tells (pos m) (negsuc n) e = absurd (unsigned m _ e)
signed_tells (negsuc m) (pos n) e = absurd (unsigned n _ (sym e))
signed_tells (negsuc m) (negsuc n) e =
    let h = decimal_tells (suc m) (suc n) (ap (drop 1) e) in
    ap negsuc (omega arith)
