-- Laws on numbers as they are printed: one digit, one digit more, and the sign.
-- Assumes nothing.
use mathlib.Core.Path.{◌≡◌, refl, sym, ◌∙◌, ap}
use mathlib.Core.Bool.{Bool, true, false, true≢false}
use mathlib.Core.List.{List, ◌++◌}
use Prim.Native.Nat.{ℕ, zero, suc, ◌/◌, ◌≤◌, ◌<◌}
use native.Mathlib.Omega.{arith}
use lib.Dec.{ltb}
use lib.IntN.{ℤ, pos, negsuc, nat_abs}
use lib.Signed.{lt_z}
use borrow.Author.Tests.{lt-ltb, le-ltb, ltb-true, ltb-false}
use Rattle.text.specs.Bytes.{bytes}
use Rattle.text.specs.Number.{last_digit, digits, decimal, signed_text}
use Rattle.text.specs.Put.{Put}
use Rattle.text.proofs.Puts.{◌then◌}

digits_one : (f n : ℕ) → n < 10 → digits (suc f) n ≡ last_digit n
unfolding digits
digits_one f n h = rw (digits, lt-ltb n 10 h)

digits_more : (f n : ℕ) → 10 ≤ n → digits (suc f) n ≡ digits f (n / 10) ++ last_digit n
unfolding digits
digits_more f n h = rw (digits, le-ltb n 10 h)

-- n has one digit, or more
pub by_size : (P : Type 0) (n : ℕ) → (n < 10 → P) → (10 ≤ n → P) → P
by_size P n one more = by (ltb n 10) refl
  where
    by : (t : Bool) → ltb n 10 ≡ t → P
    by true e = one (ltb-true n 10 e)
    by false e = more (ltb-false n 10 e)

-- more digits allowed than n has change nothing
digits_enough : (f g n : ℕ) → n < f → n < g → digits f n ≡ digits g n
digits_enough zero g n p q = absurd (omega arith)
digits_enough (suc f) zero n p q = absurd (omega arith)
digits_enough (suc f) (suc g) n p q =
    by_size (digits (suc f) n ≡ digits (suc g) n) n (λ h. digits_one f n h ∙ sym (digits_one g n h))
    (λ h. digits_more f n h ∙ ap (λ (ds : List ℕ). ds ++ last_digit n) (digits_enough f g (n / 10) (omega arith) (omega arith))
    ∙ sym (digits_more g n h))

pub decimal_one : (n : ℕ) → n < 10 → decimal n ≡ last_digit n
unfolding decimal
decimal_one n h = digits_one n n h

pub decimal_more : (n : ℕ) → 10 ≤ n → decimal n ≡ decimal (n / 10) ++ last_digit n
unfolding decimal
decimal_more n h =
    digits_more n n h ∙ ap (λ (ds : List ℕ). ds ++ last_digit n) (digits_enough n (suc (n / 10)) (n / 10) (omega arith) (omega arith))

-- what one digit more keeps holds of every number
pub by_digits : (P : ℕ → Type 0) → ((n : ℕ) → n < 10 → P n) → ((n : ℕ) → 10 ≤ n → P (n / 10) → P n) → (n : ℕ) → P n
by_digits P one more n = up_to (suc n) n (omega arith)
  where
    up_to : (f k : ℕ) → k < f → P k
    up_to zero k h = absurd (omega arith)
    up_to (suc f) k h = by_size (P k) k (one k) (λ l. more k l (up_to f (k / 10) (omega arith)))

-- a number is put digit by digit
module _ {l l₁ : List ℕ} {at r n : ℕ} where
  pub put_one : n < 10 → Put l l₁ at r (last_digit n) → Put l l₁ at r (decimal n)
  put_one h p = rw (decimal_one n h) p

  pub put_more : {l₂ : List ℕ} {s : ℕ} → 10 ≤ n → Put l l₁ at r (decimal (n / 10)) → Put l₁ l₂ r s (last_digit n)
      → Put l l₂ at s (decimal n)
  put_more h p q = rw (decimal_more n h) (p then q)

pub signed_below : (z : ℤ) → lt_z z (pos 0) ≡ true → signed_text z ≡ bytes "-" ++ decimal (nat_abs z)
unfolding signed_text
signed_below (pos n) h = let l = ltb-true n 0 h in absurd (omega arith)
signed_below (negsuc n) h = refl

pub signed_plain : (z : ℤ) → lt_z z (pos 0) ≡ false → signed_text z ≡ decimal (nat_abs z)
unfolding signed_text
signed_plain (pos n) h = refl
signed_plain (negsuc n) h = absurd (true≢false h)
