-- A mark that is answered, and its number: 0 where there is none. Assumes nothing.
use Rattle.std.proofs.Common.{◌≡◌, ℕ, zero, suc, ◌+◌, ◌<◌, Some, None, is_some, unwrap_or, true, false, true≢false}
use Rattle.std.proofs.Common.{refl, ap, sym, ◌∙◌, add-one, arith}
use Rattle.fields.specs.Named.{some_mark}

-- the mark at place v
pub found : (v n : ℕ) → v + 1 ≡ n → Some (v + 1) ≡ some_mark n
found v n e = rw (add-one v) (ap some_mark (sym (add-one v) ∙ e))

pub none_left : (n : ℕ) → 0 ≡ n → None ≡ some_mark n
none_left n e = ap some_mark e

pub none_is_zero : (n : ℕ) → is_some (some_mark n) ≡ false → n ≡ 0
none_is_zero zero e = refl
none_is_zero (suc n) e = absurd (true≢false e)

pub some_not_zero : (n : ℕ) → is_some (some_mark n) ≡ true → 0 < n
some_not_zero zero e = absurd (true≢false (sym e))
some_not_zero (suc n) e = omega arith

-- the same of an answer by its case
pub is_none : (n : ℕ) → None ≡ some_mark n → n ≡ 0
is_none n e = none_is_zero n (ap is_some (sym e))

pub is_some_mark : (m n : ℕ) → Some m ≡ some_mark n → (n ≡ m) × (0 < m)
is_some_mark m zero e = absurd (true≢false (ap is_some e))
is_some_mark m (suc n) e =
    let q : m ≡ suc n = ap (λ o. unwrap_or o 0) e in
    (sym q, omega (arith, q))
