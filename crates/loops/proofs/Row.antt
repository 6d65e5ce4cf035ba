-- What a row says: five numbers, and a verdict by the lines' allowances and the misclosure. Assumes nothing.
use Prim.Native.Nat.{ℕ, zero, suc, ◌+◌, ◌*◌, ◌≤◌, ◌<◌}
use native.Mathlib.Omega.{arith}
use native.Mathlib.Nat.{mul-zero, mul-add, mul_assoc}
use mathlib.Core.Path.{◌≡◌, refl, sym, ◌∙◌, ap, ap₂}
use mathlib.Core.Logic.{◌↔◌}
use mathlib.Core.Bool.{Bool, true, false, cond}
use mathlib.Core.List.{List, [], ◌∷◌, ◌++◌, map, Memᴰ}
use lib.Dec.{leb}
use lib.IntN.{pos, nat_abs}
use lib.ListN.{length, drop}
use lib.Seq.{drop-nil, drop-append-add}
use borrow.Author.Tests.{leb-true, le-leb, lt-leb}
use Rattle.book.specs.Limits.{least_judged}
use Rattle.book.specs.Version.{no_class}
use Rattle.book.proofs.Versions.{no_class_tolerance}
use Rattle.network.specs.Walk.{Pass, way_length}
use Rattle.loops.specs.Loops.{Loop}
use Rattle.loops.specs.Row.{misclosure, total, judged_as, judged_length, allowed_by, line_allows, allowances, within, verdict}
use Rattle.loops.specs.Row.{row_words, row, rows}

-- ---- the allowable

-- a common factor of a sum
total_times : {A : Type 0} (k : ℕ) (f : A → ℕ) (xs : List A) → total (map (λ x. k * f x) xs) ≡ k * total (map f xs)
unfolding total
total_times k f [] = sym (mul-zero k)
total_times k f (x ∷ xs) = ap (λ (n : ℕ). k * f x + n) (total_times k f xs) ∙ sym (mul-add k (f x) (total (map f xs)))

-- no line of the loop has a class: every loop of a version 1 book
abbrev pub Unclassed : Loop → Type 0
Unclassed lp = (p : Pass) → Memᴰ p lp → p.line.class ≡ no_class

-- then the lines' allowances are those at the one tolerance t
single_tolerance : (t : ℕ) (lp : Loop) → Unclassed lp → allowances t lp ≡ map (λ p. allowed_by t p.line.length) lp
unfolding allowances line_allows
single_tolerance t [] none = refl
single_tolerance t (p ∷ ps) none =
    ap₂ (λ (x : ℕ) (rest : List ℕ). allowed_by x p.line.length ∷ rest)
    (no_class_tolerance t p.line.class (none p (Memᴰ.head refl)))
    (single_tolerance t ps (λ q i. none q (Memᴰ.tail i)))

-- which sum to t*t times the verdict's length
allowances_sum : (t : ℕ) (lp : Loop) → Unclassed lp → total (allowances t lp) ≡ t * t * judged_length lp
unfolding judged_length
allowances_sum t lp none =
    ap total (single_tolerance t lp none) ∙ total_times (t * t) (λ (p : Pass). judged_as p.line.length) lp

-- so that they allow 10*t*t*L, L being the verdict's length
pub allowable : (t : ℕ) (lp : Loop) → Unclassed lp → 10 * total (allowances t lp) ≡ 10 * t * t * judged_length lp
allowable t lp none =
    ap (λ (n : ℕ). 10 * n) (allowances_sum t lp none) ∙ sym (mul_assoc 10 (t * t) (judged_length lp))
    ∙ ap (λ (n : ℕ). n * judged_length lp) (sym (mul_assoc 10 t t))

-- the verdict's length is the row's or more
pub judged_at_least : (lp : Loop) → way_length lp ≤ judged_length lp
unfolding way_length judged_length total
judged_at_least [] = omega arith
judged_at_least (p ∷ ps) = omega (arith, judged_at_least ps)

-- and is the row's where no line is shorter than 250
pub judged_as_entered : (lp : Loop) → ((p : Pass) → Memᴰ p lp → least_judged ≤ p.line.length) → judged_length lp ≡ way_length lp
unfolding way_length judged_length total
judged_as_entered [] long = refl
judged_as_entered (p ∷ ps) long =
    omega (arith, long p (Memᴰ.head refl), judged_as_entered ps (λ q i. long q (Memᴰ.tail i)))

-- ---- the verdict

verdict_of : (s : Bool) → cond s (pos 0) (pos 1) ≡ pos 0 → s ≡ true
verdict_of true h = refl
verdict_of false h = let e : ◌≡◌ {A = ℕ} 0 1 = cc in absurd (omega arith)

module _ (t : ℕ) (lp : Loop) where
  abbrev square : ℕ
  square = nat_abs (misclosure lp) * nat_abs (misclosure lp)

  abbrev allowed : ℕ
  allowed = 10 * total (allowances t lp)

  -- "within exactly if m*m is at most 10 times the sum over its lines"
  pub within_exactly_if : (verdict t lp ≡ pos 0) ↔ (square ≤ allowed)
  unfolding verdict within
  within_exactly_if = (λ h. leb-true square allowed (verdict_of (leb square allowed) h), λ h. rw (le-leb square allowed h))

  -- else it is over
  pub over_else : allowed < square → verdict t lp ≡ pos 1
  unfolding verdict within
  over_else h = rw (lt-leb square allowed h)

-- ---- "A report row is five numbers"

-- one row
pub row_length : (t : ℕ) (lp : Loop) → length (row t lp) ≡ row_words
unfolding row
row_length t lp = refl

-- the report is a row to a loop
pub rows_length : (t : ℕ) (ls : List Loop) → length (rows t ls) ≡ row_words * length ls
unfolding rows row
rows_length t [] = refl
rows_length t (l ∷ ls) = omega (arith, rows_length t ls)

-- the rows from the i-th on are the rows of the loops from the i-th on
pub rows_from : (t : ℕ) (ls : List Loop) (i : ℕ) → drop (row_words * i) (rows t ls) ≡ rows t (drop i ls)
unfolding rows row
rows_from t ls zero = refl
rows_from t [] (suc i) = drop-nil (row_words * suc i)
rows_from t (l ∷ ls) (suc i) =
    let further : row_words * suc i ≡ row_words + row_words * i = omega arith in
    ap (λ (n : ℕ). drop n (row t l ++ rows t ls)) further ∙ drop-append-add (row t l) (rows t ls) (row_words * i) ∙ rows_from t ls i
