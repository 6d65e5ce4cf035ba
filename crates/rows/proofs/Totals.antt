-- Sums over a run, from its first line to its last, and what comes of them. Assumes nothing.
use Prim.Native.Nat.{ℕ, suc, ◌+◌, ◌*◌, ◌%◌, ◌≤◌, ◌<◌}
use native.Mathlib.Omega.{arith}
use native.Mathlib.Numerals.{add-one}
use native.Mathlib.Nat.{mul-le-mul}
use mathlib.Core.Path.{◌≡◌, refl, sym, ◌∙◌, ap, subst}
use Rattle.std.specs.List.{sum_by}
use Rattle.std.proofs.lemmas.List.Sums.{sum_by-cons}
use Rattle.std.proofs.lemmas.List.{get_or_read}
use mathlib.Core.List.{List, [], ◌∷◌}
use lib.Dec.{eqb}
use lib.IntN.{ℤ, pos, nat_abs, neg_ℤ, ◌+ℤ◌, +ℤ_assoc, +ℤ_idr}
use lib.ListN.{length, get_or, drop, set, drop_of_length-le}
use lib.Seq.{drop-cons}
use borrow.Author.Tests.{le-leb, lt-leb}
use Rattle.laws.proofs.Tests.{cond_ind}
use Rattle.laws.proofs.Size.{size_neg}
use Rattle.laws.proofs.Lists.{filled}
use Rattle.book.specs.Limits.{most_lines, most_difference, most_length, most_tolerance}
use Rattle.book.specs.Line.{line_count, difference_at, class_at}
use Rattle.book.proofs.Versions.{tolerance_at_most}
use Rattle.loops.specs.Row.{judged_as, row_words, row_closing, row_count, row_length, row_misclosure, row_verdict}
use Rattle.rows.specs.Sums.{line_of, length_by, tolerance_by, allows_by, rise_by, sum_of, rise_of, verdict_of}
use Rattle.rows.specs.Sums.{most_allowed, square_limit, Measured, Runs, LinesIn, RunIn}

-- ---- a sum over a run of what each line has

-- the list's own sum is that of the definition
pub sum_same : (by : ℕ → ℕ) (run : List ℕ) → sum_of by run ≡ sum_by by run
unfolding sum_of
sum_same by [] = refl
sum_same by (code ∷ run) = ap (λ (n : ℕ). by code + n) (sum_same by run) ∙ sym (sum_by-cons by code run)

-- each at most so much
sum_at_most : (by : ℕ → ℕ) (most : ℕ) (run : List ℕ) → ((j : ℕ) → j < length run → by (get_or run j 0) ≤ most)
    → sum_by by run ≤ length run * most
sum_at_most by most [] h = omega arith
sum_at_most by most (code ∷ run) h =
    omega (arith, sum_by-cons by code run, h 0 (omega arith), sum_at_most by most run (λ j lt. h (suc j) (omega arith)))

-- the run from place j on begins with what stands at j
rest_of : (run : List ℕ) (j : ℕ) → j < length run → drop j run ≡ get_or run j 0 ∷ drop (j + 1) run
rest_of run j lt = rw (add-one j) (drop-cons run j 0 lt)

-- the same from the run's first line on, each at most so much
pub record Summed (by : ℕ → ℕ) (most : ℕ) (run : List ℕ) (j sum : ℕ) : Type 0 where
  pub inside : j ≤ length run
  -- what is summed and what is left make up the whole
  pub whole : sum + sum_of by (drop j run) ≡ sum_of by run
  pub small : sum ≤ j * most

module _ {by : ℕ → ℕ} {most : ℕ} {run : List ℕ} where
  pub none_summed : Summed by most run 0 0
  none_summed = record { inside = omega arith; whole = omega arith; small = omega arith }

  pub one_summed : {j sum : ℕ} → j < length run → by (get_or run j 0) ≤ most → Summed by most run j sum
      → Summed by most run (j + 1) (sum + by (get_or run j 0))
  unfolding sum_of
  one_summed {j} {sum} lt size s =
      record { inside = omega arith; whole = omega (arith, s.whole, ap (sum_of by) (rest_of run j lt)); small = omega (arith, s.small) }

  pub all_summed : {j sum : ℕ} → length run ≤ j → Summed by most run j sum → (sum ≡ sum_of by run) × (sum ≤ length run * most)
  unfolding sum_of
  all_summed {j} {sum} ge s =
      let e : j ≡ length run = omega (arith, s.inside) in
      (omega (arith, s.whole, ap (sum_of by) (drop_of_length-le run ge)), subst (λ (n : ℕ). sum ≤ n * most) e s.small)

-- ---- the rise of a run

module _ (ls : List ℤ) (run : List ℕ) where
  pub rise_next : (j : ℕ) (sum : ℤ) → j < length run → sum +ℤ rise_of ls (drop j run) ≡ rise_of ls run
      → (sum +ℤ rise_by ls (get_or run j 0)) +ℤ rise_of ls (drop (j + 1) run) ≡ rise_of ls run
  unfolding rise_of
  rise_next j sum lt h =
      +ℤ_assoc sum (rise_by ls (get_or run j 0)) (rise_of ls (drop (j + 1) run))
      ∙ ap (λ (z : ℤ). sum +ℤ z) (sym (ap (rise_of ls) (rest_of run j lt))) ∙ h

  pub rise_end : (j : ℕ) (sum : ℤ) → length run ≤ j → sum +ℤ rise_of ls (drop j run) ≡ rise_of ls run → sum ≡ rise_of ls run
  unfolding rise_of
  rise_end j sum ge h = sym (+ℤ_idr sum) ∙ ap (λ (z : ℤ). sum +ℤ z) (sym (ap (rise_of ls) (drop_of_length-le run ge))) ∙ h

-- ---- one line

-- the line that a code runs is in the book
pub line_there : {ls : List ℤ} {code : ℕ} → Runs ls code → line_of code < line_count ls
line_there r = omega (arith, r.low, r.high)

pub length_size : (ls : List ℤ) (code : ℕ) → Measured ls → Runs ls code → length_by ls code ≤ most_length
unfolding length_by
length_size ls code m r = (m.lengths (line_of code) (line_there r)).high

pub tolerance_size : (t : ℕ) (ls : List ℤ) (code : ℕ) → t ≤ most_tolerance → Measured ls → Runs ls code
    → tolerance_by t ls code ≤ most_tolerance
unfolding tolerance_by
tolerance_size t ls code ht m r = tolerance_at_most t (class_at ls (line_of code)) ht (m.classes (line_of code) (line_there r))

pub allows_size : (t : ℕ) (ls : List ℤ) (code : ℕ) → t ≤ most_tolerance → Measured ls → Runs ls code → allows_by t ls code ≤ most_allowed
unfolding allows_by
allows_size t ls code ht m r =
    let longest : judged_as (length_by ls code) ≤ most_length = omega (arith, length_size ls code m r) in
    let wide = tolerance_size t ls code ht m r in
    mul-le-mul (mul-le-mul wide wide) longest

-- what stands at a place of a run runs a line
pub run_there : {ls : List ℤ} {run : List ℕ} → LinesIn ls run → (j code : ℕ) → j < length run → code ≡ get_or run j code → Runs ls code
run_there {ls} {run} r j code lt e = rw (get_or_read run j code lt e 0) (r.each j lt)

-- what the lines of a run have, and allow, together
module _ (ls : List ℤ) (run : List ℕ) (m : Measured ls) (r : LinesIn ls run) where
  pub lengths_size : sum_by (length_by ls) run ≤ most_lines * most_length
  lengths_size =
      omega (arith, r.few, sum_at_most (length_by ls) most_length run (λ j lt. length_size ls (get_or run j 0) m (r.each j lt)))

  pub allowed_size : (t : ℕ) → t ≤ most_tolerance → sum_by (allows_by t ls) run ≤ most_lines * most_allowed
  allowed_size t ht =
      omega (arith, r.few, sum_at_most (allows_by t ls) most_allowed run (λ j lt. allows_size t ls (get_or run j 0) ht m (r.each j lt)))

pub rise_size : (ls : List ℤ) (code : ℕ) → Measured ls → Runs ls code → nat_abs (rise_by ls code) ≤ most_difference
unfolding rise_by
rise_size ls code m r =
    let d = difference_at ls (line_of code) in
    let h = m.differences (line_of code) (line_there r) in
    cond_ind (λ (z : ℤ). nat_abs z ≤ most_difference) (eqb (code % 2) 0) d (neg_ℤ d) (λ e. h) (λ e. rw size_neg h)

-- ---- the verdict

module _ (allowed : ℕ) (m : ℤ) (size : ℕ) (e : size ≡ nat_abs m) where
  pub verdict_big : allowed ≤ most_lines * most_allowed → square_limit ≤ size → verdict_of allowed m ≡ pos 1
  unfolding verdict_of
  verdict_big few h =
      let q : square_limit * square_limit ≤ size * size = mul-le-mul h h in
      rw (← e, lt-leb (size * size) (10 * allowed) (omega arith))

  pub verdict_within : size * size ≤ 10 * allowed → verdict_of allowed m ≡ pos 0
  unfolding verdict_of
  verdict_within h = rw (← e, le-leb (size * size) (10 * allowed) h)

  pub verdict_over : 10 * allowed < size * size → verdict_of allowed m ≡ pos 1
  unfolding verdict_of
  verdict_over h = rw (← e, lt-leb (size * size) (10 * allowed) h)

-- ---- the numbers of a row, stored

pub row_stored : (out : List ℤ) {a b c d e a' b' c' d' e' : ℤ} → length out ≡ row_words → a ≡ a' → b ≡ b' → c ≡ c' → d ≡ d' → e ≡ e'
    → set (set (set (set (set out row_closing a) row_count b) row_length c) row_misclosure d) row_verdict e ≡ a' ∷ b' ∷ c' ∷ d' ∷ e' ∷ []
row_stored out {a} {b} {c} {d} {e} h p q r s t = filled (a ∷ b ∷ c ∷ d ∷ e ∷ []) out h ∙ rw (p, q, r, s, t)

-- a loop's run is a run of lines
pub loop_lines : {ls : List ℤ} {run : List ℕ} → RunIn ls run → LinesIn ls run
loop_lines r = record { few = omega (arith, r.few); each = r.each }
