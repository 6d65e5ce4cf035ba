-- Request 03: "The Memorandum takes a section shorter than 0.25 km as 0.25 km in the allowable misclosure." Assumes nothing.
use Prim.Native.Nat.{ℕ, ◌+◌, ◌*◌, ◌/◌, ◌≤◌, ◌<◌}
use native.Mathlib.Omega.{arith}
use native.Mathlib.Nat.{mul-le-mul_left}
use mathlib.Core.Path.{◌≡◌, refl, ◌∙◌, ap}
use mathlib.Core.Logic.{◌↔◌}
use mathlib.Core.Bool.{Bool, true, false}
use mathlib.Core.List.Memᴰ
use mathlib.Core.List.{List, [], ◌∷◌, Memᴰ}
use lib.Dec.{eqb}
use lib.IntN.{ℤ, pos, nat_abs}
use Rattle.book.specs.Lent.{Lent}
use Rattle.book.specs.Test.{test_of}
use Rattle.book.specs.declared.Book.{Book}
use Rattle.book.specs.Test.{Good}
use Rattle.network.specs.Standing.{Line}
use Rattle.network.specs.Walk.{Pass, way_length}
use Rattle.loops.specs.Loops.{Loop, loop_at}
use Rattle.loops.specs.Row.{misclosure, total, judged_as, judged_length, row_length, row_verdict}
use Rattle.loops.specs.Report.{loops_of}
use Rattle.loops.proofs.Row.{Unclassed, allowable, judged_at_least, judged_as_entered}
use Rattle.sights.specs.Sights.{Sight, sight_if, sights_of}
use Rattle.survey.specs.Survey.{survey_of}
use Rattle.demands.specs.TheLoops.{in_row, Within}
use Rattle.demands.proofs.Reported.{each_row_is_of_its_loop}
use Rattle.demands.proofs.Classes.{no_class_in_one, in_book}

-- ---- "the larger of the length and 250"

pub shorter_line_counts_250 : (metres : ℕ) → metres ≤ 250 → judged_as metres ≡ 250
shorter_line_counts_250 metres h = omega arith

pub longer_line_counts_as_entered : (metres : ℕ) → 250 ≤ metres → judged_as metres ≡ metres
longer_line_counts_as_entered metres h = omega arith

-- ---- "the sum over the loop's lines": each line's larger, then the sum

pub summed_over_the_lines : (p : Pass) (lp : Loop) → judged_length (p ∷ lp) ≡ judged_as p.line.length + judged_length lp
unfolding judged_length total
summed_over_the_lines p lp = refl

pub of_no_line : judged_length [] ≡ 0
unfolding judged_length total
of_no_line = refl

-- ---- a loop whose lines have no class is within by that length

module _ (t : ℕ) (lp : Loop) (unclassed : Unclassed lp) where
  abbrev square : ℕ
  square = nat_abs (misclosure lp) * nat_abs (misclosure lp)

  pub within_by_judged_length : Within t lp ↔ (square ≤ 10 * t * t * judged_length lp)
  within_by_judged_length = rw (allowable t lp unclassed) (λ h. h, λ h. h)

  -- no loop that was within is judged harder
  pub within_as_entered_is_within : square ≤ 10 * t * t * way_length lp → Within t lp
  within_as_entered_is_within h =
      within_by_judged_length.1 (omega (arith, mul-le-mul_left (10 * t * t) (judged_at_least lp)))

  -- and a loop without a line shorter than 250 is judged by its length as entered
  pub no_short_line_judged_as_before : ((p : Pass) → Memᴰ p lp → 250 ≤ p.line.length)
      → Within t lp ↔ (square ≤ 10 * t * t * way_length lp)
  no_short_line_judged_as_before long = rw (← judged_as_entered lp long) within_by_judged_length

-- ---- the report of a survey that is done

module _ (book : Lent) (k : Book) (passes : test_of book ≡ Good k) (out : List ℤ) (done : (survey_of book out).answer.refusal.number ≡ 0)
    (i : ℕ) (there : i < (survey_of book out).answer.rows) where
  abbrev loop : Loop
  loop = loop_at (loops_of k.marks book.lines) i

  -- of a version 1 book
  pub verdict_by_judged_length : k.version ≡ 1 → (in_row row_verdict (survey_of book out).rows i ≡ pos 0)
      ↔ (nat_abs (misclosure loop) * nat_abs (misclosure loop) ≤ 10 * k.tolerance * k.tolerance * judged_length loop)
  verdict_by_judged_length one =
      let w = (each_row_is_of_its_loop book k passes out done i there).0.within in
      let no_class = no_class_in_one book k passes one loop (in_book book k passes out done i there) in
      let j = within_by_judged_length k.tolerance loop no_class in
      (λ e. j.0 (w.0 e), λ h. w.1 (j.1 h))

  -- "The row's length .. keep the length as entered."
  pub row_length_as_entered : in_row row_length (survey_of book out).rows i ≡ pos (way_length loop)
  row_length_as_entered = (each_row_is_of_its_loop book k passes out done i there).0.its_length

-- ---- "the weights keep the length as entered"

-- what is seen at a mark is a line, with 1,000,000 divided by its length
pub record Weighed (lines : List Line) (s : Sight) : Type 0 where
  pub line : Line
  pub there : Memᴰ line lines
  pub its_weight : s.weight ≡ 1000000 / line.length

weigh_first : (seen : Bool) (x s : Sight) (l : Line) (ls : List Line) (rest : List Sight) → x.weight ≡ 1000000 / l.length
    → (Memᴰ s rest → Weighed (l ∷ ls) s) → Memᴰ s (sight_if seen x rest) → Weighed (l ∷ ls) s
weigh_first true x s l ls rest w later (Memᴰ.head e) =
    record { line = l; there = Memᴰ.head refl; its_weight = ap (λ (y : Sight). y.weight) e ∙ w }
weigh_first true x s l ls rest w later (Memᴰ.tail m) = later m
weigh_first false x s l ls rest w later m = later m

weigh_later : (s : Sight) (l : Line) (ls : List Line) → Weighed ls s → Weighed (l ∷ ls) s
weigh_later s l ls w = record { line = w.line; there = Memᴰ.tail w.there; its_weight = w.its_weight }

pub weight_as_entered : (lines : List Line) (m : ℕ) (s : Sight) → Memᴰ s (sights_of lines m) → Weighed lines s
unfolding sights_of
weight_as_entered [] m s i = absurd (Memᴰ.not-nil i)
weight_as_entered (l ∷ ls) m s i =
    weigh_first (eqb l.to m) _ s l ls _ refl (weigh_first (eqb l.from m) _ s l ls _ refl
    (λ j. weigh_later s l ls (weight_as_entered ls m s j))) i
