-- From the own links by the steps to the sketch. Assumes nothing.
use Prim.Native.Nat.{ℕ, ◌+◌, ◌-◌, ◌≤◌, ◌<◌}
use native.Mathlib.Omega.{arith}
use lib.Seq.{length-take-le}
use mathlib.Core.Path.{◌≡◌, sym, ap₂, subst}
use mathlib.Core.List.{List}
use lib.IntN.{ℤ}
use lib.ListN.{length, take, length-map}
use Rattle.book.specs.Limits.{most_marks, most_lines}
use Rattle.book.specs.Good.{GoodLines}
use Rattle.book.specs.declared.Book.{Book}
use Rattle.network.specs.Standing.{standing}
use Rattle.loops.proofs.Sounding.{lines_sound}
use Rattle.links.specs.Link.{own_link}
use Rattle.links.specs.Sketch.{Sketch, sketch_of, start_of, steps, finished}
use Rattle.links.specs.Stage.{Stage}
use Rattle.links.proofs.Stages.{stage_start}
use Rattle.joins.specs.Step.{Tabled, Room, StageIn, StepsTaken, SketchIn, Finished}
use Rattle.joins.specs.declared.Counts.{Counts}
use Rattle.joins.proofs.Taking.{rows_enough}

-- the places lent for the ends of the marks: one more than there are marks
pub ends_for : (k : Book) (lines : List ℤ) → GoodLines k lines → (ends : List ℕ) → most_marks < length ends
    → length (take (k.marks + 1) ends) - 1 ≡ k.marks
ends_for k lines g ends h =
    omega (arith, length-take-le (k.marks + 1) ends (omega (arith, g.few_marks)))

module _ (k : Book) (lines : List ℤ) (g : GoodLines k lines) {rows runs : List ℕ} {c : Counts}
    (t : Tabled (start_of (standing lines)) rows runs c) where
  stage : Stage k.marks (standing lines) (start_of (standing lines))
  stage = stage_start (lines_sound k lines g)

  stage_at : (n : ℕ) → n ≡ k.marks → Stage n (standing lines) (start_of (standing lines))
  stage_at n e = subst (λ (b : ℕ). Stage b (standing lines) (start_of (standing lines))) (sym e) stage

  pub start_in : (n : ℕ) → n ≡ k.marks → StageIn n rows runs c
  start_in n e = record {
    lines = standing lines;
    sketch = start_of (standing lines);
    stage = stage_at n e;
    tabled = t;
  }

  -- the steps, and each link from its lower junction
  module _ (n : ℕ) (e : n ≡ k.marks) (rows₁ runs₁ : List ℕ) (c₁ : Counts) (taken : StepsTaken n c rows runs rows₁ runs₁ c₁) where
    left : Sketch
    left = steps n (length (start_of (standing lines)).links) (start_of (standing lines))

    tabled_left : Tabled left rows₁ runs₁ c₁
    unfolding left
    tabled_left = taken (standing lines) (start_of (standing lines)) (stage_at n e) t

    pub left_in : SketchIn rows₁ runs₁ c₁
    left_in = record { sketch = left; tabled = tabled_left }

    pub left_enough : length rows₁ ≤ most_lines → Room rows₁ c₁
    left_enough few = record { few = few; enough = rows_enough tabled_left }

    pub sketched : (rows₂ runs₂ : List ℕ) → Finished c₁ rows₁ runs₁ rows₂ runs₂
        → Tabled (sketch_of k.marks (standing lines)) rows₂ runs₂ c₁
    unfolding sketch_of start_of left
    sketched rows₂ runs₂ f =
        subst (λ (s : Sketch). Tabled (finished s) rows₂ runs₂ c₁)
        (ap₂ (λ (b m : ℕ). steps b m (start_of (standing lines))) e (length-map (standing lines) own_link)) (f left tabled_left)
