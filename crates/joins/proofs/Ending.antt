-- Steps are taken until none is left. Assumes nothing.
use Prim.Native.Nat.{ℕ, ◌-◌, ◌≤◌, ◌<◌}
use native.Mathlib.Omega.{arith}
use mathlib.Core.Path.{◌≡◌, refl, sym, ◌∙◌, ap, subst}
use mathlib.Core.Logic.{◌⊎◌, inl, inr}
use mathlib.Core.List.{List}
use lib.ListN.{length}
use Rattle.book.specs.Limits.{most_lines}
use Rattle.network.specs.Standing.{Line}
use Rattle.links.specs.Sketch.{Sketch, step, steps}
use Rattle.links.specs.Steps.{NoneLeft}
use Rattle.links.specs.Stage.{Stage}
use Rattle.links.proofs.OneStep.{Next, step_is, none_made}
use Rattle.links.proofs.OneSketch.{one_less, stays}
use Rattle.links.proofs.Stages.{stage_step}
use Rattle.joins.specs.Step.{Tabled, Room, StageIn, Stepped, StepsTaken}
use Rattle.joins.specs.declared.Counts.{Counts}
use Rattle.joins.proofs.Taking.{rows_enough}

-- the sketch has come from s₀ to where it is now, and the steps from here end where those from there do
pub record Going (b : ℕ) (lines : List Line) (s₀ : Sketch) (rows runs : List ℕ) (c : Counts) : Type 0 where
  pub sketch : Sketch
  pub stage : Stage b lines sketch
  pub tabled : Tabled sketch rows runs c
  pub leads : steps b (length sketch.links) sketch ≡ steps b (length s₀.links) s₀

pub record AllGoing (b : ℕ) (rows₀ runs₀ : List ℕ) (c₀ : Counts) (rows runs : List ℕ) (c : Counts) : Type 0 where
  pub of : (lines : List Line) (s₀ : Sketch) → Stage b lines s₀ → Tabled s₀ rows₀ runs₀ c₀ → Going b lines s₀ rows runs c

pub going_start : (b : ℕ) (rows runs : List ℕ) (c : Counts) → AllGoing b rows runs c rows runs c
going_start b rows runs c = record { of = λ lines s st t. record { sketch = s; stage = st; tabled = t; leads = refl } }

-- as many marks, by another count
pub stage_same : {n n' : ℕ} {rows runs : List ℕ} {c : Counts} → n ≡ n' → StageIn (n' - 1) rows runs c → StageIn (n - 1) rows runs c
stage_same {rows = rows} {runs = runs} {c = c} e = subst (λ (k : ℕ). StageIn (k - 1) rows runs c) (sym e)

pub stepped_same : {n n' : ℕ} → n ≡ n' → (c : Counts) (rows runs rows' runs' : List ℕ) (c' : Counts)
    → Stepped (n - 1) c rows runs rows' runs' c' → Stepped (n' - 1) c rows runs rows' runs' c'
stepped_same e c rows runs rows' runs' c' = subst (λ (k : ℕ). Stepped (k - 1) c rows runs rows' runs' c') e

-- room for what is in the tables
pub room_of : {s : Sketch} {rows runs : List ℕ} {c : Counts} → Tabled s rows runs c → length rows ≤ most_lines → Room rows c
room_of t few = record { few = few; enough = rows_enough t }

module _ {b : ℕ} {rows₀ runs₀ : List ℕ} {c₀ : Counts} {rows runs : List ℕ} {c : Counts} (g : AllGoing b rows₀ runs₀ c₀ rows runs c) where
  pub stage_in : StageIn b rows₀ runs₀ c₀ → StageIn b rows runs c
  stage_in e = let x = g.of e.lines e.sketch e.stage e.tabled in
      record { lines = e.lines; sketch = x.sketch; stage = x.stage; tabled = x.tabled }

module _ {b : ℕ} {rows₀ runs₀ : List ℕ} {c₀ : Counts} {rows runs : List ℕ} {c : Counts} (g : AllGoing b rows₀ runs₀ c₀ rows runs c)
    (rows' runs' : List ℕ) (c' : Counts) (f : Stepped b c rows runs rows' runs' c') where
  -- a step was made
  pub going_next : c'.links < c.links → AllGoing b rows₀ runs₀ c₀ rows' runs' c'
  unfolding steps
  going_next d = record { of = λ lines s₀ st t. one lines s₀ (g.of lines s₀ st t) }
    where
      one : (lines : List Line) (s₀ : Sketch) → Going b lines s₀ rows runs c → Going b lines s₀ rows' runs' c'
      one lines s₀ x = go (step_is b x.sketch x.stage.rises)
        where
          u : Tabled (step b x.sketch) rows' runs' c'
          u = f lines x.sketch x.stage x.tabled

          one_more : Next b x.sketch (step b x.sketch)
              → steps b (length (step b x.sketch).links) (step b x.sketch) ≡ steps b (length x.sketch.links) x.sketch
          one_more n = ap (λ (k : ℕ). steps b k x.sketch) (one_less n)

          go : Next b x.sketch (step b x.sketch) ⊎ NoneLeft b x.sketch → Going b lines s₀ rows' runs' c'
          go (inl n) = record {
            sketch = step b x.sketch;
            stage = stage_step x.stage;
            tabled = u;
            leads = one_more n ∙ x.leads;
          }
          go (inr none) =
              absurd (omega (arith, x.tabled.links_are, u.links_are, ap (λ (z : Sketch). length z.links) (none_made b x.sketch none)))

  -- none was
  pub going_end : c.links ≡ c'.links → StepsTaken b c₀ rows₀ runs₀ rows' runs' c'
  going_end e lines s₀ st t = one (g.of lines s₀ st t)
    where
      one : Going b lines s₀ rows runs c → Tabled (steps b (length s₀.links) s₀) rows' runs' c'
      one x = go (step_is b x.sketch x.stage.rises)
        where
          u : Tabled (step b x.sketch) rows' runs' c'
          u = f lines x.sketch x.stage x.tabled

          go : Next b x.sketch (step b x.sketch) ⊎ NoneLeft b x.sketch → Tabled (steps b (length s₀.links) s₀) rows' runs' c'
          go (inl n) = absurd (omega (arith, one_less n, x.tabled.links_are, u.links_are))
          go (inr none) =
              subst (λ (z : Sketch). Tabled z rows' runs' c')
              (none_made b x.sketch none ∙ sym (stays b (length x.sketch.links) x.sketch none) ∙ x.leads) u
