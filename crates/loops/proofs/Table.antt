-- What can be read off a table of loops. Assumes nothing.
use Prim.Native.Nat.{ℕ, zero, suc, ◌+◌, ◌-◌, ◌≤◌, ◌<◌}
use native.Mathlib.Omega.{arith}
use native.Mathlib.Numerals.{add-one}
use mathlib.Core.Path.{◌≡◌, refl, sym, ◌∙◌, ap, ap₂}
use mathlib.Core.List.{List, [], ◌∷◌, ◌++◌, map, append_assoc, append-nil}
use lib.IntN.{ℤ}
use lib.ListN.{length, get_or, take, drop, length-append, length-map}
use lib.Seq.{take-suc, split_at, take_at, drop_at, take_all}
use Rattle.network.specs.Standing.{Line}
use Rattle.network.specs.Redone.{Measure, measured_pass}
use Rattle.network.specs.Walk.{Pass}
use Rattle.network.specs.Codes.{code_of, codes}
use Rattle.loops.specs.Loops.{Loop, loop_at}
use Rattle.loops.specs.Table.{runs_of, Table}
use Rattle.loops.proofs.Places.{loop_is}

-- ---- codes and runs

pub codes_length : (ps : List Pass) → length (codes ps) ≡ length ps
unfolding codes
codes_length [] = refl
codes_length (p ∷ ps) = ap suc (codes_length ps)

pub runs_append : (xs ys : List Loop) → runs_of (xs ++ ys) ≡ runs_of xs ++ runs_of ys
unfolding runs_of
runs_append [] ys = refl
runs_append (lp ∷ xs) ys = ap (λ (r : List ℕ). codes lp ++ r) (runs_append xs ys) ∙ sym (append_assoc (codes lp) (runs_of xs) (runs_of ys))

-- one loop more
pub runs_more : (done : List Loop) (lp : Loop) → runs_of (done ++ (lp ∷ [])) ≡ runs_of done ++ codes lp
unfolding runs_of
runs_more done lp = runs_append done (lp ∷ []) ∙ ap (λ (r : List ℕ). runs_of done ++ r) (append-nil (codes lp))

-- ---- a loop by its place

module _ {ls : List Loop} {starts runs : List ℕ} {count : ℕ} (t : Table ls starts runs count) where
  -- the runs of all loops
  pub runs_fit : length (runs_of ls) ≤ length runs
  runs_fit = omega (arith, ap length t.held, length-append (runs_of ls) (drop (length (runs_of ls)) runs))

  pub all_runs : take (length (runs_of ls)) runs ≡ runs_of ls
  all_runs = ap (take (length (runs_of ls))) t.held ∙ take_at (runs_of ls) (drop (length (runs_of ls)) runs) (length (runs_of ls)) refl

  pub last_end : get_or starts count 0 ≡ length (runs_of ls)
  last_end =
      rw t.counted (t.begins (length ls) (omega arith) ∙ ap (λ (l : List Loop). length (runs_of l))
      (take_all (length ls) ls (omega arith)))

  module _ (i : ℕ) (lt : i < length ls) where
    abbrev before : List Loop
    before = take i ls

    abbrev lp : Loop
    lp = loop_at ls i

    abbrev after : List ℕ
    after = runs_of (drop (suc i) ls) ++ drop (length (runs_of ls)) runs

    begin : get_or starts i 0 ≡ length (runs_of before)
    begin = t.begins i (omega arith)

    end : get_or starts (i + 1) 0 ≡ length (runs_of before) + length (codes lp)
    end =
        t.begins (i + 1) (omega arith)
        ∙ ap (λ (l : List Loop). length (runs_of l)) (rw (add-one i)
        (take-suc ls i [] lt ∙ ap (λ (x : Loop). before ++ (x ∷ [])) (sym (loop_is ls i lt))))
        ∙ ap length (runs_more before lp) ∙ length-append (runs_of before) (codes lp)

    -- before the loop's run, the run, and what is after it
    split : runs ≡ runs_of before ++ (codes lp ++ after)
    unfolding runs_of
    split =
        t.held
        ∙ ap (λ (l : List Loop). runs_of l ++ drop (length (runs_of ls)) runs)
        (split_at ls i [] lt ∙ ap (λ (x : Loop). before ++ x ∷ drop (suc i) ls) (sym (loop_is ls i lt)))
        ∙ ap (λ (r : List ℕ). r ++ drop (length (runs_of ls)) runs) (runs_append before (lp ∷ drop (suc i) ls))
        ∙ append_assoc (runs_of before) (codes lp ++ runs_of (drop (suc i) ls)) (drop (length (runs_of ls)) runs)
        ∙ ap (λ (r : List ℕ). runs_of before ++ r) (append_assoc (codes lp) (runs_of (drop (suc i) ls)) (drop (length (runs_of ls)) runs))

    -- where the run begins and where it ends
    pub run_rises : get_or starts i 0 ≤ get_or starts (i + 1) 0
    run_rises = omega (arith, begin, end)

    pub run_fits : get_or starts (i + 1) 0 ≤ length runs
    run_fits = omega (arith, end, ap length split, length-append (runs_of before) (codes lp ++ after), length-append (codes lp) after)

    pub run_length : get_or starts (i + 1) 0 - get_or starts i 0 ≡ length lp
    run_length = omega (arith, begin, end, codes_length lp)

    -- and the run is the loop's
    pub run_is : take (get_or starts (i + 1) 0 - get_or starts i 0) (drop (get_or starts i 0) runs) ≡ codes lp
    run_is =
        ap₂ take run_length (ap₂ drop begin split ∙ drop_at (runs_of before) (codes lp ++ after) (length (runs_of before)) refl)
        ∙ take_at (codes lp) after (length lp) (codes_length lp)

-- ---- a re-run changes no code

module _ (g : Line → Measure) where
  codes_same : (ps : List Pass) → codes (map (measured_pass g) ps) ≡ codes ps
  unfolding codes
  codes_same [] = refl
  codes_same (p ∷ ps) = ap (λ (r : List ℕ). code_of p.forward p.line.number ∷ r) (codes_same ps)

  runs_same : (ls : List Loop) → runs_of (map (map (measured_pass g)) ls) ≡ runs_of ls
  unfolding runs_of
  runs_same [] = refl
  runs_same (lp ∷ ls) = ap₂ (λ (a b : List ℕ). a ++ b) (codes_same lp) (runs_same ls)

  take_map : (i : ℕ) (ls : List Loop) → take i (map (map (measured_pass g)) ls) ≡ map (map (measured_pass g)) (take i ls)
  take_map zero ls = refl
  take_map (suc i) [] = refl
  take_map (suc i) (l ∷ ls) = ap (λ (r : List Loop). map (measured_pass g) l ∷ r) (take_map i ls)

  -- the table of the loops is that of the loops measured again
  pub table_again : {ls : List Loop} {starts runs : List ℕ} {count : ℕ} → Table ls starts runs count
      → Table (map (map (measured_pass g)) ls) starts runs count
  table_again {ls = ls} t = record {
    counted = rw (length-map ls (map (measured_pass g))) t.counted;
    starts_fit = rw (length-map ls (map (measured_pass g))) t.starts_fit;
    begins = λ i h. t.begins i (rw (length-map ls (map (measured_pass g))) at h)
        ∙ sym (ap length (ap runs_of (take_map i ls) ∙ runs_same (take i ls)));
    held = rw (runs_same ls) t.held;
  }
