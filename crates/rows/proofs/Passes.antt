-- The sums over a loop's run are those of the definition over its passes, and a loop's run is one in its book. Assumes nothing.
use Prim.Native.Nat.{ℕ, zero, suc, ◌+◌, ◌*◌, ◌/◌, ◌%◌, ◌<◌}
use native.Mathlib.Omega.{arith}
use mathlib.Core.Path.{◌≡◌, refl, sym, ◌∙◌, ap, ap₂}
use mathlib.Core.Bool.{Bool, true, false, cond}
use mathlib.Core.List.{List, [], ◌∷◌, map, Memᴰ}
use lib.IntN.{ℤ, nat_abs, neg_ℤ, ◌+ℤ◌}
use lib.ListN.{length, get_or}
use lib.Dec.{eqb}
use borrow.Author.Tests.{eq-eqb, ne_eqb}
use Rattle.book.specs.Good.{GoodLines}
use Rattle.book.specs.Line.{line_count, difference_at, length_at, class_at}
use Rattle.book.specs.Version.{tolerance_of}
use Rattle.book.specs.declared.Book.{Book}
use Rattle.network.specs.Standing.{Line, standing}
use Rattle.network.specs.Codes.{code_of, codes}
use Rattle.network.specs.Walk.{Pass, way_length}
use Rattle.network.proofs.Standing.{of_standing}
use Rattle.loops.specs.Loops.{Loop}
use Rattle.loops.specs.Row.{signed, misclosure, total, line_allows, allowances, within, verdict, closing_number, row}
use Rattle.loops.specs.Report.{loops_of}
use Rattle.loops.proofs.EachLoop.{loop_runs_lines, loop_has_a_line, loop_has_few_lines}
use Rattle.loops.proofs.Sounding.{lines_sound}
use Rattle.loops.proofs.Table.{codes_length}
use Rattle.rows.specs.Sums.{line_of, length_by, tolerance_by, allows_by, rise_by, sum_of, length_of, allows_of, rise_of, verdict_of, row_of}
use Rattle.rows.specs.Sums.{Measured, Runs, RunIn}

-- ---- where a standing line stands

pub record Place (ls : List ℤ) (l : Line) : Type 0 where
  pub i : ℕ
  pub there : i < line_count ls
  pub number : l.number ≡ suc i
  pub difference : difference_at ls i ≡ l.difference
  pub length : nat_abs (length_at ls i) ≡ l.length
  pub class : class_at ls i ≡ l.class

place_of_lem : (ls : List ℤ) (l : Line) → Memᴰ l (standing ls) → Place ls l
place_of_lem ls l m = let w = of_standing ls l m in record {
  i = w.0;
  there = omega (arith, w.1.is_there);
  number = ap (λ (k : Line). k.number) w.1.its;
  difference = sym (ap (λ (k : Line). k.difference) w.1.its);
  length = sym (ap (λ (k : Line). k.length) w.1.its);
  class = sym (ap (λ (k : Line). k.class) w.1.its);
}

-- its code leads there
code_line : (forward : Bool) (n i : ℕ) → n ≡ suc i → line_of (code_of forward n) ≡ i
code_line true n i e = omega arith
code_line false n i e = omega arith

-- ---- the sums

module _ (ls : List ℤ) where
  -- every line that the loop runs stands
  abbrev pub Stand : Loop → Type 0
  Stand lp = (p : Pass) → Memᴰ p lp → Memᴰ p.line (standing ls)

  length_one : (p : Pass) → Memᴰ p.line (standing ls) → length_by ls (code_of p.forward p.line.number) ≡ p.line.length
  unfolding length_by
  length_one p m = let w = place_of_lem ls p.line m in rw (code_line p.forward p.line.number w.i w.number) w.length

  rise_one : (p : Pass) → Memᴰ p.line (standing ls)
      → rise_by ls (code_of p.forward p.line.number) ≡ signed p.forward p.line.difference
  unfolding rise_by
  rise_one p m = go p.forward
    where
      w : Place ls p.line
      w = place_of_lem ls p.line m

      at_line : (forward : Bool) → difference_at ls (line_of (code_of forward p.line.number)) ≡ p.line.difference
      at_line forward = rw (code_line forward p.line.number w.i w.number) w.difference

      go : (forward : Bool)
          → cond (eqb (code_of forward p.line.number % 2) 0) (difference_at ls (line_of (code_of forward p.line.number)))
          (neg_ℤ (difference_at ls (line_of (code_of forward p.line.number)))) ≡ signed forward p.line.difference
      go true = rw (eq-eqb (2 * p.line.number % 2) 0 (omega arith)) (at_line true)
      go false = rw (ne_eqb ((2 * p.line.number + 1) % 2) 0 (λ z. omega arith)) (ap neg_ℤ (at_line false))

  -- a sum over the codes of a loop is the sum over its passes
  sum_is : (by : ℕ → ℕ) (of : Pass → ℕ)
      → ((p : Pass) → Memᴰ p.line (standing ls) → by (code_of p.forward p.line.number) ≡ of p)
      → (lp : Loop) → Stand lp → sum_of by (codes lp) ≡ total (map of lp)
  unfolding sum_of codes total
  sum_is by of one [] f = refl
  sum_is by of one (p ∷ ps) f =
      ap₂ (λ (x y : ℕ). x + y) (one p (f p (Memᴰ.head refl))) (sum_is by of one ps (λ q i. f q (Memᴰ.tail i)))

  lengths_are : (lp : Loop) → total (map (λ (p : Pass). p.line.length) lp) ≡ way_length lp
  unfolding total way_length
  lengths_are [] = refl
  lengths_are (p ∷ ps) = ap (λ (n : ℕ). p.line.length + n) (lengths_are ps)

  pub length_is : (lp : Loop) → Stand lp → length_of ls (codes lp) ≡ way_length lp
  unfolding length_of
  length_is lp f = sum_is (length_by ls) (λ (p : Pass). p.line.length) length_one lp f ∙ lengths_are lp

  tolerance_one : (t : ℕ) (p : Pass) → Memᴰ p.line (standing ls)
      → tolerance_by t ls (code_of p.forward p.line.number) ≡ tolerance_of t p.line.class
  unfolding tolerance_by
  tolerance_one t p m =
      let w = place_of_lem ls p.line m in
      rw (code_line p.forward p.line.number w.i w.number) (ap (tolerance_of t) w.class)

  allows_one : (t : ℕ) (p : Pass) → Memᴰ p.line (standing ls)
      → allows_by t ls (code_of p.forward p.line.number) ≡ line_allows t p.line
  unfolding allows_by line_allows
  allows_one t p m = rw (tolerance_one t p m, length_one p m)

  allows_is : (t : ℕ) (lp : Loop) → Stand lp → allows_of t ls (codes lp) ≡ total (allowances t lp)
  unfolding allows_of allowances
  allows_is t lp f = sum_is (allows_by t ls) (λ (p : Pass). line_allows t p.line) (allows_one t) lp f

  pub rise_is : (lp : Loop) → Stand lp → rise_of ls (codes lp) ≡ misclosure lp
  unfolding rise_of codes misclosure
  rise_is [] f = refl
  rise_is (p ∷ ps) f = ap₂ (λ (x y : ℤ). x +ℤ y) (rise_one p (f p (Memᴰ.head refl))) (rise_is ps (λ q i. f q (Memᴰ.tail i)))

  verdict_is : (t : ℕ) (lp : Loop) → verdict t lp ≡ verdict_of (total (allowances t lp)) (misclosure lp)
  unfolding verdict within verdict_of
  verdict_is t lp = refl

  first_is : (lp : Loop) → get_or (codes lp) 0 0 / 2 ≡ closing_number lp
  unfolding codes
  first_is [] = omega arith
  first_is (p ∷ ps) = go p.forward
    where
      go : (forward : Bool) → code_of forward p.line.number / 2 ≡ p.line.number
      go true = omega arith
      go false = omega arith

  -- the row of a loop's run is the row of the definition
  pub row_is : (t : ℕ) (lp : Loop) → Stand lp → row_of t ls (codes lp) ≡ row t lp
  unfolding row_of row
  row_is t lp f = rw (first_is lp, codes_length lp, length_is lp f, allows_is t lp f, rise_is lp f, verdict_is t lp)

  code_runs : (l : Line) → Memᴰ l (standing ls) → (forward : Bool) → Runs ls (code_of forward l.number)
  code_runs l m true = let w = place_of_lem ls l m in record { low = omega (arith, w.number); high = omega (arith, w.number, w.there) }
  code_runs l m false = let w = place_of_lem ls l m in record { low = omega (arith, w.number); high = omega (arith, w.number, w.there) }

  pub codes_run : (lp : Loop) → Stand lp → (j : ℕ) → j < length lp → Runs ls (get_or (codes lp) j 0)
  unfolding codes
  codes_run [] f j h = absurd (omega arith)
  codes_run (p ∷ ps) f zero h = code_runs p.line (f p (Memᴰ.head refl)) p.forward
  codes_run (p ∷ ps) f (suc j) h = codes_run ps (λ q i. f q (Memᴰ.tail i)) j (omega arith)

-- ---- the loops of a good book

module _ (k : Book) (ls : List ℤ) (good : GoodLines k ls) where
  pub measured : Measured ls
  measured = record {
    few_lines = omega (arith, good.good.whole, good.good.few);
    differences = λ i h. (good.good.each i (omega (arith, good.good.whole))).difference;
    lengths = λ i h. (good.good.each i (omega (arith, good.good.whole))).long;
    classes = λ i h. good.classes i (omega (arith, good.good.whole));
  }

  module _ (lp : Loop) (m : Memᴰ lp (loops_of k.marks ls)) where
    stand : Stand ls lp
    unfolding loops_of
    stand = loop_runs_lines k.marks (standing ls) (lines_sound k ls good) lp m

    pub loop_run : RunIn ls (codes lp)
    unfolding loops_of
    loop_run =
        let sound = lines_sound k ls good in
        record {
          some_line = omega (arith, codes_length lp, loop_has_a_line k.marks (standing ls) sound lp m);
          few = omega (arith, codes_length lp, loop_has_few_lines k.marks (standing ls) sound lp m, good.few_marks);
          each = λ j h. codes_run ls lp stand j (omega (arith, codes_length lp));
        }

    pub loop_row : (t : ℕ) → row_of t ls (codes lp) ≡ row t lp
    loop_row t = row_is ls t lp stand
