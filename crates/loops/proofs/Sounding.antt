-- The standing lines of a tested book are sound, which is what the theorems on tree, paths and loops ask for, and within the limits; and
-- there are few loops.
-- Assumes nothing.
use native.Mathlib.Omega.{arith}
use mathlib.Core.Path.{◌≡◌, sym, ◌∙◌, ap, subst}
use mathlib.Core.List.{List, Memᴰ}
use Prim.Native.Nat.{ℕ, ◌*◌, ◌≤◌}
use lib.IntN.{ℤ, pos, nat_abs}
use lib.ListN.{length}
use Rattle.laws.specs.Range.{Between}
use Rattle.book.specs.Limits.{most_lines, most_difference, most_length}
use Rattle.book.specs.Lent.{Lent}
use Rattle.book.specs.Good.{GoodLine, GoodBook, GoodLines}
use Rattle.book.specs.declared.Book.{Book}
use Rattle.book.proofs.Goods.{good_lines}
use Rattle.network.specs.Standing.{Line, standing}
use Rattle.network.specs.Sound.{Sound}
use Rattle.network.specs.Field.{HasLine}
use Rattle.network.proofs.Standing.{of_standing, few_standing}
use Rattle.network.proofs.Corrected.{standing_sound}
use Rattle.network.proofs.Entries.{tree_lines_count}
use Rattle.loops.proofs.EachLoop.{loops_are_counted}
use Rattle.loops.proofs.Row.{rows_length}
use Rattle.loops.specs.Row.{row_words}
use Rattle.loops.specs.Report.{loops_of, report_of}

-- two whole numbers that are natural are equal where their sizes are
natural : {lo hi : ℕ} {x y : ℤ} → Between lo hi x → Between lo hi y → nat_abs x ≡ nat_abs y → x ≡ y
natural f t e = f.is ∙ ap pos e ∙ sym t.is

-- the numbers of a line that the table limits
pub record LineLimits (l : Line) : Type 0 where
  pub number : l.number ≤ most_lines
  pub difference : nat_abs l.difference ≤ most_difference
  pub length : l.length ≤ most_length

module _ (k : Book) (lines : List ℤ) (good : GoodLines k lines) where
  there : (i : ℕ) → HasLine lines i → GoodLine k.marks lines i
  there i h = good.good.each i (omega (arith, h, good.good.whole))

  pub lines_sound : Sound k.marks (standing lines)
  lines_sound = standing_sound k.marks lines (λ i h. let g = there i h in (
    record { from_low = g.from.low; from_high = g.from.high; to_low = g.to.low; to_high = g.to.high },
    λ e. g.apart (natural g.from g.to e),
    g.long.low,
  ))

  pub line_limits : (l : Line) → Memᴰ l (standing lines) → LineLimits l
  line_limits l m =
      let w = of_standing lines l m in
      let g = there w.0 w.1.is_there in
      subst LineLimits (sym w.1.its) (record {
        number = omega (arith, w.1.is_there, good.good.whole, good.good.few);
        difference
            = g.difference;
        length = g.long.high;
      })

  -- no more loops than lines
  pub few_loops : length (loops_of k.marks lines) ≤ k.lines
  unfolding loops_of
  few_loops =
      omega (
        arith,
        loops_are_counted k.marks (standing lines) lines_sound,
        tree_lines_count k.marks (standing lines) lines_sound,
        few_standing lines,
        good.good.whole,
      )

  pub report_length : length (report_of k.marks k.tolerance lines) ≡ length (loops_of k.marks lines) * row_words
  unfolding report_of
  report_length = omega (arith, rows_length k.tolerance (loops_of k.marks lines))

-- so are those of a book that passes the test
pub good_sound : (k : Book) (book : Lent) → GoodBook k book → Sound k.marks (standing book.lines)
good_sound k book good = lines_sound k book.lines (good_lines k book good)
