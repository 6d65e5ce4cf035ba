-- A book inside every limit passes the test. Assumes nothing.
use mathlib.Core.Path.{◌≡◌, ◌∙◌, ap}
use mathlib.Core.Bool.{false, cond}
use mathlib.Core.List.{List}
use Prim.Native.Nat.{ℕ, ◌%◌}
use native.Mathlib.Omega.{arith}
use lib.Dec.{ltb}
use lib.ListN.{length}
use lib.IntN.{ℤ, pos}
use borrow.Author.Tests.{eq-eqb, le-ltb}
use Rattle.laws.specs.Tests.{out_n, eq_z}
use Rattle.book.specs.Limits.{least_marks, most_marks, least_lines, most_lines, least_held, most_held}
use Rattle.book.specs.Limits.{most_difference, most_held_height}
use Rattle.book.specs.Version.{class_out}
use Rattle.book.specs.Height.{held_height_out}
use Rattle.book.specs.Held.{held_words, held_count, mark_at, height_at, held_out, held_before, held_bad, first_bad_held}
use Rattle.book.specs.Line.{line_words, from_at, to_at, difference_at, length_at, standing_at, class_at, line_at, entry_at, line_count}
use Rattle.book.specs.Line.{difference_out, line_fault, line_of, entry_of, class_fault, fault_at, line_bad, first_bad_line}
use Rattle.book.specs.Lent.{Lent}
use Rattle.book.specs.Test.{book_out, torn, test_of}
use Rattle.book.specs.Good.{GoodLine, GoodHeld, GoodBook}
use Rattle.book.specs.declared.Book.{Book}
use Rattle.book.specs.Test.{Good}
use Rattle.book.specs.Line as made
use Rattle.book.proofs.Places.{count_of_lem}
use Rattle.book.proofs.Lines.{entry_line_lem}
use Rattle.book.proofs.Versions.{version_passes, tolerance_passes, class_passes}
use Rattle.laws.proofs.FirstBad.{none_first, none_any}
use Rattle.laws.proofs.Inside.{inside, between_inside, size_inside, apart_eq_z}

-- a line inside its limits has no fault in its five numbers
five_pass : (b : ℕ) (lines : List ℤ) (i : ℕ) → GoodLine b lines i
    → line_fault (pos b) (from_at lines i) (to_at lines i) (difference_at lines i) (length_at lines i) (standing_at lines i) ≡ 0
unfolding line_fault difference_out
five_pass b lines i g =
    rw (
      between_inside g.from,
      between_inside g.to,
      apart_eq_z (from_at lines i) (to_at lines i) g.apart,
      size_inside
          most_difference (difference_at lines i) g.difference,
      between_inside g.long,
      between_inside g.standing,
    )

-- nor, with a class of its book's version, any fault
pub line_passes : (version : ℤ) (b : ℕ) (lines : List ℤ) (i : ℕ) → GoodLine b lines i → class_out version (class_at lines i) ≡ false
    → line_bad version (pos b) lines i ≡ false
unfolding line_bad fault_at class_fault
line_passes version b lines i g c = rw (five_pass b lines i g, c)

-- a held entry inside its limits is not bad
pub held_passes : (b : ℕ) (held : List ℤ) (i : ℕ) → GoodHeld b held i → held_bad (pos b) held i ≡ false
unfolding held_bad held_out held_height_out held_before
held_passes b held i g =
    rw (
      between_inside g.mark,
      size_inside most_held_height (height_at held i) g.height,
      none_any
          (λ j. eq_z (mark_at held j) (mark_at held i)) i (λ j l. apart_eq_z (mark_at held j) (mark_at held i) (g.once j l)),
    )

-- the counts of a book inside every limit are not outside theirs
pub counts_pass : (k : Book) (book : Lent) → GoodBook k book
    → book_out (pos k.version) (pos k.marks) (pos k.tolerance) k.held k.lines ≡ false
unfolding book_out out_n
counts_pass k book g =
    rw (
      inside least_marks most_marks k.marks g.a_mark g.few_marks,
      tolerance_passes g.by_version,
      le-ltb k.held least_held (omega arith),
      le-ltb most_held k.held g.held_good.few,
      le-ltb k.lines least_lines (omega arith),
      le-ltb most_lines k.lines g.lines_good.few,
    )

-- a book inside every limit passes the test
pub good_passes : (k : Book) (book : Lent) → GoodBook k book → test_of book ≡ Good k
unfolding test_of torn first_bad_held first_bad_line
good_passes k book g =
    rw (
      g.version,
      version_passes g.by_version,
      eq-eqb (length book.held % held_words) 0 (omega (arith, g.held_good.whole)),
      eq-eqb (length book.lines % line_words) 0 (omega (arith, g.lines_good.whole)),
      h,
      n,
      g.marks,
      g.tolerance,
      counts_pass k book g,
      none_first (held_bad (pos k.marks) book.held) k.held (λ i l. held_passes k.marks book.held i (g.held_good.each i l)),
      none_first (line_bad (pos k.version) (pos k.marks) book.lines) k.lines (λ i l.
          line_passes (pos k.version) k.marks book.lines i (g.lines_good.each i l) (class_passes g.by_version i l)),
    )
  where
    h : held_count book.held ≡ k.held
    h = omega (arith, g.held_good.whole)

    n : line_count book.lines ≡ k.lines
    n = count_of_lem book.lines k.lines g.lines_good.whole

-- the line at place i is made of its entry
pub line_is_made : (b : ℕ) (lines : List ℤ) (i : ℕ) → GoodLine b lines i → entry_of (pos b) (entry_at lines i) ≡ made.Good (line_at lines i)
unfolding line_of
line_is_made b lines i g =
    entry_line_lem (pos b) lines i
    ∙ ap (λ (f : ℕ). cond (ltb 0 f) (made.Refused 7 fault) (made.Good (line_at lines i))) (five_pass b lines i g)
  where
    fault : ℕ
    fault = line_fault (pos b) (from_at lines i) (to_at lines i) (difference_at lines i) (length_at lines i) (standing_at lines i)
