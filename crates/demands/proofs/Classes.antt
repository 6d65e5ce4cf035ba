-- Request 04: lines of different classes in one book. Assumes nothing.
use Prim.Native.Nat.{ℕ, ◌+◌, ◌*◌, ◌≤◌, ◌<◌}
use native.Mathlib.Nat.{add-zero}
use native.Mathlib.Omega.{arith}
use mathlib.Core.Path.{◌≡◌, refl, sym, ◌∙◌, ap, ap₂, subst}
use mathlib.Core.Logic.{◌⊎◌, ◌↔◌, inl, inr}
use mathlib.Core.List.{List, [], ◌∷◌, ◌++◌, map, map-map, append_assoc, Memᴰ}
use lib.IntN.{ℤ, pos, nat_abs, ◌+ℤ◌}
use lib.ListN.{length, get_or, take, drop}
use mir.Syntax.{w32}
use mir.Val.{to_z}
use Rattle.laws.specs.Tests.{eq_z}
use Rattle.laws.specs.Range.{Between}
use Rattle.book.specs.Lent.{Lent}
use Rattle.book.specs.Limits.{least_tolerance, most_tolerance, least_class, most_class, most_held, most_lines}
use Rattle.book.specs.Held.{held_words}
use Rattle.book.specs.Version.{no_class, tolerances, tolerance_of}
use Rattle.book.specs.Line.{line_words, difference_field, standing_field, class_field, place, class_at, entry_at}
use Rattle.book.specs.Good.{Versioned, single, classed}
use Rattle.book.specs.Test.{test_of}
use Rattle.book.specs.declared.Book.{Book}
use Rattle.book.specs.Test.{Good}
use Rattle.book.proofs.Goods.{tested_good}
use Rattle.book.proofs.Versions.{InsideLimits, class_tolerance, tolerances_inside, one_has_none, two_has_one}
use Rattle.file.specs.Wire.{be}
use Rattle.file.specs.Entry.{entry_bytes, line_numbers, numbers, line_kind}
use Rattle.file.specs.Read.{file_length, lines_of, read_of}
use Rattle.file.specs.declared.entry.Kind.TheVariants.{ClassedLine}
use Rattle.file.proofs.Entries.{line_read}
use Rattle.network.specs.Standing.{Line, standing}
use Rattle.network.specs.Redone.{Measure, measured, measured_pass}
use Rattle.network.specs.Walk.{Pass, way_length}
use Rattle.network.proofs.Standing.{of_standing}
use Rattle.loops.specs.Loops.{Loop, loops, loop_at}
use Rattle.loops.specs.Row.{signed, listed, misclosure, total, allowed_by, line_allows, allowances, row_verdict}
use Rattle.loops.specs.Report.{loops_of}
use Rattle.loops.proofs.EachLoop.{loop_runs_lines}
use Rattle.loops.proofs.Places.{loop_at_is}
use Rattle.loops.proofs.Rerun.{loops_same, way_length_same}
use Rattle.loops.proofs.Row.{Unclassed}
use Rattle.loops.proofs.Sounding.{good_sound}
use Rattle.survey.specs.Survey.{survey_of}
use Rattle.text.specs.Bytes.{bytes}
use Rattle.text.specs.Number.{decimal}
use Rattle.text.specs.Report.{head_text}
use Rattle.page.specs.Page.{loops_page, book_page, page_of}
use Rattle.page.specs.Filed.{book_lines}
use Rattle.page.proofs.Filed.{book_read, book_filed}
use Rattle.demands.specs.TheLoops.{in_row, Within}
use Rattle.demands.specs.Corrections.{Step, rerun, withdraw, correct, Accepted, no_more, accepted, OnlyChange}
use Rattle.demands.proofs.Corrections.{rerun_sets_one_number, withdrawal_sets_one_number}
use Rattle.demands.proofs.Reported.{survey_counts, each_row_is_of_its_loop}

-- ---- "The classes are 0 to 4, and the tolerance of each comes from a table of five"

pub tolerance_of_each_class : (t : ℕ) → map (λ class. tolerance_of t (pos class)) (0 ∷ 1 ∷ 2 ∷ 3 ∷ 4 ∷ [])
    ≡ 40 ∷ 50 ∷ 60 ∷ 80 ∷ 120 ∷ []
unfolding tolerance_of
tolerance_of_each_class t = refl

-- "Version 1 keeps its single t"
pub tolerance_without_class : (t : ℕ) → tolerance_of t no_class ≡ t
unfolding tolerance_of
tolerance_without_class t = refl

-- ---- "Book version 2 has two more bytes in each line, a class and the standing mark"

-- "so a line takes 14 bytes and the file 13 + 10h + 14n"

pub length_of_either_version : (h n : ℕ) → (file_length 1 h n ≡ 13 + h * 10 + n * 12) × (file_length 2 h n ≡ 13 + h * 10 + n * 14)
unfolding eq_z
length_of_either_version h n = (refl, refl)

-- line i of a file is read from its own bytes, whatever the version
pub line_is_read_from_its_bytes : (file : List ℕ) (k : Book) (i : ℕ) → i < k.lines
    → let bytes = entry_bytes (line_kind k.version) in
    entry_at (lines_of file k) i ≡ numbers (line_kind k.version) (take bytes (drop (13 + k.held * 10 + i * bytes) file))
line_is_read_from_its_bytes = line_read

one_byte : (e : List ℕ) (a : ℕ) → be 1 e a ≡ get_or e a 0
unfolding be
one_byte e a = rw add-zero (omega arith)

-- of version 2 the class is the 13th of its bytes and the standing mark the 14th; in memory standing stays fifth, and class is sixth
pub class_then_standing : (e : List ℕ) → numbers ClassedLine e
    ≡ pos (be 2 e 0) ∷ pos (be 2 e 2) ∷ to_z w32 (be 4 e 4) ∷ pos (be 4 e 8) ∷ pos (get_or e 13 0) ∷ pos (get_or e 12 0) ∷ []
unfolding line_numbers
class_then_standing e = rw (one_byte e 13, one_byte e 12)

-- ---- what each version asks

module _ (book : Lent) (k : Book) (passes : test_of book ≡ Good k) where
  by_version : Versioned book.lines k.lines k.version k.tolerance
  by_version = (tested_good book k passes).by_version

  pub version_is_one_or_two : (k.version ≡ 1) ⊎ (k.version ≡ 2)
  version_is_one_or_two = go by_version
    where
      go : {version t : ℕ} → Versioned book.lines k.lines version t → (version ≡ 1) ⊎ (version ≡ 2)
      go (single l h c) = inl refl
      go (classed c) = inr refl

  -- "in a version 1 book it is -1"
  pub version_one_asks : k.version ≡ 1
      → (least_tolerance ≤ k.tolerance) × (k.tolerance ≤ most_tolerance) × ((i : ℕ) → i < k.lines → class_at book.lines i ≡ no_class)
  version_one_asks e = go by_version e
    where
      go : {version t : ℕ} → Versioned book.lines k.lines version t → version ≡ 1
          → (least_tolerance ≤ t) × (t ≤ most_tolerance) × ((i : ℕ) → i < k.lines → class_at book.lines i ≡ no_class)
      go (single l h c) e = (l, h, c)
      go (classed c) e = absurd (omega arith)

  -- "The header's t is 0", and every line has a class
  pub version_two_asks : k.version ≡ 2
      → (k.tolerance ≡ 0) × ((i : ℕ) → i < k.lines → Between least_class most_class (class_at book.lines i))
  version_two_asks e = two_has_one by_version e

  -- so that every line, withdrawn or not, has a tolerance that t could have
  pub every_tolerance_is_inside : (i : ℕ) → i < k.lines → InsideLimits (tolerance_of k.tolerance (class_at book.lines i))
  every_tolerance_is_inside = tolerances_inside by_version

  -- ---- the loops of a book

  module _ (lp : Loop) (m : Memᴰ lp (loops_of k.marks book.lines)) (p : Pass) (on : Memᴰ p lp) where
    -- each line that a loop runs is one of the book's
    pub record OfTheBook : Type 0 where
      pub i : ℕ
      pub there : i < k.lines
      pub its_class : p.line.class ≡ class_at book.lines i

    its_line : OfTheBook
    unfolding loops_of
    its_line =
        let good = tested_good book k passes in
        let stands = loop_runs_lines k.marks (standing book.lines) (good_sound k book good) lp m p on in
        let w = of_standing book.lines p.line stands in
        record {
          i = w.0;
          there = omega (arith, w.1.is_there, good.lines_good.whole);
          its_class = ap (λ (l : Line). l.class) w.1.its;
        }

    pub class_in_two : k.version ≡ 2 → Between least_class most_class p.line.class
    class_in_two e = let w = its_line in rw w.its_class ((version_two_asks e).1 w.i w.there)

  pub no_class_in_one : k.version ≡ 1 → (lp : Loop) → Memᴰ lp (loops_of k.marks book.lines) → Unclassed lp
  no_class_in_one e lp m p on = let w = its_line lp m p on in w.its_class ∙ (version_one_asks e).2 w.i w.there

-- ---- "within exactly if m*m is at most 10 times the sum over its lines of tolerance squared times length as in Req 03"

-- what the lines of a loop allow, each by its own tolerance: one list for both versions
abbrev pub by_tolerance : (Line → ℕ) → Loop → List ℕ
by_tolerance tolerance lp = map (λ p. allowed_by (tolerance p.line) p.line.length) lp

module _ (t : ℕ) (lp : Loop) where
  pub within_by_line_tolerances : Within t lp
      ↔ (nat_abs (misclosure lp) * nat_abs (misclosure lp) ≤ 10 * total (by_tolerance (λ l. tolerance_of t l.class) lp))
  unfolding allowances line_allows
  within_by_line_tolerances = (λ h. h, λ h. h)

-- the table's tolerance of a line's class
abbrev pub of_table : Line → ℕ
of_table l = get_or tolerances (nat_abs l.class) 0

by_table : (t : ℕ) (lp : Loop) → ((p : Pass) → Memᴰ p lp → Between least_class most_class p.line.class)
    → by_tolerance (λ l. tolerance_of t l.class) lp ≡ by_tolerance of_table lp
by_table t [] has = refl
by_table t (p ∷ ps) has =
    ap₂ (λ (x : ℕ) (rest : List ℕ). allowed_by x p.line.length ∷ rest) (class_tolerance t p.line.class (has p (Memᴰ.head refl)))
    (by_table t ps (λ q i. has q (Memᴰ.tail i)))

module _ (book : Lent) (k : Book) (passes : test_of book ≡ Good k) (out : List ℤ) (done : (survey_of book out).answer.refusal.number ≡ 0)
    (i : ℕ) (there : i < (survey_of book out).answer.rows) where
  abbrev loop : Loop
  loop = loop_at (loops_of k.marks book.lines) i

  pub in_book : Memᴰ loop (loops_of k.marks book.lines)
  in_book = loop_at_is (loops_of k.marks book.lines) i (omega (arith, (survey_counts book k passes out done).0))

  -- of a version 2 book, by the table alone
  pub verdict_of_version_two : k.version ≡ 2 → (in_row row_verdict (survey_of book out).rows i ≡ pos 0)
      ↔ (nat_abs (misclosure loop) * nat_abs (misclosure loop) ≤ 10 * total (by_tolerance of_table loop))
  verdict_of_version_two two =
      let w = (each_row_is_of_its_loop book k passes out done i there).0.within in
      let j = within_by_line_tolerances k.tolerance loop in
      let e = by_table k.tolerance loop (λ p on. class_in_two book k passes loop in_book p on two) in
      rw (← e) (λ v. j.0 (w.0 v), λ h. w.1 (j.1 h))

-- ---- a class changes verdicts, and nothing else

-- every line has this class now, and all else as it was
abbrev pub reclassed : (Line → ℤ) → Line → Measure
reclassed class l = record { difference = l.difference; class = class l }

module _ (class : Line → ℤ) where
  -- the loops run the same lines the same way, in the same order
  pub other_classes_same_loops : (b : ℕ) (lines : List Line)
      → loops b (map (measured (reclassed class)) lines) ≡ map (map (measured_pass (reclassed class))) (loops b lines)
  other_classes_same_loops = loops_same (reclassed class)

  pub other_classes_same_listing : (lp : Loop) → map listed (map (measured_pass (reclassed class)) lp) ≡ map listed lp
  other_classes_same_listing lp = map-map listed (measured_pass (reclassed class)) lp

  pub other_classes_same_length : (lp : Loop) → way_length (map (measured_pass (reclassed class)) lp) ≡ way_length lp
  other_classes_same_length = way_length_same (reclassed class)

  pub other_classes_same_misclosure : (lp : Loop) → misclosure (map (measured_pass (reclassed class)) lp) ≡ misclosure lp
  unfolding misclosure
  other_classes_same_misclosure [] = refl
  other_classes_same_misclosure (p ∷ ps) =
      ap (λ (z : ℤ). signed p.forward p.line.difference +ℤ z) (other_classes_same_misclosure ps)

-- ---- after corrections the class stays

-- one number that is no class is set
other_number : (before after : List ℤ) (j f : ℕ) (v : ℤ) → f < class_field → OnlyChange before after (place j f) v → (i : ℕ)
    → class_at after i ≡ class_at before i
other_number before after j f v less only i = only.others_kept (place i class_field) (λ e. omega (arith, e))

one_step : (book : Lent) (report : List ℤ) (s : Step) → (correct book report s).answer.refusal.number ≡ 0 → (i : ℕ)
    → class_at (correct book report s).lines i ≡ class_at book.lines i
one_step book report (rerun line difference) z i =
    other_number _ _ _ difference_field difference (omega arith) (rerun_sets_one_number book report line difference z) i
one_step book report (withdraw line) z i =
    other_number _ _ _ standing_field (pos 0) (omega arith) (withdrawal_sets_one_number book report line z) i

pub class_stays : {book book' : Lent} {report report' : List ℤ} {steps : List Step} → Accepted book report steps book' report' → (i : ℕ)
    → class_at book'.lines i ≡ class_at book.lines i
class_stays no_more i = refl
class_stays {book = book} {report = report} (accepted {s = s} z more) i = class_stays more i ∙ one_step book report s z i

-- ---- "The program's first line names the version"

abbrev pub first_line : ℕ → List ℕ
first_line version = bytes "LEVEL BOOK " ++ decimal version ++ bytes "\n"

-- a text begins so
pub record Begins (first text : List ℕ) : Type 0 where
  pub rest : List ℕ
  pub is : text ≡ first ++ rest

and_more : {first text : List ℕ} (more : List ℕ) → Begins first text → Begins first (text ++ more)
and_more {first} more b =
    record { rest = b.rest ++ more; is = ap (λ (x : List ℕ). x ++ more) b.is ∙ append_assoc first b.rest more }

first_line_lem : (version : ℕ) → Begins (first_line version) (bytes "LEVEL BOOK " ++ decimal version ++ bytes "\nMARKS ")
unfolding bytes
first_line_lem version =
    record { rest = bytes "MARKS "; is = sym (append_assoc (bytes "LEVEL BOOK " ++ decimal version) (bytes "\n") (bytes "MARKS ")) }

-- of a book that is printed
first_of_book : (k : Book) (lines : List ℤ) → Begins (first_line k.version) (book_page k lines)
unfolding book_page loops_page head_text
first_of_book k lines =
    and_more _ (and_more _ (and_more _ (and_more _ (and_more _ (and_more _ (and_more _ (and_more _ (and_more _ (and_more _
    (first_line_lem k.version))))))))))

-- so that the report of every file that is read, into buffers with room for any book, begins with the version that was read
pub first_line_names_the_version : (file : List ℕ) (held lines : List ℤ) → most_held * held_words ≤ length held
    → most_lines * line_words ≤ length lines
    → let o = read_of file held lines in o.answer.refusal.number ≡ 0
    → Begins (first_line o.answer.version) (page_of file)
unfolding page_of
first_line_names_the_version file held lines held_room lines_room zero =
    let o = read_of file held lines in
    let filed = book_filed file held lines held_room lines_room o refl zero in
    let k = book_read o.answer in
    subst (Begins (first_line k.version)) (filed.its_text book_page) (first_of_book k (book_lines k o.lines))
