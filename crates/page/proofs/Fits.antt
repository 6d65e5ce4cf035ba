-- No report is longer than the room that the report program lends: 512 loops of at most 1,338 bytes, a head of 141 and 2,577 for the last
-- line are 687,774.
-- Assumes nothing.
use Prim.Native.Nat.{ℕ, suc, ◌+◌, ◌*◌, ◌≤◌}
use native.Mathlib.Nat.{le_of_eq, le_trans}
use native.Mathlib.Omega.{arith}
use mathlib.Core.Path.{◌≡◌, refl, sym, ap}
use mathlib.Core.Logic.{inl, inr}
use mathlib.Core.List.{List, [], ◌∷◌, ◌++◌, map, Memᴰ}
use lib.IntN.{ℤ, pos}
use lib.ListN.{length, take, replicate, length-replicate, length-append, length-map}
use Rattle.book.specs.Limits.{most_lines, most_held, most_length, most_difference}
use Rattle.book.specs.Held.{held_words}
use Rattle.book.specs.Line.{line_words}
use Rattle.book.specs.declared.Book.{Book}
use Rattle.file.specs.Read.{Outcome, read_of}
use Rattle.file.specs.Read.{ReadAnswer}
use Rattle.file.proofs.Reading.{ReadOrRefused, read_or_refused}
use Rattle.network.specs.Standing.{standing}
use Rattle.network.specs.Sound.{Sound}
use Rattle.network.specs.Path.{Pass, way_length}
use Rattle.network.proofs.Entries.{tree_lines_count}
use Rattle.network.proofs.ShortestPath.{pass_line}
use Rattle.loops.specs.Loops.{Loop}
use Rattle.loops.specs.Row.{listed, misclosure, verdict}
use Rattle.loops.proofs.EachLoop.{loop_has_few_lines}
use Rattle.loops.proofs.Basis.{all_closed}
use Rattle.loops.proofs.Sizes.{length_at_most, misclosure_at_most, listed_at_most}
use Rattle.book.specs.Good.{GoodLines}
use Rattle.loops.specs.Report.{loops_of, pieces_of}
use Rattle.loops.proofs.Sounding.{LineLimits, lines_sound, line_limits, few_loops}
use Rattle.lists.specs.NotChecked.{unchecked_of}
use Rattle.lists.proofs.Unwatched.{few_listed, listed_numbers}
use Rattle.text.specs.Report.{head_text, not_checked_text}
use Rattle.text.specs.Put.{Put}
use Rattle.text.proofs.Puts.{put_whole}
use Rattle.text.proofs.Room.{LoopNumbers, head_room, loop_room, not_checked_room, refused_room}
use Rattle.page.specs.Filed.{BookText, file_text}
use Rattle.page.specs.Page.{loop_line, loop_lines, loops_page, book_page, page_of}
use Rattle.page.proofs.Filed.{refused_filed, book_filed}

-- the bytes that the report program lends
abbrev pub page_room : ℕ
page_room = 690000

abbrev Fits : List ℕ → Type 0
Fits page = length page ≤ page_room

-- three texts, one after the other
together : (a b c : List ℕ) {x y z : ℕ} → length a ≤ x → length b ≤ y → length c ≤ z → length ((a ++ b) ++ c) ≤ x + y + z
together a b c p q r = simp length-append (omega arith)

module _ (k : Book) (ls : List ℤ) (g : GoodLines k ls) where
  sound : Sound k.marks (standing ls)
  sound = lines_sound k ls g

  -- a loop runs over standing lines, and over no more of them than there are marks
  loop_numbers : (number : ℕ) → number ≤ most_lines → (lp : Loop) → Memᴰ lp (loops_of k.marks ls)
      → LoopNumbers number (pos (way_length lp)) (misclosure lp) (map listed lp)
  unfolding loops_of
  loop_numbers number high lp i = record {
    few_loops = high;
    short = omega (arith, few, g.few_marks, length_at_most most_length lp (λ p j. (limits p j).length));
    small = omega (arith, few, g.few_marks, misclosure_at_most most_difference lp (λ p j. (limits p j).difference));
    few_lines = omega (arith, few, g.few_marks, length-map lp listed);
    lines = listed_at_most most_lines lp (λ p j. (limits p j).number);
  }
    where
      few : length lp ≤ k.marks
      few = loop_has_few_lines k.marks (standing ls) sound lp i

      limits : (p : Pass) → Memᴰ p lp → LineLimits p.line
      limits p j = line_limits k ls g p.line (pass_line (all_closed k.marks (standing ls) sound lp i).1 p j)

  -- the lines of loops of the book, the first of them under this number
  loops_room : (number : ℕ) (lps : List Loop) → ((lp : Loop) → Memᴰ lp lps → Memᴰ lp (loops_of k.marks ls))
      → number + length lps ≤ most_lines + 1
      → length (loop_lines k.tolerance number lps) ≤ length lps * 1338
  unfolding loop_lines loop_line
  loops_room number [] h few = omega arith
  loops_room number (lp ∷ lps) h few =
      let a =
      loop_room number (pos (way_length lp)) (misclosure lp) (verdict k.tolerance lp) (map listed lp)
      (loop_numbers number (omega arith) lp (h lp (Memᴰ.head refl))) in
      let r = loops_room (suc number) lps (λ x i. h x (Memᴰ.tail i)) (omega arith) in
      rw length-append (omega arith)

  book_fits : Fits (book_page k ls)
  unfolding book_page loops_page pieces_of
  book_fits =
      let b = k.marks in
      let lps = loops_of b ls in
      let list = unchecked_of b ls in
      let n = few_loops k ls g in
      let p = tree_lines_count b (standing ls) sound in
      le_trans
      (together (head_text k.version b k.lines (pieces_of b ls) (length lps)) (loop_lines k.tolerance 1 lps) (not_checked_text list)
      (head_room k.version b k.lines (pieces_of b ls) (length lps) (omega (arith, g.known_version)) (omega (arith, g.few_marks))
      (omega (arith, g.good.few)) (omega (arith, g.few_marks)) (omega (arith, g.good.few)))
      (loops_room 1 lps (λ lp i. i) (omega (arith, g.good.few)))
      (not_checked_room list (few_listed k ls g) (listed_numbers k ls g)))
      (omega (arith, g.good.few))

-- ---- of every file, as it is read into buffers that have room for every book

-- what is printed of a file is no longer than the line of a refusal and what is printed of each good book
module _ (text : BookText) (most : ℕ) (refusals : 53 ≤ most)
    (books : (k : Book) (ls : List ℤ) → GoodLines k ls → length (text k ls) ≤ most) where
  module _ (file : List ℕ) (held lines : List ℤ) (held_room : most_held * held_words ≤ length held)
      (lines_room : most_lines * line_words ≤ length lines) where
    abbrev o : Outcome
    o = read_of file held lines

    read_fits : ReadOrRefused file held lines (read_of file held lines) → length (file_text text file) ≤ most
    read_fits (inl r) =
        let zero : o.answer.refusal.number ≡ 0 = ap (λ (a : ReadAnswer). a.refusal.number) r.answer in
        let w = book_filed file held lines held_room lines_room o refl zero in
        rw (w.its_text text) at (books _ _ w.good)
    read_fits (inr f) =
        let n = ap (λ (a : ReadAnswer). a.refusal.number) f.answer in
        let p = ap (λ (a : ReadAnswer). a.refusal.place) f.answer in
        let r = refused_room o.answer.refusal.number o.answer.refusal.place (omega (arith, f.high)) (omega (arith, f.near)) in
        rw (refused_filed file held lines held_room lines_room o refl (λ z. omega (arith, f.low)) text) at (le_trans r refusals)

  pub file_fits : (file : List ℕ) → length (file_text text file) ≤ most
  file_fits file =
      let held = replicate (most_held * held_words) (pos 0) in
      let lines = replicate (most_lines * line_words) (pos 0) in
      read_fits file held lines (le_of_eq (sym (length-replicate (most_held * held_words) (pos 0))))
      (le_of_eq (sym (length-replicate (most_lines * line_words) (pos 0)))) (read_or_refused file held lines)

pub page_fits : (file : List ℕ) → length (page_of file) ≤ page_room
unfolding page_of
page_fits = file_fits book_page page_room (omega arith) book_fits

-- so that the program prints the whole report: what it hands on are the bytes up to the place after the page
pub page_whole : (file out out' : List ℕ) (next : ℕ) → page_room ≤ length out → Put out out' 0 next (page_of file)
    → take next out' ≡ page_of file
page_whole file out out' next room p = put_whole p (omega (arith, page_fits file))
