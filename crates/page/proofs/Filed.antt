-- The text of a file is that of what the reader gives. Assumes nothing.
use Prim.Native.Nat.{ℕ, ◌*◌, ◌≤◌}
use native.Mathlib.Omega.{arith}
use mathlib.Core.Path.{◌≡◌, refl, sym, ◌∙◌, ap, subst}
use mathlib.Core.Bool.{cond}
use mathlib.Core.List.{List}
use lib.Dec.{eqb}
use lib.IntN.{ℤ}
use lib.ListN.{length, take, drop}
use lib.Seq.{take_at}
use borrow.Author.Tests.{ne_eqb, le-ltb}
use Rattle.book.specs.Line.{line_words}
use Rattle.book.specs.Held.{held_words}
use Rattle.book.specs.Limits.{most_lines, most_held}
use Rattle.book.specs.Test.{test_of, if_good}
use Rattle.book.specs.declared.Book.{Book}
use Rattle.book.specs.Test.{Tested}
use Rattle.book.specs.Test.{Good, Refused, tested}
use Rattle.std.specs.Prelude.{Result, Ok, Err}
use Rattle.book.specs.Refusals.{told_of}
use Rattle.book.specs.declared.refusal.Refusal.{Refusal}
use Rattle.book.proofs.Refusals.{told_from_1}
use Rattle.book.proofs.Goods.{tested_numbered, good_lines}
use Rattle.file.specs.Read.{Outcome, answered, answer_of, done, refused_with}
use Rattle.file.specs.Read.{head_of, lines_of, book_in, room_of, body_of, after_head, read_of}
use Rattle.file.specs.Owed.{BookRead}
use Rattle.file.specs.Read as head
use Rattle.file.specs.Read.{Head}
use Rattle.file.specs.Read.{ReadAnswer}
use Rattle.file.proofs.Entries.{lines_length}
use Rattle.file.proofs.Heads.{head_states, head_numbered}
use Rattle.file.proofs.Reading.{zero_is_read}
use Rattle.book.specs.Good.{GoodLines}
use Rattle.text.specs.Report.{refused_text}
use Rattle.page.specs.Filed.{BookText, stated_text, file_text, book_lines, Filed}

-- the book that was read
abbrev pub book_read : ReadAnswer → Book
book_read a = record { version = a.version; marks = a.b; tolerance = a.t; held = a.h; lines = a.n }

-- of what was read: the book's text, or the refusal's line
unfoldable read_text : BookText → Outcome → List ℕ
read_text text o =
    let a = o.answer in
    cond (eqb a.refusal.number 0) (text (book_read a) (book_lines (book_read a) o.lines))
    (refused_text a.refusal.number a.refusal.place)

module _ (file : List ℕ) (held lines : List ℤ) (held_room : most_held * held_words ≤ length held)
    (lines_room : most_lines * line_words ≤ length lines) where
  room_text : (text : BookText) (k : Book) → k.held ≤ most_held → k.lines ≤ most_lines
      → read_text text (room_of file k held lines) ≡ text k (lines_of file k)
  unfolding read_text room_of
  room_text text k h n = rw (
    le-ltb (length held) (k.held * 2) (omega arith),
    le-ltb (length lines) (k.lines * line_words) (omega arith),
    take_at (lines_of file k) (drop (k.lines * line_words) lines) (k.lines * line_words) (lines_length file k),
  )

  body_text : (text : BookText) (k : Book) → k.held ≤ most_held → k.lines ≤ most_lines
      → read_text text (body_of file k held lines) ≡ stated_text text file (head.States k)
  unfolding read_text body_of stated_text
  body_text text k h n = go (test_of (book_in file k)) refl
    where
      go : (o : Tested) → test_of (book_in file k) ≡ o
          → read_text text (if_good o (λ r. answered held lines (refused_with r)) (λ _. room_of file k held lines))
          ≡ if_good o (λ r. refused_text r.number r.place)
          (λ _. text k (lines_of file k))
      go (Refused r) e =
          let w = tested_numbered (book_in file k) r e in
          rw (ne_eqb r.number 0 (λ z. omega (arith, w.low)))
      go (Good book) e = room_text text k h n

  text_read : (text : BookText) → read_text text (read_of file held lines) ≡ file_text text file
  unfolding read_text file_text stated_text read_of after_head
  text_read text = go (head_of file) refl
    where
      go : (o : Head) → head_of file ≡ o → read_text text (after_head file held lines o) ≡ stated_text text file o
      go (head.Refused number) e =
          let w = head_numbered file number e in
          rw (ne_eqb number 0 (λ z. omega (arith, w.0)))
      go (head.States k) e = let s = head_states file k e in body_text text k s.few_held s.few_lines

  -- what a call gave
  module _ (o : Outcome) (e : o ≡ read_of file held lines) where
    is_text : (text : BookText) → read_text text o ≡ file_text text file
    is_text text = ap (read_text text) e ∙ text_read text

    -- a refusal
    pub refused_filed : (o.answer.refusal.number ≡ 0 → ⊥) → Filed file o.lines (Refused o.answer.refusal)
    unfolding read_text
    refused_filed n text = rw (ne_eqb o.answer.refusal.number 0 n) at (is_text text)

    -- a book
    module _ (zero : o.answer.refusal.number ≡ 0) where
      r : BookRead file held lines o
      r =
          subst (λ (x : Outcome). BookRead file held lines x) (sym e)
          (zero_is_read file held lines (sym (ap (λ (x : Outcome). x.answer.refusal.number) e) ∙ zero))

      lines_are : book_lines r.book o.lines ≡ lines_of file r.book
      lines_are =
          ap (take (r.book.lines * line_words)) r.lines_now
          ∙ take_at (lines_of file r.book) (drop (r.book.lines * line_words) lines) (r.book.lines * line_words)
          (lines_length file r.book)

      good_read : GoodLines (book_read o.answer) (book_lines (book_read o.answer) o.lines)
      good_read =
          subst (λ (x : ReadAnswer). GoodLines (book_read x) (book_lines (book_read x) o.lines)) (sym r.answer)
          (subst (λ (l : List ℤ). GoodLines r.book l) (sym lines_are) (good_lines r.book (book_in file r.book) r.good))

      read_text_lem : (text : BookText) → text (book_read o.answer) (book_lines (book_read o.answer) o.lines) ≡ file_text text file
      unfolding read_text
      read_text_lem text = rw zero at (is_text text)

      pub book_filed : Filed file o.lines (Good (book_read o.answer))
      book_filed = record { good = good_read; its_text = read_text_lem }

  -- as the code has it
  pub read_filed : (x : Result Book Refusal) (held' lines' : List ℤ) → answered held' lines' (answer_of x) ≡ read_of file held lines
      → Filed file lines' (tested x)
  read_filed (Ok k) held' lines' e = book_filed (answered held' lines' (done k)) e refl
  read_filed (Err r) held' lines' e = refused_filed (answered held' lines' (refused_with (told_of r))) e (told_from_1 r)
