-- What the reader's definition gives: a book inside every limit, or a refusal that changes nothing.
-- Assumes nothing.
use mathlib.Core.Path.{◌≡◌, refl, ◌∙◌, ap, subst}
use mathlib.Core.Logic.{◌⊎◌, inl, inr}
use mathlib.Core.Bool.{Bool, true, false, cond}
use mathlib.Core.List.{List, ◌++◌}
use Prim.Native.Nat.{ℕ, ◌*◌, ◌<◌, ◌≤◌}
use native.Mathlib.Omega.{arith}
use lib.Dec.{ltb}
use lib.ListN.{length, drop}
use lib.IntN.{ℤ}
use Rattle.book.specs.Limits.{most_lines}
use Rattle.book.specs.Held.{held_words, held_count}
use Rattle.book.specs.Line.{line_words, line_count}
use Rattle.book.specs.Test.{refusal, test_of}
use Rattle.book.specs.Good.{GoodBook}
use Rattle.book.proofs.IfGood.{either_way}
use Rattle.book.proofs.Goods.{tested_good, tested_counts, tested_numbered}
use Rattle.book.specs.declared.Book.{Book}
use Rattle.book.specs.Refusals.{Told}
use Rattle.book.specs.Test.{Good, Refused}
use Rattle.file.specs.Read.{Outcome, answered, refused_with, done, held_of, lines_of, book_in}
use Rattle.file.specs.Read.{head_of, room_of, body_of, after_head, read_of}
use Rattle.file.specs.Owed.{BookRead, FileRefused}
use Rattle.file.specs.Read as head
use Rattle.file.specs.Read.{Head}
use Rattle.file.specs.declared.entry.Kind.TheVariants.{Held}
use Rattle.file.proofs.Entries.{entries_length, lines_length}
use Rattle.file.proofs.Heads.{head_numbered}

module _ (file : List ℕ) (held lines : List ℤ) where
  -- read, or refused with a number
  abbrev pub ReadOrRefused : Outcome → Type 0
  ReadOrRefused o = BookRead file held lines o ⊎ FileRefused held lines o

  refuses : (number place : ℕ) → 0 < number → number ≤ 10 → place ≤ most_lines
      → ReadOrRefused (answered held lines (refused_with (refusal number place)))
  refuses number place low high near =
      inr (record {
        number = number;
        place = place;
        low = low;
        high = high;
        near = near;
        answer = refl;
        held_kept = refl;
        lines_kept
            = refl;
      })

  GoodFile : Book → Type 0
  GoodFile k = GoodBook k (book_in file k)

  -- as many entries as were read
  pub held_entries : (k : Book) → held_count (held_of file k) ≡ k.held
  unfolding held_of
  held_entries k = let l = entries_length Held file 13 k.held in omega arith

  pub line_entries : (k : Book) → line_count (lines_of file k) ≡ k.lines
  line_entries k = let l = lines_length file k in omega arith

  room_or_ten : (k : Book) → GoodFile k → ReadOrRefused (room_of file k held lines)
  unfolding room_of GoodFile
  room_or_ten k good = go (ltb (length held) (k.held * held_words)) (ltb (length lines) (k.lines * line_words))
    where
      go : (s t : Bool)
          → ReadOrRefused (cond s (answered held lines (refused_with (refusal 10 0)))
          (cond t (answered held lines (refused_with (refusal 10 0))) (record {
            answer = done k;
            held = held_of file k ++ drop (k.held * held_words) held;
            lines = lines_of file k ++ drop (k.lines * line_words) lines;
          })))
      go true t = refuses 10 0 (omega arith) (omega arith) (omega arith)
      go false true = refuses 10 0 (omega arith) (omega arith) (omega arith)
      go false false = inl (record { book = k; answer = refl; good = good; held_now = refl; lines_now = refl })

  body : (k : Book) → ReadOrRefused (body_of file k held lines)
  unfolding body_of GoodFile
  body k = either_way (test_of (book_in file k)) _ _ ReadOrRefused bad good
    where
      bad : (r : Told) → test_of (book_in file k) ≡ Refused r → ReadOrRefused (answered held lines (refused_with r))
      bad r e = let w = tested_numbered (book_in file k) r e in refuses r.number r.place w.low (omega (arith, w.high)) w.near

      good : (j : Book) → test_of (book_in file k) ≡ Good j → ReadOrRefused (room_of file k held lines)
      good j e =
          let same : j ≡ k = tested_counts (book_in file k) j e ∙ rw (held_entries k, line_entries k) in
          room_or_ten k (subst (λ (x : Book). GoodBook x (book_in file k)) same (tested_good (book_in file k) j e))

  -- every file is read as a book inside the limits, or refused
  pub read_or_refused : ReadOrRefused (read_of file held lines)
  unfolding read_of after_head
  read_or_refused = go (head_of file) refl
    where
      go : (o : Head) → head_of file ≡ o → ReadOrRefused (after_head file held lines o)
      go (head.Refused number) e =
          let w = head_numbered file number e in refuses number 0 w.0 (omega (arith, w.1)) (omega arith)
      go (head.States k) e = body k

  -- the answer 0 says which
  pub zero_is_read : (read_of file held lines).answer.refusal.number ≡ 0 → BookRead file held lines (read_of file held lines)
  zero_is_read z = go read_or_refused
    where
      go : ReadOrRefused (read_of file held lines) → BookRead file held lines (read_of file held lines)
      go (inl r) = r
      go (inr f) = absurd (omega (arith, f.low, ap (λ (a : _). a.refusal.number) f.answer))
