-- What the writer answers of a tested book, case by case.
-- Assumes nothing.
use mathlib.Core.Path.{◌≡◌, sym}
use mathlib.Core.Bool.{true, false}
use mathlib.Core.List.{List, ◌++◌}
use Prim.Native.Nat.{ℕ, ◌≤◌, ◌<◌}
use lib.ListN.{length, drop}
use lib.IntN.{ℤ}
use borrow.Author.Tests.{lt-ltb, le-ltb}
use Rattle.book.specs.Test.{refusal, no_refusal}
use Rattle.book.specs.declared.Book.{Book}
use Rattle.book.specs.Refusals.{Told}
use Rattle.file.specs.Read.{length_of}
use Rattle.writer.specs.Write.{file_of, cannot_say, refused_with, done, writing, write_good}

module _ (k : Book) (held lines : List ℤ) (file : List ℕ) where
  pub not_said : cannot_say k lines ≡ true → write_good k held lines file ≡ writing (refused_with (refusal 16 0)) file
  unfolding write_good
  not_said e = rw e

  pub no_room : cannot_say k lines ≡ false → length file < length_of k
      → write_good k held lines file ≡ writing (refused_with (refusal 10 0)) file
  unfolding write_good
  no_room e l = rw (e, lt-ltb (length file) (length_of k) l)

  pub all_written : cannot_say k lines ≡ false → length_of k ≤ length file
      → write_good k held lines file ≡ writing (done k) (file_of k held lines ++ drop (length_of k) file)
  unfolding write_good
  all_written e l = rw (e, le-ltb (length file) (length_of k) l)

  -- as the code has it: by what was answered and what the file holds
  pub is_written : (r : Told) (bytes : ℕ) (out : List ℕ) → cannot_say k lines ≡ false → r ≡ no_refusal → bytes ≡ length_of k
      → bytes ≤ length file → out ≡ file_of k held lines ++ drop bytes file
      → writing (record { refusal = r; bytes = bytes }) out ≡ write_good k held lines file
  is_written r bytes out e none size room o = rw (o, none, size) (sym (all_written e (rw size at room)))
