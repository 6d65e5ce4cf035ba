-- What the listing of one loop, and of all loops, answers, and what the lent output then holds: refusals 3, 4, 6, 7, 8 and 10.
-- Assumes nothing.
use Rattle.std.specs.Prelude.{cond, List, ◌++◌, map, ℕ, ◌-◌, ltb, length, drop, ℤ, pos, nat_abs, Result, Ok, Err}
use Rattle.laws.specs.Tests.{out_z}
use Rattle.book.specs.Lent.{Lent}
use Rattle.book.specs.Test.{refusal, no_refusal, test_of, if_good}
use Rattle.book.specs.Refusals.{Told, told_of}
use Rattle.book.specs.declared.refusal.Refusal.{Refusal}
use Rattle.book.specs.declared.Book.{Book}
use Rattle.loops.specs.Loops.{loop_at}
use Rattle.loops.specs.Row.{listed, listings}
use Rattle.loops.specs.Report.{loops_of}

-- "An answer is a number .., a place .. and the counts its call fills: .. a listing its entries"
pub record Listed : Type 0 where
  pub refusal : Told
  pub entries : ℕ

-- "After a refusal the counts are 0"
abbrev pub refused_with : Told → Listed
refused_with r = record { refusal = r; entries = 0 }

abbrev pub entered : ℕ → Listed
entered entries = record { refusal = no_refusal; entries = entries }

abbrev pub answer_of : Result ℕ Refusal → Listed
answer_of (Ok entries) = entered entries
answer_of (Err r) = refused_with (told_of r)

-- the answer, and the output after the call
pub record Listing : Type 0 where
  pub answer : Listed
  pub out : List ℤ

abbrev pub listing : Listed → List ℤ → Listing
listing a out = record { answer = a; out = out }

-- 10, or a whole list, with "places past the answer .. unchanged"
unfoldable pub list_of : List ℤ → List ℤ → Listing
list_of list out =
    cond (ltb (length out) (length list)) (listing (refused_with (refusal 10 0)) out)
    (listing (entered (length list)) (list ++ drop (length list) out))

-- "lines and sense are listed from the book, loop by loop", by the loop's number from 1
unfoldable pub listing_good : Book → List ℤ → ℤ → List ℤ → Listing
unfolding loops_of list_of loop_at
listing_good k lines number out =
    let found = loops_of k.marks lines in
    cond (out_z (pos 1) (pos (length found)) number) (listing (refused_with (refusal 8 0)) out)
    (list_of (map listed (loop_at found (nat_abs number - 1))) out)

unfoldable pub listing_of : Lent → ℤ → List ℤ → Listing
unfolding listing_good test_of
listing_of book number out =
    if_good (test_of book) (λ r. listing (refused_with r) out)
    (λ k. listing_good k book.lines number out)

-- the lines of all loops, "loop by loop"
unfoldable pub listings_good : Book → List ℤ → List ℤ → Listing
unfolding loops_of list_of listings
listings_good k lines out = list_of (listings (loops_of k.marks lines)) out

unfoldable pub listings_of : Lent → List ℤ → Listing
unfolding listings_good test_of
listings_of book out =
    if_good (test_of book) (λ r. listing (refused_with r) out)
    (λ k. listings_good k book.lines out)
