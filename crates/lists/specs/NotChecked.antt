-- What the not-checked list answers, and what the lent output then holds: refusals 3, 4, 6, 7 and 10.
-- Assumes nothing.
use Rattle.std.specs.Prelude.{List, map, ℕ, ℤ, pos}
use Rattle.book.specs.Lent.{Lent}
use Rattle.book.specs.Test.{test_of, if_good}
use Rattle.network.specs.Standing.{standing}
use Rattle.loops.specs.Checked.{not_checked}
use Rattle.loops.specs.Report.{loops_of}
use Rattle.lists.specs.Listing.{Listing, listing, refused_with, list_of}

-- the standing lines that no loop checks, "by rising line number"; what that means by circuits is a theorem of crate loops
unfoldable pub unchecked_of : ℕ → List ℤ → List ℤ
unfolding not_checked loops_of standing
unchecked_of b lines = map pos (not_checked (loops_of b lines) (standing lines))

unfoldable pub not_checked_of : Lent → List ℤ → Listing
unfolding unchecked_of list_of test_of
not_checked_of book out =
    if_good (test_of book) (λ r. listing (refused_with r) out)
    (λ k. list_of (unchecked_of k.marks book.lines) out)
