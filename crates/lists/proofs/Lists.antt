-- 10, or a whole list. Assumes nothing.
use Prim.Native.Nat.{◌≤◌, ◌<◌}
use mathlib.Core.Path.{◌≡◌}
use mathlib.Core.List.{List, ◌++◌}
use lib.IntN.{ℤ}
use lib.ListN.{length, drop}
use borrow.Author.Tests.{lt-ltb, le-ltb}
use Rattle.book.specs.Test.{refusal}
use Rattle.lists.specs.Listing.{listing, refused_with, entered, list_of}

pub list_ten : (list out : List ℤ) → length out < length list → listing (refused_with (refusal 10 0)) out ≡ list_of list out
unfolding list_of
list_ten list out h = rw (lt-ltb (length out) (length list) h)

pub list_whole : (list out : List ℤ) → length list ≤ length out
    → listing (entered (length list)) (list ++ drop (length list) out) ≡ list_of list out
unfolding list_of
list_whole list out h = rw (le-ltb (length out) (length list) h)
