-- The lines of a tested book, and those of them that stand, by their places.
-- Assumes nothing.
use Prim.Native.Nat.{ℕ, suc, ◌+◌, ◌<◌}
use native.Mathlib.Numerals.{add-one}
use native.Mathlib.Omega.{arith}
use mathlib.Core.Path.{◌≡◌, sym}
use mathlib.Core.List.{List, ◌∷◌}
use mathlib.Core.Bool.{true, false}
use lib.IntN.{ℤ, pos}
use Rattle.laws.specs.Tests.{eq_z}
use Rattle.laws.specs.Range.{Between}
use Rattle.book.specs.Line.{standing_at}
use Rattle.book.specs.Lent.{Lent}
use Rattle.network.specs.Standing.{Line}
use Rattle.network.specs.Field.{HasLine, line_at, stands_from}
use Rattle.network.proofs.Standing as standing
use Rattle.book.specs.Test.{test_of}
use Rattle.book.specs.Good.{Lines}
use Rattle.fields.specs.Places.{Place}
use Rattle.book.specs.declared.Book.{Book}
use Rattle.book.specs.Test.{Good}
use Rattle.book.proofs.Goods.{tested_good}

module _ (lines : List ℤ) where
  -- the line at place i, as the definitions have it
  abbrev pub line_here : ℕ → Line
  line_here i = line_at (suc i) lines i

  -- a withdrawn line is left out
  pub stands_not : (i : ℕ) → HasLine lines i → eq_z (standing_at lines i) (pos 0) ≡ true → stands_from lines (i + 1) ≡ stands_from lines i
  stands_not i h e = rw (add-one i) (sym (standing.stands_not lines i h e))

  pub stands_here : (i : ℕ) → HasLine lines i → Between 0 1 (standing_at lines i) → eq_z (standing_at lines i) (pos 0) ≡ false
      → stands_from lines i ≡ line_here i ∷ stands_from lines (i + 1)
  stands_here i h b e = rw (add-one i) (standing.stands_here lines i h b e)

  -- the place of the next line
  pub place_of_lem : (b n i : ℕ) → Lines lines b n → i < n → Place lines b n i
  place_of_lem b n i good l = record { inside = l; few = good.few; whole = omega (arith, good.whole); good = good.each i l }

-- the lines of a good book
pub lines_of : (book : Lent) (k : Book) → test_of book ≡ Good k → Lines book.lines k.marks k.lines
lines_of book k e = (tested_good book k e).lines_good
