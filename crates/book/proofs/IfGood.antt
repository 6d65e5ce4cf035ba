-- What a call gives by the test of its book: the laws of `if_good`. Assumes nothing.
use mathlib.Core.Path.{◌≡◌, refl}
use Rattle.book.specs.Refusals.{Told}
use Rattle.book.specs.Test.{Tested, Good, Refused, if_good}
use Rattle.book.specs.declared.Book.{Book}

module _ {A : Type 0} (tested : Tested) (refuse : Told → A) (go : Book → A) where
  -- of a book that the test refuses
  pub if_refused : (r : Told) → tested ≡ Refused r → if_good tested refuse go ≡ refuse r
  if_refused r e = rw e

  -- and of one that passes
  pub if_good_lem : (k : Book) → tested ≡ Good k → if_good tested refuse go ≡ go k
  if_good_lem k e = rw e

  -- what holds in both cases holds of what the call gives
  pub either_way : (P : A → Type 0) → ((r : Told) → tested ≡ Refused r → P (refuse r))
      → ((k : Book) → tested ≡ Good k → P (go k))
      → P (if_good tested refuse go)
  either_way P bad good = by tested refl
    where
      by : (x : Tested) → tested ≡ x → P (if_good x refuse go)
      by (Refused r) e = bad r e
      by (Good k) e = good k e
