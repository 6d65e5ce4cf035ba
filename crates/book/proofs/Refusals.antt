-- A refusal is told by its number and its place: no number is 0, and no two refusals are told alike.
-- Assumes nothing.
use mathlib.Core.Path.{◌≡◌, refl, sym, ◌∙◌, ap}
use mathlib.Core.List.{List, [], ◌∷◌}
use Prim.Native.Nat.{ℕ}
use native.Mathlib.Omega.{arith}
use lib.ListN.{get_or}
use Rattle.book.specs.Refusals.{Told, number_of, told_of}
use Rattle.book.specs.declared.refusal.Refusal.{Refusal}
use Rattle.book.specs.declared.refusal.Refusal.TheVariants.{ShortFile, StatedLength, Version, Limit, CountedLength, HeldEntry, Line}
use Rattle.book.specs.declared.refusal.Refusal.TheVariants.{NotThere, OtherReport, NoRoom, NoneHeld, Unsettled, Height, Withdrawn}

-- 0 is "for done"
pub told_from_1 : (r : Refusal) → number_of r ≡ 0 → ⊥
told_from_1 ShortFile e = omega arith
told_from_1 StatedLength e = omega arith
told_from_1 Version e = omega arith
told_from_1 Limit e = omega arith
told_from_1 CountedLength e = omega arith
told_from_1 (HeldEntry place) e = omega arith
told_from_1 (Line place) e = omega arith
told_from_1 NotThere e = omega arith
told_from_1 OtherReport e = omega arith
told_from_1 NoRoom e = omega arith
told_from_1 (NoneHeld mark) e = omega arith
told_from_1 Unsettled e = omega arith
told_from_1 (Height mark) e = omega arith
told_from_1 Withdrawn e = omega arith

-- the table, by its numbers; 0, 14 and 15 are no refusal's
abbrev by_number : ℕ → List Refusal
by_number place =
    ShortFile ∷ ShortFile ∷ StatedLength ∷ Version ∷ Limit ∷ CountedLength ∷ HeldEntry place ∷ Line place ∷ NotThere
    ∷ OtherReport ∷ NoRoom ∷ NoneHeld place ∷ Unsettled ∷ Height place ∷ ShortFile ∷ ShortFile ∷ Withdrawn ∷ []

abbrev refusal_at : Told → Refusal
refusal_at t = get_or (by_number t.place) t.number ShortFile

found_again : (r : Refusal) → refusal_at (told_of r) ≡ r
found_again ShortFile = refl
found_again StatedLength = refl
found_again Version = refl
found_again Limit = refl
found_again CountedLength = refl
found_again (HeldEntry place) = refl
found_again (Line place) = refl
found_again NotThere = refl
found_again OtherReport = refl
found_again NoRoom = refl
found_again (NoneHeld mark) = refl
found_again Unsettled = refl
found_again (Height mark) = refl
found_again Withdrawn = refl

pub told_apart : (r s : Refusal) → told_of r ≡ told_of s → r ≡ s
told_apart r s e = sym (found_again r) ∙ ap refusal_at e ∙ found_again s
