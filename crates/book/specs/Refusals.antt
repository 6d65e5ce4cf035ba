-- Document 01, "Refusal numbers": the number of each refusal, and its place.
-- Assumes nothing.
use Rattle.std.specs.Prelude.{ℕ}
use Rattle.book.specs.declared.refusal.Refusal.{Refusal}
use Rattle.book.specs.declared.refusal.Refusal.TheVariants.{ShortFile, StatedLength, Version, Limit, CountedLength, HeldEntry, Line}
use Rattle.book.specs.declared.refusal.Refusal.TheVariants.{NotThere, OtherReport, NoRoom, NoneHeld, Unsettled, Height, Withdrawn}

-- the table's number; request 05 has 16
abbrev pub number_of : Refusal → ℕ
number_of ShortFile = 1
number_of StatedLength = 2
number_of Version = 3
number_of Limit = 4
number_of CountedLength = 5
number_of (HeldEntry place) = 6
number_of (Line place) = 7
number_of NotThere = 8
number_of OtherReport = 9
number_of NoRoom = 10
number_of (NoneHeld mark) = 11
number_of Unsettled = 12
number_of (Height mark) = 13
number_of Withdrawn = 16

-- the table's place
abbrev pub place_of : Refusal → ℕ
place_of ShortFile = 0
place_of StatedLength = 0
place_of Version = 0
place_of Limit = 0
place_of CountedLength = 0
place_of (HeldEntry place) = place
place_of (Line place) = place
place_of NotThere = 0
place_of OtherReport = 0
place_of NoRoom = 0
place_of (NoneHeld mark) = mark
place_of Unsettled = 0
place_of (Height mark) = mark
place_of Withdrawn = 0

-- "An answer is a number (0 for done), a place (0 when done)": what a call tells
pub record Told : Type 0 where
  pub number : ℕ
  pub place : ℕ

-- of a refusal
abbrev pub told_of : Refusal → Told
told_of r = record { number = number_of r; place = place_of r }
