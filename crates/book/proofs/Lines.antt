-- The line that an entry of the slice makes, by the fields of the slice.
-- Assumes nothing.
use mathlib.Core.Path.{◌≡◌}
use mathlib.Core.List.{List}
use Prim.Native.Nat.{ℕ, ◌<◌}
use native.Mathlib.Omega.{arith}
use borrow.Author.Tests.{lt-ltb}
use lib.Dec.{lit<}
use Rattle.std.specs.Prelude.{Ok, Err}
use lib.IntN.{ℤ}
use Rattle.book.specs.Line.{from_field, to_field, difference_field, length_field, standing_field, class_field}
use Rattle.book.specs.Line.{from_at, to_at, difference_at, length_at, standing_at, class_at}
use Rattle.book.specs.Line.{entry_at, line_fault, line_of, entry_of, class_fault, fault_at, fault_number, made_line}
use Rattle.book.specs.declared.line.Line.{Line}
use Rattle.book.specs.declared.line.Fault.{Fault}
use Rattle.book.specs.declared.line.Fault.TheVariants.{End, EqualEnds, Difference, Length, Standing, Class}
use Rattle.book.specs.Line.{MadeLine, Good, Refused}
use Rattle.book.proofs.Made.{line_made, no_line}
use Rattle.book.proofs.Places.{entry_field}

pub entry_line_lem : (b : ℤ) (lines : List ℤ) (i : ℕ)
    → entry_of b (entry_at lines i) ≡ line_of b (from_at lines i) (to_at lines i) (difference_at lines i) (length_at lines i)
    (standing_at lines i)
unfolding entry_of
entry_line_lem b lines i =
    rw (
      entry_field lines i from_field (lit< tt),
      entry_field lines i to_field (lit< tt),
      entry_field lines i difference_field (lit< tt),
      entry_field lines i length_field (lit< tt),
      entry_field lines i standing_field (lit< tt),
    )

-- the fault of an entry is that of its line
pub entry_fault : (version b : ℤ) (lines : List ℤ) (i : ℕ) → fault_at version b (entry_at lines i) 0 ≡ fault_at version b lines i
unfolding fault_at
entry_fault version b lines i =
    rw (
      entry_field lines i from_field (lit< tt),
      entry_field lines i to_field (lit< tt),
      entry_field lines i difference_field (lit< tt),
      entry_field lines i length_field (lit< tt),
      entry_field lines i standing_field (lit< tt),
      entry_field lines i class_field (lit< tt),
    )

-- what was made of an entry tells its fault: that of its five numbers, or its class's
module _ (version b : ℤ) (e : List ℤ) (m : MadeLine) (is : m ≡ entry_of b e) where
  pub fault_refused : (number fault : ℕ) → m ≡ Refused number fault → fault ≡ fault_at version b e 0
  unfolding fault_at entry_of
  fault_refused number fault h = let w = no_line b _ _ _ _ _ m is number fault h in rw w.0 w.1

  pub fault_good : (l : Line) → m ≡ Good l → fault_at version b e 0 ≡ class_fault version (class_at e 0)
  unfolding fault_at entry_of
  fault_good l h = rw (line_made b _ _ _ _ _ m is l h).0

-- ---- what the first fault of five numbers makes of them

pub fault_from_1 : (fault : Fault) → 0 < fault_number fault
fault_from_1 End = omega arith
fault_from_1 EqualEnds = omega arith
fault_from_1 Difference = omega arith
fault_from_1 Length = omega arith
fault_from_1 Standing = omega arith
fault_from_1 Class = omega arith

module _ (b from to difference length standing : ℤ) where
  pub line_refused : (fault : Fault) → fault_number fault ≡ line_fault b from to difference length standing
      → made_line (Err fault) ≡ line_of b from to difference length standing
  unfolding line_of
  line_refused fault e = rw (← e, lt-ltb 0 (fault_number fault) (fault_from_1 fault))

  pub line_allowed : 0 ≡ line_fault b from to difference length standing
      → made_line (Ok (record { from = from; to = to; difference = difference; length = length; standing = standing }))
      ≡ line_of b from to difference length standing
  unfolding line_of
  line_allowed e = rw (← e)
