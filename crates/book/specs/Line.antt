-- Document 01, refusal 7: which lines are faulty. "In memory a line is five signed 64-bit numbers in a lent slice: from, to, difference,
-- length, standing (1, or 0 once withdrawn)." Request 04: "In memory a line gets a sixth number", its class.
-- Assumes nothing.
use Rattle.std.specs.Prelude.{Bool, ◌||◌, cond, List, ℕ, ◌+◌, ◌*◌, ◌/◌, ltb, length, get_or, take, drop, ℤ, pos, neg_ℤ}
use Rattle.std.specs.Prelude.{Option, None, Some, Result, Ok, Err}
use Rattle.laws.specs.Tests.{out_z, eq_z}
use Rattle.laws.specs.Scan.{first_bad}
use Rattle.book.specs.Limits.{most_difference, least_length, most_length}
use Rattle.book.specs.Version.{class_out}
use Rattle.book.specs.declared.line.Line.{Line}
use Rattle.book.specs.declared.line.Fault.{Fault}
use Rattle.book.specs.declared.line.Fault.TheVariants.{End, EqualEnds, Difference, Length, Standing, Class}

-- numbers per line
abbrev pub line_words : ℕ
line_words = 6

-- which of them is which
abbrev pub from_field : ℕ
from_field = 0

abbrev pub to_field : ℕ
to_field = 1

abbrev pub difference_field : ℕ
difference_field = 2

abbrev pub length_field : ℕ
length_field = 3

abbrev pub standing_field : ℕ
standing_field = 4

abbrev pub class_field : ℕ
class_field = 5

-- where number k of the line at place i stands; both are counted from 0
abbrev pub place : ℕ → ℕ → ℕ
place i k = i * line_words + k

-- number k of the line at place i
abbrev pub field : ℕ → List ℤ → ℕ → ℤ
field k lines i = get_or lines (place i k) (pos 0)

abbrev pub from_at : List ℤ → ℕ → ℤ
from_at = field from_field

abbrev pub to_at : List ℤ → ℕ → ℤ
to_at = field to_field

abbrev pub difference_at : List ℤ → ℕ → ℤ
difference_at = field difference_field

abbrev pub length_at : List ℤ → ℕ → ℤ
length_at = field length_field

abbrev pub standing_at : List ℤ → ℕ → ℤ
standing_at = field standing_field

abbrev pub class_at : List ℤ → ℕ → ℤ
class_at = field class_field

-- the line at place i, its numbers by their names; what its class is used for needs that alone
abbrev pub line_at : List ℤ → ℕ → Line
line_at lines i =
    record {
      from = from_at lines i;
      to = to_at lines i;
      difference = difference_at lines i;
      length = length_at lines i;
      standing = standing_at lines i;
    }

-- the entry of the line at place i: its numbers alone
abbrev pub entry_at : List ℤ → ℕ → List ℤ
entry_at lines i = take line_words (drop (i * line_words) lines)

-- how many lines a slice holds
abbrev pub line_count : List ℤ → ℕ
line_count lines = length lines / line_words

unfoldable pub difference_out : ℤ → Bool
difference_out d = out_z (neg_ℤ (pos most_difference)) (pos most_difference) d

-- the first thing wrong with five numbers as a line of a book of b marks: 1 "end not 1 to b", 2 "ends equal", 3 "difference", 4 "length
-- outside", 5 "standing not 0 or 1"; 0: nothing
unfoldable pub line_fault : ℤ → ℤ → ℤ → ℤ → ℤ → ℤ → ℕ
unfolding difference_out
line_fault b from to difference len standing =
    cond (out_z (pos 1) b from || out_z (pos 1) b to) 1
    (cond (eq_z from to) 2
    (cond (difference_out difference) 3
    (cond (out_z (pos least_length) (pos most_length) len) 4
    (cond (out_z (pos 0) (pos 1) standing) 5
    0))))

-- the faults by these numbers
abbrev pub fault_number : Fault → ℕ
fault_number End = 1
fault_number EqualEnds = 2
fault_number Difference = 3
fault_number Length = 4
fault_number Standing = 5
fault_number Class = 6

abbrev pub fault_or_0 : Option Fault → ℕ
fault_or_0 None = 0
fault_or_0 (Some fault) = fault_number fault

-- what five numbers make: a line, or the number of its refusal and the first thing that is wrong
pub data MadeLine : Type 0 where
  Good : Line → MadeLine
  Refused : ℕ → ℕ → MadeLine

abbrev pub made_line : Result Line Fault → MadeLine
made_line (Ok l) = Good l
made_line (Err fault) = Refused 7 (fault_number fault)

-- the line of a book of b marks that five numbers make, or refusal 7 and the first thing that is wrong
unfoldable pub line_of : ℤ → ℤ → ℤ → ℤ → ℤ → ℤ → MadeLine
unfolding line_fault
line_of b f t d l s =
    cond (ltb 0 (line_fault b f t d l s))
    (Refused 7 (line_fault b f t d l s))
    (Good (record { from = f; to = t; difference = d; length = l; standing = s }))

-- the line that an entry makes
unfoldable pub entry_of : ℤ → List ℤ → MadeLine
unfolding line_of
entry_of b e = line_of b (from_at e 0) (to_at e 0) (difference_at e 0) (length_at e 0) (standing_at e 0)

-- the class's fault, in a book of this version: 6, or 0
unfoldable pub class_fault : ℤ → ℤ → ℕ
unfolding class_out
class_fault version class = cond (class_out version class) 6 0

-- the fault of five numbers, if there is one, else the class's
abbrev pub first_fault : ℕ → ℕ → ℕ
first_fault fault class = cond (ltb 0 fault) fault class

-- the first thing wrong with the line at place i, or 0; "the order: end out of range, ends equal, difference, length, standing, class"
unfoldable pub fault_at : ℤ → ℤ → List ℤ → ℕ → ℕ
unfolding line_fault class_fault
fault_at version b lines i =
    first_fault (line_fault b (from_at lines i) (to_at lines i) (difference_at lines i) (length_at lines i) (standing_at lines i))
    (class_fault version (class_at lines i))

-- the line at place i has a fault
unfoldable pub line_bad : ℤ → ℤ → List ℤ → ℕ → Bool
unfolding fault_at
line_bad version b lines i = ltb 0 (fault_at version b lines i)

-- "first such line": its number, or 0
unfoldable pub first_bad_line : ℤ → ℤ → List ℤ → ℕ
unfolding line_bad first_bad
first_bad_line version b lines = first_bad (line_bad version b lines) (line_count lines)
