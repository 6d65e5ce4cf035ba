-- Document 01, refusal 6: which held entries are bad. "A held entry is two: mark, height."
-- Assumes nothing.
use Rattle.std.specs.Prelude.{Bool, ◌||◌, cond, List, ℕ, ◌+◌, ◌*◌, ◌/◌, length, get_or, ℤ, pos, Option, None, Some, Result, Ok, Err}
use Rattle.laws.specs.Tests.{out_z, eq_z}
use Rattle.laws.specs.Scan.{first_bad, any_below}
use Rattle.book.specs.Height.{held_height_out}
use Rattle.book.specs.Refusals.{number_of}
use Rattle.book.specs.declared.held.Held.{Held}
use Rattle.book.specs.declared.refusal.Refusal.{Refusal}

-- what two numbers make: a held entry, or the number of its refusal
pub data MadeHeld : Type 0 where
  Good : Held → MadeHeld
  Refused : ℕ → MadeHeld

abbrev pub made_held : Result Held Refusal → MadeHeld
made_held (Ok entry) = Good entry
made_held (Err r) = Refused (number_of r)

-- numbers per held entry
abbrev pub held_words : ℕ
held_words = 2

-- the mark and the height of the entry at place i, counted from 0
abbrev pub mark_at : List ℤ → ℕ → ℤ
mark_at held i = get_or held (i * held_words + 0) (pos 0)

abbrev pub height_at : List ℤ → ℕ → ℤ
height_at held i = get_or held (i * held_words + 1) (pos 0)

-- how many entries a slice holds
abbrev pub held_count : List ℤ → ℕ
held_count held = length held / held_words

-- "mark not 1 to b, height outside"
unfoldable pub held_out : ℤ → ℤ → ℤ → Bool
unfolding held_height_out
held_out b mark height = out_z (pos 1) b mark || held_height_out height

-- the held entry of a book of b marks that two numbers make, or refusal 6
unfoldable pub held_entry_of : ℤ → ℤ → ℤ → MadeHeld
unfolding held_out
held_entry_of b m h = cond (held_out b m h) (Refused 6) (Good (record { mark = m; height = record { micrometres = h } }))

-- "mark already held by an earlier entry": one before place i has the mark m
unfoldable pub held_before : List ℤ → ℤ → ℕ → Bool
unfolding any_below
held_before held m i = any_below (λ j. eq_z (mark_at held j) m) i

unfoldable pub held_bad : ℤ → List ℤ → ℕ → Bool
unfolding held_out held_before
held_bad b held i = held_out b (mark_at held i) (height_at held i) || held_before held (mark_at held i) i

-- "first such entry": its number from 1, or 0
unfoldable pub first_bad_held : ℤ → List ℤ → ℕ
unfolding held_bad first_bad
first_bad_held b held = first_bad (held_bad b held) (held_count held)

-- what the scan finds: that number, or none
abbrev pub number_or_0 : Option ℕ → ℕ
number_or_0 None = 0
number_or_0 (Some number) = number
