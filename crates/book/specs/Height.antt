-- Document 01, "held height" and "any height in work".
-- Assumes nothing.
use Rattle.std.specs.Prelude.{Bool, cond, ℕ, ℤ, pos, neg_ℤ, Result, Ok, Err}
use Rattle.laws.specs.Tests.{out_z}
use Rattle.book.specs.Limits.{most_held_height, most_height}
use Rattle.book.specs.Refusals.{number_of}
use Rattle.book.specs.declared.height.Height.{Height}
use Rattle.book.specs.declared.refusal.Refusal.{Refusal}

-- what a number makes: a height, or the number of its refusal
pub data MadeHeight : Type 0 where
  Good : Height → MadeHeight
  Refused : ℕ → MadeHeight

abbrev pub made_height : Result Height Refusal → MadeHeight
made_height (Ok h) = Good h
made_height (Err r) = Refused (number_of r)

unfoldable pub held_height_out : ℤ → Bool
held_height_out z = out_z (neg_ℤ (pos most_held_height)) (pos most_held_height) z

unfoldable pub work_height_out : ℤ → Bool
work_height_out z = out_z (neg_ℤ (pos most_height)) (pos most_height) z

-- the height of a held mark that a number makes: 6 is "height outside" of a held entry
unfoldable pub held_height_of : ℤ → MadeHeight
unfolding held_height_out
held_height_of z = cond (held_height_out z) (Refused 6) (Good (record { micrometres = z }))

-- the height in work that a number makes: 13 is "a height in work, or lent, outside its limit"
unfoldable pub work_height_of : ℤ → MadeHeight
unfolding work_height_out
work_height_of z = cond (work_height_out z) (Refused 13) (Good (record { micrometres = z }))
