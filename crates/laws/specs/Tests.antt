-- Tests on whole numbers that compute: outside a range, and equal. What a contract says of a test is said by these.
-- They are shut (`unfoldable`): a room above takes them as they stand, and learns of the numbers by the laws of proofs/.
-- Assumes nothing.
use Rattle.std.specs.Prelude.{Bool, false, ◌||◌, ℕ, eqb, ltb, ℤ, pos, negsuc}
use Rattle.std.specs.Int.Signed.{lt_z}

-- z is below lo or above hi
unfoldable pub out_z : ℤ → ℤ → ℤ → Bool
out_z lo hi z = lt_z z lo || lt_z hi z

-- the same of natural numbers
unfoldable pub out_n : ℕ → ℕ → ℕ → Bool
out_n lo hi n = ltb n lo || ltb hi n

-- two whole numbers are equal
unfoldable pub eq_z : ℤ → ℤ → Bool
eq_z (pos a) (pos b) = eqb a b
eq_z (pos a) (negsuc b) = false
eq_z (negsuc a) (pos b) = false
eq_z (negsuc a) (negsuc b) = eqb a b
