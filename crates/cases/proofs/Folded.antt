-- The digest of a buffer folds its numbers in, one after the other.
-- Assumes nothing.
use Rattle.std.proofs.Common.{◌≡◌, ℕ, ℤ, List, [], ◌∷◌, refl}
use Rattle.std.specs.List.{fold}
use Rattle.cases.specs.Cases.{mixed_with, digest_from, digest_of}

from_folds : (sum : ℕ) (s : List ℤ) → digest_from sum s ≡ fold mixed_with sum s
unfolding digest_from
from_folds sum [] = refl
from_folds sum (x ∷ rest) = from_folds (mixed_with sum x) rest

pub digest_folds : (s : List ℤ) → digest_of s ≡ fold mixed_with 0 s
unfolding digest_of
digest_folds s = from_folds 0 s
