-- How often a walk runs a line, and sums of multiples of loops.
-- Assumes nothing.
use Rattle.std.specs.Prelude.{ℕ, ◌≡◌, Bool, true, false, eqb, ℤ, pos, negsuc, neg_ℤ, ◌+ℤ◌, ◌*ℤ◌, length}
use mathlib.Core.List.{List, [], ◌∷◌, Memᴰ}
use Rattle.network.specs.Standing.{Line}
use Rattle.network.specs.Walk.{Pass}
use Rattle.loops.specs.Loops.{Loop}
use Rattle.loops.specs.Row.{closing_number, misclosure}

abbrev pub sense : Bool → ℤ
sense true = pos 1
sense false = negsuc 0

abbrev pub pass_if : Bool → ℤ → ℤ
pass_if true z = z
pass_if false z = pos 0

-- how often a pass runs line n, forward counted 1 and back -1
unfoldable pub once : Pass → ℕ → ℤ
once p n = pass_if (eqb p.line.number n) (sense p.forward)

-- the signed passes of a walk over line n
unfoldable pub passes : List Pass → ℕ → ℤ
passes [] n = pos 0
passes (p ∷ ps) n = once p n +ℤ passes ps n

-- the sum of numbers, each times its own of the multiples
unfoldable pub sum_of : List ℤ → List ℤ → ℤ
sum_of [] zs = pos 0
sum_of (k ∷ ks) [] = pos 0
sum_of (k ∷ ks) (z ∷ zs) = k *ℤ z +ℤ sum_of ks zs

-- the sum of the loops' passes over line n, each times its own of the multiples
unfoldable pub combine : List ℤ → List Loop → ℕ → ℤ
combine [] ls n = pos 0
combine (k ∷ ks) [] n = pos 0
combine (k ∷ ks) (l ∷ ls) n = k *ℤ passes l n +ℤ combine ks ls n

-- the sum of the loops' misclosures, each times its own of the multiples
unfoldable pub combine_misclosures : List ℤ → List Loop → ℤ
unfolding misclosure
combine_misclosures [] ls = pos 0
combine_misclosures (k ∷ ks) [] = pos 0
combine_misclosures (k ∷ ks) (l ∷ ls) = k *ℤ misclosure l +ℤ combine_misclosures ks ls

-- the walk w is the sum of the multiples ks of the loops: there is one multiple to each loop, and over each line the signed passes are
-- the sum of the loops'
pub record SumOf (lines : List Line) (ls : List Loop) (w : List Pass) (ks : List ℤ) : Type 0 where
  pub one_each : length ks ≡ length ls
  pub passes_are : (l : Line) → Memᴰ l lines → passes w l.number ≡ combine ks ls l.number

-- how often the loop l is taken, where ks are the multiples of the loops ls after it: as often as the walk passes its closing line, which
-- no earlier loop has, less what the loops after it pass
abbrev pub taken : List Pass → Loop → List ℤ → List Loop → ℤ
taken w l ks ls = passes w (closing_number l) +ℤ neg_ℤ (combine ks ls (closing_number l))

-- those multiples, worked out from the last loop to the first
unfoldable pub multiples_of : List Pass → List Loop → List ℤ
unfolding passes combine
multiples_of w [] = []
multiples_of w (l ∷ ls) = let ks = multiples_of w ls in taken w l ks ls ∷ ks

-- over line n nothing is left, neither of the walk's passes nor in any sum of multiples of the loops
abbrev pub NoPasses : List Loop → List Pass → ℕ → Type 0
NoPasses ls w n = (passes w n ≡ pos 0) × ((ks : List ℤ) → combine ks ls n ≡ pos 0)
