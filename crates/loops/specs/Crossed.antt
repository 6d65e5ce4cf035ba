-- Which lines are checked, by the tree and the closing lines alone. That these are the lines of the loops: proofs/Crossed.antt.
-- Assumes nothing.
use Rattle.std.specs.Prelude.{ℕ, Bool, true, false, not, ◌||◌, cond, List, [], ◌∷◌, eqb}
use Rattle.std.proofs.Math.Option.{Option, none, some}
use Rattle.network.specs.Standing.{Line}
use Rattle.network.specs.Tree.{Tree}

-- the end of a line that is not m
abbrev pub other_end : Line → ℕ → ℕ
other_end l m = cond (eqb l.from m) l.to l.from

-- over the line by which mark m came in, and further from its other end; a root has no way
abbrev pub way_over : Option Line → ℕ → ℕ → (ℕ → Bool) → Bool
way_over none n m further = false
way_over (some l) n m further = eqb l.number n || further (other_end l m)

-- "A mark's way to its root is followed line by line": line n is on the way of mark m
unfoldable pub on_way : Tree → ℕ → ℕ → Bool
on_way [] n m = false
on_way (e ∷ es) n m = cond (eqb e.mark m) (way_over e.by n m (λ u. on_way es n u)) (on_way es n m)

abbrev pub differ : Bool → Bool → Bool
differ true b = not b
differ false b = b

-- a line crosses line n: the way of one of its ends runs over line n, and the way of the other does not
unfoldable pub crosses : Tree → ℕ → Line → Bool
unfolding on_way
crosses es n c = differ (on_way es n c.from) (on_way es n c.to)

-- line n is one of the lines cs, or one of them crosses it
unfoldable pub crossed : Tree → ℕ → List Line → Bool
unfolding crosses
crossed es n [] = false
crossed es n (c ∷ cs) = (eqb c.number n || crosses es n c) || crossed es n cs
