-- Document 01, "Loops (Memorandum, part 3)": the shortest path over some lines, with the tie rule.
-- What a shortest path is, as a plain statement: Walk.antt. That this is it and there is no other: proofs/Enough.antt.
-- Assumes nothing.
use Rattle.std.specs.Prelude.{ℕ, zero, suc, ◌+◌, Bool, true, false, ◌&&◌, List, [], ◌∷◌, eqb}
use Rattle.std.proofs.Math.Option.{Option, none, some}
use Rattle.network.specs.Standing.{Line}
use Rattle.network.specs.Tree.{Tree, distance, grow}
pub use Rattle.network.specs.Walk.{Pass, pass, end, start, stop}
unfoldable pub use Rattle.network.specs.Walk.{way_length}

abbrev pub fits : ℕ → Option ℕ → Option ℕ → Bool
fits len none e = false
fits len (some d) none = false
fits len (some d) (some e) = eqb (e + len) d

-- the pass leads down: its stop is nearer than its start by just its length
unfoldable pub down : Tree → Pass → Bool
unfolding distance
down es p = fits p.line.length (distance es (start p)) (distance es (stop p))

abbrev pub pick_pass : Bool → Pass → Option Pass → Option Pass
pick_pass true p rest = some p
pick_pass false p rest = rest

-- of the lines at mark u that lead down, the one with the lowest number, as it is run from u
unfoldable pub descent : Tree → ℕ → List Line → Option Pass
unfolding down
descent es u [] = none
descent es u (l ∷ ls) =
    pick_pass (eqb l.from u && down es (pass l true)) (pass l true)
    (pick_pass (eqb l.to u && down es (pass l false)) (pass l false)
    (descent es u ls))

-- a pass, and what goes on from its stop; nothing where there is none
abbrev pub onward : Option Pass → (ℕ → List Pass) → List Pass
onward none go = []
onward (some p) go = p ∷ go (stop p)

-- the way from mark u to the root, at most k lines long
unfoldable pub descend : List Line → Tree → ℕ → ℕ → List Pass
unfolding descent
descend sub es zero u = []
descend sub es (suc k) u = onward (descent es u sub) (λ m. descend sub es k m)

abbrev pub or_zero : Option ℕ → ℕ
or_zero none = zero
or_zero (some d) = d

-- "the shortest path in the subgraph .. Of equally short paths the one whose line numbers, read from the to end, are smaller at the first
-- difference": from mark u to mark r over the lines sub, of b marks in all. The distances are those of a tree that grows from r alone;
-- the way leads down from u. Each line takes at least one metre off the distance, so the distance bounds the count of lines.
unfoldable pub shortest : ℕ → List Line → ℕ → ℕ → List Pass
unfolding grow distance descend
shortest b sub u r =
    let es = grow sub (r ∷ []) b in
    descend sub es (or_zero (distance es u)) u
