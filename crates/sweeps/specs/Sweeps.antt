-- Document 01, "Adjustment": a visit, a sweep, and the sweeps until nothing moves.
-- `sights m` is the list of the lines at mark m as they are seen from it; `is_held m` says whether mark m is held.
-- Assumes nothing.
use Rattle.std.specs.Prelude.{ℕ, zero, suc, Bool, true, false, List, ℤ, pos, ◌+ℤ◌}
use Rattle.laws.specs.Tests.{eq_z}
use Rattle.book.specs.Height.{work_height_out}
use Rattle.fields.specs.Heights.{height, set_height}
use Rattle.sights.specs.Sights.{Sight, weights, pull}
use Rattle.divisions.specs.Nearest.{nearest}

-- "the mark moves by g/D to the nearest whole number, halves toward zero"
unfoldable pub move_of : List Sight → List ℤ → ℕ → ℤ
unfolding nearest pull weights
move_of ss hs m = nearest (pull hs (height hs m) ss) (weights ss)

-- The state within a sweep: nothing has moved so far, or a mark has, or the height of this mark went outside its limit
pub data Swept : Type 0 where
  still : List ℤ → Swept
  moved : List ℤ → Swept
  outside : ℕ → Swept

abbrev pub after : Bool → List ℤ → Swept
after true hs = still hs
after false hs = moved hs

-- mark m with its new height z, where `stays` says that this is its old one
abbrev pub placed : Bool → Bool → ℕ → ℤ → List ℤ → Swept
placed true stays m z hs = outside m
placed false stays m z hs = after stays (set_height hs m z)

-- a free mark is visited
unfoldable pub visited : List Sight → List ℤ → ℕ → Swept
unfolding move_of work_height_out eq_z
visited ss hs m =
    let d = move_of ss hs m in
    let z = height hs m +ℤ d in
    placed (work_height_out z) (eq_z d (pos 0)) m z hs

-- what moved before has moved in this sweep
abbrev pub has_moved : Swept → Swept
has_moved (still hs) = moved hs
has_moved (moved hs) = moved hs
has_moved (outside m) = outside m

-- "A sweep visits free marks": mark m in its turn; a held mark is passed over, and nothing follows a height outside
abbrev pub visit : Bool → List Sight → ℕ → Swept → Swept
visit true ss m s = s
visit false ss m (still hs) = visited ss hs m
visit false ss m (moved hs) = has_moved (visited ss hs m)
visit false ss m (outside k) = outside k

-- "by number": the marks 1 to k, of a sweep that begins at the heights hs
unfoldable pub sweep : (ℕ → List Sight) → (ℕ → Bool) → List ℤ → ℕ → Swept
unfolding visited
sweep sights is_held hs zero = still hs
sweep sights is_held hs (suc k) = visit (is_held (suc k)) (sights (suc k)) (suc k) (sweep sights is_held hs k)

-- How the sweeps end: settled after so many sweeps at these heights; the height of this mark outside (13); the last sweep still moved a
-- mark (12)
pub data Settled : Type 0 where
  settled : ℕ → List ℤ → Settled
  outside : ℕ → Settled
  unsettled : Settled

-- "It is settled when a sweep moves nothing; that sweep is counted too." n sweeps came before this one; `more` goes on with the next
abbrev pub onward : Swept → ℕ → (List ℤ → Settled) → Settled
onward (still hs) n more = settled (suc n) hs
onward (moved hs) n more = more hs
onward (outside m) n more = outside m

-- at most k sweeps more, of b marks, after n sweeps
unfoldable pub settle_from : (ℕ → List Sight) → (ℕ → Bool) → ℕ → ℕ → ℕ → List ℤ → Settled
unfolding sweep
settle_from sights is_held b zero n hs = unsettled
settle_from sights is_held b (suc k) n hs =
    onward (sweep sights is_held hs b) n (λ hs. settle_from sights is_held b k (suc n) hs)

-- "the 10,000th sweep still moved a mark"
abbrev pub max_sweeps : ℕ
max_sweeps = 10000

-- all sweeps from the heights hs on
unfoldable pub settle : (ℕ → List Sight) → (ℕ → Bool) → ℕ → List ℤ → Settled
unfolding settle_from
settle sights is_held b hs = settle_from sights is_held b max_sweeps 0 hs
