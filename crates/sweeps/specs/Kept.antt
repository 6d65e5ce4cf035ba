-- What a sweep keeps, and what all sweeps keep.
-- Assumes nothing.
use Rattle.std.specs.Prelude.{List, ℤ}
use Rattle.sweeps.specs.Sweeps.{Swept, still, moved, Settled, settled, unsettled}

-- P holds of the heights after a sweep, unless one went outside
abbrev pub Kept : (List ℤ → Type 0) → Swept → Type 0
Kept P (still hs) = P hs
Kept P (moved hs) = P hs
Kept P (Swept.outside m) = Unit {0}

-- P holds of the settled heights, if the sweeps settle
abbrev pub KeptTo : (List ℤ → Type 0) → Settled → Type 0
KeptTo P (settled n hs) = P hs
KeptTo P (Settled.outside m) = Unit {0}
KeptTo P unsettled = Unit {0}
