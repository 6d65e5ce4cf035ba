-- The state of a sweep in the code: whether a mark has moved, how the sweeps end, and what a line adds to g, by the arrays.
-- Assumes nothing.
use Rattle.std.specs.Prelude.{ℕ, ◌-◌, Bool, true, false, List, Result, Ok, Err, get_or, ℤ, pos, ◌+ℤ◌, ◌-ℤ◌, ◌*ℤ◌}
use Rattle.sights.specs.Table.{Columns}
use Rattle.sweeps.specs.Sweeps.{Swept, still, moved, Settled, settled, unsettled}
use Rattle.book.specs.declared.refusal.Refusal.{Refusal}
use Rattle.book.specs.declared.refusal.Refusal.TheVariants as refusal
use Rattle.sweeps.specs.declared.Outside.{Outside}
use Rattle.sweeps.specs.declared.Unsettled.{Unsettled}
use Rattle.sweeps.specs.declared.Unsettled.TheVariants as why

-- what the line at place j adds to the g of a mark that stands at z
unfoldable pub term_at : Columns → List ℤ → ℤ → ℕ → ℤ
term_at cols hs z j = pos (get_or cols.weight j 0) *ℤ (get_or hs (get_or cols.other j 0) (pos 0) +ℤ get_or cols.rise j (pos 0) -ℤ z)

-- the marks that are held
abbrev pub flags : List Bool → ℕ → Bool
flags held m = get_or held (m - 1) false

-- the state of a sweep, whether it has moved a mark, and its end, with the heights
abbrev pub swept : Result Bool Outside → List ℤ → Swept
swept (Ok false) hs = still hs
swept (Ok true) hs = moved hs
swept (Err o) hs = Swept.outside o.mark

abbrev pub ended_at : Result ℕ Unsettled → List ℤ → Settled
ended_at (Ok n) hs = settled n hs
ended_at (Err (why.Outside m)) hs = Settled.outside m
ended_at (Err why.StillMoving) hs = unsettled

-- 13 with the mark, or 12
abbrev pub refusal_of : Unsettled → Refusal
refusal_of (why.Outside m) = refusal.Height m
refusal_of why.StillMoving = refusal.Unsettled
