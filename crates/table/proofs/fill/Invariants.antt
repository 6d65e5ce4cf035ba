use Rattle.std.proofs.Common.{◌+◌, ◌<◌, ◌≤◌, length, take, get_or}
use Rattle.chains.specs.Chains.{number_limit}
use Rattle.table.proofs.Filling.{AllFilledTo}
use Rattle.table.proofs.fill.Given as goal

-- the table so far; and while a loop is left, there is room for its run, and its closing line has a small number
abbrev pub invariant-loop-i : goal.invariant-loop-i
invariant-loop-i l =
    AllFilledTo l.n l.count l.i l.at l.ends l.close l.initial.head l.initial.next l.head l.next l.starts l.runs
    × (l.i < l.count → l.at + 1 + l.n ≤ length l.runs)
    × (l.i < l.count → get_or (take l.count l.close) l.i 0 < number_limit)
