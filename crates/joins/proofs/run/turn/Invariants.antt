use Rattle.std.proofs.Common.{◌≡◌, ◌++◌, take, drop, map}
use Rattle.joins.specs.Code.{flip_code}
use Rattle.joins.proofs.run.turn.Given as goal

abbrev pub invariant-loop-code : goal.invariant-loop-code
invariant-loop-code l =
    l.code-items ≡ map flip_code (take l.code-index l.initial.code-items) ++ drop l.code-index l.initial.code-items
