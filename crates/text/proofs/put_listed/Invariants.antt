use Rattle.std.proofs.Common.{take}
use Rattle.text.specs.Put.{Put}
use Rattle.text.specs.Report.{listed_text}
use Rattle.text.proofs.put_listed.Given as goal

-- the lines before this one are put
abbrev pub invariant-loop-line : goal.invariant-loop-line
invariant-loop-line l = Put l.initial.out l.out l.initial.next l.next (listed_text (take l.line-index l.list))
