use Rattle.std.proofs.Common.{◌≡◌}
use Rattle.cases.specs.Shown.{AllShown, IsShown}
use Rattle.cases.proofs.show_cases.Given as goal

-- when what is left of the input has been shown, all of it has
abbrev pub invariant-loop-case : goal.invariant-loop-case
invariant-loop-case g l =
    (l.case-iterator.numbers ≡ l.numbers)
    × ((last : _)
    → AllShown (IsShown g.W.Write.contents g.F.Fn l.show) l.numbers l.case-iterator.rest.now l.to last
    → AllShown (IsShown g.W.Write.contents g.F.Fn l.show) l.numbers l.fn.input l.fn.to last)
