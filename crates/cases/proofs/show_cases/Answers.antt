use Rattle.std.proofs.Common.{◌∙◌, refl}
use Rattle.cases.specs.Shown.{IsShown}
use Rattle.cases.proofs.AllShown.{first_shown, none_left}
use Rattle.cases.proofs.show_cases.Goals as goal

pub loop-case-preserved : goal.loop-case-preserved
loop-case-preserved g c =
    let same = c.loop-case.invariant.0 in
    let next = c.in-Some.ensures.steps in
    let now : IsShown g.W.Write.contents g.F.Fn c.args.show c.loop-case.to c.in-Some.case.now c.show.new.arg2 = record {
      named = _;
      lent = _;
      left = _;
      names = rw c.name.ensures at c.in_ok-write_all.ensures.bytes;
      lends = refl;
      called = c.in_ok-show.ensures;
      leaves = refl;
    } in
    (next.0 ∙ same, λ last rest. c.loop-case.invariant.1 last (first_shown _ _ _ _ _ _ _ _ (rw same at next.1) now rest))

pub returns : goal.returns
returns g c =
    let same = c.loop-case.invariant.0 in
    c.loop-case.invariant.1 _ (none_left _ _ _ _ _ (rw same at c.in-None.ensures.steps.1))
