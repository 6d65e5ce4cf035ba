use Rattle.std.proofs.Common.{arith, refl}
use Rattle.search.proofs.Searched.{begun_searching, turned_more, turned_none, turned_found, turned_any, search_end}
use Rattle.search.proofs.search.Goals as goal

pub loop-init : goal.loop-init
loop-init c = (
  omega arith,
  omega arith,
  c.begin.ensures.offered.stage,
  λ sub g. begun_searching sub _ _ _ _ g _ _ _ _ c.requires.two c.begin.ensures,
)

pub returns-then-m-eq0 : goal.returns-then-m-eq0
returns-then-m-eq0 c = λ sub g. turned_none sub _ _ _ _ g _ _ _ _ _ _ _ _ c.loop.invariant.2 (omega arith) (c.loop.invariant.3 sub g)
    c.turn-m.ensures (omega arith) (omega arith)

pub returns-then-m-to : goal.returns-then-m-to
returns-then-m-to c = λ sub g. turned_found sub _ _ _ _ g _ _ _ _ _ _ _ _ c.loop.invariant.2 (omega arith) (c.loop.invariant.3 sub g)
    c.turn-m.ensures (λ e. omega arith) (omega arith) (omega arith)

pub loop-preserved : goal.loop-preserved
loop-preserved c = (
  omega arith,
  omega arith,
  turned_any _ _ _ _ _ _ _ _ _ _ c.loop.invariant.2 c.turn-m.ensures,
  λ sub g. turned_more sub _ _ _ _ g _ _ _ _ _ _ _ _ c.loop.invariant.2 (omega arith) (c.loop.invariant.3 sub g) c.turn-m.ensures
      (λ e. omega arith) (λ e. omega arith),
)

pub returns : goal.returns
returns c = λ sub g. search_end sub _ _ _ _ g _ _ _ _ _ (c.loop.invariant.3 sub g) (omega arith) refl
