use Rattle.std.proofs.Common.{arith}
use Rattle.search.proofs.Direct.{direct_written}
use Rattle.search.proofs.Ways.{path_leads, path_walked, path_cut}
use Rattle.search.proofs.path.Goals as goal

pub returns-in-Some : goal.returns-in-Some
returns-in-Some c = λ sub g. direct_written _ _ _ _ _ _ c.requires.two
    (c.in-Some.ensures.direct.whole c.in-Some.ensures.is_half sub g)

pub way-requires : goal.way-requires
way-requires c =
    let p = c.requires.held in
    path_leads _ _ _ _ _ p.given _ _ _ c.requires.two.r_ok (omega arith) (c.search.ensures p.sub p.given) c.if-search.true
    _ (omega arith) (omega arith)

pub returns-then-search : goal.returns-then-search
returns-then-search c = λ sub g. path_walked sub _ _ _ _ g _ _ _ c.requires.two.r_ok (omega arith) (c.search.ensures sub g)
    c.if-search.true _ _ _ c.way.ensures

pub returns : goal.returns
returns c = λ sub g. path_cut sub _ _ _ _ g _ _ _ c.requires.two.r_ok (omega arith) (c.search.ensures sub g) c.if-search.false _
