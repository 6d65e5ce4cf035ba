use Rattle.std.proofs.Common.{◌∙◌, ℕ, subst}
use Rattle.start.specs.Along.{Seeded}
use Rattle.start.proofs.Coming.{entered_none}
use Rattle.start.proofs.place_and_raise.Goals as goal

pub place_all-requires-clause-placing : goal.place_all-requires-clause-placing
place_all-requires-clause-placing c =
    let k = c.requires.bare in
    let seeded = subst (λ (b : ℕ). Seeded c.seed.new.root b) k.roots c.seed.ensures in
    entered_none _ _ _ _ _ _ (c.seed.auto.root ∙ k.roots) k.overs seeded.each k.zero

pub returns : goal.returns
returns c =
    let r = c.raise.ensures in
    (r.0, r.1, r.2 _ c.place_all.ensures)
