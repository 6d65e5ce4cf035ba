use Rattle.start.proofs.Holding.{held_none}
use Rattle.start.proofs.hold_all.Goals as goal

pub loop-i-init : goal.loop-i-init
loop-i-init c =
    let k = c.requires.blank in
    held_none _ _ _ _ _ c.requires.held k.flagged k.heighted k.none k.zero
