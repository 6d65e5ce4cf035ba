use Rattle.heights.proofs.pad.Given as goal

abbrev pub decreases-loop-t : goal.decreases-loop-t
decreases-loop-t g l = l.t
