use Rattle.std.proofs.Common.{ℕ, List, Option, drop}
use Rattle.std.specs.Io.KnownBytes.{Appends}
use Rattle.cases.specs.Answer.{all_spaced}
use Rattle.cases.proofs.put_all.Given as goal

-- when what is left of the numbers has been printed, all of them have
abbrev pub invariant-loop-n : goal.invariant-loop-n
invariant-loop-n g l =
    (last : Option (List ℕ)) → Appends (g.W.Write.contents l.to) last (all_spaced (drop l.n-index l.numbers))
    → Appends (g.W.Write.contents l.fn.to) last (all_spaced l.fn.numbers)
