use Rattle.std.proofs.Common.{◌≡◌, ◌-◌, ◌*◌, ◌≤◌, nat_abs, ◌+ℤ◌}
use Rattle.sights.specs.Sights.{pull}
use Rattle.sights.specs.Table.{columns, seen}
use Rattle.sweeps.proofs.Sums.{most_term}
use Rattle.sweeps.proofs.pull_of.Given as goal

abbrev pub invariant-loop-j : goal.invariant-loop-j
invariant-loop-j l =
    let cols = columns l.other l.rise l.weight in
    record {
      size : nat_abs l.g ≤ (l.j - l.a) * most_term;
      sum : l.g +ℤ pull l.h l.z (seen cols l.j (l.e - l.j)) ≡ pull l.h l.z (seen cols l.a (l.e - l.a));
    }
