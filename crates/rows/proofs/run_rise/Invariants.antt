use Rattle.std.proofs.Common.{◌≡◌, ◌*◌, ◌≤◌, nat_abs, drop, ◌+ℤ◌}
use Rattle.book.specs.Limits.{most_difference}
use Rattle.rows.specs.Sums.{rise_of}
use Rattle.rows.proofs.run_rise.Given as goal

-- what is summed and what is left make up the whole, and each line rises so much at most
abbrev pub invariant-loop-code : goal.invariant-loop-code
invariant-loop-code l =
    (l.sum +ℤ rise_of l.lines (drop l.code-index l.run) ≡ rise_of l.lines l.run) × (nat_abs l.sum ≤ l.code-index * most_difference)
