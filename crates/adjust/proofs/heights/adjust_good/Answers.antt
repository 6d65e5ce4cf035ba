use Rattle.std.proofs.Common.{rules, pos, refl}
use Rattle.start.proofs.Zeros.{so_many}
use Rattle.adjust.proofs.Calling.{call_ten}
use Rattle.adjust.proofs.heights.adjust_good.Goals as goal

pub returns-then-heights-b : goal.returns-then-heights-b
returns-then-heights-b c = call_ten c.args.book c.args.held.now c.args.lines.now c.args.heights.now _ c.if-heights-b.true refl
