use Rattle.std.proofs.Common.{rules}
use lib.IntN.{pos}
use lib.ListN.{replicate}
use Rattle.page.proofs.Lines.{list_front, line_put}
use Rattle.page.proofs.loop_lines.put_loop.Goals as goal

pub returns : goal.returns
returns c =
    line_put c.args.t c.args.number c.args.lines.now c.args.run.now c.row_of.ensures
    (list_front c.args.run.now (replicate 256 (pos 0)) _ c.list_run.ensures) (search rules)
