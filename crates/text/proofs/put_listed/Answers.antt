use Rattle.std.proofs.Common.{rules, ◌≡◌, get_or, pos, to_z, of_z}
use mir.Syntax.{w64}
use Rattle.text.specs.Report.{listed_text}
use Rattle.text.proofs.Lists.{listed_append}
use Rattle.text.proofs.Puts.{nothing_put, one_more, all_put}
use Rattle.text.proofs.put_listed.Goals as goal

pub loop-line-init : goal.loop-line-init
unfolding listed_text
loop-line-init c = search nothing_put

pub loop-line-preserved : goal.loop-line-preserved
loop-line-preserved c =
    let list = c.args.list.now in
    let i = c.loop-line.line-index in
    let line : to_z w64 (of_z w64 (get_or list i (pos 0))) ≡ get_or list i (pos 0) = search rules in
    one_more listed_text listed_append list i c.loop-line.invariant (pos 0) c.loop-line-test.true (rw line at c.put_line-next.ensures)

pub returns : goal.returns
returns c = search (all_put listed_text listed_append)
