use Rattle.std.proofs.Common.{rules, ◌≡◌, map, ◌∙◌, ap, arith}
use Rattle.std.proofs.lemmas.Grind.{common_steps}
use Rattle.std.proofs.lemmas.List.Edits.{map_over_more}
use Rattle.joins.specs.Code.{flip_code}
use Rattle.joins.proofs.Turned.{turned_is}
use Rattle.joins.proofs.run.turn.Goals as goal

pub loop-code-preserved : goal.loop-code-preserved
loop-code-preserved c =
    rw c.flip.ensures (map_over_more (λ code. flip_code code) _ _ _ _ (omega arith) c.loop-code.invariant (search rules))

pub returns : goal.returns
returns c =
    let all : c.loop-code.code-items ≡ map flip_code c.reverse.new.self = grind (arith, common_steps, c.loop-code.invariant) in
    all ∙ ap (map flip_code) c.reverse.ensures.after ∙ turned_is _
