use mathlib.Core.Path.{◌≡◌, sym, ◌∙◌, ap, subst}
use borrow.Author.Rules.{rules}
use Rattle.book.specs.Lent.{lent}
use Rattle.junctions.specs.Call.{answer_of, lists, Drawing, sketch_call}
use Rattle.level.specs.Sketches.{SmallSketched, of_sketch}
use Rattle.level.proofs.Small.{sketch_small}
use Rattle.level.proofs.level_sketch.Statement.{statement}
use Rattle.level.proofs.level_sketch.Tie as tie

-- what the call below answered, at the numbers that were lent
called : (c : tie.After-sketch) → (let s : tie.Start = search in let a = s.args in
    answer_of c.sketch.result ≡ (sketch_call (lent a.version a.b a.t a.held.now a.lines.now)
    (lists a.links.now a.spurs.now a.loops.now a.run.now)).answer)
called c = ap (λ (o : Drawing). o.answer) c.sketch.ensures ∙ search rules

sketch-answer-requires : tie.Need-sketch_answer-requires
sketch-answer-requires c κs =
    let after-sketch : tie.After-sketch = search in
    let s : tie.Start = search in
    let a = s.args in
    subst SmallSketched (sym (called after-sketch)) (sketch_small (lent a.version a.b a.t a.held.now a.lines.now)
    (lists a.links.now a.spurs.now a.loops.now a.run.now))

returns : tie.Need-returns
returns c =
    let after-sketch : tie.After-sketch = search in
    rw c.sketch_answer.ensures (ap of_sketch after-sketch.sketch.ensures ∙ search rules)

pub level_sketch_spec : {M : Type 1} → statement M
level_sketch_spec =
    tie.close
    (tie.spec
    (λ c κs. search rules)  -- sketch-requires
    sketch-answer-requires
    (λ c. search rules)  -- shape_of-links
    (λ c. search rules)  -- shape_of-spurs
    (λ c. search rules)  -- shape_of-loops
    (λ c. search rules)  -- shape_of-run
    returns)
