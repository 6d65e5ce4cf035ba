use Rattle.file.specs.Read.{Outcome}
use mathlib.Core.Path.{sym, subst, ap}
use Rattle.level.specs.Signed.{SmallRead}
use Rattle.level.proofs.Small.{read_small}
use borrow.Author.Rules.{rules}
use Rattle.level.proofs.level_read.Statement.{statement}
use Rattle.level.proofs.level_read.Tie as tie

read-answer-requires : tie.Need-read_answer-requires
read-answer-requires c κs =
    let r = c.before.before in
    let a = r.args in
    subst SmallRead (sym (ap (λ (o : Outcome). o.answer) r.read.ensures)) (read_small a.file.now a.held.now a.lines.now)

returns : tie.Need-returns
returns c = rw (← c.read.ensures, c.read_answer.ensures)

pub level_read_spec : {M : Type 1} → statement M
level_read_spec =
    tie.close (tie.spec (λ c κs. search rules) read-answer-requires (λ c. search rules) (λ c. search rules) returns)
