use mathlib.Core.Path.{◌≡◌, sym, ◌∙◌, ap, subst}
use native.Mathlib.Omega.{arith}
use Rattle.book.specs.Lent.{lent}
use Rattle.writer.specs.Write.{answer_of, Writing, write_of}
use Rattle.level.specs.Writings.{SmallWritten, of_writing}
use Rattle.level.proofs.Small.{write_small}
use borrow.Author.Rules.{rules}
use Rattle.level.proofs.level_write.Statement.{statement}
use Rattle.level.proofs.level_write.Tie as tie

-- what the call below answered, at the numbers that were lent
called : (c : tie.After-write)
    → (let entry : tie.Start = search in let a = entry.args in answer_of c.write.result
    ≡ (write_of (lent a.version a.b a.t a.held.now a.lines.now) a.file.now).answer)
called c = ap (λ (w : Writing). w.answer) c.write.ensures ∙ search rules

write-answer-requires : tie.Need-write_answer-requires
write-answer-requires c κs =
    let written : tie.After-write = search in
    let entry : tie.Start = search in
    let a = entry.args in
    subst SmallWritten (sym (called written)) (write_small (lent a.version a.b a.t a.held.now a.lines.now) a.file.now
    (omega (arith, entry.well_formed)))

returns : tie.Need-returns
returns c =
    let written : tie.After-write = search in
    rw c.write_answer.ensures (ap of_writing written.write.ensures ∙ search rules)

pub level_write_spec : {M : Type 1} → statement M
level_write_spec = tie.close (tie.spec (λ c κs. search rules) write-answer-requires (λ c. search rules) returns)
