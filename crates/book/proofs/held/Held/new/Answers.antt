use Rattle.std.proofs.Common.{rules, ◌≡◌, ◌∙◌, refl, pos}
use Rattle.std.proofs.lemmas.Result.{err_from_is_err_and}
use Rattle.laws.specs.Tests.{out_z}
use Rattle.book.specs.Held.{held_out, held_entry_of}
use Rattle.book.proofs.Made.{held_height_made, no_held_height}
use Rattle.book.proofs.held.Held.new.Goals as goal

pub returns-then-outside-clause-made : goal.returns-then-outside-clause-made
unfolding held_entry_of held_out
returns-then-outside-clause-made c =
    let out : c.outside.result ≡ out_z (pos 1) c.args.b c.args.mark = c.outside.ensures ∙ search rules in
    rw (← out, c.if-outside.true)

pub returns-in_err-height-clause-made : goal.returns-in_err-height-clause-made
unfolding held_entry_of held_out
returns-in_err-height-clause-made c =
    let out : c.outside.result ≡ out_z (pos 1) c.args.b c.args.mark = c.outside.ensures ∙ search rules in
    let none = no_held_height c.args.height _ (c.in_err-height.ensures.made ∙ search rules) _ refl in
    let told = err_from_is_err_and c.from_residual.result c.from_residual.ensures.1 in
    rw (told.1, told.2, none.1, ← out, c.if-outside.false, none.0)

pub returns-clause-made : goal.returns-clause-made
unfolding held_entry_of held_out
returns-clause-made c =
    let out : c.outside.result ≡ out_z (pos 1) c.args.b c.args.mark = c.outside.ensures ∙ search rules in
    let its = held_height_made c.args.height _ (c.in_ok-height.ensures.made ∙ search rules) _ refl in
    rw (its.1, ← out, c.if-outside.false, its.0) (search rules)
