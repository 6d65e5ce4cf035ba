use Rattle.std.proofs.Common.{rules, ◌≡◌, ◌∙◌, refl}
use Rattle.book.specs.Line.{class_at, class_fault}
use Rattle.book.specs.Version.{class_out}
use Rattle.book.proofs.Lines.{fault_refused, fault_good}
use Rattle.book.proofs.line.fault_of.Goals as goal

pub returns-in-Err : goal.returns-in-Err
returns-in-Err c = fault_refused c.args.version c.args.b c.args.e.now _ (c.in-Err.ensures ∙ search rules) _ _ refl

pub returns-in-Ok : goal.returns-in-Ok
unfolding class_fault
returns-in-Ok c =
    let out : c.outside.result ≡ class_out c.args.version (class_at c.args.e.now 0) = c.outside.ensures ∙ search rules in
    rw (fault_good c.args.version c.args.b c.args.e.now _ (c.in-Ok.ensures ∙ search rules) _ refl, ← out, c.if-outside.true)

pub returns-in-Ok-2 : goal.returns-in-Ok-2
unfolding class_fault
returns-in-Ok-2 c =
    let out : c.outside.result ≡ class_out c.args.version (class_at c.args.e.now 0) = c.outside.ensures ∙ search rules in
    rw (fault_good c.args.version c.args.b c.args.e.now _ (c.in-Ok.ensures ∙ search rules) _ refl, ← out, c.if-outside.false)
