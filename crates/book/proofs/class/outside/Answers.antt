use Rattle.std.proofs.Common.{rules, ◌≡◌, ◌∙◌}
use Rattle.book.specs.Version.{has_classes, class_out}
use Rattle.book.proofs.class.outside.Goals as goal

pub returns-then-has_classes : goal.returns-then-has_classes
unfolding class_out
returns-then-has_classes c =
    let known : c.has_classes.result ≡ has_classes c.args.version = c.has_classes.ensures ∙ search rules in
    rw (← known, c.if-has_classes.true, c.outside.ensures) (search rules)

pub returns : goal.returns
unfolding class_out
returns c =
    let known : c.has_classes.result ≡ has_classes c.args.version = c.has_classes.ensures ∙ search rules in
    rw (← known, c.if-has_classes.false, c.same.ensures) (search rules)
