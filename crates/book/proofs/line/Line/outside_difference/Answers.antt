use Rattle.std.proofs.Common.{rules, ◌∙◌}
use Rattle.book.specs.Line.{difference_out}
use Rattle.book.proofs.line.Line.outside_difference.Goals as goal

pub returns : goal.returns
unfolding difference_out
returns c = c.outside.ensures ∙ search rules
