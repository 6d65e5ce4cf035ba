use Rattle.std.proofs.Common.{rules, ◌∙◌}
use Rattle.book.specs.Line.{entry_of}
use Rattle.book.proofs.line.line_of.Goals as goal

pub returns : goal.returns
unfolding entry_of
returns c = c.new.ensures ∙ search rules
