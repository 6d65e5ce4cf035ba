use Rattle.std.proofs.Common.{rules, ◌∙◌}
use Rattle.book.specs.Version.{version_out}
use Rattle.book.proofs.Book.outside_version.Goals as goal

pub returns : goal.returns
unfolding version_out
returns c = c.outside.ensures ∙ search rules
