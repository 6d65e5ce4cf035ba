use Rattle.std.proofs.Common.{rules, ◌∙◌, sym, refl}
use Rattle.writer.proofs.Answers.{not_said, no_room, is_written}
use Rattle.writer.proofs.write_good.Goals as goal

pub returns-then-cannot_say : goal.returns-then-cannot_say
returns-then-cannot_say c = sym (not_said _ _ _ _ (sym c.cannot_say.ensures ∙ c.if-cannot_say.true))

pub returns-then-file-bytes : goal.returns-then-file-bytes
returns-then-file-bytes c =
    sym (no_room _ _ _ _ (sym c.cannot_say.ensures ∙ c.if-cannot_say.false) (rw (← c.length_of-bytes.ensures) c.if-file-bytes.true))

pub returns : goal.returns
returns c =
    is_written _ _ _ _ _ _ _ (sym c.cannot_say.ensures ∙ c.if-cannot_say.false) refl c.length_of-bytes.ensures c.if-file-bytes.false
    c.fill.ensures
