use Rattle.std.proofs.Common.{sym, ◌∙◌, ◌≡◌, true, false, pos}
use native.Mathlib.Omega.{arith}
use borrow.Author.Tests.{eq-eqb, ne_eqb}
use Rattle.laws.specs.Tests.{eq_z}
use Rattle.laws.proofs.Signed.{eq_bits}
use Rattle.laws.proofs.Size.{size_fits}
use Rattle.text.specs.Bytes.{bytes}
use Rattle.text.specs.Report.{verdict_text}
use Rattle.text.proofs.put_verdict.Goals as goal

pub returns-then-verdict-eq0 : goal.returns-then-verdict-eq0
unfolding bytes verdict_text
returns-then-verdict-eq0 c =
    let within : eq_z c.args.verdict (pos 0) ≡ true =
    sym (eq_bits c.args.verdict (pos 0) c.ranges.verdict (size_fits (pos 0) (omega arith))) ∙ eq-eqb _ _ c.if-verdict-eq0.true in
    rw within c.put.ensures

pub returns-else-verdict-eq0 : goal.returns-else-verdict-eq0
unfolding bytes verdict_text
returns-else-verdict-eq0 c =
    let over : eq_z c.args.verdict (pos 0) ≡ false =
    sym (eq_bits c.args.verdict (pos 0) c.ranges.verdict (size_fits (pos 0) (omega arith))) ∙ ne_eqb _ _ c.if-verdict-eq0.false in
    rw over c.put-else-verdict-eq0.ensures
