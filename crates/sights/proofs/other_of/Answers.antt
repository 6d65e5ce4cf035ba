use Rattle.std.proofs.Common.{arith, ℕ, ◌-◌, sym, ◌∙◌, ap}
use Rattle.sights.specs.Sights.{Sight}
use Rattle.sights.proofs.Halves.{along_half, against_half}
use Rattle.sights.proofs.other_of.Goals as goal
use Rattle.sights.proofs.other_of.Goals.{then-h-eq0, else-h-eq0}

pub returns : goal.returns
returns c =
    let here = λ (s : Sight). s.other - 1 in
    let lines = c.args.lines.now in
    let h = c.args.h in
    elim c.if-h-eq0.branch [
      | then-h-eq0 w ↦ (
        ap (λ (x : ℕ). x - 1) (w.mark-is ∙ w.to_mark-mark.ensures.0) ∙ sym (ap here (along_half lines h w.if-h-eq0.true)),
        omega (arith, w.mark-is, w.to_mark-mark.ensures),
      )
      | else-h-eq0 w ↦ (
        ap (λ (x : ℕ). x - 1) (w.mark-is ∙ w.from_mark-mark.ensures.0) ∙ sym (ap here (against_half lines h w.if-h-eq0.false)),
        omega (arith, w.mark-is, w.from_mark-mark.ensures),
      )
    ]
