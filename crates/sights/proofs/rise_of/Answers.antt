use Rattle.std.proofs.Common.{◌≡◌, sym, ◌∙◌, ap}
use lib.IntN.{neg_ℤ, +ℤ_idl}
use mir.Syntax.{w64}
use mir.Val.{to_z, of_z}
use Rattle.laws.proofs.Signed.{back, stored}
use Rattle.laws.proofs.Size.{size_neg}
use Rattle.book.specs.Line.{difference_at}
use Rattle.sights.specs.Sights.{Sight}
use Rattle.sights.specs.Halves.{place_of}
use Rattle.sights.proofs.Halves.{along_half, against_half}
use Rattle.sights.proofs.rise_of.Goals as goal

pub returns-then-h-eq0 : goal.returns-then-h-eq0
returns-then-h-eq0 c =
    let d = c.difference_of-d in
    let e : to_z w64 (of_z w64 c.sub.result) ≡ neg_ℤ (difference_at c.args.lines.now (place_of c.args.h)) =
    stored c.sub.result c.sub.type_inv (c.sub.ensures ∙ rw (stored d.result d.type_inv d.ensures.0, +ℤ_idl)) in (
      e ∙ sym (ap (λ (x : Sight). x.rise) (along_half c.args.lines.now c.args.h c.if-h-eq0.true)),
      rw (e, size_neg) c.requires.place.good.difference,
    )

pub returns-else-h-eq0 : goal.returns-else-h-eq0
returns-else-h-eq0 c =
    let d = c.difference_of-d in (
      stored d.result d.type_inv d.ensures.0
          ∙ sym (ap (λ (x : Sight). x.rise) (against_half c.args.lines.now c.args.h c.if-h-eq0.false)),
      rw (back d.result d.type_inv) d.ensures.1,
    )
