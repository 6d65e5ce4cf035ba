use lib.IntN.{nat_abs}
use mathlib.Core.Path.{◌≡◌, ◌∙◌}
use native.Mathlib.Omega.{arith}
use Rattle.laws.proofs.Signed.{back}
use Rattle.laws.proofs.Size.{not_negative}
use Rattle.book.specs.Line.{from_at}
use borrow.Author.Rules.{rules}
use Rattle.fields.proofs.from_mark.Statement.{statement}
use Rattle.fields.proofs.from_mark.Tie as tie

index-requires : tie.Need-index-requires
index-requires c κs =
    let s = c.before in rw (back (from_at s.args.lines.now s.args.i) c.index-arg-1.given) (not_negative s.requires.good.from)

returns : tie.Need-returns
returns c =
    let s = c.before.before in
    let e : c.index.result ≡ nat_abs (from_at s.args.lines.now s.args.i) =
    c.index.ensures ∙ rw (back (from_at s.args.lines.now s.args.i) c.index-arg-1.given) in
    (e, omega (arith, s.requires.good.from.low), omega (arith, s.requires.good.from.high))

pub from_mark_spec : {M : Type 1} → statement M
from_mark_spec =
    tie.close
    (tie.spec (λ c. search rules) (λ c. search rules) (λ c. search rules) (λ c. search rules) index-requires returns)
