use mathlib.Core.Path.{◌≡◌}
use native.Mathlib.Omega.{arith}
use lib.IntN.{pos}
use Rattle.laws.proofs.Signed.{stored}
use Rattle.book.specs.Version.{has_classes}
use Rattle.writer.specs.Write.{cannot_say}
use borrow.Author.Rules.{rules}
use Rattle.writer.proofs.cannot_say.Statement.{statement}
use Rattle.writer.proofs.cannot_say.Tie as tie

flag : (c : tie.After-has_classes) → (let entry : tie.Start = search in
    c.has_classes.result ≡ has_classes (pos entry.args.book.version))
flag c =
    let v = c.before in
    rw (stored v.signed_count.result v.signed_count.type_inv v.signed_count.ensures) at c.has_classes.ensures

returns : tie.Need-returns-then-has_classes
unfolding cannot_say
returns c = rw (← (flag c.before), c.if-has_classes.true)

returns-2 : tie.Need-returns
unfolding cannot_say
returns-2 c =
    let known : tie.After-has_classes = search in
    let else1 : tie.Else-has_classes = search in
    rw (← (flag known), else1.if-has_classes.false) c.any_withdrawn.ensures

pub cannot_say_spec : {M : Type 1} → statement M
cannot_say_spec =
    tie.close
    (tie.spec
    (λ c κs. omega (arith, c.requires.known_version))  -- signed_count-requires
    (λ c κs. search rules)  -- has_classes-requires
    returns
    (λ c κs. let entry : tie.Start = search in omega (arith, entry.requires.good.whole))  -- any_withdrawn-requires
    returns-2)
