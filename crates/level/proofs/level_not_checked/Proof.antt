use mathlib.Core.Path.{◌≡◌, sym, ◌∙◌, ap, subst}
use native.Mathlib.Omega.{arith}
use Rattle.book.specs.Lent.{lent}
use Rattle.lists.specs.Listing.{answer_of, Listing}
use Rattle.lists.specs.NotChecked.{not_checked_of}
use Rattle.level.specs.Listings.{SmallListed, of_listing}
use Rattle.level.proofs.Small.{not_checked_small}
use borrow.Author.Rules.{rules}
use Rattle.level.proofs.level_not_checked.Statement.{statement}
use Rattle.level.proofs.level_not_checked.Tie as tie

-- what the call below answered, at the numbers that were lent
called : (c : tie.After-not_checked)
    → (let a = c.args in answer_of c.not_checked.result
    ≡ (not_checked_of (lent a.version a.b a.t a.held.now a.lines.now) a.out.now).answer)
called c = ap (λ (o : Listing). o.answer) c.not_checked.ensures ∙ search rules

listing-answer-requires : tie.Need-listing_answer-requires
listing-answer-requires c κs =
    let r = c.before in
    let s = r.before.before in
    let a = s.args in
    subst SmallListed (sym (called r)) (not_checked_small (lent a.version a.b a.t a.held.now a.lines.now) a.out.now
    (omega (arith, s.well_formed)))

returns : tie.Need-returns
returns c = rw c.listing_answer.ensures (ap of_listing c.not_checked.ensures ∙ search rules)

pub level_not_checked_spec : {M : Type 1} → statement M
level_not_checked_spec = tie.close (tie.spec (λ c κs. search rules) listing-answer-requires (λ c. search rules) returns)
