use mathlib.Core.Path.{◌≡◌, sym, ◌∙◌, ap, subst}
use native.Mathlib.Omega.{arith}
use Rattle.book.specs.Lent.{lent}
use Rattle.lists.specs.Listing.{answer_of, Listing, listing_of}
use Rattle.level.specs.Listings.{SmallListed, of_listing}
use Rattle.level.proofs.Small.{listing_small}
use borrow.Author.Rules.{rules}
use Rattle.level.proofs.level_listing.Statement.{statement}
use Rattle.level.proofs.level_listing.Tie as tie

-- what the call below answered, at the numbers that were lent
called : (c : tie.After-listing)
    → (let a = c.args in answer_of c.listing.result
    ≡ (listing_of (lent a.version a.b a.t a.held.now a.lines.now) a.number a.out.now).answer)
called c = ap (λ (o : Listing). o.answer) c.listing.ensures ∙ search rules

listing-answer-requires : tie.Need-listing_answer-requires
listing-answer-requires c κs =
    let r = c.before in
    let s = r.before.before in
    let a = s.args in
    subst SmallListed (sym (called r)) (listing_small (lent a.version a.b a.t a.held.now a.lines.now) a.out.now
    (omega (arith, s.well_formed)) a.number)

returns : tie.Need-returns
returns c = rw c.listing_answer.ensures (ap of_listing c.listing.ensures ∙ search rules)

pub level_listing_spec : {M : Type 1} → statement M
level_listing_spec = tie.close (tie.spec (λ c κs. search rules) listing-answer-requires (λ c. search rules) returns)
