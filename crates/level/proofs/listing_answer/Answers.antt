use Rattle.std.proofs.Common.{rules, ◌≡◌, ◌∙◌, ap, w64, to_z, of_z}
use Rattle.laws.proofs.Signed.{stored}
use Rattle.level.specs.Listings.{signed_listed}
use Rattle.level.proofs.listing_answer.Goals as goal

pub returns-in-Ok : goal.returns-in-Ok
unfolding signed_listed
returns-in-Ok c =
    rw (
      c.in-Ok.is,
      stored _ c.signed_count.type_inv c.signed_count.ensures,
    )

pub returns-in-Err : goal.returns-in-Err
unfolding signed_listed
returns-in-Err c =
    let r = c.signed_refusal-r.result in
    let number : to_z w64 (of_z w64 r.number) ≡ r.number = search rules in
    let place : to_z w64 (of_z w64 r.place) ≡ r.place = search rules in
    rw (number, place, c.signed_refusal-r.ensures, c.in-Err.is)
