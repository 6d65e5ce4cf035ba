use Rattle.std.proofs.Common.{rules, ◌≡◌, ◌∙◌, ap, w64, to_z, of_z}
use Rattle.laws.proofs.Signed.{stored}
use Rattle.rates.specs.Rates.{answer_of, refused_with}
use Rattle.level.specs.Rating.{SmallRate, signed_rate, withdrawn_of, rate_of}
use lib.Ieee.{of_bits}
use Rattle.level.proofs.rate_answer.Goals as goal

pub line_rate-requires : goal.line_rate-requires
unfolding answer_of
line_rate-requires c = (rw c.in-Ok.is at c.requires).line

pub signed_refusal-r-requires : goal.signed_refusal-r-requires
unfolding answer_of refused_with
signed_refusal-r-requires c = (rw c.in-Err.is at c.requires).refusal

pub returns-in-Ok : goal.returns-in-Ok
returns-in-Ok c = rw c.in-Ok.is c.line_rate.ensures

pub returns-in-Err : goal.returns-in-Err
unfolding answer_of refused_with signed_rate withdrawn_of rate_of of_bits
returns-in-Err c =
    let r = c.signed_refusal-r.result in
    let number : to_z w64 (of_z w64 r.number) ≡ r.number = search rules in
    let place : to_z w64 (of_z w64 r.place) ≡ r.place = search rules in
    rw (number, place, c.signed_refusal-r.ensures, c.in-Err.is)
