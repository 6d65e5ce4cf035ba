use Rattle.std.proofs.Common.{rules, ◌≡◌, ◌∙◌, ap, w64, to_z, of_z}
use Rattle.laws.proofs.Signed.{stored}
use Rattle.rates.specs.Rates.{answer_of}
use Rattle.level.specs.Rating.{signed_rate, withdrawn_of, rate_of}
use lib.Ieee.{of_bits}
use Rattle.level.proofs.line_rate.Goals as goal

pub returns-in-PerKm : goal.returns-in-PerKm
unfolding answer_of signed_rate withdrawn_of rate_of
returns-in-PerKm c =
    let correction : to_z w64 (of_z w64 c.args.its.correction) ≡ c.args.its.correction = search rules in
    rw (stored _ c.signed_count-line.type_inv c.signed_count-line.ensures, correction, c.in-PerKm.is)

pub returns-in-Withdrawn : goal.returns-in-Withdrawn
unfolding answer_of signed_rate withdrawn_of rate_of of_bits
returns-in-Withdrawn c =
    let correction : to_z w64 (of_z w64 c.args.its.correction) ≡ c.args.its.correction = search rules in
    rw (stored _ c.signed_count-line.type_inv c.signed_count-line.ensures, correction, c.in-Withdrawn.is)
