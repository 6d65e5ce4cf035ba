use Rattle.std.proofs.Common.{rules, ◌≡◌, ◌∙◌, ap, w64, to_z, of_z}
use Rattle.laws.proofs.Signed.{stored}
use Rattle.level.specs.Signed.{signed_read}
use Rattle.level.proofs.read_answer.Goals as goal

pub returns-in-Ok : goal.returns-in-Ok
unfolding signed_read
returns-in-Ok c =
    rw (
      c.in-Ok.is,
      stored _ c.signed_count.type_inv c.signed_count.ensures,
      stored _ c.signed_count-in-Ok.type_inv c.signed_count-in-Ok.ensures,
      stored _ c.signed_count-in-Ok-2.type_inv c.signed_count-in-Ok-2.ensures,
      stored _ c.signed_count-in-Ok-3.type_inv c.signed_count-in-Ok-3.ensures,
      stored _ c.signed_count-in-Ok-4.type_inv c.signed_count-in-Ok-4.ensures,
    )

pub returns-in-Err : goal.returns-in-Err
unfolding signed_read
returns-in-Err c =
    let r = c.signed_refusal-r.result in
    let number : to_z w64 (of_z w64 r.number) ≡ r.number = search rules in
    let place : to_z w64 (of_z w64 r.place) ≡ r.place = search rules in
    rw (number, place, c.signed_refusal-r.ensures, c.in-Err.is)
