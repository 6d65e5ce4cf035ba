use Rattle.std.proofs.Common.{sym, ◌≡◌, nat_abs}
use mir.Facts.{to_z-of_z}
use Rattle.text.specs.Bytes.{bytes}
use Rattle.text.proofs.Puts.{◌then◌}
use Rattle.text.proofs.Numbers.{signed_below, signed_plain}
use Rattle.text.proofs.I64Number.put.Goals as goal

-- the sign, then the size
pub returns-then-below : goal.returns-then-below
unfolding bytes
returns-then-below c =
    let x = c.args.self in
    let stays = to_z-of_z c.ranges.self in
    let size : nat_abs x ≡ c.magnitude-size.result = sym (rw stays at c.magnitude-size.ensures) in
    rw (signed_below x (rw stays at c.if-below.true), size) (c.put_byte-at.ensures then c.put_number.ensures)

-- the size alone
pub returns : goal.returns
returns c =
    let x = c.args.self in
    let stays = to_z-of_z c.ranges.self in
    let size : nat_abs x ≡ c.magnitude-size.result = sym (rw stays at c.magnitude-size.ensures) in
    rw (signed_plain x (rw stays at c.if-below.false), size) c.put_number-2.ensures
