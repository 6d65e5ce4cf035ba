use Rattle.std.proofs.Common.{◌∙◌, ap, length, take, ◌-◌, drop}
use Rattle.writer.proofs.Numbers.{last_bytes}
use Rattle.writer.proofs.wire.put.Goals as goal

pub returns : goal.returns
returns c =
    let k = length c.args.out.now in
    c.copy_from_slice.ensures.after
    ∙ ap (λ b. take (8 - (8 - k)) (drop (8 - k) b)) c.to_be_bytes-bytes.ensures
    ∙ last_bytes k c.args.x c.requires
