use Rattle.std.proofs.Common.{ℕ, arith}
use lib.ListN.{length-replicate}
use Rattle.text.proofs.Puts.{put_first}
use Rattle.cases.proofs.print_text.Goals as goal

pub shared_whole_as_front-write_all : goal.shared_whole_as_front-write_all
shared_whole_as_front-write_all g c =
    let e = length-replicate {0} {A = ℕ} g.row.ROOM 0 in
    (omega (arith, c.put-len.ensures.next_is, e), omega (arith, c.requires))

pub returns : goal.returns
returns g c = rw (put_first c.put-len.ensures, length-replicate {0} {A = ℕ} g.row.ROOM 0) at c.write_all.ensures.bytes
