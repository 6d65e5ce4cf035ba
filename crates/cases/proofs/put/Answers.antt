use Rattle.cases.proofs.Printed.{put_all, put_text, spaced_room}
use Rattle.cases.proofs.put.Goals as goal

pub returns-clause-count : goal.returns-clause-count
returns-clause-count g c = put_all c.put_spaced-end.ensures (spaced_room c.args.n c.ranges.n.fits)

pub returns-clause-bytes : goal.returns-clause-bytes
returns-clause-bytes g c =
    rw (put_text c.put_spaced-end.ensures (spaced_room c.args.n c.ranges.n.fits)) at c.in_ok-write_all.ensures.bytes
