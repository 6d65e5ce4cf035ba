use mir.Facts.{to_z-of_z}
use Rattle.cases.proofs.Printed.{put_all, put_text, line_room}
use Rattle.cases.proofs.put_signed.Goals as goal

pub returns-clause-count : goal.returns-clause-count
returns-clause-count g c =
    put_all (rw (to_z-of_z c.ranges.x) at c.put_line-end.ensures) (line_room c.args.x c.ranges.x.sfits)

pub returns-clause-bytes : goal.returns-clause-bytes
returns-clause-bytes g c =
    rw (put_text (rw (to_z-of_z c.ranges.x) at c.put_line-end.ensures) (line_room c.args.x c.ranges.x.sfits))
    at c.in_ok-write_all.ensures.bytes
