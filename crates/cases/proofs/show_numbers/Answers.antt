use Rattle.text.proofs.Puts.{put_first}
use Rattle.cases.proofs.show_numbers.Goals as goal

pub returns-clause-bytes : goal.returns-clause-bytes
returns-clause-bytes g c = rw (put_first c.put_numbers-end.ensures) at c.in_ok-write_all.ensures.bytes
