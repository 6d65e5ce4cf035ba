use Rattle.std.proofs.Common.{◌≡◌, take}
use Rattle.std.proofs.lemmas.List.{take_min}
use Rattle.text.specs.Bytes.{bytes}
use Rattle.text.proofs.Puts.{◌then◌}
use Rattle.cases.specs.Cases.{numbers_text}
use Rattle.cases.proofs.put_numbers.Goals as goal

pub returns : goal.returns
unfolding numbers_text bytes
returns c =
    let first : take c.min-most.result c.args.s.now ≡ take 7 c.args.s.now = rw c.min-most.ensures (take_min 7 c.args.s.now) in
    rw first at c.put_listed-at.ensures then c.put-at.ensures then (rw c.digest.ensures at c.put_number.ensures)
