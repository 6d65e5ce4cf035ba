use Rattle.cases.specs.Answer.{answer_numbers}
use Rattle.cases.proofs.Appended.{then_all}
use Rattle.cases.proofs.put_answer.Goals.{in-Ok, in-Err}
use Rattle.cases.proofs.put_answer.Goals as goal

pub returns : goal.returns
unfolding answer_numbers
returns g c =
    let whole = then_all _ _ _ _ _ _ _ _ c.in_ok-put.ensures.bytes c.in_ok-put-2.ensures.bytes c.put_all.ensures in
    elim c.match-answer.branch [
      | in-Ok w ↦ rw w.in-Ok.is (rw w.number-is at whole)
      | in-Err w ↦ rw w.in-Err.is (rw (w.number-is, w.number.ensures, w.place.ensures) at whole)
    ]
