use Rattle.std.proofs.Common.{rules, ◌≡◌, arith}
use Rattle.survey.proofs.Keeping.{no_ten, answer_is, rows_are, answer_words, refreshed_fewer}
use Rattle.survey.proofs.correct.refresh.Goals as goal

pub returns-in_err-found : goal.returns-in_err-found
returns-in_err-found c =
    let r = c.requires.refresh in
    absurd (no_ten _ _ c.requires.good _ _ _ (omega (arith, r.fewer, r.places)) c.in_err-found.ensures)

pub overflow_mul-found : goal.overflow_mul-found
overflow_mul-found c =
    let r = c.requires.refresh in
    let words = answer_words _ _ c.requires.good _ _ _ (omega (arith, r.fewer, r.places)) c.in_ok-found.ensures in
    omega (arith, words, r.fewer, r.places, c.well_formed)

pub vacate-requires : goal.vacate-requires
vacate-requires c =
    let r = c.requires.refresh in
    let words = answer_words _ _ c.requires.good _ _ _ (omega (arith, r.fewer, r.places)) c.in_ok-found.ensures in
    omega (arith, words, r.fewer, r.places, c.survey_good.auto)

pub returns : goal.returns
returns c =
    let r = c.requires.refresh in
    let e = c.in_ok-found.ensures in
    refreshed_fewer _ _ c.requires.good _ _ _ _ _ _ r
    (answer_words _ _ c.requires.good _ _ _ (omega (arith, r.fewer, r.places)) e)
    (answer_is _ _ c.requires.good _ _ _ (omega (arith, r.fewer, r.places)) e)
    (rows_are _ _ c.requires.good _ _ _ (omega (arith, r.fewer, r.places)) e) c.vacate.ensures
