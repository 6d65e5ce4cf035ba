use Rattle.std.proofs.Common.{rules, ◌≡◌, ◌∙◌, refl, sym, ap₂, pos, ℕ, ℤ, List, Bool, true, false, length, arith}
use Rattle.std.proofs.lemmas.Result.{err_from_is_err_and}
use lib.ListN.{get_or}
use Rattle.laws.proofs.Scans.{scan_start, scan_next, scan_stop, scan_end}
use Rattle.book.specs.Height.{work_height_out}
use Rattle.book.specs.Refusals.{Told}
use Rattle.book.specs.Test.{refusal}
use Rattle.book.proofs.Made.{work_height_made, no_work_height}
use Rattle.rates.specs.Rates.{first_high}
use Rattle.rates.proofs.test_heights.Goals as goal

abbrev out_at : List ℤ → ℕ → Bool
out_at heights i = work_height_out (get_or heights i (pos 0))

pub loop-i-init : goal.loop-i-init
loop-i-init c = scan_start (out_at c.args.heights.now) (length c.args.heights.now)

pub loop-i-preserved : goal.loop-i-preserved
loop-i-preserved c =
    let heights = c.args.heights.now in
    let i = c.loop-i.i in
    let inside = work_height_made (get_or heights i (pos 0)) _ (c.in_ok-in_work.ensures.made ∙ search rules) _ refl in
    scan_next (out_at heights) (length heights) i c.loop-i-test.true inside.0 c.loop-i.invariant

pub returns-in_err-in_work-clause-outside : goal.returns-in_err-in_work-clause-outside
unfolding first_high
returns-in_err-in_work-clause-outside c =
    let heights = c.args.heights.now in
    let i = c.loop-i.i in
    let told = err_from_is_err_and c.from_residual.result c.from_residual.ensures.1 in
    let out = no_work_height (get_or heights i (pos 0)) _ (c.in_err-in_work.ensures.made ∙ search rules) _ refl in
    let first = scan_stop (out_at heights) (length heights) i c.loop-i-test.true out.0 c.loop-i.invariant in
    rw (told.1, told.2, out.1, c.in_err-in_work.ensures.at, ← first)

pub returns-in_err-in_work-clause-at : goal.returns-in_err-in_work-clause-at
returns-in_err-in_work-clause-at c =
    let told = err_from_is_err_and c.from_residual.result c.from_residual.ensures.1 in
    rw (told.1, told.2) (omega (arith, c.in_err-in_work.ensures.at))

pub returns-clause-inside : goal.returns-clause-inside
unfolding first_high
returns-clause-inside c =
    let heights = c.args.heights.now in
    sym (scan_end (out_at heights) (length heights) c.loop-i.i c.loop-i-test.false c.loop-i.invariant)
