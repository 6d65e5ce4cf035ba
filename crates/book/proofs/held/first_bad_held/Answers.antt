use Rattle.std.proofs.Common.{rules, ◌≡◌, ◌∙◌, sym, refl, false, arith, w64, to_z, of_z}
use Rattle.laws.specs.Tests.{eq_z}
use Rattle.laws.proofs.Scans.{scan_start, scan_next, scan_stop, scan_end, any_none, any_next, any_found}
use Rattle.book.specs.Held.{mark_at, height_at, held_out, held_before, held_bad, first_bad_held}
use Rattle.book.proofs.Made.{entry_made, no_entry}
use Rattle.book.proofs.held.first_bad_held.Goals as goal

pub loop-i-init : goal.loop-i-init
loop-i-init c = scan_start _ _

pub loop-j-init : goal.loop-j-init
unfolding held_before
loop-j-init c = any_none (λ j. eq_z (mark_at c.args.held.now j) (mark_at c.args.held.now c.loop-i.i))

pub loop-j-preserved : goal.loop-j-preserved
unfolding held_before
loop-j-preserved c =
    let held = c.args.held.now in
    let b = to_z w64 (of_z w64 c.args.b) in
    let i = c.loop-i.i in
    let j = c.loop-j.j in
    let its = entry_made b (mark_at held i) (height_at held i) _ (c.in-Ok.ensures.made ∙ search rules) _ refl in
    let same : c.same.result ≡ eq_z (mark_at held j) (mark_at held i) = rw (← its.1) (c.same.ensures ∙ search rules) in
    any_next _ j c.loop-j.invariant (sym same ∙ c.if-same.false)

pub loop-i-preserved : goal.loop-i-preserved
unfolding held_bad
loop-i-preserved c =
    let held = c.args.held.now in
    let b = to_z w64 (of_z w64 c.args.b) in
    let i = c.loop-i.i in
    let its = entry_made b (mark_at held i) (height_at held i) _ (c.in-Ok.ensures.made ∙ search rules) _ refl in
    let end : c.loop-j.j ≡ i = omega arith in
    scan_next _ _ i c.loop-i-test.true (rw its.0 (rw end at c.loop-j.invariant)) c.loop-i.invariant

pub returns-in_default-clause-found : goal.returns-in_default-clause-found
unfolding first_bad_held held_bad
returns-in_default-clause-found c =
    let held = c.args.held.now in
    let b = to_z w64 (of_z w64 c.args.b) in
    let i = c.loop-i.i in
    let out = no_entry b (mark_at held i) (height_at held i) _ (c.in_default.ensures.made ∙ search rules) _ refl in
    scan_stop _ _ i c.loop-i-test.true (rw out) c.loop-i.invariant ∙ search rules

pub returns-then-same-clause-found : goal.returns-then-same-clause-found
unfolding first_bad_held held_bad held_before
returns-then-same-clause-found c =
    let held = c.args.held.now in
    let b = to_z w64 (of_z w64 c.args.b) in
    let i = c.loop-i.i in
    let j = c.loop-j.j in
    let its = entry_made b (mark_at held i) (height_at held i) _ (c.in-Ok.ensures.made ∙ search rules) _ refl in
    let same : c.same.result ≡ eq_z (mark_at held j) (mark_at held i) = rw (← its.1) (c.same.ensures ∙ search rules) in
    let found = any_found (λ j. eq_z (mark_at held j) (mark_at held i)) i j c.loop-j-test.true (sym same ∙ c.if-same.true) in
    scan_stop _ _ i c.loop-i-test.true (rw (its.0, found)) c.loop-i.invariant ∙ search rules

pub returns-after-loop-i-clause-found : goal.returns-after-loop-i-clause-found
unfolding first_bad_held
returns-after-loop-i-clause-found c = scan_end _ _ c.loop-i.i c.loop-i-test.false c.loop-i.invariant ∙ search rules
