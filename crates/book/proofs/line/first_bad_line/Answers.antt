use Rattle.std.proofs.Common.{rules, ◌≡◌, ◌∙◌, w64, to_z, of_z}
use native.Mathlib.Nat.{add-sub_cancel_left}
use borrow.Author.Tests.{lt-ltb}
use Rattle.laws.proofs.Scans.{scan_start, scan_next, scan_stop, scan_end}
use Rattle.book.specs.Line.{fault_number, fault_at, line_bad, first_bad_line}
use Rattle.book.proofs.Lines.{entry_fault, fault_from_1}
use Rattle.book.proofs.line.first_bad_line.Goals as goal

pub loop-i-init : goal.loop-i-init
loop-i-init c = scan_start _ _

pub returns-in-Some-clause-found : goal.returns-in-Some-clause-found
unfolding first_bad_line line_bad
returns-in-Some-clause-found c =
    let i = c.loop-i.i in
    let fault = c.in-Some.field-0 in
    let version = to_z w64 (of_z w64 c.args.version) in
    let b = to_z w64 (of_z w64 c.args.b) in
    let found : fault_number fault ≡ fault_at version b c.args.lines.now i
    = (simp add-sub_cancel_left at c.in-Some.ensures) ∙ entry_fault version b c.args.lines.now i in
    scan_stop _ _ i c.loop-i-test.true (rw (← found) (lt-ltb 0 (fault_number fault) (fault_from_1 fault))) c.loop-i.invariant
    ∙ search rules

pub loop-i-preserved : goal.loop-i-preserved
unfolding line_bad
loop-i-preserved c =
    let i = c.loop-i.i in
    let version = to_z w64 (of_z w64 c.args.version) in
    let b = to_z w64 (of_z w64 c.args.b) in
    let none : 0 ≡ fault_at version b c.args.lines.now i
    = (simp add-sub_cancel_left at c.in_default.ensures) ∙ entry_fault version b c.args.lines.now i in
    scan_next _ _ i c.loop-i-test.true (rw (← none)) c.loop-i.invariant

pub returns-clause-found : goal.returns-clause-found
unfolding first_bad_line
returns-clause-found c = scan_end _ _ c.loop-i.i c.loop-i-test.false c.loop-i.invariant ∙ search rules
