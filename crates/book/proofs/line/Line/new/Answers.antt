use Rattle.std.proofs.Common.{rules, ◌≡◌, ◌∙◌}
use Rattle.book.specs.Line.{fault_number, line_fault}
use Rattle.book.proofs.Lines.{line_refused, line_allowed}
use Rattle.book.proofs.line.Line.new.Goals as goal

pub returns-in-Some : goal.returns-in-Some
returns-in-Some c =
    let a = c.args in
    let found : fault_number c.in-Some.fault ≡ line_fault a.b a.from a.to a.difference a.length a.standing
    = c.in-Some.ensures ∙ search rules in
    line_refused a.b a.from a.to a.difference a.length a.standing c.in-Some.fault found

pub returns : goal.returns
returns c =
    let a = c.args in
    let none : 0 ≡ line_fault a.b a.from a.to a.difference a.length a.standing = c.in_default.ensures ∙ search rules in
    search rules ∙ line_allowed a.b a.from a.to a.difference a.length a.standing none
