use Rattle.std.proofs.Common.{rules, ◌≡◌, ◌∙◌, pos}
use Rattle.laws.specs.Tests.{out_z, eq_z}
use Rattle.book.specs.Limits.{least_length, most_length}
use Rattle.book.specs.Line.{difference_out, line_fault}
use Rattle.book.proofs.line.Line.fault.Goals as goal

pub returns-then-outside : goal.returns-then-outside
unfolding line_fault
returns-then-outside c =
    let from : c.outside.result ≡ out_z (pos 1) c.args.b c.args.from = c.outside.ensures ∙ search rules in
    let to : c.outside-2.result ≡ out_z (pos 1) c.args.b c.args.to = c.outside-2.ensures ∙ search rules in
    rw (← from, ← to, c.if-outside.true)

pub returns-then-same : goal.returns-then-same
unfolding line_fault
returns-then-same c =
    let from : c.outside.result ≡ out_z (pos 1) c.args.b c.args.from = c.outside.ensures ∙ search rules in
    let to : c.outside-2.result ≡ out_z (pos 1) c.args.b c.args.to = c.outside-2.ensures ∙ search rules in
    let same : c.same.result ≡ eq_z c.args.from c.args.to = c.same.ensures ∙ search rules in
    rw (
      ← from,
      ← to,
      c.if-outside.false,
      ← same,
      c.if-same.true,
    )

pub returns-then-outside_difference : goal.returns-then-outside_difference
unfolding line_fault
returns-then-outside_difference c =
    let from : c.outside.result ≡ out_z (pos 1) c.args.b c.args.from = c.outside.ensures ∙ search rules in
    let to : c.outside-2.result ≡ out_z (pos 1) c.args.b c.args.to = c.outside-2.ensures ∙ search rules in
    let same : c.same.result ≡ eq_z c.args.from c.args.to = c.same.ensures ∙ search rules in
    let apart : c.outside_difference.result ≡ difference_out c.args.difference = c.outside_difference.ensures ∙ search rules in
    rw (
      ← from,
      ← to,
      c.if-outside.false,
      ← same,
      c.if-same.false,
      ← apart,
      c.if-outside_difference.true,
    )

pub returns-then-outside-2 : goal.returns-then-outside-2
unfolding line_fault
returns-then-outside-2 c =
    let from : c.outside.result ≡ out_z (pos 1) c.args.b c.args.from = c.outside.ensures ∙ search rules in
    let to : c.outside-2.result ≡ out_z (pos 1) c.args.b c.args.to = c.outside-2.ensures ∙ search rules in
    let same : c.same.result ≡ eq_z c.args.from c.args.to = c.same.ensures ∙ search rules in
    let apart : c.outside_difference.result ≡ difference_out c.args.difference = c.outside_difference.ensures ∙ search rules in
    let long : c.outside-else-outside_difference.result ≡ out_z (pos least_length) (pos most_length) c.args.length
    = c.outside-else-outside_difference.ensures ∙ search rules in
    rw (
      ← from,
      ← to,
      c.if-outside.false,
      ← same,
      c.if-same.false,
      ← apart,
      c.if-outside_difference.false,
      ← long,
      c.if-outside-2.true,
    )

pub returns-then-outside-3 : goal.returns-then-outside-3
unfolding line_fault
returns-then-outside-3 c =
    let from : c.outside.result ≡ out_z (pos 1) c.args.b c.args.from = c.outside.ensures ∙ search rules in
    let to : c.outside-2.result ≡ out_z (pos 1) c.args.b c.args.to = c.outside-2.ensures ∙ search rules in
    let same : c.same.result ≡ eq_z c.args.from c.args.to = c.same.ensures ∙ search rules in
    let apart : c.outside_difference.result ≡ difference_out c.args.difference = c.outside_difference.ensures ∙ search rules in
    let long : c.outside-else-outside_difference.result ≡ out_z (pos least_length) (pos most_length) c.args.length
    = c.outside-else-outside_difference.ensures ∙ search rules in
    let standing : c.outside-else-outside-2.result ≡ out_z (pos 0) (pos 1) c.args.standing
    = c.outside-else-outside-2.ensures ∙ search rules in
    rw (
      ← from,
      ← to,
      c.if-outside.false,
      ← same,
      c.if-same.false,
      ← apart,
      c.if-outside_difference.false,
      ← long,
      c.if-outside-2.false,
      ← standing,
      c.if-outside-3.true,
    )

pub returns-else-outside-3 : goal.returns-else-outside-3
unfolding line_fault
returns-else-outside-3 c =
    let from : c.outside.result ≡ out_z (pos 1) c.args.b c.args.from = c.outside.ensures ∙ search rules in
    let to : c.outside-2.result ≡ out_z (pos 1) c.args.b c.args.to = c.outside-2.ensures ∙ search rules in
    let same : c.same.result ≡ eq_z c.args.from c.args.to = c.same.ensures ∙ search rules in
    let apart : c.outside_difference.result ≡ difference_out c.args.difference = c.outside_difference.ensures ∙ search rules in
    let long : c.outside-else-outside_difference.result ≡ out_z (pos least_length) (pos most_length) c.args.length
    = c.outside-else-outside_difference.ensures ∙ search rules in
    let standing : c.outside-else-outside-2.result ≡ out_z (pos 0) (pos 1) c.args.standing
    = c.outside-else-outside-2.ensures ∙ search rules in
    rw (
      ← from,
      ← to,
      c.if-outside.false,
      ← same,
      c.if-same.false,
      ← apart,
      c.if-outside_difference.false,
      ← long,
      c.if-outside-2.false,
      ← standing,
      c.if-outside-3.false,
    )
