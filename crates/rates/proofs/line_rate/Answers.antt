use Rattle.std.proofs.Common.{rules, ◌≡◌, ◌∙◌, ◌-◌, ◌<◌, sym, ap, subst, pos, nat_abs, ℤ, ℕ, arith, w64, to_z, of_z}
use native.Mathlib.Nat.{add-sub_cancel_left}
use mir.Facts.{to_z-of_z}
use Rattle.laws.specs.Tests.{eq_z}
use Rattle.laws.proofs.Signed.{back, stored}
use Rattle.laws.proofs.Size.{size_fits}
use Rattle.book.specs.Line.{line_at, standing_at, length_at, entry_at, entry_of}
use Rattle.book.specs.Line as made
use Rattle.book.proofs.Passing.{line_is_made}
use Rattle.rates.specs.Rates.{correction_at, correction_of, line_rate, OfBook, answer_of}
use Rattle.rates.proofs.line_rate.Goals as goal

-- a tested line is made of its entry
pub returns-in_default : goal.returns-in_default
returns-in_default c =
    let i = c.args.line - 1 in
    let b : to_z w64 (of_z w64 c.signed_count.result) ≡ pos c.args.b
    = stored c.signed_count.result c.signed_count.type_inv c.signed_count.ensures in
    let is : made.Refused 7 (made.fault_number c.in_default.field-0) ≡ made.Good (line_at c.args.lines.now i)
    = (simp add-sub_cancel_left at c.in_default.ensures) ∙ ap (λ (z : ℤ). entry_of z (entry_at c.args.lines.now i)) b
    ∙ line_is_made c.args.b c.args.lines.now i c.requires.good in
    let z : ◌≡◌ {A = ℕ} 0 1 = cc in
    absurd (omega arith)

pub returns-then-same : goal.returns-then-same
unfolding line_rate answer_of
returns-then-same c =
    let i = c.args.line - 1 in
    let b : to_z w64 (of_z w64 c.signed_count.result) ≡ pos c.args.b
    = stored c.signed_count.result c.signed_count.type_inv c.signed_count.ensures in
    let is : made.Good c.in-Ok.its ≡ made.Good (line_at c.args.lines.now i)
    = (simp add-sub_cancel_left at c.in-Ok.ensures) ∙ ap (λ (z : ℤ). entry_of z (entry_at c.args.lines.now i)) b
    ∙ line_is_made c.args.b c.args.lines.now i c.requires.good in
    let its : c.in-Ok.its ≡ line_at c.args.lines.now i = cc in
    let read : to_z w64 (of_z w64 c.in-Ok.its.standing) ≡ standing_at c.args.lines.now i
    = rw its (to_z-of_z (size_fits (standing_at c.args.lines.now i) (omega (arith, c.requires.good.standing.high)))) in
    let gone : c.same.result ≡ eq_z (standing_at c.args.lines.now i) (pos 0) = rw read at c.same.ensures in
    rw (sym gone ∙ c.if-same.true)

pub correction_of-correction-requires-clause-of_book : goal.correction_of-correction-requires-clause-of_book
correction_of-correction-requires-clause-of_book c =
    let i = c.args.line - 1 in
    let b : to_z w64 (of_z w64 c.signed_count.result) ≡ pos c.args.b
    = stored c.signed_count.result c.signed_count.type_inv c.signed_count.ensures in
    let is : made.Good c.in-Ok.its ≡ made.Good (line_at c.args.lines.now i)
    = (simp add-sub_cancel_left at c.in-Ok.ensures) ∙ ap (λ (z : ℤ). entry_of z (entry_at c.args.lines.now i)) b
    ∙ line_is_made c.args.b c.args.lines.now i c.requires.good in
    let its : c.in-Ok.its ≡ line_at c.args.lines.now i = cc in
    let g = c.requires.good in
    subst (OfBook c.args.b) (sym its) (record { from = g.from; to = g.to; difference = g.difference })

pub per_km-rate-requires-clause-length : goal.per_km-rate-requires-clause-length
per_km-rate-requires-clause-length c =
    let i = c.args.line - 1 in
    let b : to_z w64 (of_z w64 c.signed_count.result) ≡ pos c.args.b
    = stored c.signed_count.result c.signed_count.type_inv c.signed_count.ensures in
    let is : made.Good c.in-Ok.its ≡ made.Good (line_at c.args.lines.now i)
    = (simp add-sub_cancel_left at c.in-Ok.ensures) ∙ ap (λ (z : ℤ). entry_of z (entry_at c.args.lines.now i)) b
    ∙ line_is_made c.args.b c.args.lines.now i c.requires.good in
    let its : c.in-Ok.its ≡ line_at c.args.lines.now i = cc in
    let metres : to_z w64 (of_z w64 c.in-Ok.its.length) ≡ length_at c.args.lines.now i
    = rw its (to_z-of_z (size_fits (length_at c.args.lines.now i) (omega (arith, c.requires.good.long.high)))) in
    rw metres (omega (arith, c.requires.good.long.high))

pub returns : goal.returns
unfolding line_rate correction_at answer_of
returns c =
    let i = c.args.line - 1 in
    let b : to_z w64 (of_z w64 c.signed_count.result) ≡ pos c.args.b
    = stored c.signed_count.result c.signed_count.type_inv c.signed_count.ensures in
    let is : made.Good c.in-Ok.its ≡ made.Good (line_at c.args.lines.now i)
    = (simp add-sub_cancel_left at c.in-Ok.ensures) ∙ ap (λ (z : ℤ). entry_of z (entry_at c.args.lines.now i)) b
    ∙ line_is_made c.args.b c.args.lines.now i c.requires.good in
    let its : c.in-Ok.its ≡ line_at c.args.lines.now i = cc in
    let read : to_z w64 (of_z w64 c.in-Ok.its.standing) ≡ standing_at c.args.lines.now i
    = rw its (to_z-of_z (size_fits (standing_at c.args.lines.now i) (omega (arith, c.requires.good.standing.high)))) in
    let gone : c.same.result ≡ eq_z (standing_at c.args.lines.now i) (pos 0) = rw read at c.same.ensures in
    let metres : to_z w64 (of_z w64 c.in-Ok.its.length) ≡ length_at c.args.lines.now i
    = rw its (to_z-of_z (size_fits (length_at c.args.lines.now i) (omega (arith, c.requires.good.long.high)))) in
    let k = c.correction_of-correction in
    let x : to_z w64 (of_z w64 k.result) ≡ correction_at c.args.heights.now c.args.lines.now i
    = back k.result k.type_inv ∙ k.ensures.0 ∙ ap (correction_of c.args.heights.now) its in
    rw (sym gone ∙ c.if-same.false, c.per_km-rate.ensures, metres, x)
