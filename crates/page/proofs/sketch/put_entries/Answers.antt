use Prim.Native.Nat.{zero-le}
use Rattle.std.proofs.Common.{rules, arith, ap, sym, ◌∙◌, ◌≡◌, ◌≤◌, ◌<◌, ◌+◌, ◌∷◌, ◌++◌, [], length, length-append, nat_abs, to_z, of_z}
use borrow.Author.Tests.{le-ltb}
use mir.Syntax.{w64}
use Rattle.page.proofs.Entries.{first_entry, next_five, none_left, count_in, left_start, left_next, left_none}
use Rattle.page.proofs.sketch.put_entries.Goals as goal

pub loop-entry-init : goal.loop-entry-init
loop-entry-init c = (search rules, search rules, search rules, search rules, search rules, λ xs w. left_start w)

-- the entry of a turn is the first of those that are left, and tells how many lines it has
pub index-requires : goal.index-requires
index-requires c =
    let p = c.requires in
    let v = c.loop-entry.invariant in
    let s = c.in-Some.ensures.steps in
    let e = c.in-Some.entry.now in
    let five = next_five e _ c.args.numbers.now (length c.loop-entry.yielded) (s.0.1.1 ∙ v.2) (sym s.0.1.0 ∙ v.4) in
    let f = first_entry (v.5 p.links p.entered).entered (omega (arith, v.3, s.1)) e five.0 in
    let n = count_in e in
    let read : to_z w64 (of_z w64 n) ≡ n = search rules in
    rw (read, f.count_is) (le-ltb (length f.link.way) 0 zero-le)

-- which end inside the run
pub slice_bounds-put_entry-end : goal.slice_bounds-put_entry-end
slice_bounds-put_entry-end c =
    let p = c.requires in
    let v = c.loop-entry.invariant in
    let s = c.in-Some.ensures.steps in
    let e = c.in-Some.entry.now in
    let five = next_five e _ c.args.numbers.now (length c.loop-entry.yielded) (s.0.1.1 ∙ v.2) (sym s.0.1.0 ∙ v.4) in
    let f = first_entry (v.5 p.links p.entered).entered (omega (arith, v.3, s.1)) e five.0 in
    let size : c.index.result ≡ nat_abs (count_in e) = c.index.ensures ∙ search rules in
    let ends : c.loop-entry.begin + c.index.result ≤ length c.args.run.now = omega (arith, f.ends, size, ap nat_abs f.count_is) in
    ends

pub loop-entry-preserved : goal.loop-entry-preserved
loop-entry-preserved c =
    let v = c.loop-entry.invariant in
    let s = c.in-Some.ensures.steps in
    let e = c.in-Some.entry.now in
    let i = length c.loop-entry.yielded in
    let more : length (c.loop-entry.yielded ++ (c.in-Some.entry ∷ [])) ≡ i + 1 =
    omega (arith, length-append c.loop-entry.yielded (c.in-Some.entry ∷ [])) in
    let five = next_five e _ c.args.numbers.now i (s.0.1.1 ∙ v.2) (sym s.0.1.0 ∙ v.4) in
    let lt : i < c.args.count = omega (arith, v.3, s.1) in
    let size : c.index.result ≡ nat_abs (count_in e) = c.index.ensures ∙ search rules in
    rw more (
      search rules,
      tt,
      s.0.0 ∙ v.2,
      omega (arith, v.3, s.1),
      five.1,
      λ xs w. left_next (v.5 xs w) c.index.result lt e five.0 size c.put_entry-after.ensures,
    )

pub returns : goal.returns
returns c =
    let p = c.requires in
    let v = c.loop-entry.invariant in
    let none : c.args.count ≤ length c.loop-entry.yielded =
    none_left (v.5 p.links p.entered).entered _ v.3 (λ n. let s = c.in-None.ensures.steps n in omega (arith, s.1.0, v.2, ap length v.4)) in
    record { lines_put = λ xs w. (left_none (v.5 xs w) none).0; run_is = λ xs w. (left_none (v.5 xs w) none).1 }
