use mir.Facts.{to_z-of_z}
use Prim.Native.Nat.{◌+◌, ◌-◌, ◌<◌, ◌≤◌}
use mathlib.Core.Path.{◌≡◌, sym, ◌∙◌}
use native.Mathlib.Omega.{arith}
use lib.IntN.{pos, nat_abs}
use lib.ListN.{length, get_or}
use Rattle.laws.specs.Tests.{out_z}
use Rattle.laws.proofs.Signed.{stored}
use Rattle.book.specs.Limits.{most_lines}
use Rattle.loops.specs.Report.{loops_of}
use Rattle.loops.proofs.Sounding.{few_loops}
use Rattle.loops.proofs.Table.{run_rises, run_fits}
use Rattle.lists.proofs.Runs.{eight_is, place_of_lem, run_coded, run_listed}
use borrow.Author.Rules.{rules}
use Rattle.lists.proofs.loop_lists.listing_good.Statement.{statement}
use Rattle.lists.proofs.loop_lists.listing_good.Tie as tie

-- the flag that the code has is the definition's test
flag : (c : tie.After-outside) → (let a : tie.After-find_loops-found = search in let s : tie.Start = search in
    c.outside.result ≡ out_z (pos 1) (pos a.find_loops-found.result.count) s.args.number)
flag c =
    let s : tie.Start = search in
    simp (to_z-of_z s.ranges.number) at (rw (stored _ c.signed_count.type_inv c.signed_count.ensures) at
    c.outside.ensures)

size : (c : tie.After-magnitude-i) → (let s : tie.Start = search in c.magnitude-i.result ≡ nat_abs s.args.number)
size c = let s : tie.Start = search in simp (to_z-of_z s.ranges.number) at c.magnitude-i.ensures

-- there is a loop of this number
there : (c : tie.After-magnitude-i)
    → (let s : tie.Start = search in (0 < c.magnitude-i.result)
    × (c.magnitude-i.result - 1 < length (loops_of s.args.book.marks s.args.lines.now)))
there c =
    let after-find-loops : tie.After-find_loops-found = search in
    let after-outside : tie.After-outside = search in
    let else1 : tie.Else-outside = search in
    let s : tie.Start = search in
    let w =
    place_of_lem _ _ s.requires after-find-loops.find_loops-found.ensures.1 s.args.number (sym (flag after-outside)
    ∙ else1.if-outside.false)
    in
    rw (size c) w

returns : tie.Need-returns-then-outside
returns c =
    let after-find-loops : tie.After-find_loops-found = search in
    let s : tie.Start = search in
    eight_is _ _ s.requires after-find-loops.find_loops-found.ensures.1 s.args.number s.args.out.now
    (sym (flag c.before) ∙ c.if-outside.true)

few : (c : tie.After-magnitude-i) → c.magnitude-i.result ≤ most_lines
few c = let s : tie.Start = search in omega (arith, there c, few_loops _ _ s.requires, s.requires.good.few)

-- where its run begins and ends
rises : (c : tie.After-magnitude-i) → (let f : tie.After-find_loops-found = search in let starts = f.find_loops-found.new.starts in
    get_or starts (c.magnitude-i.result - 1) 0 ≤ get_or starts (c.magnitude-i.result - 1 + 1) 0)
rises c = let f : tie.After-find_loops-found = search in run_rises f.find_loops-found.ensures.1 _ (there c).1

ends : (c : tie.After-magnitude-i) → (let f : tie.After-find_loops-found = search in let tables = f.find_loops-found.new in
    get_or tables.starts (c.magnitude-i.result - 1 + 1) 0 ≤ length tables.runs)
ends c = let f : tie.After-find_loops-found = search in run_fits f.find_loops-found.ensures.1 _ (there c).1

mul-write-run : tie.Need-offset_bounds-runs-begin
mul-write-run c =
    let m : tie.After-magnitude-i = search in
    let f : tie.After-find_loops-found = search in
    omega (arith, rises m, ends m, f.find_loops-found)

write-run-requires : tie.Need-write_run-requires
write-run-requires c κs =
    let after-find-loops : tie.After-find_loops-found = search in
    let after-magnitude : tie.After-magnitude-i = search in
    let s : tie.Start = search in
    run_coded _ _ s.requires after-find-loops.find_loops-found.ensures.1 (after-magnitude.magnitude-i.result - 1) (there after-magnitude).1

returns-2 : tie.Need-returns
returns-2 c =
    let after-find-loops : tie.After-find_loops-found = search in
    let after-magnitude : tie.After-magnitude-i = search in
    let s : tie.Start = search in
    let after-outside : tie.After-outside = search in
    let else1 : tie.Else-outside = search in
    c.write_run.ensures
    ∙ run_listed _ _ s.requires after-find-loops.find_loops-found.ensures.1 (after-magnitude.magnitude-i.result - 1)
    (there after-magnitude).1 s.args.number s.args.out.now (sym (flag after-outside) ∙ else1.if-outside.false)
    (omega (arith, size after-magnitude))

pub listing_good_spec : {M : Type 1} → statement M
listing_good_spec =
    tie.close
    (tie.spec
    (λ c. search rules)  -- slice_bounds-find_loops-end
    (λ c. search rules)  -- slice_bounds-find_loops-end-2
    (λ c κs. search rules)  -- find_loops-found-requires
    (λ c κs. search rules)  -- signed_count-requires
    (λ c κs. search rules)  -- outside-requires
    returns
    (λ c κs. search rules)  -- magnitude-i-requires
    (λ c. (there c).0)  -- overflow_sub-i
    (λ c. let m : tie.After-magnitude-i = search in omega (arith, there m, few m))  -- offset_bounds-starts-i
    (λ c. let m : tie.After-magnitude-i = search in omega (arith, there m, few m))  -- bounds-starts-i
    (λ c. search rules)  -- overflow_add-end
    (λ c. let m : tie.After-magnitude-i = search in omega (arith, there m, few m))  -- offset_bounds-starts-i-2
    (λ c. let m : tie.After-magnitude-i = search in omega (arith, there m, few m))  -- bounds-starts-i-2
    mul-write-run
    (λ c. let m : tie.After-magnitude-i = search in rises m)  -- slice_bounds-write_run-count
    (λ c. let m : tie.After-magnitude-i = search in rises m)  -- slice_bounds-write_run-start
    (λ c. let m : tie.After-magnitude-i = search in ends m)  -- slice_bounds-write_run-end
    write-run-requires
    (λ c. search rules)  -- shape_of-out
    returns-2)
