use native.Mathlib.Omega.{arith}
use borrow.Author.Rules.{rules}
use Rattle.rows.proofs.Passes.{measured}
use Rattle.junctions.specs.Call.{sketch_in, sketch_good}
use Rattle.junctions.proofs.Calling.{some_sketch, sketch_over}
use Rattle.junctions.proofs.sketch_good.Statement.{statement}
use Rattle.junctions.proofs.sketch_good.Tie as tie

write-requires : tie.Need-write-requires
write-requires c κs =
    let after-sketch : tie.After-sketch_lines-found = search in
    let entry : tie.Start = search in (
      measured _ _ entry.requires,
      some_sketch _ _ entry.requires after-sketch.sketch_lines-found.ensures
          (omega (arith, after-sketch.sketch_lines-found.auto)),
    )

returns : tie.Need-returns
unfolding sketch_good sketch_in
returns c =
    let after_write : tie.After-write = search in
    let after-sketch : tie.After-sketch_lines-found = search in
    let entry : tie.Start = search in
    after_write.write.ensures _ (sketch_over _ _ entry.requires after-sketch.sketch_lines-found.ensures)

pub sketch_good_spec : {M : Type 1} → statement M
sketch_good_spec =
    tie.close
    (tie.spec
    (λ c. search rules)  -- slice_bounds-sketch_lines-end
    (λ c. search rules)  -- slice_bounds-sketch_lines-end-2
    (λ c κs. search rules)  -- sketch_lines-found-requires
    (λ c. search rules)  -- slice_bounds-write-end
    (λ c. search rules)  -- slice_bounds-write-end-2
    write-requires
    (λ c. search rules)  -- shape_of-links
    (λ c. search rules)  -- shape_of-spurs
    (λ c. search rules)  -- shape_of-loops
    (λ c. search rules)  -- shape_of-run
    returns)
