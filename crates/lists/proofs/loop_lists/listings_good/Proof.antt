use native.Mathlib.Omega.{arith}
use mathlib.Core.Path.{◌∙◌}
use lib.ListN.{length-take}
use Rattle.loops.proofs.Table.{last_end, runs_fit}
use Rattle.lists.proofs.Runs.{all_coded, all_listed}
use borrow.Author.Rules.{rules}
use Rattle.lists.proofs.loop_lists.listings_good.Statement.{statement}
use Rattle.lists.proofs.loop_lists.listings_good.Tie as tie

array-share-prefix-runs : tie.Need-slice_bounds-runs-end
array-share-prefix-runs c =
    let after-find-loops : tie.After-find_loops-found = search in
    omega (arith, last_end after-find-loops.find_loops-found.ensures.1, runs_fit after-find-loops.find_loops-found.ensures.1)

slice-aggregate-write-run : tie.Need-slice_bounds-write_run-end
slice-aggregate-write-run c =
    let after-find-loops : tie.After-find_loops-found = search in
    simp length-take (omega (
      arith,
      last_end after-find-loops.find_loops-found.ensures.1,
      runs_fit
          after-find-loops.find_loops-found.ensures.1,
    ))

write-run-requires : tie.Need-write_run-requires
write-run-requires c κs =
    let after-find-loops : tie.After-find_loops-found = search in
    let s : tie.Start = search in
    all_coded _ _ s.requires after-find-loops.find_loops-found.ensures.1

returns : tie.Need-returns
returns c =
    let after-find-loops : tie.After-find_loops-found = search in
    let s : tie.Start = search in
    c.write_run.ensures ∙ all_listed _ _ s.requires after-find-loops.find_loops-found.ensures.1 s.args.out.now

pub listings_good_spec : {M : Type 1} → statement M
listings_good_spec =
    tie.close
    (tie.spec
    (λ c. search rules)  -- slice_bounds-find_loops-end
    (λ c. search rules)  -- slice_bounds-find_loops-end-2
    (λ c κs. search rules)  -- find_loops-found-requires
    (λ c. search rules)  -- offset_bounds-starts-count
    (λ c. search rules)  -- bounds-starts-count
    array-share-prefix-runs
    slice-aggregate-write-run
    write-run-requires
    (λ c. search rules)  -- shape_of-out
    returns)
