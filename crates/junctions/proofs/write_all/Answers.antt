use Rattle.std.proofs.Common.{arith}
use Rattle.junctions.proofs.Calling.{links_in, spurs_in, loops_in, links_asked, links_stop, spurs_asked, spurs_stop, loops_asked}
use Rattle.junctions.proofs.Calling.{run_coded, run_there, written_is}
use Rattle.junctions.proofs.write_all.Goals as goal

pub write-a-requires-clause-some_links : goal.write-a-requires-clause-some_links
write-a-requires-clause-some_links c = links_asked c.requires.some_sketch

pub offset_bounds-runs-a : goal.offset_bounds-runs-a
offset_bounds-runs-a c = omega (arith, links_stop c.requires.some_sketch _ _ _ c.write-a.ensures, c.well_formed)

pub slice_bounds-write-count-2 : goal.slice_bounds-write-count-2
slice_bounds-write-count-2 c = links_stop c.requires.some_sketch _ _ _ c.write-a.ensures

pub slice_bounds-write-start-2 : goal.slice_bounds-write-start-2
slice_bounds-write-start-2 c = links_stop c.requires.some_sketch _ _ _ c.write-a.ensures

pub write-b-requires-clause-some_links : goal.write-b-requires-clause-some_links
write-b-requires-clause-some_links c = spurs_asked c.requires.some_sketch _ _ _ c.write-a.ensures

pub overflow_add-a : goal.overflow_add-a
overflow_add-a c =
    omega (arith, spurs_stop c.requires.some_sketch _ _ _ c.write-a.ensures _ _ _ c.write-b.ensures, c.well_formed)

pub offset_bounds-runs-a-2 : goal.offset_bounds-runs-a-2
offset_bounds-runs-a-2 c =
    omega (arith, spurs_stop c.requires.some_sketch _ _ _ c.write-a.ensures _ _ _ c.write-b.ensures, c.well_formed)

pub slice_bounds-write-count-4 : goal.slice_bounds-write-count-4
slice_bounds-write-count-4 c = spurs_stop c.requires.some_sketch _ _ _ c.write-a.ensures _ _ _ c.write-b.ensures

pub slice_bounds-write-start-4 : goal.slice_bounds-write-start-4
slice_bounds-write-start-4 c = spurs_stop c.requires.some_sketch _ _ _ c.write-a.ensures _ _ _ c.write-b.ensures

pub write-requires-clause-some_links : goal.write-requires-clause-some_links
write-requires-clause-some_links c = loops_asked c.requires.some_sketch _ _ _ c.write-a.ensures _ _ _ c.write-b.ensures

pub slice_bounds-list_run-end : goal.slice_bounds-list_run-end
slice_bounds-list_run-end c = run_there c.requires.some_sketch _ c.requires.so_many

pub list_run-requires-clause-coded : goal.list_run-requires-clause-coded
list_run-requires-clause-coded c = run_coded c.requires.some_sketch.held _ c.requires.so_many

pub returns : goal.returns
returns c = λ s o.
    let wl = c.write-a.ensures s.links (links_in o) in
    let ws = c.write-b.ensures s.spurs (spurs_in o _ wl.after_is) in
    let wo = c.write.ensures s.loops (loops_in o _ wl.after_is _ ws.after_is) in
    written_is o _ c.requires.so_many _ _ _ _ _ _ _ _ wl ws wo c.list_run.ensures
