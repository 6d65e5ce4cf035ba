use Rattle.subgraph.proofs.LoopTurns.{takes_held, takes_two, takes_number, takes_fits, takes_room, took_same, took_more}
use native.Mathlib.Omega.{arith}
use borrow.Author.Rules.{rules}
use Rattle.subgraph.proofs.take_loop.Statement.{statement}
use Rattle.subgraph.proofs.take_loop.Tie as tie

shared-slice-read-from : tie.Need-bounds-ends-h
shared-slice-read-from c =
    let entry : tie.Start = search in
    omega (arith, takes_number entry.requires, entry.requires.bounded.ends_at)

returns-2 : tie.Need-returns
returns-2 c =
    let after-join : tie.After-join = search in
    let after-path : tie.After-path-count = search in
    λ q lines sub l tk. took_more lines sub l tk after-path.path-count.ensures (λ e. omega arith) after-join.join.ensures

pub take_loop_spec : {M : Type 1} → statement M
take_loop_spec =
    tie.close
    (tie.spec
    (λ c. let entry : tie.Start = search in omega (arith, takes_number entry.requires))  -- overflow_mul-h
    (λ c. let entry : tie.Start = search in omega (arith, takes_number entry.requires))  -- overflow_add-from
    (λ c. let entry : tie.Start = search in omega (arith, takes_number entry.requires))  -- offset_bounds-ends-h
    shared-slice-read-from
    (λ c. let entry : tie.Start = search in omega (arith, takes_number entry.requires))  -- offset_bounds-ends-h-2
    (λ c. let entry : tie.Start = search in omega (arith, takes_number entry.requires, entry.requires.bounded.ends_at))  -- bounds-ends-h-2
    (λ c κs. let entry : tie.Start = search in let p = entry.requires in (takes_held p, (p.room, takes_two p)))  -- path-count-requires
    (λ c. search rules)  -- shape_of-head-then-count-eq1
    (λ c. search rules)  -- shape_of-next-then-count-eq1
    (λ c. search rules)  -- shape_of-best-then-count-eq1
    (λ c. search rules)  -- shape_of-seg-then-count-eq1
    (λ c. search rules)  -- shape_of-out-then-count-eq1
    (λ c.
    let after-path : tie.After-path-count = search in
    λ q lines sub l tk. took_same lines sub l tk after-path.path-count.ensures (omega arith))  -- returns, of a path of one line
    (λ c κs. let entry : tie.Start = search in (takes_fits entry.requires, takes_room entry.requires))  -- join-requires
    (λ c. search rules)  -- shape_of-head
    (λ c. search rules)  -- shape_of-next
    (λ c. search rules)  -- shape_of-best
    (λ c. search rules)  -- shape_of-seg
    (λ c. search rules)  -- shape_of-out
    returns-2)
