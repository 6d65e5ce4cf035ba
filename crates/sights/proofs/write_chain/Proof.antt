use mathlib.Core.Path.{◌≡◌, refl, ◌∙◌}
use Prim.Native.Nat.{◌+◌, ◌-◌}
use native.Mathlib.Omega.{arith}
use borrow.Author.Rules.{rules}
use lib.ListN.{length}
use Rattle.network.specs.Standing.{standing}
use Rattle.sights.specs.Sights.{sights_of}
use Rattle.sights.specs.Table.{columns}
use Rattle.sights.proofs.Halves.{other_low}
use Rattle.sights.proofs.Leading.{leads_all, half_here}
use Rattle.sights.proofs.Filling.{Walking, Turn, turn_of, walk_end, filling_start, filling_next}
use Rattle.sights.proofs.write_chain.Statement.{statement}
use Rattle.sights.proofs.write_chain.Tie as tie

abbrev invariant-loop : tie.invariant-loop-h
invariant-loop lines head next weights other₀ rise₀ weight₀ b n m a c₀ h₀ other rise weight c h =
    (length other ≡ length other₀) × (length rise ≡ length rise₀) × (length weight ≡ length weight₀)
    × Walking lines n next (columns other₀ rise₀ weight₀) (columns other rise weight) b a c h (sights_of (standing lines) m)

abbrev decreases-loop : tie.decreases-loop-h
decreases-loop lines head next weights other₀ rise₀ weight₀ b n m a c₀ h₀ other rise weight c h =
    a + length (sights_of (standing lines) m) - c

abbrev start_of : tie.At-loop-h invariant-loop decreases-loop → tie.Start invariant-loop decreases-loop
start_of c = search

-- the half that is next
turn : (c : tie.In-loop-h invariant-loop decreases-loop) →
    (let l = c.before in
    let s = start_of l in
    Turn s.args.lines.now s.args.n s.args.next.now
    (columns s.args.other.now s.args.rise.now s.args.weight.now) (columns l.loop-h.other l.loop-h.rise l.loop-h.weight)
    s.args.b s.args.a l.loop-h.c l.loop-h.h (sights_of (standing s.args.lines.now) s.args.m))
turn c = turn_of c.loop-h.invariant.3 c.loop-h-test.true

loop-holds : tie.Need-loop-h-init invariant-loop decreases-loop
loop-holds c =
    let s : tie.Start invariant-loop decreases-loop = search in
    let p = s.requires.1.1 in (
      refl,
      refl,
      refl,
      record {
        rest = _;
        leads = leads_all _ _ _ s.requires.0 _ s.requires.1.0 p.0;
        filling = filling_start _ _ _ _ p.1.1.0 p.1.1.1;
      },
    )

write-half-requires : tie.Need-write_half-requires invariant-loop decreases-loop
write-half-requires c κs =
    let i : tie.In-loop-h invariant-loop decreases-loop = search in
    let s = start_of i.before in
    let t = turn i in
    (half_here _ _ _ s.requires.0 s.args.m t.some_line t.inside, (s.requires.1.1.1.0, (t.room, t.filling.range)))

add-c : tie.Need-overflow_add-c invariant-loop decreases-loop
add-c c =
    let i : tie.In-loop-h invariant-loop decreases-loop = search in
    omega (arith, (turn i).room.others, i.loop-h.invariant.0, (start_of i.before).well_formed)

shared-slice-read-h-2 : tie.Need-bounds-next-h invariant-loop decreases-loop
shared-slice-read-h-2 c =
    let i : tie.In-loop-h invariant-loop decreases-loop = search in
    omega (arith, (turn i).fits, (start_of i.before).requires.1.0.nexts)

loop-again : tie.Need-loop-h-preserved invariant-loop decreases-loop
loop-again c =
    let after-write-half : tie.After-write_half invariant-loop decreases-loop = search in
    let i : tie.In-loop-h invariant-loop decreases-loop = search in
    let l = i.before in
    let s = start_of l in
    let w = after-write-half.write_half in
    let t = turn i in (
      w.auto.other ∙ l.loop-h.invariant.0,
      w.auto.rise ∙ l.loop-h.invariant.1,
      w.auto.weight ∙ l.loop-h.invariant.2,
      record {
        rest = t.rest;
        leads = t.leads;
        filling = filling_next _ _ _ _ _ _ _ _ _
            (other_low _ _ (half_here _ _ _ s.requires.0 s.args.m t.some_line t.inside)) w.ensures.0 w.ensures.1
            t.filling;
      },
    )

returns : tie.Need-returns invariant-loop decreases-loop
returns c = walk_end c.loop-h.invariant.3 c.loop-h-test.false

pub write_chain_spec : {M : Type 1} → statement M
write_chain_spec =
    tie.close
    (tie.spec
    invariant-loop
    decreases-loop
    (λ c. search rules)  -- offset_bounds-head-m
    (λ c. let s : tie.Start invariant-loop decreases-loop = search in
    omega (arith, s.requires.1.0.heads, s.requires.1.1.0))  -- bounds-head-m
    loop-holds
    write-half-requires
    add-c
    (λ c. let i : tie.In-loop-h invariant-loop decreases-loop = search in omega (arith, (turn i).fits))  -- offset_bounds-next-h
    shared-slice-read-h-2
    (λ c. let i : tie.In-loop-h invariant-loop decreases-loop = search in omega (arith, (turn i).more))  -- loop-h-smaller
    loop-again
    (λ c. c.loop-h.invariant.0)  -- shape_of-other
    (λ c. c.loop-h.invariant.1)  -- shape_of-rise
    (λ c. c.loop-h.invariant.2)  -- shape_of-weight
    returns)
