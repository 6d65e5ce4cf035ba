use Rattle.std.proofs.Common.{rules, arith, ◌≡◌, ℕ, suc, ◌+◌, refl, ◌∙◌, ap, subst, add-one, length, List, ℤ}
use lib.ListN.{set, length-set}
use Rattle.network.specs.Standing.{standing}
use Rattle.sights.specs.Sights.{Sight, sights_of}
use Rattle.sights.specs.Table.{Columns, columns, Filled, Rowed, RoomRows, Weighable}
use Rattle.sights.proofs.Rowing.{rowed_none, room_kept, row_room, row_weights, row_sum, rowed_next, table_is, rows_are}
use Rattle.sights.proofs.write_rows.Goals as goal
use Rattle.sights.proofs.write_rows.Goals.{After-write_chain-e, After-loop-v}

pub loop-v-init : goal.loop-v-init
loop-v-init c = record { long = refl; room = c.requires.room; rowed = rowed_none _ _ _ _ _ c.requires.in_range }

-- place v is that of mark v + 1
here : (lines : List ℤ) (v : ℕ) → sights_of (standing lines) (v + 1) ≡ sights_of (standing lines) (suc v)
here lines v = ap (sights_of (standing lines)) (add-one v)

pub write_chain-e-requires-clause-room : goal.write_chain-e-requires-clause-room
write_chain-e-requires-clause-room c =
    let i = c.loop-v.invariant in
    row_room _ _ _ _ _ _ _ i.room i.rowed c.loop-v-test.true _ (here c.args.lines.now c.loop-v.v)

-- the row that was just written can be summed
written : (c : After-write_chain-e) → Weighable c.write_chain-e.new.weight c.loop-v.c c.write_chain-e.result
written c =
    let i = c.loop-v.invariant in
    let w = c.write_chain-e in
    row_weights _ _ _ _ _ _ _ i.room i.rowed c.loop-v-test.true _ (here c.args.lines.now c.loop-v.v) _ _
    w.ensures.after w.auto.weight w.ensures.filled.range.weight_in

pub offset_bounds-weight-c : goal.offset_bounds-weight-c
offset_bounds-weight-c c =
    let w = written (goal.at.offset_bounds-weight-c c).After-write_chain-e in
    search (rules, w.long, w.span.order)

pub slice_bounds-total_of-end : goal.slice_bounds-total_of-end
slice_bounds-total_of-end c =
    let w = written (goal.at.slice_bounds-total_of-end c).After-write_chain-e in
    search (rules, w.long)

pub total_of-requires : goal.total_of-requires
total_of-requires c = (row_sum _ _ _ (written (goal.at.total_of-requires c).After-write_chain-e)).1

pub loop-v-preserved : goal.loop-v-preserved
loop-v-preserved c =
    let i = c.loop-v.invariant in
    let t = c.loop-v-test.true in
    let w = c.write_chain-e in
    let after : After-write_chain-e = (goal.at.loop-v-preserved c).After-write_chain-e in
    let e = here c.args.lines.now c.loop-v.v in
    record {
      long = w.auto.weight ∙ i.long;
      room = room_kept _ _ _ _ _ _ _ _ i.room (length-set _ _ _) w.auto.other w.auto.rise w.auto.weight (length-set _ _ _);
      rowed = rowed_next (sights_of (standing c.args.lines.now)) _ _ _ _ _ _ _ _ _ _ _ (omega (arith, i.room.firsts, t))
          (omega (arith, i.room.totals, t)) i.rowed refl (subst (Filled _ _ _ _) e w.ensures.filled)
          (w.ensures.after ∙ ap (λ (ss : List Sight). c.loop-v.c + length ss) e) refl
          (c.total_of.ensures ∙ (row_sum _ _ _ (written after)).0);
    }

-- all rows are written, and there is room for the place where the last ends
module _ (c : After-loop-v) where
  abbrev seen_at : ℕ → List Sight
  seen_at = sights_of (standing c.args.lines.now)

  abbrev cols : Columns
  cols = columns c.loop-v.other c.loop-v.rise c.loop-v.weight

  full : Rowed seen_at c.loop-v.first cols c.loop-v.total c.args.b c.args.b c.loop-v.c
  full =
      let e : c.loop-v.v ≡ c.args.b = omega arith in
      subst (λ (v : ℕ). Rowed seen_at c.loop-v.first cols c.loop-v.total c.args.b v c.loop-v.c) e c.loop-v.invariant.rowed

  room : RoomRows seen_at (set c.loop-v.first c.args.b c.loop-v.c) cols c.loop-v.total c.args.b
  room = room_kept _ _ _ _ _ _ _ _ c.loop-v.invariant.room (length-set c.loop-v.first _ _) refl refl refl refl

pub returns-clause-table : goal.returns-clause-table
returns-clause-table c =
    let l : After-loop-v = (goal.at.returns-clause-table c).After-loop-v in
    table_is _ _ _ _ _ _ _ (room l) (full l) c.loop-v.invariant.room.firsts refl

pub returns-clause-sighted : goal.returns-clause-sighted
returns-clause-sighted c =
    let l : After-loop-v = (goal.at.returns-clause-sighted c).After-loop-v in
    rows_are _ _ _ _ _ _ _ (room l) (full l) c.loop-v.invariant.room.firsts refl
