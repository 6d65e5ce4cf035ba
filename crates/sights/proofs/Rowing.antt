-- The rows of the marks, one after another, make the table.
-- Assumes nothing.
use Prim.Native.Nat.{ℕ, zero, suc, ◌+◌, ◌-◌, ◌≤◌, ◌<◌}
use native.Mathlib.Nat.{eq-or-lt_of_le}
use native.Mathlib.Numerals.{add-one}
use native.Mathlib.Omega.{arith}
use mathlib.Core.Path.{◌≡◌, refl, sym, ◌∙◌, ap, subst}
use mathlib.Core.Logic.{⊎_elim}
use mathlib.Core.List.{List}
use lib.ListN.{length, get_or, set, take, drop}
use Rattle.std.proofs.Common.{sum, drop-cons, ◌^◌, ◌*◌}
use Rattle.std.proofs.lemmas.List.Sums.{sum_by-cons}
use lib.Seq.{get_or-set_same, get_or-set_other}
use Rattle.divisions.specs.Weight.{most_weight}
use Rattle.sights.specs.Sights.{Sight, weights}
use Rattle.sights.proofs.Filling.{room_less}
use Rattle.sights.specs.Table.{Columns, seen, rows, InRange, RoomUpto, Filled, weighed, taken, Rowed, RoomRows, Table, Weighable}

-- the weights of the sights from place a on
pub weighed_is : (cols : Columns) (a k : ℕ) → weights (seen cols a k) ≡ weighed cols.weight a k
unfolding weights seen weighed
weighed_is cols a zero = refl
weighed_is cols a (suc k) = ap (λ (x : ℕ). get_or cols.weight a 0 + x) (weighed_is cols (suc a) k)

-- they are those of the row's part of the column, and few and small enough for their sum
pub weighed_sum : (weight : List ℕ) (a k : ℕ) → a + k ≤ length weight → sum (take k (drop a weight)) ≡ weighed weight a k
unfolding weighed
weighed_sum weight a zero l = refl
weighed_sum weight a (suc k) l =
    let h : a < length weight = omega arith in
    rw (drop-cons weight a 0, sum_by-cons (λ (x : ℕ). x) (get_or weight a 0) (take k (drop (suc a) weight)))
    (ap (λ (x : ℕ). get_or weight a 0 + x) (weighed_sum weight (suc a) k (omega arith)))

weighed_most : (weight : List ℕ) (a k : ℕ) → ((j : ℕ) → get_or weight j 0 ≤ most_weight)
    → weighed weight a k ≤ k * most_weight
unfolding weighed
weighed_most weight a zero s = omega arith
weighed_most weight a (suc k) s = omega (arith, s a, weighed_most weight (suc a) k s)

pub row_sum : (weight : List ℕ) (a e : ℕ) → Weighable weight a e
    → (sum (take (e - a) (drop a weight)) ≡ weighed weight a (e - a)) × (sum (take (e - a) (drop a weight)) < 2 ^ 64)
row_sum weight a e w =
    let s = weighed_sum weight a (e - a) (omega (arith, w.long, w.span.order)) in
    (s, rw s (omega (arith, weighed_most weight a (e - a) w.small, w.span.few)))

module _ (sights : ℕ → List Sight) where
  pub taken_more : (v : ℕ) → taken sights (suc v) ≡ taken sights v + length (sights (suc v))
  unfolding taken
  taken_more v = refl

  pub taken_le : (v k : ℕ) → taken sights v ≤ taken sights (k + v)
  unfolding taken
  taken_le v zero = let e : 0 + v ≡ v = omega arith in rw e (omega arith)
  taken_le v (suc k) = let e : suc k + v ≡ suc (k + v) = omega arith in rw e (omega (arith, taken_le v k))

  pub taken_up : (v b : ℕ) → v ≤ b → taken sights v ≤ taken sights b
  taken_up v b l = let e : b - v + v ≡ b = omega arith in subst (λ (x : ℕ). taken sights v ≤ taken sights x) e (taken_le v (b - v))

  pub rowed_none : (first : List ℕ) (cols : Columns) (total : List ℕ) (b : ℕ) → InRange cols b
      → Rowed sights first cols total b 0 0
  unfolding taken
  rowed_none first cols total b r =
      record {
        range = r;
        next = refl;
        firsts = λ u l. absurd (omega arith);
        row_at = λ u l. absurd (omega arith);
        totals = λ u l. absurd
            (omega arith);
      }

  module _ (first : List ℕ) (cols : Columns) (total first' : List ℕ) (cols' : Columns) (total' : List ℕ)
      (b v c r t : ℕ)
      (l : v < length first) (l' : v < length total) (h : Rowed sights first cols total b v c)
      (ef : first' ≡ set first v c) (filled : Filled cols cols' b c (sights (suc v)))
      (er : r ≡ c + length (sights (suc v)))
      (et : total' ≡ set total v t) (ew : t ≡ weighed cols'.weight c (r - c)) where
    total_here : t ≡ weights (sights (suc v))
    total_here =
        let e : r - c ≡ length (sights (suc v)) = omega arith in
        ew ∙ ap (weighed cols'.weight c) e ∙ sym (weighed_is cols' c (length (sights (suc v)))) ∙ ap weights filled.here

    old : (u : ℕ) → u < v
        → (get_or first' u 0 ≡ taken sights u) × (seen cols' (taken sights u) (length (sights (suc u))) ≡ sights (suc u))
        × (get_or total' u 0 ≡ weights (sights (suc u)))
    old u s =
        let w : taken sights u + length (sights (suc u)) ≤ c = omega (arith, h.next, taken_more u, taken_up (suc u) v s) in (
          rw (ef, get_or-set_other first v u c 0 (λ e. omega arith)) (h.firsts u s),
          filled.before (taken sights u) (length (sights (suc u))) w ∙ h.row_at u s,
          rw (et, get_or-set_other total v u t 0 (λ e. omega arith)) (h.totals u s),
        )

    new : (get_or first' v 0 ≡ taken sights v) × (seen cols' (taken sights v) (length (sights (suc v))) ≡ sights (suc v))
        × (get_or total' v 0 ≡ weights (sights (suc v)))
    new = (
      rw (ef, get_or-set_same first v c 0 l) h.next,
      rw (← h.next) filled.here,
      rw (et, get_or-set_same total v t 0 l') total_here,
    )

    each : (u : ℕ) → u < v + 1
        → (get_or first' u 0 ≡ taken sights u) × (seen cols' (taken sights u) (length (sights (suc u))) ≡ sights (suc u))
        × (get_or total' u 0 ≡ weights (sights (suc u)))
    each u s =
        let q : u ≤ v = omega arith in
        ⊎_elim (λ (e : u ≡ v). subst (λ (x : ℕ). (get_or first' x 0 ≡ taken sights x)
        × (seen cols' (taken sights x) (length (sights (suc x))) ≡ sights (suc x))
        × (get_or total' x 0 ≡ weights (sights (suc x)))) (sym e) new)
        (λ (p : u < v). old u p) (eq-or-lt_of_le q)

    pub rowed_next : Rowed sights first' cols' total' b (v + 1) r
    rowed_next = record {
      range = filled.range;
      next = rw add-one (omega (arith, er, h.next, taken_more v));
      firsts = λ u s. (each u s).0;
      row_at = λ u s. (each u s).1;
      totals = λ u s. (each u s).2;
    }

  -- the last row ends at place c, which is written too: the table
  module _ (first : List ℕ) (cols : Columns) (total first' : List ℕ) (b c : ℕ)
      (room : RoomRows sights first' cols total b)
      (h : Rowed sights first cols total b b c) (l : b < length first) (ef : first' ≡ set first b c) where
    first_at : (u : ℕ) → u ≤ b → get_or first' u 0 ≡ taken sights u
    first_at u s =
        ⊎_elim (λ (e : u ≡ b). rw (e, ef, get_or-set_same first b c 0 l) h.next)
        (λ (p : u < b). rw (ef, get_or-set_other first b u c 0 (λ e. omega arith)) (h.firsts u p)) (eq-or-lt_of_le s)

    pub rows_are : (v : ℕ) → v < b → rows first' cols (suc v) ≡ sights (suc v)
    unfolding rows
    rows_are v s =
        let e : suc v - 1 ≡ v = omega arith in
        let k : taken sights (suc v) - taken sights v ≡ length (sights (suc v)) = omega (arith, taken_more v) in
        rw (e, first_at v (omega arith), first_at (suc v) s, k) (h.row_at v s)

    pub table_is : Table first' cols total b
    table_is = record {
      firsts = room.firsts;
      totals = room.totals;
      span = λ v s. rw (add-one v, first_at v (omega arith), first_at (suc v) s)
          (record { order = omega (arith, taken_more v); few = omega (arith, taken_more v, room.few (suc v)) });
      ends = λ v s. rw (add-one v, first_at (suc v) s)
          (record { room = room_less room.upto (taken_up (suc v) b s); range = h.range });
      sum = λ v s. h.totals v s ∙ ap weights (sym (rows_are v s));
    }

  -- there is room for the next row, and its weights can be summed
  module _ (first : List ℕ) (cols : Columns) (total : List ℕ) (b v c : ℕ)
      (room : RoomRows sights first cols total b) (h : Rowed sights first cols total b v c) (l : v < b)
      (ss : List Sight) (es : ss ≡ sights (suc v)) where
    end_here : c + length ss ≤ taken sights b
    end_here = let e = ap length es in omega (arith, h.next, taken_more v, taken_up (suc v) b l)

    pub row_room : RoomUpto cols (c + length ss)
    row_room = room_less room.upto end_here

    pub row_weights : (weight' : List ℕ) (e : ℕ) → e ≡ c + length ss → length weight' ≡ length cols.weight
        → ((j : ℕ) → get_or weight' j 0 ≤ most_weight) → Weighable weight' c e
    row_weights weight' e ee k s =
        let f = room.few (suc v) in
        let n = ap length es in
        record { long = omega (arith, end_here, room.upto.weighed); span = record { order = omega arith; few = omega arith }; small = s }

  -- room is kept where lengths are
  pub room_kept : (first : List ℕ) (cols : Columns) (total first' : List ℕ) (cols' : Columns) (total' : List ℕ) (b : ℕ)
      → RoomRows sights first cols total b → length first' ≡ length first → length cols'.other ≡ length cols.other
      → length cols'.rise ≡ length cols.rise → length cols'.weight ≡ length cols.weight
      → length total' ≡ length total
      → RoomRows sights first' cols' total' b
  room_kept first cols total first' cols' total' b h ef eo er ew et = record {
    firsts = omega (arith, h.firsts);
    totals = omega (arith, h.totals);
    upto = record {
      others = omega (arith, h.upto.others);
      rises = omega (arith, h.upto.rises);
      weighed
          = omega (arith, h.upto.weighed);
    };
    few = h.few;
  }
