-- The start is inside the limit for work: no more than a held height and a line's difference for each mark.
-- Assumes nothing.
use Prim.Native.Nat.{ℕ, zero, suc, ◌+◌, ◌*◌, ◌≤◌, ◌<◌, zero-le}
use native.Mathlib.Omega.{arith}
use mathlib.Core.Path.{◌≡◌, refl, sym, ◌∙◌, ap}
use mathlib.Core.Bool.{Bool, true, false, not, cond, true≢false}
use mathlib.Core.List.{List, [], Memᴰ}
use mathlib.Core.Option.{Option, none, some}
use lib.Dec.{eqb, ltb}
use lib.ListN.{length, get_or, drop, drop_of_length-le}
use lib.IntN.{ℤ, pos, nat_abs, ◌+ℤ◌, ◌-ℤ◌}
use borrow.Author.Tests.{ltb-true, ltb-false, not-false}
use Rattle.book.specs.Good.{Lines, HeldEntries}
use Rattle.laws.proofs.Ring.{ring}
use Rattle.laws.proofs.Size.{size_add}
use Rattle.laws.proofs.Scans.{none_bad}
use Rattle.book.specs.Limits.{most_difference, most_marks, most_held_height, most_height}
use Rattle.book.specs.Held.{mark_at, height_at}
use Rattle.network.specs.Standing.{Line, standing}
use Rattle.network.specs.Tree.{Tree, tree}
use Rattle.network.proofs.Grown.{tree_line}
use Rattle.network.specs.Sound.{Placed}
use Rattle.network.proofs.Marks.{size, grows}
use Rattle.fields.specs.Heights.{height, Working}
use Rattle.fields.proofs.Fair.{Fair, fair_lines, fairs_each}
use Rattle.fields.proofs.Setting.{place, past_end}
use Rattle.start.specs.Start.{held_height, is_some, Rooted, rooted_by, root_height, root_of, unheld_piece, along, own, start_of}
use Rattle.start.specs.Start.{start_heights}
use Rattle.start.specs.Along.{held_from}
use Rattle.start.proofs.Lifting.{free_mark, held_here, held_elsewhere}
use Rattle.start.proofs.Holding.{held_step}
use Rattle.start.proofs.Beginning.{start_length, start_height}
use Rattle.start.proofs.Reach.{tree_apart}

-- where a root's height comes from
pub record GivenBy (at : ℕ → Rooted) (held : ℕ → Option ℤ) (m k : ℕ) (y : ℤ) : Type 0 where
  pub mark : ℕ
  pub low : m ≤ mark
  pub high : mark < m + k
  pub height : ℤ
  pub holds : held mark ≡ some height
  pub is : y ≡ height -ℤ (at mark).over

none_some : (z : ℤ) → none ≡ some z → ⊥
none_some z e = let w : ◌≡◌ {A = ℕ} 0 1 = cc in omega arith

some_is : (x y : ℤ) → some x ≡ some y → x ≡ y
some_is x y e = cc

module _ (at : ℕ → Rooted) (held : ℕ → Option ℤ) (r : ℕ) where
  later : (m k : ℕ) (y : ℤ) → GivenBy at held (suc m) k y → GivenBy at held m (suc k) y
  later m k y g =
      record {
        mark = g.mark;
        low = omega (arith, g.low);
        high = omega (arith, g.high);
        height = g.height;
        holds = g.holds;
        is
            = g.is;
      }

  given_by : (m k : ℕ) (y : ℤ) → root_height at held r m k ≡ some y → GivenBy at held m k y
  unfolding root_height
  given_by m zero y e = absurd (none_some y e)
  given_by m (suc k) y e = by (λ f. later m k y (given_by (suc m) k y f)) (held m) refl
    where
      here : (root_height at held r (suc m) k ≡ some y → GivenBy at held m (suc k) y) → (z : ℤ) → held m ≡ some z → (t : Bool)
          → eqb (at m).root r ≡ t → GivenBy at held m (suc k) y
      here rest z h true t =
          record {
            mark = m;
            low = omega arith;
            high = omega arith;
            height = z;
            holds = h;
            is = some_is y (z -ℤ (at m).over)
                (sym e ∙ held_here at held r m k z h t);
          }
      here rest z h false t = rest (sym (held_elsewhere at held r m k z h t) ∙ e)

      by : (root_height at held r (suc m) k ≡ some y → GivenBy at held m (suc k) y) → (o : Option ℤ) → held m ≡ o
          → GivenBy at held m (suc k) y
      by rest none h = rest (sym (free_mark at held r m k h) ∙ e)
      by rest (some z) h = here rest z h (eqb (at m).root r) refl

swap : (z p v : ℤ) → (z -ℤ p) +ℤ v ≡ z +ℤ (v -ℤ p)
swap z p v = simp ring

-- a start by the places of the marks in the tree, no two of them further apart than a line for each mark
module _ (b : ℕ) (few : b ≤ most_marks) (at : ℕ → Rooted) (held : ℕ → Option ℤ)
    (small : (m : ℕ) (z : ℤ) → 0 < m → m ≤ b → held m ≡ some z → nat_abs z ≤ most_held_height)
    (near : (m p : ℕ) → nat_abs ((at m).over -ℤ (at p).over) ≤ b * most_difference) where
  start_size : (m : ℕ) (y : ℤ) → root_of at held b m ≡ some y → nat_abs (y +ℤ (at m).over) ≤ most_height
  start_size m y e =
      let g = given_by at held (at m).root 1 b y e in
      let s : y +ℤ (at m).over ≡ g.height +ℤ ((at m).over -ℤ (at g.mark).over) =
      ap (λ (x : ℤ). x +ℤ (at m).over) g.is ∙ swap g.height (at g.mark).over (at m).over in
      rw s (omega (
        arith,
        size_add g.height ((at m).over -ℤ (at g.mark).over),
        small g.mark g.height g.low
            (omega (arith, g.high)) g.holds,
        near m g.mark,
      ))

  start_of_size : (m : ℕ) → 0 < m → m ≤ b → (y : ℤ) → root_of at held b m ≡ some y → nat_abs (start_of at held b m) ≤ most_height
  unfolding start_of
  start_of_size m l u y e = by (held m) refl
    where
      by : (o : Option ℤ) → held m ≡ o → nat_abs (own (held m) (along (at m) (root_of at held b m))) ≤ most_height
      by none h = rw (h, e) (start_size m y e)
      by (some z) h = rw h (omega (arith, small m z l u h))

  start_inside : (hs : List ℤ) → length hs ≡ b → ((m : ℕ) → 0 < m → m ≤ b → height hs m ≡ start_of at held b m)
      → ((v : ℕ) → v < b → is_some (root_of at held b (suc v)) ≡ true) → Working hs b
  start_inside hs e h g = record { all = e; inside = λ j. by j (ltb j b) refl }
    where
      known : (m : ℕ) (o : Option ℤ) → root_of at held b m ≡ o → is_some (root_of at held b m) ≡ true → 0 < m → m ≤ b
          → nat_abs (start_of at held b m) ≤ most_height
      known m none q i l u = absurd (true≢false (sym i ∙ ap is_some q))
      known m (some y) q i l u = start_of_size m l u y q

      by : (j : ℕ) (t : Bool) → ltb j b ≡ t → nat_abs (get_or hs j (pos 0)) ≤ most_height
      by j true t =
          let l = ltb-true j b t in
          let here : height hs (suc j) ≡ get_or hs j (pos 0) = rw (place j) in
          rw (← here, h (suc j) (omega arith) l) (known (suc j) (root_of at held b (suc j)) refl (g j l) (omega arith) l)
      by j false t = rw (past_end hs j (omega (arith, ltb-false j b t))) zero-le

-- the held height of a mark is inside its limit
module _ (held : List ℤ) (b h : ℕ) (entries : HeldEntries held b h) (m : ℕ) (z : ℤ) where
  from_small : (k i : ℕ) → i + k ≡ h → held_from held i m ≡ some z → nat_abs z ≤ most_held_height
  unfolding held_height
  from_small zero i e q =
      let past : length held ≤ 2 * i = omega (arith, entries.whole) in
      let d : drop (2 * i) held ≡ [] = drop_of_length-le held past in
      absurd (none_some z (rw d at q))
  from_small (suc k) i e q =
      by (λ s. from_small k (i + 1) (omega arith) s) (eqb (nat_abs (mark_at held i)) m)
      (sym (held_step held i (omega (arith, entries.whole)) m) ∙ q)
    where
      by : (held_from held (i + 1) m ≡ some z → nat_abs z ≤ most_held_height) → (t : Bool)
          → cond t (some (height_at held i)) (held_from held (i + 1) m) ≡ some z → nat_abs z ≤ most_held_height
      by later true s = rw (← (some_is (height_at held i) z s)) (entries.each i (omega arith)).height
      by later false s = later s

  pub held_small : held_height held m ≡ some z → nat_abs z ≤ most_held_height
  held_small q = from_small h 0 (omega arith) q

-- the start of a tested book in which each piece has a held mark is inside the limit for work
pub start_working : (b n h : ℕ) (held lines : List ℤ) → b ≤ most_marks → Lines lines b n → HeldEntries held b h
    → unheld_piece (rooted_by (tree b (standing lines))) (held_height held) b ≡ 0 → Working (start_heights b held lines) b
unfolding unheld_piece
start_working b n h held lines few good entries none_unheld =
    start_inside b few at (held_height held) (λ m z l u. held_small held b h entries m z) near (start_heights b held lines)
    (start_length b held lines)
    (λ m l u. start_height b held lines m l u)
    (λ v l. not-false (is_some (root_of at (held_height held) b (suc v)))
    (none_bad (λ i. not (is_some (root_of at (held_height held) b (suc i)))) b none_unheld v l))
  where
    es : Tree
    es = tree b (standing lines)

    at : ℕ → Rooted
    at = rooted_by es

    fair : (l : Line) → Memᴰ l (standing lines) → Fair b l
    fair = fairs_each (fair_lines lines b n good)

    placed : (l : Line) → Memᴰ l (standing lines) → Placed b l
    placed l i = (fair l i).placed

    near : (m q : ℕ) → nat_abs ((at m).over -ℤ (at q).over) ≤ b * most_difference
    near m q =
        let apart =
        tree_apart es (λ e i l is. (fair l (tree_line (standing lines) (grows b (standing lines) placed) e i l is)).difference) m q in
        omega (arith, apart, size b (standing lines) placed)
