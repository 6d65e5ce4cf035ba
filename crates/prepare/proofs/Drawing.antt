-- The book is drawn line by line, from the last to the first. Assumes nothing.
use Prim.Native.Nat.{ℕ, suc, ◌+◌, ◌*◌, ◌-◌, ◌≤◌, ◌<◌}
use native.Mathlib.Omega.{arith}
use native.Mathlib.Numerals.{add-one}
use native.Mathlib.Decide.{ℕ_discrete}
use mathlib.Core.Path.{◌≡◌, refl, sym, ◌∙◌, ap, subst}
use mathlib.Core.Logic.{◌⊎◌, inl, inr}
use mathlib.Core.Bool.{true, false}
use mathlib.Core.List.Memᴰ
use mathlib.Core.List.{List, [], ◌∷◌, Memᴰ}
use lib.IntN.{ℤ, pos, nat_abs}
use lib.ListN.{length, get_or, set, take, drop, length-set}
use lib.Seq.{get_or-set_same, get_or-set_other}
use lib.Dec.{lit<}
use Rattle.book.specs.Limits.{most_length}
use Rattle.book.specs.Line.{line_words, from_field, to_field, difference_field, length_field, standing_field}
use Rattle.book.specs.Line.{from_at, to_at, length_at, standing_at, entry_at, line_count}
use Rattle.book.proofs.Places.{line_there, entry_field}
use Rattle.network.specs.Standing.{Line, standing}
use Rattle.network.specs.Field.{HasLine, line_at, stands_from}
use Rattle.network.proofs.Standing.{rising_standing, stands_all, stands_none, stands_not, stands_here}
use Rattle.laws.specs.Tests.{eq_z}
use Rattle.laws.specs.Range.{Between}
use Rattle.book.specs.Good.{GoodLine}
use Rattle.chains.specs.Chains.{Half, fore, aft, mark_of, metres_of, Bounded, Told, Drawn, InOrder, Sound, AllSound, halves, number_limit}
use Rattle.chains.specs.Link.{RoomChains, Joined, Wider}
use Rattle.chains.proofs.Halves.{half_no, told_mark}
use Rattle.chains.proofs.Joining.{join_draws, draws_none}
use Rattle.chains.proofs.Order.{join_order, order_none}
use Rattle.prepare.specs.Drawn.{end_of, drawing, Drew, withdrawn, drawn, RoomDraw, BookDrawn}

-- ---- a line of the book

-- the entry at place i
pub good_entry : (b : ℕ) (ls : List ℤ) (i : ℕ) → GoodLine b ls i → GoodLine b (entry_at ls i) 0
good_entry b ls i g = record {
  from = rw (entry_field ls i from_field (lit< tt)) g.from;
  to = rw (entry_field ls i to_field (lit< tt)) g.to;
  apart = rw (entry_field ls i from_field (lit< tt), entry_field ls i to_field (lit< tt)) g.apart;
  difference = rw (entry_field ls i difference_field (lit< tt)) g.difference;
  long = rw (entry_field ls i length_field (lit< tt)) g.long;
  standing = rw (entry_field ls i standing_field (lit< tt)) g.standing;
}

-- ---- what is drawn of the lines from j on

-- the line at place j
abbrev line_here : List ℤ → ℕ → Line
line_here ls j = line_at (suc j) ls j

module _ (n : ℕ) (ls : List ℤ) where
  pub record DrawingAt (j : ℕ) (ends head next : List ℕ) : Type 0 where
    pub bounded : Bounded n ends
    pub sound : AllSound n (stands_from ls j)
    pub drawn : Drawn (stands_from ls j) n head next
    pub ordered : InOrder (stands_from ls j) n head next
    pub told : Told (stands_from ls j) ends
    pub numbered : (l : Line) → Memᴰ l (stands_from ls j) → (j < l.number) × (l.number ≤ line_count ls)
    pub line_of : (i : ℕ) → i < number_limit → 0 < get_or ends (i * 2) 0 → (l : Line) × Memᴰ l (stands_from ls j) × (l.number ≡ i)

  pub draw_start : (ends head next : List ℕ) → 0 < n → halves ≤ length ends → RoomChains n head next
      → ((i : ℕ) → i < halves → get_or ends i 0 ≡ 0) → ((i : ℕ) → i < n → get_or head i 0 ≡ 0) → DrawingAt (line_count ls) ends head next
  draw_start ends head next some le room ze zh = record {
    bounded = record { ends_at = le; mark_ok = λ h l. omega (arith, ze h l); short = λ h l. omega (arith, ze h l) };
    sound = λ l i. nothing l i;
    drawn = rw none_there (draws_none room zh);
    ordered = rw none_there (order_none room zh);
    told = λ l u v h i. nothing l i;
    numbered = λ l i. nothing l i;
    line_of = λ i l h. absurd (omega (arith, ze (i * 2) (omega arith)));
  }
    where
      none_there : stands_from ls (line_count ls) ≡ []
      none_there = stands_none ls (line_count ls) (omega arith)

      nothing : {A : Type 0} (l : Line) → Memᴰ l (stands_from ls (line_count ls)) → A
      nothing l i = absurd (Memᴰ.not-nil (subst (λ (x : List Line). Memᴰ l x) none_there i))

  -- ---- one line more

  module _ (j : ℕ) (ends head next ends' head' next' : List ℕ) (lt : suc j ≤ line_count ls) (few : line_count ls + 1 < number_limit)
      (few_marks : n ≤ halves) (pos_n : 0 < n) (room : RoomChains n head next)
      (good : GoodLine (n - 1) ls j) (d : DrawingAt (suc j) ends head next) where
    abbrev e : List ℤ
    e = entry_at ls j

    there : HasLine ls j
    there = line_there ls j lt

    stands_is : standing_at (entry_at ls j) 0 ≡ standing_at ls j
    stands_is = entry_field ls j standing_field (lit< tt)

    -- a withdrawn line
    skipped : eq_z (standing_at (entry_at ls j) 0) (pos 0) ≡ true → DrawingAt j ends head next
    skipped w = record {
      bounded = d.bounded;
      sound = rw same_lines d.sound;
      drawn = rw same_lines d.drawn;
      ordered = rw same_lines d.ordered;
      told = rw same_lines d.told;
      numbered = rw same_lines (λ l i. (omega (arith, (d.numbered l i).0), (d.numbered l i).1));
      line_of = rw same_lines d.line_of;
    }
      where
        same_lines : stands_from ls j ≡ stands_from ls (suc j)
        same_lines = stands_not ls j there (rw stands_is at w)

    -- a standing line
    from_is : nat_abs (from_at (entry_at ls j) 0) ≡ (line_here ls j).from
    from_is = ap nat_abs (entry_field ls j from_field (lit< tt))

    to_is : nat_abs (to_at (entry_at ls j) 0) ≡ (line_here ls j).to
    to_is = ap nat_abs (entry_field ls j to_field (lit< tt))

    length_is : nat_abs (length_at (entry_at ls j) 0) ≡ (line_here ls j).length
    length_is = ap nat_abs (entry_field ls j length_field (lit< tt))

    g : GoodLine (n - 1) (entry_at ls j) 0
    g = good_entry (n - 1) ls j good

    apart_of : (x y : ℤ) {lo hi : ℕ} → Between lo hi x → Between lo hi y → (x ≡ y → ⊥) → nat_abs x ≡ nat_abs y → ⊥
    apart_of x y a b h q = h (a.is ∙ ap pos q ∙ sym b.is)

    fresh : Sound n (line_here ls j)
    fresh = record {
      from_low = omega (arith, from_is, g.from.low);
      from_high = omega (arith, from_is, g.from.high);
      to_low = omega (arith, to_is, g.to.low);
      to_high = omega (arith, to_is, g.to.high);
      apart = λ z. apart_of (from_at (entry_at ls j) 0) (to_at (entry_at ls j) 0) g.from g.to g.apart (from_is ∙ z ∙ sym to_is);
      long = omega (arith, length_is, g.long.low);
      short = omega (arith, length_is, g.long.high);
      numbered = omega arith;
      number = omega arith;
    }

    module _ (st : eq_z (standing_at (entry_at ls j) 0) (pos 0) ≡ false)
        (en : ends' ≡ set (set ends (suc j * 2) (end_of (entry_at ls j) to_field)) (suc j * 2 + 1) (end_of (entry_at ls j) from_field))
        (jn : Joined ends' head next head' next' (suc j)) where
      abbrev rest : List Line
      rest = stands_from ls (suc j)

      abbrev new_to : ℕ
      new_to = end_of (entry_at ls j) to_field

      abbrev new_from : ℕ
      new_from = end_of (entry_at ls j) from_field

      more_lines : stands_from ls j ≡ line_here ls j ∷ stands_from ls (suc j)
      more_lines = stands_here ls j there good.standing (rw stands_is at st)

      ends_other : (h : ℕ) → (h ≡ suc j * 2 → ⊥) → (h ≡ suc j * 2 + 1 → ⊥) → get_or ends' h 0 ≡ get_or ends h 0
      ends_other h a b =
          rw en (get_or-set_other (set ends (suc j * 2) new_to) (suc j * 2 + 1) h new_from 0 b
          ∙ get_or-set_other ends (suc j * 2) h new_to 0 a)

      ends_to : get_or ends' (suc j * 2) 0 ≡ (line_here ls j).length * halves + (line_here ls j).to
      ends_to = rw en (get_or-set_other (set ends (suc j * 2) new_to) (suc j * 2 + 1) (suc j * 2) new_from 0 (λ q. omega arith)
          ∙ get_or-set_same ends (suc j * 2) new_to 0 (omega (arith, d.bounded.ends_at)) ∙ omega (arith, length_is, to_is))

      ends_from : get_or ends' (suc j * 2 + 1) 0 ≡ (line_here ls j).length * halves + (line_here ls j).from
      ends_from =
          rw en (get_or-set_same (set ends (suc j * 2) new_to) (suc j * 2 + 1) new_from 0
          (simp length-set (omega (arith, d.bounded.ends_at)))
          ∙ omega (arith, length_is, from_is))

      told_new : (u v h : ℕ) → Half (line_here ls j) u v h → get_or ends' h 0 ≡ (line_here ls j).length * halves + v
      told_new u v h (fore p q z) =
          let w : h ≡ suc j * 2 = omega arith in
          ap (λ (x : ℕ). get_or ends' x 0) w ∙ ends_to ∙ ap (λ (x : ℕ). (line_here ls j).length * halves + x) q
      told_new u v h (aft p q z) =
          let w : h ≡ suc j * 2 + 1 = omega arith in
          ap (λ (x : ℕ). get_or ends' x 0) w ∙ ends_from ∙ ap (λ (x : ℕ). (line_here ls j).length * halves + x) q

      ends_old : (l : Line) (u v h : ℕ) → Memᴰ l rest → Half l u v h → get_or ends' h 0 ≡ get_or ends h 0
      ends_old l u v h i hf =
          let num = d.numbered l i in let no = half_no hf in ends_other h (λ q. omega (arith, num.0, no.0))
          (λ q. omega (arith, num.0, no.0))

      along_it : Half (line_here ls j) (line_here ls j).from (line_here ls j).to (suc j * 2)
      along_it = fore refl refl (omega arith)

      against_it : Half (line_here ls j) (line_here ls j).to (line_here ls j).from (suc j * 2 + 1)
      against_it = aft refl refl (omega arith)

      wider : Wider rest (line_here ls j ∷ rest) (line_here ls j)
      wider = record { mine = Memᴰ.head refl; keeps = λ k i. Memᴰ.tail i; only = λ k i. go k i }
        where
          go : (k : Line) → Memᴰ k (line_here ls j ∷ rest) → (k ≡ line_here ls j) ⊎ Memᴰ k rest
          go k (Memᴰ.head q) = inl q
          go k (Memᴰ.tail i) = inr i

      new_line : (k : Line) → Memᴰ k rest → k.number ≡ suc j → ⊥
      new_line k i q = omega (arith, (d.numbered k i).0)

      from_end : mark_of ends' (suc j * 2 + 1) ≡ (line_here ls j).from
      from_end = told_mark ends' fresh few_marks against_it ends_from

      to_end : mark_of ends' (suc j * 2) ≡ (line_here ls j).to
      to_end = told_mark ends' fresh few_marks along_it ends_to

      stands : DrawingAt j ends' head' next'
      stands = record {
        bounded = record {
          ends_at = rw en (simp length-set d.bounded.ends_at);
          mark_ok = λ h l. mark_ok h l (ℕ_discrete h (suc j * 2)) (ℕ_discrete h (suc j * 2 + 1));
          short = λ h l. short h l (ℕ_discrete h (suc j * 2)) (ℕ_discrete h (suc j * 2 + 1));
        };
        sound = rw more_lines (λ l i. sounds l i);
        drawn =
            rw more_lines (join_draws rest (line_here ls j ∷ rest) (line_here ls j) d.sound fresh wider new_line from_end to_end room jn
            d.drawn.heads d.drawn.chains);
        ordered = rw more_lines (join_order rest (line_here ls j) fresh new_line from_end to_end jn d.ordered);
        told = rw more_lines (λ l u v h i hf. told l u v h i hf);
        numbered = rw more_lines (λ l i. numbered l i);
        line_of = rw more_lines (λ i l h. line_of i l h (ℕ_discrete i (suc j)));
      }
        where
          mark_ok : (h : ℕ) → h < halves → Dec (h ≡ suc j * 2) → Dec (h ≡ suc j * 2 + 1) → mark_of ends' h < n
          mark_ok h l (yes q) x = omega (arith, ap (λ (z : ℕ). get_or ends' z 0) q, ends_to, fresh.to_high)
          mark_ok h l (no q) (yes x) = omega (arith, ap (λ (z : ℕ). get_or ends' z 0) x, ends_from, fresh.from_high)
          mark_ok h l (no q) (no x) = omega (arith, ends_other h q x, d.bounded.mark_ok h l)

          short : (h : ℕ) → h < halves → Dec (h ≡ suc j * 2) → Dec (h ≡ suc j * 2 + 1) → metres_of ends' h ≤ most_length
          short h l (yes q) x = omega (arith, ap (λ (z : ℕ). get_or ends' z 0) q, ends_to, fresh.to_high, fresh.short)
          short h l (no q) (yes x) = omega (arith, ap (λ (z : ℕ). get_or ends' z 0) x, ends_from, fresh.from_high, fresh.short)
          short h l (no q) (no x) = omega (arith, ends_other h q x, d.bounded.short h l)

          sounds : (l : Line) → Memᴰ l (line_here ls j ∷ rest) → Sound n l
          sounds l (Memᴰ.head q) = subst (Sound n) (sym q) fresh
          sounds l (Memᴰ.tail i) = d.sound l i

          told : (l : Line) (u v h : ℕ) → Memᴰ l (line_here ls j ∷ rest) → Half l u v h → get_or ends' h 0 ≡ l.length * halves + v
          told l u v h (Memᴰ.head q) hf =
              told_new u v h (subst (λ (z : Line). Half z u v h) q hf) ∙ ap (λ (z : Line). z.length * halves + v) (sym q)
          told l u v h (Memᴰ.tail i) hf = ends_old l u v h i hf ∙ d.told l u v h i hf

          numbered : (l : Line) → Memᴰ l (line_here ls j ∷ rest) → (j < l.number) × (l.number ≤ line_count ls)
          numbered l (Memᴰ.head q) = (omega (arith, ap (λ (z : Line). z.number) q), omega (arith, ap (λ (z : Line). z.number) q))
          numbered l (Memᴰ.tail i) = (omega (arith, (d.numbered l i).0), (d.numbered l i).1)

          line_of : (i : ℕ) → i < number_limit → 0 < get_or ends' (i * 2) 0 → Dec (i ≡ suc j)
              → (l : Line) × Memᴰ l (line_here ls j ∷ rest) × (l.number ≡ i)
          line_of i l h (yes q) = (line_here ls j, Memᴰ.head refl, sym q)
          line_of i l h (no q) =
              let w =
              d.line_of i l (omega (arith, h, ends_other (i * 2) (λ z. omega arith) (λ z. omega arith))) in
              (w.0, Memᴰ.tail w.1, w.2)

    pub draw_next : Drew (suc j) (entry_at ls j) (drawing ends head next) (drawing ends' head' next') → DrawingAt j ends' head' next'
    draw_next (withdrawn w ei eh ex) = rw (ei, eh, ex) (skipped w)
    draw_next (drawn w ei jn) = stands w ei jn

  pub draw_end : (j : ℕ) (ends head next : List ℕ) → line_count ls + 1 < number_limit → n ≤ halves → j ≡ 0 → DrawingAt j ends head next
      → BookDrawn n ls ends head next
  draw_end j ends head next room few_marks z d = record {
    bounded = d.bounded;
    heads = d.drawn.heads;
    ordered = rw all d.ordered;
    listed = record {
      rising = rising_standing ls;
      sound = λ l i. d.sound l (there l i);
      few = few_marks;
      numbered = λ l i. omega (arith, (d.numbered l (there l i)).1);
      told = λ l u v h i. d.told l u v h (there l i);
      line_of = λ i l h. let w = d.line_of i (omega arith) h in (w.0, here w.0 w.1, w.2);
    };
    given = record {
      rising = rising_standing ls;
      sound = λ l i. d.sound l (there l i);
      few = few_marks;
      told = λ l u v h i. d.told l u v h (there l i);
      chains = rw all d.drawn.chains;
    };
  }
    where
      all : standing ls ≡ stands_from ls j
      all = stands_all ls j z

      there : (l : Line) → Memᴰ l (standing ls) → Memᴰ l (stands_from ls j)
      there l i = subst (λ (x : List Line). Memᴰ l x) all i

      here : (l : Line) → Memᴰ l (stands_from ls j) → Memᴰ l (standing ls)
      here l i = subst (λ (x : List Line). Memᴰ l x) (sym all) i

-- ---- by the loop's counter: line j is the entry at place j - 1

-- the part of the book that is lent for the entry at place i
abbrev part_at : List ℤ → ℕ → List ℤ
part_at ls i = take (i * line_words + line_words - i * line_words) (drop (i * line_words) ls)

part_is : (ls : List ℤ) (i : ℕ) → part_at ls i ≡ entry_at ls i
part_is ls i =
    let z : i * line_words + line_words - i * line_words ≡ line_words = omega arith in
    ap (λ (k : ℕ). take k (drop (i * line_words) ls)) z

module _ (n : ℕ) (ls : List ℤ) (j : ℕ) (ends head next ends₀ head₀ next₀ : List ℕ) (low : 0 < j) (high : j ≤ line_count ls)
    (room₀ : RoomDraw n ls ends₀ head₀ next₀) (room : RoomChains n head next) (d : DrawingAt n ls j ends head next) where
  back_one : j ≡ suc (j - 1)
  back_one = omega arith

  good_at : GoodLine (n - 1) ls (j - 1)
  good_at = room₀.good (j - 1) (omega arith)

  pub draw_turn : (ends' head' next' : List ℕ) → Drew (j - 1 + 1) (part_at ls (j - 1)) (drawing ends head next) (drawing ends' head' next')
      → DrawingAt n ls (j - 1) ends' head' next'
  draw_turn ends' head' next' dr =
      draw_next n ls (j - 1) ends head next ends' head' next' (omega arith) room₀.few room₀.few_marks room₀.some_mark room good_at
      (subst (λ (k : ℕ). DrawingAt n ls k ends head next) back_one d)
      (subst (λ (k : ℕ). Drew k (entry_at ls (j - 1)) (drawing ends head next) (drawing ends' head' next')) (add-one (j - 1))
      (rw (part_is ls (j - 1)) at dr))
