-- Every standing line as a link of its own, line by line. Assumes nothing.
use Prim.Native.Nat.{ℕ, suc, ◌+◌, ◌*◌, ◌≤◌, ◌<◌}
use native.Mathlib.Omega.{arith}
use mathlib.Core.Path.{◌≡◌, refl, sym, ◌∙◌, ap, subst}
use mathlib.Core.Logic.{◌⊎◌, inl, inr}
use mathlib.Core.Bool.{true, false}
use mathlib.Core.List.Memᴰ
use mathlib.Core.List.{List, [], ◌∷◌, ◌++◌, map, append_assoc, append-nil, Memᴰ}
use lib.IntN.{ℤ, pos, negsuc, nat_abs}
use lib.ListN.{length, set, length-append, length-map}
use lib.Seq.{set_at}
use borrow.Author.Tests.{eq-eqb, ne_eqb}
use mir.Syntax.{w64}
use mir.Val.{of_z}
use Rattle.laws.specs.Tests.{eq_z}
use Rattle.laws.specs.Range.{Between}
use Rattle.book.specs.Line.{from_at, to_at, standing_at}
use Rattle.book.specs.Good.{GoodLines}
use Rattle.book.specs.declared.Book.{Book}
use Rattle.book.proofs.Places.{count_of_lem}
use Rattle.network.specs.Standing.{Line, standing}
use Rattle.network.specs.Field.{stands_from}
use Rattle.network.specs.Codes.{codes}
use Rattle.network.proofs.Standing.{stands_all, stands_none}
use Rattle.links.specs.Link.{Link, own_link}
use Rattle.links.specs.Sketch.{start_of, sketch, in_all}
use Rattle.fields.specs.Places.{Place}
use Rattle.fields.proofs.Stands.{line_here, place_of_lem, stands_not, stands_here}
use Rattle.joins.specs.Row.{row_of, link_row, Small}
use Rattle.joins.specs.Code.{codes_in}
use Rattle.joins.specs.Tables.{Holds}
use Rattle.joins.specs.Step.{Tabled}
use Rattle.joins.proofs.Codes.{codes_in_append}
use Rattle.joins.proofs.Tables.{rows_of, rows_append}

-- the first i lines are looked at: those of them that stand have their links, so many
pub record BegunTo (lines : List ℤ) (i links : ℕ) (rows runs : List ℕ) : Type 0 where
  pub own : List Line
  pub are : standing lines ≡ own ++ stands_from lines i
  pub count : length own ≡ links
  pub held : Holds (map own_link own) rows runs
  codes_are : length (codes_in (map own_link own)) ≡ links

pub begun_start : (lines : List ℤ) (rows runs : List ℕ) → BegunTo lines 0 0 rows runs
unfolding codes_in
begun_start lines rows runs = record {
  own = [];
  are = stands_all lines 0 refl;
  count = refl;
  held = record {
    small = λ x i. absurd (Memᴰ.not-nil i);
    rows_behind = rows;
    rows_are = refl;
    runs_behind = runs;
    runs_are = refl;
  };
  codes_are = refl;
}

-- a place behind the front of a list
front_set : (front behind : List ℕ) (k a : ℕ) → length front ≡ k → k < length (front ++ behind)
    → (rest : List ℕ) × (set (front ++ behind) k a ≡ (front ++ (a ∷ [])) ++ rest)
front_set front [] k a e h = absurd (omega (arith, length-append front []))
front_set front (y ∷ rest) k a e h = (rest, set_at front y rest a k e ∙ sym (append_assoc front (a ∷ []) rest))

own_append : (ls : List Line) (l : Line) → map own_link (ls ++ (l ∷ [])) ≡ map own_link ls ++ (own_link l ∷ [])
own_append [] l = refl
own_append (x ∷ ls) l = ap (λ (r : List Link). own_link x ∷ r) (own_append ls l)

-- whether a line is withdrawn, by the bits of its field
withdrawn : (z : ℤ) → Between 0 1 z → of_z w64 z ≡ 0 → eq_z z (pos 0) ≡ true
unfolding eq_z
withdrawn (pos n) b e = eq-eqb n 0 e
withdrawn (negsuc n) b e = let p = b.is in cc

not_withdrawn : (z : ℤ) → (of_z w64 z ≡ 0 → ⊥) → eq_z z (pos 0) ≡ false
unfolding eq_z
not_withdrawn (pos n) d = ne_eqb n 0 d
not_withdrawn (negsuc n) d = refl

module _ (k : Book) (lines : List ℤ) (g : GoodLines k lines) (i links : ℕ) (h : i < k.lines) {rows runs : List ℕ}
    (t : BegunTo lines i links rows runs) where
  abbrev good : Place lines k.marks k.lines i
  good = place_of_lem lines k.marks k.lines i g.good h

  -- a withdrawn line is passed over
  pub begun_not : of_z w64 (standing_at lines i) ≡ 0 → BegunTo lines (i + 1) links rows runs
  begun_not e = record {
    own = t.own;
    are = t.are
        ∙ ap (λ (l : List Line). t.own ++ l) (sym (stands_not lines i good.whole (withdrawn (standing_at lines i) good.good.standing e)));
    count = t.count;
    held = t.held;
    codes_are = t.codes_are;
  }

  abbrev its : Line
  its = line_here lines i

  small_own : Small (own_link its)
  small_own = record {
    first = omega (arith, good.good.from.high, g.few_marks);
    last = omega (arith, good.good.to.high, g.few_marks);
    count = omega arith;
  }

  -- a standing line gets its link
  module _ (e : of_z w64 (standing_at lines i) ≡ 0 → ⊥) (from to row code : ℕ) (is_from : from ≡ nat_abs (from_at lines i))
      (is_to : to ≡ nat_abs (to_at lines i)) (is_row : row ≡ row_of from to 1)
      (is_code : code ≡ (i + 1) * 2) (rows_fit : links < length rows)
      (Runs-Fit : links < length runs) where
    abbrev own : List Link
    own = map own_link t.own

    abbrev more : List Link
    more = map own_link (t.own ++ (its ∷ []))

    more_is : more ≡ own ++ (own_link its ∷ [])
    more_is = own_append t.own its

    rows_now : (rest : List ℕ) × (set rows links row ≡ rows_of more ++ rest)
    unfolding link_row
    rows_now =
        let r = front_set (rows_of own) t.held.rows_behind links row
        (length-map own link_row ∙ length-map t.own own_link ∙ t.count) (rw t.held.rows_are at rows_fit) in (
          r.0,
          ap (λ (l : List ℕ). set l links row) t.held.rows_are ∙ r.1
              ∙ ap (λ (l : List ℕ). l ++ r.0) (ap (λ (n : ℕ). rows_of own ++ (n ∷ [])) (is_row ∙ rw (is_from, is_to))
              ∙ sym (ap rows_of more_is ∙ rows_append own (own_link its ∷ []))),
        )

    codes_now : codes_in more ≡ codes_in own ++ (code ∷ [])
    unfolding codes_in codes
    codes_now =
        ap codes_in more_is ∙ codes_in_append own (own_link its ∷ [])
        ∙ ap (λ (n : ℕ). codes_in own ++ (n ∷ [])) (let z : 2 * suc i ≡ code = omega arith in z)

    runs_now : (rest : List ℕ) × (set runs links code ≡ codes_in more ++ rest)
    runs_now =
        let c = front_set (codes_in own) t.held.runs_behind links code t.codes_are (rw t.held.runs_are at Runs-Fit) in
        (c.0, ap (λ (l : List ℕ). set l links code) t.held.runs_are ∙ c.1 ∙ ap (λ (l : List ℕ). l ++ c.0) (sym codes_now))

    all_small : (x : Link) → Memᴰ x more → Small x
    all_small x m = go (Memᴰ.append_cases own (subst (Memᴰ x) more_is m))
      where
        go : Memᴰ x own ⊎ Memᴰ x (own_link its ∷ []) → Small x
        go (inl j) = t.held.small x j
        go (inr j) = subst Small (sym (Memᴰ.eq_of_singleton j)) small_own

    pub begun_next : BegunTo lines (i + 1) (links + 1) (set rows links row) (set runs links code)
    begun_next = record {
      own = t.own ++ (its ∷ []);
      are = t.are ∙ ap (λ (l : List Line). t.own ++ l) (stands_here lines i good.whole good.good.standing
          (not_withdrawn (standing_at lines i) e))
          ∙ sym (append_assoc t.own (its ∷ []) (stands_from lines (i + 1)));
      count = length-append t.own (its ∷ []) ∙ omega (arith, t.count);
      held = record {
        small = all_small;
        rows_behind = rows_now.0;
        rows_are = rows_now.1;
        runs_behind = runs_now.0;
        runs_are = runs_now.1;
      };
      codes_are = ap length codes_now ∙ length-append (codes_in own) (code ∷ []) ∙ omega (arith, t.codes_are);
    }

-- ---- every line is looked at

pub begun_end : (k : Book) (lines : List ℤ) → GoodLines k lines → (i links : ℕ) → k.lines ≤ i → {rows runs : List ℕ}
    → BegunTo lines i links rows runs → Tabled (start_of (standing lines)) rows runs (record { links = links; spurs = 0; loops = 0 })
unfolding start_of
begun_end k lines g i links h {rows = rows} {runs = runs} t = record {
  held = subst (λ (l : List Link). Holds l rows runs) (ap (map own_link) (sym all) ∙ sym nothing_more) t.held;
  links_are = sym (ap length (ap (map own_link) all) ∙ length-map t.own own_link ∙ t.count);
  spurs_are = refl;
  loops_are = refl;
}
  where
    all : standing lines ≡ t.own
    all =
        t.are ∙ ap (λ (l : List Line). t.own ++ l) (stands_none lines i (omega (arith, count_of_lem lines k.lines g.good.whole)))
        ∙ append-nil t.own

    nothing_more : in_all (sketch (map own_link (standing lines)) [] []) ≡ map own_link (standing lines)
    nothing_more = append-nil (map own_link (standing lines) ++ []) ∙ append-nil (map own_link (standing lines))
