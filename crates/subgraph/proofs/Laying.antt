-- Lines join the chains of a subgraph; the tree's are the first. Assumes nothing.
use Prim.Native.Nat.{ℕ, zero, suc, ◌+◌, ◌-◌, ◌/◌, ◌%◌, ◌≤◌, ◌<◌}
use native.Mathlib.Omega.{arith}
use native.Mathlib.Numerals.{add-one}
use mathlib.Core.Path.{◌≡◌, refl, sym, ◌∙◌, ap, subst}
use mathlib.Core.Logic.{◌⊎◌, inl, inr}
use mathlib.Core.List.Memᴰ
use mathlib.Core.List.{List, [], ◌∷◌, Memᴰ}
use mathlib.Core.Option.{Option, none, some, some-injective, some-ne-none, none-ne-some}
use lib.ListN.{length, get_or, length-append}
use Rattle.network.specs.Standing.{Line}
use Rattle.network.specs.Tree.{Tree, grow, marks, tree, tree_lines, lines1}
use Rattle.network.specs.Subgraph.{numbers}
use Rattle.network.proofs.Subgraph.{in_only, nos_is_in, of_tree_lines}
use Rattle.network.proofs.Count.{unique}
use Rattle.network.proofs.Flow.{ends_in}
use Rattle.network.proofs.Grown.{ByLine, ByRoot, grown}
use Rattle.network.specs.Walk.{Ends}
use Rattle.chains.specs.Chains.{Half, fore, aft, Drawn, halves}
use Rattle.chains.specs.Link.{RoomChains, Joined, Wider}
use Rattle.chains.specs.Listed.{Listed}
use Rattle.chains.proofs.Halves.{line_from, line_to}
use Rattle.chains.proofs.Joining.{join_draws, draws_none, draws_same}
use Rattle.search.specs.Front.{By, Key}
use Rattle.search.specs.Front as f
use Rattle.tree.specs.Plant.{Holding}
use Rattle.tree.proofs.Entries.{Enters, enters_line, enters_at, later, EntryOf, in_at, order_of, came_of}
use Rattle.subgraph.specs.Drawn.{Laid, stayed, joined, TreeDrawn}
use Rattle.subgraph.proofs.Only.{only_numbers}

-- ---- a line of the book joins, by its number

-- it is none of the lines that the chains hold
pub line_joins : {n q : ℕ} {ends head next head' next' : List ℕ} (lines : List Line) → Listed lines n q ends → (l : Line)
    → Memᴰ l lines
    → (sub sub' : List Line) → ((k : Line) → Memᴰ k sub → Memᴰ k lines)
    → ((k : Line) → Memᴰ k sub → k.number ≡ l.number → ⊥)
    → Wider sub sub' l → RoomChains n head next → Joined ends head next head' next' l.number → Drawn sub n head next
    → Drawn sub' n head' next'
line_joins lines li l i sub sub' part is_new wd room jn d =
    join_draws sub sub' l (λ k j. li.sound k (part k j)) (li.sound l i) wd is_new (line_from li l i) (line_to li l i) room jn d.heads
    d.chains

-- ---- the tree's lines join, entry by entry

tree_more : (o : Option Line) (ls : List Line) (l : Line) → o ≡ some l → Wider ls (lines1 o ls) l
tree_more none ls l e = absurd (none-ne-some l e)
tree_more (some k) ls l e = record {
  mine = Memᴰ.append_right ls (Memᴰ.head (sym (some-injective _ _ e)));
  keeps = λ j i. Memᴰ.append_left (k ∷ []) i;
  only = λ j i. go j (Memᴰ.append_cases ls i);
}
  where
    go : (j : Line) → Memᴰ j ls ⊎ Memᴰ j (k ∷ []) → (j ≡ l) ⊎ Memᴰ j ls
    go j (inl i) = inr i
    go j (inr i) = inl (Memᴰ.eq_of_singleton i ∙ some-injective _ _ e)

lines1_none : (o : Option Line) (ls : List Line) → o ≡ none → lines1 o ls ≡ ls
lines1_none none ls e = refl
lines1_none (some k) ls e = absurd (some-ne-none k e)

lines1_some : (o : Option Line) (ls : List Line) (l : Line) → o ≡ some l → length (lines1 o ls) ≡ length ls + 1
lines1_some none ls l e = absurd (none-ne-some l e)
lines1_some (some k) ls l e = length-append ls (k ∷ [])

module _ (n q : ℕ) (ends : List ℕ) (lines : List Line) (li : Listed lines n q ends) (best order : List ℕ)
    (ho : Holding (tree (n - 1) lines) best order ends) where
  abbrev at : ℕ → Tree
  at k = grow lines (marks (n - 1)) k

  pub record LayingAt (k count : ℕ) (head next : List ℕ) : Type 0 where
    pub drawn : Drawn (tree_lines (grow lines (marks (n - 1)) k)) n head next
    pub counted : count ≡ length (tree_lines (grow lines (marks (n - 1)) k))

  pub lay_start : (head next : List ℕ) → RoomChains n head next → ((i : ℕ) → i < n → get_or head i 0 ≡ 0) → LayingAt 0 0 head next
  unfolding grow tree_lines
  lay_start head next room zeros = record { drawn = draws_none room zeros; counted = refl }

  -- the tree's lines are lines
  tree_part : (k : ℕ) → k < n → (l : Line) → Memᴰ l (tree_lines (at k)) → Memᴰ l lines
  unfolding grow tree_lines
  tree_part zero lt l m = absurd (Memᴰ.not-nil m)
  tree_part (suc k) lt l m = go (enters_at n lines li.sound k (omega arith)) (tree_part k (omega arith) l)
    where
      go : Enters lines (at k) (at (suc k)) → (Memᴰ l (tree_lines (at k)) → Memᴰ l lines) → Memᴰ l lines
      go en ih = pick en.e.by refl (subst (λ (t : Tree). Memᴰ l (tree_lines t)) en.next m)
        where
          pick : (o : Option Line) → en.e.by ≡ o → Memᴰ l (lines1 o (tree_lines (at k))) → Memᴰ l lines
          pick none e i = ih i
          pick (some j) e i = hit (Memᴰ.append_cases (tree_lines (at k)) i)
            where
              hit : Memᴰ l (tree_lines (at k)) ⊎ Memᴰ l (j ∷ []) → Memᴰ l lines
              hit (inl i) = ih i
              hit (inr i) = Memᴰ.cast (Memᴰ.eq_of_singleton i) (enters_line en j e)

  module _ (k count r : ℕ) (head next head' next' : List ℕ) (few : k + 1 < n) (room : RoomChains n head next)
      (la : LayingAt k count head next) where
    abbrev en : Enters lines (at k) (at (suc k))
    en = enters_at n lines li.sound k few

    mark : EntryOf n lines li.sound (get_or order k 0)
    unfolding tree
    mark = record { k = k; few = few; its = en; is_mark = sym (order_of n lines li.sound order ho.entered k few) }

    key : Key (at (n - 1)) best ends (get_or order k 0) en.e.dist
    unfolding tree mark
    key =
        ho.keyed (get_or order k 0) en.e.dist (later n lines li.sound (suc k) (n - 1) (get_or order k 0) en.e.dist (omega arith)
        (in_at n lines li.sound (get_or order k 0) mark))

    root_stays : en.e.by ≡ none → tree_lines (at (suc k)) ≡ tree_lines (at k)
    unfolding tree_lines
    root_stays e = ap tree_lines en.next ∙ lines1_none en.e.by (tree_lines (at k)) e

    line_more : (l : Line) → en.e.by ≡ some l → Wider (tree_lines (at k)) (tree_lines (at (suc k))) l
    unfolding tree_lines
    line_more l e =
        subst (λ (t : Tree). Wider (tree_lines (at k)) (tree_lines t) l) (sym en.next) (tree_more en.e.by (tree_lines (at k)) l e)

    line_count : (l : Line) → en.e.by ≡ some l → length (tree_lines (at (suc k))) ≡ length (tree_lines (at k)) + 1
    unfolding tree_lines
    line_count l e = ap (λ (t : Tree). length (tree_lines t)) en.next ∙ lines1_some en.e.by (tree_lines (at k)) l e

    -- what the key says of the entry
    root_by : get_or best (get_or order k 0) 0 ≡ 0 → en.e.by ≡ none
    unfolding mark
    root_by z = go key.by
      where
        go : By (at (n - 1)) ends (get_or order k 0) en.e.dist key.h → en.e.by ≡ none
        go (f.root c a b) = sym (came_of n lines li.sound (get_or order k 0) mark) ∙ c
        go (f.line l u du c hf lo t i s) =
            let by : en.e.by ≡ some l = sym (came_of n lines li.sound (get_or order k 0) mark) ∙ c in
            absurd (omega (arith, key.key, s, (li.sound l (enters_line en l by)).long))

    line_by : (get_or best (get_or order k 0) 0 ≡ 0 → ⊥) → (l : Line) × (en.e.by ≡ some l) ×
        (get_or best (get_or order k 0) 0 % halves / 2 ≡ l.number)
    unfolding mark
    line_by nz = go key.by
      where
        num : {l : Line} {u : ℕ} → Half l u (get_or order k 0) key.h → get_or best (get_or order k 0) 0 % halves / 2 ≡ l.number
        num (fore p x z) = omega (arith, key.key, key.low)
        num (aft p x z) = omega (arith, key.key, key.low)

        go : By (at (n - 1)) ends (get_or order k 0) en.e.dist key.h
            → (l : Line) × (en.e.by ≡ some l) × (get_or best (get_or order k 0) 0 % halves / 2 ≡ l.number)
        go (f.root c a b) = absurd (nz (omega (arith, key.key, a, b)))
        go (f.line l u du c hf lo t i s) = (l, sym (came_of n lines li.sound (get_or order k 0) mark) ∙ c, num hf)

    -- the line by which a mark enters has an end outside the tree, and so is none of its lines yet
    line_new : (l : Line) → en.e.by ≡ some l → (j : Line) → Memᴰ j (tree_lines (at k)) → j.number ≡ l.number → ⊥
    line_new l e j m same = go en.by
      where
        go : ByLine lines (at k) en.e ⊎ ByRoot lines (at k) en.e → ⊥
        go (inr x) = none-ne-some l (sym x.its ∙ e)
        go (inl x) =
            let own : l ≡ x.l = some-injective _ _ (sym e ∙ x.its) in
            let is : x.l ≡ j = unique lines li.rising x.l j x.is_line (tree_part k (omega arith) j m)
            (ap (λ (z : Line). z.number) (sym own) ∙ sym same) in
            let t = of_tree_lines (at k) j m in
            ends_in lines (grown lines (marks (n - 1)) k) t.0 t.1 j t.2 x.sc.near x.sc.away
            (subst (λ (z : Line). Ends z x.sc.near x.sc.away) is x.sc.ends) x.sc.is_out

    pub laid_next : Laid ends head next head' next' (get_or best (get_or order k 0) 0) r → LayingAt (k + 1) (count + r) head' next'
    laid_next (stayed z e eh ex) =
        let same_lines : tree_lines (at (k + 1)) ≡ tree_lines (at k) = ap (λ (j : ℕ). tree_lines (at j)) (add-one k)
        ∙ root_stays (root_by z) in
        record { drawn = rw (same_lines, eh, ex) la.drawn; counted = rw same_lines (omega (arith, e, la.counted)) }
    laid_next (joined nz e jn) =
        let w = line_by nz in
        let wd : Wider (tree_lines (at k)) (tree_lines (at (k + 1))) w.0 = subst
        (λ (j : ℕ). Wider (tree_lines (at k)) (tree_lines (at j)) w.0) (sym (add-one k)) (line_more w.0 w.1) in
        record {
          drawn =
              line_joins lines li w.0 (enters_line en w.0 w.1) (tree_lines (at k)) (tree_lines (at (k + 1)))
              (tree_part k (omega arith))
              (line_new w.0 w.1) wd room (subst (Joined ends head next head' next') w.2 jn) la.drawn;
          counted = omega (arith, la.counted, line_count w.0 w.1, ap (λ (j : ℕ). length (tree_lines (at j))) (add-one k));
        }

  pub lay_end : (k count : ℕ) (head next : List ℕ) → 0 < n → k ≡ n - 1 → LayingAt k count head next → TreeDrawn lines n head next count
  unfolding tree
  lay_end k count head next pos e la = record {
    drawn = draws_same
        (λ l i. in_only (numbers (tree_lines (at (n - 1)))) lines l (tree_part (n - 1) (omega arith) l i)
        (nos_is_in (tree_lines (at (n - 1))) l i))
        (λ l i. only_numbers lines (tree_lines (at (n - 1))) li.rising (tree_part (n - 1) (omega arith)) l i)
        (subst (λ (j : ℕ). Drawn (tree_lines (at j)) n head next) e la.drawn);
    count = la.counted ∙ ap (λ (j : ℕ). length (tree_lines (at j))) e;
  }

-- one mark lays one line at most
pub laid_high : {key r : ℕ} {ends head next head' next' : List ℕ} → Laid ends head next head' next' key r → r ≤ 1
laid_high (stayed z e eh ex) = omega arith
laid_high (joined z e jn) = omega arith
