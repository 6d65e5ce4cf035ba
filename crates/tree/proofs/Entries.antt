-- When a mark enters, and by which line. Assumes nothing.
use Prim.Native.Nat.{ℕ, zero, suc, ◌+◌, ◌-◌, ◌≤◌, ◌<◌}
use native.Mathlib.Omega.{arith}
use native.Mathlib.Decide.{dec_lt}
use mathlib.Core.Path.{◌≡◌, refl, sym, ◌∙◌, ap, subst}
use mathlib.Core.Logic.{◌⊎◌, inl, inr}
use mathlib.Core.List.Memᴰ
use mathlib.Core.List.{List, ◌∷◌, Memᴰ}
use mathlib.Core.Option.{Option, none, some, some-injective, some-ne-none}
use lib.ListN.{length, get_or}
use Rattle.network.specs.Standing.{Line}
use Rattle.network.specs.Tree.{Entry, Tree, distance, grow, marks, tree}
use Rattle.network.proofs.Grown.{After, new, old, after, keeps, ByLine, ByRoot, Stepped, line, root, stop, stepped, is_new}
use Rattle.network.proofs.Shortest.{never}
use Rattle.network.proofs.Flow.{entered}
use Rattle.network.specs.Sound.{Placed}
use Rattle.network.proofs.Marks.{one_each, all_marks}
use Rattle.chains.specs.Chains.{AllSound}
use Rattle.search.specs.Front.{came}
use Rattle.search.proofs.Enter.{came_new, came_old}
use Rattle.tree.specs.Plant.{Entered, enters}

-- the mark m enters the tree es as the entry e
pub record Enters (lines : List Line) (es es' : Tree) : Type 0 where
  pub e : Entry
  pub next : es' ≡ e ∷ es
  pub is_new : distance es e.mark ≡ none
  pub by : ByLine lines es e ⊎ ByRoot lines es e

-- the line by which it enters is one of the lines
pub enters_line : {lines : List Line} {es es' : Tree} (x : Enters lines es es') (l : Line) → x.e.by ≡ some l → Memᴰ l lines
enters_line {lines = lines} {es = es} x l h = go x.by
  where
    go : ByLine lines es x.e ⊎ ByRoot lines es x.e → Memᴰ l lines
    go (inl b) = Memᴰ.cast (some-injective _ _ (sym h ∙ b.its)) b.is_line
    go (inr b) = absurd (some-ne-none _ (sym h ∙ b.its))

module _ (n : ℕ) (lines : List Line) (sound : AllSound n lines) where
  abbrev pub at : ℕ → Tree
  at k = grow lines (marks (n - 1)) k

  pub placed : (l : Line) → Memᴰ l lines → Placed (n - 1) l
  placed l i = let x = sound l i in
      record { from_low = x.from_low; from_high = omega (arith, x.from_high); to_low = x.to_low; to_high = omega (arith, x.to_high) }

  pub sized : (k : ℕ) → k < n → length (at k) ≡ k
  sized k h = (one_each (n - 1) lines placed k (omega arith)).1

  -- a mark enters at each step
  pub enters_at : (k : ℕ) → k + 1 < n → Enters lines (at k) (at (suc k))
  unfolding grow
  enters_at k h = go (stepped lines (marks (n - 1)) (at k)) (sized (suc k) (omega arith)) (sized k (omega arith))
    where
      go : {es : Tree} → Stepped lines (marks (n - 1)) (at k) es → length es ≡ suc k → length (at k) ≡ k → Enters lines (at k) es
      go (line {e = e} x) p q = record { e = e; next = refl; is_new = is_new x; by = inl x }
      go (root {e = e} x i) p q = record { e = e; next = refl; is_new = x.out; by = inr x }
      go (stop d f) p q = absurd (omega arith)

  step_keeps : (k m d : ℕ) → distance (at k) m ≡ some d → distance (at (suc k)) m ≡ some d
  unfolding grow
  step_keeps k m d h = go (stepped lines (marks (n - 1)) (at k))
    where
      go : {es : Tree} → Stepped lines (marks (n - 1)) (at k) es → distance es m ≡ some d
      go (line {e = e} x) = keeps e (at k) m d (is_new x) h
      go (root {e = e} x i) = keeps e (at k) m d x.out h
      go (stop a b) = h

  stays : (i k b m d : ℕ) → b ≡ i + k → distance (at k) m ≡ some d → distance (at b) m ≡ some d
  stays zero k b m d e h = let p : b ≡ k = omega arith in ap (λ (z : ℕ). distance (at z) m) p ∙ h
  stays (suc i) k b m d e h = let p : b ≡ suc (i + k) = omega arith in ap (λ (z : ℕ). distance (at z) m) p
      ∙ step_keeps (i + k) m d (stays i k (i + k) m d refl h)

  -- what is in stays in, at its distance
  pub later : (k b m d : ℕ) → k ≤ b → distance (at k) m ≡ some d → distance (at b) m ≡ some d
  later k b m d le h = stays (b - k) k b m d (omega arith) h

  -- ---- the entry of a mark

  pub record EntryOf (m : ℕ) : Type 0 where
    pub k : ℕ
    pub few : k + 1 < n
    pub its : Enters lines (at k) (at (suc k))
    pub is_mark : its.e.mark ≡ m

  entry_by : (j m d : ℕ) → j < n → distance (at j) m ≡ some d → EntryOf m
  unfolding grow distance
  entry_by zero m d h x = never x refl
  entry_by (suc j) m d h x = go (enters_at j (omega arith)) (entry_by j m d (omega arith))
    where
      go : Enters lines (at j) (at (suc j)) → (distance (at j) m ≡ some d → EntryOf m) → EntryOf m
      go en ih = hit (after en.e (at j) m)
        where
          hit : After en.e (at j) m → EntryOf m
          hit (new p q) = record { k = j; few = omega arith; its = en; is_mark = p }
          hit (old p q) = ih (sym q ∙ ap (λ (t : Tree). distance t m) (sym en.next) ∙ x)

  pub entry_of : (m : ℕ) → 0 < m → m < n → EntryOf m
  unfolding tree
  entry_of m low high = go (distance (at (n - 1)) m) refl
    where
      go : (o : Option ℕ) → distance (at (n - 1)) m ≡ o → EntryOf m
      go none x = absurd (all_marks (n - 1) lines placed m low (omega arith) x)
      go (some d) x = entry_by (n - 1) m d (omega arith) x

  -- it is out before and in after
  pub out_at : (m : ℕ) (w : EntryOf m) → distance (at w.k) m ≡ none
  out_at m w = ap (distance (at w.k)) (sym w.is_mark) ∙ w.its.is_new

  pub in_at : (m : ℕ) (w : EntryOf m) → distance (at (suc w.k)) m ≡ some w.its.e.dist
  in_at m w =
      ap (λ (t : Tree). distance t m) w.its.next ∙ ap (distance (w.its.e ∷ at w.k)) (sym w.is_mark)
      ∙ entered w.its.e (at w.k)

  -- who is in when k marks are in entered before
  pub before : (m k d : ℕ) (w : EntryOf m) → distance (at k) m ≡ some d → w.k < k
  before m k d w h = go (dec_lt w.k k)
    where
      go : Dec (w.k < k) → w.k < k
      go (yes p) = p
      go (no p) = never (later k w.k m d (omega arith) h) (out_at m w)

  -- ---- what holds of a tree holds of what it was

  pub down : (P : Tree → Type 0) → ((e : Entry) (es : Tree) → P (e ∷ es) → P es) → (i k b : ℕ) → b ≡ i + k → b < n → P (at b) → P (at k)
  down P f zero k b e lt p = let q : b ≡ k = omega arith in subst (λ (z : ℕ). P (at z)) q p
  down P f (suc i) k b e lt p =
      let q : b ≡ suc (i + k) = omega arith in
      let en = enters_at (i + k) (omega arith) in
      down P f i k (i + k) refl (omega arith) (f en.e (at (i + k)) (subst P en.next (subst (λ (z : ℕ). P (at z)) q p)))

  entered_tail : (order : List ℕ) (e : Entry) (es : Tree) → Entered order (e ∷ es) → Entered order es
  entered_tail order e es (enters h r) = r

  entered_head : (order : List ℕ) (e : Entry) (es : Tree) → Entered order (e ∷ es) → get_or order (length es) 0 ≡ e.mark
  entered_head order e es (enters h r) = h

  -- the k-th place of the order is the mark that enters at step k
  pub order_of : (order : List ℕ) → Entered order (at (n - 1)) → (k : ℕ) (h : k + 1 < n) → get_or order k 0 ≡ (enters_at k h).e.mark
  order_of order r k h =
      let en = enters_at k h in
      let p = down (Entered order) (entered_tail order) (n - 1 - suc k) (suc k) (n - 1) (omega arith) (omega arith) r in
      ap (λ (z : ℕ). get_or order z 0) (sym (sized k (omega arith))) ∙ entered_head order en.e (at k) (subst (Entered order) en.next p)

  -- the line by which a mark came in
  came_at : (i k b : ℕ) (e : Entry) → at (suc k) ≡ e ∷ at k → b ≡ i + suc k → b < n → came (at b) e.mark ≡ e.by
  came_at zero k b e x q lt = let p : b ≡ suc k = omega arith in ap (λ (z : ℕ). came (at z) e.mark) p
      ∙ ap (λ (t : Tree). came t e.mark) x ∙ came_new e (at k) e.mark refl
  came_at (suc i) k b e x q lt =
      let p : b ≡ suc (i + suc k) = omega arith in
      let en = enters_at (i + suc k) (omega arith) in
      let inside = later (suc k) (i + suc k) e.mark e.dist (omega arith)
      (ap (λ (t : Tree). distance t e.mark) x ∙ entered e (at k)) in
      ap (λ (z : ℕ). came (at z) e.mark) p ∙ ap (λ (t : Tree). came t e.mark) en.next
      ∙ came_old en.e (at (i + suc k)) e.mark (λ z. never inside (ap (distance (at (i + suc k))) (sym z) ∙ en.is_new))
      ∙ came_at i k (i + suc k) e x refl (omega arith)

  pub came_of : (m : ℕ) (w : EntryOf m) → came (at (n - 1)) m ≡ w.its.e.by
  came_of m w =
      ap (came (at (n - 1))) (sym w.is_mark) ∙ came_at (n - 1 - suc w.k) w.k (n - 1) w.its.e w.its.next
      (omega (arith, w.few)) (omega (arith, w.few))
