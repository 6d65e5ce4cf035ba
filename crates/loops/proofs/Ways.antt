-- The ways of the tree's marks to their roots, and on which side of a line a mark is. Assumes nothing.
use Prim.Native.Nat.{ℕ, zero, suc, ◌+◌, ◌≤◌, ◌<◌}
use native.Mathlib.Omega.{arith}
use mathlib.Core.Path.{◌≡◌, refl, sym, ◌∙◌, ap, ap₂, subst}
use mathlib.Core.Logic.{◌⊎◌, inl, inr}
use mathlib.Core.Bool.{Bool, true, false, ◌||◌, cond, false≢true}
use mathlib.Core.List.Memᴰ
use mathlib.Core.List.{List, [], ◌∷◌, Memᴰ}
use mathlib.Core.Option.{Option, none, some, some-injective, none-ne-some}
use lib.Dec.{eqb}
use borrow.Author.Tests.{eqb-true, eq-eqb, ne_eqb}
use Rattle.network.specs.Standing.{Line}
use Rattle.network.specs.Sound.{Apart, Long, Rising}
use Rattle.network.specs.Walk.{Ends, along, against}
use Rattle.network.specs.Tree.{Entry, Tree, distance}
use Rattle.network.proofs.Grown.{After, new, old, after, keeps, ends_to, by_of, ByLine, Grown, empty, by_line, by_root, is_new, tree_line}
use Rattle.network.proofs.Shortest.{same, never}
use Rattle.network.proofs.Descent.{clash}
use Rattle.network.proofs.Count.{unique}
use Rattle.network.proofs.Closers.{InTree}
use Rattle.network.proofs.Flow.{ends_in, ends_two}
use Rattle.network.proofs.Subgraph.{or_true, not_in}
use Rattle.loops.specs.Crossed.{other_end, way_over, on_way, differ, crosses}

-- ---- one side or two

-- the order of the two does not matter
pub differ_turn : (a b : Bool) → differ a b ≡ differ b a
differ_turn true true = refl
differ_turn true false = refl
differ_turn false true = refl
differ_turn false false = refl

-- what does not differ is the same
pub differ_false : (a b : Bool) → differ a b ≡ false → a ≡ b
differ_false true true h = refl
differ_false true false h = absurd (false≢true (sym h))
differ_false false true h = absurd (false≢true (sym h))
differ_false false false h = refl

-- and the same does not differ
pub same_differ : (a b : Bool) → a ≡ b → differ a b ≡ false
same_differ true true e = refl
same_differ true false e = absurd (false≢true (sym e))
same_differ false b e = sym e

-- ---- one entry more

-- the way of the mark that enters runs over its line
on_new : (e : Entry) (es : Tree) (n m : ℕ) → e.mark ≡ m → on_way (e ∷ es) n m ≡ way_over e.by n m (λ u. on_way es n u)
unfolding on_way
on_new e es n m h = rw (eq-eqb e.mark m h)

-- every other way stays
on_old : (e : Entry) (es : Tree) (n m : ℕ) → (e.mark ≡ m → ⊥) → on_way (e ∷ es) n m ≡ on_way es n m
unfolding on_way
on_old e es n m h = rw (ne_eqb e.mark m h)

-- a mark of the tree is not the one that enters
not_new : (e : Entry) (es : Tree) (u d : ℕ) → distance es e.mark ≡ none → distance es u ≡ some d → e.mark ≡ u → ⊥
not_new e es u d out h z = never h (ap (distance es) (sym z) ∙ out)

-- ---- what is on a way

-- a line on a way is one by which a mark came in
pub on_way_entered : (es : Tree) (n m : ℕ) → on_way es n m ≡ true → (l : Line) × InTree es l × (l.number ≡ n)
unfolding on_way
on_way_entered [] n m h = absurd (false≢true h)
on_way_entered (e ∷ es) n m h = go (eqb e.mark m) e.by refl h (on_way_entered es n)
  where
    wide : (l : Line) × InTree es l × (l.number ≡ n) → (l : Line) × InTree (e ∷ es) l × (l.number ≡ n)
    wide (l, (x, i, p), q) = (l, (x, Memᴰ.tail i, p), q)

    go : (t : Bool) (o : Option Line) → e.by ≡ o → cond t (way_over o n m (λ u. on_way es n u)) (on_way es n m) ≡ true
        → ((k : ℕ) → on_way es n k ≡ true → (l : Line) × InTree es l × (l.number ≡ n)) → (l : Line) × InTree (e ∷ es) l × (l.number ≡ n)
    go true none p x ih = absurd (false≢true x)
    go true (some l) p x ih = pick (or_true (eqb l.number n) (on_way es n (other_end l m)) x)
      where
        pick : (eqb l.number n ≡ true) ⊎ (on_way es n (other_end l m) ≡ true) → (k : Line) × InTree (e ∷ es) k × (k.number ≡ n)
        pick (inl z) = (l, (e, Memᴰ.head refl, p), eqb-true l.number n z)
        pick (inr z) = wide (ih (other_end l m) z)
    go false o p x ih = wide (ih m x)

-- the entry of a mark
pub entry_of : (es : Tree) (m d : ℕ) → distance es m ≡ some d → (x : Entry) × Memᴰ x es × (x.mark ≡ m) × (x.dist ≡ d)
unfolding distance
entry_of [] m d h = absurd (none-ne-some d h)
entry_of (e ∷ es) m d h = go (after e es m) (entry_of es m d)
  where
    go : After e es m → (distance es m ≡ some d → (x : Entry) × Memᴰ x es × (x.mark ≡ m) × (x.dist ≡ d))
        → (x : Entry) × Memᴰ x (e ∷ es) × (x.mark ≡ m) × (x.dist ≡ d)
    go (new p q) ih = (e, Memᴰ.head refl, p, same q h)
    go (old p q) ih = let k = ih (sym q ∙ h) in (k.0, Memᴰ.tail k.1, k.2, k.3)

-- ---- the way of a mark goes over its line and on from the line's other end

-- the end that is not m
other_end_lem : (l : Line) (u m : ℕ) → (l.from ≡ l.to → ⊥) → Ends l u m → other_end l m ≡ u
other_end_lem l u m d (along p q) = rw (ne_eqb l.from m (λ z. d (z ∙ sym q))) p
other_end_lem l u m d (against p q) = rw (eq-eqb l.from m q) p

-- a line leads to a mark from one mark only
pub one_end : (l : Line) (a u m : ℕ) → (l.from ≡ l.to → ⊥) → Ends l a m → Ends l u m → a ≡ u
one_end l a u m d x y = sym (other_end_lem l a m d x) ∙ other_end_lem l u m d y

-- the mark of x came in by line k from the mark `nearer`: its way is k and the way of `nearer`, on which k is not
pub record Onward (es : Tree) (x : Entry) (k : Line) (n : ℕ) : Type 0 where
  pub nearer : ℕ
  pub its_distance : ℕ
  pub ends : Ends k nearer x.mark
  pub is_in : distance es nearer ≡ some its_distance
  pub sum : x.dist ≡ its_distance + k.length
  pub way : on_way es n x.mark ≡ (eqb k.number n || on_way es n nearer)
  pub clear : k.number ≡ n → on_way es n nearer ≡ false

module _ (lines : List Line) (rising : Rising lines) (apart : Apart lines) where
  -- a line with an end outside the tree is on no way
  not_yet : {es : Tree} → Grown lines es → (k : Line) → Memᴰ k lines → (u v : ℕ) → Ends k u v → distance es v ≡ none → (n m : ℕ)
      → k.number ≡ n → on_way es n m ≡ false
  not_yet {es = es} g k i u v j out n m e = not_in (on_way es n m) (λ h. go (on_way_entered es n m h))
    where
      go : (l : Line) × InTree es l × (l.number ≡ n) → ⊥
      go (l, (x, y, h), z) =
          let is : k ≡ l = unique lines rising k l i (tree_line lines g x y l h) (e ∙ sym z) in
          ends_in lines g x y l h u v (subst (λ (b : Line). Ends b u v) is j) out

  -- what holds of the way of an old mark holds after an entry
  onward_old : (e : Entry) (es : Tree) → distance es e.mark ≡ none → (x : Entry) (k : Line) (n : ℕ) → (e.mark ≡ x.mark → ⊥)
      → Onward es x k n → Onward (e ∷ es) x k n
  onward_old e es out x k n d w = record {
    nearer = w.nearer;
    its_distance = w.its_distance;
    ends = w.ends;
    is_in = keeps e es w.nearer w.its_distance out w.is_in;
    sum = w.sum;
    way = on_old e es n x.mark d ∙ w.way ∙ ap (λ (t : Bool). eqb k.number n || t) (sym stays);
    clear = λ z. stays ∙ w.clear z;
  }
    where
      stays : on_way (e ∷ es) n w.nearer ≡ on_way es n w.nearer
      stays = on_old e es n w.nearer (not_new e es w.nearer w.its_distance out w.is_in)

  -- and it holds of the mark that enters
  onward_new : (e : Entry) (es : Tree) → Grown lines es → (b : ByLine lines es e) → (n : ℕ) → Onward (e ∷ es) e b.l n
  onward_new e es g b n = record {
    nearer = b.sc.near;
    its_distance = b.sc.d;
    ends = ends;
    is_in = keeps e es b.sc.near b.sc.d (is_new b) b.sc.is_in;
    sum = b.sc.sum;
    way = on_new e es n e.mark refl ∙ ap (λ (o : Option Line). way_over o n e.mark (λ u. on_way es n u)) b.its
        ∙ ap (λ (m : ℕ). eqb b.l.number n || on_way es n m) (other_end_lem b.l b.sc.near e.mark (apart b.l b.is_line) ends)
        ∙ ap (λ (t : Bool). eqb b.l.number n || t) (sym stays);
    clear = λ z. stays ∙ not_yet g b.l b.is_line b.sc.near b.sc.away b.sc.ends b.sc.is_out n b.sc.near z;
  }
    where
      ends : Ends b.l b.sc.near e.mark
      ends = ends_to (sym b.its_mark) b.sc.ends

      stays : on_way (e ∷ es) n b.sc.near ≡ on_way es n b.sc.near
      stays = on_old e es n b.sc.near (not_new e es b.sc.near b.sc.d (is_new b) b.sc.is_in)

  -- the mark of an entry is in the tree
  mark_in : (es : Tree) (x : Entry) → Memᴰ x es → distance es x.mark ≡ none → ⊥
  mark_in [] x i h = Memᴰ.not-nil i
  mark_in (e ∷ es) x i h = go (after e es x.mark) i (mark_in es x)
    where
      go : After e es x.mark → Memᴰ x (e ∷ es) → (Memᴰ x es → distance es x.mark ≡ none → ⊥) → ⊥
      go (new p q) j ih = never q h
      go (old p q) (Memᴰ.head z) ih = p (ap (λ (y : Entry). y.mark) (sym z))
      go (old p q) (Memᴰ.tail j) ih = ih j (sym q ∙ h)

  -- so it holds of every mark that came in by a line
  pub onward : {es : Tree} → Grown lines es → (x : Entry) → Memᴰ x es → (k : Line) → x.by ≡ some k → (n : ℕ) → Onward es x k n
  onward empty x i k h n = absurd (Memᴰ.not-nil i)
  onward (by_line {e = e} {es = es} g b) x (Memᴰ.head p) k h n =
      let own : b.l ≡ k = some-injective b.l k (sym (by_of p ∙ b.its) ∙ h) in
      subst (λ (y : Entry). Onward (e ∷ es) y k n) (sym p) (subst (λ (l : Line). Onward (e ∷ es) e l n) own (onward_new e es g b n))
  onward (by_line {e = e} {es = es} g b) x (Memᴰ.tail i) k h n =
      onward_old e es (is_new b) x k n (λ z. mark_in es x i (ap (distance es) (sym z) ∙ is_new b)) (onward g x i k h n)
  onward (by_root {e = e} {es = es} g b) x (Memᴰ.head p) k h n = absurd (none-ne-some k (sym b.its ∙ sym (by_of p) ∙ h))
  onward (by_root {e = e} {es = es} g b) x (Memᴰ.tail i) k h n =
      onward_old e es b.out x k n (λ z. mark_in es x i (ap (distance es) (sym z) ∙ b.out)) (onward g x i k h n)

  -- a root's way is empty
  pub root_way : {es : Tree} → Grown lines es → (x : Entry) → Memᴰ x es → x.by ≡ none → (n : ℕ) → on_way es n x.mark ≡ false
  root_way empty x i h n = absurd (Memᴰ.not-nil i)
  root_way (by_line {e = e} {es = es} g b) x (Memᴰ.head p) h n = absurd (none-ne-some b.l (sym h ∙ by_of p ∙ b.its))
  root_way (by_line {e = e} {es = es} g b) x (Memᴰ.tail i) h n =
      on_old e es n x.mark (λ z. mark_in es x i (ap (distance es) (sym z) ∙ is_new b)) ∙ root_way g x i h n
  root_way (by_root {e = e} {es = es} g b) x (Memᴰ.head p) h n =
      on_new e es n x.mark (ap (λ (y : Entry). y.mark) (sym p))
      ∙ ap (λ (o : Option Line). way_over o n x.mark (λ u. on_way es n u)) b.its
  root_way (by_root {e = e} {es = es} g b) x (Memᴰ.tail i) h n =
      on_old e es n x.mark (λ z. mark_in es x i (ap (distance es) (sym z) ∙ b.out)) ∙ root_way g x i h n

  -- ---- the two ends of a line of the tree are on different sides of it, and on one side of any other

  -- a line's two ends, whichever way round
  differ_ends : (k : Line) (f : ℕ → Bool) (u m : ℕ) → Ends k u m → differ (f k.from) (f k.to) ≡ differ (f u) (f m)
  differ_ends k f u m (along p q) = ap₂ (λ (a b : ℕ). differ (f a) (f b)) p q
  differ_ends k f u m (against p q) = ap₂ (λ (a b : ℕ). differ (f a) (f b)) q p ∙ differ_turn (f m) (f u)

  -- a tree line crosses itself and no other line
  pub crosses_itself_only : {es : Tree} → Grown lines es → (k : Line) → InTree es k → (n : ℕ) → crosses es n k ≡ eqb k.number n
  unfolding crosses
  crosses_itself_only {es = es} g k (x, i, h) n = go (onward g x i k h n)
    where
      sides : (t a b : Bool) → b ≡ (t || a) → (t ≡ true → a ≡ false) → differ a b ≡ t
      sides true true b p q = absurd (false≢true (sym (q refl)))
      sides true false b p q = p
      sides false true b p q = rw p
      sides false false b p q = p

      go : Onward es x k n → differ (on_way es n k.from) (on_way es n k.to) ≡ eqb k.number n
      go w = differ_ends k (on_way es n) w.nearer x.mark w.ends
          ∙ sides (eqb k.number n) (on_way es n w.nearer) (on_way es n x.mark) w.way (λ z. w.clear (eqb-true k.number n z))

  -- ---- a mark whose way runs over another's line is farther than that mark

  module _ (long : Long lines) {es : Tree} (g : Grown lines es) (k : Line) (x : Entry) (x_in : Memᴰ x es) (x_by : x.by ≡ some k)
      (d : ℕ) (x_at : distance es x.mark ≡ some d) where
    -- only one mark came in by the line
    itself : (y : Entry) → Memᴰ y es → y.by ≡ some k → y.mark ≡ x.mark
    itself y i h = go (onward g x x_in k x_by k.number) (onward g y i k h k.number)
      where
        go : Onward es x k k.number → Onward es y k k.number → y.mark ≡ x.mark
        go v w = pick (ends_two v.ends w.ends)
          where
            over : on_way es k.number y.mark ≡ true
            over = w.way ∙ ap (λ (t : Bool). t || on_way es k.number w.nearer) (eq-eqb k.number k.number refl)

            pick : (y.mark ≡ v.nearer) ⊎ (y.mark ≡ x.mark) → y.mark ≡ x.mark
            pick (inl z) = clash over (ap (on_way es k.number) z ∙ v.clear refl)
            pick (inr z) = z

    beyond_step : (m c : ℕ) → distance es m ≡ some c → on_way es k.number m ≡ true
        → ((u e : ℕ) → e < c → distance es u ≡ some e → on_way es k.number u ≡ true → (u ≡ x.mark) ⊎ (d < e)) → (m ≡ x.mark) ⊎ (d < c)
    beyond_step m c h on ih = go (entry_of es m c h)
      where
        go : (y : Entry) × Memᴰ y es × (y.mark ≡ m) × (y.dist ≡ c) → (m ≡ x.mark) ⊎ (d < c)
        go (y, i, p, e) = by y.by refl
          where
            by : (o : Option Line) → y.by ≡ o → (m ≡ x.mark) ⊎ (d < c)
            by none q = clash on (ap (on_way es k.number) (sym p) ∙ root_way g y i q k.number)
            by (some l) q = over (onward g y i l q k.number)
              where
                is_line : Memᴰ l lines
                is_line = tree_line lines g y i l q

                over : Onward es y l k.number → (m ≡ x.mark) ⊎ (d < c)
                over w =
                    pick (or_true (eqb l.number k.number) (on_way es k.number w.nearer)
                    (sym w.way ∙ ap (on_way es k.number) p ∙ on))
                  where
                    farther : (w.nearer ≡ x.mark) ⊎ (d < w.its_distance) → (m ≡ x.mark) ⊎ (d < c)
                    farther (inl z) = inr (omega (arith, w.sum, long l is_line, same x_at (ap (distance es) (sym z) ∙ w.is_in)))
                    farther (inr z) = inr (omega (arith, w.sum))

                    pick : (eqb l.number k.number ≡ true) ⊎ (on_way es k.number w.nearer ≡ true) → (m ≡ x.mark) ⊎ (d < c)
                    pick (inl z) =
                        let is : l ≡ k =
                        unique lines rising l k is_line (tree_line lines g x x_in k x_by) (eqb-true l.number k.number z) in
                        inl (sym p ∙ itself y i (q ∙ ap some is))
                    pick (inr z) = farther (ih w.nearer w.its_distance (omega (arith, w.sum, long l is_line)) w.is_in z)

    beyond_by : (f m c : ℕ) → c ≤ f → distance es m ≡ some c → on_way es k.number m ≡ true → (m ≡ x.mark) ⊎ (d < c)
    beyond_by zero m c le h on = beyond_step m c h on (λ u e lt i o. absurd (omega arith))
    beyond_by (suc f) m c le h on = beyond_step m c h on (λ u e lt i o. beyond_by f u e (omega arith) i o)

    -- its distance is greater, or it is the mark that came in by the line
    pub beyond : (m c : ℕ) → distance es m ≡ some c → on_way es k.number m ≡ true → (m ≡ x.mark) ⊎ (d < c)
    beyond m c h on = beyond_by c m c (omega arith) h on
