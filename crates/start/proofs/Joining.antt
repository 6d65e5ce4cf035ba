-- The arrays of the start hold what the definitions say: places in the tree, heights of roots, pieces without a held mark.
-- Assumes nothing.
use Prim.Native.Nat.{ℕ, zero, suc, ◌+◌, ◌≤◌, ◌<◌}
use native.Mathlib.Omega.{arith}
use mathlib.Core.Path.{◌≡◌, refl, sym, ◌∙◌, ap, subst}
use mathlib.Core.Bool.{Bool, true, false, cond}
use mathlib.Core.List.Memᴰ
use mathlib.Core.List.{List, [], ◌∷◌, Memᴰ}
use mathlib.Core.Option.{Option, none, some}
use lib.Dec.{eqb}
use lib.ListN.{length, get_or}
use lib.IntN.{ℤ, pos, nat_abs, ◌-ℤ◌}
use Rattle.book.specs.Good.{Lines}
use Rattle.laws.specs.Tests.{eq_z}
use Rattle.laws.specs.Scan.{first_from, first_bad}
use Rattle.book.specs.Line.{from_at, to_at, difference_at, standing_at}
use Rattle.network.specs.Standing.{Line, standing}
use Rattle.network.specs.Field.{HasLine, stands_from}
use Rattle.network.specs.Tree.{Entry, Tree}
use Rattle.network.proofs.Standing.{stands_none}
use Rattle.chains.specs.Chains.{line_in}
use Rattle.start.specs.Start.{Rooted, up, down, enters, rooted_by, root_height}
use Rattle.start.specs.Along.{Entered, none_yet, by_root, by_line_lem, side_of, came_in, rooting}
use Rattle.fields.proofs.Stands.{line_here, stands_not, stands_here}
use Rattle.start.proofs.Lifting.{free_mark, held_here, held_elsewhere}

-- A standing line and its place in the book
pub record Named (lines : List ℤ) (n : ℕ) (l : Line) : Type 0 where
  pub place : ℕ
  pub inside : place < n
  pub is : l ≡ line_here lines place

module _ (lines : List ℤ) (b n : ℕ) (good : Lines lines b n) where
  named_from : (k i : ℕ) → i + k ≡ n → (l : Line) → Memᴰ l (stands_from lines i) → Named lines n l
  named_from zero i e l m =
      absurd (Memᴰ.not-nil (rw (stands_none lines i (omega (arith, good.whole))) at m))
  named_from (suc k) i e l m =
      by (omega (arith, good.whole)) (λ r. named_from k (i + 1) (omega arith) l r) (eq_z (standing_at lines i) (pos 0)) refl
    where
      there : Memᴰ l (line_here lines i ∷ stands_from lines (i + 1)) → (Memᴰ l (stands_from lines (i + 1)) → Named lines n l)
          → Named lines n l
      there (Memᴰ.head q) rest = record { place = i; inside = omega arith; is = q }
      there (Memᴰ.tail q) rest = rest q

      by : HasLine lines i → (Memᴰ l (stands_from lines (i + 1)) → Named lines n l) → (t : Bool) → eq_z (standing_at lines i) (pos 0) ≡ t
          → Named lines n l
      by w rest true t = rest (subst (λ (ls : List Line). Memᴰ l ls) (sym (stands_not lines i w t)) m)
      by w rest false t =
          there (subst (λ (ls : List Line). Memᴰ l ls) (stands_here lines i w (good.each i (omega arith)).standing t) m) rest

  pub named : (l : Line) → Memᴰ l (standing lines) → Named lines n l
  unfolding standing
  named = named_from n 0 (omega arith)

-- a tree by its newest entry
rooted_here : (e : Entry) (es : Tree) (m : ℕ) → eqb e.mark m ≡ true → rooted_by (e ∷ es) m ≡ enters (λ k. rooted_by es k) m e.by
unfolding rooted_by
rooted_here e es m t = rw (t, rooted_by)

rooted_there : (e : Entry) (es : Tree) (m : ℕ) → eqb e.mark m ≡ false → rooted_by (e ∷ es) m ≡ rooted_by es m
unfolding rooted_by
rooted_there e es m t = rw (t, rooted_by)

-- a mark that comes in by a line of the book
side_elim : (t : Bool) (x y : Rooted) → elim t [ true ↦ x | false ↦ y ] ≡ side_of t x y
side_elim true x y = refl
side_elim false x y = refl

enters_line : (before : ℕ → Rooted) (lines : List ℤ) (m i : ℕ) → enters before m (some (line_here lines i)) ≡ came_in before lines m (suc i)
enters_line before lines m i =
    side_elim (eqb (nat_abs (to_at lines i)) m) (up (before (nat_abs (from_at lines i))) (difference_at lines i))
    (down (before (nat_abs (to_at lines i))) (difference_at lines i))

came_by : (f g : ℕ → Rooted) → ((k : ℕ) → f k ≡ g k) → (lines : List ℤ) (m j : ℕ) → came_in f lines m j ≡ came_in g lines m j
came_by f g e lines m zero = refl
came_by f g e lines m (suc i) =
    let a = nat_abs (from_at lines i) in
    let t = nat_abs (to_at lines i) in
    let d = difference_at lines i in
    ap (λ (x : Rooted). side_of (eqb t m) (up x d) (down (f t) d)) (e a)
    ∙ ap (λ (x : Rooted). side_of (eqb t m) (up (g a) d) (down x d)) (e t)

-- after k marks have entered, the arrays' places are those of the tree with k entries
module _ (lines : List ℤ) (order best : List ℕ) (n : ℕ) where
  one_entry : (e : Entry) (es : Tree) (m j : ℕ) → get_or order (length es) 0 ≡ e.mark → line_in best (get_or order (length es) 0) ≡ j
      → ((k : ℕ) → rooting lines order best (length es) k ≡ rooted_by es k)
      → came_in (λ k. rooted_by es k) lines m j ≡ enters (λ k. rooted_by es k) m e.by
      → rooting lines order best (length (e ∷ es)) m ≡ rooted_by (e ∷ es) m
  unfolding rooting
  one_entry e es m j eo ec ih en = by (eqb e.mark m) refl
    where
      by : (t : Bool) → eqb e.mark m ≡ t
          → side_of (eqb (get_or order (length es) 0) m) (came_in (rooting lines order best (length es)) lines m
          (line_in best (get_or order (length es) 0))) (rooting lines order best (length es) m) ≡ rooted_by (e ∷ es) m
      by true t =
          ap (λ (x : ℕ). side_of (eqb x m) (came_in (rooting lines order best (length es)) lines m
          (line_in best (get_or order (length es) 0))) (rooting lines order best (length es) m)) eo
          ∙ ap (λ (x : Bool). side_of x (came_in (rooting lines order best (length es)) lines m (line_in best (get_or order (length es) 0)))
          (rooting lines order best (length es) m)) t
          ∙ ap (came_in (rooting lines order best (length es)) lines m) ec
          ∙ came_by (rooting lines order best (length es)) (λ k. rooted_by es k) ih lines m j ∙ en ∙ sym (rooted_here e es m t)
      by false t =
          ap (λ (x : ℕ). side_of (eqb x m) (came_in (rooting lines order best (length es)) lines m
          (line_in best (get_or order (length es) 0))) (rooting lines order best (length es) m)) eo
          ∙ ap (λ (x : Bool). side_of x (came_in (rooting lines order best (length es)) lines m (line_in best (get_or order (length es) 0)))
          (rooting lines order best (length es) m)) t
          ∙ ih m ∙ sym (rooted_there e es m t)

  by_name : (before : ℕ → Rooted) (m : ℕ) (l : Line) (o : Option Line) → Named lines n l → o ≡ some l
      → came_in before lines m l.number ≡ enters before m o
  by_name before m l o d e =
      ap (λ (x : Line). came_in before lines m x.number) d.is ∙ sym (enters_line before lines m d.place)
      ∙ ap (λ (x : Line). enters before m (some x)) (sym d.is) ∙ ap (enters before m) (sym e)

  pub rooting_is : (es : Tree) → Entered order best es → ((e : Entry) → Memᴰ e es → (l : Line) → e.by ≡ some l → Named lines n l)
      → (m : ℕ) → rooting lines order best (length es) m ≡ rooted_by es m
  unfolding rooting rooted_by
  rooting_is [] none_yet h m = refl
  rooting_is (e ∷ es) (by_root eo eb ec rest) h m =
      one_entry e es m 0 eo ec (rooting_is es rest (λ x i. h x (Memᴰ.tail i))) (ap (enters (λ k. rooted_by es k) m) (sym eb))
  rooting_is (e ∷ es) (by_line_lem eo l eb ec rest) h m =
      one_entry e es m l.number eo ec (rooting_is es rest (λ x i. h x (Memᴰ.tail i)))
      (by_name (λ k. rooted_by es k) m l e.by (h e (Memᴰ.head refl) l eb) eb)

-- roots have the same heights where places and held heights agree
module _ (at at' : ℕ → Rooted) (held held' : ℕ → Option ℤ) where
  pub root_same : (r m k : ℕ) → ((j : ℕ) → m ≤ j → j < m + k → at j ≡ at' j) → ((j : ℕ) → m ≤ j → j < m + k → held j ≡ held' j)
      → root_height at held r m k ≡ root_height at' held' r m k
  unfolding root_height
  root_same r m zero ea eh = refl
  root_same r m (suc k) ea eh =
      by (ea m (omega arith) (omega arith)) (eh m (omega arith) (omega arith))
      (root_same r (suc m) k (λ j l u. ea j (omega arith) (omega arith)) (λ j l u. eh j (omega arith) (omega arith))) (held m) refl
    where
      some_case : at m ≡ at' m → held m ≡ held' m → root_height at held r (suc m) k ≡ root_height at' held' r (suc m) k → (z : ℤ)
          → held m ≡ some z → (t : Bool) → eqb (at m).root r ≡ t
          → root_height at held r m (suc k) ≡ root_height at' held' r m (suc k)
      some_case p q ih z e true t =
          held_here at held r m k z e t ∙ ap (λ (x : Rooted). some (z -ℤ x.over)) p
          ∙ sym (held_here at' held' r m k z (sym q ∙ e) (ap (λ (x : Rooted). eqb x.root r) (sym p) ∙ t))
      some_case p q ih z e false t =
          held_elsewhere at held r m k z e t ∙ ih ∙ sym (held_elsewhere at' held' r m k z (sym q ∙ e)
          (ap (λ (x : Rooted). eqb x.root r) (sym p) ∙ t))

      by : at m ≡ at' m → held m ≡ held' m → root_height at held r (suc m) k ≡ root_height at' held' r (suc m) k → (o : Option ℤ)
          → held m ≡ o
          → root_height at held r m (suc k) ≡ root_height at' held' r m (suc k)
      by p q ih none e = free_mark at held r m k e ∙ ih ∙ sym (free_mark at' held' r m k (sym q ∙ e))
      by p q ih (some z) e = some_case p q ih z e (eqb (at m).root r) refl

-- the same first one where tests agree
first_from_same : (p q : ℕ → Bool) (i k : ℕ) → ((j : ℕ) → i ≤ j → j < i + k → p j ≡ q j) → first_from p i k ≡ first_from q i k
unfolding first_from
first_from_same p q i zero e = refl
first_from_same p q i (suc k) e =
    ap (λ (t : Bool). cond t (suc i) (first_from p (suc i) k)) (e i (omega arith) (omega arith))
    ∙ ap (λ (r : ℕ). cond (q i) (suc i) r) (first_from_same p q (suc i) k (λ j l u. e j (omega arith) (omega arith)))

pub first_same : (p q : ℕ → Bool) (n : ℕ) → ((j : ℕ) → j < n → p j ≡ q j) → first_bad p n ≡ first_bad q n
unfolding first_bad
first_same p q n e = first_from_same p q 0 n (λ j l u. e j (omega arith))
