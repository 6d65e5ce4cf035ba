-- The numbers that stand open in the tables are the definition's not-checked list. Assumes nothing.
use Prim.Native.Nat.{ℕ, zero, suc, ◌+◌, ◌*◌, ◌-◌, ◌≤◌, ◌<◌}
use native.Mathlib.Omega.{arith}
use native.Mathlib.Decide.{ℕ_discrete}
use native.Mathlib.Numerals.{add-one}
use mathlib.Core.Path.{◌≡◌, refl, sym, ◌∙◌, ap, ap₂, subst}
use mathlib.Core.Bool.{Bool, true, false, not, ◌&&◌, cond}
use mathlib.Core.List.Memᴰ
use mathlib.Core.List.{List, [], ◌∷◌, Memᴰ}
use lib.ListN.{length, get_or, set}
use lib.Seq.{sets}
use borrow.Author.Tests.{eq-eqb, ne_eqb}
use Rattle.network.specs.Standing.{Line}
use Rattle.network.specs.Sound.{Rising, then}
use Rattle.network.specs.Tree.{tree}
use Rattle.loops.specs.Loops.{Loop, loops}
use Rattle.loops.specs.Checked.{checked, not_checked}
use Rattle.loops.proofs.Crossed.{checked_is_crossed}
use Rattle.chains.specs.Chains.{number_limit}
use Rattle.chains.specs.Listed.{Listed}
use Rattle.chains.proofs.Halves.{line_metres}
use Rattle.tree.specs.Plant.{Holding}
use Rattle.closing.specs.Order.{Put}
use Rattle.unchecked.specs.Ways.{is_marked, LinesChecked}
use Rattle.unchecked.specs.List.{is_open, open_from}
use Rattle.unchecked.proofs.Following.{tree_held, book_sound}

-- ---- writing the list, number by number

-- one number of the list
open_next : (ends marked : List ℕ) (q number : ℕ) → number < q
    → open_from ends marked number (q - number)
    ≡ cond (is_open ends marked number) (number ∷ open_from ends marked (number + 1) (q - (number + 1)))
    (open_from ends marked (number + 1) (q - (number + 1)))
unfolding open_from
open_next ends marked q number lt =
    let k : q - number ≡ suc (q - (number + 1)) = omega arith in
    ap (open_from ends marked number) k
    ∙ ap (λ (i : ℕ). cond (is_open ends marked number) (number ∷ open_from ends marked i (q - (number + 1)))
    (open_from ends marked i (q - (number + 1)))) (sym (add-one number))

-- the numbers below `number` are written, c of them, and the others are to be written from place c on
pub record Writing (ends marked : List ℕ) (q : ℕ) (out₀ out : List ℕ) (c number : ℕ) : Type 0 where
  pub places : sets out c (open_from ends marked number (q - number)) ≡ sets out₀ 0 (open_from ends marked 1 (q - 1))
  pub count : c + length (open_from ends marked number (q - number)) ≡ length (open_from ends marked 1 (q - 1))

module _ {ends marked : List ℕ} {q : ℕ} {out₀ out : List ℕ} {c number : ℕ} (w : Writing ends marked q out₀ out c number) where
  module _ (lt : number < q) where
    -- an open line's number is written
    pub writing_open : {out' : List ℕ} {c' : ℕ} → is_open ends marked number ≡ true → out' ≡ set out c number → c' ≡ c + 1
        → Writing ends marked q out₀ out' c' (number + 1)
    writing_open {out' = out'} {c' = c'} h o d =
        let e = open_next ends marked q number lt ∙ ap
        (λ (t : Bool). cond t (number ∷ open_from ends marked (number + 1) (q - (number + 1)))
        (open_from ends marked (number + 1) (q - (number + 1)))) h in
        record {
          places =
              ap₂ (λ (x : List ℕ) (i : ℕ). sets x i (open_from ends marked (number + 1) (q - (number + 1)))) o (d ∙ add-one c)
              ∙ sym (ap (sets out c) e) ∙ w.places;
          count = omega (arith, w.count, ap length e);
        }

    -- any other is passed over
    pub writing_shut : {out' : List ℕ} {c' : ℕ} → is_open ends marked number ≡ false → out' ≡ out → c' ≡ c
        → Writing ends marked q out₀ out' c' (number + 1)
    writing_shut {out' = out'} {c' = c'} h o d =
        let e = open_next ends marked q number lt ∙ ap
        (λ (t : Bool). cond t (number ∷ open_from ends marked (number + 1) (q - (number + 1)))
        (open_from ends marked (number + 1) (q - (number + 1)))) h in
        record {
          places =
              ap₂ (λ (x : List ℕ) (i : ℕ). sets x i (open_from ends marked (number + 1) (q - (number + 1)))) o d ∙ sym (ap (sets out c) e)
              ∙ w.places;
          count = omega (arith, w.count, ap length e);
        }

  -- once all numbers are passed, the list is written
  pub writing_end : q ≤ number → Put (open_from ends marked 1 (q - 1)) out₀ out c
  unfolding open_from
  writing_end le =
      let k : q - number ≡ 0 = omega arith in
      let e : open_from ends marked number (q - number) ≡ [] = ap (open_from ends marked number) k in
      record { places = sym (ap (sets out c) e) ∙ w.places; count = omega (arith, w.count, ap length e) }

-- ---- the list is the definition's

-- of the k numbers from j on, those that have a length are the numbers of the lines, and marked are those that the loops check
record Spells (ends marked : List ℕ) (ls : List Loop) (lines : List Line) (j k : ℕ) : Type 0 where
  rising : Rising lines
  within : (l : Line) → Memᴰ l lines → (j ≤ l.number) × (l.number < j + k)
  standing : (l : Line) → Memᴰ l lines → get_or ends (l.number * 2) 0 ≡ 0 → ⊥
  line_of : (i : ℕ) → j ≤ i → i < j + k → (get_or ends (i * 2) 0 ≡ 0 → ⊥) → (l : Line) × Memᴰ l lines × (l.number ≡ i)
  marks : (l : Line) → Memᴰ l lines → is_marked marked l.number ≡ checked l.number ls

module _ (ends marked : List ℕ) (ls : List Loop) where
  -- no line has the number j: it is passed over
  skip : (lines : List Line) (j k : ℕ) → Spells ends marked ls lines j (suc k) → ((l : Line) → Memᴰ l lines → l.number ≡ j → ⊥)
      → Spells ends marked ls lines (suc j) k
  skip lines j k s no_line = record {
    rising = s.rising;
    within = λ l i. (omega (arith, s.within l i, no_line l i), omega (arith, s.within l i));
    standing = s.standing;
    line_of = λ i a b. s.line_of i (omega arith) (omega arith);
    marks = s.marks;
  }

  -- and it is not open
  shut : (lines : List Line) (j k : ℕ) → Spells ends marked ls lines j (suc k) → ((l : Line) → Memᴰ l lines → l.number ≡ j → ⊥)
      → is_open ends marked j ≡ false
  shut lines j k s no_line = go (ℕ_discrete (get_or ends (j * 2) 0) 0)
    where
      go : Dec (get_or ends (j * 2) 0 ≡ 0) → is_open ends marked j ≡ false
      go (yes z) = rw (eq-eqb (get_or ends (j * 2) 0) 0 z)
      go (no z) = let l = s.line_of j (omega arith) (omega arith) z in absurd (no_line l.0 l.1 l.2)

  -- the first line has the number j: it is taken
  take_first : (l : Line) (rest : List Line) (j k : ℕ) → Spells ends marked ls (l ∷ rest) j (suc k) → l.number ≡ j
      → Spells ends marked ls rest (suc j) k
  take_first l rest j k s e = go s.rising
    where
      go : Rising (l ∷ rest) → Spells ends marked ls rest (suc j) k
      go (then above r) = record {
        rising = r;
        within = λ m i. (omega (arith, above m i), omega (arith, s.within m (Memᴰ.tail i)));
        standing = λ m i. s.standing m (Memᴰ.tail i);
        line_of = λ i a b z. later i (omega arith) (s.line_of i (omega arith) (omega arith) z);
        marks = λ m i. s.marks m (Memᴰ.tail i);
      }
        where
          later : (i : ℕ) → j < i → (m : Line) × Memᴰ m (l ∷ rest) × (m.number ≡ i) → (m : Line) × Memᴰ m rest × (m.number ≡ i)
          later i lt (m, Memᴰ.head p, h) = absurd (omega (arith, ap (λ (x : Line). x.number) p))
          later i lt (m, Memᴰ.tail x, h) = (m, x, h)

  -- and it is open exactly if no loop checks it
  first_open : (l : Line) (rest : List Line) (j k : ℕ) → Spells ends marked ls (l ∷ rest) j (suc k) → l.number ≡ j
      → is_open ends marked j ≡ not (checked l.number ls)
  first_open l rest j k s e =
      ap (is_open ends marked) (sym e)
      ∙ ap₂ (λ (a b : Bool). not a && not b) (ne_eqb (get_or ends (l.number * 2) 0) 0 (s.standing l (Memᴰ.head refl)))
      (s.marks l (Memᴰ.head refl))

  -- a number below the first line's is no line's
  above_first : (l : Line) (rest : List Line) (j : ℕ) → Rising (l ∷ rest) → j < l.number → (m : Line) → Memᴰ m (l ∷ rest)
      → m.number ≡ j → ⊥
  above_first l rest j (then above r) lt m (Memᴰ.head p) h = omega (arith, ap (λ (x : Line). x.number) p)
  above_first l rest j (then above r) lt m (Memᴰ.tail i) h = omega (arith, above m i)

  -- so the open numbers are those of the lines that no loop checks
  open_is_unchecked : (k : ℕ) (lines : List Line) (j : ℕ) → Spells ends marked ls lines j k
      → open_from ends marked j k ≡ not_checked ls lines
  unfolding open_from not_checked
  open_is_unchecked zero [] j s = refl
  open_is_unchecked zero (l ∷ rest) j s = absurd (omega (arith, s.within l (Memᴰ.head refl)))
  open_is_unchecked (suc k) [] j s =
      let none_there : (l : Line) → Memᴰ l [] → l.number ≡ j → ⊥ = λ l i z. Memᴰ.not-nil i in
      rw (shut [] j k s none_there) (open_is_unchecked k [] (suc j) (skip [] j k s none_there))
  open_is_unchecked (suc k) (l ∷ rest) j s =
      go (ℕ_discrete l.number j) (open_is_unchecked k rest (suc j)) (open_is_unchecked k (l ∷ rest) (suc j))
    where
      pick : (t : Bool) (n : ℕ) (xs ys : List ℕ) → n ≡ j → xs ≡ ys → cond (not t) (j ∷ xs) xs ≡ cond t ys (n ∷ ys)
      pick true n xs ys e h = h
      pick false n xs ys e h = ap₂ (λ (a : ℕ) (others : List ℕ). a ∷ others) (sym e) h

      go : Dec (l.number ≡ j) → (Spells ends marked ls rest (suc j) k → open_from ends marked (suc j) k ≡ not_checked ls rest)
          → (Spells ends marked ls (l ∷ rest) (suc j) k
          → open_from ends marked (suc j) k ≡ cond (checked l.number ls) (not_checked ls rest) (l.number ∷ not_checked ls rest))
          → cond (is_open ends marked j) (j ∷ open_from ends marked (suc j) k) (open_from ends marked (suc j) k)
          ≡ cond (checked l.number ls) (not_checked ls rest) (l.number ∷ not_checked ls rest)
      go (yes e) ih other =
          ap (λ (t : Bool). cond t (j ∷ open_from ends marked (suc j) k) (open_from ends marked (suc j) k)) (first_open l rest j k s e)
          ∙ pick (checked l.number ls) l.number (open_from ends marked (suc j) k) (not_checked ls rest) e
          (ih (take_first l rest j k s e))
      go (no d) ih other =
          let above = above_first l rest j s.rising (omega (arith, s.within l (Memᴰ.head refl))) in
          ap (λ (t : Bool). cond t (j ∷ open_from ends marked (suc j) k) (open_from ends marked (suc j) k)) (shut (l ∷ rest) j k s above)
          ∙ other (skip (l ∷ rest) j k s above)

-- ---- what the tables hold

-- once the checked lines are marked, the open numbers that are written out are the list
pub open_list : {n q : ℕ} {lines : List Line} {ends best order out out' : List ℕ} {a : ℕ} (marked : List ℕ) → q ≤ number_limit
    → Listed lines n q ends
    → Holding (tree (n - 1) lines) best order ends → LinesChecked ends best marked q
    → Put (open_from ends marked 1 (q - 1)) out out' a → Put (not_checked (loops (n - 1) lines) lines) out out' a
open_list {n = n} {q = q} {lines = lines} {ends = ends} {best = best} {order = order} {out = out} {out' = out'} {a = a} marked few li ho
    lc =
    subst (λ (xs : List ℕ). Put xs out out' a)
    (open_is_unchecked ends marked (loops (n - 1) lines) (q - 1) lines 1 (record {
      rising = li.rising;
      within = λ l i. ((li.sound l i).numbered, omega (arith, li.numbered l i));
      standing = λ l i z. omega (arith, line_metres li l i, (li.sound l i).long);
      line_of = λ i a b z. li.line_of i (omega arith) (omega arith);
      marks =
          λ l i. lc n order lines li ho l.number (li.sound l i).number
          ∙ sym (checked_is_crossed (n - 1) lines (book_sound n lines ends best (tree_held li ho)) l i);
    }))
