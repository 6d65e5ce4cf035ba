-- Laws on texts that are put: one after another, element by element, with no room, and with room for all.
-- Assumes nothing.
use mathlib.Core.Path.{◌≡◌, refl, sym, ◌∙◌, ap}
use mathlib.Core.Bool.{Bool, true, false}
use mathlib.Core.List.{List, [], ◌∷◌, ◌++◌, append_assoc}
use Prim.Native.Nat.{ℕ, suc, ◌+◌, ◌≤◌, ◌<◌}
use native.Mathlib.Decide.{ℕ_discrete}
use native.Mathlib.Nat.{add-zero}
use native.Mathlib.Numerals.{add-one}
use native.Mathlib.Omega.{arith}
use borrow.Author.Tests.{ltb-true, ltb-false}
use lib.Dec.{ltb}
use lib.ListN.{length, get_or, take, drop, set, length-append, length-take, take-append-drop}
use lib.Seq.{sets, sets-eq, set_out, length-sets, length-take-le, take-suc, take_all, take_at}
use Rattle.laws.proofs.Lists.{filled}
use Rattle.text.specs.Put.{Put}

-- stores past the end are not there
sets_past : (vs l : List ℕ) (i : ℕ) → length l ≤ i → sets l i vs ≡ l
sets_past [] l i h = refl
sets_past (v ∷ vs) l i h = rw (set_out l i v h) (sets_past vs l (suc i) (omega arith))

sets_append : (a b l : List ℕ) (i : ℕ) → sets l i (a ++ b) ≡ sets (sets l i a) (i + length a) b
sets_append [] b l i = rw add-zero
sets_append (v ∷ a) b l i =
    let e : suc i + length a ≡ i + suc (length a) = omega arith in
    sets_append a b (set l i v) (suc i) ∙ ap (λ (k : ℕ). sets (sets (set l i v) (suc i) a) k b) e

-- two places at which stores do the same: one place, or both past the end
sets_from : (vs l : List ℕ) (i j : ℕ) → ((i ≡ j → ⊥) → (length l ≤ i) × (length l ≤ j)) → sets l i vs ≡ sets l j vs
sets_from vs l i j h = by (ℕ_discrete i j)
  where
    by : Dec (i ≡ j) → sets l i vs ≡ sets l j vs
    by (yes e) = ap (λ (k : ℕ). sets l k vs) e
    by (no e) = sets_past vs l i (h e).0 ∙ sym (sets_past vs l j (h e).1)

-- a put keeps the buffer's length
pub put_length : {l l' : List ℕ} {at next : ℕ} {text : List ℕ} → Put l l' at next text → length l' ≡ length l
put_length {l} {at = at} {text = text} p = ap length p.written ∙ length-sets l at text

pub nothing_put : (l : List ℕ) (at : ℕ) → Put l l at at []
nothing_put l at = record { written = refl; next_is = omega arith }

infixl 40 ◌then◌
-- one text after another
pub ◌then◌ : {l l₁ l₂ : List ℕ} {at r s : ℕ} {a b : List ℕ} → Put l l₁ at r a → Put l₁ l₂ r s b → Put l l₂ at s (a ++ b)
◌then◌ {l} {l₁} {l₂} {at} {r} {s} {a} {b} p q =
    let n = put_length p in
    let e = p.next_is in
    let f = q.next_is in
    let m = length-append a b in
    record {
      written = q.written ∙ rw (p.written, sets_append a b l at)
          (sets_from b (sets l at a) r (at + length a) (λ d. rw (length-sets l at a) (omega arith, omega arith)));
      next_is = omega arith;
    }

-- a text, then a word and what stands after it
pub and_word : {l l₁ l₂ : List ℕ} {at r s : ℕ} {a : List ℕ} → Put l l₁ at r a → (word said : List ℕ) → Put l₁ l₂ r s (word ++ said)
    → Put l l₂ at s (a ++ word ++ said)
and_word {a = a} p word said q = rw (append_assoc a word said) (p then q)

-- a text with no room
pub no_room : (l : List ℕ) (at : ℕ) (text : List ℕ) → length l ≤ at → Put l l at at text
no_room l at text h = record { written = sym (sets_past text l at h); next_is = omega arith }

-- The text of a list, put element by element: what stands after i of them.
module _ {A : Type 0} (text : List A → List ℕ) (joins : (a b : List A) → text (a ++ b) ≡ text a ++ text b) {l l₁ : List ℕ} {at r : ℕ}
    (s : List A) (i : ℕ) (p : Put l l₁ at r (text (take i s))) where
  pub one_more : {l₂ : List ℕ} {q : ℕ} (d : A) → i < length s → Put l₁ l₂ r q (text (get_or s i d ∷ []))
      → Put l l₂ at q (text (take (i + 1) s))
  one_more d h q = rw (add-one, take-suc s i d, joins) (p then q)

  pub all_put : length s ≤ i → Put l l₁ at r (text s)
  all_put h = rw (take_all i s h) at p

-- what is put, and the place after it, are the only ones
pub put_unique : {l a b : List ℕ} {at r s : ℕ} {text : List ℕ} → Put l a at r text → Put l b at s text → (a ≡ b) × (r ≡ s)
put_unique p q = (p.written ∙ sym q.written, p.next_is ∙ sym q.next_is)

-- a buffer that is begun inside is ended inside
pub put_inside : {l l' : List ℕ} {at next : ℕ} {text : List ℕ} → Put l l' at next text → at ≤ length l → next ≤ length l'
put_inside p h = let n = put_length p in let e = p.next_is in omega arith

-- the part up to the next place, which a program hands on, has that many bytes
pub put_part : {l l' : List ℕ} {at next : ℕ} {text : List ℕ} → Put l l' at next text → at ≤ length l → next ≡ length (take next l')
put_part {l' = l'} {next = next} p h = sym (length-take-le next l' (put_inside p h))

-- where there is room, what was before it and the whole text stand before the next place
pub put_whole : {l l' : List ℕ} {at next : ℕ} {text : List ℕ} → Put l l' at next text → at + length text ≤ length l
    → take next l' ≡ take at l ++ text
put_whole {l} {l'} {at} {next} {text} p h =
    let e : next ≡ at + length text = omega (arith, p.next_is) in
    let n : length (take at l ++ text) ≡ next = length-append (take at l) text ∙ omega (arith, length-take at l) in
    rw (p.written, sets-eq text l at h) (take_at (take at l ++ text) (drop (at + length text) l) next n)

-- what stands before the place after a text that was put from the start on: the text, or as much of it as there was room for
pub put_first : {l l' : List ℕ} {next : ℕ} {text : List ℕ} → Put l l' 0 next text → take next l' ≡ take (length l) text
put_first {l} {l'} {next} {text} p = by (ltb (length l) (length text)) refl
  where
    by : (t : Bool) → ltb (length l) (length text) ≡ t → take next l' ≡ take (length l) text
    by true t =
        let less = ltb-true (length l) (length text) t in
        let first = take (length l) text in
        let rest = drop (length l) text in
        let n : length first ≡ length l = length-take-le (length l) text (omega arith) in
        let all : next ≡ length l = omega (arith, p.next_is) in
        let past : length (sets l 0 first) ≤ 0 + length first = omega (arith, length-sets l 0 first) in
        let e : l' ≡ first =
        p.written ∙ ap (sets l 0) (sym (take-append-drop (length l) text)) ∙ sets_append first rest l 0
        ∙ sets_past rest (sets l 0 first) (0 + length first) past ∙ filled first l (sym n) in
        rw (all, e) (take_all (length l) first (omega arith))
    by false t =
        let room = ltb-false (length l) (length text) t in
        put_whole p (omega arith) ∙ sym (take_all (length l) text (omega arith))
