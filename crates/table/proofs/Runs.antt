-- A list that is filled run by run. Assumes nothing.
use mathlib.Core.Path.{◌≡◌, sym, ◌∙◌, ap, ap₂}
use mathlib.Core.List.{List, [], ◌∷◌, ◌++◌, append-nil, append_assoc}
use Prim.Native.Nat.{ℕ, ◌+◌, ◌-◌, ◌≤◌}
use native.Mathlib.Omega.{arith}
use native.Mathlib.Numerals.{add-one}
use lib.ListN.{length, take, drop, set, drop_of_length-le, length-append, length-drop, length-set}
use lib.Seq.{sets, sets-eq, take_at, drop_at, take_all, take-suc-set, drop-set-lt}
use borrow.Rule.Slice.PartMut.{mid_of, post_of, put_mid}

module _ {A : Type 0} where
  -- what begins with p, which has n elements, is p and what is behind them
  pub begins_with : (p r l : List A) (n : ℕ) → length p ≡ n → l ≡ p ++ r → l ≡ p ++ drop n l
  begins_with p r l n h e = e ∙ ap (λ (x : List A). p ++ x) (sym (ap (drop n) e ∙ drop_at p r n h))

  -- the first n elements are p; then v stands at place n, and vs behind it, by a part that is lent up to the end
  module _ (p vs l : List A) (v : A) (n : ℕ) (h : length p ≡ n) (e : l ≡ p ++ drop n l) (room : n + 1 + length vs ≤ length l) where
    abbrev with_one : List A
    with_one = set l n v

    abbrev rest : ℕ
    rest = length with_one - (n + 1)

    front : take (n + 1) with_one ≡ p ++ (v ∷ [])
    front =
        rw (add-one n) (take-suc-set l n v (omega arith) ∙ ap (λ (x : List A). x ++ (v ∷ [])) (ap (take n) e ∙ take_at p (drop n l) n h))

    lent : drop (n + 1) with_one ≡ drop (n + 1) l
    lent = drop-set-lt (n + 1) l n v (omega arith)

    lent_all : length (drop (n + 1) l) ≤ rest
    lent_all = simp (length-drop, length-set) (omega arith)

    run_in : sets (mid_of (n + 1) rest with_one) 0 vs ≡ vs ++ drop (0 + length vs) (drop (n + 1) l)
    run_in =
        ap (λ (x : List A). sets x 0 vs) (ap (take rest) lent ∙ take_all rest (drop (n + 1) l) lent_all)
        ∙ sets-eq vs (drop (n + 1) l) 0 (simp length-drop (omega arith))

    behind : post_of (n + 1) rest with_one ≡ []
    behind = ap (drop rest) lent ∙ drop_of_length-le (drop (n + 1) l) lent_all

    pub run_on : (l' : List A) → l' ≡ put_mid (n + 1) rest with_one (sets (mid_of (n + 1) rest with_one) 0 vs)
        → l' ≡ (p ++ v ∷ vs) ++ drop (n + 1 + length vs) l'
    run_on l' z =
        let r = drop (0 + length vs) (drop (n + 1) l) in
        begins_with (p ++ v ∷ vs) r l' (n + 1 + length vs) (length-append p (v ∷ vs) ∙ omega arith)
        (z ∙ ap₂ (λ (x y : List A). x ++ y) front (ap₂ (λ (x y : List A). x ++ y) run_in behind ∙ append-nil (vs ++ r))
        ∙ append_assoc p (v ∷ []) (vs ++ r) ∙ sym (append_assoc p (v ∷ vs) r))
