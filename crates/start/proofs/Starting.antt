-- The heights at the start: the arrays' are the definition's.
-- Assumes nothing.
use Prim.Native.Nat.{ℕ, suc, ◌-◌, ◌≤◌, ◌<◌}
use native.Mathlib.Omega.{arith}
use mathlib.Core.Path.{◌≡◌, refl, sym, ◌∙◌, ap}
use mathlib.Core.Bool.{Bool, true, false, not, cond}
use mathlib.Core.List.{List}
use mathlib.Core.Option.{Option, none, some}
use lib.ListN.{get_or}
use lib.IntN.{ℤ, pos, ◌+ℤ◌}
use borrow.Author.Tests.{not-false}
use Rattle.laws.specs.Scan.{first_bad}
use Rattle.laws.proofs.Scans.{none_bad}
use Rattle.book.specs.Limits.{most_held_height}
use Rattle.start.specs.Start.{Rooted, is_some, root_height, root_of, unheld_piece, along, own, start_of}
use Rattle.start.specs.Along.{spots, Placing, optional, Given, gives, roots_from, most_root, unheld, start_at}
use Rattle.start.proofs.Joining.{root_same, first_same}

pub is_some_lem : (t : Bool) (z : ℤ) → is_some (optional t z) ≡ t
is_some_lem true z = refl
is_some_lem false z = refl

module _ (b : ℕ) (at : ℕ → Rooted) (held : ℕ → Option ℤ) (flags : List Bool) (own_h : List ℤ) (root : List ℕ) (over : List ℤ)
    (has : List Bool) (base : List ℤ)
    (placing : Placing at root over b b) (given : Given held flags own_h b most_held_height)
    (lifted : Given (roots_from (spots root over) (gives flags own_h) b 0) has base b most_root) where
  at_mark : (m : ℕ) → 0 < m → m ≤ b → spots root over m ≡ at m
  at_mark m l u = let e : suc (m - 1) ≡ m = omega arith in placing.place (m - 1) (omega arith) ∙ ap at e

  held_mark : (m : ℕ) → 0 < m → m ≤ b → gives flags own_h m ≡ held m
  held_mark m l u = let e : suc (m - 1) ≡ m = omega arith in given.is (m - 1) (omega arith) ∙ ap held e

  root_is : (v : ℕ) → v < b → (at (suc v)).root ≡ get_or root v 0
  root_is v l = ap (λ (x : Rooted). x.root) (sym (placing.place v l))

  -- the height of a root, by its number
  root_height_lem : (r : ℕ) → 0 < r → r ≤ b → optional (get_or has (r - 1) false) (get_or base (r - 1) (pos 0)) ≡ root_height at held r 1 b
  root_height_lem r l u =
      let e : suc (r - 1) ≡ r = omega arith in
      let z : b - 0 ≡ b = omega arith in
      lifted.is (r - 1) (omega arith) ∙ ap (λ (x : ℕ). root_height (spots root over) (gives flags own_h) x 1 (b - 0)) e
      ∙ ap (root_height (spots root over) (gives flags own_h) r 1) z
      ∙ root_same (spots root over) at (gives flags own_h) held r 1 b (λ j lo hi. at_mark j lo (omega arith))
      (λ j lo hi. held_mark j lo (omega arith))

  of_mark : (v : ℕ) → v < b
      → optional (get_or has (get_or root v 0 - 1) false) (get_or base (get_or root v 0 - 1) (pos 0)) ≡ root_of at held b (suc v)
  of_mark v l =
      let g = placing.spotted.marks v l in
      root_height_lem (get_or root v 0) g.0 g.1 ∙ ap (λ (r : ℕ). root_height at held r 1 b) (sym (root_is v l))

  -- "a piece has no held mark"
  pub unheld_is : first_bad (unheld root has) b ≡ unheld_piece at held b
  unfolding unheld_piece
  unheld_is =
      first_same (unheld root has) (λ i. not (is_some (root_of at held b (suc i)))) b
      (λ v l. ap not (sym (is_some_lem (get_or has (get_or root v 0 - 1) false) (get_or base (get_or root v 0 - 1) (pos 0)))
      ∙ ap is_some (of_mark v l)))

  -- where every piece has one
  module _ (all_held : first_bad (unheld root has) b ≡ 0) where
    has_root : (v : ℕ) → v < b → get_or has (get_or root v 0 - 1) false ≡ true
    has_root v l = not-false (get_or has (get_or root v 0 - 1) false) (none_bad (unheld root has) b all_held v l)

    root_some : (v : ℕ) → v < b → root_of at held b (suc v) ≡ some (get_or base (get_or root v 0 - 1) (pos 0))
    root_some v l = sym (of_mark v l) ∙ ap (λ (t : Bool). optional t (get_or base (get_or root v 0 - 1) (pos 0))) (has_root v l)

    pub start_is : (v : ℕ) → v < b → start_at flags own_h root over base v ≡ start_of at held b (suc v)
    unfolding start_at start_of
    start_is v l = by (get_or flags v false) refl
      where
        by : (t : Bool) → get_or flags v false ≡ t
            → cond (get_or flags v false) (get_or own_h v (pos 0)) (get_or base (get_or root v 0 - 1) (pos 0) +ℤ get_or over v (pos 0))
            ≡ own (held (suc v)) (along (at (suc v)) (root_of at held b (suc v)))
        by true t =
            let h : held (suc v) ≡ some (get_or own_h v (pos 0)) =
            sym (given.is v l) ∙ ap (λ (x : Bool). optional x (get_or own_h v (pos 0))) t in
            ap (λ (x : Bool). cond x (get_or own_h v (pos 0)) (get_or base (get_or root v 0 - 1) (pos 0) +ℤ get_or over v (pos 0))) t
            ∙ sym (ap (λ (x : Option ℤ). own x (along (at (suc v)) (root_of at held b (suc v)))) h)
        by false t =
            let h : held (suc v) ≡ none = sym (given.is v l) ∙ ap (λ (x : Bool). optional x (get_or own_h v (pos 0))) t in
            ap (λ (x : Bool). cond x (get_or own_h v (pos 0)) (get_or base (get_or root v 0 - 1) (pos 0) +ℤ get_or over v (pos 0))) t
            ∙ sym (ap (λ (x : Option ℤ). own x (along (at (suc v)) (root_of at held b (suc v)))) h
            ∙ ap (along (at (suc v))) (root_some v l) ∙ ap (λ (x : Rooted). get_or base (get_or root v 0 - 1) (pos 0) +ℤ x.over)
            (sym (placing.place v l)))
