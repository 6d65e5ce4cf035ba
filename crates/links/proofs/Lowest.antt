-- The lowest line of a way: there is one in every way that has a line, only one, the same run back, and the lower one of two ways in a way
-- made of both. Assumes nothing.
use Prim.Native.Nat.{ℕ, ◌≤◌}
use native.Mathlib.Omega.{arith}
use mathlib.Core.Path.{◌≡◌, refl, ◌∙◌, ap, subst}
use mathlib.Core.Logic.{◌⊎◌, inl, inr}
use mathlib.Core.Bool.{Bool, true, false, cond}
use mathlib.Core.List.{List, [], ◌∷◌, ◌++◌}
use mathlib.Core.List.Memᴰ
use mathlib.Core.List.{Memᴰ}
use lib.Dec.{leb}
use borrow.Author.Tests.{leb-true, leb-false}
use Rattle.network.specs.Walk.{Pass, flip}
use Rattle.links.specs.Link.{Link, turned_way, read_from, read_to, joined, lowest_from, lowest_line}
use Rattle.links.proofs.Turning.{of_turned, in_turned, turned_some, from_holds, to_holds}

-- n is the lowest number of the lines of the way w
pub record IsLowest (n : ℕ) (w : List Pass) : Type 0 where
  pub least : (p : Pass) → Memᴰ p w → n ≤ p.line.number
  pub its : Pass
  pub is_in : Memᴰ its w
  pub number_is : its.line.number ≡ n

-- there is only one
pub one_lowest : {m n : ℕ} {w : List Pass} → IsLowest m w → IsLowest n w → m ≡ n
one_lowest x y =
    omega (arith, x.least y.its y.is_in, y.least x.its x.is_in, x.number_is, y.number_is)

-- ---- `lowest_line` is it

-- of the pass q and the passes w
from_is : (q : Pass) (w : List Pass) → IsLowest (lowest_from q.line.number w) (q ∷ w)
unfolding lowest_from
from_is q [] = record {
  least = λ p i. only p i;
  its = q;
  is_in = Memᴰ.head refl;
  number_is = refl;
}
  where
    only : (p : Pass) → Memᴰ p (q ∷ []) → q.line.number ≤ p.line.number
    only p (Memᴰ.head e) = omega (arith, ap (λ (x : Pass). x.line.number) e)
    only p (Memᴰ.tail i) = absurd (Memᴰ.not-nil i)
from_is q (p ∷ ps) = go (leb q.line.number p.line.number) refl (from_is q ps) (from_is p ps)
  where
    go : (t : Bool) → leb q.line.number p.line.number ≡ t → IsLowest (lowest_from q.line.number ps) (q ∷ ps)
        → IsLowest (lowest_from p.line.number ps) (p ∷ ps)
        → IsLowest (lowest_from (cond t q.line.number p.line.number) ps) (q ∷ p ∷ ps)
    go true e x y = record { least = λ o i. least o i; its = x.its; is_in = wide x.is_in; number_is = x.number_is }
      where
        least : (o : Pass) → Memᴰ o (q ∷ p ∷ ps) → lowest_from q.line.number ps ≤ o.line.number
        least o (Memᴰ.head z) = x.least o (Memᴰ.head z)
        least o (Memᴰ.tail (Memᴰ.head z)) =
            let above = leb-true q.line.number p.line.number e in
            omega (arith, x.least q (Memᴰ.head refl), ap (λ (a : Pass). a.line.number) z)
        least o (Memᴰ.tail (Memᴰ.tail i)) = x.least o (Memᴰ.tail i)

        wide : {o : Pass} → Memᴰ o (q ∷ ps) → Memᴰ o (q ∷ p ∷ ps)
        wide (Memᴰ.head z) = Memᴰ.head z
        wide (Memᴰ.tail i) = Memᴰ.tail (Memᴰ.tail i)
    go false e x y = record { least = λ o i. least o i; its = y.its; is_in = Memᴰ.tail y.is_in; number_is = y.number_is }
      where
        least : (o : Pass) → Memᴰ o (q ∷ p ∷ ps) → lowest_from p.line.number ps ≤ o.line.number
        least o (Memᴰ.head z) =
            let below = leb-false q.line.number p.line.number e in
            omega (arith, y.least p (Memᴰ.head refl), ap (λ (a : Pass). a.line.number) z)
        least o (Memᴰ.tail i) = y.least o i

-- the lowest line of a way that has one
pub lowest_is : (w : List Pass) → (w ≡ [] → ⊥) → IsLowest (lowest_line w) w
unfolding lowest_line
lowest_is [] f = absurd (f refl)
lowest_is (p ∷ ps) f = from_is p ps

-- ---- run back, and in a way made of two

-- a way run back has the same lowest line
pub turned_lowest : (w : List Pass) → lowest_line (turned_way w) ≡ lowest_line w
unfolding turned_way
turned_lowest [] = refl
turned_lowest (p ∷ ps) = go (p ∷ ps) (λ e. some e)
  where
    some : ◌≡◌ {A = List Pass} (p ∷ ps) [] → ⊥
    some e = Memᴰ.not-nil (subst (Memᴰ p) e (Memᴰ.head refl))

    go : (w : List Pass) → (w ≡ [] → ⊥) → lowest_line (turned_way w) ≡ lowest_line w
    go w f = let x = lowest_is (turned_way w) (turned_some w f) in one_lowest (record {
      least = λ q i. x.least (flip q) (in_turned w q i);
      its = flip x.its;
      is_in = of_turned w x.its x.is_in;
      number_is = x.number_is;
    }) (lowest_is w f)

-- of two ways the lower of their lowest lines, here that of the first
lowest_both : {m n : ℕ} {v w : List Pass} → IsLowest m v → IsLowest n w → m ≤ n → IsLowest m (v ++ w)
lowest_both {m = m} {v = v} {w = w} x y l = record {
  least = λ p i. go p (Memᴰ.append_cases v i);
  its = x.its;
  is_in = Memᴰ.append_left w x.is_in;
  number_is = x.number_is;
}
  where
    go : (p : Pass) → Memᴰ p v ⊎ Memᴰ p w → m ≤ p.line.number
    go p (inl i) = x.least p i
    go p (inr i) = omega (arith, y.least p i)

-- a way of two ways has a line
pub both_some : (v w : List Pass) → (v ≡ [] → ⊥) → v ++ w ≡ [] → ⊥
both_some [] w f e = f refl
both_some (p ∷ ps) w f e = Memᴰ.not-nil (subst (Memᴰ p) e (Memᴰ.head refl))

-- read from a mark or to a mark, a link has the same lowest line
from_lowest : (m : ℕ) (x : Link) → lowest_line (read_from m x).way ≡ lowest_line x.way
from_lowest m x = from_holds (λ (y : Link). lowest_line y.way ≡ lowest_line x.way) m x refl (turned_lowest x.way)

to_lowest : (m : ℕ) (x : Link) → lowest_line (read_to m x).way ≡ lowest_line x.way
to_lowest m x = to_holds (λ (y : Link). lowest_line y.way ≡ lowest_line x.way) m x refl (turned_lowest x.way)

-- read so, it has a line where it has one
from_some : (m : ℕ) (x : Link) → (x.way ≡ [] → ⊥) → (read_from m x).way ≡ [] → ⊥
from_some m x f = from_holds (λ (y : Link). y.way ≡ [] → ⊥) m x f (turned_some x.way f)

to_some : (m : ℕ) (x : Link) → (x.way ≡ [] → ⊥) → (read_to m x).way ≡ [] → ⊥
to_some m x f = to_holds (λ (y : Link). y.way ≡ [] → ⊥) m x f (turned_some x.way f)

-- two links that become one at a mark have the lowest line of the first, if that is the lower
pub joined_lowest : (m : ℕ) (x y : Link) → (x.way ≡ [] → ⊥) → (y.way ≡ [] → ⊥) → lowest_line x.way ≤ lowest_line y.way
    → lowest_line (joined (read_to m x) (read_from m y)).way ≡ lowest_line x.way
joined_lowest m x y f g l =
    let v = (read_to m x).way in
    let w = (read_from m y).way in
    one_lowest (lowest_is (v ++ w) (both_some v w (to_some m x f)))
    (lowest_both (lowest_is v (to_some m x f)) (lowest_is w (from_some m y g)) (omega (arith, to_lowest m x, from_lowest m y)))
    ∙ to_lowest m x
