-- Ways run back, links read the other way, from an end and to an end, and links joined. Assumes nothing.
use Prim.Native.Nat.{ℕ, ◌+◌}
use native.Mathlib.Omega.{arith}
use mathlib.Core.Path.{◌≡◌, refl, sym, ◌∙◌, ap, ap₂}
use mathlib.Core.Logic.{◌⊎◌, inl, inr}
use mathlib.Core.Bool.{Bool, true, false, cond, not-not}
use mathlib.Core.List.{List, [], ◌∷◌, ◌++◌, append-nil, append_assoc}
use mathlib.Core.List.Memᴰ
use mathlib.Core.List.{Memᴰ}
use lib.Dec.{eqb}
use lib.ListN.{length, length-append}
use borrow.Author.Tests.{eqb-true, eqb-false}
use Rattle.laws.proofs.Tests.{cond_ind}
use Rattle.network.specs.Standing.{Line}
use Rattle.network.specs.Walk.{Pass, pass, flip, way_length, Walk, here, step}
use Rattle.network.proofs.Walks.{walk_append, flip_start, flip_stop}
use Rattle.links.specs.Link.{Link, turned_way, turned, read_from, read_to, joined}
use Rattle.links.specs.Shape.{times_run}
use Rattle.links.specs.Steps.{EndAt}

-- ---- a way run back

-- a pass turned twice is the pass
flip_twice : (p : Pass) → flip (flip p) ≡ p
flip_twice p = ap (pass p.line) (not-not p.forward)

-- of two ways run back the second comes first
pub turned_append : (v w : List Pass) → turned_way (v ++ w) ≡ turned_way w ++ turned_way v
unfolding turned_way
turned_append [] w = sym (append-nil (turned_way w))
turned_append (p ∷ ps) w =
    ap (λ (u : List Pass). u ++ (flip p ∷ [])) (turned_append ps w) ∙ append_assoc (turned_way w) (turned_way ps) (flip p ∷ [])

-- a way run back twice is the way
pub turned_twice : (w : List Pass) → turned_way (turned_way w) ≡ w
unfolding turned_way
turned_twice [] = refl
turned_twice (p ∷ ps) = turned_append (turned_way ps) (flip p ∷ []) ∙ ap₂ ◌∷◌ (flip_twice p) (turned_twice ps)

-- it has as many lines
pub turned_count : (w : List Pass) → length (turned_way w) ≡ length w
unfolding turned_way
turned_count [] = refl
turned_count (p ∷ ps) = length-append (turned_way ps) (flip p ∷ []) ∙ omega (arith, turned_count ps)

-- a way run back has a line where the way has one
pub turned_some : (w : List Pass) → (w ≡ [] → ⊥) → turned_way w ≡ [] → ⊥
unfolding turned_way
turned_some w f e = f (sym (turned_twice w) ∙ ap turned_way e)

-- two ways one after the other are as long as both
pub length_both : (v w : List Pass) → way_length (v ++ w) ≡ way_length v + way_length w
unfolding way_length
length_both [] w = omega arith
length_both (p ∷ ps) w = omega (arith, length_both ps w)

-- it is as long
pub turned_length : (w : List Pass) → way_length (turned_way w) ≡ way_length w
unfolding turned_way way_length
turned_length [] = refl
turned_length (p ∷ ps) = length_both (turned_way ps) (flip p ∷ []) ∙ omega (arith, turned_length ps)

-- two ways one after the other run line n as often as both
pub times_both : (n : ℕ) (v w : List Pass) → times_run n (v ++ w) ≡ times_run n v + times_run n w
unfolding times_run
times_both n [] w = omega arith
times_both n (p ∷ ps) w = omega (arith, times_both n ps w)

-- run back, a way runs each line as often
pub turned_times : (n : ℕ) (w : List Pass) → times_run n (turned_way w) ≡ times_run n w
unfolding turned_way times_run
turned_times n [] = refl
turned_times n (p ∷ ps) = times_both n (turned_way ps) (flip p ∷ []) ∙ omega (arith, turned_times n ps)

-- a pass of the way run back is a pass of the way, turned
pub of_turned : (w : List Pass) (p : Pass) → Memᴰ p (turned_way w) → Memᴰ (flip p) w
unfolding turned_way
of_turned [] p i = absurd (Memᴰ.not-nil i)
of_turned (q ∷ qs) p i = go (Memᴰ.append_cases (turned_way qs) i) (of_turned qs p)
  where
    go : Memᴰ p (turned_way qs) ⊎ Memᴰ p (flip q ∷ []) → (Memᴰ p (turned_way qs) → Memᴰ (flip p) qs)
        → Memᴰ (flip p) (q ∷ qs)
    go (inl j) ih = Memᴰ.tail (ih j)
    go (inr (Memᴰ.head e)) ih = Memᴰ.head (ap flip e ∙ flip_twice q)
    go (inr (Memᴰ.tail j)) ih = absurd (Memᴰ.not-nil j)

-- and each pass of the way is one of the way run back
pub in_turned : (w : List Pass) (p : Pass) → Memᴰ p w → Memᴰ (flip p) (turned_way w)
unfolding turned_way
in_turned [] p m = elim m [ ]
in_turned (q ∷ qs) p (Memᴰ.head e) = Memᴰ.append_right (turned_way qs) (Memᴰ.head (ap flip e))
in_turned (q ∷ qs) p (Memᴰ.tail i) = Memᴰ.append_left (flip q ∷ []) (in_turned qs p i)

-- a walk run back is a walk back
pub walk_turned : {ls : List Line} {r u : ℕ} {w : List Pass} → Walk ls r u w → Walk ls u r (turned_way w)
unfolding turned_way
walk_turned (here e) = here (sym e)
walk_turned (step {p = p} s m x) = walk_append (walk_turned x) (step (flip_start p) m (here (flip_stop p ∙ s)))

-- ---- a link read the other way

-- what holds of a link both ways round holds of it read from a mark, and read to a mark
pub from_holds : (P : Link → Type 0) (m : ℕ) (x : Link) → P x → P (turned x) → P (read_from m x)
from_holds P m x p q = cond_ind P (eqb x.first m) x (turned x) (λ e. p) (λ e. q)

pub to_holds : (P : Link → Type 0) (m : ℕ) (x : Link) → P x → P (turned x) → P (read_to m x)
to_holds P m x p q = cond_ind P (eqb x.last m) x (turned x) (λ e. p) (λ e. q)

-- read from a mark at which it has an end, a link begins there
pub reads_from : (m : ℕ) (x : Link) → EndAt m x → (read_from m x).first ≡ m
reads_from m x e = go (eqb x.first m) refl e
  where
    go : (t : Bool) → eqb x.first m ≡ t → EndAt m x → (cond t x (turned x)).first ≡ m
    go true h e = eqb-true x.first m h
    go false h (inl e) = absurd (eqb-false x.first m h e)
    go false h (inr e) = e

-- read to a mark at which it has an end, a link ends there
pub reads_to : (m : ℕ) (x : Link) → EndAt m x → (read_to m x).last ≡ m
reads_to m x e = go (eqb x.last m) refl e
  where
    go : (t : Bool) → eqb x.last m ≡ t → EndAt m x → (cond t x (turned x)).last ≡ m
    go true h e = eqb-true x.last m h
    go false h (inl e) = e
    go false h (inr e) = absurd (eqb-false x.last m h e)

-- its lines are the same, as many, as long, and each as often
pub from_count : (m : ℕ) (x : Link) → length (read_from m x).way ≡ length x.way
from_count m x = from_holds (λ (y : Link). length y.way ≡ length x.way) m x refl (turned_count x.way)

to_count : (m : ℕ) (x : Link) → length (read_to m x).way ≡ length x.way
to_count m x = to_holds (λ (y : Link). length y.way ≡ length x.way) m x refl (turned_count x.way)

pub from_length : (m : ℕ) (x : Link) → way_length (read_from m x).way ≡ way_length x.way
from_length m x = from_holds (λ (y : Link). way_length y.way ≡ way_length x.way) m x refl (turned_length x.way)

to_length : (m : ℕ) (x : Link) → way_length (read_to m x).way ≡ way_length x.way
to_length m x = to_holds (λ (y : Link). way_length y.way ≡ way_length x.way) m x refl (turned_length x.way)

pub from_times : (n m : ℕ) (x : Link) → times_run n (read_from m x).way ≡ times_run n x.way
from_times n m x = from_holds (λ (y : Link). times_run n y.way ≡ times_run n x.way) m x refl (turned_times n x.way)

to_times : (n m : ℕ) (x : Link) → times_run n (read_to m x).way ≡ times_run n x.way
to_times n m x = to_holds (λ (y : Link). times_run n y.way ≡ times_run n x.way) m x refl (turned_times n x.way)

-- ---- two links become one at a mark

-- with as many lines as both
pub joined_count : (m : ℕ) (x y : Link) → length (joined (read_to m x) (read_from m y)).way ≡ length x.way + length y.way
joined_count m x y = length-append (read_to m x).way (read_from m y).way ∙ ap₂ (λ (a b : ℕ). a + b) (to_count m x) (from_count m y)

-- as long as both
pub joined_length : (m : ℕ) (x y : Link)
    → way_length (joined (read_to m x) (read_from m y)).way ≡ way_length x.way + way_length y.way
joined_length m x y = length_both (read_to m x).way (read_from m y).way ∙ ap₂ (λ (a b : ℕ). a + b) (to_length m x) (from_length m y)

-- and each line as often as in both
pub joined_times : (n m : ℕ) (x y : Link)
    → times_run n (joined (read_to m x) (read_from m y)).way ≡ times_run n x.way + times_run n y.way
joined_times n m x y =
    times_both n (read_to m x).way (read_from m y).way ∙ ap₂ (λ (a b : ℕ). a + b) (to_times n m x) (from_times n m y)
