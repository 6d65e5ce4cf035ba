-- Laws of lists in an order. Assumes nothing.
use mathlib.Core.Path.{◌≡◌, refl, sym, ◌∙◌, ap₂, subst}
use mathlib.Core.Logic.{◌⊎◌, inl, inr, ◌↔◌}
use mathlib.Core.List.Memᴰ
use mathlib.Core.List.{List, ◌∷◌, ◌++◌, Memᴰ}
use Rattle.network.specs.Pairwise.{Pairwise, no_pair, pairs}

-- the first stands so to every later one
pub pairwise_first : {A : Type 0} {R : A → A → Type 0} {a : A} {rest : List A} → Pairwise R (a ∷ rest) → (c : A) → Memᴰ c rest → R a c
pairwise_first (pairs f p) = f

-- the later ones stand so among themselves
pub pairwise_rest : {A : Type 0} {R : A → A → Type 0} {a : A} {rest : List A} → Pairwise R (a ∷ rest) → Pairwise R rest
pairwise_rest (pairs f p) = p

-- one list after the other
pub pairwise_append : {A : Type 0} {R : A → A → Type 0} {xs ys : List A} → Pairwise R xs → Pairwise R ys
    → ((x y : A) → Memᴰ x xs → Memᴰ y ys → R x y) → Pairwise R (xs ++ ys)
pairwise_append no_pair q h = q
pairwise_append {R = R} {ys = ys} (pairs {a = a} {rest = rest} f p) q h =
    pairs (λ c i. go c (Memᴰ.append_cases rest i)) (pairwise_append p q (λ x y i j. h x y (Memᴰ.tail i) j))
  where
    go : (c : _) → Memᴰ c rest ⊎ Memᴰ c ys → R a c
    go c (inl i) = f c i
    go c (inr j) = h a c (Memᴰ.head refl) j

-- only one list of the same elements is in order, where no two elements come each before the other
pub pairwise_unique : {A : Type 0} {R : A → A → Type 0} → ((a c : A) → R a c → R c a → ⊥) → {xs ys : List A} → Pairwise R xs → Pairwise R ys
    → ((c : A) → Memᴰ c xs ↔ Memᴰ c ys) → xs ≡ ys
pairwise_unique asym no_pair no_pair h = refl
pairwise_unique asym no_pair (pairs {a = y} g q) h = absurd (Memᴰ.not-nil ((h y).1 (Memᴰ.head refl)))
pairwise_unique asym (pairs {a = x} f p) no_pair h = absurd (Memᴰ.not-nil ((h x).0 (Memᴰ.head refl)))
pairwise_unique {A = A} {R = R} asym (pairs {a = x} {rest = xs} f p) (pairs {a = y} {rest = ys} g q) h =
    ap₂ ◌∷◌ heads (pairwise_unique asym p q (λ c. (to c, back c)))
  where
    meet : Memᴰ x (y ∷ ys) → Memᴰ y (x ∷ xs) → x ≡ y
    meet (Memᴰ.head e) j = e
    meet (Memᴰ.tail i) (Memᴰ.head e) = sym e
    meet (Memᴰ.tail i) (Memᴰ.tail j) = absurd (asym x y (f y j) (g x i))

    heads : x ≡ y
    heads = meet ((h x).0 (Memᴰ.head refl)) ((h y).1 (Memᴰ.head refl))

    to : (c : A) → Memᴰ c xs → Memᴰ c ys
    to c i = late ((h c).0 (Memᴰ.tail i))
      where
        late : Memᴰ c (y ∷ ys) → Memᴰ c ys
        late (Memᴰ.head e) = let r : R x x = subst (R x) (e ∙ sym heads) (f c i) in absurd (asym x x r r)
        late (Memᴰ.tail j) = j

    back : (c : A) → Memᴰ c ys → Memᴰ c xs
    back c i = late ((h c).1 (Memᴰ.tail i))
      where
        late : Memᴰ c (x ∷ xs) → Memᴰ c xs
        late (Memᴰ.head e) = let r : R y y = subst (R y) (e ∙ heads) (g c i) in absurd (asym y y r r)
        late (Memᴰ.tail j) = j
