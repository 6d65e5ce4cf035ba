-- Lists in an order, of which one element is singled out, taken out or replaced. Assumes nothing.
use mathlib.Core.Path.{refl, sym, subst}
use mathlib.Core.Logic.{◌⊎◌, inl, inr}
use mathlib.Core.List.Memᴰ
use mathlib.Core.List.{List, [], ◌∷◌, ◌++◌, Memᴰ}
use Rattle.network.specs.Pairwise.{Pairwise, no_pair, pairs}
use Rattle.network.proofs.Pairwise.{pairwise_append, pairwise_rest, pairwise_first}

module _ {A : Type 0} where
  -- an element of a list without one of its elements is one of the list
  pub with_it : (before : List A) (x : A) (after : List A) {y : A} → Memᴰ y (before ++ after) → Memᴰ y (before ++ x ∷ after)
  with_it [] x after i = Memᴰ.tail i
  with_it (z ∷ zs) x after (Memᴰ.head e) = Memᴰ.head e
  with_it (z ∷ zs) x after (Memᴰ.tail i) = Memᴰ.tail (with_it zs x after i)

  -- the one that is singled out is an element
  pub it_is_in : (before : List A) (x : A) (after : List A) → Memᴰ x (before ++ x ∷ after)
  it_is_in before x after = Memᴰ.append_right before (Memᴰ.head refl)

  -- what holds of each element of a list holds of each but one
  pub all_without : (P : A → Type 0) (before : List A) (x : A) (after : List A)
      → ((y : A) → Memᴰ y (before ++ x ∷ after) → P y) → (y : A) → Memᴰ y (before ++ after) → P y
  all_without P before x after f y i = f y (with_it before x after i)

  -- what holds of each element of two lists holds of each of both
  pub all_both : (P : A → Type 0) (xs ys : List A) → ((y : A) → Memᴰ y xs → P y) → ((y : A) → Memᴰ y ys → P y)
      → (y : A) → Memᴰ y (xs ++ ys) → P y
  all_both P xs ys f g y i = go (Memᴰ.append_cases xs i)
    where
      go : Memᴰ y xs ⊎ Memᴰ y ys → P y
      go (inl j) = f y j
      go (inr j) = g y j

  -- and of each element of a list, and of one, holds of each once that one is in the place of another
  pub all_instead : (P : A → Type 0) (before : List A) (x z : A) (after : List A)
      → ((y : A) → Memᴰ y (before ++ x ∷ after) → P y) → P z → (y : A) → Memᴰ y (before ++ z ∷ after) → P y
  all_instead P before x z after f p =
      all_both P before (z ∷ after) (λ y i. f y (Memᴰ.append_left (x ∷ after) i)) (λ y i. go y i)
    where
      go : (y : A) → Memᴰ y (z ∷ after) → P y
      go y (Memᴰ.head e) = subst P (sym e) p
      go y (Memᴰ.tail i) = f y (Memᴰ.append_right before (Memᴰ.tail i))

module _ {A : Type 0} {R : A → A → Type 0} where
  -- of a list in an order the first part is in order
  pairwise_left : (xs ys : List A) → Pairwise R (xs ++ ys) → Pairwise R xs
  pairwise_left [] ys p = no_pair
  pairwise_left (x ∷ xs) ys (pairs f p) = pairs (λ c i. f c (Memᴰ.append_left ys i)) (pairwise_left xs ys p)

  -- and the second
  pairwise_right : (xs ys : List A) → Pairwise R (xs ++ ys) → Pairwise R ys
  pairwise_right [] ys p = p
  pairwise_right (x ∷ xs) ys (pairs f p) = pairwise_right xs ys p

  -- and each of the first stands so to each of the second
  pairwise_across : (xs ys : List A) → Pairwise R (xs ++ ys) → (x y : A) → Memᴰ x xs → Memᴰ y ys → R x y
  pairwise_across [] ys _ x y m j = elim m [ ]
  pairwise_across (z ∷ zs) ys (pairs f p) x y (Memᴰ.head e) j = subst (λ (a : A). R a y) (sym e) (f y (Memᴰ.append_right zs j))
  pairwise_across (z ∷ zs) ys (pairs f p) x y (Memᴰ.tail i) j = pairwise_across zs ys p x y i j

  -- an element stands so to each after it
  pub pairwise_after : (before : List A) (x : A) (after : List A) → Pairwise R (before ++ x ∷ after) → (y : A) → Memᴰ y after → R x y
  pairwise_after before x after p = pairwise_first (pairwise_right before (x ∷ after) p)

  -- and each before it stands so to it
  pub pairwise_before : (before : List A) (x : A) (after : List A) → Pairwise R (before ++ x ∷ after) → (y : A) → Memᴰ y before → R y x
  pairwise_before before x after p y i = pairwise_across before (x ∷ after) p y x i (Memᴰ.head refl)

  -- without one of its elements a list in an order is in order
  pub pairwise_without : (before : List A) (x : A) (after : List A) → Pairwise R (before ++ x ∷ after) → Pairwise R (before ++ after)
  pairwise_without before x after p =
      pairwise_append (pairwise_left before (x ∷ after) p) (pairwise_rest (pairwise_right before (x ∷ after) p))
      (λ y z i j. pairwise_across before (x ∷ after) p y z i (Memᴰ.tail j))

  -- and with an element in the place of another that stands so to the same elements
  pub pairwise_instead : (before : List A) (x z : A) (after : List A) → Pairwise R (before ++ x ∷ after) → ((y : A) → R y x → R y z)
      → ((y : A) → R x y → R z y) → Pairwise R (before ++ z ∷ after)
  pairwise_instead before x z after p f g =
      pairwise_append (pairwise_left before (x ∷ after) p)
      (pairs (λ y i. g y (pairwise_after before x after p y i)) (pairwise_rest (pairwise_right before (x ∷ after) p)))
      (λ y o i j. go y o i j)
    where
      go : (y o : A) → Memᴰ y before → Memᴰ o (z ∷ after) → R y o
      go y o i (Memᴰ.head e) = subst (R y) (sym e) (f y (pairwise_before before x after p y i))
      go y o i (Memᴰ.tail j) = pairwise_across before (x ∷ after) p y o i (Memᴰ.tail j)
