-- Lists in an order. Assumes nothing.
use mathlib.Core.List.{List, [], ◌∷◌, Memᴰ}

-- each element stands in the relation R to every later one
pub data Pairwise {A : Type 0} (R : A → A → Type 0) : List A → Type 0 where
  no_pair : Pairwise R []
  pairs : {a : A} {rest : List A} → ((c : A) → Memᴰ c rest → R a c) → Pairwise R rest → Pairwise R (a ∷ rest)
