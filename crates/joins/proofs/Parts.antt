-- A part in the middle of a list, and the list with another part in its place. Assumes nothing.
use Prim.Native.Nat.{ℕ}
use mathlib.Core.Path.{◌≡◌, ◌∙◌, ap, ap₂}
use mathlib.Core.List.{List, ◌++◌}
use lib.ListN.{length, take, drop}
use lib.Seq.{take_at, drop_at}
use borrow.Rule.Slice.PartMut.{mid_of, put_mid}

module _ {A : Type 0} (front part back : List A) (l : List A) (l_is : l ≡ front ++ (part ++ back)) (a n : ℕ) (f : length front ≡ a)
    (p : length part ≡ n) where
  pub mid_at : mid_of a n l ≡ part
  mid_at =
      ap (λ (x : List A). take n (drop a x)) l_is ∙ ap (take n) (drop_at front (part ++ back) a f) ∙ take_at part back n p

  pub put_at : (new : List A) → put_mid a n l new ≡ front ++ (new ++ back)
  put_at new =
      ap₂ (λ (x y : List A). x ++ (new ++ y)) (ap (take a) l_is ∙ take_at front (part ++ back) a f)
      (ap (λ (x : List A). drop n (drop a x)) l_is ∙ ap (drop n) (drop_at front (part ++ back) a f) ∙ drop_at part back n p)
