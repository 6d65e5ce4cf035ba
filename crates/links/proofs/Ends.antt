-- The link ends at a mark: which links have them, the first link of which a test holds, and the lowest mark with so many. Assumes nothing.
use Prim.Native.Nat.{ℕ, zero, suc, ◌+◌, ◌≤◌, ◌<◌}
use native.Mathlib.Omega.{arith}
use mathlib.Core.Path.{◌≡◌, refl, sym, ◌∙◌, ap, subst}
use mathlib.Core.Logic.{◌⊎◌, inl, inr}
use mathlib.Core.Bool.{Bool, true, false, ◌||◌}
use mathlib.Core.List.{List, [], ◌∷◌, ◌++◌, Memᴰ}
use mathlib.Core.Option.{none, some}
use lib.Dec.{eqb}
use borrow.Author.Tests.{eqb-true, eqb-false, eq-eqb, ne_eqb}
use Rattle.laws.proofs.Scans.{none_bad}
use Rattle.laws.proofs.FirstBad.{none_first, first_is_first}
use Rattle.network.specs.Piece.{bit}
use Rattle.links.specs.Link.{Link, read_from, read_to, joined}
use Rattle.links.specs.Ends.{ends_of, ends_at, has_end, lowest_with, first_that, but_first, TwoEnds}
use Rattle.links.specs.Sketch.{merged_at}
use Rattle.links.specs.Steps.{EndAt, Lowest, NoMark, NoLoop}
use Rattle.links.proofs.Among.{it_is_in}

-- ---- the ends of one link

-- a link has an end at mark m exactly if its first or its last mark is m
pub end_there : (m : ℕ) (x : Link) → has_end m x ≡ true → EndAt m x
end_there m x h = go (eqb x.first m) refl h
  where
    go : (t : Bool) → eqb x.first m ≡ t → (t || eqb x.last m) ≡ true → EndAt m x
    go true e h = inl (eqb-true x.first m e)
    go false e h = inr (eqb-true x.last m h)

-- and so the test says
pub has_end_lem : (m : ℕ) (x : Link) → EndAt m x → has_end m x ≡ true
has_end_lem m x (inl e) = rw (eq-eqb x.first m e)
has_end_lem m x (inr e) = rw (eq-eqb x.last m e) (go (eqb x.first m))
  where
    go : (t : Bool) → (t || true) ≡ true
    go true = refl
    go false = refl

-- then it has one or two there
pub ends_some : (m : ℕ) (x : Link) → has_end m x ≡ true → 0 < ends_of m x
ends_some m x h = go (eqb x.first m) (eqb x.last m) h
  where
    go : (s t : Bool) → (s || t) ≡ true → 0 < bit s + bit t
    go true t h = omega arith
    go false true h = omega arith
    go false false h = absurd (omega (arith, ap bit h))

-- else none
ends_none : (m : ℕ) (x : Link) → has_end m x ≡ false → ends_of m x ≡ 0
ends_none m x h = go (eqb x.first m) (eqb x.last m) h
  where
    go : (s t : Bool) → (s || t) ≡ false → bit s + bit t ≡ 0
    go true t h = absurd (omega (arith, ap bit h))
    go false true h = absurd (omega (arith, ap bit h))
    go false false h = refl

-- and it has both there only if it closes on itself
pub ends_one : (m : ℕ) (x : Link) → (x.first ≡ x.last → ⊥) → ends_of m x ≤ 1
ends_one m x f = go (eqb x.first m) (eqb x.last m) refl refl
  where
    go : (s t : Bool) → eqb x.first m ≡ s → eqb x.last m ≡ t → bit s + bit t ≤ 1
    go true true p q = absurd (f (eqb-true x.first m p ∙ sym (eqb-true x.last m q)))
    go true false p q = omega arith
    go false true p q = omega arith
    go false false p q = omega arith

-- ---- the ends of links

-- of links and links after them, the ends of both
ends_both : (m : ℕ) (xs ys : List Link) → ends_at m (xs ++ ys) ≡ ends_at m xs + ends_at m ys
unfolding ends_at
ends_both m [] ys = omega arith
ends_both m (x ∷ xs) ys = omega (arith, ends_both m xs ys)

-- of links of which one is singled out
pub ends_around : (m : ℕ) (before : List Link) (x : Link) (after : List Link)
    → ends_at m (before ++ x ∷ after) ≡ ends_at m before + (ends_of m x + ends_at m after)
unfolding ends_at
ends_around m before x after = ends_both m before (x ∷ after)

-- a mark without link ends is an end of no link
pub no_ends : (m : ℕ) (xs : List Link) → ends_at m xs ≡ 0 → (x : Link) → Memᴰ x xs → has_end m x ≡ false
unfolding ends_at
no_ends m [] e x i = elim i [ ]
no_ends m (y ∷ ys) e x (mathlib.Core.List.Memᴰ.head z) = go (has_end m x) refl
  where
    go : (t : Bool) → has_end m x ≡ t → t ≡ false
    go true h = absurd (omega (arith, ends_some m y (ap (has_end m) (sym z) ∙ h)))
    go false h = refl
no_ends m (y ∷ ys) e x (mathlib.Core.List.Memᴰ.tail i) = no_ends m ys (omega arith) x i

-- and if it is an end of no link, there are none
pub ends_of_none : (m : ℕ) (xs : List Link) → ((x : Link) → Memᴰ x xs → has_end m x ≡ false) → ends_at m xs ≡ 0
unfolding ends_at
ends_of_none m [] f = refl
ends_of_none m (x ∷ xs) f =
    omega (arith, ends_none m x (f x (mathlib.Core.List.Memᴰ.head refl)), ends_of_none m xs (λ y i. f y (mathlib.Core.List.Memᴰ.tail i)))

-- ---- the first link of which a test holds

-- its place among the links
pub record FirstOf (test : Link → Bool) (xs : List Link) : Type 0 where
  pub before : List Link
  pub its : Link
  pub after : List Link
  pub links_are : xs ≡ before ++ its ∷ after
  pub holds : test its ≡ true
  pub none_before : (y : Link) → Memᴰ y before → test y ≡ false

-- there is one, or the test holds of none
pub first_or_none : (test : Link → Bool) (xs : List Link) → FirstOf test xs ⊎ ((y : Link) → Memᴰ y xs → test y ≡ false)
first_or_none test [] = inr (λ y i. absurd (mathlib.Core.List.Memᴰ.not-nil i))
first_or_none test (x ∷ xs) = go (test x) refl (first_or_none test xs)
  where
    more : test x ≡ false → (zs : List Link) → ((y : Link) → Memᴰ y zs → test y ≡ false) → (y : Link) → Memᴰ y (x ∷ zs)
        → test y ≡ false
    more e zs f y (mathlib.Core.List.Memᴰ.head z) = ap test z ∙ e
    more e zs f y (mathlib.Core.List.Memᴰ.tail i) = f y i

    go : (t : Bool) → test x ≡ t → FirstOf test xs ⊎ ((y : Link) → Memᴰ y xs → test y ≡ false)
        → FirstOf test (x ∷ xs) ⊎ ((y : Link) → Memᴰ y (x ∷ xs) → test y ≡ false)
    go true e ih = inl (record {
      before = [];
      its = x;
      after = xs;
      links_are = refl;
      holds = e;
      none_before = λ y i. absurd (mathlib.Core.List.Memᴰ.not-nil i);
    })
    go false e (inl w) = inl (record {
      before = x ∷ w.before;
      its = w.its;
      after = w.after;
      links_are = ap (λ (l : List Link). x ∷ l) w.links_are;
      holds = w.holds;
      none_before = more e w.before w.none_before;
    })
    go false e (inr f) = inr (more e xs f)

module _ (test : Link → Bool) where
  -- it is found
  pub finds_first : (before : List Link) (x : Link) (after : List Link) → ((y : Link) → Memᴰ y before → test y ≡ false)
      → test x ≡ true → first_that test (before ++ x ∷ after) ≡ some x
  unfolding first_that
  finds_first [] x after f e = rw e
  finds_first (y ∷ ys) x after f e =
      rw (f y (mathlib.Core.List.Memᴰ.head refl)) (finds_first ys x after (λ z i. f z (mathlib.Core.List.Memᴰ.tail i)) e)

  -- and the links without it are those before and those after
  pub but_first_lem : (before : List Link) (x : Link) (after : List Link) → ((y : Link) → Memᴰ y before → test y ≡ false)
      → test x ≡ true → but_first test (before ++ x ∷ after) ≡ before ++ after
  unfolding but_first
  but_first_lem [] x after f e = rw e
  but_first_lem (y ∷ ys) x after f e =
      rw (f y (mathlib.Core.List.Memᴰ.head refl))
      (ap (λ (l : List Link). y ∷ l) (but_first_lem ys x after (λ z i. f z (mathlib.Core.List.Memᴰ.tail i)) e))

  -- where the test holds of none, none is found
  pub finds_none : (xs : List Link) → ((y : Link) → Memᴰ y xs → test y ≡ false) → first_that test xs ≡ none
  unfolding first_that
  finds_none [] f = refl
  finds_none (x ∷ xs) f = rw (f x (mathlib.Core.List.Memᴰ.head refl)) (finds_none xs (λ y i. f y (mathlib.Core.List.Memᴰ.tail i)))

-- the first two links with an end at mark m become one, in the place of the first
pub merges_first : (m : ℕ) (before : List Link) (x : Link) (between : List Link) (y : Link) (after : List Link)
    → ((z : Link) → Memᴰ z before → has_end m z ≡ false) → has_end m x ≡ true
    → ((z : Link) → Memᴰ z between → has_end m z ≡ false) → has_end m y ≡ true
    → merged_at m (before ++ x ∷ (between ++ y ∷ after)) ≡ before ++ joined (read_to m x) (read_from m y) ∷ (between ++ after)
unfolding merged_at
merges_first m [] x between y after f p g q =
    rw (p, finds_first (has_end m) between y after g q, but_first_lem (has_end m) between y after g q)
merges_first m (z ∷ zs) x between y after f p g q =
    rw (f z (mathlib.Core.List.Memᴰ.head refl))
    (ap (λ (l : List Link). z ∷ l) (merges_first m zs x between y after (λ o i. f o (mathlib.Core.List.Memᴰ.tail i)) p g q))

-- where no link closes on itself, the two ends at a mark are those of two links, since none has both there
pub two_ends : (m : ℕ) (xs : List Link) → ends_at m xs ≡ 2 → NoLoop xs → TwoEnds m xs
two_ends m xs e no_loop = go (first_or_none (has_end m) xs)
  where
    go : FirstOf (has_end m) xs ⊎ ((y : Link) → Memᴰ y xs → has_end m y ≡ false) → TwoEnds m xs
    go (inr f) = absurd (omega (arith, ends_of_none m xs f))
    go (inl w) = second (first_or_none (has_end m) w.after)
      where
        second : FirstOf (has_end m) w.after ⊎ ((y : Link) → Memᴰ y w.after → has_end m y ≡ false) → TwoEnds m xs
        second (inl v) = record {
          before = w.before;
          one = w.its;
          between = v.before;
          other = v.its;
          after = v.after;
          links_are = w.links_are ∙ ap (λ (l : List Link). w.before ++ w.its ∷ l) v.links_are;
          none_before = w.none_before;
          one_there = w.holds;
          none_between = v.none_before;
          other_there = v.holds;
        }
        second (inr f) =
            let in_links : Memᴰ w.its xs =
            subst (Memᴰ w.its) (sym w.links_are) (it_is_in w.before w.its w.after) in
            absurd (omega (
              arith,
              ap (ends_at m) w.links_are,
              ends_around m w.before w.its w.after,
              ends_of_none m w.before w.none_before,
              ends_of_none m w.after f,
              ends_one m w.its (no_loop w.its in_links),
            ))

-- ---- the lowest mark with exactly k link ends

-- there is only one
one_lowest_mark : {b k : ℕ} {xs : List Link} {m n : ℕ} → Lowest b k xs m → Lowest b k xs n → m ≡ n
one_lowest_mark {m = m} {n = n} x y =
    let not_below : m < n → ⊥ = λ l. y.no_lower m x.low l x.has_them in
    let not_above : n < m → ⊥ = λ l. x.no_lower n y.low l y.has_them in
    omega arith

-- `lowest_with` is it
pub lowest_mark : (b k : ℕ) (xs : List Link) (i : ℕ) → lowest_with b k xs ≡ suc i → Lowest b k xs (suc i)
unfolding lowest_with
lowest_mark b k xs i e = let w = first_is_first (λ j. eqb (ends_at (suc j) xs) k) b i e in record {
  low = omega arith;
  high = w.0;
  has_them = eqb-true (ends_at (suc i) xs) k w.1;
  no_lower = λ j p q h. lower j p q h w.2;
}
  where
    lower : (j : ℕ) → 0 < j → j < suc i → ends_at j xs ≡ k → ((j : ℕ) → j < i → eqb (ends_at (suc j) xs) k ≡ false) → ⊥
    lower zero p q h f = omega arith
    lower (suc j) p q h f = eqb-false (ends_at (suc j) xs) k (f j (omega arith)) h

-- and 0 says that there is none
pub no_mark : (b k : ℕ) (xs : List Link) → lowest_with b k xs ≡ 0 → NoMark b k xs
unfolding lowest_with
no_mark b k xs e zero low high h = omega arith
no_mark b k xs e (suc i) low high h =
    eqb-false (ends_at (suc i) xs) k (none_bad (λ j. eqb (ends_at (suc j) xs) k) b e i high) h

-- so it finds the mark where there is one
pub lowest_found : (b k : ℕ) (xs : List Link) (m : ℕ) → Lowest b k xs m → lowest_with b k xs ≡ m
lowest_found b k xs m x = go (lowest_with b k xs) refl
  where
    go : (n : ℕ) → lowest_with b k xs ≡ n → n ≡ m
    go zero e = absurd (no_mark b k xs e m x.low x.high x.has_them)
    go (suc i) e = one_lowest_mark (lowest_mark b k xs i e) x

-- and nothing where there is none
pub none_with : (b k : ℕ) (xs : List Link) → NoMark b k xs → lowest_with b k xs ≡ 0
unfolding lowest_with
none_with b k xs f =
    none_first (λ j. eqb (ends_at (suc j) xs) k) b (λ i l. ne_eqb (ends_at (suc i) xs) k (λ h. f (suc i) (omega arith) l h))
