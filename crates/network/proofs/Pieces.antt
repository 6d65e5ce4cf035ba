-- The pieces: as many as marks that are the lowest of their piece; and withdrawing a line makes at most one more. Assumes nothing.
use Prim.Native.Nat.{ℕ, zero, suc, ◌+◌, ◌≤◌, ◌<◌}
use native.Mathlib.Omega.{arith}
use native.Mathlib.Decide.{ℕ_discrete}
use mathlib.Core.Path.{◌≡◌, refl, sym, ◌∙◌, ap, subst}
use mathlib.Core.Logic.{◌⊎◌, inl, inr, ◌↔◌}
use mathlib.Core.Bool.{Bool, true, false, true≢false}
use mathlib.Core.List.{List, [], ◌∷◌, ◌++◌, Memᴰ}
use Rattle.network.specs.Standing.{Line}
use Rattle.network.specs.Sound.{Sound}
use Rattle.network.specs.Walk.{Ends, along, against, Pass, start, stop, Walk, here, step}
use Rattle.network.specs.Tree.{tree, pieces}
use Rattle.network.specs.Piece.{LowestOfPiece, root_at, bit, count_to}
use Rattle.network.specs.Without.{without}
use Rattle.network.proofs.ClosingLines.{has_distance}
use Rattle.network.proofs.Count.{unique}
use Rattle.network.proofs.Descent.{clash}
use Rattle.network.proofs.Growth.{tree_grows}
use Rattle.network.proofs.Roots.{count_one_more, pieces_are_roots, root_is_lowest, ToRoot, to_its_root}
use Rattle.network.proofs.Shortest.{ends_of}
use Rattle.network.proofs.Walks.{Way, walk_append, way_back, walk_wider}
use Rattle.network.proofs.Withdrawn.{sound_without}
use Rattle.network.proofs.Without.{in_without, of_without}

module _ (b : ℕ) (lines : List Line) (sound : Sound b lines) where
  -- a mark that is no root is joined with a lower one
  joined_lower : (m : ℕ) → 0 < m → m ≤ b → root_at (tree b lines) m ≡ false → (r : ℕ) × (0 < r) × (r < m) × Way lines r m
  joined_lower m low high h =
      let d = has_distance b lines sound m low high in
      go (to_its_root b lines sound (tree_grows b lines sound) m d.0 d.1)
    where
      go : ToRoot b lines sound (tree b lines) m → (r : ℕ) × (0 < r) × (r < m) × Way lines r m
      go t = (t.root, t.low, strictly (ℕ_discrete t.root m), t.way)
        where
          strictly : Dec (t.root ≡ m) → t.root < m
          strictly (yes e) = clash (ap (root_at (tree b lines)) (sym e) ∙ t.is_root) h
          strictly (no n) = omega (arith, t.not_above)

  -- a mark of the book is a root exactly if it is the lowest of its piece
  pub root_exactly_if_lowest : (m : ℕ) → 0 < m → m ≤ b → (root_at (tree b lines) m ≡ true) ↔ LowestOfPiece lines m
  root_exactly_if_lowest m low high =
      (λ h r z lt w x. root_is_lowest b lines sound (tree_grows b lines sound) m r h z lt x, λ f. go f (root_at (tree b lines) m) refl)
    where
      go : LowestOfPiece lines m → (t : Bool) → root_at (tree b lines) m ≡ t → t ≡ true
      go f true e = refl
      go f false e = let k = joined_lower m low high e in absurd (f k.0 k.1 k.2 k.3.0 k.3.1)

  -- there are as many pieces as roots, so as many as marks that are the lowest of their piece
  pub as_many_pieces_as_roots : pieces (tree b lines) ≡ count_to (root_at (tree b lines)) b
  as_many_pieces_as_roots = pieces_are_roots b lines sound (tree_grows b lines sound)

-- ---- a line withdrawn

-- m is one of the line's two ends
abbrev EndOf : Line → ℕ → Type 0
EndOf l m = (m ≡ l.from) ⊎ (m ≡ l.to)

pass_ends : (p : Pass) → EndOf p.line (start p) × EndOf p.line (stop p)
pass_ends p = go (ends_of p)
  where
    go : {u v : ℕ} → Ends p.line u v → EndOf p.line u × EndOf p.line v
    go (along a c) = (inl (sym a), inr (sym c))
    go (against a c) = (inr (sym a), inl (sym c))

module _ (b : ℕ) (lines : List Line) (sound : Sound b lines) (l : Line) (stands : Memᴰ l lines) where
  abbrev few : List Line
  few = without l.number lines

  -- a walk runs without the line, or it leads to one end of the line and goes on from one
  data Cut (r u : ℕ) : Type 0 where
    whole : Way few r u → Cut r u
    parts : (a c : ℕ) → EndOf l a → EndOf l c → Way few a u → Way few r c → Cut r u

  cut : {r u : ℕ} {w : List Pass} → Walk lines r u w → Cut r u
  cut (here e) = whole ([], here e)
  cut {r = r} {u = u} (step {p = p} s m w) = go (ℕ_discrete p.line.number l.number) (cut w)
    where
      go : Dec (p.line.number ≡ l.number) → Cut r (stop p) → Cut r u
      go (no d) (whole (v, x)) = whole (p ∷ v, step s (in_without l.number lines p.line m d) x)
      go (no d) (parts a c i j (v, x) y) = parts a c i j (p ∷ v, step s (in_without l.number lines p.line m d) x) y
      go (yes e) rest = own (unique lines sound.rising p.line l m stands e) rest
        where
          own : p.line ≡ l → Cut r (stop p) → Cut r u
          own z (whole y) =
              parts (start p) (stop p) (subst (λ (k : Line). EndOf k (start p)) z (pass_ends p).0)
              (subst (λ (k : Line). EndOf k (stop p)) z (pass_ends p).1) ([], here (sym s)) y
          own z (parts a c i j x y) = parts (start p) c (subst (λ (k : Line). EndOf k (start p)) z (pass_ends p).0) j ([], here (sym s)) y

  -- of three ends of one line two are the same
  two_of_three : (x y z : ℕ) → EndOf l x → EndOf l y → EndOf l z → (x ≡ y) ⊎ ((x ≡ z) ⊎ (y ≡ z))
  two_of_three x y z (inl p) (inl q) r = inl (p ∙ sym q)
  two_of_three x y z (inr p) (inr q) r = inl (p ∙ sym q)
  two_of_three x y z (inl p) (inr q) (inl r) = inr (inl (p ∙ sym r))
  two_of_three x y z (inl p) (inr q) (inr r) = inr (inr (q ∙ sym r))
  two_of_three x y z (inr p) (inl q) (inl r) = inr (inr (q ∙ sym r))
  two_of_three x y z (inr p) (inl q) (inr r) = inr (inl (p ∙ sym r))

  -- from u to a mark, and on from there
  then_on : {r u a c : ℕ} → a ≡ c → Way few a u → Way few r c → Way few r u
  then_on {r = r} e x y = (x.0 ++ y.0, walk_append x.1 (subst (λ (m : ℕ). Walk few r m y.0) (sym e) y.1))

  -- a root of the book without the line
  Root' : ℕ → Type 0
  Root' m = root_at (tree b few) m ≡ true

  lowest' : (m r : ℕ) → Root' m → 0 < r → r < m → Way few r m → ⊥
  unfolding Root'
  lowest' m r h low lt w =
      root_is_lowest b few (sound_without sound l.number) (tree_grows b few (sound_without sound l.number)) m r h low lt w.1

  -- no two marks become roots
  one_new_root : (m n : ℕ) → 0 < m → m < n → n ≤ b → Root' m → root_at (tree b lines) m ≡ false → Root' n
      → root_at (tree b lines) n ≡ false → ⊥
  one_new_root m n low lt high rm om rn on =
      go (joined_lower b lines sound m low (omega arith) om) (joined_lower b lines sound n (omega arith) high on)
    where
      go : (r : ℕ) × (0 < r) × (r < m) × Way lines r m → (s : ℕ) × (0 < s) × (s < n) × Way lines s n → ⊥
      go (r, zr, lr, wr) (s, zs, ls, ws) = meet (cut wr.1) (cut ws.1)
        where
          meet : Cut r m → Cut s n → ⊥
          meet (whole x) y = lowest' m r rm zr lr x
          meet (parts a c i j x y) (whole z) = lowest' n s rn zs ls z
          meet (parts a c i j x y) (parts e f p q z t) = hit (two_of_three a c e i j p)
            where
              hit : (a ≡ c) ⊎ ((a ≡ e) ⊎ (c ≡ e)) → ⊥
              hit (inl z') = lowest' m r rm zr lr (then_on z' x y)
              hit (inr (inl z')) = lowest' n m rn low lt (then_on (sym z') z (way_back x.1))
              hit (inr (inr z')) = lowest' n r rn zr (omega arith) (then_on (sym z') z y)

  -- withdrawing a line makes at most one piece more
  pub one_piece_more : pieces (tree b (without l.number lines)) ≤ suc (pieces (tree b lines))
  unfolding Root'
  one_piece_more =
      omega (
        arith,
        as_many_pieces_as_roots b few (sound_without sound l.number),
        as_many_pieces_as_roots b lines sound,
        count_one_more (root_at (tree b few)) (root_at (tree b lines)) b one_new_root,
      )

-- where every mark that passes f passes g, those of g are no fewer
count_more : (f g : ℕ → Bool) (b : ℕ) → ((m : ℕ) → 0 < m → m ≤ b → f m ≡ true → g m ≡ true) → count_to f b ≤ count_to g b
unfolding count_to
count_more f g zero h = omega arith
count_more f g (suc b) h = go (f (suc b)) (g (suc b)) refl refl (count_more f g b (λ m low le. h m low (omega arith)))
  where
    go : (x y : Bool) → f (suc b) ≡ x → g (suc b) ≡ y → count_to f b ≤ count_to g b → bit x + count_to f b ≤ bit y + count_to g b
    go true true p q ih = omega arith
    go true false p q ih = absurd (true≢false (sym (h (suc b) (omega arith) (omega arith) p) ∙ q))
    go false true p q ih = omega arith
    go false false p q ih = omega arith

module _ (b : ℕ) (lines : List Line) (sound : Sound b lines) (l : Line) (stands : Memᴰ l lines) where
  -- a mark that is the lowest of its piece is so with fewer lines
  still_lowest : (m : ℕ) → LowestOfPiece lines m → LowestOfPiece (without l.number lines) m
  still_lowest m h r low lt w x = h r low lt w (walk_wider (λ k i. of_without l.number lines k i) x)

  -- withdrawing a line never joins pieces
  pub pieces_never_fewer : pieces (tree b lines) ≤ pieces (tree b (without l.number lines))
  pieces_never_fewer =
      let few = without l.number lines in
      let less = sound_without sound l.number in
      omega (
        arith,
        as_many_pieces_as_roots b lines sound,
        as_many_pieces_as_roots b few less,
        count_more (root_at (tree b lines)) (root_at (tree b few)) b
            (λ m low high e. (root_exactly_if_lowest b few less m low high).1
            (still_lowest m ((root_exactly_if_lowest b lines sound m low high).0 e))),
      )
