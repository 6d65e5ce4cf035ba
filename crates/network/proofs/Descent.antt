-- The path that `descend` gives is a walk to the root, as long as the distance, and of all walks as short as that the one whose line
-- numbers are smaller at the first difference. Assumes nothing.
use Prim.Native.Nat.{ℕ, zero, suc, ◌+◌, ◌≤◌, ◌<◌}
use native.Mathlib.Omega.{arith}
use mathlib.Core.Path.{◌≡◌, refl, sym, ◌∙◌, ap, subst}
use mathlib.Core.Logic.{◌⊎◌, inl, inr}
use mathlib.Core.Bool.{Bool, true, false, ◌&&◌, true≢false, false≢true}
use mathlib.Core.List.Memᴰ
use mathlib.Core.List.{List, [], ◌∷◌, Memᴰ}
use mathlib.Core.Option.{Option, none, some, some-injective, none-ne-some, some-ne-none}
use lib.Dec.{eqb}
use borrow.Author.Tests.{eqb-true, eq-eqb}
use Rattle.network.specs.Standing.{Line}
use Rattle.network.specs.Tree.{Tree, distance, score}
use Rattle.network.specs.Path.{Pass, pass, start, stop, fits, down, pick_pass, descent, onward, descend, way_length}
use Rattle.network.specs.Walk.{Before, equal, lower, alike, Ends, along, against, Walk, here, step}
use Rattle.network.specs.Sound.{Rising, then, Long}
use Rattle.network.proofs.Grown.{Grown, Parent, is_root, over, parent}
use Rattle.network.proofs.Shortest.{same, ends_of, balanced, shortest_of_all}

pub clash : {A : Type 0} {b : Bool} → b ≡ true → b ≡ false → A
clash p q = absurd (true≢false (sym p ∙ q))

pub and_true : (a b : Bool) → (a && b) ≡ true → (a ≡ true) × (b ≡ true)
and_true true b h = (refl, h)
and_true false b h = absurd (false≢true h)

pub true_and : (a b : Bool) → a ≡ true → b ≡ true → (a && b) ≡ true
true_and a b p q = rw (p, q)

-- ---- a pass that leads down

pub record Down (es : Tree) (p : Pass) : Type 0 where
  pub d : ℕ
  pub e : ℕ
  pub at_start : distance es (start p) ≡ some d
  pub at_stop : distance es (stop p) ≡ some e
  pub sum : e + p.line.length ≡ d

pub down_true : (es : Tree) (p : Pass) → down es p ≡ true → Down es p
unfolding down
down_true es p h = go (distance es (start p)) (distance es (stop p)) refl refl h
  where
    go : (a b : Option ℕ) → distance es (start p) ≡ a → distance es (stop p) ≡ b → fits p.line.length a b ≡ true → Down es p
    go none b x y t = absurd (false≢true t)
    go (some d) none x y t = absurd (false≢true t)
    go (some d) (some e) x y t = record { d = d; e = e; at_start = x; at_stop = y; sum = eqb-true _ _ t }

pub down_of : (es : Tree) (p : Pass) (d e : ℕ) → distance es (start p) ≡ some d → distance es (stop p) ≡ some e → e + p.line.length ≡ d
    → down es p ≡ true
unfolding down
down_of es p d e x y s = rw (x, y) (eq-eqb _ _ s)

-- ---- the first that leads down

pub record Found (es : Tree) (u : ℕ) (lines : List Line) (p : Pass) : Type 0 where
  pub is_line : Memᴰ p.line lines
  pub begins : start p ≡ u
  pub leads : down es p ≡ true

abbrev pub ahead : Tree → ℕ → Line → Bool
ahead es u l = eqb l.from u && down es (pass l true)

abbrev pub behind : Tree → ℕ → Line → Bool
behind es u l = eqb l.to u && down es (pass l false)

pub found : (es : Tree) (u : ℕ) (lines : List Line) (p : Pass) → descent es u lines ≡ some p → Found es u lines p
unfolding descent
found es u [] p h = absurd (none-ne-some p h)
found es u (l ∷ ls) p h = go (ahead es u l) (behind es u l) refl refl h (found es u ls p)
  where
    is : (q : Pass) → q.line ≡ l → start q ≡ u → down es q ≡ true → some q ≡ some p → Found es u (l ∷ ls) p
    is q x y z e =
        subst (λ (o : Pass). Found es u (l ∷ ls) o) (some-injective q p e)
        (record { is_line = Memᴰ.head x; begins = y; leads = z })

    go : (a b : Bool) → ahead es u l ≡ a → behind es u l ≡ b
        → pick_pass a (pass l true) (pick_pass b (pass l false) (descent es u ls)) ≡ some p
        → (descent es u ls ≡ some p → Found es u ls p) → Found es u (l ∷ ls) p
    go true b x y e ih = let t = and_true _ _ x in is (pass l true) refl (eqb-true _ _ t.0) t.1 e
    go false true x y e ih = let t = and_true _ _ y in is (pass l false) refl (eqb-true _ _ t.0) t.1 e
    go false false x y e ih = let f = ih e in record { is_line = Memᴰ.tail f.is_line; begins = f.begins; leads = f.leads }

-- a pass over l that starts at u and leads down is one of the two that `descent` tries
pub data Tried (es : Tree) (u : ℕ) (l : Line) (q : Pass) : Type 0 where
  is_ahead : q ≡ pass l true → ahead es u l ≡ true → Tried es u l q
  is_behind : q ≡ pass l false → behind es u l ≡ true → Tried es u l q

pub tried : (es : Tree) (u : ℕ) (l : Line) (q : Pass) → q.line ≡ l → start q ≡ u → down es q ≡ true → Tried es u l q
tried es u l q x y z = go q.forward q.line x y z
  where
    go : (f : Bool) (k : Line) → k ≡ l → start (pass k f) ≡ u → down es (pass k f) ≡ true → Tried es u l (pass k f)
    go true k x y z =
        is_ahead (ap (λ (o : Line). pass o true) x) (rw x at (true_and (eqb k.from u) (down es (pass k true)) (eq-eqb _ _ y) z))
    go false k x y z =
        is_behind (ap (λ (o : Line). pass o false) x) (rw x at (true_and (eqb k.to u) (down es (pass k false)) (eq-eqb _ _ y) z))

pub none_found : (es : Tree) (u : ℕ) (lines : List Line) → descent es u lines ≡ none → (q : Pass) → Memᴰ q.line lines
    → start q ≡ u → down es q ≡ true → ⊥
unfolding descent
none_found es u [] h q m y z = elim m [ ]
none_found es u (l ∷ ls) h q m y z = go (ahead es u l) (behind es u l) refl refl h m (λ e k. none_found es u ls e q k y z)
  where
    go : (a b : Bool) → ahead es u l ≡ a → behind es u l ≡ b
        → pick_pass a (pass l true) (pick_pass b (pass l false) (descent es u ls)) ≡ none
        → Memᴰ q.line (l ∷ ls) → (descent es u ls ≡ none → Memᴰ q.line ls → ⊥) → ⊥
    go true b s t e k ih = some-ne-none _ e
    go false true s t e k ih = some-ne-none _ e
    go false false s t e (Memᴰ.head x) ih = hit (tried es u l q x y z)
      where
        hit : Tried es u l q → ⊥
        hit (is_ahead i j) = clash j s
        hit (is_behind i j) = clash j t
    go false false s t e (Memᴰ.tail k) ih = ih e k

-- ---- the lowest number

-- of all passes that start at u and lead down, `descent` gives the one with the lowest number
pub first_found : (es : Tree) (u : ℕ) (lines : List Line) (p : Pass) → Rising lines → Long lines → descent es u lines ≡ some p
    → (q : Pass) → Memᴰ q.line lines → start q ≡ u → down es q ≡ true → (p.line.number < q.line.number) ⊎ (p ≡ q)
unfolding descent
first_found es u [] p _ long h q m y z = elim m [ ]
first_found es u (l ∷ ls) p (then above r) long h q m y z =
    go (ahead es u l) (behind es u l) refl refl h m (λ e k. first_found es u ls p r (λ k i. long k (Memᴰ.tail i)) e q k y z)
  where
    line_is : (o : Pass) → o.line ≡ l → some o ≡ some p → p.line ≡ l
    line_is o x e = sym (ap (λ (a : Pass). a.line) (some-injective o p e)) ∙ x

    beyond : p.line ≡ l → Memᴰ q.line ls → (p.line.number < q.line.number) ⊎ (p ≡ q)
    beyond x k = inl (omega (arith, above q.line k, ap (λ (a : Line). a.number) x))

    -- the two ways over one line do not both lead down
    not_both : ahead es u l ≡ true → behind es u l ≡ true → ⊥
    not_both s t =
        let s' = and_true (eqb l.from u) (down es (pass l true)) s in
        let t' = and_true (eqb l.to u) (down es (pass l false)) t in
        let a = down_true es (pass l true) s'.1 in
        let b = down_true es (pass l false) t'.1 in
        omega (arith, a.sum, b.sum, same a.at_start b.at_stop, same a.at_stop b.at_start, long l (Memᴰ.head refl))

    go : (a b : Bool) → ahead es u l ≡ a → behind es u l ≡ b
        → pick_pass a (pass l true) (pick_pass b (pass l false) (descent es u ls)) ≡ some p
        → Memᴰ q.line (l ∷ ls) → (descent es u ls ≡ some p → Memᴰ q.line ls → (p.line.number < q.line.number) ⊎ (p ≡ q))
        → (p.line.number < q.line.number) ⊎ (p ≡ q)
    go true b s t e (Memᴰ.head x) ih = hit (tried es u l q x y z)
      where
        hit : Tried es u l q → (p.line.number < q.line.number) ⊎ (p ≡ q)
        hit (is_ahead i j) = inr (sym (some-injective _ _ e) ∙ sym i)
        hit (is_behind i j) = absurd (not_both s j)
    go true b s t e (Memᴰ.tail k) ih = beyond (line_is (pass l true) refl e) k
    go false true s t e (Memᴰ.head x) ih = hit (tried es u l q x y z)
      where
        hit : Tried es u l q → (p.line.number < q.line.number) ⊎ (p ≡ q)
        hit (is_ahead i j) = clash j s
        hit (is_behind i j) = inr (sym (some-injective _ _ e) ∙ sym i)
    go false true s t e (Memᴰ.tail k) ih = beyond (line_is (pass l false) refl e) k
    go false false s t e (Memᴰ.head x) ih = hit (tried es u l q x y z)
      where
        hit : Tried es u l q → (p.line.number < q.line.number) ⊎ (p ≡ q)
        hit (is_ahead i j) = clash j s
        hit (is_behind i j) = clash j t
    go false false s t e (Memᴰ.tail k) ih = ih e k

-- ---- the way down

module _ (lines : List Line) {es : Tree} (g : Grown lines es) (long : Long lines) (r : ℕ)
    (only : (m : ℕ) → distance es m ≡ some 0 → m ≡ r) where
  pub pass_of : (l : Line) (u m : ℕ) → Ends l u m → (p : Pass) × (p.line ≡ l) × (start p ≡ m) × (stop p ≡ u)
  pass_of l u m (along a b) = (pass l false, refl, b, a)
  pass_of l u m (against a b) = (pass l true, refl, b, a)

  -- a mark from which nothing leads down is the root
  pub at_root_lem : (u d : ℕ) → distance es u ≡ some d → descent es u lines ≡ none → (d ≡ 0) × (u ≡ r)
  at_root_lem u d h e = go (parent lines g u d h)
    where
      go : Parent lines es u d → (d ≡ 0) × (u ≡ r)
      go (is_root z) = (z, only u (h ∙ ap some z))
      go (over l v dv m j x s) = let p = pass_of l v u j in
          absurd (none_found es u lines e p.0 (Memᴰ.cast p.1 m) p.2
          (down_of es p.0 d dv (ap (distance es) p.2 ∙ h) (ap (distance es) p.3 ∙ x)
          (ap (λ (k : Line). dv + k.length) p.1 ∙ sym s)))

  -- it is a walk to the root, as long as the distance
  pub descend_walk : (k u d : ℕ) → distance es u ≡ some d → d ≤ k
      → Walk lines r u (descend lines es k u) × (way_length (descend lines es k u) ≡ d)
  unfolding descend way_length
  descend_walk zero u d h n = let z : d ≡ 0 = omega arith in (here (only u (h ∙ ap some z)), sym z)
  descend_walk (suc k) u d h n = go (descent es u lines) refl (descend_walk k)
    where
      go : (o : Option Pass) → descent es u lines ≡ o
          → ((u d : ℕ) → distance es u ≡ some d → d ≤ k → Walk lines r u (descend lines es k u) × (way_length (descend lines es k u) ≡ d))
          → Walk lines r u (onward o (λ m. descend lines es k m)) × (way_length (onward o (λ m. descend lines es k m)) ≡ d)
      go none e ih = let z = at_root_lem u d h e in (here z.1, sym z.0)
      go (some p) e ih =
          let f = found es u lines p e in
          let w = down_true es p f.leads in
          let dd : w.d ≡ d = same w.at_start (ap (distance es) f.begins ∙ h) in
          let i = ih (stop p) w.e w.at_stop (omega (arith, w.sum, dd, long p.line f.is_line)) in
          (step f.begins f.is_line i.0, omega (arith, i.1, w.sum, dd))

  module _ (rising : Rising lines) (done : (k : Line) → Memᴰ k lines → score es k ≡ none) (at_root : distance es r ≡ some 0) where
    pub tie : (k u d : ℕ) → distance es u ≡ some d → d ≤ k → {w : List Pass} → Walk lines r u w → way_length w ≡ d
        → Before (descend lines es k u) w
    unfolding descend way_length
    tie zero u d h n (here e) s = equal
    tie zero u d h n (step {p = q} b m w) s = absurd (omega (arith, long q.line m))
    tie (suc k) u d h n (here e) s = go (descent es u lines) refl
      where
        go : (o : Option Pass) → descent es u lines ≡ o → Before (onward o (λ m. descend lines es k m)) []
        go none x = equal
        go (some p) x =
            let f = found es u lines p x in
            let w = down_true es p f.leads in
            absurd (omega (arith, w.sum, same w.at_start (ap (distance es) f.begins ∙ h), long p.line f.is_line))
    tie (suc k) u d h n (step {p = q} {ps = qs} b m w) s =
        go (descent es u lines) refl (shortest_of_all lines g done r 0 at_root w) (λ dv x n' s'. tie k (stop q) dv x n' w s')
      where
        go : (o : Option Pass) → descent es u lines ≡ o → (dv : ℕ) × (distance es (stop q) ≡ some dv) × (dv ≤ 0 + way_length qs)
            → ((dv : ℕ) → distance es (stop q) ≡ some dv → dv ≤ k → way_length qs ≡ dv → Before (descend lines es k (stop q)) qs)
            → Before (onward o (λ m. descend lines es k m)) (q ∷ qs)
        go none x (dv, y, z) ih = absurd (omega (arith, (at_root_lem u d h x).0, long q.line m))
        go (some p) x (dv, y, z) ih = pick (first_found es u lines p rising long x q m b (down_of es q d dv at_q y (omega (arith, far))))
          where
            at_q : distance es (start q) ≡ some d
            at_q = ap (distance es) b ∙ h

            far : d ≤ dv + q.line.length
            far = balanced lines g q.line (start q) (stop q) d dv m (ends_of q) at_q y

            pick : (p.line.number < q.line.number) ⊎ (p ≡ q) → Before (p ∷ descend lines es k (stop p)) (q ∷ qs)
            pick (inl lt) = lower lt
            pick (inr e) =
                let rest : Before (descend lines es k (stop p)) qs =
                rw e (ih dv y (omega (arith, far, long q.line m)) (omega (arith, far))) in
                alike e rest
