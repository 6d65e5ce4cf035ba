-- The tree's distances are the shortest. Assumes nothing.
use Prim.Native.Nat.{ℕ, ◌+◌, ◌≤◌}
use native.Mathlib.Omega.{arith}
use mathlib.Core.Path.{◌≡◌, refl, sym, ◌∙◌, ap}
use mathlib.Core.Bool.{Bool, true, false}
use mathlib.Core.List.{List, [], ◌∷◌, Memᴰ}
use mathlib.Core.Option.{Option, none, some, some-injective, some-ne-none}
use Rattle.network.specs.Standing.{Line}
use Rattle.network.specs.Tree.{Entry, Tree, distance, score}
use Rattle.network.specs.Path.{Pass, start, stop, end, way_length}
use Rattle.network.specs.Walk.{Walk, here, step, Ends, along, against}
use Rattle.network.proofs.Grown.{score_of_lem, After, new, old, after, ByLine, Grown, empty, by_line, by_root, is_new}

-- the distance of the mark that entered last
abbrev pub last : Tree → ℕ
last [] = 0
last (e ∷ es) = e.dist

pub same : {o : Option ℕ} {a b : ℕ} → o ≡ some a → o ≡ some b → a ≡ b
same p q = some-injective _ _ (sym p ∙ q)

pub never : {A : Type 0} {o : Option ℕ} {a : ℕ} → o ≡ some a → o ≡ none → A
never p q = absurd (some-ne-none _ (sym p ∙ q))

pub turn : {l : Line} {u v : ℕ} → Ends l u v → Ends l v u
turn (along p q) = against q p
turn (against p q) = along q p

-- a mark that is out after an entry was out before it
pub was_out : (e : Entry) (es : Tree) (m : ℕ) → distance (e ∷ es) m ≡ none → distance es m ≡ none
was_out e es m h = go (after e es m)
  where
    go : After e es m → distance es m ≡ none
    go (new p q) = never q h
    go (old p q) = sym q ∙ h

-- at a line with one end in the tree: that end is no farther than what entered last, and what entered last no farther than the line's score
pub frontier : (lines : List Line) {es : Tree} → Grown lines es → (l : Line) (u v d : ℕ) → Memᴰ l lines → Ends l u v
    → distance es u ≡ some d → distance es v ≡ none → (d ≤ last es) × (last es ≤ d + l.length)
unfolding distance
frontier lines empty l u v d m j p q = never p refl
frontier lines (by_line {e = e} {es = es} g b) l u v d m j p q =
    go (after e es u) (frontier lines g l u v d m j) (frontier lines g b.l b.sc.near b.sc.away b.sc.d b.is_line
    b.sc.ends b.sc.is_in b.sc.is_out)
  where
    go : After e es u → (distance es u ≡ some d → distance es v ≡ none → (d ≤ last es) × (last es ≤ d + l.length))
        → (b.sc.d ≤ last es) × (last es ≤ b.sc.d + b.l.length) → (d ≤ e.dist) × (e.dist ≤ d + l.length)
    go (new x y) ih ib = omega (arith, same p y)
    go (old x y) ih ib =
        let q' = was_out e es v q in
        let i = ih (sym y ∙ p) q' in
        omega (arith, i.0, i.1, ib.1, b.sc.sum, b.least l (d + l.length) m (score_of_lem es l u v d j (sym y ∙ p) q'))
frontier lines (by_root {e = e} {es = es} g b) l u v d m j p q = go (after e es u)
  where
    go : After e es u → (d ≤ e.dist) × (e.dist ≤ d + l.length)
    go (new x y) = omega (arith, same p y)
    go (old x y) = never (score_of_lem es l u v d j (sym y ∙ p) (was_out e es v q)) (b.done l m)

-- what enters by a line is not nearer than what entered before it
pub rising : (lines : List Line) {e : Entry} {es : Tree} → Grown lines es → ByLine lines es e → last es ≤ e.dist
rising lines g b =
    let f = frontier lines g b.l b.sc.near b.sc.away b.sc.d b.is_line b.sc.ends b.sc.is_in b.sc.is_out in
    omega (arith, f.1, b.sc.sum)

-- the two ends of a line in the tree are no farther apart than its length
pub balanced : (lines : List Line) {es : Tree} → Grown lines es → (l : Line) (u v du dv : ℕ) → Memᴰ l lines → Ends l u v
    → distance es u ≡ some du → distance es v ≡ some dv → du ≤ dv + l.length
unfolding distance
balanced lines empty l u v du dv m j p q = never p refl
balanced lines (by_line {e = e} {es = es} g b) l u v du dv m j p q = go (after e es u) (after e es v) (balanced lines g l u v du dv m j)
  where
    go : After e es u → After e es v → (distance es u ≡ some du → distance es v ≡ some dv → du ≤ dv + l.length) → du ≤ dv + l.length
    go (new x y) (new x' y') ih = omega (arith, same p y, same q y')
    go (new x y) (old x' y') ih =
        let s = score_of_lem es l v u dv (turn j) (sym y' ∙ q) (ap (distance es) (sym x) ∙ is_new b) in
        omega (arith, same p y, b.least l (dv + l.length) m s)
    go (old x y) (new x' y') ih =
        let f = frontier lines g l u v du m j (sym y ∙ p) (ap (distance es) (sym x') ∙ is_new b) in
        omega (arith, same q y', f.0, rising lines g b)
    go (old x y) (old x' y') ih = ih (sym y ∙ p) (sym y' ∙ q)
balanced lines (by_root {e = e} {es = es} g b) l u v du dv m j p q = go (after e es u) (after e es v) (balanced lines g l u v du dv m j)
  where
    go : After e es u → After e es v → (distance es u ≡ some du → distance es v ≡ some dv → du ≤ dv + l.length) → du ≤ dv + l.length
    go (new x y) (new x' y') ih = omega (arith, same p y, same q y')
    go (new x y) (old x' y') ih = never (score_of_lem es l v u dv (turn j) (sym y' ∙ q) (ap (distance es) (sym x) ∙ b.out)) (b.done l m)
    go (old x y) (new x' y') ih = never (score_of_lem es l u v du j (sym y ∙ p) (ap (distance es) (sym x') ∙ b.out)) (b.done l m)
    go (old x y) (old x' y') ih = ih (sym y ∙ p) (sym y' ∙ q)

-- ---- walks

pub ends_of : (p : Pass) → Ends p.line (start p) (stop p)
ends_of p = go p.forward
  where
    go : (f : Bool) → Ends p.line (end f p.line.from p.line.to) (end f p.line.to p.line.from)
    go true = along refl refl
    go false = against refl refl

-- The least of all: where no line has just one end in the tree, whatever walks to a mark of the tree starts in the tree, no farther than
-- the walk is long
pub shortest_of_all : (lines : List Line) {es : Tree} → Grown lines es → ((k : Line) → Memᴰ k lines → score es k ≡ none)
    → (r dr : ℕ) → distance es r ≡ some dr → {u : ℕ} {w : List Pass} → Walk lines r u w
    → (du : ℕ) × (distance es u ≡ some du) × (du ≤ dr + way_length w)
unfolding way_length
shortest_of_all lines {es = es} g done r dr h (here e) = (dr, ap (distance es) e ∙ h, omega arith)
shortest_of_all lines {es = es} g done r dr h (step {u = u} {p = p} {ps = ps} s m w) =
    go (distance es (start p)) refl (shortest_of_all lines g done r dr h w)
  where
    go : (o : Option ℕ) → distance es (start p) ≡ o → (dv : ℕ) × (distance es (stop p) ≡ some dv) × (dv ≤ dr + way_length ps)
        → (du : ℕ) × (distance es u ≡ some du) × (du ≤ dr + (p.line.length + way_length ps))
    go none e (dv, x, y) = never (score_of_lem es p.line (stop p) (start p) dv (turn (ends_of p)) x e) (done p.line m)
    go (some du) e (dv, x, y) =
        (du, ap (distance es) (sym s) ∙ e, omega (arith, y, balanced lines g p.line (start p) (stop p) du dv m (ends_of p) e x))
