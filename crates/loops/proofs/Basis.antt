-- The loops are a basis: every closed walk is a sum of whole multiples of the loops, in one way only. Assumes nothing.
use Prim.Native.Nat.{ℕ, suc}
use native.Mathlib.Omega.{arith}
use native.Mathlib.Nat.{one-mul}
use mathlib.Core.Path.{◌≡◌, refl, sym, ◌∙◌, ap, ap₂, subst}
use mathlib.Core.Logic.{◌⊎◌, inl, inr}
use mathlib.Core.Bool.{true}
use mathlib.Core.List.Memᴰ
use mathlib.Core.List.{List, [], ◌∷◌, Memᴰ}
use lib.IntN.{ℤ, pos, negsuc, neg_ℤ, ◌+ℤ◌, ◌*ℤ◌, +ℤ_idl, +ℤ_invr, *ℤ-zero, *ℤ-one, one, -ℤ-+ℤ_cancel, +ℤ-neg_ℤ_cancel}
use lib.ListN.{length}
use borrow.Author.Tests.{eq-eqb, ne_eqb}
use Rattle.network.specs.Standing.{Line}
use Rattle.network.specs.Sound.{Sound, Rising}
use Rattle.network.specs.Tree.{tree, tree_lines}
use Rattle.network.specs.Closing.{closing}
use Rattle.network.specs.Walk.{Pass, pass, Walk}
use Rattle.network.proofs.Marks.{grows}
use Rattle.network.proofs.Pairwise.{pairwise_first}
use Rattle.network.proofs.ClosingLines.{tree_line_or_closing_line, closing_line_stands}
use Rattle.network.proofs.Flow.{at, tree_zero, NotTree}
use Rattle.network.proofs.Subgraph.{of_tree_lines}
use Rattle.loops.specs.Loops.{Loop, loops}
use Rattle.loops.specs.AllLoops.{LoopsOf, no_loop, loop_then}
use Rattle.loops.specs.Row.{closing_number}
use Rattle.loops.specs.Passes.{once, passes, SumOf, taken, multiples_of}
unfoldable pub use Rattle.loops.specs.Passes.{combine}
use Rattle.loops.proofs.AllLoops.{loops_are}
use Rattle.loops.proofs.EachLoop.{ToCome, come_next, avoids, closing_lines_to_come, loop_has_closing_line}
use Rattle.loops.proofs.Passes.{at_add, at_mul, at_closed, at_zero}

-- ---- a sum of closed walks is balanced at every mark

-- every loop is a closed walk
abbrev pub AllClosed : List Line → List Loop → Type 0
AllClosed lines ls = (lp : Loop) → Memᴰ lp ls → (r : ℕ) × Walk lines r r lp

-- a sum of multiples of closed walks comes to every mark as often as it leaves it
pub at_combine : (lines : List Line) → Rising lines → (m : ℕ) (ks : List ℤ) (ls : List Loop) → AllClosed lines ls
    → at (combine ks ls) m lines ≡ pos 0
unfolding combine
at_combine lines rs m [] ls c = at_zero m lines
at_combine lines rs m (k ∷ ks) [] c = at_zero m lines
at_combine lines rs m (k ∷ ks) (l ∷ ls) c =
    let w = c l (Memᴰ.head refl) in
    at_add (λ n. k *ℤ passes l n) (combine ks ls) m lines
    ∙ ap₂ (λ (x y : ℤ). x +ℤ y) (at_mul k (passes l) m lines ∙ ap (λ (z : ℤ). k *ℤ z) (at_closed lines rs w.0 m w.1) ∙ *ℤ-zero k)
    (at_combine lines rs m ks ls (λ lp i. c lp (Memᴰ.tail i)))

-- a walk that does not run line n passes it zero times
pub passes_none : (w : List Pass) (n : ℕ) → ((p : Pass) → Memᴰ p w → p.line.number ≡ n → ⊥) → passes w n ≡ pos 0
unfolding passes once
passes_none [] n h = refl
passes_none (p ∷ ps) n h = rw (ne_eqb p.line.number n (h p (Memᴰ.head refl)), passes_none ps n (λ q i. h q (Memᴰ.tail i)))

-- -1 times c is -c
pub minus_one : (c : ℤ) → negsuc 0 *ℤ c ≡ neg_ℤ c
minus_one (pos n) = ap (λ (x : ℕ). neg_ℤ (pos x)) (one-mul n)
minus_one (negsuc n) = ap pos (one-mul (suc n))

-- where the difference is 0 the two are equal
pub diff_zero : (a c : ℤ) → a +ℤ negsuc 0 *ℤ c ≡ pos 0 → a ≡ c
diff_zero a c h =
    sym (-ℤ-+ℤ_cancel a c) ∙ ap (λ (z : ℤ). z +ℤ c) (ap (λ (z : ℤ). a +ℤ z) (sym (minus_one c)) ∙ h) ∙ +ℤ_idl c

-- and the other way
pub zero_diff : (a c : ℤ) → a ≡ c → a +ℤ negsuc 0 *ℤ c ≡ pos 0
zero_diff a c h = ap₂ (λ (x y : ℤ). x +ℤ y) h (minus_one c) ∙ +ℤ_invr c

cancel : (a c z : ℤ) → a +ℤ z ≡ c +ℤ z → a ≡ c
cancel a c z h = sym (+ℤ-neg_ℤ_cancel a z) ∙ ap (λ (x : ℤ). x +ℤ neg_ℤ z) h ∙ +ℤ-neg_ℤ_cancel c z

-- ---- triangles: a loop runs its own closing line once, forward, and no later loop's

-- each loop passes its own closing line once, forward, and no later loop's closing line
pub data Triangular : List Line → List Loop → Type 0 where
  no_more_loops : Triangular [] []
  own_then : {c : Line} {cs : List Line} {lp : Loop} {ls : List Loop} → passes lp c.number ≡ pos 1
      → ((d : Line) → Memᴰ d cs → passes lp d.number ≡ pos 0) → Triangular cs ls → Triangular (c ∷ cs) (lp ∷ ls)

-- the loops are so: a path runs only over lines that are in the subgraph by then
pub triangular : {lines : List Line} {sub : List ℕ} {cs : List Line} {ls : List Loop} → ToCome lines sub cs → LoopsOf lines sub cs ls
    → Triangular cs ls
unfolding passes once
triangular t no_loop = no_more_loops
triangular {lines = lines} t (loop_then {sub = sub} {c = c} {cs = cs} {path = path} x p) = own_then own later (triangular (come_next t) p)
  where
    off : (d : Line) → Memᴰ d (c ∷ cs) → passes path d.number ≡ pos 0
    off d i = passes_none path d.number (avoids lines sub x.is_walk d.number (t.not_yet d i))

    own : passes (pass c true ∷ path) c.number ≡ pos 1
    own = rw (eq-eqb c.number c.number refl, off c (Memᴰ.head refl))

    later : (d : Line) → Memᴰ d cs → passes (pass c true ∷ path) d.number ≡ pos 0
    later d i = rw (ne_eqb c.number d.number (pairwise_first t.differ d i), off d (Memᴰ.tail i))

-- at a later closing line the first loop adds nothing; at its own it adds its multiple
first_adds_nothing : (k : ℤ) (ks : List ℤ) (lp : Loop) (ls : List Loop) (n : ℕ) → passes lp n ≡ pos 0
    → combine (k ∷ ks) (lp ∷ ls) n ≡ combine ks ls n
unfolding combine
first_adds_nothing k ks lp ls n h = rw (h, *ℤ-zero k, +ℤ_idl)

first_adds_itself : (k : ℤ) (ks : List ℤ) (lp : Loop) (ls : List Loop) (n : ℕ) → passes lp n ≡ pos 1
    → combine (k ∷ ks) (lp ∷ ls) n ≡ k +ℤ combine ks ls n
unfolding combine one
first_adds_itself k ks lp ls n h = rw (h, *ℤ-one k)

-- so the multiples can be chosen, the last loop's first, to agree with f over every closing line
pub multiples : (f : ℕ → ℤ) {cs : List Line} {ls : List Loop} → Triangular cs ls
    → (ks : List ℤ) × (length ks ≡ length ls) × ((c : Line) → Memᴰ c cs → f c.number ≡ combine ks ls c.number)
multiples f no_more_loops = ([], refl, λ c m. absurd (Memᴰ.not-nil m))
multiples f (own_then {c = c} {cs = cs} {lp = lp} {ls = ls} own later t) = go (multiples f t)
  where
    go : (ks : List ℤ) × (length ks ≡ length ls) × ((d : Line) → Memᴰ d cs → f d.number ≡ combine ks ls d.number)
        → (ks : List ℤ) × (length ks ≡ suc (length ls)) × ((d : Line) → Memᴰ d (c ∷ cs) → f d.number
        ≡ combine ks (lp ∷ ls) d.number)
    go (ks, n, g) = (k ∷ ks, ap suc n, at_each)
      where
        k : ℤ
        k = f c.number +ℤ neg_ℤ (combine ks ls c.number)

        at_each : (d : Line) → Memᴰ d (c ∷ cs) → f d.number ≡ combine (k ∷ ks) (lp ∷ ls) d.number
        at_each d (Memᴰ.head e) =
            subst (λ (x : Line). f x.number ≡ combine (k ∷ ks) (lp ∷ ls) x.number) (sym e)
            (sym (first_adds_itself k ks lp ls c.number own ∙ -ℤ-+ℤ_cancel (f c.number) (combine ks ls c.number)))
        at_each d (Memᴰ.tail i) = g d i ∙ sym (first_adds_nothing k ks lp ls d.number (later d i))

-- and in one way only
pub multiples_unique : {cs : List Line} {ls : List Loop} → Triangular cs ls → (ks js : List ℤ) → length ks ≡ length ls
    → length js ≡ length ls
    → ((c : Line) → Memᴰ c cs → combine ks ls c.number ≡ combine js ls c.number) → ks ≡ js
multiples_unique no_more_loops [] [] p q h = refl
multiples_unique no_more_loops [] (j ∷ js) p q h = absurd (omega (arith, q))
multiples_unique no_more_loops (k ∷ ks) js p q h = absurd (omega (arith, p))
multiples_unique (own_then own later t) [] js p q h = absurd (omega (arith, p))
multiples_unique (own_then own later t) (k ∷ ks) [] p q h = absurd (omega (arith, q))
multiples_unique (own_then {c = c} {cs = cs} {lp = lp} {ls = ls} own later t) (k ∷ ks) (j ∷ js) p q h =
    go (multiples_unique t ks js (omega (arith, p)) (omega (arith, q)) (λ d i.
    sym (first_adds_nothing k ks lp ls d.number (later d i)) ∙ h d (Memᴰ.tail i)
    ∙ first_adds_nothing j js lp ls d.number (later d i)))
  where
    go : ks ≡ js → ◌≡◌ {A = List ℤ} (k ∷ ks) (j ∷ js)
    go rest = ap₂ ◌∷◌ firsts rest
      where
        firsts : k ≡ j
        firsts = cancel k j (combine ks ls c.number)
            (sym (first_adds_itself k ks lp ls c.number own) ∙ h c (Memᴰ.head refl) ∙ first_adds_itself j js lp ls c.number own
            ∙ ap (λ (x : List ℤ). j +ℤ combine x ls c.number) (sym rest))

-- ---- the theorem

-- ---- the multiples of a walk, worked out from the last loop to the first

-- each loop's closing line is its own
data Closes : List Line → List Loop → Type 0 where
  none_closes : Closes [] []
  closes_then : {c : Line} {cs : List Line} {lp : Loop} {ls : List Loop} → closing_number lp ≡ c.number → Closes cs ls
      → Closes (c ∷ cs) (lp ∷ ls)

closes_each : {lines : List Line} {sub : List ℕ} {cs : List Line} {ls : List Loop} → LoopsOf lines sub cs ls → Closes cs ls
closes_each no_loop = none_closes
closes_each (loop_then x p) = closes_then refl (closes_each p)

multiples_are : (w : List Pass) (lp : Loop) (ls : List Loop)
    → multiples_of w (lp ∷ ls) ≡ taken w lp (multiples_of w ls) ls ∷ multiples_of w ls
unfolding multiples_of
multiples_are w lp ls = refl

-- there is one multiple to each loop
pub one_multiple_each : (w : List Pass) (ls : List Loop) → length (multiples_of w ls) ≡ length ls
unfolding multiples_of
one_multiple_each w [] = refl
one_multiple_each w (lp ∷ ls) = ap suc (one_multiple_each w ls)

-- so the sum of the multiples, the last loop's chosen first, agrees with the walk over every closing line
multiples_agree : (w : List Pass) {cs : List Line} {ls : List Loop} → Triangular cs ls → Closes cs ls → (c : Line) → Memᴰ c cs
    → passes w c.number ≡ combine (multiples_of w ls) ls c.number
multiples_agree w no_more_loops z d m = absurd (Memᴰ.not-nil m)
multiples_agree w (own_then {c = c} {lp = lp} {ls = ls} own later t) (closes_then closes z) d (Memᴰ.head e) =
    let ks = multiples_of w ls in
    let all = passes w c.number in
    let rest = combine ks ls c.number in
    rw (multiples_are w lp ls, e, closes) (sym (first_adds_itself (all +ℤ neg_ℤ rest) ks lp ls c.number own ∙ -ℤ-+ℤ_cancel all rest))
multiples_agree w (own_then {lp = lp} {ls = ls} own later t) (closes_then closes z) d (Memᴰ.tail i) =
    rw (multiples_are w lp ls) (multiples_agree w t z d i
    ∙ sym (first_adds_nothing (taken w lp (multiples_of w ls) ls) (multiples_of w ls) lp ls d.number (later d i)))

module _ (b : ℕ) (lines : List Line) (sound : Sound b lines) where
  loops_triangular : Triangular (closing lines (tree b lines)) (loops b lines)
  loops_triangular = triangular (closing_lines_to_come b lines sound) (loops_are b lines sound)

  -- each loop is a closed walk
  pub all_closed : AllClosed lines (loops b lines)
  all_closed lp i = let k = loop_has_closing_line b lines sound lp i in (k.0.from, k.2.closed)

  -- a closed walk that agrees with a sum of loops over the closing lines agrees with it over every line: the rest is balanced and runs in
  -- the tree only
  agrees : (r : ℕ) {w : List Pass} → Walk lines r r w → (ks : List ℤ)
      → ((c : Line) → Memᴰ c (closing lines (tree b lines)) → passes w c.number ≡ combine ks (loops b lines) c.number)
      → (l : Line) → Memᴰ l lines → passes w l.number ≡ combine ks (loops b lines) l.number
  agrees r {w = w} x ks h l m =
      diff_zero (passes w l.number) (combine ks (loops b lines) l.number)
      (tree_zero lines sound.rising rest balanced (grows b lines sound.placed) off l m)
    where
      rest : ℕ → ℤ
      rest n = passes w n +ℤ negsuc 0 *ℤ combine ks (loops b lines) n

      balanced : (m : ℕ) → at rest m lines ≡ pos 0
      balanced m =
          at_add (passes w) (λ n. negsuc 0 *ℤ combine ks (loops b lines) n) m lines
          ∙ ap₂ (λ (a c : ℤ). a +ℤ c) (at_closed lines sound.rising r m x)
          (at_mul (negsuc 0) (combine ks (loops b lines)) m lines
          ∙ ap (λ (z : ℤ). negsuc 0 *ℤ z) (at_combine lines sound.rising m ks (loops b lines) all_closed))

      off : (l : Line) → Memᴰ l lines → NotTree (tree b lines) l → rest l.number ≡ pos 0
      off l m n = hit (tree_line_or_closing_line b lines sound l m)
        where
          hit : Memᴰ l (tree_lines (tree b lines)) ⊎ Memᴰ l (closing lines (tree b lines)) → rest l.number ≡ pos 0
          hit (inl i) = let t = of_tree_lines (tree b lines) l i in absurd (n t.0 t.1 t.2)
          hit (inr c) = zero_diff (passes w l.number) (combine ks (loops b lines) l.number) (h l c)

  -- for every closed walk along standing lines there are whole numbers, one to each loop, such that it is the sum of these multiples of
  -- the loops; and no others
  pub basis : (r : ℕ) {w : List Pass} → Walk lines r r w
      → (ks : List ℤ) × SumOf lines (loops b lines) w ks × ((js : List ℤ) → SumOf lines (loops b lines) w js → js ≡ ks)
  basis r {w = w} x = go (multiples (passes w) loops_triangular)
    where
      go : (ks : List ℤ) × (length ks ≡ length (loops b lines))
          × ((c : Line) → Memᴰ c (closing lines (tree b lines)) → passes w c.number ≡ combine ks (loops b lines) c.number)
          → (ks : List ℤ) × SumOf lines (loops b lines) w ks × ((js : List ℤ) → SumOf lines (loops b lines) w js → js ≡ ks)
      go (ks, n, h) = (
        ks,
        record { one_each = n; passes_are = agrees r x ks h },
        λ js s. multiples_unique loops_triangular js ks s.one_each n
            (λ c i. sym (s.passes_are c (closing_line_stands b lines sound c i)) ∙ h c i),
      )

  -- those multiples are worked out: a closed walk along standing lines is the sum of its multiples of the loops
  pub sum_of_its_multiples : (r : ℕ) {w : List Pass} → Walk lines r r w → SumOf lines (loops b lines) w (multiples_of w (loops b lines))
  sum_of_its_multiples r {w = w} x = record {
    one_each = one_multiple_each w (loops b lines);
    passes_are = agrees r x (multiples_of w (loops b lines)) (multiples_agree w loops_triangular (closes_each (loops_are b lines sound)));
  }

  -- and of no others, whatever the walk
  pub only_multiples : {w : List Pass} (ks js : List ℤ) → SumOf lines (loops b lines) w ks → SumOf lines (loops b lines) w js → ks ≡ js
  only_multiples ks js s z = multiples_unique loops_triangular ks js s.one_each z.one_each (λ c i.
      let stands = closing_line_stands b lines sound c i in sym (s.passes_are c stands) ∙ z.passes_are c stands)
