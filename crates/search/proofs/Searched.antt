-- A search from one mark goes as the tree with that mark as its only root grows. Assumes nothing.
use Prim.Native.Nat.{ℕ, zero, suc, ◌+◌, ◌*◌, ◌-◌, ◌%◌, ◌≤◌, ◌<◌}
use native.Mathlib.Omega.{arith}
use native.Mathlib.Numerals.{add-one}
use mathlib.Core.Path.{◌≡◌, refl, sym, ◌∙◌, ap, subst}
use mathlib.Core.Logic.{inl}
use mathlib.Core.Bool.{Bool, true, false}
use mathlib.Core.List.{List, [], ◌∷◌, Memᴰ}
use mathlib.Core.Option.{Option, none, some}
use lib.ListN.{length, get_or, set}
use lib.Seq.{get_or-set_same, get_or-set_other}
use Rattle.book.specs.Limits.{most_length}
use Rattle.network.specs.Standing.{Line}
use Rattle.network.specs.Tree.{Entry, entry, Tree, Candidate, candidate, distance, score, far, lowest, first_out, next, step, grow}
use Rattle.network.proofs.Grown.{scored, After, new, old, after, keeps, lowest_some, ByLine, Grown, grown, Stepped, line, root, stop}
use Rattle.network.proofs.Grown.{stepped}
use Rattle.network.proofs.Shortest.{same, never, turn, frontier, rising}
use Rattle.nearest.specs.Heap.{Changed, leaf_limit}
use Rattle.nearest.specs.Heap as hp
use Rattle.nearest.proofs.Tournament.{cleared}
use Rattle.chains.specs.Chains.{Half, flip, mark_of, AllSound, Given, halves}
use Rattle.search.specs.Front.{keys, Stage, Relaxed, Key, Keyed, Front, Nothing, Rest, Begun, Two, top, lead, Turned, more, found}
use Rattle.search.specs.Front.{nothing, limit, Outcome, reached, cut_off}
use Rattle.search.specs.Front as f
use Rattle.chains.proofs.Halves.{half_ends, half_flip, half_low_end, mark_of_lem}
use Rattle.search.proofs.Enter.{lowest_gone, far_half, step_some, Pop, pop_none, pop_some, came_new, keyed_enter, front_enter}
use Rattle.search.proofs.Enter.{front_relaxed}

-- ---- distances stay small

pub near : (n : ℕ) (sub : List Line) → AllSound n sub → (roots : List ℕ) (k m d : ℕ) → distance (grow sub roots k) m ≡ some d
    → d ≤ most_length * k
unfolding grow distance
near n sub sound roots zero m d h = never h refl
near n sub sound roots (suc k) m d h = go h (stepped sub roots (grow sub roots k)) (near n sub sound roots k)
  where
    go : {es : Tree} → distance es m ≡ some d → Stepped sub roots (grow sub roots k) es
        → ((m d : ℕ) → distance (grow sub roots k) m ≡ some d → d ≤ most_length * k) → d ≤ most_length * suc k
    go h (line {e = e} x) ih = hit (after e (grow sub roots k) m)
      where
        hit : After e (grow sub roots k) m → d ≤ most_length * suc k
        hit (new p q) = omega (arith, same q h, x.sc.sum, ih x.sc.near x.sc.d x.sc.is_in, (sound x.l x.is_line).short)
        hit (old p q) = omega (arith, ih m d (sym q ∙ h))
    go h (root {e = e} x i) ih = hit (after e (grow sub roots k) m)
      where
        hit : After e (grow sub roots k) m → d ≤ most_length * suc k
        hit (new p q) = omega (arith, same q h, x.zero_at)
        hit (old p q) = omega (arith, ih m d (sym q ∙ h))
    go h (stop a b) ih = omega (arith, ih m d h)

-- ---- the mark that enters by a line is the farthest so far of its piece

pub newest_line : (n : ℕ) (sub : List Line) → AllSound n sub → (roots : List ℕ) (k : ℕ) (e : Entry) → ByLine sub (grow sub roots k) e
    → (l : Line) (x h dx : ℕ) → Memᴰ l sub → Half l e.mark x h → distance (e ∷ grow sub roots k) x ≡ some dx
    → dx < e.dist + l.length
newest_line n sub sound roots k e b l x h dx i j a = go (after e (grow sub roots k) x)
  where
    g : Grown sub (grow sub roots k)
    g = grown sub roots k

    go : After e (grow sub roots k) x → dx < e.dist + l.length
    go (new p q) = omega (arith, same q a, (sound l i).long)
    go (old p q) =
        let f = frontier sub g l x e.mark dx i (turn (half_ends j)) (sym q ∙ a)
        (ap (distance (grow sub roots k)) b.its_mark ∙ b.sc.is_out) in
        omega (arith, f.0, rising sub g b, (sound l i).long)

module _ (sub : List Line) (n : ℕ) (head next ends : List ℕ) (gv : Given sub n head next ends) (r to : ℕ) where
  abbrev pub at : ℕ → Tree
  at k = grow sub (r ∷ []) k

  pub record Searching (k : ℕ) (best seg : List ℕ) : Type 0 where
    pub front : Front sub n (at k) best seg ends Nothing
    pub root_in : distance (at k) r ≡ some 0
    pub out : distance (at k) to ≡ none

  -- ---- the first mark

  pub at_one : at 1 ≡ entry r 0 none ∷ []
  unfolding grow step first_out score distance
  at_one = ap (λ (o : Option Candidate). Rattle.network.specs.Tree.next [] o (some r)) (lowest_gone [] sub (λ k t i e. never e refl))

  pub search_start : (best seg best' seg' : List ℕ) → n ≤ leaf_limit → r < n → n ≤ length best → 2 * n ≤ length seg
      → ((i : ℕ) → i < n → get_or best i 0 ≡ hp.far) → ((i : ℕ) → i < 2 * n → get_or seg i 0 ≡ hp.far) → (r ≡ to → ⊥)
      → Relaxed n next ends (keys (set best r 0) seg) (keys best' seg') (get_or head r 0) 0 → Searching 1 best' seg'
  unfolding distance
  search_start best seg best' seg' few ok lb ls fb fs ne rx =
      made (subst (λ (t : Tree). Front sub n t best' seg' ends Nothing × (distance t r ≡ some 0) × (distance t to ≡ none)) (sym at_one)
      (fr, ri, ou))
    where
      made : Front sub n (at 1) best' seg' ends Nothing × (distance (at 1) r ≡ some 0) × (distance (at 1) to ≡ none)
          → Searching 1 best' seg'
      made (a, b, c) = record { front = a; root_in = b; out = c }

      e : Entry
      e = entry r 0 none

      ri : distance (entry r 0 none ∷ []) r ≡ some 0
      ri = hit (after (entry r 0 none) [] r)
        where
          hit : After (entry r 0 none) [] r → distance (entry r 0 none ∷ []) r ≡ some 0
          hit (new p q) = q
          hit (old p q) = absurd (p refl)

      ou : distance (entry r 0 none ∷ []) to ≡ none
      ou = hit (after (entry r 0 none) [] to)
        where
          hit : After (entry r 0 none) [] to → distance (entry r 0 none ∷ []) to ≡ none
          hit (new p q) = absurd (ne p)
          hit (old p q) = q

      fr₀ : Front sub n [] best seg ends Nothing
      fr₀ = record {
        inside = λ m d h. never h refl;
        keyed = λ m d h. never h refl;
        closed = λ m d a h. never h refl;
        opened = λ m a h. fs (n + m) (omega arith) ∙ sym (fb m a);
        offered = λ m a h. inl (fb m a);
        under = λ l u v h d i j a b. never a refl;
      }

      key : Key (entry r 0 none ∷ []) (set best r 0) ends r 0
      key = record {
        h = 0;
        low = omega arith;
        key = get_or-set_same best r 0 0 (omega arith);
        by = f.root
            (came_new (entry r 0 none) [] r refl) refl refl;
      }

      fr₁ : Front sub n (entry r 0 none ∷ []) (set best r 0) seg ends (Rest next ends r (get_or head r 0))
      fr₁ =
          front_enter sub n head next ends gv [] (entry r 0 none) best seg (set best r 0) seg refl ok fr₀ key
          (λ m d. get_or-set_other best r m 0 0 d)
          (record { heap = cleared seg n few (omega arith) ls fs; here = fs (n + r) (omega arith); others = λ j a d. refl })

      newest : (l : Line) (x h dx : ℕ) → Memᴰ l sub → Half l r x h → distance (entry r 0 none ∷ []) x ≡ some dx → dx < 0 + l.length
      newest l x h dx i j a = hit (after (entry r 0 none) [] x)
        where
          hit : After (entry r 0 none) [] x → dx < 0 + l.length
          hit (new p q) = omega (arith, same q a, (gv.sound l i).long)
          hit (old p q) = never (sym q ∙ a) refl

      fr : Front sub n (entry r 0 none ∷ []) best' seg' ends Nothing
      fr = front_relaxed sub n head next ends gv (entry r 0 none ∷ []) r 0 (set best r 0) seg best' seg' ok ri gv.sound newest rx fr₁

  -- ---- one more mark

  module _ (k : ℕ) (best seg : List ℕ) (st : Stage n best seg) (sr : Searching k best seg) (few : k < leaf_limit) where
    small : (m d : ℕ) → distance (at k) m ≡ some d → d ≤ 100000000
    small m d h = omega (arith, near n sub gv.sound (r ∷ []) k m d h)

    -- nothing is left to enter: the tree stays as it is
    stays : lowest (at k) sub ≡ none → (j m : ℕ) → m ≡ j + k → at m ≡ at k
    unfolding grow step first_out
    stays h zero m q = let p : m ≡ k = omega arith in ap at p
    stays h (suc j) m q = let p : m ≡ suc (j + k) = omega arith in ap at p ∙ ap (step sub (r ∷ [])) (stays h j (j + k) refl) ∙ same_step
      where
        same_step : step sub (r ∷ []) (at k) ≡ at k
        same_step = rw (h, sr.root_in)

    pub search_none : {b : Bool} → limit ≤ get_or seg 1 0 → k < n → b ≡ false → Outcome sub n best ends r to b
    search_none big lt e =
        let p = pop_none sub n (at k) best seg ends gv.rising gv.sound (mark_of_lem gv) st.heap sr.front small big in
        let q : n - 1 ≡ (n - 1 - k) + k = omega arith in
        cut_off e (ap (λ (t : Tree). distance t to) (stays p (n - 1 - k) (n - 1) q) ∙ sr.out)

    module _ (lt : get_or seg 1 0 < limit) where
      pop : Pop sub n (at k) best ends (get_or seg 1 0)
      pop = pop_some sub n (at k) best seg ends gv.rising gv.sound (mark_of_lem gv) st.heap sr.front small lt

      abbrev mk : ℕ
      mk = mark_of ends (get_or seg 1 0 % halves)

      e : Entry
      e = entry (mark_of ends (get_or seg 1 0 % halves)) (pop.d + pop.l.length) (some pop.l)

      is_far : far (at k) pop.l ≡ mk
      is_far = far_half (at k) pop.l pop.u mk (get_or seg 1 0 % halves) pop.d pop.half pop.is_in pop.is_out

      at_next : at (suc k) ≡ entry mk (pop.d + pop.l.length) (some pop.l) ∷ at k
      unfolding grow
      at_next = step_some sub (r ∷ []) (at k) (candidate (pop.d + pop.l.length) pop.l) pop.is_lowest
          ∙ ap (λ (z : ℕ). entry z (pop.d + pop.l.length) (some pop.l) ∷ at k) is_far

      by : ByLine sub (at k) (entry mk (pop.d + pop.l.length) (some pop.l))
      by =
          let w = lowest_some (at k) sub (candidate (pop.d + pop.l.length) pop.l) pop.is_lowest in
          let sc = scored (at k) pop.l (pop.d + pop.l.length) w.its_score in
          record { l = pop.l; its = refl; is_line = w.is_line; sc = sc; its_mark = sym is_far ∙ sc.is_far; least = w.least }

      key : Key (entry mk (pop.d + pop.l.length) (some pop.l) ∷ at k) best ends mk (pop.d + pop.l.length)
      key = record {
        h = get_or seg 1 0 % halves;
        low = omega arith;
        key = pop.known ∙ pop.sum;
        by =
            f.line pop.l pop.u pop.d (came_new (entry mk (pop.d + pop.l.length) (some pop.l)) (at k) mk refl) pop.half
            (omega arith)
            (mark_of_lem gv pop.l mk pop.u (flip (get_or seg 1 0 % halves)) pop.is_line (half_flip pop.half))
            (keeps (entry mk (pop.d + pop.l.length) (some pop.l)) (at k) pop.u pop.d pop.is_out pop.is_in) refl;
      }

      there : distance (entry mk (pop.d + pop.l.length) (some pop.l) ∷ at k) mk ≡ some (pop.d + pop.l.length)
      there = hit (after (entry mk (pop.d + pop.l.length) (some pop.l)) (at k) mk)
        where
          hit : After (entry mk (pop.d + pop.l.length) (some pop.l)) (at k) mk
              → distance (entry mk (pop.d + pop.l.length) (some pop.l) ∷ at k) mk ≡ some (pop.d + pop.l.length)
          hit (new p q) = q
          hit (old p q) = absurd (p refl)

      pub search_found : {b : Bool} → k + 1 < n → mk ≡ to → b ≡ true → Outcome sub n best ends r to b
      search_found few t b = reached b (suc k) (pop.d + pop.l.length) (omega arith)
          (subst (λ (z : Tree). Keyed z best ends) (sym at_next)
          (keyed_enter (at k) (entry mk (pop.d + pop.l.length) (some pop.l)) best best ends pop.is_out sr.front.keyed key
          (λ m d. refl)))
          (ap (λ (z : Tree). distance z to) at_next ∙ ap (distance (entry mk (pop.d + pop.l.length) (some pop.l) ∷ at k)) (sym t)
          ∙ there)

      module _ (seg₁ : List ℕ) (ch : Changed seg seg₁ n mk hp.far) where
        fr₁ : Front sub n (entry mk (pop.d + pop.l.length) (some pop.l) ∷ at k) best seg₁ ends (Rest next ends mk (get_or head mk 0))
        fr₁ = front_enter sub n head next ends gv (at k) (entry mk (pop.d + pop.l.length) (some pop.l)) best seg best seg₁
            pop.is_out pop.small sr.front key (λ m d. refl) ch

        pub search_next : (best' seg' : List ℕ) → (mk ≡ to → ⊥)
            → Relaxed n next ends (keys best seg₁) (keys best' seg') (get_or head mk 0) (get_or seg 1 0 - get_or seg 1 0 % halves)
            → Searching (k + 1) best' seg'
        search_next best' seg' ne rx = made
            (subst (λ (z : Tree). Front sub n z best' seg' ends Nothing × (distance z r ≡ some 0) × (distance z to ≡ none))
            (sym (ap at (add-one k) ∙ at_next)) (fr, ri, ou))
          where
            made : Front sub n (at (k + 1)) best' seg' ends Nothing × (distance (at (k + 1)) r ≡ some 0) ×
                (distance (at (k + 1)) to ≡ none) → Searching (k + 1) best' seg'
            made (a, b, c) = record { front = a; root_in = b; out = c }

            ri : distance (entry mk (pop.d + pop.l.length) (some pop.l) ∷ at k) r ≡ some 0
            ri = keeps (entry mk (pop.d + pop.l.length) (some pop.l)) (at k) r 0 pop.is_out sr.root_in

            ou : distance (entry mk (pop.d + pop.l.length) (some pop.l) ∷ at k) to ≡ none
            ou = hit (after (entry mk (pop.d + pop.l.length) (some pop.l)) (at k) to)
              where
                hit : After (entry mk (pop.d + pop.l.length) (some pop.l)) (at k) to
                    → distance (entry mk (pop.d + pop.l.length) (some pop.l) ∷ at k) to ≡ none
                hit (new p q) = absurd (ne p)
                hit (old p q) = q ∙ sr.out

            base : get_or seg 1 0 - get_or seg 1 0 % halves ≡ (pop.d + pop.l.length) * halves
            base = omega (arith, pop.sum)

            fr : Front sub n (entry mk (pop.d + pop.l.length) (some pop.l) ∷ at k) best' seg' ends Nothing
            fr =
                front_relaxed sub n head next ends gv (entry mk (pop.d + pop.l.length) (some pop.l) ∷ at k) mk
                (pop.d + pop.l.length)
                best seg₁ best' seg' pop.small there gv.sound
                (newest_line n sub gv.sound (r ∷ []) k (entry mk (pop.d + pop.l.length) (some pop.l)) by)
                (subst (λ (z : ℕ). Relaxed n next ends (keys best seg₁) (keys best' seg') (get_or head mk 0) z) base rx) fr₁

  pub search_end : (k : ℕ) (best seg : List ℕ) {b : Bool} → Searching k best seg → k ≡ n - 1 → b ≡ false → Outcome sub n best ends r to b
  search_end k best seg sr e q = cut_off q (ap (λ (z : ℕ). distance (at z) to) (sym e) ∙ sr.out)

  -- ---- by what `begin` and `turn` say

  pub begun_searching : (best' seg' : List ℕ) → Two n r to → Begun n head next ends best' seg' r → Searching 1 best' seg'
  begun_searching best' seg' two b =
      search_start b.best b.seg best' seg' b.room.few two.r_ok b.room.bests b.room.segs b.bests b.segs
      two.apart b.offered

  module _ (k : ℕ) (best seg best' seg' : List ℕ) (a : ℕ) (st : Stage n best seg) (lt : k < leaf_limit) (sr : Searching k best seg) where
    lead_low : top seg < limit → 0 < lead ends seg
    lead_low l = let p = pop k best seg st sr lt l in half_low_end (gv.sound p.l p.is_line) p.half

    pub turned_more : Turned n head next ends (keys best seg) (keys best' seg') to a → (a ≡ 0 → ⊥) → (a ≡ to → ⊥)
        → Searching (k + 1) best' seg'
    turned_more (more z l seg₁ ch ne rx) e t = search_next k best seg st sr lt l seg₁ ch best' seg' ne rx
    turned_more (found z l q p p') e t = absurd (t (z ∙ q))
    turned_more (nothing z l q q') e t = absurd (e z)

    pub turned_none : Turned n head next ends (keys best seg) (keys best' seg') to a → a ≡ 0 → k + 1 < n
        → Outcome sub n best' ends r to false
    turned_none (more z l seg₁ ch ne rx) e w = absurd (omega (arith, lead_low l))
    turned_none (found z l q p p') e w = absurd (omega (arith, lead_low l))
    turned_none (nothing z l q q') e w =
        subst (λ (x : List ℕ). Outcome sub n x ends r to false) (sym q) (search_none k best seg st sr lt l (omega arith) refl)

    pub turned_found : Turned n head next ends (keys best seg) (keys best' seg') to a → (a ≡ 0 → ⊥) → a ≡ to → k + 1 < n
        → Outcome sub n best' ends r to true
    turned_found (more z l seg₁ ch ne rx) e t w = absurd (ne (sym z ∙ t))
    turned_found (found z l q p p') e t w =
        subst (λ (x : List ℕ). Outcome sub n x ends r to true) (sym p) (search_found k best seg st sr lt l w q refl)
    turned_found (nothing z l q q') e t w = absurd (e z)

-- the stage stands after any turn
pub turned_any : (n : ℕ) (head next ends best seg best' seg' : List ℕ) (to a : ℕ) → Stage n best seg
    → Turned n head next ends (keys best seg) (keys best' seg') to a → Stage n best' seg'
turned_any n head next ends best seg best' seg' to a st (more z l seg₁ ch ne rx) = rx.stage
turned_any n head next ends best seg best' seg' to a st (found z l t q q') =
    subst (λ (x : List ℕ). Stage n x seg') (sym q) (subst (λ (y : List ℕ). Stage n best y) (sym q') st)
turned_any n head next ends best seg best' seg' to a st (nothing z l q q') =
    subst (λ (x : List ℕ). Stage n x seg') (sym q) (subst (λ (y : List ℕ). Stage n best y) (sym q') st)
