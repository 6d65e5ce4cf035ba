-- One loop's turn after the other. Assumes nothing.
use Prim.Native.Nat.{ℕ, suc, ◌+◌, ◌*◌, ◌-◌, ◌≤◌, ◌<◌}
use native.Mathlib.Omega.{arith}
use native.Mathlib.Numerals.{add-one}
use mathlib.Core.Path.{◌≡◌, refl, sym, ◌∙◌, ap, subst}
use mathlib.Core.Logic.{◌⊎◌, inl, inr}
use mathlib.Core.Bool.{true, false}
use mathlib.Core.List.{List, [], ◌∷◌, ◌++◌, Memᴰ, append_assoc, append-nil}
use lib.ListN.{length, get_or, set, length-set, length-append}
use lib.Seq.{sets, get_or-set_same, get_or-set_other}
use Rattle.network.specs.Standing.{Line}
use Rattle.network.specs.Tree.{tree, tree_lines}
use Rattle.network.specs.Closing.{closing}
use Rattle.network.specs.Path.{Pass, pass, shortest}
use Rattle.network.specs.Subgraph.{is_in, only, numbers}
use Rattle.network.proofs.Count.{unique}
use Rattle.network.proofs.Descent.{clash}
use Rattle.network.specs.Sound.{Placed, Sound}
use Rattle.loops.specs.Loops.{Loop, added, loops_from, loops}
use Rattle.network.proofs.Subgraph.{in_only, of_only, rising_only}
use Rattle.network.proofs.Pairwise.{pairwise_rest}
use Rattle.loops.proofs.EachLoop.{ToCome, come_next, closing_lines_to_come}
use Rattle.chains.specs.Chains.{mark_of, Bounded, Drawn, Given, number_limit}
use Rattle.chains.specs.Link.{RoomChains, Fits, Joined, Wider}
use Rattle.chains.specs.Listed.{Listed}
use Rattle.chains.proofs.Halves.{line_from, line_to}
use Rattle.chains.proofs.Joining.{bounded_fits}
use Rattle.search.specs.Front.{Two, Held, Pathed, Written}
use Rattle.subgraph.specs.Drawn.{TreeDrawn}
use Rattle.subgraph.specs.LoopTurn.{Taking, Takes, Turning, turning, Took, Reached, Queue, empty, next_is, Going}
use Rattle.subgraph.proofs.Only.{in_first, in_more, in_cases}
use Rattle.subgraph.proofs.Laying.{line_joins}

-- ---- a line more

wider_only : (lines : List Line) (sub : List ℕ) (c : Line) → ((k : Line) → Memᴰ k lines → k.number ≡ c.number → k ≡ c)
    → Memᴰ c lines → Wider (only sub lines) (only (c.number ∷ sub) lines) c
wider_only lines sub c one i = record {
  mine = in_only (c.number ∷ sub) lines c i (in_first c.number c.number sub refl);
  keeps = λ k m. let w = of_only sub lines k m in in_only (c.number ∷ sub) lines k w.0 (in_more k.number c.number sub w.1);
  only = λ k m. let w = of_only (c.number ∷ sub) lines k m in pick k w.0 (in_cases k.number c.number sub w.1);
}
  where
    pick : (k : Line) → Memᴰ k lines → (c.number ≡ k.number) ⊎ (is_in k.number sub ≡ true)
        → (k ≡ c) ⊎ Memᴰ k (only sub lines)
    pick k m (inl e) = inl (one k m (sym e))
    pick k m (inr h) = inr (in_only sub lines k m h)

added_one : (c : ℕ) (p : List Pass) (sub : List ℕ) → length p ≡ 1 → added c p sub ≡ sub
added_one c [] sub e = absurd (omega arith)
added_one c (x ∷ []) sub e = refl
added_one c (x ∷ y ∷ p) sub e = absurd (omega arith)

added_more : (c : ℕ) (p : List Pass) (sub : List ℕ) → (length p ≡ 1 → ⊥) → added c p sub ≡ c ∷ sub
added_more c [] sub e = refl
added_more c (x ∷ []) sub e = absurd (e refl)
added_more c (x ∷ y ∷ p) sub e = refl

-- ---- the subgraph is what a search asks for

module _ {n q number : ℕ} {ends head next : List ℕ} (lines : List Line) (sub : List ℕ) (c : Line)
    (tk : Taking lines sub c n q number ends head next) where
  part : (l : Line) → Memᴰ l (only sub lines) → Memᴰ l lines
  part l i = (of_only sub lines l i).0

  given : Given (only sub lines) n head next ends
  given = record {
    rising = rising_only sub lines tk.listed.rising;
    sound = λ l i. tk.listed.sound l (part l i);
    few = tk.listed.few;
    told = λ l u v h i. tk.listed.told l u v h (part l i);
    chains = tk.drawn.chains;
  }

  held : Bounded n ends → Held n head next ends
  held b = record { bounded = b; heads = tk.drawn.heads; sub = only sub lines; given = given }

  from_is : mark_of ends (number * 2 + 1) ≡ c.from
  from_is = ap (λ (j : ℕ). mark_of ends (j * 2 + 1)) (sym tk.its) ∙ line_from tk.listed c tk.is_line

  to_is : mark_of ends (number * 2) ≡ c.to
  to_is = ap (λ (j : ℕ). mark_of ends (j * 2)) (sym tk.its) ∙ line_to tk.listed c tk.is_line

  two : Two n (mark_of ends (number * 2 + 1)) (mark_of ends (number * 2))
  two = let s = tk.listed.sound c tk.is_line in record {
    r_ok = rw from_is s.from_high;
    to_ok = rw to_is s.to_high;
    apart = λ e. s.apart (sym from_is ∙ e ∙ to_is);
  }

  room : RoomChains n head next
  room = record {
    heads = tk.drawn.heads.heads;
    nexts = (tk.drawn.heads.chained c.from
        (tk.listed.sound c tk.is_line).from_high).nexts;
  }

  -- no line of the subgraph has its number
  is_new : (k : Line) → Memᴰ k (only sub lines) → k.number ≡ c.number → ⊥
  is_new k i e = clash (of_only sub lines k i).1 (ap (λ (j : ℕ). is_in j sub) e ∙ tk.not_yet)

  module _ {out out' : List ℕ} {count : ℕ} (pt : Pathed n head next ends out out' (mark_of ends (number * 2 + 1))
      (mark_of ends (number * 2)) count) where
    abbrev path : List Pass
    path = shortest (n - 1) (only sub lines) c.to c.from

    written : Written n (shortest (n - 1) (only sub lines) c.to c.from) out out' count
    written = subst (λ (u : ℕ). Written n (shortest (n - 1) (only sub lines) u c.from) out out' count) to_is
        (subst (λ (r : ℕ). Written n (shortest (n - 1) (only sub lines) (mark_of ends (number * 2)) r) out out' count) from_is
        (pt (only sub lines) given))

    -- a path of one line
    pub took_same : count ≡ 1 → Took lines sub c n (turning head next out) (turning head next out') count
    took_same e = record {
      written = written;
      drawn =
          subst (λ (s : List ℕ). Drawn (only s lines) n head next) (sym (added_one c.number path sub (sym written.count ∙ e)))
          tk.drawn;
    }

    pub took_more : {head' next' : List ℕ} → (count ≡ 1 → ⊥) → Joined ends head next head' next' number
        → Took lines sub c n (turning head next out) (turning head' next' out') count
    took_more {head' = head'} {next' = next'} e jn = record {
      written = written;
      drawn =
          subst (λ (s : List ℕ). Drawn (only s lines) n head' next') (sym (added_more c.number path sub (λ z. e (written.count ∙ z))))
          (line_joins lines tk.listed c tk.is_line (only sub lines) (only (c.number ∷ sub) lines) part is_new
          (wider_only lines sub c (λ k i x. unique lines tk.listed.rising k c i tk.is_line x) tk.is_line) room
          (subst (Joined ends head next head' next') (sym tk.its) jn) tk.drawn);
    }

module _ {n number : ℕ} {ends head next best seg out : List ℕ} (tk : Takes n number ends head next best seg out) where
  pub takes_held : Held n head next ends
  takes_held = held tk.lines tk.sub tk.c tk.taking tk.bounded

  pub takes_two : Two n (mark_of ends (number * 2 + 1)) (mark_of ends (number * 2))
  takes_two = two tk.lines tk.sub tk.c tk.taking

  pub takes_number : number < number_limit
  takes_number = omega (arith, tk.taking.its, (tk.taking.listed.sound tk.c tk.taking.is_line).number)

  pub takes_fits : Fits n ends number
  takes_fits = bounded_fits tk.bounded number takes_number

  pub takes_room : RoomChains n head next
  takes_room = room tk.lines tk.sub tk.c tk.taking

-- ---- loop by loop

pub reached_start : (b : ℕ) (lines : List Line) → ToCome lines (numbers (tree_lines (tree b lines))) (closing lines (tree b lines))
    → Reached b lines [] (closing lines (tree b lines)) (numbers (tree_lines (tree b lines)))
unfolding loops
reached_start b lines t = record { all = refl; lines_left = t.stand; differ = t.differ; not_yet = t.not_yet }

-- the others are still to come, whether or not the first is added
come_added : {lines : List Line} {sub : List ℕ} {c : Line} {cs : List Line} (p : List Pass) → ToCome lines sub (c ∷ cs)
    → ToCome lines (added c.number p sub) cs
come_added [] t = come_next t
come_added (x ∷ []) t = record {
  stand = λ k i. t.stand k (mathlib.Core.List.Memᴰ.tail i);
  differ = pairwise_rest t.differ;
  not_yet = λ k i. t.not_yet k (mathlib.Core.List.Memᴰ.tail i);
}
come_added (x ∷ y ∷ p) t = come_next t

pub reached_next : (b : ℕ) (lines : List Line) (done : List Loop) (c : Line) (rest : List Line) (sub : List ℕ)
    → Reached b lines done (c ∷ rest) sub
    → Reached b lines (done ++ ((pass c true ∷ shortest b (only sub lines) c.to c.from) ∷ [])) rest
    (added c.number (shortest b (only sub lines) c.to c.from) sub)
unfolding loops_from
reached_next b lines done c rest sub r =
    let path = shortest b (only sub lines) c.to c.from in
    let t = come_added {lines = lines} {sub = sub} path (record { stand = r.lines_left; differ = r.differ; not_yet = r.not_yet }) in
    record {
      all = r.all ∙ sym (append_assoc done ((pass c true ∷ path) ∷ []) (loops_from b lines rest (added c.number path sub)));
      lines_left = t.stand;
      differ = t.differ;
      not_yet = t.not_yet;
    }

-- ---- the closing lines that are left stand in the array

before_sets : (l : List ℕ) (i : ℕ) (vs : List ℕ) (j : ℕ) → j < i → get_or (sets l i vs) j 0 ≡ get_or l j 0
before_sets l i [] j h = refl
before_sets l i (v ∷ vs) j h = before_sets (set l i v) (suc i) vs j (omega arith) ∙ get_or-set_other l i j v 0 (λ e. omega arith)

queue_from : (l : List ℕ) (i : ℕ) (cs : List Line) → i + length cs ≤ length l → Queue (sets l i (numbers cs)) i cs
queue_from l i [] h = empty
queue_from l i (c ∷ cs) h =
    next_is (before_sets (set l i c.number) (suc i) (numbers cs) i (omega arith) ∙ get_or-set_same l i c.number 0 (omega arith))
    (queue_from (set l i c.number) (suc i) cs (simp length-set (omega arith)))

pub queue_start : (out out' : List ℕ) (cs : List Line) → length cs ≤ length out → out' ≡ sets out 0 (numbers cs) → Queue out' 0 cs
queue_start out out' cs h e = subst (λ (z : List ℕ). Queue z 0 cs) (sym e) (queue_from out 0 cs (omega arith))

-- ---- what a driver goes by

module _ (n : ℕ) (lines : List Line) (close : List ℕ) where
  -- before the first loop
  pub going_start : (q r : ℕ) (ends head next : List ℕ) → Listed lines n q ends → TreeDrawn lines n head next r
      → Queue close 0 (closing lines (tree (n - 1) lines)) → Going n 0 lines close head next
  going_start q r ends head next li td qu = record {
    done = [];
    rest = closing lines (tree (n - 1) lines);
    sub = numbers (tree_lines (tree (n - 1) lines));
    reached = reached_start (n - 1) lines (closing_lines_to_come (n - 1) lines sound);
    count = refl;
    queue = qu;
    drawn = td.drawn;
  }
    where
      placed : (l : Line) → Memᴰ l lines → Placed (n - 1) l
      placed l i = let x = li.sound l i in
          record {
            from_low = x.from_low;
            from_high = omega (arith, x.from_high);
            to_low = x.to_low;
            to_high = omega
                (arith, x.to_high);
          }

      sound : Sound (n - 1) lines
      sound = record {
        placed = placed;
        apart = λ l i. (li.sound l i).apart;
        long_enough = λ l i. (li.sound l i).long;
        rising = li.rising;
      }

  module _ (i : ℕ) (head next : List ℕ) (g : Going n i lines close head next) where
    -- the closing line whose turn it is
    pub record Next : Type 0 where
      pub c : Line
      pub rest : List Line
      pub is : g.rest ≡ c ∷ rest
      pub number : get_or close i 0 ≡ c.number
      pub is_line : Memᴰ c lines
      pub not_yet : is_in c.number g.sub ≡ false
      pub queue : Queue close (suc i) rest

    pub going_turn : i < length (loops (n - 1) lines) → Next
    unfolding loops_from
    going_turn lt = go g.rest refl g.queue
      where
        go : (rest : List Line) → g.rest ≡ rest → Queue close i rest → Next
        go [] e q =
            absurd (omega (
              arith,
              g.count,
              ap length
                  (g.reached.all ∙ ap (λ (r : List Line). g.done ++ loops_from (n - 1) lines r g.sub) e),
              length-append g.done
                  (loops_from (n - 1) lines [] g.sub),
              no_loops,
            ))
          where
            no_loops : length (loops_from (n - 1) lines [] g.sub) ≡ 0
            no_loops = refl
        go (c ∷ rest) e (next_is x q) =
            let first : Memᴰ c g.rest = subst (λ (r : List Line). Memᴰ c r) (sym e) (mathlib.Core.List.Memᴰ.head refl) in
            record {
              c = c;
              rest = rest;
              is = e;
              number = x;
              is_line = g.reached.lines_left c first;
              not_yet = g.reached.not_yet c first;
              queue = q;
            }

    pub going_next : {a z : Turning} {count : ℕ} (x : Next) → Took lines g.sub x.c n a z count
        → Going n (i + 1) lines close z.head z.next
    going_next x t = record {
      done = g.done ++ ((pass x.c true ∷ shortest (n - 1) (only g.sub lines) x.c.to x.c.from) ∷ []);
      rest = x.rest;
      sub = added x.c.number (shortest (n - 1) (only g.sub lines) x.c.to x.c.from) g.sub;
      reached =
          reached_next (n - 1) lines g.done x.c x.rest g.sub
          (subst (λ (r : List Line). Reached (n - 1) lines g.done r g.sub) x.is g.reached);
      count =
          length-append g.done ((pass x.c true ∷ shortest (n - 1) (only g.sub lines) x.c.to x.c.from) ∷ [])
          ∙ omega (arith, g.count);
      queue = subst (λ (k : ℕ). Queue close k x.rest) (sym (add-one i)) x.queue;
      drawn = t.drawn;
    }

    pub going_more : {a z : Turning} {count : ℕ} (x : Next) (t : Took lines g.sub x.c n a z count)
        → (going_next x t).done ≡ g.done ++ ((pass x.c true ∷ shortest (n - 1) (only g.sub lines) x.c.to x.c.from) ∷ [])
    unfolding going_next
    going_more x t = refl

nothing : (l : List Loop) → length l ≡ 0 → l ≡ []
nothing [] e = refl
nothing (x ∷ l) e = absurd (omega arith)

module _ {n i : ℕ} {lines : List Line} {close head next : List ℕ} (g : Going n i lines close head next) where
  -- before the first turn no loop is done
  pub going_none : i ≡ 0 → g.done ≡ []
  going_none e = nothing g.done (g.count ∙ e)

  -- after the last all are
  pub going_all : i ≡ length (loops (n - 1) lines) → loops (n - 1) lines ≡ g.done
  going_all e =
      let left = loops_from (n - 1) lines g.rest g.sub in
      g.reached.all
      ∙ ap (λ (l : List Loop). g.done ++ l) (nothing left
      (omega (arith, e, g.count, ap length g.reached.all, length-append g.done left)))
      ∙ append-nil g.done
