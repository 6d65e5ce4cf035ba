-- One loop's turn after the other fills the table. Assumes nothing.
use Prim.Native.Nat.{ℕ, ◌+◌, ◌*◌, ◌-◌, ◌≤◌, ◌<◌}
use native.Mathlib.Omega.{arith}
use native.Mathlib.Decide.{ℕ_discrete}
use mathlib.Core.Path.{◌≡◌, refl, sym, ◌∙◌, ap, ap₂, subst}
use mathlib.Core.Bool.{true}
use mathlib.Core.List.{List, [], ◌∷◌, ◌++◌}
use lib.ListN.{length, get_or, take, drop, set, length-append, length-set}
use lib.Seq.{take_all, take-append-le, get_or-set_same, get_or-set_other}
use borrow.Rule.Slice.PartMut.{mid_of, put_mid}
use Rattle.network.specs.Standing.{Line}
use Rattle.network.specs.Path.{Pass, pass, shortest}
use Rattle.network.specs.Codes.{codes}
use Rattle.network.specs.Subgraph.{only}
use Rattle.loops.specs.Loops.{Loop, added, loops_from, loops}
use Rattle.loops.specs.Table.{runs_of, Table}
use Rattle.loops.proofs.Table.{codes_length, runs_append, runs_more}
use Rattle.chains.specs.Chains.{number_limit}
use Rattle.search.specs.Front.{RoomPath}
use Rattle.subgraph.specs.LoopTurn.{Taking, Takes, turning, Turning, Took, Taken}
use Rattle.subgraph.proofs.LoopTurns.{Next, going_turn, going_next, going_more, going_none, going_all}
use Rattle.table.specs.Filled.{Ready, Fills, FilledTo}
use Rattle.table.proofs.Runs.{run_on}

-- no loop is in the table yet
pub fill_start : {lines : List Line} {n count : ℕ} {ends close head next : List ℕ} (starts runs : List ℕ)
    → Ready lines n count ends close head next → FilledTo lines n 0 0 close head next starts runs
unfolding runs_of
fill_start starts runs r =
    let e = going_none r.going refl in record {
      going = r.going;
      at_is = sym (ap (λ (l : List Loop). length (runs_of l)) e);
      begins = λ k h. absurd (omega arith);
      held = ap (λ (l : List Loop). runs_of l ++ runs) (sym e);
    }

module _ {lines : List Line} {n i at : ℕ} {close head next starts runs : List ℕ}
    (f : FilledTo lines n i at close head next starts runs) (left : i < length (loops (n - 1) lines)) where
  abbrev pub turn : Next n lines close i head next f.going
  turn = going_turn n lines close i head next f.going left

  abbrev pub path : List Pass
  path = shortest (n - 1) (only f.going.sub lines) turn.c.to turn.c.from

  abbrev pub lp : Loop
  lp = pass turn.c true ∷ path

  -- the runs so far, and this one, are among those of all loops
  pub runs_so_far : at + 1 + length path ≤ length (runs_of (loops (n - 1) lines))
  unfolding loops_from runs_of codes
  runs_so_far =
      let all = f.going.reached.all ∙ ap (λ (r : List Line). f.going.done ++ loops_from (n - 1) lines r f.going.sub) turn.is in
      let later = loops_from (n - 1) lines turn.rest (added turn.c.number path f.going.sub) in
      omega (
        arith,
        f.at_is,
        ap (λ (l : List Loop). length (runs_of l)) all,
        ap length (runs_append f.going.done (lp ∷ later)),
        length-append (runs_of f.going.done) (runs_of (lp ∷ later)),
        length-append (codes lp) (runs_of later),
        codes_length path,
      )

  module _ (number : ℕ) (number_is : number ≡ get_or close i 0) (starts_fit : i < length starts) (fits : at + 1 + n ≤ length runs) where
    abbrev with_one : List ℕ
    with_one = set runs at (number * 2)

    abbrev lent : List ℕ
    lent = mid_of (at + 1) (length with_one - (at + 1)) with_one

    -- the closing line comes first
    run_is : number * 2 ∷ codes path ≡ codes lp
    unfolding codes
    run_is = let two : number * 2 ≡ 2 * turn.c.number = omega (arith, number_is, turn.number) in ap (λ (x : ℕ). x ∷ codes path) two

    module _ {count : ℕ} {head' next' : List ℕ} (out' : List ℕ)
        (t : Took lines f.going.sub turn.c n (turning head next lent) (turning head' next' out') count) where
      abbrev done : List Loop
      done = f.going.done

      more : (going_next n lines close i head next f.going turn t).done ≡ done ++ (lp ∷ [])
      more = going_more n lines close i head next f.going turn t

      -- the loop has taken its turn, and its run is in the table
      pub fill_next : FilledTo lines n (i + 1) (at + 1 + count) close head' next' (set starts i at)
          (put_mid (at + 1) (length with_one - (at + 1)) with_one out')
      fill_next = record {
        going = going_next n lines close i head next f.going turn t;
        at_is = omega (
          arith,
          f.at_is,
          t.written.count,
          ap (λ (l : List Loop). length (runs_of l)) more,
          ap length (runs_more done lp),
          length-append (runs_of done) (codes lp),
          codes_length lp,
        );
        begins = λ k h. go k h (ℕ_discrete k i) ∙ sym (ap (λ (l : List Loop). length (runs_of l))
            (ap (take k) more ∙ take-append-le k done (lp ∷ []) (omega (arith, f.going.count))));
        held =
            run_on (runs_of done) (codes path) runs (number * 2) at (sym f.at_is) f.held
            (omega (arith, codes_length path, t.written.count, t.written.few)) grown
            (ap (λ (o : List ℕ). put_mid (at + 1) (length with_one - (at + 1)) with_one o) t.written.places)
            ∙ ap₂ (λ (r : List ℕ) (k : ℕ). r ++ drop k grown)
            (ap (λ (r : List ℕ). runs_of done ++ r) run_is ∙ sym (ap runs_of more ∙ runs_more done lp))
            ends;
      }
        where
          ends : at + 1 + length (codes path) ≡ at + 1 + count
          ends = omega (arith, codes_length path, t.written.count)

          grown : List ℕ
          grown = put_mid (at + 1) (length with_one - (at + 1)) with_one out'

          go : (k : ℕ) → k < i + 1 → Dec (k ≡ i) → get_or (set starts i at) k 0 ≡ length (runs_of (take k done))
          go k h (yes e) = rw (e, get_or-set_same starts i at 0 starts_fit, take_all i done (omega (arith, f.going.count))) f.at_is
          go k h (no e) = rw (get_or-set_other starts i k at 0 e) (f.begins k (omega arith))

-- all loops are in the table
pub fill_end : {lines : List Line} {n i at : ℕ} {close head next starts runs : List ℕ} → FilledTo lines n i at close head next starts runs
    → (count : ℕ) → count ≡ length (loops (n - 1) lines) → i ≡ count → count < length starts
    → Table (loops (n - 1) lines) (set starts count at) runs count
fill_end {lines = lines} {n = n} {i = i} {at = at} {starts = starts} {runs = runs} f count e z fit = record {
  counted = e;
  starts_fit = simp length-set (omega arith);
  begins = λ k h. go k h (ℕ_discrete k count);
  held = subst (λ (l : List Loop). runs ≡ runs_of l ++ drop (length (runs_of l)) runs) (sym all)
      (f.held ∙ ap (λ (k : ℕ). runs_of f.going.done ++ drop k runs) f.at_is);
}
  where
    all : loops (n - 1) lines ≡ f.going.done
    all = going_all f.going (z ∙ e)

    go : (k : ℕ) → k ≤ length (loops (n - 1) lines) → Dec (k ≡ count)
        → get_or (set starts count at) k 0 ≡ length (runs_of (take k (loops (n - 1) lines)))
    go k h (yes q) =
        ap (λ (x : ℕ). get_or (set starts count at) x 0) q ∙ get_or-set_same starts count at 0 fit ∙ f.at_is
        ∙ ap (λ (l : List Loop). length (runs_of l)) (sym all ∙ sym (take_all k (loops (n - 1) lines) (omega arith)))
    go k h (no q) =
        get_or-set_other starts count k at 0 q ∙ f.begins k (omega arith)
        ∙ ap (λ (l : List Loop). length (runs_of (take k l))) (sym all)

-- ---- whatever lines the tables are of

-- a loop is left
pub left_of : {lines : List Line} {n count i : ℕ} {ends close head next : List ℕ} → i < count → Ready lines n count ends close head next
    → i < length (loops (n - 1) lines)
left_of lt r = omega (arith, r.count_is)

-- the first i loops are in the table, of all lines that were ready at the start
pub record AllFilledTo (n count i at : ℕ) (ends close head₀ next₀ head next starts runs : List ℕ) : Type 0 where
  pub of : (lines : List Line) → Ready lines n count ends close head₀ next₀ → FilledTo lines n i at close head next starts runs

module _ {n count : ℕ} {ends close head₀ next₀ : List ℕ} where
  pub all_start : {starts runs : List ℕ} → AllFilledTo n count 0 0 ends close head₀ next₀ head₀ next₀ starts runs
  all_start {starts = starts} {runs = runs} = record { of = λ lines r. fill_start starts runs r }

  module _ {i at : ℕ} {head next starts runs : List ℕ} (w : AllFilledTo n count i at ends close head₀ next₀ head next starts runs)
      (lt : i < count) where
    -- the closing line of the next turn, of lines that were ready
    module _ {lines : List Line} (r : Ready lines n count ends close head₀ next₀) (number : ℕ) (number_is : number ≡ get_or close i 0) where
      abbrev its_turn : Next n lines close i head next (w.of lines r).going
      its_turn = turn (w.of lines r) (left_of lt r)

      pub taking : Taking lines (w.of lines r).going.sub its_turn.c n r.q number ends head next
      taking = record {
        listed = r.listed;
        drawn = (w.of lines r).going.drawn;
        is_line = its_turn.is_line;
        not_yet = its_turn.not_yet;
        its = sym (number_is ∙ its_turn.number);
      }

    pub all_next : (number : ℕ) (number_is : number ≡ get_or close i 0) → i < length starts → at + 1 + n ≤ length runs
        → {c : ℕ} {head' next' : List ℕ} (out' : List ℕ)
        → Taken n number ends
        (turning head next (mid_of (at + 1) (length (set runs at (number * 2)) - (at + 1)) (set runs at (number * 2))))
        (turning head' next' out') c
        → AllFilledTo n count (i + 1) (at + 1 + c) ends close head₀ next₀ head' next' (set starts i at)
        (put_mid (at + 1) (length (set runs at (number * 2)) - (at + 1)) (set runs at (number * 2)) out')
    all_next number number_is sf fits out' t = record {
      of = λ lines r. fill_next (w.of lines r) (left_of lt r) number number_is sf fits out'
          (t r.q lines (w.of lines r).going.sub (its_turn r number number_is).c (taking r number number_is));
    }

-- ---- what a turn asks for

module _ {n count : ℕ} {ends close head₀ next₀ best₀ seg₀ starts₀ runs₀ : List ℕ}
    (f : Fills n count ends close head₀ next₀ best₀ seg₀ starts₀ runs₀)
    {i at : ℕ} {head next starts runs : List ℕ} (w : AllFilledTo n count i at ends close head₀ next₀ head next starts runs)
    (lt : i < count) where
  abbrev now : FilledTo f.lines n i at close head next starts runs
  now = w.of f.lines f.ready

  abbrev left : i < length (loops (n - 1) f.lines)
  left = left_of lt f.ready

  -- room for the closing line and a path
  pub run_room : length runs ≡ length runs₀ → at + 1 + n ≤ length runs
  run_room e = omega (arith, f.runs_fit, runs_so_far now left)

  -- the path is shorter than there are marks
  pub path_few : (number : ℕ) → number ≡ get_or close i 0 → {out : List ℕ} {z : Turning} {c : ℕ}
      → Taken n number ends (turning head next out) z c → c < n
  path_few number e t = (t f.ready.q f.lines now.going.sub (turn now left).c (taking w lt f.ready number e)).written.few

  pub small_number : (number : ℕ) → number ≡ get_or close i 0 → number < number_limit
  small_number number e =
      let x = taking w lt f.ready number e in omega (arith, x.its, (x.listed.sound (turn now left).c x.is_line).number)

  pub takes_of : (number : ℕ) → number ≡ get_or close i 0 → {best seg out : List ℕ} → RoomPath n best seg out
      → Takes n number ends head next best seg out
  takes_of number e ro = record {
    bounded = f.bounded;
    room = ro;
    q = f.ready.q;
    lines = f.lines;
    sub = now.going.sub;
    c = (turn now left).c;
    taking = taking w lt f.ready number e;
  }
