-- The sights of a chain, written out one after another.
-- Assumes nothing.
use Prim.Native.Nat.{ℕ, zero, suc, ◌+◌, ◌-◌, ◌≤◌, ◌<◌}
use native.Mathlib.Nat.{add-zero}
use native.Mathlib.Omega.{arith}
use mathlib.Core.Path.{◌≡◌, refl, sym, ◌∙◌, ap}
use mathlib.Core.List.{List, [], ◌∷◌, ◌++◌, append_assoc, append-nil}
use lib.ListN.{length, get_or, length-set, length-append}
use lib.Seq.{get_or-set_same, get_or-set_other}
use lib.IntN.{ℤ, pos}
use Rattle.chains.specs.Chains.{halves}
use Rattle.sights.specs.Sights.{Sight, sight}
use Rattle.sights.specs.Halves.{place_of, sight_at, Leads, no_more, one_more}
use Rattle.sights.specs.Table.{Columns, seen, InRange, RoomUpto, Written, Filling, Filled}

-- room for more is room for less
pub room_less : {cols : Columns} {e k : ℕ} → RoomUpto cols e → k ≤ e → RoomUpto cols k
room_less u l = record { others = omega (arith, u.others); rises = omega (arith, u.rises); weighed = omega (arith, u.weighed) }

length_seen : (cols : Columns) (a k : ℕ) → length (seen cols a k) ≡ k
unfolding seen
length_seen cols a zero = refl
length_seen cols a (suc k) = ap suc (length_seen cols (suc a) k)

-- one sight more at the end
seen_more : (cols : Columns) (a k : ℕ)
    → seen cols a (suc k) ≡ seen cols a k
    ++ (sight (suc (get_or cols.other (a + k) 0)) (get_or cols.rise (a + k) (pos 0)) (get_or cols.weight (a + k) 0) ∷ [])
unfolding seen
seen_more cols a zero = rw (add-zero a)
seen_more cols a (suc k) =
    let e : a + suc k ≡ suc a + k = omega arith in
    rw e (ap (λ (r : List Sight). sight (suc (get_or cols.other a 0)) (get_or cols.rise a (pos 0)) (get_or cols.weight a 0) ∷ r)
    (seen_more cols (suc a) k))

module _ (cols cols' : Columns) (c : ℕ) (s : Sight) (w : Written cols cols' c s) where
  -- what stands before is as it was
  seen_before : (i k : ℕ) → i + k ≤ c → seen cols' i k ≡ seen cols i k
  unfolding seen
  seen_before i zero l = refl
  seen_before i (suc k) l =
      rw (seen_before (suc i) k (omega arith))
      (rw (
        w.others,
        w.rises,
        w.weighed,
        get_or-set_other cols.other c i (s.other - 1) 0 (λ e. omega arith),
        get_or-set_other cols.rise c i s.rise (pos 0) (λ e. omega arith),
        get_or-set_other cols.weight c i s.weight 0 (λ e. omega arith),
      ))

  -- the sight itself
  seen_here : 0 < s.other → RoomUpto cols (c + 1)
      → sight (suc (get_or cols'.other c 0)) (get_or cols'.rise c (pos 0)) (get_or cols'.weight c 0) ≡ s
  seen_here p u =
      rw (
        w.others,
        w.rises,
        w.weighed,
        get_or-set_same cols.other c (s.other - 1) 0 (omega (arith, u.others)),
        get_or-set_same cols.rise c s.rise (pos 0) (omega (arith, u.rises)),
        get_or-set_same cols.weight c s.weight 0 (omega (arith, u.weighed)),
      )
      (let e : suc (s.other - 1) ≡ s.other = omega arith in ap (λ (o : ℕ). sight o s.rise s.weight) e)

-- before the first, after one more, and after the last
pub filling_start : (cols : Columns) (b a : ℕ) (all : List Sight) → InRange cols b → RoomUpto cols (a + length all)
    → Filling cols cols b a a all all
unfolding seen
filling_start cols b a all r u = record {
  range = r;
  room = u;
  reached = omega arith;
  done = let e : a - a ≡ 0 = omega arith in rw e;
  before = λ i k l. refl;
}

pub filling_next : (cols₀ cols cols' : Columns) (b a c : ℕ) (s : Sight) (rest all : List Sight) → 0 < s.other → Written cols cols' c s
    → InRange cols' b → Filling cols₀ cols b a c (s ∷ rest) all → Filling cols₀ cols' b a (c + 1) rest all
filling_next cols₀ cols cols' b a c s rest all p w r f = record {
  range = r;
  room = record {
    others = rw w.others (simp length-set (omega (arith, f.room.others)));
    rises = rw w.rises (simp length-set (omega (arith, f.room.rises)));
    weighed = rw w.weighed (simp length-set (omega (arith, f.room.weighed)));
  };
  reached = omega (arith, f.reached);
  done = ap (λ (x : List Sight). x ++ rest) grown ∙ append_assoc (seen cols a (c - a)) (s ∷ []) rest ∙ f.done;
  before = λ i k l. seen_before cols cols' c s w i k (omega (arith, f.reached)) ∙ f.before i k l;
}
  where
    here : sight (suc (get_or cols'.other c 0)) (get_or cols'.rise c (pos 0)) (get_or cols'.weight c 0) ≡ s
    here =
        seen_here cols cols' c s w p
        (room_less f.room (omega arith))

    grown : seen cols' a (c + 1 - a) ≡ seen cols a (c - a) ++ (s ∷ [])
    grown =
        let e : c + 1 - a ≡ suc (c - a) = omega (arith, f.reached) in
        let g : a + (c - a) ≡ c = omega (arith, f.reached) in
        rw (
          e,
          seen_more cols' a (c - a),
          g,
          here,
          seen_before cols cols' c s w a (c - a)
              (omega (arith, f.reached)),
        )

pub filling_end : (cols₀ : Columns) (cols : Columns) (b a c : ℕ)
    (rest all : List Sight) → rest ≡ []
    → Filling cols₀ cols b a c rest all
    → (c ≡ a + length all) × Filled cols₀ cols b a all
filling_end cols₀ cols b a c rest all e f =
    let d : seen cols a (c - a) ≡ all =
    sym (append-nil (seen cols a (c - a))) ∙ ap (λ (r : List Sight). seen cols a (c - a) ++ r) (sym e)
    ∙ f.done in
    let l : c - a ≡ length all = sym (length_seen cols a (c - a)) ∙ ap length d in
    (omega (arith, f.reached), record { range = f.range; here = ap (seen cols a) (sym l) ∙ d; before = f.before })

-- ---- along a chain

-- the half h is next, and place c; what its chain leads by is left
pub record Walking (lines : List ℤ) (n : ℕ) (next : List ℕ) (cols₀ cols : Columns)
    (b a c h : ℕ) (all : List Sight) : Type 0 where
  pub rest : List Sight
  pub leads : Leads lines n next h rest
  pub filling : Filling cols₀ cols b a c rest all

-- there is such a half: it is seen, and then the rest
pub record Turn (lines : List ℤ) (n : ℕ) (next : List ℕ) (cols₀ cols : Columns)
    (b a c h : ℕ) (all : List Sight) : Type 0 where
  pub some_line : 2 ≤ h
  pub inside : place_of h < n
  pub fits : h < halves
  pub rest : List Sight
  pub leads : Leads lines n next (get_or next h 0) rest
  pub filling : Filling cols₀ cols b a c (sight_at lines h ∷ rest) all
  pub room : RoomUpto cols (c + 1)
  pub more : c < a + length all

module _ {lines : List ℤ} {n : ℕ} {next : List ℕ} {cols₀ cols : Columns}
    {b a c h : ℕ} {all : List Sight}
    (w : Walking lines n next cols₀ cols b a c h all) where
  pub turn_of : 0 < h → Turn lines n next cols₀ cols b a c h all
  turn_of lt = go w.leads w.filling
    where
      go : {rest : List Sight} → Leads lines n next h rest → Filling cols₀ cols b a c rest all
          → Turn lines n next cols₀ cols b a c h all
      go (no_more z) f = absurd (omega arith)
      go (one_more {ss = ss} low high fit l) f =
          let all_in : c - a + suc (length ss) ≡ length all =
          ap (λ (k : ℕ). k + suc (length ss)) (sym (length_seen cols a (c - a)))
          ∙ sym (length-append (seen cols a (c - a)) (sight_at lines h ∷ ss)) ∙ ap length f.done in
          record {
            some_line = low;
            inside = high;
            fits = fit;
            rest = ss;
            leads = l;
            filling = f;
            room = room_less f.room (omega arith);
            more = omega (arith, f.reached);
          }

  pub walk_end : h ≤ 0 → (c ≡ a + length all) × Filled cols₀ cols b a all
  walk_end z = filling_end cols₀ cols b a c w.rest all (go w.leads) w.filling
    where
      go : {rest : List Sight} → Leads lines n next h rest → rest ≡ []
      go (no_more y) = refl
      go (one_more low high fit l) = absurd (omega arith)
