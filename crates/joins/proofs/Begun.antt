-- A run begun with its lowest line, positive, is that of the way so begun. Assumes nothing.
use Prim.Native.Nat.{ℕ, zero, suc, ◌-◌, ◌/◌, ◌%◌, ◌≤◌, ◌<◌}
use native.Mathlib.Omega.{arith}
use mathlib.Core.Path.{◌≡◌, refl, sym, ◌∙◌, ap, ap₂, subst}
use mathlib.Core.Bool.{Bool, true, false, cond}
use mathlib.Core.List.{List, [], ◌∷◌, ◌++◌, append-nil, append_assoc, Memᴰ}
use lib.ListN.{length, get_or, length-append, get_or-append}
use lib.Seq.{take_at, drop_at, get_or_at}
use borrow.Author.Tests.{eq-eqb, ne_eqb}
use Rattle.network.specs.Walk.{Pass, flip}
use Rattle.network.specs.Codes.{codes}
use Rattle.links.specs.Link.{turned_way, positive, lowest_line, begun_with}
use Rattle.links.proofs.Among.{it_is_in}
use Rattle.links.proofs.Turning.{turned_append, turned_count}
use Rattle.links.proofs.Lowest.{one_lowest, lowest_is}
use Rattle.joins.specs.Code.{turned_codes, rotated, LowestAt}
use Rattle.joins.proofs.Codes.{codes_append, codes_length, codes_turned, code_of_pass, code_line, even_forward, odd_back}

-- ---- a way at its place k

pub record Cut (w : List Pass) (k : ℕ) : Type 0 where
  pub before : List Pass
  pub its : Pass
  pub after : List Pass
  pub way_is : w ≡ before ++ its ∷ after
  pub at : length before ≡ k

pub cut : (w : List Pass) (k : ℕ) → k < length w → Cut w k
cut [] k h = absurd (omega arith)
cut (p ∷ w) zero h = record { before = []; its = p; after = w; way_is = refl; at = refl }
cut (p ∷ w) (suc k) h = let c = cut w k (omega arith) in record {
  before = p ∷ c.before;
  its = c.its;
  after = c.after;
  way_is = ap (λ (v : List Pass). p ∷ v) c.way_is;
  at = ap suc c.at;
}

-- every pass of a way has a place in its run
pub placed : (w : List Pass) (p : Pass) → Memᴰ p w → (j : ℕ) × (j < length w) × (get_or (codes w) j 0 ≡ code_of_pass p)
unfolding codes
placed [] p m = elim m [ ]
placed (q ∷ w) p (Memᴰ.head e) = (0, omega arith, ap code_of_pass (sym e))
placed (q ∷ w) p (Memᴰ.tail i) = let k = placed w p i in (suc k.0, omega (arith, k.1), k.2)

-- where no pass before it runs line n, the way is begun with the pass its
pub begins : (n : ℕ) (done before : List Pass) (its : Pass) (after : List Pass)
    → ((q : Pass) → Memᴰ q before → q.line.number ≡ n → ⊥) → its.line.number ≡ n
    → begun_with n done (before ++ its ∷ after) ≡ positive its (after ++ (done ++ before))
unfolding begun_with
begins n done [] its after none e = rw (eq-eqb its.line.number n e, append-nil done)
begins n done (q ∷ before) its after none e =
    rw (ne_eqb q.line.number n (none q (Memᴰ.head refl)))
    (begins n (done ++ (q ∷ [])) before its after (λ r i. none r (Memᴰ.tail i)) e
    ∙ ap (λ (v : List Pass). positive its (after ++ v)) (append_assoc done (q ∷ []) before))

-- a closed way that begins with a forward pass stays, and with one that is run back it is turned
stays : (p : Pass) (rest : List Pass) → p.forward ≡ true → positive p rest ≡ p ∷ rest
stays p rest e = ap (λ (t : Bool). cond t (p ∷ rest) (flip p ∷ turned_way rest)) e

turns : (p : Pass) (rest : List Pass) → p.forward ≡ false → positive p rest ≡ flip p ∷ turned_way rest
turns p rest e = ap (λ (t : Bool). cond t (p ∷ rest) (flip p ∷ turned_way rest)) e

module _ (w : List Pass) (k : ℕ) (low : LowestAt (codes w) k) where
  there : k < length w
  there = omega (arith, low.is_there, codes_length w)

  abbrev c : Cut w k
  c = cut w k there

  -- the code at place k
  code_at : get_or (codes w) k 0 ≡ code_of_pass c.its
  unfolding codes
  code_at =
      ap (λ (v : List Pass). get_or (codes v) k 0) c.way_is
      ∙ ap (λ (l : List ℕ). get_or l k 0) (codes_append c.before (c.its ∷ c.after))
      ∙ get_or_at (codes c.before) (code_of_pass c.its) (codes c.after) 0 k (codes_length c.before ∙ c.at)

  number_at : get_or (codes w) k 0 / 2 ≡ c.its.line.number
  number_at = ap (λ (x : ℕ). x / 2) code_at ∙ code_line c.its

  is_in_lem : Memᴰ c.its w
  is_in_lem = subst (Memᴰ c.its) (sym c.way_is) (it_is_in c.before c.its c.after)

  is_lowest : lowest_line w ≡ c.its.line.number
  is_lowest = one_lowest (lowest_is w some) (record { least = least; its = c.its; is_in = is_in_lem; number_is = refl })
    where
      some : w ≡ [] → ⊥
      some e = absurd (omega (arith, there, ap length e))

      least : (p : Pass) → Memᴰ p w → c.its.line.number ≤ p.line.number
      least p i =
          let j = placed w p i in
          let n = ap (λ (x : ℕ). x / 2) j.2 ∙ code_line p in
          omega (arith, low.no_lower j.0 (omega (arith, j.1, codes_length w)), number_at)

  none_before : (q : Pass) → Memᴰ q c.before → q.line.number ≡ c.its.line.number → ⊥
  none_before q i e =
      let j = placed c.before q i in
      let z = ap (λ (v : List Pass). codes v) c.way_is ∙ codes_append c.before (c.its ∷ c.after) in
      let y = ap (λ (l : List ℕ). get_or l j.0 0) z
      ∙ get_or-append (codes c.before) (codes (c.its ∷ c.after)) 0 j.0 (omega (arith, j.1, codes_length c.before)) in
      let n = ap (λ (x : ℕ). x / 2) (y ∙ j.2) ∙ code_line q in
      absurd (omega (arith, low.first j.0 (omega (arith, j.1, c.at)), number_at))

  begun_is : begun_with (lowest_line w) [] w ≡ positive c.its (c.after ++ c.before)
  begun_is =
      ap₂ (λ (n : ℕ) (v : List Pass). begun_with n [] v) is_lowest c.way_is
      ∙ begins c.its.line.number [] c.before c.its c.after none_before refl

  run_is : codes w ≡ codes c.before ++ codes (c.its ∷ c.after)
  run_is = ap codes c.way_is ∙ codes_append c.before (c.its ∷ c.after)

  -- forward: begun at place k
  forward_begun : get_or (codes w) k 0 % 2 ≡ 0 → rotated k (codes w) ≡ codes (begun_with (lowest_line w) [] w)
  unfolding codes
  forward_begun e =
      rw (
        run_is,
        drop_at (codes c.before) (codes (c.its ∷ c.after)) k (codes_length c.before ∙ c.at),
        take_at (codes c.before) (codes (c.its ∷ c.after)) k (codes_length c.before ∙ c.at),
      )
      (ap (λ (l : List ℕ). code_of_pass c.its ∷ l) (sym (codes_append c.after c.before))
      ∙ sym (ap codes (begun_is ∙ stays c.its (c.after ++ c.before) forward)))
    where
      forward : c.its.forward ≡ true
      forward = even_forward c.its (ap (λ (x : ℕ). x % 2) (sym code_at) ∙ e)

  -- back: turned first
  abbrev place : ℕ
  place = length (codes w) - 1 - k

  turned_is : codes (turned_way w) ≡ codes (turned_way c.after) ++ codes (flip c.its ∷ turned_way c.before)
  unfolding turned_way
  turned_is =
      ap (λ (v : List Pass). codes (turned_way v)) c.way_is
      ∙ ap codes (turned_append c.before (c.its ∷ c.after)
      ∙ append_assoc (turned_way c.after) (flip c.its ∷ []) (turned_way c.before))
      ∙ codes_append (turned_way c.after) (flip c.its ∷ turned_way c.before)

  after_length : length (codes (turned_way c.after)) ≡ place
  after_length =
      codes_length (turned_way c.after) ∙ turned_count c.after
      ∙ omega (arith, codes_length w, ap length c.way_is, length-append c.before (c.its ∷ c.after), c.at)

  back_begun : (get_or (codes w) k 0 % 2 ≡ 0 → ⊥) → rotated place (turned_codes (codes w)) ≡ codes (begun_with (lowest_line w) [] w)
  unfolding codes
  back_begun d =
      ap (rotated place) (sym (codes_turned w) ∙ turned_is)
      ∙ ap₂ (λ (a b : List ℕ). a ++ b)
      (drop_at (codes (turned_way c.after)) (codes (flip c.its ∷ turned_way c.before)) place after_length)
      (take_at (codes (turned_way c.after)) (codes (flip c.its ∷ turned_way c.before)) place after_length)
      ∙ ap (λ (l : List ℕ). code_of_pass (flip c.its) ∷ l)
      (sym (ap codes (turned_append c.after c.before) ∙ codes_append (turned_way c.before) (turned_way c.after)))
      ∙ sym (ap codes (begun_is ∙ turns c.its (c.after ++ c.before) backward))
    where
      backward : c.its.forward ≡ false
      backward = odd_back c.its (λ e. d (ap (λ (x : ℕ). x % 2) code_at ∙ e))

-- ---- of a run that is that of some way

module _ {run : List ℕ} {k : ℕ} (low : LowestAt run k) (w : List Pass) (e : run ≡ codes w) where
  its_low : LowestAt (codes w) k
  its_low = subst (λ (l : List ℕ). LowestAt l k) e low

  pub begun_forward : get_or run k 0 % 2 ≡ 0 → (out : List ℕ) → out ≡ rotated k run → out ≡ codes (begun_with (lowest_line w) [] w)
  begun_forward even out o =
      o ∙ ap (rotated k) e ∙ forward_begun w k its_low (ap (λ (l : List ℕ). get_or l k 0 % 2) (sym e) ∙ even)

  pub begun_back : (get_or run k 0 % 2 ≡ 0 → ⊥) → (one : List ℕ) → one ≡ turned_codes run → (out : List ℕ)
      → out ≡ rotated (length run - 1 - k) one → out ≡ codes (begun_with (lowest_line w) [] w)
  begun_back odd one t out o =
      o ∙ ap₂ (λ (l m : List ℕ). rotated (length l - 1 - k) m) e (t ∙ ap turned_codes e)
      ∙ back_begun w k its_low (λ z. odd (ap (λ (l : List ℕ). get_or l k 0 % 2) e ∙ z))
