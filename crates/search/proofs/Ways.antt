-- The way back, written out. Assumes nothing.
use Prim.Native.Nat.{ℕ, zero, suc, ◌+◌, ◌-◌, ◌%◌, ◌≤◌, ◌<◌}
use native.Mathlib.Omega.{arith}
use native.Mathlib.Numerals.{add-one}
use mathlib.Core.Path.{◌≡◌, refl, sym, ◌∙◌, ap, ap₂, subst}
use mathlib.Core.Bool.{Bool, true, false, true≢false}
use mathlib.Core.List.Memᴰ
use mathlib.Core.List.{List, [], ◌∷◌, Memᴰ}
use mathlib.Core.Option.{Option, none, some, some-ne-none}
use lib.ListN.{length, get_or, set}
use lib.Seq.{sets}
use lib.Dec.{eqb}
use Rattle.book.specs.Limits.{least_length}
use Rattle.network.specs.Standing.{Line}
use Rattle.network.specs.Tree.{Tree, distance, grow}
use Rattle.network.specs.Path.{Pass, shortest}
use Rattle.network.specs.Codes.{codes}
use Rattle.chains.specs.Chains.{flip, mark_of, AllSound, Given, halves}
use Rattle.chains.proofs.Halves.{half_ok}
use Rattle.search.specs.Front.{came, or_by, via_of, or_path, lineage, By, Key, Keyed, Way, rooted, onward, Leads, Put, Walked, Written}
use Rattle.search.specs.Front.{Outcome, reached, cut_off}
use Rattle.search.specs.Front as f
use Rattle.search.proofs.Lineage.{Back, backed, root_came, way_few, code_half}
use Rattle.search.proofs.Same.{shortest_lineage, shortest_none}

pub length_codes : (ps : List Pass) → length (codes ps) ≡ length ps
unfolding codes
length_codes [] = refl
length_codes (p ∷ ps) = ap suc (length_codes ps)

lineage_none : (es : Tree) (m : ℕ) → came es m ≡ none → lineage es m ≡ []
unfolding lineage came
lineage_none [] m h = refl
lineage_none (e ∷ es) m h = go (eqb e.mark m) e.by h (lineage_none es m)
  where
    go : (t : Bool) (o : Option Line) → or_by t o (came es m) ≡ none → (came es m ≡ none → lineage es m ≡ [])
        → or_path t (via_of o m (λ u. lineage es u)) (lineage es m) ≡ []
    go true none h ih = refl
    go true (some l) h ih = absurd (some-ne-none _ h)
    go false o h ih = ih h

-- ---- the keys of a tree hold the way from each of its marks

module _ (n : ℕ) (sub : List Line) (sound : AllSound n sub) (roots : List ℕ) (k : ℕ) (best ends : List ℕ) (places : n ≤ length best)
    (low : (m : ℕ) → Memᴰ m roots → m < n) (keyed : Keyed (grow sub roots k) best ends) where
  abbrev at : Tree
  at = grow sub roots k

  way_step : (m d : ℕ) → distance at m ≡ some d → ((u du : ℕ) → du < d → distance at u ≡ some du → Way best ends u (codes (lineage at u)))
      → Way best ends m (codes (lineage at m))
  unfolding codes
  way_step m d h ih = go (keyed m d h)
    where
      go : Key at best ends m d → Way best ends m (codes (lineage at m))
      go ky = pick ky.by
        where
          pick : By at ends m d ky.h → Way best ends m (codes (lineage at m))
          pick (f.root c a b) = subst (λ (p : List Pass). Way best ends m (codes p)) (sym (lineage_none at m c))
              (rooted (omega (arith, low m (root_came n sub sound roots k m d c h))) (omega (arith, ky.key, a, b)))
          pick (f.line l u du c hf lo t i s) =
              subst (λ (g : List ℕ). Way best ends m g) (sym spelt)
              (onward (flip ky.h) u (omega (arith, (half_ok (sound l bk.is_line) hf).1)) (omega (arith, ky.key, s, ten))
              (omega (arith, ky.key, ky.low)) (sym t) (omega (arith, ku.key, ku.low, ky.key, ky.low, s, ten))
              (ih u du (omega (arith, s, ten)) i))
            where
              bk : Back n sub sound roots at l m u
              bk = backed n sub sound roots k l u m ky.h c hf

              ten : least_length ≤ l.length
              ten = (sound l bk.is_line).long

              ku : Key at best ends u du
              ku = keyed u du i

              spelt : codes (lineage at m) ≡ flip ky.h ∷ codes (lineage at u)
              spelt = ap codes bk.way ∙ ap (λ (x : ℕ). x ∷ codes (lineage at u)) (code_half l u m ky.h (sound l bk.is_line) hf)

  way_by : (f m d : ℕ) → d ≤ f → distance at m ≡ some d → Way best ends m (codes (lineage at m))
  way_by zero m d le h = way_step m d h (λ u du lt i. absurd (omega arith))
  way_by (suc f) m d le h = way_step m d h (λ u du lt i. way_by f u du (omega arith) i)

  pub keyed_way : (m d : ℕ) → distance at m ≡ some d → Way best ends m (codes (lineage at m))
  keyed_way m d h = way_by d m d (omega arith) h

-- ---- one line of the walk

pub walk_end : {best ends : List ℕ} {m : ℕ} {hs : List ℕ} → Way best ends m hs → get_or best m 0 ≡ 0 → (out : List ℕ) (c : ℕ)
    → Put hs out out c c
walk_end (rooted l z) e out c = record { places = refl; count = omega arith }
walk_end (onward g u l p q e s w) z out c = absurd (omega arith)

-- the half that leads back from m, and the mark it leads to
abbrev pub back_half : List ℕ → ℕ → ℕ
back_half best m = flip (get_or best m 0 % halves)

abbrev pub back_mark : List ℕ → List ℕ → ℕ → ℕ
back_mark best ends m = mark_of ends (flip (get_or best m 0 % halves))

module _ (best ends out : List ℕ) (c m : ℕ) (pos : get_or best m 0 ≡ 0 → ⊥) where
  pub walk_put : {out' : List ℕ} {a : ℕ} → Walked best ends (set out c (back_half best m)) out' (c + 1) (back_mark best ends m) a
      → Walked best ends out out' c m a
  walk_put f hs (rooted l z) = absurd (pos z)
  walk_put {out' = out'} {a = a} f hs (onward g u {hs = rest} l p q e s w) =
      let z = f rest (subst (λ (x : ℕ). Way best ends x rest) (e ∙ ap (λ (x : ℕ). mark_of ends x) q) w) in
      record {
        places = z.places ∙ ap₂ (λ (x y : ℕ). sets (set out c x) y rest) (sym q) (add-one c);
        count = omega (arith, z.count);
      }

-- ---- from the search to the path

module _ (sub : List Line) (n : ℕ) (head next ends : List ℕ) (gv : Given sub n head next ends) (best : List ℕ) (r to : ℕ) (low : r < n)
    (places : n ≤ length best) where
  one_root : (m : ℕ) → Memᴰ m (r ∷ []) → m < n
  one_root m i = omega (arith, Memᴰ.eq_of_singleton i)

  found_way : (k d : ℕ) → k < n → Keyed (grow sub (r ∷ []) k) best ends → distance (grow sub (r ∷ []) k) to ≡ some d
      → Way best ends to (codes (shortest (n - 1) sub to r))
  found_way k d few ky i =
      subst (λ (p : List Pass). Way best ends to (codes p))
      (sym (shortest_lineage n sub gv.sound gv.rising r (n - 1) k to d (omega arith) i))
      (keyed_way n sub gv.sound (r ∷ []) k best ends places one_root ky to d i)

  found_few : (k d : ℕ) → k < n → distance (grow sub (r ∷ []) k) to ≡ some d → length (shortest (n - 1) sub to r) < n
  found_few k d few i =
      omega (
        arith,
        way_few n sub gv.sound (r ∷ []) k to,
        ap length
            (shortest_lineage n sub gv.sound gv.rising r (n - 1) k to d (omega arith) i),
      )

  pub path_leads : {a : Bool} → Outcome sub n best ends r to a → a ≡ true → (out : List ℕ) → halves ≤ length ends → n ≤ length out
      → Leads best ends out 0 to
  path_leads (reached x k d few ky i) e out t o = record {
    ends_at = t;
    hs = codes (shortest (n - 1) sub to r);
    way = found_way k d few ky i;
    room = omega (arith, found_few k d few i, length_codes (shortest (n - 1) sub to r));
  }
  path_leads (cut_off x z) e out t o = absurd (true≢false (sym e ∙ x))

  pub path_walked : {a : Bool} → Outcome sub n best ends r to a → a ≡ true → (out out' : List ℕ) (c : ℕ)
      → Walked best ends out out' 0 to c → Written n (shortest (n - 1) sub to r) out out' c
  path_walked (reached x k d few ky i) e out out' c w =
      let z = w (codes (shortest (n - 1) sub to r)) (found_way k d few ky i) in
      record {
        places = z.places;
        count = omega (arith, z.count, length_codes (shortest (n - 1) sub to r));
        few = omega
            (arith, z.count, length_codes (shortest (n - 1) sub to r), found_few k d few i);
      }
  path_walked (cut_off x z) e out out' c w = absurd (true≢false (sym e ∙ x))

  pub path_cut : {a : Bool} → Outcome sub n best ends r to a → a ≡ false → (out : List ℕ) → Written n (shortest (n - 1) sub to r) out out 0
  unfolding codes
  path_cut (reached x k d few ky i) e out = absurd (true≢false (sym x ∙ e))
  path_cut (cut_off x z) e out =
      subst (λ (p : List Pass). Written n p out out 0) (sym (shortest_none n sub gv.sound gv.rising r (n - 1) to z))
      (record { places = refl; count = refl; few = omega arith })
