-- A lent list that is filled from its start, part by part.
-- Assumes nothing.
use mathlib.Core.Path.{◌≡◌, refl, ◌∙◌, ap}
use mathlib.Core.List.{List, [], ◌++◌, append-nil}
use Prim.Native.Nat.{ℕ, ◌+◌, ◌-◌, ◌^◌, ◌≤◌, ◌<◌}
use native.Mathlib.Omega.{arith}
use lib.ListN.{length, take, drop, length-append, length-take, length-drop, drop_of_length-le}
use lib.IntN.{ℤ}
use lib.Signed.{mag}
use borrow.Rule.Slice.PartMut.{put_mid}
use mir.Syntax.{w64}
use mir.Val.{to_z, of_z}
use Rattle.laws.proofs.Lists.{pour_to}
use Rattle.laws.proofs.Signed.{back}
use Rattle.writer.specs.Bytes.{bytes_of, in_bytes}
use Rattle.writer.proofs.Numbers.{bytes_length}

module _ (l₀ : List ℕ) where
  -- the first a places of out are p, and the others as they were in l₀
  pub record Poured (a : ℕ) (p out : List ℕ) : Type 0 where
    pub long : length p ≡ a
    pub is : out ≡ p ++ drop a l₀

  pub none_poured : Poured 0 [] l₀
  none_poured = record { long = refl; is = refl }

module _ {l₀ : List ℕ} {a : ℕ} {p out : List ℕ} (so_far : Poured l₀ a p out) where
  -- the next part, up to place e, which holds v
  pub then_part : (vs v : List ℕ) (e : ℕ) → a ≤ e → vs ≡ v → length v ≡ e - a → Poured l₀ e (p ++ v) (put_mid a (e - a) out vs)
  then_part vs v e l is h =
      record {
        long = length-append p v ∙ omega (arith, so_far.long);
        is = pour_to p vs l₀ out a e l so_far.long so_far.is ∙ ap (λ (part : List ℕ). (p ++ part) ++ drop e l₀) is;
      }

  -- that part, where there is room for it, is lent whole
  pub part_length : (e : ℕ) → a ≤ e → e ≤ length l₀ → length (take (e - a) (drop a out)) ≡ e - a
  part_length e l h =
      let same : length out ≡ length l₀ =
      ap length so_far.is ∙ length-append p (drop a l₀) ∙ omega (arith, so_far.long, length-drop a l₀)
      in simp (length-take, length-drop) (omega arith)

  -- a number, in w bytes
  pub then_number : (vs : List ℕ) (w x : ℕ) {r : ℕ} → a + w ≤ length l₀ → r ≡ x → vs ≡ bytes_of (length (take (a + w - a) (drop a out))) r
      → Poured l₀ (a + w) (p ++ bytes_of w x) (put_mid a (a + w - a) out vs)
  then_number vs w x h is e =
      let all : length (take (a + w - a) (drop a out)) ≡ w = part_length (a + w) (omega arith) h ∙ omega arith in
      then_part vs (bytes_of w x) (a + w) (omega arith) (rw (all, is) at e) (bytes_length w x ∙ omega arith)

  -- a signed number, read from where it is stored
  pub then_signed : (vs : List ℕ) (w : ℕ) (z : ℤ) → a + w ≤ length l₀ → mag z < 2 ^ 63
      → vs ≡ in_bytes (length (take (a + w - a) (drop a out))) (to_z w64 (of_z w64 z))
      → Poured l₀ (a + w) (p ++ in_bytes w z) (put_mid a (a + w - a) out vs)
  then_signed vs w z h fits e = then_number vs w (of_z w64 z) h (ap (of_z w64) (back z fits)) e

  pub all_poured : length l₀ ≡ a → out ≡ p
  all_poured h =
      let rest : length l₀ ≤ a = omega arith in
      so_far.is ∙ ap (λ (r : List ℕ). p ++ r) (drop_of_length-le l₀ rest) ∙ append-nil p
