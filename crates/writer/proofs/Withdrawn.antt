-- What `any` answers of a test of each line, line by line.
-- Assumes nothing.
use mathlib.Core.Path.{◌≡◌, sym, ◌∙◌, ap}
use mathlib.Core.Bool.{Bool, true, false}
use mathlib.Core.List.{List, [], ◌∷◌}
use Prim.Native.Nat.{ℕ, ◌+◌, ◌*◌, ◌<◌, ◌≤◌}
use native.Mathlib.Omega.{arith}
use lib.IntN.{ℤ, pos}
use lib.ListN.{length, get_or, take, length-take}
use lib.Seq.{get_or-take}
use denote.Ref.{Bor}
use denote.Param.Members.{Mut, Called}
use Rattle.std.specs.Prelude.{Option, Some, None, MatchBool, IsTrue, IfSome, IsSomeAnd}
use Rattle.std.specs.Iterator.Runs.{Run, IsChunksExactRun, AnyItemGives, AllItemsGive, CallKeepsClosure}
use Rattle.std.specs.List.{IsSubsliceAt}
use Rattle.std.specs.Option.{option_map}
use Rattle.laws.specs.Tests.{eq_z}
use Rattle.laws.proofs.FirstBad.{none_any}
use Rattle.laws.proofs.Scans.{any_found}
use Rattle.book.specs.Line.{line_words, standing_field, standing_at}
use Rattle.writer.specs.Write.{any_withdrawn}

-- an item of which two facts are known
some_both : {A : Type 0} {P Q : A → Type 0} (o : Option A) → IsSomeAnd o P → IfSome o Q → (x : A) × P x × Q x
some_both None p q = absurd p
some_both (Some x) p q = (x, p, q)

there_both : {A : Type 0} {P Q : A → Type 0} (o : Option A) (v : A) → option_map (λ y. y) o ≡ Some v → IfSome o P → IfSome o Q
    → (x : A) × P x × Q x
there_both None v e p q = absurd cc
there_both (Some x) v e p q = (x, p, q)

first_of : {A : Type 0} (xs : List A) → 0 < length xs → A
first_of [] h = absurd (omega arith)
first_of (x ∷ xs) h = x

module _ {S F : Type 0} {steps : S → Option (Bor (List ℤ)) → S → Type 0} (g : Mut F (Bor (List ℤ) × Unit {0}) Bool) (f : F)
    (lines : List ℤ) (n : ℕ) (room : n * line_words ≤ length lines) (p : Run steps)
    (chunks : IsChunksExactRun p line_words (take (n * line_words) lines)) (keeps : CallKeepsClosure g f)
    (tells : (e : Bor (List ℤ)) (r : Bool) → Called g f (e, tt) r f → r ≡ eq_z (get_or e.now standing_field (pos 0)) (pos 0)) where
  abbrev entries : List ℤ
  entries = take (n * line_words) lines

  abbrev withdrawn : ℕ → Bool
  withdrawn i = eq_z (standing_at lines i) (pos 0)

  -- an item that the closure was given is the line of its place
  abbrev Given : ℕ → Bool → Bor (List ℤ) → Type 0
  Given k r e = Called g f (e, tt) r f
      × ((length e.now ≡ line_words) × (k * line_words + line_words ≤ length entries)
      × IsSubsliceAt line_words entries (k * line_words) e.now)

  given : (k : ℕ) (r : Bool) (e : Bor (List ℤ)) → Given k r e → (k < n) × (r ≡ withdrawn k)
  given k r e w =
      let inside : k * line_words + line_words ≤ n * line_words = omega (arith, w.1.1, length-take (n * line_words) lines) in
      let at : get_or e.now standing_field (pos 0) ≡ standing_at lines k =
      w.1.2.2 standing_field (pos 0) (omega arith)
      ∙ get_or-take (n * line_words) lines (k * line_words + standing_field) (pos 0) (omega (arith, inside)) in
      (omega (arith, inside), tells e r w.0 ∙ ap (λ z. eq_z z (pos 0)) at)

  all_given : p.whole ≡ true → p.len ≡ n
  all_given e = chunks.1 e ∙ omega (arith, length-take (n * line_words) lines)

  pub any_answer : (r : Bool) → MatchBool r (AnyItemGives p g f true) (IsTrue p.whole × AllItemsGive p g f false)
      → r ≡ any_withdrawn lines n
  unfolding any_withdrawn
  any_answer true found =
      let at = found keeps in
      let item = some_both (p.at at.0) at.2 (chunks.2 at.0) in
      let its = given at.0 true item.0 (item.1, item.2) in
      sym (any_found withdrawn n at.0 its.0 (sym its.1))
  any_answer false none =
      let all = none.1 keeps in
      let each : (k : ℕ) → k < n → withdrawn k ≡ false =
      λ k l.
      let within : k < p.len = omega (arith, all_given none.0) in
      let some = first_of p.items (omega (arith, p.long, within)) in
      let item = there_both (p.at k) _ (p.reads k some within) (all k) (chunks.2 k) in
      sym (given k false item.0 (item.1, item.2)).1
      in sym (none_any withdrawn n each)
