-- What is printed of the cases of an input, one after the other.
-- Assumes nothing.
use Rattle.std.specs.Prelude.{◌≡◌, ℕ, ◌<◌, List, [], ◌∷◌, take, drop, Option, IfSome, Ok, Result}
use Rattle.std.specs.Borrow.{Bor, MutBor}
use Rattle.std.specs.Io.KnownBytes.{Appends}
use Rattle.std.specs.List.{FoldsTo}
use denote.Param.Members.{Once, Shared}
use Rattle.cases.specs.Case.{after_case, name_of}

-- these are the whole cases of an input, each of so many numbers: what follows the last of them is no whole one
unfoldable pub AreCases : ℕ → List ℕ → List (List ℕ) → Type 0
AreCases numbers input [] = after_case input 0 numbers ≡ 0
AreCases numbers input (case ∷ more) =
    let end = after_case input 0 numbers in (0 < end) × (case ≡ take end input) × AreCases numbers (drop end input) more

-- what is passed to a call that prints what it says of some bytes, and what it gives back with what it left of the writer
abbrev pub Args : Type 0 → Type 0
Args W = MutBor W × (Bor (List ℕ) × Unit {0})

abbrev pub Given : Type 0 → Type 0 → Type 0
Given W E = Result (Unit {0}) E × (MutBor W × Unit {0})

-- a case is shown on a writer: its name is put there, and then the call of f is made, which gives no error
pub record IsShown {F W E : Type 0} (contents : W → Option (List ℕ)) (f : Shared F (Args W) (Given W E)) (show : F)
    (was : W) (case : List ℕ) (is : W) : Type 0 where
  pub named : MutBor W
  pub lent : Bor (List ℕ)
  pub left : MutBor W
  pub names : Appends (contents was) (contents named.now) (name_of case)
  pub lends : lent.now ≡ case
  pub called : f.post show (named, (lent, tt)) (Ok tt, (left, tt))
  pub leaves : left.now ≡ is

-- every case of an input is shown, one after the other
unfoldable pub AllShown : {W : Type 0} → (W → List ℕ → W → Type 0) → ℕ → List ℕ → W → W → Type 0
AllShown shown numbers input was is =
    (cases : List (List ℕ)) × AreCases numbers input cases × FoldsTo shown was cases is

-- f was called, with no error, on the first bytes of what was given
pub record IsAnswered {F W E : Type 0} (f : Once F (Args W) (Given W E)) (show : F) (given : Option (List ℕ)) (most : ℕ) : Type 0 where
  pub to : MutBor W
  pub lent : Bor (List ℕ)
  pub left : MutBor W
  pub reads : IfSome given (λ bytes. lent.now ≡ take most bytes)
  pub called : f.post show (to, (lent, tt)) (Ok tt, (left, tt))

-- every case among the first bytes of what was given is shown
unfoldable pub CasesShown : {W : Type 0} → (W → List ℕ → W → Type 0) → ℕ → Option (List ℕ) → ℕ → Type 0
CasesShown {W} shown numbers given most =
    (bytes : List ℕ) × (was : W) × (is : W) × IfSome given (λ xs. bytes ≡ take most xs) × AllShown shown numbers bytes was is
