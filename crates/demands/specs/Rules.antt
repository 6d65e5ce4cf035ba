-- Document 01, "Refusal numbers": a table is a list of rules in the order in which they are tried, and the first that applies is given.
-- Where the numbers of a table rise, that is "the lowest number is given".
-- Assumes nothing.
use Rattle.std.specs.Prelude.{◌≡◌, ◌⊎◌, ◌↔◌, Bool, true, false, cond, ℕ, ◌<◌, ltb}
use mathlib.Core.List.{List, [], ◌∷◌, ◌++◌, Memᴰ}
use Rattle.book.specs.Test.{refusal, no_refusal}
use Rattle.book.specs.Refusals.{Told}

-- one rule: whether its condition holds, and the refusal that it gives
pub record Rule : Type 0 where
  pub applies : Bool
  pub gives : Told

-- a rule by its refusal's number, its condition, and the refusal's place
abbrev pub rule : ℕ → Bool → ℕ → Rule
rule number applies place = record { applies = applies; gives = refusal number place }

-- no rule of the list applies
abbrev pub None : List Rule → Type 0
None rules = (r : Rule) → Memᴰ r rules → r.applies ≡ false

-- r applies, and none of the rules before it does
pub record First (rules : List Rule) (r : Rule) : Type 0 where
  pub before : List Rule
  pub after : List Rule
  pub stands : rules ≡ before ++ r ∷ after
  pub none_before : None before
  pub applies : r.applies ≡ true

-- the refusal that is given is the table's: that of the first rule that applies, or none
pub record ByTable (rules : List Rule) (given : Told) : Type 0 where
  pub done_exactly_if : (given.number ≡ 0) ↔ None rules
  pub first_is_given : (r : Rule) → First rules r → given ≡ r.gives
  pub no_other : (given ≡ no_refusal) ⊎ ((r : Rule) × First rules r × (given ≡ r.gives))

-- the numbers of a table rise, from above low
abbrev pub rising : ℕ → List Rule → Bool
rising low [] = true
rising low (r ∷ rs) = cond (ltb low r.gives.number) (rising r.gives.number rs) false

-- r applies, and no rule with a lower number does
pub record Lowest (rules : List Rule) (r : Rule) : Type 0 where
  pub applies : r.applies ≡ true
  pub none_lower : (q : Rule) → Memᴰ q rules → q.gives.number < r.gives.number → q.applies ≡ false

-- "Where several apply, the lowest number is given"
pub record LowestGiven (rules : List Rule) (given : Told) : Type 0 where
  pub done_exactly_if : (given.number ≡ 0) ↔ None rules
  pub given_exactly_if : (r : Rule) → Memᴰ r rules → (given.number ≡ r.gives.number) ↔ Lowest rules r
  pub no_other : (given.number ≡ 0) ⊎ ((r : Rule) × Memᴰ r rules × (given.number ≡ r.gives.number))
  pub done_place : given.number ≡ 0 → given.place ≡ 0
  pub its_place : (r : Rule) → Memᴰ r rules → given.number ≡ r.gives.number → given.place ≡ r.gives.place

-- what a call has given keeps to the table: `refuse r` is the refusal r with all counts 0 and every lent buffer as it was, `done` is the
-- whole answer. "After a refusal the counts are 0 and no lent buffer has changed."
pub record KeepsToTable {A : Type 0} (refusal_of : A → Told) (rules : List Rule) (refuse : Told → A) (done given : A) : Type 0 where
  pub table : ByTable rules (refusal_of given)
  pub refused : ((refusal_of given).number ≡ 0 → ⊥) → given ≡ refuse (refusal_of given)
  pub finished : (refusal_of given).number ≡ 0 → given ≡ done
