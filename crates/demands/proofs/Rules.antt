-- A table of rules, tried in their order: the first that applies is given, and where the numbers rise it has the lowest. Assumes nothing.
use mathlib.Core.Path.{◌≡◌, refl, sym, ◌∙◌, ap, subst}
use mathlib.Core.Logic.{◌⊎◌, inl, inr}
use mathlib.Core.Bool.{Bool, true, false, cond, ◌||◌, true≢false}
use mathlib.Core.List.Memᴰ
use mathlib.Core.List.{List, [], ◌∷◌, ◌++◌, Memᴰ}
use Prim.Native.Nat.{ℕ, ◌<◌}
use native.Mathlib.Decide.{ℕ_discrete, dec_lt}
use native.Mathlib.Omega.{arith}
use lib.Dec.{ltb}
use borrow.Author.Tests.{ltb-true}
use Rattle.book.specs.Test.{no_refusal}
use Rattle.book.specs.Refusals.{Told}
use Rattle.demands.specs.Rules.{Rule, None, First, ByTable, rising, Lowest, LowestGiven, KeepsToTable}

-- two tests for one refusal are one test
pub cond_or : {A : Type 0} (s t : Bool) (x y : A) → cond s x (cond t x y) ≡ cond (s || t) x y
cond_or true t x y = refl
cond_or false t x y = refl

-- the refusal of the first rule that applies, or, where none does, what is given when done
unfoldable pub by_rules : {A : Type 0} → List Rule → (Told → A) → A → A
by_rules [] refuse done = done
by_rules (r ∷ rs) refuse done = cond r.applies (refuse r.gives) (by_rules rs refuse done)

-- ---- no rule applies

-- none of no rules; none of a rule that does not apply and the rest; and back
pub none_in : None []
none_in r i = absurd (Memᴰ.not-nil i)

pub none_and : {q : Rule} {rest : List Rule} → q.applies ≡ false → None rest → None (q ∷ rest)
none_and e h r (Memᴰ.head z) = ap (λ (x : Rule). x.applies) z ∙ e
none_and e h r (Memᴰ.tail i) = h r i

pub first_of_lem : {q : Rule} {rest : List Rule} → None (q ∷ rest) → q.applies ≡ false
first_of_lem {q = q} h = h q (Memᴰ.head refl)

pub rest_of : {q : Rule} {rest : List Rule} → None (q ∷ rest) → None rest
rest_of h r i = h r (Memᴰ.tail i)

-- ---- the first that applies

among : (before after : List Rule) (r : Rule) → Memᴰ r (before ++ r ∷ after)
among [] after r = Memᴰ.head refl
among (q ∷ before) after r = Memᴰ.tail (among before after r)

-- the first is one of the rules
is_rule : {rules : List Rule} {r : Rule} → First rules r → Memᴰ r rules
is_rule {r = r} f = subst (λ (l : List Rule). Memᴰ r l) (sym f.stands) (among f.before f.after r)

-- no rule applies, or one is the first that does
first_or_none : (rules : List Rule) → None rules ⊎ ((r : Rule) × First rules r)
first_or_none [] = inl none_in
first_or_none (q ∷ rs) = go q.applies refl (first_or_none rs)
  where
    go : (t : Bool) → q.applies ≡ t → None rs ⊎ ((r : Rule) × First rs r) → None (q ∷ rs) ⊎ ((r : Rule) × First (q ∷ rs) r)
    go true e w = inr (q, record { before = []; after = rs; stands = refl; none_before = none_in; applies = e })
    go false e (inl n) = inl (none_and e n)
    go false e (inr (r, f)) = inr (
      r,
      record {
        before = q ∷ f.before;
        after = f.after;
        stands = ap (λ (l : List Rule). q ∷ l) f.stands;
        none_before = none_and e f.none_before;
        applies = f.applies;
      },
    )

module _ {A : Type 0} (refuse : Told → A) (done : A) where
  by_none : (rules : List Rule) → None rules → by_rules rules refuse done ≡ done
  unfolding by_rules
  by_none [] n = refl
  by_none (q ∷ rs) n = rw (first_of_lem n) (by_none rs (rest_of n))

  by_split : (before after : List Rule) (r : Rule) → None before → r.applies ≡ true
      → by_rules (before ++ r ∷ after) refuse done ≡ refuse r.gives
  unfolding by_rules
  by_split [] after r n e = rw e
  by_split (q ∷ before) after r n e = rw (first_of_lem n) (by_split before after r (rest_of n) e)

  by_first : {rules : List Rule} {r : Rule} → First rules r → by_rules rules refuse done ≡ refuse r.gives
  by_first {r = r} f =
      ap (λ (l : List Rule). by_rules l refuse done) f.stands ∙ by_split f.before f.after r f.none_before f.applies

-- there is one first
one_first : {rules : List Rule} {r q : Rule} → First rules r → First rules q → r.gives ≡ q.gives
one_first f g = sym (by_first (λ x. x) no_refusal f) ∙ by_first (λ x. x) no_refusal g

-- every rule of a table has a number
abbrev pub named : List Rule → Bool
named [] = true
named (r ∷ rs) = cond (ltb 0 r.gives.number) (named rs) false

has_number : (rs : List Rule) → named rs ≡ true → (r : Rule) → Memᴰ r rs → 0 < r.gives.number
has_number [] h r i = absurd (Memᴰ.not-nil i)
has_number (q ∷ rs) h r i = go (ltb 0 q.gives.number) refl h i (λ m. has_number rs m r)
  where
    go : (t : Bool) → ltb 0 q.gives.number ≡ t → cond t (named rs) false ≡ true → Memᴰ r (q ∷ rs)
        → (named rs ≡ true → Memᴰ r rs → 0 < r.gives.number) → 0 < r.gives.number
    go true e h (Memᴰ.head z) ih = omega (arith, ltb-true 0 q.gives.number e, ap (λ (x : Rule). x.gives.number) z)
    go true e h (Memᴰ.tail i) ih = ih h i
    go false e h i ih = absurd (true≢false (sym h))

-- a call that gives the refusal of the first rule that applies, or is done, keeps to the table
pub keeps_to_table : {A : Type 0} {refusal_of : A → Told} {rules : List Rule} {refuse : Told → A} {done given : A}
    → ((r : Told) → refusal_of (refuse r) ≡ r) → refusal_of done ≡ no_refusal → named rules ≡ true → given ≡ by_rules rules refuse done
    → KeepsToTable refusal_of rules refuse done given
keeps_to_table {refusal_of = refusal_of} {rules = rules} {refuse = refuse} {done = done} {given = given} of_refused of_done h e =
    go (first_or_none rules)
  where
    go : None rules ⊎ ((r : Rule) × First rules r) → KeepsToTable refusal_of rules refuse done given
    go (inl n) =
        let is : given ≡ done = e ∙ by_none refuse done rules n in
        let its : refusal_of given ≡ no_refusal = ap refusal_of is ∙ of_done in
        let zero : (refusal_of given).number ≡ 0 = ap (λ (x : Told). x.number) its in
        record {
          table = record {
            done_exactly_if = (λ z. n, λ m. zero);
            first_is_given = λ r f. absurd (true≢false (sym f.applies ∙ n r (is_rule f)));
            no_other = inl its;
          };
          refused = λ d. absurd (d zero);
          finished = λ z. is;
        }
    go (inr (r, f)) =
        let is : given ≡ refuse r.gives = e ∙ by_first refuse done f in
        let its : refusal_of given ≡ r.gives = ap refusal_of is ∙ of_refused r.gives in
        let some : 0 < r.gives.number = has_number rules h r (is_rule f) in
        let number : (refusal_of given).number ≡ r.gives.number = ap (λ (x : Told). x.number) its in
        record {
          table = record {
            done_exactly_if = (λ z. absurd (omega (arith, some, number, z)), λ n. absurd (true≢false (sym f.applies ∙ n r (is_rule f))));
            first_is_given = λ q g. its ∙ one_first f g;
            no_other = inr (r, f, its);
          };
          refused = λ d. is ∙ ap refuse (sym its);
          finished = λ z. absurd (omega (arith, some, number, z));
        }

-- the table settles the answer: two answers that keep to it are equal
pub table_settles_answer : {A : Type 0} {refusal_of : A → Told} {rules : List Rule} {refuse : Told → A} {done a c : A}
    → KeepsToTable refusal_of rules refuse done a → KeepsToTable refusal_of rules refuse done c → a ≡ c
table_settles_answer {refusal_of = refusal_of} {rules = rules} {refuse = refuse} {a = a} {c = c} x y =
    go (ℕ_discrete (refusal_of a).number 0) x.table.no_other
  where
    go : Dec ((refusal_of a).number ≡ 0) → (refusal_of a ≡ no_refusal) ⊎ ((r : Rule) × First rules r × (refusal_of a ≡ r.gives)) → a ≡ c
    go (yes z) w = x.finished z ∙ sym (y.finished (y.table.done_exactly_if.1 (x.table.done_exactly_if.0 z)))
    go (no d) (inl e) = absurd (d (ap (λ (r : Told). r.number) e))
    go (no d) (inr (r, f, e)) =
        let same : refusal_of a ≡ refusal_of c = e ∙ sym (y.table.first_is_given r f) in
        x.refused d ∙ ap refuse same ∙ sym (y.refused (λ z. d (ap (λ (r : Told). r.number) same ∙ z)))

-- ---- the lowest

-- a table's numbers rise from above low
data Numbered : ℕ → List Rule → Type 0 where
  all_numbered : {low : ℕ} → Numbered low []
  numbered : {low : ℕ} {r : Rule} {rs : List Rule} → low < r.gives.number → Numbered r.gives.number rs → Numbered low (r ∷ rs)

-- they do, where the test says so
are_numbered : (low : ℕ) (rs : List Rule) → rising low rs ≡ true → Numbered low rs
are_numbered low [] h = all_numbered
are_numbered low (r ∷ rs) h = go (ltb low r.gives.number) refl h (are_numbered r.gives.number rs)
  where
    go : (t : Bool) → ltb low r.gives.number ≡ t → cond t (rising r.gives.number rs) false ≡ true
        → (rising r.gives.number rs ≡ true → Numbered r.gives.number rs) → Numbered low (r ∷ rs)
    go true e h ih = numbered (ltb-true low r.gives.number e) (ih h)
    go false e h ih = absurd (true≢false (sym h))

above : {low : ℕ} {rs : List Rule} → Numbered low rs → (r : Rule) → Memᴰ r rs → low < r.gives.number
above (numbered h n) r (Memᴰ.head e) = omega (arith, h, ap (λ (q : Rule). q.gives.number) e)
above (numbered h n) r (Memᴰ.tail i) = omega (arith, h, above n r i)
above all_numbered r i = absurd (Memᴰ.not-nil i)

-- each number stands once
once_each : {low : ℕ} {rs : List Rule} → Numbered low rs → (q r : Rule) → Memᴰ q rs → Memᴰ r rs
    → q.gives.number ≡ r.gives.number → q ≡ r
once_each (numbered h n) q r (Memᴰ.head e) (Memᴰ.head f) z = e ∙ sym f
once_each (numbered h n) q r (Memᴰ.head e) (Memᴰ.tail j) z =
    absurd (omega (arith, above n r j, z, ap (λ (x : Rule). x.gives.number) e))
once_each (numbered h n) q r (Memᴰ.tail i) (Memᴰ.head f) z =
    absurd (omega (arith, above n q i, z, ap (λ (x : Rule). x.gives.number) f))
once_each (numbered h n) q r (Memᴰ.tail i) (Memᴰ.tail j) z = once_each n q r i j z
once_each all_numbered q r i j z = absurd (Memᴰ.not-nil i)

-- a rule with a lower number stands before
lower_before : {low : ℕ} (before after : List Rule) (r q : Rule) → Numbered low (before ++ r ∷ after) → Memᴰ q (before ++ r ∷ after)
    → q.gives.number < r.gives.number → Memᴰ q before
lower_before [] after r q (numbered h n) (Memᴰ.head e) l = absurd (omega (arith, l, ap (λ (x : Rule). x.gives.number) e))
lower_before [] after r q (numbered h n) (Memᴰ.tail i) l = absurd (omega (arith, l, above n q i))
lower_before (p ∷ before) after r q (numbered h n) (Memᴰ.head e) l = Memᴰ.head e
lower_before (p ∷ before) after r q (numbered h n) (Memᴰ.tail i) l = Memᴰ.tail (lower_before before after r q n i l)

first_is_lowest : {rules : List Rule} → Numbered 0 rules → (r : Rule) → First rules r → Lowest rules r
first_is_lowest n r f = record {
  applies = f.applies;
  none_lower = λ q i l. f.none_before q (lower_before f.before f.after r q (subst (λ (x : List Rule). Numbered 0 x) f.stands n)
      (subst (λ (x : List Rule). Memᴰ q x) f.stands i) l);
}

-- of a table whose numbers rise the lowest number is given
pub lowest_is_given : {rules : List Rule} {given : Told} → rising 0 rules ≡ true → ByTable rules given → LowestGiven rules given
lowest_is_given {rules = rules} {given = given} h t = go t.no_other
  where
    n : Numbered 0 rules
    n = are_numbered 0 rules h

    go : (given ≡ no_refusal) ⊎ ((r : Rule) × First rules r × (given ≡ r.gives)) → LowestGiven rules given
    go (inl e) =
        let x : given.number ≡ 0 = ap (λ (r : Told). r.number) e in
        let f = t.done_exactly_if.0 x in
        record {
          done_exactly_if = t.done_exactly_if;
          given_exactly_if = λ r i. (λ e. absurd (omega (arith, above n r i, e, x)), λ w. absurd (true≢false (sym w.applies ∙ f r i)));
          no_other = inl x;
          done_place = λ z. ap (λ (r : Told). r.place) e;
          its_place = λ r i e. absurd (omega (arith, above n r i, e, x));
        }
    go (inr (s, f, e)) =
        let i = is_rule f in
        let w = first_is_lowest n s f in
        let x : given.number ≡ s.gives.number = ap (λ (r : Told). r.number) e in
        let y : given.place ≡ s.gives.place = ap (λ (r : Told). r.place) e in
        record {
          done_exactly_if = t.done_exactly_if;
          given_exactly_if = λ r j. (
            λ z. subst (λ (q : Rule). Lowest rules q) (once_each n s r i j (sym x ∙ z)) w,
            λ v. x ∙ same s i w r j v (dec_lt r.gives.number s.gives.number) (dec_lt s.gives.number r.gives.number),
          );
          no_other = inr (s, i, x);
          done_place = λ z. absurd (omega (arith, above n s i, z, x));
          its_place = λ r j z. y ∙ ap (λ (q : Rule). q.gives.place) (once_each n s r i j (sym x ∙ z));
        }
      where
        -- two rules that are the lowest have one number
        same : (s : Rule) → Memᴰ s rules → Lowest rules s → (r : Rule) → Memᴰ r rules → Lowest rules r
            → Dec (r.gives.number < s.gives.number)
            → Dec (s.gives.number < r.gives.number) → s.gives.number ≡ r.gives.number
        same s i w r j v (yes l) b = absurd (true≢false (sym v.applies ∙ w.none_lower r j l))
        same s i w r j v (no a) (yes l) = absurd (true≢false (sym w.applies ∙ v.none_lower s i l))
        same s i w r j v (no a) (no b) = omega arith
