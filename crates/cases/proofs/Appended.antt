-- Known bytes that grow by one text after another, and by numbers that are printed so.
-- Assumes nothing.
use Rattle.std.proofs.Common.{◌<◌, ◌≤◌, ◌+◌, ℕ, List, [], ◌∷◌, ◌++◌, Option, Some, None, sym, ap, subst, Result, Ok, Err, OnOk, ◌∙◌}
use Rattle.std.proofs.Common.{append_assoc, drop, length, slice_index_or}
use Rattle.std.proofs.lemmas.List.{append-nil, drop_more, drop_all}
use Rattle.std.specs.Io.KnownBytes.{Appends}
use Rattle.cases.specs.Answer.{all_spaced}
use Rattle.cases.specs.Cases.{spaced}

appends_then : (u v w : Option (List ℕ)) (a b : List ℕ) → Appends u v a → Appends v w b → Appends u w (a ++ b)
appends_then None v w a b x y = tt
appends_then (Some xs) None w a b x y = absurd x
appends_then (Some xs) (Some ys) None a b x y = y
appends_then (Some xs) (Some ys) (Some zs) a b x y = y ∙ ap (λ (t : List ℕ). t ++ b) x ∙ append_assoc xs a b

appends_none : (u : Option (List ℕ)) → Appends u u []
appends_none None = tt
appends_none (Some xs) = sym (append-nil xs)

module _ (numbers : List ℕ) (i : ℕ) (u : Option (List ℕ)) where
  -- the number at place i, and then those behind it
  pub next_spaced : (v w : Option (List ℕ)) → i < length numbers → Appends u v (spaced (slice_index_or numbers i 0))
      → Appends v w (all_spaced (drop (i + 1) numbers)) → Appends u w (all_spaced (drop i numbers))
  unfolding all_spaced
  next_spaced v w h now rest =
      subst (λ (xs : List ℕ). Appends u w (all_spaced xs)) (sym (drop_more numbers i 0 h)) (appends_then u v w _ _ now rest)

  pub none_spaced : length numbers ≤ i → Appends u u (all_spaced (drop i numbers))
  unfolding all_spaced
  none_spaced h = subst (λ (xs : List ℕ). Appends u u (all_spaced xs)) (sym (drop_all i numbers h)) (appends_none u)

-- two numbers and then more of them, where nothing went wrong
pub then_all : {E : Type 0} (r : Result (Unit {0}) E) (u v w x : Option (List ℕ)) (n m : ℕ) (rest : List ℕ)
    → Appends u v (spaced n) → Appends v w (spaced m) → OnOk r (Appends w x (all_spaced rest))
    → OnOk r (Appends u x (all_spaced (n ∷ m ∷ rest)))
unfolding all_spaced
then_all (Ok _) u v w x n m rest first second third = appends_then u v x _ _ first (appends_then v w x _ _ second third)
then_all (Err _) u v w x n m rest first second third = tt
