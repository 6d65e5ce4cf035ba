-- The whole adjustment: start, pieces without a held mark, sweeps and answer, joined.
-- Assumes nothing.
use Prim.Native.Nat.{ℕ, zero, suc, ◌-◌, ◌≤◌, ◌<◌}
use native.Mathlib.Omega.{arith}
use mathlib.Core.Path.{◌≡◌, refl, sym, ◌∙◌, ap, subst, fun_ext}
use mathlib.Core.Bool.{Bool, false}
use mathlib.Core.List.{List}
use lib.ListN.{length, get_or}
use lib.Seq.{ext_get_or}
use lib.IntN.{ℤ, pos}
use Rattle.book.specs.Limits.{most_marks, most_held_height}
use Rattle.book.specs.Test.{refusal}
use Rattle.book.specs.Good.{Lines, HeldEntries}
use Rattle.network.specs.Standing.{standing}
use Rattle.network.specs.Tree.{tree}
use Rattle.network.proofs.Grown.{tree_line}
use Rattle.network.proofs.Marks.{size, grows}
use Rattle.fields.specs.Heights.{Working}
use Rattle.sights.specs.Sights.{Sight, sights_of}
use Rattle.sweeps.specs.Sweeps.{Swept, still, moved, visit, sweep, Settled, onward, settle_from, max_sweeps, settle}
use Rattle.sweeps.specs.MarkTurns.{flags, ended_at, refusal_of}
use Rattle.start.specs.Start.{held_height, is_some, is_held, Rooted, rooted_by, unheld_piece, start_of, start_heights}
use Rattle.start.specs.Along.{Entered, rooting, Given, HeldIn, Started}
use Rattle.adjust.specs.Adjusted.{Outcome, refused, ended, unless_unheld, adjustment}
use Rattle.adjust.specs.Answers.{refused_with, answer_of, answer_by, end_answer, answered, Answers}
use Rattle.fields.proofs.Fair.{fair_lines}
use Rattle.sweeps.proofs.Best.{Sound, fairs_sound}
use Rattle.start.proofs.Joining.{named, rooting_is}
use Rattle.start.proofs.Starting.{is_some_lem}
use Rattle.start.proofs.Inside.{start_working}
use Rattle.start.proofs.Beginning.{start_length, start_height}
use Rattle.adjust.specs.Answers.{Adjusted}
use Rattle.std.specs.Prelude.{Result, Ok, Err}
use Rattle.sweeps.specs.declared.Unsettled.{Unsettled}
use Rattle.sweeps.specs.declared.Unsettled.TheVariants as why

-- the same marks held, the same sweeps
module _ (f : ℕ → List Sight) (p q : ℕ → Bool) where
  sweep_held : (hs : List ℤ) (k : ℕ) → ((m : ℕ) → 0 < m → m ≤ k → p m ≡ q m) → sweep f p hs k ≡ sweep f q hs k
  unfolding sweep
  sweep_held hs zero e = refl
  sweep_held hs (suc k) e =
      ap (λ (s : Swept). visit (p (suc k)) (f (suc k)) (suc k) s) (sweep_held hs k (λ m l u. e m l (omega arith)))
      ∙ ap (λ (t : Bool). visit t (f (suc k)) (suc k) (sweep f q hs k)) (e (suc k) (omega arith) (omega arith))

  onward_held : (s : Swept) (n : ℕ) (more less : List ℤ → Settled) → ((hs : List ℤ) → more hs ≡ less hs) → onward s n more ≡ onward s n less
  onward_held (still hs) n more less e = refl
  onward_held (moved hs) n more less e = e hs
  onward_held (Swept.outside m) n more less e = refl

  from_held : (b : ℕ) → ((m : ℕ) → 0 < m → m ≤ b → p m ≡ q m) → (k n : ℕ) (hs : List ℤ)
      → settle_from f p b k n hs ≡ settle_from f q b k n hs
  unfolding settle_from
  from_held b e zero n hs = refl
  from_held b e (suc k) n hs =
      ap (λ (s : Swept). onward s n (λ gs. settle_from f p b k (suc n) gs)) (sweep_held hs b e)
      ∙ onward_held (sweep f q hs b) n (λ gs. settle_from f p b k (suc n) gs) (λ gs. settle_from f q b k (suc n) gs)
      (λ gs. from_held b e k (suc n) gs)

  settle_held : (b : ℕ) → ((m : ℕ) → 0 < m → m ≤ b → p m ≡ q m) → (hs : List ℤ) → settle f p b hs ≡ settle f q b hs
  unfolding settle
  settle_held b e hs = from_held b e max_sweeps 0 hs

-- an answer with nothing beside its number, and place or sweeps
answers_of : (a x : Adjusted) (hs : List ℤ) (o : Outcome) → a ≡ x → x ≡ answer_of (answered x hs) → answered a hs ≡ o → Answers a hs o
answers_of a x hs o e p q = record { is = q; whole = subst (λ (y : Adjusted). y ≡ answer_of (answered y hs)) (sym e) p ∙ ap answer_of q }

end_whole : (e : Result ℕ Unsettled) (hs : List ℤ) → end_answer e ≡ answer_of (answered (end_answer e) hs)
end_whole (Ok n) hs = refl
end_whole (Err (why.Outside m)) hs = refl
end_whole (Err why.StillMoving) hs = refl

-- the sweeps' own reason, told as a refusal
pub end_refusal : (e : Unsettled) → answer_by (Err (refusal_of e)) ≡ end_answer (Err e)
end_refusal (why.Outside m) = refl
end_refusal why.StillMoving = refl

-- an end of the sweeps as an answer
pub end_answer_lem : (e : Result ℕ Unsettled) (hs : List ℤ) → answered (end_answer e) hs ≡ ended (ended_at e hs)
end_answer_lem (Ok n) hs = refl
end_answer_lem (Err (why.Outside m)) hs = refl
end_answer_lem (Err why.StillMoving) hs = refl

module _ (lines held : List ℤ) (order best : List ℕ) (b n h : ℕ) (few : b ≤ most_marks) (good : Lines lines b n)
    (helds : HeldEntries held b h)
    (entered : Entered order best (tree b (standing lines))) (flagged : List Bool) (own : List ℤ)
    (g : Given (held_height held) flagged own b most_held_height) where
  pub held_in : HeldIn flagged own b
  held_in = record { few = few; flagged = g.flagged; owned = g.heighted; small = g.size }

  sound : Sound b (standing lines)
  sound = fairs_sound (fair_lines lines b n good)

  marks_in : length (tree b (standing lines)) ≡ b
  marks_in = size b (standing lines) sound.placed

  at_tree : (m : ℕ) → rooting lines order best b m ≡ rooted_by (tree b (standing lines)) m
  at_tree m =
      ap (λ (k : ℕ). rooting lines order best k m) (sym marks_in)
      ∙ rooting_is lines order best n (tree b (standing lines)) entered
      (λ e i l q. named lines b n good l (tree_line (standing lines) (grows b (standing lines) sound.placed) e i l q)) m

  held_flags : (m : ℕ) → 0 < m → m ≤ b → flags flagged m ≡ is_held held m
  unfolding is_held
  held_flags m l u =
      let e : suc (m - 1) ≡ m = omega arith in
      sym (is_some_lem (get_or flagged (m - 1) false) (get_or own (m - 1) (pos 0)))
      ∙ ap is_some (g.is (m - 1) (omega arith) ∙ ap (held_height held) e)

  module _ (z : List ℤ) (r : ℕ) (started : Started (rooting lines order best b) flagged own z b r) where
    places_are : rooting lines order best b ≡ rooted_by (tree b (standing lines))
    places_are = fun_ext at_tree

    begins : Started (rooted_by (tree b (standing lines))) flagged own z b r
    begins = subst (λ (at : ℕ → Rooted). Started at flagged own z b r) places_are started

    is_unheld : r ≡ unheld_piece (rooted_by (tree b (standing lines))) (held_height held) b
    is_unheld = (begins (held_height held) g).0

    -- 11
    pub unheld_answer : (a : Adjusted) (hs : List ℤ) → 0 < r → a ≡ refused_with (refusal 11 r) → Answers a hs (adjustment b held lines)
    unfolding adjustment
    unheld_answer a hs l e =
        answers_of a (refused_with (refusal 11 r)) hs (adjustment b held lines) e refl
        (ap (λ (x : Adjusted). answered x hs) e ∙ by r is_unheld l)
      where
        by : (k : ℕ) → k ≡ unheld_piece (rooted_by (tree b (standing lines))) (held_height held) b → 0 < k
            → refused 11 k ≡ unless_unheld (unheld_piece (rooted_by (tree b (standing lines))) (held_height held) b)
            (λ _. ended (settle (sights_of (standing lines)) (is_held held) b (start_heights b held lines)))
        by zero q l = absurd (omega arith)
        by (suc k) q l =
            ap (λ (m : ℕ). unless_unheld m (λ _. ended
            (settle (sights_of (standing lines)) (is_held held) b (start_heights b held lines)))) q

    module _ (none_unheld : r ≡ 0) where
      long : length z ≡ b
      long = (begins (held_height held) g).2

      each : (v : ℕ) → v < b → get_or z v (pos 0) ≡ start_of (rooted_by (tree b (standing lines))) (held_height held) b (suc v)
      each = (begins (held_height held) g).1 none_unheld

      begun : z ≡ start_heights b held lines
      begun =
          ext_get_or (pos 0) z (start_heights b held lines) (long ∙ sym (start_length b held lines))
          (λ i l.
          let k : i < b = omega (arith, long) in
          let e : suc i - 1 ≡ i = omega arith in
          each i k ∙ sym (start_height b held lines (suc i) (omega arith) k)
          ∙ ap (λ (x : ℕ). get_or (start_heights b held lines) x (pos 0)) e)

      pub working : Working z b
      working =
          subst (λ (x : List ℤ). Working x b) (sym begun) (start_working b n h held lines few good helds (sym is_unheld ∙ none_unheld))

      -- the sweeps, from the start
      pub settled_answer : (a : Adjusted) (e : Result ℕ Unsettled) (hs : List ℤ) → a ≡ end_answer e
          → ended_at e hs ≡ settle (sights_of (standing lines)) (flags flagged) b z → Answers a hs (adjustment b held lines)
      unfolding adjustment
      settled_answer a e hs ea es =
          answers_of a (end_answer e) hs (adjustment b held lines) ea (end_whole e hs)
          (ap (λ (x : Adjusted). answered x hs) ea ∙ end_answer_lem e hs
          ∙ ap ended (es ∙ settle_held (sights_of (standing lines)) (flags flagged) (is_held held) b held_flags z
          ∙ ap (settle (sights_of (standing lines)) (is_held held) b) begun)
          ∙ ap (λ (m : ℕ). unless_unheld m (λ _. ended (settle (sights_of (standing lines)) (is_held held) b (start_heights b held lines))))
          (sym none_unheld ∙ is_unheld))
