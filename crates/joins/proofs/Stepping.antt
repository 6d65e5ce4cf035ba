-- Which step the tables show: the first there is. Assumes nothing.
use Prim.Native.Nat.{ℕ, zero, suc, ◌≤◌, ◌<◌}
use native.Mathlib.Omega.{arith}
use mathlib.Core.Path.{◌≡◌, refl, sym, ◌∙◌, ap, subst}
use mathlib.Core.Logic.{◌⊎◌, inl, inr}
use mathlib.Core.Bool.{Bool, false}
use mathlib.Core.List.{List, [], ◌∷◌, ◌++◌, Memᴰ}
use mathlib.Core.Option.{none}
use lib.Dec.{eqb}
use lib.ListN.{length, take, get_or, length-append}
use borrow.Author.Tests.{eqb-true, eqb-false, ne_eqb}
use Rattle.std.specs.Prelude.{Option, Some, None}
use Rattle.std.specs.List.{position, position_or_len}
use Rattle.std.proofs.lemmas.Grind.{common_steps}
use Rattle.std.proofs.lemmas.List.Sums.{fails_before_first}
use Rattle.std.proofs.lemmas.List.Quantifiers.{position-Some}
use Rattle.network.specs.Standing.{Line}
use Rattle.links.specs.Link.{Link, closes_on_itself}
use Rattle.links.specs.Ends.{ends_at, TwoEnds, first_that}
use Rattle.links.specs.Sketch.{Sketch, step}
use Rattle.links.specs.Steps.{Lowest, NoMark, NoLoop}
use Rattle.links.specs.Stage.{Stage}
use Rattle.links.proofs.Among.{it_is_in}
use Rattle.links.proofs.Ends.{FirstOf, first_or_none, finds_first, finds_none, ends_of_none, two_ends}
use Rattle.links.proofs.Shapes.{some_lines}
use Rattle.links.proofs.OneStep.{step_spur, step_loop, step_merge, step_none}
use Rattle.joins.specs.Row.{Small, row_ends, row_closes, Between}
use Rattle.joins.specs.Step.{Tabled, EndIn, SpurTaken, FirstLoop, LoopIn, LoopTaken, TwoIn, Merged}
use Rattle.joins.specs.declared.Counts.{Counts}
use Rattle.joins.proofs.Rows.{first_of_lem, last_of_lem, closes_of, ends_of}
use Rattle.joins.proofs.Tables.{rows_of}
use Rattle.joins.proofs.Taking.{links_small, link_rows}
use Rattle.joins.proofs.Found.{place_of_lem, no_place}

-- where no number passes, each fails
not_found : (p : ℕ → Bool) (xs : List ℕ) (j : ℕ) → position p xs ≡ None → j < length xs → p (get_or xs j 0) ≡ false
not_found p xs j e h =
    let past : length xs ≤ position_or_len p xs = grind (arith, common_steps) in
    fails_before_first p xs j 0 (omega arith)

-- rows of links whose marks are below n
between_rows : (n : ℕ) (xs : List Link) → ((x : Link) → Memᴰ x xs → Small x)
    → ((x : Link) → Memᴰ x xs → (x.first < n) × (x.last < n)) → Between (rows_of xs) n
between_rows n [] s m i h = absurd (omega arith)
between_rows n (x ∷ xs) s m zero h =
    let k = s x (Memᴰ.head refl) in
    let b = m x (Memᴰ.head refl) in
    (omega (arith, first_of_lem x k, b.0), omega (arith, last_of_lem x k, b.1))
between_rows n (x ∷ xs) s m (suc i) h = between_rows n xs (λ y j. s y (Memᴰ.tail j)) (λ y j. m y (Memᴰ.tail j)) i (omega arith)

some_ends : (m : ℕ) (xs : List Link) → 0 < ends_at m xs → 0 < length xs
unfolding ends_at
some_ends m [] h = absurd (omega arith)
some_ends m (x ∷ xs) h = omega arith

module _ {b : ℕ} {lines : List Line} {s : Sketch} {rows runs : List ℕ} {c : Counts} (st : Stage b lines s) (t : Tabled s rows runs c) where
  pub marks_between : (n : ℕ) → n ≡ suc b → Between (take c.links rows) n
  marks_between n e =
      subst (λ (l : List ℕ). Between l n) (sym (link_rows t))
      (between_rows n s.links (links_small t)
      (λ x i. let d = (st.link_way x i).drawn in (omega (arith, d.first_high), omega (arith, d.last_high))))

  -- the ends, counted
  module _ {n : ℕ} (n_is : n ≡ suc b) (ends : List ℕ) (as_long : length ends ≡ n)
      (counted : (m : ℕ) → m < n → get_or ends m 0 ≡ row_ends m (take c.links rows)) where
    end_count : (m : ℕ) → m < length ends → get_or ends m 0 ≡ ends_at m s.links
    end_count m h = counted m (omega arith) ∙ ap (row_ends m) (link_rows t) ∙ ends_of m s.links (links_small t)

    -- mark 0 is none, and has no ends
    none_at_zero : ends_at 0 s.links ≡ 0
    none_at_zero =
        ends_of_none 0 s.links (λ y i. let d = (st.link_way y i).drawn in
        rw (ne_eqb y.first 0 (λ e. absurd (omega (arith, d.first_low))), ne_eqb y.last 0 (λ e. absurd (omega (arith, d.last_low)))))

    lowest_at : (n m : ℕ) → 0 < n → position (λ k. eqb k n) ends ≡ Some m → Lowest b n s.links m
    lowest_at n m some found =
        let p = position-Some (λ k. eqb k n) ends m 0 found in
        let has : ends_at m s.links ≡ n = sym (end_count m p.0) ∙ eqb-true (get_or ends m 0) n p.1 in record {
          low = low m has;
          high = omega (arith, p.0, as_long, n_is);
          has_them = has;
          no_lower = λ j z h e. eqb-false (get_or ends j 0) n (p.2 j h) (end_count j (omega (arith, p.0)) ∙ e);
        }
      where
        low : (m : ℕ) → ends_at m s.links ≡ n → 0 < m
        low zero e = absurd (omega (arith, none_at_zero))
        low (suc m) e = omega arith

    none_with : (n : ℕ) → position (λ k. eqb k n) ends ≡ None → NoMark b n s.links
    none_with n f m low high e =
        let there : m < length ends = omega (arith, as_long, n_is) in
        eqb-false (get_or ends m 0) n (not_found (λ k. eqb k n) ends m f there) (end_count m there ∙ e)

    -- 1. a spur
    module _ (found : Option ℕ) (is_found : found ≡ position (λ n. eqb n 1) ends) where
      spur_lowest : (m : ℕ) → found ≡ Some m → Lowest b 1 s.links m
      spur_lowest m e = lowest_at 1 m (omega arith) (sym is_found ∙ e)

      spur_end : (m : ℕ) → found ≡ Some m → 0 < ends_at m s.links
      spur_end m e = omega (arith, (spur_lowest m e).has_them)

      pub spur_in : (m : ℕ) → found ≡ Some m → EndIn m rows runs c
      spur_in m e = record {
        sketch = s;
        tabled = t;
        some_link = omega (arith, t.links_are, some_ends m s.links (spur_end m e));
        some_end = spur_end m e;
      }

      pub spur_done : (m : ℕ) → found ≡ Some m → (rows' runs' : List ℕ) (c' : Counts) → SpurTaken m c rows runs rows' runs' c'
          → Tabled (step b s) rows' runs' c'
      spur_done m e rows' runs' c' taken =
          subst (λ (z : Sketch). Tabled z rows' runs' c') (sym (step_spur b s m (spur_lowest m e))) (taken s t (spur_end m e))

      -- none
      module _ (no : found ≡ None) where
        no_spur : NoMark b 1 s.links
        no_spur = none_with 1 (sym is_found ∙ no)

        -- 2. a self-closing loop
        module _ (closed : Option ℕ) (is_closed : closed ≡ position row_closes (take c.links rows)) where
          abbrev Either : Type 0
          Either = FirstOf closes_on_itself s.links ⊎ ((y : Link) → Memᴰ y s.links → closes_on_itself y ≡ false)

          none_there : ((y : Link) → Memᴰ y s.links → closes_on_itself y ≡ false) → closed ≡ None
          none_there f =
              is_closed ∙ no_place closes_on_itself row_closes closes_of s.links (links_small t) f (take c.links rows) (link_rows t)

          some_place : (w : FirstOf closes_on_itself s.links) → closed ≡ Some (length w.before)
          some_place w =
              is_closed ∙ place_of_lem closes_on_itself row_closes closes_of w.before w.its w.after
              (λ y i. links_small t y (subst (Memᴰ y) (sym w.links_are) i)) w.none_before w.holds (take c.links rows)
              (link_rows t ∙ ap rows_of w.links_are)

          module _ (i : ℕ) (at : closed ≡ Some i) where
            loop_found : FirstOf closes_on_itself s.links
            loop_found = go (first_or_none closes_on_itself s.links)
              where
                go : Either → FirstOf closes_on_itself s.links
                go (inl w) = w
                go (inr f) = let p = sym at ∙ none_there f in cc

            abbrev w : FirstOf closes_on_itself s.links
            w = loop_found

            loop_first : FirstLoop i s.links w.its
            loop_first = record {
              before = w.before;
              after = w.after;
              links_are = w.links_are;
              at = let p = sym (some_place w) ∙ at in cc;
              closes = w.holds;
              none_before = w.none_before;
            }

            pub loop_in : LoopIn i rows runs c
            loop_in = record {
              sketch = s;
              tabled = t;
              its = w.its;
              first = loop_first;
              some_link = omega (arith, t.links_are, ap length w.links_are, length-append w.before (w.its ∷ w.after));
              some_line = some_lines w.its.way (st.link_way w.its
                  (subst (Memᴰ w.its) (sym w.links_are) (it_is_in w.before w.its w.after))).drawn.some_line;
            }

            pub loop_done : (rows' runs' : List ℕ) (c' : Counts) → LoopTaken i c rows runs rows' runs' c' → Tabled (step b s) rows' runs' c'
            loop_done rows' runs' c' taken =
                subst (λ (z : Sketch). Tabled z rows' runs' c')
                (sym (step_loop b s no_spur w.its (ap (first_that closes_on_itself) w.links_are
                ∙ finds_first closes_on_itself w.before w.its w.after w.none_before w.holds)))
                (taken s t w.its loop_first)

          -- none
          module _ (none_closed : closed ≡ None) where
            none_closes : (y : Link) → Memᴰ y s.links → closes_on_itself y ≡ false
            none_closes = go (first_or_none closes_on_itself s.links)
              where
                go : Either → (y : Link) → Memᴰ y s.links → closes_on_itself y ≡ false
                go (inl w) = let p = sym (some_place w) ∙ none_closed in cc
                go (inr f) = f

            no_loop : NoLoop s.links
            no_loop y i = eqb-false y.first y.last (none_closes y i)

            none_found : first_that closes_on_itself s.links ≡ none
            none_found = finds_none closes_on_itself s.links none_closes

            -- 3. a merge
            module _ (two : Option ℕ) (is_two : two ≡ position (λ n. eqb n 2) ends) where
              merge_lowest : (m : ℕ) → two ≡ Some m → Lowest b 2 s.links m
              merge_lowest m e = lowest_at 2 m (omega arith) (sym is_two ∙ e)

              merge_two : (m : ℕ) → two ≡ Some m → TwoEnds m s.links
              merge_two m e = two_ends m s.links (merge_lowest m e).has_them no_loop

              pub two_in : (m : ℕ) → two ≡ Some m → TwoIn m rows runs c
              two_in m e = let w = merge_two m e in record {
                sketch = s;
                tabled = t;
                some_link = omega (
                  arith,
                  t.links_are,
                  ap length w.links_are,
                  length-append w.before (w.one ∷ (w.between ++ w.other ∷ w.after)),
                );
                two = w;
              }

              pub merge_done : (m : ℕ) → two ≡ Some m → (rows' runs' : List ℕ) (c' : Counts) → Merged m c rows runs rows' runs' c'
                  → Tabled (step b s) rows' runs' c'
              merge_done m e rows' runs' c' merged =
                  subst (λ (z : Sketch). Tabled z rows' runs' c') (sym (step_merge b s no_spur none_found m (merge_lowest m e)))
                  (merged s t (merge_two m e))

              -- none is left
              pub none_done : two ≡ None → Tabled (step b s) rows runs c
              none_done h =
                  subst (λ (z : Sketch). Tabled z rows runs c)
                  (sym (step_none b s no_spur none_found (none_with 2 (sym is_two ∙ h)))) t
