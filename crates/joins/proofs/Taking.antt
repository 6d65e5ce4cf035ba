-- What comes off, and what is merged, in the tables. Assumes nothing.
use Prim.Native.Nat.{ℕ, suc, ◌+◌, ◌-◌, ◌≤◌, ◌<◌}
use native.Mathlib.Omega.{arith}
use mathlib.Core.Path.{◌≡◌, sym, ◌∙◌, ap, subst}
use mathlib.Core.Logic.{◌⊎◌, inl, inr}
use mathlib.Core.Bool.{false}
use mathlib.Core.List.Memᴰ
use mathlib.Core.List.{List, [], ◌∷◌, ◌++◌, append_assoc, append-nil, Memᴰ}
use lib.ListN.{length, take, get_or, length-append, length-map}
use lib.Seq.{take_at}
use borrow.Rule.Slice.PartMut.{mid_of}
use Rattle.std.specs.Prelude.{Option, Some, IsSome}
use Rattle.std.specs.List.{position}
use Rattle.book.specs.Limits.{most_lines}
use Rattle.links.specs.Link.{Link, read_from, read_to, joined, begun}
use Rattle.links.specs.Ends.{ends_at, has_end, TwoEnds}
use Rattle.links.specs.Sketch.{Sketch, sketch, spur_off, loop_off, merged_at}
use Rattle.links.proofs.Ends.{FirstOf, first_or_none, ends_of_none, merges_first}
use Rattle.links.proofs.OneStep.{spur_off_lem, loop_off_lem}
use Rattle.joins.specs.Row.{link_row, Small, row_has_end, count_of}
use Rattle.joins.specs.Tables.{Holds, LinkAt, Becomes, Behind, GoesBehind, Two, BecomeOne}
use Rattle.joins.specs.Step.{Tabled, FirstLoop}
use Rattle.joins.specs.declared.Counts.{Counts}
use Rattle.joins.proofs.Rows.{has_end_of}
use Rattle.joins.proofs.Tables.{rows_of, rows_append}
use Rattle.joins.proofs.Moves.{link_at, is_behind, are_two, count_at}
use Rattle.joins.proofs.Parts.{mid_at}
use Rattle.joins.proofs.Found.{place_of_lem}

module _ {s : Sketch} {rows runs : List ℕ} {c : Counts} (t : Tabled s rows runs c) where
  pub links_small : (x : Link) → Memᴰ x s.links → Small x
  links_small x i = t.held.small x (Memᴰ.append_left s.loops (Memᴰ.append_left s.spurs i))

  -- the rows of the links that are left
  rows_four : rows ≡ rows_of s.links ++ (rows_of s.spurs ++ (rows_of s.loops ++ t.held.rows_behind))
  rows_four =
      t.held.rows_are ∙ rw (rows_append (s.links ++ s.spurs) s.loops, rows_append s.links s.spurs) (simp append_assoc)

  pub link_rows : take c.links rows ≡ rows_of s.links
  link_rows =
      ap (take c.links) rows_four
      ∙ take_at (rows_of s.links) (rows_of s.spurs ++ (rows_of s.loops ++ t.held.rows_behind)) c.links
      (length-map s.links link_row ∙ sym t.links_are)

  -- all of them have a row
  pub rows_enough : c.links + c.spurs + c.loops ≤ length rows
  rows_enough =
      omega (
        arith,
        t.links_are,
        t.spurs_are,
        t.loops_are,
        ap length rows_four,
        length-append (rows_of s.links) (rows_of s.spurs ++ (rows_of s.loops ++ t.held.rows_behind)),
        length-append (rows_of s.spurs) (rows_of s.loops ++ t.held.rows_behind),
        length-append (rows_of s.loops) t.held.rows_behind,
        length-map s.links link_row,
        length-map s.spurs link_row,
        length-map s.loops link_row,
      )

-- ---- a link that is the first of which a test holds

module _ {s : Sketch} {rows runs : List ℕ} {c : Counts} (t : Tabled s rows runs c) (before : List Link) (x : Link) (after : List Link)
    (are : s.links ≡ before ++ x ∷ after) where
  -- the tables around it
  held_around : Holds (before ++ x ∷ (after ++ (s.spurs ++ s.loops))) rows runs
  held_around =
      subst (λ (l : List Link). Holds l rows runs)
      (ap (λ (l : List Link). (l ++ s.spurs) ++ s.loops) are ∙ simp append_assoc) t.held

  -- and as it is moved: behind the spurs, and behind all
  held_spurs : (y : Link) {rows' runs' : List ℕ} → Holds (before ++ y ∷ (after ++ (s.spurs ++ s.loops))) rows' runs'
      → Holds (before ++ ((y ∷ (after ++ s.spurs)) ++ s.loops)) rows' runs'
  held_spurs y {rows' = rows'} {runs' = runs'} h =
      subst (λ (l : List Link). Holds (before ++ (y ∷ l)) rows' runs') (sym (append_assoc after s.spurs s.loops)) h

  pub held_all : (y : Link) {rows' runs' : List ℕ} → Holds (before ++ y ∷ (after ++ (s.spurs ++ s.loops))) rows' runs'
      → Holds (before ++ ((y ∷ (after ++ (s.spurs ++ s.loops))) ++ [])) rows' runs'
  held_all y {rows' = rows'} {runs' = runs'} h =
      subst (λ (l : List Link). Holds (before ++ l) rows' runs') (sym (append-nil (y ∷ (after ++ (s.spurs ++ s.loops))))) h

  links_count : c.links ≡ suc (length before + length after)
  links_count = t.links_are ∙ ap length are ∙ length-append before (x ∷ after) ∙ omega arith

-- ---- 1. the spur at mark m

module _ (m : ℕ) {s : Sketch} {rows runs : List ℕ} {c : Counts} (t : Tabled s rows runs c) (some : 0 < ends_at m s.links) where
  first_end : FirstOf (has_end m) s.links
  first_end = go (first_or_none (has_end m) s.links)
    where
      go : FirstOf (has_end m) s.links ⊎ ((y : Link) → Memᴰ y s.links → has_end m y ≡ false) → FirstOf (has_end m) s.links
      go (inl f) = f
      go (inr none) = absurd (omega (arith, ends_of_none m s.links none))

  abbrev f : FirstOf (has_end m) s.links
  f = first_end

  spur_place : position (row_has_end m) (take c.links rows) ≡ Some (length f.before)
  spur_place =
      place_of_lem (has_end m) (row_has_end m) (λ x k. has_end_of x k m) f.before f.its f.after
      (λ y i. links_small t y (subst (Memᴰ y) (sym f.links_are) i)) f.none_before f.holds (take c.links rows)
      (link_rows t ∙ ap rows_of f.links_are)

  -- there is such a row
  pub spur_there : (found : Option ℕ) → found ≡ position (row_has_end m) (take c.links rows) → IsSome found
  spur_there found e = rw (e ∙ spur_place)

  -- where it is found
  module _ (i : ℕ) (found : Option ℕ) (is_found : found ≡ position (row_has_end m) (take c.links rows)) (at : found ≡ Some i) where
    at_spur : length f.before ≡ i
    at_spur = let p = sym spur_place ∙ sym is_found ∙ at in cc

    around : Holds (f.before ++ f.its ∷ (f.after ++ (s.spurs ++ s.loops))) rows runs
    around = held_around t f.before f.its f.after f.links_are

    pub spur_asked : length rows ≤ most_lines → LinkAt i rows runs
    spur_asked few = link_at f.before f.its (f.after ++ (s.spurs ++ s.loops)) rows runs i at_spur around few

    -- read from its mark
    module _ (rows₁ runs₁ : List ℕ) (b : Becomes (λ x. read_from m x) i rows runs rows₁ runs₁) where
      read : Holds (f.before ++ ((read_from m f.its ∷ (f.after ++ s.spurs)) ++ s.loops)) rows₁ runs₁
      read =
          held_spurs t f.before f.its f.after f.links_are (read_from m f.its)
          (b f.before f.its (f.after ++ (s.spurs ++ s.loops)) at_spur around)

      up_to : i + suc (length (f.after ++ s.spurs)) ≡ c.links + c.spurs
      up_to =
          omega (
            arith,
            at_spur,
            links_count t f.before f.its f.after f.links_are,
            t.spurs_are,
            length-append f.after s.spurs,
          )

      pub spur_moves : length rows₁ ≤ most_lines → Behind i (c.links + c.spurs) rows₁ runs₁
      spur_moves few =
          is_behind f.before (read_from m f.its) (f.after ++ s.spurs) s.loops rows₁ runs₁ i (c.links + c.spurs)
          at_spur up_to read few

      -- and moved behind the spurs
      pub spur_taken : (rows₂ runs₂ : List ℕ) → GoesBehind i (c.links + c.spurs) rows₁ runs₁ rows₂ runs₂
          → Tabled (spur_off m s) rows₂ runs₂ (record { links = c.links - 1; spurs = c.spurs + 1; loops = c.loops })
      spur_taken rows₂ runs₂ g =
          subst (λ (z : Sketch). Tabled z rows₂ runs₂ (record { links = c.links - 1; spurs = c.spurs + 1; loops = c.loops }))
          (sym (spur_off_lem s f.before f.its f.after f.links_are m f.none_before f.holds)) (record {
            held = subst (λ (l : List Link). Holds l rows₂ runs₂) (simp append_assoc)
                (g f.before (read_from m f.its) (f.after ++ s.spurs) s.loops at_spur up_to read);
            links_are = omega (arith, links_count t f.before f.its f.after f.links_are, length-append f.before f.after);
            spurs_are = omega (arith, t.spurs_are, length-append s.spurs (read_from m f.its ∷ []));
            loops_are = t.loops_are;
          })

-- ---- 2. the self-closing loop at place i

module _ {i : ℕ} {s : Sketch} {rows runs : List ℕ} {c : Counts} (t : Tabled s rows runs c) {x : Link} (f : FirstLoop i s.links x) where
  loop_around : Holds (f.before ++ x ∷ (f.after ++ (s.spurs ++ s.loops))) rows runs
  loop_around = held_around t f.before x f.after f.links_are

  pub loop_asked : length rows ≤ most_lines → LinkAt i rows runs
  loop_asked few = link_at f.before x (f.after ++ (s.spurs ++ s.loops)) rows runs i f.at loop_around few

  pub loop_lines : 0 < length x.way → 0 < count_of (get_or rows i 0)
  loop_lines h = omega (arith, count_at f.before x (f.after ++ (s.spurs ++ s.loops)) rows runs i f.at loop_around)

  module _ (runs₁ : List ℕ) (b : Becomes (λ x. begun x) i rows runs rows runs₁) where
    loop_begun : Holds (f.before ++ ((begun x ∷ (f.after ++ (s.spurs ++ s.loops))) ++ [])) rows runs₁
    loop_begun =
        held_all t f.before x f.after f.links_are (begun x)
        (b f.before x (f.after ++ (s.spurs ++ s.loops)) f.at loop_around)

    loop_up_to : i + suc (length (f.after ++ (s.spurs ++ s.loops))) ≡ c.links + c.spurs + c.loops
    loop_up_to =
        omega (
          arith,
          f.at,
          links_count t f.before x f.after f.links_are,
          t.spurs_are,
          t.loops_are,
          length-append f.after (s.spurs ++ s.loops),
          length-append s.spurs s.loops,
        )

    pub loop_moves : length rows ≤ most_lines → Behind i (c.links + c.spurs + c.loops) rows runs₁
    loop_moves few =
        is_behind f.before (begun x) (f.after ++ (s.spurs ++ s.loops)) [] rows runs₁ i (c.links + c.spurs + c.loops) f.at
        loop_up_to loop_begun few

    pub loop_taken : (rows₂ runs₂ : List ℕ) → GoesBehind i (c.links + c.spurs + c.loops) rows runs₁ rows₂ runs₂
        → Tabled (loop_off x s) rows₂ runs₂ (record { links = c.links - 1; spurs = c.spurs; loops = c.loops + 1 })
    loop_taken rows₂ runs₂ g =
        subst (λ (z : Sketch). Tabled z rows₂ runs₂ (record { links = c.links - 1; spurs = c.spurs; loops = c.loops + 1 }))
        (sym (loop_off_lem s f.before x f.after f.links_are f.none_before f.closes)) (record {
          held = subst (λ (l : List Link). Holds l rows₂ runs₂) (simp (append_assoc, append-nil))
              (g f.before (begun x) (f.after ++ (s.spurs ++ s.loops)) [] f.at loop_up_to loop_begun);
          links_are = omega (arith, links_count t f.before x f.after f.links_are, length-append f.before f.after);
          spurs_are = t.spurs_are;
          loops_are = omega (arith, t.loops_are, length-append s.loops (begun x ∷ []));
        })

-- ---- 3. the merge at mark m

module _ (m : ℕ) {s : Sketch} {rows runs : List ℕ} {c : Counts} (t : Tabled s rows runs c) (two : TwoEnds m s.links) where
  abbrev off : List Link
  off = s.spurs ++ s.loops

  -- the links behind the second of the two, and what came off
  abbrev rest : List Link
  rest = two.after ++ off

  merge_around : Holds (two.before ++ (two.one ∷ (two.between ++ (two.other ∷ rest)))) rows runs
  merge_around =
      subst (λ (l : List Link). Holds l rows runs)
      (ap (λ (l : List Link). (l ++ s.spurs) ++ s.loops) two.links_are ∙ simp append_assoc)
      t.held

  count : c.links ≡ length two.before + suc (length two.between + suc (length two.after))
  count =
      t.links_are ∙ ap length two.links_are ∙ length-append two.before (two.one ∷ (two.between ++ (two.other ∷ two.after)))
      ∙ omega (arith, length-append two.between (two.other ∷ two.after))

  one_place : position (row_has_end m) (take c.links rows) ≡ Some (length two.before)
  one_place =
      place_of_lem (has_end m) (row_has_end m) (λ x k. has_end_of x k m) two.before two.one (two.between ++ (two.other ∷ two.after))
      (λ y i. links_small t y (subst (Memᴰ y) (sym two.links_are) i)) two.none_before two.one_there (take c.links rows)
      (link_rows t ∙ ap rows_of two.links_are)

  pub one_there : (found : Option ℕ) → found ≡ position (row_has_end m) (take c.links rows) → IsSome found
  one_there found e = rw (e ∙ one_place)

  module _ (i : ℕ) (found : Option ℕ) (is_found : found ≡ position (row_has_end m) (take c.links rows)) (at : found ≡ Some i) where
    at_one : length two.before ≡ i
    at_one = let p = sym one_place ∙ sym is_found ∙ at in cc

    -- the rows behind the first
    abbrev behind : List ℕ
    behind = mid_of (i + 1) (c.links - (i + 1)) rows

    rows_next : behind ≡ rows_of (two.between ++ (two.other ∷ two.after))
    rows_next =
        mid_at (rows_of (two.before ++ (two.one ∷ []))) (rows_of (two.between ++ (two.other ∷ two.after)))
        (rows_of s.spurs ++ (rows_of s.loops ++ t.held.rows_behind)) rows
        (rows_four t ∙ rw (
          two.links_are,
          rows_append two.before (two.one ∷ []),
          rows_append two.before (two.one ∷ (two.between ++ (two.other ∷ two.after))),
        ) (simp append_assoc))
        (i + 1) (c.links - (i + 1))
        (length-map (two.before ++ (two.one ∷ [])) link_row ∙ length-append two.before (two.one ∷ []) ∙ omega (arith, at_one))
        (length-map (two.between ++ (two.other ∷ two.after)) link_row ∙ length-append two.between (two.other ∷ two.after)
        ∙ omega (arith, at_one, count))

    other_place : position (row_has_end m) behind ≡ Some (length two.between)
    other_place =
        place_of_lem (has_end m) (row_has_end m) (λ x k. has_end_of x k m) two.between two.other two.after
        (λ y i. links_small t y (subst (Memᴰ y) (sym two.links_are) (Memᴰ.append_right two.before (Memᴰ.tail i))))
        two.none_between two.other_there behind rows_next

    pub other_there : (next : Option ℕ) → next ≡ position (row_has_end m) behind → IsSome next
    other_there next e = rw (e ∙ other_place)

    -- the second, among them
    module _ (q : ℕ) (next : Option ℕ) (is_next : next ≡ position (row_has_end m) behind) (there : next ≡ Some q) where
      other_found : q ≡ length two.between
      other_found = let p = sym there ∙ is_next ∙ other_place in cc

      pub one_asked : length rows ≤ most_lines → LinkAt i rows runs
      one_asked few = link_at two.before two.one (two.between ++ (two.other ∷ rest)) rows runs i at_one merge_around few

      -- the first is read to the mark
      module _ (rows₁ runs₁ : List ℕ) (b : Becomes (λ x. read_to m x) i rows runs rows₁ runs₁) where
        abbrev one : Link
        one = read_to m two.one

        abbrev other : Link
        other = read_from m two.other

        abbrev before_other : List Link
        before_other = two.before ++ (one ∷ two.between)

        read_one : Holds (before_other ++ two.other ∷ rest) rows₁ runs₁
        read_one =
            subst (λ (l : List Link). Holds l rows₁ runs₁) (sym (append_assoc two.before (one ∷ two.between) (two.other ∷ rest)))
            (b two.before two.one (two.between ++ (two.other ∷ rest)) at_one merge_around)

        at_other : length before_other ≡ i + 1 + q
        at_other = length-append two.before (one ∷ two.between) ∙ omega (arith, other_found, at_one)

        pub other_asked : length rows₁ ≤ most_lines → LinkAt (i + 1 + q) rows₁ runs₁
        other_asked few = link_at before_other two.other rest rows₁ runs₁ (i + 1 + q) at_other read_one few

        -- and the second from it
        module _ (rows₂ runs₂ : List ℕ) (d : Becomes (λ x. read_from m x) (i + 1 + q) rows₁ runs₁ rows₂ runs₂) where
          read_both : Holds (two.before ++ (one ∷ (two.between ++ (other ∷ rest)))) rows₂ runs₂
          read_both =
              subst (λ (l : List Link). Holds l rows₂ runs₂) (append_assoc two.before (one ∷ two.between) (other ∷ rest))
              (d before_other two.other rest at_other read_one)

          abbrev all : ℕ
          all = c.links + c.spurs + c.loops

          to_other : i + suc (length two.between) ≡ i + 1 + q
          to_other = omega (arith, other_found)

          to_end : i + 1 + q + suc (length rest) ≡ all
          to_end =
              omega (
                arith,
                other_found,
                at_one,
                count,
                t.spurs_are,
                t.loops_are,
                length-append two.after off,
                length-append s.spurs s.loops,
              )

          pub both_asked : length rows₂ ≤ most_lines → length runs₂ ≤ most_lines
              → Two i (i + 1 + q) (c.links + c.spurs + c.loops) rows₂ runs₂
          both_asked few few_runs =
              are_two two.before one two.between other rest rows₂ runs₂ i (i + 1 + q) all at_one to_other to_end
              read_both few few_runs

          pub merged : (rows₃ runs₃ : List ℕ) → BecomeOne i (i + 1 + q) (c.links + c.spurs + c.loops) rows₂ runs₂ rows₃ runs₃
              → Tabled (sketch (merged_at m s.links) s.spurs s.loops) rows₃ runs₃
              (record { links = c.links - 1; spurs = c.spurs; loops = c.loops })
          merged rows₃ runs₃ g =
              subst (λ (l : List Link). Tabled (sketch l s.spurs s.loops) rows₃ runs₃
              (record { links = c.links - 1; spurs = c.spurs; loops = c.loops })) (sym its_links) (record {
                held = subst (λ (l : List Link). Holds l rows₃ runs₃) (simp append_assoc)
                    (g two.before one two.between other rest at_one to_other to_end read_both);
                links_are = omega (
                  arith,
                  count,
                  length-append two.before (joined one other ∷ (two.between ++ two.after)),
                  length-append two.between two.after,
                );
                spurs_are = t.spurs_are;
                loops_are = t.loops_are;
              })
            where
              its_links : merged_at m s.links ≡ two.before ++ (joined one other ∷ (two.between ++ two.after))
              its_links =
                  ap (merged_at m) two.links_are
                  ∙ merges_first m two.before two.one two.between two.other two.after two.none_before two.one_there
                  two.none_between two.other_there
