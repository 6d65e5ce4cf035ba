-- What becomes of the tables when a link is turned, begun elsewhere, moved or joined to another. Assumes nothing.
use Prim.Native.Nat.{ℕ, suc, ◌+◌, ◌-◌, ◌≤◌, ◌<◌}
use native.Mathlib.Omega.{arith}
use mathlib.Core.Path.{◌≡◌, refl, sym, ◌∙◌, ap, ap₂, subst}
use mathlib.Core.Logic.{◌⊎◌, inl, inr}
use mathlib.Core.Bool.{Bool, true, false, cond}
use mathlib.Core.List.Memᴰ
use mathlib.Core.List.{List, [], ◌∷◌, ◌++◌, append_assoc, append-nil, Memᴰ}
use lib.ListN.{length, length-append, length-map, take, get_or, set}
use lib.Seq.{take_at, drop_at, get_or_at, set_at, set-get_or}
use borrow.Rule.Slice.PartMut.{mid_of, put_mid}
use Rattle.book.specs.Limits.{most_lines}
use Rattle.network.specs.Walk.{Pass}
use Rattle.network.specs.Codes.{codes}
use Rattle.links.specs.Link.{Link, turned, begun, begun_with, lowest_line, joined}
use Rattle.links.proofs.Turning.{turned_count}
use Rattle.links.proofs.Begun.{begun_count}
use Rattle.joins.specs.Row.{row_limit, row_of, first_of, last_of, count_of, link_row, Small, row_lines}
use Rattle.joins.specs.Code.{turned_codes, rotated, codes_in}
use Rattle.joins.specs.Tables.{Holds, LinkAt, Becomes, Behind, Two}
use Rattle.joins.proofs.Codes.{codes_length, codes_append, codes_turned, codes_in_append}
use Rattle.joins.proofs.Rows.{first_of_lem, last_of_lem, count_of_lem, lines_of}
use Rattle.joins.proofs.Parts.{mid_at, put_at}
use Rattle.joins.proofs.Tables.{rows_of, rows_append, small_part, rows_later, runs_later, rows_parts, runs_parts, rows_front}
use Rattle.joins.proofs.Tables.{begin_at, part_lines, rows_in_part, put_part}

-- the run of one link
pub one_run : (x : Link) → codes_in (x ∷ []) ≡ codes x.way
unfolding codes_in
one_run x = append-nil (codes x.way)

one_small : (x : Link) → Small x → (y : Link) → Memᴰ y (x ∷ []) → Small y
one_small x s y i = rw (Memᴰ.eq_of_singleton i) s

-- ---- a link at place i

module _ (before : List Link) (x : Link) (after : List Link) (rows runs : List ℕ) (i : ℕ) (at_i : length before ≡ i)
    (h : Holds (before ++ x ∷ after) rows runs) where
  small_at : Small x
  small_at = small_part before (x ∷ []) after rows runs h x (Memᴰ.head refl)

  pub row_at : get_or rows i 0 ≡ link_row x
  row_at =
      ap (λ (l : List ℕ). get_or l i 0) (rows_parts before (x ∷ []) after rows runs h)
      ∙ get_or_at (rows_of before) (link_row x) (rows_later before (x ∷ []) after rows runs h) 0 i
      (rows_front before (x ∷ []) after rows runs h ∙ at_i)

  pub first_at : first_of (get_or rows i 0) ≡ x.first
  first_at = ap first_of row_at ∙ first_of_lem x small_at

  pub last_at : last_of (get_or rows i 0) ≡ x.last
  last_at = ap last_of row_at ∙ last_of_lem x small_at

  pub count_at : count_of (get_or rows i 0) ≡ length x.way
  count_at = ap count_of row_at ∙ count_of_lem x small_at

  run_begins : row_lines (take i rows) ≡ length (codes_in before)
  run_begins = begin_at before (x ∷ []) after rows runs h i at_i

  run_parts : runs ≡ codes_in before ++ (codes x.way ++ runs_later before (x ∷ []) after rows runs h)
  run_parts =
      runs_parts before (x ∷ []) after rows runs h
      ∙ ap (λ (l : List ℕ). codes_in before ++ (l ++ runs_later before (x ∷ []) after rows runs h)) (one_run x)

  pub link_at : length rows ≤ most_lines → LinkAt i rows runs
  link_at few = record {
    few = few;
    there = omega (
      arith,
      ap length (rows_parts before (x ∷ []) after rows runs h),
      rows_front before (x ∷ []) after rows runs h,
      length-append (rows_of before) (link_row x ∷ rows_later before (x ∷ []) after rows runs h),
    );
    marked = omega (arith, first_at, small_at.first);
    room = omega (
      arith,
      count_at,
      run_begins,
      ap length run_parts,
      codes_length x.way,
      length-append (codes_in before) (codes x.way ++ runs_later before (x ∷ []) after rows runs h),
      length-append (codes x.way) (runs_later before (x ∷ []) after rows runs h),
    );
  }

  -- another row and another run in their places
  module _ (y : Link) (s : Small y) (a n : ℕ) (is_a : a ≡ row_lines (take i rows)) (is_n : n ≡ count_of (get_or rows i 0)) where
    abbrev m : ℕ
    m = a + n - a

    run_starts : length (codes_in before) ≡ a
    run_starts = sym (is_a ∙ run_begins)

    run_count : length (codes x.way) ≡ m
    run_count = codes_length x.way ∙ omega (arith, is_n, count_at)

    pub run_at : mid_of a m runs ≡ codes x.way
    run_at = mid_at (codes_in before) (codes x.way) (runs_later before (x ∷ []) after rows runs h) runs run_parts a m run_starts run_count

    pub link_put : (row : ℕ) → row ≡ link_row y → (run : List ℕ) → run ≡ codes y.way
        → Holds (before ++ y ∷ after) (set rows i row) (put_mid a m runs run)
    link_put row is_row run is_run =
        put_part before (x ∷ []) after rows runs h (y ∷ []) (one_small y s) h.rows_behind (set rows i row) (put_mid a m runs run)
        (ap (λ (l : List ℕ). set l i row) (rows_parts before (x ∷ []) after rows runs h)
        ∙ set_at (rows_of before) (link_row x) (rows_later before (x ∷ []) after rows runs h) row i
        (rows_front before (x ∷ []) after rows runs h ∙ at_i)
        ∙ ap (λ (k : ℕ). rows_of before ++ k ∷ rows_later before (x ∷ []) after rows runs h) is_row)
        (put_at (codes_in before) (codes x.way) (runs_later before (x ∷ []) after rows runs h) runs run_parts a m run_starts run_count run
        ∙ ap (λ (l : List ℕ). codes_in before ++ (l ++ runs_later before (x ∷ []) after rows runs h)) (is_run ∙ sym (one_run y)))

  -- turned
  pub turned_in : (last first a n row : ℕ) → last ≡ last_of (get_or rows i 0) → first ≡ first_of (get_or rows i 0)
      → a ≡ row_lines (take i rows) → n ≡ count_of (get_or rows i 0) → row ≡ row_of last first n
      → (run : List ℕ) → run ≡ turned_codes (mid_of a (a + n - a) runs)
      → Holds (before ++ turned x ∷ after) (set rows i row) (put_mid a (a + n - a) runs run)
  unfolding link_row
  turned_in last first a n row is_last is_first is_a is_n is_row run is_run =
      link_put (turned x) small a n is_a is_n row
      (is_row ∙ rw (is_last, is_first, is_n, last_at, first_at, count_at, turned_count x.way)) run
      (is_run ∙ ap turned_codes (run_at (turned x) small a n is_a is_n) ∙ sym (codes_turned x.way))
    where
      small : Small (turned x)
      small = record {
        first = small_at.last;
        last = small_at.first;
        count = omega (arith, turned_count x.way, small_at.count);
      }

  -- begun with its lowest line: the row stays
  pub begun_in : (a n : ℕ) → a ≡ row_lines (take i rows) → n ≡ count_of (get_or rows i 0)
      → (run : List ℕ) → ((w : List Pass) → mid_of a (a + n - a) runs ≡ codes w → run ≡ codes (begun_with (lowest_line w) [] w))
      → Holds (before ++ begun x ∷ after) rows (put_mid a (a + n - a) runs run)
  unfolding link_row
  begun_in a n is_a is_n run is_run =
      subst (λ (l : List ℕ). Holds (before ++ begun x ∷ after) l (put_mid a (a + n - a) runs run)) (set-get_or rows i 0)
      (link_put (begun x) small a n is_a is_n (get_or rows i 0)
      (row_at ∙ ap (row_of x.first x.last) (sym as_many)) run
      (is_run x.way (run_at (begun x) small a n is_a is_n)))
    where
      as_many : length (begun x).way ≡ length x.way
      as_many = omega (arith, begun_count (lowest_line x.way) [] x.way)

      small : Small (begun x)
      small = record { first = small_at.first; last = small_at.last; count = omega (arith, as_many, small_at.count) }

-- ---- turned where a test fails

-- what a test says of the link at place i
abbrev Says : (Link → Bool) → Bool → ℕ → List ℕ → List ℕ → Type 0
Says test t i rows runs =
    (before : List Link) (x : Link) (after : List Link) → length before ≡ i → Holds (before ++ x ∷ after) rows runs → test x ≡ t

module _ (test : Link → Bool) (i : ℕ) (rows runs : List ℕ) where
  pub turns_it : Says test false i rows runs → (rows' runs' : List ℕ) → Becomes (λ x. turned x) i rows runs rows' runs'
      → Becomes (λ x. cond (test x) x (turned x)) i rows runs rows' runs'
  turns_it says rows' runs' f before x after e h = rw (says before x after e h) (f before x after e h)

  pub lets_it : Says test true i rows runs → Becomes (λ x. cond (test x) x (turned x)) i rows runs rows runs
  lets_it says before x after e h = rw (says before x after e h) h

-- ---- a link and those behind it

module _ (before : List Link) (x : Link) (after later : List Link) (rows runs : List ℕ) (i end : ℕ) (at_i : length before ≡ i)
    (up_to_lem : i + suc (length after) ≡ end) (h : Holds (before ++ ((x ∷ after) ++ later)) rows runs) where
  part_count : length (rows_of (x ∷ after)) ≡ end - i
  part_count = rows_in_part before (x ∷ after) later rows runs h ∙ omega arith

  front_count : length (rows_of before) ≡ i
  front_count = rows_front before (x ∷ after) later rows runs h ∙ at_i

  rows_mid : mid_of i (end - i) rows ≡ rows_of (x ∷ after)
  rows_mid =
      mid_at (rows_of before) (rows_of (x ∷ after)) (rows_later before (x ∷ after) later rows runs h) rows
      (rows_parts before (x ∷ after) later rows runs h) i (end - i) front_count part_count

  mid_lines : row_lines (mid_of i (end - i) rows) ≡ length (codes_in (x ∷ after))
  mid_lines = ap row_lines rows_mid ∙ part_lines before (x ∷ after) later rows runs h

  small_x : Small x
  small_x = small_part before (x ∷ after) later rows runs h x (Memᴰ.head refl)

  count_x : count_of (get_or rows i 0) ≡ length x.way
  count_x =
      ap count_of (ap (λ (l : List ℕ). get_or l i 0) (rows_parts before (x ∷ after) later rows runs h)
      ∙ get_or_at (rows_of before) (link_row x) (rows_of after ++ rows_later before (x ∷ after) later rows runs h) 0 i front_count)
      ∙ count_of_lem x small_x

  starts : row_lines (take i rows) ≡ length (codes_in before)
  starts = begin_at before (x ∷ after) later rows runs h i at_i

  pub is_behind : length rows ≤ most_lines → Behind i end rows runs
  unfolding codes_in
  is_behind few = record {
    few = few;
    there = omega arith;
    most = omega (
      arith,
      ap length (rows_parts before (x ∷ after) later rows runs h),
      front_count,
      part_count,
      length-append (rows_of before) (rows_of (x ∷ after) ++ rows_later before (x ∷ after) later rows runs h),
      length-append (rows_of (x ∷ after)) (rows_later before (x ∷ after) later rows runs h),
    );
    its_lines = omega (arith, count_x, mid_lines, length-append (codes x.way) (codes_in after), codes_length x.way);
    room = omega (
      arith,
      starts,
      mid_lines,
      ap length (runs_parts before (x ∷ after) later rows runs h),
      length-append (codes_in before) (codes_in (x ∷ after) ++ runs_later before (x ∷ after) later rows runs h),
      length-append (codes_in (x ∷ after)) (runs_later before (x ∷ after) later rows runs h),
    );
  }

  pub behind_in : (a n m : ℕ) → a ≡ row_lines (take i rows) → n ≡ count_of (get_or rows i 0) → m ≡ row_lines (mid_of i (end - i) rows)
      → (row_part : List ℕ) → row_part ≡ rotated 1 (mid_of i (end - i) rows)
      → (run_part : List ℕ) → run_part ≡ rotated n (mid_of a (a + m - a) runs)
      → Holds (before ++ ((after ++ (x ∷ [])) ++ later)) (put_mid i (end - i) rows row_part) (put_mid a (a + m - a) runs run_part)
  unfolding codes_in
  behind_in a n m is_a is_n is_m row_part is_row run_part is_run =
      put_part before (x ∷ after) later rows runs h (after ++ (x ∷ [])) small h.rows_behind (put_mid i (end - i) rows row_part)
      (put_mid a k runs run_part)
      (put_at (rows_of before) (rows_of (x ∷ after)) (rows_later before (x ∷ after) later rows runs h) rows
      (rows_parts before (x ∷ after) later rows runs h) i (end - i) front_count part_count row_part
      ∙ ap (λ (l : List ℕ). rows_of before ++ (l ++ rows_later before (x ∷ after) later rows runs h))
      (is_row ∙ ap (rotated 1) rows_mid ∙ sym (rows_append after (x ∷ []))))
      (put_at (codes_in before) (codes_in (x ∷ after)) (runs_later before (x ∷ after) later rows runs h) runs
      (runs_parts before (x ∷ after) later rows runs h) a k run_starts run_count run_part
      ∙ ap (λ (l : List ℕ). codes_in before ++ (l ++ runs_later before (x ∷ after) later rows runs h))
      (is_run ∙ ap (rotated n) run_mid ∙ turned_round))
    where
      k : ℕ
      k = a + m - a

      small : (y : Link) → Memᴰ y (after ++ (x ∷ [])) → Small y
      small y j = go (Memᴰ.append_cases after j)
        where
          go : Memᴰ y after ⊎ Memᴰ y (x ∷ []) → Small y
          go (inl e) = small_part before (x ∷ after) later rows runs h y (Memᴰ.tail e)
          go (inr e) = one_small x small_x y e

      run_starts : length (codes_in before) ≡ a
      run_starts = sym (is_a ∙ starts)

      run_count : length (codes_in (x ∷ after)) ≡ k
      run_count = omega (arith, is_m, mid_lines)

      run_mid : mid_of a k runs ≡ codes_in (x ∷ after)
      run_mid =
          mid_at (codes_in before) (codes_in (x ∷ after)) (runs_later before (x ∷ after) later rows runs h) runs
          (runs_parts before (x ∷ after) later rows runs h) a k run_starts run_count

      its_count : length (codes x.way) ≡ n
      its_count = codes_length x.way ∙ sym (is_n ∙ count_x)

      turned_round : rotated n (codes x.way ++ codes_in after) ≡ codes_in (after ++ (x ∷ []))
      turned_round =
          ap₂ (λ (u v : List ℕ). u ++ v) (drop_at (codes x.way) (codes_in after) n its_count)
          (take_at (codes x.way) (codes_in after) n its_count)
          ∙ sym (codes_in_append after (x ∷ []) ∙ ap (λ (l : List ℕ). codes_in after ++ l) (one_run x))

-- ---- two links

module _ (before : List Link) (x : Link) (between : List Link) (y : Link) (after : List Link) (rows runs : List ℕ) (i j end : ℕ)
    (at_i : length before ≡ i) (at_j : i + suc (length between) ≡ j) (up_to_lem : j + suc (length after) ≡ end)
    (h : Holds (before ++ (x ∷ (between ++ (y ∷ after)))) rows runs) where
  small_one : Small x
  small_one = h.small x (Memᴰ.append_right before (Memᴰ.head refl))

  small_other : Small y
  small_other = h.small y (Memᴰ.append_right before (Memᴰ.tail (Memᴰ.append_right between (Memᴰ.head refl))))

  -- the rows and the runs, part by part
  rows_five : rows ≡ rows_of before ++ (link_row x ∷ (rows_of between ++ (link_row y ∷ (rows_of after ++ h.rows_behind))))
  rows_five =
      h.rows_are ∙ rw (rows_append before (x ∷ (between ++ (y ∷ after))), rows_append between (y ∷ after)) (simp append_assoc)

  runs_five : runs ≡ codes_in before ++ (codes x.way ++ (codes_in between ++ (codes y.way ++ (codes_in after ++ h.runs_behind))))
  unfolding codes_in
  runs_five =
      h.runs_are ∙ rw (codes_in_append before (x ∷ (between ++ (y ∷ after))), codes_in_append between (y ∷ after)) (simp append_assoc)

  abbrev rest : List ℕ
  rest = rows_of after ++ h.rows_behind

  abbrev runs_rest : List ℕ
  runs_rest = codes_in after ++ h.runs_behind

  front_one : length (rows_of before) ≡ i
  front_one = length-map before link_row ∙ at_i

  row_one : get_or rows i 0 ≡ link_row x
  row_one =
      ap (λ (l : List ℕ). get_or l i 0) rows_five
      ∙ get_or_at (rows_of before) (link_row x) (rows_of between ++ (link_row y ∷ rest)) 0 i front_one

  -- the row of the first link, whatever it is, and the rows between
  front_other : (row : ℕ) → length (rows_of before ++ (row ∷ rows_of between)) ≡ j
  front_other row = length-append (rows_of before) (row ∷ rows_of between) ∙ omega (arith, front_one, length-map between link_row)

  row_other : get_or rows j 0 ≡ link_row y
  row_other =
      ap (λ (l : List ℕ). get_or l j 0) (rows_five ∙ sym (append_assoc (rows_of before) (link_row x ∷ rows_of between) (link_row y ∷ rest)))
      ∙ get_or_at (rows_of before ++ (link_row x ∷ rows_of between)) (link_row y) rest 0 j (front_other (link_row x))

  rows_split : rows ≡ (rows_of before ++ (link_row x ∷ [])) ++ (rows_of between ++ (link_row y ∷ rest))
  rows_split = rows_five ∙ sym (append_assoc (rows_of before) (link_row x ∷ []) (rows_of between ++ (link_row y ∷ rest)))

  front_next : length (rows_of before ++ (link_row x ∷ [])) ≡ i + 1
  front_next = length-append (rows_of before) (link_row x ∷ []) ∙ omega (arith, front_one)

  -- where the run of the first ends, and how many lines are between
  ends_at : row_lines (take (i + 1) rows) ≡ length (codes_in before ++ codes x.way)
  unfolding codes_in
  ends_at =
      ap row_lines (ap (take (i + 1)) rows_split
      ∙ take_at (rows_of before ++ (link_row x ∷ [])) (rows_of between ++ (link_row y ∷ rest)) (i + 1) front_next
      ∙ sym (rows_append before (x ∷ [])))
      ∙ lines_of (before ++ (x ∷ [])) small
      ∙ ap length (codes_in_append before (x ∷ []) ∙ ap (λ (l : List ℕ). codes_in before ++ l) (one_run x))
    where
      small : (z : Link) → Memᴰ z (before ++ (x ∷ [])) → Small z
      small z m =
          h.small z
          (subst (Memᴰ z) (append_assoc before (x ∷ []) (between ++ (y ∷ after))) (Memᴰ.append_left (between ++ (y ∷ after)) m))

  between_lines : row_lines (mid_of (i + 1) (j - (i + 1)) rows) ≡ length (codes_in between)
  between_lines =
      ap row_lines (mid_at (rows_of before ++ (link_row x ∷ [])) (rows_of between) (link_row y ∷ rest) rows rows_split (i + 1) (j - (i + 1))
      front_next (length-map between link_row ∙ omega arith))
      ∙ lines_of between (λ z m. h.small z (Memᴰ.append_right before (Memᴰ.tail (Memᴰ.append_left (y ∷ after) m))))

  run_length : length runs
      ≡ length (codes_in before ++ codes x.way) + (length (codes_in between) + (length (codes y.way) + length runs_rest))
  run_length =
      ap length runs_five ∙ simp length-append (omega arith)

  pub are_two : length rows ≤ most_lines → length runs ≤ most_lines → Two i j end rows runs
  are_two few few_runs = record {
    few = few;
    in_order = omega arith;
    there = omega arith;
    most = omega (
      arith,
      ap length rows_split,
      front_next,
      length-append (rows_of before ++ (link_row x ∷ [])) (rows_of between ++ (link_row y ∷ rest)),
      length-append (rows_of between) (link_row y ∷ rest),
      length-map between link_row,
      length-append (rows_of after) h.rows_behind,
      length-map after link_row,
    );
    marked = omega (arith, ap first_of row_one, first_of_lem x small_one, small_one.first);
    both = omega (
      arith,
      ap count_of row_one,
      count_of_lem x small_one,
      ap count_of row_other,
      count_of_lem y small_other,
      run_length,
      codes_length x.way,
      codes_length y.way,
      length-append (codes_in before) (codes x.way),
    );
    room = omega (arith, ends_at, between_lines, ap count_of row_other, count_of_lem y small_other, codes_length y.way, run_length);
  }

  -- the row of the two as one
  joined_row : count_of (get_or rows i 0) + count_of (get_or rows j 0) ≡ length (joined x y).way
  joined_row =
      ap₂ (λ (u v : ℕ). u + v) (ap count_of row_one ∙ count_of_lem x small_one) (ap count_of row_other ∙ count_of_lem y small_other)
      ∙ sym (length-append x.way y.way)

  module _ (both : count_of (get_or rows i 0) + count_of (get_or rows j 0) < row_limit) where
    small_joined : Small (joined x y)
    small_joined = record { first = small_one.first; last = small_other.last; count = omega (arith, joined_row, both) }

    all_small : (z : Link) → Memᴰ z (before ++ (joined x y ∷ (between ++ after))) → Small z
    all_small z m = go (Memᴰ.append_cases before m)
      where
        then : Memᴰ z (joined x y ∷ (between ++ after)) → Small z
        then (Memᴰ.head e) = rw e small_joined
        then (Memᴰ.tail k) = last (Memᴰ.append_cases between k)
          where
            last : Memᴰ z between ⊎ Memᴰ z after → Small z
            last (inl u) = h.small z (Memᴰ.append_right before (Memᴰ.tail (Memᴰ.append_left (y ∷ after) u)))
            last (inr u) = h.small z (Memᴰ.append_right before (Memᴰ.tail (Memᴰ.append_right between (Memᴰ.tail u))))

        go : Memᴰ z before ⊎ Memᴰ z (joined x y ∷ (between ++ after)) → Small z
        go (inl k) = h.small z (Memᴰ.append_left (x ∷ (between ++ (y ∷ after))) k)
        go (inr k) = then k

    pub joined_in : (first last one n a b row : ℕ) → first ≡ first_of (get_or rows i 0) → last ≡ last_of (get_or rows j 0)
        → one ≡ count_of (get_or rows i 0) → n ≡ count_of (get_or rows j 0)
        → a ≡ row_lines (take (i + 1) rows) → b ≡ row_lines (mid_of (i + 1) (j - (i + 1)) rows) → row ≡ row_of first last (one + n)
        → (row_part : List ℕ) → row_part ≡ rotated 1 (mid_of j (end - j) (set rows i row))
        → (run_part : List ℕ) → run_part ≡ rotated b (mid_of a (a + b + n - a) runs)
        → Holds (before ++ (joined x y ∷ (between ++ after))) (put_mid j (end - j) (set rows i row) row_part)
        (put_mid a (a + b + n - a) runs run_part)
    unfolding codes_in link_row
    joined_in first last one n a b row is_first is_last is_one is_n is_a is_b is_row row_part is_part run_part is_run = record {
      small = all_small;
      rows_behind = link_row y ∷ h.rows_behind;
      rows_are = put_at front part h.rows_behind (set rows i row) rows_now j (end - j) (front_other row) part_length row_part
          ∙ rw (
            is_part,
            mid_at front part h.rows_behind (set rows i row) rows_now j (end - j) (front_other row) part_length,
            rows_append before (joined x y ∷ (between ++ after)),
            rows_append between after,
            is_link_row,
          ) (simp append_assoc);
      runs_behind = h.runs_behind;
      runs_are = put_at run_front run_mid runs_rest runs runs_three a k starts_at mid_length run_part
          ∙ rw (
            is_run,
            mid_at run_front run_mid runs_rest runs runs_three a k starts_at mid_length,
            drop_at (codes_in between) (codes y.way) b b_length,
            take_at (codes_in between) (codes y.way) b b_length,
          ) runs_now;
    }
      where
        front : List ℕ
        front = rows_of before ++ (row ∷ rows_of between)

        part : List ℕ
        part = link_row y ∷ rows_of after

        is_link_row : row ≡ link_row (joined x y)
        is_link_row =
            is_row
            ∙ ap₂ (λ (f l : ℕ). row_of f l (one + n)) (is_first ∙ ap first_of row_one ∙ first_of_lem x small_one)
            (is_last ∙ ap last_of row_other ∙ last_of_lem y small_other)
            ∙ ap (row_of x.first y.last) (ap₂ (λ (u v : ℕ). u + v) is_one is_n ∙ joined_row)

        rows_now : set rows i row ≡ front ++ (part ++ h.rows_behind)
        rows_now =
            ap (λ (l : List ℕ). set l i row) rows_five
            ∙ set_at (rows_of before) (link_row x) (rows_of between ++ (link_row y ∷ rest)) row i front_one
            ∙ sym (append_assoc (rows_of before) (row ∷ rows_of between) (link_row y ∷ rest))

        part_length : length part ≡ end - j
        part_length = omega (arith, length-map after link_row)

        k : ℕ
        k = a + b + n - a

        run_front : List ℕ
        run_front = codes_in before ++ codes x.way

        run_mid : List ℕ
        run_mid = codes_in between ++ codes y.way

        runs_three : runs ≡ run_front ++ (run_mid ++ runs_rest)
        runs_three = runs_five ∙ simp append_assoc

        starts_at : length run_front ≡ a
        starts_at = sym (is_a ∙ ends_at)

        b_length : length (codes_in between) ≡ b
        b_length = sym (is_b ∙ between_lines)

        mid_length : length run_mid ≡ k
        mid_length =
            length-append (codes_in between) (codes y.way)
            ∙ omega (arith, b_length, codes_length y.way, is_n, ap count_of row_other, count_of_lem y small_other)

        runs_now : run_front ++ ((codes y.way ++ codes_in between) ++ runs_rest)
            ≡ codes_in (before ++ (joined x y ∷ (between ++ after))) ++ h.runs_behind
        runs_now =
            sym
            (rw (codes_in_append before (joined x y ∷ (between ++ after)), codes_in_append between after, codes_append x.way y.way)
            (simp append_assoc))
