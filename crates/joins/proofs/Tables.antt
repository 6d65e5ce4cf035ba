-- The tables of links, in front of a place, at it and behind it. Assumes nothing.
use Prim.Native.Nat.{ℕ}
use mathlib.Core.Path.{◌≡◌, refl, sym, ◌∙◌, ap}
use mathlib.Core.Logic.{◌⊎◌, inl, inr}
use mathlib.Core.List.Memᴰ
use mathlib.Core.List.{List, [], ◌∷◌, ◌++◌, map, append_assoc, Memᴰ}
use lib.ListN.{length, length-map, take}
use lib.Seq.{take_at}
use Rattle.links.specs.Link.{Link}
use Rattle.joins.specs.Row.{link_row, Small, row_lines}
use Rattle.joins.specs.Code.{codes_in}
use Rattle.joins.specs.Tables.{Holds}
use Rattle.joins.proofs.Codes.{codes_in_append}
use Rattle.joins.proofs.Rows.{lines_of}

abbrev pub rows_of : List Link → List ℕ
rows_of xs = map link_row xs

pub rows_append : (xs ys : List Link) → rows_of (xs ++ ys) ≡ rows_of xs ++ rows_of ys
rows_append [] ys = refl
rows_append (x ∷ xs) ys = ap (λ (l : List ℕ). link_row x ∷ l) (rows_append xs ys)

module _ (before part later : List Link) (rows runs : List ℕ) (h : Holds (before ++ (part ++ later)) rows runs) where
  small_before : (x : Link) → Memᴰ x before → Small x
  small_before x i = h.small x (Memᴰ.append_left (part ++ later) i)

  pub small_part : (x : Link) → Memᴰ x part → Small x
  small_part x i = h.small x (Memᴰ.append_right before (Memᴰ.append_left later i))

  small_later : (x : Link) → Memᴰ x later → Small x
  small_later x i = h.small x (Memᴰ.append_right before (Memᴰ.append_right part i))

  -- the tables as three parts
  abbrev pub rows_later : List ℕ
  rows_later = rows_of later ++ h.rows_behind

  abbrev pub runs_later : List ℕ
  runs_later = codes_in later ++ h.runs_behind

  pub rows_parts : rows ≡ rows_of before ++ (rows_of part ++ rows_later)
  rows_parts =
      h.rows_are ∙ ap (λ (l : List ℕ). l ++ h.rows_behind) (rows_append before (part ++ later) ∙ ap (λ (l : List ℕ). rows_of before ++ l)
      (rows_append part later))
      ∙ append_assoc (rows_of before) (rows_of part ++ rows_of later) h.rows_behind
      ∙ ap (λ (l : List ℕ). rows_of before ++ l) (append_assoc (rows_of part) (rows_of later) h.rows_behind)

  pub runs_parts : runs ≡ codes_in before ++ (codes_in part ++ runs_later)
  runs_parts =
      h.runs_are ∙ ap (λ (l : List ℕ). l ++ h.runs_behind) (codes_in_append before (part ++ later)
      ∙ ap (λ (l : List ℕ). codes_in before ++ l) (codes_in_append part later))
      ∙ append_assoc (codes_in before) (codes_in part ++ codes_in later) h.runs_behind
      ∙ ap (λ (l : List ℕ). codes_in before ++ l) (append_assoc (codes_in part) (codes_in later) h.runs_behind)

  pub rows_front : length (rows_of before) ≡ length before
  rows_front = length-map before link_row

  pub rows_in_part : length (rows_of part) ≡ length part
  rows_in_part = length-map part link_row

  -- where the part's runs begin, and how long they are
  pub begin_at : (i : ℕ) → length before ≡ i → row_lines (take i rows) ≡ length (codes_in before)
  begin_at i e =
      ap row_lines (ap (take i) rows_parts ∙ take_at (rows_of before) (rows_of part ++ rows_later) i (rows_front ∙ e))
      ∙ lines_of before small_before

  pub part_lines : row_lines (rows_of part) ≡ length (codes_in part)
  part_lines = lines_of part small_part

  -- another part in its place, and more behind
  pub put_part : (new : List Link) → ((x : Link) → Memᴰ x new → Small x) → (rest rows' runs' : List ℕ)
      → rows' ≡ rows_of before ++ (rows_of new ++ (rows_of later ++ rest)) → runs' ≡ codes_in before ++ (codes_in new ++ runs_later)
      → Holds (before ++ (new ++ later)) rows' runs'
  put_part new s rest rows' runs' r c = record {
    small = all;
    rows_behind = rest;
    rows_are = r ∙ sym (ap (λ (l : List ℕ). l ++ rest) (rows_append before (new ++ later) ∙ ap (λ (l : List ℕ). rows_of before ++ l)
        (rows_append new later))
        ∙ append_assoc (rows_of before) (rows_of new ++ rows_of later) rest
        ∙ ap (λ (l : List ℕ). rows_of before ++ l) (append_assoc (rows_of new) (rows_of later) rest));
    runs_behind = h.runs_behind;
    runs_are = c ∙ sym (ap (λ (l : List ℕ). l ++ h.runs_behind) (codes_in_append before (new ++ later)
        ∙ ap (λ (l : List ℕ). codes_in before ++ l) (codes_in_append new later))
        ∙ append_assoc (codes_in before) (codes_in new ++ codes_in later) h.runs_behind
        ∙ ap (λ (l : List ℕ). codes_in before ++ l) (append_assoc (codes_in new) (codes_in later) h.runs_behind));
  }
    where
      all : (x : Link) → Memᴰ x (before ++ (new ++ later)) → Small x
      all x i = go (Memᴰ.append_cases before i)
        where
          go : Memᴰ x before ⊎ Memᴰ x (new ++ later) → Small x
          go (inl j) = small_before x j
          go (inr j) = then (Memᴰ.append_cases new j)
            where
              then : Memᴰ x new ⊎ Memᴰ x later → Small x
              then (inl k) = s x k
              then (inr k) = small_later x k
