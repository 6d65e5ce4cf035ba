-- Entries written from rows and runs are those of the links. Assumes nothing.
use Prim.Native.Nat.{ℕ, ◌+◌, ◌*◌, ◌-◌, ◌≤◌, ◌<◌}
use native.Mathlib.Omega.{arith}
use mathlib.Core.Path.{◌≡◌, refl, sym, ◌∙◌, ap, ap₂, subst}
use mathlib.Core.List.{List, [], ◌∷◌, ◌++◌, append-nil, append_assoc, Memᴰ}
use lib.IntN.{ℤ, pos}
use lib.ListN.{length, get_or, drop, set, length-append, length-map}
use lib.Seq.{get_or_at}
use borrow.Rule.Slice.PartMut.{mid_of, put_mid}
use Rattle.laws.proofs.Lists.{filled, pour}
use Rattle.network.specs.Codes.{codes}
use Rattle.links.specs.Link.{Link}
use Rattle.links.specs.Sketch.{entry_words, entry, entries}
use Rattle.links.proofs.Among.{it_is_in}
use Rattle.rows.specs.Sums.{length_of, rise_of, LinesIn}
use Rattle.rows.proofs.Passes.{length_is, rise_is, codes_run}
use Rattle.joins.specs.Row.{row_limit, first_of, last_of, count_of, link_row}
use Rattle.joins.specs.Code.{codes_in}
use Rattle.joins.proofs.Codes.{codes_length, codes_in_append}
use Rattle.joins.proofs.Rows.{first_of_lem, last_of_lem, count_of_lem}
use Rattle.joins.proofs.Parts.{mid_at}
use Rattle.joins.proofs.Tables.{rows_of, rows_append}
use Rattle.joins.proofs.Moves.{one_run}
use Rattle.junctions.specs.Entries.{entry_by, OverLines, ListIn, SomeIn, Wrote}

-- ---- one entry

pub entry_stored : (ls out : List ℤ) (row : ℕ) (run : List ℕ) {a b c d e : ℤ} → length out ≡ entry_words → a ≡ pos (first_of row)
    → b ≡ pos (last_of row) → c ≡ pos (length run) → d ≡ pos (length_of ls run) → e ≡ rise_of ls run
    → set (set (set (set (set out 0 a) 1 b) 2 c) 3 d) 4 e ≡ entry_by ls row run
unfolding entry_by
entry_stored ls out row run {a} {b} {c} {d} {e} h p q r s t = filled (a ∷ b ∷ c ∷ d ∷ e ∷ []) out h ∙ rw (p, q, r, s, t)

-- the entry of a link
entry_is : (ls : List ℤ) (x : Link) → OverLines ls x → entry_by ls (link_row x) (codes x.way) ≡ entry x
unfolding entry_by entry
entry_is ls x o =
    rw (
      first_of_lem x o.small,
      last_of_lem x o.small,
      codes_length x.way,
      length_is ls x.way o.stand,
      rise_is ls x.way o.stand,
    )

entry_length : (x : Link) → length (entry x) ≡ entry_words
unfolding entry
entry_length x = refl

-- one link's
one_entry : (x : Link) → entries (x ∷ []) ≡ entry x
unfolding entries
one_entry x = append-nil (entry x)

pub entries_append : (xs ys : List Link) → entries (xs ++ ys) ≡ entries xs ++ entries ys
unfolding entries
entries_append [] ys = refl
entries_append (x ∷ xs) ys =
    ap (λ (l : List ℤ). entry x ++ l) (entries_append xs ys) ∙ sym (append_assoc (entry x) (entries xs) (entries ys))

pub entries_length : (xs : List Link) → length (entries xs) ≡ length xs * entry_words
unfolding entries
entries_length [] = omega arith
entries_length (x ∷ xs) = length-append (entry x) (entries xs) ∙ omega (arith, entry_length x, entries_length xs)

-- ---- entry by entry

-- the first i of the links xs are written
pub record WroteTo (xs : List Link) (i at : ℕ) (out₀ out : List ℤ) : Type 0 where
  pub done : List Link
  pub left : List Link
  pub are : xs ≡ done ++ left
  pub so_many : length done ≡ i
  pub at_is : at ≡ length (codes_in done)
  pub written : out ≡ entries done ++ drop (i * entry_words) out₀

pub record AllWrote (ls : List ℤ) (rows runs : List ℕ) (i at : ℕ) (out₀ out : List ℤ) : Type 0 where
  pub of : (xs : List Link) → ListIn ls xs rows runs → WroteTo xs i at out₀ out

pub wrote_start : (ls : List ℤ) (rows runs : List ℕ) (out : List ℤ) → AllWrote ls rows runs 0 0 out out
unfolding codes_in entries
wrote_start ls rows runs out = record {
  of = λ xs l. record { done = []; left = xs; are = refl; so_many = refl; at_is = refl; written = refl };
}

module _ {ls : List ℤ} {rows runs : List ℕ} {i at : ℕ} {out₀ out : List ℤ} (w : AllWrote ls rows runs i at out₀ out)
    (h : i < length rows) where
  -- the link whose turn it is
  record Turn (xs : List Link) : Type 0 where
    pub before : List Link
    pub its : Link
    pub after : List Link
    pub are : xs ≡ before ++ its ∷ after
    pub so_many : length before ≡ i
    pub over : OverLines ls its
    pub row_is : get_or rows i 0 ≡ link_row its
    pub at_is : at ≡ length (codes_in before)
    pub runs_are : (rest : List ℕ) × (runs ≡ codes_in before ++ (codes its.way ++ rest))
    pub written : out ≡ entries before ++ drop (i * entry_words) out₀

  turn : (xs : List Link) → ListIn ls xs rows runs → Turn xs
  unfolding codes_in
  turn xs l = by (w.of xs l).left (w.of xs l) refl
    where
      by : (left : List Link) (x : WroteTo xs i at out₀ out) → x.left ≡ left → Turn xs
      by [] x e =
          absurd (omega (
            arith,
            ap length l.rows_are,
            length-map xs link_row,
            ap length x.are,
            length-append x.done x.left,
            ap length e,
            x.so_many,
          ))
      by (y ∷ ys) x e = record {
        before = x.done;
        its = y;
        after = ys;
        are = are;
        so_many = x.so_many;
        over = l.each y (subst (Memᴰ y) (sym are) (it_is_in x.done y ys));
        row_is = ap (λ (r : List ℕ). get_or r i 0) (l.rows_are ∙ ap rows_of are ∙ rows_append x.done (y ∷ ys))
            ∙ get_or_at (rows_of x.done) (link_row y) (rows_of ys) 0 i (length-map x.done link_row ∙ x.so_many);
        at_is = x.at_is;
        runs_are = (
          codes_in ys ++ l.runs_behind,
          l.runs_are ∙ ap (λ (r : List ℕ). r ++ l.runs_behind) (ap codes_in are
              ∙ codes_in_append x.done (y ∷ ys)) ∙ simp append_assoc,
        );
        written = x.written;
      }
        where
          are : xs ≡ x.done ++ y ∷ ys
          are = x.are ∙ ap (λ (r : List Link). x.done ++ r) e

  module _ {xs : List Link} (x : Turn xs) (n to : ℕ) (is_n : n ≡ count_of (get_or rows i 0)) (is_to : to ≡ at + n) where
    count_is : n ≡ length (codes x.its.way)
    count_is = is_n ∙ ap count_of x.row_is ∙ count_of_lem x.its x.over.small ∙ sym (codes_length x.its.way)

    run_is : mid_of at (to - at) runs ≡ codes x.its.way
    run_is =
        mid_at (codes_in x.before) (codes x.its.way) x.runs_are.0 runs x.runs_are.1 at (to - at) (sym x.at_is)
        (omega (arith, count_is))

    ends : to ≤ length runs
    ends =
        omega (
          arith,
          count_is,
          x.at_is,
          ap length x.runs_are.1,
          length-append (codes_in x.before) (codes x.its.way ++ x.runs_are.0),
          length-append (codes x.its.way) x.runs_are.0,
        )

    lines_in : LinesIn ls (mid_of at (to - at) runs)
    lines_in = subst (LinesIn ls) (sym run_is) (record {
      few = omega (arith, codes_length x.its.way, x.over.few);
      each = λ j b. codes_run ls x.its.way x.over.stand j (omega (arith, codes_length x.its.way));
    })

    marks : (first_of (get_or rows i 0) < row_limit) × (last_of (get_or rows i 0) < row_limit)
    marks = (
      omega (arith, ap first_of x.row_is, first_of_lem x.its x.over.small, x.over.small.first),
      omega (arith, ap last_of x.row_is, last_of_lem x.its x.over.small, x.over.small.last),
    )

    next : (vs : List ℤ) → vs ≡ entry_by ls (get_or rows i 0) (mid_of at (to - at) runs)
        → WroteTo xs (i + 1) to out₀ (put_mid (i * entry_words) (i * entry_words + entry_words - i * entry_words) out vs)
    next vs v = record {
      done = x.before ++ (x.its ∷ []);
      left = x.after;
      are = x.are ∙ sym (append_assoc x.before (x.its ∷ []) x.after);
      so_many = length-append x.before (x.its ∷ []) ∙ omega (arith, x.so_many);
      at_is = sym (ap length (codes_in_append x.before (x.its ∷ []) ∙ ap (λ (r : List ℕ). codes_in x.before ++ r) (one_run x.its))
          ∙ length-append (codes_in x.before) (codes x.its.way) ∙ omega (arith, x.at_is, count_is));
      written = pour (entries x.before) vs out₀ out i entry_words (entries_length x.before ∙ omega (arith, x.so_many)) x.written
          ∙ ap (λ (l : List ℤ). l ++ drop ((i + 1) * entry_words) out₀)
          (ap (λ (l : List ℤ). entries x.before ++ l)
          (v ∙ ap₂ (entry_by ls) x.row_is run_is ∙ entry_is ls x.its x.over ∙ sym (one_entry x.its))
          ∙ sym (entries_append x.before (x.its ∷ [])));
    }

  -- for every such list
  pub wrote_next : (n to : ℕ) → n ≡ count_of (get_or rows i 0) → to ≡ at + n → (vs : List ℤ)
      → vs ≡ entry_by ls (get_or rows i 0) (mid_of at (to - at) runs)
      → AllWrote ls rows runs (i + 1) to out₀ (put_mid (i * entry_words) (i * entry_words + entry_words - i * entry_words) out vs)
  wrote_next n to is_n is_to vs v = record { of = λ xs l. next (turn xs l) n to is_n is_to vs v }

  -- and what a turn asks for
  pub turn_ends : SomeIn ls rows runs → (n : ℕ) → n ≡ count_of (get_or rows i 0) → at + n ≤ length runs
  turn_ends s n is_n = ends (turn s.links s.listed) n (at + n) is_n refl

  pub turn_lines : SomeIn ls rows runs → (n to : ℕ) → n ≡ count_of (get_or rows i 0) → to ≡ at + n → LinesIn ls (mid_of at (to - at) runs)
  turn_lines s n to is_n is_to = lines_in (turn s.links s.listed) n to is_n is_to

  pub turn_marks : SomeIn ls rows runs → (first_of (get_or rows i 0) < row_limit) × (last_of (get_or rows i 0) < row_limit)
  turn_marks s = marks (turn s.links s.listed) (count_of (get_or rows i 0)) (at + count_of (get_or rows i 0)) refl refl

pub wrote_end : {ls : List ℤ} {rows runs : List ℕ} {i at : ℕ} {out₀ out : List ℤ} → AllWrote ls rows runs i at out₀ out → length rows ≤ i
    → (xs : List Link) → ListIn ls xs rows runs → Wrote xs out₀ out at
wrote_end {i = i} {at = at} {out₀ = out₀} {out = out} w h xs l = by (w.of xs l).left (w.of xs l) refl
  where
    by : (left : List Link) (x : WroteTo xs i at out₀ out) → x.left ≡ left → Wrote xs out₀ out at
    by (y ∷ ys) x e =
        absurd (omega (
          arith,
          ap length l.rows_are,
          length-map xs link_row,
          ap length x.are,
          length-append x.done x.left,
          ap length e,
          x.so_many,
        ))
    by [] x e =
        let all = x.are ∙ ap (λ (r : List Link). x.done ++ r) e ∙ append-nil x.done in
        record {
          written = x.written ∙ ap₂ (λ (d : List Link) (n : ℕ). entries d ++ drop (n * entry_words) out₀) (sym all)
              (sym x.so_many ∙ ap length (sym all));
          after_is = x.at_is ∙ ap (λ (d : List Link). length (codes_in d)) (sym all);
        }
