-- The lines of links, one after the other, from the lists that give them. Assumes nothing.
use Prim.Native.Nat.{ℕ, zero, suc, ◌+◌, ◌-◌, ◌*◌, ◌≤◌, ◌<◌}
use native.Mathlib.Omega.{arith}
use mathlib.Core.Path.{◌≡◌, refl, sym, ◌∙◌, ap, ap₂, subst}
use mathlib.Core.List.{List, [], ◌∷◌, ◌++◌, map, append_assoc, append-nil}
use lib.IntN.{ℤ, pos, nat_abs}
use lib.ListN.{length, get_or, take, drop, length-drop, length-append, length-map}
use lib.Seq.{take_at, drop_at, drop-drop}
use Rattle.loops.specs.Row.{listed, listings}
use Rattle.links.specs.Link.{Link}
use Rattle.links.specs.Sketch.{entry_words, entry, entries}
use Rattle.text.specs.Put.{Put}
use Rattle.text.proofs.Puts.{nothing_put, ◌then◌}
use Rattle.page.specs.Sketch.{link_line, spur_line, self_closing_line, lines_by}
use Rattle.page.specs.Entries.{line_for, entry_line, LiesAt, run_by, Entered}
use Rattle.page.specs.declared.sketch.Kind as kind
use Rattle.page.specs.declared.sketch.Kind.{Kind}

-- ---- of two parts, one after the other

module _ (part more : List ℤ) {list : List ℤ} {a : ℕ} (w : LiesAt (part ++ more) list a) where
  both : drop a list ≡ part ++ (more ++ w.past)
  both = w.is ∙ append_assoc part more w.past

  -- the first ends inside the list
  first_ends : a + length part ≤ length list
  first_ends = omega (arith, w.inside, length-drop a list, simp length-append at (ap length both))

  pub first_is : take (length part) (drop a list) ≡ part
  first_is = ap (take (length part)) both ∙ take_at part (more ++ w.past) (length part) refl

  pub first_lies : LiesAt part list a
  first_lies = record { past = more ++ w.past; is = both; inside = w.inside }

  -- the other lies behind it
  pub other_lies : LiesAt more list (a + length part)
  other_lies = record {
    past = w.past;
    is = sym (drop-drop (length part) a list) ∙ ap (drop (length part)) both ∙ drop_at part (more ++ w.past) (length part) refl;
    inside = first_ends;
  }

-- ---- the first of the entries

-- what is printed by an entry's numbers and signed lines is the link's line
entry_line_lem : (kind : Kind) (x : Link) → entry_line kind (entry x) (map listed x.way) ≡ line_for kind x
unfolding entry_line entry link_line spur_line self_closing_line
entry_line_lem kind.TheVariants.Link x = refl
entry_line_lem kind.TheVariants.Spur x = refl
entry_line_lem kind.TheVariants.Loop x = refl

-- how many lines an entry has
abbrev pub count_in : List ℤ → ℤ
count_in e = get_or e 2 (pos 0)

-- entry i as it is read
abbrev pub EntryAt : List ℤ → List ℤ → ℕ → Type 0
EntryAt e numbers i = e ≡ take entry_words (drop (i * entry_words) numbers)

-- the numbers of the entries are read five by five
pub next_five : (e left numbers : List ℤ) (i : ℕ) → length e ≡ entry_words → e ++ left ≡ drop (i * entry_words) numbers
    → EntryAt e numbers i × (left ≡ drop ((i + 1) * entry_words) numbers)
next_five e left numbers i n r =
    let five : (i + 1) * entry_words ≡ i * entry_words + entry_words = omega arith in (
      sym (ap (take entry_words) (sym r) ∙ take_at e left entry_words n),
      sym (ap (λ (k : ℕ). drop k numbers) five ∙ sym (drop-drop entry_words (i * entry_words) numbers)
          ∙ ap (drop entry_words) (sym r) ∙ drop_at e left entry_words n),
    )

-- of the links xs, which the entries from i on are of, there is a first: its entry e, its signed lines, and the others
pub record FirstEntry (xs : List Link) (e numbers run : List ℤ) (count i a : ℕ) : Type 0 where
  pub link : Link
  pub rest : List Link
  pub are : xs ≡ link ∷ rest
  entry_is : e ≡ entry link
  pub count_is : count_in e ≡ pos (length link.way)
  pub ends : a + length link.way ≤ length run
  pub lines_are : take (length link.way) (drop a run) ≡ map listed link.way
  pub others : Entered rest numbers run count (i + 1) (a + length link.way)

pub first_entry : {xs : List Link} {numbers run : List ℤ} {count i a : ℕ} → Entered xs numbers run count i a → i < count
    → (e : List ℤ) → EntryAt e numbers i → FirstEntry xs e numbers run count i a
unfolding entries entry listings
first_entry {xs = []} w lt e is = absurd (omega (arith, w.counted))
first_entry {xs = x ∷ xs} {numbers = numbers} {run = run} {i = i} {a = a} w lt e is =
    let n : length (map listed x.way) ≡ length x.way = length-map x.way listed in
    let j : i * entry_words + entry_words ≡ (i + 1) * entry_words = omega arith in
    let its : e ≡ entry x = is ∙ first_is (entry x) (entries xs) w.numbers_lie in
    record {
      link = x;
      rest = xs;
      are = refl;
      entry_is = its;
      count_is = ap count_in its;
      ends = rw n at (first_ends (map listed x.way) (run_by xs) w.lines_lie);
      lines_are = rw n at (first_is (map listed x.way) (run_by xs) w.lines_lie);
      others = record {
        counted = omega (arith, w.counted);
        numbers_lie = subst (λ (k : ℕ). LiesAt (entries xs) numbers k) j (other_lies (entry x) (entries xs) w.numbers_lie);
        lines_lie = subst (λ (k : ℕ). LiesAt (run_by xs) run (a + k)) n
            (other_lies (map listed x.way) (run_by xs) w.lines_lie);
      };
    }

-- there are five numbers for each entry that is left
five_left : {xs : List Link} {numbers run : List ℤ} {count i a : ℕ} → Entered xs numbers run count i a → i < count
    → entry_words ≤ length (drop (i * entry_words) numbers)
unfolding entries entry
five_left {xs = []} w lt = absurd (omega (arith, w.counted))
five_left {xs = x ∷ xs} {numbers = numbers} {i = i} w lt =
    omega (arith, first_ends (entry x) (entries xs) w.numbers_lie, length-drop (i * entry_words) numbers)

-- none is left where n would be, and there are no five numbers
pub none_left : {xs : List Link} {numbers run : List ℤ} {count i a : ℕ} → Entered xs numbers run count i a → (n : ℕ) → i + n ≡ count
    → (0 < n → length (drop (i * entry_words) numbers) < entry_words) → count ≤ i
none_left w zero e short = omega arith
none_left w (suc n) e short = absurd (omega (arith, short (omega arith), five_left w (omega arith)))

-- ---- one entry after the other

-- of links xs, whose lines are put from place at of the text on and lie from place a of the run on, those from entry i on are left
pub record Left (kind : Kind) (xs : List Link) (numbers run : List ℤ) (count : ℕ) (out₀ : List ℕ) (at a : ℕ) (out : List ℕ)
    (after begin i : ℕ) : Type 0 where
  pub links : List Link
  pub entered : Entered links numbers run count i begin
  pub done : List ℕ
  pub put : Put out₀ out at after done
  pub whole : lines_by (line_for kind) xs ≡ done ++ lines_by (line_for kind) links
  run_left : begin + length (run_by links) ≡ a + length (run_by xs)

module _ {kind : Kind} {xs : List Link} {numbers run : List ℤ} {count : ℕ} {out₀ : List ℕ} {at a : ℕ} where
  pub left_start : Entered xs numbers run count 0 a → Left kind xs numbers run count out₀ at a out₀ at a 0
  left_start w = record { links = xs; entered = w; done = []; put = nothing_put out₀ at; whole = refl; run_left = refl }

  module _ {out : List ℕ} {after begin i : ℕ} (w : Left kind xs numbers run count out₀ at a out after begin i) where
    pub left_next : {out' : List ℕ} {after' : ℕ} (n : ℕ) → i < count → (e : List ℤ) → EntryAt e numbers i
        → n ≡ nat_abs (count_in e)
        → Put out out' after after' (entry_line kind e (take (begin + n - begin) (drop begin run)))
        → Left kind xs numbers run count out₀ at a out' after' (begin + n) (i + 1)
    unfolding lines_by listings
    left_next {out' = out'} {after' = after'} n lt e is counted p =
        let f = first_entry w.entered lt e is in
        let x = f.link in
        let m : length x.way ≡ n = sym (counted ∙ ap nat_abs f.count_is) in
        let its : begin + n - begin ≡ length x.way = omega arith in
        let line =
        ap₂ (entry_line kind) f.entry_is (ap (λ (k : ℕ). take k (drop begin run)) its ∙ f.lines_are) ∙ entry_line_lem kind x in
        record {
          links = f.rest;
          entered = subst (λ (k : ℕ). Entered f.rest numbers run count (i + 1) (begin + k)) m f.others;
          done = w.done ++ line_for kind x;
          put = w.put then subst (λ (t : List ℕ). Put out out' after after' t) line p;
          whole = w.whole ∙ ap (λ (l : List Link). w.done ++ lines_by (line_for kind) l) f.are
              ∙ sym (append_assoc w.done (line_for kind x) (lines_by (line_for kind) f.rest));
          run_left = omega (
            arith,
            w.run_left,
            simp length-append at (ap (λ (l : List Link). length (run_by l)) f.are),
            length-map x.way listed,
            m,
          );
        }

    -- none is left
    pub left_none : count ≤ i → (Put out₀ out at after (lines_by (line_for kind) xs)) × (begin ≡ a + length (run_by xs))
    unfolding lines_by listings
    left_none h = go w.links refl
      where
        go : (ys : List Link) → w.links ≡ ys → (Put out₀ out at after (lines_by (line_for kind) xs)) × (begin ≡ a + length (run_by xs))
        go [] e = (
          subst (λ (t : List ℕ). Put out₀ out at after t)
              (sym (w.whole ∙ ap (λ (l : List Link). w.done ++ lines_by (line_for kind) l) e ∙ append-nil w.done))
              w.put,
          omega (arith, w.run_left, ap (λ (l : List Link). length (run_by l)) e),
        )
        go (y ∷ ys) e = absurd (omega (arith, w.entered.counted, ap length e))
