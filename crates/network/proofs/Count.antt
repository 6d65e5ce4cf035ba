-- How many: tree lines and closing lines make all lines; loops are lines - marks + pieces. Assumes nothing.
use Prim.Native.Nat.{ℕ, suc, ◌+◌}
use native.Mathlib.Omega.{arith}
use mathlib.Core.Path.{◌≡◌, refl, sym, ◌∙◌, ap}
use mathlib.Core.Bool.{Bool, true, false, not, ◌&&◌}
use mathlib.Core.List.{List, [], ◌∷◌, Memᴰ}
use mathlib.Core.Option.{Option, none, some}
use lib.Dec.{eqb, leb}
use lib.ListN.{length, length-append}
use borrow.Author.Tests.{eqb-true, eq-eqb, ne_eqb}
use Rattle.network.specs.Standing.{Line}
use Rattle.network.specs.Sound.{Placed, Apart, Rising, then}
use Rattle.network.specs.Piece.{bit}
use Rattle.network.specs.Tree.{Entry, Tree, Candidate, candidate, distance, score, far, tree, pieces, roots1, tree_lines, lines1}
use Rattle.network.specs.Closing.{insert, insert_of, same_line, closer_of, closers_at, just_lines, closing}
use Rattle.network.proofs.Grown.{score_of_lem, After, new, old, after, ByLine, ByRoot, Grown, empty, by_line, by_root, is_new}
use Rattle.network.proofs.Shortest.{never}
use Rattle.network.proofs.Marks.{all_marks, size, grows}

-- ---- a tree's lines and its roots are its entries

pub tree_and_roots : (es : Tree) → length (tree_lines es) + pieces es ≡ length es
unfolding tree_lines pieces
tree_and_roots [] = refl
tree_and_roots (e ∷ es) = go e.by (tree_and_roots es)
  where
    go : (o : Option Line) → length (tree_lines es) + pieces es ≡ length es
        → length (lines1 o (tree_lines es)) + roots1 o (pieces es) ≡ suc (length es)
    go none h = omega (arith, h)
    go (some l) h = simp length-append (omega (arith, h))

-- ---- counting lines by a test

abbrev pub count : (Line → Bool) → List Line → ℕ
count f [] = 0
count f (l ∷ ls) = bit (f l) + count f ls

pub count_split : (f g h : Line → Bool) (lines : List Line) → ((l : Line) → Memᴰ l lines → bit (f l) ≡ bit (g l) + bit (h l))
    → count f lines ≡ count g lines + count h lines
count_split f g h [] e = refl
count_split f g h (l ∷ ls) e = omega (arith, e l (Memᴰ.head refl), count_split f g h ls (λ k m. e k (Memᴰ.tail m)))

pub count_none : (f : Line → Bool) (lines : List Line) → ((l : Line) → Memᴰ l lines → f l ≡ false) → count f lines ≡ 0
count_none f [] e = refl
count_none f (l ∷ ls) e = rw (e l (Memᴰ.head refl)) (omega (arith, count_none f ls (λ k m. e k (Memᴰ.tail m))))

pub count_all : (f : Line → Bool) (lines : List Line) → ((l : Line) → Memᴰ l lines → f l ≡ true) → count f lines ≡ length lines
count_all f [] e = refl
count_all f (l ∷ ls) e = rw (e l (Memᴰ.head refl)) (omega (arith, count_all f ls (λ k m. e k (Memᴰ.tail m))))

-- ---- lines with both ends in the tree

abbrev pub is_some : Option ℕ → Bool
is_some none = false
is_some (some d) = true

abbrev pub inside : Tree → Line → Bool
inside es l = is_some (distance es l.from) && is_some (distance es l.to)

-- the line has a score, and its far end is the mark of e: it has both ends in the tree once e has entered
abbrev pub reaches : Tree → Entry → Line → Bool
reaches es e l = is_some (score es l) && eqb (far es l) e.mark

pub inside_after : (es : Tree) (e : Entry) (l : Line) → distance es e.mark ≡ none → (l.from ≡ l.to → ⊥)
    → bit (inside (e ∷ es) l) ≡ bit (inside es l) + bit (reaches es e l)
unfolding score far
inside_after es e l out apart = go (after e es l.from) (after e es l.to) (distance es l.from) (distance es l.to) refl refl
  where
    go : After e es l.from → After e es l.to → (a b : Option ℕ) → distance es l.from ≡ a → distance es l.to ≡ b
        → bit (inside (e ∷ es) l) ≡ bit (inside es l) + bit (reaches es e l)
    go (new x y) (new x' y') a b p q = absurd (apart (sym x ∙ x'))
    go (new x y) (old x' y') none none p q = rw (y, y', p, q)
    go (new x y) (old x' y') none (some b) p q = rw (y, y', p, q, eq-eqb _ _ (sym x))
    go (new x y) (old x' y') (some a) b p q = never p (ap (distance es) (sym x) ∙ out)
    go (old x y) (new x' y') none none p q = rw (y, y', p, q)
    go (old x y) (new x' y') a (some b) p q = never q (ap (distance es) (sym x') ∙ out)
    go (old x y) (new x' y') (some a) none p q = rw (y, y', p, q, eq-eqb _ _ (sym x'))
    go (old x y) (old x' y') none none p q = rw (y, y', p, q)
    go (old x y) (old x' y') none (some b) p q = rw (y, y', p, q, ne_eqb _ _ (λ z. x (sym z)))
    go (old x y) (old x' y') (some a) none p q = rw (y, y', p, q, ne_eqb _ _ (λ z. x' (sym z)))
    go (old x y) (old x' y') (some a) (some b) p q = rw (y, y', p, q)

-- ---- the closing lines at an entry

pub length_insert : (a : Candidate) (cs : List Candidate) → length (insert a cs) ≡ suc (length cs)
unfolding insert
length_insert a [] = refl
length_insert a (c ∷ cs) = go (leb a.score c.score) (length_insert a cs)
  where
    go : (t : Bool) → length (insert a cs) ≡ suc (length cs) → length (insert_of t a (c ∷ cs) (c ∷ insert a cs)) ≡ suc (suc (length cs))
    go true h = refl
    go false h = ap suc h

pub length_just_lines : (cs : List Candidate) → length (just_lines cs) ≡ length cs
unfolding just_lines
length_just_lines [] = refl
length_just_lines (c ∷ cs) = ap suc (length_just_lines cs)

abbrev pub closes : Tree → Entry → Line → Bool
closes es e l = reaches es e l && not (same_line e.by l)

abbrev pub enters : Tree → Entry → Line → Bool
enters es e l = reaches es e l && same_line e.by l

pub length_closers_at : (es : Tree) (e : Entry) (lines : List Line) → length (closers_at es e lines) ≡ count (closes es e) lines
unfolding closers_at
length_closers_at es e [] = refl
length_closers_at es e (l ∷ ls) = go (eqb (far es l) e.mark) (same_line e.by l) (score es l) (length_closers_at es e ls)
  where
    go : (a b : Bool) (s : Option ℕ) → length (closers_at es e ls) ≡ count (closes es e) ls
        → length (closer_of (a && not b) s l (closers_at es e ls)) ≡ bit (is_some s && a && not b) + count (closes es e) ls
    go true true none h = omega (arith, h)
    go true true (some s) h = omega (arith, h)
    go true false none h = omega (arith, h)
    go true false (some s) h = omega (arith, h, length_insert (candidate s l) (closers_at es e ls))
    go false b none h = omega (arith, h)
    go false b (some s) h = omega (arith, h)

-- just one line has a line's number
pub count_same : (l : Line) (lines : List Line) → Rising lines → Memᴰ l lines → count (λ k. eqb l.number k.number) lines ≡ 1
count_same l [] _ m = elim m [ ]
count_same l (k ∷ ls) (then above r) (Memᴰ.head e) =
    rw (eq-eqb l.number k.number (ap (λ (x : Line). x.number) e))
    (omega (
      arith,
      count_none (λ k. eqb l.number k.number) ls
          (λ j m. ne_eqb l.number j.number (λ z. omega (arith, above j m, z, ap (λ (x : Line). x.number) e))),
    ))
count_same l (k ∷ ls) (then above r) (Memᴰ.tail m) =
    rw (ne_eqb l.number k.number (λ z. omega (arith, above l m, z)))
    (omega (arith, count_same l ls r m))

pub count_eq : (f g : Line → Bool) (lines : List Line) → ((l : Line) → Memᴰ l lines → f l ≡ g l) → count f lines ≡ count g lines
count_eq f g [] e = refl
count_eq f g (l ∷ ls) e = rw (e l (Memᴰ.head refl), count_eq f g ls (λ k m. e k (Memᴰ.tail m)))

-- two lines of one number are one line
pub unique : (lines : List Line) → Rising lines → (k l : Line) → Memᴰ k lines → Memᴰ l lines → k.number ≡ l.number → k ≡ l
unique [] _ k l m _ n = elim m [ ]
unique (j ∷ ls) (then above r) k l (Memᴰ.head e) (Memᴰ.head e') n = e ∙ sym e'
unique (j ∷ ls) (then above r) k l (Memᴰ.head e) (Memᴰ.tail m) n =
    absurd (omega (arith, above l m, n, ap (λ (x : Line). x.number) e))
unique (j ∷ ls) (then above r) k l (Memᴰ.tail m) (Memᴰ.head e) n =
    absurd (omega (arith, above k m, n, ap (λ (x : Line). x.number) e))
unique (j ∷ ls) (then above r) k l (Memᴰ.tail m) (Memᴰ.tail m') n = unique ls r k l m m' n

pub split_and : (a b : Bool) → bit a ≡ bit (a && not b) + bit (a && b)
split_and true true = refl
split_and true false = refl
split_and false b = refl

abbrev pub by_one : Option Line → ℕ
by_one none = 0
by_one (some l) = 1

pub and_false : (a : Bool) → (a && false) ≡ false
and_false true = refl
and_false false = refl

-- what reaches a new mark by its own line: just that line
pub enters_one : (lines : List Line) (es : Tree) (e : Entry) → Rising lines → ByLine lines es e → count (enters es e) lines ≡ 1
enters_one lines es e r b = count_eq (enters es e) (λ k. eqb b.l.number k.number) lines here ∙ count_same b.l lines r b.is_line
  where
    here : (k : Line) → Memᴰ k lines → enters es e k ≡ eqb b.l.number k.number
    here k m = rw b.its (go (eqb b.l.number k.number) refl)
      where
        go : (t : Bool) → eqb b.l.number k.number ≡ t → (reaches es e k && t) ≡ t
        go true q =
            let is_same_line : k ≡ b.l = unique lines r k b.l m b.is_line (sym (eqb-true _ _ q)) in
            rw (
              is_same_line,
              score_of_lem es b.l b.sc.near b.sc.away b.sc.d b.sc.ends b.sc.is_in b.sc.is_out,
              b.sc.is_far,
              eq-eqb b.sc.away e.mark (sym b.its_mark),
            )
        go false q = and_false (reaches es e k)

pub enters_none : (lines : List Line) (es : Tree) (e : Entry) → ByRoot lines es e → count (reaches es e) lines ≡ 0
enters_none lines es e b = count_none (reaches es e) lines (λ k m. rw (b.done k m))

-- ---- tree lines and closing lines are the lines with both ends in the tree

pub length_lines1 : (o : Option Line) (ls : List Line) → length (lines1 o ls) ≡ length ls + by_one o
length_lines1 none ls = omega arith
length_lines1 (some l) ls = simp length-append (omega arith)

-- one more entry: the lines that now have both ends in are those that reach its mark
pub one_more : (lines : List Line) (es : Tree) (e : Entry) → Apart lines → distance es e.mark ≡ none
    → count (inside (e ∷ es)) lines ≡ count (inside es) lines + count (reaches es e) lines
one_more lines es e apart out = count_split (inside (e ∷ es)) (inside es) (reaches es e) lines (λ k m. inside_after es e k out (apart k m))

pub closed : (lines : List Line) (es : Tree) (e : Entry)
    → count (reaches es e) lines ≡ length (just_lines (closers_at es e lines)) + count (enters es e) lines
closed lines es e =
    count_split (reaches es e) (closes es e) (enters es e) lines (λ k m. split_and (reaches es e k) (same_line e.by k))
    ∙ ap (λ (n : ℕ). n + count (enters es e) lines) (sym (length_just_lines (closers_at es e lines) ∙ length_closers_at es e lines))

pub both_in : (lines : List Line) → Rising lines → Apart lines → {es : Tree} → Grown lines es
    → count (inside es) lines ≡ length (tree_lines es) + length (closing lines es)
unfolding tree_lines closing distance
both_in lines r apart empty = count_none (inside []) lines (λ k m. refl)
both_in lines r apart (by_line {e = e} {es = es} g b) =
    simp (length-append, length_lines1)
    (omega (
      arith,
      ap by_one b.its,
      one_more lines es e apart (is_new b),
      closed lines es e,
      enters_one lines es e r b,
      both_in lines r
          apart g,
    ))
both_in lines r apart (by_root {e = e} {es = es} g b) =
    simp (length-append, length_lines1)
    (omega (
      arith,
      ap by_one b.its,
      one_more lines es e apart b.out,
      closed lines es e,
      enters_none lines es e b,
      both_in lines r
          apart g,
    ))

-- ---- every line has both ends in the tree of the book

pub some_of : (o : Option ℕ) → (o ≡ none → ⊥) → is_some o ≡ true
some_of none f = absurd (f refl)
some_of (some d) f = refl

module _ (b : ℕ) (lines : List Line) (placed : (l : Line) → Memᴰ l lines → Placed b l) where
  pub everything : count (inside (tree b lines)) lines ≡ length lines
  everything = count_all (inside (tree b lines)) lines (λ l m. let p = placed l m in
      rw (
        some_of (distance (tree b lines) l.from) (all_marks b lines placed l.from p.from_low p.from_high),
        some_of (distance (tree b lines) l.to) (all_marks b lines placed l.to p.to_low p.to_high),
      ))

  -- lines - marks + pieces
  module _ (rising : Rising lines) (apart : Apart lines) where
    pub closing_count : length (closing lines (tree b lines)) + b ≡ length lines + pieces (tree b lines)
    closing_count =
        omega (arith, tree_and_roots (tree b lines), size b lines placed, both_in lines rising apart (grows b lines placed), everything)
