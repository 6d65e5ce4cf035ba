-- Each link from its lower junction, link by link. Assumes nothing.
use Prim.Native.Nat.{ℕ, ◌+◌, ◌≤◌, ◌<◌}
use native.Mathlib.Omega.{arith}
use mathlib.Core.Path.{◌≡◌, refl, sym, ◌∙◌, ap, subst}
use mathlib.Core.List.{List, [], ◌∷◌, ◌++◌, map, append_assoc, append-nil}
use lib.ListN.{length, length-append, length-map}
use Rattle.book.specs.Limits.{most_lines}
use Rattle.links.specs.Link.{Link, lower_first}
use Rattle.links.specs.Sketch.{Sketch, finished}
use Rattle.joins.specs.Tables.{Holds, LinkAt, Becomes}
use Rattle.joins.specs.Step.{Tabled, SketchIn, Finished}
use Rattle.joins.specs.declared.Counts.{Counts}
use Rattle.joins.proofs.Moves.{link_at}

-- a link from its lower mark, as a function
abbrev lower : Link → Link
lower x = lower_first x

-- the first i links of s are read from their lower marks
pub record LoweredTo (s : Sketch) (i : ℕ) (rows runs : List ℕ) : Type 0 where
  pub done : List Link
  pub left : List Link
  pub are : s.links ≡ done ++ left
  pub at : length done ≡ i
  pub held : Holds (map lower done ++ (left ++ (s.spurs ++ s.loops))) rows runs

-- of every sketch that the tables had before, with so many links
pub record AllLowered (links : ℕ) (rows₀ runs₀ : List ℕ) (i : ℕ) (rows runs : List ℕ) : Type 0 where
  pub of : (c : Counts) → c.links ≡ links → (s : Sketch) → Tabled s rows₀ runs₀ c → LoweredTo s i rows runs

pub lowered_start : (links : ℕ) (rows runs : List ℕ) → AllLowered links rows runs 0 rows runs
lowered_start links rows runs = record {
  of = λ c e s t. record {
    done = [];
    left = s.links;
    are = refl;
    at = refl;
    held = subst (λ (l : List Link). Holds l rows runs) (append_assoc s.links s.spurs s.loops) t.held;
  };
}

map_more : (xs : List Link) (x : Link) → map lower (xs ++ (x ∷ [])) ≡ map lower xs ++ (lower x ∷ [])
map_more [] x = refl
map_more (y ∷ xs) x = ap (λ (l : List Link). lower y ∷ l) (map_more xs x)

module _ {links : ℕ} {rows₀ runs₀ : List ℕ} {i : ℕ} {rows runs : List ℕ} (w : AllLowered links rows₀ runs₀ i rows runs)
    (h : i < links) where
  -- the link whose turn it is
  record Turn (s : Sketch) : Type 0 where
    pub before : List Link
    pub its : Link
    pub after : List Link
    pub are : s.links ≡ before ++ its ∷ after
    pub at : length before ≡ i
    pub held : Holds (map lower before ++ its ∷ (after ++ (s.spurs ++ s.loops))) rows runs

  turn : (c : Counts) → c.links ≡ links → (s : Sketch) → Tabled s rows₀ runs₀ c → Turn s
  turn c n s t = go (w.of c n s t)
    where
      go : LoweredTo s i rows runs → Turn s
      go x = by x.left x.are x.held
        where
          by : (left : List Link) → s.links ≡ x.done ++ left → Holds (map lower x.done ++ (left ++ (s.spurs ++ s.loops))) rows runs
              → Turn s
          by [] are held = absurd (omega (arith, t.links_are, ap length are, length-append x.done [], x.at))
          by (y ∷ ys) are held = record { before = x.done; its = y; after = ys; are = are; at = x.at; held = held }

  pub lower_asked : (c : Counts) → c.links ≡ links → SketchIn rows₀ runs₀ c → length rows ≤ most_lines → LinkAt i rows runs
  lower_asked c n e few =
      let x = turn c n e.sketch e.tabled in
      link_at (map lower x.before) x.its (x.after ++ (e.sketch.spurs ++ e.sketch.loops)) rows runs i
      (length-map x.before lower ∙ x.at) x.held few

  pub lowered_next : (rows' runs' : List ℕ) → Becomes (λ x. lower_first x) i rows runs rows' runs'
      → AllLowered links rows₀ runs₀ (i + 1) rows' runs'
  lowered_next rows' runs' b = record { of = λ c n s t. next s (turn c n s t) }
    where
      next : (s : Sketch) → Turn s → LoweredTo s (i + 1) rows' runs'
      next s x = record {
        done = x.before ++ (x.its ∷ []);
        left = x.after;
        are = x.are ∙ sym (append_assoc x.before (x.its ∷ []) x.after);
        at = length-append x.before (x.its ∷ []) ∙ omega (arith, x.at);
        held = subst (λ (l : List Link). Holds l rows' runs')
            (sym (ap (λ (l : List Link). l ++ (x.after ++ (s.spurs ++ s.loops))) (map_more x.before x.its)
            ∙ append_assoc (map lower x.before) (lower x.its ∷ []) (x.after ++ (s.spurs ++ s.loops))))
            (b (map lower x.before) x.its (x.after ++ (s.spurs ++ s.loops)) (length-map x.before lower ∙ x.at) x.held);
      }

pub lowered_end : (c : Counts) {rows₀ runs₀ : List ℕ} {i : ℕ} {rows runs : List ℕ} → AllLowered c.links rows₀ runs₀ i rows runs
    → c.links ≤ i → Finished c rows₀ runs₀ rows runs
unfolding finished
lowered_end c {i = i} {rows = rows} {runs = runs} w h s t = by (w.of c refl s t).left (w.of c refl s t) refl
  where
    by : (left : List Link) (x : LoweredTo s i rows runs) → x.left ≡ left → Tabled (finished s) rows runs c
    by (y ∷ ys) x e =
        absurd (omega (arith, t.links_are, ap length x.are, length-append x.done x.left, ap length e, x.at))
    by [] x e = record {
      held = subst (λ (l : List Link). Holds l rows runs)
          (ap (λ (l : List Link). map lower x.done ++ (l ++ (s.spurs ++ s.loops))) e
          ∙ ap (λ (l : List Link). map lower l ++ (s.spurs ++ s.loops)) (sym all)
          ∙ sym (append_assoc (map lower s.links) s.spurs s.loops)) x.held;
      links_are = t.links_are ∙ sym (length-map s.links lower);
      spurs_are = t.spurs_are;
      loops_are = t.loops_are;
    }
      where
        all : s.links ≡ x.done
        all = x.are ∙ ap (λ (l : List Link). x.done ++ l) e ∙ append-nil x.done
