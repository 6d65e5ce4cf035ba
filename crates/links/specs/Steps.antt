-- The rule of the junction sketch as a plain relation: "each step takes the first there is".
-- Assumes nothing.
use Rattle.std.specs.Prelude.{ℕ, ◌≤◌, ◌<◌, ◌≡◌, ◌⊎◌}
use mathlib.Core.List.{List, [], ◌∷◌, ◌++◌, Memᴰ}
use Rattle.network.specs.Standing.{Line}
use Rattle.links.specs.Link.{Link, read_from, read_to, joined, begun, lowest_line}
use Rattle.links.specs.Ends.{ends_at}
use Rattle.links.specs.Sketch.{Sketch, sketch, start_of, finished}

-- the link has an end at mark m
abbrev pub EndAt : ℕ → Link → Type 0
EndAt m x = (x.first ≡ m) ⊎ (x.last ≡ m)

-- m is the lowest of the marks 1 to b with exactly k link ends
pub record Lowest (b k : ℕ) (links : List Link) (m : ℕ) : Type 0 where
  pub low : 0 < m
  pub high : m ≤ b
  pub has_them : ends_at m links ≡ k
  pub no_lower : (j : ℕ) → 0 < j → j < m → ends_at j links ≡ k → ⊥

-- none of the marks 1 to b has exactly k link ends
abbrev pub NoMark : ℕ → ℕ → List Link → Type 0
NoMark b k links = (m : ℕ) → 0 < m → m ≤ b → ends_at m links ≡ k → ⊥

-- no link is from a mark to itself
abbrev pub NoLoop : List Link → Type 0
NoLoop links = (x : Link) → Memᴰ x links → x.first ≡ x.last → ⊥

-- 1. "the spur of lowest mark: a mark with exactly one link end; its link comes off, read from that mark"
pub record Spur (b : ℕ) (s s' : Sketch) : Type 0 where
  pub mark : ℕ
  pub before : List Link
  pub its : Link
  pub after : List Link
  pub links_are : s.links ≡ before ++ its ∷ after
  pub lowest : Lowest b 1 s.links mark
  pub there : EndAt mark its
  pub then : s' ≡ sketch (before ++ after) (s.spurs ++ read_from mark its ∷ []) s.loops

-- 2. "else the self-closing loop of lowest line: a link from a mark to itself; it comes off, begun with its lowest line, positive"
pub record LoopOff (b : ℕ) (s s' : Sketch) : Type 0 where
  pub no_spur : NoMark b 1 s.links
  pub before : List Link
  pub its : Link
  pub after : List Link
  pub links_are : s.links ≡ before ++ its ∷ after
  pub closes : its.first ≡ its.last
  pub lowest : (y : Link) → Memᴰ y s.links → y.first ≡ y.last → lowest_line its.way ≤ lowest_line y.way
  pub then : s' ≡ sketch (before ++ after) s.spurs (s.loops ++ begun its ∷ [])

-- 3. "else the merge at the lowest mark that has exactly two link ends, of two different links: they become one"
pub record Merge (b : ℕ) (s s' : Sketch) : Type 0 where
  pub no_spur : NoMark b 1 s.links
  pub no_loop : NoLoop s.links
  pub mark : ℕ
  pub before : List Link
  pub one : Link
  pub between : List Link
  pub other : Link
  pub after : List Link
  pub links_are : s.links ≡ before ++ one ∷ between ++ other ∷ after
  pub lowest : Lowest b 2 s.links mark
  pub one_there : EndAt mark one
  pub other_there : EndAt mark other
  pub then : s' ≡ sketch (before ++ joined (read_to mark one) (read_from mark other) ∷ between ++ after) s.spurs s.loops

-- "until none is left"
pub record NoneLeft (b : ℕ) (s : Sketch) : Type 0 where
  pub no_spur : NoMark b 1 s.links
  pub no_loop : NoLoop s.links
  pub no_merge : NoMark b 2 s.links

-- one step after the other, until none is left
pub data Steps (b : ℕ) : Sketch → Sketch → Type 0 where
  spur : {s s' u : Sketch} → Spur b s s' → Steps b s' u → Steps b s u
  loop : {s s' u : Sketch} → LoopOff b s s' → Steps b s' u → Steps b s u
  merge : {s s' u : Sketch} → Merge b s s' → Steps b s' u → Steps b s u
  done : {s : Sketch} → NoneLeft b s → Steps b s s

-- s is a junction sketch of the lines among b marks
pub record IsSketch (b : ℕ) (lines : List Line) (s : Sketch) : Type 0 where
  pub left : Sketch
  pub way : Steps b (start_of lines) left
  pub its : s ≡ finished left
