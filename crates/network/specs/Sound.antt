-- What is known of the standing lines of a book that is not refused.
-- Assumes nothing.
use Rattle.std.specs.Prelude.{ℕ, ◌≤◌, ◌<◌, ◌≡◌}
use mathlib.Core.List.{List, [], ◌∷◌, Memᴰ}
use Rattle.book.specs.Limits.{least_length}
use Rattle.network.specs.Standing.{Line}

-- the line's ends are marks of the book: "Marks are 1 to b"
pub record Placed (b : ℕ) (l : Line) : Type 0 where
  pub from_low : 0 < l.from
  pub from_high : l.from ≤ b
  pub to_low : 0 < l.to
  pub to_high : l.to ≤ b

-- no line has equal ends
abbrev pub Apart : List Line → Type 0
Apart lines = (k : Line) → Memᴰ k lines → k.from ≡ k.to → ⊥

-- no line has length 0
abbrev pub Long : List Line → Type 0
Long lines = (k : Line) → Memᴰ k lines → 0 < k.length

-- the lines go by strictly rising number
pub data Rising : List Line → Type 0 where
  none_left : Rising []
  then : {l : Line} {ls : List Line} → ((k : Line) → Memᴰ k ls → l.number < k.number) → Rising ls → Rising (l ∷ ls)

-- the standing lines of a book of b marks that passes the test of its lines (refusal 7)
pub record Sound (b : ℕ) (lines : List Line) : Type 0 where
  pub placed : (l : Line) → Memᴰ l lines → Placed b l
  pub apart : Apart lines
  pub long_enough : (l : Line) → Memᴰ l lines → least_length ≤ l.length
  pub rising : Rising lines
