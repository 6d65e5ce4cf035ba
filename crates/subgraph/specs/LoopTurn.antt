-- One loop's turn, and how far the turns have come. Document 01, "Loops": "Closing lines are taken in their order. A loop runs its closing
-- line from its from end to its to end, then back by the shortest path in the subgraph .. A closing line whose path has one line is not
-- added; any other is." Assumes nothing.
use Rattle.std.specs.Prelude.{ℕ, suc, ◌-◌, ◌≡◌, false, length, get_or}
use mathlib.Core.List.{List, [], ◌∷◌, ◌++◌, Memᴰ}
use Rattle.network.specs.Standing.{Line}
use Rattle.network.specs.Path.{shortest}
use Rattle.network.specs.Subgraph.{is_in, only}
use Rattle.network.specs.ClosingOrder.{Distinct}
use Rattle.loops.specs.Loops.{Loop, added, loops_from, loops}
use Rattle.chains.specs.Chains.{Bounded, Drawn}
use Rattle.chains.specs.Listed.{Listed}
use Rattle.search.specs.Front.{RoomPath, Written}

-- the closing line c, which is not in the subgraph yet, is about to be taken
pub record Taking (lines : List Line) (sub : List ℕ) (c : Line) (n q number : ℕ) (ends head next : List ℕ) : Type 0 where
  pub listed : Listed lines n q ends
  pub drawn : Drawn (only sub lines) n head next
  pub is_line : Memᴰ c lines
  pub not_yet : is_in c.number sub ≡ false
  pub its : c.number ≡ number

-- what the turn asks for: room, and that there is such a line
pub record Takes (n number : ℕ) (ends head next best seg out : List ℕ) : Type 0 where
  pub bounded : Bounded n ends
  pub room : RoomPath n best seg out
  pub q : ℕ
  pub lines : List Line
  pub sub : List ℕ
  pub c : Line
  pub taking : Taking lines sub c n q number ends head next

-- what a turn changes: the chains of the subgraph, and the places for the path
pub record Turning : Type 0 where
  pub head : List ℕ
  pub next : List ℕ
  pub out : List ℕ

abbrev pub turning : List ℕ → List ℕ → List ℕ → Turning
turning head next out = record { head = head; next = next; out = out }

-- before and after: the path of c is written, in so many lines, and the subgraph has c with it unless the path has one line
pub record Took (lines : List Line) (sub : List ℕ) (c : Line) (n : ℕ) (a z : Turning) (count : ℕ) : Type 0 where
  pub written : Written n (shortest (n - 1) (only sub lines) c.to c.from) a.out z.out count
  pub drawn : Drawn (only (added c.number (shortest (n - 1) (only sub lines) c.to c.from) sub) lines) n z.head z.next

abbrev pub Taken : ℕ → ℕ → List ℕ → Turning → Turning → ℕ → Type 0
Taken n number ends a z count =
    (q : ℕ) (lines : List Line) (sub : List ℕ) (c : Line) → Taking lines sub c n q number ends a.head a.next
    → Took lines sub c n a z count

-- ---- how far the turns have come: these loops are done, these closing lines are left, and the subgraph has the lines sub

pub record Reached (b : ℕ) (lines : List Line) (done : List Loop) (rest : List Line) (sub : List ℕ) : Type 0 where
  pub all : loops b lines ≡ done ++ loops_from b lines rest sub
  pub lines_left : (c : Line) → Memᴰ c rest → Memᴰ c lines
  pub differ : Distinct rest
  pub not_yet : (c : Line) → Memᴰ c rest → is_in c.number sub ≡ false

-- from place i on the numbers of the closing lines cs
pub data Queue (close : List ℕ) : ℕ → List Line → Type 0 where
  empty : {i : ℕ} → Queue close i []
  next_is : {i : ℕ} {c : Line} {cs : List Line} → get_or close i 0 ≡ c.number → Queue close (suc i) cs → Queue close i (c ∷ cs)

-- after the first i loops: what is done, what is left, and the subgraph then
pub record Going (n i : ℕ) (lines : List Line) (close head next : List ℕ) : Type 0 where
  pub done : List Loop
  pub rest : List Line
  pub sub : List ℕ
  pub reached : Reached (n - 1) lines done rest sub
  pub count : length done ≡ i
  pub queue : Queue close i rest
  pub drawn : Drawn (only sub lines) n head next
