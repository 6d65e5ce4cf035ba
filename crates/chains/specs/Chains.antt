-- Half lines and chains of halves: what a chain is and what the chains hold. Assumes nothing.
use Rattle.std.specs.Prelude.{ℕ, ◌+◌, ◌*◌, ◌-◌, ◌/◌, ◌%◌, ◌≤◌, ◌<◌, ◌≡◌, Bool, true, false, eqb, length, get_or}
use mathlib.Core.List.{List, [], ◌∷◌, Memᴰ}
use Rattle.book.specs.Limits.{least_length, most_length}
use Rattle.network.specs.Standing.{Line}
use Rattle.network.specs.Sound.{Rising}

-- ---- limits: no line number and no half number reaches past these

abbrev pub number_limit : ℕ
number_limit = 1024

-- two halves to a line
abbrev pub halves : ℕ
halves = 2048

-- ---- a half: a line run from u to v, by its number: twice the line's, one more against its sense

pub data Half (l : Line) (u v h : ℕ) : Type 0 where
  fore : l.from ≡ u → l.to ≡ v → h ≡ 2 * l.number → Half l u v h
  aft : l.to ≡ u → l.from ≡ v → h ≡ 2 * l.number + 1 → Half l u v h

-- the half of the same line the other way
abbrev pub flip : ℕ → ℕ
flip h = h / 2 * 4 + 1 - h

-- ---- ends: of each half the length of its line and the mark that it leads to, in one number; 0 where the book has no such standing line

abbrev pub mark_of : List ℕ → ℕ → ℕ
mark_of ends h = get_or ends h 0 % halves

abbrev pub metres_of : List ℕ → ℕ → ℕ
metres_of ends h = get_or ends h 0 / halves

-- length and half in one number, so that one test compares the lengths and then the line numbers
abbrev pub sum_of : List ℕ → ℕ → ℕ
sum_of ends h = get_or ends h 0 - get_or ends h 0 % halves + h

-- the line by which mark m came into the tree: its key ends with that half; 0 for a root
abbrev pub line_in : List ℕ → ℕ → ℕ
line_in best m = get_or best m 0 % halves / 2

-- each half leads to a mark below n, and is no longer than a line may be
pub record Bounded (n : ℕ) (ends : List ℕ) : Type 0 where
  pub ends_at : halves ≤ length ends
  pub mark_ok : (h : ℕ) → h < halves → mark_of ends h < n
  pub short : (h : ℕ) → h < halves → metres_of ends h ≤ most_length

-- what ends says of the lines
abbrev pub Told : List Line → List ℕ → Type 0
Told lines ends = (l : Line) (u v h : ℕ) → Memᴰ l lines → Half l u v h → get_or ends h 0 ≡ l.length * halves + v

-- ---- chains: each half of a chain has the next one at its place of next, the last one 0

-- h is on the chain whose first half is i; 0 is no half
pub data On (next : List ℕ) : ℕ → ℕ → Type 0 where
  here : {i h : ℕ} → 0 < i → i ≡ h → On next i h
  later : {i h : ℕ} → 0 < i → On next (get_or next i 0) h → On next i h

-- the chain whose first half is i is the halves hs, one after the other, and ends
pub data Chain (next : List ℕ) : ℕ → List ℕ → Type 0 where
  no_half : {i : ℕ} → i ≡ 0 → Chain next i []
  first : {i : ℕ} {hs : List ℕ} → 0 < i → i < halves → Chain next (get_or next i 0) hs → Chain next i (i ∷ hs)

-- there is such a chain, and next has a place for each half
pub record Chained (next : List ℕ) (i : ℕ) : Type 0 where
  pub nexts : halves ≤ length next
  pub hs : List ℕ
  pub chain : Chain next i hs

-- each mark below n has its chain, by its first half
pub record Heads (n : ℕ) (head next : List ℕ) : Type 0 where
  pub heads : n ≤ length head
  pub chained : (m : ℕ) → m < n → Chained next (get_or head m 0)

-- a half of one of the lines sub leaves the mark m
pub record Leaves (sub : List Line) (m h : ℕ) : Type 0 where
  pub l : Line
  pub to : ℕ
  pub is_line : Memᴰ l sub
  pub half : Half l m to h

-- the chains hold the lines sub, each twice: the chain of a mark has the halves that leave it
pub record Chains (sub : List Line) (n : ℕ) (head next : List ℕ) : Type 0 where
  pub of : (m h : ℕ) → m < n → On next (get_or head m 0) h → Leaves sub m h
  pub has : (m h : ℕ) → Leaves sub m h → On next (get_or head m 0) h

-- the chains of the marks below n hold the lines sub
pub record Drawn (sub : List Line) (n : ℕ) (head next : List ℕ) : Type 0 where
  pub heads : Heads n head next
  pub chains : Chains sub n head next

-- the halves of the lines sub that leave the mark m, line by line
abbrev pub left_by : Bool → ℕ → List ℕ → List ℕ
left_by true h hs = h ∷ hs
left_by false h hs = hs

unfoldable pub leaving : List Line → ℕ → List ℕ
leaving [] m = []
leaving (l ∷ sub) m = left_by (eqb l.to m) (2 * l.number + 1) (left_by (eqb l.from m) (2 * l.number) (leaving sub m))

-- the chain of each mark below n has them in this order
pub record InOrder (sub : List Line) (n : ℕ) (head next : List ℕ) : Type 0 where
  pub heads : n ≤ length head
  pub nexts : halves ≤ length next
  pub chain : (m : ℕ) → m < n → Chain next (get_or head m 0) (leaving sub m)

-- lines as a book has them, on marks below n
pub record Sound (n : ℕ) (l : Line) : Type 0 where
  pub from_low : 0 < l.from
  pub from_high : l.from < n
  pub to_low : 0 < l.to
  pub to_high : l.to < n
  pub apart : l.from ≡ l.to → ⊥
  pub long : least_length ≤ l.length
  pub short : l.length ≤ most_length
  pub numbered : 0 < l.number
  pub number : l.number < number_limit

abbrev pub AllSound : ℕ → List Line → Type 0
AllSound n sub = (l : Line) → Memᴰ l sub → Sound n l

-- the chains hold sub, lines of a book by rising number, and ends tells of them
pub record Given (sub : List Line) (n : ℕ) (head next ends : List ℕ) : Type 0 where
  pub rising : Rising sub
  pub sound : AllSound n sub
  pub few : n ≤ halves
  pub told : Told sub ends
  pub chains : Chains sub n head next

-- ---- a half as a search meets it

-- on the chain of m, to the mark that ends has
pub record Met (sub : List Line) (ends : List ℕ) (m h : ℕ) : Type 0 where
  pub l : Line
  pub is_line : Memᴰ l sub
  pub half : Half l m (mark_of ends h) h
  pub sum : sum_of ends h ≡ l.length * halves + h

-- the chain whose first half is i has a half to v with the sum a
pub record Has (next ends : List ℕ) (i v a : ℕ) : Type 0 where
  pub h : ℕ
  pub on : On next i h
  pub leads : mark_of ends h ≡ v
  pub sum : sum_of ends h ≡ a
