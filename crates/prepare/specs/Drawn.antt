-- The lent book is drawn: of each half of its standing lines what ends has, and their chains. Assumes nothing.
use Rattle.std.specs.Prelude.{ℕ, ◌+◌, ◌*◌, ◌-◌, ◌≤◌, ◌<◌, ◌≡◌, true, false, List, ℤ, pos, nat_abs, length, set}
use Rattle.network.specs.Standing.{standing}
use Rattle.laws.specs.Tests.{eq_z}
use Rattle.book.specs.Line.{line_words, from_field, to_field, field, length_at, standing_at, line_count}
use Rattle.book.specs.Good.{GoodLine}
use Rattle.chains.specs.Chains.{Bounded, Heads, InOrder, Given, halves, number_limit}
use Rattle.chains.specs.Link.{RoomChains, Joined}
use Rattle.chains.specs.Listed.{Listed}

-- one entry e, the line of this number
pub record Entry (n number : ℕ) (e : List ℤ) (ends head next : List ℕ) : Type 0 where
  pub whole : length e ≡ line_words
  pub some_mark : 0 < n
  pub few_marks : n ≤ halves
  pub good : GoodLine (n - 1) e 0
  pub number_ok : number < number_limit
  pub ends_at : halves ≤ length ends
  pub chains : RoomChains n head next

-- what an entry says of its half to the end in field k: length and mark
abbrev pub end_of : List ℤ → ℕ → ℕ
end_of e k = nat_abs (length_at e 0) * halves + nat_abs (field k e 0)

-- what drawing a line changes
pub record Drawing : Type 0 where
  pub ends : List ℕ
  pub head : List ℕ
  pub next : List ℕ

abbrev pub drawing : List ℕ → List ℕ → List ℕ → Drawing
drawing ends head next = record { ends = ends; head = head; next = next }

-- before and after: a withdrawn line changes nothing, a standing one is drawn by its two halves
pub data Drew (number : ℕ) (e : List ℤ) (a z : Drawing) : Type 0 where
  withdrawn : eq_z (standing_at e 0) (pos 0) ≡ true → z.ends ≡ a.ends → z.head ≡ a.head → z.next ≡ a.next → Drew number e a z
  drawn : eq_z (standing_at e 0) (pos 0) ≡ false
      → z.ends ≡ set (set a.ends (number * 2) (end_of e to_field)) (number * 2 + 1) (end_of e from_field)
      → Joined z.ends a.head a.next z.head z.next number → Drew number e a z

-- lines of a book of n - 1 marks, each good, and room to draw them
pub record RoomDraw (n : ℕ) (ls : List ℤ) (ends head next : List ℕ) : Type 0 where
  pub some_mark : 0 < n
  pub few_marks : n ≤ halves
  pub few : line_count ls + 1 < number_limit
  pub good : (i : ℕ) → i < line_count ls → GoodLine (n - 1) ls i
  pub ends_at : halves ≤ length ends
  pub chains : RoomChains n head next

-- ends and the chains are those of the standing lines
pub record BookDrawn (n : ℕ) (ls : List ℤ) (ends head next : List ℕ) : Type 0 where
  pub bounded : Bounded n ends
  pub heads : Heads n head next
  pub ordered : InOrder (standing ls) n head next
  pub listed : Listed (standing ls) n (line_count ls + 1) ends
  pub given : Given (standing ls) n head next ends
