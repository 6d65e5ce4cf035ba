-- Halves are put in front of chains. Assumes nothing.
use Rattle.std.specs.Prelude.{ℕ, ◌+◌, ◌*◌, ◌≤◌, ◌<◌, ◌≡◌, ◌⊎◌, length, get_or, set}
use mathlib.Core.List.{List, Memᴰ}
use Rattle.network.specs.Standing.{Line}
use Rattle.chains.specs.Chains.{mark_of, halves, number_limit}

-- room for the chains of the marks below n
pub record RoomChains (n : ℕ) (head next : List ℕ) : Type 0 where
  pub heads : n ≤ length head
  pub nexts : halves ≤ length next

-- the half h is in front of the chain of m
pub record Linked (head next head' next' : List ℕ) (m h : ℕ) : Type 0 where
  pub heads : head' ≡ set head m h
  pub nexts : next' ≡ set next h (get_or head m 0)

-- by ends, the halves of the line of this number lead to marks below n
pub record Fits (n : ℕ) (ends : List ℕ) (number : ℕ) : Type 0 where
  pub number_ok : number < number_limit
  pub ends_at : halves ≤ length ends
  pub from_ok : mark_of ends (number * 2 + 1) < n
  pub to_ok : mark_of ends (number * 2) < n

-- both of its halves have joined, each the chain of the mark that it leaves
pub record Joined (ends head next head' next' : List ℕ) (number : ℕ) : Type 0 where
  pub head₁ : List ℕ
  pub next₁ : List ℕ
  pub along : Linked head next head₁ next₁ (mark_of ends (number * 2 + 1)) (number * 2)
  pub against : Linked head₁ next₁ head' next' (mark_of ends (number * 2)) (number * 2 + 1)

-- sub' is sub and the line l
pub record Wider (sub sub' : List Line) (l : Line) : Type 0 where
  pub mine : Memᴰ l sub'
  pub keeps : (k : Line) → Memᴰ k sub → Memᴰ k sub'
  pub only : (k : Line) → Memᴰ k sub' → (k ≡ l) ⊎ Memᴰ k sub
