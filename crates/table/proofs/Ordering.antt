-- The closing lines and the tree's lines make the start of the loops. Assumes nothing.
use Prim.Native.Nat.{ℕ, ◌+◌, ◌-◌, ◌≤◌, ◌<◌}
use native.Mathlib.Omega.{arith}
use mathlib.Core.Path.{◌≡◌, refl, ◌∙◌}
use mathlib.Core.List.{List, [], ◌∷◌, Memᴰ}
use lib.ListN.{length}
use Rattle.network.specs.Standing.{Line}
use Rattle.network.specs.Tree.{tree, tree_lines, pieces}
use Rattle.network.specs.Closing.{closing}
use Rattle.network.specs.Subgraph.{numbers}
use Rattle.network.specs.Sound.{Rising, then, Placed}
use Rattle.network.proofs.Count.{tree_and_roots, closing_count}
use Rattle.network.proofs.Marks.{size}
use Rattle.loops.proofs.Count.{loops_count}
use Rattle.chains.specs.Listed.{Listed}
use Rattle.closing.specs.Order.{Ready, Put}
use Rattle.closing.proofs.Members.{length_numbers}
use Rattle.subgraph.specs.Drawn.{RoomLay, TreeDrawn}
use Rattle.subgraph.proofs.LoopTurns.{going_start, queue_start}
use Rattle.table.specs.Ordered.{Orders, Started}

-- lines by rising number, above k and below q
rising_few : (q k : ℕ) (lines : List Line) → k < q → Rising lines → ((l : Line) → Memᴰ l lines → (k < l.number) × (l.number < q))
    → k + length lines < q
rising_few q k [] h r f = omega arith
rising_few q k (l ∷ ls) h (then above r) f =
    let w = f l (Memᴰ.head refl) in
    omega (arith, w.0, rising_few q l.number ls w.1 r (λ j i. (above j i, (f j (Memᴰ.tail i)).1)))

module _ (n q : ℕ) (ends : List ℕ) (some_line : 0 < q) (lines : List Line) (li : Listed lines n q ends) where
  placed : (l : Line) → Memᴰ l lines → Placed (n - 1) l
  placed l i = let x = li.sound l i in
      record { from_low = x.from_low; from_high = omega (arith, x.from_high); to_low = x.to_low; to_high = omega (arith, x.to_high) }

  apart : (l : Line) → Memᴰ l lines → l.from ≡ l.to → ⊥
  apart l i = (li.sound l i).apart

  few_lines : length lines < q
  few_lines = omega (arith, rising_few q 0 lines some_line li.rising (λ l i. ((li.sound l i).numbered, li.numbered l i)))

  -- "tree lines = marks - pieces"
  roots : length (tree_lines (tree (n - 1) lines)) + pieces (tree (n - 1) lines) ≡ n - 1
  roots = tree_and_roots (tree (n - 1) lines) ∙ size (n - 1) lines placed

  -- and so the closing lines are fewer than q
  pub few_closing : length (closing lines (tree (n - 1) lines)) < q
  few_closing = omega (arith, few_lines, roots, closing_count (n - 1) lines placed li.rising apart)

  module _ (head next close close' : List ℕ) (count r : ℕ) (room : q ≤ length close + 1)
      (put : Put (numbers (closing lines (tree (n - 1) lines))) close close' count) (td : TreeDrawn lines n head next r) where
    pub few_laid : r ≤ n - 1
    few_laid = omega (arith, td.count, roots)

    pub started : Started n lines head next close' (record { count = count; pieces = n - 1 - r })
    started = record {
      going = going_start n lines close' q r ends head next li td
          (queue_start close close' (closing lines (tree (n - 1) lines)) (omega (arith, few_closing)) put.places);
      count_is = omega (
        arith,
        put.count,
        length_numbers (closing lines (tree (n - 1) lines)),
        loops_count (n - 1) lines placed
            li.rising apart,
        closing_count (n - 1) lines placed li.rising apart,
      );
      pieces_are = omega (arith, td.count, roots);
    }

module _ {n q : ℕ} {ends head next best order close : List ℕ} (o : Orders n q ends head next best order close) where
  pub ready_of : Ready n q ends best order close
  ready_of = record {
    few_marks = o.few_marks;
    few = o.few_lines;
    bounded = o.bounded;
    bests = o.bests;
    some_mark = o.some_mark;
    orders = o.orders;
    order_ok = o.below;
    some_line = o.some_line;
    lines = o.lines;
    listed = o.listed;
    holding = o.holding;
    room = omega (arith, few_closing n q ends o.some_line o.lines o.listed, o.closes);
  }

  pub room_of : RoomLay n best order head next
  room_of = record { some_mark = o.some_mark; bests = o.bests; orders = o.orders; below = o.below; chains = o.chains }
