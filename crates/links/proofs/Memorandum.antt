-- The network of the Memorandum's part 1, and small ones, by computation. The Memorandum's marks A to R, without I and O, are 1 to 16.
-- Assumes nothing.
use Prim.Native.Nat.{ℕ}
use mathlib.Core.Path.{◌≡◌, refl}
use mathlib.Core.Bool.{true, false}
use mathlib.Core.List.{List, [], ◌∷◌}
use lib.IntN.{ℤ, pos, neg_ℤ}
use Rattle.laws.specs.Scan.{first_from}
use Rattle.book.specs.Version.{no_class}
use Rattle.network.specs.Standing.{Line, line}
use Rattle.network.specs.Walk.{pass}
use Rattle.links.specs.Link.{link}
use Rattle.links.specs.Sketch.{Sketch, sketch, sketch_of, entries, run_of}

-- a line of 100 m without a difference
abbrev level : ℕ → ℕ → ℕ → Line
level n f t = line n f t (pos 0) 100 no_class

-- AE EB BC CG GD DA AF FC BD FH HJ JK KH KL LM MN NP PM PQ QR
abbrev pub memorandum : List Line
memorandum =
    level 1 1 5 ∷ level 2 5 2 ∷ level 3 2 3 ∷ level 4 3 7 ∷ level 5 7 4 ∷ level 6 4 1 ∷ level 7 1 6 ∷ level 8 6 3 ∷ level 9 2 4
    ∷ level 10 6 8 ∷ level 11 8 9 ∷ level 12 9 10 ∷ level 13 10 8 ∷ level 14 10 11 ∷ level 15 11 12 ∷ level 16 12 13 ∷ level 17 13 14
    ∷ level 18 14 12 ∷ level 19 14 15 ∷ level 20 15 16 ∷ []

abbrev its : Sketch
its = sketch_of 16 memorandum

-- "It gives 4 junctions": the lines of all links, spurs and loops
pub run_of_memorandum : run_of its ≡
    pos 1 ∷ pos 2 ∷ pos 3 ∷ pos 4 ∷ pos 5 ∷ neg_ℤ (pos 6) ∷ pos 7 ∷ pos 8 ∷ pos 9
    ∷ neg_ℤ (pos 20) ∷ neg_ℤ (pos 19) ∷ neg_ℤ (pos 15) ∷ neg_ℤ (pos 14) ∷ neg_ℤ (pos 10)
    ∷ pos 16 ∷ pos 17 ∷ pos 18 ∷ pos 11 ∷ pos 12 ∷ pos 13 ∷ []
unfolding run_of sketch_of first_from
run_of_memorandum = refl

-- five numbers of a network without differences: the two marks, how many lines, and each of 100 m
abbrev level_entry : ℕ → ℕ → ℕ → ℕ → List ℤ → List ℤ
level_entry f l n m rest = pos f ∷ pos l ∷ pos n ∷ pos m ∷ pos 0 ∷ rest

-- the six links, each from its lower junction
pub links_of_memorandum : entries its.links ≡
    level_entry 1 2 2 200 (level_entry 2 3 1 100 (level_entry 3 4 2 200
    (level_entry 1 4 1 100 (level_entry 1 3 2 200 (level_entry 2 4 1 100 [])))))
unfolding entries sketch_of first_from
links_of_memorandum = refl

-- the four spurs, each from its mark, and as they went
pub spurs_of_memorandum : entries its.spurs ≡
    level_entry 16 15 1 100 (level_entry 15 14 1 100 (level_entry 12 10 2 200 (level_entry 8 6 1 100 [])))
unfolding entries sketch_of first_from
spurs_of_memorandum = refl

-- the two self-closing loops
pub loops_of_memorandum : entries its.loops ≡ level_entry 12 12 3 300 (level_entry 8 8 3 300 [])
unfolding entries sketch_of first_from
loops_of_memorandum = refl

-- ---- small networks, of lines of any differences, lengths and classes

module _ (c d e x y z : ℤ) (k l m : ℕ) where
  -- "Two parallel lines alone become one loop": it hangs at their higher mark, begun with the lower line
  pub two_parallel : sketch_of 2 (line 1 1 2 c k x ∷ line 2 1 2 d l y ∷ []) ≡
      sketch [] [] (link 2 2 (pass (line 1 1 2 c k x) true ∷ pass (line 2 1 2 d l y) false ∷ []) ∷ [])
  unfolding sketch_of first_from
  two_parallel = refl

  -- "three stay three links"
  pub three_parallel : sketch_of 2 (line 1 1 2 c k x ∷ line 2 1 2 d l y ∷ line 3 2 1 e m z ∷ []) ≡
      sketch (link 1 2 (pass (line 1 1 2 c k x) true ∷ []) ∷ link 1 2 (pass (line 2 1 2 d l y) true ∷ [])
      ∷ link 1 2 (pass (line 3 2 1 e m z) false ∷ []) ∷ []) [] []
  unfolding sketch_of first_from
  three_parallel = refl

  -- "A lone link between two marks is the spur of its lower mark"
  pub lone_line : sketch_of 2 (line 1 2 1 c k x ∷ []) ≡ sketch [] (link 1 2 (pass (line 1 2 1 c k x) false ∷ []) ∷ []) []
  unfolding sketch_of first_from
  lone_line = refl

  -- "A whole ring hangs at its highest mark, and its lines need not start there"
  pub whole_ring : sketch_of 3 (line 1 1 2 c k x ∷ line 2 2 3 d l y ∷ line 3 3 1 e m z ∷ []) ≡
      sketch [] [] (link 3 3 (pass (line 1 1 2 c k x) true ∷ pass (line 2 2 3 d l y) true ∷ pass (line 3 3 1 e m z) true ∷ []) ∷ [])
  unfolding sketch_of first_from
  whole_ring = refl
