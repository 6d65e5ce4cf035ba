-- Document 01's worked network by computation: start, D and g of a mark, the first sweep, and the whole adjustment in 15 sweeps.
-- Assumes nothing.
use Prim.Native.Nat.{ℕ}
use mathlib.Core.Path.{◌≡◌, refl}
use mathlib.Core.List.{List, [], ◌∷◌}
use lib.IntN.{ℤ, pos, negsuc}
use Rattle.laws.specs.Tests.{out_z, eq_z}
use Rattle.laws.specs.Scan.{first_from, first_bad}
use Rattle.book.specs.Version.{no_class}
use Rattle.book.specs.Height.{work_height_out}
use Rattle.network.specs.Standing.{keep, standing_from, standing}
use Rattle.network.specs.Tree.{distance, score, far, lowest, first_out, step, grow, up_to, marks, tree}
use Rattle.divisions.specs.Weight.{weight_of}
use Rattle.sights.specs.Sights.{sights_of, weights, pull}
use Rattle.divisions.specs.Nearest.{nearest_size, nearest}
use Rattle.sweeps.specs.Sweeps.{moved, move_of, visited, sweep, settle_from, settle}
use Rattle.start.specs.Start.{held_height, is_held, rooted_by, root_height, unheld_piece, start_of, heights_from, start, start_heights}
use Rattle.adjust.specs.Adjusted.{done, refused, adjustment}

abbrev line : ℕ → ℕ → ℤ → ℕ → List ℤ → List ℤ
line f t d l rest = pos f ∷ pos t ∷ d ∷ pos l ∷ pos 1 ∷ no_class ∷ rest

abbrev lines : List ℤ
lines =
    line 1 3 (pos 6345000) 1600
    (line 2 3 (pos 4235000) 2500
    (line 5 2 (pos 3060000) 1000
    (line 5 1 (pos 920000) 4000
    (line 1 4 (pos 3895000) 1600
    (line 4 3 (pos 2410000) 1250
    (line 5 4 (pos 4820000) 2000 []))))))

abbrev held : List ℤ
held = pos 1 ∷ pos 100000000 ∷ []

abbrev begun : List ℤ
begun = pos 100000000 ∷ pos 102110000 ∷ pos 106345000 ∷ pos 103895000 ∷ pos 99075000 ∷ []

begins : start_heights 5 held lines ≡ begun
unfolding start_heights start start_of heights_from root_height rooted_by held_height tree marks up_to grow step first_out lowest far score
    distance standing standing_from keep
begins = refl

-- mark 2 has lines 2 and 3
weights_at_2 : weights (sights_of (standing lines) 2) ≡ 1400
unfolding weights sights_of weight_of standing standing_from keep
weights_at_2 = refl

pull_at_2 : pull begun (pos 102110000) (sights_of (standing lines) 2) ≡ pos 25000000
unfolding pull sights_of weight_of standing standing_from keep
pull_at_2 = refl

first_sweep : sweep (sights_of (standing lines)) (is_held held) begun 5
    ≡ moved (pos 100000000 ∷ pos 102127857 ∷ pos 106331380 ∷ pos 103905963 ∷ pos 99074765 ∷ [])
unfolding sweep visited move_of work_height_out out_z eq_z nearest nearest_size pull weights sights_of weight_of is_held held_height
    standing
    standing_from keep
first_sweep = refl

-- 102.1235, 106.3358, 103.9072 and 99.0726 m to 0.1 mm
whole : adjustment 5 held lines ≡ done 15 (pos 100000000 ∷ pos 102123536 ∷ pos 106335770 ∷ pos 103907175 ∷ pos 99072642 ∷ [])
unfolding adjustment unheld_piece first_bad first_from start_heights start start_of heights_from root_height rooted_by held_height is_held
    tree
    marks up_to grow step first_out lowest far score distance standing standing_from keep settle settle_from sweep visited move_of
    work_height_out out_z eq_z nearest nearest_size pull weights sights_of weight_of
whole = refl

-- no mark is held: 11 at mark 1
none_held : adjustment 5 [] lines ≡ refused 11 1
unfolding adjustment unheld_piece first_bad first_from start_heights start start_of heights_from root_height rooted_by held_height is_held
    tree
    marks up_to grow step first_out lowest far score distance standing standing_from keep settle settle_from sweep visited move_of
    work_height_out out_z eq_z nearest nearest_size pull weights sights_of weight_of
none_held = refl

-- halves toward zero, of both signs; just over a half is rounded away
half_up : nearest (pos 7) 2 ≡ pos 3
unfolding nearest nearest_size
half_up = refl

half_down : nearest (negsuc 6) 2 ≡ negsuc 2
unfolding nearest nearest_size
half_down = refl

over_half : nearest (negsuc 7) 3 ≡ negsuc 2
unfolding nearest nearest_size
over_half = refl
