-- The runs of ways, also the other way, and of links one after the other. Assumes nothing.
use Prim.Native.Nat.{ℕ, ◌+◌, ◌*◌, ◌/◌, ◌%◌}
use native.Mathlib.Omega.{arith}
use mathlib.Core.Path.{◌≡◌, refl, sym, ◌∙◌, ap, ap₂}
use mathlib.Core.Bool.{Bool, true, false, not}
use mathlib.Core.List.{List, [], ◌∷◌, ◌++◌, append_assoc}
use lib.Dec.{eqb}
use lib.ListN.{length}
use borrow.Author.Tests.{eq-eqb, ne_eqb}
use Rattle.network.specs.Walk.{Pass, flip}
use Rattle.network.specs.Codes.{code_of, codes}
use Rattle.links.specs.Link.{Link, turned_way}
use Rattle.joins.specs.Code.{flip_code, turned_codes, codes_in}

flip_code_lem : (f : Bool) (n : ℕ) → code_of (not f) n ≡ flip_code (code_of f n)
flip_code_lem true n = omega arith
flip_code_lem false n = omega arith

pub codes_append : (v w : List Pass) → codes (v ++ w) ≡ codes v ++ codes w
unfolding codes
codes_append [] w = refl
codes_append (p ∷ v) w = ap (λ (l : List ℕ). code_of p.forward p.line.number ∷ l) (codes_append v w)

pub codes_turned : (w : List Pass) → codes (turned_way w) ≡ turned_codes (codes w)
unfolding codes turned_way turned_codes
codes_turned [] = refl
codes_turned (p ∷ w) =
    codes_append (turned_way w) (flip p ∷ [])
    ∙ ap₂ (λ (a : List ℕ) (c : ℕ). a ++ (c ∷ [])) (codes_turned w) (flip_code_lem p.forward p.line.number)

-- as many codes as passes
pub codes_length : (w : List Pass) → length (codes w) ≡ length w
unfolding codes
codes_length [] = refl
codes_length (p ∷ w) = omega (arith, codes_length w)

abbrev pub code_of_pass : Pass → ℕ
code_of_pass p = code_of p.forward p.line.number

-- a code has its line's number, and is even where the line is run forward
code_number : (f : Bool) (n : ℕ) → code_of f n / 2 ≡ n
code_number true n = omega arith
code_number false n = omega arith

pub code_line : (p : Pass) → code_of_pass p / 2 ≡ p.line.number
code_line p = code_number p.forward p.line.number

code_sense : (f : Bool) (n : ℕ) → eqb (code_of f n % 2) 0 ≡ f
code_sense true n = eq-eqb (2 * n % 2) 0 (omega arith)
code_sense false n = ne_eqb ((2 * n + 1) % 2) 0 (omega arith)

pub even_forward : (p : Pass) → code_of_pass p % 2 ≡ 0 → p.forward ≡ true
even_forward p e = sym (code_sense p.forward p.line.number) ∙ eq-eqb (code_of_pass p % 2) 0 e

pub odd_back : (p : Pass) → (code_of_pass p % 2 ≡ 0 → ⊥) → p.forward ≡ false
odd_back p d = sym (code_sense p.forward p.line.number) ∙ ne_eqb (code_of_pass p % 2) 0 d

-- ---- of links, one after the other

pub codes_in_append : (xs ys : List Link) → codes_in (xs ++ ys) ≡ codes_in xs ++ codes_in ys
unfolding codes_in
codes_in_append [] ys = refl
codes_in_append (x ∷ xs) ys =
    ap (λ (l : List ℕ). codes x.way ++ l) (codes_in_append xs ys) ∙ sym (append_assoc (codes x.way) (codes_in xs) (codes_in ys))
