-- Request 04: what a book's version asks of its tolerance t and of its lines' classes, and what tolerance a line then has.
-- Assumes nothing.
use Rattle.std.specs.Prelude.{Bool, not, cond, List, [], ◌∷◌, ◌⊎◌, ◌≡◌, ℕ, get_or, ℤ, pos, negsuc}
use Rattle.laws.specs.Tests.{out_z, eq_z}
use Rattle.laws.specs.Range.{Between}
use Rattle.book.specs.Limits.{least_version, most_version, least_tolerance, most_tolerance, least_class, most_class}

-- "3 for versions other than 1 and 2"
unfoldable pub version_out : ℤ → Bool
version_out version = out_z (pos least_version) (pos most_version) version

-- the lines of a version 2 book have classes; "Version 1 keeps its single t"
abbrev pub has_classes : ℤ → Bool
has_classes version = eq_z version (pos 2)

-- "4 for t not 0 in version 2"; in version 1 it is within document 01's limit
unfoldable pub tolerance_out : ℤ → ℤ → Bool
tolerance_out version t = cond (has_classes version) (not (eq_z t (pos 0))) (out_z (pos least_tolerance) (pos most_tolerance) t)

-- "in a version 1 book it is -1": such a line has no class
abbrev pub no_class : ℤ
no_class = negsuc 0

-- "a class that is not 0 to 4 in version 2 or not -1 in version 1"
unfoldable pub class_out : ℤ → ℤ → Bool
class_out version class = cond (has_classes version) (out_z (pos least_class) (pos most_class) class) (not (eq_z class no_class))

-- "the tolerance of each comes from a table of five: 40, 50, 60, 80, 120 tenths of mm per root km"
abbrev pub tolerances : List ℕ
tolerances = 40 ∷ 50 ∷ 60 ∷ 80 ∷ 120 ∷ []

-- the tolerance of a line of this class: the table's, or t where the line has none
unfoldable pub tolerance_of : ℕ → ℤ → ℕ
tolerance_of t (pos class) = get_or tolerances class 0
tolerance_of t (negsuc k) = t

-- a class of the table, or none
abbrev pub Classed : ℤ → Type 0
Classed class = (class ≡ no_class) ⊎ Between least_class most_class class
