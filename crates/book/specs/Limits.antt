-- Document 01, the table of limits: each "from" and each "to" by its own name; of a number that may lie either way, its size. And request
-- 03's limit of the verdict, and request 04's of versions and classes.
-- Assumes nothing.
use Rattle.std.specs.Prelude.{ℕ}

abbrev pub least_version : ℕ
least_version = 1

abbrev pub most_version : ℕ
most_version = 2

abbrev pub least_marks : ℕ
least_marks = 1

abbrev pub most_marks : ℕ
most_marks = 256

abbrev pub least_lines : ℕ
least_lines = 0

abbrev pub most_lines : ℕ
most_lines = 512

abbrev pub least_held : ℕ
least_held = 0

abbrev pub most_held : ℕ
most_held = 256

-- tenths of mm per root km
abbrev pub least_tolerance : ℕ
least_tolerance = 1

abbrev pub most_tolerance : ℕ
most_tolerance = 1000

-- micrometres, either way
abbrev pub most_difference : ℕ
most_difference = 100000000

-- metres
abbrev pub least_length : ℕ
least_length = 10

abbrev pub most_length : ℕ
most_length = 100000

-- "The classes are 0 to 4"
abbrev pub least_class : ℕ
least_class = 0

abbrev pub most_class : ℕ
most_class = 4

-- metres: the allowable misclosure "takes a section shorter than 0.25 km as 0.25 km"
abbrev pub least_judged : ℕ
least_judged = 250

-- micrometres, either way
abbrev pub most_held_height : ℕ
most_held_height = 10000000000

abbrev pub most_height : ℕ
most_height = 50000000000
