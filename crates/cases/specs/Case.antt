-- A case on a program's standard input: 48 bytes of name, some numbers of two bytes each, the last of them the length of its file,
-- and the file.
-- Assumes nothing.
use Rattle.std.specs.Prelude.{ℕ, ◌<◌, ◌+◌, ◌-◌, ◌*◌, cond, List, ltb, length, get_or, take, drop, ◌≡◌, Option, MatchOption}
use Rattle.std.specs.Borrow.{Bor}

-- the number in the bytes at and at + 1, the high one first
abbrev pub two_at : List ℕ → ℕ → ℕ
two_at s at = get_or s at 0 * 256 + get_or s (at + 1) 0

abbrev pub name_bytes : ℕ
name_bytes = 48

-- the bytes before the file of a case that has so many numbers
abbrev pub head_bytes : ℕ → ℕ
head_bytes numbers = name_bytes + 2 * numbers

-- the place after the case at `at` that has so many numbers; `at`, where there is no whole one
unfoldable pub after_case : List ℕ → ℕ → ℕ → ℕ
after_case input at numbers =
    let file = at + head_bytes numbers in
    let end = file + two_at input (file - 2) in
    cond (ltb (length input) file) at (cond (ltb (length input) end) at end)

abbrev pub name_of : List ℕ → List ℕ
name_of case = take name_bytes case

-- number k of a case, counted from 0; 0 where it is not there
unfoldable pub number_of : List ℕ → ℕ → ℕ
number_of case k = cond (ltb (length case) (head_bytes k + 2)) 0 (two_at case (head_bytes k))

abbrev pub file_of : List ℕ → ℕ → List ℕ
file_of case numbers = drop (head_bytes numbers) case

-- of what is left of an input the next case is the first whole one, and what follows it stays; there is none where no whole one is left
unfoldable pub IsNextCase : List ℕ → ℕ → Option (Bor (List ℕ)) → List ℕ → Type 0
IsNextCase input numbers next rest =
    let end = after_case input 0 numbers in
    MatchOption next (end ≡ 0) (λ case. (0 < end) × (case.now ≡ take end input) × (rest ≡ drop end input))
