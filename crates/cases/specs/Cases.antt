-- What the programs that run cases put into a buffer before a call, and print of it after.
-- Assumes nothing.
use Rattle.std.specs.Prelude.{ℕ, ◌+◌, ◌*◌, ◌-◌, ◌%◌, cond, List, [], ◌∷◌, ◌++◌, ℤ, pos, negsuc, nat_abs, ltb, length, take, set}
use Rattle.std.specs.Int.Signed.{lt_z}
use Rattle.text.specs.Bytes.{bytes}
use Rattle.text.specs.Number.{decimal}
use Rattle.text.specs.Report.{listed_text}

-- what stands in every place of a buffer before the call
abbrev pub untouched : ℤ
untouched = negsuc 7776

-- number k of the last entry, of w numbers, is x; a buffer without an entry stays
unfoldable pub spoilt_last : List ℤ → ℕ → ℕ → ℤ → List ℤ
spoilt_last s w k x = cond (ltb (length s) w) s (set s (length s - w + k) x)

-- a number below 0 is told from one of the same size above it
abbrev pub side_of : ℤ → ℕ
side_of x = cond (lt_z x (pos 0)) 500000 0

-- the digest of a buffer, from the digest of what was before it
unfoldable pub mixed_with : ℕ → ℤ → ℕ
mixed_with sum x = (sum % 1000003 * 257 + nat_abs x % 1000003 + side_of x) % 1000003

unfoldable pub digest_from : ℕ → List ℤ → ℕ
unfolding mixed_with
digest_from sum [] = sum
digest_from sum (x ∷ rest) = digest_from (mixed_with sum x) rest

unfoldable pub digest_of : List ℤ → ℕ
unfolding digest_from
digest_of s = digest_from 0 s

-- a number after a space
unfoldable pub spaced : ℕ → List ℕ
spaced n = bytes " " ++ decimal n

-- the first seven numbers of a buffer, each after a space, and its digest
unfoldable pub numbers_text : List ℤ → List ℕ
unfolding digest_of
numbers_text s = listed_text (take 7 s) ++ bytes " #" ++ decimal (digest_of s)

-- room for them: seven numbers of at most 21 bytes, and 9 for the digest
abbrev pub shown_bytes : ℕ
shown_bytes = 160
