-- What is put into a buffer that is long enough is put whole, so that its bytes are as many as the text's.
-- Assumes nothing.
use mathlib.Core.Path.{◌≡◌}
use mathlib.Core.List.{List, [], ◌∷◌}
use Prim.Native.Nat.{ℕ, ◌^◌, ◌≤◌, ◌<◌}
use native.Mathlib.Omega.{arith}
use lib.IntN.{ℤ}
use lib.ListN.{length, take, length-append}
use lib.Signed.{mag, nat_abs-le}
use Rattle.text.specs.Bytes.{bytes}
use Rattle.text.specs.Put.{Put}
use Rattle.text.specs.Report.{listed_text}
use Rattle.text.proofs.Puts.{put_whole}
use Rattle.text.proofs.Room.{machine_room, signed_room}
use Rattle.cases.specs.Cases.{spaced}

-- the place after a text that has room is how long the text is
pub put_all : {l l' : List ℕ} {next : ℕ} {text : List ℕ} → Put l l' 0 next text → length text ≤ length l → next ≡ length text
put_all p h = omega (arith, p.next_is)

-- and the bytes before that place are the text
pub put_text : {l l' : List ℕ} {next : ℕ} {text : List ℕ} → Put l l' 0 next text → length text ≤ length l → take next l' ≡ text
put_text p h = put_whole p (omega arith)

pub spaced_room : (n : ℕ) → n < 2 ^ 64 → length (spaced n) ≤ 21
unfolding spaced bytes
spaced_room n h = omega (arith, machine_room n h)

pub line_room : (z : ℤ) → mag z < 2 ^ 63 → length (listed_text (z ∷ [])) ≤ 21
unfolding listed_text bytes
line_room z h =
    let small = nat_abs-le z h in
    let s = signed_room 18 z (omega arith) in
    rw length-append (omega arith)
