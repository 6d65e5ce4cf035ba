-- How much room a text needs. A buffer of 4,096 bytes is enough for each line of a report and of a junction sketch.
-- Assumes nothing.
use mathlib.Core.Path.{◌≡◌}
use mathlib.Core.List.{List, [], ◌∷◌}
use Prim.Native.Nat.{ℕ, zero, suc, ◌+◌, ◌*◌, ◌/◌, ◌^◌, ◌≤◌, ◌<◌}
use native.Mathlib.Nat.{pow-suc, zero-lt-suc}
use native.Mathlib.Omega.{arith}
use lib.IntN.{ℤ, pos, negsuc, nat_abs}
use lib.ListN.{length, get_or, length-append}
use Rattle.laws.proofs.Tests.{cond_ind}
use Rattle.laws.specs.Tests.{eq_z}
use Rattle.book.specs.Limits.{most_marks, most_lines, most_length, most_difference}
use Rattle.text.specs.Bytes.{bytes}
use Rattle.text.specs.Number.{decimal, signed_text}
use Rattle.text.specs.Report.{head_text, listed_text, verdict_text, loop_text, not_checked_text, refused_text}
use Rattle.text.specs.Sketch.{sketch_head_text, measured_text, link_text, spur_text, self_closing_text}
use Rattle.text.proofs.Numbers.{by_size, decimal_one, decimal_more}

-- a number below 10 to the k, from k = 1 on, has at most k digits
pub decimal_room : (k n : ℕ) → n < 10 ^ suc k → length (decimal n) ≤ suc k
decimal_room zero n h = rw (decimal_one n h) (omega arith)
decimal_room (suc k) n h =
    let p : 10 ^ suc (suc k) ≡ 10 ^ suc k * 10 = pow-suc 10 (suc k) in
    by_size (length (decimal n) ≤ suc (suc k)) n (λ s. rw (decimal_one n s) (omega arith))
    (λ l. let e = decimal_room k (n / 10) (omega arith) in rw (decimal_more n l, length-append) (omega arith))

-- an unsigned number of 64 bits has at most 20
pub machine_room : (n : ℕ) → n < 2 ^ 64 → length (decimal n) ≤ 20
machine_room n h = decimal_room 19 n (omega arith)

pub signed_room : (k : ℕ) (z : ℤ) → nat_abs z < 10 ^ suc k → length (signed_text z) ≤ suc (suc k)
unfolding signed_text bytes
signed_room k (pos n) h = let d = decimal_room k n h in omega arith
signed_room k (negsuc n) h = let d = decimal_room k (suc n) h in omega arith

-- each line's number is one of a book, whatever its sense
abbrev pub LineNumbers : List ℤ → Type 0
LineNumbers list = (i : ℕ) → i < length list → nat_abs (get_or list i (pos 0)) ≤ most_lines

pub listed_room : (list : List ℤ) → LineNumbers list → length (listed_text list) ≤ length list * 5
unfolding listed_text bytes
listed_room [] h = omega arith
listed_room (z ∷ list) h =
    let n = h 0 (zero-lt-suc (length list)) in
    let s = signed_room 2 z (omega arith) in
    let r = listed_room list (λ i l. h (suc i) (omega arith)) in
    rw length-append (omega arith)

verdict_room : (verdict : ℤ) → length (verdict_text verdict) ≤ 8
unfolding verdict_text bytes
verdict_room verdict =
    cond_ind (λ (t : List ℕ). length t ≤ 8) (eq_z verdict (pos 0)) (bytes " WITHIN:") (bytes " OVER:") (λ _. omega arith) (λ _. omega arith)

pub head_room : (version marks lines pieces loops : ℕ) → version < 2 ^ 64 → marks < 2 ^ 64 → lines < 2 ^ 64 → pieces < 2 ^ 64
    → loops < 2 ^ 64
    → length (head_text version marks lines pieces loops) ≤ 141
unfolding head_text bytes
head_room version marks lines pieces loops v m n p l =
    simp length-append (omega (
      arith,
      machine_room version v,
      machine_room marks m,
      machine_room lines n,
      machine_room pieces p,
      machine_room loops l,
    ))

pub refused_room : (number place : ℕ) → number < 2 ^ 64 → place < 2 ^ 64 → length (refused_text number place) ≤ 53
unfolding refused_text bytes
refused_room number place n p = simp length-append (omega (arith, machine_room number n, machine_room place p))

pub not_checked_room : (list : List ℤ) → length list ≤ most_lines → LineNumbers list → length (not_checked_text list) ≤ 2577
unfolding not_checked_text bytes
not_checked_room list few h =
    let d = decimal_room 2 (length list) (omega arith) in
    simp length-append (omega (arith, listed_room list h))

-- the numbers of a loop in a book within its limits
pub record LoopNumbers (number : ℕ) (len misclosure : ℤ) (listing : List ℤ) : Type 0 where
  pub few_loops : number ≤ most_lines
  pub short : nat_abs len ≤ most_lines * most_length
  pub small : nat_abs misclosure ≤ most_lines * most_difference
  pub few_lines : length listing ≤ most_marks
  pub lines : LineNumbers listing

pub loop_room : (number : ℕ) (len misclosure verdict : ℤ) (listing : List ℤ) → LoopNumbers number len misclosure listing
    → length (loop_text number len misclosure verdict listing) ≤ 1338
unfolding loop_text bytes
loop_room number len misclosure verdict listing h =
    let n = h.few_loops in
    let l = h.short in
    let m = h.small in
    let k = h.few_lines in
    let a = decimal_room 2 number (omega arith) in
    let b = signed_room 7 len (omega arith) in
    let d = signed_room 10 misclosure (omega arith) in
    simp length-append (omega (arith, verdict_room verdict, listed_room listing h.lines))

-- ---- the lines of a junction sketch

pub sketch_head_room : (marks lines links spurs loops : ℕ) → marks < 2 ^ 64 → lines < 2 ^ 64 → links < 2 ^ 64 → spurs < 2 ^ 64
    → loops < 2 ^ 64
    → length (sketch_head_text marks lines links spurs loops) ≤ 151
unfolding sketch_head_text bytes
sketch_head_room marks lines links spurs loops m n k s l =
    simp length-append (omega (
      arith,
      machine_room marks m,
      machine_room lines n,
      machine_room links k,
      machine_room spurs s,
      machine_room loops l,
    ))

-- the numbers of a link, a spur or a self-closing loop in a book within its limits
pub record LinkNumbers (first last len difference : ℤ) (listing : List ℤ) : Type 0 where
  pub first_low : nat_abs first ≤ most_marks
  pub last_low : nat_abs last ≤ most_marks
  pub short : nat_abs len ≤ most_lines * most_length
  pub small : nat_abs difference ≤ most_lines * most_difference
  pub lines : LineNumbers listing

module _ {first last len difference : ℤ} {listing : List ℤ} (h : LinkNumbers first last len difference listing) where
  measured_room : (word : List ℕ) → length (measured_text word len difference listing) ≤ 31 + length word + length listing * 5
  unfolding measured_text bytes
  measured_room word =
      let l = h.short in
      let d = h.small in
      let a = signed_room 7 len (omega arith) in
      let b = signed_room 10 difference (omega arith) in
      simp length-append (omega (arith, listed_room listing h.lines))

  first_room : length (signed_text first) ≤ 4
  first_room = let m = h.first_low in signed_room 2 first (omega arith)

  last_room : length (signed_text last) ≤ 4
  last_room = let m = h.last_low in signed_room 2 last (omega arith)

  pub link_room : length (link_text first last len difference listing) ≤ 57 + length listing * 5
  unfolding link_text bytes
  link_room = simp length-append (omega (arith, first_room, last_room, measured_room (bytes " DIFFERENCE ")))

  pub spur_room : length (spur_text first len difference listing) ≤ 57 + length listing * 5
  unfolding spur_text bytes
  spur_room = simp length-append (omega (arith, first_room, measured_room (bytes " DIFFERENCE ")))

  pub self_closing_room : length (self_closing_text first len difference listing) ≤ 57 + length listing * 5
  unfolding self_closing_text bytes
  self_closing_room = simp length-append (omega (arith, first_room, measured_room (bytes " MISCLOSURE ")))
