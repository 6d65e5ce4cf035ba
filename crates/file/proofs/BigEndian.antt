-- A big-endian number, byte by byte.
-- Assumes nothing.
use mathlib.Core.Path.{◌≡◌, ◌∙◌}
use mathlib.Core.List.{List}
use Prim.Native.Nat.{ℕ, zero, suc, ◌+◌, ◌*◌, ◌-◌, ◌^◌, ◌<◌, ◌≤◌}
use native.Mathlib.Nat.{pow-suc, pow-le-pow_right, add-sub_cancel_left, add-suc, add-zero, add_assoc}
use native.Mathlib.Numerals.{add-one}
use native.Mathlib.Omega.{arith}
use lib.ListN.{length, get_or, take, drop, length-take, length-drop}
use lib.Seq.{get_or-take, get_or-drop}
use mir.Syntax.{w8, w64}
use mir.Val.{Fits}
use Rattle.file.specs.Wire.{be}

-- j bytes and the k bytes after them
pub be_join : (j k : ℕ) (s : List ℕ) (a : ℕ) → be (j + k) s a ≡ be j s a * 256 ^ k + be k s (a + j)
unfolding be
be_join j zero s a = rw (add-zero j) (omega arith)
be_join j (suc k) s a =
    let h = be_join j k s a in
    let e : get_or s (a + (j + k)) 0 ≡ get_or s (a + j + k) 0 = rw (add_assoc a j k) in
    rw (add-suc j k, pow-suc 256 k) (omega arith)

-- of the first w bytes of s from place a on, eight at most
module _ (w : ℕ) (s : List ℕ) (a : ℕ) (most : w ≤ 8) where
  abbrev pub part : List ℕ
  part = take (a + w - a) (drop a s)

  pub part_length : a + w ≤ length s → length part ≡ w
  part_length whole = omega (arith, length-take (a + w - a) (drop a s), length-drop a s)

  module _ (number k : ℕ) (inside : k < length part) (so_far : number ≡ be k s a) (below : number < 256 ^ k) where
    within : k < w
    within = omega (arith, length-take (a + w - a) (drop a s))

    more : 256 ^ (k + 1) ≡ 256 ^ k * 256
    more = rw (add-one k, pow-suc 256 k) (omega arith)

    wide : 256 ^ (k + 1) ≤ 256 ^ 8
    wide = let h : k + 1 ≤ 8 = omega (arith, within) in pow-le-pow_right (omega arith) h

    -- there is room for one byte more
    pub room : Fits w64 (number * 256)
    room = record { fits = omega (arith, more, wide) }

    -- and with it stands the number of one byte more
    pub record Longer (byte : ℕ) : Type 0 where
      pub room : Fits w64 (number * 256 + byte)
      pub value : number * 256 + byte ≡ be (k + 1) s a
      pub small : number * 256 + byte < 256 ^ (k + 1)

    pub longer : (byte : ℕ) → ((i : ℕ) → Fits w8 (get_or s i 0)) → byte ≡ get_or part k 0 → Longer byte
    unfolding be
    longer byte bytes is =
        let its_byte : byte ≡ get_or s (a + k) 0 =
        is ∙ rw (add-sub_cancel_left a w) (get_or-take w (drop a s) k 0 within ∙ get_or-drop a s k 0) in
        let low = (bytes (a + k)).fits in
        record {
          room = record { fits = omega (arith, more, wide) };
          value = rw (add-one k) (omega arith);
          small = omega (arith, more);
        }

-- in four bytes no number reaches the bit of the sign
pub four_bytes : {w x : ℕ} → w ≤ 4 → x < 256 ^ w → x < 2 ^ 32
four_bytes {w = w} h l = let most : 256 ^ w ≤ 256 ^ 4 = pow-le-pow_right (omega arith) h in omega (arith, most)
