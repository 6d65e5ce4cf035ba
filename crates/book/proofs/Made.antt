-- What was made, or refused, tells the test that made it: of counts, heights, held entries and lines.
-- Assumes nothing.
use mathlib.Core.Path.{◌≡◌, refl, ap}
use mathlib.Core.Bool.{Bool, true, false, cond}
use Prim.Native.Nat.{ℕ}
use native.Mathlib.Omega.{arith}
use lib.Dec.{ltb}
use lib.IntN.{ℤ}
use Rattle.book.specs.Height.{held_height_out, work_height_out, held_height_of, work_height_of}
use Rattle.book.specs.Held.{held_out, held_entry_of}
use Rattle.book.specs.Line.{line_fault, line_of}
use Rattle.book.specs.Version.{version_out}
use Rattle.book.specs.Test.{book_out, counts, refused, book_of}
use Rattle.book.specs.declared.Book.{Book}
use Rattle.book.specs.Refusals.{Told}
use Rattle.book.specs.Test.{Tested}
use Rattle.book.specs.Test as tested
use Rattle.book.specs.declared.height.Height.{Height}
use Rattle.book.specs.Height.{MadeHeight}
use Rattle.book.specs.Height as height
use Rattle.book.specs.declared.held.Held.{Held}
use Rattle.book.specs.Held.{MadeHeld}
use Rattle.book.specs.Held as held
use Rattle.book.specs.declared.line.Line.{Line}
use Rattle.book.specs.Line.{MadeLine}
use Rattle.book.specs.Line as line

-- a test between two values, where the answer is not the first, or not the second
is_right : {A : Type 0} (t : Bool) (x y z : A) → (z ≡ x → ⊥) → z ≡ cond t x y → (t ≡ false) × (z ≡ y)
is_right true x y z n e = absurd (n e)
is_right false x y z n e = (refl, e)

is_left : {A : Type 0} (t : Bool) (x y z : A) → (z ≡ y → ⊥) → z ≡ cond t x y → (t ≡ true) × (z ≡ x)
is_left true x y z n e = (refl, e)
is_left false x y z n e = absurd (n e)

-- ---- a book

module _ (version b t : ℤ) (h n : ℕ) (m : Tested) (e : m ≡ book_of version b t h n) where
  -- where version and counts are refused, what would come after them is not asked
  pub no_book : (r : Told) → m ≡ tested.Refused r → (rest : Tested)
      → m ≡ cond (version_out version) (refused 3 0) (cond (book_out version b t h n) (refused 4 0) rest)
  unfolding book_of
  no_book r g rest = go (version_out version) (book_out version b t h n) e
    where
      go : (v o : Bool) → m ≡ cond v (refused 3 0) (cond o (refused 4 0) (tested.Good (counts version b t h n)))
          → m ≡ cond v (refused 3 0) (cond o (refused 4 0) rest)
      go true o f = f
      go false true f = f
      go false false f = let z : ◌≡◌ {A = ℕ} 0 1 = cc in absurd (omega arith)

  pub book_made : (k : Book) → m ≡ tested.Good k
      → (version_out version ≡ false) × (book_out version b t h n ≡ false) × (k ≡ counts version b t h n)
  unfolding book_of
  book_made k g =
      let v =
      is_right (version_out version) (refused 3 0) _ m (λ f. let z : ◌≡◌ {A = ℕ} 0 1 = cc in omega arith) e in
      let w =
      is_right (book_out version b t h n) (refused 4 0) (tested.Good (counts version b t h n)) m
      (λ f. let z : ◌≡◌ {A = ℕ} 0 1 = cc in omega arith) v.1
      in
      let made : m ≡ tested.Good (counts version b t h n) = w.1 in
      (v.0, w.0, cc)

-- ---- a height

made_height : (t : Bool) (n : ℕ) (z : ℤ) (m : MadeHeight) (k : Height)
    → m ≡ cond t (height.Refused n) (height.Good (record { micrometres = z })) → m ≡ height.Good k
    → (t ≡ false) × (k ≡ record { micrometres = z })
made_height t n z m k e g =
    let w =
    is_right t (height.Refused n) (height.Good (record { micrometres = z })) m (λ f. let q : ◌≡◌ {A = ℕ} 0 1 = cc in omega arith) e in
    let made : m ≡ height.Good (record { micrometres = z }) = w.1 in
    (w.0, cc)

no_height : (t : Bool) (n : ℕ) (z : ℤ) (m : MadeHeight) (j : ℕ)
    → m ≡ cond t (height.Refused n) (height.Good (record { micrometres = z })) → m ≡ height.Refused j
    → (t ≡ true) × (j ≡ n)
no_height t n z m j e g =
    let w =
    is_left t (height.Refused n) (height.Good (record { micrometres = z })) m (λ f. let q : ◌≡◌ {A = ℕ} 0 1 = cc in omega arith) e in
    let refusal : m ≡ height.Refused n = w.1 in
    (w.0, cc)

module _ (z : ℤ) (m : MadeHeight) where
  pub held_height_made : m ≡ held_height_of z → (k : Height) → m ≡ height.Good k
      → (held_height_out z ≡ false) × (k ≡ record { micrometres = z })
  unfolding held_height_of
  held_height_made e k g = made_height (held_height_out z) 6 z m k e g

  pub no_held_height : m ≡ held_height_of z → (j : ℕ) → m ≡ height.Refused j → (held_height_out z ≡ true) × (j ≡ 6)
  unfolding held_height_of
  no_held_height e j g = no_height (held_height_out z) 6 z m j e g

  pub work_height_made : m ≡ work_height_of z → (k : Height) → m ≡ height.Good k
      → (work_height_out z ≡ false) × (k ≡ record { micrometres = z })
  unfolding work_height_of
  work_height_made e k g = made_height (work_height_out z) 13 z m k e g

  pub no_work_height : m ≡ work_height_of z → (j : ℕ) → m ≡ height.Refused j → (work_height_out z ≡ true) × (j ≡ 13)
  unfolding work_height_of
  no_work_height e j g = no_height (work_height_out z) 13 z m j e g

-- ---- a held entry

module _ (b mark h : ℤ) (m : MadeHeld) (e : m ≡ held_entry_of b mark h) where
  pub entry_made : (k : Held) → m ≡ held.Good k → (held_out b mark h ≡ false) × (k.mark ≡ mark)
  unfolding held_entry_of
  entry_made k g =
      let w =
      is_right (held_out b mark h) (held.Refused 6) (held.Good (record { mark = mark; height = record { micrometres = h } })) m
      (λ f. let q : ◌≡◌ {A = ℕ} 0 1 = cc in omega arith) e in
      let made : m ≡ held.Good (record { mark = mark; height = record { micrometres = h } }) = w.1 in
      let same : k ≡ record { mark = mark; height = record { micrometres = h } } = cc in
      (w.0, ap (λ (x : Held). x.mark) same)

  pub no_entry : (j : ℕ) → m ≡ held.Refused j → held_out b mark h ≡ true
  unfolding held_entry_of
  no_entry j g =
      (is_left (held_out b mark h) (held.Refused 6) (held.Good (record { mark = mark; height = record { micrometres = h } })) m
      (λ f. let q : ◌≡◌ {A = ℕ} 0 1 = cc in omega arith) e).0

-- ---- a line

module _ (b from to difference length standing : ℤ) (m : MadeLine) (e : m ≡ line_of b from to difference length standing) where
  abbrev faulty : Bool
  faulty = ltb 0 (line_fault b from to difference length standing)

  abbrev its : Line
  its = record { from = from; to = to; difference = difference; length = length; standing = standing }

  pub line_made : (k : Line) → m ≡ line.Good k → (faulty ≡ false) × (k ≡ its)
  unfolding line_of
  line_made k g =
      let w =
      is_right faulty (line.Refused 7 (line_fault b from to difference length standing)) (line.Good its) m
      (λ f. let q : ◌≡◌ {A = ℕ} 0 1 = cc in omega arith) e in
      let made : m ≡ line.Good its = w.1 in
      (w.0, cc)

  pub no_line : (number fault : ℕ) → m ≡ line.Refused number fault
      → (faulty ≡ true) × (fault ≡ line_fault b from to difference length standing)
  unfolding line_of
  no_line number fault g =
      let w =
      is_left faulty (line.Refused 7 (line_fault b from to difference length standing)) (line.Good its) m
      (λ f. let q : ◌≡◌ {A = ℕ} 0 1 = cc in omega arith) e in
      let refusal : m ≡ line.Refused 7 (line_fault b from to difference length standing) = w.1 in
      (w.0, cc)
