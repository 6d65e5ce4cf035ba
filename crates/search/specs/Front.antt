-- What a search does and leaves. Assumes nothing.
use Rattle.std.specs.Prelude.{ℕ, ◌+◌, ◌*◌, ◌-◌, ◌/◌, ◌%◌, ◌≤◌, ◌<◌, ◌≡◌, Bool, true, false, ◌⊎◌, length, get_or, set, eqb}
use mathlib.Core.List.{List, [], ◌∷◌, Memᴰ}
use Rattle.std.proofs.Math.Option.{Option, none, some}
use Rattle.std.proofs.lemmas.List.Edits.{sets}
use Rattle.book.specs.Limits.{least_length}
use Rattle.network.specs.Standing.{Line}
use Rattle.network.specs.Tree.{Tree, distance, grow}
use Rattle.network.specs.Path.{Pass, pass, shortest}
use Rattle.network.specs.Codes.{codes}
use Rattle.chains.specs.Chains.{Half, flip, mark_of, sum_of, On, Has, Bounded, Heads, Given, halves}
use Rattle.nearest.specs.Heap.{far, Heap, Changed, leaf_limit}

-- ---- what `offer` and `relax` do, with no word of lines

-- no leaf is below what is known of its mark
abbrev pub Over : ℕ → List ℕ → List ℕ → Type 0
Over n best seg = (m : ℕ) → m < n → get_or best m 0 ≤ get_or seg (n + m) 0

-- the arrays of a search on marks below n
pub record Stage (n : ℕ) (best seg : List ℕ) : Type 0 where
  pub heap : Heap seg n
  pub places : n ≤ length best
  pub over : Over n best seg
  pub tops : (m : ℕ) → m < n → get_or best m 0 ≤ far

-- what the marks are known by, and the tournament of the open ones
pub record Keys : Type 0 where
  pub best : List ℕ
  pub seg : List ℕ

abbrev pub keys : List ℕ → List ℕ → Keys
keys best seg = record { best = best; seg = seg }

-- the keys before and after: mark o was offered the key k
pub data Offered (n : ℕ) (a z : Keys) (o k : ℕ) : Type 0 where
  kept : get_or a.best o 0 ≤ k → z.best ≡ a.best → z.seg ≡ a.seg → Offered n a z o k
  fell : k < get_or a.best o 0 → z.best ≡ set a.best o k → Changed a.seg z.seg n o k → Offered n a z o k

-- mark m, when the halves of the chain from i on have offered base and their own sum
pub data Moved (n : ℕ) (next ends : List ℕ) (a z : Keys) (i base m : ℕ) : Type 0 where
  still : get_or z.best m 0 ≡ get_or a.best m 0 → get_or z.seg (n + m) 0 ≡ get_or a.seg (n + m) 0 → Moved n next ends a z i base m
  moved : (j : ℕ) → On next i j → mark_of ends j ≡ m → get_or z.best m 0 ≡ base + sum_of ends j
      → get_or z.best m 0 < get_or a.best m 0 → get_or z.seg (n + m) 0 ≡ get_or z.best m 0 → Moved n next ends a z i base m

pub record Relaxed (n : ℕ) (next ends : List ℕ) (a z : Keys) (i base : ℕ) : Type 0 where
  pub stage : Stage n z.best z.seg
  pub each : (m : ℕ) → m < n → Moved n next ends a z i base m
  pub under : (j : ℕ) → On next i j → get_or z.best (mark_of ends j) 0 ≤ base + sum_of ends j

-- ---- what `begin` and `turn` do

-- room for a search
pub record RoomSearch (n : ℕ) (best seg : List ℕ) : Type 0 where
  pub few : n ≤ leaf_limit
  pub bests : n ≤ length best
  pub segs : 2 * n ≤ length seg

pub record RoomPath (n : ℕ) (best seg out : List ℕ) : Type 0 where
  pub room : RoomSearch n best seg
  pub outs : n ≤ length out

pub record Two (n r to : ℕ) : Type 0 where
  pub r_ok : r < n
  pub to_ok : to < n
  pub apart : r ≡ to → ⊥

pub record Begun (n : ℕ) (head next ends best' seg' : List ℕ) (r : ℕ) : Type 0 where
  pub best : List ℕ
  pub seg : List ℕ
  pub room : RoomSearch n best seg
  pub bests : (i : ℕ) → i < n → get_or best i 0 ≡ far
  pub segs : (i : ℕ) → i < 2 * n → get_or seg i 0 ≡ far
  pub offered : Relaxed n next ends (keys (set best r 0) seg) (keys best' seg') (get_or head r 0) 0

-- more than any key is
abbrev pub limit : ℕ
limit = 1152921504606846976

abbrev pub top : List ℕ → ℕ
top seg = get_or seg 1 0

-- the mark that the least key leads to
abbrev pub lead : List ℕ → List ℕ → ℕ
lead ends seg = mark_of ends (top seg % halves)

-- the keys before and after a turn, and the mark that entered, or 0
pub data Turned (n : ℕ) (head next ends : List ℕ) (a z : Keys) (to m : ℕ) : Type 0 where
  more : m ≡ lead ends a.seg → top a.seg < limit → (seg₁ : List ℕ) → Changed a.seg seg₁ n (lead ends a.seg) far
      → (lead ends a.seg ≡ to → ⊥)
      → Relaxed n next ends (keys a.best seg₁) z (get_or head (lead ends a.seg) 0) (top a.seg - top a.seg % halves)
      → Turned n head next ends a z to m
  found : m ≡ lead ends a.seg → top a.seg < limit → lead ends a.seg ≡ to → z.best ≡ a.best → z.seg ≡ a.seg
      → Turned n head next ends a z to m
  nothing : m ≡ 0 → limit ≤ top a.seg → z.best ≡ a.best → z.seg ≡ a.seg → Turned n head next ends a z to m

-- ---- the line by which a mark came in, and the way back by such lines

abbrev pub or_by : Bool → Option Line → Option Line → Option Line
or_by true a b = a
or_by false a b = b

unfoldable pub came : Tree → ℕ → Option Line
came [] m = none
came (e ∷ es) m = or_by (eqb e.mark m) e.by (came es m)

-- line l run from mark m to its other end
abbrev pub back_of : Bool → Line → Pass
back_of true l = pass l true
back_of false l = pass l false

abbrev pub back : Line → ℕ → Pass
back l m = back_of (eqb l.from m) l

abbrev pub other_of : Bool → Line → ℕ
other_of true l = l.to
other_of false l = l.from

abbrev pub or_path : Bool → List Pass → List Pass → List Pass
or_path true a b = a
or_path false a b = b

abbrev pub via_of : Option Line → ℕ → (ℕ → List Pass) → List Pass
via_of none m go = []
via_of (some l) m go = back l m ∷ go (other_of (eqb l.from m) l)

unfoldable pub lineage : Tree → ℕ → List Pass
lineage [] m = []
lineage (e ∷ es) m = or_path (eqb e.mark m) (via_of e.by m (λ u. lineage es u)) (lineage es m)

-- ---- the state of a search over sub when the marks of es are in

pub data By (es : Tree) (ends : List ℕ) (m d h : ℕ) : Type 0 where
  root : came es m ≡ none → d ≡ 0 → h ≡ 0 → By es ends m d h
  line : (l : Line) (u du : ℕ) → came es m ≡ some l → Half l u m h → h < halves → mark_of ends (flip h) ≡ u
      → distance es u ≡ some du → d ≡ du + l.length → By es ends m d h

pub record Key (es : Tree) (best ends : List ℕ) (m d : ℕ) : Type 0 where
  pub h : ℕ
  pub low : h < halves
  pub key : get_or best m 0 ≡ d * halves + h
  pub by : By es ends m d h

abbrev pub Keyed : Tree → List ℕ → List ℕ → Type 0
Keyed es best ends = (m d : ℕ) → distance es m ≡ some d → Key es best ends m d

pub record Offer (sub : List Line) (es : Tree) (best : List ℕ) (m : ℕ) : Type 0 where
  pub l : Line
  pub u : ℕ
  pub h : ℕ
  pub d : ℕ
  pub is_line : Memᴰ l sub
  pub half : Half l u m h
  pub is_in : distance es u ≡ some d
  pub key : get_or best m 0 ≡ (d + l.length) * halves + h

-- `todo u v a`: a half from u to v with the sum a is still to be offered
pub record Front (sub : List Line) (n : ℕ) (es : Tree) (best seg ends : List ℕ) (todo : ℕ → ℕ → ℕ → Type 0) : Type 0 where
  pub inside : (m d : ℕ) → distance es m ≡ some d → m < n
  pub keyed : Keyed es best ends
  pub closed : (m d : ℕ) → m < n → distance es m ≡ some d → get_or seg (n + m) 0 ≡ far
  pub opened : (m : ℕ) → m < n → distance es m ≡ none → get_or seg (n + m) 0 ≡ get_or best m 0
  pub offered : (m : ℕ) → m < n → distance es m ≡ none → (get_or best m 0 ≡ far) ⊎ Offer sub es best m
  pub under : (l : Line) (u v h d : ℕ) → Memᴰ l sub → Half l u v h → distance es u ≡ some d → distance es v ≡ none
      → (todo u v (l.length * halves + h)) ⊎ (get_or best v 0 ≤ (d + l.length) * halves + h)

abbrev pub Nothing : ℕ → ℕ → ℕ → Type 0
Nothing u v a = ⊥

abbrev pub Rest : List ℕ → List ℕ → ℕ → ℕ → ℕ → ℕ → ℕ → Type 0
Rest next ends m i u v a = (u ≡ m) × Has next ends i v a

-- ---- a search from r until `to` is in

pub data Outcome (sub : List Line) (n : ℕ) (best ends : List ℕ) (r to : ℕ) (a : Bool) : Type 0 where
  reached : a ≡ true → (k d : ℕ) → k < n → Keyed (grow sub (r ∷ []) k) best ends → distance (grow sub (r ∷ []) k) to ≡ some d
      → Outcome sub n best ends r to a
  cut_off : a ≡ false → distance (grow sub (r ∷ []) (n - 1)) to ≡ none → Outcome sub n best ends r to a

-- whatever lines the chains hold
abbrev pub Searched : ℕ → List ℕ → List ℕ → List ℕ → List ℕ → ℕ → ℕ → Bool → Type 0
Searched n head next ends best r to a = (sub : List Line) → Given sub n head next ends → Outcome sub n best ends r to a

-- ---- the way back, written out

-- document 01: "A mark's way to its root is followed line by line, and the distance falls at each step." From the mark m the way goes by
-- the halves hs; each leads against the half by which its mark came in, to a mark that is nearer by the least length of a line
pub data Way (best ends : List ℕ) : ℕ → List ℕ → Type 0 where
  rooted : {m : ℕ} → m < length best → get_or best m 0 ≡ 0 → Way best ends m []
  onward : {m : ℕ} (g u : ℕ) {hs : List ℕ} → m < length best → 0 < get_or best m 0 → g ≡ flip (get_or best m 0 % halves)
      → u ≡ mark_of ends g
      → get_or best u 0 / halves + least_length ≤ get_or best m 0 / halves → Way best ends u hs → Way best ends m (g ∷ hs)

-- there is a way from m, and room for it from place c on
pub record Leads (best ends out : List ℕ) (c m : ℕ) : Type 0 where
  pub ends_at : halves ≤ length ends
  pub hs : List ℕ
  pub way : Way best ends m hs
  pub room : c + length hs ≤ length out

-- the halves hs stand in out' from place c on, and a is where they end
pub record Put (hs out out' : List ℕ) (c a : ℕ) : Type 0 where
  pub places : out' ≡ sets out c hs
  pub count : a ≡ c + length hs

abbrev pub Walked : List ℕ → List ℕ → List ℕ → List ℕ → ℕ → ℕ → ℕ → Type 0
Walked best ends out out' c m a = (hs : List ℕ) → Way best ends m hs → Put hs out out' c a

-- ---- the path of a closing line

-- the passes ps, fewer than n, stand in out' from place 0 on
pub record Written (n : ℕ) (ps : List Pass) (out out' : List ℕ) (a : ℕ) : Type 0 where
  pub places : out' ≡ sets out 0 (codes ps)
  pub count : a ≡ length ps
  pub few : a < n

-- the chains hold some lines of a book
pub record Held (n : ℕ) (head next ends : List ℕ) : Type 0 where
  pub bounded : Bounded n ends
  pub heads : Heads n head next
  pub sub : List Line
  pub given : Given sub n head next ends

-- the path of the definition is written out
abbrev pub Pathed : ℕ → List ℕ → List ℕ → List ℕ → List ℕ → List ℕ → ℕ → ℕ → ℕ → Type 0
Pathed n head next ends out out' r to a = (sub : List Line) → Given sub n head next ends → Written n (shortest (n - 1) sub to r) out out' a
