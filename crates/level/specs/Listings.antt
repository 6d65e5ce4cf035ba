-- What the three lists answer, with the numbers as int64, beside what the lent output then holds.
-- Assumes nothing.
use Rattle.std.specs.Prelude.{List, ℤ, pos}
use Rattle.lists.specs.Listing as lists
use Rattle.lists.specs.Listing.{Listing}
use Rattle.level.specs.Signed.{Small, SmallRefusal, signed_refusal}
use Rattle.level.specs.declared.Listed.{Listed}

pub record SmallListed (a : lists.Listed) : Type 0 where
  pub refusal : SmallRefusal a.refusal
  pub entries : Small a.entries

unfoldable pub signed_listed : lists.Listed → Listed
signed_listed a =
    let r = signed_refusal a.refusal in
    record { number = r.number; place = r.place; entries = pos a.entries }

pub record ListingNow : Type 0 where
  pub answer : Listed
  pub out : List ℤ

abbrev pub listing_now : Listed → List ℤ → ListingNow
listing_now a out = record { answer = a; out = out }

abbrev pub of_listing : Listing → ListingNow
of_listing o = listing_now (signed_listed o.answer) o.out
