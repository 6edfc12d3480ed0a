-- What lies behind the desks' locks at first, and what the first pass knows.
use Rattle.std.specs.Prelude.{◌≡◌, ◌<◌, ⊤, ℕ, suc, List, [], ◌∷◌, None, length, get_or}
use Rattle.atomic_table.specs.Seated.{TableId}
use Rattle.commit_word.specs.Seats.{FollowerSeat}
use Rattle.authority_book.specs.Verdict.{most_authorities}
use Rattle.desk_core.specs.Counted.{CountedView, follower_seat_of}
use Rattle.desk_core.specs.View.{View}
use Rattle.manager.specs.Named.{Named}
use Rattle.manager.specs.Lists.{seat_at, IsListed}
use Rattle.manager.specs.Passes.{PassValue}

-- A desk that was opened, and is open: it has that number, and the word of that number begins to count at
-- the records that were found there. The names that its commands list have their signers.
pub record IsOpenedDesk {D : Type 0} (words : ℕ → TableId) (named : Named) (number : ℕ)
    (desk : CountedView D) : Type 0 where
  pub number_is : desk.desk.number ≡ number
  pub word_is : desk.word ≡ words number
  pub found : desk.desk.records ≡ get_or named.records number []
  pub recovered : desk.recovered ≡ length desk.desk.records
  pub listed : IsListed (length named.signers) desk.desk
  pub is_open : desk.desk.shut ≡ None

-- So is each of these, from that number on.
abbrev pub AreOpenedDesks : {D : Type 0} → (ℕ → TableId) → Named → ℕ → List (CountedView D) → Type 0
AreOpenedDesks words named number [] = ⊤
AreOpenedDesks words named number (desk ∷ desks) =
    IsOpenedDesk words named number desk × AreOpenedDesks words named (suc number) desks

-- A seat at the desk's word that has seen the records that were found, and made none.
abbrev pub first_seat : {D : Type 0} → CountedView D → FollowerSeat
first_seat desk = follower_seat_of desk []

-- How many passes can be split off the first one.
abbrev pub first_places : ℕ
first_places = 8

-- The first pass.
pub record IsFirstPass (named : Named) (pass : PassValue) : Type 0 where
  pub count : length pass.seats ≡ most_authorities
  pub seen : (desk : ℕ) → desk < most_authorities
      → (seat_at pass.seats desk).seen ≡ get_or named.records desk []
  pub recovered : (desk : ℕ) → desk < most_authorities
      → (seat_at pass.seats desk).recovered ≡ length (get_or named.records desk [])
  pub none : (desk : ℕ) → (seat_at pass.seats desk).mine ≡ []
  pub places : pass.places ≡ first_places

-- These are the desks, each with a word that begins to count at the records that were found there.
pub record IsCounted {D : Type 0} (desk : View D) (counted : CountedView D) : Type 0 where
  pub desk_is : counted.desk ≡ desk
  pub recovered : counted.recovered ≡ length desk.records

abbrev pub AreCounted : {D : Type 0} → List (View D) → List (CountedView D) → Type 0
AreCounted [] [] = ⊤
AreCounted [] (one ∷ counted) = ⊥
AreCounted (desk ∷ desks) [] = ⊥
AreCounted (desk ∷ desks) (one ∷ counted) = IsCounted desk one × AreCounted desks counted
