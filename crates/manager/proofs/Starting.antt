-- The desks as they are put behind their locks, and what stands beside them.
use Rattle.std.proofs.Common.{◌≡◌, ℕ, zero, suc, ◌+◌, ◌<◌, List, [], ◌∷◌, ◌++◌, append-nil, append_assoc, map, length, get_or, refl, sym, ap, ◌∙◌, subst, arith}
use Rattle.std.specs.Prelude.{All, Some, slice_get}
use Rattle.std.proofs.lemmas.Option.{none-some, same_Some}
use Rattle.std.proofs.lemmas.List.{get_or_past, get_or_push, get_or_append_left, length-map, length_push}
use Rattle.atomic_table.specs.Seated.{TableId}
use Rattle.commit_word.specs.Seats.{FollowerSeat}
use Rattle.authority_book.specs.Verdict.{most_authorities}
use Rattle.desk_core.specs.Counted.{CountedView}
use Rattle.manager.specs.Named.{Named}
use Rattle.manager.specs.Lists.{seat_at, no_seat, AreOf}
use Rattle.manager.specs.Passes.{PassValue, IsSeatOf, AreSeatsOf}
use Rattle.manager.specs.Starting.{IsOpenedDesk, AreOpenedDesks, IsFirstPass, first_seat, first_places}
use Rattle.manager.specs.inner.AtPlaces.{AreWords}
use Rattle.manager.proofs.Seating.{list_of}

module _ {D : Type 0} (words : ℕ → TableId) (named : Named) where
  -- a desk's word, by its own number
  pub word_by_number : (number : ℕ) (desk : CountedView D) → IsOpenedDesk words named number desk → desk.word ≡ words desk.desk.number
  word_by_number number desk is = is.word_is ∙ ap words (sym is.number_is)

  seat_of : (number : ℕ) (desk : CountedView D) → IsOpenedDesk words named number desk → IsSeatOf words named number (first_seat desk)
  seat_of number desk is = record {
    word = is.word_is;
    recovered = is.recovered ∙ ap length is.found;
    commands = is.listed.commands;
    listed = list_of (length named.signers) number desk.desk is.listed is.number_is;
  }

  words_from : (from : ℕ) (desks : List (CountedView D)) → AreOpenedDesks words named from desks → (place : ℕ) (word : TableId) → slice_get (map (λ desk. desk.word) desks) place ≡ Some word → word ≡ words (from + place)
  words_from from [] all place word there = absurd (none-some word there)
  words_from from (desk ∷ desks) all zero word there = sym (same_Some desk.word word there) ∙ (all.0.word_is ∙ ap words (omega arith))
  words_from from (desk ∷ desks) all (suc place) word there = words_from (suc from) desks all.1 place word there ∙ ap words (omega arith)

  pub words_are : (desks : List (CountedView D)) → AreOpenedDesks words named 0 desks → AreWords words (map (λ desk. desk.word) desks)
  words_are desks all = λ place word there. words_from 0 desks all place word there ∙ ap words (omega arith)

  followers_from : (from : ℕ) (desks : List (CountedView D)) → AreOpenedDesks words named from desks → (place : ℕ) (seat : FollowerSeat) → slice_get (map first_seat desks) place ≡ Some seat → seat.word ≡ words (from + place)
  followers_from from [] all place seat there = absurd (none-some seat there)
  followers_from from (desk ∷ desks) all zero seat there = ap (λ (s : FollowerSeat). s.word) (sym (same_Some (first_seat desk) seat there)) ∙ (all.0.word_is ∙ ap words (omega arith))
  followers_from from (desk ∷ desks) all (suc place) seat there = followers_from (suc from) desks all.1 place seat there ∙ ap words (omega arith)

  pub followers_are : (desks : List (CountedView D)) → AreOpenedDesks words named 0 desks → AreOf words (map first_seat desks)
  followers_are desks all = λ place seat there. followers_from 0 desks all place seat there ∙ ap words (omega arith)

  seats_from : (from : ℕ) (desks : List (CountedView D)) → AreOpenedDesks words named from desks → (k : ℕ) → k < length (map first_seat desks) → IsSeatOf words named (from + k) (seat_at (map first_seat desks) k)
  seats_from from [] all k below = absurd (omega (arith, below))
  seats_from from (desk ∷ desks) all zero below = subst (λ (n : ℕ). IsSeatOf words named n (first_seat desk)) (omega arith) (seat_of from desk all.0)
  seats_from from (desk ∷ desks) all (suc k) below =
      subst (λ (n : ℕ). IsSeatOf words named n (seat_at (map first_seat desks) k)) (omega arith) (seats_from (suc from) desks all.1 k (omega (arith, below)))

  pub seats_are : (desks : List (CountedView D)) → AreOpenedDesks words named 0 desks → AreSeatsOf words named (map first_seat desks)
  seats_are desks all = λ desk below. subst (λ (n : ℕ). IsSeatOf words named n (seat_at (map first_seat desks) desk)) (omega arith) (seats_from 0 desks all desk below)

  -- ---- the first pass

  seen_from : (from : ℕ) (desks : List (CountedView D)) → AreOpenedDesks words named from desks → (k : ℕ) → k < length desks → (seat_at (map first_seat desks) k).seen ≡ get_or named.records (from + k) []
  seen_from from [] all k below = absurd (omega (arith, below))
  seen_from from (desk ∷ desks) all zero below = all.0.found ∙ ap (λ (n : ℕ). get_or named.records n []) (omega arith)
  seen_from from (desk ∷ desks) all (suc k) below = seen_from (suc from) desks all.1 k (omega (arith, below)) ∙ ap (λ (n : ℕ). get_or named.records n []) (omega arith)

  recovered_from : (from : ℕ) (desks : List (CountedView D)) → AreOpenedDesks words named from desks → (k : ℕ) → k < length desks
      → (seat_at (map first_seat desks) k).recovered ≡ length (get_or named.records (from + k) [])
  recovered_from from [] all k below = absurd (omega (arith, below))
  recovered_from from (desk ∷ desks) all zero below = all.0.recovered ∙ (ap length all.0.found ∙ ap (λ (n : ℕ). length (get_or named.records n [])) (omega arith))
  recovered_from from (desk ∷ desks) all (suc k) below = recovered_from (suc from) desks all.1 k (omega (arith, below)) ∙ ap (λ (n : ℕ). length (get_or named.records n [])) (omega arith)

  none_made : (desks : List (CountedView D)) (k : ℕ) → (seat_at (map first_seat desks) k).mine ≡ []
  none_made [] k = ap (λ (s : FollowerSeat). s.mine) (get_or_past [] k no_seat (omega arith))
  none_made (desk ∷ desks) zero = refl
  none_made (desk ∷ desks) (suc k) = none_made desks k

  pub first_pass : (desks : List (CountedView D)) (pass : PassValue) → AreOpenedDesks words named 0 desks → length desks ≡ most_authorities → pass.seats ≡ map first_seat desks → pass.places ≡ first_places → IsFirstPass named pass
  first_pass desks pass all count seats places = record {
    count = ap length seats ∙ (length-map desks first_seat ∙ count);
    seen = λ desk below. ap (λ (l : List FollowerSeat). (seat_at l desk).seen) seats
        ∙ (seen_from 0 desks all desk (subst (λ (n : ℕ). desk < n) (sym count) below) ∙ ap (λ (n : ℕ). get_or named.records n []) (omega arith));
    recovered = λ desk below. ap (λ (l : List FollowerSeat). (seat_at l desk).recovered) seats
        ∙ (recovered_from 0 desks all desk (subst (λ (n : ℕ). desk < n) (sym count) below) ∙ ap (λ (n : ℕ). length (get_or named.records n [])) (omega arith));
    none = λ desk. ap (λ (l : List FollowerSeat). (seat_at l desk).mine) seats ∙ none_made desks desk;
    places = places;
  }

-- ---- one more is moved

module _ {A B : Type 0} (f : A → B) (old : List B) (before : List A) (all : List B) (was : old ++ map f before ≡ all) where
  pub moved : (new : List B) (one : A) (rest : List A) → new ≡ old ++ f one ∷ [] → before ≡ one ∷ rest → new ++ map f rest ≡ all
  moved new one rest pushed step =
      ap (λ (l : List B). l ++ map f rest) pushed ∙ (append_assoc old (f one ∷ []) (map f rest) ∙ (ap (λ (l : List A). old ++ map f l) (sym step) ∙ was))

  pub moved_all : before ≡ [] → old ≡ all
  moved_all none = sym (append-nil old) ∙ (ap (λ (l : List A). old ++ map f l) (sym none) ∙ was)

-- ---- the last of some

module _ {A : Type 0} (P : A → Type 0) (all new : List A) (one : A) (items : all ≡ new ++ one ∷ []) (is : All P all) where
  parts : All P (new ++ one ∷ [])
  parts = subst (λ (l : List A). All P l) items is

  pub last_is : P one
  last_is = subst P (get_or_push new one one (length new) refl) (parts (length new) one (let long = length_push new one in omega (arith, long)))

  pub rest_are : All P new
  rest_are = λ k d below. subst P (get_or_append_left new (one ∷ []) d k below) (parts k d (let long = length_push new one in omega (arith, below, long)))
