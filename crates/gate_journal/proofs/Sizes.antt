-- How many bytes records take, and where they lie, by their sizes.
use Rattle.std.proofs.Common.{◌≡◌, ℕ, ◌+◌, ◌≤◌, ◌<◌, List, [], ◌∷◌, ◌++◌, map, length, take, set, refl, sym, ◌∙◌, ap, arith, length-append, subst}
use Rattle.std.proofs.lemmas.List.{map-append, length-map, length-take, take_all, length-set}
use Rattle.std.proofs.lemmas.Grind.{take-set_at}
use Rattle.std.specs.Int.{w64, to_be_bytes}
use Rattle.gate_journal.specs.Format.{spelled, taken_by, held_for}
use Rattle.gate_journal.specs.inner.Kept.{IsMeasured, places_of, pair_of, sizes_of}
use Rattle.gate_journal.specs.declared.place.Place.{Place}
use Rattle.gate_journal.proofs.Records.{length-to_be_bytes}

pub taken_by-spelled : (records : List (List ℕ)) → taken_by (map length records) ≡ length (spelled records)
taken_by-spelled [] = refl
taken_by-spelled (payload ∷ records) =
    omega (arith, taken_by-spelled records, length-append (to_be_bytes w64 (length payload)) (payload ++ spelled records), length-append payload (spelled records), length-to_be_bytes (length payload))

pub taken_by-push : (sizes : List ℕ) (size : ℕ) → taken_by (sizes ++ size ∷ []) ≡ taken_by sizes + (size + 9)
taken_by-push [] size = omega arith
taken_by-push (first ∷ sizes) size = omega (arith, taken_by-push sizes size)

pub places_of-push : (at : ℕ) (sizes : List ℕ) (size : ℕ) → places_of at (sizes ++ size ∷ []) ≡ places_of at sizes ++ (at + taken_by sizes + 9, size) ∷ []
places_of-push at [] size = ap (λ (n : ℕ). (n, size) ∷ []) (omega arith)
places_of-push at (first ∷ sizes) size =
    ap (λ (l : List (ℕ × ℕ)). (at + 9, first) ∷ l) (places_of-push (at + 9 + first) sizes size)
    ∙ ap (λ (n : ℕ). (at + 9, first) ∷ (places_of (at + 9 + first) sizes ++ (n, size) ∷ [])) (omega arith)

abbrev size_of_place : Place → ℕ
size_of_place place = place.size

pub length-sizes_of : (count : ℕ) (places : List Place) → count ≤ length places → length (sizes_of count places) ≡ count
length-sizes_of count places le = omega (arith, length-map (take count places) size_of_place, length-take count places)

pub sizes_of-set : (count : ℕ) (places : List Place) (place : Place) → count < length places → sizes_of (count + 1) (set places count place) ≡ sizes_of count places ++ place.size ∷ []
sizes_of-set count places place room =
    ap (λ (l : List Place). map size_of_place l) (take-set_at places count (count + 1) place refl room) ∙ map-append size_of_place (take count places) (place ∷ [])

-- one record more
pub measured_push : (count held : ℕ) (places : List Place) (place : Place) → IsMeasured count held places → count < length places → place.at ≡ held + 8 → IsMeasured (count + 1) (held + (place.size + 9)) (set places count place)
measured_push count held places place measured room at =
    let sizes = sizes_of-set count places place room in
    record {
      counted = omega (arith, room, length-set places count place);
      held_is = omega (arith, ap taken_by sizes, taken_by-push (sizes_of count places) place.size, measured.held_is);
      places_are =
          ap (λ (l : List Place). map pair_of l) (take-set_at places count (count + 1) place refl room)
          ∙ map-append pair_of (take count places) (place ∷ [])
          ∙ ap (λ (l : List (ℕ × ℕ)). l ++ pair_of place ∷ []) measured.places_are
          ∙ ap (λ (n : ℕ). places_of 16 (sizes_of count places) ++ (n, place.size) ∷ []) (omega (arith, at, measured.held_is))
          ∙ sym (places_of-push 16 (sizes_of count places) place.size)
          ∙ ap (λ (l : List ℕ). places_of 16 l) (sym sizes);
    }

-- other places behind those of the records
pub measured_same : (count held : ℕ) (places more : List Place) → IsMeasured count held places → count ≤ length more → take count more ≡ take count places → IsMeasured count held more
measured_same count held places more measured counted same =
    let sizes : sizes_of count places ≡ sizes_of count more = ap (λ (l : List Place). map size_of_place l) (sym same) in
    record {
      counted = counted;
      held_is = measured.held_is ∙ ap held_for sizes;
      places_are = ap (λ (l : List Place). map pair_of l) same ∙ measured.places_are ∙ ap (λ (l : List ℕ). places_of 16 l) sizes;
    }

-- these places lie one after another, and the next gate is at this offset
pub record AreInTurn (at : ℕ) (places : List Place) : Type 0 where
  pub at_is : at ≡ 16 + taken_by (map (λ (place : Place). place.size) places)
  pub places_are : map pair_of places ≡ places_of 16 (map (λ (place : Place). place.size) places)

pub none_in_turn : (places : List Place) → places ≡ [] → AreInTurn 16 places
none_in_turn places none = subst (λ (l : List Place). AreInTurn 16 l) (sym none) (record { at_is = refl; places_are = refl })

pub more_in_turn : (at next : ℕ) (places more : List Place) (place : Place) → AreInTurn at places → more ≡ places ++ place ∷ [] → place.at ≡ at + 9 → next ≡ at + (9 + place.size) → AreInTurn next more
more_in_turn at next places more place turn is there further =
    let sizes : map size_of_place more ≡ map size_of_place places ++ place.size ∷ [] = ap (λ (l : List Place). map size_of_place l) is ∙ map-append size_of_place places (place ∷ []) in
    record {
      at_is = omega (arith, further, turn.at_is, ap taken_by sizes, taken_by-push (map size_of_place places) place.size);
      places_are =
          ap (λ (l : List Place). map pair_of l) is
          ∙ map-append pair_of places (place ∷ [])
          ∙ ap (λ (l : List (ℕ × ℕ)). l ++ pair_of place ∷ []) turn.places_are
          ∙ ap (λ (n : ℕ). places_of 16 (map size_of_place places) ++ (n, place.size) ∷ []) (omega (arith, there, turn.at_is))
          ∙ sym (places_of-push 16 (map size_of_place places) place.size)
          ∙ ap (λ (l : List ℕ). places_of 16 l) (sym sizes);
    }

pub all_sizes : (places : List Place) → sizes_of (length places) places ≡ map (λ (place : Place). place.size) places
all_sizes places = ap (λ (l : List Place). map size_of_place l) (take_all (length places) places (omega arith))

pub all_measured : (at : ℕ) (places : List Place) → AreInTurn at places → IsMeasured (length places) (at + 1) places
all_measured at places turn =
    let sizes = all_sizes places in
    record {
      counted = omega arith;
      held_is = omega (arith, turn.at_is, ap taken_by sizes);
      places_are =
          ap (λ (l : List Place). map pair_of l) (take_all (length places) places (omega arith)) ∙ turn.places_are ∙ ap (λ (l : List ℕ). places_of 16 l) (sym sizes);
    }

pub none_measured : (places : List Place) → places ≡ [] → IsMeasured (length places) 17 places
none_measured places none = all_measured 16 places (none_in_turn places none)
