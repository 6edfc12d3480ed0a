-- What a journal keeps true between its calls.
use Rattle.std.specs.Prelude.{◌≡◌, ◌≢◌, ◌≤◌, ◌<◌, ℕ, ◌+◌, ◌^◌, Option, None, Some, List, [], ◌∷◌, ◌++◌, map, length, take, IfSome}
use Rattle.std.specs.List.{All}
use Rattle.std.specs.Option.{option_map}
use Rattle.disk_api.specs.Images.{IsOnly}
use Rattle.host_calls.specs.Rise.{HasRisen}
use Rattle.gate_journal.specs.Format.{header, spelled, held_for, recovered}
use Rattle.gate_journal.specs.View.{RecoversToInDoubt}
use Rattle.gate_journal.specs.declared.place.Place.{Place}

-- where payloads of these sizes lie, as offset and length, if the first gate is at this offset
abbrev pub places_of : ℕ → List ℕ → List (ℕ × ℕ)
places_of at [] = []
places_of at (size ∷ sizes) = (at + 9, size) ∷ places_of (at + 9 + size) sizes

abbrev pub pair_of : Place → ℕ × ℕ
pair_of place = (place.at, place.size)

-- how many bytes the payloads at the first places have
abbrev pub sizes_of : ℕ → List Place → List ℕ
sizes_of count places = map (λ (place : Place). place.size) (take count places)

-- there are so many places, which lie one after another, and the closed gate behind them ends there
pub record IsMeasured (count held : ℕ) (places : List Place) : Type 0 where
  pub counted : count ≤ length places
  pub held_is : held ≡ held_for (sizes_of count places)
  pub places_are : map pair_of (take count places) ≡ places_of 16 (sizes_of count places)

-- the bytes are these records, of these sizes, behind the header, then a gate and a tail
pub record IsLaidOut (records : List (List ℕ)) (sizes : List ℕ) (shut : Option (ℕ × ℕ)) (bytes : List ℕ) : Type 0 where
  pub gate : ℕ
  pub tail : List ℕ
  pub split : bytes ≡ header ++ (spelled records ++ gate ∷ tail)
  pub closed : shut ≡ None → gate ≢ 1
  pub sizes_are : sizes ≡ map length records
  pub small : All (λ payload. length payload < 2 ^ 64) records

pub record IsConsistentJournal (content : Option (List ℕ)) (may_leave : List ℕ → Type 0)
    (count held : ℕ) (places : List Place) (shut : Option (ℕ × ℕ)) : Type 0 where
  pub measured : IsMeasured count held places
  pub known : IfSome content (λ bytes. (records : List (List ℕ)) × IsLaidOut records (sizes_of count places) shut bytes)
  pub durable : shut ≡ None → IsOnly content may_leave
  pub risen : IfSome shut (λ rose. HasRisen rose.0 rose.1)

-- the records that a journal of this count shows, by the bytes of its file
abbrev pub shows : ℕ → Option (List ℕ) → Option (List (List ℕ))
shows count content = option_map (λ bytes. take count (recovered bytes)) content

-- what a crash may leave recovers to the records, each within the limit, and perhaps to the one in doubt
pub record IsGuarded (content : Option (List ℕ)) (may_leave : List ℕ → Type 0) (limit count : ℕ) (doubt : Option (List ℕ)) (shut : Option (ℕ × ℕ)) : Type 0 where
  pub within : IfSome (shows count content) (λ records. All (λ payload. length payload ≤ limit) records)
  pub images : (c : List ℕ) → may_leave c → RecoversToInDoubt limit (shows count content) doubt c
  pub settled : shut ≡ None → doubt ≡ None
