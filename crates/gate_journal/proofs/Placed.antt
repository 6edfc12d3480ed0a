-- Where a journal's records lie.
use Rattle.std.proofs.Common.{◌≡◌, ℕ, zero, suc, ◌+◌, ◌-◌, ◌≤◌, ◌<◌, Option, Some, None, List, [], ◌∷◌, ◌++◌, map, length, get_or, take, drop, IfSome, refl, sym, ◌∙◌, ap, subst, arith, length-append, length-drop}
use Rattle.std.proofs.lemmas.List.{take_at, drop_at, drop-drop, get_or-take, length-take, length-map, take-take}
use Rattle.std.proofs.lemmas.Option.{slice_get-get_or, slice_get-map}
use Rattle.std.specs.Option.{option_map}
use Rattle.std.specs.Prelude.{slice_get}
use Rattle.std.specs.Int.{w64, to_be_bytes}
use Rattle.gate_journal.specs.Format.{spelled, taken_by}
use Rattle.gate_journal.specs.inner.Kept.{IsMeasured, IsLaidOut, IsConsistentJournal, places_of, pair_of, sizes_of, shows}
use Rattle.gate_journal.specs.declared.place.Place.{Place}
use Rattle.gate_journal.proofs.Records.{length-to_be_bytes, spelled-more}
use Rattle.gate_journal.proofs.Laid.{shown}
use Rattle.gate_journal.proofs.Sizes.{length-sizes_of, taken_by-spelled}

-- a record is there
pub record IsPlaced (records : List (List ℕ)) (index at size : ℕ) (bytes : List ℕ) : Type 0 where
  pub payload : slice_get records index ≡ Some (take size (drop at bytes))
  pub within : at + size ≤ length bytes

pub placed : (records : List (List ℕ)) (rest bytes : List ℕ) (at index : ℕ) (d : ℕ × ℕ) → drop at bytes ≡ spelled records ++ rest → index < length records
    → IsPlaced records index (get_or (places_of at (map length records)) index d).0 (get_or (places_of at (map length records)) index d).1 bytes
placed [] rest bytes at index d is lt = absurd (omega (arith, lt))
placed (payload ∷ records) rest bytes at zero d is lt =
    let there : drop (at + 9) bytes ≡ payload ++ (spelled records ++ rest) =
    sym (drop-drop 9 at bytes) ∙ ap (λ (l : List ℕ). drop 9 l) (is ∙ spelled-more payload records rest) ∙ drop_at (1 ∷ to_be_bytes w64 (length payload)) (payload ++ (spelled records ++ rest)) 9 refl in
    record {
      payload = ap (λ (l : List ℕ). Some l) (sym (ap (λ (l : List ℕ). take (length payload) l) there ∙ take_at payload (spelled records ++ rest) (length payload) refl));
      within = omega (arith, ap (λ (l : List ℕ). length l) (is ∙ spelled-more payload records rest), length-drop at bytes, length-append (to_be_bytes w64 (length payload)) (payload ++ (spelled records ++ rest)), length-append payload (spelled records ++ rest), length-to_be_bytes (length payload));
    }
placed (payload ∷ records) rest bytes at (suc index) d is lt =
    let there : drop (at + 9 + length payload) bytes ≡ spelled records ++ rest =
    sym (drop-drop (length payload) (at + 9) bytes)
    ∙ ap (λ (l : List ℕ). drop (length payload) l) (sym (drop-drop 9 at bytes) ∙ ap (λ (l : List ℕ). drop 9 l) (is ∙ spelled-more payload records rest) ∙ drop_at (1 ∷ to_be_bytes w64 (length payload)) (payload ++ (spelled records ++ rest)) 9 refl)
    ∙ drop_at payload (spelled records ++ rest) (length payload) refl in
    let more = placed records rest bytes (at + 9 + length payload) index d there (omega (arith, lt)) in
    record { payload = more.payload; within = more.within }

pub get_or-map : (places : List Place) (index : ℕ) (d : Place) → get_or (map pair_of places) index (pair_of d) ≡ pair_of (get_or places index d)
get_or-map [] index d = refl
get_or-map (place ∷ places) zero d = refl
get_or-map (place ∷ places) (suc index) d = get_or-map places index d

-- the record of a journal at a place that was kept for it
pub laid_place : {records : List (List ℕ)} {shut : Option (ℕ × ℕ)} {bytes : List ℕ} (count held : ℕ) (places : List Place) (laid : IsLaidOut records (sizes_of count places) shut bytes) (index : ℕ) (place : Place) → IsMeasured count held places → index < count → place ≡ get_or places index place
    → IsPlaced records index place.at place.size bytes
laid_place {records} {shut} {bytes} count held places laid index place measured lt is =
    let there : drop 16 bytes ≡ spelled records ++ laid.gate ∷ laid.tail = ap (λ (l : List ℕ). drop 16 l) laid.split in
    let all : length records ≡ count = sym (length-map records length) ∙ ap (λ (l : List ℕ). length l) (sym laid.sizes_are) ∙ length-sizes_of count places measured.counted in
    let pair : get_or (places_of 16 (map length records)) index (pair_of place) ≡ pair_of place =
    ap (λ (l : List ℕ). get_or (places_of 16 l) index (pair_of place)) (sym laid.sizes_are)
    ∙ ap (λ (l : List (ℕ × ℕ)). get_or l index (pair_of place)) (sym measured.places_are)
    ∙ get_or-map (take count places) index place
    ∙ ap (λ (p : Place). pair_of p) (get_or-take count places index place lt ∙ sym is) in
    subst (λ (p : ℕ × ℕ). IsPlaced records index p.0 p.1 bytes) pair (placed records (laid.gate ∷ laid.tail) bytes 16 index (pair_of place) there (omega (arith, lt, all)))

pub read_place : (content : Option (List ℕ)) (may_leave : List ℕ → Type 0) (count held : ℕ) (places : List Place) (shut : Option (ℕ × ℕ)) (index : ℕ) (place : Place) (payload : List ℕ) → IsConsistentJournal content may_leave count held places shut → index < count → place ≡ get_or places index place
    → IfSome content (λ bytes. payload ≡ take place.size (drop place.at bytes)) → IfSome (shows count content) (λ all. slice_get all index ≡ Some payload)
read_place None may_leave count held places shut index place payload kept lt is read = tt
read_place (Some bytes) may_leave count held places shut index place payload kept lt is read =
    ap (λ (l : List (List ℕ)). slice_get l index) (shown count (length-sizes_of count places kept.measured.counted) kept.known.1)
    ∙ (laid_place count held places kept.known.1 index place kept.measured lt is).payload ∙ ap (λ (l : List ℕ). Some l) (sym read)

-- the first bytes of it
read_front : (content : Option (List ℕ)) (may_leave : List ℕ → Type 0) (count held : ℕ) (places : List Place) (shut : Option (ℕ × ℕ)) (index want : ℕ) (place : Place) (front : List ℕ) → IsConsistentJournal content may_leave count held places shut → index < count → place ≡ get_or places index place → want ≤ place.size
    → IfSome content (λ bytes. front ≡ take want (drop place.at bytes)) → IfSome (shows count content) (λ all. IfSome (slice_get all index) (λ payload. front ≡ take want payload))
read_front None may_leave count held places shut index want place front kept lt is short read = tt
read_front (Some bytes) may_leave count held places shut index want place front kept lt is short read =
    let there = read_place (Some bytes) may_leave count held places shut index place (take place.size (drop place.at bytes)) kept lt is refl in
    subst (λ (o : Option (List ℕ)). IfSome o (λ payload. front ≡ take want payload)) (sym there) (read ∙ sym (take-take want place.size (drop place.at bytes) short))

pub front_read : (content : Option (List ℕ)) (may_leave : List ℕ → Type 0) (count held : ℕ) (places : List Place) (shut : Option (ℕ × ℕ)) (index want : ℕ) (place : Place) (old new rest : List ℕ) → IsConsistentJournal content may_leave count held places shut → index < count → place ≡ get_or places index place → want ≤ place.size
    → length old ≡ want → length new ≡ want → IfSome content (λ bytes. new ≡ take (length old) (drop place.at bytes)) → IfSome (shows count content) (λ all. IfSome (slice_get all index) (λ payload. take want (new ++ rest) ≡ take want payload))
front_read None may_leave count held places shut index want place old new rest kept lt is short room long read = tt
front_read (Some bytes) may_leave count held places shut index want place old new rest kept lt is short room long read =
    read_front (Some bytes) may_leave count held places shut index want place (take want (new ++ rest)) kept lt is short (take_at new rest want long ∙ read ∙ ap (λ (n : ℕ). take n (drop place.at bytes)) room)

-- and its size
pub size_there : (count : ℕ) (places : List Place) (index : ℕ) (place : Place) → count ≤ length places → index < count → place ≡ get_or places index place → slice_get (sizes_of count places) index ≡ Some place.size
size_there count places index place counted lt is =
    slice_get-map (λ (p : Place). p.size) (take count places) index
    ∙ ap (option_map (λ (p : Place). p.size)) (slice_get-get_or (take count places) index place (omega (arith, lt, counted, length-take count places)) ∙ ap (λ (p : Place). Some p) (get_or-take count places index place lt ∙ sym is))

pub below_count : (count : ℕ) (places : List Place) (index : ℕ) → count ≤ length places → index < length (sizes_of count places) → index < count
below_count count places index counted lt = omega (arith, length-sizes_of count places counted)

-- all records, as they lie in the file
pub read_body : (content : Option (List ℕ)) (may_leave : List ℕ → Type 0) (count held : ℕ) (places : List Place) (shut : Option (ℕ × ℕ)) (body : List ℕ) → IsConsistentJournal content may_leave count held places shut → IfSome content (λ bytes. body ≡ take (held - 17) (drop 16 bytes))
    → IfSome (shows count content) (λ all. body ≡ spelled all)
read_body None may_leave count held places shut body kept read = tt
read_body (Some bytes) may_leave count held places shut body kept read =
    let laid = kept.known.1 in
    let all = kept.known.0 in
    read
    ∙ ap (λ (l : List ℕ). take (held - 17) (drop 16 l)) laid.split
    ∙ take_at (spelled all) (laid.gate ∷ laid.tail) (held - 17) (omega (arith, kept.measured.held_is, ap taken_by laid.sizes_are, taken_by-spelled all))
    ∙ ap (λ (l : List (List ℕ)). spelled l) (sym (shown count (length-sizes_of count places kept.measured.counted) laid))
