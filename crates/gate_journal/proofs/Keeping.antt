-- What a journal keeps true over the storing of a record, and what it shows then.
use Rattle.std.proofs.Common.{◌≡◌, ℕ, ◌+◌, ◌≤◌, ◌<◌, ◌^◌, Option, Some, None, List, [], ◌∷◌, ◌++◌, map, length, take, set, IfSome, refl, sym, ◌∙◌, ap, subst, cond, arith}
use Rattle.std.proofs.lemmas.Bool.Decides.{nat_tests}
use Rattle.std.specs.Prelude.{nat_lt}
use Rattle.std.proofs.lemmas.Option.{none-some}
use Rattle.std.specs.Option.{option_map, option_or, unwrap_or}
use Rattle.disk_api.specs.Content.{BothKnown}
use Rattle.disk_api.specs.Images.{IsOnly}
use Rattle.host_calls.specs.Rise.{HasRisen}
use Rattle.gate_journal.specs.Storing.{stored, entry_bytes, IsStoring}
use Rattle.gate_journal.specs.inner.Kept.{IsMeasured, IsLaidOut, IsConsistentJournal, pair_of, sizes_of, shows}
use Rattle.gate_journal.specs.declared.place.Place.{Place}
use Rattle.gate_journal.proofs.Laid.{shown}
use Rattle.gate_journal.proofs.Appended.{laid_storing, laid_stored, laid_long}
use Rattle.gate_journal.proofs.Sizes.{length-sizes_of, sizes_of-set, measured_push, measured_same, all_sizes}
use Rattle.gate_journal.proofs.Stored.{IsLong}

abbrev Laid : ℕ → List Place → Option (ℕ × ℕ) → Option (List ℕ) → Type 0
Laid count places shut content = IfSome content (λ bytes. (records : List (List ℕ)) × IsLaidOut records (sizes_of count places) shut bytes)

pub kept_long : (content : Option (List ℕ)) (may_leave : List ℕ → Type 0) (count held : ℕ) (places : List Place) (shut : Option (ℕ × ℕ)) → IsConsistentJournal content may_leave count held places shut → IsLong held content
kept_long None may_leave count held places shut kept = tt
kept_long (Some bytes) may_leave count held places shut kept = laid_long kept.known.1 held kept.measured.held_is

module _ (payload : List ℕ) (few : length payload < 2 ^ 64) where
  pub kept_failed : (content now : Option (List ℕ)) (may_leave after : List ℕ → Type 0) (count held : ℕ) (places : List Place) (rose : ℕ × ℕ) → IsConsistentJournal content may_leave count held places None
      → BothKnown (IsStoring held (entry_bytes payload)) content now → HasRisen rose.0 rose.1 → IsConsistentJournal now after count held places (Some rose)
  kept_failed None now may_leave after count held places rose kept both risen = record {
    measured = kept.measured;
    known = subst (λ (o : Option (List ℕ)). Laid count places (Some rose) o) (sym both) tt;
    durable = λ is. absurd (none-some rose (sym is));
    risen = risen;
  }
  kept_failed (Some bytes) now may_leave after count held places rose kept both risen = record {
    measured = kept.measured;
    known = subst (λ (o : Option (List ℕ)). Laid count places (Some rose) o) (sym both.1) (kept.known.0, laid_storing kept.known.1 held kept.measured.held_is (entry_bytes payload) both.0 rose both.2);
    durable = λ is. absurd (none-some rose (sym is));
    risen = risen;
  }

  pub shows_failed : (content now : Option (List ℕ)) (may_leave : List ℕ → Type 0) (count held : ℕ) (places : List Place) → IsConsistentJournal content may_leave count held places None
      → BothKnown (IsStoring held (entry_bytes payload)) content now → shows count now ≡ shows count content
  shows_failed None now may_leave count held places kept both = ap (λ (o : Option (List ℕ)). shows count o) both
  shows_failed (Some bytes) now may_leave count held places kept both =
      let all = length-sizes_of count places kept.measured.counted in
      ap (λ (o : Option (List ℕ)). shows count o) both.1
      ∙ ap (λ (l : List (List ℕ)). Some l) (shown count all (laid_storing kept.known.1 held kept.measured.held_is (entry_bytes payload) both.0 (0, 0) both.2) ∙ sym (shown count all kept.known.1))

  -- the sizes with the record that was stored
  sizes_stored : (count held : ℕ) (places : List Place) (place : Place) → count < length places → pair_of place ≡ (held + 8, length payload) → sizes_of (count + 1) (set places count place) ≡ sizes_of count places ++ length payload ∷ []
  sizes_stored count held places place room at = sizes_of-set count places place room ∙ ap (λ (p : ℕ × ℕ). sizes_of count places ++ p.1 ∷ []) at

  pub measured_stored : (count held : ℕ) (places : List Place) (place : Place) → IsMeasured count held places → count < length places → pair_of place ≡ (held + 8, length payload) → IsMeasured (count + 1) (held + (length payload + 9)) (set places count place)
  measured_stored count held places place measured room at =
      subst (λ (n : ℕ). IsMeasured (count + 1) (held + (n + 9)) (set places count place)) (ap (λ (p : ℕ × ℕ). p.1) at) (measured_push count held places place measured room (ap (λ (p : ℕ × ℕ). p.0) at))

  pub stored_laid : (count held : ℕ) (places : List Place) (place : Place) (records : List (List ℕ)) (bytes : List ℕ) → IsMeasured count held places → IsLaidOut records (sizes_of count places) None bytes → count < length places → pair_of place ≡ (held + 8, length payload)
      → IsLaidOut (records ++ payload ∷ []) (sizes_of (count + 1) (set places count place)) None (stored held (entry_bytes payload) bytes)
  stored_laid count held places place records bytes measured laid room at =
      subst (λ (l : List ℕ). IsLaidOut (records ++ payload ∷ []) l None (stored held (entry_bytes payload) bytes)) (sym (sizes_stored count held places place room at)) (laid_stored laid held measured.held_is payload few)

  pub kept_stored : (content now : Option (List ℕ)) (may_leave after : List ℕ → Type 0) (count held : ℕ) (places : List Place) (place : Place) → IsConsistentJournal content may_leave count held places None
      → now ≡ option_map (stored held (entry_bytes payload)) content → IsOnly now after → count < length places → pair_of place ≡ (held + 8, length payload)
      → IsConsistentJournal now after (count + 1) (held + (length payload + 9)) (set places count place) None
  kept_stored None now may_leave after count held places place kept is only room at = record {
    measured = measured_stored count held places place kept.measured room at;
    known = subst (λ (o : Option (List ℕ)). Laid (count + 1) (set places count place) None o) (sym is) tt;
    durable = λ _. only;
    risen = tt;
  }
  kept_stored (Some bytes) now may_leave after count held places place kept is only room at = record {
    measured = measured_stored count held places place kept.measured room at;
    known = subst (λ (o : Option (List ℕ)). Laid (count + 1) (set places count place) None o) (sym is) (kept.known.0 ++ payload ∷ [], stored_laid count held places place kept.known.0 bytes kept.measured kept.known.1 room at);
    durable = λ _. only;
    risen = tt;
  }

  pub shows_stored : (content now : Option (List ℕ)) (may_leave after : List ℕ → Type 0) (count held : ℕ) (places : List Place) (place : Place) → IsConsistentJournal content may_leave count held places None
      → now ≡ option_map (stored held (entry_bytes payload)) content → count < length places → pair_of place ≡ (held + 8, length payload)
      → shows (count + 1) now ≡ option_map (λ all. all ++ payload ∷ []) (shows count content)
  shows_stored None now may_leave after count held places place kept is room at = ap (λ (o : Option (List ℕ)). shows (count + 1) o) is
  shows_stored (Some bytes) now may_leave after count held places place kept is room at =
      let all = length-sizes_of count places kept.measured.counted in
      let more = length-sizes_of (count + 1) (set places count place) (measured_stored count held places place kept.measured room at).counted in
      ap (λ (o : Option (List ℕ)). shows (count + 1) o) is
      ∙ ap (λ (l : List (List ℕ)). Some l)
      (shown (count + 1) more (stored_laid count held places place kept.known.0 bytes kept.measured kept.known.1 room at) ∙ ap (λ (l : List (List ℕ)). l ++ payload ∷ []) (sym (shown count all kept.known.1)))

-- the same of an open journal, where what was stored is called new
module _ (payload : List ℕ) (few : length payload < 2 ^ 64) (new : List ℕ) (spelled_out : new ≡ entry_bytes payload) (content : Option (List ℕ)) (may_leave : List ℕ → Type 0) (count held : ℕ) (places : List Place) (shut : Option (ℕ × ℕ))
    (opened : shut ≡ None) (kept : IsConsistentJournal content may_leave count held places shut) where
  at_open : IsConsistentJournal content may_leave count held places None
  at_open = subst (λ (s : Option (ℕ × ℕ)). IsConsistentJournal content may_leave count held places s) opened kept

  pub open_failed : (now : Option (List ℕ)) (after : List ℕ → Type 0) (rose : ℕ × ℕ) → BothKnown (IsStoring held new) content now → HasRisen rose.0 rose.1 → IsConsistentJournal now after count held places (Some rose)
  open_failed now after rose both risen = kept_failed payload few content now may_leave after count held places rose at_open (subst (λ (l : List ℕ). BothKnown (IsStoring held l) content now) spelled_out both) risen

  pub open_failed_shows : (now : Option (List ℕ)) → BothKnown (IsStoring held new) content now → shows count now ≡ shows count content
  open_failed_shows now both = shows_failed payload few content now may_leave count held places at_open (subst (λ (l : List ℕ). BothKnown (IsStoring held l) content now) spelled_out both)

  pub open_stored : (now : Option (List ℕ)) (after : List ℕ → Type 0) (place : Place) → now ≡ option_map (stored held new) content → IsOnly now after → count < length places → pair_of place ≡ (held + 8, length payload)
      → IsConsistentJournal now after (count + 1) (held + (length payload + 9)) (set places count place) shut
  open_stored now after place is only room at =
      subst (λ (s : Option (ℕ × ℕ)). IsConsistentJournal now after (count + 1) (held + (length payload + 9)) (set places count place) s) (sym opened)
      (kept_stored payload few content now may_leave after count held places place at_open (subst (λ (l : List ℕ). now ≡ option_map (stored held l) content) spelled_out is) only room at)

  pub open_sized : (now : Option (List ℕ)) (after : List ℕ → Type 0) (place : Place) (size : ℕ) → size ≡ length payload → now ≡ option_map (stored held new) content → IsOnly now after → count < length places → pair_of place ≡ (held + 8, size)
      → IsConsistentJournal now after (count + 1) (held + (size + 9)) (set places count place) shut
  open_sized now after place size same is only room at =
      subst (λ (n : ℕ). IsConsistentJournal now after (count + 1) (held + (n + 9)) (set places count place) shut) (sym same) (open_stored now after place is only room (at ∙ ap (λ (n : ℕ). (held + 8, n)) same))

  pub open_stored_shows : (now : Option (List ℕ)) (place : Place) → now ≡ option_map (stored held new) content → count < length places → pair_of place ≡ (held + 8, length payload)
      → shows (count + 1) now ≡ option_map (λ all. all ++ payload ∷ []) (shows count content)
  open_stored_shows now place is room at =
      shows_stored payload few content now may_leave may_leave count held places place at_open (subst (λ (l : List ℕ). now ≡ option_map (stored held l) content) spelled_out is) room at

-- room for a record is a place that is free
pub place_free : (count size room n : ℕ) → n < cond (nat_lt count size) room 0 → count < size
place_free count size room n lt = grind (arith, nat_tests)

-- other places behind those of the records
pub kept_places : (content : Option (List ℕ)) (may_leave : List ℕ → Type 0) (count held : ℕ) (places more : List Place) (shut : Option (ℕ × ℕ)) → IsConsistentJournal content may_leave count held places shut → count ≤ length more → take count more ≡ take count places
    → IsConsistentJournal content may_leave count held more shut
kept_places content may_leave count held places more shut kept counted same = record {
  measured = measured_same count held places more kept.measured counted same;
  known = subst (λ (l : List ℕ). IfSome content (λ bytes. (records : List (List ℕ)) × IsLaidOut records l shut bytes)) (ap (λ (l : List Place). map (λ (place : Place). place.size) l) (sym same)) kept.known;
  durable = kept.durable;
  risen = kept.risen;
}

pub more_room : (count few many room : ℕ) → few ≤ many → cond (nat_lt count few) room 0 ≤ cond (nat_lt count many) room 0
more_room count few many room le = grind (arith, nat_tests)

-- reads change nothing of it, and a fault shuts it
pub kept_read : (content now : Option (List ℕ)) (may_leave after : List ℕ → Type 0) (count held : ℕ) (places : List Place) (shut : Option (ℕ × ℕ)) → IsConsistentJournal content may_leave count held places shut → now ≡ content → ((c : List ℕ) → after c → may_leave c)
    → IsConsistentJournal now after count held places shut
kept_read content now may_leave after count held places shut kept same fewer = record {
  measured = kept.measured;
  known = subst (λ (o : Option (List ℕ)). Laid count places shut o) (sym same) kept.known;
  durable = λ opened c left. same ∙ kept.durable opened c (fewer c left);
  risen = kept.risen;
}

pub kept_shut : (content : Option (List ℕ)) (may_leave : List ℕ → Type 0) (count held : ℕ) (places : List Place) (shut : Option (ℕ × ℕ)) (rose : ℕ × ℕ) → IsConsistentJournal content may_leave count held places shut → HasRisen rose.0 rose.1
    → IsConsistentJournal content may_leave count held places (Some (unwrap_or shut rose))
kept_shut None may_leave count held places None rose kept risen = record { measured = kept.measured; known = tt; durable = λ is. absurd (none-some rose (sym is)); risen = risen }
kept_shut (Some bytes) may_leave count held places None rose kept risen =
    let laid = kept.known.1 in
    record {
      measured = kept.measured;
      known = (kept.known.0, record { gate = laid.gate; tail = laid.tail; split = laid.split; closed = λ is. absurd (none-some rose (sym is)); sizes_are = laid.sizes_are; small = laid.small });
      durable = λ is. absurd (none-some rose (sym is));
      risen = risen;
    }
kept_shut content may_leave count held places (Some first) rose kept risen = kept

-- an opened file
pub kept_found : (content : Option (List ℕ)) (may_leave : List ℕ → Type 0) (count held : ℕ) (places : List Place) → IsMeasured (length places) held places → count ≡ length places
    → IfSome content (λ bytes. (records : List (List ℕ)) × IsLaidOut records (map (λ (place : Place). place.size) places) None bytes) → IsOnly content may_leave
    → IsConsistentJournal content may_leave count held places None
kept_found content may_leave count held places measured all known only =
    subst (λ (n : ℕ). IsConsistentJournal content may_leave n held places None) (sym all) (record {
      measured = measured;
      known = subst (λ (l : List ℕ). IfSome content (λ bytes. (records : List (List ℕ)) × IsLaidOut records l None bytes)) (sym (all_sizes places)) known;
      durable = λ _. only;
      risen = tt;
    })

pub or_is : (shut : Option (ℕ × ℕ)) (rose : ℕ × ℕ) → option_or shut (Some rose) ≡ Some (unwrap_or shut rose)
or_is None rose = refl
or_is (Some first) rose = refl
