-- What the disk and each crash image of a journal stand for, from call to call.
use Rattle.std.proofs.Common.{◌≡◌, ◌⊎◌, inl, ℕ, ◌+◌, ◌≤◌, ◌<◌, ◌^◌, Option, Some, None, List, [], ◌∷◌, ◌++◌, length, set, IfSome, IsSome, refl, sym, ◌∙◌, ap, subst}
use Rattle.std.proofs.lemmas.List.{length-map}
use Rattle.std.proofs.lemmas.List.Elements.{All-push}
use Rattle.std.proofs.lemmas.Option.{none-some, same_Some}
use Rattle.std.specs.Option.{option_map, unwrap_or}
use Rattle.disk_api.specs.Images.{IsOnly}
use Rattle.gate_journal.specs.Format.{recovered}
use Rattle.gate_journal.specs.Storing.{stored, entry_bytes, IsStoringKnown}
use Rattle.gate_journal.specs.inner.Kept.{IsLaidOut, IsConsistentJournal, IsGuarded, shows, sizes_of, pair_of}
use Rattle.gate_journal.specs.inner.Reading.{Opens}
use Rattle.gate_journal.specs.View.{RecoversTo, RecoversToKnown, RecoversToOrWith, RecoversToInDoubt, stake_of}
use Rattle.gate_journal.specs.declared.place.Place.{Place}
use Rattle.gate_journal.proofs.Laid.{shown}
use Rattle.gate_journal.proofs.Whole.{AreWithin, holds_closed}
use Rattle.gate_journal.proofs.Sizes.{length-sizes_of}
use Rattle.gate_journal.proofs.Keeping.{stored_laid, measured_stored}
use Rattle.gate_journal.proofs.Appended.{storing_holds}

-- these records alone are one of the two
pub with_none : (limit : ℕ) (records : Option (List (List ℕ))) (payload file : List ℕ) → RecoversToKnown limit records file → RecoversToOrWith limit records payload file
with_none limit None payload file stands = tt
with_none limit (Some all) payload file stands = inl stands

-- what is left between calls may be left during an append
pub stake_stands : (limit : ℕ) (records : Option (List (List ℕ))) (shut : Option (ℕ × ℕ)) (doubt : Option (List ℕ)) (payload file : List ℕ) → (shut ≡ None → doubt ≡ None) → RecoversToInDoubt limit records doubt file
    → RecoversToInDoubt limit records (stake_of shut doubt payload) file
stake_stands limit records None doubt payload file settled stands = with_none limit records payload file (subst (λ (o : Option (List ℕ)). RecoversToInDoubt limit records o file) (settled refl) stands)
stake_stands limit records (Some rose) doubt payload file settled stands = stands

-- what the disk holds is one of the images
pub known_of_images : (content : Option (List ℕ)) (may_leave : List ℕ → Type 0) (P : List ℕ → Type 0) → ((bytes : List ℕ) → content ≡ Some bytes → may_leave bytes) → ((c : List ℕ) → may_leave c → P c) → IfSome content (λ bytes. P bytes)
known_of_images None may_leave P as_read images = tt
known_of_images (Some bytes) may_leave P as_read images = images bytes (as_read bytes refl)

-- records are known where bytes are
pub shown_known : (count : ℕ) (content : Option (List ℕ)) → IfSome content (λ _. IsSome (shows count content))
shown_known count None = tt
shown_known count (Some bytes) = refl

-- and bytes where records are
pub shown_told : (count : ℕ) (content : Option (List ℕ)) → IfSome (shows count content) (λ _. IsSome content)
shown_told count None = tt
shown_told count (Some bytes) = refl

module _ (limit count : ℕ) where
  -- of an open journal
  pub open_stands : (content : Option (List ℕ)) (may_leave : List ℕ → Type 0) (doubt : Option (List ℕ)) (shut : Option (ℕ × ℕ)) → shut ≡ None → IsGuarded content may_leave limit count doubt shut → (c : List ℕ) → may_leave c → RecoversToKnown limit (shows count content) c
  open_stands content may_leave doubt shut opened guarded c left = subst (λ (o : Option (List ℕ)). RecoversToInDoubt limit (shows count content) o c) (guarded.settled opened) (guarded.images c left)

  -- what may be left while a record is stored
  pub storing_stands : (payload : List ℕ) → length payload < 2 ^ 64 → length payload ≤ limit → (content : Option (List ℕ)) (may_leave : List ℕ → Type 0) (held : ℕ) (places : List Place) (doubt : Option (List ℕ)) (shut : Option (ℕ × ℕ)) → shut ≡ None
      → IsConsistentJournal content may_leave count held places shut → IsGuarded content may_leave limit count doubt shut → (c : List ℕ) → IsStoringKnown held (entry_bytes payload) content c → RecoversToOrWith limit (shows count content) payload c
  storing_stands payload few fits None may_leave held places doubt shut opened kept guarded c storing = tt
  storing_stands payload few fits (Some bytes) may_leave held places doubt shut opened kept guarded c storing =
      let laid = kept.known.1 in
      let all = kept.known.0 in
      let shows_all = shown count (length-sizes_of count places kept.measured.counted) laid in
      let within : AreWithin limit all = subst (λ (l : List (List ℕ)). AreWithin limit l) shows_all guarded.within in
      subst (λ (l : List (List ℕ)). RecoversTo limit l c ⊎ RecoversTo limit (l ++ payload ∷ []) c) (sym shows_all) (storing_holds laid held kept.measured.held_is limit payload c (laid.closed opened) few fits within storing)

  -- after a fault in it
  pub guarded_failed : (payload : List ℕ) (content now : Option (List ℕ)) (may_leave after : List ℕ → Type 0) (doubt new_doubt : Option (List ℕ)) (shut : Option (ℕ × ℕ)) (rose : ℕ × ℕ) → IsGuarded content may_leave limit count doubt shut → shows count now ≡ shows count content
      → new_doubt ≡ Some payload → ((c : List ℕ) → after c → RecoversToOrWith limit (shows count content) payload c) → IsGuarded now after limit count new_doubt (Some rose)
  guarded_failed payload content now may_leave after doubt new_doubt shut rose guarded same is images = record {
    within = subst (λ (o : Option (List (List ℕ))). IfSome o (λ all. AreWithin limit all)) (sym same) guarded.within;
    images = λ c left.
        subst (λ (o : Option (List ℕ)). RecoversToInDoubt limit (shows count now) o c) (sym is) (subst (λ (o : Option (List (List ℕ))). RecoversToOrWith limit o payload c) (sym same) (images c left));
    settled = λ none. absurd (none-some rose (sym none));
  }

  -- after it is stored
  pub guarded_stored : (payload : List ℕ) → length payload < 2 ^ 64 → length payload ≤ limit → (content now : Option (List ℕ)) (may_leave after : List ℕ → Type 0) (held : ℕ) (places : List Place) (place : Place) (doubt new_doubt : Option (List ℕ)) (shut : Option (ℕ × ℕ)) → shut ≡ None
      → IsConsistentJournal content may_leave count held places shut → IsGuarded content may_leave limit count doubt shut → now ≡ option_map (stored held (entry_bytes payload)) content → IsOnly now after → count < length places → pair_of place ≡ (held + 8, length payload) → new_doubt ≡ None
      → IsGuarded now after limit (count + 1) new_doubt shut
  guarded_stored payload few fits None now may_leave after held places place doubt new_doubt shut opened kept guarded is only room at none = record {
    within = subst (λ (o : Option (List ℕ)). IfSome (shows (count + 1) o) (λ all. AreWithin limit all)) (sym is) tt;
    images = λ c left. absurd (none-some c (sym is ∙ only c left));
    settled = λ _. none;
  }
  guarded_stored payload few fits (Some bytes) now may_leave after held places place doubt new_doubt shut opened kept guarded is only room at none =
      let laid : IsLaidOut kept.known.0 (sizes_of count places) None bytes = subst (λ (s : Option (ℕ × ℕ)). IsLaidOut kept.known.0 (sizes_of count places) s bytes) opened kept.known.1 in
      let all = kept.known.0 ++ payload ∷ [] in
      let new = stored held (entry_bytes payload) bytes in
      let next = stored_laid payload few count held places place kept.known.0 bytes kept.measured laid room at in
      let shows_next = shown (count + 1) (length-sizes_of (count + 1) (set places count place) (measured_stored payload few count held places place kept.measured room at).counted) next in
      let within : AreWithin limit all = All-push (λ p. length p ≤ limit) kept.known.0 payload (subst (λ (l : List (List ℕ)). AreWithin limit l) (shown count (length-sizes_of count places kept.measured.counted) laid) guarded.within) fits in
      let holds : RecoversTo limit all new = holds_closed limit all next.gate next.tail new next.split next.small within (next.closed refl) in
      record {
        within = subst (λ (o : Option (List ℕ)). IfSome (shows (count + 1) o) (λ l. AreWithin limit l)) (sym is) (subst (λ (l : List (List ℕ)). AreWithin limit l) (sym shows_next) within);
        images = λ c left.
            subst (λ (o : Option (List ℕ)). RecoversToInDoubt limit (shows (count + 1) now) o c) (sym none)
            (subst (λ (o : Option (List ℕ)). RecoversToKnown limit (shows (count + 1) o) c) (sym is)
            (subst (λ (l : List (List ℕ)). RecoversTo limit l c) (sym shows_next) (subst (λ (b : List ℕ). RecoversTo limit all b) (same_Some new c (sym is ∙ only c left)) holds)));
        settled = λ _. none;
      }

  -- after reads
  pub guarded_read : (content now : Option (List ℕ)) (may_leave after : List ℕ → Type 0) (doubt : Option (List ℕ)) (shut : Option (ℕ × ℕ)) → IsGuarded content may_leave limit count doubt shut → now ≡ content → ((c : List ℕ) → after c → may_leave c)
      → IsGuarded now after limit count doubt shut
  guarded_read content now may_leave after doubt shut guarded same fewer = record {
    within = subst (λ (o : Option (List ℕ)). IfSome (shows count o) (λ all. AreWithin limit all)) (sym same) guarded.within;
    images = λ c left. subst (λ (o : Option (List ℕ)). RecoversToInDoubt limit (shows count o) doubt c) (sym same) (guarded.images c (fewer c left));
    settled = guarded.settled;
  }

  -- and after a fault in them
  pub guarded_shut : (content : Option (List ℕ)) (may_leave : List ℕ → Type 0) (doubt : Option (List ℕ)) (shut : Option (ℕ × ℕ)) (rose : ℕ × ℕ) → IsGuarded content may_leave limit count doubt shut → IsGuarded content may_leave limit count doubt (Some (unwrap_or shut rose))
  guarded_shut content may_leave doubt shut rose guarded = record { within = guarded.within; images = guarded.images; settled = λ none. absurd (none-some (unwrap_or shut rose) (sym none)) }

-- a journal shows what the file that was opened stood for
pub shows_found : (limit count : ℕ) (content now : Option (List ℕ)) (places : List Place) → count ≡ length places → IfSome content (λ bytes. Opens limit places bytes now) → (content ≡ None → now ≡ None) → shows count now ≡ option_map recovered content
shows_found limit count None now places all opens unknown = ap (λ (o : Option (List ℕ)). shows count o) (unknown refl)
shows_found limit count (Some bytes) now places all opens unknown =
    let found = opens.found in
    let shows_all = shown count (length-map places (λ (place : Place). place.size) ∙ sym all) found.laid_out in
    ap (λ (o : Option (List ℕ)). shows count o) opens.known ∙ ap (λ (l : List (List ℕ)). Some l) (shows_all ∙ opens.same)

-- of an opened file
pub guarded_found : (limit count : ℕ) (content now : Option (List ℕ)) (after : List ℕ → Type 0) (places : List Place) (doubt : Option (List ℕ)) → count ≡ length places → IfSome content (λ bytes. Opens limit places bytes now) → (content ≡ None → now ≡ None) → IsOnly now after
    → doubt ≡ None → IsGuarded now after limit count doubt None
guarded_found limit count None now after places doubt all opens unknown only none = record {
  within = subst (λ (o : Option (List ℕ)). IfSome (shows count o) (λ l. AreWithin limit l)) (sym (unknown refl)) tt;
  images = λ c left. absurd (none-some c (sym (unknown refl) ∙ only c left));
  settled = λ _. none;
}
guarded_found limit count (Some bytes) now after places doubt all opens unknown only none =
    let found = opens.found in
    let shows_all = shown count (length-map places (λ (place : Place). place.size) ∙ sym all) found.laid_out in
    let laid = found.laid_out in
    let holds : RecoversTo limit found.records opens.now = holds_closed limit found.records laid.gate laid.tail opens.now laid.split laid.small found.within (laid.closed refl) in
    record {
      within = subst (λ (o : Option (List ℕ)). IfSome (shows count o) (λ l. AreWithin limit l)) (sym opens.known) (subst (λ (l : List (List ℕ)). AreWithin limit l) (sym shows_all) found.within);
      images = λ c left.
          subst (λ (o : Option (List ℕ)). RecoversToInDoubt limit (shows count now) o c) (sym none)
          (subst (λ (o : Option (List ℕ)). RecoversToKnown limit (shows count o) c) (sym opens.known)
          (subst (λ (l : List (List ℕ)). RecoversTo limit l c) (sym shows_all) (subst (λ (b : List ℕ). RecoversTo limit found.records b) (same_Some opens.now c (sym opens.known ∙ only c left)) holds)));
      settled = λ _. none;
    }
