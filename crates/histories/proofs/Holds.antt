-- What holds after a legal history.
use Rattle.std.proofs.Common.{◌≡◌, ◌≢◌, ℕ, ◌+◌, ◌<◌, ◌≤◌, suc, refl, sym, subst, ◌∙◌, ap, arith, inl, inr, ⊎_elim, List, [], ◌∷◌, ◌++◌, length, take, drop, get_or, Some}
use Rattle.std.specs.Prelude.{Option, IfSome, slice_get}
use Rattle.std.specs.List.{All}
use Rattle.std.proofs.lemmas.List.{length-take-le, take_all, take-take, take-append-drop}
use Rattle.std.proofs.lemmas.Option.{none-some, slice_get_within, slice_get-get_or}
use Rattle.names.specs.Name.{IsName}
use Rattle.authority_book.specs.declared.commands.Command.{Command}
use Rattle.entitle.specs.Certified.{names_of}
use Rattle.key_ids.specs.Uris.{Bases}
use Rattle.pub_set.specs.declared.objects.Object.{Object}
use Rattle.pub_set.specs.Objects.{content_at, IsAscending}
use Rattle.editions.specs.Edition.{Edition, State, state_after, state_from, set_after, after_edition, cut_at}
use Rattle.editions.specs.Held.{HaveOwnSerials}
use Rattle.editions.specs.Published.{IsPublished, ManifestsRise}
use Rattle.editions.specs.Step.{Premises, AreSteps, AreMore, configs_at}
use Rattle.editions.specs.Names.{AreTree}
use Rattle.press_core.specs.JournalRecords.{press_limit}
use Rattle.histories.specs.Devices.{Device, Signature, Store, lists_of, doubt_at, new_store}
use Rattle.histories.specs.Events.{Happening, History, after_all, signing}
use Rattle.histories.specs.Events.Event.{Reopen}
use Rattle.histories.specs.Legal.{IsNextCommand, FollowsTheOthers, InTurn, ground_of, IsFound, IsOfBytes, MayReopen, IsLegal, bytes_for, most_bytes, press_bytes_for}
use Rattle.histories.specs.Acknowledged.{acknowledged, commands_of, editions_of, ground_after}
use Rattle.histories.specs.Found.{store_after, latest, TakesIn, AreFoundAfter}
use Rattle.histories.specs.Published.{HasEdition, set_of, applied}
use Rattle.histories.proofs.Lists.{short, front, taken_with}
use Rattle.histories.proofs.Growing.{Begins, at_desk, found_at, count_found, more_after, begins_after, ends_legal, starts_legal, after_on}
use Rattle.histories.proofs.Kept.{Stay, IsKept, found_turns, kept_through, new_kept}
use Rattle.histories.proofs.Told.{commands_are, editions_are, ground_is}
use Rattle.histories.proofs.Sets.{IsSet}
use Rattle.histories.proofs.Trees.{Apart, Named, tree_at}

-- ---- laws of editions

abbrev pub Count : Type 0
Count = (premises : Premises) (editions : List Edition) → AreSteps premises editions → (state_after editions).serial ≡ length editions

abbrev pub Follow : Type 0
Follow = (before later : List Edition) → state_after (before ++ later) ≡ state_from (state_after before) later

abbrev pub Show : Type 0
Show = (premises : Premises) (editions : List Edition) (edition : Edition) (objects : List Object)
    → AreSteps premises (editions ++ edition ∷ [])
    → AreTree (names_of (configs_at premises.lists edition.cut))
    → All (λ row. IsName row.name) (names_of (configs_at premises.lists edition.cut))
    → IsAscending objects
    → ((uri : List ℕ) → content_at objects uri ≡ set_after (editions ++ edition ∷ []) uri)
    → IsPublished premises edition (set_after (editions ++ edition ∷ []))

abbrev pub Climb : Type 0
Climb = (premises : Premises) (editions : List Edition) (edition : Edition) → AreSteps premises (editions ++ edition ∷ [])
    → ManifestsRise (set_after editions) (set_after (editions ++ edition ∷ []))

abbrev pub Own : Type 0
Own = (premises : Premises) (editions : List Edition) (id : List ℕ) → AreSteps premises editions → HaveOwnSerials editions id

-- ---- lists

count_lists : (desks : List (Device Command)) → length (lists_of desks) ≡ length desks
count_lists [] = refl
count_lists (d ∷ desks) = ap suc (count_lists desks)

pub steps_of : (ground : Premises) (editions : List Edition) → InTurn (FollowsTheOthers ground) editions → AreSteps ground editions
steps_of ground editions turns = λ place edition there. let next = turns place edition there in (next.clock, next.step)

-- ---- deltas

applied_is : (state : State) (later : List Edition) → (state_from state later).set ≡ applied state.set later
applied_is state [] = refl
applied_is state (edition ∷ rest) = applied_is (after_edition state edition) rest

pub deltas : Follow → (history : History) (from to : ℕ) → from ≤ to
    → applied (set_of history from) (drop from (take to (editions_of history))) ≡ set_of history to
deltas follow history from to within =
    let all = take to (editions_of history) in
    let start : take from all ≡ take from (editions_of history) = take-take from to (editions_of history) within in
    let whole : set_after all ≡ applied (set_after (take from all)) (drop from all) =
    ap (λ (es : List Edition). set_after es) (sym (take-append-drop from all))
    ∙ (ap (λ (state : State). state.set) (follow (take from all) (drop from all))
    ∙ applied_is (state_after (take from all)) (drop from all)) in
    sym (whole ∙ ap (λ (es : List Edition). applied (set_after es) (drop from all)) start)

-- ---- limits

last_there : {X : Type 0} (x : X) (xs : List X) → (y : X) × (slice_get (x ∷ xs) (length xs) ≡ Some y)
last_there x [] = (x, refl)
last_there x (next ∷ xs) = last_there next xs

within : (desk : ℕ) (list : List Command) → InTurn (IsNextCommand desk) list → bytes_for list ≤ most_bytes
within desk [] turns = omega arith
within desk (c ∷ list) turns =
    let last = last_there c list in
    let whole : take (length (c ∷ list)) (c ∷ list) ≡ c ∷ list = take_all (length (c ∷ list)) (c ∷ list) (omega arith) in
    let all : c ∷ list ≡ take (length list) (c ∷ list) ++ last.0 ∷ [] = sym whole ∙ taken_with (c ∷ list) (length list) last.0 last.1 in
    subst (λ (l : List Command). bytes_for l ≤ most_bytes) (sym all) (turns (length list) last.0 last.1).fits

press_within : (ground : Premises) (list : List Edition) → InTurn (FollowsTheOthers ground) list → list ≢ []
    → press_bytes_for ground.site list ≤ press_limit
press_within ground [] turns some = absurd (some refl)
press_within ground (e ∷ list) turns some =
    let last = last_there e list in
    let whole : take (length (e ∷ list)) (e ∷ list) ≡ e ∷ list = take_all (length (e ∷ list)) (e ∷ list) (omega arith) in
    let all : e ∷ list ≡ take (length list) (e ∷ list) ++ last.0 ∷ [] = sym whole ∙ taken_with (e ∷ list) (length list) last.0 last.1 in
    subst (λ (l : List Edition). press_bytes_for ground.site l ≤ press_limit) (sym all) (turns (length list) last.0 last.1).fits

-- ---- a legal history

module _ (stay : Stay) (site : Bases) (history : History) (legal : IsLegal site history) where
  kept : IsKept site (store_after history)
  kept = kept_through stay site new_store history (new_kept stay site) legal

  pub turned : InTurn (FollowsTheOthers (ground_after site history)) (editions_of history)
  turned = subst (λ (es : List Edition). InTurn (FollowsTheOthers (ground_after site history)) es) (editions_are history)
      (subst (λ (g : Premises). InTurn (FollowsTheOthers g) (store_after history).press.list) (ground_is site history) kept.press.turns)

  pub steps : AreSteps (ground_after site history) (editions_of history)
  steps = steps_of (ground_after site history) (editions_of history) turned

  pub commands : (desk : ℕ) → InTurn (IsNextCommand desk) (commands_of history desk)
  commands desk = subst (λ (lists : List (List Command)). InTurn (IsNextCommand desk) (get_or lists desk [])) (commands_are history)
      (at_desk (InTurn (IsNextCommand desk)) (store_after history).desks desk (λ place x there. absurd (none-some x there))
      (λ device there. (kept.desks desk device there).turns))

  pub limits : (desk : ℕ) → bytes_for (commands_of history desk) ≤ most_bytes
  limits desk = within desk (commands_of history desk) (commands desk)

  pub press_limits : editions_of history ≢ [] → press_bytes_for site (editions_of history) ≤ press_limit
  press_limits some = press_within (ground_after site history) (editions_of history) turned some

  pub of_bytes : All (λ (e : Edition). All IsOfBytes e.changes) (editions_of history)
  of_bytes place d below = (turned place (get_or (editions_of history) place d) (slice_get-get_or (editions_of history) place d below)).held

  pub some_desk : 0 < length (acknowledged history).commands
  some_desk =
      let all = kept.count in
      let same = count_lists (store_after history).desks in
      let told = ap length (commands_are history) in
      omega (arith, all, same, told)

  module _ (serial : ℕ) (edition : Edition) (has : HasEdition history serial edition) where
    pub cuts : TakesIn history edition
    cuts = λ desk. (turned has.place edition has.there).step.cut.held desk

    pub up_to : take serial (editions_of history) ≡ take has.place (editions_of history) ++ edition ∷ []
    up_to =
        let same : serial ≡ suc has.place = (let number = has.number in omega (arith, number)) in
        ap (λ (n : ℕ). take n (editions_of history)) same ∙ taken_with (editions_of history) has.place edition has.there

    pub front_steps : AreSteps (ground_after site history) (take has.place (editions_of history) ++ edition ∷ [])
    front_steps = steps_of (ground_after site history) _
        (front (FollowsTheOthers (ground_after site history)) (editions_of history) has.place edition has.there turned)

    pub number : Count → edition.serial ≡ serial
    number counted =
        let here = (turned has.place edition has.there).step.serial in
        let before = counted (ground_after site history) (take has.place (editions_of history))
        (steps_of (ground_after site history) (take has.place (editions_of history))
        (short (FollowsTheOthers (ground_after site history)) (editions_of history) has.place turned)) in
        let within = slice_get_within (editions_of history) has.place edition has.there in
        let long = length-take-le has.place (editions_of history) (omega (arith, within)) in
        let said = has.number in
        omega (arith, here, before, long, said)

    pub published : Apart → Named → ((editions : List Edition) → IsSet (set_after editions)) → Show
        → IsPublished (ground_after site history) edition (set_of history serial)
    published apart named left shows =
        let all = take has.place (editions_of history) ++ edition ∷ [] in
        let tree = tree_at apart named (acknowledged history).commands edition.cut some_desk (commands 0) in
        let set = left all in
        subst (λ (es : List Edition). IsPublished (ground_after site history) edition (set_after es)) (sym up_to)
        (shows (ground_after site history) (take has.place (editions_of history)) edition set.0 front_steps tree.0 tree.1 set.1 set.2)

  pub manifests : Climb → (serial : ℕ) (edition : Edition) → HasEdition history (serial + 1) edition
      → ManifestsRise (set_of history serial) (set_of history (serial + 1))
  manifests climb serial edition has =
      let same : has.place ≡ serial = (let number = has.number in omega (arith, number)) in
      subst (λ (n : ℕ). ManifestsRise (set_of history n) (set_of history (serial + 1))) same
      (subst (λ (es : List Edition). ManifestsRise (set_of history has.place) (set_after es)) (sym (up_to (serial + 1) edition has))
      (climb (ground_after site history) (take has.place (editions_of history)) edition (front_steps (serial + 1) edition has)))

-- ---- behind it

module _ (site : Bases) (history later : History) (legal : IsLegal site (history ++ later)) where
  then : after_all (store_after history) later ≡ store_after (history ++ later)
  then = sym (after_on new_store history later)

  pub commands_stand : AreMore (acknowledged history).commands (acknowledged (history ++ later)).commands
  commands_stand =
      subst (AreMore (acknowledged history).commands)
      (ap (λ (store : Store). lists_of store.desks) then ∙ commands_are (history ++ later))
      (subst (λ (lists : List (List Command)). AreMore lists (lists_of (after_all (store_after history) later).desks)) (commands_are history)
      (more_after site (store_after history) later (ends_legal site new_store history later legal)))

  pub editions_stand : Begins (editions_of history) (editions_of (history ++ later))
  editions_stand =
      subst (Begins (editions_of history))
      (ap (λ (store : Store). store.press.list) then ∙ editions_are (history ++ later))
      (subst (λ (es : List Edition). Begins es (after_all (store_after history) later).press.list) (editions_are history)
      (begins_after site (store_after history) later (ends_legal site new_store history later legal)))

-- ---- a reopening

pub found : Stay → Follow → (site : Bases) (history : History) (signed : List Signature) (lists : List (List Command)) (editions : List Edition)
    → IsLegal site (history ++ record { signed = signed; event = Reopen lists editions } ∷ [])
    → AreFoundAfter history lists editions
found stay follow site history signed lists editions legal =
    let reopened : Happening = record { signed = signed; event = Reopen lists editions } in
    let store = store_after history in
    let before = starts_legal site new_store history (reopened ∷ []) legal in
    let is_kept = kept_through stay site new_store history (new_kept stay site) before in
    let may : MayReopen site (signing store signed) lists editions = (ends_legal site new_store history (reopened ∷ []) legal).0 in
    record {
      desks = count_found store.desks lists may.desks ∙ is_kept.count;
      commands = λ desk. subst (λ (all : List (List Command)). IsFound (get_or all desk []) (doubt_at store.desks desk) (get_or lists desk []))
          (commands_are history) (found_at store.desks lists may.desks desk);
      press = subst (λ (es : List Edition). IsFound es store.press.doubt editions) (editions_are history) may.press;
      serial = ⊎_elim
          (λ (same : editions ≡ store.press.list). inl (ap latest (same ∙ editions_are history)))
          (λ (more : (x : Edition) × (store.press.doubt ≡ Some x) × (editions ≡ store.press.list ++ x ∷ [])).
          let next : FollowsTheOthers (ground_of site store) store.press.list more.0 =
          subst (λ (o : Option Edition). IfSome o (FollowsTheOthers (ground_of site store) store.press.list)) more.1 is_kept.press.doubt in
          inr (ap latest more.2 ∙ (ap (λ (state : State). state.serial) (follow store.press.list (more.0 ∷ []))
          ∙ (next.step.serial ∙ ap (λ (es : List Edition). latest es + 1) (editions_are history)))))
          may.press;
      durable = λ place edition there desk.
          let next = found_turns (FollowsTheOthers (ground_of site store)) store.press editions is_kept.press may.press place edition there in
          subst (λ (all : List (List Command)). cut_at edition.cut desk ≤ length (get_or all desk [])) (commands_are history)
          (next.step.cut.held desk);
    }
