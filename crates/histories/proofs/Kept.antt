-- What each event keeps: lists that came in turn, and a record in doubt that may come next.
use Rattle.std.proofs.Common.{◌≡◌, ◌≤◌, ℕ, ◌+◌, zero, suc, refl, sym, subst, ◌∙◌, ap, arith, ⊎_elim, true, false, List, [], ◌∷◌, ◌++◌, length, map, replicate, Some, None}
use Rattle.std.specs.Prelude.{Bool, Option, IfSome, slice_get, if◌then◌else◌, ◌||◌}
use Rattle.std.specs.List.{list_any}
use Rattle.std.proofs.lemmas.List.{length-replicate}
use Rattle.std.proofs.lemmas.List.Folds.{list_any-append}
use Rattle.std.proofs.lemmas.Option.{none-some}
use Rattle.authority_book.specs.declared.commands.Command.{Command}
use Rattle.authority_book.specs.Verdict.{most_authorities}
use Rattle.key_ids.specs.Uris.{Bases}
use Rattle.rp_rules.specs.Certificates.{VouchesMore}
use Rattle.editions.specs.Edition.{Edition}
use Rattle.editions.specs.Step.{Premises, IsStep, IsMore, AreMore}
use Rattle.press_core.specs.JournalRecords.{press_limit}
use Rattle.histories.specs.Devices.{Device, Signature, Store, is_signature, are_vouched, opened, with_one, failed, stopped, changed_at, for_desk, stopped_from, lists_of, new_store}
use Rattle.histories.specs.Events.{Event, History, after, after_one, after_all, signing}
use Rattle.histories.specs.Events.Event.{Commit, Publish, DeskFault, PressFault, Stop, Reopen}
use Rattle.histories.specs.Legal.{IsNextCommand, FollowsTheOthers, InTurn, press_bytes_for, ground_of, IsFound, AreFound, CanBeWritten, MayBePublished, IsAllowed, AreAllowed}
use Rattle.histories.proofs.Lists.{same_one, weaker, one_more, turns_weaker, count_changed, at_changed}
use Rattle.histories.proofs.Growing.{Begins, begins_same, more_same, more_changed, lists_stopped, lists_opened, all_found_more, count_found}

-- ---- a device

-- Its list came in turn, and what is in doubt may come next. An open one has nothing in doubt.
pub record IsDeviceKept {X : Type 0} (May : List X → X → Type 0) (device : Device X) : Type 0 where
  pub turns : InTurn May device.list
  pub doubt : IfSome device.doubt (May device.list)
  pub settled : device.shut ≡ false → device.doubt ≡ None

none_of : {X : Type 0} (o : Option X) (P : X → Type 0) → o ≡ None → IfSome o P
none_of {X} o P none = subst (λ (k : Option X). IfSome k P) (sym none) tt

not_both : (b : Bool) → b ≡ false → b ≡ true → ⊥
not_both b isnt is = cc

module _ {X : Type 0} (May : List X → X → Type 0) where
  device_with : (device : Device X) (x : X) → IsDeviceKept May device → device.shut ≡ false → May device.list x
      → IsDeviceKept May (with_one x device)
  device_with device x kept is_open may = record {
    turns = one_more May device.list x kept.turns may;
    doubt = none_of device.doubt (May (device.list ++ x ∷ [])) (kept.settled is_open);
    settled = kept.settled;
  }

  device_failed : (device : Device X) (x : X) → IsDeviceKept May device → May device.list x
      → IsDeviceKept May (failed x device)
  device_failed device x kept may = record {
    turns = kept.turns;
    doubt = may;
    settled = λ never. absurd (not_both true never refl);
  }

  doubt_stopped : (shut : Bool) (list : List X) (was now : Option X) → IfSome was (May list) → IfSome now (May list)
      → IfSome (if shut then was else now) (May list)
  doubt_stopped true list was now a b = a
  doubt_stopped false list was now a b = b

  device_stopped : (device : Device X) (doubt : Option X) → IsDeviceKept May device → IfSome doubt (May device.list)
      → IsDeviceKept May (stopped doubt device)
  device_stopped device doubt kept may = record {
    turns = kept.turns;
    doubt = doubt_stopped device.shut device.list device.doubt doubt kept.doubt may;
    settled = λ never. absurd (not_both true never refl);
  }

  pub found_turns : (device : Device X) (list : List X) → IsDeviceKept May device → IsFound device.list device.doubt list → InTurn May list
  found_turns device list kept = ⊎_elim
      (λ same. subst (λ (l : List X). InTurn May l) (sym same) kept.turns)
      (λ more. subst (λ (l : List X). InTurn May l) (sym more.2)
      (one_more May device.list more.0 kept.turns (subst (λ (o : Option X). IfSome o (May device.list)) more.1 kept.doubt)))

  device_opened : (device : Device X) (list : List X) → IsDeviceKept May device → IsFound device.list device.doubt list → IsDeviceKept May (opened list)
  device_opened device list kept found = record {
    turns = found_turns device list kept found;
    doubt = tt;
    settled = λ _. refl;
  }

  device_weaker : (More : List X → X → Type 0) → ((before : List X) (x : X) → May before x → More before x)
      → (device : Device X) → IsDeviceKept May device → IsDeviceKept More device
  device_weaker More f device kept = record {
    turns = turns_weaker May More device.list f kept.turns;
    doubt = weaker device.doubt (May device.list) (More device.list) (f device.list) kept.doubt;
    settled = kept.settled;
  }

  device_new : IsDeviceKept May (opened [])
  device_new = record {
    turns = λ place x there. absurd (none-some x there);
    doubt = tt;
    settled = λ _. refl;
  }

-- ---- desks

at_stopped : (n : ℕ) (doubts : List (Option Command)) (desks : List (Device Command)) (m : ℕ) (y : Device Command)
    → slice_get (stopped_from n doubts desks) m ≡ Some y
    → (x : Device Command) × (slice_get desks m ≡ Some x) × (stopped (for_desk doubts (n + m)) x ≡ y)
at_stopped n doubts [] m y there = absurd (none-some y there)
at_stopped n doubts (d ∷ desks) zero y there =
    let same : n + 0 ≡ n = omega arith in
    (d, refl, ap (λ (k : ℕ). stopped (for_desk doubts k) d) same ∙ same_one (stopped (for_desk doubts n) d) y there)
at_stopped n doubts (d ∷ desks) (suc m) y there =
    let rest = at_stopped (n + 1) doubts desks m y there in
    let same : n + suc m ≡ n + 1 + m = omega arith in
    (rest.0, rest.1, ap (λ (k : ℕ). stopped (for_desk doubts k) rest.0) same ∙ rest.2)

count_stopped : (n : ℕ) (doubts : List (Option Command)) (desks : List (Device Command)) → length (stopped_from n doubts desks) ≡ length desks
count_stopped n doubts [] = refl
count_stopped n doubts (d ∷ desks) = ap suc (count_stopped (n + 1) doubts desks)

at_opened : (desks : List (Device Command)) (lists : List (List Command)) → AreFound desks lists → (m : ℕ) (y : Device Command)
    → slice_get (map opened lists) m ≡ Some y
    → (x : Device Command) × (list : List Command) × (slice_get desks m ≡ Some x) × IsFound x.list x.doubt list × (opened list ≡ y)
at_opened [] [] found m y there = absurd (none-some y there)
at_opened [] (list ∷ lists) found m y there = absurd found
at_opened (d ∷ desks) [] found m y there = absurd found
at_opened (d ∷ desks) (list ∷ lists) found zero y there = (d, list, refl, found.0, same_one (opened list) y there)
at_opened (d ∷ desks) (list ∷ lists) found (suc m) y there = at_opened desks lists found.1 m y there

count_opened : (lists : List (List Command)) → length (map (λ list. opened list) lists) ≡ length lists
count_opened [] = refl
count_opened (list ∷ lists) = ap suc (count_opened lists)

at_first : (n m : ℕ) (d : Device Command) → slice_get (replicate n (opened [])) m ≡ Some d → opened [] ≡ d
at_first zero m d there = absurd (none-some d there)
at_first (suc n) zero d there = same_one (opened []) d there
at_first (suc n) (suc m) d there = at_first n m d there

-- ---- signatures

pub vouches_more : (signed more : List Signature) → VouchesMore (are_vouched signed) (are_vouched (signed ++ more))
vouches_more signed more key digest bytes is =
    list_any-append (is_signature key digest bytes) signed more
    ∙ ap (λ (b : Bool). b || list_any (is_signature key digest bytes) more) is

-- ---- a store

-- A step stays one over more commands, and where more is vouched.
abbrev pub Stay : Type 0
Stay = (less more : Premises) (clock : ℕ) (editions : List Edition) (edition : Edition)
    → IsMore less more → IsStep less clock editions edition → IsStep more clock editions edition

pub record IsKept (site : Bases) (store : Store) : Type 0 where
  pub count : length store.desks ≡ most_authorities
  pub desks : (desk : ℕ) (device : Device Command) → slice_get store.desks desk ≡ Some device
      → IsDeviceKept (IsNextCommand desk) device
  pub press : IsDeviceKept (FollowsTheOthers (ground_of site store)) store.press

module _ (stay : Stay) (site : Bases) where
  next_then : (less more : Premises) → IsMore less more → (before : List Edition) (edition : Edition)
      → FollowsTheOthers less before edition → FollowsTheOthers more before edition
  next_then less more is_more before edition next = record {
    held = next.held;
    clock = next.clock;
    step = stay less more next.clock before edition is_more next.step;
    fits = subst (λ (site : Bases). press_bytes_for site (before ++ edition ∷ []) ≤ press_limit) (sym is_more.site) next.fits;
  }

  -- Over the desks of another store, which have no less.
  over_more : (store other : Store) → AreMore (lists_of store.desks) (lists_of other.desks) → other.vouched ≡ store.vouched
      → IsMore (ground_of site store) (ground_of site other)
  over_more store other more same = record {
    lists = more;
    site = refl;
    vouched = λ key digest bytes is. ap (λ (v : List Signature). are_vouched v key digest bytes) same ∙ is;
  }

  pub kept_signing : (store : Store) (signed : List Signature) → IsKept site store → IsKept site (signing store signed)
  kept_signing store signed kept = record {
    count = kept.count;
    desks = kept.desks;
    press = device_weaker (FollowsTheOthers (ground_of site store)) (FollowsTheOthers (ground_of site (signing store signed)))
        (next_then (ground_of site store) (ground_of site (signing store signed))
        (record { lists = more_same (lists_of store.desks); site = refl; vouched = vouches_more store.vouched signed }))
        store.press kept.press;
  }

  -- One desk is changed, whose list doesn't get shorter.
  kept_changed : (store : Store) (desk : ℕ) (f : Device Command → Device Command) → IsKept site store
      → ((d : Device Command) → Begins d.list (f d).list)
      → ((d : Device Command) → slice_get store.desks desk ≡ Some d → IsDeviceKept (IsNextCommand desk) (f d))
      → IsKept site (record store { desks = changed_at desk f store.desks })
  kept_changed store desk f kept longer each =
      let other : Store = record store { desks = changed_at desk f store.desks } in
      record {
        count = count_changed desk f store.desks ∙ kept.count;
        desks = λ m y there. ⊎_elim
            (λ (old : slice_get store.desks m ≡ Some y). kept.desks m y old)
            (λ (new : (m ≡ desk) × (x : Device Command) × (slice_get store.desks desk ≡ Some x) × (f x ≡ y)).
            subst (λ (n : ℕ). IsDeviceKept (IsNextCommand n) y) (sym new.0)
            (subst (λ (d : Device Command). IsDeviceKept (IsNextCommand desk) d) new.3 (each new.1 new.2)))
            (at_changed desk f store.desks m y there);
        press = device_weaker (FollowsTheOthers (ground_of site store)) (FollowsTheOthers (ground_of site other))
            (next_then (ground_of site store) (ground_of site other)
            (over_more store other (more_changed f longer desk store.desks) refl))
            store.press kept.press;
      }

  kept_after : (store : Store) (e : Event) → IsKept site store → IsAllowed site store e → IsKept site (after store e)
  kept_after store (Commit desk command) kept may =
      kept_changed store desk (with_one command) kept (λ d. (command ∷ [], refl))
      (λ d there.
      let same = same_one may.device d (sym may.there ∙ there) in
      subst (λ (x : Device Command). IsDeviceKept (IsNextCommand desk) (with_one command x)) same
      (device_with (IsNextCommand desk) may.device command (kept.desks desk may.device may.there) may.is_open may.next))
  kept_after store (DeskFault desk command) kept may =
      kept_changed store desk (failed command) kept (λ d. begins_same d.list)
      (λ d there.
      let same = same_one may.device d (sym may.there ∙ there) in
      subst (λ (x : Device Command). IsDeviceKept (IsNextCommand desk) (failed command x)) same
      (device_failed (IsNextCommand desk) may.device command (kept.desks desk may.device may.there) may.next))
  kept_after store (Publish edition) kept may = record {
    count = kept.count;
    desks = kept.desks;
    press = device_with (FollowsTheOthers (ground_of site store)) store.press edition kept.press may.is_open may.next;
  }
  kept_after store (PressFault edition) kept may = record {
    count = kept.count;
    desks = kept.desks;
    press = device_failed (FollowsTheOthers (ground_of site store)) store.press edition kept.press may.next;
  }
  kept_after store (Stop doubts doubt) kept may =
      let next : Store = after store (Stop doubts doubt) in
      let lists = lists_stopped 0 doubts store.desks in
      record {
        count = count_stopped 0 doubts store.desks ∙ kept.count;
        desks = λ m y there.
            let at = at_stopped 0 doubts store.desks m y there in
            let here : 0 + m ≡ m = omega arith in
            subst (λ (d : Device Command). IsDeviceKept (IsNextCommand m) d) at.2
            (device_stopped (IsNextCommand m) at.0 (for_desk doubts (0 + m)) (kept.desks m at.0 at.1)
            (subst (λ (k : ℕ). IfSome (for_desk doubts k) (IsNextCommand m at.0.list)) (sym here)
            (weaker (for_desk doubts m) (CanBeWritten site store m) (IsNextCommand m at.0.list)
            (λ c come. subst (λ (d : Device Command). IsNextCommand m d.list c) (same_one come.device at.0 (sym come.there ∙ at.1)) come.next)
            (may.desks m))));
        press = device_weaker (FollowsTheOthers (ground_of site store)) (FollowsTheOthers (ground_of site next))
            (next_then (ground_of site store) (ground_of site next)
            (over_more store next (subst (AreMore (lists_of store.desks)) (sym lists) (more_same (lists_of store.desks))) refl))
            (stopped doubt store.press)
            (device_stopped (FollowsTheOthers (ground_of site store)) store.press doubt kept.press
            (weaker doubt (MayBePublished site store) (FollowsTheOthers (ground_of site store) store.press.list) (λ e come. come.next) may.press));
      }
  kept_after store (Reopen lists editions) kept may =
      let next : Store = after store (Reopen lists editions) in
      record {
        count = count_opened lists ∙ (count_found store.desks lists may.desks ∙ kept.count);
        desks = λ m y there.
            let at = at_opened store.desks lists may.desks m y there in
            subst (λ (d : Device Command). IsDeviceKept (IsNextCommand m) d) at.4
            (device_opened (IsNextCommand m) at.0 at.1 (kept.desks m at.0 at.2) at.3);
        press = device_weaker (FollowsTheOthers (ground_of site store)) (FollowsTheOthers (ground_of site next))
            (next_then (ground_of site store) (ground_of site next)
            (over_more store next
            (subst (AreMore (lists_of store.desks)) (sym (lists_opened lists)) (all_found_more store.desks lists may.desks)) refl))
            (opened editions) (device_opened (FollowsTheOthers (ground_of site store)) store.press editions kept.press may.press);
      }

  pub kept_through : (store : Store) (history : History) → IsKept site store → AreAllowed site store history
      → IsKept site (after_all store history)
  kept_through store [] kept legal = kept
  kept_through store (h ∷ rest) kept legal =
      kept_through (after_one store h) rest (kept_after (signing store h.signed) h.event (kept_signing store h.signed kept) legal.0) legal.1

  pub new_kept : IsKept site new_store
  new_kept = record {
    count = length-replicate most_authorities (opened {X = Command} []);
    desks = λ m d there. subst (λ (x : Device Command). IsDeviceKept (IsNextCommand m) x) (at_first most_authorities m d there) (device_new (IsNextCommand m));
    press = device_new (FollowsTheOthers (ground_of site new_store));
  }
