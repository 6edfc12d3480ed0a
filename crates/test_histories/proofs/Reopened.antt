-- Everything stops, and the store is opened again.
use Rattle.std.proofs.Common.{◌≡◌, ℕ, suc, ◌+◌, refl, sym, subst, ◌∙◌, ap, arith, inl, inr, ⊎_elim, false, true, List, [], ◌∷◌, ◌++◌, length, map, replicate, Some, None, append-nil}
use Rattle.std.specs.Prelude.{Bool, Option, IfSome, Vec, if◌then◌else◌, ◌<◌, ◌≤◌, slice_index_or}
use Rattle.std.specs.List.{remove}
use Rattle.std.specs.declared.alloc.Global.{Global}
use Rattle.std.specs.Option.{option_map}
use Rattle.std.proofs.lemmas.Option.{none-some, same_Some}
use Rattle.std.proofs.lemmas.List.{length-append, map-append}
use Rattle.disk_api.specs.declared.memory.MemoryDisk.{MemoryDisk}
use Rattle.authority_book.specs.declared.commands.Command.{Command}
use Rattle.cmd_codec.specs.Spelling.{spelling}
use Rattle.gate_journal.specs.Format.{recovered}
use Rattle.gate_journal.specs.View.{RecoversTo as Recovers, RecoversToInDoubt}
use Rattle.desk_core.specs.View.{View, journal_limit}
use Rattle.desk_core.specs.Commands.{Records, HasCommands}
use Rattle.desk_core.specs.Images.{RecoversTo}
use Rattle.key_ids.specs.Uris.{Bases}
use Rattle.editions.specs.Edition.{Edition}
use Rattle.editions.specs.Step.{Premises, BeginsWith, AreMore, AreSteps, IsMore}
use Rattle.press_core.specs.Stands.{StandsFor}
use Rattle.press_core.specs.Stored.{StoredValue, store_of as owner_of}
use Rattle.histories.specs.Devices.{Device, Signature, Store, opened, stopped_from, lists_of}
use Rattle.histories.specs.Events.{Happening, after_one, signing}
use Rattle.histories.specs.Events.Event.{Stop, Reopen}
use Rattle.histories.specs.Legal.{IsFound, AreFound, IsLegal, MayBePublished, ground_of}
use Rattle.histories.specs.Found.{store_after}
use Rattle.histories.specs.Worked.{happens}
use Rattle.test_histories.specs.declared.done.Done.{Done}
use Rattle.test_histories.specs.declared.done.Done.TheVariants as told
use Rattle.test_histories.specs.Told.{lists_of as lists_told, IsTold, IsReopening}
use Rattle.test_histories.specs.Opened.{IsPressOpened}
use Rattle.test_histories.specs.Standing.{IsDesk, AreDesks, AreNew, IsOpenedAgain, AreOpenedAgain, MayStandFor, IsPress, store_of, IsAt}
use Rattle.test_histories.proofs.More.{MoreStands, left_then, legal_then, told_then, same_begins, same_are_more, still_vouched}
use Rattle.test_histories.proofs.PressAt.{OneStore, FindsInDoubt, finds_doubt, found_by, found_steps, may_stand_more, press_opened}
use Rattle.test_histories.proofs.Places.{lists_opened, opened_long, lists_long, more_long, new_stand}

abbrev pub Determined : Type 0
Determined = (number : ℕ) (records : List (List ℕ)) (one other : List Command)
    → Records number records one → Records number records other → one ≡ other

-- ---- what a crash leaves is found

pub image_found : (records : List (List ℕ)) (doubt : Option (List ℕ)) (image : List ℕ) (found : List (List ℕ))
    → RecoversTo records doubt image → found ≡ recovered image → IsFound records doubt found
image_found records None image found recovers same =
    let whole : Recovers journal_limit records image = recovers in
    inl (same ∙ whole.found)
image_found records (Some payload) image found recovers same = ⊎_elim
    (λ (whole : Recovers journal_limit records image). inl (same ∙ whole.found))
    (λ (whole : Recovers journal_limit (records ++ payload ∷ []) image). inr (payload, refl, same ∙ whole.found))
    recovers

pub again_more : (number : ℕ) (olds news : List (View MemoryDisk)) (lists : List (List Command)) (at : ℕ) (old new : View MemoryDisk) (list : List Command)
    → AreOpenedAgain number olds news lists → IsOpenedAgain at old new list → at ≡ number + length olds
    → AreOpenedAgain number (olds ++ old ∷ []) (news ++ new ∷ []) (lists ++ list ∷ [])
again_more number [] [] [] at old new list all is place = (subst (λ (n : ℕ). IsOpenedAgain n old new list) (omega (arith, place)) is, tt)
again_more number [] [] (l ∷ lists) at old new list all is place = absurd all
again_more number [] (n ∷ news) lists at old new list all is place = absurd all
again_more number (o ∷ olds) [] lists at old new list all is place = absurd all
again_more number (o ∷ olds) (n ∷ news) [] at old new list all is place = absurd all
again_more number (o ∷ olds) (n ∷ news) (l ∷ lists) at old new list all is place =
    (all.0, again_more (suc number) olds news lists at old new list all.1 is (omega (arith, place)))

-- All were opened again once as many were as there are.
pub none_left : (olds before closing : List (View MemoryDisk)) (number count : ℕ) → olds ≡ before ++ closing → length before ≡ number → length olds ≡ count
    → count ≤ number → before ≡ olds
none_left olds before [] number count is so_many all out = sym (is ∙ append-nil before)
none_left olds before (first ∷ closing) number count is so_many all out =
    let sum = ap length is ∙ length-append before (first ∷ closing) in
    absurd (omega (arith, sum, so_many, all, out))

-- ---- a desk

doubt_of : (doubt : Option Command) (payload : List ℕ) → option_map spelling doubt ≡ Some payload
    → (command : Command) × (doubt ≡ Some command) × (spelling command ≡ payload)
doubt_of None payload is = absurd (none-some payload is)
doubt_of (Some command) payload is = (command, refl, same_Some (spelling command) payload is)

kept_doubt : {X : Type 0} (shut : Bool) (doubt : Option X) → (shut ≡ false → doubt ≡ None) → (if shut then doubt else None) ≡ doubt
kept_doubt true doubt settled = refl
kept_doubt false doubt settled = sym (settled refl)

begins : (list found : List Command) (doubt : Option Command) → IsFound list doubt found → BeginsWith list found
begins list found doubt is = ⊎_elim
    (λ (same : found ≡ list). subst (BeginsWith list) (sym same) (same_begins list))
    (λ (more : (command : Command) × (doubt ≡ Some command) × (found ≡ list ++ command ∷ [])). (more.0 ∷ [], more.2))
    is

module _ (law : Determined) (number : ℕ) (old new : View MemoryDisk) (device : Device Command) (list : List Command)
    (is : IsDesk number old device) (again : IsOpenedAgain number old new list) where
  now : Records number new.records list
  now = subst (λ (n : ℕ). Records n new.records list) again.number_is again.commands.recorded

  was : Records number old.records device.list
  was = subst (λ (n : ℕ). Records n old.records device.list) is.number_is is.commands.recorded

  found_commands : IsFound device.list device.doubt list
  found_commands = ⊎_elim
      (λ (same : new.records ≡ old.records).
      inl (law number new.records list device.list now (subst (λ (r : List (List ℕ)). Records number r device.list) (sym same) was)))
      (λ (more : (payload : List ℕ) × (old.doubt ≡ Some payload) × (new.records ≡ old.records ++ payload ∷ [])).
      let doubted = doubt_of device.doubt more.0 (sym is.doubted ∙ more.1) in
      let command = doubted.0 in
      let whole = device.list ++ command ∷ [] in
      let next : Records number (map spelling whole) whole =
      subst (λ (o : Option Command). IfSome o (λ (c : Command). Records number (map spelling (device.list ++ c ∷ [])) (device.list ++ c ∷ []))) doubted.1 is.next in
      let all : new.records ≡ map spelling whole =
      more.2 ∙ (ap (λ (p : List ℕ). old.records ++ p ∷ []) (sym doubted.2)
      ∙ (ap (λ (r : List (List ℕ)). r ++ spelling command ∷ []) was.spelled
      ∙ sym (map-append spelling device.list (command ∷ [])))) in
      inr (command, doubted.1, law number new.records list whole now (subst (λ (r : List (List ℕ)). Records number r whole) (sym all) next)))
      again.found

  found_behind : IsFound device.list (if device.shut then device.doubt else None) list
  found_behind = subst (λ (o : Option Command). IsFound device.list o list) (sym (kept_doubt device.shut device.doubt is.settled)) found_commands

opened_desk : (number : ℕ) (old new : View MemoryDisk) (list : List Command) → IsOpenedAgain number old new list → IsDesk number new (opened list)
opened_desk number old new list again = record {
  number_is = again.number_is;
  commands = again.commands;
  opens = λ none. refl;
  settled = λ is_open. refl;
  doubted = again.settled;
  next = tt;
}

-- ---- all of them

pub stand_again : (number : ℕ) (olds news : List (View MemoryDisk)) (lists : List (List Command)) → AreOpenedAgain number olds news lists
    → AreDesks number news (map opened lists)
stand_again number [] [] [] again = tt
stand_again number [] [] (l ∷ lists) again = absurd again
stand_again number [] (n ∷ news) lists again = absurd again
stand_again number (o ∷ olds) [] lists again = absurd again
stand_again number (o ∷ olds) (n ∷ news) [] again = absurd again
stand_again number (o ∷ olds) (n ∷ news) (l ∷ lists) again = (opened_desk number o n l again.0, stand_again (suc number) olds news lists again.1)

module _ (law : Determined) where
  pub are_found : (number desk : ℕ) (olds news : List (View MemoryDisk)) (devices : List (Device Command)) (lists : List (List Command))
      → AreDesks number olds devices → AreOpenedAgain number olds news lists → AreFound (stopped_from desk [] devices) lists
  are_found number desk [] [] [] [] all again = tt
  are_found number desk [] [] [] (l ∷ lists) all again = absurd again
  are_found number desk [] (n ∷ news) [] lists all again = absurd again
  are_found number desk [] news (d ∷ devices) lists all again = absurd all
  are_found number desk (o ∷ olds) news [] lists all again = absurd all
  are_found number desk (o ∷ olds) [] (d ∷ devices) lists all again = absurd again
  are_found number desk (o ∷ olds) (n ∷ news) (d ∷ devices) [] all again = absurd again
  are_found number desk (o ∷ olds) (n ∷ news) (d ∷ devices) (l ∷ lists) all again =
      (found_behind law number o n d l all.0 again.0, are_found (suc number) (desk + 1) olds news devices lists all.1 again.1)

  pub more_again : (number : ℕ) (olds news : List (View MemoryDisk)) (devices : List (Device Command)) (lists : List (List Command))
      → AreDesks number olds devices → AreOpenedAgain number olds news lists → AreMore (lists_of devices) lists
  more_again number [] [] [] [] all again = tt
  more_again number [] [] [] (l ∷ lists) all again = absurd again
  more_again number [] (n ∷ news) [] lists all again = absurd again
  more_again number [] news (d ∷ devices) lists all again = absurd all
  more_again number (o ∷ olds) news [] lists all again = absurd all
  more_again number (o ∷ olds) [] (d ∷ devices) lists all again = absurd again
  more_again number (o ∷ olds) (n ∷ news) (d ∷ devices) [] all again = absurd again
  more_again number (o ∷ olds) (n ∷ news) (d ∷ devices) (l ∷ lists) all again =
      (begins d.list l d.doubt (found_commands law number o n d l all.0 again.0), more_again (suc number) olds news devices lists all.1 again.1)

-- ---- the store

module _ (law : Determined) (more_stands : MoreStands) (one_store : OneStore) (olds news : List (View MemoryDisk)) (press : StoredValue MemoryDisk)
    (done : List Done) (at : IsAt olds press done) (lists : List (List Command)) (again : AreOpenedAgain 0 olds news lists) where
  abbrev before : Store
  before = store_of at.devices at.device at.vouched

  abbrev devices : List (Device Command)
  devices = map opened lists

  grown : AreMore (lists_of at.devices) lists
  grown = more_again law 0 olds news at.devices lists at.stand again

  pub are_desks : AreDesks 0 news devices
  are_desks = stand_again 0 olds news lists again

  -- with this edition in doubt, or none
  module _ (signed : List Signature) (edition : Option Edition) (may : IfSome edition (MayBePublished press.press.site (signing before signed))) where
    abbrev pub stop : Happening
    stop = record { signed = signed; event = Stop [] edition }

    abbrev stopped_store : Store
    stopped_store = after_one before stop

    abbrev vouched : List Signature
    vouched = at.vouched ++ signed

    abbrev ground : Premises
    ground = ground_of press.press.site (signing before signed)

    abbrev doubt : Option Edition
    doubt = if at.device.shut then at.device.doubt else edition

    stop_left : store_after (at.history ++ stop ∷ []) ≡ stopped_store
    stop_left = left_then at.history before at.left stop

    stop_legal : IsLegal press.press.site (at.history ++ stop ∷ [])
    stop_legal = legal_then press.press.site at.history before at.left at.legal stop
        (record { running = refl; desks = λ desk. tt; press = may })

    module _ (one : Done) (is_told : IsTold one (stop ∷ [])) (file : List ℕ) (editions : List Edition) (new : StoredValue MemoryDisk)
        (finds : FindsInDoubt (owner_of press) at.device.list doubt file) (is_opened : IsPressOpened news file editions new)
        (same_site : new.press.site ≡ press.press.site)
        (next : IfSome doubt (λ e. MayStandFor ground (at.device.list ++ e ∷ []))) where
      abbrev reopen : Happening
      reopen = happens (Reopen lists editions)

      found : IsFound at.device.list doubt editions
      found = found_by one_store (owner_of press) at.device.list editions doubt news file new finds is_opened

      abbrev premises : Premises
      premises = ground_of new.press.site (store_of devices (opened editions) vouched)

      is_more : IsMore ground premises
      is_more = record {
        lists = subst (AreMore (lists_of at.devices)) (sym (lists_opened lists)) grown;
        site = same_site;
        vouched = λ key digest signature is. is;
      }

      was_more : IsMore (ground_of press.press.site before) ground
      was_more = record {
        lists = same_are_more (lists_of at.devices);
        site = refl;
        vouched = still_vouched at.vouched signed;
      }

      steps : AreSteps premises editions
      steps = found_steps premises at.device.list editions doubt found
          (more_stands ground premises at.device.list press.press.at is_more
          (more_stands (ground_of press.press.site before) ground at.device.list press.press.at was_more at.is_press.stands)).steps
          (may_stand_more more_stands ground premises at.device.list doubt is_more next)

      stands : StandsFor premises editions new.press.at
      stands = is_opened.stands premises devices are_desks refl steps

      pub opened_with : (serial : ℕ) (told_lists : Vec (Vec Command Global) Global) → lists_told told_lists ≡ lists → serial ≡ new.press.at.serial
          → IsAt news new ((done ++ one ∷ []) ++ told.Found told_lists serial ∷ [])
      opened_with serial told_lists same is_serial =
          let reopened : IsReopening lists serial (reopen ∷ []) =
          record { editions = editions; is = refl; last = sym stands.left.serial ∙ sym is_serial } in
          let legal = legal_then press.press.site (at.history ++ stop ∷ []) stopped_store stop_left stop_legal reopen
          (record { desks = are_found law 0 0 olds news at.devices lists at.stand again; press = found }) in
          record {
            history = (at.history ++ stop ∷ []) ++ reopen ∷ [];
            told = told_then (done ++ one ∷ []) (at.history ++ stop ∷ []) (told.Found told_lists serial) (reopen ∷ [])
                (told_then done at.history one (stop ∷ []) at.told is_told)
                (subst (λ (l : List (List Command)). IsReopening l serial (reopen ∷ [])) (sym same) reopened);
            legal = subst (λ (site : Bases). IsLegal site ((at.history ++ stop ∷ []) ++ reopen ∷ [])) (sym same_site) legal;
            devices = devices;
            device = opened editions;
            vouched = vouched;
            left = left_then (at.history ++ stop ∷ []) stopped_store stop_left reopen
                ∙ ap (λ (v : List Signature). store_of devices (opened editions) v) (append-nil vouched);
            stand = are_desks;
            all = opened_long lists ∙ (more_long (lists_of at.devices) lists grown ∙ (lists_long at.devices ∙ at.all));
            is_press = press_opened premises news file editions new is_opened stands;
          }

  -- Nothing was being written.
  pub found_again : (file : List ℕ) (editions : List Edition) (new : StoredValue MemoryDisk)
      → RecoversToInDoubt press.journal.limit press.journal.records press.journal.doubt file → IsPressOpened news file editions new
      → new.press.site ≡ press.press.site → (serial : ℕ) (told_lists : Vec (Vec Command Global) Global) → lists_told told_lists ≡ lists
      → serial ≡ new.press.at.serial → IsAt news new ((done ++ told.Stopped ∷ []) ++ told.Found told_lists serial ∷ [])
  found_again file editions new recovers is_opened same_site serial told_lists same is_serial =
      let list = at.device.list in
      let kept : (if at.device.shut then at.device.doubt else None) ≡ at.device.doubt = kept_doubt at.device.shut at.device.doubt at.is_press.settled in
      let more : IsMore (ground_of press.press.site before) (ground_of press.press.site (signing before [])) =
      record { lists = same_are_more (lists_of at.devices); site = refl; vouched = still_vouched at.vouched [] } in
      let next = may_stand_more more_stands (ground_of press.press.site before) (ground_of press.press.site (signing before [])) list at.device.doubt more at.is_press.next in
      let finds = finds_doubt press at.device (ground_of press.press.site before) file at.is_press recovers in
      opened_with [] None tt told.Stopped refl file editions new
      (subst (λ (o : Option Edition). FindsInDoubt (owner_of press) list o file) (sym kept) finds) is_opened same_site
      (subst (λ (o : Option Edition). IfSome o (λ e. MayStandFor (ground_of press.press.site (signing before [])) (list ++ e ∷ []))) (sym kept) next)
      serial told_lists same is_serial

-- ---- a new store

pub first_removed : {A : Type 0} (old new : List A) (x : A) → x ≡ slice_index_or old 0 x → new ≡ remove old 0 → 0 < length old → old ≡ x ∷ new
first_removed [] new x first rest some = absurd (omega (arith, some))
first_removed (y ∷ ys) new x first rest some = sym (ap (λ z. z ∷ new) first ∙ ap (λ (l : List _). y ∷ l) rest)

none_spelled : (commands : List Command) → [] ≡ map spelling commands → commands ≡ []
none_spelled [] same = refl
none_spelled (first ∷ commands) same = let long = ap length same in absurd (omega (arith, long))

pub new_desk : (number : ℕ) (desk : View MemoryDisk) (bytes : List ℕ) → bytes ≡ [] → desk.records ≡ recovered bytes
    → (commands : List Command) → HasCommands desk commands → desk.number ≡ number → desk.doubt ≡ None → IsDesk number desk (opened [])
new_desk number desk bytes none found commands has is_number settled =
    let empty : [] ≡ map spelling commands = sym (found ∙ ap recovered none) ∙ has.recorded.spelled in
    record {
      number_is = is_number;
      commands = subst (HasCommands desk) (none_spelled commands empty) has;
      opens = λ none. refl;
      settled = λ is_open. refl;
      doubted = settled;
      next = tt;
    }

no_steps : (ground : Premises) → AreSteps ground []
no_steps _ place edition there = absurd (none-some edition there)

pub new_at : (desks : List (View MemoryDisk)) (press : StoredValue MemoryDisk) (editions : List Edition) → AreNew 0 desks → length desks ≡ 64
    → IsPressOpened desks [] editions press → IsAt desks press []
new_at desks press editions new all is_opened =
    let devices : List (Device Command) = replicate 64 (opened []) in
    let stand : AreDesks 0 desks devices = subst (λ (n : ℕ). AreDesks 0 desks (replicate n (opened []))) all (new_stand 0 desks new) in
    let none : editions ≡ [] = is_opened.found in
    let premises : Premises = ground_of press.press.site (store_of devices (opened []) []) in
    let steps : AreSteps premises editions = subst (λ (es : List Edition). AreSteps premises es) (sym none) (no_steps premises) in
    record {
      history = [];
      told = refl;
      legal = tt;
      devices = devices;
      device = opened [];
      vouched = [];
      left = refl;
      stand = stand;
      all = refl;
      is_press = subst (λ (es : List Edition). IsPress press (opened es) premises) none
          (press_opened premises desks [] editions press is_opened (is_opened.stands premises devices stand refl steps));
    }

-- The desks have the journals of some history.
pub new_devices : (desks : List (View MemoryDisk)) → AreNew 0 desks → (devices : List (Device Command)) × AreDesks 0 desks devices
new_devices desks new = (replicate (length desks) (opened []), new_stand 0 desks new)
