-- A command is given to a desk, and the history goes on.
use Rattle.std.proofs.Common.{◌≡◌, ℕ, ◌+◌, ◌≤◌, refl, sym, subst, ◌∙◌, ap, arith, false, List, [], ◌∷◌, ◌++◌, length, map, Some, None, append-nil}
use Rattle.std.specs.Prelude.{Option, IfSome, slice_get, slice_set}
use Rattle.std.specs.List.{All}
use Rattle.std.specs.Option.{option_map}
use Rattle.std.proofs.lemmas.Bool.{false≢true}
use Rattle.std.proofs.lemmas.Option.{none-some}
use Rattle.std.proofs.lemmas.List.Elements.{All-head, All-tail, All-push}
use Rattle.disk_api.specs.declared.memory.MemoryDisk.{MemoryDisk}
use Rattle.disk_api.specs.declared.disk.Disk.{Ghosts as DiskGhosts}
use Rattle.authority_book.specs.declared.commands.Command.{Command}
use Rattle.authority_book.specs.Settings.{Settings}
use Rattle.authority_book.specs.Verdict.{IsAccepted}
use Rattle.authority_book.specs.Fold.{fold_of, after as settings_after, after_all as settings_after_all, empty_settings, AcceptedInTurn, Taken}
use Rattle.cmd_codec.specs.Spelling.{spelling, IsRecordable}
use Rattle.gate_journal.specs.Format.{held_by, taken_by}
use Rattle.desk_core.specs.View.{View, journal_limit}
use Rattle.desk_core.specs.Commands.{Records, HasCommands}
use Rattle.desk_core.specs.Answers.{CanCommit, IsFaultAnswer, DeskRise, needed_for}
use Rattle.editions.specs.Step.{BeginsWith}
use Rattle.press_core.specs.Stored.{StoredValue}
use Rattle.histories.specs.Devices.{Device, Signature, Store, with_one, failed, changed_at}
use Rattle.histories.specs.Events.{Event, after, signing}
use Rattle.histories.specs.Events.Event.{Commit, DeskFault}
use Rattle.histories.specs.Legal.{IsNextCommand, IsAllowed, CanBeWritten, ground_of}
use Rattle.histories.specs.Worked.{happens}
use Rattle.test_histories.specs.declared.done.Done.{Done}
use Rattle.test_histories.specs.declared.done.Done.TheVariants as told
use Rattle.test_histories.specs.Told.{IsTold}
use Rattle.test_histories.specs.Standing.{IsDesk, store_of, IsAt}
use Rattle.editions.specs.laws.GrantedLaws.{granted_accepted}
use Rattle.test_histories.proofs.More.{MoreStands, left_then, legal_then, told_then, same_begins}
use Rattle.test_histories.proofs.Places.{HasJournal, desk_at, put_desk, changed_long, more_lists}
use Rattle.test_histories.proofs.PressAt.{press_more}

-- ---- the next command

taken_more : (commands : List Command) (command : Command)
    → taken_by (map length (map spelling (commands ++ command ∷ []))) ≡ taken_by (map length (map spelling commands)) + (length (spelling command) + 9)
taken_more [] command = omega arith
taken_more (first ∷ commands) command = let rest = taken_more commands command in omega (arith, rest)

last_held : (P : Command → Type 0) (commands : List Command) (command : Command) → All P (commands ++ command ∷ []) → P command
last_held P [] command all = All-head P command [] all
last_held P (first ∷ commands) command all = last_held P commands command (All-tail P first (commands ++ command ∷ []) all)

last_accepted : (settings : Settings) (commands : List Command) (command : Command) → AcceptedInTurn settings (commands ++ command ∷ [])
    → IsAccepted (settings_after_all settings commands) command
last_accepted settings [] command turns = turns.0
last_accepted settings (first ∷ commands) command turns = last_accepted (settings_after settings first) commands command turns.1

in_turn_push : (settings : Settings) (commands : List Command) (command : Command) → AcceptedInTurn settings commands
    → IsAccepted (settings_after_all settings commands) command → AcceptedInTurn settings (commands ++ command ∷ [])
in_turn_push settings [] command all is = (is, tt)
in_turn_push settings (first ∷ rest) command all is = (all.0, in_turn_push (settings_after settings first) rest command all.1 is)

abbrev RecordsWith : ℕ → List Command → Command → Type 0
RecordsWith number list command = Records number (map spelling (list ++ command ∷ [])) (list ++ command ∷ [])

next_command : (number : ℕ) (list : List Command) (command : Command) → RecordsWith number list command
    → held_by (map spelling list) + needed_for command ≤ journal_limit → IsNextCommand number list command
next_command number list command records fits =
    let more = taken_more list command in
    record {
      held = last_held IsRecordable list command records.recordable;
      accepted = last_accepted (empty_settings number) list command records.taken;
      fits = omega (arith, more, fits);
    }

-- ---- the desk

module _ (number : ℕ) (old : View MemoryDisk) (device : Device Command) (is : IsDesk number old device) (signers : ℕ) where
  fits_in : (command : Command) → CanCommit old command signers → held_by (map spelling device.list) + needed_for command ≤ journal_limit
  fits_in command place =
      subst (λ (r : List (List ℕ)). held_by r + needed_for command ≤ journal_limit) is.commands.recorded.spelled place.fits

  pub is_open : (command : Command) → CanCommit old command signers → device.shut ≡ false
  is_open command place = is.opens place.may_come.is_open

  none_doubted : (command : Command) → CanCommit old command signers → device.doubt ≡ None
  none_doubted command place = is.settled (is_open command place)

  module _ (new : View MemoryDisk) (command : Command) (place : CanCommit old command signers)
      (commands : (commands : List Command) → HasCommands old commands → HasCommands new (commands ++ command ∷ []))
      (stays_open : (new.shut ≡ None) × (new.doubt ≡ None)) (same : new.number ≡ old.number) where
    has : HasCommands new (device.list ++ command ∷ [])
    has = commands device.list is.commands

    records : RecordsWith number device.list command
    records = record {
      spelled = refl;
      recordable = has.recorded.recordable;
      taken = subst (λ (n : ℕ). Taken n (device.list ++ command ∷ [])) (same ∙ is.number_is) has.recorded.taken;
    }

    pub accepted_next : IsNextCommand number device.list command
    accepted_next = next_command number device.list command records (fits_in command place)

    abbrev Next : Option Command → Type 0
    Next doubt = IfSome doubt (λ other. Records number (map spelling ((device.list ++ command ∷ []) ++ other ∷ [])) ((device.list ++ command ∷ []) ++ other ∷ []))

    pub accepted_desk : IsDesk number new (with_one command device)
    accepted_desk = record {
      number_is = same ∙ is.number_is;
      commands = has;
      opens = λ none. is_open command place;
      settled = is.settled;
      doubted = stays_open.1 ∙ sym (ap (option_map spelling) (none_doubted command place));
      next = subst Next (sym (none_doubted command place)) tt;
    }

  module _ (disk_of : DiskGhosts MemoryDisk) (rose : DeskRise) (new : View MemoryDisk) (command : Command)
      (fault : IsFaultAnswer disk_of rose command signers old new) where
    doubt_records : RecordsWith number device.list command
    doubt_records =
        let settings : old.settings ≡ fold_of number device.list = is.commands.fold ∙ ap (λ (n : ℕ). fold_of n device.list) is.number_is in
        let was = is.commands.recorded in
        record {
          spelled = refl;
          recordable = All-push IsRecordable device.list command was.recordable fault.recordable;
          taken = in_turn_push (empty_settings number) device.list command
              (subst (λ (n : ℕ). Taken n device.list) is.number_is was.taken)
              (subst (λ (s : Settings). IsAccepted s command) settings (granted_accepted old.settings command signers fault.place.may_come.verdict));
        }

    pub failed_next : IsNextCommand number device.list command
    failed_next = next_command number device.list command doubt_records (fits_in command fault.place)

    pub failed_desk : IsDesk number new (failed command device)
    failed_desk = record {
      number_is = ap (λ (d : View MemoryDisk). d.number) fault.same ∙ is.number_is;
      commands = subst (λ (d : View MemoryDisk). HasCommands d device.list) (sym fault.same)
          (record { recorded = is.commands.recorded; fold = is.commands.fold });
      opens = λ none. absurd (none-some rose.1 (sym none ∙ ap (λ (d : View MemoryDisk). d.shut) fault.same));
      settled = λ is_open. absurd (false≢true (sym is_open));
      doubted = ap (λ (d : View MemoryDisk). d.doubt) fault.same;
      next = doubt_records;
    }

-- ---- the store

module _ (law : MoreStands) (desks : List (View MemoryDisk)) (press : StoredValue MemoryDisk) (done : List Done) (at : IsAt desks press done)
    (place : ℕ) (desk : View MemoryDisk) (here : slice_get desks place ≡ Some desk) where
  abbrev before : Store
  before = store_of at.devices at.device at.vouched

  pub journal : HasJournal desk at.devices place place
  journal = desk_at 0 desks at.devices place place desk at.stand here (omega arith)

  pub may_be_written : (command : Command) → journal.device.shut ≡ false → IsNextCommand place journal.device.list command
      → CanBeWritten press.press.site (signing before []) place command
  may_be_written command is_open next = record {
    running = refl;
    device = journal.device;
    there = journal.there;
    is_open = is_open;
    next = next;
  }

  changed : (change : Device Command → Device Command) → ((d : Device Command) → BeginsWith d.list (change d).list)
      → (event : Event) (one : Done) → IsTold one (happens event ∷ []) → IsAllowed press.press.site (signing before []) event
      → after (signing before []) event ≡ store_of (changed_at place change at.devices) at.device (at.vouched ++ [])
      → (new : View MemoryDisk) → IsDesk place new (change journal.device) → IsAt (slice_set desks place new) press (done ++ one ∷ [])
  changed change grows event one told may leaves new stands =
      let devices = changed_at place change at.devices in
      record {
        history = at.history ++ happens event ∷ [];
        told = told_then done at.history one (happens event ∷ []) at.told told;
        legal = legal_then press.press.site at.history before at.left at.legal (happens event) may;
        devices = devices;
        device = at.device;
        vouched = at.vouched;
        left = left_then at.history before at.left (happens event)
            ∙ (leaves ∙ ap (λ (v : List Signature). store_of devices at.device v) (append-nil at.vouched));
        stand = put_desk 0 desks at.devices place place change new journal.device at.stand journal.there stands (omega arith);
        all = changed_long place change at.devices ∙ at.all;
        is_press = press_more law press at.device (ground_of press.press.site before)
            (ground_of press.press.site (store_of devices at.device at.vouched))
            (record { lists = more_lists place change at.devices grows; site = refl; vouched = λ key digest signature is. is }) at.is_press;
      }

  pub accepted : (signers : ℕ) (new : View MemoryDisk) (command : Command) → CanCommit desk command signers
      → ((commands : List Command) → HasCommands desk commands → HasCommands new (commands ++ command ∷ []))
      → (new.shut ≡ None) × (new.doubt ≡ None) → new.number ≡ desk.number
      → IsAt (slice_set desks place new) press (done ++ told.Accepted place command ∷ [])
  accepted signers new command can commands stays_open same =
      let device = journal.device in
      let is = journal.stands in
      let next = accepted_next place desk device is signers new command can commands stays_open same in
      changed (with_one command) (λ d. (command ∷ [], refl)) (Commit place command) (told.Accepted place command) refl
      (may_be_written command (is_open place desk device is signers command can) next) refl new
      (accepted_desk place desk device is signers new command can commands stays_open same)

  pub refused : (disk_of : DiskGhosts MemoryDisk) (rose : DeskRise) (signers : ℕ) (new : View MemoryDisk) (command : Command)
      → IsFaultAnswer disk_of rose command signers desk new
      → IsAt (slice_set desks place new) press (done ++ told.Failed place command ∷ [])
  refused disk_of rose signers new command fault =
      let device = journal.device in
      let is = journal.stands in
      let next = failed_next place desk device is signers disk_of rose new command fault in
      changed (failed command) (λ d. same_begins d.list) (DeskFault place command) (told.Failed place command) refl
      (may_be_written command (is_open place desk device is signers command fault.place) next) refl new
      (failed_desk place desk device is signers disk_of rose new command fault)
