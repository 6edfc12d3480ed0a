-- Desks that are opened one after another, and closed again.
use Rattle.std.proofs.Common.{◌≡◌, ℕ, suc, ◌+◌, ◌≤◌, ◌⊎◌, List, [], ◌∷◌, ◌++◌, length, sym, ◌∙◌, ap, subst, refl, arith}
use Rattle.std.specs.Prelude.{Option, None, Some, IfSome, map}
use Rattle.std.specs.Option.{option_map}
use Rattle.disk_api.specs.Content.{BothKnown}
use Rattle.gate_journal.specs.Format.{recovered, damaged_at, IsUnopened}
use Rattle.authority_book.specs.declared.commands.Command.{Command}
use Rattle.cmd_codec.specs.Spelling.{spelling}
use Rattle.desk_core.specs.View.{View, journal_limit}
use Rattle.desk_core.specs.Commands.{Records, HasCommands}
use Rattle.desk_core.specs.Images.{RecoversTo, RecoversToKnown}
use Rattle.host_calls.specs.Rise.{HasRisen}
use Rattle.disk_api.specs.Runs.{LeavesOnly}
use Rattle.disk_api.specs.declared.disk.Disk.{Ghosts as DiskGhosts}
use Rattle.desk_core.specs.Commands.{IsFirstBad}
use Rattle.desk_core.specs.declared.faults.DeskOpenFault.{DeskOpenFault}
use Rattle.desk_core.specs.declared.faults.DeskOpenFault.TheVariants.{Damaged, BadRecord, DiskFault, Memory}
use Rattle.krill_top.specs.RunDisks.{RecoveredTo, IsSafe, IsUntouchedDesk, AreUntouchedDesks, IsCause, RecoversAsBefore, StopsAt}
use Rattle.krill_top.specs.inner.Opened.{IsOpened, IsClosed, AreOpened, AreClosed, opening_fault_of}

module _ {D : Type 0} (disk_of : DiskGhosts D) where
  -- one desk more was opened
  pub opened_more : (number : ℕ) (disks : List D) (desks : List (View D)) (disk : D) (desk : View D) → AreOpened disk_of number disks desks
      → IsOpened disk_of (number + length disks) disk desk → AreOpened disk_of number (disks ++ disk ∷ []) (desks ++ desk ∷ [])
  opened_more number [] [] disk desk before is = (subst (λ (n : ℕ). IsOpened disk_of n disk desk) (omega arith) is, tt)
  opened_more number [] (d ∷ ds) disk desk before is = absurd before
  opened_more number (d ∷ ds) [] disk desk before is = absurd before
  opened_more number (d ∷ ds) (e ∷ es) disk desk before is =
      (before.0, opened_more (suc number) ds es disk desk before.1 (subst (λ (n : ℕ). IsOpened disk_of n disk desk) (omega arith) is))

  -- as many desks as disks were opened
  pub opened_length : (number : ℕ) (disks : List D) (desks : List (View D)) → AreOpened disk_of number disks desks → length desks ≡ length disks
  opened_length number [] [] all = refl
  opened_length number [] (d ∷ ds) all = absurd all
  opened_length number (d ∷ ds) [] all = absurd all
  opened_length number (d ∷ ds) (e ∷ es) all = ap suc (opened_length (suc number) ds es all.1)

  -- the last desk was closed, and put before those that were closed earlier
  pub closed_more : (desks : List (View D)) (disks : List D) (desk : View D) (disk : D) → IsClosed disk_of desk disk → AreClosed disk_of desks disks
      → AreClosed disk_of (desk ∷ desks) (disk ∷ disks)
  closed_more desks disks desk disk is all = (is, all)

  -- the disk stood for the commands of the desk that was opened from it
  stood_for : (known : Option (List ℕ)) (number : ℕ) (desk : View D) (commands : List Command) → desk.number ≡ number → HasCommands desk commands
      → IfSome known (λ bytes. desk.records ≡ recovered bytes) → IfSome known (λ bytes. damaged_at journal_limit bytes ≡ None) → RecoveredTo known number commands
  stood_for None number desk commands is has records whole = tt
  stood_for (Some bytes) number desk commands is has records whole = (
    whole,
    subst (λ (n : ℕ). Records n (recovered bytes) commands) is (subst (λ (r : List (List ℕ)). Records desk.number r commands) records has.recorded),
  )

  pub opened_stood_for : (number : ℕ) (disk : D) (desk : View D) (commands : List Command) → IsOpened disk_of number disk desk → HasCommands desk commands → RecoveredTo (disk_of.content disk) number commands
  opened_stood_for number disk desk commands is has = stood_for (disk_of.content disk) number desk commands is.number_is has is.records is.whole

  -- what a closed desk's disk holds, said of its commands
  pub closed_left : (desk : View D) (disk : D) (commands : List Command) (doubt : Option Command) → IsClosed disk_of desk disk
      → desk.records ≡ map spelling commands → desk.doubt ≡ option_map spelling doubt → IsSafe disk_of commands doubt disk
  closed_left desk disk commands doubt is records doubts = record {
    known = subst (λ (r : List (List ℕ)). IfSome (disk_of.content disk) (RecoversTo r (option_map spelling doubt))) records
        (subst (λ (d : Option (List ℕ)). IfSome (disk_of.content disk) (RecoversTo desk.records d)) doubts is.known);
    images = λ c left. subst (λ (r : List (List ℕ)). RecoversToKnown (disk_of.content disk) r (option_map spelling doubt) c) records
        (subst (λ (d : Option (List ℕ)). RecoversToKnown (disk_of.content disk) desk.records d c) doubts (is.images c left));
  }

  -- a desk that was opened and closed again kept its commands
  kept_one : (number : ℕ) (old : D) (desk : View D) (new : D) → IsOpened disk_of number old desk → IsClosed disk_of desk new → IsUntouchedDesk disk_of number old new
  kept_one number old desk new opened closed =
      let commands = opened.commands.0 in
      let has : HasCommands desk commands = opened.commands.1 in
      record {
        commands = commands;
        found = opened_stood_for number old desk commands opened has;
        left = closed_left desk new commands None closed has.recorded.spelled opened.settled;
        bytes = ap disk_of.content closed.same ∙ opened.bytes;
        later = subst (λ (d : D). disk_of.fault_count old ≤ disk_of.fault_count d) (sym closed.same) opened.later;
      }

  pub kept_all : (number : ℕ) (olds : List D) (desks : List (View D)) (news : List D) → AreOpened disk_of number olds desks → AreClosed disk_of desks news
      → AreUntouchedDesks disk_of number olds news
  kept_all number [] [] [] opened closed = tt
  kept_all number [] [] (n ∷ ns) opened closed = absurd closed
  kept_all number [] (d ∷ ds) news opened closed = absurd opened
  kept_all number (o ∷ os) [] news opened closed = absurd opened
  kept_all number (o ∷ os) (d ∷ ds) [] opened closed = absurd closed
  kept_all number (o ∷ os) (d ∷ ds) (n ∷ ns) opened closed =
      (kept_one number o d n opened.0 closed.0, kept_all (suc number) os ds ns opened.1 closed.1)

  -- why a disk wasn't opened, by what the desk says of it
  cause_of : (fault : DeskOpenFault) (number : ℕ) (old new : D)
      → ((at : ℕ) → fault ≡ Damaged at → (disk_of.content new ≡ disk_of.content old) × IfSome (disk_of.content old) (λ bytes. damaged_at journal_limit bytes ≡ Some at))
      → ((at : ℕ) → fault ≡ BadRecord at → IfSome (disk_of.content old) (λ bytes. (damaged_at journal_limit bytes ≡ None) × IsFirstBad number (recovered bytes) at))
      → (fault ≡ DiskFault → HasRisen (disk_of.fault_count old) (disk_of.fault_count new))
      → IsCause disk_of (opening_fault_of number fault) number old new
  cause_of (Damaged at) number old new damaged bad failed = let d = damaged at refl in (refl, d.0, d.1)
  cause_of (BadRecord at) number old new damaged bad failed = (refl, bad at refl)
  cause_of DiskFault number old new damaged bad failed = (refl, failed refl)
  cause_of Memory number old new damaged bad failed = tt

  -- what a refusal leaves of the disk
  as_before : (counts_now : (disk : D) (t : ℕ) (c : List ℕ) → t ≤ disk_of.moment disk → disk_of.may_leave disk c → disk_of.left_since disk t c)
      → (old new : D) → option_map recovered (disk_of.content new) ≡ option_map recovered (disk_of.content old) → BothKnown IsUnopened (disk_of.content old) (disk_of.content new)
      → LeavesOnly disk_of old new (λ c. disk_of.may_leave old c ⊎ IfSome (disk_of.content old) (λ bytes. RecoversTo (recovered bytes) None c))
      → disk_of.fault_count old ≤ disk_of.fault_count new → RecoversAsBefore disk_of old new
  as_before counts_now old new same bytes any later = record {
    records = same;
    bytes = bytes;
    images = λ c left. any.each c (counts_now new (disk_of.moment old) c any.later left);
    later = later;
  }

  -- opening stopped behind the desks that were opened, which were closed again
  pub stopped : (counts_now : (disk : D) (t : ℕ) (c : List ℕ) → t ≤ disk_of.moment disk → disk_of.may_leave disk c → disk_of.left_since disk t c)
      → (before : List D) (desks : List (View D)) (after : List D) (old new : D) (rest : List D) (fault : DeskOpenFault) (number : ℕ) (olds news : List D)
      → AreOpened disk_of 0 before desks → AreClosed disk_of desks after → length before ≡ number
      → olds ≡ before ++ old ∷ rest → news ≡ after ++ new ∷ rest
      → ((at : ℕ) → fault ≡ Damaged at → (disk_of.content new ≡ disk_of.content old) × IfSome (disk_of.content old) (λ bytes. damaged_at journal_limit bytes ≡ Some at))
      → ((at : ℕ) → fault ≡ BadRecord at → IfSome (disk_of.content old) (λ bytes. (damaged_at journal_limit bytes ≡ None) × IsFirstBad number (recovered bytes) at))
      → (fault ≡ DiskFault → HasRisen (disk_of.fault_count old) (disk_of.fault_count new))
      → option_map recovered (disk_of.content new) ≡ option_map recovered (disk_of.content old) → BothKnown IsUnopened (disk_of.content old) (disk_of.content new)
      → LeavesOnly disk_of old new (λ c. disk_of.may_leave old c ⊎ IfSome (disk_of.content old) (λ bytes. RecoversTo (recovered bytes) None c))
      → disk_of.fault_count old ≤ disk_of.fault_count new → StopsAt disk_of (opening_fault_of number fault) olds news
  stopped counts_now before desks after old new rest fault number olds news opened closed place handed_in handed_back damaged bad failed same bytes any later = record {
    before = before;
    old = old;
    rest = rest;
    after = after;
    new = new;
    handed_in = handed_in;
    handed_back = handed_back;
    opened = kept_all 0 before desks after opened closed;
    cause = subst (λ (n : ℕ). IsCause disk_of (opening_fault_of number fault) n old new) (sym place) (cause_of fault number old new damaged bad failed);
    stands = as_before counts_now old new same bytes any later;
  }
