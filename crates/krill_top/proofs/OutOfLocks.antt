-- What comes out of the locks: in which states the desks are, and what devices failed in this run where they
-- are blamed.
use Rattle.std.proofs.Common.{◌≡◌, ◌+◌, ◌≤◌, ℕ, zero, suc, Bool, List, [], ◌∷◌, ◌++◌, map, length, get_or, refl, sym, ap, ◌∙◌, subst, arith, inl, inr}
use Rattle.std.specs.Prelude.{⊤, ◌⊎◌, Option, None, Some, Result, Ok, Err, IfErr, IfSome, slice_get}
use Rattle.std.specs.Option.{option_map}
use Rattle.std.proofs.lemmas.Option.{same_Some, slice_get_within, get_or_from_slice_get}
use Rattle.disk_api.specs.declared.disk.Disk.{Ghosts as DiskGhosts}
use Rattle.outlet_api.specs.declared.outlet.Outlet.{Ghosts as OutletGhosts}
use Rattle.outlet_api.specs.declared.outlet.OutletStop.TheVariants as stop
use Rattle.outlet_api.specs.declared.exports.ExportFault.{ExportFault}
use Rattle.outlet_api.specs.declared.exports.ExportFault.TheVariants as export
use Rattle.authority_book.specs.declared.commands.Command.{Command}
use Rattle.cmd_codec.specs.Spelling.{spelling}
use Rattle.desk_core.specs.View.{View}
use Rattle.gate_journal.specs.Format.{held_by}
use Rattle.histories.specs.Legal.{bytes_for, most_bytes}
use Rattle.desk_core.specs.Commands.{Records, HasCommands}
use Rattle.desk_core.specs.Counted.{CountedView}
use Rattle.signer_api.specs.State.{SignerState}
use Rattle.notice_board.specs.declared.shown.ShownEdition.{ShownEdition}
use Rattle.editions.specs.Edition.{Edition}
use Rattle.press_records.specs.Store.{Store}
use Rattle.press_core.specs.JournalRecords.{store_for}
use Rattle.manager.specs.Closing.{FindsBehind, FindsInDoubt, doubted_edition}
use Rattle.manager.specs.Ended.{AreLeftDesks, IsLeftDesk}
use Rattle.manager.specs.Ends.{AreEnds}
use Rattle.manager.specs.Found.{AreFound}
use Rattle.manager.specs.Limits.{AreWithinLimit, IsWithinLimit}
use Rattle.manager.specs.Lists.{IsNextEntry}
use Rattle.manager.specs.Locked.{all_of}
use Rattle.manager.specs.Named.{Named}
use Rattle.manager.specs.Passes.{PassValue}
use Rattle.manager.specs.Ready.{desk_in, faults_in}
use Rattle.manager.specs.Risen.{AreRisenDesks, IsExportRise, IsRise, IsRisen}
use Rattle.manager.specs.Sharing.{AreShared}
use Rattle.krill_top.specs.DeskStates.{DeskState, DeskStates, commands_at}
use Rattle.krill_top.specs.DesksInStates.{AreIn, InAt, IsIn, RoseWithin}
use Rattle.krill_top.specs.Exports.{stop_of}
use Rattle.krill_top.specs.Histories.{and_doubt, desk_doubt}
use Rattle.krill_top.specs.PressDisk.{Holds}

-- ---- the states of the desks

-- the command in doubt, if one is
abbrev pub doubt_in : {D : Type 0} (desk : View D) (doubt : Option (List ℕ)) → IfSome doubt (IsNextEntry desk) → Option Command
doubt_in desk None is = None
doubt_in desk (Some entry) is = Some is.command

abbrev pub state_of_desk : {D : Type 0} (signers : ℕ) (desk : View D) → IsLeftDesk signers desk → DeskState
state_of_desk signers desk is = record { commands = is.listed.commands; doubt = doubt_in desk desk.doubt is.doubted.doubt }

abbrev pub states_of : {D : Type 0} (signers : ℕ) (desks : List (View D)) → AreLeftDesks signers desks → DeskStates
states_of signers [] are = []
states_of signers (desk ∷ desks) are = state_of_desk signers desk are.0 ∷ states_of signers desks are.1

doubt_spelled : {D : Type 0} (desk : View D) (doubt : Option (List ℕ)) (is : IfSome doubt (IsNextEntry desk)) → doubt ≡ option_map spelling (doubt_in desk doubt is)
doubt_spelled desk None is = refl
doubt_spelled desk (Some entry) is = ap Some is.spelled

none_in : {D : Type 0} (desk : View D) (doubt : Option (List ℕ)) (is : IfSome doubt (IsNextEntry desk)) → doubt ≡ None → doubt_in desk doubt is ≡ None
none_in desk None is none = refl
none_in desk (Some entry) is none = absurd (cc)

none_of : {D : Type 0} (desk : View D) (doubt : Option (List ℕ)) (is : IfSome doubt (IsNextEntry desk)) → doubt_in desk doubt is ≡ None → doubt ≡ None
none_of desk None is none = refl
none_of desk (Some entry) is none = absurd (cc)

next_in : {D : Type 0} (number : ℕ) (desk : View D) (commands : List Command) → desk.number ≡ number → HasCommands desk commands → (doubt : Option (List ℕ)) (is : IfSome doubt (IsNextEntry desk))
    → IfSome (doubt_in desk doubt is) (λ command. Records number (map spelling (commands ++ command ∷ [])) (commands ++ command ∷ []))
next_in number desk commands number_is has None is = tt
next_in number desk commands number_is has (Some entry) is =
    let records : Records desk.number (desk.records ++ entry ∷ []) (commands ++ is.command ∷ []) = is.next commands has in
    subst (λ (n : ℕ). Records n (map spelling (commands ++ is.command ∷ [])) (commands ++ is.command ∷ [])) number_is
    (subst (λ (l : List (List ℕ)). Records desk.number l (commands ++ is.command ∷ [])) records.spelled records)

left_in : {D : Type 0} (number signers : ℕ) (desk : View D) (is : IsLeftDesk signers desk) → desk.number ≡ number → IsIn number desk (state_of_desk signers desk is)
left_in number signers desk is number_is = record {
  number_is = number_is;
  commands = is.listed.has;
  doubt = doubt_spelled desk desk.doubt is.doubted.doubt;
  shut = (
    λ none. none_in desk desk.doubt is.doubted.doubt (is.doubted.shut.0 none),
    λ none. is.doubted.shut.1 (none_of desk desk.doubt is.doubted.doubt none),
  );
  next = next_in number desk is.listed.commands number_is is.listed.has desk.doubt is.doubted.doubt;
}

left_at : {D : Type 0} (signers : ℕ) (desks : List (View D)) (are : AreLeftDesks signers desks) (n at : ℕ) → ((desk : View D) → slice_get desks n ≡ Some desk → desk.number ≡ at)
    → InAt at (slice_get desks n) (slice_get (states_of signers desks are) n)
left_at signers [] are n at numbered = tt
left_at signers (desk ∷ desks) are zero at numbered = left_in at signers desk are.0 (numbered desk refl)
left_at signers (desk ∷ desks) are (suc n) at numbered = left_at signers desks are.1 n at numbered

-- ---- their counts of faults

-- A desk's disk failed behind the lock where a command is in doubt; its count of faults never falls.
pub record HasCounted {D : Type 0} (disk_of : DiskGhosts D) (old new : D) (doubt : Option (List ℕ)) : Type 0 where
  pub cause : ¬ (doubt ≡ None) → RoseWithin (disk_of.fault_count old) (disk_of.fault_count new)
  pub later : disk_of.fault_count old ≤ disk_of.fault_count new

abbrev pub HasCountedAt : {D : Type 0} → DiskGhosts D → Option (View D) → Option (View D) → Type 0
HasCountedAt disk_of None None = ⊤
HasCountedAt disk_of (Some was) (Some is) = HasCounted disk_of was.disk is.disk is.doubt
HasCountedAt disk_of was is = ⊥

rose_within : (first now : ℕ) (rose : ℕ × ℕ) → IsRise first now rose → RoseWithin first now
rose_within first now rose is = record { from = rose.0; to = rose.1; begins = is.since; risen = is.risen; ends = is.up_to }

rose_shut : (first now : ℕ) (shut : Option (ℕ × ℕ)) → IfSome shut (IsRise first now) → ¬ (shut ≡ None) → RoseWithin first now
rose_shut first now None is some = absurd (some refl)
rose_shut first now (Some rose) is some = rose_within first now rose is

module _ {D : Type 0} (disk_of : DiskGhosts D) where
  counted_as : (first : ℕ) (old new : D) (shut : Option (ℕ × ℕ)) (doubt : Option (List ℕ)) → IsRisen disk_of first new shut → (shut ≡ None → doubt ≡ None) → first ≡ disk_of.fault_count old → HasCounted disk_of old new doubt
  counted_as first old new shut doubt is settled same = record {
    cause = λ some. subst (λ (n : ℕ). RoseWithin n (disk_of.fault_count new)) same (rose_shut first (disk_of.fault_count new) shut is.shut (λ none. some (settled none)));
    later = subst (λ (n : ℕ). n ≤ disk_of.fault_count new) same is.later;
  }

  fault_at : (opened : List (CountedView D)) (n : ℕ) (one : CountedView D) → slice_get opened n ≡ Some one → get_or (map (faults_in disk_of) opened) n 0 ≡ disk_of.fault_count one.desk.disk
  fault_at [] n one there = absurd (cc)
  fault_at (first ∷ opened) zero one there = ap (λ (c : CountedView D). disk_of.fault_count c.desk.disk) (same_Some first one there)
  fault_at (first ∷ opened) (suc n) one there = fault_at opened n one there

  counted_at : (named : Named) (signers : ℕ) (opened : List (CountedView D)) (desks : List (View D)) → length opened ≡ length desks → AreRisenDesks disk_of named desks → AreLeftDesks signers desks
      → ((n : ℕ) (desk : View D) (one : CountedView D) → slice_get desks n ≡ Some desk → slice_get opened n ≡ Some one → get_or named.faults.desks desk.number 0 ≡ disk_of.fault_count one.desk.disk)
      → (n : ℕ) → HasCountedAt disk_of (slice_get (map desk_in opened) n) (slice_get desks n)
  counted_at named signers [] [] long risen left counts n = tt
  counted_at named signers [] (desk ∷ desks) long risen left counts n = absurd (omega (arith, long))
  counted_at named signers (one ∷ opened) [] long risen left counts n = absurd (omega (arith, long))
  counted_at named signers (one ∷ opened) (desk ∷ desks) long risen left counts zero =
      counted_as (get_or named.faults.desks desk.number 0) one.desk.disk desk.disk desk.shut desk.doubt risen.0 left.0.doubted.shut.0 (counts 0 desk one refl refl)
  counted_at named signers (one ∷ opened) (desk ∷ desks) long risen left counts (suc n) =
      counted_at named signers opened desks (omega (arith, long)) risen.1 left.1 (λ k d o is there. counts (suc k) d o is there) n

-- ---- room in their journals

next_fits : {D : Type 0} (desk : View D) (commands : List Command) → HasCommands desk commands → (doubt : Option (List ℕ)) (is : IfSome doubt (IsNextEntry desk))
    → IfSome (doubt_in desk doubt is) (λ command. bytes_for (commands ++ command ∷ []) ≤ most_bytes)
next_fits desk commands has None is = tt
next_fits desk commands has (Some entry) is = subst (λ (r : List (List ℕ)). held_by r ≤ most_bytes) (is.next commands has).spelled is.fits

room_by : (was commands : List Command) (doubt : Option Command) → (map spelling commands ≡ map spelling was) ⊎ (bytes_for commands ≤ most_bytes)
    → IfSome doubt (λ command. bytes_for (commands ++ command ∷ []) ≤ most_bytes) → bytes_for was ≤ most_bytes → bytes_for (and_doubt commands doubt) ≤ most_bytes
room_by was commands None (inl same) next small = subst (λ (r : List (List ℕ)). held_by r ≤ most_bytes) (sym same) small
room_by was commands None (inr fits) next small = fits
room_by was commands (Some command) fits next small = next

within_so : {D : Type 0} (named : Named) (signers : ℕ) (desk : View D) (left : IsLeftDesk signers desk) (was : List Command) → IsWithinLimit named desk → get_or named.records desk.number [] ≡ map spelling was
    → (map spelling left.listed.commands ≡ map spelling was) ⊎ (bytes_for left.listed.commands ≤ most_bytes)
within_so named signers desk left was (inl same) found = inl (sym left.listed.has.recorded.spelled ∙ (same ∙ found))
within_so named signers desk left was (inr fits) found = inr (subst (λ (r : List (List ℕ)). held_by r ≤ most_bytes) left.listed.has.recorded.spelled fits)

desk_room : {D : Type 0} (named : Named) (signers : ℕ) (desks : List (View D)) (left : AreLeftDesks signers desks) → AreWithinLimit named desks → (n : ℕ) (was : List Command)
    → ((d : View D) → slice_get desks n ≡ Some d → get_or named.records d.number [] ≡ map spelling was) → bytes_for was ≤ most_bytes
    → bytes_for (and_doubt (commands_at (states_of signers desks left) n) (desk_doubt (states_of signers desks left) n)) ≤ most_bytes
desk_room named signers [] left limits n was found small = omega arith
desk_room named signers (desk ∷ desks) left limits zero was found small =
    room_by was left.0.listed.commands (doubt_in desk desk.doubt left.0.doubted.doubt) (within_so named signers desk left.0 was limits.0 (found desk refl))
    (next_fits desk left.0.listed.commands left.0.listed.has desk.doubt left.0.doubted.doubt) small
desk_room named signers (desk ∷ desks) left limits (suc n) was found small = desk_room named signers desks left.1 limits.1 n was found small

-- ---- the press's disk, and the outlet

holds_so : (store : Store) (editions : List Edition) (doubt : Option Edition) (file : List ℕ) → FindsInDoubt store editions doubt file → Holds store editions doubt file
holds_so store editions None file finds = finds
holds_so store editions (Some edition) file finds = finds

blamed_so : {O : Type 0} (result : Result Bool (ExportFault O)) (first now : ℕ) → IfErr result (IsExportRise first now)
    → IfErr result (λ fault. stop_of fault ≡ stop.Fault → RoseWithin first now)
blamed_so (Ok told) first now is = tt
blamed_so (Err (export.OutletFault rose)) first now is = λ same. rose_within first now rose is
blamed_so (Err export.Memory) first now is = λ same. absurd (cc)

-- ---- all of it

-- In which states the desks are, for which their journals have room; that what is in doubt on the press's disk is what its journal has in doubt;
-- and that devices failed in this run where they are blamed.
pub record ComesOut {D O : Type 0} (disk_of : DiskGhosts D) (outlet_of : OutletGhosts O) (named : Named) (wases : List (View D)) (old_press : D) (old_outlet : O) (viewed : List ShownEdition)
    (desks : List (View D)) (disk : D) (ring : List SignerState) (outlet : O) (repeated : Result Bool (ExportFault O))
    (ends : AreEnds disk_of outlet_of named viewed desks disk ring outlet repeated) : Type 0 where
  pub states : DeskStates
  pub are : AreIn desks states
  pub counted : (number : ℕ) → HasCountedAt disk_of (slice_get wases number) (slice_get desks number)
  pub fits : (number : ℕ) (was : List Command) → ((d : View D) → slice_get desks number ≡ Some d → get_or named.records d.number [] ≡ map spelling was) → bytes_for was ≤ most_bytes
      → bytes_for (and_doubt (commands_at states number) (desk_doubt states number)) ≤ most_bytes
  pub press : HasCounted disk_of old_press disk ends.locked.press.journal.doubt
  pub tied : (editions : List Edition) (found : AreFound named editions) (file : List ℕ) → FindsBehind outlet_of named ends.locked ends.closed.is file editions
      → Holds (store_for named.session named.site) (all_of editions ends.closed.is.run)
      (doubted_edition named editions ends.closed.is.lists ends.closed.is.run ends.closed.is.calls ends.locked.press.press.ring ends.locked.press.press.at ends.locked.press.journal.doubt
      (ends.closed.is.each editions found).doubt) file
  pub blamed : IfErr repeated (λ fault. stop_of fault ≡ stop.Fault → RoseWithin (outlet_of.fault_count old_outlet) (outlet_of.fault_count outlet))

module _ {D O : Type 0} (disk_of : DiskGhosts D) (outlet_of : OutletGhosts O) (named : Named) (opened : List (CountedView D)) (wases : List (View D)) (same_desks : map desk_in opened ≡ wases)
    (old_press : D) (old_outlet : O) (viewed : List ShownEdition) (desks : List (View D)) (disk : D) (ring : List SignerState) (outlet : O) (repeated : Result Bool (ExportFault O))
    (ends : AreEnds disk_of outlet_of named viewed desks disk ring outlet repeated) where
  numbered : (passes : List PassValue) → AreShared passes desks → (n : ℕ) (desk : View D) → slice_get desks n ≡ Some desk → desk.number ≡ n
  numbered passes shared n desk there =
      subst (λ (d : View D). d.number ≡ n) (get_or_from_slice_get desks n desk desk there) (shared.each n desk (slice_get_within desks n desk there)).number_is

  pub comes_out : named.faults.desks ≡ map (faults_in disk_of) opened → named.faults.press ≡ disk_of.fault_count old_press → named.faults.outlet ≡ outlet_of.fault_count old_outlet
      → (signers : ℕ) (passes : List PassValue) → AreShared passes desks → AreLeftDesks signers desks → AreRisenDesks disk_of named desks → AreWithinLimit named desks → length opened ≡ length desks
      → ComesOut disk_of outlet_of named wases old_press old_outlet viewed desks disk ring outlet repeated ends
  comes_out desk_faults press_fault outlet_fault signers passes shared left risen limits long = record {
    states = states_of signers desks left;
    are = λ n. left_at signers desks left n n (numbered passes shared n);
    counted = subst (λ (v : List (View D)). (n : ℕ) → HasCountedAt disk_of (slice_get v n) (slice_get desks n)) same_desks
        (counted_at disk_of named signers opened desks long risen left (λ n desk one is there.
        ap (λ (l : List ℕ). get_or l desk.number 0) desk_faults ∙ ap (λ (k : ℕ). get_or (map (faults_in disk_of) opened) k 0) (numbered passes shared n desk is) ∙ fault_at disk_of opened n one there));
    fits = desk_room named signers desks left limits;
    press = subst (λ (d : D). HasCounted disk_of old_press d ends.locked.press.journal.doubt) (sym ends.disk_is)
        (counted_as disk_of named.faults.press old_press ends.locked.press.journal.disk ends.locked.press.journal.shut ends.locked.press.journal.doubt ends.faults.disk
        (ends.closed.is.each ends.closed.is.editions ends.closed.is.found).settled press_fault);
    tied = λ editions found file finds. holds_so (store_for named.session named.site) (all_of editions ends.closed.is.run)
        (doubted_edition named editions ends.closed.is.lists ends.closed.is.run ends.closed.is.calls ends.locked.press.press.ring ends.locked.press.press.at ends.locked.press.journal.doubt
        (ends.closed.is.each editions found).doubt) file (finds found);
    blamed = subst (λ (n : ℕ). IfErr repeated (λ fault. stop_of fault ≡ stop.Fault → RoseWithin n (outlet_of.fault_count outlet))) outlet_fault
        (blamed_so repeated named.faults.outlet (outlet_of.fault_count outlet) ends.cause);
  }
