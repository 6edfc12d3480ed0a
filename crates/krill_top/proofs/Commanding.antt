-- What a desk makes of a command, and what becomes of the desks.
use Rattle.std.proofs.Common.{◌≡◌, ℕ, ◌≤◌, ◌+◌, List, [], ◌∷◌, ◌++◌, length, map, refl, sym, ◌∙◌, ap, subst, arith, append-nil}
use Rattle.std.proofs.lemmas.Option.{none-some}
use Rattle.std.proofs.lemmas.List.{length-map}
use Rattle.std.proofs.lemmas.List.Elements.{All-push}
use Rattle.std.specs.Prelude.{Option, None, Some, Result, Ok, Err, slice_get, slice_set}
use Rattle.std.specs.Option.{option_map}
use Rattle.disk_api.specs.declared.disk.Disk.{Ghosts as DiskGhosts}
use Rattle.authority_book.specs.declared.commands.Command.{Command}
use Rattle.authority_book.specs.declared.refusals.Refusal.{Refusal}
use Rattle.authority_book.specs.Settings.{Settings}
use Rattle.authority_book.specs.Verdict.{IsAccepted, verdict_of}
use Rattle.authority_book.specs.Fold.{fold_of, after, after_all, empty_settings, AcceptedInTurn}
use Rattle.cmd_codec.specs.Spelling.{spelling, IsRecordable}
use Rattle.gate_journal.specs.Format.{held_by}
use Rattle.gate_journal.specs.Storing.{stored, entry_bytes}
use Rattle.desk_core.specs.View.{View, journal_limit}
use Rattle.desk_core.specs.Commands.{Records, HasCommands}
use Rattle.desk_core.specs.Answers.{CanCommit as HasDeskPlace, needed_for, IsDeskFault, IsFaultAnswer}
use Rattle.desk_core.specs.declared.faults.DeskFault.{DeskFault}
use Rattle.desk_core.specs.declared.faults.DeskFault.TheVariants.{Shut, Verdict, JournalFull, DiskFault, Memory}
use Rattle.krill_top.specs.DeskStates.{DeskStates, DeskState, desk_named}
use Rattle.krill_top.specs.Outcomes.{Outcome, CanBeAccepted, Does, CommandedAt, Commanded, command_fault_of, fault_outcome}
use Rattle.krill_top.specs.Outcomes.Outcome.{Accepted, NoSuchAuthority}
use Rattle.krill_top.specs.DesksInStates.{IsIn, AreIn, DeskGoesOn, Leads}
use Rattle.editions.specs.laws.GrantedLaws.{granted_accepted}
use Rattle.krill_top.proofs.Fitting.{desk_fits}
use Rattle.krill_top.proofs.Standing.{At, at_place, settings_in, in_set, one_stored, goes_same, go_on_set, stay}

-- commands that were accepted in turn, and one more
in_turn_push : (settings : Settings) (commands : List Command) (command : Command) → AcceptedInTurn settings commands → IsAccepted (after_all settings commands) command
    → AcceptedInTurn settings (commands ++ command ∷ [])
in_turn_push settings [] command all is = (is, tt)
in_turn_push settings (first ∷ rest) command all is = (all.0, in_turn_push (after settings first) rest command all.1 is)

recorded_push : (number : ℕ) (commands : List Command) (command : Command) → Records number (map spelling commands) commands → IsRecordable command → IsAccepted (fold_of number commands) command
    → Records number (map spelling (commands ++ command ∷ [])) (commands ++ command ∷ [])
recorded_push number commands command recorded recordable accepted = record {
  spelled = refl;
  recordable = All-push IsRecordable commands command recorded.recordable recordable;
  taken = in_turn_push (empty_settings number) commands command recorded.taken accepted;
}

module _ {D : Type 0} (disk_of : DiskGhosts D) (number : ℕ) (command : Command) (signers : ℕ) where
  -- what a desk in this state makes of the command
  pub record Step (outcome : Outcome) (old new : View D) (was : DeskState) : Type 0 where
    pub is : DeskState
    pub does : Does number command signers outcome was is
    pub stands : IsIn number new is
    pub goes : DeskGoesOn disk_of old.disk new.disk was is

  judged : (old : View D) (was : DeskState) (v : Result (Unit {0}) Refusal) → IsIn number old was → verdict_of old.settings command (Some signers) ≡ v
      → verdict_of (fold_of number was.commands) command (Some signers) ≡ v
  judged old was v stands is = ap (λ (s : Settings). verdict_of s command (Some signers)) (sym (settings_in number old was stands)) ∙ is

  placed : (old : View D) (was : DeskState) → IsIn number old was → HasDeskPlace old command signers → CanBeAccepted number was command signers
  placed old was stands place = record {
    may_come = record { is_open = stands.shut.0 place.may_come.is_open; verdict = judged old was (Ok tt) stands place.may_come.verdict };
    fits = subst (λ (r : List (List ℕ)). held_by r + needed_for command ≤ journal_limit) stands.commands.recorded.spelled place.fits;
  }

  -- What is known of a command that the desk took.
  pub record IsTaken (old new : View D) (count : ℕ) : Type 0 where
    pub place : HasDeskPlace old command signers
    pub commands : (commands : List Command) → HasCommands old commands → HasCommands new (commands ++ command ∷ [])
    pub counted : count ≡ length new.records
    pub is_open : new.shut ≡ None
    pub settled : new.doubt ≡ None
    pub number_same : new.number ≡ old.number
    pub later : disk_of.fault_count old.disk ≤ disk_of.fault_count new.disk
    pub bytes : disk_of.content new.disk ≡ option_map (stored (held_by old.records) (entry_bytes (spelling command))) (disk_of.content old.disk)

  pub accepted_step : (old new : View D) (count : ℕ) → IsTaken old new count → (was : DeskState) → IsIn number old was → Step (Accepted count) old new was
  accepted_step old new count taken was stands =
      let commands = was.commands ++ command ∷ [] in
      let has : HasCommands new commands = taken.commands was.commands stands.commands in
      let place = placed old was stands taken.place in
      record {
        is = record { commands = commands; doubt = None };
        does = record {
          place = place;
          grown = refl;
          counted = taken.counted ∙ ap (λ (l : List (List ℕ)). length l) has.recorded.spelled ∙ length-map commands spelling;
        };
        stands = record {
          number_is = taken.number_same ∙ stands.number_is;
          commands = has;
          doubt = taken.settled;
          shut = (λ is. refl, λ is. taken.is_open);
          next = tt;
        };
        goes = record {
          accepted = command ∷ [];
          commands = refl;
          bytes = λ is. taken.bytes
              ∙ ap (λ (r : List (List ℕ)). option_map (stored (held_by r) (entry_bytes (spelling command))) (disk_of.content old.disk)) stands.commands.recorded.spelled
              ∙ one_stored (map spelling was.commands) (spelling command) (disk_of.content old.disk);
          stays = λ shut. absurd (shut place.may_come.is_open);
          cause = λ begun shut. absurd (shut refl);
          later = taken.later;
          room = λ small. desk_fits was.commands command place.fits;
        };
      }

  -- nothing has changed
  unchanged : (old new : View D) (was : DeskState) → new ≡ old → IsIn number old was → IsIn number new was
  unchanged old new was same stands = subst (λ (d : View D). IsIn number d was) (sym same) stands

  goes_unchanged : (old new : View D) (was : DeskState) → new ≡ old → DeskGoesOn disk_of old.disk new.disk was was
  goes_unchanged old new was same = subst (λ (d : View D). DeskGoesOn disk_of old.disk d.disk was was) (sym same) (goes_same disk_of old.disk was)

  -- the state after a fault that shut the journal
  in_doubt : (old new : View D) (rose : ℕ × (ℕ × ℕ)) (was : DeskState) → IsFaultAnswer disk_of rose command signers old new → IsAccepted (fold_of number was.commands) command → IsIn number old was
      → IsIn number new (record { commands = was.commands; doubt = Some command })
  in_doubt old new rose was fault accepted stands = record {
    number_is = ap (λ (d : View D). d.number) fault.same ∙ stands.number_is;
    commands = subst (λ (d : View D). HasCommands d was.commands) (sym fault.same) (record { recorded = stands.commands.recorded; fold = stands.commands.fold });
    doubt = ap (λ (d : View D). d.doubt) fault.same;
    shut = (λ none. absurd (none-some rose.1 (sym none ∙ ap (λ (d : View D). d.shut) fault.same)), λ none. absurd (none-some command (sym none)));
    next = recorded_push number was.commands command
        (subst (λ (n : ℕ). Records n (map spelling was.commands) was.commands) stands.number_is (subst (λ (r : List (List ℕ)). Records old.number r was.commands) stands.commands.recorded.spelled stands.commands.recorded))
        fault.recordable accepted;
  }

  pub fault_step : (old new : View D) (fault : DeskFault D)
      → disk_of.fault_count old.disk ≤ disk_of.fault_count new.disk → IsDeskFault disk_of fault command signers old new
      → (was : DeskState) → IsIn number old was → Step (fault_outcome (command_fault_of fault)) old new was
  fault_step old new (Shut rose) later why was stands = record {
    is = was;
    does = record { desk = why.desk ∙ stands.number_is; shut = λ none. none-some rose.1 (sym (stands.shut.1 none) ∙ why.shut); same = refl };
    stands = unchanged old new was why.same stands;
    goes = goes_unchanged old new was why.same;
  }
  fault_step old new (Verdict refusal) later why was stands = record {
    is = was;
    does = record { is_open = stands.shut.0 why.is_open; verdict = judged old was (Err refusal) stands why.verdict; same = refl };
    stands = unchanged old new was why.same stands;
    goes = goes_unchanged old new was why.same;
  }
  fault_step old new (JournalFull held needed) later why was stands = record {
    is = was;
    does = record {
      may_come = record { is_open = stands.shut.0 why.may_come.is_open; verdict = judged old was (Ok tt) stands why.may_come.verdict };
      held_is = why.held_is ∙ ap held_by stands.commands.recorded.spelled;
      needed_is = why.needed_is;
      past = why.past;
      same = refl;
    };
    stands = unchanged old new was why.same stands;
    goes = goes_unchanged old new was why.same;
  }
  fault_step old new (DiskFault rose) later why was stands =
      let place = placed old was stands why.place in
      record {
        is = record { commands = was.commands; doubt = Some command };
        does = record { place = place; desk = why.desk ∙ stands.number_is; doubted = refl };
        stands = in_doubt old new rose was why
            (subst (λ (s : Settings). IsAccepted s command) (settings_in number old was stands) (granted_accepted old.settings command signers why.place.may_come.verdict)) stands;
        goes = record {
          accepted = [];
          commands = sym (append-nil was.commands);
          bytes = λ none. absurd (none-some command (sym none));
          stays = λ shut. absurd (shut place.may_come.is_open);
          cause = λ begun shut. record {
            from = rose.1.0;
            to = rose.1.1;
            begins = omega (arith, why.before);
            risen = why.risen;
            ends = omega (arith, why.after);
          };
          later = later;
          room = λ small. desk_fits was.commands command place.fits;
        };
      }
  fault_step old new Memory later why was stands = record {
    is = was;
    does = record { place = placed old was stands why.place; same = refl };
    stands = unchanged old new was why.same stands;
    goes = goes_unchanged old new was why.same;
  }

  pub commanded : (name : List ℕ) (outcome : Outcome) (desks : List (View D)) (old new : View D) → slice_get desks number ≡ Some old
      → ((desk_states : DeskStates) → AreIn desks desk_states → Some number ≡ desk_named desk_states name) → ((was : DeskState) → IsIn number old was → Step outcome old new was)
      → Leads disk_of (λ b a. Commanded name command signers outcome b a) desks (slice_set desks number new)
  commanded name outcome desks old new here named steps before all =
      let at : At before number old = at_place desks before number old all here in
      let step = steps at.state at.stands in
      record {
        after = slice_set before number step.is;
        step = subst (λ (o : Option ℕ). CommandedAt o command signers outcome before (slice_set before number step.is)) (named before all)
            (record { was = at.state; is = step.is; found = at.there; put = refl; changes = step.does });
        stands = in_set desks before number old new step.is all here at step.stands;
        disks = go_on_set disk_of desks before number old new step.is all here at step.goes;
      }

  pub not_named : (name : List ℕ) (desks : List (View D)) → ((desk_states : DeskStates) → AreIn desks desk_states → None ≡ desk_named desk_states name)
      → Leads disk_of (λ b a. Commanded name command signers NoSuchAuthority b a) desks desks
  not_named name desks named =
      stay disk_of (λ b a. Commanded name command signers NoSuchAuthority b a) desks
      (λ before all. subst (λ (o : Option ℕ). CommandedAt o command signers NoSuchAuthority before before) (named before all) (refl, refl))
