-- What is in doubt of a desk behind its lock.
use Rattle.std.proofs.Common.{◌≡◌, ℕ, ◌+◌, ◌≤◌, List, [], ◌∷◌, ◌++◌, map, refl, sym, ◌∙◌, ap, subst}
use Rattle.std.specs.Prelude.{Option, None, Some, Ok, IfSome}
use Rattle.std.proofs.lemmas.Option.{none-some}
use Rattle.std.proofs.lemmas.List.{map-append}
use Rattle.std.proofs.lemmas.List.Elements.{All-push}
use Rattle.disk_api.specs.declared.disk.Disk.{Ghosts as DiskGhosts}
use Rattle.authority_book.specs.declared.commands.Command.{Command}
use Rattle.authority_book.specs.Settings.{Settings}
use Rattle.authority_book.specs.Verdict.{IsAccepted, verdict_of}
use Rattle.authority_book.specs.Fold.{fold_of, after, after_all, empty_settings, AcceptedInTurn}
use Rattle.cmd_codec.specs.Spelling.{spelling, IsRecordable}
use Rattle.gate_journal.specs.Format.{held_by}
use Rattle.desk_core.specs.View.{View, journal_limit}
use Rattle.desk_core.specs.Commands.{Records, HasCommands}
use Rattle.desk_core.specs.Answers.{needed_for, IsDeskFault, IsFaultAnswer, counts_of}
use Rattle.desk_core.specs.declared.faults.DeskFault.{DeskFault}
use Rattle.desk_core.specs.declared.faults.DeskFault.TheVariants.{Shut, Verdict, JournalFull, DiskFault, Memory}
use Rattle.editions.specs.laws.GrantedLaws.{granted_accepted}
use Rattle.manager.specs.Lists.{IsNextEntry, IsDoubted}
use Rattle.manager.proofs.Limits.{fits_push}

-- ---- nothing is in doubt

pub doubted_none : {D : Type 0} (desk : View D) → desk.shut ≡ None → desk.doubt ≡ None → IsDoubted desk
doubted_none desk is_open settled = record {
  shut = (λ is. settled, λ none. is_open);
  doubt = subst (λ (d : Option (List ℕ)). IfSome d (IsNextEntry desk)) (sym settled) tt;
}

pub doubted_open : {D : Type 0} (desk : View D) → desk.shut ≡ None → (desk.shut ≡ None → desk.doubt ≡ None) → IsDoubted desk
doubted_open desk is_open settled = doubted_none desk is_open (settled is_open)

-- ---- a fault

-- commands that were accepted in turn, and one more
in_turn_push : (settings : Settings) (commands : List Command) (command : Command) → AcceptedInTurn settings commands → IsAccepted (after_all settings commands) command
    → AcceptedInTurn settings (commands ++ command ∷ [])
in_turn_push settings [] command all is = (is, tt)
in_turn_push settings (first ∷ rest) command all is = (all.0, in_turn_push (after settings first) rest command all.1 is)

module _ {D : Type 0} (command : Command) (signers : ℕ) (old : View D) where
  -- its record may stand behind the others
  next_records : verdict_of old.settings command (Some signers) ≡ Ok tt → IsRecordable command → (commands : List Command) → HasCommands old commands
      → Records old.number (old.records ++ spelling command ∷ []) (commands ++ command ∷ [])
  next_records granted recordable commands has = record {
    spelled = ap (λ (l : List (List ℕ)). l ++ spelling command ∷ []) has.recorded.spelled ∙ sym (map-append spelling commands (command ∷ []));
    recordable = All-push IsRecordable commands command has.recorded.recordable recordable;
    taken = in_turn_push (empty_settings old.number) commands command has.recorded.taken
        (subst (λ (s : Settings). IsAccepted s command) has.fold (granted_accepted old.settings command signers granted));
  }

  doubted_by : (disk : D) (rose : ℕ × ℕ) → verdict_of old.settings command (Some signers) ≡ Ok tt → held_by old.records + needed_for command ≤ journal_limit → IsRecordable command
      → IsDoubted (record old { disk = disk; shut = Some rose; doubt = Some (spelling command) })
  doubted_by disk rose granted fits recordable = record {
    shut = (λ (none : Some rose ≡ None). absurd (none-some rose (sym none)), λ (none : Some (spelling command) ≡ None). absurd (none-some (spelling command) (sym none)));
    doubt = record {
      command = command;
      spelled = refl;
      next = λ commands has. next_records granted recordable commands (record { recorded = has.recorded; fold = has.fold });
      fits = fits_push old.records command fits;
    };
  }

module _ {D : Type 0} (disk_of : DiskGhosts D) (command : Command) (signers : ℕ) (old new : View D) (was : IsDoubted old) where
  doubted_same : new ≡ old → IsDoubted new
  doubted_same same = subst (λ (v : View D). IsDoubted v) (sym same) was

  -- the command was refused
  pub doubted_refused : (fault : DeskFault D) → IsDeskFault disk_of fault command signers old new → IsDoubted new
  doubted_refused (Shut rose) is = doubted_same is.same
  doubted_refused (Verdict refusal) is = doubted_same is.same
  doubted_refused (JournalFull held needed) is = doubted_same is.same
  doubted_refused (DiskFault rose) is =
      subst (λ (v : View D). IsDoubted v) (sym is.same) (doubted_by command signers old new.disk (counts_of rose) is.place.may_come.verdict is.place.fits is.recordable)
  doubted_refused Memory is = doubted_same is.same
