-- What a journal's refusal is for a desk whose verdict comes first.
use Rattle.std.proofs.Common.{◌≡◌, ◌<◌, ◌≤◌, ◌+◌, ℕ, None, Some, List, Ok, Err, map, length, refl, ◌∙◌, ap, subst}
use Rattle.disk_api.specs.declared.disk.Disk.{Ghosts as DiskGhosts}
use Rattle.gate_journal.specs.Format.{held_for, held_by}
use Rattle.gate_journal.specs.View.{View}
use Rattle.gate_journal.specs.Answers.{CanAppend as HasJournalPlace, IsFullAnswer as IsJournalFull}
use Rattle.authority_book.specs.declared.commands.Command.{Command}
use Rattle.authority_book.specs.declared.refusals.Refusal.{Refusal}
use Rattle.authority_book.specs.Settings.{Settings}
use Rattle.authority_book.specs.Verdict.{verdict_of}
use Rattle.desk_core.specs.View.{journal_limit}
use Rattle.desk_core.specs.Answers.{CanCommit, needed_for, IsDeskFault}
use Rattle.desk_core.specs.declared.faults.DeskFault.TheVariants.{Verdict, JournalFull}
use Rattle.desk_core.proofs.Committed.{desk_of}

module _ {D : Type 0} (disk_of : DiskGhosts D) (number : ℕ) (settings : Settings) (records : List (List ℕ)) (journal : View D)
    (limit : journal.limit ≡ journal_limit) (sizes : journal.sizes ≡ map length records) (command : Command) (signers : ℕ) where
  pub placed : HasJournalPlace journal (needed_for command) → verdict_of settings command (Some signers) ≡ Ok tt → CanCommit (desk_of number settings records journal) command signers
  placed place granted = record {
    may_come = record { is_open = place.is_open; verdict = granted };
    fits = subst (λ (n : ℕ). held_by records + needed_for command ≤ n) limit (subst (λ (l : List ℕ). held_for l + needed_for command ≤ journal.limit) sizes place.fits);
  }

  pub full : (held needed : ℕ) → IsJournalFull held needed (needed_for command) journal journal → verdict_of settings command (Some signers) ≡ Ok tt
      → IsDeskFault disk_of (JournalFull held needed) command signers (desk_of number settings records journal) (desk_of number settings records journal)
  full held needed answer granted = record {
    may_come = record { is_open = answer.is_open; verdict = granted };
    held_is = answer.held_is ∙ ap held_for sizes;
    needed_is = answer.needed_is;
    past = subst (λ (n : ℕ). n < held + needed) limit answer.past;
    same = refl;
  }

  pub judged : (refusal : Refusal) → journal.shut ≡ None → verdict_of settings command (Some signers) ≡ Err refusal
      → IsDeskFault disk_of (Verdict refusal) command signers (desk_of number settings records journal) (desk_of number settings records journal)
  judged refusal is_open refused = record { is_open = is_open; verdict = refused; same = refl }
