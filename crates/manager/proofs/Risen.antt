-- Faults of disks and outlet, after a call.
use Rattle.std.proofs.Common.{◌≡◌, ◌<◌, ◌≤◌, ℕ, sym, ap, subst, arith, inl, inr}
use Rattle.std.specs.Prelude.{Option, None, Some, IfSome}
use Rattle.disk_api.specs.declared.disk.Disk.{Ghosts as DiskGhosts}
use Rattle.host_calls.specs.Rise.{HasRisen}
use Rattle.outlet_api.specs.declared.outlet.Outlet.{Ghosts as OutletGhosts}
use Rattle.outlet_api.specs.declared.exports.ExportFault.{ExportFault}
use Rattle.outlet_api.specs.declared.exports.ExportFault.TheVariants as export
use Rattle.outlet_api.specs.Faults.{IsCauseOf}
use Rattle.gate_journal.specs.View as journal
use Rattle.gate_journal.specs.View.{IsSameButRoom}
use Rattle.authority_book.specs.declared.commands.Command.{Command}
use Rattle.desk_core.specs.View.{View}
use Rattle.desk_core.specs.Answers.{IsDeskFault}
use Rattle.desk_core.specs.declared.faults.DeskFault.{DeskFault}
use Rattle.desk_core.specs.declared.faults.DeskFault.TheVariants.{Shut, Verdict, JournalFull, DiskFault, Memory}
use Rattle.manager.specs.Named.{Named}
use Rattle.manager.specs.Risen.{IsRise, IsRisen, IsRisenPress, IsExportRise}

module _ {D : Type 0} (disk_of : DiskGhosts D) (first : ℕ) (old new : View D) (was : IsRisen disk_of first old.disk old.shut) where
  -- the journal is open
  pub risen_open : new.shut ≡ None → disk_of.fault_count old.disk ≤ disk_of.fault_count new.disk → IsRisen disk_of first new.disk new.shut
  risen_open is_open later = record {
    later = omega (arith, was.later, later);
    shut = subst (λ (s : Option (ℕ × ℕ)). IfSome s (IsRise first (disk_of.fault_count new.disk))) (sym is_open) tt;
  }

  risen_same : new ≡ old → IsRisen disk_of first new.disk new.shut
  risen_same same = subst (λ (v : View D). IsRisen disk_of first v.disk v.shut) (sym same) was

  -- the command was refused
  pub risen_refused : (fault : DeskFault D) (command : Command) (signers : ℕ) → IsDeskFault disk_of fault command signers old new → disk_of.fault_count old.disk ≤ disk_of.fault_count new.disk
      → IsRisen disk_of first new.disk new.shut
  risen_refused (Shut rose) command signers is later = risen_same is.same
  risen_refused (Verdict refusal) command signers is later = risen_same is.same
  risen_refused (JournalFull held needed) command signers is later = risen_same is.same
  risen_refused (DiskFault (number, (before, after))) command signers is later = record {
    later = omega (arith, was.later, later);
    shut = subst (λ (s : Option (ℕ × ℕ)). IfSome s (IsRise first (disk_of.fault_count new.disk))) (sym (ap (λ (v : View D). v.shut) is.same)) (record {
      since = omega (arith, was.later, is.before);
      risen = is.risen;
      up_to = omega (arith, is.after);
    });
  }
  risen_refused Memory command signers is later = risen_same is.same

-- ---- the press

no_less : (before after : ℕ) → HasRisen before after → before ≤ after
no_less before after (inl less) = omega (arith, less)
no_less before after (inr (one, other)) = omega (arith, one, other)

module _ {D O : Type 0} (disk_of : DiskGhosts D) (outlet_of : OutletGhosts O) (named : Named) (old new : journal.View D) (outlet : O) (was : IsRisenPress disk_of outlet_of named old outlet) where
  pub press_asked : IsSameButRoom old new → IsRisenPress disk_of outlet_of named new outlet
  press_asked same = subst (λ (j : journal.View D). IsRisenPress disk_of outlet_of named j outlet) (sym same) (record { disk = was.disk; outlet_later = was.outlet_later })

  pub press_committed : new.shut ≡ None → disk_of.fault_count old.disk ≤ disk_of.fault_count new.disk → IsRisenPress disk_of outlet_of named new outlet
  press_committed is_open later = record {
    disk = record {
      later = let was_later = was.disk.later in omega (arith, was_later, later);
      shut = subst (λ (s : Option (ℕ × ℕ)). IfSome s (IsRise named.faults.press (disk_of.fault_count new.disk))) (sym is_open) tt;
    };
    outlet_later = was.outlet_later;
  }

  pub press_doubted : (rose : ℕ × ℕ) → rose.0 ≡ disk_of.fault_count old.disk → rose.1 ≡ disk_of.fault_count new.disk → HasRisen rose.0 rose.1 → new.shut ≡ Some rose → IsRisenPress disk_of outlet_of named new outlet
  press_doubted rose before after risen shut =
      let was_later = was.disk.later in
      let more = no_less rose.0 rose.1 risen in
      record {
        disk = record {
          later = omega (arith, was_later, before, more, after);
          shut = subst (λ (s : Option (ℕ × ℕ)). IfSome s (IsRise named.faults.press (disk_of.fault_count new.disk))) (sym shut) (record {
            since = omega (arith, was_later, before);
            risen = risen;
            up_to = omega (arith, after);
          });
        };
        outlet_later = was.outlet_later;
      }

-- ---- the outlet

pub export_rise : {O : Type 0} (first before after : ℕ) (fault : ExportFault O) → first ≤ before → IsCauseOf before after fault → IsExportRise first after fault
export_rise first before after (export.OutletFault rose) later is =
    subst (λ (r : ℕ × ℕ). IsRise first after r) (sym is.0) (record { since = later; risen = is.1; up_to = omega arith })
export_rise first before after export.Memory later is = tt
