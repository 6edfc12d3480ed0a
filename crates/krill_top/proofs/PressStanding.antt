-- How the press's journal goes on.
use Rattle.std.proofs.Common.{◌≡◌, List, [], ◌++◌, refl, sym, ◌∙◌, ap, arith, append_assoc, append-nil}
use Rattle.std.proofs.lemmas.Option.{none-some}
use Rattle.std.specs.Prelude.{Option, None, Some}
use Rattle.disk_api.specs.declared.disk.Disk.{Ghosts as DiskGhosts}
use Rattle.editions.specs.Edition.{Edition}
use Rattle.krill_top.specs.DesksInStates.{RoseWithin}
use Rattle.krill_top.specs.InstanceState.{InstanceState}
use Rattle.krill_top.specs.inner.Instances.{PressGoesOn, EditionsGrow}

-- ---- editions

pub grow_same : (before after : InstanceState) → after.editions ≡ before.editions → EditionsGrow before after
grow_same before after same = ([], same ∙ sym (append-nil before.editions))

pub grow_then : (was between is : InstanceState) → EditionsGrow was between → EditionsGrow between is → EditionsGrow was is
grow_then was between is first second =
    (first.0 ++ second.0, second.1 ∙ ap (λ (l : List Edition). l ++ second.0) first.1 ∙ append_assoc was.editions first.0 second.0)

-- ---- the disk

module _ {D : Type 0} (disk_of : DiskGhosts D) where
  -- the journal isn't called
  pub press_kept : (disk : D) (before after : InstanceState) → after.in_doubt ≡ before.in_doubt → PressGoesOn disk_of disk disk before after
  press_kept disk before after same = record {
    cause = λ was_open shut. absurd (shut (same ∙ was_open));
    stays = λ shut. same;
    later = omega arith;
  }

  cause_then : (old mid new : D) (was between is : InstanceState) (doubt : Option Edition) → between.in_doubt ≡ doubt → PressGoesOn disk_of old mid was between → PressGoesOn disk_of mid new between is
      → was.in_doubt ≡ None → ¬ (is.in_doubt ≡ None) → RoseWithin (disk_of.fault_count old) (disk_of.fault_count new)
  cause_then old mid new was between is None is_doubt first second begun shut =
      let rose = second.cause is_doubt shut in
      record { from = rose.from; to = rose.to; begins = omega (arith, first.later, rose.begins); risen = rose.risen; ends = rose.ends }
  cause_then old mid new was between is (Some edition) is_doubt first second begun shut =
      let rose = first.cause begun (λ none. none-some edition (sym none ∙ is_doubt)) in
      record { from = rose.from; to = rose.to; begins = rose.begins; risen = rose.risen; ends = omega (arith, second.later, rose.ends) }

  pub press_then : (old mid new : D) (was between is : InstanceState) → PressGoesOn disk_of old mid was between → PressGoesOn disk_of mid new between is → PressGoesOn disk_of old new was is
  press_then old mid new was between is first second = record {
    cause = cause_then old mid new was between is between.in_doubt refl first second;
    stays = λ shut.
        let same = first.stays shut in
        second.stays (λ none. shut (sym same ∙ none)) ∙ same;
    later = omega (arith, first.later, second.later);
  }
