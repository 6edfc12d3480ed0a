-- The desks of a store by their places.
use Rattle.std.proofs.Common.{◌≡◌, ℕ, zero, suc, ◌+◌, refl, sym, subst, ap, arith, List, [], ◌∷◌, ◌++◌, length, get_or, map, replicate, Some}
use Rattle.std.specs.Prelude.{slice_get, slice_set}
use Rattle.std.proofs.lemmas.Option.{none-some, same_Some}
use Rattle.disk_api.specs.declared.memory.MemoryDisk.{MemoryDisk}
use Rattle.authority_book.specs.declared.commands.Command.{Command}
use Rattle.desk_core.specs.View.{View}
use Rattle.editions.specs.Step.{BeginsWith, AreMore}
use Rattle.histories.specs.Devices.{Device, opened, changed_at, lists_of}
use Rattle.test_histories.specs.Standing.{IsDesk, AreDesks, AreNew}
use Rattle.test_histories.proofs.More.{same_begins, same_are_more}

-- A journal at a place, with the desk that has it.
pub record HasJournal (desk : View MemoryDisk) (devices : List (Device Command)) (place at : ℕ) : Type 0 where
  pub device : Device Command
  pub there : slice_get devices place ≡ Some device
  pub stands : IsDesk at desk device

pub desk_at : (number : ℕ) (desks : List (View MemoryDisk)) (devices : List (Device Command)) (place at : ℕ) (desk : View MemoryDisk)
    → AreDesks number desks devices → slice_get desks place ≡ Some desk → at ≡ number + place → HasJournal desk devices place at
desk_at number [] devices place at desk all there is = absurd (none-some desk there)
desk_at number (first ∷ desks) [] place at desk all there is = absurd all
desk_at number (first ∷ desks) (device ∷ devices) zero at desk all there is = record {
  device = device;
  there = refl;
  stands = subst (λ (n : ℕ). IsDesk n desk device) (omega (arith, is)) (subst (λ (v : View MemoryDisk). IsDesk number v device) (same_Some first desk there) all.0);
}
desk_at number (first ∷ desks) (device ∷ devices) (suc place) at desk all there is =
    let rest = desk_at (suc number) desks devices place at desk all.1 there (omega (arith, is)) in
    record { device = rest.device; there = rest.there; stands = rest.stands }

pub put_desk : (number : ℕ) (desks : List (View MemoryDisk)) (devices : List (Device Command)) (place at : ℕ)
    (change : Device Command → Device Command) (new : View MemoryDisk) (device : Device Command) → AreDesks number desks devices
    → slice_get devices place ≡ Some device → IsDesk at new (change device) → at ≡ number + place
    → AreDesks number (slice_set desks place new) (changed_at place change devices)
put_desk number [] [] place at change new device all there stands is = absurd (none-some device there)
put_desk number [] (d ∷ devices) place at change new device all there stands is = absurd all
put_desk number (first ∷ desks) [] place at change new device all there stands is = absurd all
put_desk number (first ∷ desks) (d ∷ devices) zero at change new device all there stands is = (
  subst (λ (n : ℕ). IsDesk n new (change d)) (omega (arith, is)) (subst (λ (x : Device Command). IsDesk at new (change x)) (sym (same_Some d device there)) stands),
  all.1,
)
put_desk number (first ∷ desks) (d ∷ devices) (suc place) at change new device all there stands is =
    (all.0, put_desk (suc number) desks devices place at change new device all.1 there stands (omega (arith, is)))

-- ---- as many

pub desks_long : (number : ℕ) (desks : List (View MemoryDisk)) (devices : List (Device Command)) → AreDesks number desks devices
    → length desks ≡ length devices
desks_long number [] [] all = refl
desks_long number [] (d ∷ devices) all = absurd all
desks_long number (first ∷ desks) [] all = absurd all
desks_long number (first ∷ desks) (d ∷ devices) all = ap suc (desks_long (suc number) desks devices all.1)

pub changed_long : (place : ℕ) (change : Device Command → Device Command) (devices : List (Device Command))
    → length (changed_at place change devices) ≡ length devices
changed_long place change [] = refl
changed_long zero change (d ∷ devices) = refl
changed_long (suc place) change (d ∷ devices) = ap suc (changed_long place change devices)

pub more_long : (less more : List (List Command)) → AreMore less more → length more ≡ length less
more_long [] [] all = refl
more_long [] (m ∷ more) all = absurd all
more_long (l ∷ less) [] all = absurd all
more_long (l ∷ less) (m ∷ more) all = ap suc (more_long less more all.1)

-- ---- their lists

pub lists_long : (devices : List (Device Command)) → length (lists_of devices) ≡ length devices
lists_long [] = refl
lists_long (d ∷ devices) = ap suc (lists_long devices)

pub list_at : (devices : List (Device Command)) (place : ℕ) (device : Device Command) → slice_get devices place ≡ Some device
    → get_or (lists_of devices) place [] ≡ device.list
list_at [] place device there = absurd (none-some device there)
list_at (d ∷ devices) zero device there = ap (λ (x : Device Command). x.list) (same_Some d device there)
list_at (d ∷ devices) (suc place) device there = list_at devices place device there

pub lists_opened : (lists : List (List Command)) → lists_of (map opened lists) ≡ lists
lists_opened [] = refl
lists_opened (list ∷ lists) = ap (λ (l : List (List Command)). list ∷ l) (lists_opened lists)

pub opened_long : (lists : List (List Command)) → length (map opened lists) ≡ length lists
opened_long [] = refl
opened_long (list ∷ lists) = ap suc (opened_long lists)

pub more_lists : (place : ℕ) (change : Device Command → Device Command) (devices : List (Device Command))
    → ((d : Device Command) → BeginsWith d.list (change d).list) → AreMore (lists_of devices) (lists_of (changed_at place change devices))
more_lists place change [] grows = tt
more_lists zero change (d ∷ devices) grows = (grows d, same_are_more (lists_of devices))
more_lists (suc place) change (d ∷ devices) grows = (same_begins d.list, more_lists place change devices grows)

-- ---- new ones

pub new_more : (number : ℕ) (desks : List (View MemoryDisk)) (at : ℕ) (desk : View MemoryDisk) → AreNew number desks
    → IsDesk at desk (opened []) → at ≡ number + length desks → AreNew number (desks ++ desk ∷ [])
new_more number [] at desk all stands is = (subst (λ (n : ℕ). IsDesk n desk (opened [])) (omega (arith, is)) stands, tt)
new_more number (first ∷ desks) at desk all stands is = (all.0, new_more (suc number) desks at desk all.1 stands (omega (arith, is)))

pub new_stand : (number : ℕ) (desks : List (View MemoryDisk)) → AreNew number desks
    → AreDesks number desks (replicate (length desks) (opened []))
new_stand number [] all = tt
new_stand number (first ∷ desks) all = (all.0, new_stand (suc number) desks all.1)
