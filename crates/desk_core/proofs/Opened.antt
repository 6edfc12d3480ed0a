-- What opening a desk finds, by what opening its journal finds.
use Rattle.std.proofs.Common.{◌≡◌, ◌≤◌, ℕ, Bool, Option, Some, None, List, [], length, cond, ap, subst, arith}
use Rattle.std.specs.Prelude.{IfSome}
use Rattle.std.specs.Option.{option_map}
use Rattle.std.proofs.lemmas.Bool.{le-leb, lt-leb}
use Rattle.disk_api.specs.Content.{BothKnown}
use Rattle.gate_journal.specs.Format.{recovered, damaged_at, opened, file_of, IsUnopened}
use Rattle.gate_journal.specs.declared.fault.JournalFault.{JournalFault}
use Rattle.gate_journal.specs.declared.fault.JournalFault.TheVariants.{DiskFault, Damaged, Memory}
use Rattle.desk_core.specs.View.{journal_limit}
use Rattle.desk_core.specs.Commands.{IsFirstBad}
use Rattle.desk_core.specs.Answers.{open_fault_of}
use Rattle.desk_core.specs.declared.faults.DeskOpenFault.TheVariants as desk

pub from_damaged : (fault : JournalFault) (at : ℕ) → open_fault_of fault ≡ desk.Damaged at → fault ≡ Damaged at
from_damaged DiskFault at e = cc
from_damaged (Damaged place) at e = cc
from_damaged Memory at e = cc

-- the first bad record of the journal is that of the file
pub bad_known : (content : Option (List ℕ)) (shown : Option (List (List ℕ))) (number at : ℕ) → shown ≡ option_map recovered content → IfSome content (λ bytes. damaged_at journal_limit bytes ≡ None) →
    IfSome shown (λ all. IsFirstBad number all at) → IfSome content (λ bytes. (damaged_at journal_limit bytes ≡ None) × IsFirstBad number (recovered bytes) at)
bad_known None shown number at is whole bad = tt
bad_known (Some bytes) shown number at is whole bad = (whole, subst (λ (o : Option (List (List ℕ))). IfSome o (λ all. IsFirstBad number all at)) is bad)

opened_long : (bytes : List ℕ) → 18 ≤ length bytes → opened bytes ≡ bytes
opened_long bytes long = ap (λ (b : Bool). cond b bytes (file_of [])) (le-leb 18 (length bytes) long)

opened_short : (bytes : List ℕ) → length bytes ≤ 17 → length (opened bytes) ≤ 17
opened_short bytes short =
    let new : opened bytes ≡ file_of [] = ap (λ (b : Bool). cond b bytes (file_of [])) (lt-leb 18 (length bytes) (omega arith)) in
    omega (arith, ap length new)

-- an opened file is one that a refused opening may leave
pub unopened_known : (content now : Option (List ℕ)) → now ≡ option_map opened content → BothKnown IsUnopened content now
unopened_known None now is = is
unopened_known (Some bytes) now is = (opened bytes, is, record { long = opened_long bytes; short = opened_short bytes })
