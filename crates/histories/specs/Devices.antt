-- The journals of a store: one for the commands of each desk, and the press's for the editions.
use Rattle.std.specs.Prelude.{ℕ, zero, suc, ◌+◌, Bool, true, false, ◌&&◌, List, [], ◌∷◌}
use Rattle.std.specs.Prelude.{◌++◌, map, replicate, Option, None, Some, if◌then◌else◌}
use Rattle.std.specs.Prelude.{get_or, slice_get, option_and_then}
use Rattle.std.specs.List.{list_any}
use Rattle.std.specs.Str.{bytes_eq}
use Rattle.authority_book.specs.declared.commands.Command.{Command}
use Rattle.authority_book.specs.Verdict.{most_authorities}
use Rattle.rp_rules.specs.Certificates.{Vouched}
use Rattle.editions.specs.Edition.{Edition}

-- A journal: the records that it holds, whether it is shut, and the record in doubt, of which nobody
-- knows whether it holds that too.
pub record Device (X : Type 0) : Type 0 where
  pub list : List X
  pub shut : Bool
  pub doubt : Option X

-- A signature of a digest, under a key.
pub record Signature : Type 0 where
  pub key : List ℕ
  pub digest : List ℕ
  pub bytes : List ℕ

abbrev pub is_signature : List ℕ → List ℕ → List ℕ → Signature → Bool
is_signature key digest bytes s =
    bytes_eq s.key key && bytes_eq s.digest digest && bytes_eq s.bytes bytes

-- The signatures of a list are vouched, and no others.
abbrev pub are_vouched : List Signature → Vouched
are_vouched signatures key digest bytes = list_any (is_signature key digest bytes) signatures

-- A journal for each desk, the press's, the signatures that the signers vouch for, and whether
-- everything stopped.
pub record Store : Type 0 where
  pub desks : List (Device Command)
  pub press : Device Edition
  pub vouched : List Signature
  pub stopped : Bool

-- ---- a journal

-- It is open, and nothing is in doubt.
abbrev pub opened : {X : Type 0} → List X → Device X
opened list = record { list = list; shut = false; doubt = None }

-- With one record more.
abbrev pub with_one : {X : Type 0} → X → Device X → Device X
with_one x device = record device { list = device.list ++ x ∷ [] }

-- A call failed while this record was written.
abbrev pub failed : {X : Type 0} → X → Device X → Device X
failed x device = record device { shut = true; doubt = Some x }

-- It stopped, with this record in doubt or none. One that is shut keeps the record in doubt.
abbrev pub stopped : {X : Type 0} → Option X → Device X → Device X
stopped doubt device = record device {
  shut = true;
  doubt = if device.shut then device.doubt else doubt;
}

-- ---- all of them

-- A list with that place changed, if there is such a place.
abbrev pub changed_at : {X : Type 0} → ℕ → (X → X) → List X → List X
changed_at place change [] = []
changed_at zero change (x ∷ xs) = change x ∷ xs
changed_at (suc place) change (x ∷ xs) = x ∷ changed_at place change xs

-- The record for a desk, of a list that has one or none for each.
abbrev pub for_desk : List (Option Command) → ℕ → Option Command
for_desk records desk = get_or records desk None

-- Each stopped, from some desk on.
abbrev pub stopped_from : ℕ → List (Option Command) → List (Device Command) → List (Device Command)
stopped_from desk doubts [] = []
stopped_from desk doubts (device ∷ rest) =
    stopped (for_desk doubts desk) device ∷ stopped_from (desk + 1) doubts rest

abbrev pub lists_of : List (Device Command) → List (List Command)
lists_of desks = map (λ device. device.list) desks

-- A desk's record in doubt.
abbrev pub doubt_at : List (Device Command) → ℕ → Option Command
doubt_at desks desk = option_and_then (λ device. device.doubt) (slice_get desks desk)

-- A new store: nothing is written, and nothing was signed.
abbrev pub new_store : Store
new_store = record {
  desks = replicate most_authorities (opened []);
  press = opened [];
  vouched = [];
  stopped = false;
}
