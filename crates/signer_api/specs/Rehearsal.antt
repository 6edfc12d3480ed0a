-- A signer for rehearsals, as the trait sees it.
use Rattle.std.specs.Prelude.{ℕ, List, None}
use Rattle.signer_api.specs.State.{SignerState}
use Rattle.signer_api.specs.State.Vouching.{Hashed}
use Rattle.signer_api.specs.declared.rehearsal.Rehearsal.{Rehearsal}

abbrev pub rehearsal_state : Rehearsal → SignerState
rehearsal_state r = record {
  vouching = Hashed;
  keys = None;
  signatures = r.signatures;
  once = r.once;
  faults = 0;
}

-- the bytes that its keys come from
abbrev pub rehearsal_start : Rehearsal → List ℕ
rehearsal_start r = r.start

-- the number of its next key
abbrev pub rehearsal_next : Rehearsal → ℕ
rehearsal_next r = r.next
