-- Why the making of an edition's objects stopped.
use Rattle.std.proofs.Common.{◌≡◌, ◌⊎◌, ℕ, inl, inr, Option, None, Some, List, [], ◌++◌, map, refl, sym, ap, subst, ◌∙◌, append-nil}
use Rattle.signer_api.specs.State.{SignerState}
use Rattle.signer_ring.specs.Calls.{Call, after_calls}
use Rattle.signer_ring.specs.Jobs.{CountFaults}
use Rattle.key_roll.specs.declared.rows.KeyRow.{KeyRow}
use Rattle.key_roll.specs.declared.work.NewKey.{NewKey}
use Rattle.issue_keys.specs.declared.fault.MakeFault.{MakeFault}
use Rattle.issue_keys.specs.declared.fault.MakeFault.TheVariants.{SignerFault, KeyClash, Memory}
use Rattle.issue_keys.specs.Keys.{id_of, AreBegun, AreFresh}
use Rattle.issue_keys.specs.Making.{making, AreApart, AreMade, IsKeyStop}
use Rattle.issue_drafts.specs.IssueInput.{IssueInput}
use Rattle.issue_make.specs.Made.{IsSigned, IsBegun, IsStop}
use Rattle.issue_make.specs.inner.Signing.{IsObjectsStop}
use Rattle.issue_make.proofs.Stops.{one-counts, calls-on}

-- ---- beginnings of the calls

begun : (new_keys : List NewKey) (fresh : List KeyRow) → AreFresh new_keys fresh → AreBegun new_keys fresh
begun new_keys fresh are = record { news = are.news; keys = are.keys; by_desk = are.by_desk; rows = are.rows }

only-keys : (s : IssueInput) (live : List KeyRow) (failed : Option ℕ) (fresh : List KeyRow) → AreBegun s.work.new_keys fresh
    → AreApart (map id_of live) fresh → IsBegun s live failed (map making fresh)
only-keys s live failed fresh keys apart = record {
  fresh = fresh;
  keys = keys;
  apart = apart;
  signing = [];
  is = sym (append-nil (map making fresh));
  signed = inl refl;
}

behind-keys : (s : IssueInput) (live : List KeyRow) (failed : Option ℕ) (fresh : List KeyRow) (signing : List Call)
    → AreFresh s.work.new_keys fresh → AreApart (map id_of live) fresh → (signing ≡ []) ⊎ IsSigned s live fresh failed signing
    → IsBegun s live failed (map making fresh ++ signing)
behind-keys s live failed fresh signing are apart signed = record {
  fresh = fresh;
  keys = begun s.work.new_keys fresh are;
  apart = apart;
  signing = signing;
  is = refl;
  signed = signed;
}

-- ---- while keys are made

pub stop-keys : (s : IssueInput) (live : List KeyRow) (old new : List SignerState) (fault : MakeFault)
    → IsKeyStop s.work.new_keys live old new fault → IsStop s live old new fault
stop-keys s live old new (SignerFault n) stop = record {
  calls = map making stop.made;
  begun = only-keys s live (Some n) stop.made stop.keys stop.apart;
  fault = one-counts n (after_calls old (map making stop.made)) new stop.fault;
}
stop-keys s live old new (KeyClash id) stop = stop
stop-keys s live old new Memory stop = inl stop

-- ---- behind them

pub stop-signing : (s : IssueInput) (live : List KeyRow) (old between new : List SignerState) (fresh : List KeyRow) (fault : MakeFault)
    → AreMade s.work.new_keys live old between fresh → IsObjectsStop s live fresh between new fault → IsStop s live old new fault
stop-signing s live old between new fresh (SignerFault n) made stop = record {
  calls = map making fresh ++ stop.0;
  begun = behind-keys s live (Some n) fresh stop.0 made.keys made.apart (inr stop.1);
  fault = subst (λ (ring : List SignerState). CountFaults n ring new)
      (ap (λ (ring : List SignerState). after_calls ring stop.0) made.signers ∙ calls-on old (map making fresh) stop.0) stop.2;
}
stop-signing s live old between new fresh (KeyClash id) made stop = absurd stop
stop-signing s live old between new fresh Memory made stop = inr (
  map making fresh ++ stop.0,
  behind-keys s live None fresh stop.0 made.keys made.apart stop.1,
  stop.2 ∙ (ap (λ (ring : List SignerState). after_calls ring stop.0) made.signers ∙ calls-on old (map making fresh) stop.0),
)
