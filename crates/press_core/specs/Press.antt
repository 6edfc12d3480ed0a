-- What contracts see of a press, and of the keys that it lets go.
use Rattle.std.specs.Prelude.{◌≡◌, ◌≤◌, ◌<◌, List, [], ◌∷◌, length}
use Rattle.signer_api.specs.State.{SignerState, DropsKey}
use Rattle.signer_ring.specs.Ring.{ChangesOne}
use Rattle.key_ids.specs.Uris.{Bases}
use Rattle.editions.specs.declared.ended.EndedKey.{EndedKey}
use Rattle.editions.specs.PublishedState.{PublishedStateValue}
use Rattle.rrdp_state.specs.Kept.{Kept}
use Rattle.press_core.specs.declared.last_export.LastExport.{LastExport}

-- The bases of the repository, the signers, what stands after the last edition, and the keys that it
-- ended and that no signer was asked to drop yet; what is kept of the editions for their export, and
-- how the last export of this run ended.
pub record PressValue : Type 0 where
  pub site : Bases
  pub ring : List SignerState
  pub at : PublishedStateValue
  pub ended : List EndedKey
  pub rrdp : Kept
  pub last_export : LastExport

-- The signer of the key, if there is that signer, is asked once to drop it, and nothing else is.
pub record DropsOne (ended : EndedKey) (old new : List SignerState) : Type 0 where
  pub absent : length old ≤ ended.signer → new ≡ old
  pub dropped :
      ended.signer < length old → ChangesOne ended.signer (DropsKey ended.key.bytes) old new

-- The same for each of the keys, one after another.
abbrev pub DropsEach : List EndedKey → List SignerState → List SignerState → Type 0
DropsEach [] old new = new ≡ old
DropsEach (ended ∷ rest) old new =
    (between : List SignerState) × DropsOne ended old between × DropsEach rest between new
