-- From what an edition is prepared.
use Rattle.std.specs.Prelude.{ℕ, List}
use Rattle.signer_api.specs.State.{SignerState}
use Rattle.key_ids.specs.Uris.{Bases}
use Rattle.editions.specs.declared.gathered.Gathered.{Gathered}
use Rattle.editions.specs.PublishedState.{PublishedStateValue}
use Rattle.press_core.specs.Press.{PressValue}

-- The bases of the repository, what stands, the signers, the clock, and the commands that were
-- gathered.
pub record PrepareInput : Type 0 where
  pub site : Bases
  pub at : PublishedStateValue
  pub ring : List SignerState
  pub clock : ℕ
  pub gathered : List Gathered

abbrev pub started :
    Bases → PublishedStateValue → List SignerState → ℕ → List Gathered → PrepareInput
started site at ring clock gathered = record {
  site = site;
  at = at;
  ring = ring;
  clock = clock;
  gathered = gathered;
}

-- A press at a clock, with these commands.
abbrev pub start_of : PressValue → ℕ → List Gathered → PrepareInput
start_of press clock gathered = started press.site press.at press.ring clock gathered
