-- What replies rest on: each desk's commands, what was published of them and exported, the press's
-- journal, the signers, the outlet, and the clock. Beside it what is kept of refusals.
use Rattle.std.specs.Prelude.{◌≡◌, ℕ, Bool, ◌==◌, ◌||◌, true, false, List, [], Option, None, All, IfSome, map}
use Rattle.authority_book.specs.declared.commands.Command.{Command}
use Rattle.key_ids.specs.Uris.{Bases}
use Rattle.signer_api.specs.State.{SignerState}
use Rattle.signer_ring.specs.Ring.{AllTell, Vouched as VouchedBy}
use Rattle.signer_ring.specs.Calls.{Call}
use Rattle.rp_rules.specs.Certificates.{Vouched}
use Rattle.editions.specs.Edition.{Edition}
use Rattle.editions.specs.Step.{Premises, AreSteps}
use Rattle.editions.specs.VouchedCalls.{IsVouchedBy}
use Rattle.editions.specs.Edition.{state_after}
use Rattle.outlet_api.specs.Calls.{Files}
use Rattle.outlet_api.specs.declared.outlet.Outlet.{Ghosts as OutletGhosts}
use Rattle.rrdp_state.specs.Exported.{Repository}
use Rattle.press_core.specs.declared.last_export.LastExport.{LastExport}
use Rattle.press_core.specs.declared.last_export.LastExport.TheVariants.{NoExport, Failed, Done}
use Rattle.press_core.specs.Files.{repository_at}
use Rattle.press_core.specs.Exports.{IsCoherent, ShowsEdition}
use Rattle.press_core.specs.JournalRecords.{store_for}
use Rattle.press_records.specs.Store.{Store}
use Rattle.session_lines.specs.Keeping.{KeptValue}
use Rattle.krill_top.specs.DeskStates.{DeskStates}

-- What stands at each path of the outlet, where it tells, and how often it has failed.
pub record OutletState : Type 0 where
  pub files : Option Files
  pub faults : ℕ

abbrev pub outlet_state : {O : Type 0} → OutletGhosts O → O → OutletState
outlet_state outlet_of outlet = record {
  files = outlet_of.files outlet;
  faults = outlet_of.fault_count outlet;
}

-- What opening found: the accepted commands of each desk, and the editions, the first first.
pub record Found : Type 0 where
  pub lists : List (List Command)
  pub editions : List Edition

-- The bases of the repository, and the session of its RRDP files; the desks; what opening found; the
-- editions that stand, the first first, the one in doubt where a fault of its disk shut the press's
-- journal, and the records of that journal, where its disk tells; the calls by which the signers made
-- the editions of this run, with the one in doubt, and how the last export of this run ended; the
-- signers, and the outlet.
pub record InstanceState : Type 0 where
  pub site : Bases
  pub session : List ℕ
  pub desk_states : DeskStates
  pub found : Found
  pub editions : List Edition
  pub in_doubt : Option Edition
  pub records : Option (List (List ℕ))
  pub calls : List Call
  pub exported : LastExport
  pub signers : List SignerState
  pub outlet : OutletState

-- A state, what the readings of the session's clock give from then on, where it tells, and what is kept
-- of the refusals that were told.
pub record TimedInstanceState : Type 0 where
  pub state : InstanceState
  pub clock : Option (ℕ → ℕ)
  pub kept : KeptValue

abbrev pub at_clock : Option (ℕ → ℕ) → KeptValue → InstanceState → TimedInstanceState
at_clock clock kept state = record { state = state; clock = clock; kept = kept }

abbrev pub lists_of : DeskStates → List (List Command)
lists_of desk_states = map (λ desk. desk.commands) desk_states

-- The store of the press's journal.
abbrev pub store_in : InstanceState → Store
store_in state = store_for state.session state.site

-- Whatever was found stands, and nothing was made or exported in this run.
pub record IsJustOpened (state : InstanceState) : Type 0 where
  pub lists : state.found.lists ≡ lists_of state.desk_states
  pub editions : state.found.editions ≡ state.editions
  pub settled : state.in_doubt ≡ None
  pub calls : state.calls ≡ []
  pub exported : state.exported ≡ NoExport

-- Over what editions are made: the accepted commands of each desk, the repository's bases, and these
-- signatures being vouched.
abbrev pub premises_of : Vouched → InstanceState → Premises
premises_of vouched state = record {
  lists = lists_of state.desk_states;
  site = state.site;
  vouched = vouched;
}

-- The editions that opening found are steps, each behind those before it, over the commands that it
-- found. So they are in a new store, which has none, and in one that earlier runs left.
abbrev pub AreFoundSteps : Vouched → InstanceState → Type 0
AreFoundSteps vouched state = AreSteps (record {
  lists = state.found.lists;
  site = state.site;
  vouched = vouched;
}) state.found.editions

-- The signatures that were made for the editions of this run and for the one in doubt are vouched, and
-- those that opening found are steps by what is. No other signature has to be, so a list of just these
-- is enough.
pub record AreVouchedIn (vouched : Vouched) (state : InstanceState) : Type 0 where
  pub calls : All (IsVouchedBy vouched) state.calls
  pub found : AreFoundSteps vouched state

-- Each signature that one of the signers vouches for is vouched.
abbrev pub HasAllOf : Vouched → List SignerState → Type 0
HasAllOf vouched signers = (key digest signature : List ℕ)
    → VouchedBy signers key digest signature → vouched key digest signature ≡ true

-- Where all signers tell, it is enough that what they vouch for in the end is vouched: then the
-- signatures that were made in between are, with those before them.
abbrev pub VouchForCalls : InstanceState → InstanceState → Type 0
VouchForCalls before after = AllTell before.signers
    → (vouched : Vouched) → HasAllOf vouched after.signers
    → AreVouchedIn vouched before → AreVouchedIn vouched after

-- ---- exports

-- The serial of the last edition, and 0 where there is none.
abbrev pub last_serial : InstanceState → ℕ
last_serial state = (state_after state.editions).serial

abbrev pub is_of : LastExport → ℕ → Bool
is_of NoExport serial = false
is_of Failed serial = false
is_of (Done exported) serial = exported == serial

-- Whether the last edition is exported: there is none, or the last export was of it and ended Ok.
abbrev pub is_exported_at : LastExport → ℕ → Bool
is_exported_at exported serial = (serial == 0) || is_of exported serial

abbrev pub is_exported : InstanceState → Bool
is_exported state = is_exported_at state.exported (last_serial state)

-- The RRDP files of the state, in its session.
abbrev pub repository_in : InstanceState → Repository
repository_in state = repository_at state.session state.site

-- Where the outlet tells its files: there is no notification, or it is that of one of the editions, and
-- each file that it names stands with its hash.
abbrev pub IsCoherentIn : InstanceState → Type 0
IsCoherentIn state = IfSome state.outlet.files (IsCoherent (repository_in state) state.editions)

-- Where the outlet tells its files: the notification is that of the last edition, each file that it
-- names stands with its hash, and so do the trust anchor's certificate and its locator.
abbrev pub ShowsLastIn : InstanceState → Type 0
ShowsLastIn state =
    IfSome state.outlet.files (ShowsEdition state.session state.site state.editions)
