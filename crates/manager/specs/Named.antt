-- What was found when a store was opened. It exists in contracts alone: whoever takes a lock knows what
-- lies behind it by these names.
use Rattle.std.specs.Prelude.{ℕ, List, [], Option, None}
use Rattle.key_ids.specs.Uris.{Bases}
use Rattle.signer_api.specs.State.{SignerState}
use Rattle.outlet_api.specs.Calls.{Files}
use Rattle.notice_board.specs.declared.shown.ListId.{ListId}
use Rattle.editions.specs.PublishedState.{PublishedStateValue}
use Rattle.rrdp_state.specs.Kept.{Kept}

-- How many calls of the disks of the desks, of the press's disk and of the outlet had failed.
pub record FaultCounts : Type 0 where
  pub desks : List ℕ
  pub press : ℕ
  pub outlet : ℕ

-- The bases of the repository and the session of its RRDP files; the records of each desk; what stands
-- after the last edition, the RRDP files that are kept of the editions, and the records of the press's
-- journal, where its disk tells; the signers, what the outlet showed, the board's list, and the counts
-- of faults.
pub record Named : Type 0 where
  pub site : Bases
  pub session : List ℕ
  pub records : List (List (List ℕ))
  pub at : PublishedStateValue
  pub kept : Kept
  pub journal : Option (List (List ℕ))
  pub signers : List SignerState
  pub files : Option Files
  pub list : ListId
  pub faults : FaultCounts

abbrev pub nothing_at : PublishedStateValue
nothing_at = record {
  serial = 0;
  moment = 0;
  cut = [];
  rows = [];
  issued = [];
  set = [];
  configs = [];
  sets = [];
  owed = [];
}

abbrev pub nothing_kept : Kept
nothing_kept = record {
  session = [];
  base = [];
  serial = 0;
  deltas = [];
  previous = 0;
  before = 0;
}

abbrev pub nothing_named : Named
nothing_named = record {
  site = record { rsync = []; rrdp = [] };
  session = [];
  records = [];
  at = nothing_at;
  kept = nothing_kept;
  journal = None;
  signers = [];
  files = None;
  list = record { number = 0; log_name = 0; cells_name = 0 };
  faults = record { desks = []; press = 0; outlet = 0 };
}
