-- What stands after an edition, with what is kept to go on.
use Rattle.std.specs.Prelude.{◌≡◌, ◌≢◌, ◌≤◌, ◌<◌, ℕ, List, [], length, slice_get, Some}
use Rattle.std.specs.Prelude.{All, AllPairs}
use Rattle.res_sets.specs.declared.holdings.Resources.{Resources}
use Rattle.authority_book.specs.Settings.{Settings}
use Rattle.authority_book.specs.declared.commands.Command.{Command}
use Rattle.authority_book.specs.Fold.{empty_settings, fold_of, Taken}
use Rattle.entitle.specs.declared.trees.Owed.{Owed}
use Rattle.entitle.specs.Certified.{settings_of, AreCertified}
use Rattle.entitle.specs.Owed.{AreOwed}
use Rattle.key_roll.specs.declared.rows.KeyRow.{KeyRow}
use Rattle.key_roll.specs.declared.issued.IssuedRow.{IssuedRow}
use Rattle.pub_set.specs.declared.objects.Object.{Object}
use Rattle.pub_set.specs.Objects.{Rise}
use Rattle.issue_values.specs.Bodies.{AreRevoked}
use Rattle.issue_keys.specs.Keys.{id_of}
use Rattle.editions.specs.Edition.{cut_at}
use Rattle.editions.specs.declared.published_state.StateParts.{StateParts}
use Rattle.editions.specs.declared.published_state.PublishedNumbers.{PublishedNumbers}

-- The serial and the moment of an edition; how many commands of each desk it takes in; its live
-- keys; the table of what stands, and what stands; and at its cut the configuration of each desk,
-- what the authorities are certified for, and the origins that are owed.
pub record PublishedStateValue : Type 0 where
  pub serial : ℕ
  pub moment : ℕ
  pub cut : List ℕ
  pub rows : List KeyRow
  pub issued : List IssuedRow
  pub set : List Object
  pub configs : List Settings
  pub sets : List Resources
  pub owed : List Owed

abbrev pub value_of : StateParts → PublishedStateValue
value_of parts = record {
  serial = parts.serial;
  moment = parts.moment;
  cut = parts.cut;
  rows = parts.rows;
  issued = parts.issued.rows;
  set = parts.set;
  configs = settings_of parts.configs;
  sets = parts.tree.sets.items;
  owed = parts.owed;
}

-- How many desks there are.
abbrev pub desks : ℕ
desks = 64

-- ---- what holds of each published state

-- Live keys at a moment: no two have one identifier, and none has an entry or a CRL that is later.
pub record AreLive (moment : ℕ) (rows : List KeyRow) : Type 0 where
  pub apart : AllPairs (λ a b. id_of a ≢ id_of b) rows
  pub revoked : All (λ row. AreRevoked moment row.revoked) rows
  pub dated : All (λ row. row.this_update ≤ moment) rows

-- The configuration is what so many commands of the desk come to, each accepted in its turn.
pub record IsTakenIn (desk count : ℕ) (config : Settings) : Type 0 where
  pub commands : List Command
  pub taken : Taken desk commands
  pub is : config ≡ fold_of desk commands
  pub counted : length commands ≡ count

-- Each configuration is what the commands that the cut takes in come to.
abbrev pub AreTakenIn : List Settings → List ℕ → Type 0
AreTakenIn configs cut = (desk : ℕ) (config : Settings)
    → slice_get configs desk ≡ Some config → IsTakenIn desk (cut_at cut desk) config

-- A number and a configuration for each desk, and what these come to; live keys; and the table by
-- rising URI.
pub record IsConsistentState (published_state : PublishedStateValue) : Type 0 where
  pub cut : length published_state.cut ≡ desks
  pub configs : length published_state.configs ≡ desks
  pub taken : AreTakenIn published_state.configs published_state.cut
  pub certified : AreCertified published_state.configs published_state.sets
  pub owes : AreOwed published_state.configs published_state.owed
  pub live : AreLive published_state.moment published_state.rows
  pub rising : Rise (λ row. row.uri) published_state.issued

-- ---- the first one

-- No command of any desk.
pub record IsFirstCut (cut : List ℕ) : Type 0 where
  pub one_each : length cut ≡ desks
  pub none : All (λ n. n ≡ 0) cut

-- The configuration of each desk before its first command.
pub record AreFirstConfigs (configs : List Settings) : Type 0 where
  pub one_each : length configs ≡ desks
  pub empty : (desk : ℕ) → desk < desks → slice_get configs desk ≡ Some (empty_settings desk)

-- Nothing was published, and no command taken in.
pub record IsFirst (published_state : PublishedStateValue) : Type 0 where
  pub serial : published_state.serial ≡ 0
  pub moment : published_state.moment ≡ 0
  pub cut : IsFirstCut published_state.cut
  pub rows : published_state.rows ≡ []
  pub issued : published_state.issued ≡ []
  pub set : published_state.set ≡ []
  pub configs : AreFirstConfigs published_state.configs

-- ---- what an edition is known by

abbrev pub published_of : PublishedStateValue → PublishedNumbers
published_of published_state = record {
  serial = published_state.serial;
  moment = published_state.moment;
  objects = length published_state.set;
  origins = length published_state.owed;
}
