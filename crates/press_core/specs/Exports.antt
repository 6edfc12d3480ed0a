-- What an export of a press puts and removes (RFC 8182 section 3.3.2, RFC 8630), and what whoever
-- fetches the files finds then.
use Rattle.std.specs.Prelude.{◌≡◌, ◌≤◌, ℕ, ◌+◌, Bool, true, nat_lt, List, [], ◌∷◌, ◌++◌, length, take}
use Rattle.std.specs.Prelude.{Option, None, Some, option_map, Result, Ok, Err, codes}
use Rattle.key_ids.specs.Uris.{Bases, anchor_uri}
use Rattle.key_roll.specs.declared.rows.KeyRow.{KeyRow}
use Rattle.key_roll.specs.declared.rows.Role.TheVariants.{Current}
use Rattle.pub_set.specs.Objects.{content_at}
use Rattle.issue_plan.specs.Keys.{row_of}
use Rattle.editions.specs.Edition.{Edition, state_after, set_after}
use Rattle.editions.specs.PublishedState.{PublishedStateValue}
use Rattle.outlet_api.specs.Calls.{Files, Call, put}
use Rattle.rrdp_text.specs.Locator.{locator_text}
use Rattle.rrdp_state.specs.Exported.{Repository, export_calls}
use Rattle.rrdp_state.specs.Coherent.{Shows, Coherent}
use Rattle.press_core.specs.declared.last_export.LastExport.{LastExport}
use Rattle.press_core.specs.declared.last_export.LastExport.TheVariants.{NoExport, Failed, Done}
use Rattle.press_core.specs.Press.{PressValue}
use Rattle.press_core.specs.Files.{rrdp_editions, repository_at, repository_of}

-- ---- the trust anchor's files

abbrev pub certificate_path : List ℕ
certificate_path = codes "ta.cer"

abbrev pub locator_path : List ℕ
locator_path = codes "ta.tal"

-- The locator of the anchor's key: the URIs of its certificate, by rsync and by https, and the key
-- (RFC 8630 section 2.2).
abbrev pub anchor_locator : Bases → List ℕ → List ℕ
anchor_locator site key =
    locator_text (anchor_uri site ∷ (site.rrdp ++ certificate_path) ∷ []) key

abbrev pub locator_for : Bases → KeyRow → List ℕ
locator_for site row = anchor_locator site row.key.bytes

abbrev pub file_put : List ℕ → Option (List ℕ) → List Call
file_put path None = []
file_put path (Some bytes) = put path bytes ∷ []

-- The certificate that stands at the anchor's URI, and the locator of the anchor's current key.
abbrev pub anchor_puts : Bases → PublishedStateValue → List Call
anchor_puts site at = file_put certificate_path (content_at at.set (anchor_uri site))
    ++ file_put locator_path (option_map (locator_for site) (row_of at.rows 0 Current))

-- ---- the calls of an export

-- Every named delta is put and nothing is removed, unless the last export ended Ok and was of this
-- edition or of the one before it.
abbrev pub puts_all : LastExport → ℕ → Bool
puts_all NoExport serial = true
puts_all Failed serial = true
puts_all (Done exported) serial = nat_lt (exported + 1) serial

-- What the press's next export does.
abbrev pub export_of : PressValue → List Edition → List Call
export_of press editions = export_calls (repository_of press) (rrdp_editions editions)
    (puts_all press.last_export press.at.serial) (anchor_puts press.site press.at)

-- What is said of an export of that serial.
abbrev pub ended_by : {T E : Type 0} → Result T E → ℕ → LastExport
ended_by (Ok done) serial = Done serial
ended_by (Err fault) serial = Failed

-- ---- what is found

-- The notification is that of the newest edition, and each file that it names stands with its hash.
abbrev pub ShowsFiles : Repository → List Edition → Files → Type 0
ShowsFiles repository editions files = Shows repository (rrdp_editions editions) files

-- There is no notification, or it is that of one of the editions, and each file that it names stands
-- with its hash.
abbrev pub IsCoherent : Repository → List Edition → Files → Type 0
IsCoherent repository editions files = Coherent repository (rrdp_editions editions) files

-- And the anchor's certificate is that of the newest edition's set, and the locator that of its
-- current key.
pub record ShowsEdition (session : List ℕ) (site : Bases) (editions : List Edition)
    (files : Files) : Type 0 where
  pub rrdp : ShowsFiles (repository_at session site) editions files
  pub certificate : (bytes : List ℕ) → set_after editions (anchor_uri site) ≡ Some bytes
      → files certificate_path ≡ Some bytes
  pub locator : (row : KeyRow) → row_of (state_after editions).rows 0 Current ≡ Some row
      → files locator_path ≡ Some (locator_for site row)

-- There are so many editions, and the files show the last of these.
pub record ShowsSerial (Shown : List Edition → Files → Type 0) (editions : List Edition)
    (serial : ℕ) (files : Files) : Type 0 where
  pub within : serial ≤ length editions
  pub shown : Shown (take serial editions) files

-- Where the last export ended Ok and the outlet tells its files, they show the edition that was
-- exported then.
abbrev pub ShowsLast : (List Edition → Files → Type 0) → List Edition → LastExport
    → Option Files → Type 0
ShowsLast P editions NoExport files = Unit {0}
ShowsLast P editions Failed files = Unit {0}
ShowsLast P editions (Done serial) None = Unit {0}
ShowsLast P editions (Done serial) (Some files) = ShowsSerial P editions serial files
