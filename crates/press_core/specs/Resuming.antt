-- When a press goes on over what was loaded: the audited set yields what is owed, and the keys'
-- rows agree with the points that were found.
use Rattle.std.specs.Prelude.{◌≡◌, ◌≢◌, ◌<◌, ℕ, true, List, [], Option, None, Some, All, AllPairs, length, get_or, slice_get}
use Rattle.std.specs.String.{string_bytes}
use Rattle.sha1.specs.Sha1.{sha1}
use Rattle.signer_api.specs.State.{SignerState}
use Rattle.signer_ring.specs.Ring.{AllTell, Vouched}
use Rattle.key_ids.specs.Uris.{Bases}
use Rattle.key_roll.specs.declared.rows.KeyRow.{KeyRow}
use Rattle.authority_book.specs.declared.commands.Command.{Command}
use Rattle.authority_book.specs.Settings.{Settings}
use Rattle.authority_book.specs.Fold.{fold_of, Taken}
use Rattle.entitle.specs.declared.trees.Owed.{Owed}
use Rattle.entitle.specs.Certified.{names_of}
use Rattle.entitle.specs.Owed.{AreOwed}
use Rattle.rp_rules.specs.Certificates.{WalkContext}
use Rattle.rp_rules.specs.Sound.{IsAuditOf, IsSound}
use Rattle.rp_rules.specs.Yield.{AuditedValue, Yielded}
use Rattle.pub_set.specs.Objects.{content_at}
use Rattle.editions.specs.Edition.{Edition, cut_at}
use Rattle.editions.specs.Table.{IsTable}
use Rattle.editions.specs.Step.{Premises, AreSteps, BeginsWith}
use Rattle.editions.specs.Gathering.{commands_of, AreOfDesks}
use Rattle.editions.specs.PublishedState.{desks}
use Rattle.editions.specs.declared.gathered.Gathered.{Gathered}
use Rattle.press_core.specs.declared.last_export.LastExport.TheVariants.{NoExport}
use Rattle.press_core.specs.declared.resume.ResumeFault.{ResumeFault}
use Rattle.press_core.specs.declared.resume.ResumeFault.TheVariants as why
use Rattle.press_core.specs.Agreement.{owed_yield, AreSameOrigins, IsOtherOrigin, mismatch, first_mismatch}
use Rattle.press_core.specs.Stands.{IsLeftBy, StandsFor}
use Rattle.press_core.specs.Loading.{LoadedValue, IsLeftAs, anchor_of}
use Rattle.press_core.specs.Tables.{Home, homes_of, IsHashed, AreOfProfile, HasOthers}
use Rattle.press_core.specs.Stored.{StoredValue}

-- ---- the audit

-- The audit is that of this very set, at the moment of the last edition, below the trust anchor's
-- key and at these bases; and what it took for vouched some signer of the ring vouches for, where
-- all tell.
pub record IsAuditedBy {D : Type 0} (loaded : LoadedValue D) (ring : List SignerState)
    (audited : AuditedValue) : Type 0 where
  pub context : WalkContext
  pub anchor : anchor_of loaded.rows ≡ Some context.anchor
  pub bases : context.bases ≡ loaded.site
  pub moment : context.moment ≡ loaded.moment
  pub vouched : (key digest signature : List ℕ) → context.vouched key digest signature ≡ true
      → AllTell ring → Vouched ring key digest signature
  pub audit : IsAuditOf context loaded.set audited

-- There is an audit just where there was an edition.
abbrev pub IsAudited : {D : Type 0} → LoadedValue D → List SignerState → Option AuditedValue
    → Type 0
IsAudited loaded ring None = loaded.serial ≡ 0
IsAudited loaded ring (Some audited) = (loaded.serial ≢ 0) × IsAuditedBy loaded ring audited

-- ---- the commands up to the cut

-- Of each desk so many commands as the cut takes in, from the first on, each accepted in its turn.
pub record AreFirsts (cut : List ℕ) (firsts : List Gathered) : Type 0 where
  pub desks : AreOfDesks (length cut) firsts
  pub once : AllPairs (λ a b. a.desk ≢ b.desk) firsts
  pub from : All (λ group. group.from ≡ 0) firsts
  pub count : (desk : ℕ) → length (commands_of firsts desk) ≡ cut_at cut desk
  pub taken : (desk : ℕ) → desk < length cut → Taken desk (commands_of firsts desk)

-- The configurations of the desks, which are what these commands come to.
pub record AreConfigsOf (firsts : List Gathered) (configs : List Settings) : Type 0 where
  pub one_each : length configs ≡ desks
  pub folded : (desk : ℕ) → desk < desks
      → slice_get configs desk ≡ Some (fold_of desk (commands_of firsts desk))

-- The desks' commands begin with them.
abbrev pub GoOnFrom : List (List Command) → List Gathered → Type 0
GoOnFrom lists firsts =
    (desk : ℕ) → BeginsWith (commands_of firsts desk) (get_or lists desk [])

-- ---- the press that goes on

-- Where the live keys publish.
abbrev pub homes_in : {D : Type 0} → StoredValue D → List Home
homes_in stored =
    homes_of stored.press.site (names_of stored.press.at.configs) stored.press.at.rows

-- What stands is what was loaded, with what the commands up to the cut come to; the journal, the
-- RRDP files, the signers and the bases are those that were handed in, and nothing was exported in
-- this run.
pub record GoesOn {D : Type 0} (loaded : LoadedValue D) (firsts : List Gathered)
    (signers : List SignerState) (stored : StoredValue D) : Type 0 where
  pub serial : stored.press.at.serial ≡ loaded.serial
  pub moment : stored.press.at.moment ≡ loaded.moment
  pub cut : (desk : ℕ) → cut_at stored.press.at.cut desk ≡ cut_at loaded.cut desk
  pub rows : stored.press.at.rows ≡ loaded.rows
  pub set : stored.press.at.set ≡ loaded.set
  pub configs : AreConfigsOf firsts stored.press.at.configs
  -- the table has the hash of each object, whatever the objects are
  pub hashed : IsHashed stored.press.at.set stored.press.at.issued
  -- and where they are such as a press makes, what they are for and until when they hold
  pub table : AreOfProfile (homes_in stored) stored.press.at.set
      → IsTable (content_at stored.press.at.set) stored.press.at.issued
  -- any other is never one that is wanted, and is told by its issuer and its serial
  pub others : HasOthers (homes_in stored) stored.press.at.set stored.press.at.issued
  -- behind whatever editions left what was loaded, over whatever commands go on behind those up to
  -- the cut
  pub left : (lists : List (List Command)) (editions : List Edition) → IsLeftAs editions loaded
      → length lists ≡ desks → GoOnFrom lists firsts → IsLeftBy lists editions stored.press.at
  -- and where these editions are steps, the press stands for them
  pub stands : (premises : Premises) (editions : List Edition) → IsLeftAs editions loaded
      → length premises.lists ≡ desks → GoOnFrom premises.lists firsts
      → AreSteps premises editions → StandsFor premises editions stored.press.at
  pub files : stored.press.rrdp ≡ loaded.rrdp
  pub journal : stored.journal ≡ loaded.journal
  pub site : stored.press.site ≡ loaded.site
  pub ring : stored.press.ring ≡ signers
  pub ended : stored.press.ended ≡ []
  pub last_export : stored.press.last_export ≡ NoExport

-- Whatever the disk held: the last set is sound at its moment to whoever goes by what the ring
-- vouches for, it yields just what is owed at its cut, and each row agrees with its point.
pub record IsAgreed {D : Type 0} (loaded : LoadedValue D) (ring : List SignerState)
    (stored : StoredValue D) (audited : AuditedValue) : Type 0 where
  pub by : IsAuditedBy loaded ring audited
  pub sound : IsSound by.context stored.press.at.set
  pub origins : AreSameOrigins
      (owed_yield loaded.site stored.press.at.configs stored.press.at.owed) audited.origins
  pub rows : first_mismatch loaded.rows audited.points ≡ None

abbrev pub AreAgreed : {D : Type 0} → LoadedValue D → List SignerState → StoredValue D
    → Option AuditedValue → Type 0
AreAgreed loaded ring stored None = Unit {0}
AreAgreed loaded ring stored (Some audited) = IsAgreed loaded ring stored audited

-- ---- why it doesn't go on

-- What is owed at the cut that was loaded, by these commands.
pub record IsOwedBy (site : Bases) (firsts : List Gathered) (owed : List Yielded)
    : Type 0 where
  pub configs : List Settings
  pub come : AreConfigsOf firsts configs
  pub list : List Owed
  pub owes : AreOwed configs list
  pub is : owed ≡ owed_yield site configs list

-- Each but want of memory just where its cause holds. Where both do, the origins come first.
abbrev pub IsFaultAt : Bases → List KeyRow → List Gathered → AuditedValue → ResumeFault → Type 0
IsFaultAt site rows firsts audited (why.OriginsDiffer uri) =
    (owed : List Yielded) × IsOwedBy site firsts owed
    × IsOtherOrigin owed audited.origins (string_bytes uri)
IsFaultAt site rows firsts audited (why.RowMismatch key field kept found) =
    ((owed : List Yielded) × IsOwedBy site firsts owed × AreSameOrigins owed audited.origins)
    × ((bytes : List ℕ) × (key.bytes ≡ sha1 bytes)
    × (first_mismatch rows audited.points ≡ Some (mismatch bytes field kept found)))
IsFaultAt site rows firsts audited why.Memory = Unit {0}

-- Without an edition there is none but want of memory.
abbrev pub IsResumeFault : {D : Type 0} → LoadedValue D → List Gathered → Option AuditedValue
    → ResumeFault → Type 0
IsResumeFault loaded firsts None (why.OriginsDiffer uri) = ⊥
IsResumeFault loaded firsts None (why.RowMismatch key field kept found) = ⊥
IsResumeFault loaded firsts None why.Memory = Unit {0}
IsResumeFault loaded firsts (Some audited) fault =
    IsFaultAt loaded.site loaded.rows firsts audited fault
