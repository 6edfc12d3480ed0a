-- The edition that is prepared, among those before it.
use Rattle.std.specs.Prelude.{◌≡◌, ℕ, true, List, [], ◌∷◌, ◌++◌, All}
use Rattle.signer_api.specs.State.{SignerState}
use Rattle.signer_ring.specs.Calls.{Call}
use Rattle.authority_book.specs.declared.commands.Command.{Command}
use Rattle.pub_set.specs.Objects.{content_at}
use Rattle.editions.specs.Edition.{Edition, set_after}
use Rattle.editions.specs.Held.{HaveOwnSerials}
use Rattle.editions.specs.Step.{Premises, IsStep}
use Rattle.editions.specs.Due.{IsCalledFor}
use Rattle.editions.specs.Profile.{IsInProfile}
use Rattle.editions.specs.Published.{IsPublished, ManifestsRise}
use Rattle.editions.specs.VouchedCalls.{IsVouchedBy}
use Rattle.editions.specs.Gathering.{AreNextCommands}
use Rattle.press_core.specs.PrepareInput.{PrepareInput}
use Rattle.press_core.specs.Planned.{IsPrepared, calls_for}
use Rattle.press_core.specs.Next.{NextValue}
use Rattle.press_core.specs.Incremental.{IsIncremental}
use Rattle.press_core.specs.Stands.{IsLeftBy, StandsFor}

abbrev pub edition_of : NextValue → Edition
edition_of prepared = record {
  serial = prepared.next.serial;
  moment = prepared.next.moment;
  cut = prepared.next.cut;
  rows = prepared.next.rows;
  changes = prepared.changes;
}

-- The published state stands for these editions, and the commands of the desks go on behind them
-- with what was gathered, in the press's own repository; and what was signed by these calls is
-- vouched.
pub record AreBehind (start : PrepareInput) (calls : List Call) (premises : Premises)
    (editions : List Edition) : Type 0 where
  pub stands : StandsFor premises editions start.at
  pub gathered : AreNextCommands premises.lists start.at.cut start.gathered
  pub site : premises.site ≡ start.site
  pub vouched : All (IsVouchedBy premises.vouched) calls

-- The edition follows those before it and is called for, and what will stand is what all of them
-- leave. A manifest that takes another's place has a greater number and a later time (RFC 9286
-- section 4.2.1), and no two certificates of one life of a key have one serial (RFC 6487 section 4.2).
pub record Follows (premises : Premises) (clock : ℕ) (editions : List Edition)
    (prepared : NextValue) : Type 0 where
  pub step : IsStep premises clock editions (edition_of prepared)
  pub called : IsCalledFor premises editions prepared.next.cut prepared.next.moment true
  pub stands : StandsFor premises (editions ++ edition_of prepared ∷ []) prepared.next
  pub manifests :
      ManifestsRise (set_after editions) (set_after (editions ++ edition_of prepared ∷ []))
  pub serials : (id : List ℕ) → HaveOwnSerials (editions ++ edition_of prepared ∷ []) id
  -- the set keeps what the profiles ask beside a relying party's walk (RFC 6487 section 4)
  pub profile : IsInProfile (set_after (editions ++ edition_of prepared ∷ []))

-- What a press prepares. The calls of its signers are the same ones throughout.
pub record IsNextEdition (start : PrepareInput) (ring : List SignerState)
    (prepared : NextValue) : Type 0 where
  -- an edition was called for, and this is what the signers made of its plan
  pub is_prepared : IsPrepared start ring prepared
  -- what fits stays, and no signature is given for it
  pub incremental : IsIncremental start ring prepared
  -- behind whatever editions left what stood, it leaves what will stand
  pub left : (lists : List (List Command)) (editions : List Edition)
      → IsLeftBy lists editions start.at → AreNextCommands lists start.at.cut start.gathered
      → IsLeftBy lists (editions ++ edition_of prepared ∷ []) prepared.next
  -- it follows the editions that the press stands for, whichever these are
  pub follows : (premises : Premises) (editions : List Edition)
      → AreBehind start (calls_for start ring prepared is_prepared) premises editions
      → Follows premises start.clock editions prepared
  -- to relying parties its set is sound, and yields what is owed
  pub published : (premises : Premises) (editions : List Edition)
      → AreBehind start (calls_for start ring prepared is_prepared) premises editions
      → IsPublished premises (edition_of prepared) (content_at prepared.next.set)
