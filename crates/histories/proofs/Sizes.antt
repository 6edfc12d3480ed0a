-- How many bytes the records of a press's journal take.
use Rattle.std.proofs.Common.{◌≡◌, ℕ, ◌+◌, refl, sym, ◌∙◌, ap, arith, List, [], ◌∷◌, length, map, replicate, length-append}
use Rattle.gate_journal.specs.Format.{taken_by, held_by}
use Rattle.record_forms.specs.Form.{Spells}
use Rattle.record_forms.specs.Forms.{both, sized}
use Rattle.key_ids.specs.Uris.{Bases}
use Rattle.editions.specs.Edition.{Edition}
use Rattle.press_records.specs.Edition.{EditionValue, StandingValue, nothing_stands, after_edition}
use Rattle.press_records.specs.Records.{AreRecordsOf}
use Rattle.press_records.specs.Store.{Store as Owner, stores, IsStoreRecord}
use Rattle.press_core.specs.JournalRecords.{AreRecords, store_for}
use Rattle.press_core.specs.Records.{edition_value}
use Rattle.histories.specs.Legal.{store_record, records_over, press_bytes_for}

records_are : (before : StandingValue) (editions : List EditionValue) (records : List (List ℕ)) → AreRecordsOf before editions records
    → records ≡ records_over before editions
records_are before [] [] are = refl
records_are before [] (bytes ∷ records) are = absurd are
records_are before (edition ∷ later) [] are = absurd are
records_are before (edition ∷ later) (bytes ∷ records) are = λ i.
    are.0.spelled i ∷ records_are (after_edition before edition) later records are.1 i

abbrev bases_bytes : List ℕ × List ℕ → List ℕ
bases_bytes bases = (both sized sized).spelling bases

store_long : (session : List ℕ) (bases : List ℕ × List ℕ)
    → length (stores.spelling (session, bases)) ≡ 3 + (length session + length (bases_bytes bases))
unfolding stores
store_long session bases = let parts = length-append session (bases_bytes bases) in omega (arith, parts)

session_long : (owner : Owner) (bytes : List ℕ) → Spells stores owner bytes → length owner.0 ≡ 16
unfolding stores
session_long owner bytes is = is.good.0

-- A store's record is as long in each session.
as_long : (session : List ℕ) (site : Bases) (first : List ℕ) → IsStoreRecord (store_for session site) first
    → length first ≡ length (store_record site)
as_long session site first is =
    let bases : List ℕ × List ℕ = (site.rsync, site.rrdp) in
    let spelled : length first ≡ length (stores.spelling (session, bases)) = ap length is.spelled.spelled in
    let one = store_long session bases in
    let other = store_long (replicate 16 0) bases in
    let sixteen = session_long (store_for session site) first is.spelled in
    spelled ∙ (one ∙ (ap (λ (n : ℕ). 3 + (n + length (bases_bytes bases))) sixteen ∙ sym other))

pub takes : (session : List ℕ) (site : Bases) (editions : List Edition) (records : List (List ℕ))
    → AreRecords (store_for session site) editions records → held_by records ≡ press_bytes_for site editions
takes session site editions records are =
    let first = as_long session site are.first are.named in
    let rest = ap (λ (r : List (List ℕ)). taken_by (map length r)) (records_are nothing_stands (map edition_value editions) are.rest are.each) in
    let whole : held_by records ≡ 17 + (9 + length are.first + taken_by (map length are.rest)) = ap held_by are.is in
    whole ∙ (λ i. 17 + (9 + first i + rest i))
