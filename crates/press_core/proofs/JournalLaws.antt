-- The records of editions, and of one more behind them.
use Rattle.std.proofs.Common.{◌≡◌, ℕ, Option, Some, None, List, [], ◌∷◌, ◌++◌, map, refl, sym, ap, subst, ◌∙◌, inl, inr}
use Rattle.std.proofs.lemmas.List.{map-append}
use Rattle.record_forms.specs.Form.{Spells}
use Rattle.authority_book.specs.declared.commands.Command.{Command}
use Rattle.disk_api.specs.Runs.{LeavesOnly}
use Rattle.disk_api.specs.laws.RunLaws.{weaker}
use Rattle.disk_api.specs.declared.disk.Disk.{Ghosts as DiskGhosts}
use Rattle.std.specs.Prelude.{IfSome, option_map}
use Rattle.gate_journal.specs.View.{View, RecoversToKnown, RecoversToInDoubt, stake_of}
use Rattle.press_records.specs.Rows.{row_value}
use Rattle.press_records.specs.Edition.{EditionValue, StandingValue, nothing_stands, editions, IsAlike}
use Rattle.press_records.specs.Records.{AreRecordsOf, after_editions}
use Rattle.press_records.specs.Store.{Store}
use Rattle.editions.specs.Edition as edition
use Rattle.editions.specs.Edition.{Edition, State, state_from, state_after}
use Rattle.editions.specs.PublishedState.{PublishedStateValue}
use Rattle.press_core.specs.Press.{PressValue}
use Rattle.press_core.specs.Next.{NextValue}
use Rattle.press_core.specs.Stands.{IsLeftBy}
use Rattle.press_core.specs.Follows.{edition_of}
use Rattle.press_core.specs.Records.{edition_value, standing_at, standing_of}
use Rattle.press_core.specs.JournalRecords.{IsRecordOf, AreRecords, Finds, FindsOrWith, press_limit, store_for}
use Rattle.press_core.specs.Stored.{StoredValue, StoredPreparedValue, store_of, HasRecordsOf, IsStoreOf}

-- What records say that editions leave is what editions leave.
left-same : (state : State) (later : List Edition) → after_editions (standing_at state) (map edition_value later) ≡ standing_at (state_from state later)
left-same state [] = refl
left-same state (one ∷ later) = left-same (edition.after_edition state one) later

pub alike : (lists : List (List Command)) (editions : List Edition) (at : PublishedStateValue) → IsLeftBy lists editions at
    → IsAlike (standing_of at) (after_editions nothing_stands (map edition_value editions))
alike lists editions at left =
    subst (IsAlike (standing_of at)) (sym (left-same edition.first_state editions)) (record {
      serial = left.serial;
      moment = left.moment;
      cut = left.cut;
      rows = ap (map row_value) left.rows;
      set = left.set;
    })

-- The laws of the layer below.
pub record RecordLaws : Type 0 where
  pub more : (before : StandingValue) (earlier : List EditionValue) (records : List (List ℕ)) (edition : EditionValue) (bytes : List ℕ)
      → AreRecordsOf before earlier records → Spells (editions (after_editions before earlier)) edition bytes
      → AreRecordsOf before (earlier ++ edition ∷ []) (records ++ bytes ∷ [])
  pub alike : (one other : StandingValue) (edition : EditionValue) (bytes : List ℕ) → IsAlike one other
      → Spells (editions one) edition bytes → Spells (editions other) edition bytes

pub go-on : RecordLaws → (lists : List (List Command)) (before : List Edition) (at : PublishedStateValue) (prepared : NextValue) (store : Store) (records : List (List ℕ)) (entry : List ℕ)
    → IsLeftBy lists before at → AreRecords store before records → IsRecordOf at prepared entry
    → AreRecords store (before ++ edition_of prepared ∷ []) (records ++ entry ∷ [])
go-on laws lists before at prepared store records entry left are is = record {
  first = are.first;
  rest = are.rest ++ entry ∷ [];
  is = ap (λ (l : List (List ℕ)). l ++ entry ∷ []) are.is;
  named = are.named;
  each = subst (λ (l : List EditionValue). AreRecordsOf nothing_stands l (are.rest ++ entry ∷ [])) (sym (map-append edition_value before (edition_of prepared ∷ [])))
      (laws.more nothing_stands (map edition_value before) are.rest (edition_value (edition_of prepared)) entry are.each
      (laws.alike (standing_of at) (after_editions nothing_stands (map edition_value before)) (edition_value (edition_of prepared)) entry (alike lists before at left) is));
}

-- ---- a press's

abbrev pub Law : Type 0
Law = (lists : List (List Command)) (before : List Edition) (at : PublishedStateValue) (prepared : NextValue) (store : Store) (records : List (List ℕ)) (entry : List ℕ)
    → IsLeftBy lists before at → AreRecords store before records → IsRecordOf at prepared entry
    → AreRecords store (before ++ edition_of prepared ∷ []) (records ++ entry ∷ [])

-- An image with the records, or with these and one more, has the editions, or these and one more.
pub image-of : Law → (lists : List (List Command)) (before : List Edition) (at : PublishedStateValue) (prepared : NextValue) (store : Store) (records : List (List ℕ)) (entry image : List ℕ)
    → IsLeftBy lists before at → AreRecords store before records → IsRecordOf at prepared entry
    → RecoversToInDoubt press_limit (Some records) (Some entry) image → FindsOrWith store before (edition_of prepared) image
image-of law lists before at prepared store records entry image left are is found = elim found [
  | inl old ↦ inl (record { records = records; whole = old; are = are })
  | inr with ↦ inr (record {
    records = records ++ entry ∷ [];
    whole = with;
    are = law lists before at prepared store records entry left are is;
  })
]

-- During a commit each image has the editions, or these and the one that is committed.
pub moments : {D : Type 0} (disk_of : DiskGhosts D) → Law → (stored : StoredValue D) (new : D) (prepared : StoredPreparedValue)
    → stored.journal.limit ≡ press_limit → stored.journal.shut ≡ None → IsRecordOf stored.press.at prepared.edition prepared.entry
    → LeavesOnly disk_of stored.journal.disk new (RecoversToInDoubt stored.journal.limit stored.journal.records (stake_of stored.journal.shut stored.journal.doubt prepared.entry))
    → LeavesOnly disk_of stored.journal.disk new (λ image. (lists : List (List Command)) (before : List Edition) → IsLeftBy lists before stored.press.at
    → IsStoreOf before stored → FindsOrWith (store_of stored) before (edition_of prepared.edition) image)
moments disk_of law stored new prepared limit is_open is all =
    weaker disk_of stored.journal.disk new
    (RecoversToInDoubt stored.journal.limit stored.journal.records (stake_of stored.journal.shut stored.journal.doubt prepared.entry))
    (λ image. (lists : List (List Command)) (before : List Edition) → IsLeftBy lists before stored.press.at
    → IsStoreOf before stored → FindsOrWith (store_of stored) before (edition_of prepared.edition) image) all
    (λ image found lists before left store.
    let journal = stored.journal in
    let within = subst (λ (n : ℕ). RecoversToInDoubt n journal.records (stake_of journal.shut journal.doubt prepared.entry) image) limit found in
    let at_stake = subst (λ (s : Option (ℕ × ℕ)). RecoversToInDoubt press_limit journal.records (stake_of s journal.doubt prepared.entry) image) is_open within in
    let told = subst (λ (r : Option (List (List ℕ))). RecoversToInDoubt press_limit r (Some prepared.entry) image) store.told at_stake in
    image-of law lists before stored.press.at prepared.edition (store_of stored) store.records prepared.entry image left store.are is told)

-- With the new record behind them the records are those of the editions with the new one behind them.
pub records-more : Law → (lists : List (List Command)) (before : List Edition) (at : PublishedStateValue) (prepared : NextValue) (store : Store) (old new : Option (List (List ℕ))) (entry : List ℕ)
    → IsLeftBy lists before at → IsRecordOf at prepared entry → new ≡ option_map (λ all. all ++ entry ∷ []) old
    → IfSome old (AreRecords store before) → IfSome new (AreRecords store (before ++ edition_of prepared ∷ []))
records-more law lists before at prepared store None new entry left is more are =
    subst (λ (o : Option (List (List ℕ))). IfSome o (AreRecords store (before ++ edition_of prepared ∷ []))) (sym more) tt
records-more law lists before at prepared store (Some records) new entry left is more are =
    subst (λ (o : Option (List (List ℕ))). IfSome o (AreRecords store (before ++ edition_of prepared ∷ []))) (sym more)
    (law lists before at prepared store records entry left are is)

-- Of a press whose journal has the new record.
pub has-records-more : {D : Type 0} → Law → (old : StoredValue D) (press : PressValue) (place : View D) (prepared : StoredPreparedValue)
    → IsRecordOf old.press.at prepared.edition prepared.entry → press.rrdp.session ≡ old.press.rrdp.session → press.site ≡ old.press.site
    → place.records ≡ option_map (λ all. all ++ prepared.entry ∷ []) old.journal.records
    → (lists : List (List Command)) (before : List Edition) → IsLeftBy lists before old.press.at → HasRecordsOf before old
    → IfSome place.records (AreRecords (store_for press.rrdp.session press.site) (before ++ edition_of prepared.edition ∷ []))
has-records-more law old press place prepared is session site more lists before left has =
    let same : store_for press.rrdp.session press.site ≡ store_of old = λ i. store_for (session i) (site i) in
    subst (λ (store : Store). IfSome place.records (AreRecords store (before ++ edition_of prepared.edition ∷ []))) (sym same)
    (records-more law lists before old.press.at prepared.edition (store_of old) old.journal.records place.records prepared.entry left is more has)

-- An image with all records of such a journal has the editions with the new one behind them.
pub durable-more : {D : Type 0} → Law → (old : StoredValue D) (place : View D) (prepared : StoredPreparedValue)
    → IsRecordOf old.press.at prepared.edition prepared.entry → place.limit ≡ press_limit
    → place.records ≡ option_map (λ all. all ++ prepared.entry ∷ []) old.journal.records
    → (lists : List (List Command)) (before : List Edition) (image : List ℕ) → IsLeftBy lists before old.press.at → IsStoreOf before old
    → RecoversToKnown place.limit place.records image → Finds (store_of old) (before ++ edition_of prepared.edition ∷ []) image
durable-more law old place prepared is limit more lists before image left store known =
    let told : place.records ≡ Some (store.records ++ prepared.entry ∷ []) =
    more ∙ ap (λ (o : Option (List (List ℕ))). option_map (λ (all : List (List ℕ)). all ++ prepared.entry ∷ []) o) store.told in
    record {
      records = store.records ++ prepared.entry ∷ [];
      whole = subst (λ (r : Option (List (List ℕ))). RecoversToKnown press_limit r image) told
          (subst (λ (n : ℕ). RecoversToKnown n place.records image) limit known);
      are = law lists before old.press.at prepared.edition (store_of old) store.records prepared.entry left store.are is;
    }
