-- The press by its journal: the room for one more record, and what is found of an image.
use Rattle.std.proofs.Common.{◌≡◌, ℕ, ◌+◌, ◌≤◌, refl, sym, subst, ◌∙◌, ap, arith, inl, inr, ⊎_elim, false, List, [], ◌∷◌, ◌++◌, length, map, replicate, Some, None, length-append}
use Rattle.std.specs.Prelude.{◌<◌, All, Option, IfSome, IsSome}
use Rattle.std.proofs.lemmas.Bool.{false≢true}
use Rattle.authority_book.specs.declared.commands.Command.{Command}
use Rattle.disk_api.specs.declared.memory.MemoryDisk.{MemoryDisk}
use Rattle.gate_journal.specs.Answers.{CanAppend}
use Rattle.gate_journal.specs.Format.{taken_by, held_for, held_by}
use Rattle.gate_journal.specs.View.{View as Journal, RecoversTo, RecoversToInDoubt, RecoversToOrWith, HasSizes, IsSameButRoom}
use Rattle.record_forms.specs.Form.{Spells}
use Rattle.record_forms.specs.Forms.{both, sized}
use Rattle.key_ids.specs.Uris.{Bases}
use Rattle.key_roll.specs.declared.rows.KeyRow.{KeyRow}
use Rattle.desk_core.specs.View.{View}
use Rattle.editions.specs.Edition.{Edition}
use Rattle.editions.specs.PublishedState.{PublishedStateValue}
use Rattle.editions.specs.declared.published_state.PublishedNumbers.{PublishedNumbers}
use Rattle.editions.specs.Step.{Premises, AreSteps, IsMore}
use Rattle.press_records.specs.Edition.{EditionValue, StandingValue, nothing_stands, after_edition}
use Rattle.press_records.specs.Records.{AreRecordsOf}
use Rattle.press_records.specs.Store.{Store as Owner, stores, IsStoreRecord}
use Rattle.press_core.specs.Follows.{edition_of}
use Rattle.press_core.specs.JournalRecords.{AreRecords, IsRecordOf, Finds, FindsOrWith, press_limit, store_for}
use Rattle.press_core.specs.Next.{NextValue}
use Rattle.press_core.specs.Press.{PressValue}
use Rattle.press_core.specs.Records.{edition_value}
use Rattle.press_core.specs.Stands.{IsLeftBy, StandsFor}
use Rattle.press_core.specs.Stored.{StoredValue, StoredPreparedValue, IsStoreOf, HasRecordsOf, store_of as owner_of}
use Rattle.histories.specs.Devices.{Device}
use Rattle.histories.specs.Legal.{IsFound, store_record, records_over, press_bytes_for}
use Rattle.test_histories.specs.declared.done.Done.{Done}
use Rattle.test_histories.specs.declared.done.Done.TheVariants as told
use Rattle.test_histories.specs.Committed.{IsWritten, IsCommitted}
use Rattle.test_histories.specs.Opened.{AreFoundIn, IsPressOpened}
use Rattle.test_histories.specs.Standing.{IsInDoubt, MayStandFor, IsPress}
use Rattle.test_histories.proofs.More.{MoreStands}

-- ---- laws of press_core

-- The record of the next edition stands behind those before it.
abbrev pub RecordsGoOn : Type 0
RecordsGoOn = (lists : List (List Command)) (before : List Edition) (at : PublishedStateValue) (prepared : NextValue)
    (owner : Owner) (records : List (List ℕ)) (entry : List ℕ)
    → IsLeftBy lists before at → AreRecords owner before records → IsRecordOf at prepared entry
    → AreRecords owner (before ++ edition_of prepared ∷ []) (records ++ entry ∷ [])

-- Records tell one store and one list of editions.
abbrev pub OneStore : Type 0
OneStore = (owner other : Owner) (editions more : List Edition) (records : List (List ℕ))
    → AreRecords owner editions records → AreRecords other more records
    → (owner ≡ other) × (editions ≡ more)

-- ---- how many bytes the records take

records_are : (before : StandingValue) (editions : List EditionValue) (records : List (List ℕ)) → AreRecordsOf before editions records
    → records ≡ records_over before editions
records_are before [] [] are = refl
records_are before [] (bytes ∷ records) are = absurd are
records_are before (edition ∷ later) [] are = absurd are
records_are before (edition ∷ later) (bytes ∷ records) are = λ i.
    are.0.spelled i ∷ records_are (after_edition before edition) later records are.1 i

abbrev bases_bytes : List ℕ × List ℕ → List ℕ
bases_bytes bases = (both sized sized).spelling bases

store_long : (session : List ℕ) (bases : List ℕ × List ℕ)
    → length (stores.spelling (session, bases)) ≡ 3 + (length session + length (bases_bytes bases))
unfolding stores
store_long session bases = let parts = length-append session (bases_bytes bases) in omega (arith, parts)

session_long : (owner : Owner) (bytes : List ℕ) → Spells stores owner bytes → length owner.0 ≡ 16
unfolding stores
session_long owner bytes is = is.good.0

-- A store's record is as long in each session.
as_long : (session : List ℕ) (site : Bases) (first : List ℕ) → IsStoreRecord (store_for session site) first
    → length first ≡ length (store_record site)
as_long session site first is =
    let bases : List ℕ × List ℕ = (site.rsync, site.rrdp) in
    let spelled : length first ≡ length (stores.spelling (session, bases)) = ap length is.spelled.spelled in
    let one = store_long session bases in
    let other = store_long (replicate 16 0) bases in
    let sixteen = session_long (store_for session site) first is.spelled in
    spelled ∙ (one ∙ (ap (λ (n : ℕ). 3 + (n + length (bases_bytes bases))) sixteen ∙ sym other))

takes : (session : List ℕ) (site : Bases) (editions : List Edition) (records : List (List ℕ))
    → AreRecords (store_for session site) editions records → held_by records ≡ press_bytes_for site editions
takes session site editions records are =
    let first = as_long session site are.first are.named in
    let rest = ap (λ (r : List (List ℕ)). taken_by (map length r)) (records_are nothing_stands (map edition_value editions) are.rest are.each) in
    let whole : held_by records ≡ 17 + (9 + length are.first + taken_by (map length are.rest)) = ap held_by are.is in
    whole ∙ (λ i. 17 + (9 + first i + rest i))

held_more : (records : List (List ℕ)) (entry : List ℕ) → held_by (records ++ entry ∷ []) ≡ held_by records + (length entry + 9)
held_more [] entry = omega arith
held_more (first ∷ records) entry = let rest = held_more records entry in omega (arith, rest)

-- Where there is a place for the record, the journal has room for the edition.
pub has_room : (stored : StoredValue MemoryDisk) (list : List Edition) (holds : IsStoreOf list stored) (edition : Edition) (entry : List ℕ)
    → HasSizes stored.journal → stored.journal.limit ≡ press_limit → CanAppend stored.journal (length entry + 9)
    → AreRecords (owner_of stored) (list ++ edition ∷ []) (holds.records ++ entry ∷ [])
    → press_bytes_for stored.press.site (list ++ edition ∷ []) ≤ press_limit
has_room stored list holds edition entry sizes limit place are =
    let sized_so : stored.journal.sizes ≡ map length holds.records =
    subst (λ (o : Option (List (List ℕ))). IfSome o (λ all. stored.journal.sizes ≡ map length all)) holds.told sizes in
    let held : held_for stored.journal.sizes ≡ held_by holds.records = ap held_for sized_so in
    let more = held_more holds.records entry in
    let whole = takes stored.press.rrdp.session stored.press.site (list ++ edition ∷ []) (holds.records ++ entry ∷ []) are in
    let fits : held_for stored.journal.sizes + (length entry + 9) ≤ stored.journal.limit = place.fits in
    subst (λ (n : ℕ). n ≤ press_limit) whole
    (subst (λ (n : ℕ). n ≤ press_limit) (sym more)
    (subst (λ (n : ℕ). n + (length entry + 9) ≤ press_limit) held
    (subst (λ (n : ℕ). held_for stored.journal.sizes + (length entry + 9) ≤ n) limit fits)))

-- ---- a press that is the same but for its signers and the room

pub record IsLike (old new : StoredValue MemoryDisk) : Type 0 where
  pub owner : owner_of new ≡ owner_of old
  pub records : new.journal.records ≡ old.journal.records
  pub limit : new.journal.limit ≡ old.journal.limit
  pub shut : new.journal.shut ≡ old.journal.shut
  pub doubt : new.journal.doubt ≡ old.journal.doubt
  pub at : new.press.at ≡ old.press.at
  pub signers : length new.press.ring ≡ length old.press.ring

pub is_like : (old new : StoredValue MemoryDisk) → new.press ≡ record old.press { ring = new.press.ring } → IsSameButRoom old.journal new.journal
    → length new.press.ring ≡ length old.press.ring → IsLike old new
is_like old new kept room signers = record {
  owner = ap (λ (p : PressValue). store_for p.rrdp.session p.site) kept;
  records = ap (λ (j : Journal MemoryDisk). j.records) room;
  limit = ap (λ (j : Journal MemoryDisk). j.limit) room;
  shut = ap (λ (j : Journal MemoryDisk). j.shut) room;
  doubt = ap (λ (j : Journal MemoryDisk). j.doubt) room;
  at = ap (λ (p : PressValue). p.at) kept;
  signers = signers;
}

pub same_sizes : (old new : Journal MemoryDisk) → IsSameButRoom old new → HasSizes old → HasSizes new
same_sizes old new room sizes = subst (λ (j : Journal MemoryDisk). HasSizes j) (sym room) sizes

pub live_in : (state : PublishedStateValue) (new : StoredValue MemoryDisk) (n : ℕ) → new.press.at ≡ state → length new.press.ring ≡ n
    → All (λ (row : KeyRow). row.signer < n) state.rows → All (λ (row : KeyRow). row.signer < length new.press.ring) new.press.at.rows
live_in state new n same_at same_ring live =
    subst (λ (m : ℕ). All (λ (row : KeyRow). row.signer < m) new.press.at.rows) (sym same_ring)
    (subst (λ (s : PublishedStateValue). All (λ (row : KeyRow). row.signer < n) s.rows) (sym same_at) live)

abbrev pub holds_like : (old new : StoredValue MemoryDisk) (list : List Edition) → owner_of new ≡ owner_of old → new.journal.records ≡ old.journal.records
    → IsStoreOf list old → IsStoreOf list new
holds_like old new list owner records holds = record {
  records = holds.records;
  told = records ∙ holds.told;
  are = subst (λ (o : Owner). AreRecords o list holds.records) (sym owner) holds.are;
}

pub press_like : (old new : StoredValue MemoryDisk) (device : Device Edition) (premises : Premises) → IsLike old new → IsPress old device premises
    → IsPress new device premises
press_like old new device premises like is = record {
  holds = holds_like old new device.list like.owner like.records is.holds;
  limit = like.limit ∙ is.limit;
  opens = λ none. is.opens (sym like.shut ∙ none);
  settled = is.settled;
  doubted = subst (λ (o : Owner). IsInDoubt o device.list is.holds.records device.doubt new.journal.doubt) (sym like.owner)
      (subst (λ (d : Option (List ℕ)). IsInDoubt (owner_of old) device.list is.holds.records device.doubt d) (sym like.doubt) is.doubted);
  stands = subst (λ (state : PublishedStateValue). StandsFor premises device.list state) (sym like.at) is.stands;
  next = is.next;
  live = live_in old.press.at new (length old.press.ring) like.at like.signers is.live;
  signers = like.signers ∙ is.signers;
}

-- ---- over more

pub may_stand_more : (more_stands : MoreStands) (less more : Premises) (list : List Edition) (doubt : Option Edition) → IsMore less more
    → IfSome doubt (λ edition. MayStandFor less (list ++ edition ∷ [])) → IfSome doubt (λ edition. MayStandFor more (list ++ edition ∷ []))
may_stand_more more_stands less more list None is_more may = tt
may_stand_more more_stands less more list (Some edition) is_more may =
    (may.0, more_stands less more (list ++ edition ∷ []) may.0 is_more may.1)

pub press_more : (more_stands : MoreStands) (stored : StoredValue MemoryDisk) (device : Device Edition) (less more : Premises) → IsMore less more
    → IsPress stored device less → IsPress stored device more
press_more more_stands stored device less more is_more is = record {
  holds = is.holds;
  limit = is.limit;
  opens = is.opens;
  settled = is.settled;
  doubted = is.doubted;
  stands = more_stands less more device.list stored.press.at is_more is.stands;
  next = may_stand_more more_stands less more device.list device.doubt is_more is.next;
  live = is.live;
  signers = is.signers;
}

-- ---- what an image has

-- Opening the file finds the records of these editions, with the one in doubt or without.
abbrev pub FindsInDoubt : Owner → List Edition → Option Edition → List ℕ → Type 0
FindsInDoubt owner list None file = Finds owner list file
FindsInDoubt owner list (Some edition) file = FindsOrWith owner list edition file

finds_by : (owner : Owner) (list : List Edition) (records : List (List ℕ)) (doubt : Option Edition) (payload : Option (List ℕ)) (file : List ℕ)
    → AreRecords owner list records → IsInDoubt owner list records doubt payload → RecoversToInDoubt press_limit (Some records) payload file
    → FindsInDoubt owner list doubt file
finds_by owner list records None payload file are none recovers =
    let whole : RecoversTo press_limit records file =
    subst (λ (p : Option (List ℕ)). RecoversToInDoubt press_limit (Some records) p file) none recovers in
    record { records = records; whole = whole; are = are }
finds_by owner list records (Some edition) payload file are is recovers =
    let either : RecoversToOrWith press_limit (Some records) is.0 file =
    subst (λ (p : Option (List ℕ)). RecoversToInDoubt press_limit (Some records) p file) is.1 recovers in
    ⊎_elim
    (λ (whole : RecoversTo press_limit records file). inl (record { records = records; whole = whole; are = are }))
    (λ (whole : RecoversTo press_limit (records ++ is.0 ∷ []) file). inr (record { records = records ++ is.0 ∷ []; whole = whole; are = is.2 }))
    either

-- what is said of the journal's own limit and records
pub recovers_so : (journal : Journal MemoryDisk) (records : List (List ℕ)) (file : List ℕ) → journal.limit ≡ press_limit → journal.records ≡ Some records
    → RecoversToInDoubt journal.limit journal.records journal.doubt file → RecoversToInDoubt press_limit (Some records) journal.doubt file
recovers_so journal records file limit told recovers =
    subst (λ (o : Option (List (List ℕ))). RecoversToInDoubt press_limit o journal.doubt file) told
    (subst (λ (n : ℕ). RecoversToInDoubt n journal.records journal.doubt file) limit recovers)

pub finds_doubt : (stored : StoredValue MemoryDisk) (device : Device Edition) (premises : Premises) (file : List ℕ) → IsPress stored device premises
    → RecoversToInDoubt stored.journal.limit stored.journal.records stored.journal.doubt file
    → FindsInDoubt (owner_of stored) device.list device.doubt file
finds_doubt stored device premises file is recovers =
    finds_by (owner_of stored) device.list is.holds.records device.doubt stored.journal.doubt file is.holds.are is.doubted
    (recovers_so stored.journal is.holds.records file is.limit is.holds.told recovers)

-- ---- what a press that was opened over it has

-- These editions, and no others.
found_is : (one_store : OneStore) (owner : Owner) (list editions : List Edition) (news : List (View MemoryDisk)) (file : List ℕ) (new : StoredValue MemoryDisk)
    → Finds owner list file → IsPressOpened news file editions new → (editions ≡ list) × (owner_of new ≡ owner)
found_is one_store owner list editions news file new finds is_opened =
    let there : AreFoundIn (finds.are.first ∷ finds.are.rest) editions new =
    subst (λ (r : List (List ℕ)). AreFoundIn r editions new) (finds.whole.found ∙ finds.are.is) is_opened.found in
    let are : AreRecords (owner_of new) editions finds.records =
    subst (λ (r : List (List ℕ)). AreRecords (owner_of new) editions r) (sym finds.are.is) there in
    let one = one_store owner (owner_of new) list editions finds.records finds.are are in
    (sym one.1, sym one.0)

pub found_by : (one_store : OneStore) (owner : Owner) (list editions : List Edition) (doubt : Option Edition) (news : List (View MemoryDisk)) (file : List ℕ)
    (new : StoredValue MemoryDisk) → FindsInDoubt owner list doubt file → IsPressOpened news file editions new → IsFound list doubt editions
found_by one_store owner list editions None news file new finds is_opened = inl (found_is one_store owner list editions news file new finds is_opened).0
found_by one_store owner list editions (Some edition) news file new finds is_opened = ⊎_elim
    (λ (as_was : Finds owner list file). inl (found_is one_store owner list editions news file new as_was is_opened).0)
    (λ (with_it : Finds owner (list ++ edition ∷ []) file).
    inr (edition, refl, (found_is one_store owner (list ++ edition ∷ []) editions news file new with_it is_opened).0))
    finds

-- They are steps, where the edition in doubt may be one.
pub found_steps : (premises : Premises) (list editions : List Edition) (doubt : Option Edition) → IsFound list doubt editions → AreSteps premises list
    → IfSome doubt (λ edition. MayStandFor premises (list ++ edition ∷ [])) → AreSteps premises editions
found_steps premises list editions doubt found steps may = ⊎_elim
    (λ (same : editions ≡ list). subst (λ (es : List Edition). AreSteps premises es) (sym same) steps)
    (λ (more : (edition : Edition) × (doubt ≡ Some edition) × (editions ≡ list ++ edition ∷ [])).
    let stands : MayStandFor premises (list ++ more.0 ∷ []) =
    subst (λ (o : Option Edition). IfSome o (λ edition. MayStandFor premises (list ++ edition ∷ []))) more.1 may in
    subst (λ (es : List Edition). AreSteps premises es) (sym more.2) stands.1.steps)
    found

-- It has the journal of these editions.
pub press_opened : (premises : Premises) (news : List (View MemoryDisk)) (file : List ℕ) (editions : List Edition) (new : StoredValue MemoryDisk)
    → IsPressOpened news file editions new → StandsFor premises editions new.press.at
    → IsPress new (record { list = editions; shut = false; doubt = None }) premises
press_opened premises news file editions new is_opened stands = record {
  holds = is_opened.holds;
  limit = is_opened.limit;
  opens = λ none. refl;
  settled = λ is_open. refl;
  doubted = is_opened.settled;
  stands = stands;
  next = tt;
  live = subst (λ (n : ℕ). All (λ (row : KeyRow). row.signer < n) new.press.at.rows) (sym is_opened.signers) is_opened.live;
  signers = is_opened.signers;
}

-- ---- where an edition is written

pub known_so : {A : Type 0} (known : Option A) (P : A → Type 0) → IsSome known → IfSome known P → (x : A) × (known ≡ Some x) × P x
known_so None P some holds = absurd (false≢true some)
known_so (Some x) P some holds = (x, refl, holds)

has_records : (list : List Edition) (stored : StoredValue MemoryDisk) → IsStoreOf list stored → HasRecordsOf list stored
has_records list stored holds =
    subst (λ (o : Option (List (List ℕ))). IfSome o (AreRecords (owner_of stored) list)) (sym holds.told) holds.are

-- The journal then has its record too.
pub holds_written : (old : StoredValue MemoryDisk) (prepared : StoredPreparedValue) (numbers : PublishedNumbers) (new : StoredValue MemoryDisk)
    (lists : List (List Command)) (list : List Edition) → IsWritten old prepared numbers new → IsLeftBy lists list old.press.at → IsStoreOf list old
    → IsStoreOf (list ++ edition_of prepared.edition ∷ []) new
holds_written old prepared numbers new lists list is left holds =
    let found = known_so new.journal.records (AreRecords (owner_of new) (list ++ edition_of prepared.edition ∷ [])) is.known
    (is.records lists list left (has_records list old holds)) in
    record { records = found.0; told = found.1; are = found.2 }

pub committed_signers : (old : StoredValue MemoryDisk) (prepared : StoredPreparedValue) (done : Done) (new : StoredValue MemoryDisk)
    → IsCommitted old prepared done new → length new.press.ring ≡ length old.press.ring
committed_signers old prepared (told.Published numbers) new is = is.signers
committed_signers old prepared told.FailedPublishing new is = ap (λ (p : PressValue). length p.ring) is.press
committed_signers old prepared (told.Accepted desk command) new is = absurd is
committed_signers old prepared (told.Failed desk command) new is = absurd is
committed_signers old prepared (told.Refused code) new is = absurd is
committed_signers old prepared told.Stopped new is = absurd is
committed_signers old prepared (told.Found lists_found serial) new is = absurd is
