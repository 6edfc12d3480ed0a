-- The records of a press's journal: the first says whose store it is, and behind it each is an
-- edition, over what the ones before it leave.
use Rattle.std.specs.Prelude.{◌≡◌, ◌⊎◌, ⊤, ℕ, ◌+◌, zero, suc, List, [], ◌∷◌, ◌++◌, length}
use Rattle.std.specs.Prelude.{Option, Some, None}
use Rattle.std.proofs.Common.{inl, inr}
use Rattle.record_forms.specs.Form.{Spells}
use Rattle.record_forms.specs.Forms.{read_whole}
use Rattle.press_records.specs.Store.{Store, IsStoreRecord}
use Rattle.press_records.specs.Edition.{EditionValue, StandingValue, nothing_stands, after_edition, editions}

-- What stands after editions, of which the first comes first.
abbrev pub after_editions : StandingValue → List EditionValue → StandingValue
after_editions before [] = before
after_editions before (edition ∷ later) = after_editions (after_edition before edition) later

-- ---- the editions

-- The records of these editions, each over what the ones before it leave.
abbrev pub AreRecordsOf : StandingValue → List EditionValue → List (List ℕ) → Type 0
AreRecordsOf before [] [] = ⊤
AreRecordsOf before [] (record_bytes ∷ records) = ⊥
AreRecordsOf before (edition ∷ later) [] = ⊥
AreRecordsOf before (edition ∷ later) (record_bytes ∷ records) =
    Spells (editions before) edition record_bytes
    × AreRecordsOf (after_edition before edition) later records

-- The editions that records tell, or the index of the first one that tells none.
abbrev pub Told : Type 0
Told = List EditionValue ⊎ ℕ

abbrev pub with_edition : EditionValue → Told → Told
with_edition edition (inl later) = inl (edition ∷ later)
with_edition edition (inr index) = inr index

abbrev pub told_behind : ℕ → (StandingValue → Told) → StandingValue → Option EditionValue → Told
told_behind index later before None = inr index
told_behind index later before (Some edition) =
    with_edition edition (later (after_edition before edition))

-- What records tell, of which the first has that index, over what stood before it.
abbrev pub editions_told : ℕ → List (List ℕ) → StandingValue → Told
editions_told index [] before = inl []
editions_told index (record_bytes ∷ records) before =
    told_behind index (editions_told (index + 1) records) before
    (read_whole (editions before) record_bytes)

-- The record with that index is the first that is no edition's: those before it are records of
-- editions, and over what these leave it is none.
pub record IsFirstBad (before : StandingValue) (first : ℕ) (records : List (List ℕ)) (index : ℕ)
    : Type 0 where
  pub earlier : List EditionValue
  pub front : List (List ℕ)
  pub bad : List ℕ
  pub behind : List (List ℕ)
  pub is : records ≡ front ++ bad ∷ behind
  pub at : index ≡ first + length front
  pub told : AreRecordsOf before earlier front
  pub none : read_whole (editions (after_editions before earlier)) bad ≡ None

-- ---- the whole journal

-- What the records of a journal tell: whose store it is and its editions, or the index of the first
-- bad one.
abbrev pub Tells : List (List ℕ) → (Store × List EditionValue) ⊎ ℕ → Type 0
Tells [] told = ⊥
Tells (first ∷ records) (inl told) =
    IsStoreRecord told.0 first × (editions_told 1 records nothing_stands ≡ inl told.1)
Tells (first ∷ records) (inr zero) = (store : Store) → IsStoreRecord store first → ⊥
Tells (first ∷ records) (inr (suc index)) =
    ((store : Store) × IsStoreRecord store first)
    × (editions_told 1 records nothing_stands ≡ inr (suc index))
