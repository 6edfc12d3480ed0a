-- Records tell one store and one list of editions.
use Rattle.std.proofs.Common.{◌≡◌, ℕ, List, ◌∷◌, map, sym, ◌∙◌, subst, inl}
use Rattle.record_forms.specs.laws.ByteLaws.{same-some}
use Rattle.record_forms.specs.laws.FormLaws.{whole-again}
use Rattle.press_records.specs.Store.{Store, stores, IsStoreRecord}
use Rattle.press_records.specs.Edition.{EditionValue, nothing_stands}
use Rattle.press_records.specs.Records.{Tells, Told, AreRecordsOf}
use Rattle.press_records.specs.laws.StoreLaws.{stores-law}
use Rattle.press_records.specs.laws.RecordLaws.{records-again}
use Rattle.editions.specs.Edition.{Edition}
use Rattle.press_core.specs.Records.{edition_value}
use Rattle.press_core.specs.JournalRecords.{AreRecords}
use Rattle.press_core.proofs.SameEditions.{same-editions}

abbrev Bytes : Type 0
Bytes = List ℕ

pub told-records : (store : Store) (editions : List Edition) (records : List Bytes) → AreRecords store editions records
    → Tells records (inl (store, map edition_value editions))
told-records store editions records are =
    subst (λ (l : List Bytes). Tells l (inl (store, map edition_value editions))) (sym are.is)
    (are.named, records-again (map edition_value editions) are.rest 1 nothing_stands are.each)

-- ---- one store

abbrev told-of : List EditionValue → Told
told-of editions = inl editions

same-told : (a b : List EditionValue) → told-of a ≡ told-of b → a ≡ b
same-told a b e = cc

same-first : (a b : Bytes) (xs ys : List Bytes) → a ∷ xs ≡ b ∷ ys → a ≡ b
same-first a b xs ys e = cc

same-rest : (a b : Bytes) (xs ys : List Bytes) → a ∷ xs ≡ b ∷ ys → xs ≡ ys
same-rest a b xs ys e = cc

same-store : (store other : Store) (first : Bytes) → IsStoreRecord store first → IsStoreRecord other first → store ≡ other
same-store store other first one also =
    same-some store other (sym (whole-again stores stores-law store first one.spelled) ∙ whole-again stores stores-law other first also.spelled)

same-values : (editions more : List Edition) (rest : List Bytes) → AreRecordsOf nothing_stands (map edition_value editions) rest
    → AreRecordsOf nothing_stands (map edition_value more) rest → map edition_value editions ≡ map edition_value more
same-values editions more rest are also =
    same-told (map edition_value editions) (map edition_value more)
    (sym (records-again (map edition_value editions) rest 1 nothing_stands are) ∙ records-again (map edition_value more) rest 1 nothing_stands also)

pub one-store : (store other : Store) (editions more : List Edition) (records : List Bytes) → AreRecords store editions records
    → AreRecords other more records → (store ≡ other) × (editions ≡ more)
one-store store other editions more records are also =
    let same = sym are.is ∙ also.is in
    let first = same-first are.first also.first are.rest also.rest same in
    let rest = same-rest are.first also.first are.rest also.rest same in (
      same-store store other also.first (subst (λ (b : Bytes). IsStoreRecord store b) first are.named) also.named,
      same-editions editions more (same-values editions more also.rest (subst (λ (l : List Bytes). AreRecordsOf nothing_stands (map edition_value editions) l) rest are.each) also.each),
    )
