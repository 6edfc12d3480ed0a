-- That the press's journal has room for its records.
use Rattle.std.proofs.Common.{◌≡◌, ℕ, ◌+◌, ◌≤◌, List, [], ◌∷◌, ◌++◌, map, length, refl, sym, ◌∙◌, ap, subst}
use Rattle.std.specs.Prelude.{Option, None, Some, IfSome, IsSome}
use Rattle.std.specs.Option.{option_map}
use Rattle.std.proofs.lemmas.Bool.{false≢true}
use Rattle.authority_book.specs.declared.commands.Command.{Command}
use Rattle.gate_journal.specs.Format.{held_by, held_for}
use Rattle.editions.specs.Edition.{Edition}
use Rattle.editions.specs.PublishedState.{PublishedStateValue}
use Rattle.press_records.specs.Edition.{EditionValue, StandingValue, nothing_stands, after_edition}
use Rattle.press_records.specs.Records.{AreRecordsOf}
use Rattle.press_records.specs.Store.{Store}
use Rattle.press_core.specs.Follows.{edition_of}
use Rattle.press_core.specs.JournalRecords.{AreRecords, IsRecordOf, press_limit}
use Rattle.press_core.specs.Next.{NextValue}
use Rattle.press_core.specs.Records.{edition_value}
use Rattle.press_core.specs.Stands.{IsLeftBy}
use Rattle.manager.proofs.Holding.{RecordsLaw}
use Rattle.manager.proofs.Limits.{held_push}

-- ---- a record that can be appended fits behind the others

pub fits_behind : (known : Option (List (List ℕ))) (sizes : List ℕ) (limit : ℕ) (entry : List ℕ) → IfSome known (λ (all : List (List ℕ)). sizes ≡ map length all)
    → held_for sizes + (length entry + 9) ≤ limit → limit ≡ press_limit → IfSome known (λ (all : List (List ℕ)). held_by (all ++ entry ∷ []) ≤ press_limit)
fits_behind None sizes limit entry same fits is = tt
fits_behind (Some all) sizes limit entry same fits is =
    let whole : held_for sizes + (length entry + 9) ≡ held_by (all ++ entry ∷ []) = ap (λ (s : List ℕ). held_for s + (length entry + 9)) same ∙ sym (held_push all entry) in
    subst (λ (n : ℕ). n ≤ press_limit) whole (subst (λ (n : ℕ). held_for sizes + (length entry + 9) ≤ n) is fits)

-- ---- editions have one list of records

same_rest : (before : StandingValue) (list : List EditionValue) (one other : List (List ℕ)) → AreRecordsOf before list one → AreRecordsOf before list other → one ≡ other
same_rest before [] [] [] are also = refl
same_rest before [] (first ∷ one) other are also = absurd are
same_rest before [] [] (second ∷ other) are also = absurd also
same_rest before (edition ∷ list) [] other are also = absurd are
same_rest before (edition ∷ list) (first ∷ one) [] are also = absurd also
same_rest before (edition ∷ list) (first ∷ one) (second ∷ other) are also =
    let here : first ≡ second = are.0.spelled ∙ sym also.0.spelled in
    let rest : one ≡ other = same_rest (after_edition before edition) list one other are.1 also.1 in
    λ i. here i ∷ rest i

same_records : (store : Store) (editions : List Edition) (one other : List (List ℕ)) → AreRecords store editions one → AreRecords store editions other → one ≡ other
same_records store editions one other are also =
    let here : are.first ≡ also.first = are.named.spelled.spelled ∙ sym also.named.spelled.spelled in
    let rest : are.rest ≡ also.rest = same_rest nothing_stands (map edition_value editions) are.rest also.rest are.each also.each in
    let whole : are.first ∷ are.rest ≡ also.first ∷ also.rest = (λ i. here i ∷ rest i) in
    are.is ∙ (whole ∙ sym also.is)

-- once it was appended, all of them fit
pub fits_then : (law : RecordsLaw) (lists : List (List Command)) (before : List Edition) (at : PublishedStateValue) (prepared : NextValue) (store : Store) (entry : List ℕ) (old new : Option (List (List ℕ)))
    → IsLeftBy lists before at → IsRecordOf at prepared entry → IfSome new (λ (all : List (List ℕ)). IsSome old) → IfSome old (AreRecords store before) → IfSome new (AreRecords store (before ++ edition_of prepared ∷ []))
    → IfSome old (λ (all : List (List ℕ)). held_by (all ++ entry ∷ []) ≤ press_limit) → IfSome new (λ (all : List (List ℕ)). held_by all ≤ press_limit)
fits_then law lists before at prepared store entry old None left recorded known were are fits = tt
fits_then law lists before at prepared store entry None (Some new) left recorded known were are fits = absurd (false≢true known)
fits_then law lists before at prepared store entry (Some old) (Some new) left recorded known were are fits =
    subst (λ (all : List (List ℕ)). held_by all ≤ press_limit)
    (same_records store (before ++ edition_of prepared ∷ []) (old ++ entry ∷ []) new (law lists before at prepared store old entry left were recorded) are) fits

-- ---- what a disk tells after an append, it told before

pub told_before : {A B : Type 0} (known : Option A) (content was : Option B) (grow : B → B) (R : Type 0) → IfSome known (λ (a : A). IsSome content) → content ≡ option_map grow was → IfSome was (λ (b : B). R)
    → IfSome known (λ (a : A). R)
told_before None content was grow R told same so = tt
told_before {B = B} (Some x) content None grow R told same so = absurd (false≢true (subst (λ (o : Option B). IsSome o) same told))
told_before (Some x) content (Some b) grow R told same so = so
