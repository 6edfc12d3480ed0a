-- The files of editions: the text of a file is told by its name.
use Rattle.std.proofs.Common.{◌≡◌, ℕ, zero, suc, ◌+◌, ◌-◌, ◌<◌, ◌≤◌, true, false, cond, refl, arith, length, take, drop, map, List, [], ◌∷◌, ◌++◌, Some, None, subst}
use Rattle.std.specs.Prelude.{Option, nat_eq, nat_lt, nat_le, ◌&&◌, if◌then◌else◌}
use Rattle.std.specs.List.{AllByRecursion}
use Rattle.std.proofs.lemmas.Bool.Decides.{nat_tests}
use Rattle.rrdp_text.specs.Texts.{delta_text}
use Rattle.rrdp_state.specs.declared.delta.Delta.{Delta}
use Rattle.rrdp_state.specs.Editions.{Edition, FollowEachOther, edition_texts, delta_in, new_delta, deltas_of}
use Rattle.rrdp_state.specs.Named.{FileName, Entry, fitting, most_named, snapshot_entry, delta_entry, named_deltas, named_entries}
use Rattle.rrdp_state.specs.Named.FileName.{SnapshotOf, DeltaOf}
use Rattle.rrdp_state.proofs.Places.{serial_of}
use Rattle.rrdp_state.proofs.Runs.{named_next}

-- ---- what holds of each

module _ {X : Type 0} (P : X → Type 0) where
  pub all_append : (xs ys : List X) → AllByRecursion P xs → AllByRecursion P ys → AllByRecursion P (xs ++ ys)
  all_append [] ys first second = second
  all_append (x ∷ xs) ys first second = (first.0, all_append xs ys first.1 second)

  pub all_take : (n : ℕ) (xs : List X) → AllByRecursion P xs → AllByRecursion P (take n xs)
  all_take zero xs all = tt
  all_take (suc n) [] all = tt
  all_take (suc n) (x ∷ xs) all = (all.0, all_take n xs all.1)

  pub all_drop : (n : ℕ) (xs : List X) → AllByRecursion P xs → AllByRecursion P (drop n xs)
  all_drop zero xs all = all
  all_drop (suc n) [] all = tt
  all_drop (suc n) (x ∷ xs) all = all_drop n xs all.1

  pub all_map : {Y : Type 0} (f : Y → X) (ys : List Y) → AllByRecursion (λ y. P (f y)) ys → AllByRecursion P (map f ys)
  all_map f [] all = tt
  all_map f (y ∷ ys) all = (all.0, all_map f ys all.1)

  pub all_unmap : {Y : Type 0} (f : Y → X) (ys : List Y) → AllByRecursion P (map f ys) → AllByRecursion (λ y. P (f y)) ys
  all_unmap f [] all = tt
  all_unmap f (y ∷ ys) all = (all.0, all_unmap f ys all.1)

  pub all_so : (Q : X → Type 0) → ((x : X) → P x → Q x) → (xs : List X) → AllByRecursion P xs → AllByRecursion Q xs
  all_so Q step [] all = tt
  all_so Q step (x ∷ xs) all = (step x all.0, all_so Q step xs all.1)

pub all_fitting : (P : Delta → Type 0) (most room : ℕ) (ds : List Delta) → AllByRecursion P ds → AllByRecursion P (fitting most room ds)
all_fitting P most room [] all = tt
all_fitting P most room (d ∷ ds) all =
    elim (nat_lt 0 most && nat_le (length d.text) room) as (λ b. AllByRecursion P (cond b (d ∷ fitting (most - 1) (room - length d.text) ds) [])) [
      | true ↦ (all.0, all_fitting P (most - 1) (room - length d.text) ds all.1)
      | false ↦ tt
    ]

-- ---- the text of a file

abbrev newest_text : List ℕ → List Edition → Edition → FileName → List ℕ
newest_text session older edition (SnapshotOf n) = (edition_texts session older edition).snapshot
newest_text session older edition (DeltaOf n) = delta_text session (length older + 1) edition.changes

abbrev pub text_in : List ℕ → List Edition → FileName → List ℕ
text_in session [] name = []
text_in session (edition ∷ older) name =
    if nat_eq (serial_of name) (length older + 1) then newest_text session older edition name else text_in session older name

pub record IsFile (session : List ℕ) (editions : List Edition) (entry : Entry) : Type 0 where
  pub text : entry.text ≡ text_in session editions entry.name
  pub serial : serial_of entry.name ≤ length editions

not_equal : (m n : ℕ) → m < n → nat_eq m n ≡ false
not_equal m n less = grind (arith, nat_tests)

equal_self : (n : ℕ) → nat_eq n n ≡ true
equal_self n = grind (arith, nat_tests)

pub file_later : (session : List ℕ) (older : List Edition) (edition : Edition) (entry : Entry) → IsFile session older entry → IsFile session (edition ∷ older) entry
file_later session older edition entry is =
    let other : nat_eq (serial_of entry.name) (length older + 1) ≡ false = not_equal (serial_of entry.name) (length older + 1) (let s = is.serial in omega arith) in
    record { text = rw other is.text; serial = (let s = is.serial in omega arith) }

newest_snapshot : (session : List ℕ) (older : List Edition) (edition : Edition)
    → IsFile session (edition ∷ older) (snapshot_entry (length older + 1) (edition_texts session older edition).snapshot)
newest_snapshot session older edition = record { text = rw (equal_self (length older + 1)) refl; serial = omega arith }

newest_delta : (session : List ℕ) (older : List Edition) (edition : Edition)
    → AllByRecursion (λ (d : Delta). IsFile session (edition ∷ older) (delta_entry d)) (new_delta (edition_texts session older edition))
newest_delta session older edition =
    elim (nat_eq (length older + 1) 1) as (λ b. AllByRecursion (λ (d : Delta). IsFile session (edition ∷ older) (delta_entry d))
    (delta_in (length older + 1) (cond b None (Some (delta_text session (length older + 1) edition.changes))))) [
      | true ↦ tt
      | false ↦ (record { text = rw (equal_self (length older + 1)) refl; serial = omega arith }, tt)
    ]

deltas_are : (session : List ℕ) (editions : List Edition) → AllByRecursion (λ (d : Delta). IsFile session editions (delta_entry d)) (deltas_of session editions)
deltas_are session [] = tt
deltas_are session (edition ∷ older) =
    all_append (λ (d : Delta). IsFile session (edition ∷ older) (delta_entry d)) (new_delta (edition_texts session older edition)) (deltas_of session older)
    (newest_delta session older edition)
    (all_so (λ (d : Delta). IsFile session older (delta_entry d)) (λ (d : Delta). IsFile session (edition ∷ older) (delta_entry d))
    (λ d is. file_later session older edition (delta_entry d) is) (deltas_of session older) (deltas_are session older))

named_are : (session : List ℕ) (editions : List Edition) → AllByRecursion (IsFile session editions) (named_entries session editions)
named_are session [] = tt
named_are session (edition ∷ older) = (
  newest_snapshot session older edition,
  all_map (IsFile session (edition ∷ older)) delta_entry (named_deltas session (edition ∷ older))
      (all_fitting (λ (d : Delta). IsFile session (edition ∷ older) (delta_entry d)) most_named (length (edition_texts session older edition).snapshot) (deltas_of session (edition ∷ older))
      (deltas_are session (edition ∷ older))),
)

-- The files that an earlier notification names are files of all editions.
pub earlier_are : (session : List ℕ) (later : ℕ) (editions : List Edition) → AllByRecursion (IsFile session editions) (named_entries session (drop later editions))
earlier_are session zero editions = named_are session editions
earlier_are session (suc later) [] = tt
earlier_are session (suc later) (edition ∷ older) =
    all_so (IsFile session older) (IsFile session (edition ∷ older)) (λ entry is. file_later session older edition entry is)
    (named_entries session (drop later older)) (earlier_are session later older)

-- ---- the deltas that are named but for the newest were named before

behind_newest : (P : Delta → Type 0) (most room serial : ℕ) (text : Option (List ℕ)) (ds : List Delta) → AllByRecursion P ds
    → AllByRecursion P (drop 1 (fitting most room (delta_in serial text ++ ds)))
behind_newest P most room serial None ds all = all_drop P 1 (fitting most room ds) (all_fitting P most room ds all)
behind_newest P most room serial (Some text) ds all =
    elim (nat_lt 0 most && nat_le (length text) room) as (λ b. AllByRecursion P (drop 1 (cond b (record { serial = serial; text = text } ∷ fitting (most - 1) (room - length text) ds) []))) [
      | true ↦ all_fitting P (most - 1) (room - length text) ds all
      | false ↦ tt
    ]

pub named_before : (P : Delta → Type 0) (session : List ℕ) (older : List Edition) (edition : Edition) → FollowEachOther (edition ∷ older)
    → AllByRecursion P (named_deltas session older) → AllByRecursion P (drop 1 (named_deltas session (edition ∷ older)))
named_before P session older edition follow all =
    subst (λ (ds : List Delta). AllByRecursion P (drop 1 ds)) (named_next session older edition follow)
    (behind_newest P most_named (length (edition_texts session older edition).snapshot) (length older + 1) (edition_texts session older edition).delta (named_deltas session older) all)
