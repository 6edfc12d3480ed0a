-- What holds of each, of what is found among them, and of what is made of them.
use Rattle.std.proofs.Common.{◌≡◌, ℕ, ◌<◌, ◌≤◌, suc, Bool, eqb, Option, None, Some, List, [], ◌∷◌, ◌++◌, ◌⊎◌, inl, inr, length, get_or, map, find, append_assoc, sym, ap, subst, ◌∙◌, arith}
use Rattle.std.specs.List.{All, slice_get, filter_map, cons_option, position_or_len}
use Rattle.std.specs.Option.{IfSome, option_map_or}
use Rattle.std.specs.Str.{bytes_eq}
use Rattle.std.proofs.lemmas.List.Elements.{All-cons}
use Rattle.std.proofs.lemmas.List.Folds.{find_at}
use Rattle.std.proofs.lemmas.Option.{slice_get_within, get_or_from_slice_get, slice_get_cases}
use Rattle.authority_book.specs.declared.rows.NameRow.{NameRow}
use Rattle.key_roll.specs.declared.rows.KeyRow.{KeyRow}
use Rattle.key_roll.specs.declared.work.KeyName.{KeyName}
use Rattle.key_roll.specs.declared.work.KeyName.TheVariants.{Live, Fresh}
use Rattle.issue_keys.specs.Keys.{id_of}
use Rattle.issue_drafts.specs.WorkKeys.{Keys, all_keys, key_named}
use Rattle.issue_drafts.specs.Publishers.{name_at}

pub at-position : {X : Type 0} (P : X → Type 0) (xs : List X) (k : ℕ) (x : X) → slice_get xs k ≡ Some x → All P xs → P x
at-position P xs k x at all = subst P (get_or_from_slice_get xs k x x at) (all k x (slice_get_within xs k x at))

pub all-of-map : {X Y : Type 0} (Q : Y → Type 0) (f : X → Y) (xs : List X) → All Q (map f xs) → All (λ x. Q (f x)) xs
all-of-map Q f [] all = λ k d lt. absurd (omega arith)
all-of-map Q f (x ∷ xs) all =
    All-cons (λ x. Q (f x)) x xs (all 0 (f x) (omega arith))
    (all-of-map Q f xs (λ k d lt. all (suc k) d (omega arith)))

pub all-front : {X : Type 0} (P : X → Type 0) (xs ys : List X) → All P (xs ++ ys) → All P xs
all-front P [] ys all = λ k d lt. absurd (omega arith)
all-front P (x ∷ xs) ys all =
    All-cons P x xs (all 0 x (omega arith)) (all-front P xs ys (λ k d lt. all (suc k) d (omega arith)))

pub all-back : {X : Type 0} (P : X → Type 0) (xs ys : List X) → All P (xs ++ ys) → All P ys
all-back P [] ys all = all
all-back P (x ∷ xs) ys all = all-back P xs ys (λ k d lt. all (suc k) d (omega arith))

pub all-filter-map : {X Y : Type 0} (P : Y → Type 0) (f : X → Option Y) (xs : List X) → ((x : X) → IfSome (f x) P)
    → All P (filter_map f xs)
all-filter-map P f [] holds = λ k d lt. absurd (omega arith)
all-filter-map {X} {Y} P f (x ∷ xs) holds = by (f x) (holds x) (all-filter-map P f xs holds)
  where
    by : (o : Option Y) → IfSome o P → All P (filter_map f xs) → All P (cons_option o (filter_map f xs))
    by None h rest = rest
    by (Some y) h rest = All-cons P y (filter_map f xs) h rest

-- ---- keys that are named

pub find-holds : {X : Type 0} (P : X → Type 0) (p : X → Bool) (xs : List X) (x : X) → find p xs ≡ Some x → All P xs → P x
find-holds P p xs x e all = at-position P xs (position_or_len p xs) x (sym (find_at p xs) ∙ e) all

pub named-holds : (P : KeyRow → Type 0) (keys : Keys) (name : KeyName) (row : KeyRow) → key_named keys name ≡ Some row
    → All P (all_keys keys) → P row
named-holds P keys (Live id) row e all = find-holds P (λ (r : KeyRow). bytes_eq (id_of r) id.bytes) (all_keys keys) row e all
named-holds P keys (Fresh desk) row e all = find-holds P (λ (r : KeyRow). eqb r.desk desk) keys.fresh row e (all-back P keys.kept keys.fresh all)

-- ---- names of desks

pub name-holds : (P : List ℕ → Type 0) (names : List NameRow) (desk : ℕ) → desk < length names → All (λ row. P row.name) names
    → P (name_at names desk)
name-holds P names desk low all = by ((slice_get_cases names desk).1)
  where
    by : ((row : NameRow) × (desk < length names) × (slice_get names desk ≡ Some row) × (get_or names desk row ≡ row))
        ⊎ ((length names ≤ desk) × (slice_get names desk ≡ None)) → P (name_at names desk)
    by (inl w) =
        subst (λ (o : Option NameRow). P (option_map_or (λ n. n.name) o [])) (sym w.2)
        (at-position (λ (row : NameRow). P row.name) names desk w.0 w.2 all)
    by (inr w) = absurd (omega (arith, w.0))

-- ---- five lists behind one another

pub grouped : {X : Type 0} (a b c d e : List X) → (((a ++ b) ++ c) ++ d) ++ e ≡ a ++ (((b ++ c) ++ d) ++ e)
grouped {X} a b c d e =
    ap (λ (l : List X). (l ++ d) ++ e) (append_assoc a b c)
    ∙ (ap (λ (l : List X). l ++ e) (append_assoc a (b ++ c) d) ∙ append_assoc a ((b ++ c) ++ d) e)
