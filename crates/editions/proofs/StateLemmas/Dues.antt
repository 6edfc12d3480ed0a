-- What makes an edition called for.
use Rattle.std.proofs.Common.{◌≡◌, ℕ, ◌<◌, zero, suc, true, false, cond, not, refl, sym, ◌∙◌, ap, ap₂, arith, length, get_or, map, List, [], ◌∷◌, None, Some}
use Rattle.std.specs.Prelude.{Bool, ◌||◌, ◌↔◌, IsTrue, nat_lt, is_some, filter, Option}
use Rattle.std.specs.List.{list_any, filter_map, cons_option}
use Rattle.std.proofs.lemmas.Bool.Decides.{nat_tests}
use Rattle.key_ids.specs.declared.identifier.KeyId.{KeyId}
use Rattle.key_roll.specs.declared.rows.KeyRow.{KeyRow}
use Rattle.key_roll.specs.declared.work.Work.{Work}
use Rattle.issue_plan.specs.declared.keys.NextKey.{NextKey}
use Rattle.issue_plan.specs.Keys.{id_of}
use Rattle.issue_plan.specs.Work.{new_key_of, role_of, goes_on}
use Rattle.editions.specs.Due.{grows, steps_next}
use Rattle.editions.specs.Calling.{has_some, LeadsTo}

or_true : (b : Bool) → (b || true) ≡ true
or_true true = refl
or_true false = refl

pub grows_none : (before cut : List ℕ) → ((k : ℕ) → k < length cut → nat_lt (get_or before k 0) (get_or cut k 0) ≡ false) → grows before cut ≡ false
grows_none [] [] none = refl
grows_none (m ∷ before) [] none = refl
grows_none [] (n ∷ cut) none =
    let here : nat_lt 0 n ≡ false = none 0 (omega arith) in
    rw here (grows_none [] cut (λ k less. none (suc k) (omega arith)))
grows_none (m ∷ before) (n ∷ cut) none =
    let here : nat_lt m n ≡ false = none 0 (omega arith) in
    rw here (grows_none before cut (λ k less. none (suc k) (omega arith)))

pub grows_some : (before cut : List ℕ) (k : ℕ) → k < length cut → nat_lt (get_or before k 0) (get_or cut k 0) ≡ true → grows before cut ≡ true
grows_some [] [] k less some = absurd (omega arith)
grows_some (m ∷ before) [] k less some = absurd (omega arith)
grows_some [] (n ∷ cut) zero less some = rw some refl
grows_some [] (n ∷ cut) (suc k) less some = ap (λ b. nat_lt 0 n || b) (grows_some [] cut k (omega arith) some) ∙ or_true (nat_lt 0 n)
grows_some (m ∷ before) (n ∷ cut) zero less some = rw some refl
grows_some (m ∷ before) (n ∷ cut) (suc k) less some = ap (λ b. nat_lt m n || b) (grows_some before cut k (omega arith) some) ∙ or_true (nat_lt m n)

-- ---- steps

pub some_of : {X : Type 0} (b : Bool) (xs : List X) → (IsTrue b ↔ (xs ≡ [])) → not b ≡ has_some xs
some_of true [] empty = refl
some_of true (x ∷ xs) empty = let no : x ∷ xs ≡ [] = empty.0 refl in cc
some_of false [] empty = let no : false ≡ true = empty.1 refl in cc
some_of false (x ∷ xs) empty = refl

or_both : (a b c d : Bool) → ((a || b) || (c || d)) ≡ ((a || c) || (b || d))
or_both true true c d = refl
or_both true false c d = refl
or_both false true true d = refl
or_both false true false d = refl
or_both false false true d = refl
or_both false false false d = refl

any-or : {X : Type 0} (p q : X → Bool) (xs : List X) → list_any (λ x. p x || q x) xs ≡ (list_any p xs || list_any q xs)
any-or p q [] = refl
any-or p q (x ∷ xs) = ap (λ b. (p x || q x) || b) (any-or p q xs) ∙ or_both (p x) (q x) (list_any p xs) (list_any q xs)

any-found : {X Y : Type 0} (h : X → Option Y) (xs : List X) → list_any (λ x. is_some (h x)) xs ≡ has_some (filter_map h xs)
any-found h [] = refl
any-found h (x ∷ xs) =
    elim (h x) as (λ o. (is_some o || list_any (λ y. is_some (h y)) xs) ≡ has_some (cons_option o (filter_map h xs))) [
      | None ↦ any-found h xs
      | Some y ↦ refl
    ]

any-kept : {X Y : Type 0} (p : Y → Bool) (f : X → Y) (xs : List X) → list_any (λ x. p (f x)) xs ≡ has_some (filter p (map f xs))
any-kept p f [] = refl
any-kept p f (x ∷ xs) =
    elim (p (f x)) as (λ b. (b || list_any (λ y. p (f y)) xs) ≡ has_some (cond b (f x ∷ filter p (map f xs)) (filter p (map f xs)))) [
      | true ↦ refl
      | false ↦ any-kept p f xs
    ]

-- The work has a step exactly where one comes next.
pub steps_are : (rows : List KeyRow) (nexts : List NextKey) (work : Work) → LeadsTo rows nexts work →
    ((has_some work.new_keys || has_some work.roles) || has_some work.dropped) ≡ steps_next rows nexts
steps_are rows nexts work steps =
    rw (steps.new_keys, steps.roles, steps.dropped)
    (ap₂ (λ a b. a || b)
    (sym (any-or (λ key. is_some (new_key_of key)) (λ key. is_some (role_of key)) nexts ∙ ap₂ (λ a b. a || b) (any-found new_key_of nexts) (any-found role_of nexts)))
    (sym (any-kept (λ (id : KeyId). not (goes_on nexts id)) id_of rows)))

pub some_at : (before cut : List ℕ) (k : ℕ) → k < length cut → get_or before k 0 < get_or cut k 0 → true ≡ grows before cut
some_at before cut k less grown =
    let yes : nat_lt (get_or before k 0) (get_or cut k 0) ≡ true = grind (arith, nat_tests) in
    sym (grows_some before cut k less yes)
