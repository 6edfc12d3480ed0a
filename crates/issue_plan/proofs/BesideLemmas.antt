-- What is looked for among the objects that are no ROAs is found there as among all.
use Rattle.std.proofs.Common.{◌≡◌, ℕ, ◌+◌, ◌<◌, zero, suc, length, get_or, map, take, arith, None, Bool, true, false, ◌&&◌, ◌||◌, not, cond, Option, Some, List, [], ◌∷◌, ◌++◌, refl, sym, ap, ◌∙◌}
use Rattle.std.specs.Prelude.{find, filter}
use Rattle.std.specs.Option.{option_or}
use Rattle.std.proofs.lemmas.List.{take_more, map-append}
use Rattle.std.proofs.lemmas.List.Folds.{find-append}
use Rattle.std.specs.List.{list_all}
use Rattle.std.specs.Str.{bytes_eq}
use Rattle.key_ids.specs.declared.identifier.KeyId.{KeyId}
use Rattle.key_roll.specs.declared.issued.IssuedRow.{IssuedRow}
use Rattle.key_roll.specs.declared.issued.What.{What}
use Rattle.key_roll.specs.declared.issued.What.TheVariants.{Authority, Route, Point}
use Rattle.key_roll.specs.declared.work.KeyName.{KeyName}
use Rattle.issue_plan.specs.Serves.{is_for, is_point}
use Rattle.issue_plan.specs.Fits.{has_one_point, is_in_place}
use Rattle.issue_plan.specs.inner.Beside.{is_roa, beside_roas}

-- A filter that keeps all that a test passes changes nothing of what the test finds.
find-kept : {X : Type 0} (keeps test : X → Bool) → ((x : X) → keeps x ≡ false → test x ≡ false)
    → (xs : List X) → find test (filter keeps xs) ≡ find test xs
find-kept keeps test other [] = refl
find-kept keeps test other (x ∷ xs) =
    let rest = find-kept keeps test other xs in
    elim (keeps x) as (λ b. keeps x ≡ b → find test (cond b (x ∷ filter keeps xs) (filter keeps xs))
    ≡ cond (test x) (Some x) (find test xs)) [
      | true ↦ λ e. ap (λ l. cond (test x) (Some x) l) rest
      | false ↦ λ e. rest ∙ ap (λ b. cond b (Some x) (find test xs)) (sym (other x e))
    ] refl

-- One that keeps all that fails a test changes nothing of whether all pass it.
all-kept : {X : Type 0} (keeps test : X → Bool) → ((x : X) → keeps x ≡ false → test x ≡ true)
    → (xs : List X) → list_all test (filter keeps xs) ≡ list_all test xs
all-kept keeps test other [] = refl
all-kept keeps test other (x ∷ xs) =
    let rest = all-kept keeps test other xs in
    elim (keeps x) as (λ b. keeps x ≡ b → list_all test (cond b (x ∷ filter keeps xs) (filter keeps xs))
    ≡ (test x && list_all test xs)) [
      | true ↦ λ e. ap (λ l. test x && l) rest
      | false ↦ λ e. rest ∙ ap (λ b. b && list_all test xs) (sym (other x e))
    ] refl

roa-for : (key : KeyName) (what : What) → not (is_roa what) ≡ false → is_for key what ≡ false
roa-for key (Authority id held) other = cc
roa-for key (Route origin) other = refl
roa-for key Point other = refl

pub first-beside : (key : KeyName) (issued : List IssuedRow)
    → find (λ row. is_for key row.what) (beside_roas issued) ≡ find (λ row. is_for key row.what) issued
first-beside key issued =
    find-kept (λ (row : IssuedRow). not (is_roa row.what)) (λ (row : IssuedRow). is_for key row.what)
    (λ row. roa-for key row.what) issued

roa-in-place : (key : KeyId) (crl manifest : List ℕ) (row : IssuedRow) (what : What) → row.what ≡ what
    → not (is_roa what) ≡ false → is_in_place key crl manifest row ≡ true
roa-in-place key crl manifest row (Authority id held) is other = cc
roa-in-place key crl manifest row (Route origin) is other =
    let none : not (is_point row.what) ≡ true = ap (λ w. not (is_point w)) is in
    elim (bytes_eq row.issuer.bytes key.bytes) as (λ b.
    (not b || not (is_point row.what) || bytes_eq row.uri crl || bytes_eq row.uri manifest) ≡ true) [
      | true ↦ ap (λ b. b || bytes_eq row.uri crl || bytes_eq row.uri manifest) none
      | false ↦ refl
    ]
roa-in-place key crl manifest row Point is other = cc

pub point-beside : (key : KeyId) (crl manifest : List ℕ) (issued : List IssuedRow)
    → has_one_point (beside_roas issued) key crl manifest ≡ has_one_point issued key crl manifest
point-beside key crl manifest issued =
    all-kept (λ (row : IssuedRow). not (is_roa row.what)) (is_in_place key crl manifest)
    (λ row other. roa-in-place key crl manifest row row.what refl other) issued

-- ---- a loop over references

-- What is found first is found among all.
here-found : {X Y : Type 0} (f : X → Y) (y : X) (b : Bool) (rest found : Option Y) (z : Y)
    → (rest ≡ None → Some z ≡ found) → cond b (Some (f y)) rest ≡ None → Some z ≡ cond b (Some (f y)) found
here-found f y true rest found z more none = absurd cc
here-found f y false rest found z more none = more none

pub find-here : {X Y : Type 0} (p : Y → Bool) (f : X → Y) (xs : List X) (i : ℕ) (x : X)
    → i < length xs → x ≡ get_or xs i x → find p (map f (take i xs)) ≡ None → p (f x) ≡ true
    → Some (f x) ≡ find p (map f xs)
find-here p f [] i x inside is none passes = absurd (omega (arith, inside))
find-here {X} {Y} p f (y ∷ xs) zero x inside is none passes =
    ap (λ b. cond b (Some (f x)) (find p (map f xs))) (sym passes)
    ∙ ap (λ (z : X). cond (p (f z)) (Some (f z)) (find p (map f xs))) is
find-here {X} {Y} p f (y ∷ xs) (suc i) x inside is none passes =
    here-found f y (p (f y)) (find p (map f (take i xs))) (find p (map f xs)) (f x)
    (λ rest. find-here p f xs i x (omega (arith, inside)) is rest passes) none

more-mapped : {X Y : Type 0} (f : X → Y) (xs : List X) (i : ℕ) (x : X) → i < length xs → x ≡ get_or xs i x
    → map f (take (i + 1) xs) ≡ map f (take i xs) ++ f x ∷ []
more-mapped {X} f xs i x inside is =
    ap (map f) (take_more xs i x inside ∙ ap (λ (z : X). take i xs ++ z ∷ []) (sym is)) ∙ map-append f (take i xs) (x ∷ [])

pub find-more : {X Y : Type 0} (p : Y → Bool) (f : X → Y) (xs : List X) (i : ℕ) (x : X)
    → i < length xs → x ≡ get_or xs i x → find p (map f (take i xs)) ≡ None → p (f x) ≡ false
    → find p (map f (take (i + 1) xs)) ≡ None
find-more {X} {Y} p f xs i x inside is none fails =
    ap (find p) (more-mapped f xs i x inside is)
    ∙ (find-append p (map f (take i xs)) (f x ∷ [])
    ∙ (ap (λ (o : Option Y). option_or o (find p (f x ∷ []))) none
    ∙ ap (λ b. cond b (Some (f x)) None) fails))

-- All pass where each does, and don't where one doesn't.
and-both : (b c d : Bool) → (b && (c && d)) ≡ ((b && c) && d)
and-both true c d = refl
and-both false c d = refl

all-both : {Y : Type 0} (p : Y → Bool) (xs ys : List Y) → list_all p (xs ++ ys) ≡ (list_all p xs && list_all p ys)
all-both p [] ys = refl
all-both p (x ∷ xs) ys = ap (λ b. p x && b) (all-both p xs ys) ∙ and-both (p x) (list_all p xs) (list_all p ys)

pub all-more : {X Y : Type 0} (p : Y → Bool) (f : X → Y) (xs : List X) (i : ℕ) (x : X)
    → i < length xs → x ≡ get_or xs i x → list_all p (map f (take i xs)) ≡ true → p (f x) ≡ true
    → list_all p (map f (take (i + 1) xs)) ≡ true
all-more p f xs i x inside is all passes =
    ap (list_all p) (more-mapped f xs i x inside is)
    ∙ (all-both p (map f (take i xs)) (f x ∷ [])
    ∙ (ap (λ b. b && (p (f x) && true)) all ∙ ap (λ b. b && true) passes))

never-all : (b c : Bool) → false ≡ c → false ≡ (b && c)
never-all true c none = none
never-all false c none = refl

pub all-here : {X Y : Type 0} (p : Y → Bool) (f : X → Y) (xs : List X) (i : ℕ) (x : X)
    → i < length xs → x ≡ get_or xs i x → p (f x) ≡ false → false ≡ list_all p (map f xs)
all-here p f [] i x inside is fails = absurd (omega (arith, inside))
all-here {X} {Y} p f (y ∷ xs) zero x inside is fails =
    ap (λ b. b && list_all p (map f xs)) (sym fails) ∙ ap (λ (z : X). p (f z) && list_all p (map f xs)) is
all-here {X} {Y} p f (y ∷ xs) (suc i) x inside is fails =
    never-all (p (f y)) (list_all p (map f xs)) (all-here p f xs i x (omega (arith, inside)) is fails)
