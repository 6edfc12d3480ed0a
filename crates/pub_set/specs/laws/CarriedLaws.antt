-- The changes between two sets, carried out over the old one.
use Rattle.std.proofs.Common.{◌≡◌, ℕ, true, false, cond, refl, sym, ◌∙◌, ap, List, [], ◌∷◌, Some, None}
use Rattle.std.specs.Prelude.{Option}
use Rattle.std.specs.Str.{bytes_eq}
use Rattle.std.proofs.lemmas.Slice.Eq.{bytes_eq-Decides}
use Rattle.sha2.specs.Sha256.{sha256}
use Rattle.pub_set.specs.declared.steps.Change.{Change}
use Rattle.pub_set.specs.declared.steps.Change.TheVariants.{Put, Withdraw}
use Rattle.pub_set.specs.Objects.{is_same, Rise}
use Rattle.pub_set.specs.Changes.{Contents, uri_of, left_by, hash_of, after, after_all, difference, change_at}
use Rattle.pub_set.specs.Queries.{hash_code, first_refusal, AreWithin}
use Rattle.pub_set.specs.laws.UriLaws.{same_is, same_self}
use Rattle.pub_set.specs.laws.LookupLaws.{none_above, rise-head, rise-tail}

-- No change is needed only where what is held is what is wanted.
same_from_none : (uri : List ℕ) (held wanted : Option (List ℕ))
    → difference uri held wanted ≡ None → held ≡ wanted
same_from_none uri None None none = refl
same_from_none uri None (Some wanted) none = cc
same_from_none uri (Some held) None none = cc
same_from_none uri (Some held) (Some wanted) none =
    elim (bytes_eq held wanted) as (λ b. bytes_eq held wanted ≡ b → cond b None (Some
    (Put uri wanted (Some (sha256 held)))) ≡ None → Some held ≡ Some wanted) [
      | true ↦ λ same h. ap (λ (l : List ℕ). Some l) ((bytes_eq-Decides held wanted).0 same)
      | false ↦ λ other h. cc
    ] refl none

bytes_same : (bytes : List ℕ) → bytes_eq bytes bytes ≡ true
bytes_same bytes = (bytes_eq-Decides bytes bytes).1 refl

none_from_same : (uri : List ℕ) (held : Option (List ℕ))
    → ◌≡◌ {A = Option Change} (difference uri held held) None
none_from_same uri None = refl
none_from_same uri (Some held) = rw (bytes_same held) refl

-- A change that is needed leaves what is wanted.
left_is : (uri : List ℕ) (held wanted : Option (List ℕ)) (c : Change)
    → Some c ≡ difference uri held wanted → left_by c ≡ wanted
left_is uri None None c is = cc
left_is uri None (Some wanted) c is = let e : c ≡ Put uri wanted None = cc in ap left_by e
left_is uri (Some held) None c is = let e : c ≡ Withdraw uri (sha256 held) = cc in ap left_by e
left_is uri (Some held) (Some wanted) c is =
    elim (bytes_eq held wanted) as (λ b. Some c ≡ cond b None (Some (Put uri wanted (Some
    (sha256 held)))) → left_by c ≡ Some wanted) [
      | true ↦ λ h. cc
      | false ↦ λ h. let e : c ≡ Put uri wanted (Some (sha256 held)) = cc in ap left_by e
    ] is

-- It says the hash of what is held.
hash_is : (uri : List ℕ) (held wanted : Option (List ℕ)) (c : Change)
    → Some c ≡ difference uri held wanted → hash_code held (hash_of c) ≡ None
hash_is uri None None c is = cc
hash_is uri None (Some wanted) c is =
    let e : c ≡ Put uri wanted None = cc in ap (λ x. hash_code None (hash_of x)) e
hash_is uri (Some held) None c is =
    let e : c ≡ Withdraw uri (sha256 held) = cc in
    ap (λ x. hash_code (Some held) (hash_of x)) e ∙ rw (bytes_same (sha256 held)) refl
hash_is uri (Some held) (Some wanted) c is =
    elim (bytes_eq held wanted) as (λ b. Some c ≡ cond b None (Some (Put uri wanted (Some
    (sha256 held)))) → hash_code (Some held) (hash_of c) ≡ None) [
      | true ↦ λ h. cc
      | false ↦ λ h.
          let e : c ≡ Put uri wanted (Some (sha256 held)) = cc in
          ap (λ x. hash_code (Some held) (hash_of x)) e ∙ rw (bytes_same (sha256 held)) refl
    ] is

first_found : (c : Change) (rest : List Change) → change_at (c ∷ rest) (uri_of c) ≡ Some c
first_found c rest = rw (same_self (uri_of c)) refl

-- After the first change the others are the ones that are needed.
rest_needed : (c : Change) (rest : List Change) (held wanted : Contents)
    → Rise uri_of (c ∷ rest) →
    ((uri : List ℕ) → change_at (c ∷ rest) uri ≡ difference uri (held uri) (wanted uri)) →
    (uri : List ℕ) → change_at rest uri ≡ difference uri (after held c uri) (wanted uri)
rest_needed c rest held wanted up each uri =
    elim (is_same (uri_of c) uri) as (λ b. is_same (uri_of c) uri ≡ b →
    cond b (Some c) (change_at rest uri) ≡ difference uri (held uri) (wanted uri) →
    change_at rest uri ≡ difference uri (cond b (left_by c) (held uri)) (wanted uri)) [
      | true ↦ λ same first.
          let here : uri_of c ≡ uri = same_is (uri_of c) uri same in
          let none : change_at rest uri ≡ None = rw (← here) (none_above uri_of (λ x. x) rest
          (uri_of c) (rise-head uri_of c rest up)) in
          let left = left_is uri (held uri) (wanted uri) c first in
          none ∙ (sym (none_from_same uri (wanted uri)) ∙ ap (λ l. difference uri l
          (wanted uri)) (sym left))
      | false ↦ λ other first. first
    ] refl (each uri)

pub carried_out : (changes : List Change) (held wanted : Contents) → Rise uri_of changes →
    ((uri : List ℕ) → change_at changes uri ≡ difference uri (held uri) (wanted uri))
    → (uri : List ℕ) → after_all held changes uri ≡ wanted uri
carried_out [] held wanted up each uri =
    same_from_none uri (held uri) (wanted uri) (sym (each uri))
carried_out (c ∷ rest) held wanted up each uri =
    carried_out rest (after held c) wanted (rise-tail uri_of c rest up)
    (rest_needed c rest held wanted up each) uri

pub none_refused : (base : List ℕ) (changes : List Change) (held wanted : Contents)
    → Rise uri_of changes →
    ((uri : List ℕ) → change_at changes uri ≡ difference uri (held uri) (wanted uri))
    → AreWithin base changes → first_refusal base held changes ≡ None
none_refused base [] held wanted up each within = refl
none_refused base (c ∷ rest) held wanted up each within =
    let needed : Some c ≡ difference (uri_of c) (held (uri_of c)) (wanted (uri_of c)) = sym
    (first_found c rest) ∙ each (uri_of c) in
    let good : hash_code (held (uri_of c)) (hash_of c) ≡ None = hash_is (uri_of c) (held
    (uri_of c)) (wanted (uri_of c)) c needed in
    rw (within.0, good) (none_refused base rest (after held c) wanted
    (rise-tail uri_of c rest up) (rest_needed c rest held wanted up each) within.1)
