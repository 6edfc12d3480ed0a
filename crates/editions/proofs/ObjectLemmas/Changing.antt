-- What is put and withdrawn by the table of what stands is what is needed.
use Rattle.std.proofs.Common.{◌≡◌, ◌≢◌, ℕ, suc, Bool, true, false, cond, Option, Some, None, List, [], ◌∷◌, length, map, refl, sym, ap, subst, ◌∙◌, arith, get_or}
use Rattle.std.specs.Prelude.{AllPairs, All, Contains, option_map, is_some}
use Rattle.std.specs.List.{list_any}
use Rattle.std.specs.Str.{bytes_eq}
use Rattle.std.specs.Ordering.{on}
use Rattle.std.proofs.lemmas.Bool.{false_from_ne_true}
use Rattle.std.proofs.lemmas.Option.{same_Some, none-some}
use Rattle.std.proofs.lemmas.List.{get_or-map}
use Rattle.std.proofs.lemmas.List.Elements.{All-contains, Contains-get_or}
use Rattle.std.proofs.lemmas.Map.Keys.{sorted_tail}
use Rattle.std.proofs.lemmas.Slice.Eq.{bytes_eq-Decides}
use Rattle.sha2.specs.Sha256.{sha256}
use Rattle.key_roll.specs.declared.issued.IssuedRow.{IssuedRow}
use Rattle.pub_set.specs.declared.steps.Change.{Change}
use Rattle.pub_set.specs.declared.steps.Change.TheVariants.{Put, Withdraw}
use Rattle.pub_set.specs.Objects.{uri_cmp, is_same, found_at, Rise}
use Rattle.pub_set.specs.Changes.{Contents, uri_of, left_by, after, after_all, difference, change_at}
use Rattle.issue_drafts.specs.IssueInput.{IssueInput}
use Rattle.issue_drafts.specs.laws.UriOrder.{found-some, found-none, found-there, apart-from-rise}
use Rattle.pub_set.specs.laws.UriLaws.{same_is as same-is}
use Rattle.issue_sign.specs.Objects.{Signed}
use Rattle.issue_make.specs.Trace.{IssuingTrace, made_of, final_bytes, hash_at, put_of, withdrawal_at, or_else, wanted_at}
use Rattle.editions.specs.Edition.{AreChanges}
use Rattle.editions.specs.Table.{IsTable}
use Rattle.editions.proofs.StateLemmas.Carried.{left_at}

-- ---- what changes leave at a URI

none-later : (c : Change) (rest : List Change) → Rise uri_of (c ∷ rest)
    → change_at rest (uri_of c) ≡ None
none-later c rest up =
    let apart = apart-from-rise uri_of (c ∷ rest) up in
    found-none uri_of (λ (x : Change). x) rest (uri_of c) (λ k d inside same.
    apart 0 (suc k) (uri_of c) (omega arith) (omega (arith, inside, length-uris rest))
    (sym (get_or-map uri_of rest k d (uri_of c) inside ∙ same)))
  where
    length-uris : (changes : List Change) → length (map uri_of changes) ≡ length changes
    length-uris [] = refl
    length-uris (x ∷ changes) = ap suc (length-uris changes)

pub after-at : (changes : List Change) (old : Contents) → Rise uri_of changes → (uri : List ℕ)
    → after_all old changes uri ≡ left_at (change_at changes uri) (old uri)
after-at [] old up uri = refl
after-at (c ∷ rest) old up uri =
    after-at rest (after old c) (sorted_tail (on uri_of uri_cmp) c rest up) uri
    ∙ by (is_same (uri_of c) uri) refl
  where
    by : (b : Bool) → is_same (uri_of c) uri ≡ b
        → left_at (change_at rest uri) (cond b (left_by c) (old uri))
        ≡ left_at (cond b (Some c) (change_at rest uri)) (old uri)
    by true same =
        let here : uri_of c ≡ uri = same-is (uri_of c) uri same in
        ap (λ (o : Option Change). left_at o (left_by c))
        (subst (λ (u : List ℕ). change_at rest u ≡ None) here (none-later c rest up))
    by false other = refl

-- ---- hashes by the table

module _ (old : Contents) (issued : List IssuedRow) (table : IsTable old issued) where
  abbrev hash_in : List ℕ → Option (List ℕ)
  hash_in uri = found_at (λ row. row.uri) (λ row. row.hash) issued uri

  -- The table has the hash of what stands.
  pub hash-is : (uri : List ℕ) → hash_in uri ≡ option_map sha256 (old uri)
  hash-is uri = by (old uri) refl
    where
      none : (found : Option (List ℕ)) → hash_in uri ≡ found → old uri ≡ None → found ≡ None
      none None is stands = refl
      none (Some hash) is stands =
          let row = found-some (λ (row : IssuedRow). row.uri) (λ (row : IssuedRow). row.hash) issued
          uri hash is in
          let at = table.each row.0 row.1 in
          absurd (none-some at.0 (sym stands ∙ (ap old (sym row.2) ∙ at.1)))

      by : (held : Option (List ℕ)) → old uri ≡ held → hash_in uri ≡ option_map sha256 held
      by None stands = none (hash_in uri) refl stands
      by (Some bytes) stands =
          let row = table.all uri (ap is_some stands) in
          let at = table.each row.0 row.1 in
          let same : at.0 ≡ bytes =
          same_Some at.0 bytes (sym at.1 ∙ (ap old row.2 ∙ stands)) in
          let found : hash_in row.0.uri ≡ Some row.0.hash = found-there
          (λ (r : IssuedRow). r.uri) (λ (r : IssuedRow). r.hash) issued row.0
          (apart-from-rise (λ (r : IssuedRow). r.uri) issued table.rising) row.1 in
          subst (λ (u : List ℕ). hash_in u ≡ Some row.0.hash) row.2 found
          ∙ ap (λ (h : List ℕ). Some h) (at.2.hash ∙ ap sha256 same)

-- ---- what is needed

kept : (uri : List ℕ) (held : Option (List ℕ))
    → ◌≡◌ {A = Option Change} None (difference uri held held)
kept uri None = refl
kept uri (Some bytes) =
    ap (λ (b : Bool). cond b None (Some (Put uri bytes (Some (sha256 bytes)))))
    (sym ((bytes_eq-Decides bytes bytes).1 refl))

put-needed : (uri bytes : List ℕ) (held : Option (List ℕ)) → held ≢ Some bytes
    → Some (Put uri bytes (option_map sha256 held)) ≡ difference uri held (Some bytes)
put-needed uri bytes None other = refl
put-needed uri bytes (Some was) other =
    ap (λ (b : Bool). cond b None (Some (Put uri bytes (Some (sha256 was)))))
    (sym (false_from_ne_true (bytes_eq was bytes) (λ same.
    other (ap (λ (b : List ℕ). Some b) ((bytes_eq-Decides was bytes).0 same)))))

withdrawal-needed : (uri : List ℕ) (held : Option (List ℕ))
    → option_map (λ hash. Withdraw uri hash) (option_map sha256 held) ≡ difference uri held None
withdrawal-needed uri None = refl
withdrawal-needed uri (Some bytes) = refl

module _ (s : IssueInput) (trace : IssuingTrace) (old : Contents) (table : IsTable old s.issued)
    (other : All (λ x. old x.draft.uri ≢ Some (final_bytes s trace x x.draft.kind))
    (made_of trace)) where
  left-withdrawn : (uri : List ℕ)
      → left_at (option_map (λ hash. Withdraw uri hash) (hash_at s uri)) (old uri) ≡ None
  left-withdrawn uri = subst
      (λ (h : Option (List ℕ)). left_at (option_map (λ hash. Withdraw uri hash) h) (old uri) ≡ None)
      (sym (hash-is old s.issued table uri)) (by (old uri))
    where
      by : (held : Option (List ℕ))
          → left_at (option_map (λ hash. Withdraw uri hash) (option_map sha256 held)) held ≡ None
      by None = refl
      by (Some bytes) = refl

  withdrawn-needed : (uri : List ℕ)
      → withdrawal_at s uri ≡ difference uri (old uri) (left_at (withdrawal_at s uri) (old uri))
  withdrawn-needed uri = by (list_any (λ w. bytes_eq w uri) s.work.withdrawn)
    where
      going : Option Change
      going = option_map (λ hash. Withdraw uri hash) (hash_at s uri)

      by : (b : Bool) → cond b (option_map (λ hash. Withdraw uri hash) (hash_at s uri)) None
          ≡ difference uri (old uri)
          (left_at (cond b (option_map (λ hash. Withdraw uri hash) (hash_at s uri)) None) (old uri))
      by false = kept uri (old uri)
      by true =
          ap (option_map (λ hash. Withdraw uri hash)) (hash-is old s.issued table uri)
          ∙ (withdrawal-needed uri (old uri)
          ∙ ap (difference uri (old uri)) (sym (left-withdrawn uri)))

  put-is-needed : (x : Signed) → Contains (made_of trace) x
      → Some (put_of s trace x)
      ≡ difference x.draft.uri (old x.draft.uri) (Some (final_bytes s trace x x.draft.kind))
  put-is-needed x c =
      ap (λ (h : Option (List ℕ)). Some (Put x.draft.uri (final_bytes s trace x x.draft.kind) h))
      (hash-is old s.issued table x.draft.uri)
      ∙ put-needed x.draft.uri (final_bytes s trace x x.draft.kind) (old x.draft.uri)
      (All-contains (λ (y : Signed). old y.draft.uri ≢ Some (final_bytes s trace y y.draft.kind))
      (made_of trace) x other c)

  wanted-needed : (uri : List ℕ)
      → wanted_at s trace uri ≡ difference uri (old uri) (left_at (wanted_at s trace uri) (old uri))
  wanted-needed uri =
      by (found_at (λ (x : Signed). x.draft.uri) (put_of s trace) (made_of trace) uri) refl
    where
      by : (o : Option Change)
          → found_at (λ (x : Signed). x.draft.uri) (put_of s trace) (made_of trace) uri ≡ o
          → or_else o (withdrawal_at s uri)
          ≡ difference uri (old uri) (left_at (or_else o (withdrawal_at s uri)) (old uri))
      by None found = withdrawn-needed uri
      by (Some c) found =
          let x = found-some (λ (x : Signed). x.draft.uri) (put_of s trace) (made_of trace) uri c
          found in
          let needed = put-is-needed x.0 x.1 in
          subst (λ (d : Change). Some d ≡ difference uri (old uri) (left_by d)) x.3
          (subst (λ (u : List ℕ). Some (put_of s trace x.0)
          ≡ difference u (old u) (Some (final_bytes s trace x.0 x.0.draft.kind))) x.2 needed)

  pub are-changes : (changes : List Change) → Rise uri_of changes
      → ((uri : List ℕ) → change_at changes uri ≡ wanted_at s trace uri)
      → AreChanges old (after_all old changes) changes
  are-changes changes up each = record {
    ascending = up;
    each = λ uri.
        let left : after_all old changes uri ≡ left_at (wanted_at s trace uri) (old uri) =
        after-at changes old up uri ∙ ap (λ (o : Option Change). left_at o (old uri)) (each uri) in
        each uri ∙ (wanted-needed uri ∙ ap (difference uri (old uri)) (sym left));
  }

-- ---- what stands then

module _ (s : IssueInput) (trace : IssuingTrace) (old : Contents) (changes : List Change)
    (up : Rise uri_of changes)
    (each : (uri : List ℕ) → change_at changes uri ≡ wanted_at s trace uri)
    (apart : AllPairs (λ a b. a ≢ b) (map (λ x. x.draft.uri) (made_of trace))) where
  stands : (x : Signed) → Contains (made_of trace) x
      → after_all old changes x.draft.uri ≡ Some (final_bytes s trace x x.draft.kind)
  stands x c =
      let found = found-there (λ (y : Signed). y.draft.uri) (put_of s trace) (made_of trace) x
      apart c in
      let wanted : wanted_at s trace x.draft.uri ≡ Some (put_of s trace x) =
      ap (λ (o : Option Change). or_else o (withdrawal_at s x.draft.uri)) found in
      after-at changes old up x.draft.uri
      ∙ ap (λ (o : Option Change). left_at o (old x.draft.uri)) (each x.draft.uri ∙ wanted)

  pub puts-stand : All (λ x. after_all old changes x.draft.uri
      ≡ Some (final_bytes s trace x x.draft.kind)) (made_of trace)
  puts-stand = λ k d inside.
      stands (get_or (made_of trace) k d) (Contains-get_or (made_of trace) k d inside)
