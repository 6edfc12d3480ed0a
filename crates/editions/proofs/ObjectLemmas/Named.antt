-- Keys by their names, and what drafts are made of.
use Rattle.std.proofs.Common.{◌≡◌, Option, Some, None, List, [], ◌++◌, refl, sym, subst}
use Rattle.std.specs.Prelude.{Contains, option_map, option_and_then}
use Rattle.std.specs.Str.{bytes_eq}
use Rattle.std.proofs.lemmas.Option.{same_Some}
use Rattle.std.proofs.lemmas.List.{append-nil}
use Rattle.std.proofs.lemmas.Slice.Eq.{bytes_eq-Decides}
use Rattle.key_roll.specs.declared.rows.KeyRow.{KeyRow}
use Rattle.key_roll.specs.declared.work.CertWork.{CertWork}
use Rattle.key_roll.specs.declared.work.KeyName.{KeyName}
use Rattle.key_roll.specs.declared.work.KeyName.TheVariants.{Live, Fresh}
use Rattle.issue_plan.specs.Keys.{kept}
use Rattle.issue_keys.specs.Keys.{id_of}
use Rattle.issue_drafts.specs.WorkKeys.{Keys, key_named}
use Rattle.issue_drafts.specs.IssueInput.{IssueInput}
use Rattle.issue_drafts.specs.Publishers.{made_uri}
use Rattle.issue_drafts.specs.Drafts.{Draft, certificate_draft}
use Rattle.issue_drafts.specs.Drafts.Kind.{Certificate}
use Rattle.editions.specs.Wanted.{there}
use Rattle.items.specs.laws.ElementLaws.{found-in, is-found}

-- ---- keys by their names

pub key-named : (keys : List KeyRow) (name : KeyName) (x : KeyRow)
    → key_named (there keys) name ≡ Some x → Contains keys x
key-named keys (Live id) x e =
    subst (λ (l : List KeyRow). Contains l x) (append-nil keys)
    (found-in (λ row. bytes_eq (id_of row) id.bytes) (keys ++ []) x e).0
key-named keys (Fresh desk) x e = absurd cc

-- A key is named by its identifier, for the first key that has it.
pub self-named : (keys : List KeyRow) (key : KeyRow) → Contains keys key
    → (x : KeyRow) × (key_named (there keys) (kept key).name ≡ Some x) × Contains keys x
    × (id_of x ≡ id_of key)
self-named keys key c =
    let all : Contains (keys ++ []) key =
    subst (λ (l : List KeyRow). Contains l key) (sym (append-nil keys)) c in
    let found = is-found (λ (row : KeyRow). bytes_eq (id_of row) (id_of key)) (keys ++ []) key all
    ((bytes_eq-Decides (id_of key) (id_of key)).1 refl) in
    let is = found-in (λ (row : KeyRow). bytes_eq (id_of row) (id_of key)) (keys ++ []) found.0
    found.1 in (
      found.0,
      found.1,
      key-named keys (kept key).name found.0 found.1,
      (bytes_eq-Decides (id_of found.0) (id_of key)).0 is.1,
    )

-- The key of that name has the identifier.
pub same-named : (keys : List KeyRow) (key x : KeyRow) → key_named (there keys) (kept key).name ≡ Some x
    → id_of x ≡ id_of key
same-named keys key x e =
    (bytes_eq-Decides (id_of x) (id_of key)).0
    (found-in (λ (row : KeyRow). bytes_eq (id_of row) (id_of key)) (keys ++ []) x e).1

-- ---- what drafts are made of

abbrev pub made-for : IssueInput → CertWork → KeyRow → KeyRow → Draft
made-for s cert issuer subject = record {
  uri = made_uri s.site s.names issuer subject;
  issuer = issuer;
  kind = Certificate subject cert.held;
}

pub cert-draft : (s : IssueInput) (keys : Keys) (cert : CertWork) (d : Draft)
    → certificate_draft s keys cert ≡ Some d
    → (issuer subject : KeyRow) × (key_named keys cert.issuer ≡ Some issuer)
    × (key_named keys cert.subject ≡ Some subject) × (made-for s cert issuer subject ≡ d)
cert-draft s keys cert d e = by (key_named keys cert.issuer) refl (key_named keys cert.subject) refl e
  where
    by : (o : Option KeyRow) → key_named keys cert.issuer ≡ o → (of : Option KeyRow)
        → key_named keys cert.subject ≡ of
        → option_and_then (λ issuer. option_map (made-for s cert issuer) of) o ≡ Some d
        → (issuer subject : KeyRow) × (key_named keys cert.issuer ≡ Some issuer)
        × (key_named keys cert.subject ≡ Some subject) × (made-for s cert issuer subject ≡ d)
    by None is of has e = absurd cc
    by (Some issuer) is None has e = absurd cc
    by (Some issuer) is (Some subject) has e =
        (issuer, subject, is, has, same_Some (made-for s cert issuer subject) d e)

-- The same of a draft that has an issuer alone.
pub mapped-draft : (make : KeyRow → Draft) (o : Option KeyRow) (d : Draft)
    → option_map make o ≡ Some d → (issuer : KeyRow) × (o ≡ Some issuer) × (make issuer ≡ d)
mapped-draft make None d e = absurd cc
mapped-draft make (Some issuer) d e = (issuer, refl, same_Some (make issuer) d e)
