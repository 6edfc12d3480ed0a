-- Where the certificates of keys stand.
use Rattle.std.proofs.Common.{◌≡◌, ℕ, suc, Bool, true, false, cond, Option, None, Some, List, [], ◌∷◌}
use Rattle.std.proofs.Common.{find, sym, ap, subst, ◌∙◌, arith}
use Rattle.std.specs.List.{All}
use Rattle.std.specs.Option.{option_and_then}
use Rattle.std.proofs.lemmas.List.{take-append-drop}
use Rattle.std.proofs.lemmas.List.Elements.{All-drop}
use Rattle.key_roll.specs.declared.rows.KeyRow.{KeyRow}
use Rattle.key_roll.specs.declared.work.CertWork.{CertWork}
use Rattle.key_roll.specs.declared.work.KeyName.{KeyName}
use Rattle.key_roll.specs.declared.work.KeyName.TheVariants.{Live, Fresh}
use Rattle.issue_values.specs.Publishers.{Publishing}
use Rattle.issue_keys.specs.Keys.{id_of}
use Rattle.issue_drafts.specs.WorkKeys.{Keys, key_named, keys_at}
use Rattle.issue_drafts.specs.IssueInput.{IssueInput}
use Rattle.issue_drafts.specs.Publishers.{name_at, names_key, issuer_for, certificate_of, publishing_of}

-- ---- what holds of each key holds of one that is found

found-holds : {A : Type 0} (P : A → Type 0) (p : A → Bool) (xs : List A) (y : A)
    → All P xs → find p xs ≡ Some y → P y
found-holds P p [] y all e = absurd cc
found-holds {A} P p (x ∷ xs) y all e =
    by (p x) (found-holds P p xs y (λ k d lt. all (suc k) d (omega arith))) e
  where
    by : (b : Bool) → (find p xs ≡ Some y → P y) → cond b (Some x) (find p xs) ≡ Some y → P y
    by true rest e =
        let same : x ≡ y = cc in
        subst P same (all 0 x (omega arith))
    by false rest e = rest e

named-holds : (P : KeyRow → Type 0) (rows : List KeyRow) (n : ℕ) (name : KeyName) (y : KeyRow)
    → All P rows → key_named (keys_at rows n) name ≡ Some y → P y
named-holds P rows n (Live id) y all e =
    found-holds P _ _ y (subst (All P) (sym (take-append-drop n rows)) all) e
named-holds P rows n (Fresh desk) y all e = found-holds P _ _ y (All-drop P n rows all) e

pub issuer-holds : (P : KeyRow → Type 0) (rows : List KeyRow) (n : ℕ) (certs : List CertWork)
    (row issuer : KeyRow)
    → All P rows → Some issuer ≡ issuer_for (keys_at rows n) certs row → P issuer
issuer-holds P rows n certs row issuer all e =
    by (find (λ (cert : CertWork). names_key (keys_at rows n) cert.subject row) certs) (sym e)
  where
    by : (o : Option CertWork)
        → option_and_then (λ (cert : CertWork). key_named (keys_at rows n) cert.issuer) o ≡ Some issuer
        → P issuer
    by None e = absurd cc
    by (Some cert) e = named-holds P rows n cert.issuer issuer all e

-- ---- a key as certificates see it

abbrev parts : List ℕ → List ℕ → List ℕ → List ℕ → Publishing
parts key id name certificate = record { key = key; id = id; name = name; certificate = certificate }

-- A key whose identifier is at hand.
pub published : (s : IssueInput) (keys : Keys) (row : KeyRow) (id name certificate : List ℕ)
    → id ≡ id_of row → name ≡ name_at s.names row.desk → certificate ≡ certificate_of s keys row
    → parts row.key.bytes id name certificate ≡ publishing_of s keys row
published s keys row id name certificate own named uri =
    ap (λ (i : List ℕ). parts row.key.bytes i name certificate) own
    ∙ (ap (λ (n : List ℕ). parts row.key.bytes (id_of row) n certificate) named
    ∙ ap (λ (u : List ℕ). parts row.key.bytes (id_of row) (name_at s.names row.desk) u) uri)
