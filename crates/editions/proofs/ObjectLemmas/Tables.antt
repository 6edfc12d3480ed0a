-- The certificates that the rows of the table tell of, and the tests of those that end.
use Rattle.std.proofs.Common.{◌≡◌, ◌≢◌, ℕ, Bool, true, false, cond, not, ◌&&◌, ◌==◌, Option, Some, None, List, refl, sym, ap, subst, ◌∙◌, inl, inr}
use Rattle.std.specs.Prelude.{is_some}
use Rattle.std.specs.Str.{bytes_eq}
use Rattle.std.proofs.lemmas.Bool.{and_parts, and_from, not-true, eq-eqb, ne_eqb, true≢false, false_from_ne_true}
use Rattle.std.proofs.lemmas.Option.{none-some}
use Rattle.std.proofs.lemmas.Slice.Eq.{bytes_eq-Decides}
use Rattle.sha2.specs.Sha256.{sha256}
use Rattle.key_ids.specs.Uris.{anchor_uri}
use Rattle.key_roll.specs.declared.rows.KeyRow.{KeyRow}
use Rattle.key_roll.specs.declared.issued.IssuedRow.{IssuedRow}
use Rattle.key_roll.specs.declared.issued.What.{What}
use Rattle.key_roll.specs.declared.issued.What.TheVariants.{Authority, Route, Point}
use Rattle.cert_obj.specs.Values.{SignedCert}
use Rattle.crl_obj.specs.Values.{SignedCrl}
use Rattle.rp_rules.specs.Objects.{crl_in}
use Rattle.pub_set.specs.declared.steps.Change.{Change}
use Rattle.pub_set.specs.declared.steps.Change.TheVariants.{Put}
use Rattle.pub_set.specs.Changes.{change_at, difference}
use Rattle.issue_plan.specs.Wanted.{PlanInput}
use Rattle.issue_keys.specs.Keys.{id_of}
use Rattle.editions.specs.Held.{HasCertificate, certificate_inside}
use Rattle.editions.specs.Table.{IsDated, IsTold}
use Rattle.editions.specs.inner.ByRows.{is_ended}
use Rattle.editions.proofs.ObjectLemmas.OneKind.{certificate-no-crl, with-crl}
use Rattle.editions.proofs.ObjectLemmas.Given.{own-certificate, inside-certificate, roa-read, manifest-read}

-- ---- what a row tells

pub record Tells (bytes : List ℕ) (row : IssuedRow) : Type 0 where
  pub certificate : SignedCert
  pub has : HasCertificate bytes certificate
  pub dated : IsDated certificate.cert row

pub told : (bytes : List ℕ) (row : IssuedRow) (what : What) → IsTold bytes row what
    → row.serial ≢ 0 → Tells bytes row
told bytes row (Authority key held) is some =
    record { certificate = is.certificate; has = inl is.read; dated = is.dated }
told bytes row (Route origin) is some =
    let read = roa-read bytes is.roa is.read in
    record {
      certificate = is.roa.certificate;
      has = inr (ap certificate_inside read.object ∙ read.certificate);
      dated = is.dated;
    }
told bytes row Point (inl is) some = absurd (some is.serial)
told bytes row Point (inr is) some =
    let read = manifest-read bytes is.manifest is.read in
    record {
      certificate = is.manifest.certificate;
      has = inr (ap certificate_inside read.object ∙ read.certificate);
      dated = is.dated;
    }

pub no-certificate : (bytes : List ℕ) (l : SignedCrl) (c : SignedCert) → crl_in bytes ≡ Some l
    → HasCertificate bytes c → ⊥
no-certificate bytes l c read (inl e) = certificate-no-crl bytes c l e read
no-certificate bytes l c read (inr e) =
    none-some c (sym (ap certificate_inside (with-crl bytes l read).1) ∙ e)

-- It tells of the certificate that the bytes have.
pub dated : (bytes : List ℕ) (row : IssuedRow) (what : What) (c : SignedCert)
    → IsTold bytes row what → HasCertificate bytes c → IsDated c.cert row
dated bytes row (Authority key held) c is has =
    subst (λ (x : SignedCert). IsDated x.cert row)
    (own-certificate bytes is.certificate c is.read has) is.dated
dated bytes row (Route origin) c is has =
    let read = roa-read bytes is.roa is.read in
    subst (λ (x : SignedCert). IsDated x.cert row)
    (inside-certificate bytes is.roa.object is.roa.certificate c read.object read.certificate has)
    is.dated
dated bytes row Point c (inl is) has = absurd (no-certificate bytes is.crl c is.read has)
dated bytes row Point c (inr is) has =
    let read = manifest-read bytes is.manifest is.read in
    subst (λ (x : SignedCert). IsDated x.cert row)
    (inside-certificate bytes is.manifest.object is.manifest.certificate c read.object
    read.certificate has) is.dated

-- ---- which end

pub record Ends (plan_input : PlanInput) (changes : List Change) (key : KeyRow) (row : IssuedRow)
    : Type 0 where
  pub issuer : row.issuer.bytes ≡ id_of key
  pub some : row.serial ≢ 0
  pub apart : row.uri ≢ anchor_uri plan_input.site
  pub touched : is_some (change_at changes row.uri) ≡ true

pub ends : (plan_input : PlanInput) (changes : List Change) (key : KeyRow) (row : IssuedRow)
    → is_ended plan_input changes key row ≡ true → Ends plan_input changes key row
ends plan_input changes key row e =
    let issuer : Bool = bytes_eq row.issuer.bytes (id_of key) in
    let some : Bool = not (row.serial == 0) in
    let apart : Bool = not (bytes_eq row.uri (anchor_uri plan_input.site)) in
    let a = and_parts (issuer && some && apart) (is_some (change_at changes row.uri)) e in
    let b = and_parts (issuer && some) apart a.0 in
    let c = and_parts issuer some b.0 in
    record {
      issuer = (bytes_eq-Decides row.issuer.bytes (id_of key)).0 c.0;
      some = λ none. true≢false
          (sym (eq-eqb row.serial 0 none) ∙ not-true (row.serial == 0) c.1);
      apart = λ same. true≢false
          (sym ((bytes_eq-Decides row.uri (anchor_uri plan_input.site)).1 same)
          ∙ not-true (bytes_eq row.uri (anchor_uri plan_input.site)) b.1);
      touched = a.1;
    }

pub is-ended : (plan_input : PlanInput) (changes : List Change) (key : KeyRow) (row : IssuedRow)
    → Ends plan_input changes key row → is_ended plan_input changes key row ≡ true
is-ended plan_input changes key row is =
    let issuer : Bool = bytes_eq row.issuer.bytes (id_of key) in
    let some : Bool = not (row.serial == 0) in
    let apart : Bool = not (bytes_eq row.uri (anchor_uri plan_input.site)) in
    and_from (issuer && some && apart) (is_some (change_at changes row.uri))
    (and_from (issuer && some) apart
    (and_from issuer some ((bytes_eq-Decides row.issuer.bytes (id_of key)).1 is.issuer)
    (ap not (ne_eqb row.serial 0 is.some)))
    (ap not (false_from_ne_true (bytes_eq row.uri (anchor_uri plan_input.site))
    (λ same. is.apart ((bytes_eq-Decides row.uri (anchor_uri plan_input.site)).0 same)))))
    is.touched

-- ---- what isn't changed

same-by : (same : Bool) (uri held new : List ℕ) → bytes_eq held new ≡ same
    → ◌≡◌ {A = Option Change} (cond same None (Some (Put uri new (Some (sha256 held))))) None
    → held ≡ new
same-by true uri held new is e = (bytes_eq-Decides held new).0 is
same-by false uri held new is e = absurd cc

-- Where no change is needed, what stood stands.
kept-from-none : (uri held : List ℕ) (new : Option (List ℕ))
    → difference uri (Some held) new ≡ None → new ≡ Some held
kept-from-none uri held None e = absurd cc
kept-from-none uri held (Some new) e =
    ap (λ (b : List ℕ). Some b) (sym (same-by (bytes_eq held new) uri held new refl e))

-- Where it doesn't stand any longer, there is a change.
pub is-touched : (uri held : List ℕ) (change : Option Change) (new : Option (List ℕ))
    → change ≡ difference uri (Some held) new → (new ≡ Some held → ⊥)
    → is_some change ≡ true
is-touched uri held (Some change) new e gone = refl
is-touched uri held None new e gone = absurd (gone (kept-from-none uri held new (sym e)))
