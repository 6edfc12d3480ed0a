-- What an edition makes has the edition's moment, so it isn't what stood before it.
use Rattle.std.proofs.Common.{◌≡◌, ℕ, zero, suc, ◌<◌, ◌≤◌, Bool, true, false, cond, Some, List, length, take, refl, sym, ap, ◌∙◌, arith, ◌⊎◌, inl, inr}
use Rattle.std.specs.List.{slice_get}
use Rattle.std.proofs.lemmas.Bool.{cases_eq}
use Rattle.std.proofs.lemmas.Option.{same_Some, none-some, slice_get_within}
use Rattle.std.proofs.lemmas.List.{take_all}
use Rattle.cert_obj.specs.Values.{CertValue, SignedCert}
use Rattle.crl_obj.specs.Values.{CrlValue, SignedCrl}
use Rattle.cms_obj.specs.Values.{ObjectValue}
use Rattle.rp_rules.specs.Objects.{certificate_in, crl_in, object_in}
use Rattle.issue_drafts.specs.WorkKeys.{Keys}
use Rattle.issue_drafts.specs.IssueInput.{IssueInput}
use Rattle.issue_drafts.specs.Publishers.{is_key, publishing_of}
use Rattle.issue_drafts.specs.Drafts.{Draft, Kind, serial_at}
use Rattle.issue_drafts.specs.Drafts.Kind.{Certificate, Roa, Crl, Manifest}
use Rattle.issue_values.specs.Certificates as values
use Rattle.editions.specs.Edition.{Edition, state_after, set_after}
use Rattle.editions.specs.Wanted.{there, whole, new_objects}
use Rattle.editions.specs.Objects.{Issuance, moment_of, IsObject}
use Rattle.editions.specs.Step.{Premises, AreSteps}
use Rattle.editions.specs.MadeIn.{issuance_of}
use Rattle.editions.proofs.ObjectLemmas.OneKind.{with-certificate, with-crl, with-object}
use Rattle.editions.proofs.ObjectLemmas.Given.{roa-read, manifest-read}
use Rattle.editions.proofs.ObjectLemmas.History.{there-is, moment-before, rises}
use Rattle.editions.proofs.ObjectLemmas.Left.{was-made}

-- ---- the moment that bytes tell

record IsCertAt (bytes : List ℕ) (moment : ℕ) : Type 0 where
  pub certificate : SignedCert
  pub read : certificate_in bytes ≡ Some certificate
  pub at : certificate.cert.not_before ≡ moment

record IsCrlAt (bytes : List ℕ) (moment : ℕ) : Type 0 where
  pub crl : SignedCrl
  pub read : crl_in bytes ≡ Some crl
  pub at : crl.crl.this_update ≡ moment

record IsSignedAt (bytes : List ℕ) (moment : ℕ) : Type 0 where
  pub object : ObjectValue
  pub read : object_in bytes ≡ Some object
  pub at : object.moment ≡ moment

abbrev IsAt : List ℕ → ℕ → Type 0
IsAt bytes moment = IsCertAt bytes moment ⊎ (IsCrlAt bytes moment ⊎ IsSignedAt bytes moment)

one-moment : (bytes : List ℕ) (n k : ℕ) → IsAt bytes n → IsAt bytes k → n ≡ k
one-moment bytes n k (inl one) (inl two) =
    let same = same_Some one.certificate two.certificate (sym one.read ∙ two.read) in
    sym one.at ∙ (ap (λ (c : SignedCert). c.cert.not_before) same ∙ two.at)
one-moment bytes n k (inl one) (inr (inl two)) =
    absurd (none-some two.crl
    (sym (with-certificate bytes one.certificate one.read).0 ∙ two.read))
one-moment bytes n k (inl one) (inr (inr two)) =
    absurd (none-some two.object
    (sym (with-certificate bytes one.certificate one.read).1 ∙ two.read))
one-moment bytes n k (inr (inl one)) (inl two) =
    absurd (none-some two.certificate (sym (with-crl bytes one.crl one.read).0 ∙ two.read))
one-moment bytes n k (inr (inl one)) (inr (inl two)) =
    let same = same_Some one.crl two.crl (sym one.read ∙ two.read) in
    sym one.at ∙ (ap (λ (c : SignedCrl). c.crl.this_update) same ∙ two.at)
one-moment bytes n k (inr (inl one)) (inr (inr two)) =
    absurd (none-some two.object (sym (with-crl bytes one.crl one.read).1 ∙ two.read))
one-moment bytes n k (inr (inr one)) (inl two) =
    absurd (none-some two.certificate (sym (with-object bytes one.object one.read).0 ∙ two.read))
one-moment bytes n k (inr (inr one)) (inr (inl two)) =
    absurd (none-some two.crl (sym (with-object bytes one.object one.read).1 ∙ two.read))
one-moment bytes n k (inr (inr one)) (inr (inr two)) =
    let same = same_Some one.object two.object (sym one.read ∙ two.read) in
    sym one.at ∙ (ap (λ (o : ObjectValue). o.moment) same ∙ two.at)

-- ---- what is made

before-by : (b : Bool) (x y : CertValue) (n : ℕ) → x.not_before ≡ n → y.not_before ≡ n
    → (cond b x y).not_before ≡ n
before-by true x y n one two = one
before-by false x y n one two = two

made-at : (m : Issuance) (d : Draft) (kind : Kind) (bytes : List ℕ) → IsObject m d kind bytes
    → IsAt bytes (moment_of m)
made-at m d (Certificate subject held) bytes is =
    let s : IssueInput = whole m.plan_input m.keys in
    let keys : Keys = there m.keys in
    let n : ℕ = serial_at (new_objects m.plan_input m.keys) d.issuer d.uri in
    let one : CertValue = values.anchor_certificate s.site s.work.moment
    (publishing_of s keys d.issuer) held n in
    let two : CertValue = values.authority_certificate s.site s.work.moment
    (publishing_of s keys d.issuer) (publishing_of s keys subject) held n in
    inl (record {
      certificate = is.certificate;
      read = is.read;
      at = ap (λ (v : CertValue). v.not_before) is.issued.says
          ∙ before-by (is_key d.issuer subject) one two (moment_of m) refl refl;
    })
made-at m d (Roa origin) bytes is = inr (inr (record {
  object = is.roa.object;
  read = (roa-read bytes is.roa is.read).object;
  at = is.signed.moment;
}))
made-at m d Crl bytes is = inr (inl (record {
  crl = is.crl;
  read = is.read;
  at = ap (λ (v : CrlValue). v.this_update) is.says;
}))
made-at m d Manifest bytes is = inr (inr (record {
  object = is.manifest.object;
  read = (manifest-read bytes is.manifest is.read).object;
  at = is.signed.moment;
}))

-- ---- what stands

module _ (premises : Premises) (editions : List Edition) (steps : AreSteps premises editions) where
  -- The moment of an edition is at most that of later ones.
  at-most : (n k : ℕ) → k < n → n ≤ length editions → (edition : Edition)
      → slice_get editions k ≡ Some edition → edition.moment ≤ (state_after (take n editions)).moment
  at-most zero k before within edition there = absurd (omega (arith, before))
  at-most (suc n) k before within edition there =
      let last = there-is editions n (omega (arith, within)) in
      let is : (state_after (take (suc n) editions)).moment ≡ last.0.moment =
      moment-before editions n last.0 last.1 in
      elim (cases_eq k n) [
        | inl same ↦
            let one : edition ≡ last.0 = same_Some edition last.0
            (sym there ∙ (ap (slice_get editions) same ∙ last.1)) in
            let moment : edition.moment ≡ last.0.moment = ap (λ (e : Edition). e.moment) one in
            omega (arith, is, moment)
        | inr apart ↦
            let least = at-most n k (omega (arith, before, apart)) (omega (arith, within)) edition there in
            let more = rises premises editions steps n last.0 last.1 in
            omega (arith, least, more, is)
      ]

  -- What is made later isn't what stands: an edition of before made that.
  pub other-stood : (m : Issuance) (d : Draft) (bytes uri : List ℕ)
      → (state_after editions).moment < moment_of m → IsObject m d d.kind bytes
      → set_after editions uri ≡ Some bytes → ⊥
  other-stood m d bytes uri later is stands =
      let was = was-made premises editions steps uri bytes stands in
      let made = was.1 in
      let same : made.edition.moment ≡ moment_of m = one-moment bytes made.edition.moment (moment_of m)
      (made-at (issuance_of premises made.clock (take was.0 editions) made.edition made.step) made.draft
      made.draft.kind bytes made.object) (made-at m d d.kind bytes is) in
      let all : (state_after (take (length editions) editions)).moment ≡ (state_after editions).moment =
      ap (λ (l : List Edition). (state_after l).moment) (take_all (length editions) editions (omega arith)) in
      let least = at-most (length editions) was.0 (slice_get_within editions was.0 made.edition made.there)
      (omega arith) made.edition made.there in
      omega (arith, same, later, least, all)
