-- The certificates, ROAs and CRLs that are made are those of an edition.
use Rattle.std.proofs.Common.{◌≡◌, ◌≢◌, ℕ, cond, Option, Some, List, get_or, refl, sym, ap, subst, ◌∙◌}
use Rattle.std.specs.Prelude.{All, Contains}
use Rattle.std.proofs.lemmas.List.Elements.{All-contains, Contains-get_or}
use Rattle.der.specs.Part.{IsInput}
use Rattle.origins.specs.declared.Origin.{Origin}
use Rattle.res_sets.specs.declared.holdings.Resources.{Resources}
use Rattle.key_roll.specs.declared.rows.KeyRow.{KeyRow}
use Rattle.key_roll.specs.declared.work.Work.{Work}
use Rattle.cert_obj.specs.Values.{CertValue}
use Rattle.crl_obj.specs.Values.{CrlValue}
use Rattle.pub_set.specs.Changes.{Contents}
use Rattle.signer_ring.specs.Calls.{Call}
use Rattle.rp_rules.specs.Certificates.{Vouched}
use Rattle.issue_values.specs.Publishers.{Publishing}
use Rattle.issue_values.specs.Certificates as values
use Rattle.issue_values.specs.Bodies.{roa_of, crl_value_of}
use Rattle.issue_plan.specs.Wanted.{PlanInput}
use Rattle.issue_keys.specs.Keys.{id_of}
use Rattle.issue_drafts.specs.IssueInput.{IssueInput}
use Rattle.issue_drafts.specs.Publishers.{is_key, publishing_of}
use Rattle.issue_drafts.specs.Drafts.{Draft, Kind, serial_at}
use Rattle.issue_drafts.specs.Drafts.Kind.{Certificate, Roa, Crl, Manifest}
use Rattle.issue_sign.specs.Objects.{Signed, bytes_by, certificate, roa_certificate, crl_of, number_of}
use Rattle.issue_sign.specs.Calls.{first_call, second_call}
use Rattle.issue_make.specs.Trace.{IssuingTrace, all_of, final_bytes, IsSpelled}
use Rattle.editions.specs.Wanted.{there, whole, new_objects}
use Rattle.editions.specs.Objects.{Issuance, moment_of, IsObject}
use Rattle.editions.specs.inner.PlanAndTable.{made_from, AreOfPlan}
use Rattle.editions.specs.VouchedCalls.{IsVouchedBy}
use Rattle.editions.specs.inner.Vouched.{AreVouched}
use Rattle.items.specs.laws.ElementLaws.{into-map, into-filter_map}
use Rattle.editions.proofs.ObjectLemmas.Reading.{signed_as, listed_as, certificate-back, crl-back, roa-back}

module _ (vouched : Vouched) (plan_input : PlanInput) (work : Work) (trace : IssuingTrace)
    (old new : Contents) (plan : AreOfPlan plan_input work trace.keys)
    (homes : (row : KeyRow) → publishing_of (made_from plan_input work) trace.keys row
    ≡ publishing_of (whole plan_input plan.keys) (there plan.keys) row) where
  abbrev pub s : IssueInput
  s = made_from plan_input work

  abbrev pub w : IssueInput
  w = whole plan_input plan.keys

  abbrev pub all : List Draft
  all = all_of s trace

  abbrev pub m : Issuance
  m = record {
    vouched = vouched;
    plan_input = plan_input;
    keys = plan.keys;
    entries = trace.entries;
    old = old;
    new = new;
  }

  pub all-same : all ≡ new_objects plan_input plan.keys
  all-same = plan.drafts

  pub published : (row : KeyRow)
      → publishing_of s trace.keys row ≡ publishing_of w (there plan.keys) row
  published = homes

  -- ---- values

  certificate-same : (d : Draft) (subject : KeyRow) (held : Resources)
      → certificate s trace.keys all d subject held
      ≡ certificate w (there plan.keys) (new_objects plan_input plan.keys) d subject held
  certificate-same d subject held =
      let of : ℕ → Publishing → Publishing → ℕ → CertValue = λ n i u k.
      cond (is_key d.issuer subject) (values.anchor_certificate plan_input.site n i held k)
      (values.authority_certificate plan_input.site n i u held k) in
      let one : Publishing = publishing_of w (there plan.keys) d.issuer in
      let two : Publishing = publishing_of w (there plan.keys) subject in
      ap (λ (n : ℕ). of n (publishing_of s trace.keys d.issuer) (publishing_of s trace.keys subject)
      (serial_at all d.issuer d.uri)) plan.moment
      ∙ (ap (λ (p : Publishing). of plan_input.basis.moment p (publishing_of s trace.keys subject)
      (serial_at all d.issuer d.uri)) (published d.issuer)
      ∙ (ap (λ (p : Publishing). of plan_input.basis.moment one p (serial_at all d.issuer d.uri))
      (published subject)
      ∙ ap (λ (l : List Draft). of plan_input.basis.moment one two (serial_at l d.issuer d.uri))
      all-same))

  roa-same : (d : Draft) (origin : Origin) (once : List ℕ)
      → roa_certificate s trace.keys all d origin once
      ≡ roa_certificate w (there plan.keys) (new_objects plan_input plan.keys) d origin once
  roa-same d origin once =
      let of : ℕ → Publishing → ℕ → CertValue = λ n i k.
      values.roa_certificate plan_input.site n i once origin.prefix d.uri k in
      ap (λ (n : ℕ). of n (publishing_of s trace.keys d.issuer) (serial_at all d.issuer d.uri))
      plan.moment
      ∙ (ap (λ (p : Publishing). of plan_input.basis.moment p (serial_at all d.issuer d.uri))
      (published d.issuer)
      ∙ ap (λ (l : List Draft). of plan_input.basis.moment (publishing_of w (there plan.keys) d.issuer)
      (serial_at l d.issuer d.uri)) all-same)

  crl-same : (key : KeyRow) → crl_of s trace.entries key
      ≡ crl_value_of (moment_of m) (id_of key) (number_of key) (trace.entries key)
  crl-same key =
      ap (λ (n : ℕ). crl_value_of n (id_of key) (number_of key) (trace.entries key)) plan.moment

  -- ---- objects

  abbrev pub bytes_as : Signed → Kind → List ℕ
  bytes_as x kind = bytes_by s trace.keys all trace.entries x.draft kind x.answers

  pub bytes-are : (x : Signed) (kind : Kind) → x.draft.kind ≡ kind → kind ≢ Manifest
      → final_bytes s trace x x.draft.kind ≡ bytes_as x kind
  bytes-are x kind is other =
      ap (final_bytes s trace x) is ∙ (by kind other ∙ ap (bytes_as x) is)
    where
      by : (k : Kind) → k ≢ Manifest → final_bytes s trace x k ≡ bytes_as x x.draft.kind
      by (Certificate subject held) apart = refl
      by (Roa origin) apart = refl
      by Crl apart = refl
      by Manifest apart = absurd (apart refl)

  object-by : (x : Signed) (kind : Kind) → kind ≢ Manifest → IsInput (bytes_as x kind)
      → IsSpelled s trace x.draft kind x.answers
      → IsVouchedBy vouched
      (first_call s trace.keys all trace.entries x.draft kind x.answers)
      → ((call : Call) → second_call s trace.keys all x.draft kind x.answers ≡ Some call
      → IsVouchedBy vouched call)
      → IsObject m x.draft kind (bytes_as x kind)
  object-by x (Certificate subject held) other input spelled first second =
      let cert : CertValue = certificate s trace.keys all x.draft subject held in
      record {
        certificate = signed_as cert x.answers.last;
        read = certificate-back cert x.answers.last input spelled;
        issued = record { says = certificate-same x.draft subject held; vouched = first };
      }
  object-by x (Roa origin) other input spelled first second =
      let cert : CertValue = roa_certificate s trace.keys all x.draft origin x.answers.once in
      record {
        roa = _;
        read = roa-back (roa_of origin) cert x.answers.last x.answers.once x.answers.content refl
            input spelled.1 spelled.0;
        signed = record {
          body = refl;
          certificate = record {
            says = roa-same x.draft origin x.answers.once;
            vouched = second _ refl;
          };
          signer = refl;
          moment = plan.moment;
          vouched = first;
        };
      }
  object-by x Crl other input spelled first second =
      let crl : CrlValue = crl_of s trace.entries x.draft.issuer in
      record {
        crl = listed_as crl x.answers.last;
        read = crl-back crl x.answers.last input spelled;
        says = crl-same x.draft.issuer;
        vouched = first;
      }
  object-by x Manifest other input spelled first second = absurd (other refl)

  module _ (inputs : All (λ x. IsInput (final_bytes s trace x x.draft.kind)) trace.objects)
      (spelled : All (λ x. IsSpelled s trace x.draft x.draft.kind x.answers) trace.objects)
      (are : AreVouched vouched s trace) where
    one-object : (x : Signed) → Contains trace.objects x → x.draft.kind ≢ Manifest
        → IsObject m x.draft x.draft.kind (final_bytes s trace x x.draft.kind)
    one-object x c other =
        let same = bytes-are x x.draft.kind refl other in
        let input = subst IsInput same
        (All-contains (λ (y : Signed). IsInput (final_bytes s trace y y.draft.kind)) trace.objects x
        inputs c) in
        let is = All-contains (λ (y : Signed). IsSpelled s trace y.draft y.draft.kind y.answers)
        trace.objects x spelled c in
        let call : Signed → Call = λ y.
        first_call s trace.keys all trace.entries y.draft y.draft.kind y.answers in
        let next : Signed → Option Call = λ y.
        second_call s trace.keys all y.draft y.draft.kind y.answers in
        subst (IsObject m x.draft x.draft.kind) (sym same)
        (object-by x x.draft.kind other input is
        (All-contains (IsVouchedBy vouched) _ (call x) are.first (into-map call trace.objects x c))
        (λ y e. All-contains (IsVouchedBy vouched) _ y are.second
        (into-filter_map next trace.objects x y c e)))

    pub objects-made : All (λ x. x.draft.kind ≢ Manifest
        → IsObject m x.draft x.draft.kind (final_bytes s trace x x.draft.kind)) trace.objects
    objects-made = λ k d inside other.
        one-object (get_or trace.objects k d) (Contains-get_or trace.objects k d inside) other
