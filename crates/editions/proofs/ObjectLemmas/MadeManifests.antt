-- What is made is as an edition wants it: each manifest lists what stands under its key.
use Rattle.std.proofs.Common.{◌≡◌, ◌≢◌, ℕ, Bool, true, false, not, cond, Option, None, Some, List, [], ◌∷◌, ◌++◌, map, get_or, refl, sym, ap, subst, ◌∙◌, inl, inr}
use Rattle.std.specs.Prelude.{All, Contains, IsPermutation, filter, option_map, option_and_then}
use Rattle.std.specs.List.{filter_map, cons_option}
use Rattle.std.proofs.lemmas.Bool.{false≢true, not-true}
use Rattle.std.proofs.lemmas.Option.{same_Some}
use Rattle.std.proofs.lemmas.List.Elements.{All-contains, Contains-get_or, Contains-append_left, Contains-append_right, Contains-append_cases}
use Rattle.std.proofs.lemmas.List.Sorted.{IsPermutation-sym, IsPermutation-trans, IsPermutation-append_right, Contains-permutation}
use Rattle.sha2.specs.Sha256.{sha256}
use Rattle.der.specs.Part.{IsInput}
use Rattle.key_roll.specs.declared.rows.KeyRow.{KeyRow}
use Rattle.key_roll.specs.declared.work.Work.{Work}
use Rattle.key_roll.specs.declared.work.CertWork.{CertWork}
use Rattle.cert_obj.specs.Values.{CertValue}
use Rattle.pub_set.specs.Changes.{Contents}
use Rattle.signer_ring.specs.Calls.{Call}
use Rattle.cms_obj.specs.declared.values.ObjectKind.TheVariants as ObjectKinds
use Rattle.rp_rules.specs.Certificates.{Vouched}
use Rattle.issue_values.specs.Publishers.{Publishing}
use Rattle.issue_values.specs.Certificates as values
use Rattle.issue_values.specs.Bodies.{manifest_value_of}
use Rattle.key_ids.specs.Uris.{manifest_uri}
use Rattle.issue_plan.specs.Keys.{kept as kept_key}
use Rattle.issue_plan.specs.Wanted.{PlanInput, point_of}
use Rattle.issue_keys.specs.Keys.{id_of}
use Rattle.issue_drafts.specs.WorkKeys.{Keys, key_named}
use Rattle.issue_drafts.specs.IssueInput.{IssueInput}
use Rattle.issue_drafts.specs.Publishers.{publishing_of, made_uri, name_at}
use Rattle.issue_drafts.specs.Drafts.{Draft, Kind, serial_behind, drafts, manifests, certificate_draft, roa_draft, crl_draft, manifest_draft, is_manifest}
use Rattle.issue_drafts.specs.Drafts.Kind.{Certificate, Roa, Crl, Manifest}
use Rattle.issue_sign.specs.Objects.{Signed, manifest_certificate, manifest_content, manifest_bytes, number_of, attributes}
use Rattle.issue_sign.specs.Calls.{content_calls, last_calls, by_once, by_issuer}
use Rattle.cert_obj.specs.Formats as certificates
use Rattle.issue_drafts.specs.Files.{AreMerged, kept_files, made_files, made_file, folder_at, is_made_under, name_in}
use Rattle.issue_make.specs.Trace.{IssuingTrace, IsIssuingTrace, all_of, made_of, hashed, puts_of, final_bytes, IsSpelled}
use Rattle.editions.specs.Wanted.{there, whole, anew, new_points, new_objects, keeps_point}
use Rattle.editions.specs.Objects.{Issuance, IsObject, AreFiles, file_of}
use Rattle.editions.specs.inner.PlanAndTable.{made_from, AreOfPlan}
use Rattle.editions.specs.VouchedCalls.{IsVouchedBy}
use Rattle.editions.specs.inner.Vouched.{AreVouched}
use Rattle.items.specs.laws.ElementLaws.{here, into-map, from-map, from-filter, from-filter_map}
use Rattle.items.specs.laws.ElementLaws.{there as there-of}
use Rattle.editions.proofs.ObjectLemmas.Reading.{manifest-back}
use Rattle.editions.proofs.ObjectLemmas.Named.{mapped-draft, self-named}
use Rattle.editions.proofs.ObjectLemmas.Views.{apart-same}
use Rattle.editions.proofs.ObjectLemmas.Permuted.{File, files-moved, passed-on}
use Rattle.editions.proofs.ObjectLemmas.MadeObjects.{s, w, all, m, all-same, published, bytes-are, objects-made}

-- ---- which drafts are of manifests

-- Of what may be drafted.
abbrev Tells : Bool → Option Draft → Type 0
Tells b None = Unit {0}
Tells b (Some d) = is_manifest d.kind ≡ b

tells-some : (b : Bool) (o : Option Draft) (d : Draft) → Tells b o → o ≡ Some d
    → is_manifest d.kind ≡ b
tells-some b o d tells e = subst (Tells b) e tells

tells-mapped : (b : Bool) (make : KeyRow → Draft) → ((key : KeyRow) → is_manifest (make key).kind ≡ b)
    → (o : Option KeyRow) → Tells b (option_map make o)
tells-mapped b make each None = tt
tells-mapped b make each (Some key) = each key

tells-certificate : (s : IssueInput) (cert : CertWork) (issuer subject : Option KeyRow)
    → Tells false (option_and_then (λ i. option_map (λ k. record {
      uri = made_uri s.site s.names i k;
      issuer = i;
      kind = Certificate k cert.held;
    }) subject) issuer)
tells-certificate s cert None subject = tt
tells-certificate s cert (Some issuer) None = tt
tells-certificate s cert (Some issuer) (Some subject) = refl

pub draft-kind : (s : IssueInput) (keys : Keys) (d : Draft) → Contains (drafts s keys) d
    → is_manifest d.kind ≡ false
draft-kind s keys d c = elim (Contains-append_cases
    (filter_map (certificate_draft s keys) s.work.certs
    ++ filter_map (roa_draft s keys) s.work.roas)
    (filter_map (crl_draft s keys) s.work.points) d c) [
      | inr crl ↦
          let from = from-filter_map (crl_draft s keys) s.work.points d crl in
          tells-some false (crl_draft s keys from.0) d
          (tells-mapped false _ (λ key. refl) (key_named keys from.0.key)) from.2
      | inl more ↦ elim (Contains-append_cases
          (filter_map (certificate_draft s keys) s.work.certs)
          (filter_map (roa_draft s keys) s.work.roas) d more) [
            | inl cert ↦
                let from = from-filter_map (certificate_draft s keys) s.work.certs d cert in
                tells-some false (certificate_draft s keys from.0) d
                (tells-certificate s from.0 (key_named keys from.0.issuer)
                (key_named keys from.0.subject)) from.2
            | inr roa ↦
                let from = from-filter_map (roa_draft s keys) s.work.roas d roa in
                tells-some false (roa_draft s keys from.0) d
                (tells-mapped false _ (λ key. refl) (key_named keys from.0.issuer)) from.2
          ]
    ]

pub manifest-kind : (s : IssueInput) (keys : Keys) (d : Draft) → Contains (manifests s keys) d
    → is_manifest d.kind ≡ true
manifest-kind s keys d c =
    let from = from-filter_map (manifest_draft s keys) s.work.points d c in
    tells-some true (manifest_draft s keys from.0) d
    (tells-mapped true _ (λ key. refl) (key_named keys from.0.key)) from.2

no-manifest : (kind : Kind) → is_manifest kind ≡ false → kind ≢ Manifest
no-manifest kind isnt is = false≢true (sym isnt ∙ ap is_manifest is)

the-manifest : (kind : Kind) → is_manifest kind ≡ true → kind ≡ Manifest
the-manifest (Certificate subject held) is = absurd (false≢true is)
the-manifest (Roa origin) is = absurd (false≢true is)
the-manifest Crl is = absurd (false≢true is)
the-manifest Manifest is = refl

-- ---- files

-- The files of drafts, of which each is told.
files-of : (p : Draft → Bool) (f : Draft → Option File) (g : Signed → Draft × List ℕ) (h : Draft × List ℕ → File)
    → ((x : Signed) → (g x).0 ≡ x.draft) → (xs : List Signed)
    → ((x : Signed) → Contains xs x → f x.draft ≡ Some (h (g x)))
    → filter_map (λ d. cond (p d) (f d) None) (map (λ x. x.draft) xs)
    ≡ map h (filter (λ y. p y.0) (map g xs))
files-of p f g h own [] each = refl
files-of p f g h own (x ∷ xs) each =
    let rest = files-of p f g h own xs (λ y c. each y (there-of x xs y c)) in
    by (p x.draft) (p (g x).0) (ap p (sym (own x))) rest
  where
    by : (b t : Bool) → b ≡ t
        → filter_map (λ d. cond (p d) (f d) None) (map (λ y. y.draft) xs)
        ≡ map h (filter (λ y. p y.0) (map g xs))
        → cons_option (cond b (f x.draft) None)
        (filter_map (λ d. cond (p d) (f d) None) (map (λ y. y.draft) xs))
        ≡ map h (cond t (g x ∷ filter (λ y. p y.0) (map g xs)) (filter (λ y. p y.0) (map g xs)))
    by true true same rest =
        ap (λ (o : Option File). cons_option o
        (filter_map (λ d. cond (p d) (f d) None) (map (λ y. y.draft) xs))) (each x (here x xs))
        ∙ ap (λ (l : List File). h (g x) ∷ l) rest
    by true false same rest = absurd (false≢true (sym same))
    by false true same rest = absurd (false≢true same)
    by false false same rest = rest

module _ (vouched : Vouched) (plan_input : PlanInput) (work : Work) (trace : IssuingTrace)
    (old new : Contents) (plan : AreOfPlan plan_input work trace.keys)
    (homes : (row : KeyRow) → publishing_of (made_from plan_input work) trace.keys row
    ≡ publishing_of (whole plan_input plan.keys) (there plan.keys) row)
    (is_trace : IsIssuingTrace (made_from plan_input work) plan_input.basis.rows trace)
    (kept : (key : KeyRow) → Contains plan.keys key → keeps_point plan_input plan.keys key ≡ false
    → IsPermutation
    (filter_map (file_of new (folder_at (whole plan_input plan.keys) key))
    (filter (is_made_under (whole plan_input plan.keys) key) (drafts (whole plan_input plan.keys) (there plan.keys))))
    (kept_files (made_from plan_input work) (puts_of (made_from plan_input work) trace) key
    ++ filter_map (file_of new (folder_at (whole plan_input plan.keys) key))
    (filter (is_made_under (whole plan_input plan.keys) key) (new_objects plan_input plan.keys))))
    (stand : All (λ x. new x.draft.uri
    ≡ Some (final_bytes (made_from plan_input work) trace x x.draft.kind)) trace.objects) where
  abbrev set : IssueInput
  set = s vouched plan_input work trace old new plan homes

  abbrev wanted : IssueInput
  wanted = w vouched plan_input work trace old new plan homes

  abbrev making : Issuance
  making = m vouched plan_input work trace old new plan homes

  abbrev every : List Draft
  every = all vouched plan_input work trace old new plan homes

  -- ---- what an object is

  object-kind : (x : Signed) → Contains trace.objects x → is_manifest x.draft.kind ≡ false
  object-kind x c =
      draft-kind set trace.keys x.draft
      (Contains-permutation (map (λ (y : Signed). y.draft) trace.objects) every x.draft
      (IsPermutation-sym every (map (λ (y : Signed). y.draft) trace.objects)
      is_trace.objects.permutation)
      (into-map (λ (y : Signed). y.draft) trace.objects x c))

  listed-kind : (x : Signed) → Contains trace.listed x → is_manifest x.draft.kind ≡ true
  listed-kind x c =
      manifest-kind set trace.keys x.draft
      (Contains-permutation (map (λ (y : Signed). y.draft) trace.listed)
      (manifests set trace.keys) x.draft
      (IsPermutation-sym (manifests set trace.keys) (map (λ (y : Signed). y.draft) trace.listed)
      is_trace.listed.permutation)
      (into-map (λ (y : Signed). y.draft) trace.listed x c))

  -- ---- the files of a key

  abbrev own-file : List ℕ → Signed → File
  own-file folder x = made_file folder (hashed set trace x)

  stands-file : (key : KeyRow) (x : Signed) → Contains trace.objects x
      → file_of new (folder_at wanted key) x.draft ≡ Some (own-file (folder_at set key) x)
  stands-file key x c =
      let held = All-contains (λ (y : Signed). new y.draft.uri
      ≡ Some (final_bytes set trace y y.draft.kind)) trace.objects x stand c in
      let bytes = bytes-are vouched plan_input work trace old new plan homes x x.draft.kind refl
      (no-manifest x.draft.kind (object-kind x c)) in
      let of : List ℕ → File = λ b. (name_in (folder_at set key) x.draft.uri, sha256 b) in
      ap (option_map of) held ∙ ap (λ (b : List ℕ). Some (of b)) bytes

  files-same : (key : KeyRow)
      → filter_map (λ d. cond (is_made_under wanted key d) (file_of new (folder_at wanted key) d) None)
      (map (λ x. x.draft) trace.objects)
      ≡ made_files set key (map (hashed set trace) trace.objects)
  files-same key =
      files-of (is_made_under wanted key) (file_of new (folder_at wanted key)) (hashed set trace)
      (made_file (folder_at set key)) (λ x. refl) trace.objects (stands-file key)

  -- What is new of it, among all that is new.
  new-files : (key : KeyRow)
      → IsPermutation (filter_map (file_of new (folder_at wanted key))
      (filter (is_made_under wanted key) (new_objects plan_input plan.keys)))
      (made_files set key (map (hashed set trace) trace.objects))
  new-files key =
      let f : Draft → Option File = λ d.
      cond (is_made_under wanted key d) (file_of new (folder_at wanted key) d) None in
      let moved : IsPermutation (filter_map f every)
      (filter_map f (map (λ (x : Signed). x.draft) trace.objects)) =
      files-moved f every (map (λ (x : Signed). x.draft) trace.objects)
      is_trace.objects.permutation in
      let first : filter_map (file_of new (folder_at wanted key))
      (filter (is_made_under wanted key) (new_objects plan_input plan.keys)) ≡ filter_map f every =
      passed-on (is_made_under wanted key) (file_of new (folder_at wanted key)) (new_objects plan_input plan.keys)
      ∙ ap (filter_map f) (sym plan.drafts) in
      subst (λ (l : List File). IsPermutation l (made_files set key (map (hashed set trace) trace.objects))) (sym first)
      (subst (IsPermutation (filter_map f every)) (files-same key) moved)

  are-files : (key : KeyRow) (files : List File) → Contains plan.keys key
      → keeps_point plan_input plan.keys key ≡ false
      → AreMerged (kept_files set (puts_of set trace) key)
      (made_files set key (map (hashed set trace) trace.objects)) files
      → AreFiles making key files
  are-files key files live isnt merged =
      let all : List File = filter_map (file_of new (folder_at wanted key))
      (filter (is_made_under wanted key) (drafts wanted (there plan.keys))) in
      let of_new : List File = filter_map (file_of new (folder_at wanted key))
      (filter (is_made_under wanted key) (new_objects plan_input plan.keys)) in
      let old_ones : List File = kept_files set (puts_of set trace) key in
      let made : List File = made_files set key (map (hashed set trace) trace.objects) in
      record {
        all = IsPermutation-trans all (old_ones ++ of_new) files (kept key live isnt)
            (IsPermutation-trans (old_ones ++ of_new) (old_ones ++ made) files
            (IsPermutation-append_right old_ones of_new made (new-files key)) merged.permutation);
        rising = merged.rising;
      }

  -- ---- the value of its certificate

  manifest-same : (d : Draft) (once : List ℕ)
      → manifest_certificate set trace.keys every d once
      ≡ manifest_certificate wanted (there plan.keys) (new_objects plan_input plan.keys) d once
  manifest-same d once =
      let of : ℕ → Publishing → ℕ → CertValue = λ n i k.
      values.manifest_certificate plan_input.site n i once k in
      ap (λ (n : ℕ). of n (publishing_of set trace.keys d.issuer) (serial_behind every d.issuer))
      plan.moment
      ∙ (ap (λ (p : Publishing). of plan_input.basis.moment p (serial_behind every d.issuer))
      (published vouched plan_input work trace old new plan homes d.issuer)
      ∙ ap (λ (l : List Draft). of plan_input.basis.moment
      (publishing_of wanted (there plan.keys) d.issuer) (serial_behind l d.issuer))
      (all-same vouched plan_input work trace old new plan homes))

  -- ---- the object

  abbrev content-call : Signed → Call
  content-call x = by_once x.draft.issuer
      (attributes set ObjectKinds.Manifest (manifest_content set trace.files x.draft.issuer)) x.answers

  abbrev last-call : Signed → Call
  last-call x = by_issuer x.draft.issuer
      (certificates.signed_bytes (manifest_certificate set trace.keys every x.draft x.answers.once))
      x.answers.last

  abbrev bytes-as : Signed → List ℕ
  bytes-as x = manifest_bytes set trace.keys every trace.files x

  -- The key of a manifest that is made: its point doesn't fit.
  listed-key : (x : Signed) → Contains trace.listed x
      → Contains plan.keys x.draft.issuer × (keeps_point plan_input plan.keys x.draft.issuer ≡ false)
  listed-key x c =
      let a : IssueInput = anew plan_input plan.keys in
      let ks : Keys = there plan.keys in
      let inside : Contains (manifests a ks) x.draft =
      subst (λ (l : List Draft). Contains l x.draft) plan.manifests
      (Contains-permutation (map (λ (y : Signed). y.draft) trace.listed) (manifests set trace.keys) x.draft
      (IsPermutation-sym (manifests set trace.keys) (map (λ (y : Signed). y.draft) trace.listed)
      is_trace.listed.permutation)
      (into-map (λ (y : Signed). y.draft) trace.listed x c)) in
      let point = from-filter_map (manifest_draft a ks) (new_points plan_input plan.keys) x.draft inside in
      let key = from-map (λ (k : KeyRow). point_of (kept_key k))
      (filter (λ (k : KeyRow). not (keeps_point plan_input plan.keys k)) plan.keys) point.0 point.1 in
      let passes = from-filter (λ (k : KeyRow). not (keeps_point plan_input plan.keys k)) plan.keys key.0 key.1 in
      let parts = mapped-draft (λ issuer. record {
        uri = manifest_uri a.site (name_at a.names issuer.desk) (id_of issuer);
        issuer = issuer;
        kind = Manifest;
      }) (key_named ks (kept_key key.0).name) x.draft
      (ap (manifest_draft a ks) key.2 ∙ point.2) in
      let named = self-named plan.keys key.0 passes.0 in
      let own : named.0 ≡ key.0 = apart-same plan.keys named.0 key.0 plan.next.apart named.2 passes.0 named.3 in
      let is : parts.0 ≡ key.0 = same_Some parts.0 named.0 (sym parts.1 ∙ named.1) ∙ own in
      let issuer : key.0 ≡ x.draft.issuer = sym is ∙ ap (λ (d : Draft). d.issuer) parts.2 in (
        subst (Contains plan.keys) issuer passes.0,
        subst (λ (k : KeyRow). keeps_point plan_input plan.keys k ≡ false) issuer
            (not-true (keeps_point plan_input plan.keys key.0) passes.1),
      )

  manifest-by : (x : Signed) → Contains trace.listed x → IsInput (bytes-as x)
      → IsSpelled set trace x.draft Manifest x.answers
      → IsVouchedBy vouched (content-call x) → IsVouchedBy vouched (last-call x)
      → IsObject making x.draft Manifest (bytes-as x)
  manifest-by x c input spelled content last =
      let key : KeyRow = x.draft.issuer in
      let cert : CertValue = manifest_certificate set trace.keys every x.draft x.answers.once in
      record {
        manifest = _;
        read = manifest-back (manifest_value_of work.moment (number_of key) (trace.files key)) cert
            x.answers.last x.answers.once x.answers.content refl input spelled.1 spelled.0;
        files = trace.files key;
        listed = are-files key (trace.files key) (listed-key x c).0 (listed-key x c).1
            (All-contains (λ (y : Signed). AreMerged
            (kept_files set (puts_of set trace) y.draft.issuer)
            (made_files set y.draft.issuer (map (hashed set trace) trace.objects))
            (trace.files y.draft.issuer)) trace.listed x is_trace.files c);
        signed = record {
          body = ap (λ (n : ℕ). manifest_value_of n (number_of key) (trace.files key)) plan.moment;
          certificate = record {
            says = manifest-same x.draft x.answers.once;
            vouched = last;
          };
          signer = refl;
          moment = plan.moment;
          vouched = content;
        };
      }

  module _ (inputs : All (λ x. IsInput
      (final_bytes (made_from plan_input work) trace x x.draft.kind)) (made_of trace))
      (spelled : All (λ x. IsSpelled (made_from plan_input work) trace x.draft x.draft.kind x.answers)
      (made_of trace))
      (are : AreVouched vouched (made_from plan_input work) trace)
      (contents : All (IsVouchedBy vouched)
      (content_calls (made_from plan_input work) trace.files trace.listed))
      (lasts : All (IsVouchedBy vouched)
      (last_calls (made_from plan_input work) trace.keys (all_of (made_from plan_input work) trace)
      trace.listed)) where
    one-manifest : (x : Signed) → Contains trace.listed x
        → IsObject making x.draft x.draft.kind (final_bytes set trace x x.draft.kind)
    one-manifest x c =
        let inside = Contains-append_right trace.objects trace.listed x c in
        let is : x.draft.kind ≡ Manifest = the-manifest x.draft.kind (listed-kind x c) in
        let input : IsInput (final_bytes set trace x Manifest) =
        subst (λ (k : Kind). IsInput (final_bytes set trace x k)) is
        (All-contains (λ (y : Signed). IsInput (final_bytes set trace y y.draft.kind))
        (made_of trace) x inputs inside) in
        let good : IsSpelled set trace x.draft Manifest x.answers =
        subst (λ (k : Kind). IsSpelled set trace x.draft k x.answers) is
        (All-contains (λ (y : Signed). IsSpelled set trace y.draft y.draft.kind y.answers)
        (made_of trace) x spelled inside) in
        subst (λ (k : Kind). IsObject making x.draft k (final_bytes set trace x k)) (sym is)
        (manifest-by x c input good
        (All-contains (IsVouchedBy vouched) _ (content-call x) contents
        (into-map content-call trace.listed x c))
        (All-contains (IsVouchedBy vouched) _ (last-call x) lasts
        (into-map last-call trace.listed x c)))

    front : (P : Signed → Type 0) → All P (made_of trace) → All P trace.objects
    front P whole = λ k d inside. All-contains P (made_of trace) (get_or trace.objects k d) whole
        (Contains-append_left trace.objects trace.listed (get_or trace.objects k d)
        (Contains-get_or trace.objects k d inside))

    one-object : (x : Signed) → Contains trace.objects x
        → IsObject making x.draft x.draft.kind (final_bytes set trace x x.draft.kind)
    one-object x c =
        All-contains (λ (y : Signed). y.draft.kind ≢ Manifest
        → IsObject making y.draft y.draft.kind (final_bytes set trace y y.draft.kind)) trace.objects
        x (objects-made vouched plan_input work trace old new plan homes (front (λ y.
        IsInput (final_bytes set trace y y.draft.kind)) inputs) (front (λ y.
        IsSpelled set trace y.draft y.draft.kind y.answers) spelled) are) c
        (no-manifest x.draft.kind (object-kind x c))

    pub all-made : All (λ x. IsObject making x.draft x.draft.kind
        (final_bytes (made_from plan_input work) trace x x.draft.kind)) (made_of trace)
    all-made = λ k d inside.
        let x : Signed = get_or (made_of trace) k d in
        elim (Contains-append_cases trace.objects trace.listed x
        (Contains-get_or (made_of trace) k d inside)) [
          | inl object ↦ one-object x object
          | inr listed ↦ one-manifest x listed
        ]
