-- What the profiles ask of the objects of an edition beside a walk.
use Rattle.std.proofs.Common.{◌≡◌, ◌≢◌, ℕ, suc, ◌+◌, ◌<◌, ◌&&◌, Bool, true, false, cond, Option, None, Some, List, [], ◌∷◌, ◌++◌, length, map, take, AllPairs, refl, sym, ap, subst, ◌∙◌, arith, inl, inr}
use Rattle.std.specs.Prelude.{Contains, IfSome}
use Rattle.std.specs.List.{slice_get}
use Rattle.std.proofs.lemmas.Bool.{true≢false, false≢true}
use Rattle.std.proofs.lemmas.Option.{same_Some, none-some, slice_get_within}
use Rattle.std.proofs.lemmas.List.{take_all}
use Rattle.std.proofs.lemmas.Slice.Eq.{bytes_eq-Decides}
use Rattle.sha1.specs.Sha1.{sha1}
use Rattle.origins.specs.declared.Prefix.{Prefix}
use Rattle.res_sets.specs.declared.numbers.Range.{Range}
use Rattle.res_sets.specs.declared.holdings.Resources.{Resources}
use Rattle.res_ext.specs.Formats.{span_of}
use Rattle.entitle.specs.Certified.{names_of}
use Rattle.key_roll.specs.declared.rows.KeyRow.{KeyRow}
use Rattle.key_roll.specs.declared.issued.IssuedRow.{IssuedRow}
use Rattle.key_roll.specs.declared.issued.What.{What}
use Rattle.key_roll.specs.declared.issued.What.TheVariants as Whats
use Rattle.cert_obj.specs.Values.{CertValue, Sets, SignedCert, sets_of}
use Rattle.crl_obj.specs.Values.{CrlValue, SignedCrl}
use Rattle.rp_rules.specs.Objects.{SignedManifest, certificate_in, crl_in, manifest_in}
use Rattle.issue_values.specs.Certificates.{prefix_span, prefix_sets, anchor_certificate, authority_certificate}
use Rattle.issue_plan.specs.Keys.{holds_nothing, no_ranges}
use Rattle.issue_keys.specs.Keys.{id_of}
use Rattle.issue_drafts.specs.Publishers.{is_key}
use Rattle.issue_drafts.specs.Drafts.{Draft, Kind, serial_at}
use Rattle.issue_drafts.specs.Drafts.Kind.{Certificate, Roa, Crl, Manifest}
use Rattle.issue_make.specs.Trace.{Says}
use Rattle.editions.specs.Edition.{Edition, set_after}
use Rattle.editions.specs.Held.{HasCertificate, IsHeld, certificate_inside}
use Rattle.editions.specs.Wanted.{all_objects, new_objects}
use Rattle.editions.specs.Objects.{Issuance, IsObject}
use Rattle.editions.specs.Names.{AreTree}
use Rattle.editions.specs.Table.{IsTold}
use Rattle.editions.specs.MadeIn.{issuance_of, IsMadeIn, published_key}
use Rattle.editions.specs.Profile.{no_sets, HasResources, IsInProfile}
use Rattle.editions.specs.Step.{Premises, IsStep, AreSteps, configs_at}
use Rattle.items.specs.laws.AmongLaws.{contains-in}
use Rattle.editions.proofs.ObjectLemmas.OneKind.{certificate-no-crl, certificate-no-object, with-crl}
use Rattle.editions.proofs.ObjectLemmas.Standing.{left-at}
use Rattle.editions.proofs.ObjectLemmas.Given.{own-certificate, inside-certificate, roa-read, manifest-read, serial-from}
use Rattle.editions.proofs.ObjectLemmas.Numbers.{listing, numbering}
use Rattle.editions.proofs.ObjectLemmas.History.{there-is, take-next, seen, positive, Stands, given-at}
use Rattle.editions.proofs.ObjectLemmas.Left.{IsSubject, of-keys, was-made, front-steps}
use Rattle.editions.proofs.ObjectLemmas.Lasts.{get-last, more-count}
use Rattle.editions.proofs.WalkLemmas.Rows.{rows-apart, last-step}
use Rattle.editions.proofs.WalkLemmas.Stays.{cuts-grow}
use Rattle.editions.proofs.WalkLemmas.Serves.{trees-before}
use Rattle.editions.proofs.WalkLemmas.Homes as homes
use Rattle.editions.proofs.WalkLemmas.CertDrafts.{own-draft}

-- ---- resources that aren't empty

mapped-none : (ranges : List Range) → map span_of ranges ≡ [] → no_ranges ranges ≡ true
mapped-none [] e = refl
mapped-none (range ∷ ranges) e = absurd cc

none-of : (a b c : Bool) → a ≡ true → b ≡ true → c ≡ true → (a && b && c) ≡ false → ⊥
none-of true true true first second third e = true≢false e
none-of true true false first second third e = false≢true third
none-of true false c first second third e = false≢true second
none-of false b c first second third e = false≢true first

some-sets : (set : Resources) → holds_nothing set ≡ false → sets_of set ≢ no_sets
some-sets set some = λ e. none-of (no_ranges set.asn.ranges) (no_ranges set.v4.ranges)
    (no_ranges set.v6.ranges) (mapped-none set.asn.ranges (ap (λ (s : Sets). s.asn) e))
    (mapped-none set.v4.ranges (ap (λ (s : Sets). s.v4) e))
    (mapped-none set.v6.ranges (ap (λ (s : Sets). s.v6) e)) some

no-span : (b : Bool) (span : ℕ × ℕ) → cond b [] (span ∷ []) ≡ [] → cond b (span ∷ []) [] ≡ [] → ⊥
no-span true span first second = absurd cc
no-span false span first second = absurd cc

some-prefix : (p : Prefix) → prefix_sets p ≢ no_sets
some-prefix p = λ e. no-span p.v6 (prefix_span p) (ap (λ (s : Sets). s.v4) e) (ap (λ (s : Sets). s.v6) e)

abbrev HasSets : Option Sets → Type 0
HasSets held = IfSome held (λ sets. sets ≢ no_sets)

-- ---- what a certificate is for

held-by : (held : Option Sets) (b : Bool) (one two : CertValue) → one.held ≡ held → two.held ≡ held
    → (cond b one two).held ≡ held
held-by held true one two e f = e
held-by held false one two e f = f

-- A key that is its own issuer is one.
key-by : (issuer subject : KeyRow) (b : Bool) (one two : CertValue) → is_key issuer subject ≡ b
    → sha1 one.key ≡ id_of issuer → sha1 two.key ≡ id_of subject → sha1 (cond b one two).key ≡ id_of subject
key-by issuer subject true one two own e f = e ∙ (bytes_eq-Decides (id_of issuer) (id_of subject)).0 own
key-by issuer subject false one two own e f = f

-- The key that it certifies.
record IsForKey (kind : Kind) (a : SignedCert) : Type 0 where
  subject : KeyRow
  held : Resources
  is : kind ≡ Certificate subject held
  key : sha1 a.cert.key ≡ id_of subject

made-for : (m : Issuance) (d : Draft) (kind : Kind) (bytes : List ℕ) (a : SignedCert) → IsObject m d kind bytes
    → certificate_in bytes ≡ Some a → IsForKey kind a
made-for m d (Certificate subject held) bytes a object read =
    let n : ℕ = serial_at (new_objects m.plan_input m.keys) d.issuer d.uri in
    let one : CertValue = anchor_certificate m.plan_input.site m.plan_input.basis.moment
    (published_key m d.issuer) held n in
    let two : CertValue = authority_certificate m.plan_input.site m.plan_input.basis.moment
    (published_key m d.issuer) (published_key m subject) held n in
    let same : object.certificate ≡ a = same_Some object.certificate a (sym object.read ∙ read) in
    record {
      subject = subject;
      held = held;
      is = refl;
      key = ap (λ (x : SignedCert). sha1 x.cert.key) (sym same)
          ∙ (ap (λ (v : CertValue). sha1 v.key) object.issued.says
          ∙ key-by d.issuer subject (is_key d.issuer subject) one two refl refl refl);
    }
made-for m d (Roa origin) bytes a object read =
    absurd (certificate-no-object bytes a object.roa.object read (roa-read bytes object.roa object.read).object)
made-for m d Crl bytes a object read = absurd (certificate-no-crl bytes a object.crl read object.read)
made-for m d Manifest bytes a object read =
    absurd (certificate-no-object bytes a object.manifest.object read
    (manifest-read bytes object.manifest object.read).object)

-- The same of what stays, by the table.
told-for : (kind : Kind) (bytes : List ℕ) (row : IssuedRow) (what : What) (a : SignedCert) → IsTold bytes row what
    → Says kind what → certificate_in bytes ≡ Some a → IsForKey kind a
told-for (Certificate subject held) bytes row (Whats.Authority key holding) a is says read = record {
  subject = subject;
  held = held;
  is = refl;
  key = ap (λ (x : SignedCert). sha1 x.cert.key) (same_Some a is.certificate (sym read ∙ is.read))
      ∙ (sym is.subject ∙ says.0);
}
told-for (Certificate subject held) bytes row (Whats.Route origin) a is says read = absurd says
told-for (Certificate subject held) bytes row Whats.Point a is says read = absurd says
told-for (Roa origin) bytes row (Whats.Authority key holding) a is says read = absurd says
told-for (Roa origin) bytes row (Whats.Route other) a is says read =
    absurd (certificate-no-object bytes a is.roa.object read (roa-read bytes is.roa is.read).object)
told-for (Roa origin) bytes row Whats.Point a is says read = absurd says
told-for Crl bytes row (Whats.Authority key held) a is says read = absurd cc
told-for Crl bytes row (Whats.Route origin) a is says read = absurd cc
told-for Crl bytes row Whats.Point a (inl is) says read = absurd (certificate-no-crl bytes a is.crl read is.read)
told-for Crl bytes row Whats.Point a (inr is) says read =
    absurd (certificate-no-object bytes a is.manifest.object read (manifest-read bytes is.manifest is.read).object)
told-for Manifest bytes row (Whats.Authority key held) a is says read = absurd cc
told-for Manifest bytes row (Whats.Route origin) a is says read = absurd cc
told-for Manifest bytes row Whats.Point a (inl is) says read = absurd (certificate-no-crl bytes a is.crl read is.read)
told-for Manifest bytes row Whats.Point a (inr is) says read =
    absurd (certificate-no-object bytes a is.manifest.object read (manifest-read bytes is.manifest is.read).object)

-- ---- an edition that follows others

module _ (premises : Premises) (editions : List Edition) (edition : Edition)
    (steps : AreSteps premises (editions ++ edition ∷ []))
    (tree : AreTree (names_of (configs_at premises.lists edition.cut))) where
  abbrev more : List Edition
  more = editions ++ edition ∷ []

  abbrev count : ℕ
  count = length editions

  abbrev at_end : slice_get more count ≡ Some edition
  at_end = get-last editions edition

  all-taken : take (suc count) more ≡ more
  all-taken = let e = more-count editions edition in take_all (suc count) more (omega (arith, e))

  stands-now : (uri bytes : List ℕ) → set_after more uri ≡ Some bytes → Stands premises more steps count uri bytes
  stands-now uri bytes stands = ap (λ (l : List Edition). set_after l uri) all-taken ∙ stands

  -- ---- times and serials

  crls : (uri bytes : List ℕ) (l : SignedCrl) → set_after more uri ≡ Some bytes → crl_in bytes ≡ Some l
      → l.crl.this_update < l.crl.next_update
  crls uri bytes l stands read =
      let is = listing premises more steps count edition at_end uri bytes l (stands-now uri bytes stands) read in
      let from = ap (λ (v : CrlValue). v.this_update) is.says in
      let to = ap (λ (v : CrlValue). v.next_update) is.says in
      omega (arith, from, to)

  manifests : (uri bytes : List ℕ) (x : SignedManifest) → set_after more uri ≡ Some bytes
      → manifest_in bytes ≡ Some x → x.body.1.0 < x.body.1.1.0
  manifests uri bytes x stands read =
      let is = numbering premises more steps count edition at_end uri bytes x (stands-now uri bytes stands) read in
      let from = is.moment in
      let to = is.next in
      omega (arith, from, to)

  serials : (id : List ℕ) (c : SignedCert) → IsHeld (set_after more) id c → 0 < c.cert.serial
  serials id c held =
      let g = given-at premises more steps count held.uri held.bytes c (stands-now held.uri held.bytes held.there)
      held.has in
      let least = g.least in
      let long = more-count editions edition in
      let e = there-is more g.position (omega (arith, least, long)) in
      let is = g.given e.0 e.1 in
      let low = positive premises more steps g.position e.0 e.1 is.issuer is.live in
      let from = serial-from (seen premises more steps g.position e.0 e.1).m held.uri is.issuer c.cert.serial is.serial in
      omega (arith, low, from)

  -- ---- resources

  module _ (uri bytes : List ℕ) (position : ℕ) (made : IsMadeIn premises more uri bytes position) where
    abbrev n : Issuance
    n = issuance_of premises made.clock (take position more) made.edition made.step

    until : AreSteps premises (take position more ++ made.edition ∷ [])
    until = subst (AreSteps premises) (take-next more position made.edition made.there)
        (front-steps premises more (position + 1) steps)

    trees : AreTree (names_of (configs_at premises.lists made.edition.cut))
    trees =
        let within = slice_get_within more position made.edition made.there in
        let long = more-count editions edition in
        trees-before premises.lists made.edition.cut edition.cut
        (cuts-grow premises more steps count position (omega (arith, within, long)) made.edition edition made.there at_end)
        tree

    apart : AllPairs (λ a b. id_of a ≢ id_of b) n.plan_input.basis.rows
    apart = rows-apart premises (take position more) made.edition until

    -- What a certificate holds that an edition made isn't empty.
    some-held : (d : Draft) → Contains (all_objects n.plan_input n.keys) d → (subject : KeyRow) (held : Resources)
        → d.kind ≡ Certificate subject held → Contains n.keys subject → holds_nothing held ≡ false
    some-held d c subject held is live =
        let at = contains-in subject n.keys live in
        let same = own-draft n trees made.step.made.certified apart made.step.made.next d c subject held is subject at
        refl in
        let sets : homes.held n trees made.step.made.certified apart made.step.made.next subject at ≡ held =
        held-of (sym (ap (λ (x : Draft). x.kind) same) ∙ is) in
        ap holds_nothing (sym sets)
        ∙ (homes.placed n trees made.step.made.certified apart made.step.made.next subject at).is.some
      where
        held-of : {one other : KeyRow} {a b : Resources} → Certificate one a ≡ Certificate other b → a ≡ b
        held-of e = cc

    resources-by : (kind : Kind) (c : SignedCert) → made.draft.kind ≡ kind → IsObject n made.draft kind bytes
        → HasCertificate bytes c → HasResources c
    resources-by (Certificate subject held) c is object has =
        let m : ℕ = serial_at (new_objects n.plan_input n.keys) made.draft.issuer made.draft.uri in
        let one : CertValue = anchor_certificate n.plan_input.site n.plan_input.basis.moment
        (published_key n made.draft.issuer) held m in
        let two : CertValue = authority_certificate n.plan_input.site n.plan_input.basis.moment
        (published_key n made.draft.issuer) (published_key n subject) held m in
        let same = own-certificate bytes object.certificate c object.read has in
        let holds : c.cert.held ≡ Some (sets_of held) =
        ap (λ (x : SignedCert). x.cert.held) (sym same)
        ∙ (ap (λ (v : CertValue). v.held) object.issued.says
        ∙ held-by (Some (sets_of held)) (is_key made.draft.issuer subject) one two refl refl) in
        let live : Contains n.keys subject =
        subst (IsSubject n.keys) is (of-keys n made.draft made.wanted).subject in
        subst HasSets (sym holds)
        (some-sets held (some-held made.draft made.wanted subject held is live))
    resources-by (Roa origin) c is object has =
        let read = roa-read bytes object.roa object.read in
        let same = inside-certificate bytes object.roa.object object.roa.certificate c read.object
        read.certificate has in
        let holds : c.cert.held ≡ Some (prefix_sets origin.prefix) =
        ap (λ (x : SignedCert). x.cert.held) (sym same)
        ∙ ap (λ (v : CertValue). v.held) object.signed.certificate.says in
        subst HasSets (sym holds) (some-prefix origin.prefix)
    resources-by Crl c is object (inl e) = absurd (certificate-no-crl bytes c object.crl e object.read)
    resources-by Crl c is object (inr e) =
        absurd (none-some c
        (sym (ap certificate_inside (with-crl bytes object.crl object.read).1) ∙ e))
    resources-by Manifest c is object has =
        let read = manifest-read bytes object.manifest object.read in
        let same = inside-certificate bytes object.manifest.object object.manifest.certificate c
        read.object read.certificate has in
        let holds : c.cert.held ≡ None =
        ap (λ (x : SignedCert). x.cert.held) (sym same)
        ∙ ap (λ (v : CertValue). v.held) object.signed.certificate.says in
        subst HasSets (sym holds) tt

  resources : (id : List ℕ) (c : SignedCert) → IsHeld (set_after more) id c → HasResources c
  resources id c is =
      let made = was-made premises more steps is.uri is.bytes is.there in
      resources-by is.uri is.bytes made.0 made.1 made.1.draft.kind c refl made.1.object is.has

  -- ---- one certificate for each key

  last : (clock : ℕ) × IsStep premises clock editions edition
  last = last-step premises editions edition steps

  abbrev step : IsStep premises last.0 editions edition
  step = last.1

  abbrev m : Issuance
  m = issuance_of premises last.0 editions edition step

  before : AllPairs (λ a b. id_of a ≢ id_of b) m.plan_input.basis.rows
  before = rows-apart premises editions edition steps

  record IsAtDraft (uri : List ℕ) (a : SignedCert) : Type 0 where
    draft : Draft
    among : Contains (all_objects m.plan_input m.keys) draft
    at : draft.uri ≡ uri
    for : IsForKey draft.kind a
    live : Contains m.keys for.subject

  at-draft : (uri bytes : List ℕ) (a : SignedCert) → m.new uri ≡ Some bytes → certificate_in bytes ≡ Some a
      → IsAtDraft uri a
  at-draft uri bytes a stands read =
      let left = left-at m (record { next = step.made.next; apart = before }) step.made.set uri bytes stands in
      let for : IsForKey left.0.kind a = elim (left.3) [
        | inl put ↦ made-for m left.0 left.0.kind bytes a put.object read
        | inr old ↦
            let at = step.made.table.each old.fit.row old.fit.among in
            let same : at.0 ≡ bytes = same_Some at.0 bytes (sym at.1 ∙ (ap m.old old.fit.at ∙ old.stood)) in
            told-for left.0.kind at.0 old.fit.row old.fit.row.what a at.2.told old.fit.says
            (ap certificate_in same ∙ read)
      ] in
      record {
        draft = left.0;
        among = left.1;
        at = left.2;
        for = for;
        live = subst (IsSubject m.keys) for.is (of-keys m left.0 left.1).subject;
      }

  keys : (one other first second : List ℕ) (a b : SignedCert)
      → m.new one ≡ Some first → m.new other ≡ Some second
      → certificate_in first ≡ Some a → certificate_in second ≡ Some b
      → a.cert.key ≡ b.cert.key → one ≡ other
  keys one other first second a b stands stood read told same =
      let x = at-draft one first a stands read in
      let y = at-draft other second b stood told in
      let at = contains-in x.for.subject m.keys x.live in
      let ids : id_of y.for.subject ≡ id_of x.for.subject =
      sym y.for.key ∙ (ap sha1 (sym same) ∙ x.for.key) in
      let p = own-draft m tree step.made.certified before step.made.next x.draft x.among x.for.subject x.for.held x.for.is
      x.for.subject at refl in
      let q = own-draft m tree step.made.certified before step.made.next y.draft y.among y.for.subject y.for.held y.for.is
      x.for.subject at ids in
      sym x.at ∙ (ap (λ (d : Draft). d.uri) (p ∙ sym q) ∙ y.at)

  pub in-profile : IsInProfile (set_after more)
  in-profile = record {
    crls = crls;
    manifests = manifests;
    serials = serials;
    resources = resources;
    keys = keys;
  }
