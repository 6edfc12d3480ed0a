-- What fits, as the table has it: the facts of a row that stays, from the definition.
use Rattle.std.proofs.Common.{◌≡◌, ◌≢◌, ◌<◌, inl, inr, ℕ, Bool, true, Option, false, None, Some, List, [], ◌∷◌, ◌++◌, refl, sym, ap, subst, ◌∙◌}
use Rattle.std.specs.Prelude.{Contains, find, option_map, option_and_then}
use Rattle.std.specs.Option.{option_map_or}
use Rattle.std.proofs.lemmas.Bool.Decides.{same_from_decides, Decides-like}
use Rattle.std.specs.Str.{bytes_eq}
use Rattle.std.proofs.lemmas.Bool.{false≢true, and_parts}
use Rattle.std.proofs.lemmas.List.{append-nil}
use Rattle.std.proofs.lemmas.Slice.Eq.{bytes_eq-Decides}
use Rattle.items.specs.laws.AmongLaws.{In, found-in, filter-in, in-all, in-contains, contains-in}
use Rattle.key_ids.specs.declared.identifier.KeyId.{KeyId}
use Rattle.entitle.specs.Certified.{names_of}
use Rattle.key_roll.specs.declared.rows.KeyRow.{KeyRow}
use Rattle.key_roll.specs.declared.issued.IssuedRow.{IssuedRow}
use Rattle.key_ids.specs.Uris.{crl_uri, manifest_uri}
use Rattle.key_roll.specs.declared.issued.What.{What}
use Rattle.key_roll.specs.declared.issued.What.TheVariants.{Authority, Route, Point}
use Rattle.key_roll.specs.declared.work.CertWork.{CertWork}
use Rattle.key_roll.specs.declared.work.RoaWork.{RoaWork}
use Rattle.key_roll.specs.declared.work.KeyName.{KeyName}
use Rattle.key_roll.specs.declared.work.KeyName.TheVariants.{Live, Fresh}
use Rattle.issue_plan.specs.declared.keys.NextKey.{NextKey}
use Rattle.issue_plan.specs.Keys as plan
use Rattle.issue_plan.specs.Keys.{next_keys, is_live}
use Rattle.issue_plan.specs.Fits.{fits, live_row, settled, is_settled, stands_first, certificate_place_by, roa_place_by, crl_place, manifest_place, place_of_certificate, place_of_roa}
use Rattle.issue_plan.specs.Serves.{is_for, serves_certificate}
use Rattle.issue_plan.specs.Wanted.{PlanInput}
use Rattle.issue_plan.specs.Wanted as wanted
use Rattle.issue_plan.specs.laws.FitLaws.{CertificateFits, PointFits, certificate-fits, roa-fits, point-fits, found-row, certificate-serves, roa-serves, point-serves}
use Rattle.issue_plan.specs.laws.SameLaws.{certified, authorized}
use Rattle.issue_keys.specs.Keys.{id_of}
use Rattle.issue_keys.specs.Indexes.{has_id}
use Rattle.issue_values.specs.Publishers.{roa_uri}
use Rattle.issue_drafts.specs.Publishers.{name_at, made_uri, certified_key, standing_for}
use Rattle.issue_drafts.specs.Drafts.{Draft, certificate_draft, roa_draft, crl_draft, manifest_draft}
use Rattle.issue_drafts.specs.Drafts.Kind.{Certificate, Roa, Crl, Manifest}
use Rattle.issue_drafts.specs.WorkKeys.{key_named}
use Rattle.issue_make.specs.Trace.{Says}
use Rattle.editions.specs.Keys.{AreNext, AreEach, IsNextBy}
use Rattle.editions.specs.Wanted.{there, whole}
use Rattle.editions.specs.inner.PlannedWork.{AreApart}
use Rattle.editions.proofs.PlanLemmas.Desks.{one-id}
use Rattle.editions.proofs.ObjectLemmas.Named.{cert-draft, mapped-draft}

flipped : (a b : List ℕ) → bytes_eq a b ≡ bytes_eq b a
flipped a b =
    same_from_decides (bytes_eq a b) (bytes_eq b a) (bytes_eq-Decides a b)
    (Decides-like (bytes_eq b a) (λ (e : b ≡ a). sym e) (λ (e : a ≡ b). sym e) (bytes_eq-Decides b a))

-- The keys of an edition are the next ones of the live keys before it, of which no two have one identifier.
pub record IsOver (plan_input : PlanInput) (keys : List KeyRow) : Type 0 where
  pub next : AreNext plan_input.basis.rows (next_keys plan_input.basis) keys
  pub apart : AreApart plan_input.basis.rows

-- The table has it at the draft's place, of that issuer, with what is wanted, and not at its end.
pub record IsHeld (plan_input : PlanInput) (d : Draft) : Type 0 where
  pub row : IssuedRow
  pub among : Contains plan_input.issued row
  pub at : row.uri ≡ d.uri
  pub issuer : row.issuer.bytes ≡ id_of d.issuer
  pub says : Says d.kind row.what
  pub late : plan_input.basis.moment < row.not_after

-- The drafts of a ROA, a CRL and a manifest.
module _ (plan_input : PlanInput) where
  abbrev pub roa-at : RoaWork → KeyRow → Draft
  roa-at roa issuer = record {
    uri = roa_uri plan_input.site (name_at (names_of plan_input.basis.configs) issuer.desk) roa.origin;
    issuer = issuer;
    kind = Roa roa.origin;
  }

  abbrev pub crl-at : KeyRow → Draft
  crl-at k = record {
    uri = crl_uri plan_input.site (name_at (names_of plan_input.basis.configs) k.desk) (id_of k);
    issuer = k;
    kind = Crl;
  }

  abbrev pub list-at : KeyRow → Draft
  list-at k = record {
    uri = manifest_uri plan_input.site (name_at (names_of plan_input.basis.configs) k.desk) (id_of k);
    issuer = k;
    kind = Manifest;
  }

module _ (plan_input : PlanInput) (keys : List KeyRow) (over : IsOver plan_input keys) where
  abbrev rows : List KeyRow
  rows = plan_input.basis.rows

  -- ---- one key by two names

  carried : (key : KeyRow) (nexts : List NextKey) (ks : List KeyRow) → AreEach rows nexts ks → In key ks
      → (n : NextKey) × IsNextBy rows n n.name key
  carried key [] [] each at = absurd at
  carried key [] (k ∷ ks) each at = absurd each
  carried key (n ∷ ns) [] each at = absurd each
  carried key (n ∷ ns) (k ∷ ks) each (inl same) = (n, subst (IsNextBy rows n n.name) same each.0)
  carried key (n ∷ ns) (k ∷ ks) each (inr at) = carried key ns ks each.1 at

  by-name : (key live : KeyRow) (n : NextKey) (name : KeyName) → IsNextBy rows n name key → In live rows
      → id_of key ≡ id_of live → key.desk ≡ live.desk
  by-name key live n (Live id) c at same =
      let own : id_of c.row ≡ id_of key = ap id_of (sym c.same) in
      let one : c.row ≡ live = one-id rows c.row live over.apart (contains-in c.row rows c.live) at (own ∙ same) in
      ap (λ (k : KeyRow). k.desk) c.same ∙ ap (λ (r : KeyRow). r.desk) one
  by-name key live n (Fresh desk) c at same =
      absurd (in-all (λ (r : KeyRow). id_of r ≢ id_of key) live rows c.apart at (sym same))

  -- A key of the edition that was live before has the desk that it had.
  pub one-desk : (key live : KeyRow) → In key keys → In live rows → id_of key ≡ id_of live → key.desk ≡ live.desk
  one-desk key live at there same =
      let c = carried key (next_keys plan_input.basis) keys over.next.each at in
      by-name key live c.0 c.0.name c.1 there same

  named-key : (id : KeyId) (key : KeyRow) → key_named (there keys) (Live id) ≡ Some key
      → In key keys × (id_of key ≡ id.bytes)
  named-key id key e =
      let f = found-in (λ (row : KeyRow). bytes_eq (id_of row) id.bytes) (keys ++ []) key e in
      (subst (In key) (append-nil keys) f.0, (bytes_eq-Decides (id_of key) id.bytes).0 f.1)

  -- A key of the edition and a live one before that have one name.
  two-with : (id : KeyId) (key live : KeyRow) → key_named (there keys) (Live id) ≡ Some key → In live rows
      → bytes_eq (id_of live) id.bytes ≡ true → (key.desk ≡ live.desk) × (id_of key ≡ id_of live)
  two-with id key live k at is =
      let mine = named-key id key k in
      let same : id_of key ≡ id_of live = mine.1 ∙ sym ((bytes_eq-Decides (id_of live) id.bytes).0 is) in
      (one-desk key live mine.0 at same, same)

  pub two-live : (name : KeyName) (key live : KeyRow) → key_named (there keys) name ≡ Some key
      → live_row rows name ≡ Some live → (key.desk ≡ live.desk) × (id_of key ≡ id_of live)
  two-live (Live id) key live k l =
      let found = found-in (λ (row : KeyRow). bytes_eq (plan.id_of row).bytes id.bytes) rows live l in
      two-with id key live k found.0 found.1
  two-live (Fresh desk) key live k l = absurd cc

  pub two-named : (name : KeyName) (key live : KeyRow) → key_named (there keys) name ≡ Some key
      → live_row (settled plan_input) name ≡ Some live → (key.desk ≡ live.desk) × (id_of key ≡ id_of live)
  two-named (Live id) key live k l =
      let found = found-in (λ (row : KeyRow). bytes_eq (plan.id_of row).bytes id.bytes) (settled plan_input) live l in
      two-with id key live k (filter-in (is_settled plan_input) live rows found.0).0 found.1
  two-named (Fresh desk) key live k l = absurd cc

  -- The row's issuer has the name of the edition's key.
  pub issued-by : (name : KeyName) (key : KeyRow) (issuer : KeyId) → key_named (there keys) name ≡ Some key
      → is_live issuer name ≡ true → issuer.bytes ≡ id_of key
  issued-by (Live id) key issuer k so =
      sym ((bytes_eq-Decides id.bytes issuer.bytes).0 so) ∙ sym (named-key id key k).1
  issued-by (Fresh desk) key issuer k so = absurd (false≢true so)

  -- ---- the first certificate of a key

  is-named : (name : KeyName) (subject : KeyRow) → key_named (there keys) name ≡ Some subject → (what : What)
      → is_for name what ≡ has_id (id_of subject) (certified_key what)
  is-named (Live id) subject k (Authority other held) =
      let own : id.bytes ≡ id_of subject = sym (named-key id subject k).1 in
      flipped id.bytes other.bytes ∙ ap (bytes_eq other.bytes) own
  is-named (Live id) subject k (Route origin) = refl
  is-named (Live id) subject k Point = refl
  is-named (Fresh desk) subject k what = absurd cc

  -- The first certificate of the subject is the one at the place.
  first-held : (cert : CertWork) (subject : KeyRow) (uri : List ℕ)
      → key_named (there keys) cert.subject ≡ Some subject
      → stands_first plan_input.issued cert.subject uri ≡ true → standing_for plan_input.issued subject ≡ Some uri
  first-held cert subject uri s so =
      ap (option_map (λ (r : IssuedRow). r.uri))
      (sym (ap (λ (p : IssuedRow → Bool). find p plan_input.issued)
      (λ j (r : IssuedRow). is-named cert.subject subject s r.what j)))
      ∙ by (find (λ (r : IssuedRow). is_for cert.subject r.what) plan_input.issued) so
    where
      by : (o : Option IssuedRow) → option_map_or (λ r. bytes_eq r.uri uri) o false ≡ true
          → option_map (λ (r : IssuedRow). r.uri) o ≡ Some uri
      by None so = absurd (false≢true so)
      by (Some r) so = ap Some ((bytes_eq-Decides r.uri uri).0 so)

  -- ---- ROAs

  roa-place : (roa : RoaWork) (issuer live : KeyRow) → key_named (there keys) roa.issuer ≡ Some issuer
      → live_row (settled plan_input) roa.issuer ≡ Some live
      → roa_place_by plan_input.site (names_of plan_input.basis.configs) live.desk roa.origin ≡ (roa-at plan_input roa issuer).uri
  roa-place roa issuer live i l =
      ap (λ n. roa_uri plan_input.site (name_at (names_of plan_input.basis.configs) n) roa.origin)
      (sym (two-named roa.issuer issuer live i l).0)

  module _ (roa : RoaWork) (fit : fits plan_input (wanted.Roa roa) ≡ true) (d : Draft)
      (is : roa_draft (whole plan_input keys) (there keys) roa ≡ Some d) where
    pub roa-held : IsHeld plan_input d
    roa-held =
        let f = roa-fits plan_input roa fit in
        let m = mapped-draft (roa-at plan_input roa) (key_named (there keys) roa.issuer) d is in
        let at = found-row plan_input.issued _ f.stands.row f.stands.at in
        let serves = roa-serves plan_input.basis.moment roa f.stands.row f.stands.served in
        subst (IsHeld plan_input) m.2 (record {
          row = f.stands.row;
          among = in-contains f.stands.row plan_input.issued at.0;
          at = at.1 ∙ roa-place roa m.0 f.issuer m.1 f.named;
          issuer = issued-by roa.issuer m.0 f.stands.row.issuer m.1 serves.0;
          says = subst (Says (Roa roa.origin)) (sym (authorized roa f.stands.row.what serves.1)) refl;
          late = serves.2;
        })

    pub roa-placed : place_of_roa plan_input roa ≡ Some d.uri
    roa-placed =
        let f = roa-fits plan_input roa fit in
        let m = mapped-draft (roa-at plan_input roa) (key_named (there keys) roa.issuer) d is in
        ap (option_map (λ (issuer : KeyRow).
        roa_place_by plan_input.site (names_of plan_input.basis.configs) issuer.desk roa.origin)) f.named
        ∙ (ap (λ (u : List ℕ). Some u) (roa-place roa m.0 f.issuer m.1 f.named) ∙ ap (λ (x : Draft). Some x.uri) m.2)

  -- ---- certificates

  abbrev placed : ℕ → List ℕ → List ℕ → List ℕ
  placed desk issuer subject =
      certificate_place_by plan_input.site (names_of plan_input.basis.configs) desk
      (record { bytes = issuer }) (record { bytes = subject })

  module _ (cert : CertWork) (fit : fits plan_input (wanted.Certificate cert) ≡ true) (d : Draft)
      (is : certificate_draft (whole plan_input keys) (there keys) cert ≡ Some d) where
    abbrev f : CertificateFits plan_input cert
    f = certificate-fits plan_input cert fit

    certificate-place : (issuer subject : KeyRow) → key_named (there keys) cert.issuer ≡ Some issuer
        → key_named (there keys) cert.subject ≡ Some subject
        → placed f.issuer.desk (id_of f.issuer) (id_of f.subject)
        ≡ made_uri plan_input.site (names_of plan_input.basis.configs) issuer subject
    certificate-place issuer subject i s =
        let two = two-named cert.issuer issuer f.issuer i f.named in
        let one = two-live cert.subject subject f.subject s f.live in
        λ j. placed (sym two.0 j) (sym two.1 j) (sym one.1 j)

    pub certificate-held : IsHeld plan_input d
    certificate-held =
        let m = cert-draft (whole plan_input keys) (there keys) cert d is in
        let at = found-row plan_input.issued _ f.stands.row f.stands.at in
        let both = and_parts (serves_certificate plan_input.basis.moment cert f.stands.row)
        (stands_first plan_input.issued cert.subject f.stands.row.uri) f.stands.served in
        let serves = certificate-serves plan_input.basis.moment cert f.stands.row both.0 in
        let c = certified cert f.stands.row.what serves.1 in
        subst (IsHeld plan_input) m.4 (record {
          row = f.stands.row;
          among = in-contains f.stands.row plan_input.issued at.0;
          at = at.1 ∙ certificate-place m.0 m.1 m.2 m.3;
          issuer = issued-by cert.issuer m.0 f.stands.row.issuer m.2 serves.0;
          says = subst (Says (Certificate m.1 cert.held)) (sym c.says)
              (issued-by cert.subject m.1 c.key m.3 c.named, refl);
          late = serves.2;
        })

    pub certificate-placed : place_of_certificate plan_input cert ≡ Some d.uri
    certificate-placed =
        let m = cert-draft (whole plan_input keys) (there keys) cert d is in
        let of : KeyRow → KeyRow → List ℕ = λ issuer subject. placed issuer.desk (id_of issuer) (id_of subject) in
        ap (option_and_then (λ (issuer : KeyRow). option_map (of issuer) (live_row rows cert.subject))) f.named
        ∙ (ap (option_map (of f.issuer)) f.live
        ∙ (ap (λ (u : List ℕ). Some u) (certificate-place m.0 m.1 m.2 m.3) ∙ ap (λ (x : Draft). Some x.uri) m.4))

    -- It is the first one of its subject.
    pub certificate-first : (subject : KeyRow) → key_named (there keys) cert.subject ≡ Some subject
        → standing_for plan_input.issued subject ≡ Some d.uri
    certificate-first subject s =
        let m = cert-draft (whole plan_input keys) (there keys) cert d is in
        let at = found-row plan_input.issued _ f.stands.row f.stands.at in
        let both = and_parts (serves_certificate plan_input.basis.moment cert f.stands.row)
        (stands_first plan_input.issued cert.subject f.stands.row.uri) f.stands.served in
        first-held cert subject f.stands.row.uri s both.1
        ∙ (ap (λ (u : List ℕ). Some u) (at.1 ∙ certificate-place m.0 m.1 m.2 m.3) ∙ ap (λ (x : Draft). Some x.uri) m.4)

  -- ---- points

  module _ (key : KeyRow) (fit : fits plan_input (wanted.Point (wanted.point_of (plan.kept key))) ≡ true) where
    abbrev p : PointFits plan_input (wanted.point_of (plan.kept key))
    p = point-fits plan_input (wanted.point_of (plan.kept key)) fit

    pub crl-place : (k : KeyRow) → key_named (there keys) (Live (plan.id_of key)) ≡ Some k
        → crl_place plan_input p.key ≡ (crl-at plan_input k).uri
    crl-place k named =
        let two = two-named (Live (plan.id_of key)) k p.key named p.named in
        λ j. crl_uri plan_input.site (name_at (names_of plan_input.basis.configs) (sym two.0 j)) (sym two.1 j)

    pub list-place : (k : KeyRow) → key_named (there keys) (Live (plan.id_of key)) ≡ Some k
        → manifest_place plan_input p.key ≡ (list-at plan_input k).uri
    list-place k named =
        let two = two-named (Live (plan.id_of key)) k p.key named p.named in
        λ j. manifest_uri plan_input.site (name_at (names_of plan_input.basis.configs) (sym two.0 j)) (sym two.1 j)

    pub crl-held : (d : Draft) → crl_draft (whole plan_input keys) (there keys) (wanted.point_of (plan.kept key)) ≡ Some d
        → IsHeld plan_input d
    crl-held d is =
        let m = mapped-draft (crl-at plan_input) (key_named (there keys) (Live (plan.id_of key))) d is in
        let two = two-named (Live (plan.id_of key)) m.0 p.key m.1 p.named in
        let at = found-row plan_input.issued _ p.crl.row p.crl.at in
        let serves = point-serves plan_input.basis.moment (Live (plan.id_of p.key)) p.crl.row p.crl.served in
        subst (IsHeld plan_input) m.2 (record {
          row = p.crl.row;
          among = in-contains p.crl.row plan_input.issued at.0;
          at = at.1 ∙ crl-place m.0 m.1;
          issuer = sym ((bytes_eq-Decides (id_of p.key) p.crl.row.issuer.bytes).0 serves.0) ∙ sym two.1;
          says = serves.1;
          late = serves.2;
        })

    pub list-held : (d : Draft) → manifest_draft (whole plan_input keys) (there keys) (wanted.point_of (plan.kept key)) ≡ Some d
        → IsHeld plan_input d
    list-held d is =
        let m = mapped-draft (list-at plan_input) (key_named (there keys) (Live (plan.id_of key))) d is in
        let two = two-named (Live (plan.id_of key)) m.0 p.key m.1 p.named in
        let at = found-row plan_input.issued _ p.manifest.row p.manifest.at in
        let serves = point-serves plan_input.basis.moment (Live (plan.id_of p.key)) p.manifest.row p.manifest.served in
        subst (IsHeld plan_input) m.2 (record {
          row = p.manifest.row;
          among = in-contains p.manifest.row plan_input.issued at.0;
          at = at.1 ∙ list-place m.0 m.1;
          issuer = sym ((bytes_eq-Decides (id_of p.key) p.manifest.row.issuer.bytes).0 serves.0) ∙ sym two.1;
          says = serves.1;
          late = serves.2;
        })
