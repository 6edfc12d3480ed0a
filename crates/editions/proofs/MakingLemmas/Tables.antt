-- The rows of what was put are the table of what stands.
use Rattle.std.proofs.Common.{◌≡◌, ◌≢◌, ℕ, ◌+◌, ◌≤◌, Bool, true, false, cond, Option, None, Some, List, ◌∷◌, length, map, refl, sym, ap, subst, ◌∙◌, arith, ◌⊎◌, inl, inr}
use Rattle.std.specs.Prelude.{AllPairs, Any, Contains, is_some}
use Rattle.std.proofs.lemmas.Option.{same_Some, none-some}
use Rattle.std.proofs.lemmas.List.{length-map}
use Rattle.std.proofs.lemmas.List.Elements.{All-contains}
use Rattle.std.proofs.lemmas.Slice.Eq.{bytes_eq-Decides}
use Rattle.sha1.specs.Sha1.{sha1}
use Rattle.signer_api.specs.State.{SignerState}
use Rattle.res_sets.specs.declared.holdings.Resources.{Resources}
use Rattle.cert_obj.specs.Values.{CertValue, is_entity, sets_of}
use Rattle.crl_obj.specs.Values.{CrlValue}
use Rattle.origins.specs.declared.Origin.{Origin}
use Rattle.payloads.specs.ManifestFormats as Manifests
use Rattle.pub_set.specs.declared.steps.Change.{Change}
use Rattle.pub_set.specs.Objects.{found_at}
use Rattle.pub_set.specs.Changes.{Contents, change_at}
use Rattle.key_roll.specs.declared.issued.IssuedRow.{IssuedRow}
use Rattle.key_roll.specs.declared.issued.What.{What}
use Rattle.key_roll.specs.declared.issued.What.TheVariants as Whats
use Rattle.issue_values.specs.Certificates as values
use Rattle.issue_values.specs.Bodies.{roa_of}
use Rattle.issue_keys.specs.Keys.{id_of}
use Rattle.issue_drafts.specs.WorkKeys.{Keys}
use Rattle.issue_drafts.specs.IssueInput.{IssueInput}
use Rattle.issue_drafts.specs.Publishers.{is_key, publishing_of}
use Rattle.issue_drafts.specs.Drafts.{Draft, Kind, serial_at, serial_behind}
use Rattle.issue_drafts.specs.Drafts.Kind.{Certificate, Roa, Crl, Manifest}
use Rattle.issue_drafts.specs.laws.UriOrder.{apart-from-rise, found-some, found-there}
use Rattle.issue_sign.specs.Objects.{Signed}
use Rattle.issue_make.specs.Trace.{IssuingTrace, all_of, made_of, final_bytes, IsIssued, Says, serial_of, life_of}
use Rattle.issue_plan.specs.Wanted.{PlanInput}
use Rattle.editions.specs.Edition.{Edition, AreChanges}
use Rattle.editions.specs.Table.{IsTold, IsRowOf, IsTable}
use Rattle.editions.specs.Objects.{Issuance, IsObject}
use Rattle.editions.specs.Step.{Premises, AreSteps}
use Rattle.editions.specs.Wanted.{there, whole, new_objects}
use Rattle.editions.specs.inner.PlanAndTable.{AreOfPlan}
use Rattle.editions.specs.Standing.{IsTableAfter, row_at, row_after}
use Rattle.editions.specs.PlannedAndMade.{IsPlannedAndMade}
use Rattle.editions.proofs.MakingLemmas.Known.{Laws}
use Rattle.items.specs.laws.ElementLaws.{first-or-rest, into-map, from-map, pairs-cons, no-more}
use Rattle.editions.proofs.MakingLemmas.Puts.{uri_at}
use Rattle.editions.proofs.MakingLemmas.Following.{plan_input, s, trace, before, behind, plan, over, m, own-places, stands-of, object-of, are-changes, drafted-at, made-for, objects, twos, kept-same, made-new}
use Rattle.editions.proofs.MakingLemmas.Places.{no-difference}
use Rattle.items.specs.laws.AmongLaws.{In, contains-in}
use Rattle.editions.proofs.ObjectLemmas.Fitting.{IsKept}
use Rattle.editions.proofs.PlanLemmas.Fitted.{new_puts, made-or-left}

-- ---- what a certificate says

record IsSaid (value : CertValue) (subject : List ℕ) (set : Resources) (by : List ℕ) (number last : ℕ)
    : Type 0 where
  pub kind : is_entity value.kind ≡ false
  pub key : sha1 value.key ≡ subject
  pub held : value.held ≡ Some (sets_of set)
  pub issuer : value.issuer ≡ by
  pub serial : value.serial ≡ number
  pub end : value.not_after ≡ last

said-by : (b : Bool) (x y : CertValue) (key : List ℕ) (held : Resources) (issuer : List ℕ)
    (serial end : ℕ) → (b ≡ true → IsSaid x key held issuer serial end)
    → IsSaid y key held issuer serial end → IsSaid (cond b x y) key held issuer serial end
said-by true x y key held issuer serial end one other = one refl
said-by false x y key held issuer serial end one other = other

module _ (laws : Laws) (premises : Premises) (clock : ℕ) (editions : List Edition) (edition : Edition)
    (old new : List SignerState) (steps : AreSteps premises editions)
    (planned : IsPlannedAndMade premises clock editions edition old new) where
  abbrev at-plan_input : PlanInput
  at-plan_input = plan_input laws premises clock editions edition old new steps planned

  abbrev set : IssueInput
  set = s laws premises clock editions edition old new steps planned

  abbrev way : IssuingTrace
  way = trace laws premises clock editions edition old new steps planned

  abbrev was : Contents
  was = before laws premises clock editions edition old new steps planned

  abbrev is : Contents
  is = behind laws premises clock editions edition old new steps planned

  abbrev of-plan : AreOfPlan at-plan_input planned.made.work way.keys
  of-plan = plan laws premises clock editions edition old new steps planned

  abbrev making-of : Issuance
  making-of = m laws premises clock editions edition old new steps planned

  abbrev put : List IssuedRow
  put = planned.made.made.issued

  abbrev want : IssueInput
  want = whole at-plan_input of-plan.keys

  abbrev here-keys : Keys
  here-keys = there of-plan.keys

  all-same : all_of set way ≡ new_objects at-plan_input of-plan.keys
  all-same = of-plan.drafts

  -- ---- a row of what was put

  serial-same : (d : Draft) → serial_at (all_of set way) d.issuer d.uri
      ≡ serial_at (new_objects at-plan_input of-plan.keys) d.issuer d.uri
  serial-same d = ap (λ (l : List Draft). serial_at l d.issuer d.uri) all-same

  behind-same : (d : Draft) → serial_behind (all_of set way) d.issuer
      ≡ serial_behind (new_objects at-plan_input of-plan.keys) d.issuer
  behind-same d = ap (λ (l : List Draft). serial_behind l d.issuer) all-same

  end-same : (row : IssuedRow) (life : ℕ) → row.not_after ≡ set.work.moment + life
      → row.not_after ≡ at-plan_input.basis.moment + life
  end-same row life e = e ∙ ap (λ (n : ℕ). n + life) of-plan.moment

  told-by : (d : Draft) (kind : Kind) (bytes : List ℕ) (row : IssuedRow) (what : What)
      → IsObject making-of d kind bytes → Says kind what
      → row.issuer.bytes ≡ id_of d.issuer → row.serial ≡ serial_of set way d kind
      → row.not_after ≡ set.work.moment + life_of kind → IsTold bytes row what
  told-by d (Certificate subject held) bytes row (Whats.Authority key holding) object says issuer serial
      end =
      let n : ℕ = serial_at (new_objects at-plan_input of-plan.keys) d.issuer d.uri in
      let one : CertValue = values.anchor_certificate want.site want.work.moment
      (publishing_of want here-keys d.issuer) held n in
      let two : CertValue = values.authority_certificate want.site want.work.moment
      (publishing_of want here-keys d.issuer) (publishing_of want here-keys subject) held n in
      let last : ℕ = at-plan_input.basis.moment + values.certificate_life in
      let said : IsSaid (cond (is_key d.issuer subject) one two) (id_of subject) held
      (id_of d.issuer) n last =
      said-by (is_key d.issuer subject) one two (id_of subject) held (id_of d.issuer) n last
      (λ same. record {
        kind = refl;
        key = (bytes_eq-Decides (id_of d.issuer) (id_of subject)).0 same;
        held = refl;
        issuer = refl;
        serial = refl;
        end = refl;
      })
      (record { kind = refl; key = refl; held = refl; issuer = refl; serial = refl; end = refl }) in
      let value : object.certificate.cert ≡ cond (is_key d.issuer subject) one two =
      object.issued.says in
      record {
        certificate = object.certificate;
        read = object.read;
        kind = ap (λ (v : CertValue). is_entity v.kind) value ∙ said.kind;
        subject = says.0 ∙ sym (ap (λ (v : CertValue). sha1 v.key) value ∙ said.key);
        resources = ap (λ (v : CertValue). v.held) value
            ∙ (said.held ∙ ap (λ (r : Resources). Some (sets_of r)) (sym says.1));
        dated = record {
          issuer = issuer ∙ sym (ap (λ (v : CertValue). v.issuer) value ∙ said.issuer);
          serial = serial ∙ (serial-same d
              ∙ sym (ap (λ (v : CertValue). v.serial) value ∙ said.serial));
          not_after = end-same row values.certificate_life end
              ∙ sym (ap (λ (v : CertValue). v.not_after) value ∙ said.end);
        };
      }
  told-by d (Certificate subject held) bytes row (Whats.Route other) object says issuer serial end =
      absurd says
  told-by d (Certificate subject held) bytes row Whats.Point object says issuer serial end =
      absurd says
  told-by d (Roa origin) bytes row (Whats.Authority key holding) object says issuer serial end =
      absurd says
  told-by d (Roa origin) bytes row (Whats.Route other) object says issuer serial end =
      let value = object.signed.certificate.says in
      record {
        roa = object.roa;
        read = object.read;
        body = object.signed.body ∙ ap roa_of (sym says);
        holds = ap (λ (v : CertValue). v.held) value
            ∙ ap (λ (o : Origin). Some (values.prefix_sets o.prefix)) (sym says);
        dated = record {
          issuer = issuer ∙ sym (ap (λ (v : CertValue). v.issuer) value);
          serial = serial ∙ (serial-same d ∙ sym (ap (λ (v : CertValue). v.serial) value));
          not_after = end-same row values.certificate_life end
              ∙ sym (ap (λ (v : CertValue). v.not_after) value);
        };
      }
  told-by d (Roa origin) bytes row Whats.Point object says issuer serial end = absurd says
  told-by d Crl bytes row what object says issuer serial end =
      subst (IsTold bytes row) (sym says) (inl (record {
        crl = object.crl;
        read = object.read;
        issuer = issuer ∙ sym (ap (λ (v : CrlValue). v.issuer) object.says);
        serial = serial;
        not_after = end-same row values.point_life end
            ∙ sym (ap (λ (v : CrlValue). v.next_update) object.says);
      }))
  told-by d Manifest bytes row what object says issuer serial end =
      let value = object.signed.certificate.says in
      subst (IsTold bytes row) (sym says) (inr (record {
        manifest = object.manifest;
        read = object.read;
        ends = ap (λ (v : Manifests.Manifest). Manifests.next_update_of v) object.signed.body
            ∙ sym (ap (λ (v : CertValue). v.not_after) value);
        dated = record {
          issuer = issuer ∙ sym (ap (λ (v : CertValue). v.issuer) value);
          serial = serial ∙ (behind-same d ∙ sym (ap (λ (v : CertValue). v.serial) value));
          not_after = end-same row values.point_life end
              ∙ sym (ap (λ (v : CertValue). v.not_after) value);
        };
      }))

  row-of : (x : Signed) → Contains (made_of way) x → (row : IssuedRow) → IsIssued set way x row
      → IsRowOf (final_bytes set way x x.draft.kind) row
  row-of x c row issued = record {
    hash = issued.hash;
    told = told-by x.draft x.draft.kind (final_bytes set way x x.draft.kind) row row.what
        (object-of laws premises clock editions edition old new steps planned x c) issued.what
        issued.issuer issued.serial issued.not_after;
  }

  -- ---- whose row it is

  abbrev row_uri : IssuedRow → List ℕ
  row_uri row = row.uri

  put-apart : AllPairs (λ a b. a ≢ b) (map row_uri put)
  put-apart = apart-from-rise row_uri put planned.made.is_made.listed

  issued-of : (x : Signed) → Contains (made_of way) x
      → (row : IssuedRow) × Contains put row × IsIssued set way x row
  issued-of x c =
      let any = All-contains (λ (y : Signed). Any (IsIssued set way y) put) (made_of way) x
      planned.made.is_made.issued c in
      (any.1, (any.0, any.2, any.3), any.4)

  -- Each row is that of one object: there are no more rows than objects.
  object-at : (row : IssuedRow) → Contains put row
      → (x : Signed) × Contains (made_of way) x × (x.draft.uri ≡ row.uri)
  object-at row c = by-found (found_at uri_at (λ (x : Signed). x) (made_of way) row.uri) refl
    where
      by-found : (o : Option Signed)
          → found_at uri_at (λ (x : Signed). x) (made_of way) row.uri ≡ o
          → (x : Signed) × Contains (made_of way) x × (x.draft.uri ≡ row.uri)
      by-found (Some x) found =
          let r = found-some uri_at (λ (y : Signed). y) (made_of way) row.uri x found in
          (r.0, r.1, r.2)
      by-found None found =
          let uris : List (List ℕ) = map uri_at (made_of way) in
          let other : (uri : List ℕ) → Contains uris uri → row.uri ≢ uri = λ uri inside same.
          let x = from-map uri_at (made_of way) uri inside in
          let here-found : found_at uri_at (λ (y : Signed). y) (made_of way) row.uri ≡ Some x.0 =
          ap (found_at uri_at (λ (y : Signed). y) (made_of way)) (same ∙ sym x.2)
          ∙ found-there uri_at (λ (y : Signed). y) (made_of way) x.0
          (own-places laws premises clock editions edition old new steps planned) x.1 in
          none-some x.0 (sym found ∙ here-found) in
          let more : length (row.uri ∷ uris) ≤ length (map row_uri put) =
          no-more (row.uri ∷ uris) (map row_uri put)
          (pairs-cons row.uri uris other
          (own-places laws premises clock editions edition old new steps planned))
          (λ uri inside. elim (first-or-rest row.uri uris uri inside) [
            | inl same ↦ subst (Contains (map row_uri put)) same (into-map row_uri put row c)
            | inr later ↦
                let x = from-map uri_at (made_of way) uri later in
                let r = issued-of x.0 x.1 in
                subst (Contains (map row_uri put)) (r.2.uri ∙ x.2) (into-map row_uri put r.0 r.1)
          ]) in
          let left : length (map row_uri put) ≡ length put = length-map put row_uri in
          let right : length uris ≡ length (made_of way) = length-map (made_of way) uri_at in
          let count = planned.made.is_made.count in
          absurd (omega (arith, more, left, right, count))

  put-row : (row : IssuedRow) → Contains put row
      → (bytes : List ℕ) × (is row.uri ≡ Some bytes) × IsRowOf bytes row
  put-row row c =
      let x = object-at row c in
      let own = issued-of x.0 x.1 in
      let uri : own.0.uri ≡ row.uri = own.2.uri ∙ x.2 in
      let same : own.0 ≡ row = same_Some own.0 row
      (sym (found-there row_uri (λ (r : IssuedRow). r) put own.0 put-apart own.1)
      ∙ (ap (found_at row_uri (λ (r : IssuedRow). r) put) uri
      ∙ found-there row_uri (λ (r : IssuedRow). r) put row put-apart c)) in (
        final_bytes set way x.0 x.0.draft.kind,
        ap is (sym x.2) ∙ stands-of laws premises clock editions edition old new steps planned x.0 x.1,
        row-of x.0 x.1 row (subst (IsIssued set way x.0) same own.2),
      )

  -- ---- the table

  module _ (issued : List IssuedRow)
      (after : IsTableAfter planned.issued edition.changes put issued) where
    changes-are : AreChanges was is edition.changes
    changes-are = are-changes laws premises clock editions edition old new steps planned

    stayed : (row : IssuedRow) → row_at planned.issued row.uri ≡ Some row
        → change_at edition.changes row.uri ≡ None
        → (bytes : List ℕ) × (is row.uri ≡ Some bytes) × IsRowOf bytes row
    stayed row found unchanged =
        let r = found-some row_uri (λ (x : IssuedRow). x) planned.issued row.uri row found in
        let at = planned.made.table.each row
        (subst (Contains planned.issued) r.3 r.1) in
        let same : is row.uri ≡ was row.uri =
        no-difference row.uri (was row.uri) (is row.uri)
        (sym (changes-are.each row.uri) ∙ unchanged) in
        (at.0, same ∙ at.1, at.2)

    one-row : (row : IssuedRow) → Contains issued row
        → (bytes : List ℕ) × (is row.uri ≡ Some bytes) × IsRowOf bytes row
    one-row row c =
        let found : row_at issued row.uri ≡ Some row =
        found-there row_uri (λ (r : IssuedRow). r) issued row
        (apart-from-rise row_uri issued after.rising) c in
        by-parts (row_at put row.uri) (change_at edition.changes row.uri) refl refl
        (sym (after.each row.uri) ∙ found)
      where
        by-parts : (o : Option IssuedRow) (change : Option Change) → row_at put row.uri ≡ o
            → change_at edition.changes row.uri ≡ change
            → row_after (row_at planned.issued row.uri) (change_at edition.changes row.uri)
            (row_at put row.uri) ≡ Some row
            → (bytes : List ℕ) × (is row.uri ≡ Some bytes) × IsRowOf bytes row
        by-parts (Some own) change here-found there-found e =
            let r = found-some row_uri (λ (x : IssuedRow). x) put row.uri own here-found in
            let own-is : own ≡ row = same_Some own row
            (sym (ap (row_after (row_at planned.issued row.uri)
            (change_at edition.changes row.uri)) here-found) ∙ e) in
            put-row row (subst (Contains put) (r.3 ∙ own-is) r.1)
        by-parts None None here-found there-found e =
            stayed row
            (sym (ap (row_after (row_at planned.issued row.uri) None) here-found)
            ∙ (ap (λ (o : Option Change). row_after (row_at planned.issued row.uri) o
            (row_at put row.uri)) (sym there-found) ∙ e)) there-found
        by-parts None (Some change) here-found there-found e =
            absurd (none-some row
            (sym (ap (row_after (row_at planned.issued row.uri) (Some change)) here-found)
            ∙ (ap (λ (o : Option Change). row_after (row_at planned.issued row.uri) o
            (row_at put row.uri)) (sym there-found) ∙ e)))

    -- The row of what was put.
    put-there : (uri : List ℕ) (d : Draft) → In d (new_puts at-plan_input of-plan.keys) → d.uri ≡ uri
        → (row : IssuedRow) × Contains issued row × (row.uri ≡ uri)
    put-there uri d at place =
        let x = made-for laws premises clock editions edition old new steps planned d at in
        let own = issued-of x.0 x.1 in
        let at-uri : own.0.uri ≡ uri = own.2.uri ∙ (ap (λ (e : Draft). e.uri) x.2 ∙ place) in
        let found : row_at put uri ≡ Some own.0 =
        ap (row_at put) (sym at-uri)
        ∙ found-there row_uri (λ (r : IssuedRow). r) put own.0 put-apart own.1 in
        let there-found : row_at issued uri ≡ Some own.0 =
        after.each uri
        ∙ ap (row_after (row_at planned.issued uri) (change_at edition.changes uri)) found in
        let r = found-some row_uri (λ (x : IssuedRow). x) issued uri own.0 there-found in
        (r.0, r.1, r.2)

    -- Nothing is put where something is kept.
    none-put : (d : Draft) → ((e : Draft) → In e (new_puts at-plan_input of-plan.keys) → e.uri ≢ d.uri)
        → row_at put d.uri ≡ None
    none-put d away = by-row (row_at put d.uri) refl
      where
        by-row : (o : Option IssuedRow) → row_at put d.uri ≡ o → row_at put d.uri ≡ None
        by-row None found = found
        by-row (Some row) found =
            let r = found-some row_uri (λ (x : IssuedRow). x) put d.uri row found in
            let x = object-at r.0 r.1 in
            absurd (away x.0.draft (made-new laws premises clock editions edition old new steps planned x.0 x.1)
            (x.2 ∙ r.2))

    -- The row of what stays.
    left-there : (uri : List ℕ) (d : Draft) → In d (objects laws premises clock editions edition old new steps planned)
        → IsKept at-plan_input of-plan.keys d
        → ((e : Draft) → In e (new_puts at-plan_input of-plan.keys) → e.uri ≢ d.uri) → d.uri ≡ uri
        → (row : IssuedRow) × Contains issued row × (row.uri ≡ uri)
    left-there uri d at kept away place =
        let stays : change_at edition.changes d.uri ≡ None =
        kept-same laws premises clock editions edition old new steps planned d at kept away in
        let before-found : row_at planned.issued d.uri ≡ Some kept.row =
        ap (row_at planned.issued) (sym kept.at)
        ∙ found-there row_uri (λ (r : IssuedRow). r) planned.issued kept.row
        (apart-from-rise row_uri planned.issued planned.made.table.rising) kept.among in
        let found : row_at issued d.uri ≡ Some kept.row =
        after.each d.uri
        ∙ (ap (row_after (row_at planned.issued d.uri) (change_at edition.changes d.uri)) (none-put d away)
        ∙ (ap (λ (o : Option Change). row_after (row_at planned.issued d.uri) o None) stays
        ∙ ap (λ (o : Option IssuedRow). row_after o None None) before-found)) in
        let r = found-some row_uri (λ (x : IssuedRow). x) issued d.uri kept.row found in
        (r.0, r.1, r.2 ∙ place)

    row-there : (uri : List ℕ) → is_some (is uri) ≡ true
        → (row : IssuedRow) × Contains issued row × (row.uri ≡ uri)
    row-there uri some =
        let d = drafted-at laws premises clock editions edition old new steps planned uri some in
        let at = contains-in d.1 (objects laws premises clock editions edition old new steps planned) (d.0, d.2, d.3) in
        by-left d.1 at d.4 (made-or-left at-plan_input of-plan.keys (over laws premises clock editions edition old new steps planned)
        (twos laws premises clock editions edition old new steps planned) d.1 at)
      where
        by-left : (d : Draft) → In d (objects laws premises clock editions edition old new steps planned) → d.uri ≡ uri
            → In d (new_puts at-plan_input of-plan.keys)
            ⊎ (IsKept at-plan_input of-plan.keys d × ((e : Draft) → In e (new_puts at-plan_input of-plan.keys) → e.uri ≢ d.uri))
            → (row : IssuedRow) × Contains issued row × (row.uri ≡ uri)
        by-left d at place (inl made) = put-there uri d made place
        by-left d at place (inr left) = left-there uri d at left.0 left.1 place

    pub goes-on : IsTable is issued
    goes-on = record { rising = after.rising; each = one-row; all = row-there }
