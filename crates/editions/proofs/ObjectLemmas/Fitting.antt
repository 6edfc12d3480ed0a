-- What fits, and so stays, as the table of what stands tells it.
use Rattle.std.proofs.Common.{◌≡◌, ◌≢◌, ◌<◌, ◌⊎◌, inl, inr, ℕ, Bool, true, Option, Some, List, [], ◌∷◌, refl, sym, ap, subst, ◌∙◌}
use Rattle.std.specs.Prelude.{Contains, not, ◌&&◌, ◌||◌, option_map, option_and_then}
use Rattle.std.specs.List.{list_any, list_all}
use Rattle.std.specs.Str.{bytes_eq}
use Rattle.std.proofs.lemmas.Bool.{false≢true, and_parts, or_cases}
use Rattle.std.proofs.lemmas.Slice.Eq.{bytes_eq-Decides}
use Rattle.key_roll.specs.declared.rows.KeyRow.{KeyRow}
use Rattle.key_roll.specs.declared.issued.IssuedRow.{IssuedRow}
use Rattle.key_roll.specs.declared.work.CertWork.{CertWork}
use Rattle.key_roll.specs.declared.work.RoaWork.{RoaWork}
use Rattle.key_roll.specs.declared.work.KeyName.{KeyName}
use Rattle.issue_plan.specs.Keys as plan
use Rattle.issue_plan.specs.Keys.{kept, is_live}
use Rattle.issue_plan.specs.Fits as fits
use Rattle.issue_plan.specs.Fits.{live_row, settled, is_settled, fits_certificate, fits_roa, is_place, stays_at, is_in_place, crl_place, manifest_place, place_of_certificate, place_of_roa}
use Rattle.issue_plan.specs.Serves.{is_point}
use Rattle.issue_plan.specs.laws.FitLaws.{PointFits, certificate-fits, roa-fits, point-fits, settled-live}
use Rattle.issue_plan.specs.Wanted.{PlanInput, point_of}
use Rattle.issue_keys.specs.Keys.{id_of}
use Rattle.issue_keys.specs.Indexes.{has_id}
use Rattle.res_sets.specs.declared.holdings.Resources.{Resources}
use Rattle.issue_drafts.specs.Drafts.{Draft, Kind, certificate_draft, roa_draft, crl_draft, manifest_draft}
use Rattle.issue_drafts.specs.Drafts.Kind.{Certificate, Roa, Crl, Manifest}
use Rattle.issue_make.specs.Trace.{Says}
use Rattle.editions.specs.Wanted.{there, whole, all_certificates, all_roas, all_objects, keeps_certificate, keeps_roa, keeps_point}
use Rattle.issue_drafts.specs.WorkKeys.{key_named, key_of}
use Rattle.issue_drafts.specs.Publishers.{publishing_of, standing_for}
use Rattle.pub_set.specs.Objects.{Rise}
use Rattle.items.specs.laws.AmongLaws.{In, in-any, in-contains, contains-in}
use Rattle.editions.proofs.PlanLemmas.Pairs.{left-of, right-of, one-of, rise-twos}
use Rattle.editions.proofs.ObjectLemmas.Alike.{AreAlike, alike-certificates, alike-roas}
use Rattle.editions.proofs.ObjectLemmas.WantedBeside.{IsSameCert, IsSameRoa}
use Rattle.editions.proofs.ObjectLemmas.Named.{key-named, self-named, made-for, cert-draft, mapped-draft}
use Rattle.editions.proofs.ObjectLemmas.ByWork.{cert-object, roa-object, crl-object, list-object}
use Rattle.editions.proofs.ObjectLemmas.Kept.{IsOver, IsHeld, two-live, two-named, roa-at, crl-at, list-at, certificate-held, certificate-placed, certificate-first, roa-held, roa-placed, crl-held, crl-place, list-held, list-place}
use Rattle.editions.proofs.ObjectLemmas.Settled.{names-is, cert-there, roa-there, live-among, settled-id, settled-same, live-same, live-alike, certs, roas, home-stands}

-- ---- what stays

-- The key whose identifier names the draft's file.
abbrev pub IsKeyOf : Draft → Kind → KeyRow → Type 0
IsKeyOf d (Certificate subject held) key = subject ≡ key
IsKeyOf d (Roa origin) key = ⊥
IsKeyOf d Crl key = d.issuer ≡ key
IsKeyOf d Manifest key = d.issuer ≡ key

-- Where the certificate of an issuer below the trust anchor is wanted, one stands.
abbrev pub HasHome : PlanInput → List KeyRow → KeyRow → Type 0
HasHome plan_input keys issuer = issuer.desk ≢ 0 → (above : IssuedRow) × Contains plan_input.issued above
    × (above.uri ≡ (publishing_of (whole plan_input keys) (there keys) issuer).certificate)

-- The key whose file it is was live.
abbrev pub IsBorn : PlanInput → Draft → Kind → Type 0
IsBorn plan_input d kind = (key : KeyRow) → IsKeyOf d kind key
    → (live : KeyRow) × Contains plan_input.basis.rows live × (id_of live ≡ id_of key)

-- A certificate is the first one of its subject that stands.
abbrev pub IsFirst : PlanInput → Draft → Kind → Type 0
IsFirst plan_input d kind = (subject : KeyRow) (held : Resources) → kind ≡ Certificate subject held
    → standing_for plan_input.issued subject ≡ Some d.uri

-- The table has it at the draft's place, of that issuer, with what is wanted, and not at its end. The certificate of its
-- issuer stood where it is wanted. Its own key was live, and a certificate is the first one of its subject that stands.
pub record IsKept (plan_input : PlanInput) (keys : List KeyRow) (d : Draft) : Type 0 where
  pub row : IssuedRow
  pub among : Contains plan_input.issued row
  pub at : row.uri ≡ d.uri
  pub issuer : row.issuer.bytes ≡ id_of d.issuer
  pub says : Says d.kind row.what
  pub late : plan_input.basis.moment < row.not_after
  pub home : HasHome plan_input keys d.issuer
  pub born : IsBorn plan_input d d.kind
  pub first : IsFirst plan_input d d.kind

-- The files of a key: those that are wanted fit, and there were no others.
pub record KeepsFiles (plan_input : PlanInput) (keys : List KeyRow) (key : KeyRow) : Type 0 where
  pub certificates : (cert : CertWork) → Contains (all_certificates plan_input keys) cert → (issuer : KeyRow)
      → key_named (there keys) cert.issuer ≡ Some issuer → id_of issuer ≡ id_of key
      → keeps_certificate plan_input keys cert ≡ true
  pub roas : (roa : RoaWork) → Contains (all_roas plan_input keys) roa → (issuer : KeyRow)
      → key_named (there keys) roa.issuer ≡ Some issuer → id_of issuer ≡ id_of key
      → keeps_roa plan_input keys roa ≡ true
  pub stood : (row : IssuedRow) → Contains plan_input.issued row → row.issuer.bytes ≡ id_of key
      → (d : Draft) × Contains (all_objects plan_input keys) d × (d.uri ≡ row.uri)
      × (id_of d.issuer ≡ id_of key)

-- ---- lists

all-pass : {X : Type 0} (p : X → Bool) (xs : List X) (x : X) → list_all p xs ≡ true → In x xs → p x ≡ true
all-pass p [] x all at = absurd at
all-pass p (y ∷ xs) x all (inl same) = ap p (sym same) ∙ (and_parts (p y) (list_all p xs) all).0
all-pass p (y ∷ xs) x all (inr at) = all-pass p xs x (and_parts (p y) (list_all p xs) all).1 at

-- What holds where something else doesn't.
unless : (b c : Bool) → (not b || c) ≡ true → b ≡ true → c ≡ true
unless b c so is = by (or_cases (not b) c so)
  where
    by : (not b ≡ true) ⊎ (c ≡ true) → c ≡ true
    by (inl isnt) = absurd (false≢true (ap not (sym is) ∙ isnt))
    by (inr holds) = holds

abbrev subject-in : KeyRow → Kind → KeyRow
subject-in other (Certificate subject held) = subject
subject-in other (Roa origin) = other
subject-in other Crl = other
subject-in other Manifest = other

-- ---- what stays is kept

module _ (plan_input : PlanInput) (keys : List KeyRow) (over : IsOver plan_input keys) where
  abbrev rows : List KeyRow
  rows = plan_input.basis.rows

  -- The certificate of an issuer that was settled.
  issuers-home : (name : KeyName) (key live : KeyRow) → key_named (there keys) name ≡ Some key
      → live_row (settled plan_input) name ≡ Some live → HasHome plan_input keys key
  issuers-home name key live k l =
      let two = two-named plan_input keys over name key live k l in
      let was = settled-live plan_input name live l in
      home-stands plan_input keys over live key was.0 (contains-in key keys (key-named keys name key k)) two.1 was.1 two.0

  kept-by : (d : Draft) → IsHeld plan_input d → HasHome plan_input keys d.issuer → IsBorn plan_input d d.kind
      → IsFirst plan_input d d.kind → IsKept plan_input keys d
  kept-by d held home born first = record {
    row = held.row;
    among = held.among;
    at = held.at;
    issuer = held.issuer;
    says = held.says;
    late = held.late;
    home = home;
    born = born;
    first = first;
  }

  pub kept-certificate : (cert : CertWork) → Contains (all_certificates plan_input keys) cert
      → keeps_certificate plan_input keys cert ≡ true → (d : Draft)
      → certificate_draft (whole plan_input keys) (there keys) cert ≡ Some d → IsKept plan_input keys d
  kept-certificate cert c keeps d is =
      let f = certificate-fits plan_input cert keeps in
      let m = cert-draft (whole plan_input keys) (there keys) cert d is in
      let two = two-live plan_input keys over cert.subject m.1 f.subject m.3 f.live in
      kept-by d (certificate-held plan_input keys over cert keeps d is)
      (subst (λ (x : Draft). HasHome plan_input keys x.issuer) m.4 (issuers-home cert.issuer m.0 f.issuer m.2 f.named))
      (subst (λ (x : Draft). IsBorn plan_input x x.kind) m.4
      (λ key same. (f.subject, live-among rows cert.subject f.subject f.live, sym two.1 ∙ ap id_of same)))
      (λ subject held same.
      let one : m.1 ≡ subject = ap (subject-in m.1) (ap (λ (x : Draft). x.kind) m.4 ∙ same) in
      ap (standing_for plan_input.issued) (sym one) ∙ certificate-first plan_input keys over cert keeps d is m.1 m.3)

  pub kept-roa : (roa : RoaWork) → Contains (all_roas plan_input keys) roa
      → keeps_roa plan_input keys roa ≡ true → (d : Draft)
      → roa_draft (whole plan_input keys) (there keys) roa ≡ Some d → IsKept plan_input keys d
  kept-roa roa c keeps d is =
      let f = roa-fits plan_input roa keeps in
      let m = mapped-draft (roa-at plan_input roa) (key_named (there keys) roa.issuer) d is in
      kept-by d (roa-held plan_input keys over roa keeps d is)
      (subst (λ (x : Draft). HasHome plan_input keys x.issuer) m.2 (issuers-home roa.issuer m.0 f.issuer m.1 f.named))
      (subst (λ (x : Draft). IsBorn plan_input x x.kind) m.2 (λ key none. absurd none))
      (subst (λ (x : Draft). IsFirst plan_input x x.kind) m.2 (λ subject held other. absurd cc))

  module _ (key : KeyRow) (keeps : keeps_point plan_input keys key ≡ true) where
    abbrev f : PointFits plan_input (point_of (kept key))
    f = point-fits plan_input (point_of (kept key)) keeps

    abbrev name : KeyName
    name = (kept key).name

    was : In f.key rows × (is_settled plan_input f.key ≡ true)
    was = settled-live plan_input name f.key f.named

    -- The CRL or the manifest.
    kept-of : (make : KeyRow → Draft) → ((k : KeyRow) → (make k).issuer ≡ k)
        → ((k other : KeyRow) → IsKeyOf (make k) (make k).kind other → k ≡ other)
        → ((k subject : KeyRow) (held : Resources) → (make k).kind ≢ Certificate subject held)
        → (d : Draft) → option_map make (key_named (there keys) name) ≡ Some d → IsHeld plan_input d
        → IsKept plan_input keys d
    kept-of make own key_is other d is held =
        let m = mapped-draft make (key_named (there keys) name) d is in
        let two = two-named plan_input keys over name m.0 f.key m.1 f.named in
        kept-by d held
        (subst (λ (x : Draft). HasHome plan_input keys x.issuer) m.2
        (subst (HasHome plan_input keys) (sym (own m.0)) (issuers-home name m.0 f.key m.1 f.named)))
        (subst (λ (x : Draft). IsBorn plan_input x x.kind) m.2
        (λ k same. (f.key, in-contains f.key rows was.0, sym two.1 ∙ ap id_of (key_is m.0 k same))))
        (subst (λ (x : Draft). IsFirst plan_input x x.kind) m.2
        (λ subject resources same. absurd (other m.0 subject resources same)))

  pub kept-crl : (key : KeyRow) → Contains keys key → keeps_point plan_input keys key ≡ true → (d : Draft)
      → crl_draft (whole plan_input keys) (there keys) (point_of (kept key)) ≡ Some d → IsKept plan_input keys d
  kept-crl key c keeps d is =
      kept-of key keeps (crl-at plan_input) (λ k. refl) (λ k other same. same) (λ k subject held same. absurd cc) d is
      (crl-held plan_input keys over key keeps d is)

  pub kept-manifest : (key : KeyRow) → Contains keys key → keeps_point plan_input keys key ≡ true → (d : Draft)
      → manifest_draft (whole plan_input keys) (there keys) (point_of (kept key)) ≡ Some d
      → IsKept plan_input keys d
  kept-manifest key c keeps d is =
      kept-of key keeps (list-at plan_input) (λ k. refl) (λ k other same. same) (λ k subject held same. absurd cc) d is
      (list-held plan_input keys over key keeps d is)

  -- ---- the files of a key with its point kept

  module _ (rising : Rise (λ row. row.uri) plan_input.issued) (key : KeyRow) (at : In key keys)
      (keeps : keeps_point plan_input keys key ≡ true) where
    abbrev p : PointFits plan_input (point_of (kept key))
    p = point-fits plan_input (point_of (kept key)) keeps

    abbrev live : KeyRow
    live = p.key

    live-in : In live rows
    live-in = (settled-live plan_input (kept key).name live p.named).0

    same-id : id_of live ≡ id_of key
    same-id = settled-id plan_input keys over (plan.id_of key) live p.named

    -- What names the key names the live one.
    names-live : (name : KeyName) (issuer : KeyRow) → key_named (there keys) name ≡ Some issuer
        → id_of issuer ≡ id_of key → is_live (plan.id_of live) name ≡ true
    names-live name issuer named same =
        ap (λ (id : List ℕ). is_live (record { bytes = id }) name) same-id
        ∙ (sym (names-is plan_input keys key at name)
        ∙ (ap (λ (o : Option KeyRow). has_id (id_of key) (option_map key_of o)) named
        ∙ (bytes_eq-Decides (id_of issuer) (id_of key)).1 same))

    -- ---- what is wanted of it

    abbrev file-row : IssuedRow → Bool
    file-row row = not (bytes_eq row.issuer.bytes (id_of live)) || is_point row.what || stays_at plan_input row.uri

    abbrev file-cert : CertWork → Bool
    file-cert cert = not (is_live (plan.id_of live) cert.issuer) || fits_certificate plan_input cert

    abbrev file-roa : RoaWork → Bool
    file-roa roa = not (is_live (plan.id_of live) roa.issuer) || fits_roa plan_input roa

    parts : (list_all file-row plan_input.issued ≡ true)
        × (list_all file-cert (fits.all_certificates plan_input) ≡ true)
        × (list_all file-roa (fits.all_roas plan_input) ≡ true)
    parts =
        let last = and_parts (list_all file-row plan_input.issued && list_all file-cert (fits.all_certificates plan_input))
        (list_all file-roa (fits.all_roas plan_input)) p.same in
        let first = and_parts (list_all file-row plan_input.issued) (list_all file-cert (fits.all_certificates plan_input)) last.0 in
        (first.0, first.1, last.1)

    fit-certificate : (cert : CertWork) → In cert (all_certificates plan_input keys) → (issuer : KeyRow)
        → key_named (there keys) cert.issuer ≡ Some issuer → id_of issuer ≡ id_of key
        → keeps_certificate plan_input keys cert ≡ true
    fit-certificate cert inside issuer named same =
        let one = left-of (IsSameCert (AreAlike rows)) (fits.all_certificates plan_input) (all_certificates plan_input keys)
        cert (certs plan_input keys over) inside in
        let is : is_live (plan.id_of live) one.0.issuer ≡ true =
        live-alike plan_input keys over live live-in one.0.issuer cert.issuer one.2.1
        ∙ names-live cert.issuer issuer named same in
        sym (alike-certificates plan_input one.0 cert one.2.0 one.2.1 one.2.2)
        ∙ unless (is_live (plan.id_of live) one.0.issuer) (fits_certificate plan_input one.0)
        (all-pass file-cert (fits.all_certificates plan_input) one.0 parts.1 one.1) is

    fit-roa : (roa : RoaWork) → In roa (all_roas plan_input keys) → (issuer : KeyRow)
        → key_named (there keys) roa.issuer ≡ Some issuer → id_of issuer ≡ id_of key
        → keeps_roa plan_input keys roa ≡ true
    fit-roa roa inside issuer named same =
        let one = left-of (IsSameRoa (AreAlike rows)) (fits.all_roas plan_input) (all_roas plan_input keys)
        roa (roas plan_input keys over) inside in
        let is : is_live (plan.id_of live) one.0.issuer ≡ true =
        live-alike plan_input keys over live live-in one.0.issuer roa.issuer one.2.0
        ∙ names-live roa.issuer issuer named same in
        sym (alike-roas plan_input one.0 roa one.2.0 one.2.1)
        ∙ unless (is_live (plan.id_of live) one.0.issuer) (fits_roa plan_input one.0)
        (all-pass file-roa (fits.all_roas plan_input) one.0 parts.2 one.1) is

    -- ---- what stood of it

    abbrev IsWanted : IssuedRow → Type 0
    IsWanted row = (d : Draft) × Contains (all_objects plan_input keys) d × (d.uri ≡ row.uri) × (id_of d.issuer ≡ id_of key)

    named-self : (k : KeyRow) × (key_named (there keys) (kept key).name ≡ Some k) × Contains keys k × (id_of k ≡ id_of key)
    named-self = self-named keys key (in-contains key keys at)

    stood-point : (row : IssuedRow) → In row plan_input.issued → row.issuer.bytes ≡ id_of key → is_point row.what ≡ true
        → IsWanted row
    stood-point row inside issuer point =
        by (or_cases (not own || not (is_point row.what) || bytes_eq row.uri (crl_place plan_input live))
        (bytes_eq row.uri (manifest_place plan_input live)) in-place)
      where
        own : Bool
        own = bytes_eq row.issuer.bytes (id_of live)

        is-own : own ≡ true
        is-own = (bytes_eq-Decides row.issuer.bytes (id_of live)).1 (issuer ∙ sym same-id)

        in-place : is_in_place (plan.id_of live) (crl_place plan_input live) (manifest_place plan_input live) row ≡ true
        in-place = all-pass
            (is_in_place (plan.id_of live) (crl_place plan_input live) (manifest_place plan_input live))
            plan_input.issued row p.one inside

        crl : row.uri ≡ crl_place plan_input live → IsWanted row
        crl is =
            let k = named-self in
            let d : Draft = crl-at plan_input k.0 in (
              d,
              in-contains d (all_objects plan_input keys)
                  (crl-object plan_input keys key d at (ap (option_map (crl-at plan_input)) k.1)),
              sym (crl-place plan_input keys over key keeps k.0 k.1) ∙ sym is,
              k.3,
            )

        manifest : row.uri ≡ manifest_place plan_input live → IsWanted row
        manifest is =
            let k = named-self in
            let d : Draft = list-at plan_input k.0 in (
              d,
              in-contains d (all_objects plan_input keys)
                  (list-object plan_input keys key d at (ap (option_map (list-at plan_input)) k.1)),
              sym (list-place plan_input keys over key keeps k.0 k.1) ∙ sym is,
              k.3,
            )

        by-kind : ((not own || not (is_point row.what)) ≡ true) ⊎ (bytes_eq row.uri (crl_place plan_input live) ≡ true)
            → IsWanted row
        by-kind (inl other) =
            absurd (false≢true (sym (ap not point) ∙ unless own (not (is_point row.what)) other is-own))
        by-kind (inr is) = crl ((bytes_eq-Decides row.uri (crl_place plan_input live)).0 is)

        by : ((not own || not (is_point row.what) || bytes_eq row.uri (crl_place plan_input live)) ≡ true)
            ⊎ (bytes_eq row.uri (manifest_place plan_input live) ≡ true) → IsWanted row
        by (inl first) = by-kind (or_cases (not own || not (is_point row.what)) (bytes_eq row.uri (crl_place plan_input live)) first)
        by (inr is) = manifest ((bytes_eq-Decides row.uri (manifest_place plan_input live)).0 is)

    wanted-at : (row : IssuedRow) → In row plan_input.issued → row.issuer.bytes ≡ id_of key → (d : Draft)
        → In d (all_objects plan_input keys) → d.uri ≡ row.uri → IsHeld plan_input d → IsWanted row
    wanted-at row inside issuer d among place held =
        let one : held.row ≡ row =
        one-of (λ (r : IssuedRow). r.uri) plan_input.issued held.row row
        (rise-twos (λ (r : IssuedRow). r.uri) plan_input.issued rising)
        (contains-in held.row plan_input.issued held.among) inside (held.at ∙ place) in (
          d,
          in-contains d (all_objects plan_input keys) among,
          place,
          sym held.issuer ∙ (ap (λ (r : IssuedRow). r.issuer.bytes) one ∙ issuer),
        )

    same-place : (o : Option (List ℕ)) (place uri : List ℕ) → o ≡ Some place → is_place o uri ≡ true → place ≡ uri
    same-place o place uri e is =
        (bytes_eq-Decides place uri).0 (sym (ap (λ (x : Option (List ℕ)). is_place x uri) e) ∙ is)

    stood-cert : (row : IssuedRow) → In row plan_input.issued → row.issuer.bytes ≡ id_of key → (cert : CertWork)
        → In cert (all_certificates plan_input keys) → fits_certificate plan_input cert ≡ true
        → is_place (place_of_certificate plan_input cert) row.uri ≡ true → IsWanted row
    stood-cert row inside issuer cert among fit place =
        let s = whole plan_input keys in
        let named = cert-there plan_input keys cert among in
        let d : Draft = made-for s cert named.1.0 named.0.0 in
        let is : certificate_draft s (there keys) cert ≡ Some d =
        ap (option_and_then (λ (i : KeyRow). option_map (made-for s cert i) (key_named (there keys) cert.subject))) named.1.1
        ∙ ap (option_map (made-for s cert named.1.0)) named.0.1 in
        wanted-at row inside issuer d (cert-object plan_input keys cert d among is)
        (same-place (place_of_certificate plan_input cert) d.uri row.uri
        (certificate-placed plan_input keys over cert fit d is) place)
        (certificate-held plan_input keys over cert fit d is)

    stood-roa : (row : IssuedRow) → In row plan_input.issued → row.issuer.bytes ≡ id_of key → (roa : RoaWork)
        → In roa (all_roas plan_input keys) → fits_roa plan_input roa ≡ true
        → is_place (place_of_roa plan_input roa) row.uri ≡ true → IsWanted row
    stood-roa row inside issuer roa among fit place =
        let named = roa-there plan_input keys roa among in
        let d : Draft = roa-at plan_input roa named.0 in
        let is : roa_draft (whole plan_input keys) (there keys) roa ≡ Some d =
        ap (option_map (roa-at plan_input roa)) named.1 in
        wanted-at row inside issuer d (roa-object plan_input keys roa d among is)
        (same-place (place_of_roa plan_input roa) d.uri row.uri (roa-placed plan_input keys over roa fit d is) place)
        (roa-held plan_input keys over roa fit d is)

    -- What the plan wants and fits is what the edition wants.
    now-cert : (cert : CertWork) → In cert (fits.all_certificates plan_input) → fits_certificate plan_input cert ≡ true
        → In cert (all_certificates plan_input keys)
    now-cert cert among fit =
        let other = right-of (IsSameCert (AreAlike rows)) (fits.all_certificates plan_input) (all_certificates plan_input keys)
        cert (certs plan_input keys over) among in
        let f = certificate-fits plan_input cert fit in
        let subjects : cert.subject ≡ other.0.subject =
        live-same plan_input keys over cert.subject other.0.subject f.subject f.live other.2.0 in
        let issuers : cert.issuer ≡ other.0.issuer =
        settled-same plan_input keys over cert.issuer other.0.issuer f.issuer f.named other.2.1 in
        let held = other.2.2 in
        let same : other.0 ≡ cert = λ j. record { subject = sym subjects j; issuer = sym issuers j; held = sym held j } in
        subst (λ (c : CertWork). In c (all_certificates plan_input keys)) same other.1

    now-roa : (roa : RoaWork) → In roa (fits.all_roas plan_input) → fits_roa plan_input roa ≡ true
        → In roa (all_roas plan_input keys)
    now-roa roa among fit =
        let other = right-of (IsSameRoa (AreAlike rows)) (fits.all_roas plan_input) (all_roas plan_input keys)
        roa (roas plan_input keys over) among in
        let f = roa-fits plan_input roa fit in
        let issuers : roa.issuer ≡ other.0.issuer =
        settled-same plan_input keys over roa.issuer other.0.issuer f.issuer f.named other.2.0 in
        let origins = other.2.1 in
        let same : other.0 ≡ roa = λ j. record { issuer = sym issuers j; origin = sym origins j } in
        subst (λ (r : RoaWork). In r (all_roas plan_input keys)) same other.1

    stood : (row : IssuedRow) → In row plan_input.issued → row.issuer.bytes ≡ id_of key → IsWanted row
    stood row inside issuer =
        by (or_cases (not own || is_point row.what) (stays_at plan_input row.uri)
        (all-pass file-row plan_input.issued row parts.0 inside))
      where
        own : Bool
        own = bytes_eq row.issuer.bytes (id_of live)

        cert-at : CertWork → Bool
        cert-at cert = fits_certificate plan_input cert && is_place (place_of_certificate plan_input cert) row.uri

        roa-stays : RoaWork → Bool
        roa-stays roa = fits_roa plan_input roa && is_place (place_of_roa plan_input roa) row.uri

        by-file : (list_any cert-at (fits.all_certificates plan_input) ≡ true) ⊎ (list_any roa-stays (fits.all_roas plan_input) ≡ true)
            → IsWanted row
        by-file (inl some) =
            let c = in-any cert-at (fits.all_certificates plan_input) some in
            let q = and_parts (fits_certificate plan_input c.0) (is_place (place_of_certificate plan_input c.0) row.uri) c.2 in
            stood-cert row inside issuer c.0 (now-cert c.0 c.1 q.0) q.0 q.1
        by-file (inr some) =
            let r = in-any roa-stays (fits.all_roas plan_input) some in
            let q = and_parts (fits_roa plan_input r.0) (is_place (place_of_roa plan_input r.0) row.uri) r.2 in
            stood-roa row inside issuer r.0 (now-roa r.0 r.1 q.0) q.0 q.1

        by : ((not own || is_point row.what) ≡ true) ⊎ (stays_at plan_input row.uri ≡ true) → IsWanted row
        by (inl first) =
            stood-point row inside issuer (unless own (is_point row.what) first
            ((bytes_eq-Decides row.issuer.bytes (id_of live)).1 (issuer ∙ sym same-id)))
        by (inr stays) =
            by-file (or_cases (list_any cert-at (fits.all_certificates plan_input))
            (list_any roa-stays (fits.all_roas plan_input)) stays)

  pub keeps-files : Rise (λ row. row.uri) plan_input.issued → (key : KeyRow) → Contains keys key → keeps_point plan_input keys key ≡ true
      → KeepsFiles plan_input keys key
  keeps-files rising key c keeps =
      let at = contains-in key keys c in
      record {
        certificates = λ cert inside issuer named same.
            fit-certificate rising key at keeps cert (contains-in cert (all_certificates plan_input keys) inside) issuer named same;
        roas = λ roa inside issuer named same.
            fit-roa rising key at keeps roa (contains-in roa (all_roas plan_input keys) inside) issuer named same;
        stood = λ row inside issuer. stood rising key at keeps row (contains-in row plan_input.issued inside) issuer;
      }
