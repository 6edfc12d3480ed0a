-- What the code looks at tells whether what stands fits.
use Rattle.std.proofs.Common.{◌≡◌, ℕ, ◌<◌, Bool, true, false, ◌&&◌, ◌||◌, not, cond, length, get_or, map, Option, None, Some}
use Rattle.std.proofs.Common.{List, [], ◌∷◌, ◌++◌, ◌∙◌, refl, sym, ap, ap₂}
use Rattle.std.specs.Prelude.{◌==◌, is_some, is_none, option_map, option_and_then, filter, find}
use Rattle.std.specs.Option.{option_map_or}
use Rattle.std.specs.List.{list_any, list_all, filter_map, cons_option}
use Rattle.std.specs.Str.{bytes_eq}
use Rattle.std.proofs.lemmas.List.Folds.{list_any-append}
use Rattle.authority_book.specs.declared.rows.NameRow.{NameRow}
use Rattle.key_ids.specs.declared.identifier.KeyId.{KeyId}
use Rattle.key_ids.specs.Uris.{Bases}
use Rattle.origins.specs.declared.Origin.{Origin}
use Rattle.key_roll.specs.declared.rows.KeyRow.{KeyRow}
use Rattle.key_roll.specs.declared.issued.IssuedRow.{IssuedRow}
use Rattle.key_roll.specs.declared.work.KeyName.{KeyName}
use Rattle.key_roll.specs.declared.work.KeyName.TheVariants.{Live, Fresh}
use Rattle.key_roll.specs.declared.work.CertWork.{CertWork}
use Rattle.key_roll.specs.declared.work.RoaWork.{RoaWork}
use Rattle.key_roll.specs.declared.work.PointWork.{PointWork}
use Rattle.pub_set.specs.Objects.{Rise}
use Rattle.entitle.specs.Certified.{names_of}
use Rattle.issue_plan.specs.declared.anew.Standing.{Standing}
use Rattle.issue_plan.specs.declared.live.LiveKey.{LiveKey}
use Rattle.issue_plan.specs.Keys.{id_of, is_live}
use Rattle.issue_plan.specs.Wanted.{PlanInput, Certificate, Roa, Point}
use Rattle.issue_plan.specs.Serves.{is_for, is_point, serves_certificate, serves_roa, serves_point}
use Rattle.issue_plan.specs.Fits as fits
use Rattle.issue_plan.specs.Fits.{live_row, row_at, is_place, certificate_place_by, roa_place_by, all_certificates, all_roas, stays_at, same_files, stands_first, settled, place_of_certificate, place_of_roa, has_one_point}
use Rattle.issue_plan.specs.inner.Live.{live_key, live_at}
use Rattle.issue_plan.specs.inner.Positions.{AreMarks, unmarked}
use Rattle.issue_plan.specs.inner.Changed.{issuers_of_gone, live_id, has_changed, AreChanged}
use Rattle.issue_plan.specs.inner.Anew as anew
use Rattle.issue_plan.specs.inner.Anew.{IsOver, kept_certificate, kept_roa}
use Rattle.issue_plan.specs.inner.Beside.{beside_roas}
use Rattle.issue_plan.proofs.BesideLemmas.{first-beside, point-beside}
use Rattle.issue_plan.proofs.PositionLemmas.{kept-serves, row-position, hits, hits-any, hits-kept, unmarked-filter}

-- ---- keys and places

pub live-found : (rows : List KeyRow) (name : KeyName)
    → live_at (map live_key rows) name ≡ option_map live_key (live_row rows name)
live-found [] (Live id) = refl
live-found (row ∷ rows) (Live id) =
    elim (bytes_eq (id_of row).bytes id.bytes) as (λ b.
    cond b (Some (live_key row)) (live_at (map live_key rows) (Live id))
    ≡ option_map live_key (cond b (Some row) (live_row rows (Live id)))) [
      | true ↦ refl
      | false ↦ live-found rows (Live id)
    ]
live-found rows (Fresh desk) = refl

two-keys : (site : Bases) (names : List NameRow) (issuer subject : Option KeyRow)
    → option_and_then (λ (i : LiveKey). option_map (λ (j : LiveKey).
    certificate_place_by site names i.desk i.id j.id) (option_map live_key subject)) (option_map live_key issuer)
    ≡ option_and_then (λ (i : KeyRow). option_map (λ (j : KeyRow).
    certificate_place_by site names i.desk (id_of i) (id_of j)) subject) issuer
two-keys site names None subject = refl
two-keys site names (Some issuer) None = refl
two-keys site names (Some issuer) (Some subject) = refl

one-key : (site : Bases) (names : List NameRow) (origin : Origin) (issuer : Option KeyRow)
    → option_map (λ (i : LiveKey). roa_place_by site names i.desk origin) (option_map live_key issuer)
    ≡ option_map (λ (i : KeyRow). roa_place_by site names i.desk origin) issuer
one-key site names origin None = refl
one-key site names origin (Some issuer) = refl

filter-map : {X Y : Type 0} (f : X → Y) (p : Y → Bool) (q : X → Bool) → ((x : X) → p (f x) ≡ q x)
    → (xs : List X) → filter p (map f xs) ≡ map f (filter q xs)
filter-map f p q same [] = refl
filter-map f p q same (x ∷ xs) =
    let rest : filter p (map f xs) ≡ map f (filter q xs) = filter-map f p q same xs in
    ap (λ b. cond b (f x ∷ filter p (map f xs)) (filter p (map f xs))) (same x)
    ∙ elim (q x) as (λ b. cond b (f x ∷ filter p (map f xs)) (filter p (map f xs))
    ≡ map f (cond b (x ∷ filter q xs) (filter q xs))) [
      | true ↦ ap (λ l. f x ∷ l) rest
      | false ↦ rest
    ]

module _ (plan_input : PlanInput) (s : Standing) (over : IsOver plan_input s) where
  certificate-place : (issuers : List KeyRow) (keys : List LiveKey) → keys ≡ map live_key issuers → (cert : CertWork)
      → anew.certificate_place s keys cert ≡ fits.certificate_place plan_input issuers cert
  certificate-place issuers keys are cert =
      rw (over.live, over.names, over.site, are, live-found issuers cert.issuer, live-found plan_input.basis.rows cert.subject)
      (two-keys plan_input.site (names_of plan_input.basis.configs) (live_row issuers cert.issuer) (live_row plan_input.basis.rows cert.subject))

  roa-place : (issuers : List KeyRow) (keys : List LiveKey) → keys ≡ map live_key issuers → (roa : RoaWork)
      → anew.roa_place s keys roa ≡ fits.roa_place plan_input issuers roa
  roa-place issuers keys are roa =
      rw (over.names, over.site, are, live-found issuers roa.issuer)
      (one-key plan_input.site (names_of plan_input.basis.configs) roa.origin (live_row issuers roa.issuer))

  -- ---- the keys that are settled

  home-at : (o : Option CertWork) → option_and_then (anew.certificate_place s s.live.now) o
      ≡ option_and_then (fits.certificate_place plan_input plan_input.basis.rows) o
  home-at None = refl
  home-at (Some cert) = certificate-place plan_input.basis.rows s.live.now over.live cert

  is-settled : (certs : List CertWork) → certs ≡ all_certificates plan_input → (row : KeyRow)
      → anew.is_settled s certs (live_key row) ≡ fits.is_settled plan_input row
  is-settled certs are row =
      ap₂ (λ (first : Option IssuedRow) (place : Option (List ℕ)).
      (row.desk == 0) || option_map_or (λ uri. option_map_or (λ (r : IssuedRow). bytes_eq r.uri uri) first false) place false)
      (ap (find (λ (r : IssuedRow). is_for (Live (id_of row)) r.what)) over.beside
      ∙ first-beside (Live (id_of row)) plan_input.issued)
      (ap (λ (l : List CertWork). option_and_then (anew.certificate_place s s.live.now)
      (find (λ (cert : CertWork). is_live (id_of row) cert.subject) l)) are
      ∙ home-at (find (λ (cert : CertWork). is_live (id_of row) cert.subject) (all_certificates plan_input)))

  pub settled-are : (certs : List CertWork) (keys : List LiveKey) → certs ≡ all_certificates plan_input
      → keys ≡ filter (anew.is_settled s certs) s.live.now → keys ≡ map live_key (settled plan_input)
  settled-are certs keys are is =
      is ∙ (ap (filter (anew.is_settled s certs)) over.live
      ∙ filter-map live_key (anew.is_settled s certs) (fits.is_settled plan_input)
      (λ row. is-settled certs are row) plan_input.basis.rows)

module _ (plan_input : PlanInput) (s : Standing) (over : IsOver plan_input s)
    (keys : List LiveKey) (are-settled : keys ≡ map live_key (settled plan_input)) where
  certificate-at : (cert : CertWork) → anew.certificate_place s keys cert ≡ place_of_certificate plan_input cert
  certificate-at cert = certificate-place plan_input s over (settled plan_input) keys are-settled cert

  roa-at : (roa : RoaWork) → anew.roa_place s keys roa ≡ place_of_roa plan_input roa
  roa-at roa = roa-place plan_input s over (settled plan_input) keys are-settled roa

  abbrev serves-first : CertWork → IssuedRow → Bool
  serves-first cert row =
      serves_certificate plan_input.basis.moment cert row && stands_first plan_input.issued cert.subject row.uri

  -- ---- certificates and ROAs

  pub certificate-fits : (cert : CertWork) → is_some (kept_certificate s keys cert) ≡ fits.fits_certificate plan_input cert
  certificate-fits cert =
      rw (over.issued, over.beside, over.moment, certificate-at cert, first-beside cert.subject plan_input.issued)
      (kept-serves plan_input.issued (serves-first cert) (place_of_certificate plan_input cert))

  pub roa-fits : (roa : RoaWork) → is_some (kept_roa s keys roa) ≡ fits.fits_roa plan_input roa
  roa-fits roa =
      rw (over.issued, over.moment, roa-at roa)
      (kept-serves plan_input.issued (serves_roa plan_input.basis.moment roa) (place_of_roa plan_input roa))

  module _ (rises : Rise (λ row. row.uri) plan_input.issued) where
    certificate-hits : (i : ℕ) (d : IssuedRow) → i < length plan_input.issued → (cert : CertWork)
        → hits i (kept_certificate s keys cert)
        ≡ (fits.fits_certificate plan_input cert
        && is_place (place_of_certificate plan_input cert) (get_or plan_input.issued i d).uri)
    certificate-hits i d inside cert =
        rw (over.issued, over.beside, over.moment, certificate-at cert, first-beside cert.subject plan_input.issued)
        (hits-kept plan_input.issued (serves-first cert)
        (place_of_certificate plan_input cert) i d rises inside)

    roa-hits : (i : ℕ) (d : IssuedRow) → i < length plan_input.issued → (roa : RoaWork)
        → hits i (kept_roa s keys roa)
        ≡ (fits.fits_roa plan_input roa && is_place (place_of_roa plan_input roa) (get_or plan_input.issued i d).uri)
    roa-hits i d inside roa =
        rw (over.issued, over.moment, roa-at roa)
        (hits-kept plan_input.issued (serves_roa plan_input.basis.moment roa)
        (place_of_roa plan_input roa) i d rises inside)

    -- The positions of what fits are those of the rows that stay.
    pub kept-stays : (kept : List ℕ) (i : ℕ) (d : IssuedRow)
        → kept ≡ filter_map (kept_certificate s keys) (all_certificates plan_input) ++ filter_map (kept_roa s keys) (all_roas plan_input)
        → i < length plan_input.issued
        → list_any (λ n. n == i) kept ≡ stays_at plan_input (get_or plan_input.issued i d).uri
    kept-stays kept i d are inside =
        let certs = all_certificates plan_input in
        let roas = all_roas plan_input in
        ap (list_any (λ n. n == i)) are
        ∙ (list_any-append (λ n. n == i) (filter_map (kept_certificate s keys) certs) (filter_map (kept_roa s keys) roas)
        ∙ (ap (λ b. b || list_any (λ n. n == i) (filter_map (kept_roa s keys) roas))
        (hits-any (kept_certificate s keys) i certs ∙ ap (λ p. list_any p certs) (λ j cert. certificate-hits i d inside cert j))
        ∙ ap (λ b. list_any (λ (cert : CertWork). fits.fits_certificate plan_input cert
        && is_place (place_of_certificate plan_input cert) (get_or plan_input.issued i d).uri) certs || b)
        (hits-any (kept_roa s keys) i roas ∙ ap (λ p. list_any p roas) (λ j roa. roa-hits i d inside roa j))))

    gone : (kept : List ℕ) (marks : List Bool)
        → kept ≡ filter_map (kept_certificate s keys) (all_certificates plan_input) ++ filter_map (kept_roa s keys) (all_roas plan_input)
        → AreMarks (length plan_input.issued) kept marks
        → unmarked marks plan_input.issued ≡ filter (λ row. not (stays_at plan_input row.uri)) plan_input.issued
    gone kept marks are marked =
        unmarked-filter (λ row. stays_at plan_input row.uri) marks plan_input.issued marked.long
        (λ i d inside. marked.each i inside ∙ kept-stays kept i d are inside)

-- ---- the keys whose files change

abbrev is_id : KeyId → KeyId → Bool
is_id id other = bytes_eq other.bytes id.bytes

rows-changed : (stays : IssuedRow → Bool) (id : KeyId) (issued : List IssuedRow)
    → list_any (is_id id) (issuers_of_gone (filter (λ row. not (stays row)) issued))
    ≡ not (list_all (λ row. not (bytes_eq row.issuer.bytes id.bytes) || is_point row.what || stays row) issued)
rows-changed stays id [] = refl
rows-changed stays id (row ∷ issued) =
    elim (stays row) as (λ stay.
    list_any (is_id id) (issuers_of_gone (cond (not stay) (row ∷ filter (λ r. not (stays r)) issued)
    (filter (λ r. not (stays r)) issued)))
    ≡ not ((not (bytes_eq row.issuer.bytes id.bytes) || is_point row.what || stay)
    && list_all (λ r. not (bytes_eq r.issuer.bytes id.bytes) || is_point r.what || stays r) issued)) [
      | true ↦ rows-changed stays id issued ∙ ap (λ b. not (b && list_all (λ r. not (bytes_eq r.issuer.bytes id.bytes)
          || is_point r.what || stays r) issued)) (sym (always (not (bytes_eq row.issuer.bytes id.bytes)) (is_point row.what)))
      | false ↦ elim (is_point row.what) as (λ point.
          list_any (is_id id) (map (λ r. r.issuer) (cond (not point) (row ∷ filter (λ r. not (is_point r.what))
          (filter (λ r. not (stays r)) issued)) (filter (λ r. not (is_point r.what)) (filter (λ r. not (stays r)) issued))))
          ≡ not ((not (bytes_eq row.issuer.bytes id.bytes) || point || false)
          && list_all (λ r. not (bytes_eq r.issuer.bytes id.bytes) || is_point r.what || stays r) issued)) [
            | true ↦ rows-changed stays id issued ∙ ap (λ b. not (b && list_all (λ r. not (bytes_eq r.issuer.bytes id.bytes)
                || is_point r.what || stays r) issued)) (sym (either (not (bytes_eq row.issuer.bytes id.bytes))))
            | false ↦ elim (bytes_eq row.issuer.bytes id.bytes) as (λ own.
                (own || list_any (is_id id) (issuers_of_gone (filter (λ r. not (stays r)) issued)))
                ≡ not ((not own || false || false)
                && list_all (λ r. not (bytes_eq r.issuer.bytes id.bytes) || is_point r.what || stays r) issued)) [
                  | true ↦ refl
                  | false ↦ rows-changed stays id issued
                ]
          ]
    ]
  where
    always : (a b : Bool) → (a || b || true) ≡ true
    always true b = refl
    always false true = refl
    always false false = refl

    either : (a : Bool) → (a || true || false) ≡ true
    either true = refl
    either false = refl

work-changed : {X : Type 0} (issuer : X → KeyName) (fit : X → Bool) (id : KeyId) (works : List X) (name : KeyName)
    → list_any (is_id id) (filter_map (λ y. live_id (issuer y)) (filter (λ y. not (fit y)) works))
    ≡ not (list_all (λ y. not (is_live id (issuer y)) || fit y) works)
    → list_any (is_id id) (cons_option (live_id name) (filter_map (λ y. live_id (issuer y)) (filter (λ y. not (fit y)) works)))
    ≡ not ((not (is_live id name) || false) && list_all (λ y. not (is_live id (issuer y)) || fit y) works)
work-changed issuer fit id works (Live other) rest =
    elim (bytes_eq other.bytes id.bytes) as (λ own.
    (own || list_any (is_id id) (filter_map (λ y. live_id (issuer y)) (filter (λ y. not (fit y)) works)))
    ≡ not ((not own || false) && list_all (λ y. not (is_live id (issuer y)) || fit y) works)) [
      | true ↦ refl
      | false ↦ rest
    ]
work-changed issuer fit id works (Fresh desk) rest = rest

works-changed : {X : Type 0} (issuer : X → KeyName) (fit : X → Bool) (id : KeyId) (works : List X)
    → list_any (is_id id) (filter_map (λ x. live_id (issuer x)) (filter (λ x. not (fit x)) works))
    ≡ not (list_all (λ x. not (is_live id (issuer x)) || fit x) works)
works-changed issuer fit id [] = refl
works-changed {X} issuer fit id (x ∷ works) =
    elim (fit x) as (λ fits.
    list_any (is_id id) (filter_map (λ y. live_id (issuer y)) (cond (not fits) (x ∷ filter (λ y. not (fit y)) works)
    (filter (λ y. not (fit y)) works)))
    ≡ not ((not (is_live id (issuer x)) || fits) && list_all (λ y. not (is_live id (issuer y)) || fit y) works)) [
      | true ↦ works-changed issuer fit id works
          ∙ ap (λ b. not (b && list_all (λ y. not (is_live id (issuer y)) || fit y) works)) (sym (always (not (is_live id (issuer x)))))
      | false ↦ work-changed issuer fit id works (issuer x) (works-changed issuer fit id works)
    ]
  where
    always : (a : Bool) → (a || true) ≡ true
    always true = refl
    always false = refl

three-not : (a b c : Bool) → ((not a || not b) || not c) ≡ not (a && b && c)
three-not true true c = refl
three-not true false c = refl
three-not false b c = refl

three-any : (p : KeyId → Bool) (a b c : List KeyId)
    → list_any p (a ++ b ++ c) ≡ ((list_any p a || list_any p b) || list_any p c)
three-any p a b c = list_any-append p (a ++ b) c ∙ ap (λ x. x || list_any p c) (list_any-append p a b)

not-not : (b : Bool) → not (not b) ≡ b
not-not true = refl
not-not false = refl

pub none-not : {X : Type 0} (o : Option X) → is_none o ≡ not (is_some o)
none-not None = refl
none-not (Some x) = refl

module _ (plan_input : PlanInput) (s : Standing) (over : IsOver plan_input s)
    (keys : List LiveKey) (are-settled : keys ≡ map live_key (settled plan_input))
    (rises : Rise (λ row. row.uri) plan_input.issued) where
  -- A key has changed where its files aren't the same.
  pub files-changed : (kept : List ℕ) (certs : List CertWork) (roas : List RoaWork) (changed : List KeyId) (key : KeyRow)
      → kept ≡ filter_map (kept_certificate s keys) (all_certificates plan_input) ++ filter_map (kept_roa s keys) (all_roas plan_input)
      → certs ≡ filter (λ cert. not (fits.fits_certificate plan_input cert)) (all_certificates plan_input)
      → roas ≡ filter (λ roa. not (fits.fits_roa plan_input roa)) (all_roas plan_input)
      → AreChanged plan_input.issued kept certs roas changed
      → has_changed changed (id_of key) ≡ not (same_files plan_input key)
  files-changed kept certs roas changed key are-kept are-certs are-roas are =
      let id = id_of key in
      let stays : IssuedRow → Bool = λ row. stays_at plan_input row.uri in
      let issuer-of-cert : CertWork → KeyName = λ cert. cert.issuer in
      let issuer-of-roa : RoaWork → KeyName = λ roa. roa.issuer in
      let same-rows : Bool =
      list_all (λ row. not (bytes_eq row.issuer.bytes id.bytes) || is_point row.what || stays row) plan_input.issued in
      let same-certs : Bool =
      list_all (λ cert. not (is_live id cert.issuer) || fits.fits_certificate plan_input cert) (all_certificates plan_input) in
      let same-roas : Bool =
      list_all (λ roa. not (is_live id roa.issuer) || fits.fits_roa plan_input roa) (all_roas plan_input) in
      let of-rows = issuers_of_gone (unmarked are.marks plan_input.issued) in
      let of-certs = filter_map (λ (cert : CertWork). live_id cert.issuer) certs in
      let of-roas = filter_map (λ (roa : RoaWork). live_id roa.issuer) roas in
      let by-rows : list_any (is_id id) of-rows ≡ not same-rows =
      ap (λ l. list_any (is_id id) (issuers_of_gone l)) (gone plan_input s over keys are-settled rises kept are.marks are-kept are.are)
      ∙ rows-changed stays id plan_input.issued in
      let by-certs : list_any (is_id id) of-certs ≡ not same-certs =
      ap (λ l. list_any (is_id id) (filter_map (λ (cert : CertWork). live_id cert.issuer) l)) are-certs
      ∙ works-changed issuer-of-cert (fits.fits_certificate plan_input) id (all_certificates plan_input) in
      let by-roas : list_any (is_id id) of-roas ≡ not same-roas =
      ap (λ l. list_any (is_id id) (filter_map (λ (roa : RoaWork). live_id roa.issuer) l)) are-roas
      ∙ works-changed issuer-of-roa (fits.fits_roa plan_input) id (all_roas plan_input) in
      ap (list_any (is_id id)) are.all
      ∙ (three-any (is_id id) of-rows of-certs of-roas
      ∙ (ap (λ x. (x || list_any (is_id id) of-certs) || list_any (is_id id) of-roas) by-rows
      ∙ (ap (λ x. (not same-rows || x) || list_any (is_id id) of-roas) by-certs
      ∙ (ap (λ x. (not same-rows || not same-certs) || x) by-roas
      ∙ three-not same-rows same-certs same-roas))))

  -- The CRL and the manifest of a key stay where they fit.
  pub point-fits : (changed : List KeyId)
      → ((key : KeyRow) → has_changed changed (id_of key) ≡ not (same_files plan_input key))
      → (point : PointWork) → anew.point_stays s keys changed point ≡ fits.fits plan_input (Point point)
  point-fits changed told point =
      rw (are-settled, live-found (settled plan_input) point.key) (by (live_row (settled plan_input) point.key))
    where
      by : (key : Option KeyRow) → option_map_or (anew.key_stays s changed) (option_map live_key key) false
          ≡ option_map_or (fits.fits_point plan_input) key false
      by None = refl
      by (Some key) =
          rw (
            told key,
            not-not (same_files plan_input key),
            over.names,
            over.site,
            over.issued,
            over.beside,
            over.moment,
            point-beside (id_of key) (fits.crl_place plan_input key) (fits.manifest_place plan_input key) plan_input.issued,
          )
          (ap₂ (λ (a b : Bool). not (key.desk == 0) && same_files plan_input key
          && (has_one_point plan_input.issued (id_of key) (fits.crl_place plan_input key)
          (fits.manifest_place plan_input key) && a && b))
          (ap (λ row. option_map_or (serves_point plan_input.basis.moment (Live (id_of key))) row false)
          (row-position plan_input.issued (fits.crl_place plan_input key)))
          (ap (λ row. option_map_or (serves_point plan_input.basis.moment (Live (id_of key))) row false)
          (row-position plan_input.issued (fits.manifest_place plan_input key))))

-- ---- the works

-- What is made is what nothing fits.
pub works-are : (plan_input : PlanInput) (s : Standing) (over : IsOver plan_input s) (keys : List LiveKey)
    (are-settled : keys ≡ map live_key (settled plan_input)) (rises : Rise (λ row. row.uri) plan_input.issued)
    (certs all-certs : List CertWork) (roas all-roas : List RoaWork) (points all-points : List PointWork)
    (kept : List ℕ) (changed : List KeyId)
    → all-certs ≡ all_certificates plan_input → all-roas ≡ all_roas plan_input
    → certs ≡ filter (λ cert. is_none (kept_certificate s keys cert)) all-certs
    → roas ≡ filter (λ roa. is_none (kept_roa s keys roa)) all-roas
    → kept ≡ filter_map (kept_certificate s keys) all-certs ++ filter_map (kept_roa s keys) all-roas
    → AreChanged plan_input.issued kept certs roas changed
    → points ≡ filter (λ point. not (anew.point_stays s keys changed point)) all-points
    → (certs ≡ fits.unfit plan_input Certificate (all_certificates plan_input))
    × (roas ≡ fits.unfit plan_input Roa (all_roas plan_input))
    × (points ≡ fits.unfit plan_input Point all-points)
works-are plan_input s over keys are-settled rises certs all-certs roas all-roas points all-points kept changed
    of-certs of-roas are-certs are-roas are-kept are-changed are-points =
    let fit-certs : certs ≡ fits.unfit plan_input Certificate (all_certificates plan_input) =
    are-certs ∙ (ap (filter (λ cert. is_none (kept_certificate s keys cert))) of-certs
    ∙ ap (λ (p : CertWork → Bool). filter p (all_certificates plan_input))
    (λ j cert. (none-not (kept_certificate s keys cert) ∙ ap not (certificate-fits plan_input s over keys are-settled cert)) j)) in
    let fit-roas : roas ≡ fits.unfit plan_input Roa (all_roas plan_input) =
    are-roas ∙ (ap (filter (λ roa. is_none (kept_roa s keys roa))) of-roas
    ∙ ap (λ (p : RoaWork → Bool). filter p (all_roas plan_input))
    (λ j roa. (none-not (kept_roa s keys roa) ∙ ap not (roa-fits plan_input s over keys are-settled roa)) j)) in
    let all-kept : kept ≡ filter_map (kept_certificate s keys) (all_certificates plan_input)
    ++ filter_map (kept_roa s keys) (all_roas plan_input) =
    are-kept ∙ ap₂ (λ (a : List CertWork) (b : List RoaWork). filter_map (kept_certificate s keys) a ++ filter_map (kept_roa s keys) b)
    of-certs of-roas in (
      fit-certs,
      fit-roas,
      are-points ∙ ap (λ (p : PointWork → Bool). filter p all-points)
          (λ j point. ap not (point-fits plan_input s over keys are-settled rises changed
          (λ key. files-changed plan_input s over keys are-settled rises kept certs roas changed key all-kept fit-certs fit-roas are-changed) point) j),
    )
