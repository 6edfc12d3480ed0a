-- Nothing stands at the places of keys that aren't live, where the audited set agrees with the rows.
use Rattle.std.proofs.Common.{◌≡◌, ◌≢◌, ℕ, ◌+◌, ◌≤◌, ◌&&◌, ◌==◌, eqb, nat_le, Bool, true, false, cond, List, [], ◌∷◌, map, None, refl, sym, ap, subst, ◌∙◌, arith, inl, inr, eqb-true, leb-true}
use Rattle.std.specs.Prelude.{All, Contains}
use Rattle.std.specs.List.{list_all, AllZip}
use Rattle.std.specs.Str.{bytes_eq}
use Rattle.std.proofs.lemmas.Bool.{and_parts, eqb-false}
use Rattle.std.proofs.lemmas.Slice.Eq.{bytes_eq-Decides}
use Rattle.items.specs.laws.AmongLaws.{In, all-in, in-all, in-any, flat-map-in, contains-in, in-contains}
use Rattle.items.specs.laws.PairLaws.{Each, each-all}
use Rattle.sha1.specs.Sha1.{sha1}
use Rattle.names.specs.Name.{IsName}
use Rattle.key_ids.specs.Uris.{Bases, anchor_uri, file_uri, cert_uri, crl_uri, manifest_uri}
use Rattle.der.specs.Grammar.{AreBytes}
use Rattle.cert_obj.specs.laws.IdentifierLaws.{sha1-bytes}
use Rattle.key_roll.specs.declared.rows.KeyRow.{KeyRow}
use Rattle.key_roll.specs.declared.rows.Role.TheVariants.{Current}
use Rattle.key_roll.specs.declared.issued.IssuedRow.{IssuedRow}
use Rattle.pub_set.specs.declared.objects.Object.{Object}
use Rattle.pub_set.specs.Objects.{content_at}
use Rattle.rp_rules.specs.Authorities.{Authority, key_id}
use Rattle.rp_rules.specs.Certificates.{WalkContext}
use Rattle.rp_rules.specs.Walk.{Visit, Certificate, Published, uris_of, visited}
use Rattle.rp_rules.specs.Accepted.{AreAccepted}
use Rattle.rp_rules.specs.Sound.{IsSoundBy, is_visited}
use Rattle.rp_rules.specs.Yield.{point_value, points}
use Rattle.issue_values.specs.UriEndings.{last_byte}
use Rattle.issue_keys.specs.Keys.{id_of}
use Rattle.editions.specs.Clear.{IsElsewhere, IsClear}
use Rattle.editions.specs.laws.RowLaws.{role-is}
use Rattle.press_records.specs.Rows.{RowValue, row_value}
use Rattle.press_records.specs.Stages.{is_alone, are_two, are_stages, are_staged}
use Rattle.press_core.specs.Agreement.{first_mismatch}
use Rattle.press_core.specs.Tables.{Home}
use Rattle.press_core.specs.inner.Rows.{IsRowFor}
use Rattle.press_core.proofs.Agreeing.{row-of-point, point-among}
use Rattle.press_core.proofs.Tabled.{object-of}
use Rattle.press_core.proofs.Visited.{IsKeyUri, IsPlace, place-of, each-has-point}

-- ---- the anchor has no key but a current one

stages-from : (low : ℕ) (rows : List RowValue) → are_stages low rows ≡ true → Each (λ (row : RowValue). low ≤ row.desk) rows
stages-from low [] e = tt
stages-from low (row ∷ []) e = (leb-true low row.desk (and_parts (nat_le low row.desk) (is_alone row) e).0, tt)
stages-from low (row ∷ other ∷ rows) e =
    let one = and_parts (nat_le low row.desk) _ e in
    let first : low ≤ row.desk = leb-true low row.desk one.0 in
    (first, by first (stages-from (row.desk + 1) rows) (stages-from (row.desk + 1) (other ∷ rows)) (row.desk == other.desk) refl one.1)
  where
    weaker : (rest : List RowValue) → low ≤ row.desk → Each (λ (r : RowValue). row.desk + 1 ≤ r.desk) rest → Each (λ (r : RowValue). low ≤ r.desk) rest
    weaker [] first all = tt
    weaker (r ∷ rest) first all = (let above = all.0 in omega (arith, first, above), weaker rest first all.1)

    by : low ≤ row.desk → (are_stages (row.desk + 1) rows ≡ true → Each (λ (r : RowValue). row.desk + 1 ≤ r.desk) rows)
        → (are_stages (row.desk + 1) (other ∷ rows) ≡ true → Each (λ (r : RowValue). row.desk + 1 ≤ r.desk) (other ∷ rows))
        → (b : Bool) → (row.desk == other.desk) ≡ b
        → cond b (are_two row other && are_stages (row.desk + 1) rows) (is_alone row && are_stages (row.desk + 1) (other ∷ rows)) ≡ true
        → Each (λ (r : RowValue). low ≤ r.desk) (other ∷ rows)
    by first two one true same h =
        let equal : row.desk ≡ other.desk = eqb-true row.desk other.desk same in
        (omega (arith, first, equal), weaker rows first (two (and_parts (are_two row other) (are_stages (row.desk + 1) rows) h).1))
    by first two one false apart h =
        weaker (other ∷ rows) first (one (and_parts (is_alone row) (are_stages (row.desk + 1) (other ∷ rows)) h).1)

above-one : (rows : List KeyRow) → Each (λ (row : RowValue). 1 ≤ row.desk) (map row_value rows) → Each (λ (key : KeyRow). key.desk ≡ 0 → key.role ≡ Current) rows
above-one [] all = tt
above-one (row ∷ rows) all = (λ anchor. absurd (let above = all.0 in omega (arith, above, anchor)), above-one rows all.1)

pub anchor-alone : (rows : List KeyRow) → are_staged (map row_value rows) ≡ true → All (λ key. key.desk ≡ 0 → key.role ≡ Current) rows
anchor-alone [] e = absurd cc
anchor-alone (row ∷ rows) e =
    let two = and_parts ((row.desk == 0) && is_alone (row_value row)) (are_stages 1 (map row_value rows)) e in
    let one = and_parts (row.desk == 0) (is_alone (row_value row)) two.0 in
    let current = role-is row.role Current (and_parts _ _ one.1).0 in
    each-all (λ (key : KeyRow). key.desk ≡ 0 → key.role ≡ Current) (row ∷ rows) (λ anchor. current, above-one rows (stages-from 1 (map row_value rows) two.1))

-- ---- places

-- The laws of the layers below that this rests on.
pub record AreUriLaws : Type 0 where
  pub anchor : (site : Bases) (a f : List ℕ) → anchor_uri site ≢ file_uri site a f
  pub certificates : (site : Bases) (a b x y : List ℕ) → IsName a → IsName b → AreBytes x → AreBytes y
      → cert_uri site a x ≡ cert_uri site b y → (a ≡ b) × (x ≡ y)
  pub crls : (site : Bases) (a b x y : List ℕ) → IsName a → IsName b → AreBytes x → AreBytes y
      → crl_uri site a x ≡ crl_uri site b y → (a ≡ b) × (x ≡ y)
  pub manifests : (site : Bases) (a b x y : List ℕ) → IsName a → IsName b → AreBytes x → AreBytes y
      → manifest_uri site a x ≡ manifest_uri site b y → (a ≡ b) × (x ≡ y)
  pub ends_certificate : (site : Bases) (a x : List ℕ) → last_byte (cert_uri site a x) ≡ 114
  pub ends_crl : (site : Bases) (a x : List ℕ) → last_byte (crl_uri site a x) ≡ 108
  pub ends_manifest : (site : Bases) (a x : List ℕ) → last_byte (manifest_uri site a x) ≡ 116

-- A URI ends in one way.
ends-otherwise : (uri a : List ℕ) (m n : ℕ) → last_byte uri ≡ m → uri ≡ a → last_byte a ≡ n → eqb m n ≡ false → ⊥
ends-otherwise uri a m n one same other apart = eqb-false m n apart (sym one ∙ (ap last_byte same ∙ other))

module _ (laws : AreUriLaws) (site : Bases) (id : List ℕ) (fits : AreBytes id) (uri : List ℕ) where
  elsewhere-anchor : uri ≡ anchor_uri site → IsElsewhere site id uri
  elsewhere-anchor is = record {
    certificate = λ name plain same. laws.anchor site name _ (sym is ∙ same);
    crl = λ name plain same. laws.anchor site name _ (sym is ∙ same);
    manifest = λ name plain same. laws.anchor site name _ (sym is ∙ same);
  }

  elsewhere-route : last_byte uri ≡ 97 → IsElsewhere site id uri
  elsewhere-route e = record {
    certificate = λ name plain same. ends-otherwise uri (cert_uri site name id) 97 114 e same (laws.ends_certificate site name id) refl;
    crl = λ name plain same. ends-otherwise uri (crl_uri site name id) 97 108 e same (laws.ends_crl site name id) refl;
    manifest = λ name plain same. ends-otherwise uri (manifest_uri site name id) 97 116 e same (laws.ends_manifest site name id) refl;
  }

  -- Of another key.
  elsewhere-key : (n key : List ℕ) → IsName n → AreBytes key → key ≢ id → IsKeyUri site n key uri → IsElsewhere site id uri
  elsewhere-key n key is fine other (inl e) = record {
    certificate = λ name plain same. other (laws.certificates site n name key id is plain fine fits (sym e ∙ same)).1;
    crl = λ name plain same. ends-otherwise uri (crl_uri site name id) 114 108 (ap last_byte e ∙ laws.ends_certificate site n key) same (laws.ends_crl site name id) refl;
    manifest = λ name plain same. ends-otherwise uri (manifest_uri site name id) 114 116 (ap last_byte e ∙ laws.ends_certificate site n key) same (laws.ends_manifest site name id) refl;
  }
  elsewhere-key n key is fine other (inr (inl e)) = record {
    certificate = λ name plain same. ends-otherwise uri (cert_uri site name id) 108 114 (ap last_byte e ∙ laws.ends_crl site n key) same (laws.ends_certificate site name id) refl;
    crl = λ name plain same. other (laws.crls site n name key id is plain fine fits (sym e ∙ same)).1;
    manifest = λ name plain same. ends-otherwise uri (manifest_uri site name id) 108 116 (ap last_byte e ∙ laws.ends_crl site n key) same (laws.ends_manifest site name id) refl;
  }
  elsewhere-key n key is fine other (inr (inr e)) = record {
    certificate = λ name plain same. ends-otherwise uri (cert_uri site name id) 116 114 (ap last_byte e ∙ laws.ends_manifest site n key) same (laws.ends_certificate site name id) refl;
    crl = λ name plain same. ends-otherwise uri (crl_uri site name id) 116 108 (ap last_byte e ∙ laws.ends_manifest site n key) same (laws.ends_crl site name id) refl;
    manifest = λ name plain same. other (laws.manifests site n name key id is plain fine fits (sym e ∙ same)).1;
  }

-- ---- the set

-- The walk's law: each visit of a sound set is accepted.
abbrev pub IsWalkLaw : Type 0
IsWalkLaw = (s : WalkContext) (objects : List Object) (visits : List Visit) → IsSoundBy s objects visits → AreAccepted s (content_at objects) visits

passes : (visits : List Visit) (objects : List Object) (object : Object) → list_all (is_visited visits) objects ≡ true → In object objects → is_visited visits object ≡ true
passes visits [] object e at = absurd at
passes visits (o ∷ objects) object e (inl same) = subst (λ (k : Object). is_visited visits k ≡ true) same (and_parts (is_visited visits o) (list_all (is_visited visits) objects) e).0
passes visits (o ∷ objects) object e (inr at) = passes visits objects object (and_parts (is_visited visits o) (list_all (is_visited visits) objects) e).1 at

module _ (laws : AreUriLaws) (walk-law : IsWalkLaw) (s : WalkContext) (objects : List Object) (visits : List Visit) (sound : IsSoundBy s objects visits)
    (rows : List KeyRow) (agreed : first_mismatch rows (points (content_at objects) visits) ≡ None) where
  -- The key of each authority that is visited is live.
  key-lives : (a : Authority) → Contains visits (Certificate a) → (row : KeyRow) × In row rows × (id_of row ≡ key_id a.cert)
  key-lives a at =
      let has = each-has-point s (content_at objects) visits sound.walk a at in
      let among = point-among (content_at objects) visits has.point (contains-in (Published has.point) visits has.known) in
      let w = row-of-point rows (points (content_at objects) visits) agreed (point_value (content_at objects) has.point) among in
      (w.0, w.1, ap sha1 w.2 ∙ ap (λ (b : Authority). key_id b.cert) has.above)

  place-there : (object : Object) → In object objects → IsPlace s.bases visits object.uri
  place-there object at =
      let w = in-any (λ (other : List ℕ). bytes_eq other object.uri) (visited visits) (passes visits objects object sound.all at) in
      let v = flat-map-in uris_of w.0 visits w.1 in
      subst (λ (u : List ℕ). IsPlace s.bases visits u) ((bytes_eq-Decides w.0 object.uri).0 w.2)
      (place-of s (content_at objects) visits (walk-law s objects visits sound) v.0 w.0 (in-contains v.0 visits v.1) (in-contains w.0 (uris_of v.0) v.2))

  elsewhere : (id : List ℕ) → AreBytes id → All (λ key. id_of key ≢ id) rows → (uri : List ℕ) → IsPlace s.bases visits uri → IsElsewhere s.bases id uri
  elsewhere id fits other uri (inl anchor) = elsewhere-anchor laws s.bases id fits uri anchor
  elsewhere id fits other uri (inr (inl key)) =
      let w = key-lives key.authority key.known in
      elsewhere-key laws s.bases id fits uri key.name (key_id key.authority.cert) key.plain (sha1-bytes key.authority.cert.key)
      (λ same. in-all (λ (row : KeyRow). id_of row ≢ id) w.0 rows other w.1 (w.2 ∙ same)) key.is
  elsewhere id fits other uri (inr (inr route)) = elsewhere-route laws s.bases id fits uri route

  pub clear : (homes : List Home) (issued : List IssuedRow) → AllZip (IsRowFor homes) objects issued → are_staged (map row_value rows) ≡ true → IsClear s.bases rows issued
  clear homes issued zip staged = record {
    places = λ id fits other. all-in (λ (row : IssuedRow). IsElsewhere s.bases id row.uri) issued (λ row at.
        let w = object-of {homes = homes} objects issued zip row at in
        subst (λ (u : List ℕ). IsElsewhere s.bases id u) (sym w.2.uri) (elsewhere id fits other w.0.uri (place-there w.0 w.1)));
    anchor = anchor-alone rows staged;
  }
