-- What it tells of an object that it fits, and of a name that it is no live key's.
use Rattle.std.proofs.Common.{◌≡◌, ℕ, ◌+◌, ◌<◌, arith, Bool, true, false, ◌&&◌, ◌||◌, not, cond, Option, None, Some, List, [], ◌∷◌, inl, inr, refl, sym, ap, ◌∙◌}
use Rattle.std.specs.Prelude.{◌==◌, nat_le, option_map, option_and_then, filter, find}
use Rattle.std.specs.Option.{option_map_or}
use Rattle.std.specs.Str.{bytes_eq}
use Rattle.std.proofs.lemmas.Bool.{false≢true, and_parts, leb-false}
use Rattle.items.specs.laws.AmongLaws.{In, found-in, filter-in}
use Rattle.key_roll.specs.declared.rows.KeyRow.{KeyRow}
use Rattle.key_roll.specs.declared.issued.IssuedRow.{IssuedRow}
use Rattle.key_roll.specs.declared.work.KeyName.{KeyName}
use Rattle.key_roll.specs.declared.work.KeyName.TheVariants.{Live, Fresh}
use Rattle.key_roll.specs.declared.work.CertWork.{CertWork}
use Rattle.key_roll.specs.declared.work.RoaWork.{RoaWork}
use Rattle.key_roll.specs.declared.work.PointWork.{PointWork}
use Rattle.entitle.specs.Certified.{names_of}
use Rattle.key_roll.specs.declared.issued.What.{What}
use Rattle.key_roll.specs.declared.issued.What.TheVariants as whats
use Rattle.pub_set.specs.Objects.{is_same}
use Rattle.pub_set.specs.laws.UriLaws.{same_is}
use Rattle.issue_plan.specs.Keys.{id_of, is_live}
use Rattle.issue_plan.specs.Due.{is_due, margin_of}
use Rattle.issue_plan.specs.Wanted.{PlanInput, Certificate, Roa, Point}
use Rattle.issue_plan.specs.Serves.{is_for, is_point, certifies, authorizes, serves_certificate, serves_roa, serves_point}
use Rattle.issue_plan.specs.Fits.{fits, live_row, row_at, serves_at, stands_first, settled, is_settled, home_of, same_files, has_point, has_one_point}
use Rattle.issue_plan.specs.Fits.{fits_point, certificate_place_by, roa_place_by, crl_place, manifest_place}

-- ---- names of keys that aren't live

pub none-filtered : (p : KeyRow → Bool) (rows : List KeyRow) (name : KeyName) → live_row rows name ≡ None
    → live_row (filter p rows) name ≡ None
none-filtered p rows (Fresh desk) none = refl
none-filtered p [] (Live id) none = refl
none-filtered p (row ∷ rows) (Live id) none =
    by (bytes_eq (id_of row).bytes id.bytes) refl none (λ n. none-filtered p rows (Live id) n)
  where
    kept : (b : Bool) → bytes_eq (id_of row).bytes id.bytes ≡ false → live_row (filter p rows) (Live id) ≡ None
        → live_row (cond b (row ∷ filter p rows) (filter p rows)) (Live id) ≡ None
    kept true e rest = ap (λ t. cond t (Some row) (live_row (filter p rows) (Live id))) e ∙ rest
    kept false e rest = rest

    by : (b : Bool) → bytes_eq (id_of row).bytes id.bytes ≡ b
        → cond b (Some row) (live_row rows (Live id)) ≡ None
        → (live_row rows (Live id) ≡ None → live_row (filter p rows) (Live id) ≡ None)
        → live_row (filter p (row ∷ rows)) (Live id) ≡ None
    by true e n rest = absurd cc
    by false e n rest = kept (p row) e (rest n)

module _ (plan_input : PlanInput) where
  abbrev rows : List KeyRow
  rows = plan_input.basis.rows

  abbrev keys-place : KeyRow → KeyRow → List ℕ
  keys-place issuer subject =
      certificate_place_by plan_input.site (names_of plan_input.basis.configs) issuer.desk (id_of issuer) (id_of subject)

  abbrev roas-place : RoaWork → KeyRow → List ℕ
  roas-place roa issuer =
      roa_place_by plan_input.site (names_of plan_input.basis.configs) issuer.desk roa.origin

  abbrev keys-at : Option KeyRow → Option KeyRow → Option (List ℕ)
  keys-at issuer subject = option_and_then (λ i. option_map (λ s. keys-place i s) subject) issuer

  abbrev serves-first : CertWork → IssuedRow → Bool
  serves-first cert row =
      serves_certificate plan_input.basis.moment cert row && stands_first plan_input.issued cert.subject row.uri

  -- What names a key that isn't live fits nothing.
  pub unborn-subject : (cert : CertWork) → live_row rows cert.subject ≡ None
      → fits plan_input (Certificate cert) ≡ false
  unborn-subject cert none =
      ap (λ (s : Option KeyRow). serves_at plan_input (serves-first cert)
      (keys-at (live_row (settled plan_input) cert.issuer) s)) none
      ∙ nowhere (live_row (settled plan_input) cert.issuer)
    where
      nowhere : (issuer : Option KeyRow) → serves_at plan_input (serves-first cert) (keys-at issuer None) ≡ false
      nowhere None = refl
      nowhere (Some issuer) = refl

  pub unborn-issuer : (cert : CertWork) → live_row rows cert.issuer ≡ None
      → fits plan_input (Certificate cert) ≡ false
  unborn-issuer cert none =
      ap (λ (i : Option KeyRow). serves_at plan_input (serves-first cert) (keys-at i (live_row rows cert.subject)))
      (none-filtered (is_settled plan_input) rows cert.issuer none)

  pub unborn-roa : (roa : RoaWork) → live_row rows roa.issuer ≡ None → fits plan_input (Roa roa) ≡ false
  unborn-roa roa none =
      ap (λ (i : Option KeyRow). serves_at plan_input (serves_roa plan_input.basis.moment roa)
      (option_map (λ issuer. roas-place roa issuer) i))
      (none-filtered (is_settled plan_input) rows roa.issuer none)

  pub unborn-point : (point : PointWork) → live_row rows point.key ≡ None → fits plan_input (Point point) ≡ false
  unborn-point point none =
      ap (λ (k : Option KeyRow). option_map_or (fits_point plan_input) k false)
      (none-filtered (is_settled plan_input) rows point.key none)

  -- ---- what serves

  pub record Stands (serves : IssuedRow → Bool) (uri : List ℕ) : Type 0 where
    pub row : IssuedRow
    pub at : row_at plan_input.issued uri ≡ Some row
    pub served : serves row ≡ true

  pub served : (serves : IssuedRow → Bool) (uri : List ℕ) → serves_at plan_input serves (Some uri) ≡ true
      → Stands serves uri
  served serves uri so = by (row_at plan_input.issued uri) refl so
    where
      by : (o : Option IssuedRow) → row_at plan_input.issued uri ≡ o → option_map_or serves o false ≡ true
          → Stands serves uri
      by None e so = absurd (false≢true so)
      by (Some row) e so = record { row = row; at = e; served = so }

  -- ---- what fits

  pub record CertificateFits (cert : CertWork) : Type 0 where
    pub issuer : KeyRow
    pub subject : KeyRow
    pub named : live_row (settled plan_input) cert.issuer ≡ Some issuer
    pub live : live_row rows cert.subject ≡ Some subject
    pub stands : Stands (serves-first cert) (keys-place issuer subject)

  pub certificate-fits : (cert : CertWork) → fits plan_input (Certificate cert) ≡ true → CertificateFits cert
  certificate-fits cert fit =
      by (live_row (settled plan_input) cert.issuer) (live_row rows cert.subject) refl refl fit
    where
      by : (i s : Option KeyRow) → live_row (settled plan_input) cert.issuer ≡ i → live_row rows cert.subject ≡ s
          → serves_at plan_input (serves-first cert) (keys-at i s) ≡ true → CertificateFits cert
      by None s ei es so = absurd (false≢true so)
      by (Some i) None ei es so = absurd (false≢true so)
      by (Some i) (Some s) ei es so =
          record { issuer = i; subject = s; named = ei; live = es; stands = served (serves-first cert) (keys-place i s) so }

  pub record RoaFits (roa : RoaWork) : Type 0 where
    pub issuer : KeyRow
    pub named : live_row (settled plan_input) roa.issuer ≡ Some issuer
    pub stands : Stands (serves_roa plan_input.basis.moment roa) (roas-place roa issuer)

  pub roa-fits : (roa : RoaWork) → fits plan_input (Roa roa) ≡ true → RoaFits roa
  roa-fits roa fit = by (live_row (settled plan_input) roa.issuer) refl fit
    where
      by : (i : Option KeyRow) → live_row (settled plan_input) roa.issuer ≡ i
          → serves_at plan_input (serves_roa plan_input.basis.moment roa) (option_map (λ issuer. roas-place roa issuer) i) ≡ true
          → RoaFits roa
      by None e so = absurd (false≢true so)
      by (Some i) e so =
          record { issuer = i; named = e; stands = served (serves_roa plan_input.basis.moment roa) (roas-place roa i) so }

  pub record PointFits (point : PointWork) : Type 0 where
    pub key : KeyRow
    pub named : live_row (settled plan_input) point.key ≡ Some key
    pub below : not (key.desk == 0) ≡ true
    pub same : same_files plan_input key ≡ true
    pub one : has_one_point plan_input.issued (id_of key) (crl_place plan_input key) (manifest_place plan_input key) ≡ true
    pub crl : Stands (serves_point plan_input.basis.moment (Live (id_of key))) (crl_place plan_input key)
    pub manifest : Stands (serves_point plan_input.basis.moment (Live (id_of key))) (manifest_place plan_input key)

  pub point-fits : (point : PointWork) → fits plan_input (Point point) ≡ true → PointFits point
  point-fits point fit = by (live_row (settled plan_input) point.key) refl fit
    where
      by : (k : Option KeyRow) → live_row (settled plan_input) point.key ≡ k
          → option_map_or (fits_point plan_input) k false ≡ true → PointFits point
      by None e so = absurd (false≢true so)
      by (Some key) e so =
          let serves = serves_point plan_input.basis.moment (Live (id_of key)) in
          let one : Bool = has_one_point plan_input.issued (id_of key) (crl_place plan_input key) (manifest_place plan_input key) in
          let crl : Bool = serves_at plan_input serves (Some (crl_place plan_input key)) in
          let manifest : Bool = serves_at plan_input serves (Some (manifest_place plan_input key)) in
          let parts = and_parts (not (key.desk == 0) && same_files plan_input key) (has_point plan_input key) so in
          let first = and_parts (not (key.desk == 0)) (same_files plan_input key) parts.0 in
          let all = and_parts (one && crl) manifest parts.1 in
          let both = and_parts one crl all.0 in
          record {
            key = key;
            named = e;
            below = first.0;
            same = first.1;
            one = both.0;
            crl = served serves (crl_place plan_input key) both.1;
            manifest = served serves (manifest_place plan_input key) all.1;
          }

  -- ---- keys that are settled

  -- The key's certificate is the first one of it that stands, at the place where it is wanted.
  pub record HasHome (key : KeyRow) : Type 0 where
    pub place : List ℕ
    pub wanted : home_of plan_input key ≡ Some place
    pub row : IssuedRow
    pub first : find (λ r. is_for (Live (id_of key)) r.what) plan_input.issued ≡ Some row
    pub at : bytes_eq row.uri place ≡ true

  pub home : (key : KeyRow) → is_settled plan_input key ≡ true → (key.desk == 0) ≡ false → HasHome key
  home key so below = by (home_of plan_input key) refl (sym (ap (λ b. b || own (home_of plan_input key)) below) ∙ so)
    where
      own : Option (List ℕ) → Bool
      own place = option_map_or (stands_first plan_input.issued (Live (id_of key))) place false

      found : (place : List ℕ) → home_of plan_input key ≡ Some place → (o : Option IssuedRow)
          → find (λ r. is_for (Live (id_of key)) r.what) plan_input.issued ≡ o
          → option_map_or (λ r. bytes_eq r.uri place) o false ≡ true → HasHome key
      found place e None f so = absurd (false≢true so)
      found place e (Some row) f so = record { place = place; wanted = e; row = row; first = f; at = so }

      by : (o : Option (List ℕ)) → home_of plan_input key ≡ o
          → option_map_or (stands_first plan_input.issued (Live (id_of key))) o false ≡ true → HasHome key
      by None e so = absurd (false≢true so)
      by (Some place) e so =
          found place e (find (λ r. is_for (Live (id_of key)) r.what) plan_input.issued) refl so

  -- A live key by its name, settled.
  pub settled-live : (name : KeyName) (key : KeyRow) → live_row (settled plan_input) name ≡ Some key
      → In key rows × (is_settled plan_input key ≡ true)
  settled-live (Live id) key e =
      let f = found-in (λ (row : KeyRow). bytes_eq (id_of row).bytes id.bytes) (settled plan_input) key e in
      filter-in (is_settled plan_input) key rows f.0
  settled-live (Fresh desk) key e = absurd cc

-- ---- what serves tells

-- What stands at a place is among what stands, and has that URI.
pub found-row : (issued : List IssuedRow) (uri : List ℕ) (row : IssuedRow) → row_at issued uri ≡ Some row
    → In row issued × (row.uri ≡ uri)
found-row [] uri row e = absurd cc
found-row (r ∷ issued) uri row e = by (is_same r.uri uri) refl e (found-row issued uri row)
  where
    by : (b : Bool) → is_same r.uri uri ≡ b → cond b (Some r) (row_at issued uri) ≡ Some row
        → (row_at issued uri ≡ Some row → In row issued × (row.uri ≡ uri))
        → In row (r ∷ issued) × (row.uri ≡ uri)
    by true s e rest =
        let one : r ≡ row = cc in
        (inl one, sym (ap (λ (x : IssuedRow). x.uri) one) ∙ same_is r.uri uri s)
    by false s e rest = let h = rest e in (inr h.0, h.1)

-- What isn't due ends later.
pub undue : (moment : ℕ) (row : IssuedRow) → not (is_due moment row) ≡ true → moment < row.not_after
undue moment row so =
    by (nat_le row.not_after (moment + margin_of row.what)) refl so
  where
    by : (b : Bool) → nat_le row.not_after (moment + margin_of row.what) ≡ b → not b ≡ true → moment < row.not_after
    by true e so = absurd (false≢true so)
    by false e so =
        let more : moment + margin_of row.what < row.not_after =
        leb-false row.not_after (moment + margin_of row.what) e in
        omega (arith, more)

pub certificate-serves : (moment : ℕ) (cert : CertWork) (row : IssuedRow) → serves_certificate moment cert row ≡ true
    → (is_live row.issuer cert.issuer ≡ true) × (certifies cert row.what ≡ true) × (moment < row.not_after)
certificate-serves moment cert row so =
    let last = and_parts (is_live row.issuer cert.issuer && certifies cert row.what) (not (is_due moment row)) so in
    let first = and_parts (is_live row.issuer cert.issuer) (certifies cert row.what) last.0 in
    (first.0, first.1, undue moment row last.1)

pub roa-serves : (moment : ℕ) (roa : RoaWork) (row : IssuedRow) → serves_roa moment roa row ≡ true
    → (is_live row.issuer roa.issuer ≡ true) × (authorizes roa row.what ≡ true) × (moment < row.not_after)
roa-serves moment roa row so =
    let last = and_parts (is_live row.issuer roa.issuer && authorizes roa row.what) (not (is_due moment row)) so in
    let first = and_parts (is_live row.issuer roa.issuer) (authorizes roa row.what) last.0 in
    (first.0, first.1, undue moment row last.1)

pub point-serves : (moment : ℕ) (key : KeyName) (row : IssuedRow) → serves_point moment key row ≡ true
    → (is_live row.issuer key ≡ true) × (row.what ≡ whats.Point) × (moment < row.not_after)
point-serves moment key row so =
    let last = and_parts (is_live row.issuer key && is_point row.what) (not (is_due moment row)) so in
    let first = and_parts (is_live row.issuer key) (is_point row.what) last.0 in
    (first.0, by row.what refl first.1, undue moment row last.1)
  where
    by : (what : What) → row.what ≡ what → is_point what ≡ true → row.what ≡ whats.Point
    by (whats.Authority k held) e p = absurd (false≢true p)
    by (whats.Route origin) e p = absurd (false≢true p)
    by whats.Point e p = e
