-- What an edition makes of all that it wants: what doesn't fit. The rest stands.
use Rattle.std.proofs.Common.{◌≡◌, ◌≢◌, Bool, true, false, not, cond, Option, None, Some, List, [], ◌∷◌, ◌++◌, map, filter, refl, sym, ap, subst, ◌∙◌, ◌⊎◌, inl, inr}
use Rattle.std.specs.Prelude.{codes}
use Rattle.std.specs.List.{filter_map, cons_option}
use Rattle.std.proofs.lemmas.Bool.{false≢true}
use Rattle.std.proofs.lemmas.Option.{same_Some}
use Rattle.hex.specs.Hex.{encode_lower}
use Rattle.key_ids.specs.Uris.{anchor_uri, cert_uri, crl_uri, manifest_uri}
use Rattle.origins.specs.Origin.{origin_text}
use Rattle.key_roll.specs.declared.rows.KeyRow.{KeyRow}
use Rattle.key_roll.specs.declared.work.CertWork.{CertWork}
use Rattle.key_roll.specs.declared.work.RoaWork.{RoaWork}
use Rattle.key_roll.specs.declared.work.PointWork.{PointWork}
use Rattle.issue_plan.specs.declared.keys.NextKey.{NextKey}
use Rattle.issue_plan.specs.Keys.{kept}
use Rattle.issue_plan.specs.Wanted.{PlanInput, point_of}
use Rattle.issue_values.specs.Publishers.{roa_uri}
use Rattle.issue_keys.specs.Keys.{id_of}
use Rattle.issue_drafts.specs.WorkKeys.{Keys, key_named}
use Rattle.issue_drafts.specs.IssueInput.{IssueInput}
use Rattle.issue_drafts.specs.Publishers.{is_key, name_at, made_uri}
use Rattle.issue_drafts.specs.Drafts.{Draft, certificate_draft, roa_draft, crl_draft, manifest_draft, drafts, manifests}
use Rattle.issue_drafts.specs.Drafts.Kind.{Roa, Crl, Manifest}
use Rattle.issue_drafts.specs.Files.{folder_at, IsListable}
use Rattle.editions.specs.Wanted.{there, whole, anew, all_certificates, all_roas, all_points, all_objects, new_certificates, new_roas, new_points, keeps_certificate, keeps_roa, keeps_point}
use Rattle.items.specs.laws.AmongLaws.{In, in-front, in-behind, in-parts, in-map, map-in, in-filter, filter-in, in-filter-map, filter-map-in, contains-in, in-contains}
use Rattle.editions.proofs.ObjectLemmas.Fitting.{IsKept, kept-certificate, kept-roa, kept-crl, kept-manifest}
use Rattle.editions.proofs.ObjectLemmas.Kept.{IsOver}
use Rattle.editions.proofs.ObjectLemmas.ByWork.{point-there}
use Rattle.editions.proofs.ObjectLemmas.Named.{key-named, same-named, cert-draft, mapped-draft}
use Rattle.editions.proofs.ObjectLemmas.Standing.{keeps-same}
use Rattle.editions.proofs.PlanLemmas.FileNames.{key-name, origin-name, in-folder}
use Rattle.editions.proofs.PlanLemmas.Pairs.{Twos, twos-append, given-map}

-- ---- parts of lists

-- What is given of those that pass is given of all.
pub part-in : {X Y : Type 0} (f : X → Option Y) (p : X → Bool) (xs : List X) (y : Y)
    → In y (filter_map f (filter p xs)) → In y (filter_map f xs)
part-in f p xs y at =
    let w = filter-map-in f y (filter p xs) at in
    in-filter-map f w.0 y xs w.2 (filter-in p w.0 xs w.1).0

twos-part : {X Y : Type 0} (f : X → Option Y) (p : X → Bool) (S : Y → Y → Type 0) (xs : List X)
    → Twos S (filter_map f xs) → Twos S (filter_map f (filter p xs))
twos-part f p S [] twos = tt
twos-part {X} {Y} f p S (x ∷ xs) twos = by (p x) (f x) refl twos (twos-part f p S xs)
  where
    by : (b : Bool) (o : Option Y) → f x ≡ o → Twos S (cons_option o (filter_map f xs))
        → (Twos S (filter_map f xs) → Twos S (filter_map f (filter p xs)))
        → Twos S (filter_map f (cond b (x ∷ filter p xs) (filter p xs)))
    by false None e rest more = more rest
    by false (Some y) e rest more = more rest.1
    by true None e rest more =
        subst (λ (o : Option Y). Twos S (cons_option o (filter_map f (filter p xs)))) (sym e) (more rest)
    by true (Some y) e rest more =
        subst (λ (o : Option Y). Twos S (cons_option o (filter_map f (filter p xs)))) (sym e)
        ((λ z at. rest.0 z (part-in f p xs z at)), more rest.1)

-- Where each two are apart, what is given of one that passes is apart from what is given of one that doesn't.
pub part-apart : {X Y Z : Type 0} (f : X → Option Y) (p : X → Bool) (at : Y → Z) (xs : List X)
    → Twos (λ a b. at a ≢ at b) (filter_map f xs) → (y : Y) → In y (filter_map f (filter p xs))
    → (x : X) (z : Y) → In x xs → p x ≡ false → f x ≡ Some z → at y ≢ at z
part-apart f p at [] twos y inside x z among passes is = absurd among
part-apart {X} {Y} f p at (w ∷ xs) twos y inside x z among passes is =
    by (p w) (f w) refl refl twos inside among
    (λ apart here later. part-apart f p at xs apart y here x z later passes is)
  where
    by : (b : Bool) (o : Option Y) → p w ≡ b → f w ≡ o → Twos (λ a b. at a ≢ at b) (cons_option o (filter_map f xs))
        → In y (filter_map f (cond b (w ∷ filter p xs) (filter p xs))) → (w ≡ x) ⊎ In x xs
        → (Twos (λ a b. at a ≢ at b) (filter_map f xs) → In y (filter_map f (filter p xs)) → In x xs → at y ≢ at z)
        → at y ≢ at z
    by false None e g t h (inl same) more =
        let no : None ≡ Some z = sym g ∙ (ap f same ∙ is) in
        absurd cc
    by false (Some a) e g t h (inl same) more =
        let one : a ≡ z = same_Some a z (sym g ∙ (ap f same ∙ is)) in
        λ equal. t.0 y (part-in f p xs y h) (ap at one ∙ sym equal)
    by false None e g t h (inr later) more = more t h later
    by false (Some a) e g t h (inr later) more = more t.1 h later
    by true o e g t h (inl same) more = absurd (false≢true (sym passes ∙ (ap p (sym same) ∙ e)))
    by true None e g t h (inr later) more =
        more t (subst (λ (o : Option Y). In y (cons_option o (filter_map f (filter p xs)))) g h) later
    by true (Some a) e g t h (inr later) more =
        first (subst (λ (o : Option Y). In y (cons_option o (filter_map f (filter p xs)))) g h)
      where
        first : (a ≡ y) ⊎ In y (filter_map f (filter p xs)) → at y ≢ at z
        first (inl same) = λ equal. t.0 z (in-filter-map f x z xs is later) (ap at same ∙ equal)
        first (inr rest) = more t.1 rest later

-- Each two of two lists one behind the other.
pub record AreParted {X : Type 0} (R : X → X → Type 0) (xs ys : List X) : Type 0 where
  pub first : Twos R xs
  pub second : Twos R ys
  pub between : (x y : X) → In x xs → In y ys → R x y

pub twos-parted : {X : Type 0} (R : X → X → Type 0) (xs ys : List X) → Twos R (xs ++ ys) → AreParted R xs ys
twos-parted R [] ys twos = record { first = tt; second = twos; between = λ x y at there. absurd at }
twos-parted {X} R (x ∷ xs) ys twos =
    let rest = twos-parted R xs ys twos.1 in
    record {
      first = ((λ y at. twos.0 y (in-front y xs ys at)), rest.first);
      second = rest.second;
      between = λ z y at there. by z y at there rest.between;
    }
  where
    by : (z y : X) → In z (x ∷ xs) → In y ys → ((a b : X) → In a xs → In b ys → R a b) → R z y
    by z y (inl same) there rest = subst (λ (w : X). R w y) same (twos.0 y (in-behind y xs ys there))
    by z y (inr later) there rest = rest z y later there

module _ (plan_input : PlanInput) (ks : List KeyRow) where
  abbrev s : IssueInput
  s = whole plan_input ks

  abbrev keys : Keys
  keys = there ks

  abbrev certs : List Draft
  certs = filter_map (certificate_draft s keys) (all_certificates plan_input ks)

  abbrev roas : List Draft
  roas = filter_map (roa_draft s keys) (all_roas plan_input ks)

  abbrev crls : List Draft
  crls = filter_map (crl_draft s keys) (all_points ks)

  abbrev lists : List Draft
  lists = filter_map (manifest_draft s keys) (all_points ks)

  abbrev part_certs : List Draft
  part_certs = filter_map (certificate_draft s keys) (new_certificates plan_input ks)

  abbrev part_roas : List Draft
  part_roas = filter_map (roa_draft s keys) (new_roas plan_input ks)

  abbrev part_crls : List Draft
  part_crls = filter_map (crl_draft s keys) (new_points plan_input ks)

  abbrev part_lists : List Draft
  part_lists = filter_map (manifest_draft s keys) (new_points plan_input ks)

  -- All that is made.
  abbrev pub new_puts : List Draft
  new_puts = drafts (anew plan_input ks) keys ++ manifests (anew plan_input ks) keys

  abbrev pub IsNewPoint : KeyRow → Bool
  IsNewPoint key = not (keeps_point plan_input ks key)

  -- ---- points

  abbrev point_for : KeyRow → PointWork
  point_for key = point_of (kept key)

  point-key : (point : PointWork) → In point (all_points ks) → (k : KeyRow) × In k ks × (point_for k ≡ point)
  point-key point at =
      let n = map-in point_of point (map kept ks) at in
      let k = map-in kept n.0 ks n.1 in
      (k.0, k.1, ap point_of k.2 ∙ n.2)

  new-key : (point : PointWork) → In point (new_points plan_input ks)
      → (k : KeyRow) × In k ks × (IsNewPoint k ≡ true) × (point_for k ≡ point)
  new-key point at =
      let w = map-in point_for point (filter IsNewPoint ks) at in
      let f = filter-in IsNewPoint w.0 ks w.1 in
      (w.0, f.0, f.1, w.2)

  points-in : (f : PointWork → Option Draft) (d : Draft) → In d (filter_map f (new_points plan_input ks))
      → In d (filter_map f (all_points ks))
  points-in f d at =
      let w = filter-map-in f d (new_points plan_input ks) at in
      let k = new-key w.0 w.1 in
      in-filter-map f w.0 d (all_points ks) w.2
      (subst (λ (point : PointWork). In point (all_points ks)) k.3
      (in-map point_of (kept k.0) (map kept ks) (in-map kept k.0 ks k.1)))

  twos-points : (f : PointWork → Option Draft) (S : Draft → Draft → Type 0) → Twos S (filter_map f (all_points ks))
      → Twos S (filter_map f (new_points plan_input ks))
  twos-points f S twos =
      let same : filter_map f (all_points ks) ≡ filter_map (λ k. f (point_for k)) ks =
      given-map f point_of (map kept ks) ∙ given-map (λ (n : NextKey). f (point_of n)) kept ks in
      subst (Twos S) (sym (given-map f point_for (filter IsNewPoint ks)))
      (twos-part (λ (k : KeyRow). f (point_for k)) IsNewPoint S ks (subst (Twos S) same twos))

  -- ---- what is made is wanted

  cert-in : (d : Draft) → In d part_certs → In d certs
  cert-in d at =
      part-in (certificate_draft s keys) (λ cert. not (keeps_certificate plan_input ks cert)) (all_certificates plan_input ks) d at

  roa-in : (d : Draft) → In d part_roas → In d roas
  roa-in d at = part-in (roa_draft s keys) (λ roa. not (keeps_roa plan_input ks roa)) (all_roas plan_input ks) d at

  first-in : (d : Draft) → In d part_certs ⊎ In d part_roas → In d (certs ++ roas)
  first-in d (inl c) = in-front d certs roas (cert-in d c)
  first-in d (inr c) = in-behind d certs roas (roa-in d c)

  second-in : (d : Draft) → In d (part_certs ++ part_roas) ⊎ In d part_crls → In d ((certs ++ roas) ++ crls)
  second-in d (inl c) = in-front d (certs ++ roas) crls (first-in d (in-parts d part_certs part_roas c))
  second-in d (inr c) = in-behind d (certs ++ roas) crls (points-in (crl_draft s keys) d c)

  pub front-new : (d : Draft) → In d (drafts (anew plan_input ks) keys) → In d (drafts s keys)
  front-new d at = second-in d (in-parts d (part_certs ++ part_roas) part_crls at)

  pub new-in : (d : Draft) → In d new_puts → In d (all_objects plan_input ks)
  new-in d at = by (in-parts d ((part_certs ++ part_roas) ++ part_crls) part_lists at)
    where
      by : In d ((part_certs ++ part_roas) ++ part_crls) ⊎ In d part_lists → In d (all_objects plan_input ks)
      by (inl c) = in-front d ((certs ++ roas) ++ crls) lists (second-in d (in-parts d (part_certs ++ part_roas) part_crls c))
      by (inr c) = in-behind d ((certs ++ roas) ++ crls) lists (points-in (manifest_draft s keys) d c)

  pub new-twos : (S : Draft → Draft → Type 0) → Twos S (all_objects plan_input ks) → Twos S new_puts
  new-twos S twos =
      let p = twos-parted S ((certs ++ roas) ++ crls) lists twos in
      let q = twos-parted S (certs ++ roas) crls p.first in
      let r = twos-parted S certs roas q.first in
      twos-append S ((part_certs ++ part_roas) ++ part_crls) part_lists
      (twos-append S (part_certs ++ part_roas) part_crls
      (twos-append S part_certs part_roas
      (twos-part (certificate_draft s keys) (λ cert. not (keeps_certificate plan_input ks cert)) S (all_certificates plan_input ks) r.first)
      (twos-part (roa_draft s keys) (λ roa. not (keeps_roa plan_input ks roa)) S (all_roas plan_input ks) r.second)
      (λ a b c d. r.between a b (cert-in a c) (roa-in b d)))
      (twos-points (crl_draft s keys) S q.second)
      (λ a b c d. q.between a b (first-in a (in-parts a part_certs part_roas c)) (points-in (crl_draft s keys) b d)))
      (twos-points (manifest_draft s keys) S p.second)
      (λ a b c d. p.between a b (second-in a (in-parts a (part_certs ++ part_roas) part_crls c)) (points-in (manifest_draft s keys) b d))

  -- ---- what is made by its works

  pub cert-new : (cert : CertWork) (d : Draft) → In cert (all_certificates plan_input ks)
      → keeps_certificate plan_input ks cert ≡ false → certificate_draft s keys cert ≡ Some d → In d new_puts
  cert-new cert d at keeps is =
      in-front d ((part_certs ++ part_roas) ++ part_crls) part_lists (in-front d (part_certs ++ part_roas) part_crls
      (in-front d part_certs part_roas
      (in-filter-map (certificate_draft s keys) cert d (new_certificates plan_input ks) is
      (in-filter (λ c. not (keeps_certificate plan_input ks c)) cert (all_certificates plan_input ks) (ap not keeps) at))))

  pub roa-new : (roa : RoaWork) (d : Draft) → In roa (all_roas plan_input ks)
      → keeps_roa plan_input ks roa ≡ false → roa_draft s keys roa ≡ Some d → In d new_puts
  roa-new roa d at keeps is =
      in-front d ((part_certs ++ part_roas) ++ part_crls) part_lists (in-front d (part_certs ++ part_roas) part_crls
      (in-behind d part_certs part_roas
      (in-filter-map (roa_draft s keys) roa d (new_roas plan_input ks) is
      (in-filter (λ r. not (keeps_roa plan_input ks r)) roa (all_roas plan_input ks) (ap not keeps) at))))

  point-new : (f : PointWork → Option Draft) (k : KeyRow) (d : Draft) → In k ks → keeps_point plan_input ks k ≡ false
      → f (point_for k) ≡ Some d → In d (filter_map f (new_points plan_input ks))
  point-new f k d at keeps is =
      in-filter-map f (point_for k) d (new_points plan_input ks) is
      (in-map point_for k (filter IsNewPoint ks) (in-filter IsNewPoint k ks (ap not keeps) at))

  pub crl-new : (k : KeyRow) (d : Draft) → In k ks → keeps_point plan_input ks k ≡ false
      → crl_draft s keys (point_for k) ≡ Some d → In d new_puts
  crl-new k d at keeps is =
      in-front d ((part_certs ++ part_roas) ++ part_crls) part_lists (in-behind d (part_certs ++ part_roas) part_crls
      (point-new (crl_draft s keys) k d at keeps is))

  pub list-part : (k : KeyRow) (d : Draft) → In k ks → keeps_point plan_input ks k ≡ false
      → manifest_draft s keys (point_for k) ≡ Some d → In d (manifests (anew plan_input ks) keys)
  list-part k d at keeps is = point-new (manifest_draft s keys) k d at keeps is

  pub list-new : (k : KeyRow) (d : Draft) → In k ks → keeps_point plan_input ks k ≡ false
      → manifest_draft s keys (point_for k) ≡ Some d → In d new_puts
  list-new k d at keeps is =
      in-behind d ((part_certs ++ part_roas) ++ part_crls) part_lists (point-new (manifest_draft s keys) k d at keeps is)

  -- The work that an object is wanted by.
  abbrev pub IsCertificate : Draft → Type 0
  IsCertificate d = (cert : CertWork) × In cert (all_certificates plan_input ks) × (certificate_draft s keys cert ≡ Some d)

  abbrev pub IsRoa : Draft → Type 0
  IsRoa d = (roa : RoaWork) × In roa (all_roas plan_input ks) × (roa_draft s keys roa ≡ Some d)

  abbrev pub IsCrl : Draft → Type 0
  IsCrl d = (k : KeyRow) × In k ks × (crl_draft s keys (point_for k) ≡ Some d)

  abbrev pub IsList : Draft → Type 0
  IsList d = (k : KeyRow) × In k ks × (manifest_draft s keys (point_for k) ≡ Some d)

  abbrev pub IsOfWork : Draft → Type 0
  IsOfWork d = (IsCertificate d ⊎ IsRoa d) ⊎ (IsCrl d ⊎ IsList d)

  of-point : (f : PointWork → Option Draft) (d : Draft) → In d (filter_map f (all_points ks))
      → (k : KeyRow) × In k ks × (f (point_for k) ≡ Some d)
  of-point f d at =
      let w = filter-map-in f d (all_points ks) at in
      let k = point-key w.0 w.1 in
      (k.0, k.1, ap f k.2 ∙ w.2)

  pub of-work : (d : Draft) → In d (all_objects plan_input ks) → IsOfWork d
  of-work d at = by (in-parts d ((certs ++ roas) ++ crls) lists at)
    where
      first : In d certs ⊎ In d roas → IsOfWork d
      first (inl c) = inl (inl (filter-map-in (certificate_draft s keys) d (all_certificates plan_input ks) c))
      first (inr c) = inl (inr (filter-map-in (roa_draft s keys) d (all_roas plan_input ks) c))

      second : In d (certs ++ roas) ⊎ In d crls → IsOfWork d
      second (inl c) = first (in-parts d certs roas c)
      second (inr c) = inr (inl (of-point (crl_draft s keys) d c))

      by : In d ((certs ++ roas) ++ crls) ⊎ In d lists → IsOfWork d
      by (inl c) = second (in-parts d (certs ++ roas) crls c)
      by (inr c) = inr (inr (of-point (manifest_draft s keys) d c))

  -- The manifest of a key that gets one.
  pub list-made : (d : Draft) → In d (manifests s keys) → (key : KeyRow) → id_of d.issuer ≡ id_of key
      → keeps_point plan_input ks key ≡ false → In d new_puts
  list-made d at key ids isnt =
      let w = of-point (manifest_draft s keys) d at in
      let make : KeyRow → Draft = λ issuer. record {
        uri = manifest_uri s.site (name_at s.names issuer.desk) (id_of issuer);
        issuer = issuer;
        kind = Manifest;
      } in
      let c = mapped-draft make (key_named keys (kept w.0).name) d w.2 in
      let same : id_of w.0 ≡ id_of key =
      sym (same-named ks w.0 c.0 c.1) ∙ (ap (λ (x : Draft). id_of x.issuer) c.2 ∙ ids) in
      list-new w.0 d w.1 (keeps-same plan_input ks w.0 key same ∙ isnt) w.2

  -- ---- what is kept is at no place where something is made

  abbrev AreAway : Draft → Draft → Type 0
  AreAway a b = a.uri ≢ b.uri

  module _ (twos : Twos AreAway (all_objects plan_input ks)) where
    all_parted : AreParted AreAway ((certs ++ roas) ++ crls) lists
    all_parted = twos-parted AreAway ((certs ++ roas) ++ crls) lists twos

    with_crls : AreParted AreAway (certs ++ roas) crls
    with_crls = twos-parted AreAway (certs ++ roas) crls all_parted.first

    with_roas : AreParted AreAway certs roas
    with_roas = twos-parted AreAway certs roas with_crls.first

    abbrev IsAway : Draft → Type 0
    IsAway d = (e : Draft) → In e new_puts → e.uri ≢ d.uri

    -- What is made and no manifest is made before them.
    pub front-in : (d : Draft) → In d (drafts s keys) → In d new_puts → In d (drafts (anew plan_input ks) keys)
    front-in d front at = by (in-parts d ((part_certs ++ part_roas) ++ part_crls) part_lists at)
      where
        by : In d ((part_certs ++ part_roas) ++ part_crls) ⊎ In d part_lists → In d (drafts (anew plan_input ks) keys)
        by (inl c) = c
        by (inr c) = absurd (all_parted.between d d front (points-in (manifest_draft s keys) d c) refl)

    -- From what is made of each kind.
    from-each : (d : Draft) → ((e : Draft) → In e part_certs → e.uri ≢ d.uri) → ((e : Draft) → In e part_roas → e.uri ≢ d.uri)
        → ((e : Draft) → In e part_crls → e.uri ≢ d.uri) → ((e : Draft) → In e part_lists → e.uri ≢ d.uri) → IsAway d
    from-each d of_cert of_roa of_crl of_list e at = by (in-parts e ((part_certs ++ part_roas) ++ part_crls) part_lists at)
      where
        first : In e part_certs ⊎ In e part_roas → e.uri ≢ d.uri
        first (inl c) = of_cert e c
        first (inr c) = of_roa e c

        second : In e (part_certs ++ part_roas) ⊎ In e part_crls → e.uri ≢ d.uri
        second (inl c) = first (in-parts e part_certs part_roas c)
        second (inr c) = of_crl e c

        by : In e ((part_certs ++ part_roas) ++ part_crls) ⊎ In e part_lists → e.uri ≢ d.uri
        by (inl c) = second (in-parts e (part_certs ++ part_roas) part_crls c)
        by (inr c) = of_list e c

    pub cert-away : (cert : CertWork) (d : Draft) → In cert (all_certificates plan_input ks)
        → keeps_certificate plan_input ks cert ≡ true → certificate_draft s keys cert ≡ Some d → IsAway d
    cert-away cert d at keeps is =
        let here : In d certs = in-filter-map (certificate_draft s keys) cert d (all_certificates plan_input ks) is at in
        from-each d
        (λ e c. part-apart (certificate_draft s keys) (λ x. not (keeps_certificate plan_input ks x)) (λ x. x.uri)
        (all_certificates plan_input ks) with_roas.first e c cert d at (ap not keeps) is)
        (λ e c same. with_roas.between d e here (roa-in e c) (sym same))
        (λ e c same. with_crls.between d e (in-front d certs roas here) (points-in (crl_draft s keys) e c) (sym same))
        (λ e c same. all_parted.between d e (in-front d (certs ++ roas) crls (in-front d certs roas here))
        (points-in (manifest_draft s keys) e c) (sym same))

    pub roa-away : (roa : RoaWork) (d : Draft) → In roa (all_roas plan_input ks)
        → keeps_roa plan_input ks roa ≡ true → roa_draft s keys roa ≡ Some d → IsAway d
    roa-away roa d at keeps is =
        let here : In d roas = in-filter-map (roa_draft s keys) roa d (all_roas plan_input ks) is at in
        from-each d
        (λ e c. with_roas.between e d (cert-in e c) here)
        (λ e c. part-apart (roa_draft s keys) (λ x. not (keeps_roa plan_input ks x)) (λ x. x.uri)
        (all_roas plan_input ks) with_roas.second e c roa d at (ap not keeps) is)
        (λ e c same. with_crls.between d e (in-behind d certs roas here) (points-in (crl_draft s keys) e c) (sym same))
        (λ e c same. all_parted.between d e (in-front d (certs ++ roas) crls (in-behind d certs roas here))
        (points-in (manifest_draft s keys) e c) (sym same))

    -- What is made of the points that are new.
    points-away : (f : PointWork → Option Draft) → Twos AreAway (filter_map f (all_points ks)) → (k : KeyRow) (d : Draft) → In k ks
        → keeps_point plan_input ks k ≡ true → f (point_for k) ≡ Some d → (e : Draft)
        → In e (filter_map f (new_points plan_input ks)) → e.uri ≢ d.uri
    points-away f points k d at keeps is e c =
        let same : filter_map f (all_points ks) ≡ filter_map (λ x. f (point_for x)) ks =
        given-map f point_of (map kept ks) ∙ given-map (λ (n : NextKey). f (point_of n)) kept ks in
        part-apart (λ (x : KeyRow). f (point_for x)) IsNewPoint (λ x. x.uri) ks (subst (Twos AreAway) same points) e
        (subst (In e) (given-map f point_for (filter IsNewPoint ks)) c) k d at (ap not keeps) is

    pub crl-away : (k : KeyRow) (d : Draft) → In k ks → keeps_point plan_input ks k ≡ true
        → crl_draft s keys (point_for k) ≡ Some d → IsAway d
    crl-away k d at keeps is =
        let here : In d crls = point-there plan_input ks (crl_draft s keys) k d at is in
        from-each d
        (λ e c. with_crls.between e d (in-front e certs roas (cert-in e c)) here)
        (λ e c. with_crls.between e d (in-behind e certs roas (roa-in e c)) here)
        (λ e c. points-away (crl_draft s keys) with_crls.second k d at keeps is e c)
        (λ e c same. all_parted.between d e (in-behind d (certs ++ roas) crls here) (points-in (manifest_draft s keys) e c) (sym same))

    pub list-away : (k : KeyRow) (d : Draft) → In k ks → keeps_point plan_input ks k ≡ true
        → manifest_draft s keys (point_for k) ≡ Some d → IsAway d
    list-away k d at keeps is =
        let here : In d lists = point-there plan_input ks (manifest_draft s keys) k d at is in
        from-each d
        (λ e c. all_parted.between e d (in-front e (certs ++ roas) crls (in-front e certs roas (cert-in e c))) here)
        (λ e c. all_parted.between e d (in-front e (certs ++ roas) crls (in-behind e certs roas (roa-in e c))) here)
        (λ e c. all_parted.between e d (in-behind e (certs ++ roas) crls (points-in (crl_draft s keys) e c)) here)
        (λ e c. points-away (manifest_draft s keys) all_parted.second k d at keeps is e c)

  -- ---- whose it is, and where

  -- Of one of the keys, in the folder of its authority, but for the trust anchor's own certificate.
  pub record IsPlaced (d : Draft) : Type 0 where
    pub live : In d.issuer ks
    pub place : (d.uri ≡ anchor_uri plan_input.site) ⊎ IsListable (folder_at s d.issuer) d.uri

  made-place : (issuer subject : KeyRow) → (made_uri s.site s.names issuer subject ≡ anchor_uri plan_input.site)
      ⊎ IsListable (folder_at s issuer) (made_uri s.site s.names issuer subject)
  made-place issuer subject = by (is_key issuer subject)
    where
      by : (b : Bool) → (cond b (anchor_uri s.site) (cert_uri s.site (name_at s.names issuer.desk) (id_of subject)) ≡ anchor_uri plan_input.site)
          ⊎ IsListable (folder_at s issuer) (cond b (anchor_uri s.site) (cert_uri s.site (name_at s.names issuer.desk) (id_of subject)))
      by true = inl refl
      by false = inr (in-folder (folder_at s issuer) (encode_lower (id_of subject) ++ codes ".cer") (key-name subject (codes "cer") refl refl))

  pub cert-placed : (d : Draft) → In d certs → IsPlaced d
  cert-placed d at =
      let w = filter-map-in (certificate_draft s keys) d (all_certificates plan_input ks) at in
      let c = cert-draft s keys w.0 d w.2 in
      subst IsPlaced c.4 (record {
        live = contains-in c.0 ks (key-named ks w.0.issuer c.0 c.2);
        place = made-place c.0 c.1;
      })

  pub roa-placed : (d : Draft) → In d roas → IsPlaced d
  roa-placed d at =
      let w = filter-map-in (roa_draft s keys) d (all_roas plan_input ks) at in
      let make : KeyRow → Draft = λ issuer. record {
        uri = roa_uri s.site (name_at s.names issuer.desk) w.0.origin;
        issuer = issuer;
        kind = Roa w.0.origin;
      } in
      let c = mapped-draft make (key_named keys w.0.issuer) d w.2 in
      subst IsPlaced c.2 (record {
        live = contains-in c.0 ks (key-named ks w.0.issuer c.0 c.1);
        place = inr (in-folder (folder_at s c.0) (encode_lower (origin_text w.0.origin) ++ codes ".roa") (origin-name w.0.origin));
      })

  pub crl-placed : (d : Draft) → In d crls → IsPlaced d
  crl-placed d at =
      let w = filter-map-in (crl_draft s keys) d (all_points ks) at in
      let make : KeyRow → Draft = λ issuer. record {
        uri = crl_uri s.site (name_at s.names issuer.desk) (id_of issuer);
        issuer = issuer;
        kind = Crl;
      } in
      let c = mapped-draft make (key_named keys w.0.key) d w.2 in
      subst IsPlaced c.2 (record {
        live = contains-in c.0 ks (key-named ks w.0.key c.0 c.1);
        place = inr (in-folder (folder_at s c.0) (encode_lower (id_of c.0) ++ codes ".crl") (key-name c.0 (codes "crl") refl refl));
      })

  pub list-placed : (d : Draft) → In d lists → IsPlaced d
  list-placed d at =
      let w = filter-map-in (manifest_draft s keys) d (all_points ks) at in
      let make : KeyRow → Draft = λ issuer. record {
        uri = manifest_uri s.site (name_at s.names issuer.desk) (id_of issuer);
        issuer = issuer;
        kind = Manifest;
      } in
      let c = mapped-draft make (key_named keys w.0.key) d w.2 in
      subst IsPlaced c.2 (record {
        live = contains-in c.0 ks (key-named ks w.0.key c.0 c.1);
        place = inr (in-folder (folder_at s c.0) (encode_lower (id_of c.0) ++ codes ".mft") (key-name c.0 (codes "mft") refl refl));
      })

  pub placed : (d : Draft) → In d (all_objects plan_input ks) → IsPlaced d
  placed d at = by (in-parts d ((certs ++ roas) ++ crls) lists at)
    where
      first : In d certs ⊎ In d roas → IsPlaced d
      first (inl c) = cert-placed d c
      first (inr c) = roa-placed d c

      second : In d (certs ++ roas) ⊎ In d crls → IsPlaced d
      second (inl c) = first (in-parts d certs roas c)
      second (inr c) = crl-placed d c

      by : In d ((certs ++ roas) ++ crls) ⊎ In d lists → IsPlaced d
      by (inl c) = second (in-parts d (certs ++ roas) crls c)
      by (inr c) = list-placed d c

  -- ---- made, or kept

  module _ (over : IsOver plan_input ks) where
    pub made-or-kept : (d : Draft) → In d (all_objects plan_input ks) → In d new_puts ⊎ IsKept plan_input ks d
    made-or-kept d at = by (of-work d at)
      where
        of-cert : (w : IsCertificate d) (b : Bool) → keeps_certificate plan_input ks w.0 ≡ b → In d new_puts ⊎ IsKept plan_input ks d
        of-cert w true e =
            inr (kept-certificate plan_input ks over w.0 (in-contains w.0 (all_certificates plan_input ks) w.1) e d w.2)
        of-cert w false e = inl (cert-new w.0 d w.1 e w.2)

        of-roa : (w : IsRoa d) (b : Bool) → keeps_roa plan_input ks w.0 ≡ b → In d new_puts ⊎ IsKept plan_input ks d
        of-roa w true e = inr (kept-roa plan_input ks over w.0 (in-contains w.0 (all_roas plan_input ks) w.1) e d w.2)
        of-roa w false e = inl (roa-new w.0 d w.1 e w.2)

        of-crl : (w : IsCrl d) (b : Bool) → keeps_point plan_input ks w.0 ≡ b → In d new_puts ⊎ IsKept plan_input ks d
        of-crl w true e = inr (kept-crl plan_input ks over w.0 (in-contains w.0 ks w.1) e d w.2)
        of-crl w false e = inl (crl-new w.0 d w.1 e w.2)

        of-list : (w : IsList d) (b : Bool) → keeps_point plan_input ks w.0 ≡ b → In d new_puts ⊎ IsKept plan_input ks d
        of-list w true e = inr (kept-manifest plan_input ks over w.0 (in-contains w.0 ks w.1) e d w.2)
        of-list w false e = inl (list-new w.0 d w.1 e w.2)

        by : IsOfWork d → In d new_puts ⊎ IsKept plan_input ks d
        by (inl (inl w)) = of-cert w (keeps_certificate plan_input ks w.0) refl
        by (inl (inr w)) = of-roa w (keeps_roa plan_input ks w.0) refl
        by (inr (inl w)) = of-crl w (keeps_point plan_input ks w.0) refl
        by (inr (inr w)) = of-list w (keeps_point plan_input ks w.0) refl

    module _ (twos : Twos AreAway (all_objects plan_input ks)) where
      abbrev pub IsLeftThere : Draft → Type 0
      IsLeftThere d = IsKept plan_input ks d × ((e : Draft) → In e new_puts → e.uri ≢ d.uri)

      -- It is made, or kept, and then nothing is made at its place.
      pub made-or-left : (d : Draft) → In d (all_objects plan_input ks) → In d new_puts ⊎ IsLeftThere d
      made-or-left d at = by (of-work d at)
        where
          of-cert : (w : IsCertificate d) (b : Bool) → keeps_certificate plan_input ks w.0 ≡ b → In d new_puts ⊎ IsLeftThere d
          of-cert w true e = inr (
            kept-certificate plan_input ks over w.0 (in-contains w.0 (all_certificates plan_input ks) w.1) e d w.2,
            cert-away twos w.0 d w.1 e w.2,
          )
          of-cert w false e = inl (cert-new w.0 d w.1 e w.2)

          of-roa : (w : IsRoa d) (b : Bool) → keeps_roa plan_input ks w.0 ≡ b → In d new_puts ⊎ IsLeftThere d
          of-roa w true e = inr (
            kept-roa plan_input ks over w.0 (in-contains w.0 (all_roas plan_input ks) w.1) e d w.2,
            roa-away twos w.0 d w.1 e w.2,
          )
          of-roa w false e = inl (roa-new w.0 d w.1 e w.2)

          of-crl : (w : IsCrl d) (b : Bool) → keeps_point plan_input ks w.0 ≡ b → In d new_puts ⊎ IsLeftThere d
          of-crl w true e = inr (
            kept-crl plan_input ks over w.0 (in-contains w.0 ks w.1) e d w.2,
            crl-away twos w.0 d w.1 e w.2,
          )
          of-crl w false e = inl (crl-new w.0 d w.1 e w.2)

          of-list : (w : IsList d) (b : Bool) → keeps_point plan_input ks w.0 ≡ b → In d new_puts ⊎ IsLeftThere d
          of-list w true e = inr (
            kept-manifest plan_input ks over w.0 (in-contains w.0 ks w.1) e d w.2,
            list-away twos w.0 d w.1 e w.2,
          )
          of-list w false e = inl (list-new w.0 d w.1 e w.2)

          by : IsOfWork d → In d new_puts ⊎ IsLeftThere d
          by (inl (inl w)) = of-cert w (keeps_certificate plan_input ks w.0) refl
          by (inl (inr w)) = of-roa w (keeps_roa plan_input ks w.0) refl
          by (inr (inl w)) = of-crl w (keeps_point plan_input ks w.0) refl
          by (inr (inr w)) = of-list w (keeps_point plan_input ks w.0) refl
