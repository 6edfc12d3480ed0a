-- The URIs of an edition's objects are of letters, digits and `-._~/:`.
use Rattle.std.proofs.Common.{◌≡◌, ℕ, ◌<◌, ◌/◌, ◌%◌, suc, Bool, true, false, cond, refl, sym, subst, ◌∙◌, arith, get_or, List, [], ◌∷◌, ◌++◌, length-append, Some, None}
use Rattle.std.specs.Prelude.{Option, IfSome, IsSome, slice_get, slice_index, codes, option_map, option_and_then}
use Rattle.std.specs.Option.{option_map_or}
use Rattle.std.specs.List.{All, AllByRecursion, list_all, filter_map, cons_option}
use Rattle.std.specs.Str.{IsAscii}
use Rattle.std.proofs.lemmas.Bool.{and_from}
use Rattle.std.proofs.lemmas.Bool.Decides.{nat_tests}
use Rattle.std.proofs.lemmas.List.Elements.{All-append, All-from_recursion}
use Rattle.std.proofs.lemmas.List.Folds.{list_all-append}
use Rattle.std.proofs.lemmas.List.Sums.{list_all-from_AllPass, AllPass-from_list_all}
use Rattle.std.proofs.lemmas.Option.{slice_get_within, get_or_from_slice_get}
use Rattle.der.specs.Grammar.{AreBytes}
use Rattle.hex.specs.Hex.{encode_lower, encode_with, lower_digits}
use Rattle.names.specs.Name.{IsName, is_name_byte}
use Rattle.cert_obj.specs.laws.IdentifierLaws.{sha1-bytes}
use Rattle.origins.specs.declared.Origin.{Origin}
use Rattle.origins.specs.Origin.{origin_text}
use Rattle.authority_book.specs.declared.rows.NameRow.{NameRow}
use Rattle.entitle.specs.Certified.{names_of}
use Rattle.key_ids.specs.Base.{IsBase, is_base_byte, rsync_scheme}
use Rattle.key_ids.specs.Uris.{Bases, anchor_uri, file_uri, cert_uri, crl_uri, manifest_uri}
use Rattle.key_roll.specs.declared.work.CertWork.{CertWork}
use Rattle.key_roll.specs.declared.work.RoaWork.{RoaWork}
use Rattle.key_roll.specs.declared.work.PointWork.{PointWork}
use Rattle.issue_values.specs.Publishers.{roa_uri}
use Rattle.issue_keys.specs.Keys.{id_of}
use Rattle.issue_drafts.specs.WorkKeys.{Keys, key_named}
use Rattle.issue_drafts.specs.IssueInput.{IssueInput}
use Rattle.issue_drafts.specs.Publishers.{is_key, name_at, made_uri}
use Rattle.issue_drafts.specs.Drafts.{Draft, certificate_draft, roa_draft, crl_draft, manifest_draft, drafts, manifests}
use Rattle.rrdp_text.specs.Fields.{is_uri_byte}
use Rattle.rrdp_text.specs.Values.{IsUri}
use Rattle.editions.specs.Edition.{Edition, set_after, state_after}
use Rattle.editions.specs.Step.{Premises, IsStep, configs_at, plan_input_at}
use Rattle.editions.specs.Wanted.{there, whole}

-- The text of each origin is ASCII.
abbrev pub Texts : Type 0
Texts = (origin : Origin) → IsAscii (origin_text origin)

-- ---- bytes of URIs

abbrev IsPlain : List ℕ → Type 0
IsPlain bytes = list_all is_uri_byte bytes ≡ true

plain-append : (xs ys : List ℕ) → IsPlain xs → IsPlain ys → IsPlain (xs ++ ys)
plain-append xs ys p q =
    list_all-append is_uri_byte xs ys ∙ and_from (list_all is_uri_byte xs) (list_all is_uri_byte ys) p q

base-byte : (c : ℕ) → is_base_byte c ≡ true → is_uri_byte c ≡ true
base-byte c is = grind (arith, nat_tests)

name-byte : (c : ℕ) → is_name_byte c ≡ true → is_uri_byte c ≡ true
name-byte c is = grind (arith, nat_tests)

name-plain : (name : List ℕ) → IsName name → IsPlain name
name-plain name is = list_all-from_AllPass is_uri_byte name (λ k d within. name-byte (get_or name k d) (is.plain k d within))

digit-plain : (d : ℕ) → d < 16 → is_uri_byte (slice_index lower_digits d) ≡ true
digit-plain d small = AllPass-from_list_all is_uri_byte lower_digits refl d 0 (omega (arith, small))

hex-plain : (bytes : List ℕ) → AreBytes bytes → IsPlain (encode_lower bytes)
unfolding encode_with
hex-plain [] are = refl
hex-plain (b ∷ rest) are =
    let fits : b < 256 = are 0 in
    let high : b / 16 < 16 = omega (arith, fits) in
    let low : b % 16 < 16 = omega arith in
    and_from (is_uri_byte (slice_index lower_digits (b / 16))) _ (digit-plain (b / 16) high)
    (and_from (is_uri_byte (slice_index lower_digits (b % 16))) _ (digit-plain (b % 16) low)
    (hex-plain rest (λ i. are (suc i))))

-- ---- URIs

longer : (xs ys : List ℕ) → IsUri xs → IsPlain ys → IsUri (xs ++ ys)
longer xs ys is plain = record {
  stands =
      let some = is.stands in
      let long = length-append xs ys in
      omega (arith, some, long);
  bytes = plain-append xs ys is.bytes plain;
}

pub base-uri : (text : List ℕ) → IsBase rsync_scheme text → IsUri text
base-uri text base = record {
  stands = let long = base.long in omega (arith, long);
  bytes = list_all-from_AllPass is_uri_byte text (λ k d within. base-byte (get_or text k d) (base.plain k d within));
}

module _ (site : Bases) (base : IsUri site.rsync) (texts : Texts) where
  in-folder : (name file : List ℕ) → IsPlain name → IsPlain file → IsUri (file_uri site name file)
  in-folder name file named plain =
      longer ((site.rsync ++ name) ++ codes "/0/") file
      (longer (site.rsync ++ name) (codes "/0/") (longer site.rsync name base named) refl) plain

  stem : (name bytes ending : List ℕ) → IsPlain name → AreBytes bytes → IsPlain ending → IsUri (file_uri site name (encode_lower bytes ++ ending))
  stem name bytes ending named are plain =
      in-folder name (encode_lower bytes ++ ending) named (plain-append (encode_lower bytes) ending (hex-plain bytes are) plain)

  anchor : IsUri (anchor_uri site)
  anchor = longer site.rsync (codes "ta.cer") base refl

  route : (name : List ℕ) (origin : Origin) → IsPlain name → IsUri (roa_uri site name origin)
  route name origin named = stem name (origin_text origin) (codes ".roa") named
      (λ i. let small = texts origin i in omega (arith, small)) refl

  -- ---- drafts

  name-there : (o : Option NameRow) → ((row : NameRow) → o ≡ Some row → IsName row.name) → IsPlain (option_map_or (λ n. n.name) o [])
  name-there None each = refl
  name-there (Some row) each = name-plain row.name (each row refl)

  names-plain : (names : List NameRow) → All (λ row. IsName row.name) names → (desk : ℕ) → IsPlain (name_at names desk)
  names-plain names all desk = name-there (slice_get names desk) (λ row at.
      subst (λ (r : NameRow). IsName r.name) (get_or_from_slice_get names desk row row at)
      (all desk row (slice_get_within names desk row at)))

  abbrev IsFine : Draft → Type 0
  IsFine d = IsUri d.uri

  and-then : {A B : Type 0} (P : B → Type 0) (o : Option A) (g : A → Option B) → ((a : A) → IfSome (g a) P) → IfSome (option_and_then g o) P
  and-then P None g each = tt
  and-then P (Some a) g each = each a

  mapped : {A B : Type 0} (P : B → Type 0) (o : Option A) (g : A → B) → ((a : A) → P (g a)) → IfSome (option_map g o) P
  mapped P None g each = tt
  mapped P (Some a) g each = each a

  either : (is : Bool) (a b : List ℕ) → IsUri a → IsUri b → IsUri (cond is a b)
  either true a b one other = one
  either false a b one other = other

  module _ (s : IssueInput) (keys : Keys) (is_site : s.site ≡ site) (named : All (λ row. IsName row.name) s.names) where
    at-site : (place : Bases → List ℕ) → IsUri (place site) → IsUri (place s.site)
    at-site place is = subst (λ (b : Bases). IsUri (place b)) (sym is_site) is

    certificate-fine : (cert : CertWork) → IfSome (certificate_draft s keys cert) IsFine
    certificate-fine cert = and-then IsFine (key_named keys cert.issuer) _ (λ issuer.
        mapped IsFine (key_named keys cert.subject) _ (λ subject.
        at-site (λ (b : Bases). made_uri b s.names issuer subject)
        (either (is_key issuer subject) (anchor_uri site) (cert_uri site (name_at s.names issuer.desk) (id_of subject)) anchor
        (stem (name_at s.names issuer.desk) (id_of subject) (codes ".cer") (names-plain s.names named issuer.desk)
        (sha1-bytes subject.key.bytes) refl))))

    roa-fine : (roa : RoaWork) → IfSome (roa_draft s keys roa) IsFine
    roa-fine roa = mapped IsFine (key_named keys roa.issuer) _ (λ issuer.
        at-site (λ (b : Bases). roa_uri b (name_at s.names issuer.desk) roa.origin)
        (route (name_at s.names issuer.desk) roa.origin (names-plain s.names named issuer.desk)))

    crl-fine : (point : PointWork) → IfSome (crl_draft s keys point) IsFine
    crl-fine point = mapped IsFine (key_named keys point.key) _ (λ issuer.
        at-site (λ (b : Bases). crl_uri b (name_at s.names issuer.desk) (id_of issuer))
        (stem (name_at s.names issuer.desk) (id_of issuer) (codes ".crl") (names-plain s.names named issuer.desk)
        (sha1-bytes issuer.key.bytes) refl))

    manifest-fine : (point : PointWork) → IfSome (manifest_draft s keys point) IsFine
    manifest-fine point = mapped IsFine (key_named keys point.key) _ (λ issuer.
        at-site (λ (b : Bases). manifest_uri b (name_at s.names issuer.desk) (id_of issuer))
        (stem (name_at s.names issuer.desk) (id_of issuer) (codes ".mft") (names-plain s.names named issuer.desk)
        (sha1-bytes issuer.key.bytes) refl))

    one-more : (o : Option Draft) (ds : List Draft) → IfSome o IsFine → AllByRecursion IsFine ds → AllByRecursion IsFine (cons_option o ds)
    one-more None ds is all = all
    one-more (Some d) ds is all = (is, all)

    each-fine : {X : Type 0} (f : X → Option Draft) (xs : List X) → ((x : X) → IfSome (f x) IsFine) → AllByRecursion IsFine (filter_map f xs)
    each-fine f [] each = tt
    each-fine f (x ∷ xs) each = one-more (f x) (filter_map f xs) (each x) (each-fine f xs each)

    given : {X : Type 0} (f : X → Option Draft) (xs : List X) → ((x : X) → IfSome (f x) IsFine) → All IsFine (filter_map f xs)
    given f xs each = All-from_recursion IsFine (filter_map f xs) (each-fine f xs each)

    all-fine : All IsFine (drafts s keys ++ manifests s keys)
    all-fine = All-append IsFine (drafts s keys) (manifests s keys)
        (All-append IsFine (filter_map (certificate_draft s keys) s.work.certs ++ filter_map (roa_draft s keys) s.work.roas)
        (filter_map (crl_draft s keys) s.work.points)
        (All-append IsFine (filter_map (certificate_draft s keys) s.work.certs) (filter_map (roa_draft s keys) s.work.roas)
        (given (certificate_draft s keys) s.work.certs certificate-fine) (given (roa_draft s keys) s.work.roas roa-fine))
        (given (crl_draft s keys) s.work.points crl-fine))
        (given (manifest_draft s keys) s.work.points manifest-fine)

  -- Each URI of an edition's set.
  pub places : (ground : Premises) → ground.site ≡ site → (clock : ℕ) (editions : List Edition) (edition : Edition)
      → IsStep ground clock editions edition → All (λ row. IsName row.name) (names_of (configs_at ground.lists edition.cut))
      → (uri : List ℕ) → IsSome (set_after (editions ++ edition ∷ []) uri) → IsUri uri
  places ground same clock editions edition step named uri stands =
      let made = step.made in
      let standing = plan_input_at ground (state_after editions) edition step.sets step.owed step.issued in
      let any = (made.set.places uri).0 stands in
      subst (λ (u : List ℕ). IsUri u) any.4
      (subst IsFine any.3 (all-fine (whole standing made.keys) (there made.keys) same named any.0 any.1 any.2))
