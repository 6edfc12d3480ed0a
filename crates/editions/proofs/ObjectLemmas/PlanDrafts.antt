-- What is drafted of the work of a plan is what is wanted for its keys.
use Rattle.std.proofs.Common.{◌≡◌, ℕ, Bool, true, false, not, cond, Option, Some, None, List, [], ◌∷◌, ◌++◌, map, filter, find, refl, sym, ap, subst, ◌∙◌, inl, inr}
use Rattle.std.specs.Prelude.{Contains, option_map, option_and_then}
use Rattle.std.proofs.lemmas.Bool.{true≢false}
use Rattle.std.proofs.lemmas.Option.{same_Some, none-some}
use Rattle.std.specs.List.{filter_map, cons_option}
use Rattle.origins.specs.declared.Origin.{Origin}
use Rattle.res_sets.specs.declared.holdings.Resources.{Resources}
use Rattle.entitle.specs.Certified.{names_of}
use Rattle.key_ids.specs.Uris.{crl_uri, manifest_uri}
use Rattle.key_roll.specs.declared.rows.KeyRow.{KeyRow}
use Rattle.key_roll.specs.declared.work.Work.{Work}
use Rattle.key_roll.specs.declared.work.CertWork.{CertWork}
use Rattle.key_roll.specs.declared.work.RoaWork.{RoaWork}
use Rattle.key_roll.specs.declared.work.PointWork.{PointWork}
use Rattle.key_roll.specs.declared.work.KeyName.{KeyName}
use Rattle.issue_values.specs.Publishers.{roa_uri}
use Rattle.issue_plan.specs.declared.keys.NextKey.{NextKey}
use Rattle.issue_plan.specs.Keys.{kept}
use Rattle.issue_plan.specs.Fits.{fits, unfit}
use Rattle.issue_plan.specs.Wanted.{PlanInput, Certificate, Roa, Point, point_of, wanted_certificates, wanted_roas, wanted_points}
use Rattle.issue_keys.specs.Keys.{id_of}
use Rattle.issue_keys.specs.Indexes.{has_id}
use Rattle.issue_drafts.specs.WorkKeys.{Keys, key_of, key_named}
use Rattle.issue_drafts.specs.IssueInput.{IssueInput}
use Rattle.issue_drafts.specs.Publishers.{name_at, names_key, issuer_for, made_for, made_uri}
use Rattle.issue_drafts.specs.Drafts.{Draft, certificate_draft, roa_draft, crl_draft, drafts, manifests}
use Rattle.issue_drafts.specs.Drafts.Kind.{Certificate as CertificateKind, Roa as RoaKind, Crl, Manifest}
use Rattle.editions.specs.Wanted.{there, whole, anew, all_certificates, all_roas, new_certificates, new_roas, new_points, keeps_certificate, keeps_roa}
use Rattle.editions.specs.inner.PlanAndTable.{made_from, IsCertifiedBy}
use Rattle.items.specs.laws.ElementLaws.{here, found-in, is-found}
use Rattle.items.specs.laws.ElementLaws.{there as there-of}
use Rattle.items.specs.laws.PairLaws.{Sides}
use Rattle.editions.proofs.ObjectLemmas.Alike.{AreAlike, alike-certificates, alike-roas, alike-points}
use Rattle.editions.proofs.ObjectLemmas.WantedBeside.{Both, find-both, certs-beside, roas-beside}
use Rattle.editions.proofs.ObjectLemmas.WantedBeside as wanted

-- ---- lists

filter_map-sides : {X Y Z : Type 0} (R : X → Y → Type 0) (f : X → Option Z) (g : Y → Option Z)
    (xs : List X) (ys : List Y) → ((x : X) (y : Y) → R x y → f x ≡ g y) → Sides R xs ys
    → filter_map f xs ≡ filter_map g ys
filter_map-sides R f g [] [] same sides = refl
filter_map-sides R f g [] (y ∷ ys) same sides = absurd sides
filter_map-sides R f g (x ∷ xs) [] same sides = absurd sides
filter_map-sides {X} {Y} {Z} R f g (x ∷ xs) (y ∷ ys) same sides =
    ap (λ (o : Option Z). cons_option o (filter_map f xs)) (same x y sides.0)
    ∙ ap (λ (l : List Z). cons_option (g y) l) (filter_map-sides R f g xs ys same sides.1)

-- What passes of two lists, one beside the other.
sides-filter : {X Y : Type 0} (R : X → Y → Type 0) (p : X → Bool) (q : Y → Bool) (xs : List X) (ys : List Y)
    → ((x : X) (y : Y) → R x y → p x ≡ q y) → Sides R xs ys → Sides R (filter p xs) (filter q ys)
sides-filter R p q [] [] same sides = tt
sides-filter R p q [] (y ∷ ys) same sides = absurd sides
sides-filter R p q (x ∷ xs) [] same sides = absurd sides
sides-filter {X} {Y} R p q (x ∷ xs) (y ∷ ys) same sides =
    by (p x) (q y) (same x y sides.0) (sides-filter R p q xs ys same sides.1)
  where
    by : (a b : Bool) → a ≡ b → Sides R (filter p xs) (filter q ys)
        → Sides R (cond a (x ∷ filter p xs) (filter p xs)) (cond b (y ∷ filter q ys) (filter q ys))
    by true true e rest = (sides.0, rest)
    by true false e rest = absurd cc
    by false true e rest = absurd cc
    by false false e rest = rest

sides-map : {X Y A B : Type 0} (R : X → Y → Type 0) (S : A → B → Type 0) (f : X → A) (g : Y → B)
    (xs : List X) (ys : List Y) → ((x : X) (y : Y) → R x y → S (f x) (g y)) → Sides R xs ys
    → Sides S (map f xs) (map g ys)
sides-map R S f g [] [] then sides = tt
sides-map R S f g [] (y ∷ ys) then sides = absurd sides
sides-map R S f g (x ∷ xs) [] then sides = absurd sides
sides-map R S f g (x ∷ xs) (y ∷ ys) then sides =
    (then x y sides.0, sides-map R S f g xs ys then sides.1)

filter-of-map : {X Y : Type 0} (f : X → Y) (p : Y → Bool) (xs : List X)
    → filter p (map f xs) ≡ map f (filter (λ x. p (f x)) xs)
filter-of-map f p [] = refl
filter-of-map {X} {Y} f p (x ∷ xs) =
    ap (λ (l : List Y). cond (p (f x)) (f x ∷ l) l) (filter-of-map f p xs) ∙ by (p (f x))
  where
    by : (b : Bool) → cond b (f x ∷ map f (filter (λ z. p (f z)) xs)) (map f (filter (λ z. p (f z)) xs))
        ≡ map f (cond b (x ∷ filter (λ z. p (f z)) xs) (filter (λ z. p (f z)) xs))
    by true = refl
    by false = refl

-- What is found among those that pass.
find-filtered : {X : Type 0} (p q : X → Bool) (xs : List X) (x : X) → find p xs ≡ Some x → q x ≡ true
    → find p (filter q xs) ≡ Some x
find-filtered p q [] x e passes = absurd cc
find-filtered {X} p q (y ∷ xs) x e passes =
    by (p y) refl e (q y) refl (λ later. find-filtered p q xs x later passes)
  where
    by : (b : Bool) → p y ≡ b → cond b (Some y) (find p xs) ≡ Some x → (t : Bool) → q y ≡ t
        → (find p xs ≡ Some x → find p (filter q xs) ≡ Some x)
        → find p (cond t (y ∷ filter q xs) (filter q xs)) ≡ Some x
    by true is e true ok rest =
        ap (λ (b : Bool). cond b (Some y) (find p (filter q xs))) is ∙ e
    by true is e false isnt rest =
        absurd (true≢false (sym passes ∙ (ap q (sym (same_Some y x e)) ∙ isnt)))
    by false is e true ok rest =
        ap (λ (b : Bool). cond b (Some y) (find p (filter q xs))) is ∙ rest e
    by false is e false isnt rest = rest e

find-none : {X : Type 0} (p q : X → Bool) (xs : List X) → ((x : X) → Contains xs x → p x ≡ true → q x ≡ false)
    → find p (filter q xs) ≡ None
find-none p q [] other = refl
find-none {X} p q (y ∷ xs) other =
    by (q y) refl (p y) refl (find-none p q xs (λ x c. other x (there-of y xs x c)))
  where
    by : (t : Bool) → q y ≡ t → (b : Bool) → p y ≡ b → find p (filter q xs) ≡ None
        → find p (cond t (y ∷ filter q xs) (filter q xs)) ≡ None
    by true ok true is rest = absurd (true≢false (sym ok ∙ other y (here y xs) is))
    by true ok false is rest = ap (λ (b : Bool). cond b (Some y) (find p (filter q xs))) is ∙ rest
    by false isnt b is rest = rest

-- ---- the drafts

module _ (plan_input : PlanInput) (work : Work) (found : Keys) (nexts : List NextKey)
    (keys : List KeyRow) where
  abbrev s : IssueInput
  s = made_from plan_input work

  abbrev w : IssueInput
  w = whole plan_input keys

  abbrev a : IssueInput
  a = anew plan_input keys

  abbrev now : List NextKey
  now = map kept keys

  -- The names stand for one key, and fit alike.
  abbrev pub IsSame : KeyName → KeyName → Type 0
  IsSame one other = (key_named found one ≡ key_named (there keys) other)
      × AreAlike plan_input.basis.rows one other

  abbrev pub IsBeside : NextKey → KeyRow → Type 0
  IsBeside = wanted.IsBeside IsSame

  abbrev pub IsSameCert : CertWork → CertWork → Type 0
  IsSameCert = wanted.IsSameCert IsSame

  abbrev IsSameRoa : RoaWork → RoaWork → Type 0
  IsSameRoa = wanted.IsSameRoa IsSame

  abbrev IsSamePoint : PointWork → PointWork → Type 0
  IsSamePoint one other = IsSame one.key other.key

  module _ (sides : Sides IsBeside nexts keys) where
    -- ---- certificates

    unfit-certs : Sides IsSameCert
        (unfit plan_input Certificate (wanted_certificates plan_input.basis.configs plan_input.basis.sets nexts))
        (new_certificates plan_input keys)
    unfit-certs = sides-filter IsSameCert (λ (c : CertWork). not (fits plan_input (Certificate c)))
        (λ (c : CertWork). not (keeps_certificate plan_input keys c))
        (wanted_certificates plan_input.basis.configs plan_input.basis.sets nexts) (all_certificates plan_input keys)
        (λ one other same. ap not (alike-certificates plan_input one other same.0.1 same.1.1 same.2))
        (certs-beside plan_input.basis IsSame nexts keys sides)

    abbrev made : Resources → KeyRow → KeyRow → Draft
    made held issuer subject = record {
      uri = made_uri plan_input.site (names_of plan_input.basis.configs) issuer subject;
      issuer = issuer;
      kind = CertificateKind subject held;
    }

    cert-same : (one other : CertWork) → IsSameCert one other
        → certificate_draft s found one ≡ certificate_draft a (there keys) other
    cert-same one other same =
        let of : Resources → Option KeyRow → Option KeyRow → Option Draft = λ held i o.
        option_and_then (λ x. option_map (made held x) o) i in
        ap (λ (i : Option KeyRow). of one.held i (key_named found one.subject)) same.1.0
        ∙ (ap (of one.held (key_named (there keys) other.issuer)) same.0.0
        ∙ ap (λ (held : Resources). of held (key_named (there keys) other.issuer) (key_named (there keys) other.subject))
        same.2)

    -- ---- ROAs

    unfit-roas : Sides IsSameRoa (unfit plan_input Roa (wanted_roas nexts plan_input.owed)) (new_roas plan_input keys)
    unfit-roas = sides-filter IsSameRoa (λ (r : RoaWork). not (fits plan_input (Roa r)))
        (λ (r : RoaWork). not (keeps_roa plan_input keys r)) (wanted_roas nexts plan_input.owed)
        (all_roas plan_input keys)
        (λ one other same. ap not (alike-roas plan_input one other same.0.1 same.1))
        (roas-beside plan_input.basis IsSame nexts keys sides plan_input.owed)

    roa-same : (one other : RoaWork) → IsSameRoa one other
        → roa_draft s found one ≡ roa_draft a (there keys) other
    roa-same one other same =
        let of : Origin → Option KeyRow → Option Draft = λ origin. option_map (λ (issuer : KeyRow). record {
          uri = roa_uri plan_input.site (name_at (names_of plan_input.basis.configs) issuer.desk) origin;
          issuer = issuer;
          kind = RoaKind origin;
        }) in
        ap (of one.origin) same.0.0
        ∙ ap (λ (origin : Origin). of origin (key_named (there keys) other.issuer)) same.1

    -- ---- points

    points-beside : Sides IsSamePoint (wanted_points nexts) (map (λ (key : KeyRow). point_of (kept key)) keys)
    points-beside = sides-map IsBeside IsSamePoint point_of (λ (key : KeyRow). point_of (kept key)) nexts keys
        (λ next key is. is.name) sides

    unfit-points : Sides IsSamePoint (unfit plan_input Point (wanted_points nexts)) (new_points plan_input keys)
    unfit-points =
        subst (Sides IsSamePoint (unfit plan_input Point (wanted_points nexts)))
        (filter-of-map (λ (key : KeyRow). point_of (kept key)) (λ (p : PointWork). not (fits plan_input (Point p))) keys)
        (sides-filter IsSamePoint (λ (p : PointWork). not (fits plan_input (Point p)))
        (λ (p : PointWork). not (fits plan_input (Point p))) (wanted_points nexts)
        (map (λ (key : KeyRow). point_of (kept key)) keys)
        (λ one other same. ap not (alike-points plan_input one other same.1)) points-beside)

    -- ---- all of them

    module _ (certs : work.certs ≡ unfit plan_input Certificate
        (wanted_certificates plan_input.basis.configs plan_input.basis.sets nexts))
        (roas : work.roas ≡ unfit plan_input Roa (wanted_roas nexts plan_input.owed))
        (points : work.points ≡ unfit plan_input Point (wanted_points nexts)) where
      of-points : (make : KeyRow → Draft)
          → filter_map (λ (point : PointWork). option_map make (key_named found point.key)) work.points
          ≡ filter_map (λ (point : PointWork). option_map make (key_named (there keys) point.key))
          (new_points plan_input keys)
      of-points make =
          let left : PointWork → Option Draft = λ point. option_map make (key_named found point.key) in
          let right : PointWork → Option Draft = λ point. option_map make (key_named (there keys) point.key) in
          ap (filter_map left) points
          ∙ filter_map-sides IsSamePoint left right (unfit plan_input Point (wanted_points nexts))
          (new_points plan_input keys) (λ one other same. ap (option_map make) same.0) unfit-points

      pub drafts-same : drafts s found ≡ drafts a (there keys)
      drafts-same =
          let crl : KeyRow → Draft = λ issuer. record {
            uri = crl_uri plan_input.site
                (name_at (names_of plan_input.basis.configs) issuer.desk) (id_of issuer);
            issuer = issuer;
            kind = Crl;
          } in
          let first : filter_map (certificate_draft s found) work.certs
          ≡ filter_map (certificate_draft a (there keys)) (new_certificates plan_input keys) =
          ap (filter_map (certificate_draft s found)) certs
          ∙ filter_map-sides IsSameCert (certificate_draft s found) (certificate_draft a (there keys))
          (unfit plan_input Certificate (wanted_certificates plan_input.basis.configs plan_input.basis.sets nexts))
          (new_certificates plan_input keys) cert-same unfit-certs in
          let second : filter_map (roa_draft s found) work.roas
          ≡ filter_map (roa_draft a (there keys)) (new_roas plan_input keys) =
          ap (filter_map (roa_draft s found)) roas
          ∙ filter_map-sides IsSameRoa (roa_draft s found) (roa_draft a (there keys))
          (unfit plan_input Roa (wanted_roas nexts plan_input.owed)) (new_roas plan_input keys) roa-same unfit-roas in
          let third : filter_map (crl_draft s found) work.points
          ≡ filter_map (crl_draft a (there keys)) (new_points plan_input keys) = of-points crl in
          ap (λ (l : List Draft). l ++ filter_map (roa_draft s found) work.roas
          ++ filter_map (crl_draft s found) work.points) first
          ∙ (ap (λ (l : List Draft).
          filter_map (certificate_draft a (there keys)) (new_certificates plan_input keys) ++ l
          ++ filter_map (crl_draft s found) work.points) second
          ∙ ap (λ (l : List Draft).
          filter_map (certificate_draft a (there keys)) (new_certificates plan_input keys)
          ++ filter_map (roa_draft a (there keys)) (new_roas plan_input keys) ++ l) third)

      pub manifests-same : manifests s found ≡ manifests a (there keys)
      manifests-same =
          let manifest : KeyRow → Draft = λ issuer. record {
            uri = manifest_uri plan_input.site
                (name_at (names_of plan_input.basis.configs) issuer.desk) (id_of issuer);
            issuer = issuer;
            kind = Manifest;
          } in
          of-points manifest

    -- ---- where a key's certificate is

    issuers-same : (o p : Option CertWork) → Both IsSameCert o p
        → option_and_then (λ (cert : CertWork). key_named found cert.issuer) o
        ≡ option_and_then (λ (cert : CertWork). key_named (there keys) cert.issuer) p
    issuers-same None None both = refl
    issuers-same None (Some b) both = absurd both
    issuers-same (Some c) None both = absurd both
    issuers-same (Some c) (Some b) both = both.1.0

    -- The work certifies it as the certificates do that are made anew.
    made-anew : work.certs ≡ unfit plan_input Certificate
        (wanted_certificates plan_input.basis.configs plan_input.basis.sets nexts)
        → (row : KeyRow) → made_for s found row ≡ made_for a (there keys) row
    made-anew certs row =
        ap (option_map (λ issuer.
        made_uri plan_input.site (names_of plan_input.basis.configs) issuer row))
        (ap (λ (l : List CertWork). issuer_for found l row) certs
        ∙ issuers-same _ _ (find-both IsSameCert (λ (cert : CertWork). names_key found cert.subject row)
        (λ (cert : CertWork). names_key (there keys) cert.subject row)
        (unfit plan_input Certificate (wanted_certificates plan_input.basis.configs plan_input.basis.sets nexts))
        (new_certificates plan_input keys)
        (λ one other same. ap (λ (o : Option KeyRow). has_id (id_of row) (option_map key_of o)) same.0.0) unfit-certs))

    -- As all that is wanted does, or nowhere, where its certificate fits.
    pub certified-by : work.certs ≡ unfit plan_input Certificate
        (wanted_certificates plan_input.basis.configs plan_input.basis.sets nexts)
        → (row : KeyRow)
        → ((one other : CertWork) → Contains (all_certificates plan_input keys) one
        → Contains (all_certificates plan_input keys) other
        → names_key (there keys) one.subject row ≡ true → names_key (there keys) other.subject row ≡ true
        → one ≡ other)
        → IsCertifiedBy plan_input work found keys row
    certified-by certs row once = by (find test all) refl
      where
        all : List CertWork
        all = all_certificates plan_input keys

        test : CertWork → Bool
        test cert = names_key (there keys) cert.subject row

        fresh : CertWork → Bool
        fresh cert = not (keeps_certificate plan_input keys cert)

        tell : Option CertWork → Option (List ℕ)
        tell o = option_map (λ issuer. made_uri plan_input.site (names_of plan_input.basis.configs) issuer row)
            (option_and_then (λ (cert : CertWork). key_named (there keys) cert.issuer) o)

        passed : (cert : CertWork) → find test all ≡ Some cert → (b : Bool)
            → keeps_certificate plan_input keys cert ≡ b → IsCertifiedBy plan_input work found keys row
        passed cert is false isnt = inl (made-anew certs row
            ∙ ap tell (find-filtered test fresh all cert is (ap not isnt) ∙ sym is))
        passed cert is true keeps =
            let at = found-in test all cert is in
            inr (
              made-anew certs row ∙ ap tell (find-none test fresh all (λ other c names.
                  ap (λ (x : CertWork). not (keeps_certificate plan_input keys x)) (once other cert c at.0 names at.1)
                  ∙ ap not keeps)),
              (cert, at.0, at.1, keeps),
            )

        by : (o : Option CertWork) → find test all ≡ o → IsCertifiedBy plan_input work found keys row
        by None is = inl (made-anew certs row ∙ ap tell (find-none test fresh all (λ other c names.
            absurd (none-some (is-found test all other c names).0 (sym is ∙ (is-found test all other c names).1)))
            ∙ sym is))
        by (Some cert) is = passed cert is (keeps_certificate plan_input keys cert) refl
