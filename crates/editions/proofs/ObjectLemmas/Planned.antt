-- The keys and the drafts of a plan.
use Rattle.std.proofs.Common.{◌≡◌, ◌≢◌, ℕ, ◌<◌, Bool, true, false, not, None, Some, List, [], ◌∷◌, map, filter, refl, sym, ap, subst, ◌∙◌, arith, inl, inr}
use Rattle.std.specs.Prelude.{AllPairs, Contains, Option, option_map, slice_get}
use Rattle.std.specs.List.{list_any}
use Rattle.std.specs.Str.{bytes_eq}
use Rattle.std.proofs.lemmas.Bool.{true≢false, not-true, false_from_ne_true}
use Rattle.std.proofs.lemmas.Option.{same_Some}
use Rattle.std.proofs.lemmas.List.Folds.{Any-from_list_any, list_any-from_Any}
use Rattle.std.proofs.lemmas.Slice.Eq.{bytes_eq-Decides}
use Rattle.key_roll.specs.declared.rows.KeyRow.{KeyRow}
use Rattle.key_roll.specs.declared.rows.Role.{Role}
use Rattle.key_roll.specs.declared.work.Work.{Work}
use Rattle.res_sets.specs.declared.holdings.Resources.{Resources}
use Rattle.key_ids.specs.declared.identifier.KeyId.{KeyId}
use Rattle.key_roll.specs.declared.work.CertWork.{CertWork}
use Rattle.key_roll.specs.declared.work.PointWork.{PointWork}
use Rattle.key_roll.specs.declared.work.KeyName.{KeyName}
use Rattle.key_roll.specs.declared.work.KeyName.TheVariants.{Live, Fresh}
use Rattle.issue_plan.specs.declared.keys.NextKey.{NextKey}
use Rattle.issue_plan.specs.Keys.{kept, next_keys}
use Rattle.issue_plan.specs.Fits.{fits}
use Rattle.issue_plan.specs.Wanted.{PlanInput, Point, point_of, wanted_points, certificate, certificate_of, issuer_of}
use Rattle.issue_plan.specs.Work.{IsWork}
use Rattle.issue_keys.specs.Keys.{id_of}
use Rattle.issue_keys.specs.Indexes.{has_id}
use Rattle.issue_drafts.specs.WorkKeys.{Keys, key_of, all_keys, key_named}
use Rattle.issue_drafts.specs.Publishers.{names_key}
use Rattle.issue_drafts.specs.Revoking.{has_point}
use Rattle.issue_make.specs.Trace.{AreKeys, rank}
use Rattle.issue_drafts.specs.IssueInput.{IssueInput}
use Rattle.editions.specs.Keys.{IsNextBy}
use Rattle.editions.specs.Wanted.{there, all_certificates, keeps_point}
use Rattle.editions.specs.inner.PlanAndTable.{made_from, AreOfPlan}
use Rattle.items.specs.laws.PairLaws.{Each, Sides, Twos, each-at, each-from, each-sides, side-of, twos-sides}
use Rattle.items.specs.laws.ElementLaws.{here, into-map, from-map, into-filter, from-filter, from-filter_map}
use Rattle.items.specs.laws.ElementLaws.{there as there-of}
use Rattle.editions.proofs.ObjectLemmas.Named.{self-named}
use Rattle.editions.proofs.ObjectLemmas.Views.{apart-same}
use Rattle.editions.proofs.ObjectLemmas.Nexts.{IsBefore, nexts-from, nexts-rise}
use Rattle.editions.proofs.ObjectLemmas.Ordered.{IsFirst, in-order}
use Rattle.editions.proofs.ObjectLemmas.PlanKeys.{IsKeyOf, ArePaired, paired}
use Rattle.editions.proofs.ObjectLemmas.PlanDrafts.{IsBeside, certified-by, drafts-same, manifests-same}
use Rattle.editions.proofs.ObjectLemmas.Alike.{AreAlike, alike-points}

module _ (plan_input : PlanInput) (work : Work) (found : Keys)
    (apart : AllPairs (λ a b. id_of a ≢ id_of b) plan_input.basis.rows)
    (is_work : IsWork plan_input (next_keys plan_input.basis) work)
    (are : AreKeys (made_from plan_input work) plan_input.basis.rows found) where
  abbrev nexts : List NextKey
  nexts = next_keys plan_input.basis

  pairs : ArePaired plan_input.basis.rows nexts found
  pairs = paired plan_input.basis.rows apart nexts
      (nexts-from plan_input.basis.rows apart plan_input.basis refl)
      (nexts-rise plan_input.basis.rows apart plan_input.basis refl) work is_work.new_keys is_work.roles
      is_work.dropped found are.kept are.fresh are.apart

  abbrev keys : List KeyRow
  keys = pairs.list

  -- A key is named by its identifier.
  own-name : (key : KeyRow) → Contains keys key → key_named (there keys) (kept key).name ≡ Some key
  own-name key c =
      let named = self-named keys key c in
      named.1 ∙ ap (λ (k : KeyRow). Some k) (apart-same keys named.0 key pairs.apart named.2 c named.3)

  -- The names of a next key and of its row are one, or that of a key which isn't live yet.
  alike-by : (next : NextKey) (name : KeyName) (key : KeyRow) → IsNextBy plan_input.basis.rows next name key
      → AreAlike plan_input.basis.rows name (kept key).name
  alike-by next (Live id) key on =
      let named : id.bytes ≡ id_of key = sym on.named ∙ ap id_of (sym on.same) in
      inl (ap (λ (bytes : List ℕ). live (record { bytes = bytes })) named)
    where
      live : KeyId → KeyName
      live id = Live id
  alike-by next (Fresh desk) key new = inr (tt, new.apart)

  beside : (xs : List NextKey) (ys : List KeyRow)
      → Sides (IsKeyOf plan_input.basis.rows found) xs ys
      → ((key : KeyRow) → Contains ys key → Contains keys key)
      → Sides (IsBeside plan_input work found nexts keys) xs ys
  beside [] [] sides inside = tt
  beside [] (y ∷ ys) sides inside = absurd sides
  beside (x ∷ xs) [] sides inside = absurd sides
  beside (x ∷ xs) (y ∷ ys) sides inside = (
    record {
      name = (
        sides.0.named ∙ sym (own-name y (inside y (here y ys))),
        alike-by x x.name y sides.0.is,
      );
      desk = sides.0.desk;
      role = sides.0.role;
    },
    beside xs ys sides.1 (λ key c. inside key (there-of y ys key c)),
  )

  all-beside : Sides (IsBeside plan_input work found nexts keys) nexts keys
  all-beside = beside nexts keys pairs.sides (λ key c. c)

  in-rank : Twos IsFirst keys
  in-rank = twos-sides (IsKeyOf plan_input.basis.rows found) IsBefore IsFirst nexts keys
      (λ x y k l r one two. elim r.order [
        | inl less ↦
            let a = one.desk in
            let b = two.desk in
            record { order = inl (omega (arith, less, a, b)) }
        | inr same ↦ record {
          order = inr (
            one.desk ∙ (same.0 ∙ sym two.desk),
            subst (λ (r : Role). rank r < rank l.role) (sym one.role)
                (subst (λ (r : Role). rank x.role < rank r) (sym two.role) same.1),
          );
        }
      ]) pairs.sides (nexts-rise plan_input.basis.rows apart plan_input.basis refl)

  -- ---- points

  abbrev s : IssueInput
  s = made_from plan_input work

  abbrev wants : KeyRow → PointWork → Bool
  wants key point = names_key found point.key key

  abbrev is_unfit : PointWork → Bool
  is_unfit point = not (fits plan_input (Point point))

  points-are : work.points ≡ filter is_unfit (wanted_points nexts)
  points-are = is_work.points

  fits-same : (next : NextKey) (key : KeyRow) → IsBeside plan_input work found nexts keys next key
      → fits plan_input (Point (point_of next)) ≡ keeps_point plan_input keys key
  fits-same next key is = alike-points plan_input (point_of next) (point_of (kept key)) is.name.1

  -- The key that stands beside a next one, and what names it.
  record IsSeated (next : NextKey) (key : KeyRow) : Type 0 where
    is : IsKeyOf plan_input.basis.rows found next key
    beside_it : IsBeside plan_input work found nexts keys next key

  seated : (xs : List NextKey) (ys : List KeyRow) → Sides (IsKeyOf plan_input.basis.rows found) xs ys
      → Sides (IsBeside plan_input work found nexts keys) xs ys → Sides IsSeated xs ys
  seated [] [] one two = tt
  seated [] (y ∷ ys) one two = absurd one
  seated (x ∷ xs) [] one two = absurd one
  seated (x ∷ xs) (y ∷ ys) one two =
      (record { is = one.0; beside_it = two.0 }, seated xs ys one.1 two.1)

  seats : Sides IsSeated nexts keys
  seats = seated nexts keys pairs.sides all-beside

  -- What a point of the work names: a key whose point doesn't fit.
  named-unfit : (key : KeyRow) → Contains keys key → list_any (wants key) work.points ≡ true
      → keeps_point plan_input keys key ≡ false
  named-unfit key c some =
      let any = Any-from_list_any (wants key) work.points some in
      let inside : Contains (filter is_unfit (wanted_points nexts)) any.1 =
      subst (λ (l : List PointWork). Contains l any.1) points-are (any.0, any.2, any.3) in
      let passes = from-filter is_unfit (wanted_points nexts) any.1 inside in
      let next = from-map point_of nexts any.1 passes.0 in
      let other = side-of IsSeated nexts keys next.0 seats next.1 in
      let named : names_key found next.0.name key ≡ true =
      ap (λ (point : PointWork). names_key found point.key key) next.2 ∙ any.4 in
      let same : bytes_eq (id_of other.0) (id_of key) ≡ true =
      sym (ap (λ (o : Option KeyRow). has_id (id_of key) (option_map key_of o)) other.2.is.named) ∙ named in
      let one : other.0 ≡ key = apart-same keys other.0 key pairs.apart other.1 c
      ((bytes_eq-Decides (id_of other.0) (id_of key)).0 same) in
      ap (keeps_point plan_input keys) (sym one)
      ∙ (sym (fits-same next.0 other.0 other.2.beside_it)
      ∙ not-true (fits plan_input (Point (point_of next.0)))
      (ap is_unfit next.2 ∙ passes.1))

  unfit-named : (next : NextKey) (key : KeyRow) → Contains nexts next → IsSeated next key
      → keeps_point plan_input keys key ≡ false → list_any (wants key) work.points ≡ true
  unfit-named next key c is isnt =
      let point : PointWork = point_of next in
      let passes : is_unfit point ≡ true = ap not (fits-same next key is.beside_it ∙ isnt) in
      let inside : Contains work.points point = subst (λ (l : List PointWork). Contains l point)
      (sym points-are)
      (into-filter is_unfit (wanted_points nexts) point passes (into-map point_of nexts next c)) in
      let named : names_key found next.name key ≡ true =
      ap (λ (o : Option KeyRow). has_id (id_of key) (option_map key_of o)) is.is.named
      ∙ (bytes_eq-Decides (id_of key) (id_of key)).1 refl in
      list_any-from_Any (wants key) work.points (inside.0, point, inside.1, inside.2, named)

  -- Just the keys whose points don't fit get new ones.
  pointed-by : (next : NextKey) (key : KeyRow) → Contains nexts next → Contains keys key → IsSeated next key
      → (b : Bool) → keeps_point plan_input keys key ≡ b → has_point s found key ≡ not b
  pointed-by next key c d is false isnt = unfit-named next key c is isnt
  pointed-by next key c d is true keeps =
      false_from_ne_true (list_any (wants key) work.points)
      (λ some. true≢false (sym keeps ∙ named-unfit key d some))

  abbrev IsPointed : KeyRow → Type 0
  IsPointed key = Contains keys key → has_point s found key ≡ not (keeps_point plan_input keys key)

  pointed : Each IsPointed keys
  pointed = each-sides IsSeated (Contains nexts) IsPointed nexts keys
      (λ next key c is d. pointed-by next key c d is (keeps_point plan_input keys key) refl)
      seats (each-from (Contains nexts) nexts (λ next c. c))

  -- ---- certificates

  subject-by : (name : KeyName) (o : Option KeyName) (set : Option Resources) (cert : CertWork)
      → certificate name o set ≡ Some cert → cert.subject ≡ name
  subject-by name None set cert e = absurd cc
  subject-by name (Some issuer) None cert e = absurd cc
  subject-by name (Some issuer) (Some set) cert e =
      sym (ap (λ (c : CertWork). c.subject)
      (same_Some (record { subject = name; issuer = issuer; held = set }) cert e))

  abbrev wanted_for : NextKey → Option CertWork
  wanted_for = certificate_of plan_input.basis.configs plan_input.basis.sets (map kept keys)

  -- The key for which a certificate is wanted.
  record IsFor (row : KeyRow) (cert : CertWork) : Type 0 where
    key : KeyRow
    live : Contains keys key
    is : wanted_for (kept key) ≡ Some cert
    same : id_of key ≡ id_of row

  is-for : (row : KeyRow) (cert : CertWork) → Contains (all_certificates plan_input keys) cert
      → names_key (there keys) cert.subject row ≡ true → IsFor row cert
  is-for row cert c names =
      let next = from-filter_map wanted_for (map kept keys) cert c in
      let key = from-map kept keys next.0 next.1 in
      let of_key : wanted_for (kept key.0) ≡ Some cert = ap wanted_for key.2 ∙ next.2 in
      let subject : cert.subject ≡ (kept key.0).name = subject-by (kept key.0).name
      (issuer_of plan_input.basis.configs (map kept keys) (kept key.0))
      (slice_get plan_input.basis.sets key.0.desk) cert of_key in
      let same : bytes_eq (id_of key.0) (id_of row) ≡ true =
      sym (ap (λ (name : KeyName). names_key (there keys) name row) subject
      ∙ ap (λ (o : Option KeyRow). has_id (id_of row) (option_map key_of o)) (own-name key.0 key.1)) ∙ names in
      record {
        key = key.0;
        live = key.1;
        is = of_key;
        same = (bytes_eq-Decides (id_of key.0) (id_of row)).0 same;
      }

  once : (row : KeyRow) (one other : CertWork) → Contains (all_certificates plan_input keys) one
      → Contains (all_certificates plan_input keys) other
      → names_key (there keys) one.subject row ≡ true → names_key (there keys) other.subject row ≡ true
      → one ≡ other
  once row one other c d first second =
      let a = is-for row one c first in
      let b = is-for row other d second in
      let same : a.key ≡ b.key = apart-same keys a.key b.key pairs.apart a.live b.live (a.same ∙ sym b.same) in
      same_Some one other (sym a.is ∙ (ap (λ (k : KeyRow). wanted_for (kept k)) same ∙ b.is))

  pub of-plan : AreOfPlan plan_input work found
  of-plan = record {
    keys = keys;
    next = record { each = pairs.each; apart = pairs.apart };
    moment = is_work.moment;
    pointed = λ key c. each-at IsPointed keys key pointed c c;
    ordered = λ after keeps rows moved sorted.
        in-order (all_keys found) keys pairs.all_apart pairs.only pairs.covered in-rank after keeps
        rows moved sorted;
    same = λ key. (pairs.only key, pairs.covered key);
    published = λ row.
        certified-by plan_input work found nexts keys all-beside is_work.certs row (once row);
    drafts = drafts-same plan_input work found nexts keys all-beside is_work.certs is_work.roas
        is_work.points;
    manifests = manifests-same plan_input work found nexts keys all-beside is_work.certs
        is_work.roas is_work.points;
  }
