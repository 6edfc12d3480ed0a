-- Each object of an edition stands at one of the places of its keys' points.
use Rattle.std.proofs.Common.{◌≡◌, ◌≢◌, ◌⊎◌, ℕ, ◌==◌, Bool, true, false, not, List, ◌∷◌, ◌++◌, map, filter, AllPairs, IsSome, refl, sym, ap, subst, ◌∙◌, inl, inr}
use Rattle.std.specs.List.{filter_map, flat_map}
use Rattle.std.proofs.lemmas.Bool.{and_from, eqb-true, not_from_false}
use Rattle.std.proofs.lemmas.Slice.Eq.{bytes_eq-Decides}
use Rattle.key_ids.specs.Uris.{Bases, anchor_uri, file_uri}
use Rattle.entitle.specs.Certified.{names_of, AreCertified}
use Rattle.entitle.specs.Owed.{AreOwed}
use Rattle.key_roll.specs.declared.rows.KeyRow.{KeyRow}
use Rattle.issue_plan.specs.declared.keys.NextKey.{NextKey}
use Rattle.issue_plan.specs.Keys.{kept, next_keys}
use Rattle.issue_plan.specs.Wanted.{point_of}
use Rattle.issue_keys.specs.Keys.{id_of}
use Rattle.issue_drafts.specs.Publishers.{is_key}
use Rattle.issue_drafts.specs.Drafts.{Draft, manifest_draft, manifests, drafts}
use Rattle.editions.specs.Keys.{AreNext}
use Rattle.editions.specs.Objects.{Issuance}
use Rattle.editions.proofs.WalkLemmas.Serving.{IsServed}
use Rattle.editions.specs.Names.{AreTree}
use Rattle.items.specs.laws.AmongLaws.{In, in-parts, in-front, in-behind, in-map, map-in, in-filter, in-flat-map, contains-in}
use Rattle.editions.proofs.WalkLemmas.Members.{members, members-are, member-of, map-map, filter-map-some}
use Rattle.editions.proofs.WalkLemmas.Levelled.{zero-or, top-place}
use Rattle.editions.proofs.WalkLemmas.Homes as homes
use Rattle.editions.proofs.WalkLemmas.KeyDrafts as drawn
use Rattle.editions.proofs.WalkLemmas.Files as files

module _ (m : Issuance) (tree : AreTree (names_of m.plan_input.basis.configs))
    (are : AreCertified m.plan_input.basis.configs m.plan_input.basis.sets)
    (before : AllPairs (λ a b. id_of a ≢ id_of b) m.plan_input.basis.rows)
    (next : AreNext m.plan_input.basis.rows (next_keys m.plan_input.basis) m.keys)
    (set : IsServed m) (anchor : List ℕ) (owes : AreOwed m.plan_input.basis.configs m.plan_input.owed)
    (apart : (site : Bases) (a f : List ℕ) → anchor_uri site ≢ file_uri site a f) where
  abbrev K : Type 0
  K = files.K m tree are before next set anchor owes apart

  abbrev O : Type 0
  O = files.O m tree are before next set anchor owes apart

  abbrev uris : K → List (List ℕ)
  uris = files.uris m tree are before next set anchor owes apart

  abbrev all : List (List ℕ)
  all = anchor_uri m.plan_input.site ∷ flat_map uris (members m.keys)

  -- A place of a key is one of all, whichever member the key is.
  of-key : (k : KeyRow) (at : In k m.keys) (uri : List ℕ) → ((e : K) → e.0 ≡ k → In uri (uris e)) → In uri all
  of-key k at uri has =
      let e = member-of k m.keys at in
      inr (in-flat-map uris e.0 uri (members m.keys) e.1 (has e.0 e.2))

  crl-in : (c : K) → In (drawn.crl m tree are before next c.0 c.1).uri all
  crl-in c = of-key c.0 c.1 (drawn.crl m tree are before next c.0 c.1).uri (λ e same.
      inr (inl (ap (λ (r : KeyRow). (drawn.crl-uri m r)) same)))

  manifest-in : (c : K) → In (drawn.manifest m tree are before next c.0 c.1).uri all
  manifest-in c = of-key c.0 c.1 (drawn.manifest m tree are before next c.0 c.1).uri (λ e same.
      inl (ap (λ (r : KeyRow). (drawn.manifest-uri m r)) same))

  roa-in : (o : O) → In o (members m.plan_input.owed)
      → In (drawn.roa_drafted m tree are before next owes o.0 o.1).uri all
  roa-in o at =
      of-key (files.signer m tree are before next set anchor owes apart o)
      (drawn.signer-at m tree are before next owes o.0 o.1)
      (drawn.roa_drafted m tree are before next owes o.0 o.1).uri (λ e same.
      let so : files.is_under m tree are before next set anchor owes apart e o ≡ true =
      (bytes_eq-Decides (id_of (files.signer m tree are before next set anchor owes apart o)) (id_of e.0)).1
      (sym (ap id_of same)) in
      inr (inr (in-behind (drawn.roa_drafted m tree are before next owes o.0 o.1).uri
      (map (λ (c : K). (files.authority m tree are before next set anchor owes apart c).uri)
      (filter (files.is_below m tree are before next set anchor owes apart e) (members m.keys)))
      (map (files.place m tree are before next set anchor owes apart)
      (filter (files.is_under m tree are before next set anchor owes apart e) (members m.plan_input.owed)))
      (in-map (files.place m tree are before next set anchor owes apart) o (filter (files.is_under m tree are before next set anchor owes apart e)
      (members m.plan_input.owed))
      (in-filter (files.is_under m tree are before next set anchor owes apart e) o
      (members m.plan_input.owed) so at)))))

  cert-in : (c : K) → In c (members m.keys) → In (homes.place m tree are before next c.0 c.1) all
  cert-in c at = by (zero-or c.0.desk)
    where
      by : (c.0.desk ≡ 0) ⊎ (c.0.desk ≢ 0) → In (homes.place m tree are before next c.0 c.1) all
      by (inl zero) = inl (sym (top-place m tree are before next set c zero))
      by (inr other) =
          of-key (files.issuer m tree are before next set anchor owes apart c)
          (homes.above m tree are before next c.0 c.1).live
          (homes.place m tree are before next c.0 c.1) (λ e same.
          let so : files.is_below m tree are before next set anchor owes apart e c ≡ true =
          and_from (not (c.0.desk == 0)) (is_key (files.issuer m tree are before next set anchor owes apart c) e.0)
          (not_from_false (c.0.desk == 0) (no-zero other))
          ((bytes_eq-Decides (id_of (files.issuer m tree are before next set anchor owes apart c)) (id_of e.0)).1
          (sym (ap id_of same))) in
          inr (inr (in-front (homes.place m tree are before next c.0 c.1)
          (map (λ (d : K). (files.authority m tree are before next set anchor owes apart d).uri)
          (filter (files.is_below m tree are before next set anchor owes apart e) (members m.keys)))
          (map (files.place m tree are before next set anchor owes apart)
          (filter (files.is_under m tree are before next set anchor owes apart e) (members m.plan_input.owed)))
          (subst (λ (u : List ℕ). In u (map (λ (d : K). (files.authority m tree are before next set anchor owes apart d).uri)
          (filter (files.is_below m tree are before next set anchor owes apart e) (members m.keys))))
          (homes.certificate-at m tree are before next c.0 c.1)
          (in-map (λ (d : K). (files.authority m tree are before next set anchor owes apart d).uri) c
          (filter (files.is_below m tree are before next set anchor owes apart e) (members m.keys))
          (in-filter (files.is_below m tree are before next set anchor owes apart e) c (members m.keys) so at))))))
        where
          no-zero : c.0.desk ≢ 0 → (c.0.desk == 0) ≡ false
          no-zero other = on (c.0.desk == 0) refl
            where
              on : (b : Bool) → (c.0.desk == 0) ≡ b → b ≡ false
              on true e = absurd (other (eqb-true c.0.desk 0 e))
              on false e = refl

  manifests-are : manifests (homes.w m tree are before next) (homes.ks m tree are before next)
      ≡ map (λ (c : K). drawn.manifest m tree are before next c.0 c.1) (members m.keys)
  manifests-are =
      ap (λ (l : List KeyRow). filter_map (manifest_draft (homes.w m tree are before next)
      (homes.ks m tree are before next)) (map point_of (map kept l))) (sym (members-are m.keys))
      ∙ (ap (λ (l : List NextKey). filter_map (manifest_draft (homes.w m tree are before next)
      (homes.ks m tree are before next)) (map point_of l))
      (map-map (λ (c : K). c.0) kept (members m.keys))
      ∙ (ap (filter_map (manifest_draft (homes.w m tree are before next)
      (homes.ks m tree are before next))) (map-map (λ (c : K). kept c.0) point_of (members m.keys))
      ∙ filter-map-some (manifest_draft (homes.w m tree are before next)
      (homes.ks m tree are before next)) (λ (c : K). point_of (kept c.0))
      (λ (c : K). drawn.manifest m tree are before next c.0 c.1) (members m.keys)
      (λ c inside. drawn.manifest-draft-is m tree are before next c.0 c.1)))

  of-drafts : (d : Draft) → In d (drafts (homes.w m tree are before next)
      (homes.ks m tree are before next)) → In d.uri all
  of-drafts d at = by (in-parts d (certs ++ roas) crls
      (subst (In d) (files.drafts-are m tree are before next set anchor owes apart) at))
    where
      certs : List Draft
      certs = map (λ (c : K). homes.draft m tree are before next c.0 c.1) (members m.keys)

      roas : List Draft
      roas = map (λ (o : O). drawn.roa_drafted m tree are before next owes o.0 o.1)
          (members m.plan_input.owed)

      crls : List Draft
      crls = map (λ (c : K). drawn.crl m tree are before next c.0 c.1) (members m.keys)

      first : In d certs ⊎ In d roas → In d.uri all
      first (inl at) =
          let w = map-in (λ (c : K). homes.draft m tree are before next c.0 c.1) d (members m.keys) at in
          subst (λ (x : Draft). In x.uri all) w.2 (cert-in w.0 w.1)
      first (inr at) =
          let w = map-in (λ (o : O). drawn.roa_drafted m tree are before next owes o.0 o.1) d
          (members m.plan_input.owed) at in
          subst (λ (x : Draft). In x.uri all) w.2 (roa-in w.0 w.1)

      by : In d (certs ++ roas) ⊎ In d crls → In d.uri all
      by (inl at) = first (in-parts d certs roas at)
      by (inr at) =
          let w = map-in (λ (c : K). drawn.crl m tree are before next c.0 c.1) d (members m.keys)
          at in
          subst (λ (x : Draft). In x.uri all) w.2 (crl-in w.0)

  pub everywhere : (uri : List ℕ) → IsSome (m.new uri) → In uri all
  everywhere uri there =
      let any = (set.places uri).0 there in
      subst (λ (u : List ℕ). In u all) any.4
      (by any.1 (in-parts any.1 (drafts (homes.w m tree are before next)
      (homes.ks m tree are before next)) (manifests (homes.w m tree are before next)
      (homes.ks m tree are before next)) (contains-in any.1 _ (any.0, any.2, any.3))))
    where
      by : (d : Draft) → In d (drafts (homes.w m tree are before next)
          (homes.ks m tree are before next)) ⊎ In d (manifests (homes.w m tree are before next)
          (homes.ks m tree are before next)) → In d.uri all
      by d (inl at) = of-drafts d at
      by d (inr at) =
          let w = map-in (λ (c : K). drawn.manifest m tree are before next c.0 c.1) d
          (members m.keys) (subst (In d) manifests-are at) in
          subst (λ (x : Draft). In x.uri all) w.2 (manifest-in w.0)
