-- No two objects of an edition that wants all afresh are put at one URI.
use Rattle.std.proofs.Common.{◌≡◌, ◌≢◌, ℕ, eqb, Bool, true, false, Some, List, [], ◌∷◌, ◌++◌, refl, sym, ap, subst, ◌∙◌, ◌⊎◌, inl, inr}
use Rattle.std.specs.Prelude.{codes}
use Rattle.std.specs.List.{All, slice_get}
use Rattle.std.proofs.lemmas.Bool.{false≢true, eqb-true, eq-eqb}
use Rattle.std.proofs.lemmas.Option.{same_Some, slice_get_within, get_or_from_slice_get}
use Rattle.der.specs.Grammar.{AreBytes}
use Rattle.names.specs.Name.{IsName}
use Rattle.hex.specs.Hex.{encode_lower}
use Rattle.cert_obj.specs.laws.IdentifierLaws.{sha1-bytes}
use Rattle.key_ids.specs.Uris.{Bases, crl_uri, manifest_uri}
use Rattle.authority_book.specs.declared.rows.NameRow.{NameRow}
use Rattle.authority_book.specs.Listed.{place_of}
use Rattle.authority_book.specs.Settings.{Settings}
use Rattle.entitle.specs.declared.trees.Owed.{Owed}
use Rattle.entitle.specs.Certified.{names_of}
use Rattle.key_roll.specs.declared.rows.KeyRow.{KeyRow}
use Rattle.issue_keys.specs.Keys.{id_of}
use Rattle.issue_drafts.specs.Drafts.{Draft}
use Rattle.issue_drafts.specs.Drafts.Kind.{Crl, Manifest}
use Rattle.issue_plan.specs.Keys.{next_keys}
use Rattle.issue_plan.specs.Wanted.{PlanInput}
use Rattle.issue_values.specs.UriEndings.{last_byte}
use Rattle.items.specs.laws.AmongLaws.{In, in-parts, filter-map-in}
use Rattle.editions.proofs.PlanLemmas.Pairs.{Twos, twos-from, twos-right, twos-given, twos-append}
use Rattle.editions.proofs.PlanLemmas.Places.{placed}
use Rattle.editions.proofs.PlanLemmas.Beside.{IsBeside}
use Rattle.editions.proofs.PlanLemmas.Anchor.{AreOther}
use Rattle.editions.proofs.PlanLemmas.Owing.{AreOthers}
use Rattle.editions.proofs.PlanLemmas.Drafted.{AreKnown, IsListed, cert_for, roa_for, crl_for, manifest_for, all_certs, all_roas, all_crls, all_manifests, all_puts, HasCert, HasPoint, HasRoa, cert-of-key, crl-of-key, manifest-of-key, roa-of-owed}
use Rattle.editions.proofs.PlanLemmas.Told.{AreTold, HaveEnds, ends-apart, cert-roa, cert-crl, cert-manifest, roa-crl, roa-manifest, crl-manifest}

pub own-bytes : (k : KeyRow) → AreBytes (id_of k)
own-bytes k = sha1-bytes k.key.bytes

-- Two keys with identifiers of their own, of which at most one is the trust anchor's.
abbrev pub AreTwo : KeyRow → KeyRow → Type 0
AreTwo a b = (id_of a ≢ id_of b) × (a.desk ≡ 0 → b.desk ≢ 0)

-- Two drafts at URIs of their own.
abbrev pub AreAway : Draft → Draft → Type 0
AreAway a b = a.uri ≢ b.uri

-- A name of the tree is a name.
pub name-ok : (configs : List Settings) (place : ℕ) (row : NameRow) → All (λ row. IsName row.name) (names_of configs)
    → slice_get (names_of configs) place ≡ Some row → IsName row.name
name-ok configs place row all e =
    subst (λ (r : NameRow). IsName r.name) (get_or_from_slice_get (names_of configs) place row row e)
    (all place row (slice_get_within (names_of configs) place row e))

pub listed-ok : (configs : List Settings) (name : List ℕ) → All (λ row. IsName row.name) (names_of configs) → IsListed configs name
    → IsName name
listed-ok configs name all is = subst IsName is.says (name-ok configs is.place is.row all is.there)

module _ (plan_input : PlanInput) (ks : List KeyRow) (known : AreKnown plan_input ks) where
  -- ---- each draft is that of a key or of an origin

  pub cert-from : (d : Draft) → In d (all_certs plan_input ks)
      → (k : KeyRow) × In k ks × (h : HasCert plan_input ks k) × (h.draft ≡ d)
  cert-from d at =
      let w = filter-map-in (cert_for plan_input ks) d ks at in
      let h = cert-of-key plan_input ks known w.0 w.1 in
      (w.0, w.1, h, same_Some h.draft d (sym h.is ∙ w.2))

  pub crl-from : (d : Draft) → In d (all_crls plan_input ks)
      → (k : KeyRow) × In k ks × (h : HasPoint plan_input (crl_for plan_input ks k) Crl (crl_uri plan_input.site) k) × (h.draft ≡ d)
  crl-from d at =
      let w = filter-map-in (crl_for plan_input ks) d ks at in
      let h = crl-of-key plan_input ks known w.0 w.1 in
      (w.0, w.1, h, same_Some h.draft d (sym h.is ∙ w.2))

  pub manifest-from : (d : Draft) → In d (all_manifests plan_input ks)
      → (k : KeyRow) × In k ks × (h : HasPoint plan_input (manifest_for plan_input ks k) Manifest (manifest_uri plan_input.site) k) × (h.draft ≡ d)
  manifest-from d at =
      let w = filter-map-in (manifest_for plan_input ks) d ks at in
      let h = manifest-of-key plan_input ks known w.0 w.1 in
      (w.0, w.1, h, same_Some h.draft d (sym h.is ∙ w.2))

  pub roa-from : (d : Draft) → In d (all_roas plan_input ks)
      → (o : Owed) × In o plan_input.owed × (h : HasRoa plan_input ks o) × (h.draft ≡ d)
  roa-from d at =
      let w = filter-map-in (roa_for plan_input ks) d plan_input.owed at in
      let h = roa-of-owed plan_input ks known w.0 w.1 in
      (w.0, w.1, h, same_Some h.draft d (sym h.is ∙ w.2))

module _ (plan_input : PlanInput) (ks : List KeyRow) (known : AreKnown plan_input ks)
    (plain : All (λ row. IsName row.name) (names_of plan_input.basis.configs)) (told : AreTold) (ends : HaveEnds) where
  abbrev site : Bases
  site = plan_input.site

  abbrev configs : List Settings
  configs = plan_input.basis.configs

  abbrev names : List NameRow
  names = names_of plan_input.basis.configs

  -- ---- kinds

  cert-uri-end : (k : KeyRow) (h : HasCert plan_input ks k) → last_byte h.draft.uri ≡ 114
  cert-uri-end k h = by (eqb k.desk 0) refl
    where
      by : (b : Bool) → eqb k.desk 0 ≡ b → last_byte h.draft.uri ≡ 114
      by true e = ap last_byte (h.anchor (eqb-true k.desk 0 e)) ∙ ends.anchor site
      by false e =
          let c = h.below (λ zero_desk. false≢true (sym e ∙ eq-eqb k.desk 0 zero_desk)) in
          ap last_byte c.3 ∙ ends.certificates site c.0 (id_of k)

  pub cert-end : (d : Draft) → In d (all_certs plan_input ks) → last_byte d.uri ≡ 114
  cert-end d at =
      let w = cert-from plan_input ks known d at in
      subst (λ (x : Draft). last_byte x.uri ≡ 114) w.3 (cert-uri-end w.0 w.2)

  pub crl-end : (d : Draft) → In d (all_crls plan_input ks) → last_byte d.uri ≡ 108
  crl-end d at =
      let w = crl-from plan_input ks known d at in
      subst (λ (x : Draft). last_byte x.uri ≡ 108) w.3 (ap last_byte w.2.uri ∙ ends.crls site w.2.name.name (id_of w.0))

  pub manifest-end : (d : Draft) → In d (all_manifests plan_input ks) → last_byte d.uri ≡ 116
  manifest-end d at =
      let w = manifest-from plan_input ks known d at in
      subst (λ (x : Draft). last_byte x.uri ≡ 116) w.3 (ap last_byte w.2.uri ∙ ends.manifests site w.2.name.name (id_of w.0))

  pub roa-end : (d : Draft) → In d (all_roas plan_input ks) → last_byte d.uri ≡ 97
  roa-end d at =
      let w = roa-from plan_input ks known d at in
      subst (λ (x : Draft). last_byte x.uri ≡ 97) w.3 (ap last_byte w.2.uri ∙ ends.roas site w.2.name.name w.0.origin)

  -- ---- of one kind

  certs-away : (a b : KeyRow) (g : HasCert plan_input ks a) (h : HasCert plan_input ks b) → AreTwo a b
      → g.draft.uri ≢ h.draft.uri
  certs-away a b g h two same = by (eqb a.desk 0) (eqb b.desk 0) refl refl
    where
      off : (k : KeyRow) → eqb k.desk 0 ≡ false → k.desk ≢ 0
      off k e = λ zero_desk. false≢true (sym e ∙ eq-eqb k.desk 0 zero_desk)

      by : (x y : Bool) → eqb a.desk 0 ≡ x → eqb b.desk 0 ≡ y → ⊥
      by true true e f = two.1 (eqb-true a.desk 0 e) (eqb-true b.desk 0 f)
      by true false e f =
          let d = h.below (off b f) in
          told.anchor site d.0 (encode_lower (id_of b) ++ codes ".cer") (sym (g.anchor (eqb-true a.desk 0 e)) ∙ (same ∙ d.3))
      by false true e f =
          let c = g.below (off a e) in
          told.anchor site c.0 (encode_lower (id_of a) ++ codes ".cer") (sym (h.anchor (eqb-true b.desk 0 f)) ∙ (sym same ∙ c.3))
      by false false e f =
          let c = g.below (off a e) in
          let d = h.below (off b f) in
          two.0 (told.certificates site c.0 d.0 (id_of a) (id_of b) (listed-ok configs c.0 plain c.2) (listed-ok configs d.0 plain d.2) (own-bytes a) (own-bytes b)
          (sym c.3 ∙ (same ∙ d.3))).1

  module _ (anchors : Twos (λ a b. a.desk ≡ 0 → b.desk ≢ 0) (next_keys plan_input.basis)) where
    two-keys : Twos AreTwo ks
    two-keys = both ks (twos-from (λ a b. id_of a ≢ id_of b) ks known.own)
        (twos-right (IsBeside plan_input.basis.rows) AreOther (λ a b. a.desk ≡ 0 → b.desk ≢ 0) (next_keys plan_input.basis) ks
        (λ x y a b other p q one two. other (sym p.desk ∙ one) (sym q.desk ∙ two)) known.sides anchors)
      where
        both : (l : List KeyRow) → Twos (λ a b. id_of a ≢ id_of b) l → Twos (λ a b. a.desk ≡ 0 → b.desk ≢ 0) l → Twos AreTwo l
        both [] p q = tt
        both (x ∷ l) p q = ((λ y at. (p.0 y at, q.0 y at)), both l p.1 q.1)

    certs-twos : Twos AreAway (all_certs plan_input ks)
    certs-twos =
        twos-given (cert_for plan_input ks) AreTwo AreAway ks (λ a b d e at there two g h.
        let one = cert-of-key plan_input ks known a at in
        let other = cert-of-key plan_input ks known b there in
        let first : one.draft ≡ d = same_Some one.draft d (sym one.is ∙ g) in
        let second : other.draft ≡ e = same_Some other.draft e (sym other.is ∙ h) in
        λ same. certs-away a b one other two
        (ap (λ (x : Draft). x.uri) first ∙ (same ∙ ap (λ (x : Draft). x.uri) (sym second)))) two-keys

    crls-twos : Twos AreAway (all_crls plan_input ks)
    crls-twos =
        twos-given (crl_for plan_input ks) AreTwo AreAway ks (λ a b d e at there two g h.
        let one = crl-of-key plan_input ks known a at in
        let other = crl-of-key plan_input ks known b there in
        let first : one.draft ≡ d = same_Some one.draft d (sym one.is ∙ g) in
        let second : other.draft ≡ e = same_Some other.draft e (sym other.is ∙ h) in
        λ same. two.0 (told.crls site one.name.name other.name.name (id_of a) (id_of b)
        (name-ok configs a.desk one.name plain one.called) (name-ok configs b.desk other.name plain other.called)
        (own-bytes a) (own-bytes b)
        (sym one.uri ∙ (ap (λ (x : Draft). x.uri) first ∙ (same ∙ (ap (λ (x : Draft). x.uri) (sym second) ∙ other.uri))))).1)
        two-keys

    manifests-twos : Twos AreAway (all_manifests plan_input ks)
    manifests-twos =
        twos-given (manifest_for plan_input ks) AreTwo AreAway ks (λ a b d e at there two g h.
        let one = manifest-of-key plan_input ks known a at in
        let other = manifest-of-key plan_input ks known b there in
        let first : one.draft ≡ d = same_Some one.draft d (sym one.is ∙ g) in
        let second : other.draft ≡ e = same_Some other.draft e (sym other.is ∙ h) in
        λ same. two.0 (told.manifests site one.name.name other.name.name (id_of a) (id_of b)
        (name-ok configs a.desk one.name plain one.called) (name-ok configs b.desk other.name plain other.called)
        (own-bytes a) (own-bytes b)
        (sym one.uri ∙ (ap (λ (x : Draft). x.uri) first ∙ (same ∙ (ap (λ (x : Draft). x.uri) (sym second) ∙ other.uri))))).1)
        two-keys

    roas-twos : Twos AreOthers plan_input.owed → Twos AreAway (all_roas plan_input ks)
    roas-twos others =
        twos-given (roa_for plan_input ks) AreOthers AreAway plan_input.owed (λ a b d e at there two g h.
        let one = roa-of-owed plan_input ks known a at in
        let other = roa-of-owed plan_input ks known b there in
        let first : one.draft ≡ d = same_Some one.draft d (sym one.is ∙ g) in
        let second : other.draft ≡ e = same_Some other.draft e (sym other.is ∙ h) in
        λ same.
        let t = told.roas site one.name.name other.name.name a.origin b.origin
        (name-ok configs a.desk one.name plain one.called) (name-ok configs b.desk other.name plain other.called)
        (sym one.uri ∙ (ap (λ (x : Draft). x.uri) first ∙ (same ∙ (ap (λ (x : Draft). x.uri) (sym second) ∙ other.uri)))) in
        let desks : Some a.desk ≡ Some b.desk =
        sym (placed names a.desk one.name known.named.tree.apart one.called)
        ∙ (ap (place_of names) t.0 ∙ placed names b.desk other.name known.named.tree.apart other.called) in
        two (same_Some a.desk b.desk desks) t.1) others

    -- ---- all

    pub puts-twos : Twos AreOthers plan_input.owed → Twos AreAway (all_puts plan_input ks)
    puts-twos others =
        twos-append AreAway ((all_certs plan_input ks ++ all_roas plan_input ks) ++ all_crls plan_input ks) (all_manifests plan_input ks)
        (twos-append AreAway (all_certs plan_input ks ++ all_roas plan_input ks) (all_crls plan_input ks)
        (twos-append AreAway (all_certs plan_input ks) (all_roas plan_input ks) certs-twos (roas-twos others)
        (λ a b c d. ends-apart a.uri b.uri 114 97 (cert-end a c) (roa-end b d) cert-roa))
        crls-twos (λ a b c d. before-crl a b (in-parts a (all_certs plan_input ks) (all_roas plan_input ks) c) d))
        manifests-twos
        (λ a b c d. before-manifest a b
        (in-parts a (all_certs plan_input ks ++ all_roas plan_input ks) (all_crls plan_input ks) c) d)
      where
        before-crl : (a b : Draft) → In a (all_certs plan_input ks) ⊎ In a (all_roas plan_input ks) → In b (all_crls plan_input ks)
            → AreAway a b
        before-crl a b (inl c) d = ends-apart a.uri b.uri 114 108 (cert-end a c) (crl-end b d) cert-crl
        before-crl a b (inr c) d = ends-apart a.uri b.uri 97 108 (roa-end a c) (crl-end b d) roa-crl

        first-two : (a b : Draft) → In a (all_certs plan_input ks) ⊎ In a (all_roas plan_input ks) → In b (all_manifests plan_input ks)
            → AreAway a b
        first-two a b (inl c) d = ends-apart a.uri b.uri 114 116 (cert-end a c) (manifest-end b d) cert-manifest
        first-two a b (inr c) d = ends-apart a.uri b.uri 97 116 (roa-end a c) (manifest-end b d) roa-manifest

        before-manifest : (a b : Draft) → In a (all_certs plan_input ks ++ all_roas plan_input ks) ⊎ In a (all_crls plan_input ks)
            → In b (all_manifests plan_input ks) → AreAway a b
        before-manifest a b (inl c) d = first-two a b (in-parts a (all_certs plan_input ks) (all_roas plan_input ks) c) d
        before-manifest a b (inr c) d = ends-apart a.uri b.uri 108 116 (crl-end a c) (manifest-end b d) crl-manifest
