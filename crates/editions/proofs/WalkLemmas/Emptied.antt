-- At the places of keys that aren't live nothing stands.
use Rattle.std.proofs.Common.{◌≡◌, ◌≢◌, ℕ, ◌+◌, Bool, true, false, cond, List, [], ◌∷◌, ◌++◌, All, AllPairs, Contains, codes, refl, sym, ap, subst, ◌∙◌}
use Rattle.std.proofs.lemmas.List.Elements.{All-contains}
use Rattle.der.specs.Grammar.{AreBytes}
use Rattle.names.specs.Name.{IsName}
use Rattle.hex.specs.Hex.{encode_lower}
use Rattle.key_ids.specs.Uris.{Bases, anchor_uri, cert_uri, crl_uri, manifest_uri}
use Rattle.authority_book.specs.declared.rows.NameRow.{NameRow}
use Rattle.entitle.specs.Certified.{names_of}
use Rattle.cert_obj.specs.laws.IdentifierLaws.{sha1-bytes}
use Rattle.key_roll.specs.declared.rows.KeyRow.{KeyRow}
use Rattle.issue_values.specs.UriEndings.{last_byte}
use Rattle.issue_keys.specs.Keys.{id_of}
use Rattle.issue_drafts.specs.Publishers.{is_key, name_at, made_uri}
use Rattle.issue_drafts.specs.Drafts.{Draft, Kind, serial_behind}
use Rattle.issue_drafts.specs.Drafts.Kind.{Certificate, Roa, Crl, Manifest}
use Rattle.issue_sign.specs.Objects.{number_of}
use Rattle.editions.specs.Edition.{Edition, set_after}
use Rattle.editions.specs.Clear.{IsElsewhere}
use Rattle.editions.specs.Names.{AreTree}
use Rattle.editions.specs.Wanted.{new_objects, keeps_point}
use Rattle.editions.specs.Objects.{Issuance}
use Rattle.editions.specs.Step.{Premises, IsStep, AreSteps, configs_at, counted}
use Rattle.editions.specs.MadeIn.{issuance_of, AreClear}
use Rattle.items.specs.laws.AmongLaws.{contains-in}
use Rattle.items.specs.laws.ElementLaws.{into-map}
use Rattle.editions.proofs.PlanLemmas.Told.{AreTold, HaveEnds, ends-apart, cert-roa, cert-crl, cert-manifest, roa-crl, roa-manifest, crl-manifest}
use Rattle.editions.proofs.ObjectLemmas.Standing.{IsPlacedAt}
use Rattle.editions.proofs.ObjectLemmas.Left.{IsSubject, of-keys}
use Rattle.editions.proofs.WalkLemmas.Folders.{plain-name}
use Rattle.editions.proofs.WalkLemmas.KeyTree.{in-tree}
use Rattle.editions.proofs.WalkLemmas.Rows.{rows-apart, last-step}

id-by : (b : Bool) (one two : KeyRow) (id : List ℕ) → id_of one ≡ id → id_of two ≡ id → id_of (cond b one two) ≡ id
id-by true one two id first second = first
id-by false one two id first second = second

module _ (told : AreTold) (ends : HaveEnds) (premises : Premises) (editions : List Edition) (edition : Edition)
    (steps : AreSteps premises (editions ++ edition ∷ []))
    (tree : AreTree (names_of (configs_at premises.lists edition.cut)))
    (plain : All (λ row. IsName row.name) (names_of (configs_at premises.lists edition.cut))) where
  last : (clock : ℕ) × IsStep premises clock editions edition
  last = last-step premises editions edition steps

  abbrev step : IsStep premises last.0 editions edition
  step = last.1

  abbrev m : Issuance
  m = issuance_of premises last.0 editions edition step

  abbrev site : Bases
  site = m.plan_input.site

  abbrev names : List NameRow
  names = names_of m.plan_input.basis.configs

  before : AllPairs (λ a b. id_of a ≢ id_of b) m.plan_input.basis.rows
  before = rows-apart premises editions edition steps

  name-of : (k : KeyRow) → Contains m.keys k → IsName (name_at names k.desk)
  name-of k c =
      let is = in-tree m.plan_input.basis m.keys tree step.made.certified before step.made.next k
      (contains-in k m.keys c) in
      plain-name names plain k.desk is.name is.is.named

  -- A key of the edition has a row in it.
  counted-id : (k : KeyRow) → id_of (counted m.plan_input m.keys m.entries k) ≡ id_of k
  counted-id k = id-by (keeps_point m.plan_input m.keys k)
      (record k { next_serial = serial_behind (new_objects m.plan_input m.keys) k })
      (record k {
        next_serial = serial_behind (new_objects m.plan_input m.keys) k + 1;
        number = number_of k;
        this_update = m.plan_input.basis.moment;
        revoked = m.entries k;
      }) (id_of k) refl refl

  module _ (id : List ℕ) (bytes : AreBytes id) (other : All (λ row. id_of row ≢ id) edition.rows) where
    other-key : (k : KeyRow) → Contains m.keys k → id_of k ≢ id
    other-key k c is =
        All-contains (λ (row : KeyRow). id_of row ≢ id) edition.rows (counted m.plan_input m.keys m.entries k) other
        (subst (λ (rows : List KeyRow). Contains rows (counted m.plan_input m.keys m.entries k)) (sym step.made.rows)
        (into-map (counted m.plan_input m.keys m.entries) m.keys k c))
        (counted-id k ∙ is)

    certificate-elsewhere : (d : Draft) (issuer subject : KeyRow) → Contains m.keys issuer → Contains m.keys subject
        → d.uri ≡ made_uri site names issuer subject → IsElsewhere site id d.uri
    certificate-elsewhere d issuer subject live has placed = by (is_key issuer subject) placed
      where
        kind : (uri : List ℕ) → last_byte uri ≡ 114
            → ((name : List ℕ) → IsName name → uri ≢ cert_uri site name id) → IsElsewhere site id uri
        kind uri ends_so certificate = record {
          certificate = certificate;
          crl = λ name good. ends-apart uri (crl_uri site name id) 114 108 ends_so (ends.crls site name id) cert-crl;
          manifest = λ name good.
              ends-apart uri (manifest_uri site name id) 114 116 ends_so (ends.manifests site name id) cert-manifest;
        }

        by : (b : Bool)
            → d.uri ≡ cond b (anchor_uri site) (cert_uri site (name_at names issuer.desk) (id_of subject))
            → IsElsewhere site id d.uri
        by true is = kind d.uri (ap last_byte is ∙ ends.anchor site)
            (λ name good there. told.anchor site name (encode_lower id ++ codes ".cer") (sym is ∙ there))
        by false is = kind d.uri (ap last_byte is ∙ ends.certificates site (name_at names issuer.desk) (id_of subject))
            (λ name good there. other-key subject has (told.certificates site (name_at names issuer.desk) name
            (id_of subject) id (name-of issuer live) good (sha1-bytes subject.key.bytes) bytes (sym is ∙ there)).1)

    elsewhere : (d : Draft) (kind : Kind) → Contains m.keys d.issuer → IsPlacedAt m d kind → IsSubject m.keys kind
        → IsElsewhere site id d.uri
    elsewhere d (Certificate subject held) live placed has =
        certificate-elsewhere d d.issuer subject live has placed
    elsewhere d (Roa origin) live placed has =
        let end : last_byte d.uri ≡ 97 = ap last_byte placed ∙ ends.roas site (name_at names d.issuer.desk) origin in
        record {
          certificate = λ name good.
              ends-apart d.uri (cert_uri site name id) 97 114 end (ends.certificates site name id)
              (λ e. cert-roa (sym e));
          crl = λ name good. ends-apart d.uri (crl_uri site name id) 97 108 end (ends.crls site name id) roa-crl;
          manifest = λ name good.
              ends-apart d.uri (manifest_uri site name id) 97 116 end (ends.manifests site name id) roa-manifest;
        }
    elsewhere d Crl live placed has =
        let name_here : List ℕ = name_at names d.issuer.desk in
        let end : last_byte d.uri ≡ 108 = ap last_byte placed ∙ ends.crls site name_here (id_of d.issuer) in
        record {
          certificate = λ name good.
              ends-apart d.uri (cert_uri site name id) 108 114 end (ends.certificates site name id)
              (λ e. cert-crl (sym e));
          crl = λ name good there. other-key d.issuer live (told.crls site name_here name (id_of d.issuer) id
              (name-of d.issuer live) good (sha1-bytes d.issuer.key.bytes) bytes (sym placed ∙ there)).1;
          manifest = λ name good.
              ends-apart d.uri (manifest_uri site name id) 108 116 end (ends.manifests site name id) crl-manifest;
        }
    elsewhere d Manifest live placed has =
        let name_here : List ℕ = name_at names d.issuer.desk in
        let end : last_byte d.uri ≡ 116 = ap last_byte placed ∙ ends.manifests site name_here (id_of d.issuer) in
        record {
          certificate = λ name good.
              ends-apart d.uri (cert_uri site name id) 116 114 end (ends.certificates site name id)
              (λ e. cert-manifest (sym e));
          crl = λ name good.
              ends-apart d.uri (crl_uri site name id) 116 108 end (ends.crls site name id)
              (λ e. crl-manifest (sym e));
          manifest = λ name good there. other-key d.issuer live (told.manifests site name_here name (id_of d.issuer) id
              (name-of d.issuer live) good (sha1-bytes d.issuer.key.bytes) bytes (sym placed ∙ there)).1;
        }

  pub clear : AreClear premises.site edition.rows (set_after (editions ++ edition ∷ []))
  clear id uri bytes other some =
      let any = (step.made.set.places uri).0 some in
      let d : Draft = any.1 in
      let of = of-keys m d (any.0, any.2, any.3) in
      subst (IsElsewhere site id) any.4
      (elsewhere id bytes other d d.kind of.live of.placed of.subject)
