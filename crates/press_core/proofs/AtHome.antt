-- What steps leave: each certificate names the folder of its key's authority.
use Rattle.std.proofs.Common.{◌≡◌, ◌≢◌, ℕ, true, List, [], ◌∷◌, ◌++◌, codes, Option, Some, sym, ap, ◌∙◌}
use Rattle.std.specs.Prelude.{All, Contains}
use Rattle.std.specs.Option.{option_map_or}
use Rattle.std.specs.Str.{bytes_eq}
use Rattle.std.proofs.lemmas.Bool.{and_from}
use Rattle.std.proofs.lemmas.List.{append_cancel_right}
use Rattle.std.proofs.lemmas.Slice.Eq.{bytes_eq-Decides}
use Rattle.items.specs.laws.AmongLaws.{in-map, any-in, contains-in}
use Rattle.items.specs.laws.PairLaws.{twos-from, twos-same}
use Rattle.sha1.specs.Sha1.{sha1}
use Rattle.names.specs.Name.{IsName}
use Rattle.key_ids.specs.Uris.{Bases, folder_of}
use Rattle.authority_book.specs.declared.rows.NameRow.{NameRow}
use Rattle.entitle.specs.Certified.{names_of}
use Rattle.key_roll.specs.declared.rows.KeyRow.{KeyRow}
use Rattle.cert_obj.specs.Values.{SignedCert}
use Rattle.pub_set.specs.declared.objects.Object.{Object}
use Rattle.pub_set.specs.Objects.{content_at}
use Rattle.pub_set.specs.Changes.{Contents}
use Rattle.rp_rules.specs.Objects.{certificate_in}
use Rattle.issue_keys.specs.Keys.{id_of}
use Rattle.issue_drafts.specs.Publishers.{name_at}
use Rattle.editions.specs.Edition.{Edition, set_after}
use Rattle.editions.specs.Names.{AreTree}
use Rattle.editions.specs.MadeIn.{AreAtHome}
use Rattle.editions.specs.Step.{Premises, AreSteps, configs_at}
use Rattle.press_core.specs.Tables.{home_of, homes_of, is_home, is_at_home}
use Rattle.press_core.specs.inner.Resumed.{IsAnchored}

abbrev pub IsHomeLaw : Type 0
IsHomeLaw = (premises : Premises) (editions : List Edition) (edition : Edition) → AreSteps premises (editions ++ edition ∷ [])
    → AreTree (names_of (configs_at premises.lists edition.cut)) → All (λ row. IsName row.name) (names_of (configs_at premises.lists edition.cut))
    → AreAtHome premises.site (names_of (configs_at premises.lists edition.cut)) edition.rows (set_after (editions ++ edition ∷ []))

-- Where the trust anchor's certificate names its folder below one base, the base is that of the steps.
module _ (site other : Bases) (names : List NameRow) (rows : List KeyRow) (objects : List Object) (set : Contents) (same : (uri : List ℕ) → content_at objects uri ≡ set uri)
    (law : AreAtHome other names rows set) (tree : AreTree names) (is : IsAnchored site rows objects) where
  one-key : (key : KeyRow) → Contains rows key → key.key.bytes ≡ is.key.key.bytes → key ≡ is.key
  one-key key live e =
      twos-same (λ (a b : KeyRow). id_of a ≢ id_of b) rows key is.key (twos-from (λ (a b : KeyRow). id_of a ≢ id_of b) rows is.apart) live is.live
      (λ apart. apart (ap sha1 e)) (λ apart. apart (ap sha1 (sym e)))

  same-base : site.rsync ≡ other.rsync
  same-base =
      let w = law is.uri is.bytes is.certificate (sym (same is.uri) ∙ is.there) is.read in
      let key : w.0 ≡ is.key = one-key w.0 w.1 (w.2 ∙ is.subject) in
      let desk : w.0.desk ≡ 0 = ap (λ (k : KeyRow). k.desk) key ∙ is.desk in
      let name : name_at names w.0.desk ≡ codes "ta" = ap (name_at names) desk ∙ ap (λ (o : Option NameRow). option_map_or (λ (n : NameRow). n.name) o []) tree.anchor in
      append_cancel_right site.rsync other.rsync (codes "ta")
      (append_cancel_right (site.rsync ++ codes "ta") (other.rsync ++ codes "ta") (codes "/0/") (sym is.folder ∙ (w.3 ∙ ap (folder_of other) name)))

  pub home : (uri bytes : List ℕ) (c : SignedCert) → set uri ≡ Some bytes → certificate_in bytes ≡ Some c → is_at_home (homes_of site names rows) c.cert ≡ true
  home uri bytes c there read =
      let w = law uri bytes c there read in
      let name = name_at names w.0.desk in
      let folder : folder_of site name ≡ c.cert.uris.folder = ap (λ (base : List ℕ). base ++ name ++ codes "/0/") same-base ∙ sym w.3 in
      any-in (is_home c.cert) (homes_of site names rows) (home_of site names w.0) (in-map (home_of site names) w.0 rows (contains-in w.0 rows w.1))
      (and_from (bytes_eq w.0.key.bytes c.cert.key) (bytes_eq (folder_of site name) c.cert.uris.folder) ((bytes_eq-Decides w.0.key.bytes c.cert.key).1 w.2)
      ((bytes_eq-Decides (folder_of site name) c.cert.uris.folder).1 folder))
