-- What an edition holds under a key isn't revoked by the CRL that stands for it, whichever edition made that.
use Rattle.std.proofs.Common.{◌≡◌, ℕ, suc, ◌+◌, false, Some, List, [], ◌∷◌, ◌++◌, length, take, map, Contains, sym, ap, subst, ◌∙◌, arith}
use Rattle.key_ids.specs.Uris.{crl_uri}
use Rattle.entitle.specs.Certified.{names_of}
use Rattle.issue_drafts.specs.Publishers.{name_at}
use Rattle.std.specs.List.{slice_get}
use Rattle.std.proofs.lemmas.List.{take_all}
use Rattle.std.proofs.lemmas.List.Elements.{All-contains}
use Rattle.std.proofs.lemmas.Option.{slice_get_within}
use Rattle.key_roll.specs.declared.rows.KeyRow.{KeyRow}
use Rattle.key_roll.specs.declared.rows.RevokedRow.{RevokedRow}
use Rattle.cert_obj.specs.Values.{SignedCert}
use Rattle.crl_obj.specs.Values.{CrlValue}
use Rattle.crl_obj.specs.declared.values.CrlEntry.{CrlEntry}
use Rattle.rp_rules.specs.Certificates.{is_revoked}
use Rattle.issue_values.specs.Bodies.{crl_entry}
use Rattle.issue_keys.specs.Keys.{id_of}
use Rattle.editions.specs.Edition.{Edition, set_after}
use Rattle.editions.specs.Held.{IsHeld, Holds, HaveOwnSerials}
use Rattle.editions.specs.Superseded.{AreSuperseded}
use Rattle.editions.specs.Wanted.{keeps_point}
use Rattle.editions.specs.Objects.{Issuance}
use Rattle.editions.specs.Step.{Premises, IsStep, AreSteps, counted}
use Rattle.editions.specs.MadeIn.{issuance_of}
use Rattle.items.specs.laws.AmongLaws.{In, in-contains}
use Rattle.editions.proofs.ObjectLemmas.Views.{key-row}
use Rattle.editions.proofs.ObjectLemmas.History.{take-next, seen, Stands}
use Rattle.editions.proofs.ObjectLemmas.Left.{front-steps}
use Rattle.editions.proofs.ObjectLemmas.Lasts.{get-last, more-count, holds-then}
use Rattle.editions.proofs.ObjectLemmas.Numbers.{listing}
use Rattle.editions.proofs.ObjectLemmas.Pointed.{has-put}
use Rattle.editions.proofs.WalkLemmas.Serials.{unrevoked}
use Rattle.editions.proofs.WalkLemmas.Serving.{IsServed}

module _ (own : (premises : Premises) (editions : List Edition) (id : List ℕ) → AreSteps premises editions
    → HaveOwnSerials editions id)
    (premises : Premises) (editions : List Edition) (edition : Edition)
    (steps : AreSteps premises (editions ++ edition ∷ [])) where
  abbrev more : List Edition
  more = editions ++ edition ∷ []

  abbrev count : ℕ
  count = length editions

  abbrev last : slice_get more count ≡ Some edition
  last = get-last editions edition

  -- The entries that a key's row has leave out what is held.
  row-leaves : (row : KeyRow) → Contains edition.rows row → (c : SignedCert) → IsHeld (set_after more) (id_of row) c
      → is_revoked (map crl_entry row.revoked) c.cert.serial ≡ false
  row-leaves row inside c held =
      let put = has-put premises more steps count edition last row inside in
      let id : List ℕ = id_of row in
      let within = slice_get_within more put.position put.edition put.there in
      let front : List Edition = take put.position more in
      let whole : take (put.position + 1) more ≡ front ++ put.edition ∷ [] =
      take-next more put.position put.edition put.there in
      let then : Holds more put.position id c = put.stood c (holds-then editions edition id c held) in
      let now : IsHeld (set_after (front ++ put.edition ∷ [])) id c =
      subst (λ (l : List Edition). IsHeld (set_after l) id c) whole then in
      let v = seen premises more steps put.position put.edition put.there in
      let are : AreSuperseded (front ++ put.edition ∷ []) (length front) (id_of put.key) (v.m.entries put.key) =
      All-contains (λ (k : KeyRow). keeps_point v.m.plan_input v.m.keys k ≡ false
      → AreSuperseded (front ++ put.edition ∷ []) (length front) (id_of k) (v.m.entries k)) v.m.keys put.key v.revoked
      put.among put.fresh in
      let front_steps : AreSteps premises (front ++ put.edition ∷ []) =
      subst (AreSteps premises) whole (front-steps premises more (put.position + 1) steps) in
      ap (λ (entries : List RevokedRow). is_revoked (map crl_entry entries) c.cert.serial) put.revoked
      ∙ unrevoked front put.edition id (v.m.entries put.key)
      (own premises (front ++ put.edition ∷ []) id front_steps)
      (subst (λ (i : List ℕ). AreSuperseded (front ++ put.edition ∷ []) (length front) i (v.m.entries put.key))
      put.named are) c now

  module _ (clock : ℕ) (step : IsStep premises clock editions edition)
      (set : IsServed (issuance_of premises clock editions edition step)) where
    abbrev m : Issuance
    m = issuance_of premises clock editions edition step

    all-taken : take (suc count) more ≡ more
    all-taken = let e = more-count editions edition in take_all (suc count) more (omega (arith, e))

    pub leaves-held : (k : KeyRow) (at : In k m.keys) (c : SignedCert) → IsHeld m.new (id_of k) c
        → is_revoked (map crl_entry (set.points k (in-contains k m.keys at)).revoked) c.cert.serial ≡ false
    leaves-held k at c held =
        let point = set.points k (in-contains k m.keys at) in
        let w = seen premises more steps count edition last in
        let uri : List ℕ =
        crl_uri m.plan_input.site (name_at (names_of m.plan_input.basis.configs) k.desk) (id_of k) in
        let stands : Stands premises more steps count uri point.crl_bytes =
        ap (λ (l : List Edition). set_after l uri) all-taken ∙ point.crl_there in
        let l = listing premises more steps count edition last uri point.crl_bytes point.crl stands point.crl_read in
        let row : KeyRow = counted w.m.plan_input w.m.keys w.m.entries l.issuer in
        let inside : Contains edition.rows row = key-row premises (take count more) edition w.m w.view l.issuer l.live in
        let entries : map crl_entry point.revoked ≡ map crl_entry row.revoked =
        sym (ap (λ (v : CrlValue). v.entries) point.crl_says) ∙ ap (λ (v : CrlValue). v.entries) l.says in
        let id : id_of row ≡ id_of k =
        sym (ap (λ (v : CrlValue). v.issuer) l.says) ∙ ap (λ (v : CrlValue). v.issuer) point.crl_says in
        ap (λ (es : List CrlEntry). is_revoked es c.cert.serial) entries
        ∙ row-leaves row inside c (subst (λ (i : List ℕ). IsHeld m.new i c) (sym id) held)
