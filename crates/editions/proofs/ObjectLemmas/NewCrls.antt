-- What the CRLs list that an edition puts.
use Rattle.std.proofs.Common.{◌≡◌, ◌≢◌, ℕ, false, Some, List, [], ◌∷◌, ◌++◌, length, map, sym, ap, subst, ◌∙◌, inl, inr}
use Rattle.std.proofs.lemmas.List.Elements.{All-contains}
use Rattle.key_roll.specs.declared.rows.RevokedRow.{RevokedRow}
use Rattle.pub_set.specs.Changes.{Contents}
use Rattle.crl_obj.specs.Values.{CrlValue, SignedCrl}
use Rattle.rp_rules.specs.Objects.{crl_in}
use Rattle.issue_values.specs.Bodies.{crl_entry}
use Rattle.issue_keys.specs.Keys.{id_of}
use Rattle.editions.specs.Edition.{Edition, set_after}
use Rattle.editions.specs.Superseded.{AreSuperseded}
use Rattle.editions.specs.Wanted.{keeps_point}
use Rattle.editions.specs.Step.{Premises, AreSteps}
use Rattle.editions.proofs.ObjectLemmas.Standing.{left-at}
use Rattle.editions.proofs.ObjectLemmas.Numbers.{new-listing}
use Rattle.editions.proofs.ObjectLemmas.History.{seen-now}

module _ (premises : Premises) (before : List Edition) (edition : Edition)
    (steps : AreSteps premises (before ++ edition ∷ [])) where
  abbrev all : List Edition
  all = before ++ edition ∷ []

  -- It lists the entries that the edition gave its key; what stood before isn't new.
  pub new-crl : (uri bytes : List ℕ) (crl : SignedCrl) → set_after all uri ≡ Some bytes
      → set_after before uri ≢ Some bytes → crl_in bytes ≡ Some crl
      → (entries : List RevokedRow) × (crl.crl.entries ≡ map crl_entry entries)
      × AreSuperseded all (length before) crl.crl.issuer entries
  new-crl uri bytes crl stands new read =
      let now = seen-now premises before edition steps in
      let m = now.m in
      let left = left-at m now.view.over now.view.set uri bytes
      (ap (λ (s : Contents). s uri) now.view.new ∙ stands) in
      elim (left.3) [
        | inr old ↦ absurd (new (ap (λ (s : Contents). s uri) (sym now.view.old)
            ∙ (ap m.old (sym left.2) ∙ old.stood)))
        | inl put ↦
            let is = new-listing m left.0 bytes crl put read in
            let issuer : crl.crl.issuer ≡ id_of is.issuer = ap (λ (v : CrlValue). v.issuer) is.says in (
              m.entries is.issuer,
              ap (λ (v : CrlValue). v.entries) is.says,
              subst (λ (id : List ℕ). AreSuperseded all (length before) id (m.entries is.issuer)) (sym issuer)
                  (All-contains (λ key. keeps_point m.plan_input m.keys key ≡ false
                  → AreSuperseded all (length before) (id_of key) (m.entries key))
                  m.keys is.issuer now.revoked is.live is.fresh),
            )
      ]
