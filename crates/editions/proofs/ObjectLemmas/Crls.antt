-- The CRLs of a key in its life.
use Rattle.std.proofs.Common.{◌≡◌, ℕ, suc, zero, ◌<◌, ◌≤◌, Some, List, [], ◌∷◌, ◌++◌, length, take, sym, ap, subst, ◌∙◌, arith}
use Rattle.std.specs.List.{slice_get}
use Rattle.std.specs.Prelude.{Contains}
use Rattle.std.proofs.lemmas.Option.{same_Some}
use Rattle.std.proofs.lemmas.List.{take_all}
use Rattle.key_roll.specs.declared.rows.KeyRow.{KeyRow}
use Rattle.key_ids.specs.Uris.{crl_uri}
use Rattle.crl_obj.specs.Values.{CrlValue, SignedCrl}
use Rattle.rp_rules.specs.Objects.{crl_in}
use Rattle.entitle.specs.Certified.{names_of}
use Rattle.issue_drafts.specs.Publishers.{name_at}
use Rattle.editions.specs.Objects.{Issuance}
use Rattle.issue_keys.specs.Keys.{id_of}
use Rattle.editions.specs.Edition.{Edition, state_after, set_after, IsInLife}
use Rattle.editions.specs.Superseded.{IsCrlOf}
use Rattle.editions.specs.Step.{Premises, AreSteps, counted}
use Rattle.editions.proofs.ObjectLemmas.Numbers.{listing, has-listing, updated}
use Rattle.editions.proofs.ObjectLemmas.Views.{live-row, row-key, key-row, same-key, id-counted, id-next}
use Rattle.editions.proofs.ObjectLemmas.History.{there-is, moment-before, rises, seen}
use Rattle.editions.proofs.ObjectLemmas.Lasts.{get-last, more-count}

-- A CRL of the key stood before the edition at that position, and was made before that moment.
pub record HadCrl (editions : List Edition) (id : List ℕ) (position moment : ℕ) : Type 0 where
  pub list : SignedCrl
  pub stood : IsCrlOf (set_after (take position editions)) id list
  pub earlier : list.crl.this_update ≤ moment

module _ (premises : Premises) (editions : List Edition) (steps : AreSteps premises editions)
    (id : List ℕ) (from : ℕ) where
  pub had-crl : (position : ℕ) (edition : Edition) → slice_get editions position ≡ Some edition
      → from < position → IsInLife id editions from position → HadCrl editions id position edition.moment
  had-crl zero edition there less life = absurd (omega (arith, less))
  had-crl (suc at) edition there less life =
      let within = life.within in
      let before = there-is editions at (omega (arith, within)) in
      let v = seen premises editions steps at before.0 before.1 in
      let live = live-row id before.0
      (life.unbroken at before.0 (omega (arith, less)) (omega arith) before.1) in
      let k = row-key premises (take at editions) before.0 v.m v.view live.0 live.1 in
      let list = has-listing premises editions steps at before.0 before.1 k.0 k.1 in
      let named : id_of k.0 ≡ id =
      id-next premises (take at editions) before.0 v.m v.view k.0 live.0 k.2 ∙ live.2 in
      let row : KeyRow = counted v.m.plan_input v.m.keys v.m.entries k.0 in
      let moment : list.crl.crl.this_update ≡ row.this_update = ap (λ (v : CrlValue). v.this_update) list.says in
      let least : row.this_update ≤ before.0.moment = updated premises editions steps at before.0 before.1 row
      (key-row premises (take at editions) before.0 v.m v.view k.0 k.1) in
      let left : (state_after (take (suc at) editions)).moment ≡ before.0.moment =
      moment-before editions at before.0 before.1 in
      let later : (state_after (take (suc at) editions)).moment < edition.moment =
      rises premises editions steps (suc at) edition there in
      record {
        list = list.crl;
        stood = subst (λ (i : List ℕ). IsCrlOf (set_after (take (suc at) editions)) i list.crl) named list.stands;
        earlier = omega (arith, moment, least, left, later);
      }

-- ---- behind an edition

module _ (premises : Premises) (before : List Edition) (edition : Edition)
    (steps : AreSteps premises (before ++ edition ∷ [])) where
  abbrev more : List Edition
  more = before ++ edition ∷ []

  abbrev count : ℕ
  count = length before

  whole : take (suc count) more ≡ more
  whole = let e = more-count before edition in take_all (suc count) more (omega (arith, e))

  abbrev last : slice_get more count ≡ Some edition
  last = get-last before edition

  -- The CRL of a live key, of the moment that its row has.
  pub some-crl : (row : KeyRow) → Contains edition.rows row
      → (crl : SignedCrl) × IsCrlOf (set_after more) (id_of row) crl × (crl.crl.this_update ≡ row.this_update)
  some-crl row c =
      let w = seen premises more steps count edition last in
      let k = row-key premises (take count more) edition w.m w.view row c in
      let list = has-listing premises more steps count edition last k.0 k.1 in
      let named : id_of k.0 ≡ id_of row = id-next premises (take count more) edition w.m w.view k.0 row k.2 in (
        list.crl,
        subst (λ (l : List Edition). IsCrlOf (set_after l) (id_of row) list.crl) whole
            (subst (λ (i : List ℕ). IsCrlOf (set_after (take (suc count) more)) i list.crl) named list.stands),
        ap (λ (v : CrlValue). v.this_update) list.says ∙ ap (λ (r : KeyRow). r.this_update) k.2,
      )

  -- There is no other.
  pub one-crl : (id : List ℕ) (one other : SignedCrl) → IsCrlOf (set_after more) id one
      → IsCrlOf (set_after more) id other → one ≡ other
  one-crl id one other is and =
      let w = seen premises more steps count edition last in
      let m : Issuance = w.m in
      let names : KeyRow → List ℕ = λ key.
      crl_uri m.plan_input.site (name_at (names_of m.plan_input.basis.configs) key.desk) (id_of key) in
      let a = listing premises more steps count edition last is.uri is.bytes one
      (ap (λ (l : List Edition). set_after l is.uri) whole ∙ is.there) is.read in
      let b = listing premises more steps count edition last and.uri and.bytes other
      (ap (λ (l : List Edition). set_after l and.uri) whole ∙ and.there) and.read in
      let left : id_of a.issuer ≡ id = sym (id-counted premises (take count more) edition m w.view a.issuer)
      ∙ (sym (ap (λ (v : CrlValue). v.issuer) a.says) ∙ is.issuer) in
      let right : id_of b.issuer ≡ id = sym (id-counted premises (take count more) edition m w.view b.issuer)
      ∙ (sym (ap (λ (v : CrlValue). v.issuer) b.says) ∙ and.issuer) in
      let same : a.issuer ≡ b.issuer = same-key premises (take count more) edition m w.view a.issuer b.issuer
      a.live b.live (left ∙ sym right) in
      let same_uri : is.uri ≡ and.uri = a.at ∙ (ap names same ∙ sym b.at) in
      let bytes : is.bytes ≡ and.bytes =
      same_Some is.bytes and.bytes (sym is.there ∙ (ap (set_after more) same_uri ∙ and.there)) in
      same_Some one other (sym is.read ∙ (ap crl_in bytes ∙ and.read))
