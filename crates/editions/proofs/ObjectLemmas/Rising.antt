-- Manifests rise from edition to edition.
use Rattle.std.proofs.Common.{◌≡◌, ℕ, suc, ◌+◌, ◌<◌, Some, List, [], ◌∷◌, ◌++◌, length, take, sym, ap, subst, ◌∙◌, arith, ◌⊎◌, inl, inr}
use Rattle.std.specs.Prelude.{Contains}
use Rattle.std.specs.List.{slice_get}
use Rattle.std.proofs.lemmas.Option.{same_Some, none-some}
use Rattle.key_ids.specs.Uris.{Bases, manifest_uri}
use Rattle.key_roll.specs.declared.rows.KeyRow.{KeyRow}
use Rattle.pub_set.specs.Changes.{Contents}
use Rattle.rp_rules.specs.Objects.{SignedManifest, manifest_in}
use Rattle.entitle.specs.Certified.{names_of}
use Rattle.issue_keys.specs.Keys.{id_of}
use Rattle.issue_drafts.specs.Publishers.{name_at}
use Rattle.issue_drafts.specs.Drafts.{Draft}
use Rattle.editions.specs.Edition.{Edition, state_after, set_after}
use Rattle.editions.specs.Published.{ManifestsRise}
use Rattle.editions.specs.Step.{Premises, AreSteps, counted}
use Rattle.editions.proofs.ObjectLemmas.Standing.{IsPut, left-at}
use Rattle.editions.proofs.ObjectLemmas.Numbers.{same-id, numbering, new-numbering, updated}
use Rattle.editions.proofs.ObjectLemmas.Views.{on-row, row-key, key-row, same-key, id-counted, id-next}
use Rattle.editions.proofs.ObjectLemmas.History.{rows-after, moment-after, rises, seen, Stands}
use Rattle.editions.proofs.ObjectLemmas.Lasts.{HasLast, last-of, get-append, get-last, take-count, take-less}

-- ---- one edition more

module _ (premises : Premises) (editions : List Edition) (edition : Edition)
    (steps : AreSteps premises (editions ++ edition ∷ [])) where
  abbrev more : List Edition
  more = editions ++ edition ∷ []

  abbrev count : ℕ
  count = length editions

  set-count : set_after (take count more ++ edition ∷ []) ≡ set_after more
  set-count =
      ap (λ (l : List Edition). set_after (l ++ edition ∷ [])) (take-count editions edition)

  module _ (last : HasLast editions) where
    inside : last.position < count
    inside = let next = last.next in omega (arith, next)

    there : slice_get more last.position ≡ Some last.edition
    there = get-append editions (edition ∷ []) last.position inside ∙ last.there

    rows-last : (state_after (take count more)).rows ≡ last.edition.rows
    rows-last =
        ap (λ (l : List Edition). (state_after l).rows)
        (take-count editions edition ∙ (sym last.whole
        ∙ sym (take-less editions edition last.position inside)))
        ∙ rows-after more last.position last.edition there

    moment-last : last.edition.moment < edition.moment
    moment-last =
        let later = rises premises more steps count edition (get-last editions edition) in
        subst (λ (n : ℕ). n < edition.moment)
        (ap (λ (l : List Edition). (state_after l).moment)
        (take-count editions edition ∙ (sym last.whole
        ∙ sym (take-less editions edition last.position inside)))
        ∙ moment-after more last.position last.edition there) later

    old-count : set_after (take count more) ≡ set_after editions
    old-count = ap (λ (l : List Edition). set_after l) (take-count editions edition)

    last-stands : (uri bytes : List ℕ) → set_after editions uri ≡ Some bytes
        → Stands premises more steps last.position uri bytes
    last-stands uri bytes stood =
        let next : suc last.position ≡ last.position + 1 = omega arith in
        ap (λ (n : ℕ). set_after (take n more) uri) next
        ∙ (ap (λ (l : List Edition). set_after l uri)
        (take-less editions edition last.position inside ∙ last.whole) ∙ stood)

    -- One that the edition made.
    rise-by : (uri before : List ℕ) (was is : SignedManifest) → set_after editions uri ≡ Some before
        → manifest_in before ≡ Some was
        → (d : Draft) (after : List ℕ) → d.uri ≡ uri
        → IsPut (seen premises more steps count edition (get-last editions edition)).m d after
        → manifest_in after ≡ Some is
        → (was.body.0 < is.body.0) × (was.body.1.0 < is.body.1.0)
    rise-by uri before was is stood first d after at put second =
        let v = seen premises more steps last.position last.edition there in
        let w = seen premises more steps count edition (get-last editions edition) in
        let a = numbering premises more steps last.position last.edition there uri before was
        (last-stands uri before stood) first in
        let b = new-numbering w.m d after is put second in
        let one_name : List ℕ = name_at (names_of v.m.plan_input.basis.configs) a.issuer.desk in
        let other_name : List ℕ = name_at (names_of w.m.plan_input.basis.configs) b.issuer.desk in
        let same_uri : manifest_uri w.m.plan_input.site other_name (id_of b.issuer)
        ≡ manifest_uri v.m.plan_input.site other_name (id_of b.issuer) =
        ap (λ (s : Bases). manifest_uri s other_name (id_of b.issuer))
        (w.view.site ∙ sym v.view.site) in
        let id : id_of a.issuer ≡ id_of b.issuer =
        same-id v.m.plan_input.site one_name other_name a.issuer b.issuer
        (sym a.at ∙ (sym at ∙ (b.at ∙ same_uri))) in
        let row : KeyRow = counted v.m.plan_input v.m.keys v.m.entries a.issuer in
        let of_row : Contains last.edition.rows row =
        key-row premises (take last.position more) last.edition v.m v.view a.issuer a.live in
        let named : id_of row ≡ id_of b.issuer =
        id-counted premises (take last.position more) last.edition v.m v.view a.issuer ∙ id in
        let live : Contains (state_after (take count more)).rows row =
        subst (λ (l : List KeyRow). Contains l row) (sym rows-last) of_row in
        let come = on-row premises (take count more) edition w.m w.view b.issuer b.live row live named in
        let k = row-key premises (take last.position more) last.edition v.m v.view come.row
        (subst (λ (l : List KeyRow). Contains l come.row) rows-last come.live) in
        let same : k.0 ≡ a.issuer = same-key premises (take last.position more) last.edition v.m v.view
        k.0 a.issuer k.1 a.live
        (id-next premises (take last.position more) last.edition v.m v.view k.0 come.row k.2
        ∙ (come.named ∙ sym id)) in
        let rows : come.row ≡ row = sym k.2 ∙ ap (counted v.m.plan_input v.m.keys v.m.entries) same in
        let counts : come.row.number ≡ row.number = ap (λ (r : KeyRow). r.number) rows in
        let least = updated premises more steps last.position last.edition there row of_row in
        let on = come.number in
        let one = a.number in
        let two = b.number in
        let past = a.moment in
        let now = b.moment in
        let this = w.view.moment in
        let later = moment-last in
        (omega (arith, counts, on, one, two), omega (arith, past, now, least, this, later))

    rise : (uri before after : List ℕ) (was is : SignedManifest)
        → set_after editions uri ≡ Some before → set_after more uri ≡ Some after
        → manifest_in before ≡ Some was → manifest_in after ≡ Some is
        → (after ≡ before) ⊎ ((was.body.0 < is.body.0) × (was.body.1.0 < is.body.1.0))
    rise uri before after was is stood stands first second =
        let w = seen premises more steps count edition (get-last editions edition) in
        let left = left-at w.m w.view.over w.view.set uri after
        (ap (λ (s : Contents). s uri) (w.view.new ∙ set-count) ∙ stands) in
        elim (left.3) [
          | inr old ↦ inl (same_Some after before
              (sym old.stood ∙ (ap w.m.old left.2 ∙ (ap (λ (s : Contents). s uri) (w.view.old ∙ old-count) ∙ stood))))
          | inl put ↦ inr (rise-by uri before was is stood first left.0 after left.2 put second)
        ]

  above : HasLast editions → ManifestsRise (set_after editions) (set_after more)
  above last uri before after was is stood stands first second =
      rise last uri before after was is stood stands first second

  pub manifests-rise : ManifestsRise (set_after editions) (set_after more)
  manifests-rise =
      elim (last-of editions) [
        | inl nothing ↦ λ uri before after was is stood stands first second.
            absurd (none-some before
            (subst (λ (l : List Edition). set_after l uri ≡ Some before) nothing stood))
        | inr last ↦ above last
      ]
