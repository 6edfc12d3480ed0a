-- What an outlet shows, when there are more editions.
use Rattle.std.proofs.Common.{◌≡◌, inl, inr, ℕ, suc, refl, sym, subst, ap, ◌∙◌, arith, length, drop, List, [], ◌∷◌, ◌++◌, Some, None, Bool, true, false}
use Rattle.std.specs.Prelude.{Option, Result, Ok, Err}
use Rattle.std.proofs.lemmas.Bool.{false≢true}
use Rattle.std.proofs.lemmas.List.{take-append-le, take_all, length-append}
use Rattle.key_ids.specs.Uris.{Bases, anchor_uri}
use Rattle.pub_set.specs.Objects.{content_at}
use Rattle.pub_set.specs.Changes.{Contents}
use Rattle.rp_rules.specs.declared.rules.Rule.{Rule}
use Rattle.rp_rules.specs.declared.rules.Rule.TheVariants.{Missing}
use Rattle.rp_rules.specs.Checks.{Checked, ◌>>=◌, found}
use Rattle.rp_rules.specs.Certificates.{WalkContext, accepted_anchor}
use Rattle.rp_rules.specs.Walk.{Visit, walk}
use Rattle.outlet_api.specs.Calls.{Files}
use Rattle.rrdp_state.specs.Editions as rrdp
use Rattle.rrdp_state.specs.Exported.{Repository}
use Rattle.rrdp_state.specs.Coherent.{Shows}
use Rattle.editions.specs.Edition.{Edition}
use Rattle.editions.specs.Step.{Premises}
use Rattle.editions.specs.Published.{IsPublished}
use Rattle.press_core.specs.declared.last_export.LastExport.{LastExport}
use Rattle.press_core.specs.declared.last_export.LastExport.TheVariants.{NoExport, Failed, Done}
use Rattle.press_core.specs.Files.{repository_at}
use Rattle.press_core.specs.Exports.{IsCoherent, ShowsFiles, ShowsEdition, ShowsLast}
use Rattle.press_core.proofs.Told.{behind_told}

pub coherent-more : (repository : Repository) (editions : List Edition) (edition : Edition) (files : Files)
    → IsCoherent repository editions files → IsCoherent repository (editions ++ edition ∷ []) files
coherent-more repository editions edition files (inl none) = inl none
coherent-more repository editions edition files (inr near) =
    inr (suc near.0, subst (λ (es : List rrdp.Edition). Shows repository (drop (suc near.0) es) files) (sym (behind_told editions edition)) near.1)

module _ (Shown : List Edition → Files → Type 0) where
  pub last-more : (editions : List Edition) (edition : Edition) (last : LastExport) (files : Option Files)
      → ShowsLast Shown editions last files → ShowsLast Shown (editions ++ edition ∷ []) last files
  last-more editions edition NoExport files shows = tt
  last-more editions edition Failed files shows = tt
  last-more editions edition (Done serial) None shows = tt
  last-more editions edition (Done serial) (Some files) shows = record {
    within = (let long = length-append editions (edition ∷ []) in let within = shows.within in omega (arith, long, within));
    shown = subst (λ (es : List Edition). Shown es files) (sym (take-append-le serial editions (edition ∷ []) shows.within)) shows.shown;
  }

  pub last-newest : (editions : List Edition) (files : Files)
      → ShowsLast Shown editions (Done (length editions)) (Some files) → Shown editions files
  last-newest editions files shows = subst (λ (es : List Edition). Shown es files) (take_all (length editions) editions (omega arith)) shows.shown

pub last-files : (session : List ℕ) (site : Bases) (editions : List Edition) (last : LastExport) (files : Option Files)
    → ShowsLast (ShowsEdition session site) editions last files → ShowsLast (ShowsFiles (repository_at session site)) editions last files
last-files session site editions NoExport files shows = tt
last-files session site editions Failed files shows = tt
last-files session site editions (Done serial) None shows = tt
last-files session site editions (Done serial) (Some files) shows = record { within = shows.within; shown = shows.shown.rrdp }

-- ---- the anchor's certificate

abbrev is_ok : {A E : Type 0} → Result A E → Bool
is_ok (Ok x) = true
is_ok (Err e) = false

-- Where nothing is there, all ends.
ends : {A B C : Type 0} (uri : List ℕ) (rule : Rule) (o : Option A) (f : A → Checked B) (g : B → Checked C) → o ≡ None
    → is_ok ((found uri rule o >>= f) >>= g) ≡ false
ends uri rule None f g none = refl
ends uri rule (Some x) f g none = absurd (false≢true (ap is_none (sym none)))
  where
    is_none : {A : Type 0} → Option A → Bool
    is_none None = false
    is_none (Some x) = true

no_walk : (s : WalkContext) (held : Contents) (visits : List Visit) → held (anchor_uri s.bases) ≡ None → walk s held ≡ Ok visits → ⊥
unfolding walk accepted_anchor
no_walk s held visits none walked =
    false≢true (sym (ends (anchor_uri s.bases) Missing (held (anchor_uri s.bases)) _ _ none) ∙ ap is_ok walked)

pub anchor_stands : (premises : Premises) (edition : Edition) (set : Contents) → IsPublished premises edition set
    → (bytes : List ℕ) × (set (anchor_uri premises.site) ≡ Some bytes)
anchor_stands premises edition set is =
    let uri = anchor_uri premises.site in
    elim (content_at is.objects uri) as (λ o. content_at is.objects uri ≡ o → (bytes : List ℕ) × (set uri ≡ Some bytes)) [
      | None ↦ λ none. absurd (no_walk _ (content_at is.objects) is.visits none is.sound.walk)
      | Some bytes ↦ λ there. (bytes, sym (is.are uri) ∙ there)
    ] refl
