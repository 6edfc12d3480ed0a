-- An edition puts just what it wants and doesn't fit.
use Rattle.std.proofs.Common.{◌≡◌, ◌≢◌, ℕ, ◌<◌, Bool, true, false, cond, Option, None, Some, List, refl, sym, ap, ◌∙◌, arith}
use Rattle.std.specs.Prelude.{is_some}
use Rattle.std.specs.Str.{bytes_eq}
use Rattle.std.proofs.lemmas.Bool.{false_from_ne_true}
use Rattle.std.proofs.lemmas.List.Elements.{All-weaker}
use Rattle.std.proofs.lemmas.Slice.Eq.{bytes_eq-Decides}
use Rattle.sha2.specs.Sha256.{sha256}
use Rattle.pub_set.specs.declared.steps.Change.{Change}
use Rattle.pub_set.specs.declared.steps.Change.TheVariants.{Put}
use Rattle.pub_set.specs.Changes.{change_at, difference}
use Rattle.key_roll.specs.declared.rows.KeyRow.{KeyRow}
use Rattle.key_roll.specs.declared.work.CertWork.{CertWork}
use Rattle.key_roll.specs.declared.work.RoaWork.{RoaWork}
use Rattle.issue_plan.specs.Keys.{kept}
use Rattle.issue_plan.specs.Wanted.{point_of}
use Rattle.issue_drafts.specs.Drafts.{Draft, certificate_draft, roa_draft, crl_draft, manifest_draft}
use Rattle.editions.specs.Edition.{Edition, State, state_after}
use Rattle.editions.specs.MadeIn.{issuance_of}
use Rattle.editions.specs.Objects.{Issuance, IsDone}
use Rattle.editions.specs.Sparing.{IsPutAt, IsPutUnless, PutsWhatDoesNotFit}
use Rattle.editions.specs.Step.{Premises, IsStep, AreSteps, next_moment}
use Rattle.editions.specs.Wanted.{there, whole, all_certificates, all_roas, keeps_certificate, keeps_roa, keeps_point}
use Rattle.editions.proofs.ObjectLemmas.Dated.{other-stood}

none-differs : (uri : List ℕ) (o : Option (List ℕ)) → difference uri o o ≡ None
none-differs uri None = refl
none-differs uri (Some bytes) =
    ap (λ (b : Bool). cond b None (Some (Put uri bytes (Some (sha256 bytes))))) ((bytes_eq-Decides bytes bytes).1 refl)

later-than : (clock : ℕ) (state : State) → state.moment < next_moment clock state
later-than clock state = omega arith

module _ (premises : Premises) (clock : ℕ) (editions : List Edition) (edition : Edition)
    (steps : AreSteps premises editions) (step : IsStep premises clock editions edition) where
  abbrev m : Issuance
  m = issuance_of premises clock editions edition step

  abbrev changes : List Change
  changes = edition.changes

  later : (state_after editions).moment < edition.moment
  later =
      let more = later-than clock (state_after editions) in
      let is = step.moment in
      omega (arith, more, is)

  -- Where another object stands than before, it is put.
  put-at : (uri bytes : List ℕ) → m.new uri ≡ Some bytes → m.old uri ≢ Some bytes → IsPutAt changes uri
  put-at uri bytes stands other = by (m.old uri) refl
    where
      change : change_at changes uri ≡ difference uri (m.old uri) (Some bytes)
      change = step.changes.each uri ∙ ap (difference uri (m.old uri)) stands

      by : (o : Option (List ℕ)) → m.old uri ≡ o → IsPutAt changes uri
      by None e = record {
        bytes = bytes;
        replaces = None;
        is = change ∙ ap (λ (o : Option (List ℕ)). difference uri o (Some bytes)) e;
      }
      by (Some held) e =
          let isnt : bytes_eq held bytes ≡ false =
          false_from_ne_true (bytes_eq held bytes) (λ same.
          other (e ∙ ap (λ (b : List ℕ). Some b) ((bytes_eq-Decides held bytes).0 same))) in
          record {
            bytes = bytes;
            replaces = Some (sha256 held);
            is = change ∙ (ap (λ (o : Option (List ℕ)). difference uri o (Some bytes)) e
                ∙ ap (λ (b : Bool). cond b None (Some (Put uri bytes (Some (sha256 held))))) isnt);
          }

  unless-kept : (is_kept : Bool) (o : Option Draft) → IsDone m is_kept o → IsPutUnless changes is_kept o
  unless-kept is_kept None done = tt
  unless-kept true (Some d) done =
      step.changes.each d.uri
      ∙ (ap (difference d.uri (m.old d.uri)) done ∙ none-differs d.uri (m.old d.uri))
  unless-kept false (Some d) done =
      put-at d.uri done.0 done.1 (other-stood premises editions steps m d done.0 d.uri later done.2)

  -- What is put stands, and so it is wanted.
  put-stands : (uri : List ℕ) → IsPutAt changes uri → is_some (m.new uri) ≡ true
  put-stands uri put = by (m.old uri) (m.new uri) (sym (step.changes.each uri) ∙ put.is)
    where
      by : (o n : Option (List ℕ)) → difference uri o n ≡ Some (Put uri put.bytes put.replaces) → is_some n ≡ true
      by None None e = absurd cc
      by None (Some bytes) e = refl
      by (Some held) None e = absurd cc
      by (Some held) (Some bytes) e = refl

  pub puts-unfit : PutsWhatDoesNotFit m changes
  puts-unfit = record {
    certificates = All-weaker
        (λ (cert : CertWork). IsDone m (keeps_certificate m.plan_input m.keys cert)
        (certificate_draft (whole m.plan_input m.keys) (there m.keys) cert))
        (λ (cert : CertWork). IsPutUnless changes (keeps_certificate m.plan_input m.keys cert)
        (certificate_draft (whole m.plan_input m.keys) (there m.keys) cert))
        (λ cert done. unless-kept (keeps_certificate m.plan_input m.keys cert)
        (certificate_draft (whole m.plan_input m.keys) (there m.keys) cert) done)
        (all_certificates m.plan_input m.keys) step.made.set.certificates;
    roas = All-weaker
        (λ (roa : RoaWork). IsDone m (keeps_roa m.plan_input m.keys roa)
        (roa_draft (whole m.plan_input m.keys) (there m.keys) roa))
        (λ (roa : RoaWork). IsPutUnless changes (keeps_roa m.plan_input m.keys roa)
        (roa_draft (whole m.plan_input m.keys) (there m.keys) roa))
        (λ roa done. unless-kept (keeps_roa m.plan_input m.keys roa)
        (roa_draft (whole m.plan_input m.keys) (there m.keys) roa) done)
        (all_roas m.plan_input m.keys) step.made.set.roas;
    crls = All-weaker
        (λ (key : KeyRow). IsDone m (keeps_point m.plan_input m.keys key)
        (crl_draft (whole m.plan_input m.keys) (there m.keys) (point_of (kept key))))
        (λ (key : KeyRow). IsPutUnless changes (keeps_point m.plan_input m.keys key)
        (crl_draft (whole m.plan_input m.keys) (there m.keys) (point_of (kept key))))
        (λ key done. unless-kept (keeps_point m.plan_input m.keys key)
        (crl_draft (whole m.plan_input m.keys) (there m.keys) (point_of (kept key))) done)
        m.keys step.made.set.crls;
    manifests = All-weaker
        (λ (key : KeyRow). IsDone m (keeps_point m.plan_input m.keys key)
        (manifest_draft (whole m.plan_input m.keys) (there m.keys) (point_of (kept key))))
        (λ (key : KeyRow). IsPutUnless changes (keeps_point m.plan_input m.keys key)
        (manifest_draft (whole m.plan_input m.keys) (there m.keys) (point_of (kept key))))
        (λ key done. unless-kept (keeps_point m.plan_input m.keys key)
        (manifest_draft (whole m.plan_input m.keys) (there m.keys) (point_of (kept key))) done)
        m.keys step.made.set.manifests;
    others = λ uri put. (step.made.set.places uri).0 (put-stands uri put);
  }
