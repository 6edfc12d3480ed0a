-- A step over some commands is one over more of them, and with more that is vouched.
use Rattle.std.proofs.Common.{◌≡◌, ℕ, ◌+◌, ◌≤◌, zero, suc, refl, sym, subst, ◌∙◌, ap, arith, true, false, List, [], ◌∷◌, length, get_or, take, Some, None, length-append}
use Rattle.std.specs.Prelude.{Bool, Option, All}
use Rattle.std.proofs.lemmas.List.{take-append-le}
use Rattle.std.proofs.lemmas.List.Elements.{All-weaker}
use Rattle.res_sets.specs.declared.holdings.Resources.{Resources}
use Rattle.authority_book.specs.declared.commands.Command.{Command}
use Rattle.authority_book.specs.Settings.{Settings}
use Rattle.authority_book.specs.Fold.{fold_of}
use Rattle.entitle.specs.declared.trees.Owed.{Owed}
use Rattle.key_ids.specs.Uris.{Bases}
use Rattle.key_roll.specs.declared.rows.KeyRow.{KeyRow}
use Rattle.key_roll.specs.declared.issued.IssuedRow.{IssuedRow}
use Rattle.cert_obj.specs.Values.{CertValue, SignedCert}
use Rattle.rp_rules.specs.Certificates.{Vouched, VouchesMore}
use Rattle.rp_rules.specs.Objects.{Signed}
use Rattle.issue_plan.specs.Keys.{kept}
use Rattle.issue_plan.specs.Wanted.{PlanInput, point_of}
use Rattle.issue_drafts.specs.Drafts.{Draft, Kind}
use Rattle.issue_drafts.specs.Drafts.{certificate_draft, roa_draft, crl_draft, manifest_draft}
use Rattle.issue_drafts.specs.Drafts.Kind.{Certificate, Roa, Crl, Manifest}
use Rattle.editions.specs.Edition.{Edition, State, state_after, cut_at}
use Rattle.editions.specs.Wanted.{there, whole, all_certificates, all_roas}
use Rattle.editions.specs.Wanted.{keeps_certificate, keeps_roa, keeps_point}
use Rattle.editions.specs.Objects.{Issuance, IsIssued, IsSigned, IsObject, IsLeft, IsDone, IsNewSet}
use Rattle.editions.specs.Step.{Premises, AreMore, IsMore, IsCut, IsMadeOver, IsStep, AreSteps}
use Rattle.editions.specs.Step.{configs_from, plan_input_at}

-- ---- commands

same_count : (lists mores : List (List Command)) → AreMore lists mores →
    length mores ≡ length lists
same_count [] [] more = refl
same_count [] (other ∷ mores) more = absurd more
same_count (list ∷ lists) [] more = absurd more
same_count (list ∷ lists) (other ∷ mores) more =
    ap (λ (n : ℕ). suc n) (same_count lists mores more.1)

no_shorter : (lists mores : List (List Command)) → AreMore lists mores → (desk : ℕ) →
    length (get_or lists desk []) ≤ length (get_or mores desk [])
no_shorter [] [] more desk = omega arith
no_shorter [] (other ∷ mores) more desk = absurd more
no_shorter (list ∷ lists) [] more desk = absurd more
no_shorter (list ∷ lists) (other ∷ mores) more zero =
    let whole = ap length more.0.1 ∙ length-append list more.0.0 in omega (arith, whole)
no_shorter (list ∷ lists) (other ∷ mores) more (suc desk) = no_shorter lists mores more.1 desk

same_configs : (desk : ℕ) (lists mores : List (List Command)) (cut : List ℕ) →
    AreMore lists mores → ((d : ℕ) → cut_at cut d ≤ length (get_or lists d [])) →
    configs_from desk mores cut ≡ configs_from desk lists cut
same_configs desk [] [] cut more held = refl
same_configs desk [] (other ∷ mores) cut more held = absurd more
same_configs desk (list ∷ lists) [] cut more held = absurd more
same_configs desk (list ∷ lists) (other ∷ mores) [] more held =
    ap (λ (rest : List Settings). fold_of desk [] ∷ rest)
    (same_configs (desk + 1) lists mores [] more.1 (λ d. omega arith))
same_configs desk (list ∷ lists) (other ∷ mores) (n ∷ cut) more held =
    let here : take n other ≡ take n list =
    ap (take n) more.0.1 ∙ take-append-le n list more.0.0 (held zero) in
    ap (λ (taken : List Command). fold_of desk taken ∷ configs_from (desk + 1) mores cut) here
    ∙ ap (λ (rest : List Settings). fold_of desk (take n list) ∷ rest)
    (same_configs (desk + 1) lists mores cut more.1 (λ d. held (suc d)))

-- ---- objects

module _ (m : Issuance) (more : Vouched) (vouches : VouchesMore m.vouched more) where
  abbrev at_more : Issuance
  at_more = record m { vouched = more }

  issued_then : (issuer : KeyRow) (says : CertValue) (certificate : SignedCert) →
      IsIssued m issuer says certificate → IsIssued at_more issuer says certificate
  issued_then issuer says certificate is = record {
    says = is.says;
    vouched = vouches issuer.key.bytes certificate.digest certificate.signature is.vouched;
  }

  signed_then : {Body : Type 0} (issuer : KeyRow) (says : CertValue) (body : Body)
      (x : Signed Body) → IsSigned m issuer says body x → IsSigned at_more issuer says body x
  signed_then issuer says body x is = record {
    body = is.body;
    certificate = issued_then issuer says x.certificate is.certificate;
    signer = is.signer;
    moment = is.moment;
    vouched =
        vouches x.certificate.cert.key x.object.digest x.object.signature is.vouched;
  }

  object_then : (d : Draft) (k : Kind) (bytes : List ℕ) → IsObject m d k bytes →
      IsObject at_more d k bytes
  object_then d (Certificate subject held) bytes is = record {
    certificate = is.certificate;
    read = is.read;
    issued = issued_then d.issuer _ is.certificate is.issued;
  }
  object_then d (Roa origin) bytes is = record {
    roa = is.roa;
    read = is.read;
    signed = signed_then d.issuer _ _ is.roa is.signed;
  }
  object_then d Crl bytes is = record {
    crl = is.crl;
    read = is.read;
    says = is.says;
    vouched = vouches d.issuer.key.bytes is.crl.digest is.crl.signature is.vouched;
  }
  object_then d Manifest bytes is = record {
    manifest = is.manifest;
    read = is.read;
    files = is.files;
    listed = record { all = is.listed.all; rising = is.listed.rising };
    signed = signed_then d.issuer _ _ is.manifest is.signed;
  }

  left_then : (d : Draft) (is_kept : Bool) → IsLeft m d is_kept → IsLeft at_more d is_kept
  left_then d true is = is
  left_then d false is = (is.0, is.1, object_then d d.kind is.0 is.2)

  done_then : (is_kept : Bool) (d : Option Draft) → IsDone m is_kept d → IsDone at_more is_kept d
  done_then is_kept None is = tt
  done_then is_kept (Some d) is = left_then d is_kept is

  all_done : {W : Type 0} (keeps : W → Bool) (draft : W → Option Draft) (works : List W) →
      All (λ work. IsDone m (keeps work) (draft work)) works →
      All (λ work. IsDone at_more (keeps work) (draft work)) works
  all_done keeps draft works all = All-weaker
      (λ work. IsDone m (keeps work) (draft work))
      (λ work. IsDone at_more (keeps work) (draft work))
      (λ work is. done_then (keeps work) (draft work) is) works all

  pub set_then : IsNewSet m → IsNewSet at_more
  set_then set = record {
    apart = set.apart;
    places = set.places;
    certificates = all_done (keeps_certificate m.plan_input m.keys)
        (certificate_draft (whole m.plan_input m.keys) (there m.keys))
        (all_certificates m.plan_input m.keys) set.certificates;
    roas = all_done (keeps_roa m.plan_input m.keys)
        (roa_draft (whole m.plan_input m.keys) (there m.keys))
        (all_roas m.plan_input m.keys) set.roas;
    crls = all_done (keeps_point m.plan_input m.keys)
        (λ key. crl_draft (whole m.plan_input m.keys) (there m.keys) (point_of (kept key)))
        m.keys set.crls;
    manifests = all_done (keeps_point m.plan_input m.keys)
        (λ key. manifest_draft (whole m.plan_input m.keys) (there m.keys) (point_of (kept key)))
        m.keys set.manifests;
  }

-- ---- the step

module _ (less more : Premises) (is_more : IsMore less more) where
  made_then : (editions : List Edition) (edition : Edition) (plan_input : PlanInput) →
      IsMadeOver less editions edition plan_input → IsMadeOver more editions edition plan_input
  made_then editions edition plan_input made = record {
    table = made.table;
    certified = made.certified;
    owes = made.owes;
    keys = made.keys;
    next = made.next;
    entries = made.entries;
    rows = made.rows;
    set = set_then _ more.vouched is_more.vouched made.set;
    listed = made.listed;
  }

  same_standing : (before : State) (edition : Edition) (sets : List Resources)
      (owed : List Owed) (issued : List IssuedRow) → IsCut less.lists before.cut edition.cut →
      plan_input_at less before edition sets owed issued
      ≡ plan_input_at more before edition sets owed issued
  same_standing before edition sets owed issued cut =
      let configs = sym (same_configs 0 less.lists more.lists edition.cut is_more.lists cut.held) in
      let with_these : List Settings → Bases → PlanInput = λ configs site. record {
        basis = record {
          rows = before.rows;
          configs = configs;
          sets = sets;
          moment = edition.moment;
        };
        owed = owed;
        issued = issued;
        site = site;
      } in
      ap (λ (c : List Settings). with_these c less.site) configs
      ∙ ap (λ (site : Bases). with_these (configs_from 0 more.lists edition.cut) site) (sym is_more.site)

  pub step_then : (clock : ℕ) (editions : List Edition) (edition : Edition) →
      IsStep less clock editions edition → IsStep more clock editions edition
  step_then clock editions edition step =
      let before = state_after editions in
      record {
        serial = step.serial;
        moment = step.moment;
        dated = step.dated;
        counted = step.counted;
        cut = record {
          desks =
              let now = step.cut.desks in
              let same = same_count less.lists more.lists is_more.lists in
              omega (arith, now, same);
          grown = step.cut.grown;
          held = λ desk.
              let now = step.cut.held desk in
              let more = no_shorter less.lists more.lists is_more.lists desk in
              omega (arith, now, more);
        };
        sets = step.sets;
        owed = step.owed;
        issued = step.issued;
        made = subst (λ (plan_input : PlanInput). IsMadeOver more editions edition plan_input)
            (same_standing before edition step.sets step.owed step.issued step.cut)
            (made_then editions edition
            (plan_input_at less before edition step.sets step.owed step.issued) step.made);
        changes = step.changes;
      }

  pub steps_then : (editions : List Edition) → AreSteps less editions → AreSteps more editions
  steps_then editions steps = λ position edition there.
      let step = steps position edition there in
      (step.0, step_then step.0 (take position editions) edition step.1)
