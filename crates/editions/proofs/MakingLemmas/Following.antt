-- An edition that is planned and made is told by the rows and the table, and follows the others.
use Rattle.std.proofs.Common.{◌≡◌, ◌≢◌, ℕ, ◌<◌, Bool, true, false, cond, ◌⊎◌, inl, inr, Option, None, Some, List, [], ◌∷◌, ◌++◌, map, refl, sym, ap, subst, ◌∙◌, arith}
use Rattle.std.specs.Prelude.{All, AllPairs, Any, Contains, is_some}
use Rattle.std.specs.List.{list_any}
use Rattle.std.specs.Str.{bytes_eq}
use Rattle.std.proofs.lemmas.Bool.{false_from_ne_true}
use Rattle.std.proofs.lemmas.Slice.Eq.{bytes_eq-Decides}
use Rattle.der.specs.Part.{IsInput}
use Rattle.issue_values.specs.Certificates.{IsEditionMoment}
use Rattle.std.proofs.lemmas.List.Elements.{All-contains}
use Rattle.signer_api.specs.State.{SignerState}
use Rattle.pub_set.specs.Objects.{Rise}
use Rattle.pub_set.specs.declared.steps.Change.{Change}
use Rattle.pub_set.specs.declared.steps.Change.TheVariants.{Put}
use Rattle.pub_set.specs.Changes.{Contents, uri_of, change_at, after_all, difference}
use Rattle.sha2.specs.Sha256.{sha256}
use Rattle.crl_obj.specs.Values.{are_rising}
use Rattle.issue_values.specs.Bodies.{AreRevoked, crl_entry}
use Rattle.key_roll.specs.declared.rows.RevokedRow.{RevokedRow}
use Rattle.signer_ring.specs.Calls.{Call}
use Rattle.key_roll.specs.declared.rows.KeyRow.{KeyRow}
use Rattle.key_roll.specs.declared.work.CertWork.{CertWork}
use Rattle.key_roll.specs.declared.work.RoaWork.{RoaWork}
use Rattle.issue_keys.specs.Making as keys
use Rattle.issue_drafts.specs.IssueInput.{IssueInput}
use Rattle.issue_drafts.specs.Drafts.{Draft, drafts, manifests, certificate_draft, roa_draft, crl_draft, manifest_draft}
use Rattle.issue_sign.specs.Objects.{Signed}
use Rattle.issue_sign.specs.Calls.{first_calls, second_calls, content_calls, last_calls}
use Rattle.issue_make.specs.Trace.{IssuingTrace, IsIssuingTrace, all_of, made_of, final_bytes, wanted_at}
use Rattle.issue_plan.specs.Keys.{kept, next_keys}
use Rattle.issue_plan.specs.Wanted.{PlanInput, point_of}
use Rattle.issue_plan.specs.Uris.{wanted_uris}
use Rattle.issue_make.specs.ObjectPlan.{puts}
use Rattle.issue_make.specs.CanMake.{Fits, AreListable}
use Rattle.editions.specs.Edition.{Edition, State, state_after, set_after, AreChanges}
use Rattle.editions.specs.Objects.{Issuance, IsObject, IsLeft, IsDone, IsNewSet}
use Rattle.editions.specs.Step.{Premises, IsStep, AreSteps, AreCounted, plan_input_at, next_moment}
use Rattle.editions.specs.Wanted.{there, whole, anew, all_certificates, all_roas, all_objects, keeps_certificate, keeps_roa, keeps_point}
use Rattle.editions.specs.inner.PlannedWork.{AreNamed}
use Rattle.items.specs.laws.AmongLaws.{In, in-any, in-contains, contains-in}
use Rattle.editions.proofs.ObjectLemmas.Fitting.{IsKept, keeps-files, kept-certificate, kept-roa, kept-crl, kept-manifest}
use Rattle.editions.proofs.PlanLemmas.Pairs.{Twos, twos-from}
use Rattle.editions.proofs.PlanLemmas.Drafted.{AreKnown, puts-are, manifest-of-key}
use Rattle.editions.proofs.PlanLemmas.Planning.{known-by}
use Rattle.editions.proofs.PlanLemmas.Certified.{homes}
use Rattle.editions.proofs.PlanLemmas.Free.{not-wanted, kept-wanted}
use Rattle.editions.proofs.PlanLemmas.Fitted.{new_puts, new-in, made-or-left, list-part, cert-new, cert-away, roa-new, roa-away, crl-new, crl-away, list-new, list-away}
use Rattle.editions.proofs.ObjectLemmas.Kept.{IsOver}
use Rattle.editions.proofs.ObjectLemmas.ByWork.{cert-object, roa-object, crl-object, list-object}
use Rattle.editions.specs.inner.ByRows.{IsStepByRows}
use Rattle.editions.specs.inner.PlanAndTable.{made_from, AreOfPlan}
use Rattle.editions.specs.VouchedCalls.{IsVouchedBy}
use Rattle.editions.specs.inner.Vouched.{AreVouched}
use Rattle.editions.specs.PlannedAndMade.{IsMadeByPlan, IsPlannedAndMade}
use Rattle.editions.proofs.MakingLemmas.Known.{Laws}
use Rattle.items.specs.laws.ElementLaws.{all-from, all-front, all-behind}
use Rattle.editions.proofs.MakingLemmas.Puts.{apart, made-of, draft-of, input-of}
use Rattle.editions.proofs.ObjectLemmas.Changing.{after-at}
use Rattle.editions.proofs.StateLemmas.Carried.{left_at}
use Rattle.editions.proofs.ObjectLemmas.Entries.{entries-stay}
use Rattle.editions.proofs.ObjectLemmas.Standing.{files-stay}
use Rattle.editions.proofs.ObjectLemmas.Views.{HasCome, IsMadeNew, each-come}
use Rattle.editions.proofs.MakingLemmas.Filed.{filed}
use Rattle.editions.proofs.MakingLemmas.Places.{touched, stands-there, no-change}
use Rattle.editions.proofs.MakingLemmas.Counted.{IsWithin, all-within}

later-than : (clock n : ℕ) (state : State) → n ≡ next_moment clock state → state.moment < n
later-than clock n state e = omega (arith, e)

same-nothing : (uri bytes : List ℕ) → difference uri (Some bytes) (Some bytes) ≡ None
same-nothing uri bytes =
    ap (λ (b : Bool). cond b None (Some (Put uri bytes (Some (sha256 bytes))))) ((bytes_eq-Decides bytes bytes).1 refl)

module _ (laws : Laws) (premises : Premises) (clock : ℕ) (editions : List Edition) (edition : Edition)
    (old new : List SignerState) (steps : AreSteps premises editions)
    (planned : IsPlannedAndMade premises clock editions edition old new) where
  abbrev pub plan_input : PlanInput
  plan_input =
      plan_input_at premises (state_after editions) edition planned.sets planned.owed planned.issued

  abbrev pub by : IsMadeByPlan premises editions edition plan_input old new
  by = planned.made

  abbrev pub s : IssueInput
  s = made_from plan_input by.work

  abbrev pub trace : IssuingTrace
  trace = by.is_made.trace

  abbrev live : List KeyRow
  live = plan_input.basis.rows

  abbrev is_trace : IsIssuingTrace s live trace
  is_trace = by.is_made.is_trace

  abbrev pub before : Contents
  before = set_after editions

  abbrev pub behind : Contents
  behind = set_after (editions ++ edition ∷ [])

  -- ---- what changes

  after-is : behind ≡ after_all before edition.changes
  after-is = ap (λ (state : State). state.set) (laws.after editions (edition ∷ []))

  pub each : (uri : List ℕ) → change_at edition.changes uri ≡ wanted_at s trace uri
  each uri = ap (λ (l : List Change). change_at l uri) by.changes ∙ by.is_made.changes uri

  rising : Rise uri_of edition.changes
  rising = subst (Rise uri_of) (sym by.changes) by.is_made.rising

  fits : Fits s trace.keys
  fits = by.can_be_made.fits trace.keys is_trace.keys

  pub own-places : AllPairs (λ a b. a ≢ b) (map (λ x. x.draft.uri) (made_of trace))
  own-places = apart s live trace is_trace fits.once

  -- What is put stands then.
  pub stand : All (λ x. behind x.draft.uri ≡ Some (final_bytes s trace x x.draft.kind))
      (made_of trace)
  stand = subst (λ (held : Contents). All (λ x. held x.draft.uri
      ≡ Some (final_bytes s trace x x.draft.kind)) (made_of trace)) (sym after-is)
      (laws.stand s trace before edition.changes rising each own-places)

  -- ---- the plan

  pub plan : AreOfPlan plan_input by.work trace.keys
  plan = laws.next plan_input by.work trace.keys by.can_be_made.apart by.planned is_trace.keys

  abbrev pub m : Issuance
  m = record {
    vouched = premises.vouched;
    plan_input = plan_input;
    keys = plan.keys;
    entries = trace.entries;
    old = before;
    new = behind;
  }

  abbrev uris : List (List ℕ)
  uris = wanted_uris plan_input.site plan_input.basis.configs (next_keys plan_input.basis) plan_input.owed

  named : AreNamed plan_input.basis
  named = record { tree = by.tree; certified = by.certified }

  known : AreKnown plan_input plan.keys
  known = known-by plan_input by.work trace.keys plan named by.owes by.can_be_made.apart

  pub over : IsOver plan_input plan.keys
  over = record { next = plan.next; apart = by.can_be_made.apart }

  abbrev pub objects : List Draft
  objects = all_objects plan_input plan.keys

  wanted : All (λ uri. Any (λ d. d.uri ≡ uri) objects) uris
  wanted = laws.wanted plan_input by.work trace.keys plan named by.owes by.can_be_made.apart

  pub twos : Twos (λ a b. a.uri ≢ b.uri) objects
  twos = twos-from (λ (a b : Draft). a.uri ≢ b.uri) objects (by.places plan.keys plan.next)

  puts-new : puts s trace.keys ≡ new_puts plan_input plan.keys
  puts-new =
      ap (λ (l : List Draft). l ++ manifests s trace.keys) plan.drafts
      ∙ ap (λ (l : List Draft). drafts (anew plan_input plan.keys) (there plan.keys) ++ l) plan.manifests

  put-inside : (d : Draft) → Contains (puts s trace.keys) d → Contains objects d
  put-inside d c =
      in-contains d objects (new-in plan_input plan.keys d
      (subst (In d) puts-new (contains-in d (puts s trace.keys) c)))

  -- ---- what stays

  abbrev is_withdrawn : List ℕ → Bool
  is_withdrawn uri = list_any (λ u. bytes_eq u uri) s.work.withdrawn

  -- What stays isn't withdrawn.
  not-gone : (d : Draft) → In d objects → IsKept plan_input plan.keys d → is_withdrawn d.uri ≡ false
  not-gone d at kept =
      false_from_ne_true (is_withdrawn d.uri) (λ any.
      let w = in-any (λ (u : List ℕ). bytes_eq u d.uri) s.work.withdrawn any in
      not-wanted plan_input plan.keys known by.can_be_made.plain w.0 (subst (In w.0) by.planned.withdrawn w.1)
      (subst (λ (u : List ℕ). In u uris) (sym ((bytes_eq-Decides w.0 d.uri).0 w.2))
      (kept-wanted plan_input plan.keys known by.can_be_made.plain d (subst (In d) (puts-are plan_input plan.keys) at) kept)))

  -- Nothing changes where something is kept and nothing made.
  pub kept-same : (d : Draft) → In d objects → IsKept plan_input plan.keys d
      → ((e : Draft) → In e (new_puts plan_input plan.keys) → e.uri ≢ d.uri) → change_at edition.changes d.uri ≡ None
  kept-same d at kept away =
      no-change s live trace is_trace fits.once edition.changes each d.uri
      (λ e c. away e (subst (In e) puts-new (contains-in e (puts s trace.keys) c))) (not-gone d at kept)

  -- What is made is new.
  pub made-new : (x : Signed) → Contains (made_of trace) x → In x.draft (new_puts plan_input plan.keys)
  made-new x c =
      subst (In x.draft) puts-new (contains-in x.draft (puts s trace.keys) (draft-of s live trace is_trace fits.once x c))

  left-kept : (d : Draft) → In d objects → IsKept plan_input plan.keys d
      → ((e : Draft) → In e (new_puts plan_input plan.keys) → e.uri ≢ d.uri) → behind d.uri ≡ before d.uri
  left-kept d at kept away =
      ap (λ (held : Contents). held d.uri) after-is
      ∙ (after-at edition.changes before rising d.uri
      ∙ ap (λ (o : Option Change). left_at o (before d.uri)) (kept-same d at kept away))

  -- What stays of a key that gets a manifest can be listed.
  listable-of : (key : KeyRow) → Contains plan.keys key → keeps_point plan_input plan.keys key ≡ false
      → AreListable s trace.keys key
  listable-of key c isnt =
      let h = manifest-of-key plan_input plan.keys known key (contains-in key plan.keys c) in
      let at : In h.draft (manifests s trace.keys) =
      subst (In h.draft) (sym plan.manifests)
      (list-part plan_input plan.keys key h.draft (contains-in key plan.keys c) isnt h.is) in
      subst (AreListable s trace.keys) h.issuer
      (All-contains (λ (d : Draft). AreListable s trace.keys d.issuer) (manifests s trace.keys) h.draft fits.kept
      (in-contains h.draft (manifests s trace.keys) at))

  -- ---- the signatures

  abbrev made_calls : List Call
  made_calls = map keys.making trace.keys.fresh

  abbrev first : List Call
  first = first_calls s trace.keys (all_of s trace) trace.entries trace.objects

  abbrev second : List Call
  second = second_calls s trace.keys (all_of s trace) trace.objects

  abbrev third : List Call
  third = content_calls s trace.files trace.listed

  abbrev last : List Call
  last = last_calls s trace.keys (all_of s trace) trace.listed

  abbrev Vouched : List Call → Type 0
  Vouched calls = All (IsVouchedBy premises.vouched) calls

  lasts : Vouched last
  lasts = all-behind (IsVouchedBy premises.vouched) (made_calls ++ first ++ second ++ third) last
      by.vouched

  until-third : Vouched (made_calls ++ first ++ second ++ third)
  until-third = all-front (IsVouchedBy premises.vouched) (made_calls ++ first ++ second ++ third) last
      by.vouched

  thirds : Vouched third
  thirds = all-behind (IsVouchedBy premises.vouched) (made_calls ++ first ++ second) third until-third

  until-second : Vouched (made_calls ++ first ++ second)
  until-second = all-front (IsVouchedBy premises.vouched) (made_calls ++ first ++ second) third
      until-third

  are-vouched : AreVouched premises.vouched s trace
  are-vouched = record {
    first = all-behind (IsVouchedBy premises.vouched) made_calls first
        (all-front (IsVouchedBy premises.vouched) (made_calls ++ first) second until-second);
    second = all-behind (IsVouchedBy premises.vouched) (made_calls ++ first) second until-second;
  }

  -- ---- the objects

  are-objects : All (λ x. IsObject m x.draft x.draft.kind (final_bytes s trace x x.draft.kind))
      (made_of trace)
  are-objects = laws.new premises.vouched plan_input by.work trace before behind plan
      (homes plan_input by.work trace.keys plan known by.can_be_made.apart) is_trace
      (λ key c isnt. filed plan_input by.work trace.keys plan known over twos before behind by.table puts-new
      (touched s trace.keys uris by.planned.withdrawn objects put-inside wanted) not-gone left-kept key
      (contains-in key plan.keys c) isnt (listable-of key c isnt))
      (all-front (λ x. behind x.draft.uri ≡ Some (final_bytes s trace x x.draft.kind))
      trace.objects trace.listed stand)
      (all-from (λ x. IsInput (final_bytes s trace x x.draft.kind)) (made_of trace)
      (input-of s live trace is_trace fits.once by.made.changes by.is_made.changes by.readable))
      by.is_made.spelled are-vouched
      thirds lasts

  pub object-of : (x : Signed) → Contains (made_of trace) x
      → IsObject m x.draft x.draft.kind (final_bytes s trace x x.draft.kind)
  object-of x c =
      All-contains (λ (y : Signed). IsObject m y.draft y.draft.kind
      (final_bytes s trace y y.draft.kind)) (made_of trace) x are-objects c

  pub stands-of : (x : Signed) → Contains (made_of trace) x
      → behind x.draft.uri ≡ Some (final_bytes s trace x x.draft.kind)
  stands-of x c =
      All-contains (λ (y : Signed). behind y.draft.uri
      ≡ Some (final_bytes s trace y y.draft.kind)) (made_of trace) x stand c

  -- ---- the changes

  another : All (λ x. before x.draft.uri ≢ Some (final_bytes s trace x x.draft.kind))
      (made_of trace)
  another = all-from (λ x. before x.draft.uri ≢ Some (final_bytes s trace x x.draft.kind))
      (made_of trace) (λ x c.
      laws.another premises editions m x.draft (final_bytes s trace x x.draft.kind) x.draft.uri steps
      (later-than clock edition.moment (state_after editions) planned.moment) (object-of x c))

  pub are-changes : AreChanges before behind edition.changes
  are-changes = subst (λ (held : Contents). AreChanges before held edition.changes) (sym after-is)
      (laws.needed s trace before edition.changes by.table rising each another)

  -- ---- the set

  pub made-for : (d : Draft) → In d (new_puts plan_input plan.keys)
      → (x : Signed) × Contains (made_of trace) x × (x.draft ≡ d)
  made-for d at =
      made-of s live trace is_trace fits.once d
      (in-contains d (puts s trace.keys) (subst (In d) (sym puts-new) at))

  left-made : (d : Draft) → In d (new_puts plan_input plan.keys) → IsLeft m d false
  left-made d at =
      let x = made-for d at in
      subst (λ (e : Draft). IsLeft m e false) x.2
      (final_bytes s trace x.0 x.0.draft.kind, stands-of x.0 x.1, object-of x.0 x.1)

  pub drafted-at : (uri : List ℕ) → is_some (behind uri) ≡ true → Any (λ d. d.uri ≡ uri) objects
  drafted-at uri some = by-held (behind uri) refl some
    where
      by-held : (o : Option (List ℕ)) → behind uri ≡ o → is_some o ≡ true → Any (λ d. d.uri ≡ uri) objects
      by-held None stands is = absurd cc
      by-held (Some bytes) stands is =
          stands-there s trace.keys uris by.planned.withdrawn objects put-inside wanted live trace is_trace refl fits.once
          before behind edition.changes by.table are-changes each uri bytes stands

  -- What stays stood.
  kept-there : (d : Draft) → IsKept plan_input plan.keys d → is_some (before d.uri) ≡ true
  kept-there d kept =
      let row = by.table.each kept.row kept.among in
      ap is_some (ap before (sym kept.at) ∙ row.1)

  stands-at : (uri : List ℕ) → Any (λ d. d.uri ≡ uri) objects → is_some (behind uri) ≡ true
  stands-at uri any =
      let at : In any.1 objects = contains-in any.1 objects (any.0, any.2, any.3) in
      subst (λ (u : List ℕ). is_some (behind u) ≡ true) any.4
      (by-left any.1 at (made-or-left plan_input plan.keys over twos any.1 at))
    where
      by-left : (d : Draft) → In d objects → In d (new_puts plan_input plan.keys)
          ⊎ (IsKept plan_input plan.keys d × ((e : Draft) → In e (new_puts plan_input plan.keys) → e.uri ≢ d.uri))
          → is_some (behind d.uri) ≡ true
      by-left d at (inl made) = ap is_some (left-made d made).1
      by-left d at (inr stays) = ap is_some (left-kept d at stays.0 stays.1) ∙ kept-there d stays.0

  abbrev want : IssueInput
  want = whole plan_input plan.keys

  done-certificate : (cert : CertWork) → Contains (all_certificates plan_input plan.keys) cert
      → IsDone m (keeps_certificate plan_input plan.keys cert) (certificate_draft want (there plan.keys) cert)
  done-certificate cert c = by-draft (keeps_certificate plan_input plan.keys cert) (certificate_draft want (there plan.keys) cert) refl refl
    where
      by-draft : (b : Bool) (o : Option Draft) → keeps_certificate plan_input plan.keys cert ≡ b
          → certificate_draft want (there plan.keys) cert ≡ o → IsDone m b o
      by-draft b None e is = tt
      by-draft true (Some d) e is =
          let at = contains-in cert (all_certificates plan_input plan.keys) c in
          left-kept d (cert-object plan_input plan.keys cert d at is)
          (kept-certificate plan_input plan.keys over cert c e d is)
          (cert-away plan_input plan.keys twos cert d at e is)
      by-draft false (Some d) e is =
          left-made d (cert-new plan_input plan.keys cert d (contains-in cert (all_certificates plan_input plan.keys) c) e is)

  done-roa : (roa : RoaWork) → Contains (all_roas plan_input plan.keys) roa
      → IsDone m (keeps_roa plan_input plan.keys roa) (roa_draft want (there plan.keys) roa)
  done-roa roa c = by-draft (keeps_roa plan_input plan.keys roa) (roa_draft want (there plan.keys) roa) refl refl
    where
      by-draft : (b : Bool) (o : Option Draft) → keeps_roa plan_input plan.keys roa ≡ b
          → roa_draft want (there plan.keys) roa ≡ o → IsDone m b o
      by-draft b None e is = tt
      by-draft true (Some d) e is =
          let at = contains-in roa (all_roas plan_input plan.keys) c in
          left-kept d (roa-object plan_input plan.keys roa d at is)
          (kept-roa plan_input plan.keys over roa c e d is)
          (roa-away plan_input plan.keys twos roa d at e is)
      by-draft false (Some d) e is =
          left-made d (roa-new plan_input plan.keys roa d (contains-in roa (all_roas plan_input plan.keys) c) e is)

  done-crl : (key : KeyRow) → Contains plan.keys key
      → IsDone m (keeps_point plan_input plan.keys key) (crl_draft want (there plan.keys) (point_of (kept key)))
  done-crl key c = by-draft (keeps_point plan_input plan.keys key) (crl_draft want (there plan.keys) (point_of (kept key))) refl refl
    where
      by-draft : (b : Bool) (o : Option Draft) → keeps_point plan_input plan.keys key ≡ b
          → crl_draft want (there plan.keys) (point_of (kept key)) ≡ o → IsDone m b o
      by-draft b None e is = tt
      by-draft true (Some d) e is =
          let at = contains-in key plan.keys c in
          left-kept d (crl-object plan_input plan.keys key d at is)
          (kept-crl plan_input plan.keys over key c e d is)
          (crl-away plan_input plan.keys twos key d at e is)
      by-draft false (Some d) e is =
          left-made d (crl-new plan_input plan.keys key d (contains-in key plan.keys c) e is)

  done-manifest : (key : KeyRow) → Contains plan.keys key
      → IsDone m (keeps_point plan_input plan.keys key) (manifest_draft want (there plan.keys) (point_of (kept key)))
  done-manifest key c = by-draft (keeps_point plan_input plan.keys key) (manifest_draft want (there plan.keys) (point_of (kept key))) refl refl
    where
      by-draft : (b : Bool) (o : Option Draft) → keeps_point plan_input plan.keys key ≡ b
          → manifest_draft want (there plan.keys) (point_of (kept key)) ≡ o → IsDone m b o
      by-draft b None e is = tt
      by-draft true (Some d) e is =
          let at = contains-in key plan.keys c in
          left-kept d (list-object plan_input plan.keys key d at is)
          (kept-manifest plan_input plan.keys over key c e d is)
          (list-away plan_input plan.keys twos key d at e is)
      by-draft false (Some d) e is =
          left-made d (list-new plan_input plan.keys key d (contains-in key plan.keys c) e is)

  pub set : IsNewSet m
  set = record {
    apart = by.places plan.keys plan.next;
    places = λ uri. (drafted-at uri, stands-at uri);
    certificates = all-from (λ (cert : CertWork). IsDone m (keeps_certificate plan_input plan.keys cert)
        (certificate_draft want (there plan.keys) cert)) (all_certificates plan_input plan.keys) done-certificate;
    roas = all-from (λ (roa : RoaWork). IsDone m (keeps_roa plan_input plan.keys roa)
        (roa_draft want (there plan.keys) roa)) (all_roas plan_input plan.keys) done-roa;
    crls = all-from (λ (key : KeyRow). IsDone m (keeps_point plan_input plan.keys key)
        (crl_draft want (there plan.keys) (point_of (kept key)))) plan.keys done-crl;
    manifests = all-from (λ (key : KeyRow). IsDone m (keeps_point plan_input plan.keys key)
        (manifest_draft want (there plan.keys) (point_of (kept key)))) plan.keys done-manifest;
  }

  -- ---- a key whose point stays keeps its entries

  rising-of : (key : KeyRow) → Contains plan.keys key → are_rising (map crl_entry key.revoked) ≡ true
  rising-of key c = by-come (each-come live (next_keys plan_input.basis) plan.keys key plan.next.each c)
    where
      by-come : HasCome live key ⊎ IsMadeNew live key → are_rising (map crl_entry key.revoked) ≡ true
      by-come (inl come) =
          subst (λ (l : List RevokedRow). are_rising (map crl_entry l) ≡ true) (sym come.revoked)
          (All-contains (λ (row : KeyRow). AreRevoked s.work.moment row.revoked) live come.row by.can_be_made.revoked come.live).rising
      by-come (inr new) = ap (λ (l : List RevokedRow). are_rising (map crl_entry l)) new.revoked

  entries-same : (key : KeyRow) → Contains plan.keys key → keeps_point plan_input plan.keys key ≡ true
      → trace.entries key ≡ key.revoked
  entries-same key c keeps =
      entries-stay plan_input by.work trace before edition.changes plan is_trace by.table each key c keeps (rising-of key c)
      (λ row inside issuer.
      let d = (keeps-files plan_input plan.keys over by.table.rising key c keeps).stood row inside issuer in
      let held = by.table.each row inside in
      let stays : behind row.uri ≡ before row.uri =
      subst (λ (u : List ℕ). behind u ≡ before u) d.2 (files-stay m over set by.table.rising key c keeps d.0 d.1 d.3) in
      ap is_some (are-changes.each row.uri
      ∙ (ap (difference row.uri (before row.uri)) stays
      ∙ (ap (λ (o : Option (List ℕ)). difference row.uri o o) held.1 ∙ same-nothing row.uri held.0))))

  -- ---- the counters

  within : All IsWithin edition.rows
  within =
      let few = by.few in
      let many = by.is_made.count in
      subst (All IsWithin) (sym by.rows)
      (all-within s live trace is_trace by.can_be_made.numbers by.can_be_made.serials
      (omega (arith, few, many)) by.made.rows by.is_made.rows)

  are-counted : AreCounted edition
  are-counted = record {
    serial = let is = planned.serial in
        let below = planned.below in
        omega (arith, is, below);
    numbers = λ k d inside. (within k d inside).number;
    serials = λ k d inside. (within k d inside).serial;
  }

  -- ---- the step

  step : IsStepByRows premises clock editions edition
  step = record {
    serial = planned.serial;
    moment = planned.moment;
    dated = subst IsEditionMoment by.planned.moment by.can_be_made.moment;
    counted = are-counted;
    cut = planned.cut;
    sets = planned.sets;
    owed = planned.owed;
    issued = planned.issued;
    made = record {
      table = by.table;
      certified = by.certified;
      owes = by.owes;
      keys = plan.keys;
      next = plan.next;
      entries = trace.entries;
      rows = by.rows
          ∙ laws.counted plan_input by.work trace plan by.made.rows entries-same by.is_made.rows by.is_made.sorted;
      set = set;
      listed = laws.told plan_input by.work trace before edition.changes plan is_trace by.table each;
    };
    changes = are-changes;
  }

  pub follows : IsStep premises clock editions edition
  follows = laws.noted premises clock editions edition steps step
