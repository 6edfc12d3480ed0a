-- What stands after the making of a planned work.
use Rattle.std.proofs.Common.{◌≡◌, ◌≢◌, ℕ, ◌<◌, ◌≤◌, suc, eqb, Bool, true, false, cond, not, Option, None, Some, List, [], ◌∷◌, ◌++◌, map, filter, length, refl, sym, ap, subst, ◌∙◌, arith, ◌⊎◌, inl, inr}
use Rattle.std.specs.List.{All, AllPairs, Any, Contains, list_any}
use Rattle.std.specs.List.Sorted.{IsPermutation, IsSortedBy}
use Rattle.std.specs.Option.{option_map}
use Rattle.std.specs.Str.{bytes_eq}
use Rattle.std.proofs.lemmas.Bool.{false≢true, eqb-true, eq-eqb, or_cases}
use Rattle.std.proofs.lemmas.Cmp.{eq_by_cmp_equiv}
use Rattle.std.proofs.lemmas.List.{map-append, length-map}
use Rattle.std.proofs.lemmas.List.Kept.{AllPairs-cons}
use Rattle.std.proofs.lemmas.List.Sorted.{All-permutation, IsPermutation-sym, IsPermutation-append}
use Rattle.std.proofs.lemmas.Map.Made.{IsDistinct-from_AllPairs, length-le_from_is_member}
use Rattle.std.proofs.lemmas.Slice.Eq.{bytes_eq-Decides}
use Rattle.der.specs.Grammar.{AreBytes}
use Rattle.names.specs.Name.{IsName}
use Rattle.hex.specs.Hex.{encode_lower}
use Rattle.std.specs.Prelude.{codes}
use Rattle.key_ids.specs.Uris.{Bases, cert_uri, crl_uri, manifest_uri}
use Rattle.signer_api.specs.declared.values.PublicKey.{PublicKey}
use Rattle.authority_book.specs.Settings.{Settings}
use Rattle.entitle.specs.Certified.{names_of}
use Rattle.key_roll.specs.declared.rows.KeyRow.{KeyRow}
use Rattle.key_roll.specs.declared.rows.RevokedRow.{RevokedRow}
use Rattle.key_roll.specs.declared.rows.Role.TheVariants.{Current}
use Rattle.key_roll.specs.declared.issued.IssuedRow.{IssuedRow}
use Rattle.key_roll.specs.declared.work.Work.{Work}
use Rattle.key_roll.specs.declared.work.NewKey.{NewKey}
use Rattle.key_roll.specs.declared.work.RoleWork.{RoleWork}
use Rattle.pub_set.specs.declared.steps.Change.{Change}
use Rattle.pub_set.specs.declared.steps.Change.TheVariants.{Withdraw}
use Rattle.pub_set.specs.Objects.{is_same, found_at, Rise}
use Rattle.pub_set.specs.Changes.{change_at}
use Rattle.issue_values.specs.Certificates.{IsEditionMoment}
use Rattle.issue_values.specs.Bodies.{AreRevoked}
use Rattle.issue_keys.specs.Keys.{id_of, is_dropped, with_role, role_of, fresh_row, fresh_rows}
use Rattle.issue_drafts.specs.WorkKeys.{all_keys}
use Rattle.issue_drafts.specs.IssueInput.{IssueInput}
use Rattle.issue_drafts.specs.Drafts.{Draft, drafts, manifests}
use Rattle.issue_drafts.specs.laws.UriOrder.{same-decides, apart-permuted, apart-from-rise, found-some, found-there}
use Rattle.pub_set.specs.laws.UriLaws.{same_is as same-is, uri_total}
use Rattle.issue_drafts.specs.Revoking.{has_point, is_listed, is_superseded, is_touched, revoked_row, candidates}
use Rattle.issue_sign.specs.Objects.{Signed}
use Rattle.issue_make.specs.Trace.{IssuingTrace, AreKeys, IsIssuingTrace, puts_of, made_of, put_of, hash_at, withdrawal_at, or_else, wanted_at, IsIssued, row_after, is_before}
use Rattle.editions.specs.laws.RowLaws.{either_row, keeps}
use Rattle.editions.specs.inner.PlanAndTable.{made_from, AreOfPlan}
use Rattle.issue_plan.specs.declared.keys.NextKey.{NextKey}
use Rattle.issue_plan.specs.Keys.{next_keys}
use Rattle.issue_plan.specs.Wanted.{PlanInput}
use Rattle.issue_make.specs.ObjectPlan.{puts}
use Rattle.editions.specs.Standing.{row_at, IsTableAfter}
use Rattle.editions.specs.Standing as table
use Rattle.editions.specs.PublishedState.{AreLive}
use Rattle.issue_values.specs.UriEndings.{last_byte}
use Rattle.issue_drafts.specs.Firsts.{AreFirsts}
use Rattle.editions.specs.Clear.{IsElsewhere, IsClear}
use Rattle.items.specs.laws.AmongLaws.{In, in-all, all-in, in-parts, in-map, map-in, filter-in, in-permuted, any-in, in-any, contains-in, in-contains}
use Rattle.editions.proofs.PlanLemmas.Pairs.{left-of, twos-from, twos-pairs, twos-map, twos-weaker}
use Rattle.editions.proofs.PlanLemmas.Beside.{IsBeside}
use Rattle.editions.proofs.PlanLemmas.Entries.{all-at, all-of, is-row}
use Rattle.editions.proofs.PlanLemmas.Drafted.{AreKnown, HasCert, all_certs, all_roas, all_crls, all_manifests, all_puts}
use Rattle.editions.proofs.PlanLemmas.Told.{AreTold, HaveEnds, ends-apart, cert-crl, cert-manifest, roa-crl, roa-manifest, crl-manifest}
use Rattle.editions.proofs.PlanLemmas.Told as told_places
use Rattle.editions.proofs.PlanLemmas.Once.{own-bytes, name-ok, listed-ok, cert-from, crl-from, manifest-from, cert-end, crl-end, manifest-end, roa-end}

-- ---- lists of as many

-- Things that are apart and are all among as many others are all of these.
pub all-found : (xs ys : List (List ℕ)) → AllPairs (λ a b. a ≢ b) xs → ((u : List ℕ) → In u xs → In u ys) → length xs ≡ length ys
    → (u : List ℕ) → In u ys → In u xs
all-found xs ys apart inside same u at = by (list_any (is_same u) xs) refl
  where
    has : (q : List ℕ) → list_any (is_same q) (u ∷ xs) ≡ true → list_any (is_same q) ys ≡ true
    has q e =
        let w = in-any (is_same q) (u ∷ xs) e in
        any-in (is_same q) ys w.0 (there w.0 w.1) w.2
      where
        there : (v : List ℕ) → In v (u ∷ xs) → In v ys
        there v (inl is) = subst (λ (w : List ℕ). In w ys) is at
        there v (inr later) = inside v later

    by : (b : Bool) → list_any (is_same u) xs ≡ b → In u xs
    by true e =
        let w = in-any (is_same u) xs e in
        subst (λ (v : List ℕ). In v xs) (sym (same-is u w.0 w.2)) w.1
    by false e =
        let other : All (λ v. u ≢ v) xs =
        all-in (λ (v : List ℕ). u ≢ v) xs (λ v here is.
        false≢true (sym e ∙ any-in (is_same u) xs v here ((same-decides u v).1 is))) in
        let long : suc (length xs) ≤ length ys =
        length-le_from_is_member (eq_by_cmp_equiv uri_total) (u ∷ xs) ys
        (IsDistinct-from_AllPairs same-decides (u ∷ xs) (AllPairs-cons (λ (a b : List ℕ). a ≢ b) u xs other apart)) has in
        absurd (omega (arith, long, same))

fresh-from : (news : List NewKey) (keys : List PublicKey) (f : KeyRow) → In f (fresh_rows news keys)
    → (new : NewKey) × (key : PublicKey) × In new news × (fresh_row new key ≡ f)
fresh-from [] keys f at = absurd at
fresh-from (new ∷ news) [] f at = absurd at
fresh-from (new ∷ news) (key ∷ keys) f (inl same) = (new, key, inl refl, same)
fresh-from (new ∷ news) (key ∷ keys) f (inr at) = let w = fresh-from news keys f at in (w.0, w.1, inr w.2, w.3)

not-none : {X : Type 0} (a b : Option X) (x : X) → b ≡ Some x → or_else a b ≡ None → ⊥
not-none None b x e none = let no : None ≡ Some x = sym none ∙ e in absurd cc
not-none (Some y) b x e none = absurd cc

-- ---- the rows of the keys

module _ (s : IssueInput) (trace : IssuingTrace) where
  keeps-signer : (key : KeyRow) → (row_after s trace key).signer ≡ key.signer
  keeps-signer key = by (has_point s trace.keys key)
    where
      by : (b : Bool) → (either_row s trace key b).signer ≡ key.signer
      by true = refl
      by false = refl

  has-entries : (key : KeyRow) → (row_after s trace key).revoked ≡ trace.entries key
  has-entries key = by (has_point s trace.keys key)
    where
      by : (b : Bool) → (either_row s trace key b).revoked ≡ trace.entries key
      by true = refl
      by false = refl

  updated : (key : KeyRow) (b : Bool) → has_point s trace.keys key ≡ b
      → (row_after s trace key).this_update ≡ cond b s.work.moment key.this_update
  updated key true e = ap (λ (b : Bool). (either_row s trace key b).this_update) e
  updated key false e = ap (λ (b : Bool). (either_row s trace key b).this_update) e

  same-signer : (row : KeyRow) (r : Option RoleWork) → (with_role row r).signer ≡ row.signer
  same-signer row None = refl
  same-signer row (Some r) = refl

  -- Each key is of a signer that is there.
  pub have-signers : (rows after : List KeyRow) (signers : ℕ) → AreKeys s rows trace.keys → All (λ row. row.signer < signers) rows
      → All (λ new. new.signer < signers) s.work.new_keys
      → IsPermutation (map (row_after s trace) (all_keys trace.keys)) after → All (λ row. row.signer < signers) after
  have-signers rows after signers are live asked moved =
      All-permutation (λ (row : KeyRow). row.signer < signers) (map (row_after s trace) (all_keys trace.keys)) after moved
      (all-in (λ (row : KeyRow). row.signer < signers) (map (row_after s trace) (all_keys trace.keys)) (λ row here.
      let w = map-in (row_after s trace) row (all_keys trace.keys) here in
      subst (λ (r : KeyRow). r.signer < signers) w.2
      (subst (λ (n : ℕ). n < signers) (sym (keeps-signer w.0)) (by w.0 (in-parts w.0 trace.keys.kept trace.keys.fresh w.1)))))
    where
      by : (key : KeyRow) → In key trace.keys.kept ⊎ In key trace.keys.fresh → key.signer < signers
      by key (inl stays) =
          let w = map-in (λ (r : KeyRow). with_role r (role_of s.work.roles r)) key
          (filter (λ (r : KeyRow). not (is_dropped s.work.dropped r)) rows) (subst (In key) are.kept stays) in
          let f = filter-in (λ (r : KeyRow). not (is_dropped s.work.dropped r)) w.0 rows w.1 in
          subst (λ (r : KeyRow). r.signer < signers) w.2
          (subst (λ (n : ℕ). n < signers) (sym (same-signer w.0 (role_of s.work.roles w.0)))
          (in-all (λ (r : KeyRow). r.signer < signers) w.0 rows live f.0))
      by key (inr comes) =
          let w = fresh-from are.fresh.news are.fresh.keys key (subst (In key) are.fresh.rows comes) in
          let new = in-permuted w.0 are.fresh.news s.work.new_keys
          (IsPermutation-sym s.work.new_keys are.fresh.news are.fresh.by_desk.permutation) w.2 in
          subst (λ (r : KeyRow). r.signer < signers) w.3
          (in-all (λ (n : NewKey). n.signer < signers) w.0 s.work.new_keys asked new)

module _ (plan_input : PlanInput) (work : Work) (trace : IssuingTrace) (plan : AreOfPlan plan_input work trace.keys)
    (known : AreKnown plan_input plan.keys) (is_trace : IsIssuingTrace (made_from plan_input work) plan_input.basis.rows trace) where
  abbrev s : IssueInput
  s = made_from plan_input work

  abbrev ks : List KeyRow
  ks = plan.keys

  abbrev after : KeyRow → KeyRow
  after = row_after s trace

  beside : (k : KeyRow) → In k ks → (next : NextKey) × In next (next_keys plan_input.basis) × IsBeside plan_input.basis.rows next k
  beside k here = left-of (IsBeside plan_input.basis.rows) (next_keys plan_input.basis) ks k known.sides here

  pub rows-are : (rows : List KeyRow) → IsPermutation (map after (all_keys trace.keys)) rows → IsSortedBy is_before rows
      → rows ≡ map after ks
  rows-are rows moved sorted = plan.ordered after (keeps s trace) rows moved sorted

  ids-apart : AllPairs (λ a b. id_of a ≢ id_of b) (map after ks)
  ids-apart =
      twos-pairs (λ (a b : KeyRow). id_of a ≢ id_of b) (map after ks)
      (twos-map after (λ (a b : KeyRow). id_of a ≢ id_of b) ks
      (twos-weaker (λ (a b : KeyRow). id_of a ≢ id_of b) (λ (a b : KeyRow). id_of (after a) ≢ id_of (after b)) ks
      (λ a b c d other same. other (sym ((keeps s trace).key a) ∙ (same ∙ (keeps s trace).key b)))
      (twos-from (λ (a b : KeyRow). id_of a ≢ id_of b) ks known.own)))

  abbrev HasFirsts : KeyRow → Type 0
  HasFirsts k = AreFirsts (candidates s trace.keys (puts_of s trace) k) (trace.entries k)

  firsts : (k : KeyRow) → In k ks → HasFirsts k
  firsts k here =
      in-all HasFirsts k (all_keys trace.keys) is_trace.entries
      (contains-in k (all_keys trace.keys) ((plan.same k).0 (in-contains k ks here)))

  -- ---- entries

  module _ (last : ℕ) (later : last ≤ plan_input.basis.moment) (moment : IsEditionMoment plan_input.basis.moment)
      (revoked : All (λ row. AreRevoked last row.revoked) plan_input.basis.rows) where
    abbrev IsDated : RevokedRow → Type 0
    IsDated r = (946_684_800 ≤ r.revoked_at) × (r.revoked_at ≤ plan_input.basis.moment)

    entry-dated : (k : KeyRow) → In k ks → (r : RevokedRow) → In r (trace.entries k) → IsDated r
    entry-dated k here r at =
        let row = is-row (candidates s trace.keys (puts_of s trace) k) (trace.entries k) r (firsts k here) at in
        let f = filter-in (is_listed s trace.keys k) r
        (k.revoked ++ map (revoked_row s.work.moment) (filter (is_superseded s (puts_of s trace) k) s.issued)) row in
        by (in-parts r k.revoked (map (revoked_row s.work.moment) (filter (is_superseded s (puts_of s trace) k) s.issued)) f.0)
      where
        by : In r k.revoked ⊎ In r (map (revoked_row s.work.moment) (filter (is_superseded s (puts_of s trace) k) s.issued))
            → IsDated r
        by (inl old) =
            let b = beside k here in
            let w = b.2.entries r old in
            let all = in-all (λ (row : KeyRow). AreRevoked last row.revoked) w.0 plan_input.basis.rows revoked w.1 in
            let d = all-at (λ (x : RevokedRow). (946_684_800 ≤ x.revoked_at) × (x.revoked_at ≤ last)) w.0.revoked r all.dated w.2 in
            let until = d.1 in
            (d.0, omega (arith, until, later))
        by (inr new) =
            let w = map-in (revoked_row s.work.moment) r (filter (is_superseded s (puts_of s trace) k) s.issued) new in
            let now : r.revoked_at ≡ plan_input.basis.moment = ap (λ (x : RevokedRow). x.revoked_at) (sym w.2) ∙ plan.moment in
            let from = moment.from in
            (omega (arith, now, from), omega (arith, now))

    entries-good : (k : KeyRow) → In k ks → AreRevoked plan_input.basis.moment (trace.entries k)
    entries-good k here = record {
      rising = (firsts k here).rising;
      dated = all-of IsDated (trace.entries k) (λ r at. entry-dated k here r at);
    }

    -- A CRL is of the moment, or was made before.
    row-dated : All (λ row. row.this_update ≤ last) plan_input.basis.rows → (k : KeyRow) → In k ks
        → (after k).this_update ≤ plan_input.basis.moment
    row-dated dated k here = by (has_point s trace.keys k) refl (beside k here).2.dated
      where
        by : (b : Bool) → has_point s trace.keys k ≡ b
            → ((row : KeyRow) × In row plan_input.basis.rows × (k.this_update ≡ row.this_update)) ⊎ (k.this_update ≡ 0)
            → (after k).this_update ≤ plan_input.basis.moment
        by true e old =
            let now : (after k).this_update ≡ plan_input.basis.moment = updated s trace k true e ∙ plan.moment in
            omega (arith, now)
        by false e (inl old) =
            let same : (after k).this_update ≡ old.0.this_update = updated s trace k false e ∙ old.2 in
            let until : old.0.this_update ≤ last =
            in-all (λ (row : KeyRow). row.this_update ≤ last) old.0 plan_input.basis.rows dated old.1 in
            omega (arith, same, until, later)
        by false e (inr new) =
            let none : (after k).this_update ≡ 0 = updated s trace k false e ∙ new in
            omega (arith, none)

    -- The keys are live at the moment.
    pub are-live : All (λ row. row.this_update ≤ last) plan_input.basis.rows → (rows : List KeyRow) → IsPermutation (map after (all_keys trace.keys)) rows → IsSortedBy is_before rows
        → AreLive plan_input.basis.moment rows
    are-live dated rows moved sorted =
        subst (AreLive plan_input.basis.moment) (sym (rows-are rows moved sorted)) (record {
          apart = ids-apart;
          revoked = all-in (λ (row : KeyRow). AreRevoked plan_input.basis.moment row.revoked) (map after ks) (λ row here.
              let w = map-in after row ks here in
              subst (λ (r : KeyRow). AreRevoked plan_input.basis.moment r.revoked) w.2
              (subst (AreRevoked plan_input.basis.moment) (sym (has-entries s trace w.0)) (entries-good w.0 w.1)));
          dated = all-in (λ (row : KeyRow). row.this_update ≤ plan_input.basis.moment) (map after ks) (λ row here.
              let w = map-in after row ks here in
              subst (λ (r : KeyRow). r.this_update ≤ plan_input.basis.moment) w.2 (row-dated dated w.0 w.1));
        })

  -- ---- what is issued is put

  module _ (puts-once : AllPairs (λ a b. a ≢ b) (map (λ d. d.uri) (puts s trace.keys))) (issued : List IssuedRow)
      (count : length issued ≡ length (made_of trace)) (each : All (λ x. Any (IsIssued s trace x) issued) (made_of trace)) where
    abbrev draft_of : Signed → Draft
    draft_of x = x.draft

    moved : IsPermutation (puts s trace.keys) (map draft_of (made_of trace))
    moved =
        subst (IsPermutation (puts s trace.keys)) (sym (map-append draft_of trace.objects trace.listed))
        (IsPermutation-append (drafts s trace.keys) (map draft_of trace.objects) (manifests s trace.keys)
        (map draft_of trace.listed) is_trace.objects.permutation is_trace.listed.permutation)

    abbrev uri_of : Draft → List ℕ
    uri_of d = d.uri

    issued-uri : (u : List ℕ) → In u (map uri_of (map draft_of (made_of trace))) → In u (map (λ row. row.uri) issued)
    issued-uri u here =
        let d = map-in uri_of u (map draft_of (made_of trace)) here in
        let x = map-in draft_of d.0 (made_of trace) d.1 in
        let any = in-all (λ (y : Signed). Any (IsIssued s trace y) issued) x.0 (made_of trace) each x.1 in
        let inside : In any.1 issued = contains-in any.1 issued (any.0, any.2, any.3) in
        subst (λ (v : List ℕ). In v (map (λ row. row.uri) issued)) (any.4.uri ∙ (ap uri_of x.2 ∙ d.2))
        (in-map (λ (row : IssuedRow). row.uri) any.1 issued inside)

    -- Each row of what was issued is at the URI of a draft.
    pub row-put : (row : IssuedRow) → In row issued → (d : Draft) × In d (puts s trace.keys) × (d.uri ≡ row.uri)
    row-put row here =
        let long : length (map uri_of (map draft_of (made_of trace))) ≡ length (map (λ (r : IssuedRow). r.uri) issued) =
        length-map (map draft_of (made_of trace)) uri_of
        ∙ (length-map (made_of trace) draft_of ∙ (sym count ∙ sym (length-map issued (λ (r : IssuedRow). r.uri)))) in
        let at = all-found (map uri_of (map draft_of (made_of trace))) (map (λ (r : IssuedRow). r.uri) issued)
        (apart-permuted uri_of (puts s trace.keys) (map draft_of (made_of trace)) moved puts-once) issued-uri long row.uri
        (in-map (λ (r : IssuedRow). r.uri) row issued here) in
        let d = map-in uri_of row.uri (map draft_of (made_of trace)) at in (
          d.0,
          in-permuted d.0 (map draft_of (made_of trace)) (puts s trace.keys)
              (IsPermutation-sym (puts s trace.keys) (map draft_of (made_of trace)) moved) d.1,
          d.2,
        )

    -- ---- what stands afterwards is put

    module _ (rising : Rise (λ row. row.uri) plan_input.issued)
        (wanted_in : (d : Draft) → In d (puts s trace.keys) → In d (all_puts plan_input ks))
        (touched : (row : IssuedRow) → In row plan_input.issued → (is_touched s (puts s trace.keys) row.uri ≡ true)
        ⊎ ((d : Draft) × In d (all_puts plan_input ks) × (d.uri ≡ row.uri)))
        (changes : List Change) (wanted : (uri : List ℕ) → change_at changes uri ≡ wanted_at s trace uri)
        (new : List IssuedRow) (is_table : IsTableAfter plan_input.issued changes issued new) where
      abbrev IsPut : List ℕ → Type 0
      IsPut uri = (d : Draft) × In d (all_puts plan_input ks) × (d.uri ≡ uri)

      from-issued : (uri : List ℕ) (row : IssuedRow) → row_at issued uri ≡ Some row → IsPut uri
      from-issued uri row e =
          let f = found-some (λ (r : IssuedRow). r.uri) (λ (r : IssuedRow). r) issued uri row e in
          let p = row-put f.0 (contains-in f.0 issued f.1) in
          (p.0, wanted_in p.0 p.1, p.2 ∙ f.2)

      from-old : (uri : List ℕ) (row : IssuedRow) → row_at plan_input.issued uri ≡ Some row → change_at changes uri ≡ None → IsPut uri
      from-old uri row e none =
          let f = found-some (λ (r : IssuedRow). r.uri) (λ (r : IssuedRow). r) plan_input.issued uri row e in
          let here : In f.0 plan_input.issued = contains-in f.0 plan_input.issued f.1 in
          either f.0 f.1 f.2 (touched f.0 here)
        where
          by : (list_any (λ (d : Draft). bytes_eq d.uri uri) (puts s trace.keys) ≡ true)
              ⊎ (list_any (λ (w : List ℕ). bytes_eq w uri) work.withdrawn ≡ true) → (old : IssuedRow)
              → Contains plan_input.issued old → old.uri ≡ uri → IsPut uri
          by (inl put) old c is =
              let w = in-any (λ (d : Draft). bytes_eq d.uri uri) (puts s trace.keys) put in
              (w.0, wanted_in w.0 w.1, (bytes_eq-Decides w.0.uri uri).0 w.2)
          by (inr gone) old c is =
              let stands : hash_at s uri ≡ Some old.hash =
              subst (λ (u : List ℕ). hash_at s u ≡ Some old.hash) is
              (found-there (λ (r : IssuedRow). r.uri) (λ (r : IssuedRow). r.hash) plan_input.issued old
              (apart-from-rise (λ (r : IssuedRow). r.uri) plan_input.issued rising) c) in
              let goes : withdrawal_at s uri ≡ Some (Withdraw uri old.hash) =
              ap (λ (b : Bool). cond b (option_map (λ (hash : List ℕ). Withdraw uri hash) (hash_at s uri)) None) gone
              ∙ ap (λ (o : Option (List ℕ)). option_map (λ (hash : List ℕ). Withdraw uri hash) o) stands in
              absurd (not-none (found_at (λ x. x.draft.uri) (put_of s trace) (made_of trace) uri) (withdrawal_at s uri)
              (Withdraw uri old.hash) goes (sym (wanted uri) ∙ none))

          either : (old : IssuedRow) → Contains plan_input.issued old → old.uri ≡ uri
              → (is_touched s (puts s trace.keys) old.uri ≡ true) ⊎ ((d : Draft) × In d (all_puts plan_input ks) × (d.uri ≡ old.uri))
              → IsPut uri
          either old c is (inl touches) =
              by (or_cases (list_any (λ (d : Draft). bytes_eq d.uri uri) (puts s trace.keys))
              (list_any (λ (w : List ℕ). bytes_eq w uri) work.withdrawn)
              (subst (λ (u : List ℕ). is_touched s (puts s trace.keys) u ≡ true) is touches)) old c is
          either old c is (inr stays) = (stays.0, stays.1, stays.2 ∙ is)

      stands-put : (uri : List ℕ) (row : IssuedRow) → row_at new uri ≡ Some row → IsPut uri
      stands-put uri row e =
          by (row_at plan_input.issued uri) (change_at changes uri) (row_at issued uri) refl refl refl (sym (is_table.each uri) ∙ e)
        where
          by : (o : Option IssuedRow) (c : Option Change) (n : Option IssuedRow) → row_at plan_input.issued uri ≡ o
              → change_at changes uri ≡ c → row_at issued uri ≡ n → table.row_after o c n ≡ Some row → IsPut uri
          by o c (Some r) f g h is = from-issued uri r h
          by o (Some c) None f g h is = absurd cc
          by None None None f g h is = absurd cc
          by (Some r) None None f g h is = from-old uri r f g

      pub table-put : (row : IssuedRow) → In row new → IsPut row.uri
      table-put row here =
          stands-put row.uri row
          (found-there (λ (r : IssuedRow). r.uri) (λ (r : IssuedRow). r) new row
          (apart-from-rise (λ (r : IssuedRow). r.uri) new is_table.rising) (in-contains row new here))

      -- ---- nothing stands at the places of other keys

      module _ (plain : All (λ row. IsName row.name) (names_of plan_input.basis.configs)) (told : AreTold) (ends : HaveEnds)
          (id : List ℕ) (bytes : AreBytes id)
          (other : (k : KeyRow) → In k ks → id_of k ≢ id) where
        abbrev site : Bases
        site = plan_input.site

        abbrev configs : List Settings
        configs = plan_input.basis.configs

        -- What ends otherwise is of another kind.
        by-kind : (uri : List ℕ) (n : ℕ) → last_byte uri ≡ n → n ≢ 114 → n ≢ 108 → n ≢ 116 → IsElsewhere site id uri
        by-kind uri n is cert crl manifest = record {
          certificate = λ name good. ends-apart uri (cert_uri site name id) n 114 is (ends.certificates site name id) cert;
          crl = λ name good. ends-apart uri (crl_uri site name id) n 108 is (ends.crls site name id) crl;
          manifest = λ name good. ends-apart uri (manifest_uri site name id) n 116 is (ends.manifests site name id) manifest;
        }

        off-cert : (d : Draft) → In d (all_certs plan_input ks) → IsElsewhere site id d.uri
        off-cert d at =
            let w = cert-from plan_input ks known d at in
            record {
              certificate = λ name good same. by w.0 w.1 w.2 name good (ap uri_of w.3 ∙ same);
              crl = λ name good.
                  ends-apart d.uri (crl_uri site name id) 114 108 (cert-end plan_input ks known plain told ends d at)
                  (ends.crls site name id) cert-crl;
              manifest = λ name good.
                  ends-apart d.uri (manifest_uri site name id) 114 116 (cert-end plan_input ks known plain told ends d at)
                  (ends.manifests site name id) cert-manifest;
            }
          where
            by : (k : KeyRow) → In k ks → (h : HasCert plan_input ks k) → (name : List ℕ) → IsName name
                → h.draft.uri ≡ cert_uri site name id → ⊥
            by k here h name good same = of (eqb k.desk 0) refl
              where
                of : (b : Bool) → eqb k.desk 0 ≡ b → ⊥
                of true e =
                    told.anchor site name (encode_lower id ++ codes ".cer") (sym (h.anchor (eqb-true k.desk 0 e)) ∙ same)
                of false e =
                    let c = h.below (λ zero_desk. false≢true (sym e ∙ eq-eqb k.desk 0 zero_desk)) in
                    other k here (told.certificates site c.0 name (id_of k) id (listed-ok configs c.0 plain c.2) good (own-bytes k) bytes
                    (sym c.3 ∙ same)).1

        off-crl : (d : Draft) → In d (all_crls plan_input ks) → IsElsewhere site id d.uri
        off-crl d at =
            let w = crl-from plan_input ks known d at in
            record {
              certificate = λ name good.
                  ends-apart d.uri (cert_uri site name id) 108 114 (crl-end plan_input ks known plain told ends d at)
                  (ends.certificates site name id) (λ e. cert-crl (sym e));
              crl = λ name good same.
                  other w.0 w.1 (told.crls site w.2.name.name name (id_of w.0) id (name-ok configs w.0.desk w.2.name plain w.2.called)
                  good (own-bytes w.0) bytes (sym w.2.uri ∙ (ap uri_of w.3 ∙ same))).1;
              manifest = λ name good.
                  ends-apart d.uri (manifest_uri site name id) 108 116 (crl-end plan_input ks known plain told ends d at)
                  (ends.manifests site name id) crl-manifest;
            }

        off-manifest : (d : Draft) → In d (all_manifests plan_input ks) → IsElsewhere site id d.uri
        off-manifest d at =
            let w = manifest-from plan_input ks known d at in
            record {
              certificate = λ name good.
                  ends-apart d.uri (cert_uri site name id) 116 114 (manifest-end plan_input ks known plain told ends d at)
                  (ends.certificates site name id) (λ e. cert-manifest (sym e));
              crl = λ name good.
                  ends-apart d.uri (crl_uri site name id) 116 108 (manifest-end plan_input ks known plain told ends d at)
                  (ends.crls site name id) (λ e. crl-manifest (sym e));
              manifest = λ name good same.
                  other w.0 w.1 (told.manifests site w.2.name.name name (id_of w.0) id
                  (name-ok configs w.0.desk w.2.name plain w.2.called) good (own-bytes w.0) bytes
                  (sym w.2.uri ∙ (ap uri_of w.3 ∙ same))).1;
            }

        off-roa : (d : Draft) → In d (all_roas plan_input ks) → IsElsewhere site id d.uri
        off-roa d at =
            by-kind d.uri 97 (roa-end plan_input ks known plain told ends d at) (λ e. told_places.cert-roa (sym e)) roa-crl roa-manifest

        off-put : (d : Draft) → In d (all_puts plan_input ks) → IsElsewhere site id d.uri
        off-put d at =
            by (in-parts d ((all_certs plan_input ks ++ all_roas plan_input ks) ++ all_crls plan_input ks) (all_manifests plan_input ks) at)
          where
            first : In d (all_certs plan_input ks) ⊎ In d (all_roas plan_input ks) → IsElsewhere site id d.uri
            first (inl c) = off-cert d c
            first (inr c) = off-roa d c

            second : In d (all_certs plan_input ks ++ all_roas plan_input ks) ⊎ In d (all_crls plan_input ks) → IsElsewhere site id d.uri
            second (inl c) = first (in-parts d (all_certs plan_input ks) (all_roas plan_input ks) c)
            second (inr c) = off-crl d c

            by : In d ((all_certs plan_input ks ++ all_roas plan_input ks) ++ all_crls plan_input ks) ⊎ In d (all_manifests plan_input ks)
                → IsElsewhere site id d.uri
            by (inl c) = second (in-parts d (all_certs plan_input ks ++ all_roas plan_input ks) (all_crls plan_input ks) c)
            by (inr c) = off-manifest d c

        pub off-all : All (λ row. IsElsewhere site id row.uri) new
        off-all =
            all-in (λ (row : IssuedRow). IsElsewhere site id row.uri) new (λ row here.
            let p = table-put row here in
            subst (IsElsewhere site id) p.2 (off-put p.0 p.1))

      pub is-clear : (plain : All (λ row. IsName row.name) (names_of plan_input.basis.configs)) → AreTold → HaveEnds
          → ((next : NextKey) → In next (next_keys plan_input.basis) → next.desk ≡ 0 → next.role ≡ Current)
          → (rows : List KeyRow) → IsPermutation (map after (all_keys trace.keys)) rows → IsSortedBy is_before rows
          → IsClear plan_input.site rows new
      is-clear plain told ends anchor rows moved_rows sorted =
          subst (λ (l : List KeyRow). IsClear plan_input.site l new) (sym (rows-are rows moved_rows sorted)) (record {
            places = λ id bytes other.
                off-all plain told ends id bytes (λ k here same.
                in-all (λ (key : KeyRow). id_of key ≢ id) (after k) (map after ks) other (in-map after k ks here)
                ((keeps s trace).key k ∙ same));
            anchor = all-in (λ (key : KeyRow). key.desk ≡ 0 → key.role ≡ Current) (map after ks) (λ row here at.
                let w = map-in after row ks here in
                let b = beside w.0 w.1 in
                let desk : b.0.desk ≡ 0 =
                sym b.2.desk ∙ (sym ((keeps s trace).desk w.0) ∙ (ap (λ (r : KeyRow). r.desk) w.2 ∙ at)) in
                ap (λ (r : KeyRow). r.role) (sym w.2) ∙ ((keeps s trace).role w.0 ∙ (b.2.role ∙ anchor b.0 b.1 desk)));
          })
