-- What is planned over what stands can be made.
use Rattle.std.proofs.Common.{◌≡◌, ◌≢◌, ℕ, ◌<◌, ◌||◌, Bool, true, false, not, List, [], ◌∷◌, ◌++◌, map, filter, length, get_or, refl, sym, ap, subst, ◌∙◌, arith, ◌&&◌, ◌⊎◌, inl, inr}
use Rattle.std.specs.Prelude.{IsSome}
use Rattle.std.specs.List.{All, AllPairs, Any, slice_get, list_any}
use Rattle.std.specs.Str.{bytes_eq}
use Rattle.std.proofs.lemmas.Bool.{false≢true, and_parts, or_right}
use Rattle.std.proofs.lemmas.Slice.Eq.{bytes_eq-Decides}
use Rattle.key_ids.specs.Uris.{Bases}
use Rattle.authority_book.specs.Settings.{Settings}
use Rattle.entitle.specs.declared.trees.Owed.{Owed}
use Rattle.entitle.specs.Certified.{names_of}
use Rattle.entitle.specs.Owed.{AreOwed}
use Rattle.key_roll.specs.declared.rows.KeyRow.{KeyRow}
use Rattle.key_roll.specs.declared.issued.IssuedRow.{IssuedRow}
use Rattle.key_roll.specs.declared.work.Work.{Work}
use Rattle.pub_set.specs.Objects.{found_at}
use Rattle.issue_values.specs.Certificates.{IsEditionMoment}
use Rattle.issue_values.specs.Bodies.{AreRevoked}
use Rattle.issue_keys.specs.Keys.{id_of, kept_rows}
use Rattle.issue_drafts.specs.WorkKeys.{Keys}
use Rattle.issue_drafts.specs.IssueInput.{IssueInput}
use Rattle.issue_drafts.specs.Drafts.{Draft, drafts, manifests}
use Rattle.issue_drafts.specs.Revoking.{is_touched}
use Rattle.issue_drafts.specs.Files.{is_kept, folder_at, IsListable}
use Rattle.issue_make.specs.Trace.{AreKeys}
use Rattle.editions.specs.Wanted.{there, whole, anew, all_objects}
use Rattle.editions.specs.Keys.{AreNext}
use Rattle.editions.specs.inner.PlanAndTable.{made_from, AreOfPlan}
use Rattle.issue_plan.specs.declared.keys.NextKey.{NextKey}
use Rattle.issue_plan.specs.Keys.{Basis, inits_of, next_keys}
use Rattle.issue_plan.specs.Wanted.{PlanInput}
use Rattle.issue_plan.specs.Uris.{wanted_uris, is_among, withdrawn}
use Rattle.key_ids.specs.Uris.{anchor_uri}
use Rattle.issue_plan.specs.Work.{IsPlan}
use Rattle.issue_plan.specs.Work as plans
use Rattle.issue_make.specs.ObjectPlan.{puts}
use Rattle.issue_make.specs.CanMake.{AreListable, Fits, CanMake}
use Rattle.editions.specs.PublishedState.{PublishedStateValue, desks, AreTakenIn, IsConsistentState}
use Rattle.editions.specs.Names.{AreTree}
use Rattle.editions.specs.inner.PlannedWork.{AreApart, AreNamed}
use Rattle.editions.specs.Clear.{IsClear}
use Rattle.editions.specs.inner.Following.{CanFollow, setting_over}
use Rattle.items.specs.laws.AmongLaws.{In, in-all, all-in, in-behind, map-in, any-in, contains-in, in-contains}
use Rattle.editions.proofs.ObjectLemmas.Fitting.{IsKept}
use Rattle.editions.proofs.ObjectLemmas.Kept.{IsOver}
use Rattle.editions.proofs.PlanLemmas.Pairs.{Twos, one-of, twos-pairs, twos-map, twos-filter, twos-append, rise-twos}
use Rattle.editions.proofs.PlanLemmas.Accepted.{accepted-tree}
use Rattle.editions.proofs.PlanLemmas.Anchor.{none-begun, one-anchor}
use Rattle.editions.proofs.PlanLemmas.There.{Names, all-named, are-there}
use Rattle.editions.proofs.PlanLemmas.Desks.{are-of-desks}
use Rattle.editions.proofs.PlanLemmas.Certified.{are-certified}
use Rattle.editions.proofs.PlanLemmas.Rest.{withdrawn-stands, revoked-later}
use Rattle.editions.proofs.PlanLemmas.Beside.{are-beside}
use Rattle.editions.proofs.PlanLemmas.Owing.{owed-twos}
use Rattle.editions.proofs.PlanLemmas.Owing as owing
use Rattle.editions.proofs.PlanLemmas.Drafted.{AreKnown, all_puts, puts-are, same-key}
use Rattle.editions.proofs.PlanLemmas.Fitted.{new_puts, new-in, new-twos, IsPlaced, placed, made-or-kept}
use Rattle.editions.proofs.PlanLemmas.Told.{AreTold, HaveEnds}
use Rattle.editions.proofs.PlanLemmas.Once.{AreAway, puts-twos}
use Rattle.editions.proofs.PlanLemmas.Wanted.{wanted-put}
use Rattle.editions.proofs.PlanLemmas.Free.{among-is, in-withdrawn, put-stays}

-- What the keys and the objects of a planned work are.
abbrev pub ArePlanned : Type 0
ArePlanned = (plan_input : PlanInput) (work : Work) (found : Keys)
    → AllPairs (λ a b. id_of a ≢ id_of b) plan_input.basis.rows
    → plans.IsWork plan_input (next_keys plan_input.basis) work
    → AreKeys (made_from plan_input work) plan_input.basis.rows found → AreOfPlan plan_input work found

-- What the laws of lower crates say.
pub record AreLaws : Type 0 where
  pub planned : ArePlanned
  pub told : AreTold
  pub ends : HaveEnds
  pub origins : owing.AreTold

pub known-next : (plan_input : PlanInput) (ks : List KeyRow) → AreNext plan_input.basis.rows (next_keys plan_input.basis) ks
    → AreNamed plan_input.basis → AreOwed plan_input.basis.configs plan_input.owed → AreApart plan_input.basis.rows
    → AreKnown plan_input ks
known-next plan_input ks next named owes apart = record {
  sides = are-beside plan_input.basis.rows apart (next_keys plan_input.basis) ks
      (λ key here. in-all (λ (k : NextKey). Names plan_input.basis.rows k.desk k.name) key (next_keys plan_input.basis)
      (all-named plan_input.basis) here) next.each;
  own = next.apart;
  named = named;
  owes = owes;
}

module _ (plan_input : PlanInput) (work : Work) (found : Keys) (plan : AreOfPlan plan_input work found)
    (named : AreNamed plan_input.basis) (owes : AreOwed plan_input.basis.configs plan_input.owed)
    (apart : AreApart plan_input.basis.rows) where
  pub known-by : AreKnown plan_input plan.keys
  known-by = known-next plan_input plan.keys plan.next named owes apart

  pub wanted-there : All (λ uri. Any (λ d. d.uri ≡ uri) (all_objects plan_input plan.keys))
      (wanted_uris plan_input.site plan_input.basis.configs (next_keys plan_input.basis) plan_input.owed)
  wanted-there =
      all-in (λ (uri : List ℕ). Any (λ (d : Draft). d.uri ≡ uri) (all_objects plan_input plan.keys))
      (wanted_uris plan_input.site plan_input.basis.configs (next_keys plan_input.basis) plan_input.owed)
      (λ uri here.
      let w = wanted-put plan_input plan.keys known-by uri here in
      let c = in-contains w.0 (all_objects plan_input plan.keys) (subst (In w.0) (sym (puts-are plan_input plan.keys)) w.1) in
      (c.0, w.0, c.1, c.2, w.2))

module _ (planned : ArePlanned) (plan_input : PlanInput) (work : Work) (found : Keys)
    (is_work : plans.IsWork plan_input (next_keys plan_input.basis) work) (named : AreNamed plan_input.basis)
    (owes : AreOwed plan_input.basis.configs plan_input.owed) (apart : AreApart plan_input.basis.rows)
    (are : AreKeys (made_from plan_input work) plan_input.basis.rows found) where
  pub of-plan : AreOfPlan plan_input work found
  of-plan = planned plan_input work found apart is_work are

  pub known : AreKnown plan_input of-plan.keys
  known = known-by plan_input work found of-plan named owes apart

  pub puts-same : puts (made_from plan_input work) found ≡ new_puts plan_input of-plan.keys
  puts-same =
      ap (λ (l : List Draft). l ++ manifests (made_from plan_input work) found) of-plan.drafts
      ∙ ap (λ (l : List Draft). drafts (anew plan_input of-plan.keys) (there of-plan.keys) ++ l) of-plan.manifests

first-tree : (configs : List Settings) (cut : List ℕ) → length configs ≡ desks → AreTakenIn configs cut
    → AreTree (names_of configs) × (inits_of (slice_get configs 0) ≡ 0)
first-tree [] cut long taken = absurd (omega (arith, long))
first-tree (config ∷ configs) cut long taken =
    let w = taken 0 config refl in (
      subst (λ (c : Settings). AreTree c.names) (sym w.is) (accepted-tree w.commands w.taken),
      ap (λ (c : Settings). c.inits) w.is ∙ none-begun w.commands w.taken,
    )

module _ (at : PublishedStateValue) (site : Bases) (signers : ℕ) (basis : Basis)
    (published_state : IsConsistentState at) (follow : CanFollow at site signers basis) where
  pub rows-apart : AreApart basis.rows
  rows-apart = subst AreApart (sym follow.rows) published_state.live.apart

  tree : AreTree (names_of basis.configs) × (inits_of (slice_get basis.configs 0) ≡ 0)
  tree = first-tree basis.configs follow.cut follow.configs follow.taken

  pub clear-rows : IsClear site basis.rows at.issued
  clear-rows = subst (λ (rows : List KeyRow). IsClear site rows at.issued) (sym follow.rows) follow.clear

  pub anchors : Twos (λ a b. a.desk ≡ 0 → b.desk ≢ 0) (next_keys basis)
  anchors = one-anchor basis tree.1 clear-rows.anchor

  pub begun : inits_of (slice_get basis.configs 0) ≡ 0
  begun = tree.1

  pub tree-named : AreNamed basis
  tree-named = record { tree = tree.0; certified = follow.certified }

-- No two objects that are wanted have one place.
pub objects-apart : AreTold → HaveEnds → owing.AreTold → (at : PublishedStateValue) (site : Bases) (signers : ℕ) (basis : Basis)
    (owed : List Owed) (keys : List KeyRow) → IsConsistentState at → CanFollow at site signers basis → AreOwed basis.configs owed
    → AreNext basis.rows (next_keys basis) keys → AllPairs (λ a b. a.uri ≢ b.uri)
    (all_objects (record { basis = basis; owed = owed; issued = at.issued; site = site }) keys)
objects-apart told ends origins at site signers basis owed keys published_state follow owes next =
    let input : PlanInput = record { basis = basis; owed = owed; issued = at.issued; site = site } in
    let known = known-next input keys next (tree-named at site signers basis published_state follow) owes
    (rows-apart at site signers basis published_state follow) in
    twos-pairs (λ (a b : Draft). a.uri ≢ b.uri) (all_objects input keys)
    (subst (Twos AreAway) (sym (puts-are input keys))
    (puts-twos input keys known follow.typed.names told ends (anchors at site signers basis published_state follow)
    (owed-twos origins basis.configs follow.typed.origins owed owes)))

module _ (laws : AreLaws) (at : PublishedStateValue) (site : Bases) (signers : ℕ) (basis : Basis) (work : Work)
    (published_state : IsConsistentState at) (follow : CanFollow at site signers basis) (is_plan : IsPlan basis at.issued site work) where
  abbrev pub plan_input : PlanInput
  plan_input = record { basis = basis; owed = is_plan.0; issued = at.issued; site = site }

  abbrev s : IssueInput
  s = setting_over basis at.issued site work

  abbrev wanted : List (List ℕ)
  wanted = wanted_uris site basis.configs (next_keys basis) is_plan.0

  pub others : Twos owing.AreOthers is_plan.0
  others = owed-twos laws.origins basis.configs follow.typed.origins is_plan.0 is_plan.1

  module _ (found : Keys) (are : AreKeys s basis.rows found) where
    abbrev pub its : AreOfPlan plan_input work found
    its = of-plan laws.planned plan_input work found is_plan.2 (tree-named at site signers basis published_state follow) is_plan.1 (rows-apart at site signers basis published_state follow) are

    abbrev pub ks : List KeyRow
    ks = its.keys

    pub its-known : AreKnown plan_input ks
    its-known = known laws.planned plan_input work found is_plan.2 (tree-named at site signers basis published_state follow) is_plan.1 (rows-apart at site signers basis published_state follow) are

    pub its-puts : puts s found ≡ new_puts plan_input ks
    its-puts = puts-same laws.planned plan_input work found is_plan.2 (tree-named at site signers basis published_state follow) is_plan.1 (rows-apart at site signers basis published_state follow) are

    its-over : IsOver plan_input ks
    its-over = record { next = its.next; apart = rows-apart at site signers basis published_state follow }

    -- No two objects that are wanted have one place.
    all-twos : Twos AreAway (all_objects plan_input ks)
    all-twos =
        subst (Twos AreAway) (sym (puts-are plan_input ks))
        (puts-twos plan_input ks its-known follow.typed.names laws.told laws.ends (anchors at site signers basis published_state follow) others)

    uris-twos : Twos (λ (a b : List ℕ). a ≢ b) (map (λ (d : Draft). d.uri) (new_puts plan_input ks))
    uris-twos =
        twos-map (λ (d : Draft). d.uri) (λ (a b : List ℕ). a ≢ b) (new_puts plan_input ks)
        (new-twos plan_input ks AreAway all-twos)

    pub wanted-in : (d : Draft) → In d (all_objects plan_input ks) → In d (all_puts plan_input ks)
    wanted-in d at = subst (In d) (puts-are plan_input ks) at

    withdrawn-twos : Twos (λ (a b : List ℕ). a ≢ b) (withdrawn wanted at.issued)
    withdrawn-twos =
        twos-map (λ (r : IssuedRow). r.uri) (λ (a b : List ℕ). a ≢ b)
        (filter (λ (r : IssuedRow). not (is_among wanted r.uri)) at.issued)
        (twos-filter (λ (r : IssuedRow). not (is_among wanted r.uri)) (λ (a b : IssuedRow). a.uri ≢ b.uri) at.issued
        (rise-twos (λ (r : IssuedRow). r.uri) at.issued published_state.rising))

    uris-once : AllPairs (λ a b. a ≢ b) (map (λ d. d.uri) (new_puts plan_input ks) ++ withdrawn wanted at.issued)
    uris-once =
        twos-pairs (λ (a b : List ℕ). a ≢ b) (map (λ (d : Draft). d.uri) (new_puts plan_input ks) ++ withdrawn wanted at.issued)
        (twos-append (λ (a b : List ℕ). a ≢ b) (map (λ (d : Draft). d.uri) (new_puts plan_input ks)) (withdrawn wanted at.issued)
        uris-twos withdrawn-twos
        (λ u v c d same.
        let w = map-in (λ (x : Draft). x.uri) u (new_puts plan_input ks) c in
        put-stays plan_input ks its-known follow.typed.names (clear-rows at site signers basis published_state follow) w.0
        (wanted-in w.0 (new-in plan_input ks w.0 w.1)) v d (w.2 ∙ same)))

    pub puts-apart : AllPairs (λ a b. a ≢ b) (map (λ d. d.uri) (puts s found))
    puts-apart =
        subst (λ (l : List Draft). AllPairs (λ (a b : List ℕ). a ≢ b) (map (λ (d : Draft). d.uri) l)) (sym its-puts)
        (twos-pairs (λ (a b : List ℕ). a ≢ b) (map (λ (d : Draft). d.uri) (new_puts plan_input ks)) uris-twos)

    pub once : AllPairs (λ a b. a ≢ b) (map (λ d. d.uri) (puts s found) ++ work.withdrawn)
    once =
        subst (λ (l : List Draft). AllPairs (λ (a b : List ℕ). a ≢ b) (map (λ (d : Draft). d.uri) l ++ work.withdrawn))
        (sym its-puts)
        (subst (λ (l : List (List ℕ)). AllPairs (λ (a b : List ℕ). a ≢ b) (map (λ (d : Draft). d.uri) (new_puts plan_input ks) ++ l))
        (sym is_plan.2.withdrawn) uris-once)

    -- What stands and is wanted, and is kept.
    pub record IsStaying (row : IssuedRow) : Type 0 where
      pub draft : Draft
      pub among : In draft (all_objects plan_input ks)
      pub place : draft.uri ≡ row.uri
      pub kept : IsKept plan_input ks draft

    -- All that stands is put anew, withdrawn or kept.
    pub all-touched : (row : IssuedRow) → In row at.issued → (is_touched s (puts s found) row.uri ≡ true) ⊎ IsStaying row
    all-touched row here = by (is_among wanted row.uri) refl
      where
        touched : (d : Draft) → In d (new_puts plan_input ks) → d.uri ≡ row.uri → is_touched s (puts s found) row.uri ≡ true
        touched d put same =
            let any : list_any (λ (x : Draft). bytes_eq x.uri row.uri) (new_puts plan_input ks) ≡ true =
            any-in (λ (x : Draft). bytes_eq x.uri row.uri) (new_puts plan_input ks) d put ((bytes_eq-Decides d.uri row.uri).1 same) in
            ap (λ (l : List Draft). list_any (λ (x : Draft). bytes_eq x.uri row.uri) l
            || list_any (λ (u : List ℕ). bytes_eq u row.uri) work.withdrawn) its-puts
            ∙ ap (λ (b : Bool). b || list_any (λ (u : List ℕ). bytes_eq u row.uri) work.withdrawn) any

        of : (d : Draft) → In d (all_objects plan_input ks) → d.uri ≡ row.uri
            → In d (new_puts plan_input ks) ⊎ IsKept plan_input ks d
            → (is_touched s (puts s found) row.uri ≡ true) ⊎ IsStaying row
        of d among same (inl put) = inl (touched d put same)
        of d among same (inr kept) = inr (record { draft = d; among = among; place = same; kept = kept })

        by : (b : Bool) → is_among wanted row.uri ≡ b → (is_touched s (puts s found) row.uri ≡ true) ⊎ IsStaying row
        by true e =
            let w = wanted-put plan_input ks its-known row.uri
            (among-is wanted row.uri e) in
            let among : In w.0 (all_objects plan_input ks) = subst (In w.0) (sym (puts-are plan_input ks)) w.1 in
            of w.0 among w.2 (made-or-kept plan_input ks its-over w.0 among)
        by false e =
            let gone : In row.uri work.withdrawn =
            subst (In row.uri) (sym is_plan.2.withdrawn)
            (in-withdrawn wanted at.issued row here e) in
            inl (or_right (list_any (λ (d : Draft). bytes_eq d.uri row.uri) (puts s found))
            (list_any (λ (u : List ℕ). bytes_eq u row.uri) work.withdrawn)
            (any-in (λ (u : List ℕ). bytes_eq u row.uri) work.withdrawn row.uri gone ((bytes_eq-Decides row.uri row.uri).1 refl)))

    -- A row at a place is the one there.
    one-row : (a b : IssuedRow) → In a at.issued → In b at.issued → a.uri ≡ b.uri → a ≡ b
    one-row a b c d same =
        one-of (λ (r : IssuedRow). r.uri) at.issued a b (rise-twos (λ (r : IssuedRow). r.uri) at.issued published_state.rising) c d same

    -- What stays of a key can be listed.
    stays-listable : (key : KeyRow) → In key ks → (row : IssuedRow) → In row at.issued
        → is_kept s (puts s found) key row ≡ true → IsListable (folder_at s key) row.uri
    stays-listable key live row here stays = by (all-touched row here)
      where
        parts : ((bytes_eq row.issuer.bytes (id_of key) ≡ true) × (not (bytes_eq row.uri (anchor_uri s.site)) ≡ true))
            × (not (is_touched s (puts s found) row.uri) ≡ true)
        parts =
            let p = and_parts (bytes_eq row.issuer.bytes (id_of key) && not (bytes_eq row.uri (anchor_uri s.site)))
            (not (is_touched s (puts s found) row.uri)) stays in
            (and_parts (bytes_eq row.issuer.bytes (id_of key)) (not (bytes_eq row.uri (anchor_uri s.site))) p.0, p.1)

        of : (d : Draft) → IsPlaced plan_input ks d → d.uri ≡ row.uri → d.issuer ≡ key → IsListable (folder_at s key) row.uri
        of d is same issuer = from is.place
          where
            from : (d.uri ≡ anchor_uri plan_input.site) ⊎ IsListable (folder_at (whole plan_input ks) d.issuer) d.uri
                → IsListable (folder_at s key) row.uri
            from (inl anchor) =
                let yes : bytes_eq row.uri (anchor_uri s.site) ≡ true =
                (bytes_eq-Decides row.uri (anchor_uri s.site)).1 (sym same ∙ anchor) in
                absurd (false≢true (ap not (sym yes) ∙ parts.0.1))
            from (inr listable) =
                subst (λ (k : KeyRow). IsListable (folder_at s k) row.uri) issuer
                (subst (λ (u : List ℕ). IsListable (folder_at s d.issuer) u) same listable)

        by : (is_touched s (puts s found) row.uri ≡ true) ⊎ IsStaying row → IsListable (folder_at s key) row.uri
        by (inl touched) = absurd (false≢true (ap not (sym touched) ∙ parts.1))
        by (inr is) =
            let one : is.kept.row ≡ row =
            one-row is.kept.row row (contains-in is.kept.row at.issued is.kept.among) here (is.kept.at ∙ is.place) in
            let placed_at = placed plan_input ks is.draft is.among in
            let ids : id_of is.draft.issuer ≡ id_of key =
            sym is.kept.issuer ∙ (ap (λ (r : IssuedRow). r.issuer.bytes) one
            ∙ (bytes_eq-Decides row.issuer.bytes (id_of key)).0 parts.0.0) in
            of is.draft placed_at is.place (same-key plan_input ks its-known is.draft.issuer key placed_at.live live ids)

    listable : (key : KeyRow) → In key ks → AreListable s found key
    listable key live =
        all-in (λ (row : IssuedRow). is_kept s (puts s found) key row ≡ true → IsListable (folder_at s key) row.uri) at.issued
        (stays-listable key live)

    -- The manifests that are made are those of these keys.
    all-listable : All (λ d. AreListable s found d.issuer) (manifests s found)
    all-listable =
        subst (All (λ (d : Draft). AreListable s found d.issuer)) (sym its.manifests)
        (all-in (λ (d : Draft). AreListable s found d.issuer) (manifests (anew plan_input ks) (there ks))
        (λ d at. listable d.issuer (placed plan_input ks d
        (new-in plan_input ks d (in-behind d (drafts (anew plan_input ks) (there ks)) (manifests (anew plan_input ks) (there ks)) at))).live))

    pub fits : Fits s found
    fits =
        let there = are-there plan_input s is_plan.2 found are in
        record {
          subjects = there.subjects;
          issuers = there.issuers;
          roas = there.roas;
          points = there.points;
          certified = are-certified plan_input work found its its-known (rows-apart at site signers basis published_state follow) follow.typed.names follow.named;
          once = once;
          kept = all-listable;
        }

  pub is-work : CanMake s at.rows signers
  is-work =
      let of = are-of-desks plan_input s signers is_plan.2 (rows-apart at site signers basis published_state follow) (record { same = refl; there = follow.name_signers }) in
      record {
        moment = subst IsEditionMoment (sym is_plan.2.moment) follow.moment;
        new_signers = of.new_signers;
        live_signers = follow.live_signers;
        new_desks = of.new_desks;
        desks = subst (λ (rows : List KeyRow). All (λ row. row.desk < length (names_of basis.configs)) (kept_rows work rows)) follow.rows
            of.desks;
        plain = follow.typed.names;
        apart = published_state.live.apart;
        serials = follow.counters.serials;
        numbers = follow.counters.numbers;
        revoked = λ k d lt.
            subst (λ (m : ℕ). AreRevoked m (get_or at.rows k d).revoked) (sym is_plan.2.moment)
            (revoked-later at.moment basis.moment (get_or at.rows k d).revoked follow.later (published_state.live.revoked k d lt));
        standing = published_state.rising;
        withdrawn = subst (λ (l : List (List ℕ)). All (λ (uri : List ℕ). IsSome (found_at (λ row. row.uri) (λ row. row.hash) at.issued uri)) l)
            (sym is_plan.2.withdrawn) (withdrawn-stands wanted at.issued);
        fits = λ keys are. fits keys (subst (λ (rows : List KeyRow). AreKeys s rows keys) (sym follow.rows) are);
      }
