-- A prepared edition can be recorded, over what editions leave that left what stood.
use Rattle.std.proofs.Common.{◌≡◌, ◌≢◌, ℕ, ◌+◌, ◌^◌, ◌<◌, ◌≤◌, ◌&&◌, leb, ltb, eqb, Bool, true, false, List, [], ◌∷◌, length, map, refl, sym, ap, subst, ◌∙◌, arith}
use Rattle.std.specs.Prelude.{AllPairs, Contains, get_or, option_map}
use Rattle.std.specs.List.{AllByRecursion, list_all}
use Rattle.std.specs.Str.{is_utf8}
use Rattle.std.proofs.Math.Path.{fun_ext}
use Rattle.std.proofs.lemmas.Bool.{and_from, le-leb, lt-ltb, eq-eqb}
use Rattle.std.proofs.lemmas.List.{length-append, length-map}
use Rattle.std.proofs.lemmas.List.Elements.{All-contains}
use Rattle.std.proofs.lemmas.List.Sums.{count_by-le-length}
use Rattle.std.proofs.lemmas.List.Sorted.{length_permutation}
use Rattle.items.specs.laws.ElementLaws.{here, there, into-map}
use Rattle.items.specs.laws.PairLaws.{twos-from}
use Rattle.signer_api.specs.State.{SignerState}
use Rattle.authority_book.specs.declared.commands.Command.{Command}
use Rattle.key_roll.specs.declared.rows.KeyRow.{KeyRow}
use Rattle.key_roll.specs.declared.work.Work.{Work}
use Rattle.key_roll.specs.declared.work.KeyName.{KeyName}
use Rattle.key_roll.specs.declared.work.KeyName.TheVariants.{Live, Fresh}
use Rattle.pub_set.specs.declared.steps.Change.{Change}
use Rattle.sha2.specs.Sha256.{sha256}
use Rattle.pub_set.specs.Objects.{found_at, content_at}
use Rattle.pub_set.specs.Changes.{Contents, uri_of}
use Rattle.issue_keys.specs.Keys.{id_of}
use Rattle.issue_plan.specs.declared.keys.NextKey.{NextKey}
use Rattle.issue_plan.specs.Keys.{next_keys}
use Rattle.issue_plan.specs.Wanted.{PlanInput}
use Rattle.issue_plan.specs.Work as plan
use Rattle.issue_drafts.specs.IssueInput.{IssueInput}
use Rattle.issue_drafts.specs.Drafts.{serial_behind, is_numbered}
use Rattle.issue_drafts.specs.WorkKeys.{Keys, all_keys}
use Rattle.issue_drafts.specs.Firsts.{AreFirsts}
use Rattle.issue_drafts.specs.Revoking.{has_point, candidates}
use Rattle.issue_make.specs.Trace.{IssuingTrace, AreKeys, all_of, puts_of, row_after}
use Rattle.editions.specs.Keys.{IsNextBy, AreEach}
use Rattle.editions.specs.Edition.{Edition, State, first_state, after_edition, state_from, state_after}
use Rattle.editions.specs.PublishedState.{PublishedStateValue, IsConsistentState}
use Rattle.editions.specs.inner.PlanAndTable.{made_from, AreOfPlan}
use Rattle.editions.specs.laws.RowLaws.{either_row, keeps}
use Rattle.press_records.specs.Rows.{RowValue, row_value, rise}
use Rattle.press_records.specs.Stages.{are_staged}
use Rattle.press_records.specs.Recordable.{IsTyped, IsTypedRow, IsRowOver, IsChangeOver, IsRecordable}
use Rattle.press_records.specs.Changes.{uris_rise}
use Rattle.press_records.specs.Edition.{StandingValue, IsAlike, nothing_stands, first_moment, last_moment, is_next, is_dated, grows, is_cut, are_past, is_settled, are_live, may_follow}
use Rattle.press_records.specs.laws.RiseLaws.{at-its-uri, rise-tested}
use Rattle.press_core.specs.PrepareInput.{PrepareInput}
use Rattle.press_core.specs.Next.{NextValue}
use Rattle.press_core.specs.Planned.{IsPrepared, basis_for, issue_input_for}
use Rattle.press_core.specs.Stands.{IsLeftBy}
use Rattle.press_core.specs.Follows.{edition_of}
use Rattle.press_core.specs.Records.{edition_value, standing_at, standing_of}
use Rattle.press_records.specs.Records.{after_editions}
use Rattle.press_core.proofs.Recording.{rises, after-entries, rows-over, changes-over, grown, past-entries, ids-apart}

-- The law of the layers below that this rests on.
abbrev pub IsKeysLaw : Type 0
IsKeysLaw = (plan_input : PlanInput) (work : Work) (found : Keys) → AllPairs (λ a b. id_of a ≢ id_of b) plan_input.basis.rows
    → plan.IsWork plan_input (next_keys plan_input.basis) work → AreKeys (made_from plan_input work) plan_input.basis.rows found
    → AreOfPlan plan_input work found

module _ (keys-law : IsKeysLaw) (start : PrepareInput) (ring : List SignerState) (prepared : NextValue) (is : IsPrepared start ring prepared)
    (kept : IsConsistentState start.at) (staged : are_staged (map row_value prepared.next.rows) ≡ true)
    (hashes : (uri : List ℕ) → found_at (λ row. row.uri) (λ row. row.hash) start.at.issued uri ≡ option_map sha256 (content_at start.at.set uri)) where
  abbrev rows : List KeyRow
  rows = start.at.rows

  abbrev planned_input : PlanInput
  planned_input = record {
    basis = basis_for start is.made.planned.sets;
    owed = is.made.planned.plan.0;
    issued = start.at.issued;
    site = start.site;
  }

  abbrev s : IssueInput
  s = issue_input_for start is.made.work

  abbrev trace : IssuingTrace
  trace = is.made.is_made.trace

  of-plan : AreOfPlan planned_input is.made.work trace.keys
  of-plan = keys-law planned_input is.made.work trace.keys kept.live.apart is.made.planned.plan.2 is.made.is_made.is_trace.keys

  -- The rows are those of the next keys, each with a new CRL or with the one that it had.
  abbrev after : List KeyRow
  after = map (row_after s trace) of-plan.keys

  rows-are : prepared.next.rows ≡ after
  rows-are =
      is.made.rows
      ∙ of-plan.ordered (row_after s trace) (keeps s trace) is.made.made.rows is.made.is_made.rows is.made.is_made.sorted

  -- ---- moments

  moment-is : s.work.moment ≡ prepared.next.moment
  moment-is = of-plan.moment ∙ sym is.moment

  later : (row : KeyRow) → Contains rows row → row.this_update < s.work.moment
  later row c =
      let early = All-contains (λ (r : KeyRow). r.this_update ≤ start.at.moment) rows row kept.live.dated c in
      let behind = is.next.moment in
      let same = moment-is in
      omega (arith, early, behind, same)

  rising : (row : KeyRow) → Contains rows row → rise row.revoked ≡ true
  rising row c =
      ap (λ (r : KeyRow). rise r.revoked) (sym c.2)
      ∙ rises (get_or rows c.0 row).revoked (kept.live.revoked c.0 row c.1).rising

  at-end : (key : KeyRow) → Contains of-plan.keys key → Contains prepared.next.rows (row_after s trace key)
  at-end key c =
      subst (λ (l : List KeyRow). Contains l (row_after s trace key)) (sym rows-are)
      (into-map (row_after s trace) of-plan.keys key c)

  rising-at-end : (key : KeyRow) → Contains of-plan.keys key → rise (trace.entries key) ≡ true
  rising-at-end key c =
      let at = at-end key c in
      ap rise (sym (after-entries s trace (has_point s trace.keys key) key))
      ∙ ap (λ (r : KeyRow). rise r.revoked) (sym at.2)
      ∙ rises (get_or prepared.next.rows at.0 (row_after s trace key)).revoked
      (is.next.kept.live.revoked at.0 (row_after s trace key) at.1).rising

  past-at-end : (key : KeyRow) → Contains of-plan.keys key → are_past prepared.next.moment (row_value (row_after s trace key)) ≡ true
  past-at-end key c =
      let at = at-end key c in
      ap (λ (r : KeyRow). are_past prepared.next.moment (row_value r)) (sym at.2)
      ∙ past-entries prepared.next.moment (get_or prepared.next.rows at.0 (row_after s trace key)).revoked
      (is.next.kept.live.revoked at.0 (row_after s trace key) at.1).dated

  firsts-of : (key : KeyRow) → Contains of-plan.keys key → AreFirsts (candidates s trace.keys (puts_of s trace) key) (trace.entries key)
  firsts-of key c =
      All-contains (λ (k : KeyRow). AreFirsts (candidates s trace.keys (puts_of s trace) k) (trace.entries k)) (all_keys trace.keys) key
      is.made.is_made.is_trace.entries ((of-plan.same key).0 c)

  -- ---- counters

  few : length (all_of s trace) < 2 ^ 62
  few =
      let one = length_permutation (all_of s trace) (map (λ x. x.draft) trace.objects) is.made.is_made.is_trace.objects.permutation in
      let two = length-map trace.objects (λ x. x.draft) in
      let three = length-append trace.objects trace.listed in
      let four = is.made.is_made.count in
      let five = is.made.few in
      omega (arith, one, two, three, four, five)

  record IsSmall (key : KeyRow) : Type 0 where
    pub number : key.number < 2 ^ 62
    pub next_serial : key.next_serial < 2 ^ 62

  small-by : (next : NextKey) (name : KeyName) (key : KeyRow) → IsNextBy rows next name key → IsSmall key
  small-by next (Live id) key by =
      let number = All-contains (λ (r : KeyRow). r.number < 2 ^ 62) rows by.row is.made.planned.in_range.counted.numbers by.live in
      let serial = All-contains (λ (r : KeyRow). r.next_serial < 2 ^ 62) rows by.row is.made.planned.in_range.counted.serials by.live in
      record {
        number = subst (λ (k : KeyRow). k.number < 2 ^ 62) (sym by.same) number;
        next_serial = subst (λ (k : KeyRow). k.next_serial < 2 ^ 62) (sym by.same) serial;
      }
  small-by next (Fresh desk) key by = record {
    number = subst (λ (k : KeyRow). k.number < 2 ^ 62) (sym by.row) (omega arith);
    next_serial = subst (λ (k : KeyRow). k.next_serial < 2 ^ 62) (sym by.row) (omega arith);
  }

  settled-by : (b : Bool) (key : KeyRow) → IsSmall key → are_past prepared.next.moment (row_value (either_row s trace key b)) ≡ true
      → is_settled prepared.next.moment (row_value (either_row s trace key b)) ≡ true
  settled-by true key small past =
      let number = small.number in
      let serial = small.next_serial in
      let count = count_by-le-length (is_numbered key) (all_of s trace) in
      and_from (leb (key.number + 1) (2 ^ 63) && leb (serial_behind (all_of s trace) key + 1) (2 ^ 63)) _
      (and_from (leb (key.number + 1) (2 ^ 63)) (leb (serial_behind (all_of s trace) key + 1) (2 ^ 63))
      (le-leb (key.number + 1) (2 ^ 63) (omega (arith, number)))
      (le-leb (serial_behind (all_of s trace) key + 1) (2 ^ 63) (omega (arith, serial, count, few))))
      past
  settled-by false key small past =
      let number = small.number in
      let serial = small.next_serial in
      let count = count_by-le-length (is_numbered key) (all_of s trace) in
      and_from (leb key.number (2 ^ 63) && leb (serial_behind (all_of s trace) key) (2 ^ 63)) _
      (and_from (leb key.number (2 ^ 63)) (leb (serial_behind (all_of s trace) key) (2 ^ 63))
      (le-leb key.number (2 ^ 63) (omega (arith, number)))
      (le-leb (serial_behind (all_of s trace) key) (2 ^ 63) (omega (arith, serial, count, few))))
      past

  settled-rows : (nexts : List NextKey) (keys : List KeyRow) → AreEach rows nexts keys
      → ((key : KeyRow) → Contains keys key → are_past prepared.next.moment (row_value (row_after s trace key)) ≡ true)
      → list_all (is_settled prepared.next.moment) (map row_value (map (row_after s trace) keys)) ≡ true
  settled-rows [] [] each past = refl
  settled-rows [] (key ∷ keys) each past = absurd each
  settled-rows (next ∷ nexts) [] each past = absurd each
  settled-rows (next ∷ nexts) (key ∷ keys) each past =
      and_from (is_settled prepared.next.moment (row_value (row_after s trace key))) _
      (settled-by (has_point s trace.keys key) key (small-by next next.name key each.0) (past key (here key keys)))
      (settled-rows nexts keys each.1 (λ k c. past k (there key keys k c)))

  settled-all : list_all (is_settled prepared.next.moment) (map row_value prepared.next.rows) ≡ true
  settled-all =
      ap (λ (l : List KeyRow). list_all (is_settled prepared.next.moment) (map row_value l)) rows-are
      ∙ settled-rows (next_keys planned_input.basis) of-plan.keys of-plan.next.each past-at-end

  -- ---- all of it

  module _ (typed : IsTyped (edition_value (edition_of prepared))) where
    rows-fit : AllByRecursion (IsRowOver (map row_value rows)) (map row_value prepared.next.rows)
    rows-fit =
        subst (λ (l : List KeyRow). AllByRecursion (IsRowOver (map row_value rows)) (map row_value l)) (sym rows-are)
        (rows-over s trace rows kept.live.apart later rising (next_keys planned_input.basis) of-plan.keys of-plan.next.each
        firsts-of rising-at-end
        (subst (λ (l : List KeyRow). AllByRecursion IsTypedRow (map row_value l)) rows-are typed.rows))

    changes-fit : AllByRecursion (IsChangeOver (content_at start.at.set)) prepared.changes
    changes-fit =
        subst (AllByRecursion (IsChangeOver (content_at start.at.set))) (sym is.made.changes)
        (changes-over s trace (content_at start.at.set) hashes is.made.made.changes is.made.made.changes is.made.is_made.changes
        (λ change at. at-its-uri is.made.made.changes change is.made.is_made.rising at)
        (subst (AllByRecursion (λ (change : Change). is_utf8 (uri_of change) ≡ true)) is.made.changes typed.uris))

    module _ (before : StandingValue) (alike : IsAlike before (standing_of start.at)) where
      next-serial : is_next before.serial prepared.next.serial ≡ true
      next-serial =
          let serial = is.next.serial in
          let same = alike.serial in
          let below = is.made.planned.in_range.counted.serial in
          and_from (eqb prepared.next.serial (before.serial + 1)) (leb prepared.next.serial (2 ^ 63))
          (eq-eqb prepared.next.serial (before.serial + 1) (omega (arith, serial, same)))
          (le-leb prepared.next.serial (2 ^ 63) (omega (arith, serial, below)))

      dated : is_dated before.moment prepared.next.moment ≡ true
      dated =
          let behind = is.next.moment in
          let same = alike.moment in
          let at = moment-is in
          let low = is.made.able.moment.from in
          let high = is.made.able.moment.to in
          and_from (ltb before.moment prepared.next.moment && leb first_moment prepared.next.moment) (leb prepared.next.moment last_moment)
          (and_from (ltb before.moment prepared.next.moment) (leb first_moment prepared.next.moment)
          (lt-ltb before.moment prepared.next.moment (omega (arith, behind, same)))
          (le-leb first_moment prepared.next.moment (omega (arith, at, low))))
          (le-leb prepared.next.moment last_moment (omega (arith, at, high)))

      cut-grows : is_cut before.cut prepared.next.cut ≡ true
      cut-grows =
          and_from (eqb (length prepared.next.cut) 64) (grows before.cut prepared.next.cut)
          (eq-eqb (length prepared.next.cut) 64 is.next.kept.cut)
          (grown before.cut prepared.next.cut (λ desk.
          let le = is.next.cut desk in
          let same = alike.cut desk in
          omega (arith, le, same)))

      live : are_live prepared.next.moment (map row_value prepared.next.rows) ≡ true
      live =
          and_from (are_staged (map row_value prepared.next.rows) && list_all (is_settled prepared.next.moment) (map row_value prepared.next.rows)) _
          (and_from (are_staged (map row_value prepared.next.rows)) (list_all (is_settled prepared.next.moment) (map row_value prepared.next.rows)) staged settled-all)
          (ids-apart prepared.next.rows (twos-from (λ a b. id_of a ≢ id_of b) prepared.next.rows is.next.kept.live.apart))

      follows : may_follow before (edition_value (edition_of prepared)) ≡ true
      follows =
          and_from _ (uris_rise prepared.changes)
          (and_from _ (are_live prepared.next.moment (map row_value prepared.next.rows))
          (and_from _ (is_cut before.cut prepared.next.cut)
          (and_from (is_next before.serial prepared.next.serial) (is_dated before.moment prepared.next.moment) next-serial dated) cut-grows) live)
          (ap uris_rise is.made.changes ∙ rise-tested is.made.made.changes is.made.is_made.rising)

      pub can-be-recorded : IsRecordable before (edition_value (edition_of prepared))
      can-be-recorded = record {
        serial = typed.serial;
        moment = typed.moment;
        cut = typed.cut;
        rows = subst (λ (l : List RowValue). AllByRecursion (IsRowOver l) (map row_value prepared.next.rows)) (sym alike.rows) rows-fit;
        changes = subst (λ (held : Contents). AllByRecursion (IsChangeOver held) prepared.changes) (fun_ext (λ uri. sym (alike.set uri))) changes-fit;
        follows = follows;
      }

-- ---- what editions leave

left-behind : (state : State) (editions : List Edition) → after_editions (standing_at state) (map edition_value editions) ≡ standing_at (state_from state editions)
left-behind state [] = refl
left-behind state (edition ∷ editions) = left-behind (after_edition state edition) editions

pub recorded-left : (editions : List Edition) → after_editions nothing_stands (map edition_value editions) ≡ standing_at (state_after editions)
recorded-left editions = left-behind first_state editions

pub left-alike : (lists : List (List Command)) (editions : List Edition) (published_state : PublishedStateValue) → IsLeftBy lists editions published_state
    → IsAlike (standing_at (state_after editions)) (standing_of published_state)
left-alike lists editions published_state left = record {
  serial = sym left.serial;
  moment = sym left.moment;
  cut = λ desk. sym (left.cut desk);
  rows = sym (ap (map row_value) left.rows);
  set = λ uri. sym (left.set uri);
}
