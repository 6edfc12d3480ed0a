use Rattle.std.proofs.Common.{◌≡◌, ◌+◌, List, sym, ap, subst, ◌∙◌}
use Rattle.pub_set.specs.declared.objects.Object.{Object}
use Rattle.pub_set.specs.declared.steps.Change.{Change}
use Rattle.pub_set.specs.Objects.{IsAscending, Rise}
use Rattle.pub_set.specs.Changes.{uri_of, IsApplied}
use Rattle.key_roll.specs.declared.issued.IssuedRow.{IssuedRow}
use Rattle.key_roll.specs.declared.rows.KeyRow.{KeyRow}
use Rattle.entitle.specs.Certified.{settings_of}
use Rattle.editions.specs.PublishedState.{PublishedStateValue, IsConsistentState}
use Rattle.editions.specs.Standing.{IsTableAfter}
use Rattle.editions.specs.Ended.{ended_keys}
use Rattle.press_core.specs.Next.{NextValue}
use Rattle.press_core.proofs.making.next_of.Goals as goal

pub followed_by-requires : goal.followed_by-requires
followed_by-requires c =
    let made = c.args.made in
    let now = c.standing_after.new.self in
    let same = c.standing_after.ensures.kept in
    let state = c.new-state.ensures in
    let changes = c.as_slice-changed.ensures in
    let issued = c.as_slice-told.ensures in
    let set : IsApplied c.args.current.now.set c.as_slice-changed.result.now c.in_ok-standing.standing.set = c.in_ok-standing.ensures.set in
    let table : IsTableAfter c.args.current.now.issued c.as_slice-changed.result.now c.as_slice-told.result.now c.in_ok-standing.standing.table = c.in_ok-standing.ensures.table in
    record {
      changes_rise = subst (Rise uri_of) (sym changes) c.requires.stand.changes;
      issued_rise = c.requires.stand.issued;
      applied = subst (λ (a : PublishedStateValue). IsApplied a.set c.as_slice-changed.result.now c.new-state.result.set) (sym same)
          (subst (IsApplied c.args.current.now.set c.as_slice-changed.result.now) (sym (ap (λ (v : PublishedStateValue). v.set) state)) set);
      tabled = subst (λ (a : PublishedStateValue). IsTableAfter a.issued c.as_slice-changed.result.now made.issued c.new-state.result.issued) (sym same)
          (subst (λ (rows : List IssuedRow). IsTableAfter c.args.current.now.issued c.as_slice-changed.result.now rows c.new-state.result.issued) issued
          (subst (IsTableAfter c.args.current.now.issued c.as_slice-changed.result.now c.as_slice-told.result.now) (sym (ap (λ (v : PublishedStateValue). v.issued) state)) table));
    }

pub returns-clause-next : goal.returns-clause-next
returns-clause-next c =
    let at = c.args.at.now in
    let made = c.args.made in
    let same = c.parts-parts.ensures.parts in
    let p = c.new-4.result in
    let whole = c.new-4.ensures in
    let published_state = ap (λ (x : NextValue). x.next) whole ∙ c.in_ok-next.ensures in
    let value = published_state ∙ c.new-state.ensures in
    let changes = ap (λ (x : NextValue). x.changes) whole in
    let set = ap (λ (v : PublishedStateValue). v.set) value in
    let issued = ap (λ (v : PublishedStateValue). v.issued) value in
    let now : c.args.current.now ≡ at = c.requires.current in
    let table = subst (λ (a : PublishedStateValue). IsTableAfter a.issued made.changes made.issued p.next.issued) now
    (subst (λ (cs : List Change). IsTableAfter c.args.current.now.issued cs made.issued p.next.issued) c.as_slice-changed.ensures
    (subst (λ (rows : List IssuedRow). IsTableAfter c.args.current.now.issued c.as_slice-changed.result.now rows p.next.issued) c.as_slice-told.ensures
    (subst (IsTableAfter c.args.current.now.issued c.as_slice-changed.result.now c.as_slice-told.result.now) (sym issued) c.in_ok-standing.ensures.table))) in
    record {
      serial = ap (λ (v : PublishedStateValue). v.serial) value ∙ ap (λ (v : PublishedStateValue). v.serial + 1) same;
      moment = ap (λ (v : PublishedStateValue). v.moment) value;
      cut = ap (λ (v : PublishedStateValue). v.cut) value ∙ c.new.ensures;
      rows = ap (λ (v : PublishedStateValue). v.rows) value;
      configs = ap (λ (v : PublishedStateValue). v.configs) value ∙ ap settings_of c.new-2.ensures;
      kept = subst IsConsistentState (sym published_state) c.parts-kept.ensures.kept;
      ascending = subst IsAscending (sym set) c.as_slice-ascending.ensures.ascending;
      set = subst (λ (a : PublishedStateValue). IsApplied a.set made.changes p.next.set) now
          (subst (λ (cs : List Change). IsApplied c.args.current.now.set cs p.next.set) c.as_slice-changed.ensures
          (subst (IsApplied c.args.current.now.set c.as_slice-changed.result.now) (sym set) c.in_ok-standing.ensures.set));
      table = table;
      changes = changes;
      ended = ap (λ (x : NextValue). x.ended) whole ∙ (c.in_ok-ended.ensures
          ∙ (ap (λ (rows : List KeyRow). ended_keys rows c.as_slice-2.result.now) (c.as_slice.ensures ∙ ap (λ (v : PublishedStateValue). v.rows) same)
          ∙ ap (ended_keys at.rows) c.as_slice-2.ensures));
    }
