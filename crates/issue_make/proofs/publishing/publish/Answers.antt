use Rattle.std.proofs.Common.{rules, sym, subst}
use Rattle.std.specs.List.Sorted.{IsPermutation, IsSortedBy}
use Rattle.std.specs.Ordering.{is_lt}
use Rattle.pub_set.specs.declared.steps.Change.{Change}
use Rattle.pub_set.specs.Changes.{uri_of}
use Rattle.pub_set.specs.Objects.{uri_cmp}
use Rattle.key_roll.specs.declared.issued.IssuedRow.{IssuedRow}
use Rattle.issue_drafts.specs.IssueInput.{input_of}
use Rattle.issue_drafts.specs.laws.UriOrder.{by-uri, compares-uris}
use Rattle.issue_make.proofs.Stages.{many, stage, stage-rising, stage-listed, stage-wanted, stage-count, stage-issued}
use Rattle.issue_make.proofs.publishing.publish.Goals as goal

pub changes_of-requires-clause-each : goal.changes_of-requires-clause-each
changes_of-requires-clause-each c =
    many c.args.at.now.work.now.moment c.args.numbered.now c.args.objects.items c.args.listed.items
    c.deref.result.now c.deref-2.result.now c.in_ok-all.all.items c.in_ok-rows.rows.items c.deref-3.result.now
    c.deref.ensures.value c.deref-2.ensures.value c.in_ok-rows.ensures c.in_ok-all.ensures c.deref-3.ensures.value
    c.requires.whole

pub returns-clause-rising : goal.returns-clause-rising
returns-clause-rising c =
    let h = stage (input_of c.args.at.now) c.args.numbered.now c.args.objects.items c.args.listed.items
    c.deref.result.now c.deref-2.result.now c.in_ok-all.all.items c.in_ok-rows.rows.items c.deref-3.result.now
    c.in_ok-changes.changes.items c.deref.ensures.value c.deref-2.ensures.value c.in_ok-rows.ensures
    c.in_ok-all.ensures c.deref-3.ensures.value c.in_ok-changes.ensures c.requires.whole c.requires.once in
    stage-rising (input_of c.args.at.now) c.args.numbered.now c.args.objects.items c.args.listed.items
    c.in_ok-rows.rows.items c.in_ok-changes.changes.items c.new.result h
    (subst (IsPermutation c.in_ok-changes.changes.items) (sym c.new.ensures) c.in_ok-sort_by.ensures.permutation)
    (subst (IsSortedBy (λ (a b : Change). is_lt (uri_cmp (uri_of a) (uri_of b)))) (sym c.new.ensures)
    (c.in_ok-sort_by.ensures.sorted (λ (a b : Change). is_lt (uri_cmp (uri_of a) (uri_of b))) (by-uri uri_of)
    (compares-uris uri_of (λ a r f called. search rules))))

pub returns-clause-changes : goal.returns-clause-changes
returns-clause-changes c = λ trace of uri.
    let h = stage (input_of c.args.at.now) c.args.numbered.now c.args.objects.items c.args.listed.items
    c.deref.result.now c.deref-2.result.now c.in_ok-all.all.items c.in_ok-rows.rows.items c.deref-3.result.now
    c.in_ok-changes.changes.items c.deref.ensures.value c.deref-2.ensures.value c.in_ok-rows.ensures
    c.in_ok-all.ensures c.deref-3.ensures.value c.in_ok-changes.ensures c.requires.whole c.requires.once in
    stage-wanted (input_of c.args.at.now) c.args.numbered.now c.args.objects.items c.args.listed.items
    c.in_ok-rows.rows.items c.in_ok-changes.changes.items c.new.result trace uri h
    (subst (IsPermutation c.in_ok-changes.changes.items) (sym c.new.ensures) c.in_ok-sort_by.ensures.permutation) of

pub returns-clause-listed : goal.returns-clause-listed
returns-clause-listed c =
    let h = stage (input_of c.args.at.now) c.args.numbered.now c.args.objects.items c.args.listed.items
    c.deref.result.now c.deref-2.result.now c.in_ok-all.all.items c.in_ok-rows.rows.items c.deref-3.result.now
    c.in_ok-changes.changes.items c.deref.ensures.value c.deref-2.ensures.value c.in_ok-rows.ensures
    c.in_ok-all.ensures c.deref-3.ensures.value c.in_ok-changes.ensures c.requires.whole c.requires.once in
    stage-listed (input_of c.args.at.now) c.args.numbered.now c.args.objects.items c.args.listed.items
    c.in_ok-rows.rows.items c.new-2.result c.in_ok-changes.changes.items h
    (subst (IsPermutation c.in_ok-rows.rows.items) (sym c.new-2.ensures) c.in_ok-sort_by-2.ensures.permutation)
    (subst (IsSortedBy (λ (a b : IssuedRow). is_lt (uri_cmp a.uri b.uri))) (sym c.new-2.ensures)
    (c.in_ok-sort_by-2.ensures.sorted (λ (a b : IssuedRow). is_lt (uri_cmp a.uri b.uri)) (by-uri (λ (row : IssuedRow). row.uri))
    (compares-uris (λ (row : IssuedRow). row.uri) (λ a r f called. search rules))))

pub returns-clause-count : goal.returns-clause-count
returns-clause-count c = λ trace of.
    let h = stage (input_of c.args.at.now) c.args.numbered.now c.args.objects.items c.args.listed.items
    c.deref.result.now c.deref-2.result.now c.in_ok-all.all.items c.in_ok-rows.rows.items c.deref-3.result.now
    c.in_ok-changes.changes.items c.deref.ensures.value c.deref-2.ensures.value c.in_ok-rows.ensures
    c.in_ok-all.ensures c.deref-3.ensures.value c.in_ok-changes.ensures c.requires.whole c.requires.once in
    stage-count (input_of c.args.at.now) c.args.numbered.now c.args.objects.items c.args.listed.items
    c.in_ok-rows.rows.items c.new-2.result c.in_ok-changes.changes.items trace h
    (subst (IsPermutation c.in_ok-rows.rows.items) (sym c.new-2.ensures) c.in_ok-sort_by-2.ensures.permutation) of

pub returns-clause-issued : goal.returns-clause-issued
returns-clause-issued c = λ trace of.
    let h = stage (input_of c.args.at.now) c.args.numbered.now c.args.objects.items c.args.listed.items
    c.deref.result.now c.deref-2.result.now c.in_ok-all.all.items c.in_ok-rows.rows.items c.deref-3.result.now
    c.in_ok-changes.changes.items c.deref.ensures.value c.deref-2.ensures.value c.in_ok-rows.ensures
    c.in_ok-all.ensures c.deref-3.ensures.value c.in_ok-changes.ensures c.requires.whole c.requires.once in
    stage-issued (input_of c.args.at.now) c.args.numbered.now c.args.objects.items c.args.listed.items
    c.in_ok-rows.rows.items c.new-2.result c.in_ok-changes.changes.items trace h
    (subst (IsPermutation c.in_ok-rows.rows.items) (sym c.new-2.ensures) c.in_ok-sort_by-2.ensures.permutation) of
