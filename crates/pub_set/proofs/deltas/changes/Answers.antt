use Rattle.std.proofs.Common.{◌≡◌, length, arith}
use Rattle.std.proofs.lemmas.Bool.Decides.{nat_tests}
use Rattle.pub_set.specs.Changes.{IsChanges}
use Rattle.pub_set.proofs.Differences.{reached_none, reached_pair, changes_finished}
use Rattle.pub_set.proofs.deltas.changes.Goals as goal
use Rattle.pub_set.proofs.deltas.changes.Goals.{then-is_empty, else-is_empty}

pub pairs-init : goal.pairs-init
pairs-init c =
    rw (c.as_slice-held.ensures.objects, c.as_slice-wanted.ensures.objects, c.new-changes.ensures.items)
    (reached_none c.args.old.now c.args.new.now c.as_slice-held.ensures.ascending c.as_slice-wanted.ensures.ascending)

pub pairs-preserved : goal.pairs-preserved
pairs-preserved c =
    let next = reached_pair c.args.old.now c.args.new.now c.pairs.held.now c.pairs.wanted.now c.pairs.changes.items c.pairs.invariant in
    rw (c.in_ok-push_difference.ensures, c.rest_of-held.ensures, c.rest_of-wanted.ensures, c.first_pair.ensures.gone, c.first_pair.ensures.come) next

pub returns : goal.returns
returns c =
    elim c.if-is_empty.branch as (λ _. IsChanges c.args.old.now c.args.new.now c.pairs.changes.items) [
      | then-is_empty w ↦
          let no_held : length c.pairs.held.now ≡ 0 = grind (arith, nat_tests, c.is_empty.ensures, w.if-is_empty.true) in
          let no_wanted : length c.pairs.wanted.now ≡ 0 = grind (arith, nat_tests, w.is_empty-then-is_empty.ensures, w.value-is, c.if-not-is_empty.false) in
          changes_finished c.args.old.now c.args.new.now c.pairs.held.now c.pairs.wanted.now c.pairs.changes.items no_held no_wanted c.pairs.invariant
      | else-is_empty w ↦ absurd (grind (arith, w.value-is, c.if-not-is_empty.false))
    ]
