use Rattle.std.proofs.Common.{◌≡◌, List, [], ◌∷◌, ◌++◌, length, refl, sym, ap, subst, arith}
use Rattle.std.proofs.lemmas.Result.{err_from_is_err_and}
use Rattle.key_roll.specs.declared.rows.KeyRow.{KeyRow}
use Rattle.key_roll.specs.declared.work.NewKey.{NewKey}
use Rattle.issue_keys.specs.Keys.{AreByDesk}
use Rattle.issue_keys.specs.inner.IdSet.{has}
use Rattle.issue_keys.proofs.Growing.{signer-there}
use Rattle.signer_ring.specs.laws.KeepsLaws.{kept-all, kept-on}
use Rattle.issue_keys.proofs.Stops.{Making, begins, step, key-stop, short, all-made, longer}
use Rattle.issue_keys.proofs.making.make_keys.Goals as goal

pub loop-new-init : goal.loop-new-init
loop-new-init g c = record {
  making = begins c.args.new_keys.now c.deref-new-items.result.now c.args.rows.now (has c.in_ok-id_set.id_set) c.args.ring.now c.args.ring.now c.in_ok-fresh.fresh.items
      (subst (λ (l : List NewKey). AreByDesk c.args.new_keys.now l) (sym c.deref-new-items.ensures.value) c.in_ok-news.ensures)
      c.in_ok-id_set.ensures refl c.in_ok-fresh.ensures.items;
  long = ap length c.in_ok-fresh.ensures.items;
  kept = kept-all c.args.ring.now;
}

pub make_one-requires : goal.make_one-requires
make_one-requires g c =
    signer-there c.args.new_keys.now c.deref-new-items.result.now _ _ c.loop-new.new-index _
    c.loop-new.invariant.making.by_desk.permutation c.requires c.loop-new.invariant.kept.count c.loop-new-test.true

pub returns-in_err-row-clause-stopped : goal.returns-in_err-row-clause-stopped
returns-in_err-row-clause-stopped g c =
    let p = err_from_is_err_and c.from_residual-in_err-row.result c.from_residual-in_err-row.ensures.1 in
    rw (p.1, p.2)
    (key-stop c.in_err-row.field-0.0 c.args.new_keys.now c.deref-new-items.result.now c.args.rows.now (has c.loop-new.id_set)
    c.args.ring.now c.loop-new.ring c.make_one.new.ring c.loop-new.fresh.items c.loop-new.new-index
    c.loop-new.invariant.making c.loop-new.invariant.long c.loop-new-test.true c.in_err-row.ensures.stopped)

pub returns-in_err-row-clause-kept : goal.returns-in_err-row-clause-kept
returns-in_err-row-clause-kept g c =
    kept-on c.args.ring.now c.loop-new.ring c.make_one.new.ring c.loop-new.invariant.kept c.make_one.ensures.kept

pub returns-in_err-push-clause-stopped : goal.returns-in_err-push-clause-stopped
returns-in_err-push-clause-stopped g c =
    let p = err_from_is_err_and c.from_residual-in_err-push.result c.from_residual-in_err-push.ensures.1 in
    rw (p.1, p.2)
    (short c.args.new_keys.now c.deref-new-items.result.now c.args.rows.now (has c.make_one.new.id_set) c.args.ring.now c.make_one.new.ring
    (c.loop-new.fresh.items ++ c.in_ok-row.row ∷ [])
    (step c.args.new_keys.now c.deref-new-items.result.now c.args.rows.now (has c.loop-new.id_set) (has c.make_one.new.id_set)
    c.args.ring.now c.loop-new.ring c.make_one.new.ring c.loop-new.fresh.items c.loop-new.new-index c.in_ok-row.row
    c.loop-new.invariant.making c.loop-new.invariant.long c.loop-new-test.true
    c.in_ok-row.ensures.row c.in_ok-row.ensures.signers c.in_ok-row.ensures.apart c.in_ok-row.ensures.id_set))

pub returns-in_err-push-clause-kept : goal.returns-in_err-push-clause-kept
returns-in_err-push-clause-kept g c =
    kept-on c.args.ring.now c.loop-new.ring c.make_one.new.ring c.loop-new.invariant.kept c.make_one.ensures.kept

pub loop-new-preserved : goal.loop-new-preserved
loop-new-preserved g c = record {
  making = subst (λ (l : List KeyRow). Making c.args.new_keys.now c.deref-new-items.result.now c.args.rows.now (has c.make_one.new.id_set) c.args.ring.now c.make_one.new.ring l)
      (sym c.in_ok-push.ensures.items)
      (step c.args.new_keys.now c.deref-new-items.result.now c.args.rows.now (has c.loop-new.id_set) (has c.make_one.new.id_set)
      c.args.ring.now c.loop-new.ring c.make_one.new.ring c.loop-new.fresh.items c.loop-new.new-index c.in_ok-row.row
      c.loop-new.invariant.making c.loop-new.invariant.long c.loop-new-test.true
      c.in_ok-row.ensures.row c.in_ok-row.ensures.signers c.in_ok-row.ensures.apart c.in_ok-row.ensures.id_set);
  long = longer c.loop-new.fresh.items c.push.new.self.items c.in_ok-row.row c.loop-new.new-index c.loop-new.invariant.long c.in_ok-push.ensures.items;
  kept = kept-on c.args.ring.now c.loop-new.ring c.make_one.new.ring c.loop-new.invariant.kept c.make_one.ensures.kept;
}

pub returns-clause-made : goal.returns-clause-made
returns-clause-made g c =
    let whole : length c.loop-new.fresh.items ≡ length c.deref-new-items.result.now = omega (arith, c.loop-new.invariant.long) in
    all-made c.args.new_keys.now c.deref-new-items.result.now c.args.rows.now (has c.loop-new.id_set) c.args.ring.now c.loop-new.ring c.loop-new.fresh.items
    c.loop-new.invariant.making whole

pub returns-clause-kept : goal.returns-clause-kept
returns-clause-kept g c = c.loop-new.invariant.kept
