use Rattle.std.proofs.Common.{◌≡◌, ◌+◌, [], ◌∷◌, ◌++◌, List, ℕ, length, sym, ◌∙◌, ap, subst, inr, arith, append_assoc, vec_len, rules}
use Rattle.std.proofs.lemmas.List.{length-append}
use Rattle.desk_core.specs.View.{View}
use Rattle.krill_top.specs.RunDisks.{IsOpeningRefused}
use Rattle.krill_top.specs.inner.Opened.{IsOpened, AreOpened}
use Rattle.krill_top.specs.declared.faults.OpenFault.{OpenFault}
use Rattle.krill_top.proofs.InTurn.{opened_more, opened_length, stopped}
use Rattle.krill_top.proofs.opening.open_desks.Goals as goal

pub push_reserved-requires : goal.push_reserved-requires
push_reserved-requires g c =
    let so_far = c.loop-number.invariant in
    let opened = opened_length g.D.Disk 0 so_far.0 c.loop-number.desks.items so_far.3 in
    let is_len : length c.loop-number.desks.items ≡ vec_len c.loop-number.desks = search rules in
    omega (arith, so_far.2, so_far.4, opened, is_len, c.loop-number-test.true, c.len-number-end.ensures)

pub close_in_front-requires : goal.close_in_front-requires
close_in_front-requires g c =
    let so_far = c.loop-number.invariant in
    let opened = opened_length g.D.Disk 0 so_far.0 c.loop-number.desks.items so_far.3 in
    let is_len : length c.loop-number.desks.items ≡ vec_len c.loop-number.desks = search rules in
    let disks_len : length c.loop-number.disks.items ≡ vec_len c.loop-number.disks = search rules in
    let all_len : length c.args.disks.items ≡ vec_len c.args.disks = search rules in
    let sum : length c.args.disks.items ≡ length so_far.0 + length c.loop-number.disks.items = ap length so_far.1 ∙ length-append so_far.0 c.loop-number.disks.items in
    omega (arith, so_far.5, opened, is_len, disks_len, all_len, sum, c.take_first.ensures.len, c.take_first.ensures.capacity, c.put_in_front.ensures.len, c.put_in_front.ensures.capacity)

pub returns-in-Err-clause-refused : goal.returns-in-Err-clause-refused
returns-in-Err-clause-refused g c =
    let so_far = c.loop-number.invariant in
    let closed = c.close_in_front.ensures in
    let why = c.in-Err.ensures in
    subst (λ (f : OpenFault). IsOpeningRefused g.D.Disk f c.args.disks.items c.close_in_front.new.disks.items) (sym c.fault_of-fault.ensures)
    (inr (stopped g.D.Disk g.met.D.Disk.counts_now
    so_far.0 c.loop-number.desks.items closed.0 c.take_first.result c.in-Err.field-0.disk c.take_first.new.list.items c.in-Err.field-0.fault c.loop-number.number c.args.disks.items c.close_in_front.new.disks.items
    so_far.3 closed.1 so_far.2
    (so_far.1 ∙ ap (λ (l : List g.row.D.Denot). so_far.0 ++ l) c.take_first.ensures.items)
    (closed.2 ∙ ap (λ (l : List g.row.D.Denot). closed.0 ++ l) c.put_in_front.ensures.items)
    why.damaged why.bad_record why.failed why.same why.unopened why.any_moment why.later))

pub loop-number-preserved : goal.loop-number-preserved
loop-number-preserved g c =
    let so_far = c.loop-number.invariant in
    let disk = c.take_first.result in
    let desk = c.in-Ok-open.desk in
    let is = c.in-Ok-open.ensures in
    let opened : IsOpened g.D.Disk c.loop-number.number disk desk = record {
      number_is = is.number;
      bytes = is.bytes;
      records = is.records;
      whole = is.whole;
      commands = is.commands;
      is_open = is.open.0;
      settled = is.open.1;
      later = is.later;
    } in (
      so_far.0 ++ disk ∷ [],
      so_far.1 ∙ ap (λ (l : List g.row.D.Denot). so_far.0 ++ l) c.take_first.ensures.items ∙ sym (append_assoc so_far.0 (disk ∷ []) c.take_first.new.list.items),
      length-append so_far.0 (disk ∷ []) ∙ ap (λ (n : ℕ). n + 1) so_far.2,
      subst (λ (l : List (View g.row.D.Denot)). AreOpened g.D.Disk 0 (so_far.0 ++ disk ∷ []) l) (sym c.push_reserved.ensures.items)
          (opened_more g.D.Disk 0 so_far.0 c.loop-number.desks.items disk desk so_far.3
          (subst (λ (n : ℕ). IsOpened g.D.Disk n disk desk) (omega (arith, so_far.2)) opened)),
      omega (arith, so_far.4, c.push_reserved.ensures.capacity),
      omega (arith, so_far.5, c.take_first.ensures.capacity),
    )
