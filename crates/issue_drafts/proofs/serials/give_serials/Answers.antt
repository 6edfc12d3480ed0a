use Rattle.std.proofs.Common.{◌≡◌, ◌∙◌, ap, length, arith}
use Rattle.issue_drafts.proofs.Numbers.{IsAt, next_for, one-given, next-given, room, written-back}
use Rattle.issue_drafts.proofs.serials.give_serials.Goals as goal

pub loop-draft-preserved : goal.loop-draft-preserved
loop-draft-preserved c =
    let rows = c.args.rows.now in
    let drafts = c.args.drafts.now in
    let i = c.loop-draft.draft-index in
    let d = c.draft-item.result in
    let at : IsAt rows drafts i d =
    record { rising = c.requires.rising; low = c.loop-draft-test.true; is = c.draft-item.is; positioned = c.requires.positioned } in
    let was : c.deref_mut.result.now ≡ next_for drafts i rows = c.deref_mut.ensures.value ∙
    c.loop-draft.invariant.next in record {
      given = one-given rows drafts i d c.take_serial.result c.deref_mut.result.now _ _ at was c.loop-draft.invariant.given
          c.take_serial.ensures.given
          c.in_ok-push.ensures.items;
      next = written-back c.loop-draft.next.len c.loop-draft.next.items c.take_serial.new.next
          (omega (arith, c.take_serial.auto.next, ap length c.deref_mut.ensures.value)) c.loop-draft.next.ok.0
          ∙ next-given rows drafts i d c.deref_mut.result.now c.take_serial.new.next c.requires.apart at was
          c.take_serial.ensures.next;
    }

pub take_serial-requires-clause-room : goal.take_serial-requires-clause-room
take_serial-requires-clause-room c =
    let rows = c.args.rows.now in
    let drafts = c.args.drafts.now in
    let i = c.loop-draft.draft-index in
    let d = c.draft-item.result in
    let at : IsAt rows drafts i d =
    record { rising = c.requires.rising; low = c.loop-draft-test.true; is = c.draft-item.is; positioned = c.requires.positioned } in
    room rows drafts i d c.deref_mut.result.now at c.requires.serials
    (omega (arith, c.in_ok-given.ensures.capacity, c.in_ok-given.given.small))
    (c.deref_mut.ensures.value ∙ c.loop-draft.invariant.next)
