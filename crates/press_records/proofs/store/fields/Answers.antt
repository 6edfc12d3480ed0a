use Rattle.std.proofs.Common.{◌≡◌, ◌<◌, ◌∙◌, ℕ, List, length, Some, sym, ap, arith}
use Rattle.std.proofs.lemmas.Bool.Decides.{nat_tests}
use Rattle.press_records.proofs.StoreAnswers.{fields_read, nothing_left, bytes_left}
use Rattle.std.specs.Prelude.{Option}
use Rattle.press_records.specs.Store.{Store}
use Rattle.press_records.proofs.store.fields.Goals as goal

pub returns-then-not-is_empty : goal.returns-then-not-is_empty
returns-then-not-is_empty c =
    let more : 0 < length c.in_ok-rrdp.bytes.now = grind (arith, nat_tests, c.is_empty.ensures, c.if-not-is_empty.true) in
    fields_read c.args.bytes.now c.in_ok-bytes.bytes.now c.in_ok-bytes-2.bytes.now c.in_ok-bytes-3.bytes.now c.in_ok-session.bytes.now c.in_ok-rsync.bytes.now c.in_ok-rrdp.bytes.now
    c.in_ok-session.session.now c.in_ok-rsync.rsync.now c.in_ok-rrdp.rrdp.now (omega arith)
    c.in_ok-bytes.ensures c.in_ok-bytes-2.ensures c.in_ok-bytes-3.ensures c.in_ok-session.ensures.read c.in_ok-rsync.ensures c.in_ok-rrdp.ensures
    ∙ bytes_left (c.in_ok-session.session.now, (c.in_ok-rsync.rsync.now, c.in_ok-rrdp.rrdp.now)) c.in_ok-rrdp.bytes.now more

abbrev some-of : Store → Option Store
some-of x = Some x

pub returns : goal.returns
returns c =
    let none : length c.in_ok-rrdp.bytes.now ≡ 0 = grind (arith, nat_tests, c.is_empty.ensures, c.if-not-is_empty.false) in
    fields_read c.args.bytes.now c.in_ok-bytes.bytes.now c.in_ok-bytes-2.bytes.now c.in_ok-bytes-3.bytes.now c.in_ok-session.bytes.now c.in_ok-rsync.bytes.now c.in_ok-rrdp.bytes.now
    c.in_ok-session.session.now c.in_ok-rsync.rsync.now c.in_ok-rrdp.rrdp.now (omega arith)
    c.in_ok-bytes.ensures c.in_ok-bytes-2.ensures c.in_ok-bytes-3.ensures c.in_ok-session.ensures.read c.in_ok-rsync.ensures c.in_ok-rrdp.ensures
    ∙ nothing_left (c.in_ok-session.session.now, (c.in_ok-rsync.rsync.now, c.in_ok-rrdp.rrdp.now)) c.in_ok-rrdp.bytes.now none
    ∙ ap (λ (s : List ℕ). some-of (s, (c.in_ok-rsync.rsync.now, c.in_ok-rrdp.rrdp.now))) (sym c.session_of.ensures)
