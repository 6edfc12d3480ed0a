use Rattle.std.proofs.Common.{◌≡◌, ◌⊎◌, ◌<◌, ◌-◌, inl, inr, drop, rules, arith}
use Rattle.std.specs.Int.{w64, from_be_bytes}
use Rattle.gate_journal.proofs.Heads.{harmed_known, stands_known}
use Rattle.gate_journal.proofs.open.read_head.Goals.{then-got-lt9-via-then-got-lt9, then-got-lt9-via-else-got-lt9+then-size-limit, then-got-lt9-via-else-got-lt9+else-size-limit+then-size-left}
use Rattle.gate_journal.proofs.open.read_head.Goals as goal

pub returns-then-got-lt9-clause-harmed : goal.returns-then-got-lt9-clause-harmed
returns-then-got-lt9-clause-harmed g c place is =
    let size = c.from_be_bytes-size.result in
    let why : (c.in_ok-head.got < 9) ⊎ ((c.args.limit < size) ⊎ (c.args.left - 9 < size)) =
    elim c.then-got-lt9.branch [
      | then-got-lt9-via-then-got-lt9 w ↦ inl w.if-got-lt9.true
      | then-got-lt9-via-else-got-lt9+then-size-limit w ↦ inr (inl w.if-size-limit.true)
      | then-got-lt9-via-else-got-lt9+else-size-limit+then-size-left w ↦ inr (inr w.if-size-left.true)
    ] in
    let read : size ≡ from_be_bytes w64 (drop 1 c.in_ok-head.head) = search rules in
    let same : place ≡ c.args.at = cc in
    (same, harmed_known (g.D.Disk.content c.args.disk.now) c.args.at c.in_ok-head.got c.args.left c.args.limit size c.in_ok-head.head (search rules) c.in_ok-head.ensures.head (omega arith) (search rules) c.requires.known read why)

pub returns-clause-stands : goal.returns-clause-stands
returns-clause-stands g c =
    let size = c.from_be_bytes-size.result in
    let read : size ≡ from_be_bytes w64 (drop 1 c.in_ok-head.head) = search rules in
    stands_known (g.D.Disk.content c.args.disk.now) c.args.at c.in_ok-head.got size c.in_ok-head.head (search rules) c.in_ok-head.ensures.head c.if-got-lt9.false (search rules) c.in_ok-head.ensures.bytes read
