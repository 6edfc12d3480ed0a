use Rattle.std.proofs.Common.{◌≡◌, ℕ, ◌-◌, ◌≤◌, length, take, drop, arith, length-drop, length-append}
use Rattle.std.proofs.lemmas.List.{length-take}
use Rattle.disk_api.specs.laws.RunLaws.{rests_on}
use Rattle.gate_journal.proofs.Filled.{got_more}
use Rattle.gate_journal.proofs.open.fill.Goals as goal

pub loop-got-preserved : goal.loop-got-preserved
loop-got-preserved g c =
    let so_far = c.loop-got.invariant in
    let got = c.loop-got.got in
    let into = c.loop-got.into in
    let left : length (take (length into - got) (drop got into)) ≡ length into - got = omega (arith, length-take (length into - got) (drop got into), length-drop got into) in
    let size : length c.read.new.into ≡ length into - got = omega (arith, c.read.auto.into, left) in
    let fits : c.in_ok-n.n ≤ length c.read.new.into = omega (arith, c.in_ok-n.ensures.within, size, left) in
    record {
      within = omega (arith, so_far.within, fits, length-take got into, length-append {A = ℕ});
      known = got_more (g.D.Disk.content c.args.disk.now) (g.D.Disk.content c.loop-got.disk) c.args.at got c.in_ok-n.n into _ c.read.new.into _ so_far.rests.content_stays so_far.within fits so_far.known c.in_ok-n.ensures.bytes;
      rests = rests_on g.D.Disk c.args.disk.now c.loop-got.disk c.read.new.self so_far.rests c.read.ensures.stays c.read.ensures.time;
      bytes = λ i. (c.type_inv.into i).fits;
      later = omega (arith, so_far.later, c.read.ensures.faults.later);
    }
