use Rattle.std.proofs.Common.{◌≡◌, ◌+◌, length, take, reverse}
use Rattle.std.specs.Vec.{vec_capacity}
use Rattle.manager.specs.Ended.{AreLeftDesks}
use Rattle.manager.specs.Risen.{AreRisenDesks}
use Rattle.manager.specs.Limits.{AreWithinLimit}
use Rattle.manager.proofs.Ending.{EndedFrom}
use Rattle.manager.proofs.locked_desks_ending.end_all.Given as goal

abbrev pub invariant-loop : goal.invariant-loop
invariant-loop g l =
    (length l.seats.items + l.counter ≡ length l.fn.seats.items) × (l.seats.items ≡ take (length l.seats.items) l.fn.seats.items)
    × (length l.words.items ≡ length l.seats.items) × (l.words.items ≡ take (length l.words.items) l.fn.words.items)
    × (length l.locks.items ≡ length l.seats.items) × (vec_capacity l.into ≡ vec_capacity l.fn.into)
    × EndedFrom (length l.seats.items) l.fn.seats.items (reverse l.into.items)
    × AreRisenDesks g.D.Disk g.N.Names.named (reverse l.into.items)
    × AreLeftDesks (length g.N.Names.named.signers) (reverse l.into.items)
    × AreWithinLimit g.N.Names.named (reverse l.into.items)
