use Rattle.std.proofs.Common.{◌≡◌, ◌≤◌, ◌+◌, ◌++◌, length, map, vec_capacity}
use Rattle.std.specs.Vec.Iter.{into_iter_items, into_iter_len}
use Rattle.manager.specs.Starting.{AreOpenedDesks, first_seat}
use Rattle.manager.specs.Ready.{desk_in}
use Rattle.manager.specs.Risen.{AreRisenDesks}
use Rattle.manager.proofs.locked_desks_starting.put_all.Given as goal

abbrev pub invariant-loop-desk : goal.invariant-loop-desk
invariant-loop-desk g l = record {
  desks : AreOpenedDesks g.N.Names.words g.N.Names.named (length l.parts.words.items) (into_iter_items l.desk-iterator);
  faults : AreRisenDesks g.D.Disk g.N.Names.named (map desk_in (into_iter_items l.desk-iterator));
  count : into_iter_len l.desk-iterator ≡ length (into_iter_items l.desk-iterator);
  words : l.parts.words.items ++ map (λ desk. desk.word) (into_iter_items l.desk-iterator) ≡ map (λ desk. desk.word) l.fn.desks.items;
  locks : length l.parts.locks.items + length (into_iter_items l.desk-iterator) ≡ length l.fn.desks.items;
  seats : l.parts.seats.items ++ map first_seat (into_iter_items l.desk-iterator) ≡ map first_seat l.fn.desks.items;
  followers : l.parts.followers.items ++ map first_seat (into_iter_items l.desk-iterator) ≡ map first_seat l.fn.desks.items;
  words_room : length l.parts.words.items + length (into_iter_items l.desk-iterator) ≤ vec_capacity l.parts.words;
  locks_room : length l.parts.locks.items + length (into_iter_items l.desk-iterator) ≤ vec_capacity l.parts.locks;
  seats_room : length l.parts.seats.items + length (into_iter_items l.desk-iterator) ≤ vec_capacity l.parts.seats;
  followers_room : length l.parts.followers.items + length (into_iter_items l.desk-iterator) ≤ vec_capacity l.parts.followers;
}
