use Rattle.editions.proofs.StateLemmas.Exchanged.{put_beside}
use Rattle.editions.proofs.in_place.put_behind.Goals as goal

pub returns-then-not-moves : goal.returns-then-not-moves
returns-then-not-moves c =
    put_beside c.args.rows.now.items c.put_next.new.rows.items c.args.waits c.args.one c.in_ok-put_next.ensures
