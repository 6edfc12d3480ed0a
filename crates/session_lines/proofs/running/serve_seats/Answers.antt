use Rattle.std.proofs.Common.{length, reverse}
use Rattle.session_lines.proofs.Attending.{served_each, served_reversed, all_served_with}
use Rattle.session_lines.proofs.running.serve_seats.Goals as goal

pub returns : goal.returns
returns g c =
    let signers = length g.N.Names.named.signers in
    let old = c.seat_all.new.seats.items in
    let new = c.serve_each-seats.result.items in
    all_served_with g.D.Disk signers g.S.Source g.K.Sink g.C.Clock c.args.passes.items c.rise_all.new.passes.items c.args.sessions.now.items c.rise_all.new.sessions.items c.rise_all.new.outcomes.items
    (reverse old) (reverse new) c.seat_all.ensures.seats
    (served_reversed g.D.Disk signers g.S.Source g.K.Sink g.C.Clock old new
    (served_each g.D.Disk signers g.S.Source g.K.Sink g.C.Clock old new c.serve_each-seats.ensures.count c.serve_each-seats.ensures.each)) c.rise_all.ensures
