use Rattle.editions.specs.declared.standing.NextRow.TheVariants.{Issued, Gone}
use Rattle.editions.proofs.StateLemmas.Exchanged.{gone_first, issued_first, put_first}
use Rattle.editions.proofs.in_place.put_movers.Goals as goal

pub returns-in_ok-exchange-in-Issued-one : goal.returns-in_ok-exchange-in-Issued-one
returns-in_ok-exchange-in-Issued-one c =
    rw (c.in-Gone.is, c.in-Issued-one.is)
    (gone_first c.args.rows.now.items c.exchange.new.rows.items c.in-Gone.uri c.in-Issued-one.row c.in_ok-exchange-in-Issued-one.ensures)

pub returns-in-Gone-one : goal.returns-in-Gone-one
returns-in-Gone-one c =
    rw (c.in-Gone.is, c.in-Gone-one.is)
    (put_first c.args.rows.now.items c.take_row.new.rows.items (Gone c.in-Gone.uri) (Gone c.in-Gone-one.other) c.take_row.ensures)

pub returns-in_ok-exchange-in-Gone-one-2 : goal.returns-in_ok-exchange-in-Gone-one-2
returns-in_ok-exchange-in-Gone-one-2 c =
    rw (c.in-Issued.is, c.in-Gone-one-2.is)
    (issued_first c.args.rows.now.items c.exchange-in-Gone-one-2.new.rows.items c.in-Gone-one-2.uri c.in-Issued.row c.in_ok-exchange-in-Gone-one-2.ensures)

pub returns-in_ok-put_row-in-Issued-one-2 : goal.returns-in_ok-put_row-in-Issued-one-2
returns-in_ok-put_row-in-Issued-one-2 c =
    rw (c.in-Issued.is, c.in-Issued-one-2.is)
    (put_first c.args.rows.now.items c.put_row.new.rows.items (Issued c.in-Issued.row) (Issued c.in-Issued-one-2.other) c.in_ok-put_row-in-Issued-one-2.ensures)
