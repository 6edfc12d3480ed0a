use Rattle.std.proofs.Common.{◌≡◌, ◌∙◌, List, length, sym, ap, refl, subst, inl, inr, arith, rules, vec_len}
use Rattle.desk_core.specs.View.{View}
use Rattle.krill_top.specs.DesksInStates.{AreIn}
use Rattle.krill_top.specs.inner.Opened.{AreOpened}
use Rattle.krill_top.proofs.InTurn.{opened_length}
use Rattle.krill_top.proofs.Answering.{if_ok_so, if_err_so}
use Rattle.krill_top.proofs.Served.{opened_seen}
use Rattle.krill_top.proofs.starting.start.Goals as goal

pub new-desks-requires : goal.new-desks-requires
new-desks-requires g c = opened_length g.D.Disk 0 c.args.ends.desks.items c.in-Ok.field-0.desks.items c.in-Ok.ensures.opened ∙ c.requires.disks

pub open_behind-requires-clause-all : goal.open_behind-requires-clause-all
open_behind-requires-clause-all g c =
    ap length c.new-desks.ensures ∙ opened_length g.D.Disk 0 c.args.ends.desks.items c.in-Ok.field-0.desks.items c.in-Ok.ensures.opened ∙ c.requires.disks

pub open_behind-requires-clause-found : goal.open_behind-requires-clause-found
open_behind-requires-clause-found g c =
    let seen = opened_seen g.D.Disk c.args.ends.desks.items c.in-Ok.field-0.desks.items c.in-Ok.ensures.opened in
    (seen.0, subst (λ (l : List (View g.row.D.Denot)). AreIn l seen.0) (sym c.new-desks.ensures) seen.1)

pub open_behind-requires-clause-room : goal.open_behind-requires-clause-room
open_behind-requires-clause-room g c =
    let long = opened_length g.D.Disk 0 c.args.ends.desks.items c.in-Ok.field-0.desks.items c.in-Ok.ensures.opened in
    let counted : length c.in-Ok.field-0.desks.items ≡ vec_len c.in-Ok.field-0.desks = search rules in
    omega (arith, long, counted, c.requires.disks, c.in-Ok.ensures.room)

pub returns-in-Ok-clause-started : goal.returns-in-Ok-clause-started
returns-in-Ok-clause-started g c =
    if_ok_so c.open_behind.result _ _ c.open_behind.ensures.started (λ made so. so c.args.ends
    (record {
      desks_are = subst (λ (l : List (View g.row.D.Denot)). AreOpened g.D.Disk 0 c.args.ends.desks.items l) (sym c.new-desks.ensures) c.in-Ok.ensures.opened;
      signers_are = sym c.new.ensures;
      outlet_is = refl;
    }) refl)

pub returns-in-Ok-clause-refused : goal.returns-in-Ok-clause-refused
returns-in-Ok-clause-refused g c =
    if_err_so c.open_behind.result _ _ c.open_behind.ensures.refused (λ refused so. inr (so c.args.ends
    (record {
      desks_are = subst (λ (l : List (View g.row.D.Denot)). AreOpened g.D.Disk 0 c.args.ends.desks.items l) (sym c.new-desks.ensures) c.in-Ok.ensures.opened;
      signers_are = sym c.new.ensures;
      outlet_is = refl;
    }) refl))

pub returns-in-Err-clause-refused : goal.returns-in-Err-clause-refused
returns-in-Err-clause-refused g c = inl (record { desks = c.in-Err.ensures.refused; press_untouched = refl; outlet_untouched = refl; same_signers = refl })
