use Rattle.std.proofs.Common.{◌≡◌, ◌≢◌, ◌∙◌, length, sym, subst, rules}
use Rattle.std.specs.Prelude.{None, Vec, vec_len}
use Rattle.krill_top.specs.declared.words.Doing.{Doing}
use Rattle.krill_top.specs.declared.words.Doing.TheVariants.{Run}
use Rattle.krill_top.specs.Run.{wrong_sessions}
use Rattle.krill_top.proofs.Doings.{many_run, many_fit, many_there, does_one, does_many}
use Rattle.krill_top.proofs.running.do_asked.Goals as goal

as_long : {X Z : Type 0} (v : Vec X Z) → vec_len v ≡ length v.items
as_long v = search rules

pub returns-then-len-eq1 : goal.returns-then-len-eq1
returns-then-len-eq1 g c bases random ends started =
    let one : length c.args.sessions.items ≡ 1 = sym (c.len.ensures ∙ as_long c.args.sessions) ∙ c.if-len-eq1.true in
    does_one g.D.Disk g.G.Signer.state g.O.Outlet g.S.Source g.K.Sink g.C.Clock bases random ends c.do_one.result c.args.doing c.args.sessions.items one
    (λ before is. c.do_one.ensures bases random ends before started is)

pub serve_many-requires-clause-sessions : goal.serve_many-requires-clause-sessions
serve_many-requires-clause-sessions g c = λ lifetimes lives.
    let many : length c.args.sessions.items ≢ 1 = (λ one. c.if-len-eq1.false (c.len.ensures ∙ as_long c.args.sessions ∙ one)) in
    let run : c.args.doing ≡ Run = many_run c.args.doing (length c.args.sessions.items) c.requires.sessions many in
    many_fit (length c.args.sessions.items) (subst (λ (d : Doing). wrong_sessions d (length c.args.sessions.items) ≡ None) run c.requires.sessions)

pub returns : goal.returns
returns g c bases random ends started =
    let many : length c.args.sessions.items ≢ 1 = (λ one. c.if-len-eq1.false (c.len.ensures ∙ as_long c.args.sessions ∙ one)) in
    does_many g.D.Disk g.G.Signer.state g.O.Outlet g.S.Source g.K.Sink g.C.Clock bases random ends c.serve_many.result c.args.doing c.args.sessions.items
    (many_there c.args.doing (length c.args.sessions.items) c.requires.sessions) many
    (many_run c.args.doing (length c.args.sessions.items) c.requires.sessions many) (c.serve_many.ensures bases random ends started)
