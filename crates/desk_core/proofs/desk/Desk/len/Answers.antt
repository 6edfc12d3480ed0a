use Rattle.std.proofs.Common.{◌∙◌, length, sym, ap, subst}
use Rattle.std.proofs.lemmas.List.{length-map}
use Rattle.cmd_codec.specs.Spelling.{spelling}
use Rattle.desk_core.specs.View.{View}
use Rattle.desk_core.specs.Images.{IsSafe}
use Rattle.desk_core.proofs.Committed.{safe_of, length-payloads}
use Rattle.desk_core.proofs.desk.Desk.len.Goals as goal

pub returns-clause-records : goal.returns-clause-records
returns-clause-records g c =
    let inside = c.self.inside in
    c.count.ensures.count ∙ sym (length-payloads inside.journal.sizes inside.body.items c.self.invariant.size) ∙ ap (λ (v : View _). length v.records) c.self.view_is

pub returns-clause-commands : goal.returns-clause-commands
returns-clause-commands g c commands has = returns-clause-records g c ∙ ap length has.recorded.spelled ∙ length-map commands spelling

pub returns-clause-safe : goal.returns-clause-safe
returns-clause-safe g c =
    let inside = c.self.inside in
    subst (λ (v : View _). IsSafe g.D.Disk v) c.self.view_is
    (safe_of g.D.Disk inside.number inside.config.settings inside.body.items inside.journal c.self.invariant)
