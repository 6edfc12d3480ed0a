use Rattle.std.proofs.Common.{◌≡◌, ◌-◌, ℕ, List, Option, IfSome, take, drop, sym, ap, subst, arith}
use Rattle.std.proofs.lemmas.Result.{IfOk-weaker}
use Rattle.gate_journal.specs.Format.{spelled, taken_by}
use Rattle.gate_journal.specs.View.{View}
use Rattle.gate_journal.proofs.Placed.{read_body}
use Rattle.gate_journal.proofs.journal.Journal.body.Goals as goal

pub returns-clause-size : goal.returns-clause-size
returns-clause-size g c =
    let j = c.self.inside in
    let same = ap (λ (v : View _). taken_by v.sizes) c.self.view_is in
    IfOk-weaker c.read.result _ _ (λ part size. omega (arith, size, c.self.invariant.0.measured.held_is, same)) c.read.ensures.size

pub returns-clause-body : goal.returns-clause-body
returns-clause-body g c =
    let j = c.self.inside in
    IfOk-weaker c.read.result _ _
    (λ part read. subst (λ (o : Option (List (List ℕ))). IfSome o (λ all. part.items ≡ spelled all)) (ap (λ (v : View _). v.records) c.self.view_is)
    (read_body (g.D.Disk.content j.disk) (g.D.Disk.may_leave j.disk) j.count j.held j.places.items j.shut part.items c.self.invariant.0
    (subst (λ (v : View _). IfSome (g.D.Disk.content v.disk) (λ bytes. part.items ≡ take (j.held - 17) (drop 16 bytes))) (sym c.self.view_is) read)))
    c.read.ensures.part
