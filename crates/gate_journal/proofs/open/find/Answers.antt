use Rattle.std.proofs.Common.{◌≡◌, ◌∙◌, ℕ, Option, Some, List, length, IfSome, subst, rules, arith}
use Rattle.std.proofs.lemmas.Result.{IfOk-weaker}
use Rattle.gate_journal.specs.Format.{damaged_at}
use Rattle.gate_journal.proofs.Found.{opens_new, opens_old, if_err_weaker}
use Rattle.gate_journal.proofs.open.find.Goals as goal

pub returns-then-len-lt18-clause-found : goal.returns-then-len-lt18-clause-found
returns-then-len-lt18-clause-found g c =
    opens_new c.args.limit (g.D.Disk.content c.args.disk.now) (g.D.Disk.content c.begin.new.disk) c.new.result.items c.new.ensures.items (search rules) (search rules)

pub returns-clause-found : goal.returns-clause-found
returns-clause-found g c =
    let content = g.D.Disk.content c.args.disk.now in
    let at_mid = c.is_journal.ensures.rests.content_stays ∙ c.len.ensures.stays.content ∙ c.sync.ensures.content in
    let known : IfSome content (λ bytes. c.in_ok-len.len ≡ length bytes) = subst (λ (o : Option (List ℕ)). IfSome o (λ bytes. c.in_ok-len.len ≡ length bytes)) c.sync.ensures.content c.in_ok-len.ensures.length in
    IfOk-weaker c.read_heads.result _ _
    (λ layout finds. opens_old c.args.limit c.in_ok-len.len content (g.D.Disk.content c.is_journal.new.disk) (g.D.Disk.content c.read_heads.new.disk) layout.places.items at_mid (c.read_heads.ensures.rests.content_stays ∙ at_mid) known
    (omega arith) finds)
    c.read_heads.ensures.found

pub returns-clause-harmed : goal.returns-clause-harmed
returns-clause-harmed g c =
    let content = g.D.Disk.content c.args.disk.now in
    let at_mid = c.is_journal.ensures.rests.content_stays ∙ c.len.ensures.stays.content ∙ c.sync.ensures.content in
    if_err_weaker c.read_heads.result _ _
    (λ fault harmed at is.
    (c.read_heads.ensures.rests.content_stays ∙ at_mid, subst (λ (o : Option (List ℕ)). IfSome o (λ bytes. damaged_at c.args.limit bytes ≡ Some at)) at_mid (harmed at is)))
    c.read_heads.ensures.harmed
