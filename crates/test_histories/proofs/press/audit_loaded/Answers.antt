use Rattle.std.proofs.Common.{◌≢◌, List, sym, subst}
use Rattle.std.proofs.lemmas.Option.{none-some}
use Rattle.pub_set.specs.declared.objects.Object.{Object}
use Rattle.rp_audit.specs.Audit.{asking}
use Rattle.rp_rules.specs.Certificates.{WalkContext}
use Rattle.rp_rules.specs.Sound.{IsAuditOf}
use Rattle.test_histories.proofs.press.audit_loaded.Goals as goal

pub returns-clause-audited : goal.returns-clause-audited
returns-clause-audited c =
    let loaded = c.args.loaded.now in
    let context : WalkContext = asking c.args.ring.now c.in-Some.anchor.now.bytes c.args.site.now c.moment.result in
    let some : loaded.serial ≢ 0 = λ none. none-some c.in-Some.anchor (sym (c.in-Some.ensures.none.1 none)) in (
      some,
      record {
        context = context;
        anchor = sym c.in-Some.ensures.key;
        bases = sym c.requires.site;
        moment = c.moment.ensures;
        vouched = λ key digest signature is tell. c.rings_vouch_by_their_signers.ensures.all c.args.ring.now key digest signature tell is;
        audit = subst (λ (objects : List Object). IsAuditOf context objects c.in-Ok.audited) c.set.ensures c.in-Ok.ensures.sound;
      },
    )
