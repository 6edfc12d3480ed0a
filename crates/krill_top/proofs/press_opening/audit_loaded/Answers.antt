use Rattle.std.proofs.Common.{◌≤◌, ◌∙◌, ℕ, List, length, sym, ap, subst}
use Rattle.std.proofs.lemmas.Option.{none-some}
use Rattle.pub_set.specs.declared.objects.Object.{Object}
use Rattle.rp_rules.specs.Sound.{IsAuditOf}
use Rattle.rp_audit.specs.Audit.{asking}
use Rattle.krill_top.specs.declared.faults.OpenFault.{OpenFault}
use Rattle.krill_top.specs.PressDisk.{IsStopCause, AreAsked}
use Rattle.krill_top.proofs.PressOpening.{cut_short, loaded_within, past_stops, past_asked, lacks_signers, stop_of_loaded, audit_asked}
use Rattle.krill_top.proofs.press_opening.audit_loaded.Goals as goal

pub cut_past-requires-clause-cut : goal.cut_past-requires-clause-cut
cut_past-requires-clause-cut g c = subst (λ (l : List ℕ). length l ≤ 64) (sym c.cut.ensures) (cut_short c.args.loaded.now c.requires.order)

pub returns-in-Some-clause-refused : goal.returns-in-Some-clause-refused
returns-in-Some-clause-refused g c given are =
    past_stops c.args.desks.now given c.args.loaded.now c.args.ring.now c.cut.result.now c.in-Some.fault c.cut.ensures are.found c.in-Some.ensures.past

pub returns-in-Some-clause-asked : goal.returns-in-Some-clause-asked
returns-in-Some-clause-asked g c = past_asked c.args.desks.now c.cut.result.now c.in-Some.fault c.args.ring.now c.in-Some.ensures.past

pub returns-then-found-needed-clause-refused : goal.returns-then-found-needed-clause-refused
returns-then-found-needed-clause-refused g c given are =
    let loaded = c.args.loaded.now in
    let within = loaded_within c.args.desks.now loaded c.cut.result.now given.found c.requires.order c.requires.all c.cut.ensures are.found (c.cut_past.ensures.none c.in_default.is) in
    lacks_signers given loaded c.args.ring.now c.signers-needed.result c.from-found.result within
    (c.from-found.ensures ∙ c.len.ensures ∙ ap length (sym are.signers_are)) c.if-found-needed.true c.signers-needed.ensures.enough c.signers-needed.ensures.needed

pub returns-in-Ok-clause-audited : goal.returns-in-Ok-clause-audited
returns-in-Ok-clause-audited g c =
    let loaded = c.args.loaded.now in
    let ring = c.args.ring.now in
    let anchor = c.in-Some-anchor.anchor in (
      λ none. none-some anchor (sym (c.in-Some-anchor.ensures.none.1 none)),
      record {
        context = asking ring anchor.now.bytes c.args.site.now c.moment.result;
        anchor = sym c.in-Some-anchor.ensures.key;
        bases = sym c.requires.site;
        moment = c.moment.ensures;
        vouched = λ key digest signature is all. c.rings_vouch_by_their_signers.ensures.all ring key digest signature all is;
        audit = subst (λ (set : List Object). IsAuditOf (asking ring anchor.now.bytes c.args.site.now c.moment.result) set c.in-Ok.audited) c.set.ensures c.in-Ok.ensures.sound;
      },
    )

pub returns-in-Err-clause-refused : goal.returns-in-Err-clause-refused
returns-in-Err-clause-refused g c given are =
    let loaded = c.args.loaded.now in
    let ring = c.args.ring.now in
    let within = loaded_within c.args.desks.now loaded c.cut.result.now given.found c.requires.order c.requires.all c.cut.ensures are.found (c.cut_past.ensures.none c.in_default.is) in
    subst (λ (f : OpenFault). IsStopCause given loaded c.audit.new.ring given.outlet f) (sym c.audit_fault.ensures)
    (stop_of_loaded given loaded ring c.audit.new.ring c.signers-needed.result c.from-found.result c.in-Some-anchor.anchor.now.bytes c.args.site.now c.moment.result c.set.result.now c.in-Err.refused
    are.signers_are c.requires.site c.moment.ensures c.set.ensures within c.signers-needed.ensures.enough c.if-found-needed.false (c.from-found.ensures ∙ c.len.ensures)
    (λ none. none-some c.in-Some-anchor.anchor (sym (c.in-Some-anchor.ensures.none.1 none))) c.in-Some-anchor.ensures.key
    c.in-Err.ensures.refused c.in-Err.ensures.asked)

pub returns-in-Err-clause-asked : goal.returns-in-Err-clause-asked
returns-in-Err-clause-asked g c =
    subst (λ (f : OpenFault). AreAsked f c.args.ring.now c.audit.new.ring) (sym c.audit_fault.ensures) (audit_asked c.in-Err.refused c.args.ring.now c.audit.new.ring c.in-Err.ensures.asked)
