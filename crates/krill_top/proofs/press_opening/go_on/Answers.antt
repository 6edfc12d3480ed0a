use Rattle.std.proofs.Common.{◌≤◌, ◌<◌, ◌∙◌, ℕ, List, length, sym, ap, refl, subst, arith}
use Rattle.std.specs.Prelude.{All}
use Rattle.key_roll.specs.declared.rows.KeyRow.{KeyRow}
use Rattle.signer_api.specs.State.{SignerState}
use Rattle.editions.specs.PublishedState.{IsConsistentState}
use Rattle.press_core.specs.Press.{PressValue}
use Rattle.press_core.specs.Resuming.{IsAudited}
use Rattle.krill_top.specs.declared.faults.OpenFault.{OpenFault}
use Rattle.krill_top.specs.PressDisk.{IsStopCause, AreAsked}
use Rattle.krill_top.specs.inner.Gathered.{AreFirstsOf}
use Rattle.krill_top.specs.inner.Summing.{summed}
use Rattle.krill_top.proofs.PressOpening.{cut_short, cut_within, are_firsts, go_on_from, stop_of_resume, resume_asked}
use Rattle.krill_top.proofs.press_opening.go_on.Goals as goal

pub firsts_of-requires-clause-cut : goal.firsts_of-requires-clause-cut
firsts_of-requires-clause-cut g c = subst (λ (l : List ℕ). length l ≤ 64) (sym c.cut.ensures) (cut_short c.args.loaded c.requires.order)

pub resume-requires-clause-firsts : goal.resume-requires-clause-firsts
resume-requires-clause-firsts g c =
    let desks = c.args.desks.now in
    let loaded = c.args.loaded in
    let groups = c.in-Ok.firsts.items in
    let short = cut_short loaded c.requires.order in
    let long : length loaded.cut ≤ length desks = omega (arith, short, c.requires.all) in
    let found = c.requires.found in
    are_firsts desks found.0 loaded.cut groups found.1 long (subst (λ (l : List ℕ). AreFirstsOf 0 desks l groups) c.cut.ensures c.in-Ok.ensures) (cut_within desks loaded.cut found.0 found.1 long c.requires.within)

pub returns-in-Ok-resume-clause-opened : goal.returns-in-Ok-resume-clause-opened
returns-in-Ok-resume-clause-opened g c found all =
    let desks = c.args.desks.now in
    let loaded = c.args.loaded in
    let groups = c.in-Ok.firsts.items in
    let short = cut_short loaded c.requires.order in
    let long : length loaded.cut ≤ length desks = omega (arith, short, c.requires.all) in
    let firsts : AreFirstsOf 0 desks loaded.cut groups = subst (λ (l : List ℕ). AreFirstsOf 0 desks l groups) c.cut.ensures c.in-Ok.ensures in
    record {
      firsts = groups;
      are = are_firsts desks found loaded.cut groups all long firsts (cut_within desks loaded.cut found all long c.requires.within);
      of_desks = go_on_from desks found loaded.cut groups all long firsts;
      goes_on = c.in-Ok-resume.ensures.goes_on;
      agreed = c.in-Ok-resume.ensures.agreed;
      consistent = subst IsConsistentState (c.published_state.ensures ∙ ap (λ (p : PressValue). p.at) c.press.ensures.press) c.parts-parts.ensures.kept;
      told_is = c.of-summary.ensures ∙ ap (summed loaded.serial loaded.moment) c.as_ref.ensures.value;
      safe = c.press.ensures.safe;
    }

pub returns-in-Err-clause-refused : goal.returns-in-Err-clause-refused
returns-in-Err-clause-refused g c given are =
    let desks = c.args.desks.now in
    let loaded = c.args.loaded in
    let groups = c.in-Ok.firsts.items in
    let short = cut_short loaded c.requires.order in
    let long : length loaded.cut ≤ length desks = omega (arith, short, c.requires.all) in
    let firsts : AreFirstsOf 0 desks loaded.cut groups = subst (λ (l : List ℕ). AreFirstsOf 0 desks l groups) c.cut.ensures c.in-Ok.ensures in
    subst (λ (f : OpenFault). IsStopCause given loaded c.args.ring given.outlet f) (sym c.resume_fault-fault.ensures)
    (stop_of_resume given loaded c.args.ring c.args.audited groups c.in-Err.field-0.fault
    (subst (λ (s : List SignerState). All (λ (row : KeyRow). row.signer < length s) loaded.rows) (sym are.signers_are) c.requires.signers)
    (subst (λ (s : List SignerState). IsAudited loaded s c.args.audited) (sym are.signers_are) c.requires.audited)
    (are_firsts desks given.found loaded.cut groups are.found long firsts (cut_within desks loaded.cut given.found are.found long c.requires.within))
    (go_on_from desks given.found loaded.cut groups are.found long firsts)
    c.in-Err.ensures.refused)

pub returns-in-Err-clause-asked : goal.returns-in-Err-clause-asked
returns-in-Err-clause-asked g c =
    subst (λ (f : OpenFault). AreAsked f c.args.ring c.args.ring) (sym c.resume_fault-fault.ensures) (resume_asked c.in-Err.field-0.fault c.args.ring c.args.ring refl)
