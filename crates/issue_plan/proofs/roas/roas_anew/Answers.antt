use Rattle.std.proofs.Common.{◌≡◌, ◌<◌, length, get_or}
use Rattle.std.proofs.lemmas.List.{get_or_default}
use Rattle.entitle.specs.declared.trees.Owed.{Owed}
use Rattle.issue_plan.specs.inner.Anew.{kept_roa}
use Rattle.issue_plan.proofs.OwedLemmas.{more-anew, more-kept}
use Rattle.issue_plan.proofs.StayLemmas.{some-owed, stays-at, found-at, anew-staying, kept-staying}
use Rattle.issue_plan.proofs.roas.roas_anew.Goals as goal

pub loop-index-preserved-then-stay-index : goal.loop-index-preserved-then-stay-index
loop-index-preserved-then-stay-index c =
    let s = c.args.standing.now in
    let settled = c.args.settled.now in
    let keys = c.args.keys.now in
    let owed = c.args.owed.now in
    let i = c.loop-index.index in
    let inside : i < length owed = c.loop-index-test.true in
    let d : Owed = some-owed owed i inside in
    let each : Owed = get_or owed i d in
    let is : each ≡ get_or owed i each = get_or_default owed i d each inside in
    let stays = stays-at s keys settled owed c.args.stay.now i _ d c.requires.stay inside c.if-stay-index.true in
    record {
      issuer = c.loop-index.invariant.issuer;
      anew = anew-staying s keys settled owed i each c.loop-index.anew.items inside is stays c.loop-index.invariant.anew;
      kept = kept-staying s keys settled owed i each _ c.args.kept.now.items c.loop-index.kept.items c.push_kept.new.kept.items
          inside is stays (found-at s owed c.args.found.now i d _ c.requires.found inside) c.loop-index.invariant.kept
          c.in_ok-push_kept.ensures;
    }

pub loop-index-preserved : goal.loop-index-preserved
loop-index-preserved c =
    let s = c.args.standing.now in
    let settled = c.args.settled.now in
    let keys = c.args.keys.now in
    let owed = c.args.owed.now in
    let issuer = c.issuer_for-issuer.result in
    let each = c.index-owed-index.result in
    let invariant = c.loop-index.invariant in
    record {
      issuer = c.issuer_for-issuer.ensures.issuer;
      anew = more-anew (kept_roa s settled) keys settled issuer owed c.loop-index.index each
          c.loop-index.anew.items c.sort_owed.new.anew.items c.loop-index-test.true c.index-owed-index.is
          c.issuer_for-issuer.ensures.issuer c.issuer_for-issuer.ensures.desk invariant.anew c.in_ok-sort_owed.ensures.anew;
      kept = more-kept (kept_roa s settled) keys settled issuer owed c.loop-index.index each c.args.kept.now.items
          c.loop-index.kept.items c.sort_owed.new.kept.items c.loop-index-test.true c.index-owed-index.is
          c.issuer_for-issuer.ensures.issuer c.issuer_for-issuer.ensures.desk invariant.kept c.in_ok-sort_owed.ensures.kept;
    }
