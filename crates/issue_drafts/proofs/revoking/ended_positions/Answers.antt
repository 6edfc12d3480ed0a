use Rattle.std.proofs.Common.{ℕ, List, sym, subst}
use Rattle.issue_keys.specs.declared.key_index.KeyPosition.{KeyPosition}
use Rattle.issue_drafts.specs.inner.Entries.{IsLook}
use Rattle.issue_drafts.proofs.Ended.{Reached, reached-none, reached-more, reached-all}
use Rattle.issue_drafts.proofs.revoking.ended_positions.Goals as goal

pub loop-uri-init : goal.loop-uri-init
loop-uri-init c =
    subst (λ (l : List KeyPosition). Reached c.args.anchor.now c.args.uris.now c.args.issued.now 0 0 l)
    (sym c.new-ended.ensures.items) (reached-none c.args.anchor.now c.args.uris.now c.args.issued.now)

pub loop-uri-preserved : goal.loop-uri-preserved
loop-uri-preserved c =
    let anchor = c.args.anchor.now in
    let issued = c.args.issued.now in
    reached-more anchor c.args.uris.now issued c.loop-uri.uri-index c.loop-uri.from c.in_ok-from.from
    c.uri-item.result c.loop-uri.ended.items c.push_at.new.ended.items
    c.requires.standing c.requires.rising c.loop-uri-test.true c.uri-item.is c.loop-uri.invariant
    (subst (λ (u : List ℕ). IsLook anchor u issued c.loop-uri.from c.in_ok-from.from c.loop-uri.ended.items
    c.push_at.new.ended.items) c.as_str.ensures c.in_ok-from.ensures)

pub returns : goal.returns
returns c =
    reached-all c.args.anchor.now c.args.uris.now c.args.issued.now c.loop-uri.uri-index c.loop-uri.from
    c.loop-uri.ended.items c.loop-uri-test.false c.loop-uri.invariant
