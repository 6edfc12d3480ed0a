use Rattle.std.proofs.Common.{map}
use Rattle.key_roll.specs.declared.issued.IssuedRow.{IssuedRow}
use Rattle.issue_keys.specs.Indexes.{key_positions}
use Rattle.issue_drafts.specs.Publishers.{certified_key}
use Rattle.issue_drafts.proofs.KeyPlaces.{positions-none, positions-more, positions-all}
use Rattle.issue_drafts.proofs.key_publishers.certified_positions.Goals as goal

pub loop-position-init : goal.loop-position-init
loop-position-init c =
    positions-none (λ (row : IssuedRow). certified_key row.what) c.args.issued.now c.new-certified.result.items c.new-certified.ensures.items

pub loop-position-preserved : goal.loop-position-preserved
loop-position-preserved c =
    positions-more (λ (row : IssuedRow). certified_key row.what) c.args.issued.now c.loop-position.position
    c.index-issued-position.result
    (key_positions 0 (map (λ (row : IssuedRow). certified_key row.what) c.args.issued.now))
    c.loop-position.certified.items c.push_certified.new.certified.items
    c.loop-position-test.true c.index-issued-position.is c.loop-position.invariant c.in_ok-push_certified.ensures

pub returns : goal.returns
returns c =
    positions-all (λ (row : IssuedRow). certified_key row.what) c.args.issued.now c.loop-position.position
    (key_positions 0 (map (λ (row : IssuedRow). certified_key row.what) c.args.issued.now))
    c.loop-position.certified.items c.loop-position-test.false c.loop-position.invariant
