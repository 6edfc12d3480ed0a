use Rattle.std.proofs.Common.{ℕ, List, map, sym, ap, ap₂, ◌∙◌}
use Rattle.issue_keys.specs.Under.{positions_under}
use Rattle.issue_keys.specs.Indexes.{key_positions}
use Rattle.issue_drafts.specs.inner.Entries.{ended_key}
use Rattle.issue_drafts.proofs.revoking.superseded.Goals as goal

pub returns : goal.returns
returns c = λ id.
    c.in_ok-index.ensures id
    ∙ ap (positions_under id) (sym c.in_ok-ended.ensures
    ∙ ap₂ (λ (a : List ℕ) (u : List (List ℕ)). key_positions 0 (map (ended_key a u) c.args.issued.now))
    (c.as_str.ensures.value ∙ c.in_ok-anchor.ensures) c.uris.ensures.are)
