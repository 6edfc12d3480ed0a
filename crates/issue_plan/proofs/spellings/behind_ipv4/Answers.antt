use Rattle.std.proofs.Common.{◌≡◌, ℕ, List, ◌++◌, subst}
use Rattle.std.specs.Prelude.{decimal, slice_index}
use Rattle.std.specs.Net.Text.{ipv4_text}
use Rattle.hex.specs.Hex.{encode_lower}
use Rattle.issue_plan.proofs.SpellingLemmas.{behind-dotted}
use Rattle.issue_plan.proofs.spellings.behind_ipv4.Goals as goal

pub returns : goal.returns
returns c =
    let bytes = c.to_be_bytes-bytes.result in
    subst (λ (octets : List ℕ). c.args.digits.now ≡ encode_lower (ipv4_text octets) ++ c.in_ok-rest.rest.now)
    c.to_be_bytes-bytes.ensures
    (behind-dotted c.args.digits.now c.in_ok-first.first.now c.in_ok-second.second.now c.in_ok-third.third.now
    c.in_ok-rest.rest.now (decimal (slice_index bytes 0)) (decimal (slice_index bytes 1)) (decimal (slice_index bytes 2))
    (decimal (slice_index bytes 3))
    c.in_ok-first.ensures c.in_ok-second.ensures c.in_ok-third.ensures c.in_ok-rest.ensures)
