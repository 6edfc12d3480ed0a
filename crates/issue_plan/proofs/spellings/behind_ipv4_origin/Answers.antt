use Rattle.std.proofs.Common.{◌≡◌, ℕ, Bool, List, ◌++◌, subst, sym, false}
use Rattle.std.specs.Prelude.{decimal, codes}
use Rattle.hex.specs.Hex.{encode_lower}
use Rattle.origins.specs.Origin.{address_text, maximum_text}
use Rattle.issue_plan.proofs.SpellingLemmas.{behind-parts}
use Rattle.issue_plan.proofs.spellings.behind_ipv4_origin.Goals as goal

pub returns : goal.returns
returns c =
    let origin = c.args.origin.now in
    let prefix = origin.prefix in
    let len = decimal prefix.length in
    let maximum = maximum_text prefix.length origin.max in
    subst (λ (v6 : Bool). c.args.digits.now
    ≡ encode_lower (address_text v6 prefix.address ++ codes "/" ++ len ++ maximum ++ codes " => " ++ decimal origin.asn)
    ++ c.in_ok-rest.rest.now) (sym c.requires)
    (behind-parts c.args.digits.now c.in_ok-address.address.now c.in_ok-length.length.now c.in_ok-maximum.maximum.now
    c.in_ok-arrow.arrow.now c.in_ok-rest.rest.now (address_text false prefix.address) len maximum (decimal origin.asn)
    c.in_ok-address.ensures c.in_ok-length.ensures c.in_ok-maximum.ensures c.in_ok-arrow.ensures c.in_ok-rest.ensures)
