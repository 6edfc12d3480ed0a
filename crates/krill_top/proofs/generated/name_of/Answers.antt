use Rattle.std.proofs.Common.{◌≡◌, ◌∙◌, sym, subst, arith}
use Rattle.names.specs.Name.{IsName}
use Rattle.krill_top.specs.Generated.{name_of}
use Rattle.krill_top.proofs.Naming.{is_named, not_both}
use Rattle.krill_top.proofs.generated.name_of.Goals as goal

pub unreachable-requires : goal.unreachable-requires
unreachable-requires c =
    let text : name_of c.args.number ≡ c.as_str.result.now = sym (c.as_str.ensures.value ∙ c.in_ok-text.ensures) in
    not_both (c.in-None.ensures.found.1 (subst IsName text (is_named c.args.number (omega (arith, c.ranges.number.fits)))))
