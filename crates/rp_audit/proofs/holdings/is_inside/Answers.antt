use Rattle.std.proofs.Common.{ℕ, ap, sym, ◌∙◌, List}
use Rattle.std.proofs.lemmas.List.Folds.{list_all-map}
use Rattle.std.specs.List.{list_all}
use Rattle.res_sets.specs.declared.numbers.Range.{Range}
use Rattle.res_ext.specs.Formats.{span_of}
use Rattle.res_ext.specs.Views.{set_view}
use Rattle.rp_rules.specs.Holdings.{has_span}
use Rattle.rp_audit.proofs.holdings.is_inside.Goals as goal

pub returns : goal.returns
returns c =
    c.has_each.ensures
    ∙ (ap (λ (rs : List Range). list_all (λ range. has_span (set_view c.args.other.now) (range.first, range.last)) rs) c.as_slice.ensures.ranges
    ∙ sym (list_all-map (λ (span : ℕ × ℕ). has_span (set_view c.args.other.now) span) span_of c.args.set.now.ranges))
