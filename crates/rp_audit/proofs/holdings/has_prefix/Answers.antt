use Rattle.std.proofs.Common.{Bool, ℕ, sym, ap, ◌∙◌}
use Rattle.payloads.specs.RoaFormats.{entry_view}
use Rattle.cert_obj.specs.Values.{sets_of}
use Rattle.res_ext.specs.Views.{set_view}
use Rattle.rp_rules.specs.Holdings.{Span, has_span, addresses, span_of}
use Rattle.rp_audit.proofs.Prefixes.{ends_are}
use Rattle.rp_audit.proofs.holdings.has_prefix.Goals as goal

pub returns-then-entry : goal.returns-then-entry
returns-then-entry c =
    let e = c.args.entry.now in
    c.has_range.ensures
    ∙ (ap (λ (s : Span). has_span (set_view c.args.held.now.v6) s) (ends_are e c.first.result c.last.result c.first.ensures.value c.last.ensures.member c.last.ensures.greatest)
    ∙ ap (λ (b : Bool). has_span (addresses (sets_of c.args.held.now) b) (span_of (entry_view e))) (sym c.if-entry.true))

pub returns-else-entry : goal.returns-else-entry
returns-else-entry c =
    let e = c.args.entry.now in
    c.has_range-else-entry.ensures
    ∙ (ap (λ (s : Span). has_span (set_view c.args.held.now.v4) s) (ends_are e c.first.result c.last.result c.first.ensures.value c.last.ensures.member c.last.ensures.greatest)
    ∙ ap (λ (b : Bool). has_span (addresses (sets_of c.args.held.now) b) (span_of (entry_view e))) (sym c.if-entry.false))
