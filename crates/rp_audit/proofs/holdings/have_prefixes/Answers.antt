use Rattle.std.proofs.Common.{sym, ◌∙◌}
use Rattle.std.proofs.lemmas.List.Folds.{list_all-map}
use Rattle.cert_obj.specs.Values.{sets_of}
use Rattle.payloads.specs.RoaFormats.{Entry, entry_view}
use Rattle.rp_rules.specs.Holdings.{has_span, addresses, span_of}
use Rattle.rp_audit.proofs.holdings.have_prefixes.Goals as goal

pub returns : goal.returns
returns c =
    c.have_each.ensures
    ∙ sym (list_all-map (λ (e : Entry). has_span (addresses (sets_of c.args.held.now) e.v6) (span_of e)) entry_view c.args.entries.now)
