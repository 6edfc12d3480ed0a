use Rattle.std.proofs.Common.{◌≡◌, ◌++◌, take, map}
use Rattle.payloads.specs.RoaFormats.{entry_view}
use Rattle.rp_rules.specs.Yield.{yielded_of}
use Rattle.rp_rules.specs.Views.{yielded_values}
use Rattle.rp_audit.specs.inner.Views.{authority_value}
use Rattle.rp_audit.proofs.roas.note_origins.Given as goal

abbrev pub invariant-loop-entry : goal.invariant-loop-entry
invariant-loop-entry l = yielded_values l.origins.items
    ≡ yielded_values l.initial.origins.items
    ++ map (yielded_of (authority_value l.issuer).cert.uris.folder l.roa.body.asn) (map entry_view (take l.entry-index l.roa.body.entries.items))
