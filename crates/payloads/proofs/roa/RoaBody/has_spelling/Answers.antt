use Rattle.std.proofs.Common.{◌≡◌, List, length, map, sym, ap, ◌∙◌, arith, rules}
use Rattle.std.proofs.lemmas.Bool.Decides.{nat_tests}
use Rattle.std.proofs.lemmas.List.{length-map}
use Rattle.payloads.specs.declared.values.RoaEntry.{RoaEntry}
use Rattle.payloads.specs.Order.{rises}
use Rattle.payloads.specs.RoaFormats.{entry_view, is_below}
use Rattle.payloads.proofs.EachEntry.{all-entries}
use Rattle.payloads.proofs.roa.RoaBody.has_spelling.Goals as goal

pub returns-then-not-is_empty : goal.returns-then-not-is_empty
returns-then-not-is_empty c =
    let items = c.args.self.now.entries.items in
    let told : c.are_rising.result ≡ rises is_below (map entry_view items) = c.are_rising.ensures ∙ ap (λ (l : List RoaEntry). rises is_below (map entry_view l)) c.deref.ensures.value in (
      λ yes. record {
        asn = search rules;
        some = grind (arith, nat_tests, c.if-not-is_empty.ensures, c.deref.ensures.len, ap length c.deref.ensures.value, length-map items entry_view);
        each = all-entries items;
        rises = sym told ∙ yes;
      },
      λ is. told ∙ is.rises,
    )
