use Rattle.std.proofs.Common.{◌≡◌, ◌∙◌, true, false, List, ap, sym, refl, inl, inr}
use Rattle.std.specs.List.{list_any}
use Rattle.origins.specs.declared.Origin.{Origin}
use Rattle.authority_book.specs.Origins.{is_there}
use Rattle.manager.proofs.Reading.{has_numbers, found_there}
use Rattle.manager.proofs.locked_desks_reads.state_in.Goals as goal

pub returns-then-contains : goal.returns-then-contains
returns-then-contains c =
    let origin = c.args.origin.now in
    let found : c.contains.result ≡ is_there c.args.row.now.published origin = c.contains.ensures.value ∙ ap (λ (l : List Origin). list_any (λ o. has_numbers o origin) l) c.as_slice.ensures ∙ found_there c.args.row.now.published origin in
    inl (sym found ∙ c.if-contains.true, refl)

pub returns-then-is_certified : goal.returns-then-is_certified
returns-then-is_certified c =
    let origin = c.args.origin.now in
    let found : c.contains.result ≡ is_there c.args.row.now.published origin = c.contains.ensures.value ∙ ap (λ (l : List Origin). list_any (λ o. has_numbers o origin) l) c.as_slice.ensures ∙ found_there c.args.row.now.published origin in
    inr (sym found ∙ c.if-contains.false, inl (c.is_certified.ensures.0 c.if-is_certified.true, refl))

pub returns : goal.returns
returns c =
    let origin = c.args.origin.now in
    let found : c.contains.result ≡ is_there c.args.row.now.published origin = c.contains.ensures.value ∙ ap (λ (l : List Origin). list_any (λ o. has_numbers o origin) l) c.as_slice.ensures ∙ found_there c.args.row.now.published origin in
    inr (
      sym found ∙ c.if-contains.false,
      inr (
        λ each.
            let held : c.is_certified.result ≡ true = c.is_certified.ensures.1 each in
            let none : true ≡ false = sym held ∙ c.if-is_certified.false in
            absurd (cc),
        refl,
      ),
    )
