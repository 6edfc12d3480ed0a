use Rattle.std.proofs.Common.{ℕ, List, sym, subst}
use Rattle.names.specs.Name.{IsName}
use Rattle.authority_book.specs.declared.rows.NameRow.{NameRow}
use Rattle.issue_values.specs.Publishers.{roa_uri}
use Rattle.issue_drafts.specs.Publishers.{name_at}
use Rattle.test_press.proofs.Distinct.{none-twice}
use Rattle.test_press.proofs.works.answers.answer.Goals as goal

pub make_anchor-requires-clause-apart : goal.make_anchor-requires-clause-apart
make_anchor-requires-clause-apart g c = λ lifetimes lives.
    let site = c.in_ok-site.site in
    let name : List ℕ = name_at c.deref.result.now 0 in
    let is : IsName name = subst (λ (l : List NameRow). IsName (name_at l 0)) (sym c.deref.ensures.value) c.in_ok-names.ensures.name in
    none-twice (roa_uri site name) (λ o p e. (c.origins_are_told_apart.ensures site name name o p is is e).1)
    c.args.origins.now c.requires.origins
