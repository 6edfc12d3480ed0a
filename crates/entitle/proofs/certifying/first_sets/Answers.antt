use Rattle.std.proofs.Common.{◌≡◌, ◌+◌, ◌++◌, ◌∷◌, [], sym, ◌∙◌, ap, arith, length, get_or, inl, inr, rules}
use Rattle.std.proofs.lemmas.Bool.{cases_eq}
use Rattle.std.proofs.lemmas.List.{get_or_push, get_or_append_left, get_or_default, length_push}
use Rattle.res_sets.specs.Triples.{has}
use Rattle.authority_book.specs.declared.rows.NameRow.{NameRow}
use Rattle.entitle.specs.Certified.{certified}
use Rattle.entitle.proofs.certifying.first_sets.Goals as goal

pub loop-row-preserved : goal.loop-row-preserved
loop-row-preserved c =
    let i = c.loop-row.row-index in
    let names = c.args.names.now in
    let sets = c.loop-row.sets.items in
    let new = c.in_ok-first_set.field-0 in
    let item = c.row-item.result in
    let put : c.push.new.self.items ≡ sets ++ new ∷ [] = search rules in
    let long : length (sets ++ new ∷ []) ≡ length sets + 1 = length_push sets new in
    record {
      one_each = ap length put ∙ (long ∙ ap (λ n. n + 1) c.loop-row.invariant.one_each);
      members = λ configs place row set within family number. elim (cases_eq place i) [
        | inl here ↦
            let name : item ≡ get_or names place row = c.row-item.is ∙ (ap (λ n. get_or names n item) (sym here) ∙ get_or_default names place item row (omega arith)) in
            ap (λ xs. has (get_or xs place set) family number) put
            ∙ (ap (λ x. has x family number) (get_or_push sets new set place (omega arith))
            ∙ (c.in_ok-first_set.ensures configs family number
            ∙ ap (λ (r : NameRow). certified configs 0 r.name family number) name))
        | inr other ↦
            ap (λ xs. has (get_or xs place set) family number) put
            ∙ (ap (λ x. has x family number) (get_or_append_left sets (new ∷ []) set place (omega arith))
            ∙ c.loop-row.invariant.members configs place row set (omega arith) family number)
      ];
    }

pub returns : goal.returns
returns c = λ configs. record {
  one_each = omega arith;
  members = λ place row set within family number. c.loop-row.invariant.members configs place row set (omega arith) family number;
}
