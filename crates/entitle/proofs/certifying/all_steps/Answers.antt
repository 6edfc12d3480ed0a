use Rattle.std.proofs.Common.{◌≡◌, ℕ, ◌+◌, ◌++◌, ◌∷◌, [], sym, ◌∙◌, ap, subst, arith, length, get_or, inl, inr, rules}
use Rattle.std.specs.Prelude.{Option, None}
use Rattle.std.proofs.lemmas.Bool.{cases_eq}
use Rattle.std.proofs.lemmas.List.{get_or_push, get_or_append_left, get_or_default, length_push}
use Rattle.authority_book.specs.declared.rows.NameRow.{NameRow}
use Rattle.entitle.specs.Certified.{settings_of}
use Rattle.entitle.specs.inner.Steps.{IsSteps}
use Rattle.entitle.proofs.certifying.all_steps.Goals as goal

pub loop-row-preserved : goal.loop-row-preserved
loop-row-preserved c =
    let i = c.loop-row.row-index in
    let configs = settings_of c.args.configs.now in
    let names = c.args.names.now in
    let steps = c.loop-row.steps.items in
    let new = c.steps_of.result in
    let item = c.row-item.result in
    let put : c.push.new.self.items ≡ steps ++ new ∷ [] = search rules in
    let long : length (steps ++ new ∷ []) ≡ length steps + 1 = length_push steps new in
    record {
      one_each = ap length put ∙ (long ∙ ap (λ n. n + 1) c.loop-row.invariant.one_each);
      each = λ place row within. elim (cases_eq place i) [
        | inl here ↦
            let name : item ≡ get_or names place row = c.row-item.is ∙ (ap (λ n. get_or names n item) (sym here) ∙ get_or_default names place item row (omega arith)) in
            let at : get_or c.push.new.self.items place None ≡ new = ap (λ xs. get_or xs place None) put ∙ get_or_push steps new None place (omega arith) in
            subst (λ (r : NameRow). IsSteps configs r.name (get_or c.push.new.self.items place None)) name
            (subst (λ (s : Option ℕ). IsSteps configs item.name s) (sym at) c.steps_of.ensures)
        | inr other ↦
            let at : get_or c.push.new.self.items place None ≡ get_or steps place None =
            ap (λ xs. get_or xs place None) put ∙ get_or_append_left steps (new ∷ []) None place (omega arith) in
            subst (λ (s : Option ℕ). IsSteps configs (get_or names place row).name s) (sym at) (c.loop-row.invariant.each place row (omega arith))
      ];
    }
