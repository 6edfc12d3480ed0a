use Rattle.std.proofs.Common.{ap, subst, ◌∙◌}
use Rattle.press_core.specs.Loading.{LoadedValue, IsInOrder, anchor_of}
use Rattle.press_core.proofs.Anchors.{anchor-none}
use Rattle.press_core.proofs.loading.Loaded.anchor.Goals as goal

pub returns-clause-none : goal.returns-clause-none
returns-clause-none g c =
    let loaded = c.args.self.now in
    let order : IsInOrder loaded = subst (λ (v : LoadedValue _). IsInOrder v) c.self.view_is c.self.invariant in
    let same = c.as_slice.ensures ∙ ap (λ (v : LoadedValue _). v.rows) c.self.view_is in
    anchor-none c.anchor_key.result (λ key. key.now.bytes) loaded.rows loaded.serial (c.anchor_key.ensures ∙ ap anchor_of same)
    (λ none. (order.before none).0) order.staged
