use Rattle.std.proofs.Common.{◌≡◌, List, ◌∷◌, [], ◌++◌, take, ap, sym, subst, ◌∙◌, arith, ◌+◌}
use Rattle.std.proofs.lemmas.List.{take_more}
use Rattle.serde_json.specs.View.{view, items_view}
use Rattle.serde_json.specs.declared.value.Value.{Value}
use Rattle.origins.specs.declared.Origin.{Origin}
use Rattle.json_api.specs.Line.{AreOriginTexts, IsOriginText}
use Rattle.json_api.proofs.OriginTexts.{AreOriginTexts-append, AreOriginTexts-at}
use Rattle.json_api.proofs.values.read_items.Goals as goal

pub returns-in_default : goal.returns-in_default
returns-in_default c origins texts =
    let here = AreOriginTexts-at c.args.items.now origins c.loop-item.item-index c.item-item.result (omega arith) texts in
    c.in_default.ensures here.0 (subst (λ (v : Value). IsOriginText (view v) here.0) (sym c.item-item.is) here.1)

pub loop-item-preserved : goal.loop-item-preserved
loop-item-preserved c =
    let i = c.loop-item.item-index in
    let items = c.args.items.now in
    let v = c.item-item.result in
    let longer : take (i + 1) items ≡ take i items ++ v ∷ []
    = take_more items i v (omega arith) ∙ ap (λ (w : Value). take i items ++ w ∷ []) (sym c.item-item.is) in
    let texts = AreOriginTexts-append (take i items) c.loop-item.origins.items v c.in-Some.origin c.loop-item.invariant c.in-Some.ensures in
    subst (λ (vs : List Value). AreOriginTexts (items_view vs) c.push.new.self.items) (sym longer)
    (subst (λ (os : List Origin). AreOriginTexts (items_view (take i items ++ v ∷ [])) os) (sym c.in_ok-push.ensures.items) texts)
