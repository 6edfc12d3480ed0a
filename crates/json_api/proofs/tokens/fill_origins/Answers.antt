use Rattle.std.proofs.Common.{◌≡◌, ◌∷◌, Option, IfSome, Vec, Global, subst, sym}
use Rattle.json.specs.Token.{Token}
use Rattle.serde_json.specs.Data.{Items, array}
use Rattle.origins.specs.declared.Origin.{Origin}
use Rattle.json_api.specs.Line.{AreOriginTexts}
use Rattle.json_api.specs.inner.Passes.{ReadsItems}
use Rattle.json_api.specs.declared.fields.Kind.TheVariants as kind
use Rattle.json_api.specs.declared.slots.Slot.TheVariants as slot
use Rattle.json_api.proofs.Passes.{list_read}
use Rattle.json_api.proofs.Members.{filled}
use Rattle.json_api.proofs.tokens.fill_origins.Goals as goal

pub returns-clause-good : goal.returns-clause-good
returns-clause-good c _ =
    let first : c.args.reader.now ≡ Token.begin_array ∷ c.begins_list.new.self = c.if-not-begins_list.ensures.taken in
    let list = subst (λ (o : Option (Vec Origin Global)). IfSome o (λ origins. (ds : Items) × ReadsItems c.begins_list.new.self ds c.take_items.new.reader × AreOriginTexts ds origins.items))
    c.in-Some.is c.in_ok-origins.ensures.good in
    let read = list_read c.args.reader.now c.begins_list.new.self c.take_items.new.reader list.0 first list.1 in
    filled c.args.field kind.Origins (slot.Origins c.in_ok-new.field-0) c.args.reader.now c.take_items.new.reader c.args.slots.now c.set.new.self
    c.requires.kind (array list.0, read, subst (λ os. AreOriginTexts list.0 os) (sym c.in_ok-new.ensures) list.2) c.set.ensures.new c.set.ensures.here
