use Rattle.std.proofs.Common.{◌≡◌, ℕ, List, IfOk, IsTrue, sym, subst}
use Rattle.serde_json.specs.Data.{Data, Members, put}
use Rattle.json_api.specs.Names.{name_of, fields}
use Rattle.json_api.specs.inner.Passes.{ReadsValue, AreMembers}
use Rattle.json_api.proofs.Named.{first_named-is}
use Rattle.json_api.proofs.tokens.read_member.Goals as goal

pub returns-clause-good : goal.returns-clause-good
returns-clause-good c =
    let f = c.in-Some.field in
    let named : c.args.name.now ≡ name_of f = first_named-is name_of fields c.args.name.now f (sym c.in-Some.ensures) in
    subst (λ (n : List ℕ). IfOk c.fill.result (λ good. IsTrue good → (d : Data) × ReadsValue c.args.reader.now d c.fill.new.reader
    × ((ms : Members) → AreMembers ms c.args.slots.now → AreMembers (put n d ms) c.fill.new.slots))) (sym named) c.fill.ensures.good
