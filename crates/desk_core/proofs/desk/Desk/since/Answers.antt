use Rattle.std.proofs.Common.{◌≡◌, ◌++◌, ◌+◌, ◌-◌, [], ◌∷◌, ℕ, List, Some, length, take, drop, ap, subst, sym, ◌∙◌, arith, rules, length-drop}
use Rattle.std.specs.List.{slice_get}
use Rattle.std.proofs.lemmas.List.{take_all}
use Rattle.gate_journal.specs.Format.{payloads}
use Rattle.desk_core.specs.View.{View}
use Rattle.desk_core.proofs.Committed.{length-payloads}
use Rattle.desk_core.proofs.Listed.{CommandAt, command_at, listed_more}
use Rattle.desk_core.proofs.desk.Desk.since.Goals as goal

pub payload-payload-requires-clause-index : goal.payload-payload-requires-clause-index
payload-payload-requires-clause-index g c =
    let inside = c.self.inside in
    omega (arith, c.loop-index-test.true, c.len-count.ensures.records, ap (λ (v : View _). length v.records) c.self.view_is, length-payloads inside.journal.sizes inside.body.items c.self.invariant.size)

pub recorded-requires : goal.recorded-requires
recorded-requires g c =
    let inside = c.self.inside in
    let all = payloads inside.journal.sizes inside.body.items in
    let at = c.loop-index.index in
    let there : slice_get all at ≡ Some c.payload-payload.result.now = ap (λ (b : List ℕ). slice_get (payloads inside.journal.sizes b) at) (sym c.as_slice.ensures.value) ∙ c.payload-payload.ensures in
    let loaded = c.self.invariant.loaded in
    let found = command_at inside.number all loaded.commands at c.payload-payload.result.now loaded.recorded there in
    (found.command, found.recordable, found.spelled)

pub loop-index-preserved : goal.loop-index-preserved
loop-index-preserved g c commands has =
    let inside = c.self.inside in
    let desk = c.args.self.now in
    let from = c.args.from in
    let at = c.loop-index.index in
    let i = at - from in
    let payload = c.payload-payload.result.now in
    let there : slice_get desk.records at ≡ Some payload =
    ap (λ (v : View _). slice_get v.records at) (sym c.self.view_is) ∙ ap (λ (b : List ℕ). slice_get (payloads inside.journal.sizes b) at) (sym c.as_slice.ensures.value) ∙ c.payload-payload.ensures in
    let back : at ≡ from + i = omega (arith, c.loop-index.auto.index) in
    let found : CommandAt commands (from + i) payload = subst (λ (k : ℕ). CommandAt commands k payload) back (command_at desk.number desk.records commands at payload has.recorded there) in
    let pushed : c.push.new.self.items ≡ c.loop-index.commands.items ++ c.in_ok-recorded.field-0 ∷ [] = search rules in
    pushed
    ∙ listed_more commands c.loop-index.commands.items from i payload c.in_ok-recorded.field-0 found c.in_ok-recorded.ensures (c.loop-index.invariant commands has)
    ∙ ap (λ (n : ℕ). take n (drop from commands)) (omega (arith, back))

pub returns : goal.returns
returns g c commands has =
    c.loop-index.invariant commands has
    ∙ take_all (c.loop-index.index - c.args.from) (drop c.args.from commands) (omega (arith, length-drop c.args.from commands, c.len-count.ensures.commands commands has, c.loop-index-test.false))
