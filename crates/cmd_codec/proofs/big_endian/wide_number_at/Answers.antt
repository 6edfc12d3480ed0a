use Rattle.std.proofs.Common.{◌≡◌, ◌∙◌, ap, take, drop, List, ℕ, arith}
use Rattle.std.specs.Int.{w128, from_be_bytes}
use Rattle.std.proofs.lemmas.List.{take_rest, length-drop}
use Rattle.std.proofs.lemmas.Option.{MatchOption-at_some}
use Rattle.cmd_codec.specs.Fault.{front_128}
use Rattle.cmd_codec.proofs.Digits.{IsBytes-drop}
use Rattle.cmd_codec.proofs.Fronts.{bytes_128-front}
use Rattle.cmd_codec.proofs.big_endian.wide_number_at.Goals as goal

value_is : (c : goal.After-from_be_bytes) → c.from_be_bytes.result ≡ front_128 (drop c.args.place c.args.field.now)
unfolding front_128
value_is c =
    let chunk = MatchOption-at_some _ _ c.unwrap.result c.unwrap.ensures c.first_chunk.ensures.cases in
    c.from_be_bytes.ensures ∙ ap (λ (b : List ℕ). from_be_bytes w128 b) (chunk.same ∙ ap (λ (b : List ℕ). take 16 b) (take_rest c.args.field.now c.args.place))

pub returns-clause-value : goal.returns-clause-value
returns-clause-value c = value_is c

pub returns-clause-bytes : goal.returns-clause-bytes
returns-clause-bytes c =
    bytes_128-front (drop c.args.place c.args.field.now) c.from_be_bytes.result (omega (arith, length-drop c.args.place c.args.field.now, c.requires))
    (IsBytes-drop c.args.place c.args.field.now (λ i. omega (arith, c.type_inv.field i))) (value_is c)
