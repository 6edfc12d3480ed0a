use Rattle.std.proofs.Common.{◌<◌, ◌^◌, arith}
use Rattle.std.proofs.lemmas.List.Elements.{All-from_get_or, recursion_from_All}
use Rattle.press_records.proofs.types.numbers_fit.Goals as goal

pub returns : goal.returns
returns c =
    recursion_from_All (λ n. n < 2 ^ 64) c.args.numbers.now
    (All-from_get_or (λ n. n < 2 ^ 64) c.args.numbers.now 0 (λ i within. omega (arith, c.type_inv.numbers i)))
