use Rattle.std.proofs.Common.{◌∙◌, ◌++◌, ◌-◌, ◌%◌, ◌^◌, ℕ, ap, arith}
use Rattle.std.proofs.lemmas.Result.{IfOk-equal}
use Rattle.der.specs.Spelling.{bits_spelling}
use Rattle.res_ext.specs.Prefixes.{leading_spelling}
use Rattle.res_ext.specs.laws.LeadingLaws.{kept-le, kept-first}
use Rattle.res_ext.proofs.writing.push_low.Goals as goal

pub push_leading-requires-clause-within : goal.push_leading-requires-clause-within
push_leading-requires-clause-within c = omega (arith, c.kept_of_first-length.ensures, kept-le 0 c.args.size c.args.address)

pub push_leading-requires-clause-clear : goal.push_leading-requires-clause-clear
push_leading-requires-clause-clear c = ap (λ (k : ℕ). c.args.address % 2 ^ (c.args.size - k)) c.kept_of_first-length.ensures ∙ kept-first c.args.size c.args.address

pub returns : goal.returns
unfolding leading_spelling bits_spelling
returns c =
    let same = ap (λ (k : ℕ). c.args.out.now.items ++ leading_spelling c.args.size k c.args.address) c.kept_of_first-length.ensures in
    IfOk-equal c.push_leading.result _ _ _ c.push_leading.ensures same
