use Rattle.std.proofs.Common.{◌∙◌, ◌++◌, ◌+◌, ◌-◌, ◌%◌, ◌^◌, List, ℕ, ap, arith}
use Rattle.std.proofs.lemmas.Result.{IfOk-equal}
use Rattle.der.specs.Spelling.{bits_spelling}
use Rattle.res_ext.specs.Prefixes.{leading_spelling}
use Rattle.res_ext.specs.laws.LeadingLaws.{kept-le, kept-last, first_for_last}
use Rattle.res_ext.proofs.writing.push_high.Goals as goal

pub push_leading_of_last-requires-clause-within : goal.push_leading_of_last-requires-clause-within
push_leading_of_last-requires-clause-within c = omega (arith, c.kept_of_last-length.ensures, kept-le 1 c.args.size c.args.last)

pub push_leading_of_last-requires-clause-set : goal.push_leading_of_last-requires-clause-set
push_leading_of_last-requires-clause-set c = ap (λ (k : ℕ). (c.args.last + 1) % 2 ^ (c.args.size - k)) c.kept_of_last-length.ensures ∙ kept-last c.args.size c.args.last

pub returns : goal.returns
unfolding leading_spelling bits_spelling
returns c =
    let first = first_for_last c.args.size c.args.last c.requires.fits in
    let same = ap (λ (k : ℕ). c.args.out.now.items ++ leading_spelling c.args.size k c.args.last) c.kept_of_last-length.ensures ∙ ap (λ (l : List ℕ). c.args.out.now.items ++ l) first.same in
    IfOk-equal c.push_leading_of_last.result _ _ _ c.push_leading_of_last.ensures same
