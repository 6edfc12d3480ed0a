-- What the clauses of a ROA's reading stand on.
use Rattle.std.proofs.Common.{refl}
use Rattle.payloads.specs.RoaFormats.{unordered_roa, roa, is_rising}
use Rattle.payloads.specs.laws.BlockLaws.{roa-unordered, unordered-roa}
use Rattle.payloads.proofs.Clauses.{IsOrderedForm}

pub roa-form : IsOrderedForm unordered_roa roa is_rising
roa-form = record {
  same = λ v. refl;
  into = λ v good. (roa-unordered v good, good.rises);
  back = λ v good up. unordered-roa v good up;
}
