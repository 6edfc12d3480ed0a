use Rattle.std.proofs.Common.{◌≤◌, arith, length, rules}
use Rattle.std.specs.Prelude.{All}
use Rattle.names.specs.Name.{IsName}
use Rattle.authority_book.specs.Verdict.{most_authorities}
use Rattle.authority_book.proofs.Sorted.{ascending-nil}
use Rattle.authority_book.proofs.configs.Config.new.Goals as goal
use Rattle.authority_book.proofs.configs.Config.new.Goals.{then-desk-eq0+in_ok-push, else-desk-eq0}

pub invariant_of-result : goal.invariant_of-result
invariant_of-result c =
    let few : length c.if-desk-eq0.names.items ≤ most_authorities = elim c.if-desk-eq0.branch [
      | then-desk-eq0+in_ok-push w ↦ search rules
      | else-desk-eq0 w ↦ search rules
    ] in
    let plain : All (λ row. IsName row.name) c.if-desk-eq0.names.items = elim c.if-desk-eq0.branch [
      | then-desk-eq0+in_ok-push w ↦ search rules
      | else-desk-eq0 w ↦ search rules
    ] in
    record {
      few_names = few;
      plain = plain;
      few_children = rw c.new.ensures.items (omega arith);
      few_origins = rw c.new-2.ensures (omega arith);
      ascending = rw c.new-2.ensures ascending-nil;
    }
