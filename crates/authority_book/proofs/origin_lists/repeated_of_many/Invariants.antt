use Rattle.std.proofs.Common.{◌≡◌, take}
use Rattle.std.specs.Prelude.{None}
use Rattle.std.specs.BTreeSet.{contains}
use Rattle.origins.specs.declared.Origin.{Origin}
use Rattle.authority_book.specs.Origins.{origin_cmp, is_there, first_repeated}
use Rattle.authority_book.proofs.origin_lists.repeated_of_many.Given as goal

abbrev pub invariant-loop-origin : goal.invariant-loop-origin
invariant-loop-origin l = record {
  members : (o : Origin) → contains origin_cmp l.members o ≡ is_there (take l.origin-index l.items) o;
  first : first_repeated (take l.origin-index l.items) ≡ None;
}
