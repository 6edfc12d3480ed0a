use Rattle.std.proofs.Common.{◌≡◌, take}
use Rattle.authority_book.proofs.children.copy_children.Given as goal

abbrev pub invariant-loop-child : goal.invariant-loop-child
invariant-loop-child l = l.copy.items ≡ take l.child-index l.children
