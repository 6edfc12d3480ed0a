-- What a set that changes were applied to holds.
use Rattle.std.proofs.Common.{◌≡◌, List}
use Rattle.std.proofs.Math.Path.{fun_ext}
use Rattle.pub_set.specs.declared.steps.Change.{Change}
use Rattle.pub_set.specs.declared.objects.Object.{Object}
use Rattle.pub_set.specs.Objects.{content_at}
use Rattle.pub_set.specs.Changes.{after_all, IsApplied}

-- A set is what changes make of another.
pub same_contents : (old new : List Object) (all : List Change) → IsApplied old all new → content_at new ≡ after_all (content_at old) all
same_contents old new all is = fun_ext is
