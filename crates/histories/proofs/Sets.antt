-- What is a set: a list by rising URI has just it.
use Rattle.std.proofs.Common.{◌≡◌, ℕ, List}
use Rattle.pub_set.specs.declared.objects.Object.{Object}
use Rattle.pub_set.specs.Objects.{content_at, IsAscending}
use Rattle.pub_set.specs.Changes.{Contents}

abbrev pub IsSet : Contents → Type 0
IsSet set = (objects : List Object) × IsAscending objects × ((uri : List ℕ) → content_at objects uri ≡ set uri)
