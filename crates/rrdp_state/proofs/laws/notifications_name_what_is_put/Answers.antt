use Rattle.std.proofs.Common.{◌+◌, ◌∷◌, length, map, refl}
use Rattle.rrdp_state.specs.Editions.{edition_texts}
use Rattle.rrdp_state.specs.Named.{named_deltas}
use Rattle.rrdp_state.specs.Paths.{snapshot_path}
use Rattle.rrdp_state.specs.Exported.{file_ref, delta_ref}
use Rattle.rrdp_state.proofs.Lasts.{refs_are}
use Rattle.rrdp_state.proofs.laws.notifications_name_what_is_put.Goals as goal

pub returns-clause-put : goal.returns-clause-put
returns-clause-put c = λ repository editions. refl

pub returns-clause-text : goal.returns-clause-text
returns-clause-text c = λ repository older edition. (
  file_ref repository.base (snapshot_path repository.session (length older + 1)) (edition_texts repository.session older edition).snapshot,
  map (delta_ref repository) (named_deltas repository.session (edition ∷ older)),
  refl,
  refl,
)

pub returns-clause-named : goal.returns-clause-named
returns-clause-named c = refs_are
