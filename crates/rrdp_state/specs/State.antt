-- What is kept of editions for the next one and for their export (RFC 8182 section 3.3).
use Rattle.std.specs.Prelude.{◌≡◌, ◌+◌, List, [], ◌∷◌, length, drop}
use Rattle.rrdp_state.specs.Editions.{Edition, FollowEachOther}
use Rattle.rrdp_state.specs.Named.{named_deltas}
use Rattle.rrdp_state.specs.Exported.{Repository}
use Rattle.rrdp_state.specs.Kept.{Kept}

-- What is kept after these editions.
abbrev pub kept_of : Repository → List Edition → Kept
kept_of repository [] = record {
  session = repository.session;
  base = repository.base;
  serial = 0;
  deltas = [];
  previous = 0;
  before = 0;
}
kept_of repository (edition ∷ older) = record {
  session = repository.session;
  base = repository.base;
  serial = length older + 1;
  deltas = named_deltas repository.session (edition ∷ older);
  previous = length (named_deltas repository.session older);
  before = length (named_deltas repository.session (drop 1 older));
}

-- The state is that after these editions, which follow one another.
pub record StandsFor (repository : Repository) (editions : List Edition) (kept : Kept)
    : Type 0 where
  pub follow : FollowEachOther editions
  pub state : kept ≡ kept_of repository editions
