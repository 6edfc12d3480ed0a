-- A session that is taken up again behind editions that were published before (RFC 8182 section
-- 3.3.1), by what the newest of them tell.
use Rattle.std.specs.Prelude.{◌≡◌, ℕ, ◌-◌, ◌≤◌, ◌<◌, List, [], length, take, drop}
use Rattle.rrdp_state.specs.Editions.{Edition, FollowEachOther}
use Rattle.rrdp_state.specs.Named.{named_deltas}
use Rattle.rrdp_state.specs.Exported.{Repository}
use Rattle.rrdp_state.specs.Kept.{Kept}

-- Behind a serial, of whose editions nothing is told.
abbrev pub kept_behind : Repository → ℕ → Kept
kept_behind repository serial = record {
  session = repository.session;
  base = repository.base;
  serial = serial;
  deltas = [];
  previous = 0;
  before = 0;
}

-- What is kept after these editions by so many of the newest: no delta is told but theirs.
abbrev pub kept_by : Repository → ℕ → List Edition → Kept
kept_by repository told editions = record {
  session = repository.session;
  base = repository.base;
  serial = length editions;
  deltas = take told (named_deltas repository.session editions);
  previous = length (take (told - 1) (named_deltas repository.session (drop 1 editions)));
  before = length (take (told - 2) (named_deltas repository.session (drop 2 editions)));
}

-- So many editions tell all: at most sixteen deltas are named, by each of the last three
-- notifications.
abbrev pub telling_editions : ℕ
telling_editions = 18

-- So many of the newest editions are that many, or all.
abbrev pub IsEnough : ℕ → List Edition → Type 0
IsEnough told editions = told < telling_editions → length editions ≤ told

-- The state is that after these editions, which follow one another, by so many of the newest.
pub record IsToldBy (repository : Repository) (told : ℕ) (editions : List Edition) (kept : Kept)
    : Type 0 where
  pub follow : FollowEachOther editions
  pub state : kept ≡ kept_by repository told editions
