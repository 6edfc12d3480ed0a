-- Editions, what stands after them, and the life of a key.
use Rattle.std.specs.Prelude.{◌≡◌, ℕ, ◌≤◌, ◌<◌, List, [], ◌∷◌, length, get_or, slice_get}
use Rattle.std.specs.Prelude.{Some, None, Bool, IsTrue}
use Rattle.std.specs.List.{list_any}
use Rattle.std.specs.Str.{bytes_eq}
use Rattle.key_roll.specs.declared.rows.KeyRow.{KeyRow}
use Rattle.pub_set.specs.declared.steps.Change.{Change}
use Rattle.pub_set.specs.Objects.{Rise}
use Rattle.pub_set.specs.Changes.{Contents, uri_of, after_all, change_at, difference}
use Rattle.issue_keys.specs.Keys.{id_of}

-- One publication: its serial, its moment, how many commands of each desk it takes in, the live
-- keys, and what it changes in the published set.
pub record Edition : Type 0 where
  pub serial : ℕ
  pub moment : ℕ
  pub cut : List ℕ
  pub rows : List KeyRow
  pub changes : List Change

-- ---- what stands

-- What editions leave: the serial, the moment, the cut and the live keys of the last one, and what
-- stands at each URI.
pub record State : Type 0 where
  pub serial : ℕ
  pub moment : ℕ
  pub cut : List ℕ
  pub rows : List KeyRow
  pub set : Contents

-- Before the first edition nothing stands.
abbrev pub first_state : State
first_state = record { serial = 0; moment = 0; cut = []; rows = []; set = λ uri. None }

abbrev pub after_edition : State → Edition → State
after_edition state edition = record {
  serial = edition.serial;
  moment = edition.moment;
  cut = edition.cut;
  rows = edition.rows;
  set = after_all state.set edition.changes;
}

abbrev pub state_from : State → List Edition → State
state_from state [] = state
state_from state (edition ∷ rest) = state_from (after_edition state edition) rest

-- What these editions leave, of which the first comes first.
abbrev pub state_after : List Edition → State
state_after editions = state_from first_state editions

abbrev pub set_after : List Edition → Contents
set_after editions = (state_after editions).set

-- How many commands of a desk are taken in.
abbrev pub cut_at : List ℕ → ℕ → ℕ
cut_at cut desk = get_or cut desk 0

-- By rising URI, at each URI the change that makes the new set of the old one, if one is needed.
pub record AreChanges (old new : Contents) (changes : List Change) : Type 0 where
  pub ascending : Rise uri_of changes
  pub each : (uri : List ℕ) → change_at changes uri ≡ difference uri (old uri) (new uri)

-- ---- the life of a key

-- Whether the key with that identifier is live in the edition.
abbrev pub is_live_in : List ℕ → Edition → Bool
is_live_in id edition = list_any (λ row. bytes_eq (id_of row) id) edition.rows

-- Both editions are of one life of the key, the second not before the first: it is live in each
-- from the one to the other.
pub record IsInLife (id : List ℕ) (editions : List Edition) (from to : ℕ) : Type 0 where
  pub ordered : from ≤ to
  pub within : to < length editions
  pub unbroken : (position : ℕ) (edition : Edition) → from ≤ position → position ≤ to
      → slice_get editions position ≡ Some edition → IsTrue (is_live_in id edition)
