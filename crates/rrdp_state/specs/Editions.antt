-- Editions of a repository, the newest first, and the snapshot and the delta of each (RFC 8182
-- section 3.3.2).
use Rattle.std.specs.Prelude.{ℕ, zero, suc, ◌+◌, ◌==◌, ◌&&◌, Bool, not, nat_le, List, [], ◌∷◌, ◌++◌, length, Option, None, Some, if◌then◌else◌}
use Rattle.pub_set.specs.declared.objects.Object.{Object}
use Rattle.pub_set.specs.declared.steps.Change.{Change}
use Rattle.pub_set.specs.Objects.{IsAscending}
use Rattle.pub_set.specs.Changes.{IsApplied}
use Rattle.rrdp_text.specs.Texts.{snapshot_text, delta_text}
use Rattle.rrdp_state.specs.declared.next.NextDelta.{NextDelta}
use Rattle.rrdp_state.specs.declared.delta.Delta.{Delta}

-- What stands after an edition, and the changes that led to it.
pub record Edition : Type 0 where
  pub objects : List Object
  pub changes : List Change

-- What stands after the newest of these editions, and before the first one nothing.
abbrev pub objects_of : List Edition → List Object
objects_of [] = []
objects_of (edition ∷ older) = edition.objects

-- What stands after each edition is what its changes make of what stood before it.
abbrev pub FollowEachOther : List Edition → Type 0
FollowEachOther [] = Unit {0}
FollowEachOther (edition ∷ older) =
    IsAscending edition.objects × IsApplied (objects_of older) edition.changes edition.objects
    × FollowEachOther older

-- The delta that leads to a serial. The first one has none.
abbrev pub delta_to : List ℕ → ℕ → List Change → Option (List ℕ)
delta_to session serial changes =
    if serial == 1 then None else Some (delta_text session serial changes)

-- A serial's snapshot, and the delta that leads to it.
pub record Texts : Type 0 where
  pub serial : ℕ
  pub snapshot : List ℕ
  pub delta : Option (List ℕ)

-- The texts of a serial.
abbrev pub texts_of : List ℕ → ℕ → List Object → List Change → Texts
texts_of session serial objects changes = record {
  serial = serial;
  snapshot = snapshot_text session serial objects;
  delta = delta_to session serial changes;
}

-- The texts of an edition behind these: its serial is one more than there are.
abbrev pub edition_texts : List ℕ → List Edition → Edition → Texts
edition_texts session older edition =
    texts_of session (length older + 1) edition.objects edition.changes

-- Whether a serial has a delta that can be named: one that has no more bytes than its snapshot.
abbrev pub can_be_named : List ℕ → ℕ → List Object → List Change → Bool
can_be_named session serial objects changes = not (serial == 1)
    && nat_le (length (delta_text session serial changes))
    (length (snapshot_text session serial objects))

-- The delta of a serial, if it can be named.
abbrev pub next_delta : List ℕ → ℕ → List Object → List Change → NextDelta
next_delta session serial objects changes = record {
  serial = serial;
  delta = if can_be_named session serial objects changes
      then Some (delta_text session serial changes) else None;
}

-- The delta of an edition behind these.
abbrev pub edition_delta : List ℕ → List Edition → Edition → NextDelta
edition_delta session older edition =
    next_delta session (length older + 1) edition.objects edition.changes

abbrev pub delta_in : ℕ → Option (List ℕ) → List Delta
delta_in serial None = []
delta_in serial (Some text) = record { serial = serial; text = text } ∷ []

-- The delta of these texts, if they have one.
abbrev pub new_delta : Texts → List Delta
new_delta next = delta_in next.serial next.delta

-- The deltas of all editions, the newest first.
abbrev pub deltas_of : List ℕ → List Edition → List Delta
deltas_of session [] = []
deltas_of session (edition ∷ older) =
    new_delta (edition_texts session older edition) ++ deltas_of session older

-- The deltas of the newest so many editions.
abbrev pub delta_of : List ℕ → List Edition → Edition → Delta
delta_of session older edition = record {
  serial = length older + 1;
  text = delta_text session (length older + 1) edition.changes;
}

abbrev pub last_deltas : List ℕ → ℕ → List Edition → List Delta
last_deltas session zero editions = []
last_deltas session (suc count) [] = []
last_deltas session (suc count) (edition ∷ older) =
    delta_of session older edition ∷ last_deltas session count older
