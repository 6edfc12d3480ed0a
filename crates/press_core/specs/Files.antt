-- The editions of a press as RRDP has them, and the files of them (RFC 8182 section 3.3).
use Rattle.std.specs.Prelude.{◌≡◌, ℕ, List, [], ◌∷◌, ◌++◌, filter, Option, None, Some}
use Rattle.std.specs.Ordering.{is_lt}
use Rattle.key_ids.specs.Uris.{Bases}
use Rattle.pub_set.specs.declared.objects.Object.{Object}
use Rattle.pub_set.specs.declared.steps.Change.{Change}
use Rattle.pub_set.specs.Objects.{uri_cmp}
use Rattle.pub_set.specs.Changes.{uri_of, left_by}
use Rattle.editions.specs.Edition.{Edition}
use Rattle.rrdp_state.specs.declared.next.NextDelta.{NextDelta}
use Rattle.rrdp_state.specs.Editions as rrdp
use Rattle.rrdp_state.specs.Editions.{objects_of, next_delta}
use Rattle.rrdp_state.specs.Exported.{Repository}
use Rattle.rrdp_state.specs.State as rrdp_state
use Rattle.press_core.specs.Next.{NextValue}
use Rattle.press_core.specs.Press.{PressValue}

-- ---- editions as RRDP has them

-- What stands at a URI, as a list.
abbrev pub object_at : List ℕ → Option (List ℕ) → List Object
object_at uri None = []
object_at uri (Some bytes) = record { uri = uri; bytes = bytes } ∷ []

-- A set after a change: what is before its URI, what it leaves there, and what is behind its URI.
unfoldable pub changed : List Object → Change → List Object
changed objects change =
    filter (λ object. is_lt (uri_cmp object.uri (uri_of change))) objects
    ++ object_at (uri_of change) (left_by change)
    ++ filter (λ object. is_lt (uri_cmp (uri_of change) object.uri)) objects

-- A set after changes, one after another.
abbrev pub all_changed : List Object → List Change → List Object
all_changed objects [] = objects
all_changed objects (change ∷ rest) = all_changed (changed objects change) rest

-- An edition behind these: what stands after it, and what it changes.
abbrev pub told : List rrdp.Edition → Edition → rrdp.Edition
told older edition = record {
  objects = all_changed (objects_of older) edition.changes;
  changes = edition.changes;
}

-- Such editions in front of older ones, of which the newest is the first.
abbrev pub told_before : List rrdp.Edition → List Edition → List rrdp.Edition
told_before older [] = older
told_before older (edition ∷ rest) = told_before (told older edition ∷ older) rest

-- Editions as RRDP has them: the newest first, each with the set after it and its changes.
abbrev pub rrdp_editions : List Edition → List rrdp.Edition
rrdp_editions editions = told_before [] editions

-- ---- the files of a press

-- Of a session, in the https folder of the site.
abbrev pub repository_at : List ℕ → Bases → Repository
repository_at session site = record { session = session; base = site.rrdp }

abbrev pub repository_of : PressValue → Repository
repository_of press = repository_at press.rrdp.session press.site

-- The press has the files of these editions: it keeps the deltas that are named with the newest one,
-- and the set of the newest one stands, of which the snapshot is the text.
pub record HasFilesOf (editions : List Edition) (press : PressValue) : Type 0 where
  pub kept : rrdp_state.StandsFor (repository_of press) (rrdp_editions editions) press.rrdp
  pub set : press.at.set ≡ objects_of (rrdp_editions editions)

-- The delta of an edition that is prepared: the text of what changes, if it can be named beside the
-- snapshot of what will stand.
abbrev pub delta_of : List ℕ → NextValue → NextDelta
delta_of session edition = next_delta session edition.next.serial edition.next.set edition.changes
