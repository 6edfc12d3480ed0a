-- The editions that were published in a history, by their serials.
use Rattle.std.specs.Prelude.{◌≡◌, ℕ, ◌+◌, List, [], ◌∷◌, take, slice_get, Some, Ok}
use Rattle.pub_set.specs.declared.objects.Object.{Object}
use Rattle.pub_set.specs.Objects.{content_at, IsAscending}
use Rattle.pub_set.specs.Changes.{Contents}
use Rattle.pub_set.specs.Changes as sets
use Rattle.rrdp_text.specs.Template.{snapshot_in, delta_in}
use Rattle.rrdp_text.specs.Texts.{snapshot_text, delta_text}
use Rattle.editions.specs.Edition.{Edition, set_after}
use Rattle.histories.specs.Events.{History}
use Rattle.histories.specs.Acknowledged.{editions_of}

-- The edition has that serial in the history. Serials count from 1.
pub record HasEdition (history : History) (serial : ℕ) (edition : Edition) : Type 0 where
  pub place : ℕ
  pub there : slice_get (editions_of history) place ≡ Some edition
  pub number : serial ≡ place + 1

-- The published set of a serial: what the editions up to it leave. That of serial 0 is empty.
abbrev pub set_of : History → ℕ → Contents
set_of history serial = set_after (take serial (editions_of history))

-- The deltas of these editions, applied to a set one after another.
abbrev pub applied : Contents → List Edition → Contents
applied set [] = set
applied set (edition ∷ rest) = applied (sets.after_all set edition.changes) rest

-- The objects of a set by rising URI, and its snapshot, which is read back as these objects
-- (RFC 8182 section 3.5.2).
pub record HasSnapshot (session : List ℕ) (serial : ℕ) (set : Contents) : Type 0 where
  pub objects : List Object
  pub ascending : IsAscending objects
  pub are : (uri : List ℕ) → content_at objects uri ≡ set uri
  pub read : snapshot_in (snapshot_text session serial objects) ≡ Ok ((session, serial), objects)

-- The text of an edition's delta is read back as its changes (RFC 8182 section 3.5.3).
abbrev pub HasDelta : List ℕ → Edition → Type 0
HasDelta session edition =
    delta_in (delta_text session edition.serial edition.changes)
    ≡ Ok ((session, edition.serial), edition.changes)
