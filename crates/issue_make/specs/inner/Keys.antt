-- The rows of the keys after an edition.
use Rattle.std.specs.Prelude.{◌≡◌, ℕ, ◌+◌, Bool, if◌then◌else◌, List, map}
use Rattle.std.specs.Simd.Lanes.{zip2}
use Rattle.key_roll.specs.declared.rows.KeyRow.{KeyRow}
use Rattle.key_roll.specs.declared.rows.RevokedRow.{RevokedRow}
use Rattle.issue_drafts.specs.IssueInput.{IssueInput}
use Rattle.issue_drafts.specs.Drafts.{serial_behind}
use Rattle.issue_drafts.specs.Revoking.{has_point}
use Rattle.issue_make.specs.Trace.{IssuingTrace, all_of}

-- A key's row, from whether it gets a CRL and a manifest, the serial that comes next under it, and
-- the entries of its CRL.
abbrev pub row_with : ℕ → KeyRow → Bool → ℕ → List RevokedRow → KeyRow
row_with moment key has_point next revoked =
    if has_point
    then record key {
      next_serial = next + 1;
      number = key.number + 1;
      this_update = moment;
      revoked = revoked;
    }
    else record key { next_serial = next; revoked = revoked }

abbrev pub with_points : List KeyRow → List Bool → List (KeyRow × Bool)
with_points keys points = zip2 (λ key has_point. (key, has_point)) keys points

abbrev pub with_next : List KeyRow → List Bool → List ℕ → List ((KeyRow × Bool) × ℕ)
with_next keys points next = zip2 (λ key next. (key, next)) (with_points keys points) next

abbrev pub rows_with : ℕ → List KeyRow → List Bool → List ℕ → List (List RevokedRow) → List KeyRow
rows_with moment keys points next revoked =
    zip2 (λ key entries. row_with moment key.0.0 key.0.1 key.1 entries)
    (with_next keys points next) revoked

-- They are those of that trace.
pub record AreAfter
    (s : IssueInput) (trace : IssuingTrace) (moment : ℕ) (rows : List KeyRow) (points : List Bool)
    (next : List ℕ) (revoked : List (List RevokedRow)) : Type 0 where
  pub at : moment ≡ s.work.moment
  pub pointed : points ≡ map (has_point s trace.keys) rows
  pub behind : next ≡ map (serial_behind (all_of s trace)) rows
  pub entries : revoked ≡ map trace.entries rows
