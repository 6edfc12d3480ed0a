-- What is noted of a walk.
use Rattle.std.specs.Prelude.{◌≡◌, ℕ, zero, suc, List, [], ◌∷◌, ◌++◌, Ok}
use Rattle.std.specs.BTreeSet.{contains_text}
use Rattle.pub_set.specs.Changes.{Contents}
use Rattle.payloads.specs.ManifestFormats.{this_update_of}
use Rattle.rp_rules.specs.Checks.{Checked, ◌>>=◌}
use Rattle.rp_rules.specs.Authorities.{listed_uri}
use Rattle.rp_rules.specs.Points.{Point, accepted_roa}
use Rattle.rp_rules.specs.Certificates.{WalkContext, File, is_among, accepted_authority}
use Rattle.rp_rules.specs.Walk.{Visit, Certificate, Route, Below, visited}
use Rattle.rp_rules.specs.Yield.{PointValue, yield, points, listed_serial, greatest_serial}
use Rattle.rp_rules.specs.Views.{yielded_values, point_values}
use Rattle.rp_audit.specs.declared.visited_uris.VisitedUris.{VisitedUris}
use Rattle.rp_audit.specs.declared.noted.Noted.{Noted}

-- Just these URIs were seen.
abbrev pub Sees : List (List ℕ) → VisitedUris → Type 0
Sees uris visited_uris = (uri : List ℕ) → contains_text visited_uris.uris uri ≡ is_among uris uri

-- What was accepted further is noted.
pub record Notes (held : Contents) (visits added : List Visit) (old new : Noted) : Type 0 where
  pub uris : Sees (visited visits) old.visited_uris → Sees
      (visited (visits ++ added)) new.visited_uris
  pub yielded : yielded_values new.origins.items ≡ yielded_values old.origins.items ++ yield added
  pub listed : point_values new.points.items ≡ point_values old.points.items ++ points held added

-- The walk goes on behind what was visited, and that is noted.
pub record WalkContinues (held : Contents) (visits : List Visit) (old new : Noted)
    (m : Checked (List Visit)) : Type 0 where
  pub added : List Visit
  pub comes : m ≡ Ok (visits ++ added)
  pub notes : Notes held visits added old new

-- A listed file is visited, whose certificate has that serial.
pub record VisitsFile (held : Contents) (p : Point) (file : File) (visits : List Visit)
    (old new : Noted) (serial : ℕ) (m : Checked (List Visit)) : Type 0 where
  pub goes : WalkContinues held visits old new m
  pub told : serial ≡ listed_serial held p file

-- The files of a point are visited, under whose key that is the greatest serial.
pub record VisitsFiles (held : Contents) (p : Point) (visits : List Visit) (old new : Noted)
    (serial : ℕ) (m : Checked (List Visit)) : Type 0 where
  pub goes : WalkContinues held visits old new m
  pub told : serial ≡ greatest_serial held p

-- The whole walk is noted.
pub record IsWalk (held : Contents) (noted : Noted) (m : Checked (List Visit)) : Type 0 where
  pub visits : List Visit
  pub comes : m ≡ Ok visits
  pub uris : Sees (visited visits) noted.visited_uris
  pub yielded : yielded_values noted.origins.items ≡ yield visits
  pub listed : point_values noted.points.items ≡ points held visits

-- A point whose greatest serial isn't known yet.
abbrev pub open_point : Point → PointValue
open_point p = record {
  key = p.authority.cert.key;
  number = p.crl.number;
  this_update = p.crl.this_update;
  manifest_update = this_update_of p.manifest.body;
  greatest_serial = 0;
  crl = p.crl.entries;
}

-- That of the point at a place is this.
abbrev pub closed : ℕ → ℕ → List PointValue → List PointValue
closed place serial [] = []
closed zero serial (p ∷ points) = record p { greatest_serial = serial } ∷ points
closed (suc place) serial (p ∷ points) = p ∷ closed place serial points

-- The two kinds of files below a point.
abbrev pub visit_authority : WalkContext → Contents → Below → Point → File → List Visit
    → Checked (List Visit)
visit_authority s held below p file visits =
    accepted_authority s held p.authority p.crl.entries (visited visits) file >>= (λ child.
    below child (visits ++ Certificate child ∷ []))

abbrev pub visit_roa : WalkContext → Contents → Point → File → List Visit → Checked (List Visit)
visit_roa s held p file visits =
    accepted_roa s held p (visited visits) file >>= (λ roa.
    Ok (visits ++ Route p.authority (listed_uri p.authority file.0) roa ∷ []))
