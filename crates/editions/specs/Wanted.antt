-- All that an edition wants of its live keys, and what of it is made anew.
use Rattle.std.specs.Prelude.{List, [], ◌++◌, map, filter, Bool, not}
use Rattle.key_roll.specs.declared.rows.KeyRow.{KeyRow}
use Rattle.key_roll.specs.declared.work.CertWork.{CertWork}
use Rattle.key_roll.specs.declared.work.RoaWork.{RoaWork}
use Rattle.key_roll.specs.declared.work.PointWork.{PointWork}
use Rattle.entitle.specs.Certified.{names_of}
use Rattle.issue_plan.specs.Keys.{kept}
use Rattle.issue_plan.specs.Fits.{fits}
use Rattle.issue_plan.specs.Wanted.{PlanInput, Certificate, Roa, Point, point_of}
use Rattle.issue_plan.specs.Wanted.{wanted_certificates, wanted_roas, wanted_points}
use Rattle.issue_drafts.specs.WorkKeys.{Keys}
use Rattle.issue_drafts.specs.IssueInput.{IssueInput}
use Rattle.issue_drafts.specs.Drafts.{Draft, drafts, manifests}

-- Keys that are all there, and named by their identifiers.
abbrev pub there : List KeyRow → Keys
there keys = record { kept = keys; fresh = [] }

abbrev pub all_certificates : PlanInput → List KeyRow → List CertWork
all_certificates plan_input keys =
    wanted_certificates plan_input.basis.configs plan_input.basis.sets (map kept keys)

abbrev pub all_roas : PlanInput → List KeyRow → List RoaWork
all_roas plan_input keys = wanted_roas (map kept keys) plan_input.owed

abbrev pub all_points : List KeyRow → List PointWork
all_points keys = wanted_points (map kept keys)

-- The making of these objects at the edition's moment.
abbrev pub making :
    PlanInput → List CertWork → List RoaWork → List PointWork → IssueInput
making plan_input certs roas points = record {
  work = record {
    moment = plan_input.basis.moment;
    new_keys = [];
    roles = [];
    certs = certs;
    roas = roas;
    points = points;
    withdrawn = [];
    dropped = [];
  };
  names = names_of plan_input.basis.configs;
  issued = plan_input.issued;
  site = plan_input.site;
}

-- All that is wanted for these keys.
abbrev pub whole : PlanInput → List KeyRow → IssueInput
whole plan_input keys =
    making plan_input (all_certificates plan_input keys) (all_roas plan_input keys)
    (all_points keys)

-- ---- what of it stays

-- Whether the certificate that stands serves for the one that is wanted.
abbrev pub keeps_certificate : PlanInput → List KeyRow → CertWork → Bool
keeps_certificate plan_input keys cert = fits plan_input (Certificate cert)

abbrev pub keeps_roa : PlanInput → List KeyRow → RoaWork → Bool
keeps_roa plan_input keys roa = fits plan_input (Roa roa)

-- Whether the key's CRL and manifest stay, which are judged together.
abbrev pub keeps_point : PlanInput → List KeyRow → KeyRow → Bool
keeps_point plan_input keys key = fits plan_input (Point (point_of (kept key)))

-- ---- what of it is new

abbrev pub new_certificates : PlanInput → List KeyRow → List CertWork
new_certificates plan_input keys =
    filter (λ cert. not (keeps_certificate plan_input keys cert))
    (all_certificates plan_input keys)

abbrev pub new_roas : PlanInput → List KeyRow → List RoaWork
new_roas plan_input keys =
    filter (λ roa. not (keeps_roa plan_input keys roa)) (all_roas plan_input keys)

abbrev pub new_points : PlanInput → List KeyRow → List PointWork
new_points plan_input keys =
    map (λ key. point_of (kept key)) (filter (λ key. not (keeps_point plan_input keys key)) keys)

-- What doesn't stay as it is.
abbrev pub anew : PlanInput → List KeyRow → IssueInput
anew plan_input keys = making plan_input
    (new_certificates plan_input keys) (new_roas plan_input keys) (new_points plan_input keys)

-- ---- objects

-- The objects that are wanted, each with its place and its issuer.
abbrev pub all_objects : PlanInput → List KeyRow → List Draft
all_objects plan_input keys =
    drafts (whole plan_input keys) (there keys) ++ manifests (whole plan_input keys) (there keys)

-- Those that are made anew, but for manifests: these take the next serials of their keys.
abbrev pub new_objects : PlanInput → List KeyRow → List Draft
new_objects plan_input keys = drafts (anew plan_input keys) (there keys)
