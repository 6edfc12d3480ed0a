-- Sound sets: the walk refuses no object and visits each (RFC 6487 section 7.2, RFC 9286 section
-- 6).
use Rattle.std.specs.Prelude.{◌≡◌, ℕ, Bool, true, not, List, length, Some, Ok, Err}
use Rattle.std.specs.List.{list_all, find}
use Rattle.pub_set.specs.declared.objects.Object.{Object}
use Rattle.pub_set.specs.Objects.{content_at, IsAscending}
use Rattle.rp_rules.specs.declared.rules.Rule.{Rule}
use Rattle.rp_rules.specs.Certificates.{WalkContext, is_among}
use Rattle.rp_rules.specs.Walk.{Visit, visited, walk}
use Rattle.rp_rules.specs.Yield.{AuditedValue, yield, points}

abbrev pub is_visited : List Visit → Object → Bool
is_visited visits o = is_among (visited visits) o.uri

-- A sound set, and what is visited in it.
pub record IsSoundBy (s : WalkContext) (objects : List Object) (visits : List Visit) : Type 0 where
  pub walk : walk s (content_at objects) ≡ Ok visits
  pub all : list_all (is_visited visits) objects ≡ true

abbrev pub IsSound : WalkContext → List Object → Type 0
IsSound s objects = (visits : List Visit) × IsSoundBy s objects visits

-- The first refusal of the walk.
abbrev pub IsRefused : WalkContext → List Object → List ℕ → Rule → Type 0
IsRefused s objects uri rule =
    walk s (content_at objects) ≡ Err (record { uri = uri; rule = rule })

-- Nothing is refused, and this is the first URI that isn't visited. It is the least, since the
-- objects of a set stand by rising URI.
pub record IsUnreached (s : WalkContext) (objects : List Object) (uri : List ℕ) : Type 0 where
  pub visits : List Visit
  pub walk : walk s (content_at objects) ≡ Ok visits
  pub object : Object
  pub first : find (λ o. not (is_visited visits o)) objects ≡ Some object
  pub place : object.uri ≡ uri

-- ---- what is told of a sound set

-- This is the yield, these are the points, and so many objects has the set, which is sound.
pub record IsAuditOf (s : WalkContext) (objects : List Object) (audited : AuditedValue)
    : Type 0 where
  pub set : IsAscending objects
  pub visits : List Visit
  pub sound : IsSoundBy s objects visits
  pub origins : audited.origins ≡ yield visits
  pub points : audited.points ≡ points (content_at objects) visits
  pub count : audited.objects ≡ length objects

-- They are told of some set that is sound in some context. Which these are, `IsAuditOf` says.
abbrev pub IsAudit : AuditedValue → Type 0
IsAudit audited = ∥ ((s : WalkContext) × (objects : List Object) × IsAuditOf s objects audited) ∥₁
