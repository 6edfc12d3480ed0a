-- What an audit answers at its end.
use Rattle.std.proofs.Common.{◌≡◌, ℕ, List, [], ◌∷◌, Bool, true, false, Option, None, Some, Result, Ok, Err, length, refl, sym, ap, subst, ◌∙◌}
use Rattle.std.specs.Prelude.{string_bytes, not}
use Rattle.std.specs.List.{find}
use Rattle.signer_api.specs.State.{SignerState}
use Rattle.pub_set.specs.declared.objects.Object.{Object}
use Rattle.pub_set.specs.Objects.{content_at, IsAscending}
use Rattle.rp_rules.specs.Checks.{Checked}
use Rattle.rp_rules.specs.Certificates.{WalkContext, is_among}
use Rattle.rp_rules.specs.Walk.{Visit, visited, walk}
use Rattle.rp_rules.specs.Yield.{AuditedValue}
use Rattle.rp_rules.specs.Views.{yielded_values, point_values}
use Rattle.rp_rules.specs.Sound.{IsSoundBy, IsUnreached, IsAuditOf, IsAudit}
use Rattle.rp_audit.specs.declared.refusal.AuditRefused.{AuditRefused}
use Rattle.rp_audit.specs.declared.refusal.AuditRefused.TheVariants.{Refused, Unreached, SignerFault, Memory}
use Rattle.rp_audit.specs.declared.noted.Noted.{Noted}
use Rattle.rp_audit.specs.Audit.{IsTold, Asks}
use Rattle.rp_audit.specs.inner.Told.{Answers}
use Rattle.rp_audit.specs.inner.Noted.{Sees, IsWalk}
use Rattle.rp_audit.proofs.FileSteps.{all_among}

pub told_refused : {A : Type 0} (P : A → Checked (List Visit) → Type 0) (s : WalkContext) (objects : List Object) (m : List SignerState → Checked (List Visit)) (old new : List SignerState) (e : AuditRefused)
    → m old ≡ walk s (content_at objects) → Answers P m (Err e) old new → IsTold old s objects e
told_refused P s objects m old new (Refused uri rule) same told = λ all. sym same ∙ told.1 all
told_refused P s objects m old new (Unreached uri) same told = absurd told
told_refused P s objects m old new (SignerFault n) same told = tt
told_refused P s objects m old new Memory same told = tt

pub asked_refused : {A : Type 0} (P : A → Checked (List Visit) → Type 0) (m : List SignerState → Checked (List Visit)) (old new : List SignerState) (e : AuditRefused) → Answers P m (Err e) old new → Asks (Err e) old new
asked_refused P m old new (Refused uri rule) told = told.0
asked_refused P m old new (Unreached uri) told = absurd told
asked_refused P m old new (SignerFault n) told = told
asked_refused P m old new Memory told = told

pub memory_told : (old : List SignerState) (s : WalkContext) (objects : List Object) (e : AuditRefused) → e ≡ Memory → IsTold old s objects e
memory_told old s objects (Refused uri rule) is = absurd cc
memory_told old s objects (Unreached uri) is = absurd cc
memory_told old s objects (SignerFault n) is = tt
memory_told old s objects Memory is = tt

pub memory_asked : (old new : List SignerState) (e : AuditRefused) → e ≡ Memory → new ≡ old → Asks (Err e) old new
memory_asked old new (Refused uri rule) is same = same
memory_asked old new (Unreached uri) is same = same
memory_asked old new (SignerFault n) is same = absurd cc
memory_asked old new Memory is same = same

-- The walk visits each object.
pub audit_of : (s : WalkContext) (objects : List Object) (noted : Noted) (count : ℕ) (m : Checked (List Visit)) → IsAscending objects → m ≡ walk s (content_at objects) → (w : IsWalk (content_at objects) noted m)
    → find (λ o. not (is_among (visited w.visits) o.uri)) objects ≡ None → count ≡ length objects
    → IsAuditOf s objects (record { origins = yielded_values noted.origins.items; points = point_values noted.points.items; objects = count })
audit_of s objects noted count m set same w none many = record {
  set = set;
  visits = w.visits;
  sound = record { walk = sym same ∙ w.comes; all = all_among (visited w.visits) objects none };
  origins = w.yielded;
  points = w.listed;
  count = many;
}

-- The same, by a search of a list of them that found none.
pub audit_none : (s : WalkContext) (objects listed : List Object) (noted : Noted) (m : Checked (List Visit)) (first : Option Object) → IsAscending objects → listed ≡ objects → m ≡ walk s (content_at objects) → IsWalk (content_at objects) noted m
    → ((uris : List (List ℕ)) → Sees uris noted.visited_uris → first ≡ find (λ o. not (is_among uris o.uri)) listed) → first ≡ None
    → IsAuditOf s objects (record { origins = yielded_values noted.origins.items; points = point_values noted.points.items; objects = length listed })
audit_none s objects listed noted m first set all same w search_ empty =
    let none : find (λ o. not (is_among (visited w.visits) o.uri)) objects ≡ None =
    subst (λ (os : List Object). find (λ o. not (is_among (visited w.visits) o.uri)) os ≡ None) all (sym (search_ (visited w.visits) w.uris) ∙ empty) in
    audit_of s objects noted (length listed) m set same w none (ap (λ (os : List Object). length os) all)

pub unreached : (s : WalkContext) (objects : List Object) (held : Noted) (m : Checked (List Visit)) (o : Object) (uri : List ℕ) → m ≡ walk s (content_at objects) → (w : IsWalk (content_at objects) held m)
    → find (λ x. not (is_among (visited w.visits) x.uri)) objects ≡ Some o → o.uri ≡ uri → IsUnreached s objects uri
unreached s objects held m o uri same w first at = record {
  visits = w.visits;
  walk = sym same ∙ w.comes;
  object = o;
  first = first;
  place = at;
}
