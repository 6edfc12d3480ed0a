use Rattle.std.proofs.Common.{◌≡◌, List, Some, refl, sym, ap, subst, ◌∙◌}
use Rattle.std.specs.Prelude.{not, option_copied}
use Rattle.std.specs.List.{find}
use Rattle.pub_set.specs.Objects.{content_at}
use Rattle.pub_set.specs.declared.objects.Object.{Object}
use Rattle.rp_rules.specs.Certificates.{is_among}
use Rattle.rp_rules.specs.Walk.{visited, walk}
use Rattle.rp_rules.specs.Yield.{AuditedValue}
use Rattle.rp_rules.specs.Sound.{IsAuditOf}
use Rattle.rp_audit.specs.Audit.{asking}
use Rattle.rp_audit.proofs.Ending.{audit_none, unreached}
use Rattle.rp_audit.proofs.walking.audit.Goals as goal

pub returns-in-Some-clause-refused : goal.returns-in-Some-clause-refused
returns-in-Some-clause-refused g c =
    let s = asking c.args.ring.now c.args.anchor.now.bytes c.args.site.now c.args.moment in
    let objects : List Object = c.args.set.now in
    let told = c.in_ok-noted.ensures.1 in
    let first : find (λ x. not (is_among (visited told.visits) x.uri)) objects ≡ Some c.in-Some.object.now =
    subst (λ (os : List Object). find (λ x. not (is_among (visited told.visits) x.uri)) os ≡ Some c.in-Some.object.now) c.as_slice-objects.ensures.objects
    (sym (c.first_unseen.ensures (visited told.visits) told.uris) ∙ ap option_copied c.in-Some.is) in
    unreached s objects c.in_ok-noted.noted (walk s (content_at objects)) c.in-Some.object.now _ refl told first (sym (c.in_ok-uri.ensures ∙ c.as_str.ensures))

pub of_sound-requires : goal.of_sound-requires
of_sound-requires g c =
    let s = asking c.args.ring.now c.args.anchor.now.bytes c.args.site.now c.args.moment in ∣ (
      s,
      c.args.set.now,
      audit_none s c.args.set.now c.as_slice-objects.result.now c.in_ok-noted.noted (walk s (content_at c.args.set.now)) (option_copied c.first_unseen.result) c.as_slice-objects.ensures.ascending c.as_slice-objects.ensures.objects refl
          c.in_ok-noted.ensures.1 c.first_unseen.ensures (ap option_copied c.in_default.is),
    )
    ∣₁

pub returns-clause-sound : goal.returns-clause-sound
returns-clause-sound g c =
    let s = asking c.args.ring.now c.args.anchor.now.bytes c.args.site.now c.args.moment in
    subst (λ (a : AuditedValue). IsAuditOf s c.args.set.now a) (sym c.of_sound.ensures)
    (audit_none s c.args.set.now c.as_slice-objects.result.now c.in_ok-noted.noted (walk s (content_at c.args.set.now)) (option_copied c.first_unseen.result) c.as_slice-objects.ensures.ascending c.as_slice-objects.ensures.objects refl
    c.in_ok-noted.ensures.1 c.first_unseen.ensures (ap option_copied c.in_default.is))
