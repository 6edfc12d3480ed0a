use Rattle.std.proofs.Common.{◌≡◌, ℕ, true, List, All, get_or, drop, length, sym, subst}
use Rattle.std.specs.Result.{IfOk, IfErr}
use Rattle.std.proofs.lemmas.Result.{IfOk-weaker, IfErr-weaker, err_from_is_err_and}
use Rattle.names.specs.Name.{IsName}
use Rattle.origins.specs.declared.Origin.{Origin}
use Rattle.authority_book.specs.declared.rows.NameRow.{NameRow}
use Rattle.key_roll.specs.declared.issued.IssuedRow.{IssuedRow}
use Rattle.cert_obj.specs.Values.{is_uri}
use Rattle.key_ids.specs.Uris.{Bases, anchor_uri, cert_uri}
use Rattle.issue_values.specs.Publishers.{roa_uri}
use Rattle.issue_drafts.specs.IssueInput.{IssueInput}
use Rattle.issue_make.specs.inner.Naming.{CanName}
use Rattle.issue_make.specs.CanMake.{input_with, CanMake}
use Rattle.issue_make.specs.Made.{IsMade, IsStop}
use Rattle.issue_make.proofs.Assembled.{is-made, are-ready}
use Rattle.issue_make.proofs.MakeStops.{stop-keys, stop-signing}
use Rattle.issue_make.proofs.making.make.Goals as goal

pub returns-in_err-keys-clause-stopped : goal.returns-in_err-keys-clause-stopped
returns-in_err-keys-clause-stopped g c =
    let a = c.args in
    let p = err_from_is_err_and c.from_residual.result c.from_residual.ensures.1 in
    rw (p.1, p.2)
    (stop-keys (input_with a.work.now a.names.now a.issued.now a.site.now) a.rows.now a.ring.now c.edition_keys.new.ring c.in_err-keys.field-0.0
    c.in_err-keys.ensures.stopped)

can-name : (site : Bases) (names : List NameRow) → is_uri (anchor_uri site) ≡ true
    → ((name key : List ℕ) → IsName name → is_uri (cert_uri site name key) ≡ true)
    → ((name : List ℕ) (origin : Origin) → IsName name → is_uri (roa_uri site name origin) ≡ true)
    → All (λ row. IsName row.name) names → All (λ row. CanName site row.name) names
can-name site names anchor certificate roa plain = λ k d low. record {
  anchor = anchor;
  certificate = λ key. certificate (get_or names k d).name key (plain k d low);
  roa = λ origin. roa (get_or names k d).name origin (plain k d low);
}

pub make_objects-requires : goal.make_objects-requires
make_objects-requires g c =
    let a = c.args in
    let s : IssueInput = record { work = a.work.now; names = a.names.now; issued = c.as_slice-issued.result.now; site = a.site.now } in
    let k = c.in_ok-keys.ensures in
    let n = c.can_be_named.ensures in
    let work : CanMake s a.rows.now (length a.ring.now) =
    subst (λ (l : List IssuedRow). CanMake (record { work = a.work.now; names = a.names.now; issued = l; site = a.site.now })
    a.rows.now (length a.ring.now)) (sym c.as_slice-issued.ensures) c.requires in (
      c.type_bounds.send-S,
      (
        c.type_bounds.sync-R,
        record {
          live = a.rows.now;
          ready = are-ready s a.rows.now c.in_ok-keys.keys.rows.items c.in_ok-keys.keys.first_fresh a.ring.now c.edition_keys.new.ring work
              c.edition_keys.ensures.signers k.inside k.kept k.made
              (can-name a.site.now a.names.now n.anchor n.certificate n.roa c.requires.plain);
        },
      ),
    )

pub returns-clause-made : goal.returns-clause-made
returns-clause-made g c =
    let a = c.args in
    let s : IssueInput = record { work = a.work.now; names = a.names.now; issued = c.as_slice-issued.result.now; site = a.site.now } in
    let keys = c.in_ok-keys.keys in
    let k = c.in_ok-keys.ensures in
    let n = c.can_be_named.ensures in
    let work : CanMake s a.rows.now (length a.ring.now) =
    subst (λ (l : List IssuedRow). CanMake (record { work = a.work.now; names = a.names.now; issued = l; site = a.site.now })
    a.rows.now (length a.ring.now)) (sym c.as_slice-issued.ensures) c.requires in
    subst (λ (l : List IssuedRow). IfOk c.make_objects.result
    (IsMade (record { work = a.work.now; names = a.names.now; issued = l; site = a.site.now }) a.rows.now a.ring.now c.make_objects.new.ring))
    c.as_slice-issued.ensures
    (IfOk-weaker c.make_objects.result _ _
    (λ made h.
    is-made s a.rows.now keys.rows.items keys.first_fresh a.ring.now c.edition_keys.new.ring c.make_objects.new.ring made k.made
    (h a.rows.now
    (are-ready s a.rows.now keys.rows.items keys.first_fresh a.ring.now c.edition_keys.new.ring work
    c.edition_keys.ensures.signers k.inside k.kept k.made
    (can-name a.site.now a.names.now n.anchor n.certificate n.roa c.requires.plain))))
    c.make_objects.ensures.made)

pub returns-clause-stopped : goal.returns-clause-stopped
returns-clause-stopped g c =
    let a = c.args in
    let s : IssueInput = record { work = a.work.now; names = a.names.now; issued = c.as_slice-issued.result.now; site = a.site.now } in
    let keys = c.in_ok-keys.keys in
    let k = c.in_ok-keys.ensures in
    let n = c.can_be_named.ensures in
    let work : CanMake s a.rows.now (length a.ring.now) =
    subst (λ (l : List IssuedRow). CanMake (record { work = a.work.now; names = a.names.now; issued = l; site = a.site.now })
    a.rows.now (length a.ring.now)) (sym c.as_slice-issued.ensures) c.requires in
    subst (λ (l : List IssuedRow). IfErr c.make_objects.result
    (IsStop (record { work = a.work.now; names = a.names.now; issued = l; site = a.site.now }) a.rows.now a.ring.now c.make_objects.new.ring))
    c.as_slice-issued.ensures
    (IfErr-weaker c.make_objects.result _ _
    (λ fault h.
    stop-signing s a.rows.now a.ring.now c.edition_keys.new.ring c.make_objects.new.ring (drop keys.first_fresh keys.rows.items) fault k.made
    (h a.rows.now
    (are-ready s a.rows.now keys.rows.items keys.first_fresh a.ring.now c.edition_keys.new.ring work
    c.edition_keys.ensures.signers k.inside k.kept k.made
    (can-name a.site.now a.names.now n.anchor n.certificate n.roa c.requires.plain))))
    c.make_objects.ensures.stopped)
