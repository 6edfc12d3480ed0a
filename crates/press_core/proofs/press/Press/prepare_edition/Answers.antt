use Rattle.std.proofs.Common.{◌≡◌, ℕ, ◌+◌, inl, inr, rules, sym, ap, subst, ◌∙◌}
use Rattle.std.specs.Prelude.{◌<◌, All, length, IfOk, IfErr}
use Rattle.std.proofs.lemmas.Result.{IfOk-weaker, err_from_is_err_and}
use Rattle.press_core.specs.Press.{PressValue}
use Rattle.entitle.specs.Certified.{names_of}
use Rattle.editions.specs.Clear.{IsClear}
use Rattle.issue_plan.specs.ByName.{StandByName}
use Rattle.editions.specs.Gathering.{configs_with, AreGathered, AreAccepted}
use Rattle.editions.specs.PublishedState.{PublishedStateValue}
use Rattle.press_core.specs.PrepareInput.{started, start_of}
use Rattle.press_core.specs.Planned.{IsPrepared}
use Rattle.press_core.specs.Follows.{IsNextEdition}
use Rattle.press_core.specs.Faults.{IsShort, IsPressFault}
use Rattle.press_core.specs.Staged.{HasStages}
use Rattle.press_core.specs.Next.{NextValue}
use Rattle.press_core.proofs.press.Press.prepare_edition.Goals as goal

pub prepare_over-requires-clause-current : goal.prepare_over-requires-clause-current
prepare_over-requires-clause-current g c = λ lifetimes lives. sym (c.deref.ensures ∙ c.in_ok-at.ensures)

pub prepare_over-requires-clause-clear : goal.prepare_over-requires-clause-clear
prepare_over-requires-clause-clear g c = λ lifetimes lives.
    subst (λ (at : PublishedStateValue). IsClear c.self.inside.site at.rows at.issued) (sym (c.deref.ensures ∙ c.in_ok-at.ensures)) c.self.invariant.0.0

pub prepare_over-requires-clause-staged : goal.prepare_over-requires-clause-staged
prepare_over-requires-clause-staged g c = λ lifetimes lives.
    subst (λ (at : PublishedStateValue). HasStages at) (sym (c.deref.ensures ∙ c.in_ok-at.ensures)) c.self.invariant.0.1

pub prepare_over-requires-clause-stand : goal.prepare_over-requires-clause-stand
prepare_over-requires-clause-stand g c = λ lifetimes lives known.
    subst (λ (at : PublishedStateValue). StandByName c.self.inside.site at.issued) (sym (c.deref.ensures ∙ c.in_ok-at.ensures))
    (c.self.invariant.0.2 known)

pub prepare_over-requires-clause-gathered : goal.prepare_over-requires-clause-gathered
prepare_over-requires-clause-gathered g c = λ lifetimes lives.
    subst (λ (at : PublishedStateValue). AreGathered at.cut c.args.gathered.items) (sym (c.deref.ensures ∙ c.in_ok-at.ensures))
    (subst (λ (press : PressValue). AreGathered press.at.cut c.args.gathered.items) (sym c.self.view_is) c.requires.gathered)

pub prepare_over-requires-clause-accepted : goal.prepare_over-requires-clause-accepted
prepare_over-requires-clause-accepted g c = λ lifetimes lives.
    subst (λ (at : PublishedStateValue). AreAccepted at.configs c.args.gathered.items) (sym (c.deref.ensures ∙ c.in_ok-at.ensures))
    (subst (λ (press : PressValue). AreAccepted press.at.configs c.args.gathered.items) (sym c.self.view_is) c.requires.accepted)

pub prepare_over-requires-clause-live_signers : goal.prepare_over-requires-clause-live_signers
prepare_over-requires-clause-live_signers g c = λ lifetimes lives.
    subst (λ (at : PublishedStateValue). All (λ row. row.signer < length c.self.inside.ring) at.rows) (sym (c.deref.ensures ∙ c.in_ok-at.ensures))
    (subst (λ (press : PressValue). All (λ row. row.signer < length press.ring) press.at.rows) (sym c.self.view_is) c.requires.live_signers)

pub prepare_over-requires-clause-name_signers : goal.prepare_over-requires-clause-name_signers
prepare_over-requires-clause-name_signers g c = λ lifetimes lives.
    subst (λ (at : PublishedStateValue). All (λ name. name.signer < length c.self.inside.ring) (names_of (configs_with at.configs c.args.gathered.items)))
    (sym (c.deref.ensures ∙ c.in_ok-at.ensures))
    (subst (λ (press : PressValue). All (λ name. name.signer < length press.ring) (names_of (configs_with press.at.configs c.args.gathered.items)))
    (sym c.self.view_is) c.requires.name_signers)

pub returns-in_err-at-clause-refused : goal.returns-in_err-at-clause-refused
returns-in_err-at-clause-refused g c =
    let p = err_from_is_err_and c.from_residual.result c.from_residual.ensures.1 in
    rw (p.1, p.2) (inl (search rules))

pub returns-clause-refused : goal.returns-clause-refused
returns-clause-refused g c =
    let ring = c.prepare_over.new.ring in
    subst (λ (press : PressValue). IfErr c.prepare_over.result (IsPressFault (start_of press c.args.now c.args.gathered.items) ring)) c.self.view_is
    (subst (λ (at : PublishedStateValue). IfErr c.prepare_over.result (IsPressFault (started c.self.inside.site at c.self.inside.ring c.args.now c.args.gathered.items) ring))
    (c.deref.ensures ∙ c.in_ok-at.ensures) c.prepare_over.ensures.refused)

pub returns-clause-prepared : goal.returns-clause-prepared
returns-clause-prepared g c =
    let start = start_of c.args.self.now c.args.now c.args.gathered.items in
    let ring = c.prepare_over.new.ring in
    IfOk-weaker c.prepare_over.result (IsPrepared start ring) (IsNextEdition start ring) (λ prepared is. record {
      is_prepared = is;
      incremental = c.prepared_editions_put_what_is_unfit.ensures start ring prepared is;
      left = c.prepared_editions_leave.ensures start ring prepared is;
      follows = c.prepared_editions_follow.ensures start ring prepared is;
      published = λ premises editions behind. c.prepared_editions_are_published.ensures start ring prepared premises editions is
          (c.prepared_editions_follow.ensures start ring prepared is premises editions behind);
    })
    (subst (λ (press : PressValue). IfOk c.prepare_over.result (IsPrepared (start_of press c.args.now c.args.gathered.items) ring)) c.self.view_is (subst (λ (at : PublishedStateValue). IfOk c.prepare_over.result (IsPrepared (started c.self.inside.site at c.self.inside.ring c.args.now c.args.gathered.items) ring)) (c.deref.ensures ∙ c.in_ok-at.ensures) c.prepare_over.ensures.prepared))

pub returns-clause-serial : goal.returns-clause-serial
returns-clause-serial g c =
    let start = start_of c.args.self.now c.args.now c.args.gathered.items in
    let ring = c.prepare_over.new.ring in
    let counted : c.args.self.now.rrdp.serial ≡ c.args.self.now.at.serial =
    subst (λ (press : PressValue). press.rrdp.serial ≡ press.at.serial) c.self.view_is c.self.invariant.1 in
    IfOk-weaker c.prepare_over.result (IsPrepared start ring) (λ (edition : NextValue). edition.next.serial ≡ c.args.self.now.rrdp.serial + 1)
    (λ edition is. is.next.serial ∙ ap (λ (n : ℕ). n + 1) (sym counted))
    (subst (λ (press : PressValue). IfOk c.prepare_over.result (IsPrepared (start_of press c.args.now c.args.gathered.items) ring)) c.self.view_is (subst (λ (at : PublishedStateValue). IfOk c.prepare_over.result (IsPrepared (started c.self.inside.site at c.self.inside.ring c.args.now c.args.gathered.items) ring)) (c.deref.ensures ∙ c.in_ok-at.ensures) c.prepare_over.ensures.prepared))

pub returns-clause-short : goal.returns-clause-short
returns-clause-short g c =
    let start = start_of c.args.self.now c.args.now c.args.gathered.items in
    let ring = c.prepare_over.new.ring in
    IfOk-weaker c.prepare_over.result (IsPrepared start ring) (λ (edition : NextValue). IsShort start ring)
    (λ edition is. record { work = is.made.work; planned = is.made.planned; out = inr (is.made.made, is.made.is_made) })
    (subst (λ (press : PressValue). IfOk c.prepare_over.result (IsPrepared (start_of press c.args.now c.args.gathered.items) ring)) c.self.view_is (subst (λ (at : PublishedStateValue). IfOk c.prepare_over.result (IsPrepared (started c.self.inside.site at c.self.inside.ring c.args.now c.args.gathered.items) ring)) (c.deref.ensures ∙ c.in_ok-at.ensures) c.prepare_over.ensures.prepared))
