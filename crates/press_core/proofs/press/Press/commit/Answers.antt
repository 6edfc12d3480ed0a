use Rattle.std.proofs.Common.{◌≡◌, ◌∙◌, sym, ap, subst, arith}
use Rattle.rrdp_state.specs.declared.next.NextDelta.{NextDelta}
use Rattle.editions.specs.PublishedState.{PublishedStateValue}
use Rattle.editions.specs.Clear.{IsClear}
use Rattle.issue_plan.specs.ByName.{StandByName}
use Rattle.press_core.specs.Next.{NextValue, IsNext}
use Rattle.press_core.specs.Press.{PressValue}
use Rattle.press_core.specs.Staged.{HasStages}
use Rattle.press_core.proofs.FilesNext.{files_then, set_next}
use Rattle.press_core.proofs.press.Press.commit.Goals as goal

pub invariant_of-self : goal.invariant_of-self
invariant_of-self g c =
    let prepared = c.args.prepared.edition in
    let site = c.self.inside.site in
    let next = c.into_next-next.ensures.next ∙ ap (λ (edition : NextValue). edition.next) c.into_parts-edition.ensures.edition in
    let is : IsNext site c.self.inside.at prepared =
    subst (λ (press : PressValue). IsNext press.site press.at prepared) (sym c.self.view_is) c.requires.next in
    let counted = is.serial in
    let stages : HasStages prepared.next =
    record { none = λ (zero : prepared.next.serial ≡ 0). absurd (omega (arith, zero, counted)); staged = λ some. is.staged } in
    let delta = c.into_parts-edition.ensures.delta ∙ c.requires.delta in (
      (
        subst (λ (at : PublishedStateValue). IsClear site at.rows at.issued) (sym next) is.clear,
        subst (λ (at : PublishedStateValue). HasStages at) (sym next) stages,
        λ known. subst (λ (at : PublishedStateValue). StandByName site at.issued) (sym next) (is.by_name (c.self.invariant.0.2 known)),
      ),
      c.advance.ensures.serial ∙ (ap (λ (d : NextDelta). d.serial) delta ∙ ap (λ (at : PublishedStateValue). at.serial) (sym next)),
    )

pub returns-clause-files : goal.returns-clause-files
returns-clause-files g c = λ lists editions left has.
    let next = c.into_next-next.ensures.next ∙ ap (λ (edition : NextValue). edition.next) c.into_parts-edition.ensures.edition in
    let set = ap (λ (at : PublishedStateValue). at.set) next in
    record {
      kept = files_then c.same_contents_same_set.ensures _ _ c.args.prepared.edition _ _ _ c.self.view_is c.self.invariant.1 c.requires.next
          (c.into_parts-edition.ensures.delta ∙ c.requires.delta) (ap (λ (at : PublishedStateValue). at.set) (c.parts.ensures.parts ∙ c.state-2.ensures) ∙ set)
          c.advance.ensures.stands c.advance.ensures.session lists editions left has;
      set = set ∙ set_next c.same_contents_same_set.ensures lists editions c.args.self.now c.args.prepared.edition left c.requires.next;
    }
