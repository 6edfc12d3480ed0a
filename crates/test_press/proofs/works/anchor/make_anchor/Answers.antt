use Rattle.std.proofs.Common.{List, [], length, sym, subst, ◌∙◌}
use Rattle.key_roll.specs.declared.rows.KeyRow.{KeyRow}
use Rattle.key_roll.specs.declared.issued.IssuedRow.{IssuedRow}
use Rattle.key_roll.specs.declared.work.Work.{Work}
use Rattle.issue_make.specs.CanMake.{CanMake}
use Rattle.test_press.specs.Anchor.{unused_rows}
use Rattle.test_press.proofs.AnchorFits.{anchor-is-work}
use Rattle.test_press.proofs.works.anchor.make_anchor.Goals as goal

pub make-requires : goal.make-requires
make-requires g c =
    let names = c.args.names.now in
    let site = c.args.site.now in
    let signers = length c.args.ring.now in (
      c.type_bounds.send-S,
      (
        c.type_bounds.sync-R,
        subst (λ (l : List KeyRow). CanMake (record { work = c.in_ok-work.work; names = names; issued = c.none.result; site = site }) l signers)
            (sym (c.deref.ensures.value ∙ c.in_ok-rows.ensures))
            (subst (λ (l : List IssuedRow). CanMake (record { work = c.in_ok-work.work; names = names; issued = l; site = site })
            (unused_rows c.args.live) signers) (sym c.none.ensures)
            (subst (λ (w : Work). CanMake (record { work = w; names = names; issued = []; site = site }) (unused_rows c.args.live) signers)
            (sym c.in_ok-work.ensures)
            (anchor-is-work c.args.moment c.in_ok-held.held c.args.origins.now names site c.args.live signers c.requires.moment
            c.requires.names c.requires.plain c.requires.signers c.requires.apart))),
      ),
    )
