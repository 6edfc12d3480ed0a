use Rattle.std.proofs.Common.{ℕ, false, List, inl, sym, ap, ◌∙◌, refl}
use Rattle.std.proofs.lemmas.Result.{err_from_is_err_and, IfOk-weaker, IfErr-weaker}
use Rattle.issue_plan.specs.Keys.{next_keys}
use Rattle.editions.specs.PublishedState.{PublishedStateValue}
use Rattle.editions.specs.Calling.{is_called_for}
use Rattle.press_core.specs.PrepareInput.{started}
use Rattle.press_core.specs.inner.Ready.{basis_over}
use Rattle.press_core.proofs.Readied.{leads, called-of, is-ready}
use Rattle.press_core.proofs.preparing.prepare_over.Goals as goal

pub returns-in_err-moment-clause-refused : goal.returns-in_err-moment-clause-refused
returns-in_err-moment-clause-refused g c =
    let p = err_from_is_err_and c.from_residual.result c.from_residual.ensures.1 in
    rw (p.1, p.2) (c.in_err-moment.ensures.refused c.args.site.now c.args.ring.now c.args.gathered.items)

pub returns-then-not-is_called_for-clause-refused : goal.returns-then-not-is_called_for-clause-refused
returns-then-not-is_called_for-clause-refused g c =
    let at = c.args.at.now in
    let start = started c.args.site.now at c.args.ring.now c.args.now c.args.gathered.items in
    let setup = c.in_ok-setup.setup in
    let work = c.in_ok-work.work in
    let plan = c.in_ok-work.ensures in
    let set_up = c.in_ok-setup.ensures.set_up c.args.site.now c.args.ring.now c.args.now c.in_ok-moment.ensures.moment in
    let nexts = next_keys (basis_over at setup) in
    let answer = c.is_called_for.ensures nexts (leads at setup c.args.site.now work plan) ∙ ap (λ (cut : List ℕ). is_called_for at cut work.moment nexts) c.as_slice.ensures.value in (
      record {
        told = ap (λ (v : PublishedStateValue). v.serial) c.parts-parts.ensures.parts;
        in_range = c.in_ok-moment.ensures.in_range;
        sets = setup.tree.sets.items;
        called = called-of start setup work false set_up c.in_ok-setup.ensures.certified plan (sym c.if-not-is_called_for.true ∙ answer);
      },
      c.new.ensures,
      refl,
    )

pub make_edition-requires-clause-ready : goal.make_edition-requires-clause-ready
make_edition-requires-clause-ready g c = λ lifetimes lives.
    let at = c.args.at.now in
    let start = started c.args.site.now at c.args.ring.now c.args.now c.args.gathered.items in
    let setup = c.in_ok-setup.setup in
    let work = c.in_ok-work.work in
    let plan = c.in_ok-work.ensures in
    let set_up = c.in_ok-setup.ensures.set_up c.args.site.now c.args.ring.now c.args.now c.in_ok-moment.ensures.moment in
    let nexts = next_keys (basis_over at setup) in
    let answer = c.is_called_for.ensures nexts (leads at setup c.args.site.now work plan) ∙ ap (λ (cut : List ℕ). is_called_for at cut work.moment nexts) c.as_slice.ensures.value in record {
      clock = c.args.now;
      gathered = c.args.gathered.items;
      ready = is-ready start setup work (record {
        kept = c.parts-parts.ensures.kept;
        clear = c.requires.clear;
        staged = c.requires.staged;
        live_signers = c.requires.live_signers;
        name_signers = c.requires.name_signers;
      }) c.in_ok-moment.ensures.in_range set_up c.in_ok-setup.ensures.certified c.in_ok-setup.ensures.owes plan (sym c.if-not-is_called_for.false ∙ answer);
    }

pub returns-clause-prepared : goal.returns-clause-prepared
returns-clause-prepared g c =
    let at = c.args.at.now in
    let start = started c.args.site.now at c.args.ring.now c.args.now c.args.gathered.items in
    let setup = c.in_ok-setup.setup in
    let work = c.in_ok-work.work in
    let plan = c.in_ok-work.ensures in
    let set_up = c.in_ok-setup.ensures.set_up c.args.site.now c.args.ring.now c.args.now c.in_ok-moment.ensures.moment in
    let nexts = next_keys (basis_over at setup) in
    let answer = c.is_called_for.ensures nexts (leads at setup c.args.site.now work plan) ∙ ap (λ (cut : List ℕ). is_called_for at cut work.moment nexts) c.as_slice.ensures.value in
    let ready = is-ready start setup work (record {
      kept = c.parts-parts.ensures.kept;
      clear = c.requires.clear;
      staged = c.requires.staged;
      live_signers = c.requires.live_signers;
      name_signers = c.requires.name_signers;
    }) c.in_ok-moment.ensures.in_range set_up c.in_ok-setup.ensures.certified c.in_ok-setup.ensures.owes plan (sym c.if-not-is_called_for.false ∙ answer) in
    IfOk-weaker c.make_edition.result _ _ (λ prepared is. is c.args.gathered.items ready) c.make_edition.ensures.prepared

pub returns-clause-refused : goal.returns-clause-refused
returns-clause-refused g c =
    let at = c.args.at.now in
    let start = started c.args.site.now at c.args.ring.now c.args.now c.args.gathered.items in
    let setup = c.in_ok-setup.setup in
    let work = c.in_ok-work.work in
    let plan = c.in_ok-work.ensures in
    let set_up = c.in_ok-setup.ensures.set_up c.args.site.now c.args.ring.now c.args.now c.in_ok-moment.ensures.moment in
    let nexts = next_keys (basis_over at setup) in
    let answer = c.is_called_for.ensures nexts (leads at setup c.args.site.now work plan) ∙ ap (λ (cut : List ℕ). is_called_for at cut work.moment nexts) c.as_slice.ensures.value in
    let ready = is-ready start setup work (record {
      kept = c.parts-parts.ensures.kept;
      clear = c.requires.clear;
      staged = c.requires.staged;
      live_signers = c.requires.live_signers;
      name_signers = c.requires.name_signers;
    }) c.in_ok-moment.ensures.in_range set_up c.in_ok-setup.ensures.certified c.in_ok-setup.ensures.owes plan (sym c.if-not-is_called_for.false ∙ answer) in
    IfErr-weaker c.make_edition.result _ _ (λ fault is. is c.args.gathered.items ready) c.make_edition.ensures.refused

pub returns-in_err-setup-clause-refused : goal.returns-in_err-setup-clause-refused
returns-in_err-setup-clause-refused g c =
    let p = err_from_is_err_and c.from_residual-in_err-setup.result c.from_residual-in_err-setup.ensures.1 in
    rw (p.1, p.2) (inl refl)

pub returns-in_err-work-clause-refused : goal.returns-in_err-work-clause-refused
returns-in_err-work-clause-refused g c =
    let p = err_from_is_err_and c.from_residual-in_err-work.result c.from_residual-in_err-work.ensures.1 in
    rw (p.1, p.2) (inl refl)
