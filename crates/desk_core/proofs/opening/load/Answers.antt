use Rattle.std.proofs.Common.{◌≡◌, Err, Result, ℕ, List, IfErr, IfSome, sym, ◌∙◌, ap, subst, rules}
use Rattle.gate_journal.specs.Format.{payloads}
use Rattle.gate_journal.specs.View.{View}
use Rattle.desk_core.specs.Commands.{IsFirstBad}
use Rattle.desk_core.specs.inner.Kept.{IsLoaded}
use Rattle.desk_core.specs.declared.opening.Loaded.{Loaded}
use Rattle.desk_core.specs.declared.faults.DeskOpenFault.{DeskOpenFault}
use Rattle.desk_core.specs.declared.faults.DeskOpenFault.TheVariants.{BadRecord}
use Rattle.desk_core.proofs.Loading.{known_payloads, bad_known}
use Rattle.desk_core.proofs.opening.load.Goals as goal

pub returns-in_err-config-clause-bad : goal.returns-in_err-config-clause-bad
returns-in_err-config-clause-bad g c =
    let journal = c.args.journal.now in
    let body = c.in_ok-body.body.items in
    let fault = c.in_err-config.field-0.0 in
    let is : c.from_residual-in_err-config.result ≡ Err fault = search rules in
    let same : payloads c.body.new.self.sizes c.as_slice.result.now ≡ payloads journal.sizes body =
    ap (λ (v : View _). payloads v.sizes c.as_slice.result.now) c.body.ensures.same ∙ ap (λ (l : List ℕ). payloads journal.sizes l) c.as_slice.ensures.value in
    subst (λ (r : Result Loaded DeskOpenFault). IfErr r (λ f. (at : ℕ) → f ≡ BadRecord at → IfSome journal.records (λ all. IsFirstBad c.args.number all at))) (sym is)
    (λ at eq. bad_known journal.records c.args.number at (payloads journal.sizes body) (known_payloads journal.records journal.sizes body c.requires.sizes c.in_ok-body.ensures.body)
    (subst (λ (l : List (List ℕ)). IsFirstBad c.args.number l at) same (c.in_err-config.ensures.bad at eq)))

pub returns-clause-known : goal.returns-clause-known
returns-clause-known g c = known_payloads c.args.journal.now.records c.args.journal.now.sizes c.in_ok-body.body.items c.requires.sizes c.in_ok-body.ensures.body

pub returns-clause-loaded : goal.returns-clause-loaded
returns-clause-loaded g c =
    let journal = c.args.journal.now in
    let same : payloads c.body.new.self.sizes c.as_slice.result.now ≡ payloads journal.sizes c.in_ok-body.body.items =
    ap (λ (v : View _). payloads v.sizes c.as_slice.result.now) c.body.ensures.same ∙ ap (λ (l : List ℕ). payloads journal.sizes l) c.as_slice.ensures.value in
    subst (λ (l : List (List ℕ)). IsLoaded c.args.number c.in_ok-config.config.settings l) same c.in_ok-config.ensures.loaded
