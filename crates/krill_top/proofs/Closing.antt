-- Where a run ended well its last edition is exported.
use Rattle.std.proofs.Common.{◌≡◌, ◌≢◌, ℕ, ◌==◌, ◌||◌, Bool, true, false, not, [], length, refl, sym, ◌∙◌, ap, subst, arith, inl, inr}
use Rattle.std.specs.Prelude.{◌⊎◌, Result, Ok, Err}
use Rattle.std.proofs.lemmas.Bool.{eq-eqb, eqb-true}
use Rattle.std.proofs.lemmas.List.{nil_from_length}
use Rattle.line_loop.specs.declared.session.SessionEnd.{SessionEnd}
use Rattle.line_loop.specs.declared.session.SessionEnd.TheVariants.{End, SourceFault, SinkFault, Spent, Memory}
use Rattle.outlet_api.specs.declared.exports.ExportFault.{ExportFault}
use Rattle.outlet_api.specs.declared.exports.ExportFault.TheVariants as export
use Rattle.press_core.specs.declared.last_export.LastExport.{LastExport}
use Rattle.press_core.specs.declared.last_export.LastExport.TheVariants.{NoExport, Done}
use Rattle.press_core.specs.Exports.{IsCoherent, ShowsEdition}
use Rattle.outlet_api.specs.declared.outlet.Outlet.{Ghosts as OutletGhosts}
use Rattle.krill_top.specs.InstanceState.{InstanceState, last_serial, is_exported_at, is_exported, repository_in, IsCoherentIn, ShowsLastIn}
use Rattle.krill_top.specs.inner.Instances.{InstanceValue, IsInState}
use Rattle.krill_top.specs.Exports.{ExportsAll, Repeats}
use Rattle.krill_top.specs.Statuses.{run_status, end_fault}
use Rattle.krill_top.proofs.PressFound.{some_so}

or_second : (a b : Bool) → b ≡ true → (a || b) ≡ true
or_second true b is = refl
or_second false b is = is

pub done_exported : (serial : ℕ) → is_exported_at (Done serial) serial ≡ true
done_exported serial = or_second (serial == 0) (serial == serial) (eq-eqb serial serial refl)

-- Where the last export failed the status is another one.
not_well : {O : Type 0} (end : SessionEnd) (fault : ExportFault O)
    → run_status (end_fault {T = Bool} {O = O} end (Err fault)) ≡ 0 → ⊥
not_well End (export.OutletFault rose) e = omega (arith, e)
not_well End export.Memory e = omega (arith, e)
not_well SourceFault (export.OutletFault rose) e = omega (arith, e)
not_well SourceFault export.Memory e = omega (arith, e)
not_well SinkFault (export.OutletFault rose) e = omega (arith, e)
not_well SinkFault export.Memory e = omega (arith, e)
not_well (Spent bytes) (export.OutletFault rose) e = omega (arith, e)
not_well (Spent bytes) export.Memory e = omega (arith, e)
not_well Memory (export.OutletFault rose) e = omega (arith, e)
not_well Memory export.Memory e = omega (arith, e)

-- an export that ended well was of the last edition
pub exported_all : (before after : InstanceState) → ExportsAll before after → is_exported after ≡ true
exported_all before after all =
    let serial : last_serial after ≡ last_serial before = ap last_serial all.exports.same in
    ap (λ (last : LastExport). is_exported_at last (last_serial after))
    (all.ended ∙ ap Done (sym serial)) ∙ done_exported (last_serial after)

pub well_exported : {O : Type 0} (end : SessionEnd) (closing : Result Bool (ExportFault O))
    (served ended : InstanceState) → Repeats closing served ended
    → run_status (end_fault end closing) ≡ 0 → is_exported ended ≡ true
well_exported end (Ok true) served ended repeats well = exported_all served ended repeats.1
well_exported end (Ok false) served ended repeats well = ap is_exported repeats.1 ∙ repeats.0
well_exported end (Err fault) served ended repeats well = absurd (not_well end fault well)

-- What a run shows whose opening exported its last edition.
no_export : (serial : ℕ) → is_exported_at NoExport serial ≡ true → serial ≡ 0
no_export serial is = eqb-true serial 0 (or_none (serial == 0) is)
  where
    or_none : (a : Bool) → (a || false) ≡ true → a ≡ true
    or_none true is = refl
    or_none false is = is

pub started_shown : {D O : Type 0} (outlet_of : OutletGhosts O) (instance : InstanceValue D O) (opened begun : InstanceState) → IsInState outlet_of instance begun → opened.exported ≡ NoExport
    → Repeats {O = O} (Ok (not (is_exported opened))) opened begun → (begun.editions ≡ []) ⊎ ShowsLastIn begun
started_shown {D} {O} outlet_of instance opened begun stands unexported repeats = by (is_exported opened) refl repeats
  where
    by : (exported : Bool) → is_exported opened ≡ exported → Repeats {O = O} (Ok (not exported)) opened begun → (begun.editions ≡ []) ⊎ ShowsLastIn begun
    by false is again = inr again.1.shown
    by true is same =
        let serial : last_serial opened ≡ 0 = no_export (last_serial opened) (ap (λ (last : LastExport). is_exported_at last (last_serial opened)) (sym unexported) ∙ is) in
        let long : length begun.editions ≡ 0 = sym stands.serial ∙ stands.left.serial ∙ ap last_serial same.1 ∙ serial in
        inl (nil_from_length begun.editions long)

-- and so its files are coherent
shown_coherent : (state : InstanceState) → ShowsLastIn state → IsCoherentIn state
shown_coherent state shown =
    some_so state.outlet.files (ShowsEdition state.session state.site state.editions) (IsCoherent (repository_in state) state.editions) shown (λ files shows. inr (0, shows.rrdp))

pub coherent_begun : {D O : Type 0} (outlet_of : OutletGhosts O) (instance : InstanceValue D O) (opened begun : InstanceState) → IsInState outlet_of instance begun → opened.exported ≡ NoExport
    → Repeats {O = O} (Ok (not (is_exported opened))) opened begun → begun.editions ≢ [] → IsCoherentIn begun
coherent_begun outlet_of instance opened begun stands unexported repeats some = elim (started_shown outlet_of instance opened begun stands unexported repeats) [
  | inl none ↦ absurd (some none)
  | inr shown ↦ shown_coherent begun shown
]

-- an export that is repeated changes what is exported alone
pub repeats_same : {O : Type 0} (result : Result Bool (ExportFault O)) (before after : InstanceState) → Repeats result before after
    → after ≡ record before { exported = after.exported; outlet = after.outlet }
repeats_same (Ok true) before after step = step.1.exports.same
repeats_same (Ok false) before after step = subst (λ (a : InstanceState). a ≡ record before { exported = a.exported; outlet = a.outlet }) (sym step.1) refl
repeats_same (Err fault) before after step = step.1.exports.same
