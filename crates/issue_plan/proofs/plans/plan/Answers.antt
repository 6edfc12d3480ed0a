use Rattle.std.proofs.Common.{◌≡◌, ℕ, Option, List, ◌++◌, map, refl, ap, ap₂, ◌∙◌}
use Rattle.std.specs.List.{filter_map, flat_map}
use Rattle.key_roll.specs.declared.issued.IssuedRow.{IssuedRow}
use Rattle.entitle.specs.Certified.{settings_of}
use Rattle.issue_plan.specs.declared.anew.Standing.{Standing}
use Rattle.issue_plan.specs.Keys.{Basis, next_keys}
use Rattle.issue_plan.specs.Wanted.{PlanInput, Point, wanted_certificates, wanted_roas, wanted_points}
use Rattle.issue_plan.specs.Fits.{unfit, all_certificates, all_roas}
use Rattle.issue_plan.specs.Uris.{key_uris, owed_uris, withdrawn}
use Rattle.issue_plan.specs.inner.Beside.{beside_roas}
use Rattle.issue_plan.specs.Work.{new_key_of, role_of, dropped}
use Rattle.issue_plan.proofs.DropLemmas.{ended-are}
use Rattle.issue_plan.proofs.PlaceLemmas.{found-places}
use Rattle.issue_plan.proofs.plans.plan.Goals as goal

pub returns : goal.returns
returns c =
    let configs = settings_of c.args.configs.now in
    let basis : Basis = record {
      rows = c.args.rows.now;
      configs = configs;
      sets = c.args.tree.now.sets.items;
      moment = c.args.moment;
    } in
    let owed = c.args.owed.now in
    let plan_input : PlanInput = record {
      basis = basis;
      owed = owed;
      issued = c.args.issued.now.rows;
      site = c.args.site.now;
    } in
    let keys = next_keys basis in
    let made : c.in_ok-keys.keys.items ≡ keys = c.in_ok-keys.ensures in
    let certs : c.in_ok-certs.certs.items ≡ all_certificates plan_input =
    c.in_ok-certs.ensures ∙ ap (wanted_certificates configs basis.sets) (c.deref-2.ensures.value ∙ made) in
    let roas : wanted_roas c.deref-3.result.now owed ≡ all_roas plan_input =
    ap (λ l. wanted_roas l owed) (c.deref-3.ensures.value ∙ made) in
    let points : c.deref-5.result.now ≡ wanted_points keys =
    c.deref-5.ensures.value ∙ (c.in_ok-points.ensures ∙ ap wanted_points (c.deref-4.ensures.value ∙ made)) in
    let is = c.in_ok-anew.ensures.anew plan_input (record {
      live = c.deref.ensures.value ∙ c.in_ok-live.ensures;
      names = c.names_of-names.ensures.names;
      issued = c.as_slice-2.ensures;
      beside = ap (map (λ row. row.now)) c.deref-beside.ensures.value ∙ (c.in_ok-beside.ensures ∙ ap beside_roas c.as_slice.ensures);
      site = refl;
      moment = refl;
    }) certs roas in
    let standing : Standing = record {
      live = c.deref.result;
      names = c.names_of-names.result;
      issued = c.as_slice-2.result;
      beside = c.deref-beside.result;
      site = c.args.site;
      moment = c.args.moment;
    } in
    let others = flat_map (owed_uris plan_input.site configs) owed in (
      owed,
      c.requires.owed,
      record {
        moment = refl;
        new_keys = c.new.ensures ∙ (c.in_ok-new_keys.ensures
            ∙ ap (filter_map new_key_of) (c.deref-7.ensures.value ∙ made));
        roles = c.new-2.ensures ∙ (c.in_ok-roles.ensures
            ∙ ap (filter_map role_of) (c.deref-8.ensures.value ∙ made));
        certs = c.new-3.ensures ∙ is.certs;
        roas = c.new-4.ensures ∙ is.roas;
        points = c.new-5.ensures ∙ (is.points ∙ ap (unfit plan_input Point) points);
        withdrawn = c.new-6.ensures ∙ (c.in_ok-withdrawn.ensures others
            (ap (filter_map (λ (p : Option ℕ). p)) (c.deref-10.ensures.value ∙ c.in_ok-anew.ensures.found)
            ∙ found-places standing configs c.names_of-names.ensures.names owed)
            ∙ ap₂ (λ (keys : List (List ℕ)) (rows : List IssuedRow). withdrawn (keys ++ others) rows)
            (c.deref-9.ensures.value ∙ (c.in_ok-wanted.ensures
            ∙ ap (flat_map (key_uris plan_input.site configs)) (c.deref-6.ensures.value ∙ made)))
            c.as_slice-2.ensures);
        dropped = c.new-7.ensures ∙ (c.in_ok-dropped.ensures
            ∙ ended-are c.deref-11.result.now keys c.deref.result.now basis.rows (c.deref-11.ensures.value ∙ made)
            (c.deref.ensures.value ∙ c.in_ok-live.ensures));
      },
    )
