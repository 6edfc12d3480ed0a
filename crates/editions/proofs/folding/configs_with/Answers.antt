use Rattle.std.proofs.Common.{◌≡◌, ℕ, ◌<◌, suc, ◌∷◌, [], ◌∙◌, List, refl, sym, ap, ap₂, subst, length, get_or, set, arith, rules}
use Rattle.std.specs.Vec.Iter.{into_iter_items}
use Rattle.std.proofs.lemmas.List.{length-map, length-set, map-set, get_or-map, nil_from_length}
use Rattle.authority_book.specs.Settings.{Settings, ConfigValue}
use Rattle.authority_book.specs.Fold.{after_all, AcceptedInTurn}
use Rattle.entitle.specs.Certified.{settings_of}
use Rattle.editions.specs.declared.gathered.Gathered.{Gathered}
use Rattle.editions.specs.Gathering.{configs_with, AreAccepted, AreOfDesks}
use Rattle.editions.proofs.StateLemmas.Folds.{configs-taken, configs-none, accepted-now, accepted-later}
use Rattle.editions.proofs.folding.configs_with.Goals as goal

settings-long : (configs : List ConfigValue) → length (settings_of configs) ≡ length configs
settings-long configs = length-map configs (λ (config : ConfigValue). config.settings)

settings-at : (configs : List ConfigValue) (k : ℕ) (config : ConfigValue) → k < length configs → config ≡ get_or configs k config →
    config.settings ≡ get_or (settings_of configs) k config.settings
settings-at configs k config inside is =
    ap (λ (c : ConfigValue). c.settings) is ∙ sym (get_or-map (λ (c : ConfigValue). c.settings) configs k config config.settings inside)

pub loop-group-init : goal.loop-group-init
loop-group-init c =
    let all = c.into_iter-group-iterator.ensures.into_iter_gives in
    let same : settings_of c.in_ok-next.next.items ≡ settings_of c.args.configs.now = c.in_ok-next.ensures in
    let long : length c.in_ok-next.next.items ≡ length c.args.configs.now =
    sym (settings-long c.in_ok-next.next.items) ∙ (ap length same ∙ settings-long c.args.configs.now) in
    let groups = into_iter_items c.into_iter-group-iterator.result in
    record {
      rest = ap₂ configs_with same all.0;
      accepted = subst (λ (s : List Settings). AreAccepted s groups) (sym same) (subst (AreAccepted (settings_of c.args.configs.now)) (sym all.0) c.requires.accepted);
      desks = subst (λ (n : ℕ). AreOfDesks n groups) (sym long) (subst (AreOfDesks (length c.args.configs.now)) (sym all.0) c.requires.desks);
      left = search (rules, all.1);
    }

pub apply_all-requires : goal.apply_all-requires
apply_all-requires c =
    let group : Gathered = c.in-Some.group in
    let rest = into_iter_items c.next.new.self in
    let old = settings_of c.loop-group.next.items in
    let step : into_iter_items c.loop-group.group-iterator ≡ group ∷ rest = c.in-Some.ensures.steps.0 in
    let inside : group.desk < length c.loop-group.next.items = subst (AreOfDesks (length c.loop-group.next.items)) step c.loop-group.invariant.desks 0 group (omega arith) in
    let there : group.desk < length old = subst (λ (n : ℕ). group.desk < n) (sym (settings-long c.loop-group.next.items)) inside in
    let x = c.index_mut.result.now.settings in
    let value : x ≡ get_or old group.desk x = settings-at c.loop-group.next.items group.desk c.index_mut.result.now inside c.index_mut.ensures.value in
    subst (AcceptedInTurn x) (sym c.into_vec.ensures)
    (subst (λ (s : Settings). AcceptedInTurn s group.commands) (sym value)
    (accepted-now old group rest group.desk x refl there (subst (AreAccepted old) step c.loop-group.invariant.accepted)))

pub loop-group-preserved : goal.loop-group-preserved
loop-group-preserved c =
    let before = c.loop-group.invariant in
    let group : Gathered = c.in-Some.group in
    let rest = into_iter_items c.next.new.self in
    let items = c.loop-group.next.items in
    let old = settings_of items in
    let step : into_iter_items c.loop-group.group-iterator ≡ group ∷ rest = c.in-Some.ensures.steps.0 in
    let of_desks = subst (AreOfDesks (length items)) step before.desks in
    let inside : group.desk < length items = of_desks 0 group (omega arith) in
    let there : group.desk < length old = subst (λ (n : ℕ). group.desk < n) (sym (settings-long items)) inside in
    let x = c.index_mut.result.now.settings in
    let value : x ≡ get_or old group.desk x = settings-at items group.desk c.index_mut.result.now inside c.index_mut.ensures.value in
    let new : c.apply_all.new.config.settings ≡ after_all (get_or old group.desk x) group.commands =
    c.in_ok-apply_all.ensures ∙ (ap (after_all x) c.into_vec.ensures ∙ ap (λ (s : Settings). after_all s group.commands) value) in
    let now : settings_of (set items group.desk c.apply_all.new.config) ≡ set old group.desk (after_all (get_or old group.desk x) group.commands) =
    map-set (λ (config : ConfigValue). config.settings) items group.desk c.apply_all.new.config ∙ ap (set old group.desk) new in
    let long : length (set items group.desk c.apply_all.new.config) ≡ length items = length-set items group.desk c.apply_all.new.config in
    record {
      rest = ap (λ (s : List Settings). configs_with s rest) now
          ∙ (configs-taken 0 old group rest group.desk x (omega arith) there ∙ (sym (ap (configs_with old) step) ∙ before.rest));
      accepted = subst (λ (s : List Settings). AreAccepted s rest) (sym now)
          (accepted-later old group rest group.desk x refl there (subst (AreAccepted old) step before.accepted));
      desks = λ k d less. let h = of_desks (suc k) d (omega arith) in omega (arith, h, long);
      left = let shorter = ap length step in omega (arith, c.in-Some.ensures.steps.1);
    }

pub returns : goal.returns
returns c =
    let none : into_iter_items c.loop-group.group-iterator ≡ [] =
    nil_from_length (into_iter_items c.loop-group.group-iterator) (sym c.loop-group.invariant.left ∙ c.in-None.ensures.steps.0) in
    sym (configs-none 0 (settings_of c.loop-group.next.items))
    ∙ (ap (configs_with (settings_of c.loop-group.next.items)) (sym none) ∙ c.loop-group.invariant.rest)
