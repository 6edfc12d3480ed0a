use Rattle.std.proofs.Common.{List, sym, ap, ◌∙◌}
use Rattle.std.specs.Prelude.{slice_get}
use Rattle.authority_book.specs.declared.rows.NameRow.{NameRow}
use Rattle.entitle.specs.Certified.{settings_of}
use Rattle.issue_plan.specs.Keys.{Basis}
use Rattle.issue_plan.proofs.KeyLemmas.{unnamed, without_set, with_nothing, with_some, pushed_one, pushed_two}
use Rattle.issue_plan.proofs.keys.push_keys.Goals as goal

pub returns-in_default : goal.returns-in_default
returns-in_default c =
    let basis : Basis = record {
      rows = c.args.rows.now;
      configs = settings_of c.args.configs.now;
      sets = c.args.tree.now.sets.items;
      moment = c.args.moment;
    } in
    let desk = c.args.desk in
    let keys = c.args.keys.now.items in
    unnamed basis desk keys (sym (c.in_default.ensures ∙ ap (λ (l : List NameRow). slice_get l desk) c.requires))

pub returns-in_default-set_at : goal.returns-in_default-set_at
returns-in_default-set_at c =
    let basis : Basis = record {
      rows = c.args.rows.now;
      configs = settings_of c.args.configs.now;
      sets = c.args.tree.now.sets.items;
      moment = c.args.moment;
    } in
    let desk = c.args.desk in
    let keys = c.args.keys.now.items in
    without_set basis desk keys c.in-Some.name.now (sym (c.in-Some.ensures ∙ ap (λ (l : List NameRow). slice_get l desk) c.requires)) (sym c.in_default-set_at.ensures)

pub returns-then-holds_nothing : goal.returns-then-holds_nothing
returns-then-holds_nothing c =
    let basis : Basis = record {
      rows = c.args.rows.now;
      configs = settings_of c.args.configs.now;
      sets = c.args.tree.now.sets.items;
      moment = c.args.moment;
    } in
    let desk = c.args.desk in
    let keys = c.args.keys.now.items in
    with_nothing basis desk keys c.in-Some.name.now c.in-Some-set_at.set.now (sym (c.in-Some.ensures ∙ ap (λ (l : List NameRow). slice_get l desk) c.requires))
    (sym c.in-Some-set_at.ensures) (sym c.if-holds_nothing.ensures)

pub returns-in_ok-push-2 : goal.returns-in_ok-push-2
returns-in_ok-push-2 c =
    let basis : Basis = record {
      rows = c.args.rows.now;
      configs = settings_of c.args.configs.now;
      sets = c.args.tree.now.sets.items;
      moment = c.args.moment;
    } in
    let desk = c.args.desk in
    let keys = c.args.keys.now.items in
    let own = c.keys_after-second.result in
    pushed_two keys c.push.new.self.items c.push-in-Some-second.new.self.items _ own.0 c.in-Some-second.second own.1
    c.in_ok-push.ensures.items c.in_ok-push-2.ensures.items c.in-Some-second.is
    (with_some basis desk keys c.in-Some.name.now c.in-Some-set_at.set.now c.inits_at.result c.activates_at.result _
    (sym (c.in-Some.ensures ∙ ap (λ (l : List NameRow). slice_get l desk) c.requires)) (sym c.in-Some-set_at.ensures)
    (sym c.if-holds_nothing.ensures) c.inits_at.ensures c.activates_at.ensures c.keys_after-second.ensures)

pub returns-in_default-second : goal.returns-in_default-second
returns-in_default-second c =
    let basis : Basis = record {
      rows = c.args.rows.now;
      configs = settings_of c.args.configs.now;
      sets = c.args.tree.now.sets.items;
      moment = c.args.moment;
    } in
    let desk = c.args.desk in
    let keys = c.args.keys.now.items in
    let own = c.keys_after-second.result in
    pushed_one keys c.push.new.self.items _ own.0 own.1 c.in_ok-push.ensures.items c.in_default-second.is
    (with_some basis desk keys c.in-Some.name.now c.in-Some-set_at.set.now c.inits_at.result c.activates_at.result _
    (sym (c.in-Some.ensures ∙ ap (λ (l : List NameRow). slice_get l desk) c.requires)) (sym c.in-Some-set_at.ensures)
    (sym c.if-holds_nothing.ensures) c.inits_at.ensures c.activates_at.ensures c.keys_after-second.ensures)
