use Rattle.std.proofs.Common.{◌≡◌, ℕ, ◌<◌, ◌+◌, ◌∷◌, ◌++◌, [], ◌∙◌, List, Vec, Global, suc, refl, sym, ap, ap₂, subst, length, get_or, map, arith, rules}
use Rattle.std.specs.Vec.Iter.{into_iter_items}
use Rattle.std.proofs.lemmas.List.{length_push, nil_from_length}
use Rattle.origins.specs.declared.Origin.{Origin}
use Rattle.res_sets.specs.declared.holdings.Resources.{Resources}
use Rattle.notice_board.specs.declared.sheets.SheetRow.{SheetRow}
use Rattle.editions.specs.PublishedState.{value_of}
use Rattle.editions.specs.Sheets.{stage_of, origins_at, shown_at}
use Rattle.editions.proofs.StateLemmas.Shown.{row-is, rows-grown, rows-all}
use Rattle.editions.proofs.sheets.shown.Goals as goal

pub loop-list-init : goal.loop-list-init
loop-list-init c =
    let all = c.into_iter-list-iterator.ensures.into_iter_gives in
    rw (all.0, c.in_ok-rows.ensures.items) (record {
      rows = refl;
      lists = λ k less.
          let zero_more : k ≡ 0 + k = omega arith in
          c.in_ok-lists.ensures.each k (omega (arith, less, c.in_ok-lists.ensures.count)) ∙ ap₂ origins_at c.as_slice-2.ensures zero_more;
      count =
          let long : length c.in_ok-lists.lists.items ≡ length c.args.parts.now.tree.sets.items = search rules in
          omega (arith, long);
      left = search (rules, all.1);
    })

pub loop-list-preserved : goal.loop-list-preserved
loop-list-preserved c =
    let before = c.loop-list.invariant in
    let parts = c.args.parts.now in
    let published_state = value_of parts in
    let sets = parts.tree.sets.items in
    let rows = c.loop-list.rows.items in
    let n = length rows in
    let rest = into_iter_items c.next.new.self in
    let step : into_iter_items c.loop-list.list-iterator ≡ c.in-Some.list ∷ rest = c.in-Some.ensures.steps.0 in
    let shorter = ap length step in
    let lists = subst (λ (l : List (Vec Origin Global)). (k : ℕ) → k < length l → get_or (map (λ (list : Vec Origin Global). list.items) l) k [] ≡ origins_at parts.owed (n + k)) step before.lists in
    let inside : n < length sets = omega (arith, before.count, shorter) in
    let at : c.len-desk.result ≡ n = c.len-desk.ensures ∙ c.loop-list.rows.ok.0 in
    let set : Resources = c.index.result.now in
    let there : set ≡ get_or sets n set = subst (λ (k : ℕ). set ≡ get_or sets k set) at c.index.ensures in
    let row : SheetRow = record { desk = c.len-desk.result; certified = c.in_ok-copy.field-0; stage = c.stage_of.result; published = c.new.result } in
    let put : c.push.new.self.items ≡ rows ++ row ∷ [] = c.in_ok-push.ensures.items in
    let own : c.in-Some.list.items ≡ origins_at parts.owed n =
    lists 0 (omega arith) ∙ ap (origins_at parts.owed) (let more : n + 0 ≡ n = omega arith in more) in
    let what : row ≡ shown_at published_state n set =
    row-is published_state n set row at c.in_ok-copy.ensures (c.stage_of.ensures ∙ ap₂ stage_of c.as_slice-in-loop-list.ensures at) (c.new.ensures ∙ own) in
    let long : length c.push.new.self.items ≡ n + 1 = ap length put ∙ length_push rows row in
    record {
      rows = rows-grown published_state sets rows c.push.new.self.items row set inside there put what before.rows;
      lists = λ k less.
          let further : n + suc k ≡ length c.push.new.self.items + k = omega (arith, long) in
          lists (suc k) (omega arith) ∙ ap (origins_at parts.owed) further;
      count = omega (arith, before.count, shorter, long);
      left = omega (arith, shorter, c.in-Some.ensures.steps.1);
    }

pub returns : goal.returns
returns c =
    let none : into_iter_items c.loop-list.list-iterator ≡ [] =
    nil_from_length (into_iter_items c.loop-list.list-iterator) (sym c.loop-list.invariant.left ∙ c.in-None.ensures.steps.0) in
    let no_more = ap length none in
    rows-all (value_of c.args.parts.now) c.args.parts.now.tree.sets.items c.loop-list.rows.items (omega (arith, c.loop-list.invariant.count, no_more)) c.loop-list.invariant.rows
