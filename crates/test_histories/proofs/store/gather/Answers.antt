use Rattle.std.proofs.Common.{◌≡◌, ◌∙◌, ◌+◌, ◌<◌, ◌++◌, ◌∷◌, [], ℕ, List, length, take, get_or, refl, sym, ap, subst, arith, rules}
use Rattle.std.proofs.lemmas.List.{take_all, take_more, length-take-le}
use Rattle.disk_api.specs.declared.memory.MemoryDisk.{MemoryDisk}
use Rattle.desk_core.specs.View.{View}
use Rattle.press_core.specs.Press.{PressValue}
use Rattle.editions.specs.declared.gathered.Gathered.{Gathered}
use Rattle.test_histories.specs.Gathered.{IsSince, AreSince}
use Rattle.test_histories.proofs.Gathered.{since_more, since_long}
use Rattle.test_histories.proofs.store.gather.Goals as goal

pub loop-desk-preserved : goal.loop-desk-preserved
loop-desk-preserved c =
    let number = c.loop-desk.desk in
    let desks = c.args.store.now.desks.items in
    let cut = c.cut-cut.result.now in
    let desk = c.index.result.now in
    let from = get_or cut number 0 in
    let groups = c.loop-desk.gathered.items in
    let group : Gathered = record { desk = number; from = from; commands = c.new.result } in
    let inside : number < length desks = omega (arith, c.requires.all, c.loop-desk-test.true) in
    let cut_is : cut ≡ c.args.store.now.press.press.at.cut = c.cut-cut.ensures ∙ ap (λ (p : PressValue). p.at.cut) c.press.ensures.press in
    let counted : number < length cut = omega (arith, c.requires.cut, ap length cut_is, c.loop-desk-test.true) in
    let before : AreSince 0 (take number desks) (take number cut) groups = c.loop-desk.invariant in
    let one_each : length groups ≡ number = since_long 0 (take number desks) (take number cut) groups before ∙ length-take-le number cut (omega (arith, counted)) in
    let longer : take (number + 1) desks ≡ take number desks ++ desk ∷ [] = take_more desks number desk inside ∙ ap (λ (d : View MemoryDisk). take number desks ++ d ∷ []) (sym c.index.ensures) in
    let further : take (number + 1) cut ≡ take number cut ++ from ∷ [] = take_more cut number 0 counted in
    let pushed : c.push.new.self.items ≡ groups ++ group ∷ [] = search rules in
    let is : IsSince (0 + length groups) desk from group = record {
      desk_is = omega (arith, one_each);
      from_is = refl;
      commands = λ commands has. c.new.ensures ∙ c.in_ok-commands.ensures commands has;
    } in
    subst (λ (l : List (View MemoryDisk)). AreSince 0 l (take (number + 1) cut) c.push.new.self.items) (sym longer)
    (subst (λ (l : List ℕ). AreSince 0 (take number desks ++ desk ∷ []) l c.push.new.self.items) (sym further)
    (subst (λ (l : List Gathered). AreSince 0 (take number desks ++ desk ∷ []) (take number cut ++ from ∷ []) l) (sym pushed)
    (since_more 0 (take number desks) (take number cut) groups desk from group before is)))

pub returns : goal.returns
returns c =
    let number = c.loop-desk.desk in
    let desks = c.args.store.now.desks.items in
    let cut = c.cut-cut.result.now in
    let groups = c.loop-desk.gathered.items in
    let cut_is : cut ≡ c.args.store.now.press.press.at.cut = c.cut-cut.ensures ∙ ap (λ (p : PressValue). p.at.cut) c.press.ensures.press in
    subst (λ (l : List ℕ). AreSince 0 desks l groups) cut_is
    (subst (λ (l : List (View MemoryDisk)). AreSince 0 l cut groups) (take_all number desks (omega (arith, c.requires.all, c.loop-desk-test.false)))
    (subst (λ (l : List ℕ). AreSince 0 (take number desks) l groups)
    (take_all number cut (omega (arith, c.requires.cut, ap length cut_is, c.loop-desk-test.false))) c.loop-desk.invariant))
