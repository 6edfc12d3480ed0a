use Rattle.std.proofs.Common.{◌≡◌, ◌<◌, ◌∷◌, ◌++◌, [], ◌∙◌, List, Vec, Global, sym, ap, length, get_or, map, arith}
use Rattle.std.proofs.lemmas.List.{length-map, map-set, get_or-map}
use Rattle.origins.specs.declared.Origin.{Origin}
use Rattle.editions.proofs.StateLemmas.Shown.{pushed-at}
use Rattle.editions.proofs.sheets.push_at.Goals as goal

pub returns-in_ok-push-clause-each : goal.returns-in_ok-push-clause-each
returns-in_ok-push-clause-each c = λ other less.
    let items : Vec Origin Global → List Origin = λ list. list.items in
    let lists = c.args.lists.now.items in
    let desk = c.args.desk in
    let cell : Vec Origin Global = c.index_mut.result.now in
    let inside : desk < length lists = omega arith in
    let long : length (map items lists) ≡ length lists = length-map lists items in
    let was : cell.items ≡ get_or (map items lists) desk [] =
    ap items c.index_mut.ensures.value ∙ sym (get_or-map items lists desk cell [] inside) in
    let new : c.push.new.self.items ≡ get_or (map items lists) desk [] ++ c.args.origin ∷ [] =
    c.in_ok-push.ensures.items ∙ ap (λ (l : List Origin). l ++ c.args.origin ∷ []) was in
    ap (λ (l : List (List Origin)). get_or l other []) (map-set items lists desk c.push.new.self)
    ∙ pushed-at (map items lists) desk c.push.new.self.items c.args.origin (omega (arith, inside, long)) new other (omega (arith, less, long))
