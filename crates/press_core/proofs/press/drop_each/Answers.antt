use Rattle.std.proofs.Common.{◌≡◌, ◌+◌, [], ◌∷◌, ◌++◌, List, take, sym, ap, subst, ◌∙◌, refl}
use Rattle.std.proofs.lemmas.List.{take_more}
use Rattle.editions.specs.declared.ended.EndedKey.{EndedKey}
use Rattle.press_core.specs.Press.{DropsOne, DropsEach}
use Rattle.press_core.proofs.Drops.{drops-more, kept-none, kept-more}
use Rattle.press_core.proofs.press.drop_each.Goals as goal

pub loop-key-init : goal.loop-key-init
loop-key-init g c = record { dropped = refl; kept = kept-none c.args.ring.now }

pub loop-key-preserved : goal.loop-key-preserved
loop-key-preserved g c =
    let ended = c.args.ended.now in
    let i = c.loop-key.key-index in
    let key : EndedKey = c.key-item.result in
    let longer : take (i + 1) ended ≡ take i ended ++ key ∷ [] =
    take_more ended i key c.loop-key-test.true ∙ ap (λ (k : EndedKey). take i ended ++ k ∷ []) (sym c.key-item.is) in
    let one : DropsOne key c.loop-key.ring c.drop_key.new.self = record { absent = c.drop_key.ensures.absent; dropped = c.drop_key.ensures.dropped } in
    record {
      dropped = subst (λ (l : List EndedKey). DropsEach l c.args.ring.now c.drop_key.new.self) (sym longer)
          (drops-more (take i ended) key c.args.ring.now c.loop-key.ring c.drop_key.new.self c.loop-key.invariant.dropped one);
      kept = kept-more c.args.ring.now c.loop-key.ring c.drop_key.new.self c.loop-key.invariant.kept c.drop_key.ensures.kept;
    }
