use Rattle.std.proofs.Common.{◌<◌, List, [], ◌∷◌, subst, sym}
use Rattle.std.specs.List.{All}
use Rattle.std.proofs.lemmas.List.Elements.{All-append, All-cons, All-nil}
use Rattle.key_roll.specs.declared.work.NewKey.{NewKey}
use Rattle.test_press.proofs.keys.keys.new_keys.Goals as goal

pub loop-desk-preserved : goal.loop-desk-preserved
loop-desk-preserved c =
    subst (λ (l : List NewKey). All (λ (n : NewKey). n.signer < 1) l) (sym c.in_ok-push.ensures.items)
    (All-append (λ (n : NewKey). n.signer < 1) c.loop-desk.news.items (c.new_key-new.result ∷ []) c.loop-desk.invariant
    (All-cons (λ (n : NewKey). n.signer < 1) c.new_key-new.result [] c.new_key-new.ensures (All-nil (λ (n : NewKey). n.signer < 1))))
