use Rattle.std.proofs.Common.{◌≡◌, ◌+◌, [], ◌∷◌, ◌++◌, List, take, sym, ap, ◌∙◌, true, false, not, cond, rules}
use Rattle.std.specs.Prelude.{Bool}
use Rattle.std.proofs.lemmas.List.{take_more, append-nil}
use Rattle.key_roll.specs.declared.rows.KeyRow.{KeyRow}
use Rattle.editions.specs.declared.ended.EndedKey.{EndedKey}
use Rattle.editions.specs.Ended.{is_among, ended_key_of, ended_keys}
use Rattle.editions.proofs.StateLemmas.Growing.{passed-grown}
use Rattle.editions.proofs.ended.ended_keys.Goals as goal
use Rattle.editions.proofs.ended.ended_keys.Goals.{then-not-is_among+in_ok-push, else-not-is_among}

pub loop-row-preserved : goal.loop-row-preserved
loop-row-preserved c =
    let before = c.args.before.now in
    let after = c.args.after.now in
    let i = c.loop-row.row-index in
    let row : KeyRow = c.row-item.result in
    let old = c.loop-row.ended.items in
    let longer : take (i + 1) before ≡ take i before ++ row ∷ [] =
    take_more before i row c.loop-row-test.true ∙ ap (λ (r : KeyRow). take i before ++ r ∷ []) (sym c.row-item.is) in
    let found : c.is_among.result ≡ is_among after row = search rules in
    let grown : ended_keys (take (i + 1) before) after ≡ ended_keys (take i before) after ++ cond (not (is_among after row)) (ended_key_of row ∷ []) [] =
    ap (λ (l : List KeyRow). ended_keys l after) longer ∙ passed-grown (λ (r : KeyRow). not (is_among after r)) ended_key_of (take i before) row in
    let all : old ≡ ended_keys (take i before) after = c.loop-row.invariant in
    elim c.if-not-is_among.branch [
      | then-not-is_among+in_ok-push w ↦
          let none : c.is_among.result ≡ false = search rules in
          let put : c.if-not-is_among.ended.items ≡ old ++ ended_key_of row ∷ [] = search rules in
          put ∙ (ap (λ (l : List EndedKey). l ++ ended_key_of row ∷ []) all
          ∙ sym (grown ∙ ap (λ (b : Bool). ended_keys (take i before) after ++ cond (not b) (ended_key_of row ∷ []) []) (sym found ∙ none)))
      | else-not-is_among w ↦
          let some : c.is_among.result ≡ true = search rules in
          let same : c.if-not-is_among.ended.items ≡ old = search rules in
          same ∙ (all ∙ sym (grown ∙ (ap (λ (b : Bool). ended_keys (take i before) after ++ cond (not b) (ended_key_of row ∷ []) []) (sym found ∙ some) ∙ append-nil (ended_keys (take i before) after))))
    ]
