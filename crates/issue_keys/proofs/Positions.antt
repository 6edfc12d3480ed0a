-- The positions of a list's keys, one item more at a time.
use Rattle.std.proofs.Common.{◌≡◌, ℕ, ◌+◌, ◌<◌, Option, None, Some, List, [], ◌∷◌, ◌++◌}
use Rattle.std.proofs.Common.{length, get_or, take, sym, ap, ◌∙◌, arith}
use Rattle.std.proofs.lemmas.List.{take_more, length-take-le}
use Rattle.key_ids.specs.declared.identifier.KeyId.{KeyId}
use Rattle.issue_keys.specs.declared.key_index.KeyPosition.{KeyPosition}
use Rattle.issue_keys.specs.Indexes.{key_positions}

positioned-append : (n : ℕ) (keys others : List (Option KeyId))
    → key_positions n (keys ++ others) ≡ key_positions n keys ++ key_positions (n + length keys) others
positioned-append n [] others = ap (λ (m : ℕ). key_positions m others) (omega arith)
positioned-append n (None ∷ keys) others =
    positioned-append (n + 1) keys others
    ∙ ap (λ (m : ℕ). key_positions (n + 1) keys ++ key_positions m others) (omega arith)
positioned-append n (Some k ∷ keys) others =
    ap (λ (l : List KeyPosition). record { key = k; position = n } ∷ l)
    (positioned-append (n + 1) keys others
    ∙ ap (λ (m : ℕ). key_positions (n + 1) keys ++ key_positions m others) (omega arith))

pub positioned-more : (keys : List (Option KeyId)) (i : ℕ) (d : Option KeyId)
    (before after : List KeyPosition)
    → i < length keys → before ≡ key_positions 0 (take i keys)
    → after ≡ before ++ key_positions i (get_or keys i d ∷ [])
    → after ≡ key_positions 0 (take (i + 1) keys)
positioned-more keys i d before after lt was now =
    let one = get_or keys i d ∷ [] in
    let count : length (take i keys) ≡ i = length-take-le i keys (omega arith) in
    let at : 0 + length (take i keys) ≡ i = omega arith in
    now ∙ (ap (λ (l : List KeyPosition). l ++ key_positions i one) was
    ∙ (ap (λ (m : ℕ). key_positions 0 (take i keys) ++ key_positions m one) (sym at)
    ∙ (sym (positioned-append 0 (take i keys) one) ∙ ap (key_positions 0) (sym (take_more keys i d lt)))))
