-- The payloads in the bytes of records that lie one behind the other.
use Rattle.std.proofs.Common.{◌≡◌, ℕ, ◌+◌, ◌≤◌, List, [], ◌∷◌, ◌++◌, map, length, take, drop, refl, sym, ◌∙◌, ap, arith, length-append, length-drop}
use Rattle.std.proofs.lemmas.List.{take_at, drop_at, drop-drop, drop-append-le, take-append-le, length-take, nil_from_length}
use Rattle.std.specs.Int.{w64, to_be_bytes}
use Rattle.gate_journal.specs.Format.{spelled, taken_by, payloads}

-- they are those that were spelled
pub payloads-spelled : (records : List (List ℕ)) → payloads (map length records) (spelled records) ≡ records
payloads-spelled [] = refl
payloads-spelled (payload ∷ records) =
    let head = 1 ∷ to_be_bytes w64 (length payload) in
    let body = spelled (payload ∷ records) in
    let first : drop 9 body ≡ payload ++ spelled records = drop_at head (payload ++ spelled records) 9 refl in
    let rest : drop (9 + length payload) body ≡ spelled records = sym (drop-drop (length payload) 9 body) ∙ ap (λ (l : List ℕ). drop (length payload) l) first ∙ drop_at payload (spelled records) (length payload) refl in
    ap (λ (l : List ℕ). take (length payload) l ∷ payloads (map length records) (drop (9 + length payload) body)) first
    ∙ ap (λ (l : List ℕ). l ∷ payloads (map length records) (drop (9 + length payload) body)) (take_at payload (spelled records) (length payload) refl)
    ∙ ap (λ (l : List ℕ). payload ∷ payloads (map length records) l) rest
    ∙ ap (λ (l : List (List ℕ)). payload ∷ l) (payloads-spelled records)

-- and have these sizes
pub sizes-payloads : (sizes body : List ℕ) → taken_by sizes ≤ length body → map length (payloads sizes body) ≡ sizes
sizes-payloads [] body long = refl
sizes-payloads (size ∷ sizes) body long =
    let first : length (take size (drop 9 body)) ≡ size = omega (arith, long, length-take size (drop 9 body), length-drop 9 body) in
    ap (λ (n : ℕ). n ∷ map length (payloads sizes (drop (9 + size) body))) first
    ∙ ap (λ (l : List ℕ). size ∷ l) (sizes-payloads sizes (drop (9 + size) body) (omega (arith, long, length-drop (9 + size) body)))

-- one more
pub taken-push : (sizes : List ℕ) (size : ℕ) → taken_by (sizes ++ size ∷ []) ≡ taken_by sizes + (size + 9)
taken-push [] size = omega arith
taken-push (first ∷ sizes) size = omega (arith, taken-push sizes size)

pub length-one : (payload : List ℕ) → length (spelled (payload ∷ [])) ≡ length payload + 9
length-one payload = omega (arith, length-append (to_be_bytes w64 (length payload)) (payload ++ []), length-append payload [])

pub payloads-push : (sizes body payload : List ℕ) → length body ≡ taken_by sizes → payloads (sizes ++ length payload ∷ []) (body ++ spelled (payload ∷ [])) ≡ payloads sizes body ++ payload ∷ []
payloads-push [] body payload long =
    let none : body ≡ [] = nil_from_length body (omega (arith, long)) in
    ap (λ (l : List ℕ). take (length payload) (drop 9 (l ++ spelled (payload ∷ []))) ∷ []) none
    ∙ ap (λ (l : List ℕ). l ∷ []) (take_at payload [] (length payload) refl)
payloads-push (size ∷ sizes) body payload long =
    let more = spelled (payload ∷ []) in
    let all = sizes ++ length payload ∷ [] in
    let first : drop 9 (body ++ more) ≡ drop 9 body ++ more = drop-append-le 9 body more (omega (arith, long)) in
    let rest : drop (9 + size) (body ++ more) ≡ drop (9 + size) body ++ more = drop-append-le (9 + size) body more (omega (arith, long)) in
    ap (λ (l : List ℕ). take size l ∷ payloads all (drop (9 + size) (body ++ more))) first
    ∙ ap (λ (l : List ℕ). l ∷ payloads all (drop (9 + size) (body ++ more))) (take-append-le size (drop 9 body) more (omega (arith, long, length-drop 9 body)))
    ∙ ap (λ (l : List ℕ). take size (drop 9 body) ∷ payloads all l) rest
    ∙ ap (λ (l : List (List ℕ)). take size (drop 9 body) ∷ l) (payloads-push sizes (drop (9 + size) body) payload (omega (arith, long, length-drop (9 + size) body)))
