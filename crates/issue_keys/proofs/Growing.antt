-- Rows of keys, one more at a time.
use Rattle.std.proofs.Common.{◌≡◌, ℕ, ◌+◌, ◌<◌, Bool, true, false, not, cond, List, [], ◌∷◌, ◌++◌, length, get_or, take, map, filter, refl, sym, ap, subst, ◌∙◌, arith}
use Rattle.std.proofs.lemmas.List.{take_more, map-append, length-map}
use Rattle.std.proofs.lemmas.List.Elements.{filter-append}
use Rattle.signer_api.specs.State.{SignerState}
use Rattle.signer_api.specs.declared.values.PublicKey.{PublicKey}
use Rattle.key_roll.specs.declared.rows.KeyRow.{KeyRow}
use Rattle.key_roll.specs.declared.work.Work.{Work}
use Rattle.key_roll.specs.declared.work.NewKey.{NewKey}
use Rattle.key_roll.specs.declared.rows.Role.TheVariants.{New}
use Rattle.std.specs.List.{All}
use Rattle.std.proofs.lemmas.List.Sorted.{All-permutation}
use Rattle.signer_ring.specs.Calls.{Call, after_call, after_calls}
use Rattle.std.specs.List.Sorted.{IsPermutation, IsSortedByKey, IsStableByKey}
use Rattle.std.specs.Ordering.{nat_cmp}
use Rattle.issue_keys.specs.Keys.{fresh_row, fresh_rows, kept_rows, with_role, role_of, is_dropped, AreByDesk}
use Rattle.issue_keys.specs.Making.{making}

abbrev pub keys_of : List KeyRow → List PublicKey
keys_of rows = map (λ row. row.key) rows

pub fresh-nil : (news : List NewKey) → fresh_rows news [] ≡ []
fresh-nil [] = refl
fresh-nil (n ∷ ns) = refl

fresh-push : (news : List NewKey) (keys : List PublicKey) (d : NewKey) (key : PublicKey) → length keys < length news → fresh_rows news (keys ++ key ∷ []) ≡ fresh_rows news keys ++ fresh_row (get_or news (length keys) d) key ∷ []
fresh-push [] keys d key lt = absurd (omega arith)
fresh-push (n ∷ ns) [] d key lt = ap (λ (t : List KeyRow). fresh_row n key ∷ t) (fresh-nil ns)
fresh-push (n ∷ ns) (k ∷ ks) d key lt = ap (λ (t : List KeyRow). fresh_row n k ∷ t) (fresh-push ns ks d key (omega arith))

-- What stands for a position past the end.
abbrev pub no_key : NewKey
no_key = record { desk = 0; signer = 0; role = New; since = 0; done = 0 }

pub rows-push : (news : List NewKey) (fresh : List KeyRow) (row : KeyRow) (i : ℕ) → fresh ≡ fresh_rows news (keys_of fresh) → length fresh ≡ i → i < length news → row ≡ fresh_row (get_or news i no_key) row.key → fresh ++ row ∷ [] ≡ fresh_rows news (keys_of (fresh ++ row ∷ []))
rows-push news fresh row i so long lt made =
    let count : length (keys_of fresh) ≡ i = length-map fresh (λ (r : KeyRow). r.key) ∙ long in
    let short : length (keys_of fresh) < length news = omega arith in
    let here : get_or news (length (keys_of fresh)) no_key ≡ get_or news i no_key = ap (λ (k : ℕ). get_or news k no_key) count in
    ap (λ (l : List KeyRow). l ++ row ∷ []) so
    ∙ (ap (λ (r : KeyRow). fresh_rows news (keys_of fresh) ++ r ∷ []) (made ∙ ap (λ (n : NewKey). fresh_row n row.key) (sym here))
    ∙ (sym (fresh-push news (keys_of fresh) no_key row.key short)
    ∙ ap (fresh_rows news) (sym (map-append (λ (r : KeyRow). r.key) fresh (row ∷ [])))))

-- The signers of the new keys are there.
pub signer-there : (new_keys news : List NewKey) (n m i : ℕ) (d : NewKey) → IsPermutation new_keys news → All (λ new. new.signer < n) new_keys → m ≡ n → i < length news → (get_or news i d).signer < m
signer-there new_keys news n m i d p all same lt =
    subst (λ (k : ℕ). (get_or news i d).signer < k) (sym same)
    (All-permutation (λ (new : NewKey). new.signer < n) new_keys news p all i d lt)

calls-push : (ring : List SignerState) (calls : List Call) (call : Call) → after_calls ring (calls ++ call ∷ []) ≡ after_call (after_calls ring calls) call
calls-push ring [] call = refl
calls-push ring (c ∷ cs) call = calls-push (after_call ring c) cs call

pub signers-push : (old before after : List SignerState) (fresh : List KeyRow) (row : KeyRow) → before ≡ after_calls old (map making fresh) → after ≡ after_call before (making row) → after ≡ after_calls old (map making (fresh ++ row ∷ []))
signers-push old before after fresh row was now =
    now ∙ (ap (λ (r : List SignerState). after_call r (making row)) was
    ∙ (sym (calls-push old (map making fresh) (making row)) ∙ ap (after_calls old) (sym (map-append making fresh (row ∷ [])))))

-- ---- the rows that stay

kept-one : (work : Work) (row : KeyRow) (b : Bool) → is_dropped work.dropped row ≡ b → kept_rows work (row ∷ []) ≡ cond b [] (with_role row (role_of work.roles row) ∷ [])
kept-one work row true e = rw e refl
kept-one work row false e = rw e refl

pub kept-more : (work : Work) (rows : List KeyRow) (i : ℕ) (row : KeyRow) (b : Bool) → i < length rows → row ≡ get_or rows i row → is_dropped work.dropped row ≡ b → kept_rows work (take (i + 1) rows) ≡ kept_rows work (take i rows) ++ cond b [] (with_role row (role_of work.roles row) ∷ [])
kept-more work rows i row b lt is e =
    let f : KeyRow → KeyRow = λ r. with_role r (role_of work.roles r) in
    let p : KeyRow → Bool = λ r. not (is_dropped work.dropped r) in
    let more : take (i + 1) rows ≡ take i rows ++ row ∷ [] =
    take_more rows i row lt ∙ ap (λ (r : KeyRow). take i rows ++ r ∷ []) (sym is) in
    ap (kept_rows work) more
    ∙ (ap (map f) (filter-append p (take i rows) (row ∷ []))
    ∙ (map-append f (filter p (take i rows)) (filter p (row ∷ []))
    ∙ ap (λ (l : List KeyRow). kept_rows work (take i rows) ++ l) (kept-one work row b e)))

pub desks-are : (given copy ordered : List NewKey) → copy ≡ given → IsPermutation copy ordered → IsSortedByKey (λ n. n.desk) nat_cmp ordered → IsStableByKey (λ n. n.desk) nat_cmp copy ordered → AreByDesk given ordered
desks-are given copy ordered e p s t = record {
  permutation = subst (λ (l : List NewKey). IsPermutation l ordered) e p;
  sorted = s;
  stable = subst (λ (l : List NewKey). IsStableByKey (λ n. n.desk) nat_cmp l ordered) e t;
}
