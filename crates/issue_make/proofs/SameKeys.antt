-- The keys of two makings whose signers gave the same keys.
use mathlib.Core.HLevel.{is_prop→PathP}
use Rattle.std.proofs.Common.{◌≡◌, ℕ, Bool, List, [], ◌∷◌, length, map, refl, sym, ap, ◌∙◌, arith}
use Rattle.std.proofs.Props.{props}
use Rattle.std.specs.Cmp.{IsStrictWeakOrder}
use Rattle.std.specs.Ordering.{is_lt, nat_cmp}
use Rattle.std.proofs.lemmas.Cmp.{nat_cmp_total}
use Rattle.std.proofs.lemmas.List.Sorted.{ranks_by}
use Rattle.signer_api.specs.PublicKey.{IsPublicKey}
use Rattle.signer_api.specs.declared.values.PublicKey.{PublicKey}
use Rattle.signer_ring.specs.Calls.{signer_of}
use Rattle.key_roll.specs.declared.rows.KeyRow.{KeyRow}
use Rattle.key_roll.specs.declared.work.NewKey.{NewKey}
use Rattle.issue_keys.specs.Keys.{fresh_row, fresh_rows, AreByDesk, AreFresh}
use Rattle.issue_keys.specs.Making.{making}
use Rattle.issue_make.specs.Answers.{answers_to}
use Rattle.issue_make.proofs.OneOrder.{same-head, same-tail, same-cons, level-sorted, stable-same}

abbrev before : NewKey → NewKey → Bool
before a b = is_lt (nat_cmp a.desk b.desk)

by-desk : IsStrictWeakOrder before
by-desk = ranks_by nat_cmp_total (λ (n : NewKey). n.desk)

-- New keys have one order by their desks.
news-same : (news a b : List NewKey) → AreByDesk news a → AreByDesk news b → a ≡ b
news-same news a b first second =
    stable-same before by-desk a b (level-sorted before by-desk a first.sorted) (level-sorted before by-desk b second.sorted)
    (λ z. first.stable z ∙ sym (second.stable z))

-- How its bytes are spelled is known in one way.
spelled-prop : (bytes : List ℕ) → IsProp (IsPublicKey bytes)
spelled-prop bytes = hlevel props

same-key : (a b : PublicKey) → a.bytes ≡ b.bytes → a ≡ b
same-key a b bytes = λ i. record {
  bytes = bytes i;
  spelled = is_prop→PathP (λ j. IsPublicKey (bytes j)) (λ j. spelled-prop (bytes j)) a.spelled b.spelled i;
}

signers-of : (news : List NewKey) (keys : List PublicKey) → length keys ≡ length news
    → map signer_of (map making (fresh_rows news keys)) ≡ map (λ n. n.signer) news
signers-of [] keys e = refl
signers-of (new ∷ news) [] e = absurd (omega arith)
signers-of (new ∷ news) (key ∷ keys) e = ap (λ (l : List ℕ). new.signer ∷ l) (signers-of news keys (omega arith))

rows-by-answers : (news : List NewKey) (keys others : List PublicKey) → length keys ≡ length news → length others ≡ length news
    → answers_to (map making (fresh_rows news keys)) ≡ answers_to (map making (fresh_rows news others))
    → fresh_rows news keys ≡ fresh_rows news others
rows-by-answers [] keys others long many e = refl
rows-by-answers (new ∷ news) [] others long many e = absurd (omega arith)
rows-by-answers (new ∷ news) (key ∷ keys) [] long many e = absurd (omega arith)
rows-by-answers (new ∷ news) (key ∷ keys) (other ∷ others) long many e =
    let rest = answers_to (map making (fresh_rows news keys)) in
    let more = answers_to (map making (fresh_rows news others)) in
    let bytes : key.bytes ≡ other.bytes =
    same-head key.bytes other.bytes [] [] (same-head (key.bytes ∷ []) (other.bytes ∷ []) rest more e) in
    same-cons (fresh_row new key) (fresh_row new other) (fresh_rows news keys) (fresh_rows news others)
    (ap (fresh_row new) (same-key key other bytes))
    (rows-by-answers news keys others (omega arith) (omega arith)
    (same-tail (key.bytes ∷ []) (other.bytes ∷ []) rest more e))

-- They are asked of the same signers.
pub makers-same : (new_keys : List NewKey) (fresh other : List KeyRow) → AreFresh new_keys fresh → AreFresh new_keys other
    → map signer_of (map making fresh) ≡ map signer_of (map making other)
makers-same new_keys fresh other a b =
    ap (λ (l : List KeyRow). map signer_of (map making l)) a.rows
    ∙ (signers-of a.news a.keys a.each
    ∙ (ap (map (λ (n : NewKey). n.signer)) (news-same new_keys a.news b.news a.by_desk b.by_desk)
    ∙ (sym (signers-of b.news b.keys b.each)
    ∙ ap (λ (l : List KeyRow). map signer_of (map making l)) (sym b.rows))))

-- With the same answers they have the same rows.
pub fresh-same : (new_keys : List NewKey) (fresh other : List KeyRow) → AreFresh new_keys fresh → AreFresh new_keys other
    → answers_to (map making fresh) ≡ answers_to (map making other) → fresh ≡ other
fresh-same new_keys fresh other a b same =
    let news : a.news ≡ b.news = news-same new_keys a.news b.news a.by_desk b.by_desk in
    let back : other ≡ fresh_rows a.news b.keys = b.rows ∙ ap (λ (l : List NewKey). fresh_rows l b.keys) (sym news) in
    let long : length b.keys ≡ length a.news = b.each ∙ ap length (sym news) in
    a.rows
    ∙ (rows-by-answers a.news a.keys b.keys a.each long
    (ap (λ (l : List KeyRow). answers_to (map making l)) (sym a.rows)
    ∙ (same ∙ ap (λ (l : List KeyRow). answers_to (map making l)) back))
    ∙ sym back)
