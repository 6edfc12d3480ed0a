-- A text writes one AS number at most.
use Rattle.std.proofs.Common.{◌≡◌, ℕ, ◌≤◌, List, [], ◌∷◌, ◌++◌, take, drop, refl, sym, subst, ◌∙◌, arith, inl, inr}
use Rattle.std.proofs.lemmas.Bool.Decides.{nat_tests}
use Rattle.std.specs.Char.{to_ascii_lowercase}
use Rattle.ip_text.specs.Number.{IsDecimalText, IsAsMark, FollowsMark, IsBareOrMarked, IsAsNumberText}
use Rattle.ip_text.specs.laws.NumberLaws.{front_text, one_decimal}

-- no digit is a letter
digit_is_lower : (d : ℕ) → d ≤ 57 → to_ascii_lowercase d ≡ d
digit_is_lower d h = grind (arith, nat_tests)

-- a decimal number begins with a digit, and not with the mark
bare_has_none : (text : List ℕ) (n : ℕ) → IsDecimalText text n → IsAsMark (take 2 text) → ⊥
bare_has_none [] n is mark = cc
bare_has_none (d ∷ []) n is mark = cc
bare_has_none (d ∷ e ∷ ds) n is mark =
    let front = front_text (d ∷ e ∷ ds) n is in
    let same : to_ascii_lowercase d ≡ 97 = cc in
    let lower = digit_is_lower d front.high in
    omega (arith, front.high)

-- what stands behind a mark
marked : (mark digits text : List ℕ) → IsAsMark mark → text ≡ mark ++ digits → (take 2 text ≡ mark) × (drop 2 text ≡ digits)
marked [] digits text is e = absurd cc
marked (a ∷ []) digits text is e = absurd cc
marked (a ∷ s ∷ []) digits text is e = rw e (refl, refl)
marked (a ∷ s ∷ t ∷ rest) digits text is e = absurd cc

spelled_follows : (text rest : List ℕ) (n : ℕ) → FollowsMark text rest → IsBareOrMarked text n → IsDecimalText rest n
spelled_follows text rest n (inl (mark, e)) (inl bare) = absurd (bare_has_none text n bare mark)
spelled_follows text rest n (inr (none, e)) (inl bare) = subst (λ t. IsDecimalText t n) (sym e) bare
spelled_follows text rest n (inl (mark, e)) (inr (m, ds, is, spelled, number)) =
    subst (λ t. IsDecimalText t n) (sym (e ∙ (marked m ds text is spelled).1)) number
spelled_follows text rest n (inr (none, e)) (inr (m, ds, is, spelled, number)) =
    absurd (none (subst IsAsMark (sym (marked m ds text is spelled).0) is))

-- an AS number is what follows the mark
pub number_follows : (text rest : List ℕ) (n : ℕ) → FollowsMark text rest → IsAsNumberText text n → IsDecimalText rest n
number_follows text rest n follows is = spelled_follows text rest n follows is.spelled

-- no text writes two AS numbers
same_spelled : (text : List ℕ) (m n : ℕ) → IsBareOrMarked text m → IsBareOrMarked text n → m ≡ n
same_spelled text m n (inl a) (inl b) = one_decimal text m n a b
same_spelled text m n (inl a) (inr (k, ds, mark, e, b)) = absurd (bare_has_none text m a (subst IsAsMark (sym (marked k ds text mark e).0) mark))
same_spelled text m n (inr (k, ds, mark, e, a)) (inl b) = absurd (bare_has_none text n b (subst IsAsMark (sym (marked k ds text mark e).0) mark))
same_spelled text m n (inr (k, ds, mark, e, a)) (inr (k', ds', mark', e', b)) =
    let same : ds ≡ ds' = sym (marked k ds text mark e).1 ∙ (marked k' ds' text mark' e').1 in
    one_decimal ds' m n (subst (λ t. IsDecimalText t m) same a) b

pub one_as_number : (text : List ℕ) (m n : ℕ) → IsAsNumberText text m → IsAsNumberText text n → m ≡ n
one_as_number text m n a b = same_spelled text m n a.spelled b.spelled
