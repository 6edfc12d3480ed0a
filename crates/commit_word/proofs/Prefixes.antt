-- Prefixes of one list.
use Rattle.std.proofs.Common.{◌≡◌, ℕ, zero, suc, ◌≤◌, ◌<◌, Bool, true, false, cond, nat_lt, List, [], ◌∷◌, ◌++◌, length, Some, slice_get, refl, ap, sym, ◌∙◌, arith, append_assoc, length-append}
use Rattle.std.proofs.lemmas.List.{append-nil}
use Rattle.std.proofs.lemmas.Bool.Decides.{nat_tests}
use mathlib.Core.List.{IsPrefix}
use Rattle.commit_word.specs.Entries.{longer, shorter}

-- each list is a prefix of itself
pub prefix_self : {A : Type 0} (xs : List A) → IsPrefix xs xs
prefix_self xs = ([], append-nil xs)

pub prefix_trans : {A : Type 0} (xs ys zs : List A) → IsPrefix xs ys → IsPrefix ys zs → IsPrefix xs zs
prefix_trans xs ys zs p q = (p.0 ++ q.0, sym (append_assoc xs p.0 q.0) ∙ (ap (λ w. w ++ q.0) p.1 ∙ q.1))

-- of two prefixes of one list the shorter is a prefix of the longer
pub prefix_shorter : {A : Type 0} (xs ys zs : List A) → IsPrefix xs zs → IsPrefix ys zs → length xs ≤ length ys → IsPrefix xs ys
prefix_shorter [] ys zs p q le = (ys, refl)
prefix_shorter (x ∷ xs) [] zs p q le = absurd (omega arith)
prefix_shorter (x ∷ xs) (y ∷ ys) [] p q le = absurd (cc (p.1))
prefix_shorter (x ∷ xs) (y ∷ ys) (z ∷ zs) p q le =
    let heads : x ≡ y = cc (p.1, q.1) in
    let rest = prefix_shorter xs ys zs (p.0, cc (p.1)) (q.0, cc (q.1)) (omega arith) in
    (rest.0, cc (heads, rest.1))

pub prefix_length : {A : Type 0} (xs ys : List A) → IsPrefix xs ys → length xs ≤ length ys
prefix_length xs ys p = omega (arith, sym (ap length p.1) ∙ length-append xs p.0)

-- what stands in a list within the length of a prefix stands in the prefix
pub prefix_within : {A : Type 0} (xs ys : List A) (k : ℕ) (x : A) → IsPrefix xs ys → k < length xs → slice_get ys k ≡ Some x → slice_get xs k ≡ Some x
prefix_within [] ys k x p lt h = absurd (omega arith)
prefix_within (y ∷ xs) [] k x p lt h = absurd (cc (p.1))
prefix_within (y ∷ xs) (z ∷ ys) zero x p lt h = cc (p.1, h)
prefix_within (y ∷ xs) (z ∷ ys) (suc k) x p lt h = prefix_within xs ys k x (p.0, cc (p.1)) (omega arith) h

-- what stands in a prefix stands in the list, at the same place
pub prefix_get : {A : Type 0} (xs ys : List A) (k : ℕ) (x : A) → IsPrefix xs ys → slice_get xs k ≡ Some x → slice_get ys k ≡ Some x
prefix_get [] ys k x p h = absurd cc
prefix_get (y ∷ xs) [] k x p h = absurd (cc (p.1))
prefix_get (y ∷ xs) (z ∷ ys) zero x p h = cc (p.1, h)
prefix_get (y ∷ xs) (z ∷ ys) (suc k) x p h = prefix_get xs ys k x (p.0, cc (p.1)) h

-- of two prefixes of one list, both are prefixes of the longer, which is one
pub longer_both : (xs ys zs : List (List ℕ)) → IsPrefix xs zs → IsPrefix ys zs → IsPrefix (longer xs ys) zs × IsPrefix (shorter xs ys) zs × IsPrefix xs (longer xs ys) × IsPrefix ys (longer xs ys)
longer_both xs ys zs p q = go (nat_lt (length xs) (length ys)) refl
  where
    go : (b : Bool) → nat_lt (length xs) (length ys) ≡ b → IsPrefix (cond b ys xs) zs × IsPrefix (cond b xs ys) zs × IsPrefix xs (cond b ys xs) × IsPrefix ys (cond b ys xs)
    go true is = (q, p, prefix_shorter xs ys zs p q (grind (arith, nat_tests)), prefix_self ys)
    go false is = (p, q, prefix_self xs, prefix_shorter ys xs zs q p (grind (arith, nat_tests)))

pub shorter_length : (xs ys : List (List ℕ)) → length (shorter xs ys) ≤ length (longer xs ys)
shorter_length xs ys = go (nat_lt (length xs) (length ys)) refl
  where
    go : (b : Bool) → nat_lt (length xs) (length ys) ≡ b → length (cond b xs ys) ≤ length (cond b ys xs)
    go true is = grind (arith, nat_tests)
    go false is = grind (arith, nat_tests)

-- where the shorter is a prefix of the longer, both are
pub longer_from_shorter : (xs ys : List (List ℕ)) → IsPrefix (shorter xs ys) (longer xs ys) → IsPrefix xs (longer xs ys) × IsPrefix ys (longer xs ys)
longer_from_shorter xs ys p = go (nat_lt (length xs) (length ys)) p
  where
    go : (b : Bool) → IsPrefix (cond b xs ys) (cond b ys xs) → IsPrefix xs (cond b ys xs) × IsPrefix ys (cond b ys xs)
    go true h = (h, prefix_self ys)
    go false h = (prefix_self xs, h)

-- one more at the end
pub prefix_snoc : {A : Type 0} (xs : List A) (x : A) → IsPrefix xs (xs ++ x ∷ [])
prefix_snoc xs x = (x ∷ [], refl)

pub slice_get_end : {A : Type 0} (xs : List A) (x : A) → slice_get (xs ++ x ∷ []) (length xs) ≡ Some x
slice_get_end [] x = refl
slice_get_end (y ∷ xs) x = slice_get_end xs x
