-- Behind one another is the same as by strictly rising URI.
use Rattle.std.proofs.Common.{◌≡◌, ℕ, true, List, [], ◌∷◌, length, ◌<◌, refl, arith}
use Rattle.std.specs.List.{AllByRecursion}
use Rattle.std.specs.List.Sorted.{IsStrictlySortedBy}
use Rattle.std.specs.Cmp.Lexicographic.{nat_list_cmp_total}
use Rattle.std.specs.Ordering.{on, is_lt}
use Rattle.std.specs.declared.cmp.Ordering.{Ordering}
use Rattle.std.specs.declared.cmp.Ordering.TheVariants.{Less, Equal, Greater}
use Rattle.pub_set.specs.Objects.{uri_cmp}
use Rattle.rrdp_text.proofs.ElementLaws.{AllGood}

pub less_is : (o : Ordering) → is_lt o ≡ true → o ≡ Less
less_is Less h = refl
less_is Equal h = cc h
less_is Greater h = cc h

pub uri_trans : (a b c : List ℕ) → uri_cmp a b ≡ Less → uri_cmp b c ≡ Less → uri_cmp a c ≡ Less
uri_trans a b c = nat_list_cmp_total.trans a b c

all_map : {E : Type 0} (P Q : E → Type 0) → ((e : E) → P e → Q e) → (es : List E) → AllByRecursion P es → AllByRecursion Q es
all_map P Q f [] all = tt
all_map P Q f (e ∷ es) all = (f e all.0, all_map P Q f es all.1)

pub ascending_from : {E : Type 0} (Good : List ℕ → E → Type 0) (uri : E → List ℕ) → ((p : List ℕ) (e : E) → Good p e → uri_cmp p (uri e) ≡ Less)
    → (previous : List ℕ) (es : List E) → AllGood Good uri previous es
    → IsStrictlySortedBy (on uri uri_cmp) es × AllByRecursion (λ e. uri_cmp previous (uri e) ≡ Less) es
unfolding IsStrictlySortedBy
ascending_from Good uri less previous [] all = (tt, tt)
ascending_from {E} Good uri less previous (e ∷ es) all =
    let inner = ascending_from Good uri less (uri e) es all.1 in
    let first = less previous e all.0 in (
      (inner.1, inner.0),
      (first, all_map (λ x. uri_cmp (uri e) (uri x) ≡ Less) (λ x. uri_cmp previous (uri x) ≡ Less) (λ x h. uri_trans previous (uri e) (uri x) first h) es inner.1),
    )

pub each_from : {E : Type 0} (Good : List ℕ → E → Type 0) (uri : E → List ℕ) (Is : E → Type 0) → ((p : List ℕ) (e : E) → Good p e → Is e)
    → (previous : List ℕ) (es : List E) → AllGood Good uri previous es → AllByRecursion Is es
each_from Good uri Is is previous [] all = tt
each_from Good uri Is is previous (e ∷ es) all = (is previous e all.0, each_from Good uri Is is (uri e) es all.1)

chain_from : {E : Type 0} (Good : List ℕ → E → Type 0) (uri : E → List ℕ) (Is : E → Type 0)
    → ((p : List ℕ) (e : E) → uri_cmp p (uri e) ≡ Less → Is e → Good p e)
    → (previous : List ℕ) (es : List E) → IsStrictlySortedBy (on uri uri_cmp) es → AllByRecursion Is es
    → AllByRecursion (λ e. uri_cmp previous (uri e) ≡ Less) es → AllGood Good uri previous es
unfolding IsStrictlySortedBy
chain_from Good uri Is good previous [] sorted each above = tt
chain_from Good uri Is good previous (e ∷ es) sorted each above =
    (good previous e above.0 each.0, chain_from Good uri Is good (uri e) es sorted.1 each.1 sorted.0)

pub behind_nothing : (uri : List ℕ) → 0 < length uri → uri_cmp [] uri ≡ Less
behind_nothing [] h = absurd (omega arith)
behind_nothing (b ∷ bytes) h = refl

pub stands_behind_nothing : (uri : List ℕ) → uri_cmp [] uri ≡ Less → 0 < length uri
stands_behind_nothing [] h = cc h
stands_behind_nothing (b ∷ bytes) h = omega arith

pub some_behind : (a b : List ℕ) → uri_cmp a b ≡ Less → 0 < length b
some_behind [] b h = stands_behind_nothing b h
some_behind (x ∷ a) [] h = cc h
some_behind (x ∷ a) (y ∷ b) h = omega arith

pub chain_is : {E : Type 0} (Good : List ℕ → E → Type 0) (uri : E → List ℕ) (Is : E → Type 0)
    → ((p : List ℕ) (e : E) → uri_cmp p (uri e) ≡ Less → Is e → Good p e) → ((e : E) → Is e → 0 < length (uri e))
    → (es : List E) → IsStrictlySortedBy (on uri uri_cmp) es → AllByRecursion Is es → AllGood Good uri [] es
chain_is {E} Good uri Is good stands es sorted each =
    chain_from Good uri Is good [] es sorted each (all_map Is (λ e. uri_cmp [] (uri e) ≡ Less) (λ e h. behind_nothing (uri e) (stands e h)) es each)
