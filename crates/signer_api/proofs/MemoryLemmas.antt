-- What a signer in memory remembers and holds, as lists of bytes.
use Rattle.std.proofs.Common.{◌≡◌, ◌<◌, ℕ, zero, suc, List, [], ◌∷◌, Bool, true, false, ◌&&◌, ◌||◌, nat_eq, length, map, get_or, refl, sym, ◌∙◌, ap, arith, cond}
use Rattle.std.specs.Prelude.{IsTrue, Contains, ◌↔◌, filter, Result, IfOk}
use Rattle.std.specs.List.{list_any}
use Rattle.std.specs.Cmp.Lexicographic.{pointwise, same_text, other_text}
use Rattle.std.proofs.lemmas.Bool.{and_parts}
use Rattle.signer_api.specs.State.{Signed, Vouching, TellsBy, is_other}
use Rattle.signer_api.specs.Memory.{signed_of}
use Rattle.signer_api.specs.declared.values.PublicKey.{PublicKey}
use Rattle.signer_api.specs.declared.memory.Remembered.{Remembered}

same_true : (xs ys : List ℕ) (b : Bool) → b ≡ pointwise nat_eq xs ys → xs ≡ ys → b ≡ true
same_true xs ys true is same = refl
same_true xs ys false is same = absurd (other_text xs ys is same)

abbrev pub is_same : Signed → Remembered → Bool
is_same one y = pointwise nat_eq y.key.bytes one.key && (pointwise nat_eq y.digest.bytes one.digest && pointwise nat_eq y.signature.bytes one.signature)

same_parts : (one : Signed) (y : Remembered) → is_same one y ≡ true → signed_of y ≡ one
same_parts one y same =
    let first = and_parts _ _ same in
    let others = and_parts _ _ first.1 in
    let key : y.key.bytes ≡ one.key = same_text _ _ (sym first.0) in
    let digest : y.digest.bytes ≡ one.digest = same_text _ _ (sym others.0) in
    let signature : y.signature.bytes ≡ one.signature = same_text _ _ (sym others.1) in
    rw (key, digest, signature) refl

parts_same : (one : Signed) (y : Remembered) → signed_of y ≡ one → is_same one y ≡ true
parts_same one y is =
    rw (
      same_true y.key.bytes one.key _ refl (ap (λ (s : Signed). s.key) is),
      same_true y.digest.bytes one.digest _ refl (ap (λ (s : Signed). s.digest) is),
      same_true y.signature.bytes one.signature _ refl (ap (λ (s : Signed). s.signature) is),
    ) refl

has_cons : (one first : Signed) (rest : List Signed) → Contains rest one → Contains (first ∷ rest) one
has_cons one first rest has = (suc has.0, omega (arith, has.1), has.2)

found_at : (one : Signed) (y : Remembered) (ys : List Remembered) (b : Bool) → is_same one y ≡ b
    → (list_any (is_same one) ys ≡ true → Contains (map signed_of ys) one)
    → (b || list_any (is_same one) ys) ≡ true → Contains (map signed_of (y ∷ ys)) one
found_at one y ys true same rest is = (zero, omega arith, same_parts one y same)
found_at one y ys false same rest is = has_cons one (signed_of y) (map signed_of ys) (rest is)

found : (one : Signed) (ys : List Remembered) → list_any (is_same one) ys ≡ true → Contains (map signed_of ys) one
found one [] is = let none : ⊥ = cc in absurd none
found one (y ∷ ys) is = found_at one y ys (is_same one y) refl (found one ys) is

or_true : (a b : Bool) → b ≡ true → (a || b) ≡ true
or_true true b is = refl
or_true false b is = is

known_at : (one : Signed) (y : Remembered) (ys : List Remembered) (i : ℕ)
    → (Contains (map signed_of ys) one → list_any (is_same one) ys ≡ true)
    → i < length (map signed_of (y ∷ ys)) → get_or (map signed_of (y ∷ ys)) i one ≡ one → list_any (is_same one) (y ∷ ys) ≡ true
known_at one y ys zero rest low is = rw (parts_same one y is) refl
known_at one y ys (suc i) rest low is = or_true (is_same one y) _ (rest (i, omega (arith, low), is))

known : (one : Signed) (ys : List Remembered) → Contains (map signed_of ys) one → list_any (is_same one) ys ≡ true
known one [] has = let none : ⊥ = omega (arith, has.1) in absurd none
known one (y ∷ ys) has = known_at one y ys has.0 (known one ys) has.1 has.2

pub vouched_decides : (one : Signed) (ys : List Remembered) (b : Bool) → b ≡ list_any (is_same one) ys → IsTrue b ↔ Contains (map signed_of ys) one
vouched_decides one ys b is = (λ yes. found one ys (sym is ∙ yes), λ has. is ∙ known one ys has)

filter-bytes_at : (key : List ℕ) (k : PublicKey) (keys : List PublicKey) (b : Bool)
    → filter (is_other key) (map (λ (k : PublicKey). k.bytes) keys) ≡ map (λ (k : PublicKey). k.bytes) (filter (λ (k : PublicKey). is_other key k.bytes) keys)
    → cond b (k.bytes ∷ filter (is_other key) (map (λ (k : PublicKey). k.bytes) keys)) (filter (is_other key) (map (λ (k : PublicKey). k.bytes) keys))
    ≡ map (λ (k : PublicKey). k.bytes) (cond b (k ∷ filter (λ (k : PublicKey). is_other key k.bytes) keys) (filter (λ (k : PublicKey). is_other key k.bytes) keys))
filter-bytes_at key k keys true rest = ap (λ (bytes : List (List ℕ)). k.bytes ∷ bytes) rest
filter-bytes_at key k keys false rest = rest

filter-bytes : (key : List ℕ) (keys : List PublicKey) → filter (is_other key) (map (λ (k : PublicKey). k.bytes) keys)
    ≡ map (λ (k : PublicKey). k.bytes) (filter (λ (k : PublicKey). is_other key k.bytes) keys)
filter-bytes key [] = refl
filter-bytes key (k ∷ keys) = filter-bytes_at key k keys (is_other key k.bytes) (filter-bytes key keys)

-- the keys that are left when one is dropped
pub keys_left : (key : List ℕ) (old new : List PublicKey) → new ≡ filter (λ (k : PublicKey). is_other key k.bytes) old
    → map (λ (k : PublicKey). k.bytes) new ≡ filter (is_other key) (map (λ (k : PublicKey). k.bytes) old)
keys_left key old new is = ap (λ (keys : List PublicKey). map (λ (k : PublicKey). k.bytes) keys) is ∙ sym (filter-bytes key old)

-- an answer as one told it, and as another does who tells the same
pub told_same : {E : Type 0} (r : Result Bool E) (before now : Vouching) (P : Type 0)
    → IfOk r (λ yes. TellsBy now → IsTrue yes ↔ P) → before ≡ now → IfOk r (λ yes. TellsBy before → IsTrue yes ↔ P)
told_same r before now P told same = rw same told
