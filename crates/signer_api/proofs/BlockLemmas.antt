-- Blocks and keys, as they are written part by part.
use Rattle.std.proofs.Common.{◌≡◌, ◌≤◌, ◌<◌, set, slice_index, ◌+◌, ◌*◌, ℕ, List, [], ◌∷◌, ◌++◌, length, take, refl, sym, ◌∙◌, ap, arith, add-one, length-append}
use Rattle.std.proofs.lemmas.List.{take_all, drop_at, get_or-set_same, get_or-set_other}
use Rattle.sha2.specs.Sha256.{sha256}
use Rattle.sha2.proofs.Facts256.{length-sha256}
use Rattle.signer_api.specs.Hashed.{blocks}
use Rattle.signer_api.specs.PublicKey.{IsPublicKey, key_header, key_exponent}

pub blocks-next : (seed : List ℕ) (i : ℕ) → blocks seed (i + 1) ≡ blocks seed i ++ sha256 (seed ++ i ∷ [])
unfolding blocks
blocks-next seed i = rw (add-one i) refl

-- one block more
pub blocks-put : (seed old new digest : List ℕ) (i at : ℕ) → take (at + length digest) new ≡ take at old ++ digest → at ≡ 32 * i
    → take (32 * i) old ≡ blocks seed i → digest ≡ sha256 (seed ++ i ∷ []) → take (32 * (i + 1)) new ≡ blocks seed (i + 1)
blocks-put seed old new digest i at put place before is =
    let long : length digest ≡ 32 = ap length is ∙ length-sha256 (seed ++ i ∷ []) in
    let end : 32 * (i + 1) ≡ at + length digest = omega (arith, long, place) in
    ap (λ (n : ℕ). take n new) end
    ∙ put
    ∙ ap (λ (n : ℕ). take n old ++ digest) place
    ∙ ap (λ (front : List ℕ). front ++ digest) before
    ∙ ap (λ (back : List ℕ). blocks seed i ++ back) is
    ∙ sym (blocks-next seed i)

-- the three parts of a key
pub key-put : (one two three modulus : List ℕ) → length modulus ≡ 256 → length three ≡ 270 → take 9 one ≡ key_header
    → take (9 + length modulus) two ≡ take 9 one ++ modulus → take 270 three ≡ take 265 two ++ key_exponent
    → three ≡ key_header ++ modulus ++ key_exponent
key-put one two three modulus long whole first second third =
    let end : 265 ≡ 9 + length modulus = omega (arith, long) in
    sym (take_all 270 three (omega (arith, whole)))
    ∙ third
    ∙ ap (λ (n : ℕ). take n two ++ key_exponent) end
    ∙ ap (λ (front : List ℕ). front ++ key_exponent) second
    ∙ ap (λ (front : List ℕ). (front ++ modulus) ++ key_exponent) first

-- they are a key
pub IsPublicKey-parts : (bytes modulus : List ℕ) → bytes ≡ key_header ++ modulus ++ key_exponent → length modulus ≡ 256 → 128 ≤ slice_index modulus 0 → IsPublicKey bytes
IsPublicKey-parts bytes [] is long high = let none : ⊥ = omega (arith, long) in absurd none
IsPublicKey-parts bytes (first ∷ rest) is long high = rw is (record {
  whole = omega (arith, length-append rest key_exponent, long);
  header = refl;
  modulus = high;
  exponent = drop_at (key_header ++ first ∷ rest) key_exponent 265 (omega (arith, long));
})

-- the first byte stays, where another is written over
pub first-kept : (bytes : List ℕ) (x y : ℕ) → 0 < length bytes → 128 ≤ x → 128 ≤ slice_index (set (set bytes 0 x) 255 y) 0
first-kept bytes x y some high =
    let e : slice_index (set (set bytes 0 x) 255 y) 0 ≡ x = get_or-set_other (set bytes 0 x) 255 0 y 0 (omega arith) ∙ get_or-set_same bytes 0 x 0 some in
    rw e high
