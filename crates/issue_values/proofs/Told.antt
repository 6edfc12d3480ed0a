-- Places of a repository are told apart by what they are places of.
use Rattle.std.specs.Prelude.{codes, Ok}
use Rattle.std.proofs.Common.{◌≡◌, ◌≢◌, ℕ, ◌<◌, ◌+◌, ◌^◌, zero, suc, true, take, List, [], ◌∷◌, ◌++◌, length, get_or, refl, sym, ap, subst, ◌∙◌, arith, append_assoc}
use Rattle.std.specs.List.{All}
use Rattle.std.proofs.lemmas.Bool.Decides.{nat_tests}
use Rattle.std.proofs.lemmas.List.{length-append}
use Rattle.std.proofs.Math.Seq.{take-append_seam, get_or-append_seam}
use Rattle.names.specs.Name.{IsName, is_name_byte}
use Rattle.hex.specs.Hex.{encode_lower, decode_of}
use Rattle.hex.proofs.HexLemmas.{decode_of-encode_lower}
use Rattle.key_ids.specs.Uris.{Bases, anchor_uri, file_uri}
use Rattle.origins.specs.declared.Origin.{Origin}
use Rattle.origins.specs.declared.Prefix.{Prefix}
use Rattle.origins.specs.Origin.{origin_text, maximum_of, SpellsOrigin}
use Rattle.origins.specs.Text.{Parts, IsOriginText}
use Rattle.issue_values.specs.Publishers.{roa_uri}
use Rattle.origins.specs.laws.TextLaws.{text-ascii}

abbrev pub AreSmall : List ℕ → Type 0
AreSmall bytes = (i : ℕ) → get_or bytes i 0 < 256

-- No slash (47).
abbrev pub IsFlat : List ℕ → Type 0
IsFlat bytes = All (λ b. b ≢ 47) bytes

rest-flat : (x : ℕ) (xs : List ℕ) → IsFlat (x ∷ xs) → IsFlat xs
rest-flat x xs flat = λ k d lt. flat (suc k) d (omega arith)

-- A list is split once by the first slash.
pub split-once : (a b f g : List ℕ) → IsFlat a → IsFlat b → a ++ 47 ∷ f ≡ b ++ 47 ∷ g → (a ≡ b) × (f ≡ g)
split-once [] [] f g flat other e = (refl, cc)
split-once [] (y ∷ b) f g flat other e = let same : y ≡ 47 = cc in absurd (other 0 y (omega arith) same)
split-once (x ∷ a) [] f g flat other e = let same : x ≡ 47 = cc in absurd (flat 0 x (omega arith) same)
split-once (x ∷ a) (y ∷ b) f g flat other e =
    let first : x ≡ y = cc in
    let rest : a ++ 47 ∷ f ≡ b ++ 47 ∷ g = cc in
    let both = split-once a b f g (rest-flat x a flat) (rest-flat y b other) rest in
    let same : a ≡ b = both.0 in
    (cc, both.1)

front-once : (front a b : List ℕ) → front ++ a ≡ front ++ b → a ≡ b
front-once [] a b e = e
front-once (x ∷ front) a b e = let rest : front ++ a ≡ front ++ b = cc in front-once front a b rest

spelled : (site : Bases) (name file : List ℕ) → file_uri site name file ≡ site.rsync ++ (name ++ 47 ∷ 48 ∷ 47 ∷ file)
spelled site name file =
    append_assoc (site.rsync ++ name) (codes "/0/") file ∙ append_assoc site.rsync name (codes "/0/" ++ file)

-- A file's place tells the folder's name and the file.
pub file-once : (site : Bases) (a b f g : List ℕ) → IsFlat a → IsFlat b → file_uri site a f ≡ file_uri site b g → (a ≡ b) × (f ≡ g)
file-once site a b f g flat other e =
    let both = split-once a b (48 ∷ 47 ∷ f) (48 ∷ 47 ∷ g) flat other
    (front-once site.rsync (a ++ 47 ∷ 48 ∷ 47 ∷ f) (b ++ 47 ∷ 48 ∷ 47 ∷ g) (sym (spelled site a f) ∙ (e ∙ spelled site b g))) in
    let tails = both.1 in
    (both.0, cc)

pub hex-once : (a b : List ℕ) → AreSmall a → AreSmall b → encode_lower a ≡ encode_lower b → a ≡ b
hex-once a b small other e =
    let both : Ok a ≡ Ok b = sym (decode_of-encode_lower a small) ∙ (ap decode_of e ∙ decode_of-encode_lower b other) in
    cc

-- ---- the anchor

front-flat : (a f : List ℕ) (flat : List ℕ) → IsFlat flat → flat ≡ a ++ 47 ∷ f → ⊥
front-flat a f flat is e =
    let long : length (a ++ 47 ∷ f) ≡ length a + suc (length f) = length-append a (47 ∷ f) in
    let same = ap length e in
    is (length a) 0 (omega (arith, long, same))
    (ap (λ (l : List ℕ). get_or l (length a) 0) e ∙ get_or-append_seam a 47 f 0)

ta-flat : IsFlat (codes "ta.cer")
ta-flat zero d lt e = absurd (omega arith)
ta-flat (suc zero) d lt e = absurd (omega arith)
ta-flat (suc (suc zero)) d lt e = absurd (omega arith)
ta-flat (suc (suc (suc zero))) d lt e = absurd (omega arith)
ta-flat (suc (suc (suc (suc zero)))) d lt e = absurd (omega arith)
ta-flat (suc (suc (suc (suc (suc zero))))) d lt e = absurd (omega arith)
ta-flat (suc (suc (suc (suc (suc (suc k)))))) d lt e = absurd (omega arith)

pub anchor-apart : (site : Bases) (a f : List ℕ) → anchor_uri site ≢ file_uri site a f
anchor-apart site a f e =
    front-flat a (48 ∷ 47 ∷ f) (codes "ta.cer") ta-flat
    (front-once site.rsync (codes "ta.cer") (a ++ 47 ∷ 48 ∷ 47 ∷ f) (e ∙ spelled site a f))

-- ---- files

back-once : (a b back : List ℕ) → a ++ back ≡ b ++ back → a ≡ b
back-once a b back e =
    let first = length-append a back in
    let second = length-append b back in
    let same = ap length e in
    let long : length a ≡ length b = omega (arith, first, second, same) in
    sym (take-append_seam a back) ∙ (ap (take (length a)) e
    ∙ (ap (λ (n : ℕ). take n (b ++ back)) long ∙ take-append_seam b back))

-- A file that is named in hex.
pub stem-once : (site : Bases) (a b x y ending : List ℕ) → IsFlat a → IsFlat b → AreSmall x → AreSmall y
    → file_uri site a (encode_lower x ++ ending) ≡ file_uri site b (encode_lower y ++ ending) → (a ≡ b) × (x ≡ y)
stem-once site a b x y ending flat other small low e =
    let both = file-once site a b (encode_lower x ++ ending) (encode_lower y ++ ending) flat other e in
    (both.0, hex-once x y small low (back-once (encode_lower x) (encode_lower y) ending both.1))

-- ---- origins

abbrev pub ReadsOwn : Type 0
ReadsOwn = (origin : Origin) → origin.asn < 2 ^ 32 → SpellsOrigin (origin_text origin) origin

abbrev pub ReadsOnce : Type 0
ReadsOnce = (text : List ℕ) (p q : Parts) → IsOriginText text p → IsOriginText text q → p ≡ q

abbrev pub SamePrefix : Type 0
SamePrefix = (p q : Prefix) → p.v6 ≡ q.v6 → p.address ≡ q.address → p.length ≡ q.length → p ≡ q

abbrev pub SameOrigin : Type 0
SameOrigin = (o p : Origin) → o.prefix ≡ p.prefix → o.max ≡ p.max → o.asn ≡ p.asn → o ≡ p

-- Two origins with one text are one.
pub text-once : ReadsOwn → ReadsOnce → SamePrefix → SameOrigin → (o p : Origin) → origin_text o ≡ origin_text p → o ≡ p
text-once own once prefix origin o p e =
    let a = own o o.number in
    let b = own p p.number in
    let same : a.0 ≡ b.0 = once (origin_text o) a.0 b.0 a.1 (subst (λ (t : List ℕ). IsOriginText t b.0) (sym e) b.1) in
    origin o p
    (prefix o.prefix p.prefix (a.2.2.v6 ∙ (ap (λ (q : Parts). q.v6) same ∙ sym b.2.2.v6))
    (a.2.2.address ∙ (ap (λ (q : Parts). q.address) same ∙ sym b.2.2.address))
    (a.2.2.len ∙ (ap (λ (q : Parts). q.len) same ∙ sym b.2.2.len)))
    (a.2.2.max ∙ (ap maximum_of same ∙ sym b.2.2.max))
    (a.2.2.asn ∙ (ap (λ (q : Parts). q.asn) same ∙ sym b.2.2.asn))

pub roa-once : ReadsOwn → ReadsOnce → SamePrefix → SameOrigin → (site : Bases) (a b : List ℕ) (o p : Origin) → IsFlat a → IsFlat b
    → roa_uri site a o ≡ roa_uri site b p → (a ≡ b) × (o ≡ p)
roa-once own once prefix origin site a b o p flat other e =
    let small : (q : Origin) → AreSmall (origin_text q) = λ q i. let below = text-ascii q i in omega (arith, below) in
    let both = stem-once site a b (origin_text o) (origin_text p) (codes ".roa") flat other (small o) (small p) e in
    (both.0, text-once own once prefix origin o p both.1)

-- ---- names have no slash

name-flat : (c : ℕ) → is_name_byte c ≡ true → c ≢ 47
name-flat c is = grind (arith, nat_tests)

pub flat-name : (name : List ℕ) → IsName name → IsFlat name
flat-name name is = λ k d lt. name-flat (get_or name k d) (is.plain k d lt)
