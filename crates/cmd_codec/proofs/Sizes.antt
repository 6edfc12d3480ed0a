-- How many bytes parts take.
use mir.Val.{bool_byte}
use Rattle.std.proofs.Common.{Bool, true, false, ◌≡◌, ℕ, ◌+◌, ◌*◌, List, [], ◌∷◌, ◌++◌, length, take, refl, sym, ap, ◌∙◌, append_assoc, append-nil, length-append, arith}
use Rattle.std.specs.Prelude.{Result, Ok, Err, OnOk, is_ok, if◌then◌else◌}
use Rattle.std.specs.declared.alloc.AllocError.{AllocError}
use Rattle.std.specs.List.{flat_map}
use Rattle.origins.specs.declared.Origin.{Origin}
use Rattle.res_sets.specs.declared.numbers.Range.{Range}
use Rattle.res_sets.specs.declared.holdings.Resources.{Resources}
use Rattle.res_sets.specs.Sets.{RangeSet}
use Rattle.cmd_codec.specs.Spelling.{granted, family_byte, bytes_32, bytes_128, origin_spelling, range_spelling, part_spelling}
use Rattle.cmd_codec.specs.Spelling.Part.{TheNumber, TheName, TheOrigins, TheRanges}
use Rattle.cmd_codec.proofs.Fronts.{length-bytes_32}
use Rattle.cmd_codec.proofs.Lists.{flat_push}
use Rattle.cmd_codec.proofs.Good.{length-origin, length-range}

flat_size : {A : Type 0} (f : A → List ℕ) (size : ℕ) → ((x : A) → length (f x) ≡ size) → (xs : List A) → length (flat_map f xs) ≡ size * length xs
flat_size f size sizes [] = omega arith
flat_size f size sizes (x ∷ xs) =
    let rest = flat_size f size sizes xs in
    omega (arith, length-append (f x) (flat_map f xs), sizes x, rest)

pub size_number : (n : ℕ) → length (part_spelling (TheNumber n)) ≡ 4
unfolding part_spelling
size_number n = length-bytes_32 n

pub size_name : (name : List ℕ) → length (part_spelling (TheName name)) ≡ 4 + length name
unfolding part_spelling
size_name name = omega (arith, length-append (bytes_32 (length name)) name, length-bytes_32 (length name))

pub size_origins : (os : List Origin) → length (part_spelling (TheOrigins os)) ≡ 4 + 23 * length os
unfolding part_spelling
size_origins os =
    omega (arith, length-append (bytes_32 (length os)) (flat_map origin_spelling os), length-bytes_32 (length os), flat_size origin_spelling 23 length-origin os)

pub size_ranges : (set : RangeSet) → length (part_spelling (TheRanges set)) ≡ 4 + 32 * length set.ranges
unfolding part_spelling
size_ranges set =
    omega (arith, length-append (bytes_32 (length set.ranges)) (flat_map range_spelling set.ranges), length-bytes_32 (length set.ranges), flat_size range_spelling 32 length-range set.ranges)

pub size_granted : (grant : Resources) → length (flat_map part_spelling (granted grant))
    ≡ length (part_spelling (TheRanges grant.asn)) + length (part_spelling (TheRanges grant.v4)) + length (part_spelling (TheRanges grant.v6))
size_granted grant =
    let a = part_spelling (TheRanges grant.asn) in
    let b = part_spelling (TheRanges grant.v4) in
    let d = part_spelling (TheRanges grant.v6) in
    omega (arith, length-append a (b ++ (d ++ [])), length-append b (d ++ []), length-append d [])

-- a name is a number and its bytes
pub name_parts : (name : List ℕ) → part_spelling (TheName name) ≡ part_spelling (TheNumber (length name)) ++ name
unfolding part_spelling
name_parts name = refl

pub origins_parts : (os : List Origin) → part_spelling (TheOrigins os) ≡ part_spelling (TheNumber (length os)) ++ flat_map origin_spelling os
unfolding part_spelling
origins_parts os = refl

pub ranges_parts : (set : RangeSet) → part_spelling (TheRanges set) ≡ part_spelling (TheNumber (length set.ranges)) ++ flat_map range_spelling set.ranges
unfolding part_spelling
ranges_parts set = refl

-- one more item is appended
pub appended : {A : Type 0} (f : A → List ℕ) (xs : List A) (i : ℕ) (x : A) (old head here there : List ℕ) → take (i + 1) xs ≡ take i xs ++ x ∷ [] → here ≡ old ++ head ++ flat_map f (take i xs)
    → there ≡ here ++ f x → there ≡ old ++ head ++ flat_map f (take (i + 1) xs)
appended f xs i x old head here there grown before next =
    next ∙ ap (λ (t : List ℕ). t ++ f x) before ∙ append_assoc (old ++ head) (flat_map f (take i xs)) (f x)
    ∙ ap (λ (t : List ℕ). old ++ head ++ t) (sym (ap (flat_map f) grown ∙ flat_push f (take i xs) x))

-- what holds after an appending call holds of another text
pub on_ok : (r : Result (Unit {0}) AllocError) (P Q : Type 0) → (P → Q) → OnOk r P → OnOk r Q
on_ok (Ok u) P Q f p = f p
on_ok (Err e) P Q f p = tt

-- one text behind another
pub pushed_two : (old mid new a b whole : List ℕ) → whole ≡ a ++ b → mid ≡ old ++ a → new ≡ mid ++ b → new ≡ old ++ whole
pushed_two old mid new a b whole is first later =
    later ∙ ap (λ (t : List ℕ). t ++ b) first ∙ append_assoc old a b ∙ ap (λ (t : List ℕ). old ++ t) (sym is)

regrouped : (a b c d e f : List ℕ) → a ++ b ++ c ++ d ++ e ++ f ≡ a ++ (b ++ (c ++ (d ++ (e ++ f))))
regrouped a b c d e f = simp append_assoc

pub pushed_origin : (o : Origin) (old a b d e new family address asn : List ℕ) → family ≡ family_byte o.prefix.v6 ∷ [] → address ≡ bytes_128 o.prefix.address → asn ≡ bytes_32 o.asn
    → a ≡ old ++ family → b ≡ a ++ address → d ≡ b ++ o.prefix.length ∷ [] → e ≡ d ++ o.max ∷ [] → new ≡ e ++ asn → new ≡ old ++ origin_spelling o
unfolding origin_spelling
pushed_origin o old a b d e new family address asn family_is address_is asn_is first second third fourth fifth =
    let all : new ≡ old ++ (family ++ (address ++ (o.prefix.length ∷ o.max ∷ asn))) =
    fifth ∙ ap (λ (t : List ℕ). t ++ asn) fourth ∙ ap (λ (t : List ℕ). t ++ o.max ∷ [] ++ asn) third ∙ ap (λ (t : List ℕ). t ++ o.prefix.length ∷ [] ++ o.max ∷ [] ++ asn) second
    ∙ ap (λ (t : List ℕ). t ++ address ++ o.prefix.length ∷ [] ++ o.max ∷ [] ++ asn) first ∙ regrouped old family address (o.prefix.length ∷ []) (o.max ∷ []) asn in
    all ∙ (λ i. old ++ (family_is i ++ (address_is i ++ (o.prefix.length ∷ o.max ∷ asn_is i))))

-- what an appending call of std did, where it answers Ok
pub extended : (r : Result (Unit {0}) AllocError) (new old more : List ℕ) → new ≡ (if is_ok r then old ++ more else old) → OnOk r (new ≡ old ++ more)
extended (Ok u) new old more is = is
extended (Err e) new old more is = tt

pub range_parts : (r : Range) (first last : List ℕ) → first ≡ bytes_128 r.first → last ≡ bytes_128 r.last → range_spelling r ≡ first ++ last
unfolding range_spelling
range_parts r first last first_is last_is = λ i. sym first_is i ++ sym last_is i

-- a family is spelled as a `bool` is
pub byte_of_family : (v6 : Bool) → bool_byte v6 ≡ family_byte v6
byte_of_family true = refl
byte_of_family false = refl

-- texts one behind another
pub pushed_one : (old new a : List ℕ) → new ≡ old ++ a → new ≡ old ++ (a ++ [])
pushed_one old new a is = is ∙ ap (λ (t : List ℕ). old ++ t) (sym (append-nil a))

pub pushed_pair : (old mid new a b : List ℕ) → mid ≡ old ++ a → new ≡ mid ++ b → new ≡ old ++ (a ++ (b ++ []))
pushed_pair old mid new a b first later = pushed_two old mid new a (b ++ []) (a ++ (b ++ [])) refl first (pushed_one mid new b later)

pub pushed_three : (old one two new a b c : List ℕ) → one ≡ old ++ a → two ≡ one ++ b → new ≡ two ++ c → new ≡ old ++ (a ++ (b ++ (c ++ [])))
pushed_three old one two new a b c first later last = pushed_two old one new a (b ++ (c ++ [])) (a ++ (b ++ (c ++ []))) refl first (pushed_pair one two new b c later last)
