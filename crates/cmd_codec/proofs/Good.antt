-- A spelled command has no bad field.
use Rattle.std.proofs.Common.{◌≡◌, ℕ, suc, ◌+◌, ◌-◌, ◌%◌, ◌<◌, ◌≤◌, ◌^◌, ◌&&◌, ◌==◌, Bool, true, false, List, [], ◌∷◌, ◌++◌, length, map, get_or, drop, refl, sym, ap, ◌∙◌, append_assoc, append-nil, length-append, arith, eq-eqb, Some, None}
use Rattle.std.specs.Prelude.{nat_le, nat_lt}
use Rattle.std.specs.List.{flat_map, AllByRecursion}
use Rattle.std.proofs.lemmas.Bool.Decides.{nat_tests}
use Rattle.origins.specs.Prefix.{address_bits}
use Rattle.origins.specs.declared.Origin.{Origin}
use Rattle.res_sets.specs.declared.numbers.Family.{Family}
use Rattle.res_sets.specs.declared.numbers.Family.TheVariants.{Asn, V4, V6}
use Rattle.res_sets.specs.declared.numbers.Range.{Range}
use Rattle.res_sets.specs.declared.holdings.Resources.{Resources}
use Rattle.res_sets.specs.Numbers.{family_end, any_spans, RisesFrom}
use Rattle.authority_book.specs.declared.commands.Command.{Command}
use Rattle.authority_book.specs.declared.commands.Command.TheVariants.{Add, Delete, AddParent, AddChild, UpdateChild, RemoveChild, SuspendChild, UnsuspendChild, UpdateRoas, InitRoll, ActivateRoll}
use Rattle.cmd_codec.specs.Spelling.{Part, IsSound, IsRecordable, row, granted, spelling, family_byte, bytes_32, bytes_128, origin_spelling, range_spelling, part_spelling}
use Rattle.cmd_codec.specs.Spelling.Part.{TheNumber, TheName, TheOrigins, TheRanges}
use Rattle.cmd_codec.specs.Fault.{Place, Way, Kind, and_then, field, front_32, front_128, is_any, is_name_length, is_name_text, is_origin, are_of_origin, is_range, origin_fields, range_fields, part, parts, parts_if, kinds_of, grant_kinds, fields, bad_of, first_bad}
use Rattle.cmd_codec.specs.Fault.Kind.{NumberPart, NamePart, OriginsPart, RangesPart}
use Rattle.cmd_codec.specs.Fault.Way.{Behind}
use Rattle.cmd_codec.proofs.Ways.{field_at, behind_later}
use Rattle.cmd_codec.proofs.Fronts.{front_32-bytes, front_32-alone, front_128-bytes, length-bytes_32}
use Rattle.cmd_codec.proofs.Names.{name_passes}

-- the kind of a part
unfoldable pub kind_of : Part → Kind
kind_of (TheNumber n) = NumberPart
kind_of (TheName name) = NamePart
kind_of (TheOrigins origins) = OriginsPart
kind_of (TheRanges set) = RangesPart set.family

pub address_fits : (v6 : Bool) (address : ℕ) → address < 2 ^ address_bits v6 → address < 2 ^ 128
address_fits true address lt = lt
address_fits false address lt = omega arith

are_of : (o : Origin) → are_of_origin o.prefix.v6 o.prefix.address o.prefix.length o.max ≡ true
are_of o =
    let fits = o.prefix.prefix.fits in
    let short = o.prefix.prefix.short in
    let none = eq-eqb (o.prefix.address % 2 ^ (address_bits o.prefix.v6 - o.prefix.length)) 0 o.prefix.prefix.no_host_bits in
    let low = o.maximum.at_least in
    let high = o.maximum.at_most in
    tests o.prefix.address (2 ^ address_bits o.prefix.v6) o.prefix.length (address_bits o.prefix.v6) o.max _ fits short none low high
  where
    tests : (a b len bits max : ℕ) (t : Bool) → a < b → len ≤ bits → t ≡ true → len ≤ max → max ≤ bits → (nat_lt a b && nat_le len bits && t && nat_le len max && nat_le max bits) ≡ true
    tests a b len bits max t x y z u v = grind (arith, nat_tests)

family_tests : (v6 : Bool) → (nat_le (family_byte v6) 1 ≡ true) × ((family_byte v6 == 1) ≡ v6)
family_tests true = (refl, refl)
family_tests false = (refl, refl)

pub length-origin : (o : Origin) → length (origin_spelling o) ≡ 23
unfolding origin_spelling bytes_32 bytes_128
length-origin o = refl

pub length-range : (r : Range) → length (range_spelling r) ≡ 32
unfolding range_spelling bytes_128
length-range r = refl

at_17 : (b a l m : ℕ) (rest : List ℕ) → get_or (b ∷ bytes_128 a ++ l ∷ m ∷ rest) 17 0 ≡ l
unfolding bytes_128
at_17 b a l m rest = refl

at_18 : (b a l m : ℕ) (rest : List ℕ) → get_or (b ∷ bytes_128 a ++ l ∷ m ∷ rest) 18 0 ≡ m
unfolding bytes_128
at_18 b a l m rest = refl

good_origin : (o : Origin) → is_origin (origin_spelling o) ≡ true
unfolding origin_spelling
good_origin o =
    let family = family_tests o.prefix.v6 in
    let fits = address_fits o.prefix.v6 o.prefix.address o.prefix.prefix.fits in
    let address : front_128 (bytes_128 o.prefix.address ++ (o.prefix.length ∷ o.max ∷ bytes_32 o.asn)) ≡ o.prefix.address = front_128-bytes o.prefix.address _ fits in
    let len = at_17 (family_byte o.prefix.v6) o.prefix.address o.prefix.length o.max (bytes_32 o.asn) in
    let max = at_18 (family_byte o.prefix.v6) o.prefix.address o.prefix.length o.max (bytes_32 o.asn) in
    rw (family.0, family.1, address, len, max) (are_of o)

one_origin : (n at : ℕ) (o : Origin) (rest : List ℕ) → origin_fields (suc n) (record { at = at; left = origin_spelling o ++ rest }) ≡ origin_fields n (record { at = at + 23; left = rest })
unfolding origin_fields
one_origin n at o rest = ap (λ (w : Way). and_then w (origin_fields n)) (field_at 23 is_origin at (origin_spelling o) rest (length-origin o) (good_origin o))

-- so many origins are passed
good_origins : (at : ℕ) (os : List Origin) (rest : List ℕ) → origin_fields (length os) (record { at = at; left = flat_map origin_spelling os ++ rest })
    ≡ Behind (record { at = at + length (flat_map origin_spelling os); left = rest })
unfolding origin_fields
good_origins at [] rest = let e : at ≡ at + 0 = omega arith in (λ i. Behind (record { at = e i; left = rest }))
good_origins at (o ∷ os) rest =
    let others : List ℕ = flat_map origin_spelling os in
    let e : at + 23 + length others ≡ at + length (origin_spelling o ++ others) = omega (arith, length-append (origin_spelling o) others, length-origin o) in
    (λ i. origin_fields (suc (length os)) (record { at = at; left = append_assoc (origin_spelling o) others rest i }))
    ∙ one_origin (length os) at o (others ++ rest) ∙ good_origins (at + 23) os rest ∙ (λ i. Behind (record { at = e i; left = rest }))

pub end_fits : (family : Family) (n : ℕ) → n < family_end family → n < 2 ^ 128
end_fits Asn n lt = omega arith
end_fits V4 n lt = omega arith
end_fits V6 n lt = lt

first_of : (r : Range) → r.first < 2 ^ 128 → front_128 (range_spelling r) ≡ r.first
unfolding range_spelling
first_of r fits = front_128-bytes r.first (bytes_128 r.last) fits

behind_first : (a : ℕ) (rest : List ℕ) → drop 16 (bytes_128 a ++ rest) ≡ rest
unfolding bytes_128
behind_first a rest = refl

last_in : (r : Range) (rest : List ℕ) → r.last < 2 ^ 128 → front_128 (drop 16 (range_spelling r ++ rest)) ≡ r.last
unfolding range_spelling
last_in r rest fits =
    ap (λ (b : List ℕ). front_128 (drop 16 b)) (append_assoc (bytes_128 r.first) (bytes_128 r.last) rest)
    ∙ ap front_128 (behind_first r.first (bytes_128 r.last ++ rest)) ∙ front_128-bytes r.last rest fits

last_of : (r : Range) → r.last < 2 ^ 128 → front_128 (drop 16 (range_spelling r)) ≡ r.last
last_of r fits = ap (λ (b : List ℕ). front_128 (drop 16 b)) (sym (append-nil (range_spelling r))) ∙ last_in r [] fits

good_range : (family : Family) (low : ℕ) (r : Range) → low ≤ r.first → r.last < family_end family → is_range family low (range_spelling r) ≡ true
good_range family low r behind within =
    let ordered : r.first ≤ r.last = r.ordered in
    let fits : r.last < 2 ^ 128 = end_fits family r.last within in
    let first = first_of r (omega arith) in
    let last = last_of r fits in
    rw (first, last) (tests low r.first r.last (family_end family) behind ordered within)
  where
    tests : (a b c d : ℕ) → a ≤ b → b ≤ c → c < d → (nat_le a b && nat_le b c && nat_lt c d) ≡ true
    tests a b c d x y z = grind (arith, nat_tests)

one_range : (family : Family) (n low at : ℕ) (r : Range) (rest : List ℕ) → low ≤ r.first → r.last < family_end family
    → range_fields family (suc n) low (record { at = at; left = range_spelling r ++ rest }) ≡ range_fields family n (r.last + 2) (record { at = at + 32; left = rest })
unfolding range_fields
one_range family n low at r rest behind within =
    let last = last_in r rest (end_fits family r.last within) in
    ap (λ (w : Way). and_then w (range_fields family n (front_128 (drop 16 (range_spelling r ++ rest)) + 2)))
    (field_at 32 (is_range family low) at (range_spelling r) rest (length-range r) (good_range family low r behind within))
    ∙ ap (λ (m : ℕ). range_fields family n (m + 2) (record { at = at + 32; left = rest })) last

pub head_within : (r : Range) (rs : List Range) (end : ℕ) → ((n : ℕ) → any_spans (r ∷ rs) n ≡ true → n < end) → r.last < end
head_within r rs end within =
    let ordered : r.first ≤ r.last = r.ordered in
    let last = within r.last in
    grind (arith, nat_tests, last)

pub tail_within : (r : Range) (rs : List Range) (end : ℕ) → ((n : ℕ) → any_spans (r ∷ rs) n ≡ true → n < end) → (n : ℕ) → any_spans rs n ≡ true → n < end
tail_within r rs end within n has = let whole = within n in grind (arith, nat_tests, whole)

-- so many ranges are passed
good_ranges : (family : Family) (low at : ℕ) (rs : List Range) (rest : List ℕ) → RisesFrom low rs → ((n : ℕ) → any_spans rs n ≡ true → n < family_end family)
    → range_fields family (length rs) low (record { at = at; left = flat_map range_spelling rs ++ rest }) ≡ Behind (record { at = at + length (flat_map range_spelling rs); left = rest })
unfolding range_fields
good_ranges family low at [] rest rises within = let e : at ≡ at + 0 = omega arith in (λ i. Behind (record { at = e i; left = rest }))
good_ranges family low at (r ∷ rs) rest rises within =
    let others : List ℕ = flat_map range_spelling rs in
    let e : at + 32 + length others ≡ at + length (range_spelling r ++ others) = omega (arith, length-append (range_spelling r) others, length-range r) in
    (λ i. range_fields family (suc (length rs)) low (record { at = at; left = append_assoc (range_spelling r) others rest i }))
    ∙ one_range family (length rs) low at r (others ++ rest) rises.0 (head_within r rs (family_end family) within)
    ∙ good_ranges family (r.last + 2) (at + 32) rs rest rises.1 (tail_within r rs (family_end family) within) ∙ (λ i. Behind (record { at = e i; left = rest }))

name_length_good : (n : ℕ) → 1 ≤ n → n ≤ 64 → is_name_length (bytes_32 n) ≡ true
name_length_good n some short =
    let is = front_32-alone n (omega arith) in
    rw is (tests n some short)
  where
    tests : (n : ℕ) → 1 ≤ n → n ≤ 64 → (nat_le 1 n && nat_le n 64) ≡ true
    tests n some short = grind (arith, nat_tests)

-- a count at the front, and what it says
counted : (way : ℕ → Place → Way) (n at size : ℕ) (rule : List ℕ → Bool) (text rest : List ℕ) → n < 2 ^ 32 → rule (bytes_32 n) ≡ true
    → way n (record { at = at + 4; left = text ++ rest }) ≡ Behind (record { at = at + 4 + length text; left = rest })
    → and_then (field 4 rule (record { at = at; left = bytes_32 n ++ text ++ rest })) (way (front_32 (bytes_32 n ++ text ++ rest)))
    ≡ Behind (record { at = at + length (bytes_32 n ++ text); left = rest })
counted way n at size rule text rest fits good then =
    let whole : bytes_32 n ++ text ++ rest ≡ bytes_32 n ++ (text ++ rest) = append_assoc (bytes_32 n) text rest in
    let e : at + 4 + length text ≡ at + length (bytes_32 n ++ text) = omega (arith, length-append (bytes_32 n) text, length-bytes_32 n) in
    let count : front_32 (bytes_32 n ++ (text ++ rest)) ≡ n = front_32-bytes n (text ++ rest) fits in
    (λ i. and_then (field 4 rule (record { at = at; left = whole i })) (way (front_32 (whole i))))
    ∙ ap (λ (m : ℕ). and_then (field 4 rule (record { at = at; left = bytes_32 n ++ (text ++ rest) })) (way m)) count
    ∙ behind_later _ (way n) (record { at = at + 4; left = text ++ rest }) (record { at = at + 4 + length text; left = rest })
    (field_at 4 rule at (bytes_32 n) (text ++ rest) (length-bytes_32 n) good) then
    ∙ (λ i. Behind (record { at = e i; left = rest }))

pub good_part : (one : Part) (at : ℕ) (rest : List ℕ) → IsSound one → part (kind_of one) (record { at = at; left = part_spelling one ++ rest })
    ≡ Behind (record { at = at + length (part_spelling one); left = rest })
unfolding part part_spelling kind_of
good_part (TheNumber n) at rest sound =
    let e : at + 4 ≡ at + length (bytes_32 n) = omega (arith, length-bytes_32 n) in
    field_at 4 is_any at (bytes_32 n) rest (length-bytes_32 n) refl ∙ (λ i. Behind (record { at = e i; left = rest }))
good_part (TheName name) at rest sound =
    let some = sound.not_empty in
    let short = sound.short in
    counted (λ (n : ℕ). field n is_name_text) (length name) at 0 is_name_length name rest (omega arith) (name_length_good (length name) (omega arith) short)
    (field_at (length name) is_name_text (at + 4) name rest refl (name_passes name sound))
good_part (TheOrigins os) at rest sound = counted origin_fields (length os) at 0 is_any (flat_map origin_spelling os) rest sound refl (good_origins (at + 4) os rest)
good_part (TheRanges set) at rest sound =
    counted (λ (n : ℕ). range_fields set.family n 0) (length set.ranges) at 0 is_any (flat_map range_spelling set.ranges) rest sound.1 refl
    (good_ranges set.family 0 (at + 4) set.ranges rest sound.0.rise sound.0.within)

good_parts : (ps : List Part) (at : ℕ) (rest : List ℕ) → AllByRecursion IsSound ps → parts (map kind_of ps) (record { at = at; left = flat_map part_spelling ps ++ rest })
    ≡ Behind (record { at = at + length (flat_map part_spelling ps); left = rest })
good_parts [] at rest sound = let e : at ≡ at + 0 = omega arith in (λ i. Behind (record { at = e i; left = rest }))
good_parts (p ∷ ps) at rest sound =
    let others : List ℕ = flat_map part_spelling ps in
    let e : at + length (part_spelling p) + length others ≡ at + length (part_spelling p ++ others) = omega (arith, length-append (part_spelling p) others) in
    (λ i. parts (map kind_of (p ∷ ps)) (record { at = at; left = append_assoc (part_spelling p) others rest i }))
    ∙ behind_later _ (parts (map kind_of ps)) (record { at = at + length (part_spelling p); left = others ++ rest }) (record { at = at + length (part_spelling p) + length others; left = rest })
    (good_part p at (others ++ rest) sound.0) (good_parts ps (at + length (part_spelling p)) rest sound.1)
    ∙ (λ i. Behind (record { at = e i; left = rest }))

granted_kinds : (grant : Resources) → map kind_of (granted grant) ≡ grant_kinds
unfolding kind_of
granted_kinds grant = λ i. RangesPart (grant.asn_family i) ∷ RangesPart (grant.v4_family i) ∷ RangesPart (grant.v6_family i) ∷ []

-- each row is one of the table
pub row_kinds : (command : Command) → kinds_of (row command).0 ≡ Some (map kind_of (row command).1)
unfolding kind_of
row_kinds (Add name signer) = refl
row_kinds Delete = refl
row_kinds (AddParent parent) = refl
row_kinds (AddChild child grant) = ap (λ (ks : List Kind). Some (NamePart ∷ ks)) (sym (granted_kinds grant))
row_kinds (UpdateChild child grant) = ap (λ (ks : List Kind). Some (NamePart ∷ ks)) (sym (granted_kinds grant))
row_kinds (RemoveChild child) = refl
row_kinds (UpdateRoas added removed) = refl
row_kinds (SuspendChild child) = refl
row_kinds (UnsuspendChild child) = refl
row_kinds InitRoll = refl
row_kinds ActivateRoll = refl

pub spelled_good : (command : Command) → IsRecordable command → first_bad (spelling command) ≡ None
unfolding spelling fields
spelled_good command sound =
    let texts : List ℕ = flat_map part_spelling (row command).1 in
    let way : parts_if (kinds_of (row command).0) (record { at = 1; left = texts }) ≡ Behind (record { at = 1 + length texts; left = [] }) =
    (λ i. parts_if (row_kinds command i) (record { at = 1; left = sym (append-nil texts) i })) ∙ good_parts (row command).1 1 [] sound in
    ap bad_of way
