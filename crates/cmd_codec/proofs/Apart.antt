-- No two commands have one spelling.
use Rattle.std.proofs.Common.{◌≡◌, ℕ, ◌<◌, ◌≤◌, ◌^◌, Bool, true, false, List, [], ◌∷◌, ◌++◌, length, map, get_or, take, drop, refl, sym, ap, ◌∙◌, append_assoc, arith}
use Rattle.std.proofs.Common.{Some}
use Rattle.std.specs.List.{flat_map, AllByRecursion}
use Rattle.std.proofs.Math.Seq.{take-append_seam, drop-append_seam}
use Rattle.origins.specs.laws.Same.{same_prefix, same_origin}
use Rattle.origins.specs.declared.Origin.{Origin}
use Rattle.res_sets.specs.declared.numbers.Family.{Family}
use Rattle.res_sets.specs.declared.numbers.Range.{Range}
use Rattle.res_sets.specs.declared.holdings.Resources.{Resources}
use Rattle.res_sets.specs.Numbers.{family_end, any_spans}
use Rattle.res_sets.specs.laws.SetLaws.{same_range, same_resources}
use Rattle.authority_book.specs.declared.commands.Command.{Command}
use Rattle.authority_book.specs.declared.commands.Command.TheVariants.{Add, Delete, AddParent, AddChild, UpdateChild, RemoveChild, SuspendChild, UnsuspendChild, UpdateRoas, InitRoll, ActivateRoll}
use Rattle.cmd_codec.specs.Spelling.{Part, IsSound, IsRecordable, row, granted, spelling, family_byte, bytes_32, bytes_128, origin_spelling, range_spelling, part_spelling}
use Rattle.cmd_codec.specs.Spelling.Part.{TheNumber, TheName, TheOrigins, TheRanges}
use Rattle.cmd_codec.specs.Fault.{Kind, kinds_of}
use Rattle.cmd_codec.proofs.Fronts.{bytes_32-same, bytes_128-same, length-bytes_32, length-bytes_128}
use Rattle.cmd_codec.proofs.Good.{kind_of, row_kinds, length-origin, length-range, address_fits, end_fits, head_within, tail_within}

-- Texts of one length before other bytes.
same_front : (a b r s : List ℕ) → length a ≡ length b → a ++ r ≡ b ++ s → (a ≡ b) × (r ≡ s)
same_front a b r s size e = (
  sym (take-append_seam a r) ∙ (λ i. take (size i) (e i)) ∙ take-append_seam b s,
  sym (drop-append_seam a r) ∙ (λ i. drop (size i) (e i)) ∙ drop-append_seam b s,
)

-- Items of one size, each spelled apart from others.
same_items : {A : Type 0} (f : A → List ℕ) (Good : A → Type 0) (size : ℕ) → ((x : A) → length (f x) ≡ size) → ((x y : A) → Good x → Good y → f x ≡ f y → x ≡ y)
    → (xs ys : List A) → length xs ≡ length ys → AllByRecursion Good xs → AllByRecursion Good ys → (r s : List ℕ) → flat_map f xs ++ r ≡ flat_map f ys ++ s → (xs ≡ ys) × (r ≡ s)
same_items f Good size sizes apart [] [] len good other r s e = (refl, e)
same_items f Good size sizes apart [] (y ∷ ys) len good other r s e = absurd (omega arith)
same_items f Good size sizes apart (x ∷ xs) [] len good other r s e = absurd (omega arith)
same_items f Good size sizes apart (x ∷ xs) (y ∷ ys) len good other r s e =
    let whole : f x ++ (flat_map f xs ++ r) ≡ f y ++ (flat_map f ys ++ s) = sym (append_assoc (f x) (flat_map f xs) r) ∙ e ∙ append_assoc (f y) (flat_map f ys) s in
    let front = same_front (f x) (f y) (flat_map f xs ++ r) (flat_map f ys ++ s) (sizes x ∙ sym (sizes y)) whole in
    let one : x ≡ y = apart x y good.0 other.0 front.0 in
    let rest = same_items f Good size sizes apart xs ys (omega arith) good.1 other.1 r s front.1 in
    ((λ i. one i ∷ rest.0 i), rest.1)

family_apart : (a b : Bool) → family_byte a ≡ family_byte b → a ≡ b
family_apart true true e = refl
family_apart true false e = absurd (omega arith)
family_apart false true e = absurd (omega arith)
family_apart false false e = refl

-- what 23 bytes hold
middle_of : (b a l m n : ℕ) → take 16 (drop 1 (b ∷ bytes_128 a ++ l ∷ m ∷ bytes_32 n)) ≡ bytes_128 a
unfolding bytes_128
middle_of b a l m n = refl

length_of : (b a l m n : ℕ) → get_or (b ∷ bytes_128 a ++ l ∷ m ∷ bytes_32 n) 17 0 ≡ l
unfolding bytes_128
length_of b a l m n = refl

max_of : (b a l m n : ℕ) → get_or (b ∷ bytes_128 a ++ l ∷ m ∷ bytes_32 n) 18 0 ≡ m
unfolding bytes_128
max_of b a l m n = refl

last_of : (b a l m n : ℕ) → drop 19 (b ∷ bytes_128 a ++ l ∷ m ∷ bytes_32 n) ≡ bytes_32 n
unfolding bytes_128
last_of b a l m n = refl

same_origins : (o p : Origin) → Unit {0} → Unit {0} → origin_spelling o ≡ origin_spelling p → o ≡ p
unfolding origin_spelling
same_origins o p x y e =
    let b = family_byte o.prefix.v6 in
    let d = family_byte p.prefix.v6 in
    let v6 : o.prefix.v6 ≡ p.prefix.v6 = family_apart o.prefix.v6 p.prefix.v6 (ap (λ (t : List ℕ). get_or t 0 0) e) in
    let high : bytes_128 o.prefix.address ≡ bytes_128 p.prefix.address =
    sym (middle_of b o.prefix.address o.prefix.length o.max o.asn) ∙ ap (λ (t : List ℕ). take 16 (drop 1 t)) e ∙ middle_of d p.prefix.address p.prefix.length p.max p.asn in
    let address : o.prefix.address ≡ p.prefix.address =
    bytes_128-same o.prefix.address p.prefix.address (address_fits o.prefix.v6 o.prefix.address o.prefix.prefix.fits) (address_fits p.prefix.v6 p.prefix.address p.prefix.prefix.fits) high in
    let len : o.prefix.length ≡ p.prefix.length = sym (length_of b o.prefix.address o.prefix.length o.max o.asn) ∙ ap (λ (t : List ℕ). get_or t 17 0) e ∙ length_of d p.prefix.address p.prefix.length p.max p.asn in
    let max : o.max ≡ p.max = sym (max_of b o.prefix.address o.prefix.length o.max o.asn) ∙ ap (λ (t : List ℕ). get_or t 18 0) e ∙ max_of d p.prefix.address p.prefix.length p.max p.asn in
    let low : bytes_32 o.asn ≡ bytes_32 p.asn = sym (last_of b o.prefix.address o.prefix.length o.max o.asn) ∙ ap (λ (t : List ℕ). drop 19 t) e ∙ last_of d p.prefix.address p.prefix.length p.max p.asn in
    same_origin o p (same_prefix o.prefix p.prefix v6 address len) max (bytes_32-same o.asn p.asn o.number p.number low)

any_origins : (os : List Origin) → AllByRecursion (λ (o : Origin). Unit {0}) os
any_origins [] = tt
any_origins (o ∷ os) = (tt, any_origins os)

same_ranges : (r s : Range) → r.last < 2 ^ 128 → s.last < 2 ^ 128 → range_spelling r ≡ range_spelling s → r ≡ s
unfolding range_spelling
same_ranges r s r_fits s_fits e =
    let both = same_front (bytes_128 r.first) (bytes_128 s.first) (bytes_128 r.last) (bytes_128 s.last) (length-bytes_128 r.first ∙ sym (length-bytes_128 s.first)) e in
    let r_ordered : r.first ≤ r.last = r.ordered in
    let s_ordered : s.first ≤ s.last = s.ordered in
    same_range r s (bytes_128-same r.first s.first (omega arith) (omega arith) both.0) (bytes_128-same r.last s.last r_fits s_fits both.1)

ranges_fit : (family : Family) (rs : List Range) → ((n : ℕ) → any_spans rs n ≡ true → n < family_end family) → AllByRecursion (λ (r : Range). r.last < 2 ^ 128) rs
ranges_fit family [] within = tt
ranges_fit family (r ∷ rs) within = (end_fits family r.last (head_within r rs (family_end family) within), ranges_fit family rs (tail_within r rs (family_end family) within))

-- a count before other bytes
same_counts : (n m : ℕ) (a b r s : List ℕ) → n < 2 ^ 32 → m < 2 ^ 32 → bytes_32 n ++ a ++ r ≡ bytes_32 m ++ b ++ s → (n ≡ m) × (a ++ r ≡ b ++ s)
same_counts n m a b r s n_fits m_fits e =
    let both = same_front (bytes_32 n) (bytes_32 m) (a ++ r) (b ++ s) (length-bytes_32 n ∙ sym (length-bytes_32 m)) (sym (append_assoc (bytes_32 n) a r) ∙ e ∙ append_assoc (bytes_32 m) b s) in
    (bytes_32-same n m n_fits m_fits both.0, both.1)

same_part : (a b : Part) (r s : List ℕ) → kind_of a ≡ kind_of b → IsSound a → IsSound b → part_spelling a ++ r ≡ part_spelling b ++ s → (a ≡ b) × (r ≡ s)
unfolding kind_of part_spelling
same_part (TheNumber n) (TheNumber m) r s kind x y e =
    let both = same_front (bytes_32 n) (bytes_32 m) r s (length-bytes_32 n ∙ sym (length-bytes_32 m)) e in
    (ap (λ (k : ℕ). TheNumber k) (bytes_32-same n m x y both.0), both.1)
same_part (TheName a) (TheName b) r s kind x y e =
    let a_short = x.short in
    let b_short = y.short in
    let both = same_counts (length a) (length b) a b r s (omega arith) (omega arith) e in
    let names = same_front a b r s both.0 both.1 in
    (ap (λ (t : List ℕ). TheName t) names.0, names.1)
same_part (TheOrigins a) (TheOrigins b) r s kind x y e =
    let both = same_counts (length a) (length b) (flat_map origin_spelling a) (flat_map origin_spelling b) r s x y e in
    let lists = same_items origin_spelling (λ (o : Origin). Unit {0}) 23 length-origin same_origins a b both.0 (any_origins a) (any_origins b) r s both.1 in
    (ap (λ (os : List Origin). TheOrigins os) lists.0, lists.1)
same_part (TheRanges a) (TheRanges b) r s kind x y e =
    let family : a.family ≡ b.family = cc in
    let both = same_counts (length a.ranges) (length b.ranges) (flat_map range_spelling a.ranges) (flat_map range_spelling b.ranges) r s x.1 y.1 e in
    let lists = same_items range_spelling (λ (q : Range). q.last < 2 ^ 128) 32 length-range same_ranges a.ranges b.ranges both.0
    (ranges_fit a.family a.ranges x.0.within) (ranges_fit b.family b.ranges y.0.within) r s both.1 in
    ((λ i. TheRanges (record { family = family i; ranges = lists.0 i })), lists.1)
same_part a b r s kind x y e = absurd (cc)

same_parts : (ps qs : List Part) (r s : List ℕ) → map kind_of ps ≡ map kind_of qs → AllByRecursion IsSound ps → AllByRecursion IsSound qs → flat_map part_spelling ps ++ r ≡ flat_map part_spelling qs ++ s → ps ≡ qs
same_parts [] [] r s kinds x y e = refl
same_parts [] (b ∷ qs) r s kinds x y e = absurd (cc)
same_parts (a ∷ ps) [] r s kinds x y e = absurd (cc)
same_parts (a ∷ ps) (b ∷ qs) r s kinds x y e =
    let head : kind_of a ≡ kind_of b = cc in
    let tail : map kind_of ps ≡ map kind_of qs = cc in
    let whole : part_spelling a ++ (flat_map part_spelling ps ++ r) ≡ part_spelling b ++ (flat_map part_spelling qs ++ s) =
    sym (append_assoc (part_spelling a) (flat_map part_spelling ps) r) ∙ e ∙ append_assoc (part_spelling b) (flat_map part_spelling qs) s in
    let one = same_part a b (flat_map part_spelling ps ++ r) (flat_map part_spelling qs ++ s) head x.0 y.0 whole in
    let rest = same_parts ps qs r s tail x.1 y.1 one.1 in
    (λ i. one.0 i ∷ rest i)

same_name : (a b : List ℕ) (r s : List Part) → TheName a ∷ r ≡ TheName b ∷ s → (a ≡ b) × (r ≡ s)
same_name a b r s e = (cc, cc)

same_grants : (g h : Resources) → granted g ≡ granted h → g ≡ h
same_grants g h e =
    let a : g.asn ≡ h.asn = cc in
    let b : g.v4 ≡ h.v4 = cc in
    let d : g.v6 ≡ h.v6 = cc in
    same_resources g h a b d

-- a command is its row
same_rows : (one other : Command) → (row one).0 ≡ (row other).0 → (row one).1 ≡ (row other).1 → one ≡ other
same_rows (Add n s) (Add m t) first parts = let a : n ≡ m = cc in let b : s ≡ t = cc in (λ i. Add (a i) (b i))
same_rows Delete Delete first parts = refl
same_rows (AddParent n) (AddParent m) first parts = ap (λ (t : List ℕ). AddParent t) (same_name n m [] [] parts).0
same_rows (AddChild n g) (AddChild m h) first parts =
    let both = same_name n m (granted g) (granted h) parts in
    let grants = same_grants g h both.1 in
    (λ i. AddChild (both.0 i) (grants i))
same_rows (UpdateChild n g) (UpdateChild m h) first parts =
    let both = same_name n m (granted g) (granted h) parts in
    let grants = same_grants g h both.1 in
    (λ i. UpdateChild (both.0 i) (grants i))
same_rows (RemoveChild n) (RemoveChild m) first parts = ap (λ (t : List ℕ). RemoveChild t) (same_name n m [] [] parts).0
same_rows (UpdateRoas a b) (UpdateRoas d e) first parts = let x : a ≡ d = cc in let y : b ≡ e = cc in (λ i. UpdateRoas (x i) (y i))
same_rows (SuspendChild n) (SuspendChild m) first parts = ap (λ (t : List ℕ). SuspendChild t) (same_name n m [] [] parts).0
same_rows (UnsuspendChild n) (UnsuspendChild m) first parts = ap (λ (t : List ℕ). UnsuspendChild t) (same_name n m [] [] parts).0
same_rows InitRoll InitRoll first parts = refl
same_rows ActivateRoll ActivateRoll first parts = refl
same_rows one other first parts = absurd (omega arith)

some_same : (a b : List Kind) → Some a ≡ Some b → a ≡ b
some_same a b e = cc

pub spelling_apart : (one other : Command) → IsRecordable one → IsRecordable other → spelling one ≡ spelling other → one ≡ other
unfolding spelling
spelling_apart one other x y e =
    let first : (row one).0 ≡ (row other).0 = ap (λ (t : List ℕ). get_or t 0 0) e in
    let rest : flat_map part_spelling (row one).1 ++ [] ≡ flat_map part_spelling (row other).1 ++ [] = ap (λ (t : List ℕ). drop 1 t ++ []) e in
    let kinds : map kind_of (row one).1 ≡ map kind_of (row other).1 =
    some_same _ _ (sym (row_kinds one) ∙ ap kinds_of first ∙ row_kinds other) in
    same_rows one other first (same_parts (row one).1 (row other).1 [] [] kinds x y rest)
