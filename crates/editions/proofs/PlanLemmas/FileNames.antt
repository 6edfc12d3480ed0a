-- What an edition wants under a key can be listed: a file in the folder of the key's authority, with a name of hex, a dot and
-- three letters.
use Rattle.std.specs.Prelude.{slice_index, nat_lt, nat_eq, codes}
use Rattle.std.specs.Cmp.Lexicographic.{pointwise}
use Rattle.std.proofs.lemmas.Cmp.{nat_list_eq_equiv}
use Rattle.issue_drafts.specs.Files.{IsListable, name_in}
use Rattle.std.proofs.lemmas.Slice.Eq.{starts_is}
use Rattle.std.proofs.Common.{◌≡◌, ℕ, suc, ◌+◌, ◌-◌, ◌*◌, ◌/◌, ◌%◌, ◌<◌, true, ◌&&◌, eqb, List, [], ◌∷◌, ◌++◌, length, take, drop, get_or, decimal, refl, sym, ap, subst, arith}
use Rattle.std.specs.Char.{is_ascii_alphabetic}
use Rattle.std.specs.List.{list_all}
use Rattle.std.proofs.lemmas.Bool.{and_from}
use Rattle.std.proofs.lemmas.Bool.Decides.{nat_tests, Decides-eqb}
use Rattle.std.proofs.lemmas.List.{length-append}
use Rattle.std.proofs.lemmas.List.Sums.{AllPass-from_list_all}
use Rattle.std.proofs.Math.Seq.{take-append_seam, drop-append_seam, drop-append-add, get_or-append_seam}
use Rattle.hex.specs.Hex.{encode_with, encode_lower, lower_digits}
use Rattle.hex.proofs.HexLemmas.{length-encode_with}
use Rattle.origins.specs.declared.Origin.{Origin}
use Rattle.origins.specs.Origin.{address_text, maximum_text, origin_text}
use Rattle.payloads.specs.ManifestFormats.{is_stem_byte, has_dot_at, is_name}
use Rattle.cert_obj.specs.laws.IdentifierLaws.{sha1-length, sha1-bytes}
use Rattle.issue_keys.specs.Keys.{id_of}
use Rattle.key_roll.specs.declared.rows.KeyRow.{KeyRow}
use Rattle.origins.specs.laws.TextLaws.{text-ascii}

abbrev pub AreSmall : List ℕ → Type 0
AreSmall bytes = (i : ℕ) → slice_index bytes i < 256

-- ---- the text of an origin

some-text : (origin : Origin) → 0 < length (origin_text origin)
some-text origin =
    let front : List ℕ = address_text origin.prefix.v6 origin.prefix.address ++ codes "/"
    ++ decimal origin.prefix.length ++ maximum_text origin.prefix.length origin.max in
    let one = length-append front (codes " => ") in
    let two = length-append (front ++ codes " => ") (decimal origin.asn) in
    omega (arith, one, two)

-- ---- hex digits, a dot and three letters

digit-stem : (i : ℕ) → i < 16 → is_stem_byte (slice_index lower_digits i) ≡ true
digit-stem i lt = AllPass-from_list_all is_stem_byte lower_digits refl i 0 lt

hex-stem : (bytes : List ℕ) → AreSmall bytes → list_all is_stem_byte (encode_lower bytes) ≡ true
unfolding encode_with
hex-stem [] small = refl
hex-stem (b ∷ bytes) small =
    let byte : b < 256 = small 0 in
    let high = digit-stem (b / 16) (omega arith) in
    let low = digit-stem (b % 16) (omega arith) in
    and_from (is_stem_byte (slice_index lower_digits (b / 16)))
    (is_stem_byte (slice_index lower_digits (b % 16)) && list_all is_stem_byte (encode_with lower_digits bytes)) high
    (and_from (is_stem_byte (slice_index lower_digits (b % 16))) (list_all is_stem_byte (encode_with lower_digits bytes)) low
    (hex-stem bytes (λ i. small (suc i))))

-- A stem, a dot (46) and three letters.
named : (stem letters : List ℕ) → 0 < length stem → length letters ≡ 3 → list_all is_stem_byte stem ≡ true
    → list_all is_ascii_alphabetic letters ≡ true → is_name (stem ++ 46 ∷ letters) ≡ true
unfolding is_name
named stem letters some three good alphabetic =
    let whole : List ℕ = stem ++ 46 ∷ letters in
    let long : length whole ≡ length stem + suc (length letters) = length-append stem (46 ∷ letters) in
    let at : length stem ≡ length whole - 4 = omega arith in
    let longer : nat_lt 4 (length whole) ≡ true = grind (arith, nat_tests) in
    let front : list_all is_stem_byte (take (length stem) whole) ≡ true =
    subst (λ (l : List ℕ). list_all is_stem_byte l ≡ true) (sym (take-append_seam stem (46 ∷ letters))) good in
    let dot : eqb (get_or whole (length stem) 0) 46 ≡ true =
    ap (λ (b : ℕ). eqb b 46) (get_or-append_seam stem 46 letters 0) in
    let behind : list_all is_ascii_alphabetic (drop (length stem + 1) whole) ≡ true =
    subst (λ (l : List ℕ). list_all is_ascii_alphabetic l ≡ true) (sym (drop-append-add stem (46 ∷ letters) 1)) alphabetic in
    and_from (nat_lt 4 (length whole)) (has_dot_at (length whole - 4) whole) longer
    (subst (λ (n : ℕ). has_dot_at n whole ≡ true) at
    (and_from (list_all is_stem_byte (take (length stem) whole) && eqb (get_or whole (length stem) 0) 46)
    (list_all is_ascii_alphabetic (drop (length stem + 1) whole))
    (and_from (list_all is_stem_byte (take (length stem) whole)) (eqb (get_or whole (length stem) 0) 46) front dot) behind))

hex-name : (bytes letters : List ℕ) → 0 < length bytes → AreSmall bytes → length letters ≡ 3
    → list_all is_ascii_alphabetic letters ≡ true → is_name (encode_lower bytes ++ 46 ∷ letters) ≡ true
hex-name bytes letters some small three alphabetic =
    let long : length (encode_lower bytes) ≡ 2 * length bytes = length-encode_with lower_digits bytes in
    named (encode_lower bytes) letters (omega arith) three (hex-stem bytes small) alphabetic

-- ---- the names of an edition's files

-- A key's identifier in hex, with such an ending.
pub key-name : (key : KeyRow) (letters : List ℕ) → length letters ≡ 3 → list_all is_ascii_alphabetic letters ≡ true
    → is_name (encode_lower (id_of key) ++ 46 ∷ letters) ≡ true
key-name key letters three alphabetic =
    let long = sha1-length key.key.bytes in
    hex-name (id_of key) letters (omega (arith, long)) (sha1-bytes key.key.bytes) three alphabetic

-- The text of an origin.
pub origin-name : (origin : Origin) → is_name (encode_lower (origin_text origin) ++ codes ".roa") ≡ true
origin-name origin =
    hex-name (origin_text origin) (codes "roa") (some-text origin)
    (λ i. let below = text-ascii origin i in omega (arith, below)) refl refl

-- ---- folders

-- A file of a folder.
pub in-folder : (folder file : List ℕ) → is_name file ≡ true → IsListable folder (folder ++ file)
in-folder folder file named = record {
  inside = subst (λ (l : List ℕ). pointwise nat_eq folder l ≡ true) (sym (take-append_seam folder file)) (nat_list_eq_equiv.refl folder);
  name = subst (λ (l : List ℕ). is_name l ≡ true) (sym (drop-append_seam folder file)) named;
}

-- Where it is listed, a URI is the folder with the name.
pub whole-uri : (folder uri : List ℕ) → IsListable folder uri → uri ≡ folder ++ name_in folder uri
whole-uri folder uri is = (starts_is Decides-eqb uri folder true (sym is.inside)).0 refl
