-- The URIs of the site are ASCII, and not empty.
use Rattle.std.proofs.Common.{◌≡◌, ℕ, zero, suc, ◌<◌, true, List, [], ◌∷◌, ◌++◌, codes, refl, ◌∙◌, arith}
use Rattle.std.specs.Str.{IsAscii}
use Rattle.std.specs.List.{list_all}
use Rattle.std.proofs.lemmas.Bool.{and_parts, and_from, ltb-true}
use Rattle.std.proofs.lemmas.Bool.Decides.{nat_tests}
use Rattle.std.proofs.lemmas.List.Folds.{list_all-append}
use Rattle.std.proofs.lemmas.Str.Ascii.{IsAscii-from_all}
use Rattle.hex.specs.Hex.{encode_lower, lower_digits}
use Rattle.hex.proofs.HexLemmas.{IsAscii-encode_with}
use Rattle.names.specs.Name.{IsName, is_name_byte}
use Rattle.key_ids.specs.Base.{IsBase, is_base_byte}
use Rattle.key_ids.specs.Uris.{Bases, anchor_uri, folder_of, file_uri, cert_uri, crl_uri, manifest_uri, notify_uri}
use Rattle.cert_obj.specs.Values.{is_ascii_byte, is_uri}
use Rattle.origins.specs.declared.Origin.{Origin}
use Rattle.origins.specs.Origin.{origin_text}
use Rattle.issue_values.specs.Publishers.{roa_uri}

-- All bytes are ASCII.
abbrev pub IsPlain : List ℕ → Type 0
IsPlain bytes = list_all is_ascii_byte bytes ≡ true

below-test : (b : ℕ) → b < 128 → is_ascii_byte b ≡ true
below-test b h = grind (arith, nat_tests)

plain-ascii : (bytes : List ℕ) → IsAscii bytes → IsPlain bytes
plain-ascii [] h = refl
plain-ascii (b ∷ bytes) h = and_from (is_ascii_byte b) (list_all is_ascii_byte bytes) (below-test b (h 0)) (plain-ascii bytes (λ i. h (suc i)))

ascii-plain : (bytes : List ℕ) → IsPlain bytes → IsAscii bytes
ascii-plain [] e i = omega arith
ascii-plain (b ∷ bytes) e zero = ltb-true b 128 (and_parts (is_ascii_byte b) (list_all is_ascii_byte bytes) e).0
ascii-plain (b ∷ bytes) e (suc i) = ascii-plain bytes (and_parts (is_ascii_byte b) (list_all is_ascii_byte bytes) e).1 i

pub plain-append : (xs ys : List ℕ) → IsPlain xs → IsPlain ys → IsPlain (xs ++ ys)
plain-append xs ys p q =
    list_all-append is_ascii_byte xs ys ∙ and_from (list_all is_ascii_byte xs) (list_all is_ascii_byte ys) p q

base-below : (c : ℕ) → is_base_byte c ≡ true → c < 128
base-below c is = grind (arith, nat_tests)

name-below : (c : ℕ) → is_name_byte c ≡ true → c < 128
name-below c is = grind (arith, nat_tests)

base-plain : (scheme text : List ℕ) → IsBase scheme text → IsPlain text
base-plain scheme text h = plain-ascii text (IsAscii-from_all text (λ k d within. base-below _ (h.plain k d within)))

name-plain : (text : List ℕ) → IsName text → IsPlain text
name-plain text h = plain-ascii text (IsAscii-from_all text (λ k d within. name-below _ (h.plain k d within)))

pub hex-plain : (bytes : List ℕ) → IsPlain (encode_lower bytes)
hex-plain bytes = plain-ascii (encode_lower bytes) (IsAscii-encode_with lower_digits bytes (ascii-plain lower_digits refl))

base-uri : (scheme text : List ℕ) → IsBase scheme text → is_uri text ≡ true
base-uri scheme [] h = let long = h.long in absurd (omega (arith, long))
base-uri scheme (c ∷ cs) h = base-plain scheme (c ∷ cs) h

-- A URI with ASCII behind it.
pub longer-uri : (xs ys : List ℕ) → is_uri xs ≡ true → IsPlain ys → is_uri (xs ++ ys) ≡ true
longer-uri [] ys is plain = absurd cc
longer-uri (x ∷ xs) ys is plain = plain-append (x ∷ xs) ys is plain

pub folder-uri : (site : Bases) (scheme name : List ℕ) → IsBase scheme site.rsync → IsName name → is_uri (folder_of site name) ≡ true
folder-uri site scheme name base is =
    longer-uri (site.rsync ++ name) (codes "/0/")
    (longer-uri site.rsync name (base-uri scheme site.rsync base) (name-plain name is)) refl

pub file-uri : (site : Bases) (scheme name file : List ℕ) → IsBase scheme site.rsync → IsName name → IsPlain file → is_uri (file_uri site name file) ≡ true
file-uri site scheme name file base is plain =
    longer-uri (folder_of site name) file (folder-uri site scheme name base is) plain

pub crl-uri : (site : Bases) (scheme name key : List ℕ) → IsBase scheme site.rsync → IsName name → is_uri (crl_uri site name key) ≡ true
crl-uri site scheme name key base is =
    file-uri site scheme name (encode_lower key ++ codes ".crl") base is
    (plain-append (encode_lower key) (codes ".crl") (hex-plain key) refl)

pub manifest-uri : (site : Bases) (scheme name key : List ℕ) → IsBase scheme site.rsync → IsName name → is_uri (manifest_uri site name key) ≡ true
manifest-uri site scheme name key base is =
    file-uri site scheme name (encode_lower key ++ codes ".mft") base is
    (plain-append (encode_lower key) (codes ".mft") (hex-plain key) refl)

pub notify-uri : (site : Bases) (scheme : List ℕ) → IsBase scheme site.rrdp → is_uri (notify_uri site) ≡ true
notify-uri site scheme base = longer-uri site.rrdp (codes "notification.xml") (base-uri scheme site.rrdp base) refl

pub anchor-uri : (site : Bases) (scheme : List ℕ) → IsBase scheme site.rsync → is_uri (anchor_uri site) ≡ true
anchor-uri site scheme base = longer-uri site.rsync (codes "ta.cer") (base-uri scheme site.rsync base) refl

pub cert-uri : (site : Bases) (scheme name key : List ℕ) → IsBase scheme site.rsync → IsName name → is_uri (cert_uri site name key) ≡ true
cert-uri site scheme name key base is =
    file-uri site scheme name (encode_lower key ++ codes ".cer") base is
    (plain-append (encode_lower key) (codes ".cer") (hex-plain key) refl)

pub roa-uri : (site : Bases) (scheme name : List ℕ) (origin : Origin) → IsBase scheme site.rsync → IsName name → is_uri (roa_uri site name origin) ≡ true
roa-uri site scheme name origin base is =
    file-uri site scheme name (encode_lower (origin_text origin) ++ codes ".roa") base is
    (plain-append (encode_lower (origin_text origin)) (codes ".roa") (hex-plain (origin_text origin)) refl)
