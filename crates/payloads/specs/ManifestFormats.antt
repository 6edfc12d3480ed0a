-- The body of a manifest (RFC 9286 section 4.2).
use Rattle.std.specs.Prelude.{◌≡◌, ℕ, ◌+◌, ◌-◌, ◌<◌, ◌^◌, Bool, true, ◌&&◌, ◌||◌, ◌==◌, nat_lt, List, length, take, drop, get_or, map}
use Rattle.std.specs.Char.{is_ascii_alphabetic, is_ascii_alphanumeric}
use Rattle.std.specs.List.{list_all}
use Rattle.std.specs.Cmp.Lexicographic.{slice_cmp}
use Rattle.std.specs.Ordering.{nat_cmp, is_lt}
use Rattle.std.specs.String.{string_bytes}
use Rattle.der.specs.Tags as tag
use Rattle.moments.specs.Civil.{IsMoment}
use Rattle.der.specs.Form.{Whole, Front}
use Rattle.der.specs.Forms.{content, within, sole, both, preceded, many, tested, placed, AreAll}
use Rattle.der.specs.Leaves.{number, octet_bits}
use Rattle.object_parts.specs.TimeFormats.{general_time}
use Rattle.object_parts.specs.FrameFormats.{identifier}
use Rattle.object_parts.specs.declared.identifiers.TheConstants.{SHA256}
use Rattle.payloads.specs.Order.{rises}
use Rattle.payloads.specs.declared.values.ListedFile.{ListedFile}

-- An ASCII letter, a digit, `-` (45) or `_` (95).
abbrev pub is_stem_byte : ℕ → Bool
is_stem_byte b = is_ascii_alphanumeric b || (b == 45) || (b == 95)

-- Such bytes up to a place, a dot (46) there, and letters behind it.
abbrev pub has_dot_at : ℕ → List ℕ → Bool
has_dot_at at bytes =
    list_all is_stem_byte (take at bytes) && (get_or bytes at 0 == 46)
    && list_all is_ascii_alphabetic (drop (at + 1) bytes)

-- The name of a file (RFC 9286 section 4.2.2): a stem of one byte or more, a dot and three letters.
unfoldable pub is_name : List ℕ → Bool
is_name bytes = nat_lt 4 (length bytes) && has_dot_at (length bytes - 4) bytes

abbrev pub name_content : Whole (List ℕ)
name_content = tested content is_name

abbrev pub file_name : Front (List ℕ)
file_name = within tag.ia5_string name_content

-- A name and the 32 bytes of a hash (RFC 9286 section 4.2.1), over the format of the name.
abbrev pub file_content : {A : Type 0} → Front A → Whole (A × List ℕ)
file_content name = both name (sole tag.bit_string (octet_bits 32))

abbrev pub file : {A : Type 0} → Front A → Front (A × List ℕ)
file name = within tag.sequence (file_content name)

-- The algorithm of the hashes, which is SHA-256, and the files (RFC 9286 section 4.2.1).
abbrev pub files : {A : Type 0} → Front A → Whole (List (A × List ℕ))
files name = preceded (identifier SHA256) (sole tag.sequence (many (file name)))

-- The number, the times of this update and the next one, and the files (RFC 9286 section 4.2.1).
-- The version is the default one, and so left out.
abbrev pub ManifestOf : Type 0 → Type 0
ManifestOf A = ℕ × (ℕ × (ℕ × List (A × List ℕ)))

abbrev pub manifest_number : {A : Type 0} → ManifestOf A → ℕ
manifest_number (number, (this_update, (next_update, files))) = number

abbrev pub this_update_of : {A : Type 0} → ManifestOf A → ℕ
this_update_of (number, (this_update, (next_update, files))) = this_update

abbrev pub next_update_of : {A : Type 0} → ManifestOf A → ℕ
next_update_of (number, (this_update, (next_update, files))) = next_update

abbrev pub listed_files : {A : Type 0} → ManifestOf A → List (A × List ℕ)
listed_files (number, (this_update, (next_update, files))) = files

unfoldable pub manifest_body : {A : Type 0} → Front A → Whole (ManifestOf A)
manifest_body name =
    sole tag.sequence (both number (both general_time (both general_time (files name))))

abbrev pub Manifest : Type 0
Manifest = ManifestOf (List ℕ)

-- A body whose names may stand in any order.
abbrev pub unordered_manifest : Whole Manifest
unordered_manifest = manifest_body file_name

-- The reading that gives with each name the place at which its element starts.
abbrev pub placed_name : Front (ℕ × List ℕ)
placed_name = placed file_name

abbrev pub placed_manifest : Whole (ManifestOf (ℕ × List ℕ))
placed_manifest = manifest_body placed_name

-- The order of names: that of their bytes.
abbrev pub is_name_below : List ℕ → List ℕ → Bool
is_name_below a b = is_lt (slice_cmp nat_cmp a b)

abbrev pub names : Manifest → List (List ℕ)
names value = map (λ file. file.0) (listed_files value)

abbrev pub is_rising_manifest : Manifest → Bool
is_rising_manifest value = rises is_name_below (names value)

pub record IsFile (file : List ℕ × List ℕ) : Type 0 where
  pub name : is_name file.0 ≡ true
  pub hash : length file.1 ≡ 32

-- Numbers of 64 bits, moments, and files whose names rise.
pub record IsManifest (value : Manifest) : Type 0 where
  pub number : manifest_number value < 2 ^ 64
  pub this_update : IsMoment (this_update_of value)
  pub next_update : IsMoment (next_update_of value)
  pub files : AreAll IsFile (listed_files value)
  pub rises : is_rising_manifest value ≡ true

abbrev pub manifest : Whole Manifest
manifest = record {
  good = IsManifest;
  spelling = unordered_manifest.spelling;
  read = (tested unordered_manifest is_rising_manifest).read;
}

abbrev pub name_of : ListedFile → List ℕ
name_of f = string_bytes f.name

abbrev pub file_view : ListedFile → List ℕ × List ℕ
file_view f = (name_of f, f.hash)

abbrev pub placed_file_view : ℕ × ListedFile → (ℕ × List ℕ) × List ℕ
placed_file_view x = ((x.0, name_of x.1), x.1.hash)
