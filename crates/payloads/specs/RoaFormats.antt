-- The body of a ROA (RFC 9582 section 4).
use Rattle.std.specs.Prelude.{◌≡◌, ℕ, zero, suc, ◌<◌, ◌≤◌, ◌^◌, Bool, true, false, not, ◌&&◌, ◌||◌, ◌==◌, nat_lt, nat_le, Option, Some, None, List, [], ◌∷◌, ◌++◌, length, take, drop, map, ⊤, if◌then◌else◌}
use Rattle.der.specs.Tags as tag
use Rattle.origins.specs.Prefix.{address_bits, IsPrefix, IsMaximum}
use Rattle.der.specs.Form.{Whole, Front}
use Rattle.der.specs.Forms.{leaf, within, sole, after, both, only, maybe, many, tested, through, placed, AreAll}
use Rattle.der.specs.Leaves.{number, short_number, are_same}
use Rattle.payloads.specs.Prefixes.{prefix}
use Rattle.payloads.specs.Order.{rises}
use Rattle.payloads.specs.declared.values.RoaEntry.{RoaEntry}

-- An entry: a prefix, and the greatest length that may be announced (RFC 9582 section 4.3.2).
pub record Entry : Type 0 where
  pub v6 : Bool
  pub address : ℕ
  pub len : ℕ
  pub max : ℕ

pub record IsEntry (e : Entry) : Type 0 where
  pub prefix : IsPrefix e.v6 e.address e.len
  pub maximum : IsMaximum e.v6 e.len e.max

abbrev pub entry_view : RoaEntry → Entry
entry_view e = record {
  v6 = e.prefix.v6;
  address = e.prefix.address;
  len = e.prefix.length;
  max = e.max;
}

-- The maximum is written where it isn't the prefix's length (RFC 9582 section 4.3.2.2).
abbrev pub entry_parts : Entry → (Bool × ℕ × ℕ) × Option ℕ
entry_parts e = ((e.v6, e.address, e.len), if e.max == e.len then None else Some e.max)

abbrev pub entry_with : Bool × ℕ × ℕ → ℕ → Entry
entry_with (v6, address, len) max = record { v6 = v6; address = address; len = len; max = max }

unfoldable pub entry_of : Bool × ℕ × ℕ → Option ℕ → Option Entry
entry_of x None = Some (entry_with x x.2)
entry_of x (Some max) =
    if nat_lt x.2 max && nat_le max (address_bits x.0) then Some (entry_with x max) else None

abbrev pub IsEntryOf : Bool → Entry → Type 0
IsEntryOf v6 e = (e.v6 ≡ v6) × IsEntry e

-- RFC 9582 section 4.3.2.
abbrev pub entry_content : Bool → Whole Entry
entry_content v6 = through (both (prefix v6) (maybe (only number))) (λ x. entry_of x.0 x.1)
    entry_parts (IsEntryOf v6)

abbrev pub entry : Bool → Front Entry
entry v6 = within tag.sequence (entry_content v6)

-- RFC 9582 section 4.3.1: 0001 is IPv4, and 0002 is IPv6.
abbrev pub family_bytes : Bool → List ℕ
family_bytes v6 = if v6 then 0 ∷ 2 ∷ [] else 0 ∷ 1 ∷ []

abbrev pub family_in : List ℕ → Option Bool
family_in bytes =
    if are_same bytes (family_bytes false) then Some false
    else if are_same bytes (family_bytes true) then Some true else None

abbrev pub family_number : Front Bool
family_number = within tag.octet_string (leaf (λ v6. ⊤) family_bytes family_in)

abbrev pub has_some : {A : Type 0} → List A → Bool
has_some [] = false
has_some (x ∷ xs) = true

-- A family and its entries, of which there is one at least.
unfoldable pub family : {A : Type 0} → (Bool → Front A) → Front (Bool × List A)
family entry =
    within tag.sequence
    (after family_number (λ v6. sole tag.sequence (tested (many (entry v6)) has_some)))

-- The lists of one family or of both, IPv4 first, as one.
abbrev pub joined : {A : Type 0} → Bool × List A → Option (Bool × List A) → Option (List A)
joined x None = Some x.1
joined x (Some y) = if not x.0 && y.0 then Some (x.1 ++ y.1) else None

-- How many of IPv4 stand in front.
abbrev pub leading_v4 : {A : Type 0} → (A → Bool) → List A → ℕ
leading_v4 is_v6 [] = zero
leading_v4 is_v6 (x ∷ xs) = if is_v6 x then zero else suc (leading_v4 is_v6 xs)

abbrev pub families_of : {A : Type 0} → List A → List A → (Bool × List A) × Option (Bool × List A)
families_of v4 [] = ((false, v4), None)
families_of [] (y ∷ ys) = ((true, y ∷ ys), None)
families_of (x ∷ xs) (y ∷ ys) = ((false, x ∷ xs), Some (true, y ∷ ys))

-- The entries of IPv4, which stand in front, and the others.
abbrev pub parted : {A : Type 0} → (A → Bool) → List A → (Bool × List A) × Option (Bool × List A)
parted is_v6 xs = families_of (take (leading_v4 is_v6 xs) xs) (drop (leading_v4 is_v6 xs) xs)

-- One family or both (RFC 9582 section 4.3), over the values of their lists.
unfoldable pub blocks : {A : Type 0} → (Bool → Front A) → (A → Bool) → (List A → Type 0)
    → Whole (List A)
blocks entry is_v6 good =
    through (both (family entry) (maybe (only (family entry)))) (λ x. joined x.0 x.1)
    (parted is_v6) good

-- The version is the default one, and so left out.
unfoldable pub body : {A : Type 0} → (Bool → Front A) → (A → Bool) → (List A → Type 0)
    → Whole (ℕ × List A)
body entry is_v6 good =
    sole tag.sequence (both short_number (sole tag.sequence (blocks entry is_v6 good)))

-- The reading of an entry that gives the place at which it starts.
abbrev pub placed_entry : Bool → Front (ℕ × Entry)
placed_entry v6 = placed (entry v6)

abbrev pub placed_view : ℕ × RoaEntry → ℕ × Entry
placed_view x = (x.0, entry_view x.1)

abbrev pub placed_entries : Bool → Whole (List (ℕ × Entry))
placed_entries v6 = tested (many (placed_entry v6)) has_some

-- Entries, those of IPv4 before those of IPv6.
pub record AreEntries (entries : List Entry) : Type 0 where
  pub some : 1 ≤ length entries
  pub each : AreAll IsEntry entries
  pub apart : AreAll (λ e. e.v6 ≡ true) (drop (leading_v4 (λ e. e.v6) entries) entries)

-- A body whose entries may stand in any order within their family.
abbrev pub unordered_roa : Whole (ℕ × List Entry)
unordered_roa = body entry (λ e. e.v6) AreEntries

-- The reading of such a body that gives with each entry the place at which it starts.
abbrev pub placed_roa : Whole (ℕ × List (ℕ × Entry))
placed_roa = body placed_entry (λ x. x.1.v6) (λ xs. AreEntries (map (λ x. x.1) xs))

abbrev pub placed_blocks : Whole (List (ℕ × Entry))
placed_blocks = blocks placed_entry (λ x. x.1.v6) (λ xs. AreEntries (map (λ x. x.1) xs))

-- The order of entries of one family: by address, by length, by maximum (RFC 9582 section 4.3.3).
abbrev pub is_below_within : Entry → Entry → Bool
is_below_within a b =
    if a.address == b.address
    then (if a.len == b.len then nat_lt a.max b.max else nat_lt a.len b.len)
    else nat_lt a.address b.address

-- The order of entries (RFC 9582 section 4.3.3): by family, IPv4 first, and then within it.
abbrev pub is_below : Entry → Entry → Bool
is_below a b = if a.v6 then b.v6 && is_below_within a b else b.v6 || is_below_within a b

-- What is said of an AS and entries, by name.
abbrev pub roa_asn : ℕ × List Entry → ℕ
roa_asn (asn, entries) = asn

abbrev pub roa_entries : ℕ × List Entry → List Entry
roa_entries (asn, entries) = entries

abbrev pub is_rising : ℕ × List Entry → Bool
is_rising value = rises is_below (roa_entries value)

-- The number of an AS, and entries that rise.
pub record IsRoa (value : ℕ × List Entry) : Type 0 where
  pub asn : roa_asn value < 2 ^ 32
  pub some : 1 ≤ length (roa_entries value)
  pub each : AreAll IsEntry (roa_entries value)
  pub rises : is_rising value ≡ true

abbrev pub roa : Whole (ℕ × List Entry)
roa = record {
  good = IsRoa;
  spelling = unordered_roa.spelling;
  read = (tested unordered_roa is_rising).read;
}
