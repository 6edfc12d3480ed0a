-- How forms are put together. All numbers are big-endian.
use Rattle.std.specs.Prelude.{◌≡◌, ◌⊎◌, ⊤, ℕ, zero, suc, ◌<◌, ◌^◌, ◌==◌, nat_le, nat_lt, List, [], ◌∷◌, ◌++◌, length, take, drop}
use Rattle.std.specs.Prelude.{Option, Some, None, if◌then◌else◌}
use Rattle.std.proofs.Common.{inl, inr}
use Rattle.std.specs.List.{flat_map, AllByRecursion}
use Rattle.std.specs.Int.{w32, w64, from_be_bytes, to_be_bytes}
use Rattle.record_forms.specs.Form.{Form}

infixl 10 ◌>>=◌
abbrev pub ◌>>=◌ : {A B : Type 0} → Option A → (A → Option B) → Option B
(Some x) >>= f = f x
None >>= f = None

-- ---- single fields

-- The first so many bytes, and those behind them.
unfoldable pub front : ℕ → List ℕ → Option (List ℕ × List ℕ)
front size bytes = if nat_le size (length bytes) then Some (take size bytes, drop size bytes) else None

-- Just so many bytes.
abbrev pub plain : ℕ → Form (List ℕ)
plain size = record {
  good = λ x. length x ≡ size;
  spelling = λ x. x;
  read = front size;
}

-- A number in 4 bytes, and in 8.
unfoldable pub bytes_32 : ℕ → List ℕ
bytes_32 n = to_be_bytes w32 n

unfoldable pub bytes_64 : ℕ → List ℕ
bytes_64 n = to_be_bytes w64 n

unfoldable pub of_bytes_32 : List ℕ → ℕ
of_bytes_32 bytes = from_be_bytes w32 bytes

unfoldable pub of_bytes_64 : List ℕ → ℕ
of_bytes_64 bytes = from_be_bytes w64 bytes

abbrev pub number_32 : Form ℕ
number_32 = record {
  good = λ n. n < 2 ^ 32;
  spelling = bytes_32;
  read = λ bytes. front 4 bytes >>= (λ x. Some (of_bytes_32 x.0, x.1));
}

abbrev pub number_64 : Form ℕ
number_64 = record {
  good = λ n. n < 2 ^ 64;
  spelling = bytes_64;
  read = λ bytes. front 8 bytes >>= (λ x. Some (of_bytes_64 x.0, x.1));
}

-- A number in one byte.
abbrev pub first_byte : List ℕ → Option (ℕ × List ℕ)
first_byte [] = None
first_byte (n ∷ rest) = Some (n, rest)

abbrev pub number_8 : Form ℕ
number_8 = record {
  good = λ n. ⊤;
  spelling = λ n. n ∷ [];
  read = first_byte;
}

-- A length in 4 bytes, and so many bytes.
abbrev pub sized : Form (List ℕ)
sized = record {
  good = λ x. ⊤;
  spelling = λ x. bytes_32 (length x) ++ x;
  read = λ bytes. number_32.read bytes >>= (λ n. front n.0 n.1);
}

-- ---- what is made of forms

-- A value, and another behind it.
abbrev pub both : {A B : Type 0} → Form A → Form B → Form (A × B)
both f g = record {
  good = λ x. f.good x.0 × g.good x.1;
  spelling = λ x. f.spelling x.0 ++ g.spelling x.1;
  read = λ bytes. f.read bytes >>= (λ x. g.read x.1 >>= (λ y. Some ((x.0, y.0), y.1)));
}

-- A value that is told by another, which is had back from it. Not each tells one.
abbrev pub through : {A B : Type 0} → Form A → (A → Option B) → (B → A) → Form B
through f told back = record {
  good = λ y. f.good (back y) × (told (back y) ≡ Some y);
  spelling = λ y. f.spelling (back y);
  read = λ bytes. f.read bytes >>= (λ x. told x.0 >>= (λ y. Some (y, x.1)));
}

-- A byte, and the value behind it.
abbrev pub behind_byte : ℕ → List ℕ → Option (List ℕ)
behind_byte mark [] = None
behind_byte mark (first ∷ rest) = if first == mark then Some rest else None

abbrev pub marked : {A : Type 0} → ℕ → Form A → Form A
marked mark f = record {
  good = f.good;
  spelling = λ x. mark ∷ f.spelling x;
  read = λ bytes. behind_byte mark bytes >>= f.read;
}

-- One of two, told by the byte in front.
abbrev pub good_either : {A B : Type 0} → Form A → Form B → A ⊎ B → Type 0
good_either f g (inl x) = f.good x
good_either f g (inr y) = g.good y

abbrev pub spelled_either : {A B : Type 0} → ℕ → Form A → ℕ → Form B → A ⊎ B → List ℕ
spelled_either mark f other g (inl x) = mark ∷ f.spelling x
spelled_either mark f other g (inr y) = other ∷ g.spelling y

abbrev pub as_one : {A B : Type 0} → Option (A × List ℕ) → Option ((A ⊎ B) × List ℕ)
as_one r = r >>= (λ x. Some (inl x.0, x.1))

abbrev pub as_other : {A B : Type 0} → Option (B × List ℕ) → Option ((A ⊎ B) × List ℕ)
as_other r = r >>= (λ y. Some (inr y.0, y.1))

abbrev pub read_either : {A B : Type 0} → ℕ → Form A → ℕ → Form B → List ℕ
    → Option ((A ⊎ B) × List ℕ)
read_either mark f other g [] = None
read_either mark f other g (first ∷ rest) =
    if first == mark then as_one (f.read rest)
    else if first == other then as_other (g.read rest)
    else None

abbrev pub either : {A B : Type 0} → ℕ → Form A → ℕ → Form B → Form (A ⊎ B)
either mark f other g = record {
  good = good_either f g;
  spelling = spelled_either mark f other g;
  read = read_either mark f other g;
}

-- So many values, one behind another.
unfoldable pub so_many : {A : Type 0} → (List ℕ → Option (A × List ℕ)) → ℕ → List ℕ
    → Option (List A × List ℕ)
so_many read zero bytes = Some ([], bytes)
so_many read (suc n) bytes =
    read bytes >>= (λ x. so_many read n x.1 >>= (λ xs. Some (x.0 ∷ xs.0, xs.1)))

-- How many values there are in 4 bytes, and the values.
abbrev pub counted : {A : Type 0} → Form A → Form (List A)
counted f = record {
  good = λ xs. AllByRecursion f.good xs;
  spelling = λ xs. bytes_32 (length xs) ++ flat_map f.spelling xs;
  read = λ bytes. number_32.read bytes >>= (λ n. so_many f.read n.0 n.1);
}

-- ---- whole records

-- The value, if no byte is left.
abbrev pub at_end : {A : Type 0} → A × List ℕ → Option A
at_end (x, []) = Some x
at_end (x, b ∷ bytes) = None

-- The value that all of the bytes spell, of which there are fewer than 2 ^ 32.
abbrev pub read_whole : {A : Type 0} → Form A → List ℕ → Option A
read_whole f bytes = if nat_lt (length bytes) (2 ^ 32) then f.read bytes >>= at_end else None
