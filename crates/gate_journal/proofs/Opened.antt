-- What the heads of the records say of the file, as far as they were read.
use Rattle.std.proofs.Common.{◌≡◌, ◌≢◌, ℕ, ◌+◌, ◌-◌, ◌≤◌, ◌<◌, ◌^◌, true, Option, Some, None, List, [], ◌∷◌, ◌++◌, map, length, take, drop, IfSome, refl, sym, ◌∙◌, ap, subst, arith, length-drop, take-append-drop}
use Rattle.std.proofs.lemmas.List.{map-append, length-take, drop-drop}
use Rattle.std.proofs.lemmas.List.Elements.{All-push}
use Rattle.std.specs.List.{All}
use Rattle.std.specs.Int.{w64, to_be_bytes}
use Rattle.gate_journal.specs.Format.{header, spelled, size_of, has_header}
use Rattle.gate_journal.specs.inner.Reading.{Finds, StandsAt}
use Rattle.gate_journal.specs.declared.open.Head.{Head}
use Rattle.gate_journal.specs.declared.open.Head.TheVariants.{Closed, Record}
use Rattle.std.proofs.lemmas.Slice.Eq.{slice_eq-Decides}
use Rattle.std.proofs.lemmas.Bool.Decides.{Decides-eqb}
use Rattle.gate_journal.specs.declared.place.Place.{Place}
use Rattle.gate_journal.proofs.Records.{AreSmall, entry, spelled-push, length-spelled-push}

-- these records, within the limit, stand before an offset
pub record HasRead (limit at : ℕ) (places : List Place) (bytes : List ℕ) : Type 0 where
  pub records : List (List ℕ)
  pub split : bytes ≡ header ++ (spelled records ++ drop at bytes)
  pub at_is : at ≡ 16 + length (spelled records)
  pub sizes_are : map (λ (place : Place). place.size) places ≡ map length records
  pub small : AreSmall records
  pub within : All (λ payload. length payload ≤ limit) records

header_is : (bytes : List ℕ) → has_header bytes ≡ true → take 16 bytes ≡ header
header_is bytes is = (slice_eq-Decides Decides-eqb (take 16 bytes) header (has_header bytes) refl).0 is

pub read_none : (limit : ℕ) (bytes : List ℕ) → 16 ≤ length bytes → take 16 bytes ≡ header → HasRead limit 16 [] bytes
read_none limit bytes long is = record {
  records = [];
  split = sym (take-append-drop 16 bytes) ∙ ap (λ (l : List ℕ). l ++ drop 16 bytes) is;
  at_is = refl;
  sizes_are = refl;
  small = λ k d lt. absurd (omega (arith, lt));
  within = λ k d lt. absurd (omega (arith, lt));
}

module _ (limit at size : ℕ) (places : List Place) (place : Place) (bytes tail : List ℕ) (read : HasRead limit at places bytes) (opens : drop at bytes ≡ 1 ∷ tail) (is : size ≡ size_of tail) (spells : to_be_bytes w64 size ≡ take 8 tail)
    (long : at + (9 + size) ≤ length bytes) (few : size ≤ limit) (small : size < 2 ^ 64) (there : place.size ≡ size) where
  length-tail : length tail + 1 ≡ length bytes - at
  length-tail = omega (arith, ap (λ (l : List ℕ). length l) opens, length-drop at bytes)

  length-payload : length (take size (drop 8 tail)) ≡ size
  length-payload = omega (arith, length-take size (drop 8 tail), length-drop 8 tail, length-tail, long)

  rest_is : drop (at + (9 + size)) bytes ≡ drop size (drop 8 tail)
  rest_is =
      sym (drop-drop (9 + size) at bytes)
      ∙ ap (λ (l : List ℕ). drop (9 + size) l) opens
      ∙ ap (λ (n : ℕ). drop n (1 ∷ tail)) (omega arith)
      ∙ sym (drop-drop (8 + size) 1 (1 ∷ tail))
      ∙ sym (drop-drop size 8 tail)

  one_more : drop at bytes ≡ 1 ∷ entry (take size (drop 8 tail)) (drop (at + (9 + size)) bytes)
  one_more =
      opens
      ∙ ap (λ (l : List ℕ). 1 ∷ l) (sym (take-append-drop 8 tail))
      ∙ ap (λ (l : List ℕ). 1 ∷ (l ++ drop 8 tail)) (sym spells ∙ ap (λ (n : ℕ). to_be_bytes w64 n) (sym length-payload))
      ∙ ap (λ (l : List ℕ). 1 ∷ (to_be_bytes w64 (length (take size (drop 8 tail))) ++ l)) (sym (take-append-drop size (drop 8 tail)) ∙ ap (λ (l : List ℕ). take size (drop 8 tail) ++ l) (sym rest_is))

  pub read_more : HasRead limit (at + (9 + size)) (places ++ place ∷ []) bytes
  read_more =
      let payload = take size (drop 8 tail) in
      record {
        records = read.records ++ payload ∷ [];
        split =
            read.split
            ∙ ap (λ (l : List ℕ). header ++ (spelled read.records ++ l)) one_more
            ∙ ap (λ (l : List ℕ). header ++ l) (sym (spelled-push read.records payload (drop (at + (9 + size)) bytes)));
        at_is = omega (arith, read.at_is, length-spelled-push read.records payload, length-payload);
        sizes_are =
            map-append (λ (p : Place). p.size) places (place ∷ [])
            ∙ ap (λ (l : List ℕ). l ++ place.size ∷ []) read.sizes_are
            ∙ ap (λ (n : ℕ). map length read.records ++ n ∷ []) (there ∙ sym length-payload)
            ∙ sym (map-append length read.records (payload ∷ []));
        small = All-push (λ p. length p < 2 ^ 64) read.records payload read.small (omega (arith, length-payload, small));
        within = All-push (λ p. length p ≤ limit) read.records payload read.within (omega (arith, length-payload, few));
      }

-- at a closed gate the file is laid out
pub read_all : (limit at gate : ℕ) (places : List Place) (bytes tail : List ℕ) → HasRead limit at places bytes → drop at bytes ≡ gate ∷ tail → gate ≢ 1 → Finds limit places bytes
read_all limit at gate places bytes tail read is closed = record {
  records = read.records;
  laid_out = record {
    gate = gate;
    tail = tail;
    split = read.split ∙ ap (λ (l : List ℕ). header ++ (spelled read.records ++ l)) is;
    closed = λ _. closed;
    sizes_are = read.sizes_are;
    small = read.small;
  };
  within = read.within;
}

-- the same where the disk may be known
pub read_none_known : (content : Option (List ℕ)) (limit len : ℕ) (places : List Place) → places ≡ [] → 17 < len → IfSome content (λ bytes. (len ≡ length bytes) × (has_header bytes ≡ true)) → IfSome content (λ bytes. HasRead limit 16 places bytes)
read_none_known None limit len places none long known = tt
read_none_known (Some bytes) limit len places none long known =
    subst (λ (l : List Place). HasRead limit 16 l bytes) (sym none) (read_none limit bytes (omega (arith, long, known.0)) (header_is bytes known.1))

pub read_more_known : (content : Option (List ℕ)) (limit len at size : ℕ) (places more : List Place) (place : Place) → IfSome content (λ bytes. HasRead limit at places bytes) → IfSome content (λ bytes. StandsAt (drop at bytes) (Record size))
    → IfSome content (λ bytes. (len ≡ length bytes) × (has_header bytes ≡ true)) → at + (9 + size) ≤ len → size ≤ limit → size < 2 ^ 64 → place.size ≡ size → more ≡ places ++ place ∷ []
    → IfSome content (λ bytes. HasRead limit (at + (9 + size)) more bytes)
read_more_known None limit len at size places more place read stands known long few small there is = tt
read_more_known (Some bytes) limit len at size places more place read stands known long few small there is =
    subst (λ (l : List Place). HasRead limit (at + (9 + size)) l bytes) (sym is)
    (read_more limit at size places place bytes stands.0 read stands.1 stands.2 stands.3 (omega (arith, long, known.0)) few small there)

pub read_all_known : (content : Option (List ℕ)) (limit at : ℕ) (places : List Place) → IfSome content (λ bytes. HasRead limit at places bytes) → IfSome content (λ bytes. StandsAt (drop at bytes) Closed) → IfSome content (λ bytes. Finds limit places bytes)
read_all_known None limit at places read stands = tt
read_all_known (Some bytes) limit at places read stands = read_all limit at stands.0 places bytes stands.1 read stands.2 stands.3

-- a head that is no record's is a closed gate
pub closed_only : (content : Option (List ℕ)) (at : ℕ) (head : Head) → IfSome content (λ bytes. StandsAt (drop at bytes) head) → ((size : ℕ) → head ≡ Record size → ⊥) → IfSome content (λ bytes. StandsAt (drop at bytes) Closed)
closed_only content at Closed stands none = stands
closed_only content at (Record size) stands none = absurd (none size refl)
