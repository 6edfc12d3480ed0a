-- The payloads in the bytes of records that lie one behind the other.
use Rattle.std.proofs.Common.{◌≡◌, ℕ, zero, suc, ◌+◌, ◌-◌, ◌≤◌, ◌<◌, Some, List, [], ◌∷◌, length, get_or, take, drop, refl, sym, ◌∙◌, ap, arith}
use Rattle.std.proofs.lemmas.List.{drop-drop, get_or-take}
use Rattle.std.specs.Prelude.{slice_get}
use Rattle.gate_journal.specs.Format.{taken_by, payloads}
use Rattle.gate_journal.specs.inner.Kept.{IsMeasured, places_of, pair_of, sizes_of}
use Rattle.gate_journal.specs.declared.place.Place.{Place}
use Rattle.gate_journal.proofs.Sizes.{length-sizes_of}
use Rattle.gate_journal.proofs.Placed.{get_or-map}

place_there : (sizes : List ℕ) (at index : ℕ) (d : ℕ × ℕ) → index < length sizes → get_or (places_of at sizes) index d ≡ (at + taken_by (take index sizes) + 9, get_or sizes index 0)
place_there [] at index d lt = absurd (omega (arith, lt))
place_there (size ∷ sizes) at zero d lt = ap (λ (n : ℕ). (n, size)) (omega arith)
place_there (size ∷ sizes) at (suc index) d lt = place_there sizes (at + 9 + size) index d (omega (arith, lt)) ∙ ap (λ (n : ℕ). (n, get_or sizes index 0)) (omega arith)

within_all : (sizes : List ℕ) (index : ℕ) → index < length sizes → taken_by (take index sizes) + 9 + get_or sizes index 0 ≤ taken_by sizes
within_all [] index lt = absurd (omega (arith, lt))
within_all (size ∷ sizes) zero lt = omega arith
within_all (size ∷ sizes) (suc index) lt = omega (arith, within_all sizes index (omega (arith, lt)))

payload_there : (sizes bytes : List ℕ) (index : ℕ) → index < length sizes → slice_get (payloads sizes bytes) index ≡ Some (take (get_or sizes index 0) (drop (9 + taken_by (take index sizes)) bytes))
payload_there [] bytes index lt = absurd (omega (arith, lt))
payload_there (size ∷ sizes) bytes zero lt = refl
payload_there (size ∷ sizes) bytes (suc index) lt =
    payload_there sizes (drop (9 + size) bytes) index (omega (arith, lt))
    ∙ ap (λ (l : List ℕ). Some (take (get_or sizes index 0) l))
    (drop-drop (9 + taken_by (take index sizes)) (9 + size) bytes ∙ ap (λ (n : ℕ). drop n bytes) (omega arith))

-- a place is where the payload lies in the bytes from the first gate on
pub record IsInBody (sizes bytes : List ℕ) (index at size : ℕ) : Type 0 where
  pub above : 25 ≤ at
  pub within : at - 16 + size ≤ taken_by sizes
  pub there : slice_get (payloads sizes bytes) index ≡ Some (take size (drop (at - 16) bytes))

pub in_body : (count held : ℕ) (places : List Place) (bytes : List ℕ) (index : ℕ) (place : Place) → IsMeasured count held places → index < count → place ≡ get_or places index place → IsInBody (sizes_of count places) bytes index place.at place.size
in_body count held places bytes index place measured lt is =
    let sizes = sizes_of count places in
    let few : index < length sizes = omega (arith, lt, length-sizes_of count places measured.counted) in
    let pair : pair_of place ≡ (16 + taken_by (take index sizes) + 9, get_or sizes index 0) =
    ap (λ (p : Place). pair_of p) (is ∙ sym (get_or-take count places index place lt))
    ∙ sym (get_or-map (take count places) index place)
    ∙ ap (λ (l : List (ℕ × ℕ)). get_or l index (pair_of place)) measured.places_are
    ∙ place_there sizes 16 index (pair_of place) few in
    let at : place.at ≡ 16 + taken_by (take index sizes) + 9 = ap (λ (p : ℕ × ℕ). p.0) pair in
    let size : place.size ≡ get_or sizes index 0 = ap (λ (p : ℕ × ℕ). p.1) pair in
    record {
      above = omega (arith, at);
      within = omega (arith, at, size, within_all sizes index few);
      there = payload_there sizes bytes index few ∙ ap (λ (n : ℕ). Some (take n (drop (9 + taken_by (take index sizes)) bytes))) (sym size) ∙ ap (λ (n : ℕ). Some (take place.size (drop n bytes))) (omega (arith, at));
    }
