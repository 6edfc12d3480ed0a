-- Bytes that are brought to an earlier place.
use Rattle.std.proofs.Common.{◌≡◌, ℕ, ◌+◌, ◌-◌, ◌≤◌, List, [], ◌++◌, length, take, drop, refl, sym, ap, ◌∙◌, arith}
use Rattle.std.proofs.lemmas.List.{take_rest, length-drop, length-take, length-append, drop-drop, drop-take, drop_all, append-nil, take_at, drop_at, take-append-le}
use borrow.Rule.Slice.PartMut.{put_mid, mid_of}

pub brought : (bytes turned : List ℕ) (from count : ℕ) → from + count ≤ length bytes
    → turned ≡ drop (length (mid_of from (length bytes - from) bytes) - count) (mid_of from (length bytes - from) bytes) ++ take (length (mid_of from (length bytes - from) bytes) - count) (mid_of from (length bytes - from) bytes)
    → put_mid from (length bytes - from) bytes turned ≡ take from bytes ++ (drop (length bytes - count) bytes ++ drop from (take (length bytes - count) bytes))
brought bytes turned from count within e =
    let middle : mid_of from (length bytes - from) bytes ≡ drop from bytes = take_rest bytes from in
    let size : length (drop from bytes) - count ≡ (length bytes - count) - from = omega (arith, length-drop from bytes) in
    let back : drop ((length bytes - count) - from) (drop from bytes) ≡ drop (length bytes - count) bytes = drop-drop ((length bytes - count) - from) from bytes ∙ ap (λ (n : ℕ). drop n bytes) (omega arith) in
    let front : take ((length bytes - count) - from) (drop from bytes) ≡ drop from (take (length bytes - count) bytes) = sym (drop-take from ((length bytes - count) - from) bytes) ∙ ap (λ (n : ℕ). drop from (take n bytes)) (omega arith) in
    let nothing : drop (length bytes - from) (drop from bytes) ≡ [] = drop_all (length bytes - from) (drop from bytes) (omega (arith, length-drop from bytes)) in
    let turned-is : turned ≡ drop (length bytes - count) bytes ++ drop from (take (length bytes - count) bytes) =
    e ∙ ap (λ (l : List ℕ). drop (length l - count) l ++ take (length l - count) l) middle ∙ ap (λ (n : ℕ). drop n (drop from bytes) ++ take n (drop from bytes)) size ∙ ap (λ (l : List ℕ). l ++ take ((length bytes - count) - from) (drop from bytes)) back ∙ ap (λ (l : List ℕ). drop (length bytes - count) bytes ++ l) front in
    ap (λ (l : List ℕ). take from bytes ++ (turned ++ l)) nothing ∙ ap (λ (l : List ℕ). take from bytes ++ l) (append-nil turned ∙ turned-is)

-- A header that was put behind the bytes, and is brought before those from a place on.
pub enclosed : (bytes header : List ℕ) (from : ℕ) → from ≤ length bytes
    → take from (bytes ++ header) ++ (drop (length (bytes ++ header) - length header) (bytes ++ header) ++ drop from (take (length (bytes ++ header) - length header) (bytes ++ header))) ≡ take from bytes ++ (header ++ drop from bytes)
enclosed bytes header from within =
    let count : length bytes ≡ length (bytes ++ header) - length header = omega (arith, length-append bytes header) in
    let front : take from (bytes ++ header) ≡ take from bytes = take-append-le from bytes header within in
    let back : drop (length (bytes ++ header) - length header) (bytes ++ header) ≡ header = drop_at bytes header _ count in
    let middle : take (length (bytes ++ header) - length header) (bytes ++ header) ≡ bytes = take_at bytes header _ count in
    rw (front, back, middle) refl

-- What a list in memory is after such a move of all of it.
pub moved : (new items old header : List ℕ) (len from : ℕ) → len ≡ length items → items ≡ old ++ header → from ≤ length old
    → new ≡ take from items ++ (drop (length items - (length items - length old)) items ++ drop from (take (length items - (length items - length old)) items))
    → take len (new ++ drop (length new) items) ≡ take from old ++ (header ++ drop from old)
moved new items old header len from size parts within e =
    let count : length items ≡ length old + length header = ap length parts ∙ length-append old header in
    let back : length items - (length items - length old) ≡ length (old ++ header) - length header = omega (arith, length-append old header) in
    let is : new ≡ take from old ++ (header ++ drop from old) =
    e ∙ ap (λ (n : ℕ). take from items ++ (drop n items ++ drop from (take n items))) back ∙ ap (λ (l : List ℕ). take from l ++ (drop (length (old ++ header) - length header) l ++ drop from (take (length (old ++ header) - length header) l))) parts ∙ enclosed old header from within in
    let total : length new ≡ len = ap length is ∙ omega (arith, length-append (take from old) (header ++ drop from old), length-append header (drop from old), length-take from old, length-drop from old) in
    take_at new (drop (length new) items) len total ∙ is
