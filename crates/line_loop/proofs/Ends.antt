-- What a source in memory has left after a call.
use Rattle.std.proofs.Common.{◌≡◌, ℕ, ◌+◌, ◌<◌, List, [], ◌++◌, length, take, drop, min, sym, ap, ◌∙◌, arith, length-drop}
use Rattle.std.proofs.lemmas.List.{take-append-drop, drop-drop, drop_all}

-- what was left before a call is what it gave and what is left after it
pub left_before : (bytes : List ℕ) (at n : ℕ) (given : List ℕ) → take n given ≡ take n (drop at bytes) → drop at bytes ≡ take n given ++ drop (at + n) bytes
left_before bytes at n given e =
    sym (take-append-drop n (drop at bytes)) ∙ (ap (λ xs. xs ++ drop n (drop at bytes)) (sym e) ∙ ap (λ xs. take n given ++ xs) (drop-drop n at bytes))

-- a call that gives nothing, though there is room, has nothing left
pub none_left : (bytes : List ℕ) (at n room piece : ℕ) → n ≡ min (length (drop at bytes)) (min room piece) → 0 < piece → n ≡ 0 → 0 < room → drop (at + n) bytes ≡ []
none_left bytes at n room piece e some none is_room =
    drop_all (at + n) bytes (omega (arith, length-drop at bytes))
