-- The text of a list of ranges, range by range.
use Rattle.std.proofs.Common.{◌≡◌, ℕ, ◌+◌, ◌<◌, ◌≤◌, Bool, true, false, ◌==◌, if◌then◌else◌, List, [], ◌∷◌, ◌++◌, codes, length, take, get_or, refl, ap, sym, subst, ◌∙◌, append_assoc, arith}
use Rattle.std.proofs.lemmas.List.{take_more}
use Rattle.std.proofs.lemmas.Grind.{common_steps}
use Rattle.std.proofs.lemmas.Bool.Decides.{nat_tests}
use Rattle.res_sets.specs.declared.numbers.Family.{Family}
use Rattle.res_sets.specs.declared.numbers.Range.{Range}
use Rattle.res_sets.specs.Numbers.{family_end, spans, any_spans}
use Rattle.res_sets.specs.Printed.{PrintsRange, Prints, Appends}
use Rattle.res_sets.proofs.Lookups.{held_at}

-- one more range at the end
prints_more : (family : Family) (x : Range) (xs : List Range) (text block : List ℕ) (range : Range) → Prints family (x ∷ xs) text → PrintsRange family range block
    → Prints family ((x ∷ xs) ++ range ∷ []) (text ++ codes ", " ++ block)
prints_more family x [] text block range printed next = (text, (block, (printed, next, refl)))
prints_more family x (y ∷ ys) text block range (head, (rest, (first, others, is))) next =
    let more = prints_more family y ys rest block range others next in
    let same : text ++ codes ", " ++ block ≡ head ++ codes ", " ++ (rest ++ codes ", " ++ block) =
    ap (λ (t : List ℕ). t ++ codes ", " ++ block) is ∙ (ap (λ (t : List ℕ). t ++ block) (append_assoc (head ++ codes ", ") rest (codes ", ")) ∙ (append_assoc (head ++ codes ", ") (rest ++ codes ", ") block)) in
    (head, (rest ++ codes ", " ++ block, (first, more, same)))

prints_next : (family : Family) (xs : List Range) (old new : List ℕ) (range : Range) (place : ℕ) (first : Bool) → first ≡ (place == 0) → place ≡ length xs
    → Prints family xs old → Appends (PrintsRange family range) (if first then old else old ++ codes ", ") new → Prints family (xs ++ range ∷ []) new
prints_next family [] old new range place first is at printed (block, (next, new_is)) =
    let first_is : first ≡ true = grind (arith, nat_tests, is, at) in
    let same : new ≡ block = new_is ∙ (ap (λ (b : Bool). (if b then old else old ++ codes ", ") ++ block) first_is ∙ ap (λ (t : List ℕ). t ++ block) printed) in
    subst (λ (t : List ℕ). PrintsRange family range t) (sym same) next
prints_next family (x ∷ xs) old new range place first is at printed (block, (next, new_is)) =
    let first_is : first ≡ false = grind (arith, nat_tests, is, at) in
    let same : new ≡ old ++ codes ", " ++ block = new_is ∙ ap (λ (b : Bool). (if b then old else old ++ codes ", ") ++ block) first_is in
    subst (λ (t : List ℕ). Prints family (x ∷ (xs ++ range ∷ [])) t) (sym same) (prints_more family x xs old block range printed next)

pub prints_at : (family : Family) (xs : List Range) (old new : List ℕ) (range : Range) (place : ℕ) → place < length xs → range ≡ get_or xs place range
    → Prints family (take place xs) old → Appends (PrintsRange family range) (if place == 0 then old else old ++ codes ", ") new → Prints family (take (place + 1) xs) new
prints_at family xs old new range place inside is printed appended =
    let taken : take (place + 1) xs ≡ take place xs ++ range ∷ [] = take_more xs place range inside ∙ ap (λ (r : Range). take place xs ++ r ∷ []) (sym is) in
    let at : place ≡ length (take place xs) = grind (arith, common_steps) in
    subst (λ (rs : List Range). Prints family rs new) (sym taken) (prints_next family (take place xs) old new range place (place == 0) refl at printed appended)

pub fits_at : (family : Family) (xs : List Range) (place : ℕ) (range : Range) → ((n : ℕ) → any_spans xs n ≡ true → n < family_end family) → place < length xs → range ≡ get_or xs place range
    → range.last < family_end family
fits_at family xs place range within inside is =
    let ordered : range.first ≤ range.last = range.ordered in
    let last : spans range range.last ≡ true = grind (arith, nat_tests) in
    within range.last (held_at xs place range range.last inside is last)
