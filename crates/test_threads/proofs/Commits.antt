-- What the lists come to at a commit.
use Rattle.std.proofs.Common.{◌≡◌, ℕ, ◌+◌, ◌<◌, ◌≤◌, List, [], ◌∷◌, ◌++◌, length, map, None, Some, IfSome, slice_get, inl, refl, sym, ap, ◌∙◌, subst, arith, append_assoc, length-append}
use mathlib.Core.List.{IsPrefix}
use Rattle.commit_word.specs.Entries.{Has, ShareNoPlace}
use Rattle.commit_word.specs.Seats.{OwnerSeat}

last_get : (xs : List (List ℕ)) (x : List ℕ) → slice_get (xs ++ x ∷ []) (length xs) ≡ Some x
last_get [] x = refl
last_get (y ∷ xs) x = last_get xs x

-- the rest of a list after a prefix that is one shorter is the entry that stands there
rest_is : (list rest seen : List (List ℕ)) (e : List ℕ) → list ++ rest ≡ seen → length seen ≡ length list + 1 → slice_get seen (length list) ≡ Some e → seen ≡ list ++ e ∷ []
rest_is list [] seen e is len at = let none = ap length is in absurd (omega (arith, length-append list []))
rest_is list (r ∷ []) seen e is len at =
    let same : Some r ≡ Some e = sym (last_get list r) ∙ (ap (λ l. slice_get l (length list)) is ∙ at) in
    let r_is : r ≡ e = cc same in
    sym is ∙ ap (λ x. list ++ x ∷ []) r_is
rest_is list (r ∷ q ∷ more) seen e is len at = let many = ap length is in absurd (omega (arith, length-append list (r ∷ q ∷ more)))

-- a list that goes one past what was seen, where the one entry stands there
pub one_more : (entries list seen : List (List ℕ)) → length entries ≡ 1 → IsPrefix list seen → length seen ≡ length list + 1
    → ((e : List ℕ) → Has (map (λ entry. (length list, entry)) entries) (length list) e → slice_get seen (length list) ≡ Some e) → seen ≡ list ++ entries
one_more [] list seen one p len at = absurd (omega arith)
one_more (e ∷ []) list seen one p len at = rest_is list p.0 seen e p.1 len (at e (inl refl))
one_more (e ∷ f ∷ more) list seen one p len at = absurd (omega arith)

-- a prefix of a prefix
pub prefix_trans : (xs ys zs : List (List ℕ)) → IsPrefix xs ys → IsPrefix ys zs → IsPrefix xs zs
prefix_trans xs ys zs p q = (p.0 ++ q.0, sym (append_assoc xs p.0 q.0) ∙ (ap (λ w. w ++ q.0) p.1 ∙ q.1))

-- the one entry is past all others
pub joined_one : (joined : List (ℕ × List ℕ) → List (ℕ × List ℕ) → List (ℕ × List ℕ)) (mine : List (ℕ × List ℕ)) (entries : List (List ℕ)) (len : ℕ) → length entries ≡ 1
    → ((xs : List (ℕ × List ℕ)) (place : ℕ) (entry : List ℕ) → ((p : ℕ) (e : List ℕ) → Has xs p e → p < place) → joined xs ((place, entry) ∷ []) ≡ xs ++ (place, entry) ∷ [])
    → ((p : ℕ) (e : List ℕ) → Has mine p e → p ≤ len) → ShareNoPlace mine (map (λ entry. (len, entry)) entries)
    → joined mine (map (λ entry. (len, entry)) entries) ≡ mine ++ map (λ entry. (len, entry)) entries
joined_one joined mine [] len one law near apart = absurd (omega arith)
joined_one joined mine (e ∷ []) len one law near apart =
    law mine len e (λ p d h. let low = near p d h in let other : p ≡ len → ⊥ = λ same. apart len d e (subst (λ (n : ℕ). Has mine n d) same h) (inl refl) in omega arith)
joined_one joined mine (e ∷ f ∷ more) len one law near apart = absurd (omega arith)

-- the owner after the entry was set aside and counted
pub owner_grown : (entries : List (List ℕ)) (len : ℕ) (o split noted bumped : OwnerSeat) → length entries ≡ 1 → o.coming ≡ None → length o.seen ≡ len
    → split ≡ o → noted ≡ record split { coming = slice_get entries 0 }
    → IfSome noted.coming (λ entry. bumped ≡ record noted { seen = noted.seen ++ entry ∷ []; coming = None })
    → (bumped ≡ record o { seen = o.seen ++ entries }) × (length bumped.seen ≡ len + 1)
owner_grown [] len o split noted bumped one none long same aside grown = absurd (omega arith)
owner_grown (e ∷ f ∷ more) len o split noted bumped one none long same aside grown = absurd (omega arith)
owner_grown (e ∷ []) len o split noted bumped one none long same aside grown =
    let aside' : noted ≡ record o { coming = Some e } = aside ∙ ap (λ (x : OwnerSeat). record x { coming = Some e }) same in
    let next : bumped ≡ record o { seen = o.seen ++ e ∷ []; coming = None } = subst (λ (x : OwnerSeat). IfSome x.coming (λ entry. bumped ≡ record x { seen = x.seen ++ entry ∷ []; coming = None })) aside' grown in
    let is : bumped ≡ record o { seen = o.seen ++ e ∷ [] } = next ∙ ap (λ k. record o { seen = o.seen ++ e ∷ []; coming = k }) (sym none) in
    (is, ap (λ (x : OwnerSeat). length x.seen) is ∙ (length-append o.seen (e ∷ []) ∙ ap (λ (n : ℕ). n + 1) long))
