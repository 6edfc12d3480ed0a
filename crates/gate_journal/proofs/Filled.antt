-- A buffer that is filled by several reads.
use Rattle.std.proofs.Common.{◌≡◌, ℕ, zero, suc, ◌+◌, ◌-◌, ◌≤◌, ◌<◌, Option, Some, None, List, [], ◌∷◌, ◌++◌, length, get_or, replicate, take, drop, IfSome, refl, sym, ◌∙◌, ap, subst, arith, length-drop, take-append-drop}
use Rattle.std.proofs.lemmas.List.{take-append-le, length-take, drop-drop, get_or-drop}
use Rattle.std.proofs.Math.Seq.{take-append-add}
use Rattle.disk_api.specs.Content.{Gives}

take-more : (a n : ℕ) (front back : List ℕ) → length front ≡ a → take (a + n) (front ++ back) ≡ front ++ take n back
take-more a n front back is = ap (λ (m : ℕ). take (m + n) (front ++ back)) (sym is) ∙ take-append-add front back n

pub take-add : (a n : ℕ) (all : List ℕ) → a ≤ length all → take (a + n) all ≡ take a all ++ take n (drop a all)
take-add a n all le = ap (λ (l : List ℕ). take (a + n) l) (sym (take-append-drop a all)) ∙ take-more a n (take a all) (drop a all) (omega (arith, length-take a all))

-- so far, got bytes stand in front
abbrev pub HasGot : ℕ → ℕ → List ℕ → Option (List ℕ) → Type 0
HasGot at got into content = IfSome content (λ bytes. (got ≤ length bytes - at) × (take got into ≡ take got (drop at bytes)))

pub got_more : (content now : Option (List ℕ)) (at got n : ℕ) (into old new rest : List ℕ) → now ≡ content → got ≤ length into → n ≤ length new → HasGot at got into content → IfSome now (λ bytes. Gives bytes (at + got) n old new)
    → HasGot at (got + n) (take got into ++ (new ++ rest)) content
got_more None now at got n into old new rest is within fits so_far gives = tt
got_more (Some bytes) now at got n into old new rest is within fits so_far gives =
    let more : Gives bytes (at + got) n old new = subst (λ (o : Option (List ℕ)). IfSome o (λ b. Gives b (at + got) n old new)) is gives in
    let left : got ≤ length (drop at bytes) = omega (arith, so_far.0, length-drop at bytes) in (
      omega (arith, so_far.0, more.there),
      take-more got n (take got into) (new ++ rest) (omega (arith, length-take got into))
          ∙ ap (λ (l : List ℕ). take got into ++ l) (take-append-le n new rest fits ∙ more.put ∙ ap (λ (l : List ℕ). take n l) (sym (drop-drop got at bytes)))
          ∙ ap (λ (l : List ℕ). l ++ take n (drop got (drop at bytes))) so_far.1
          ∙ sym (take-add got n (drop at bytes) left),
    )

-- bytes behind bytes, and zeros
pub bytes_behind : (front back : List ℕ) → ((i : ℕ) → get_or front i 0 < 256) → ((i : ℕ) → get_or back i 0 < 256) → (i : ℕ) → get_or (front ++ back) i 0 < 256
bytes_behind [] back f b i = b i
bytes_behind (x ∷ front) back f b zero = f 0
bytes_behind (x ∷ front) back f b (suc i) = bytes_behind front back (λ k. f (suc k)) b i

zero_there : (n i : ℕ) → get_or {A = ℕ} (replicate n 0) i 0 ≡ 0
zero_there zero i = refl
zero_there (suc n) zero = refl
zero_there (suc n) (suc i) = zero_there n i

pub zeros_behind : (n k i : ℕ) → get_or {A = ℕ} (drop k (replicate n 0)) i 0 < 256
zeros_behind n k i = omega (arith, get_or-drop {A = ℕ} k (replicate n 0) i 0, zero_there n (k + i))
