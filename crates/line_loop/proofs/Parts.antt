-- The part of a list from one place to another.
use Rattle.std.proofs.Common.{◌≡◌, ℕ, ◌+◌, ◌-◌, ◌≤◌, List, ◌++◌, length, take, drop, refl, sym, ap, ◌∙◌, subst, arith, length-drop}
use Rattle.std.proofs.Common.{Result, Ok, Err, Option}
use Rattle.std.specs.Prelude.{IfOk}
use Rattle.std.specs.Io.KnownBytes.{Consumes, ReadConsumes}
use borrow.Rule.Slice.PartMut.{put_mid}
use Rattle.std.proofs.Math.Seq.{take-append-add}
use Rattle.std.proofs.lemmas.Slice.{take-put_mid}
use Rattle.std.proofs.lemmas.List.Edits.{take-paste}
use Rattle.std.proofs.Common.{zero-add}
use Rattle.std.specs.List.{copy_within}
use Rattle.std.proofs.lemmas.List.{drop-drop, drop_all, drop-take, take-take, drop-append-le, append-nil, take_all, length-take-le}

pub slice_is_part : (xs : List ℕ) (a b : ℕ) → a ≤ b → take (b - a) (drop a xs) ≡ drop a (take b xs)
slice_is_part xs a b h =
    let e : a + (b - a) ≡ b = omega arith in
    sym (drop-take a (b - a) xs) ∙ ap (λ (n : ℕ). drop a (take n xs)) e

pub length_part : (xs : List ℕ) (a b : ℕ) → b ≤ length xs → length (drop a (take b xs)) ≡ b - a
length_part xs a b h = length-drop a (take b xs) ∙ ap (λ (n : ℕ). n - a) (length-take-le b xs h)

-- a front of a part
pub front_of_part : (xs : List ℕ) (a b n : ℕ) → a + n ≤ b → take n (drop a (take b xs)) ≡ drop a (take (a + n) xs)
front_of_part xs a b n h = sym (drop-take a n (take b xs)) ∙ ap (drop a) (take-take (a + n) b xs h)

pub front_up_to : (xs : List ℕ) (a m b : ℕ) → a ≤ m → m ≤ b → take (m - a) (drop a (take b xs)) ≡ drop a (take m xs)
front_up_to xs a m b low high =
    let e : a + (m - a) ≡ m = omega arith in
    front_of_part xs a b (m - a) (omega arith) ∙ ap (λ (n : ℕ). drop a (take n xs)) e

-- the rest of a part
pub rest_of_part : (xs : List ℕ) (a b n : ℕ) → drop (a + n) (take b xs) ≡ drop n (drop a (take b xs))
rest_of_part xs a b n = sym (drop-drop n a (take b xs))

-- a part whose end moved on
pub longer_part : (xs ys chunk : List ℕ) (a b c : ℕ) → a ≤ b → b ≤ length xs → take c ys ≡ take b xs ++ chunk → drop a (take c ys) ≡ drop a (take b xs) ++ chunk
longer_part xs ys chunk a b c low high e =
    ap (drop a) e ∙ drop-append-le a (take b xs) chunk (omega (arith, length-take-le b xs high))

-- a list written back whole
pub written_back : (xs ys : List ℕ) (n : ℕ) → length ys ≡ length xs → n ≡ length xs → take n (ys ++ drop (length ys) xs) ≡ ys
written_back xs ys n same is =
    ap (λ (zs : List ℕ). take n (ys ++ zs)) (drop_all (length ys) xs (omega arith)) ∙ (ap (take n) (append-nil ys) ∙ take_all n ys (omega arith))

-- a shorter front of lists with the same front
pub same_shorter : (xs ys : List ℕ) (m n : ℕ) → m ≤ n → take n ys ≡ take n xs → take m ys ≡ take m xs
same_shorter xs ys m n h e = sym (take-take m n ys h) ∙ (ap (take m) e ∙ take-take m n xs h)

-- what was written into the middle of a list, as far as m
pub written_front : (xs ys : List ℕ) (a k m : ℕ) → a ≤ length xs → m ≤ length ys → take (a + m) (put_mid a k xs ys) ≡ take a xs ++ take m ys
written_front xs ys a k m low high =
    sym (take-take (a + m) (a + length ys) (put_mid a k xs ys) (omega arith)) ∙ (ap (take (a + m)) (take-put_mid a k xs ys (a + length ys) refl low) ∙ (ap (λ (j : ℕ). take (j + m) (take a xs ++ ys)) (sym (length-take-le a xs low)) ∙ take-append-add (take a xs) ys m))

-- what a call took, and where it stands then
pub took : {E : Type 0} (r : Result ℕ E) (before after : Option (List ℕ)) (into old new : List ℕ) (end room : ℕ)
    → length into ≡ room → ((n : ℕ) → n ≤ length into → take (end + n) new ≡ take end old ++ take n into)
    → IfOk r (λ n. n ≤ length into) → ReadConsumes before after r into
    → IfOk r (λ n. (n ≤ room) × ((chunk : List ℕ) × (length chunk ≡ n) × Consumes before after chunk × (take (end + n) new ≡ take end old ++ chunk)))
took (Ok n) before after into old new end room size stands within given =
    (omega arith, (take n into, length-take-le n into within, given.0, stands n within))
took (Err e) before after into old new end room size stands within given = tt

-- a part that was moved to the front
pub moved_front : (xs : List ℕ) (a b : ℕ) → a ≤ b → b ≤ length xs → take (b - a) (copy_within xs a b 0) ≡ drop a (take b xs)
moved_front xs a b low high =
    let n : ℕ = b - a in
    ap (λ (k : ℕ). take k (copy_within xs a b 0)) (sym (zero-add n)) ∙ (take-paste xs 0 (drop a xs) n (omega arith) (omega (arith, length-drop a xs)) ∙ slice_is_part xs a b low)

-- what holds of a part up to a place before its end holds there after the part was moved to the front
pub moved_up_to : (P : List ℕ → Type 0) (xs ys : List ℕ) (a m b : ℕ) → a ≤ m → m ≤ b → take (b - a) ys ≡ drop a (take b xs) → P (drop a (take m xs)) → P (take (m - a) ys)
moved_up_to P xs ys a m b low high e holds =
    subst P (sym (front_up_to xs a m b low high) ∙ (ap (take (m - a)) (sym e) ∙ take-take (m - a) (b - a) ys (omega arith))) holds
