-- What came after the last line that was answered, as the window goes on.
use Rattle.std.proofs.Common.{◌≡◌, ◌⊎◌, inl, inr, ℕ, ◌+◌, ◌<◌, ◌≤◌, Bool, true, false, List, ◌∷◌, ◌++◌, length, take, drop, refl, sym, ap, ◌∙◌, subst, append_assoc, arith, length-append}
use Rattle.std.proofs.lemmas.List.{append-nil}
use Rattle.std.proofs.lemmas.List.Elements.{All-append}
use Rattle.std.proofs.lemmas.Bool.{false≢true}
use Rattle.line_loop.specs.declared.TheConstants.{LINE_LIMIT}
use Rattle.line_loop.specs.Lines.{is_feed}
use Rattle.line_loop.specs.inner.Pending.{Pending, NoFeed, EndsLine, IsTail, IsTailOf, IsShortened}

pub NoFeed-append : (xs ys : List ℕ) → NoFeed xs → NoFeed ys → NoFeed (xs ++ ys)
NoFeed-append xs ys = All-append (λ (b : ℕ). is_feed b ≡ false) xs ys

-- more came
pub tail_longer : (skips : Bool) (tail bytes chunk : List ℕ) → IsTailOf tail bytes skips → IsTailOf (tail ++ chunk) (bytes ++ chunk) skips
tail_longer false tail bytes chunk is = ap (λ (xs : List ℕ). xs ++ chunk) is
tail_longer true tail bytes chunk is =
    (is.0, is.1, is.2, ap (λ (xs : List ℕ). xs ++ chunk) is.3 ∙ append_assoc is.0 bytes chunk)

-- a tail whose kept bytes have no line feed has none
pub tail_no_feed : (skips : Bool) (tail bytes : List ℕ) → IsTailOf tail bytes skips → NoFeed bytes → NoFeed tail
tail_no_feed false tail bytes is none = subst NoFeed (sym is) none
tail_no_feed true tail bytes is none = subst NoFeed (sym is.3) (NoFeed-append is.0 bytes is.2 none)

-- the first line of a tail, without its line feed
pub first_line : (skips : Bool) (tail bytes : List ℕ) (n : ℕ) → IsTailOf tail bytes skips → EndsLine bytes n
    → (line : List ℕ) × IsTailOf line (take n bytes) skips × (tail ≡ line ++ 10 ∷ drop (n + 1) bytes) × NoFeed line
first_line false tail bytes n is ends = (take n bytes, refl, is ∙ ends.feed, ends.line)
first_line true tail bytes n is ends =
    let line : List ℕ = is.0 ++ take n bytes in
    (line, (is.0, is.1, is.2, refl), is.3 ∙ (ap (λ (xs : List ℕ). is.0 ++ xs) ends.feed ∙ sym (append_assoc is.0 (take n bytes) (10 ∷ drop (n + 1) bytes))), NoFeed-append is.0 (take n bytes) is.2 ends.line)

-- a line that is too long is longer than a line may be
pub long_line : (line bytes : List ℕ) (skips : Bool) → IsTailOf line bytes skips → (skips ≡ true) ⊎ (LINE_LIMIT < length bytes) → LINE_LIMIT < length line
long_line line bytes true is why = subst (λ (xs : List ℕ). LINE_LIMIT < length xs) (sym is.3) (omega (arith, is.1, length-append is.0 bytes))
long_line line bytes false is (inl skips) = absurd (false≢true skips)
long_line line bytes false is (inr long) = subst (λ (xs : List ℕ). LINE_LIMIT < length xs) (sym is) long

-- dropping a line that is too long changes no tail
pub tail_shortened : (old new : Pending) (tail : List ℕ) → IsShortened old new → NoFeed old.bytes → IsTail tail old → IsTail tail new
tail_shortened old new tail (inl dropped) none is =
    subst (λ (b : Bool). IsTailOf tail new.bytes b) (sym dropped.0) (subst (λ (xs : List ℕ). IsTailOf tail xs true) (sym dropped.1)
    (tail, long_line tail old.bytes old.skips is dropped.2, tail_no_feed old.skips tail old.bytes is none, sym (append-nil tail)))
tail_shortened old new tail (inr kept) none is = subst (λ (p : Pending). IsTail tail p) (sym kept.0) is

pub shortened_no_feed : (old new : Pending) → IsShortened old new → NoFeed old.bytes → NoFeed new.bytes
shortened_no_feed old new (inl dropped) none = subst NoFeed (sym dropped.1) (λ k d below. absurd (omega arith))
shortened_no_feed old new (inr kept) none = subst (λ (p : Pending). NoFeed p.bytes) (sym kept.0) none

pub shortened_is_short : (old new : Pending) → IsShortened old new → length new.bytes ≤ LINE_LIMIT
shortened_is_short old new (inl dropped) = subst (λ (xs : List ℕ). length xs ≤ LINE_LIMIT) (sym dropped.1) (omega arith)
shortened_is_short old new (inr kept) = subst (λ (p : Pending). length p.bytes ≤ LINE_LIMIT) (sym kept.0) kept.2
