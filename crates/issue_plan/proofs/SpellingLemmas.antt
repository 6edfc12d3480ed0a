-- Texts in hex, one behind the other.
use Rattle.std.proofs.Common.{◌≡◌, ℕ, ◌+◌, ◌<◌, ◌≤◌, true, List, [], ◌∷◌, ◌++◌, take, drop, length, get_or, append_assoc, refl, sym, ap, ◌∙◌, arith}
use Rattle.std.specs.Prelude.{◌/◌, ◌%◌, slice_index, nat_eq, codes}
use Rattle.std.specs.Cmp.Lexicographic.{pointwise, same_text}
use Rattle.std.proofs.lemmas.List.{take_more, take-append-drop}
use Rattle.hex.specs.Hex.{encode_lower, encode_with, lower_digits}

pub encode-append : (a b : List ℕ) → encode_lower (a ++ b) ≡ encode_lower a ++ encode_lower b
unfolding encode_with
encode-append [] b = refl
encode-append (x ∷ a) b =
    ap (λ (l : List ℕ). slice_index lower_digits (x / 16) ∷ slice_index lower_digits (x % 16) ∷ l) (encode-append a b)

-- What is left behind two texts.
pub behind-both : (digits a first b rest : List ℕ)
    → digits ≡ encode_lower a ++ first → first ≡ encode_lower b ++ rest → digits ≡ encode_lower (a ++ b) ++ rest
behind-both digits a first b rest one other =
    one ∙ (ap (λ (l : List ℕ). encode_lower a ++ l) other
    ∙ (sym (append_assoc (encode_lower a) (encode_lower b) rest)
    ∙ ap (λ (l : List ℕ). l ++ rest) (sym (encode-append a b))))

-- What is left behind a byte's two digits.
pub one-byte : (digits rest : List ℕ) (b : ℕ) → 2 ≤ length digits
    → get_or digits 0 0 ≡ slice_index lower_digits (b / 16) → get_or digits 1 0 ≡ slice_index lower_digits (b % 16)
    → rest ≡ drop 2 digits → digits ≡ encode_lower (b ∷ []) ++ rest
unfolding encode_with
one-byte [] rest b long high low is = absurd (omega (arith, long))
one-byte (x ∷ []) rest b long high low is = absurd (omega (arith, long))
one-byte (x ∷ y ∷ digits) rest b long high low is = rw (high, low, is) refl

-- What is left behind one byte more of a text.
pub behind-more : (digits text : List ℕ) (i byte : ℕ) (old new : List ℕ) → i < length text → byte ≡ get_or text i 0
    → digits ≡ encode_lower (take i text) ++ old → old ≡ encode_lower (byte ∷ []) ++ new
    → digits ≡ encode_lower (take (i + 1) text) ++ new
behind-more digits text i byte old new inside is was put =
    behind-both digits (take i text) old (byte ∷ []) new was put
    ∙ ap (λ (l : List ℕ). encode_lower l ++ new)
    (ap (λ (b : ℕ). take i text ++ b ∷ []) is ∙ sym (take_more text i 0 inside))

-- Nothing of no text.
pub behind-none : (digits text : List ℕ) → text ≡ [] → digits ≡ encode_lower text ++ digits
unfolding encode_with
behind-none digits text none = rw none refl

-- What is left behind a text, and behind a mark and another one.
behind-next : (digits a first : List ℕ) (mark : ℕ) (b rest : List ℕ)
    → digits ≡ encode_lower a ++ first → first ≡ encode_lower (mark ∷ b) ++ rest
    → digits ≡ encode_lower (a ++ (mark ∷ []) ++ b) ++ rest
behind-next digits a first mark b rest one other =
    behind-both digits a first (mark ∷ b) rest one other
    ∙ ap (λ (l : List ℕ). encode_lower l ++ rest) (sym (append_assoc a (mark ∷ []) b))

-- What is left behind four numbers with dots between them.
pub behind-dotted : (digits first second third rest a b c d : List ℕ)
    → digits ≡ encode_lower a ++ first → first ≡ encode_lower (46 ∷ b) ++ second
    → second ≡ encode_lower (46 ∷ c) ++ third → third ≡ encode_lower (46 ∷ d) ++ rest
    → digits ≡ encode_lower (a ++ codes "." ++ b ++ codes "." ++ c ++ codes "." ++ d) ++ rest
behind-dotted digits first second third rest a b c d one two three four =
    behind-next digits (a ++ codes "." ++ b ++ codes "." ++ c) third 46 d rest
    (behind-next digits (a ++ codes "." ++ b) second 46 c third
    (behind-next digits a first 46 b second one two) three) four

-- What is left behind the parts of an origin's text.
pub behind-parts : (digits first second third fourth rest address len max asn : List ℕ)
    → digits ≡ encode_lower address ++ first → first ≡ encode_lower (47 ∷ len) ++ second
    → second ≡ encode_lower max ++ third → third ≡ encode_lower (codes " => ") ++ fourth
    → fourth ≡ encode_lower asn ++ rest
    → digits ≡ encode_lower (address ++ codes "/" ++ len ++ max ++ codes " => " ++ asn) ++ rest
behind-parts digits first second third fourth rest address len max asn one two three four five =
    behind-both digits (address ++ codes "/" ++ len ++ max ++ codes " => ") fourth asn rest
    (behind-both digits (address ++ codes "/" ++ len ++ max) third (codes " => ") fourth
    (behind-both digits (address ++ codes "/" ++ len) second max third
    (behind-next digits address first 47 len second one two) three) four) five

-- A file in a folder, by what is left behind the folder and behind the file's text.
pub file-behind : (uri folder whole front file text rest : List ℕ) → whole ≡ uri → front ≡ folder
    → pointwise nat_eq (take (length front) whole) front ≡ true → file ≡ drop (length front) whole
    → file ≡ encode_lower text ++ rest → rest ≡ codes ".roa"
    → uri ≡ folder ++ (encode_lower text ++ codes ".roa")
file-behind uri folder whole front file text rest is-uri is-folder same is behind last =
    sym is-uri ∙ (sym (take-append-drop (length front) whole)
    ∙ (ap (λ (l : List ℕ). l ++ drop (length front) whole)
    (same_text (take (length front) whole) front (sym same) ∙ is-folder)
    ∙ ap (λ (l : List ℕ). folder ++ l)
    (sym is ∙ (behind ∙ ap (λ (l : List ℕ). encode_lower text ++ l) last))))
