-- A token taken from a line is the first of those that are left.
use Rattle.std.proofs.Common.{◌≡◌, ◌≢◌, ◌⊎◌, ⊎_elim, true≢false, ℕ, suc, ◌-◌, ◌<◌, ◌≤◌, List, [], ◌∷◌, ◌++◌, length, take, drop, Bool, true, false, not, Option, Some, inl, inr, refl, sym, ap, ap₂, ◌∙◌, subst, arith, length-take}
use Rattle.std.proofs.lemmas.List.{take-append-drop, take_rest, get_or-take, get_or_default, nil_from_length}
use Rattle.std.proofs.lemmas.Bool.{cases_eq}
use Rattle.std.proofs.lemmas.List.Quantifiers.{position-Some}
use Rattle.std.specs.List.{position}
use Rattle.std.proofs.lemmas.Bool.Decides.{nat_tests}
use Rattle.std.proofs.lemmas.Str.{IsUtf8-from_ascii}
use Rattle.std.proofs.lemmas.Str.Ascii.{IsAscii-from_all}
use Rattle.std.specs.List.{AllPass}
use Rattle.std.specs.Str.{IsUtf8}
use Rattle.json.specs.Token.{Token, begin_object, end_object, begin_array, end_array, key, string}
use Rattle.json.specs.Text.{content}
use Rattle.json.specs.Text as within
use Rattle.json.specs.Lex.{Lexeme, token, comma, colon, string_token, lex, between, in_string, fresh, after_value, after_comma, begins_colon, place_token, punctuate}
use Rattle.json.specs.Print.{escape_byte, escape}
use Rattle.json.proofs.Printed.Strings.{escape_byte_plain, content-escape, lex-escape}
use Rattle.json_api.specs.declared.plain.Place.{Place}
use Rattle.json_api.specs.declared.plain.Place.TheVariants.{Fresh, AfterValue, AfterComma}
use Rattle.json_api.specs.inner.Plain.{left_at, begins_at, closes_at, is_plain, is_blank, IsTextAt, EndsValue}

-- ---- texts

plain-quote : (c : ℕ) → is_plain c ≡ true → c ≢ 34
plain-quote c h e = let at : is_plain 34 ≡ true = subst (λ (c : ℕ). is_plain c ≡ true) e h in true≢false (sym at)

plain-backslash : (c : ℕ) → is_plain c ≡ true → c ≢ 92
plain-backslash c h e = let at : is_plain 92 ≡ true = subst (λ (c : ℕ). is_plain c ≡ true) e h in true≢false (sym at)

plain-graphic : (c : ℕ) → is_plain c ≡ true → 32 ≤ c
plain-graphic c h = grind (arith, nat_tests)

plain-ascii : (c : ℕ) → is_plain c ≡ true → c < 128
plain-ascii c h = grind (arith, nat_tests)

pub utf8_plain : (s : List ℕ) → AllPass is_plain s → IsUtf8 s
utf8_plain s h = IsUtf8-from_ascii s (IsAscii-from_all s (λ k d within. plain-ascii _ (h k d within)))

escape-plain : (s : List ℕ) → AllPass is_plain s → escape s ≡ s
escape-plain [] h = refl
escape-plain (c ∷ s) h =
    let first : is_plain c ≡ true = h 0 0 (omega arith) in
    let rest : AllPass is_plain s = λ k d lt. h (suc k) d (omega arith) in
    let one : escape_byte c ≡ c ∷ [] = escape_byte_plain c (plain-quote c first) (plain-backslash c first) (plain-graphic c first) in
    ap₂ (λ (xs ys : List ℕ). xs ++ ys) one (escape-plain s rest)

lex-text : (s r : List ℕ) → AllPass is_plain s → lex between (34 ∷ (s ++ 34 ∷ r)) ≡ token (string s) ∷ lex between r
unfolding lex
lex-text s r h =
    let e = escape-plain s h in
    ap₂ (λ (o : Option (List ℕ)) (l : List Lexeme). token (string_token o) ∷ l)
    (subst (λ (xs : List ℕ). content within.plain (xs ++ 34 ∷ r) ≡ Some s) e (content-escape s r))
    (subst (λ (xs : List ℕ). lex in_string (xs ++ 34 ∷ r) ≡ lex between r) e (lex-escape s r))

not_false : (b : Bool) → not b ≡ false → b ≡ true
not_false true h = refl
not_false false h = absurd (true≢false h)

-- the bytes before the first that doesn't stand for itself
pub front_plain : (rest : List ℕ) (n : ℕ) → Some n ≡ position (λ b. not (is_plain b)) rest → AllPass is_plain (take n rest)
front_plain rest n found =
    let at = position-Some (λ b. not (is_plain b)) rest n 0 (sym found) in
    λ k d below.
    let short : k < n = omega (arith, length-take n rest, below) in
    let long : k < length rest = omega (arith, at.0, short) in
    subst (λ (b : ℕ). is_plain b ≡ true) (get_or_default rest k 0 d long ∙ sym (get_or-take n rest k d short)) (not_false _ (at.2 k short))

pub text_taken : (left rest behind : List ℕ) (n : ℕ) → left ≡ 34 ∷ rest → Some n ≡ position (λ b. not (is_plain b)) rest
    → take (length rest - n) (drop n rest) ≡ 34 ∷ behind → IsTextAt left (take n rest) behind
text_taken left rest behind n is found ends = record {
  quoted = is ∙ ap (λ (xs : List ℕ). 34 ∷ xs) (sym (take-append-drop n rest) ∙ ap (λ (xs : List ℕ). take n rest ++ xs) (sym (take_rest rest n) ∙ ends));
  plain = front_plain rest n found;
}

-- ---- what comes behind

no_colon : (l : List ℕ) → EndsValue l → begins_colon (lex between l) ≡ false
unfolding lex
no_colon [] h = absurd h
no_colon (c ∷ l) (inl e) = subst (λ (c : ℕ). begins_colon (lex between (c ∷ l)) ≡ false) (sym e) refl
no_colon (c ∷ l) (inr (inl e)) = subst (λ (c : ℕ). begins_colon (lex between (c ∷ l)) ≡ false) (sym e) refl
no_colon (c ∷ l) (inr (inr e)) = subst (λ (c : ℕ). begins_colon (lex between (c ∷ l)) ≡ false) (sym e) refl

blank_passed : (c : ℕ) (l : List ℕ) → (c ≡ 32) ⊎ (c ≡ 9) ⊎ (c ≡ 13) ⊎ (c ≡ 10) → lex between (c ∷ l) ≡ lex between l
unfolding lex
blank_passed c l (inl e) = subst (λ (c : ℕ). lex between (c ∷ l) ≡ lex between l) (sym e) refl
blank_passed c l (inr (inl e)) = subst (λ (c : ℕ). lex between (c ∷ l) ≡ lex between l) (sym e) refl
blank_passed c l (inr (inr (inl e))) = subst (λ (c : ℕ). lex between (c ∷ l) ≡ lex between l) (sym e) refl
blank_passed c l (inr (inr (inr e))) = subst (λ (c : ℕ). lex between (c ∷ l) ≡ lex between l) (sym e) refl

which_blank : (c : ℕ) → is_blank c ≡ true → (c ≡ 32) ⊎ (c ≡ 9) ⊎ (c ≡ 13) ⊎ (c ≡ 10)
which_blank c h = ⊎_elim (λ e. inl e) (λ n. ⊎_elim (λ e. inr (inl e)) (λ m. ⊎_elim (λ e. inr (inr (inl e))) (λ k. inr (inr (inr (grind (arith, nat_tests, h, n, m, k))))) (cases_eq c 13)) (cases_eq c 9)) (cases_eq c 32)

pub blank_skipped : (c : ℕ) (left rest bytes : List ℕ) → left ≡ c ∷ rest → is_blank c ≡ true → lex between left ≡ lex between bytes → lex between rest ≡ lex between bytes
blank_skipped c left rest bytes is blank same = sym (blank_passed c rest (which_blank c blank)) ∙ (ap (lex between) (sym is) ∙ same)

-- where the lexemes are the same, so are the tokens
pub same_left : (place : Place) (l r : List ℕ) → lex between l ≡ lex between r → left_at place l ≡ left_at place r
same_left Fresh l r e = ap (punctuate fresh) e
same_left AfterValue l r e = ap (punctuate after_value) e
same_left AfterComma l r e = ap (punctuate after_comma) e

comma_passed : (l : List ℕ) → left_at AfterValue (44 ∷ l) ≡ left_at AfterComma l
unfolding lex punctuate
comma_passed l = refl

-- a comma behind a value, with blanks round it
pub comma_taken : (behind left rest next : List ℕ) → lex between left ≡ lex between behind → left ≡ 44 ∷ rest → lex between next ≡ lex between rest
    → left_at AfterComma next ≡ left_at AfterValue behind
comma_taken behind left rest next same is more =
    same_left AfterComma next rest more ∙ (sym (comma_passed rest) ∙ (ap (left_at AfterValue) (sym is) ∙ same_left AfterValue left behind same))

pub none_left : (place : Place) → closes_at place ≡ true → left_at place [] ≡ []
unfolding lex punctuate
none_left Fresh e = refl
none_left AfterValue e = refl
none_left AfterComma e = absurd (true≢false (sym e))

-- ---- one token

string_first : (place : Place) (s : List ℕ) (ls : List Lexeme) → begins_at place ≡ true → begins_colon ls ≡ false → (left : List ℕ)
    → lex between left ≡ token (string s) ∷ ls → left_at place left ≡ string s ∷ punctuate after_value ls
unfolding punctuate
string_first Fresh s ls begins none left e = ap (punctuate fresh) e ∙ ap (λ (b : Bool). place_token fresh (string s) b (λ next. punctuate next ls)) none
string_first AfterValue s ls begins none left e = absurd (true≢false (sym begins))
string_first AfterComma s ls begins none left e = ap (punctuate after_comma) e ∙ ap (λ (b : Bool). place_token after_comma (string s) b (λ next. punctuate next ls)) none

pub text_first : (place : Place) (left text behind next : List ℕ) → begins_at place ≡ true → IsTextAt left text behind
    → lex between next ≡ lex between behind → EndsValue next → left_at place left ≡ string text ∷ left_at AfterValue next
text_first place left text behind next begins at same ends =
    string_first place text (lex between next) begins (no_colon next ends) left
    (ap (lex between) at.quoted ∙ (lex-text text behind at.plain ∙ ap (λ (l : List Lexeme). token (string text) ∷ l) (sym same)))

key_at : (place : Place) (s : List ℕ) (ls : List Lexeme) → begins_at place ≡ true → (left : List ℕ)
    → lex between left ≡ token (string s) ∷ colon ∷ ls → left_at place left ≡ key s ∷ punctuate fresh ls
unfolding punctuate
key_at Fresh s ls begins left e = ap (punctuate fresh) e
key_at AfterValue s ls begins left e = absurd (true≢false (sym begins))
key_at AfterComma s ls begins left e = ap (punctuate after_comma) e

lex-colon : (l : List ℕ) → lex between (58 ∷ l) ≡ colon ∷ lex between l
unfolding lex
lex-colon l = refl

pub key_first : (place : Place) (left name behind colon_on next : List ℕ) → begins_at place ≡ true → IsTextAt left name behind
    → lex between colon_on ≡ lex between behind → colon_on ≡ 58 ∷ next → left_at place left ≡ key name ∷ left_at Fresh next
key_first place left name behind colon_on next begins at same is =
    key_at place name (lex between next) begins left
    (ap (lex between) at.quoted
    ∙ (lex-text name behind at.plain ∙ ap (λ (l : List Lexeme). token (string name) ∷ l) (sym same ∙ (ap (lex between) is ∙ lex-colon next))))

object_begins-at : (place : Place) (l : List ℕ) → begins_at place ≡ true → left_at place (123 ∷ l) ≡ begin_object ∷ left_at Fresh l
unfolding lex punctuate
object_begins-at Fresh l e = refl
object_begins-at AfterValue l e = absurd (true≢false (sym e))
object_begins-at AfterComma l e = refl

pub object_begins : (place : Place) (left behind : List ℕ) → begins_at place ≡ true → left ≡ 123 ∷ behind → left_at place left ≡ begin_object ∷ left_at Fresh behind
object_begins place left behind may is = ap (left_at place) is ∙ object_begins-at place behind may

list_begins-at : (place : Place) (l : List ℕ) → begins_at place ≡ true → left_at place (91 ∷ l) ≡ begin_array ∷ left_at Fresh l
unfolding lex punctuate
list_begins-at Fresh l e = refl
list_begins-at AfterValue l e = absurd (true≢false (sym e))
list_begins-at AfterComma l e = refl

pub list_begins : (place : Place) (left behind : List ℕ) → begins_at place ≡ true → left ≡ 91 ∷ behind → left_at place left ≡ begin_array ∷ left_at Fresh behind
list_begins place left behind may is = ap (left_at place) is ∙ list_begins-at place behind may

object_ends-at : (place : Place) (l : List ℕ) → closes_at place ≡ true → left_at place (125 ∷ l) ≡ end_object ∷ left_at AfterValue l
unfolding lex punctuate
object_ends-at Fresh l e = refl
object_ends-at AfterValue l e = refl
object_ends-at AfterComma l e = absurd (true≢false (sym e))

pub object_ends : (place : Place) (left behind : List ℕ) → closes_at place ≡ true → left ≡ 125 ∷ behind → left_at place left ≡ end_object ∷ left_at AfterValue behind
object_ends place left behind may is = ap (left_at place) is ∙ object_ends-at place behind may

list_ends-at : (place : Place) (l : List ℕ) → closes_at place ≡ true → left_at place (93 ∷ l) ≡ end_array ∷ left_at AfterValue l
unfolding lex punctuate
list_ends-at Fresh l e = refl
list_ends-at AfterValue l e = refl
list_ends-at AfterComma l e = absurd (true≢false (sym e))

pub list_ends : (place : Place) (left behind : List ℕ) → closes_at place ≡ true → left ≡ 93 ∷ behind → left_at place left ≡ end_array ∷ left_at AfterValue behind
list_ends place left behind may is = ap (left_at place) is ∙ list_ends-at place behind may

-- ---- fewer are left

pub fewer_left : (t : Token) (old new : List Token) → old ≡ t ∷ new → length new ≤ length old
fewer_left t old new is = let size : length old ≡ length (t ∷ new) = ap length is in omega arith

-- nothing is left of no bytes
pub over : (place : Place) (left : List ℕ) → length left ≡ 0 → closes_at place ≡ true → left_at place left ≡ []
over place left none closes = ap (left_at place) (nil_from_length left none) ∙ none_left place closes
