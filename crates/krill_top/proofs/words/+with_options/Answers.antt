use Rattle.std.specs.declared.alloc.Global.{Global}
use Rattle.std.proofs.Common.{◌≡◌, ℕ, ◌≤◌, ◌∙◌, Bool, true, false, List, [], ◌∷◌, length, drop, get_or, String, string_bytes, sym, ap, refl, arith}
use Rattle.std.specs.Prelude.{Some, if◌then◌else◌, option_and_then}
use Rattle.std.specs.Option.{option_map}
use Rattle.std.proofs.lemmas.List.{take_rest}
use Rattle.krill_top.specs.Words as spec
use Rattle.krill_top.specs.Words.{SaidValue, is_option, with_next, with_joined, texts}
use Rattle.krill_top.specs.inner.Asking.{said_value}
use Rattle.krill_top.proofs.words.+with_options.Goals as goal

chosen : {A : Type 0} (b : Bool) (x y : A) → b ≡ true → (if b then x else y) ≡ x
chosen true x y is = refl
chosen false x y is = absurd (cc)

otherwise : {A : Type 0} (b : Bool) (x y : A) → b ≡ false → (if b then x else y) ≡ y
otherwise true x y is = absurd (cc)
otherwise false x y is = refl

two_words : {A : Type 0} (words : List A) (word next : A) → 2 ≤ length words → word ≡ get_or words 0 word → next ≡ get_or words 1 next → words ≡ word ∷ next ∷ drop 2 words
two_words [] word next long first second = absurd (omega arith)
two_words (x ∷ []) word next long first second = absurd (omega arith)
two_words (x ∷ y ∷ rest) word next long first second = cc

next_then : (words : List (String Global)) (word next : String Global) (asked more : SaidValue) → words ≡ word ∷ next ∷ drop 2 words → is_option (string_bytes word) ≡ true
    → with_next asked (string_bytes word) (string_bytes next) ≡ Some more → spec.with_options asked (texts words) ≡ spec.with_options more (texts (drop 2 words))
next_then words word next asked more are option e =
    ap (λ (l : List (String Global)). spec.with_options asked (texts l)) are
    ∙ chosen (is_option (string_bytes word)) _ _ option
    ∙ ap (option_and_then (λ (m : SaidValue). spec.with_options m (texts (drop 2 words)))) e

joined_then : (words : List (String Global)) (word next : String Global) (asked more : SaidValue) → words ≡ word ∷ next ∷ drop 2 words → is_option (string_bytes word) ≡ false
    → with_joined asked (string_bytes word) ≡ Some more → spec.with_options asked (texts words) ≡ spec.with_options more (texts (drop 1 words))
joined_then words word next asked more are option e =
    ap (λ (l : List (String Global)). spec.with_options asked (texts l)) are
    ∙ otherwise (is_option (string_bytes word)) _ _ option
    ∙ ap (option_and_then (λ (m : SaidValue). spec.with_options m (string_bytes next ∷ texts (drop 2 words)))) e
    ∙ ap (λ (l : List (String Global)). spec.with_options more (texts (drop 1 l))) (sym are)

pub returns-in_ok-with_next-in-len2-up : goal.returns-in_ok-with_next-in-len2-up
returns-in_ok-with_next-in-len2-up t c =
    let words : List (String Global) = c.args.words.now in
    let word : String Global = c.word-item-2.result in
    let next : String Global = c.next-item.result in
    let asked : SaidValue = said_value c.args.said in
    let are : words ≡ word ∷ next ∷ drop 2 words = two_words words word next c.in-len2-up.len_at_least c.word-item-2.is c.next-item.is in
    let option : is_option (string_bytes word) ≡ true = ap is_option (sym c.as_str-in-len2-up.ensures.value) ∙ sym c.is_option.ensures ∙ c.if-is_option.true in
    let given : with_next asked (string_bytes word) (string_bytes next) ≡ Some (said_value c.in_ok-with_next-in-len2-up.field-0) =
    ap (λ (t : List ℕ). with_next asked t (string_bytes next)) (sym c.as_str-then-is_option.ensures.value)
    ∙ ap (λ (t : List ℕ). with_next asked c.as_str-then-is_option.result.now t) (sym c.as_str-then-is_option-2.ensures.value)
    ∙ sym c.with_next.ensures ∙ ap (option_map said_value) c.in_ok-with_next-in-len2-up.was in
    c.with_options.ensures
    ∙ ap (λ (l : List (String Global)). spec.with_options (said_value c.in_ok-with_next-in-len2-up.field-0) (texts l)) (take_rest words 2)
    ∙ sym (next_then words word next asked (said_value c.in_ok-with_next-in-len2-up.field-0) are option given)

pub returns-in_ok-with_joined-in-len2-up : goal.returns-in_ok-with_joined-in-len2-up
returns-in_ok-with_joined-in-len2-up t c =
    let words : List (String Global) = c.args.words.now in
    let word : String Global = c.word-item-2.result in
    let next : String Global = c.next-item.result in
    let asked : SaidValue = said_value c.args.said in
    let are : words ≡ word ∷ next ∷ drop 2 words = two_words words word next c.in-len2-up.len_at_least c.word-item-2.is c.next-item.is in
    let option : is_option (string_bytes word) ≡ false = ap is_option (sym c.as_str-in-len2-up.ensures.value) ∙ sym c.is_option.ensures ∙ c.if-is_option.false in
    let given : with_joined asked (string_bytes word) ≡ Some (said_value c.in_ok-with_joined-in-len2-up.field-0) =
    ap (with_joined asked) (sym c.as_str-else-is_option.ensures.value)
    ∙ sym c.with_joined-else-is_option.ensures ∙ ap (option_map said_value) c.in_ok-with_joined-in-len2-up.was in
    c.with_options-else-is_option.ensures
    ∙ ap (λ (l : List (String Global)). spec.with_options (said_value c.in_ok-with_joined-in-len2-up.field-0) (texts l)) (take_rest words 1)
    ∙ sym (joined_then words word next asked (said_value c.in_ok-with_joined-in-len2-up.field-0) are option given)
