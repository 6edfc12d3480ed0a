-- A content that is found by its bracket and decoded at once.
use Rattle.std.proofs.Common.{◌≡◌, ℕ, ◌+◌, ◌-◌, ◌<◌, List, [], ◌∷◌, ◌++◌, length, take, drop, get_or, Result, Ok, Err, Some, IfOk, subst, refl, sym, ap, ◌∙◌, append_assoc}
use Rattle.std.proofs.lemmas.List.{drop_more, take-append-drop, take_rest}
use Rattle.std.specs.Result.{result_ok}
use Rattle.base64.specs.GeneralPurpose.{encode_of, IsBytes}
use Rattle.base64.specs.Engines.{standard}
use Rattle.rrdp_text.specs.Fields.{content}
use Rattle.rrdp_text.specs.Reading.{field}
use Rattle.rrdp_text.proofs.FieldLaws.{field_exact}
use Rattle.rrdp_text.proofs.FieldKinds.{content_field}

-- Base64 in front of a bracket is the field's value, since no bracket stands in Base64.
pub at_once : (s text b : List ℕ) (i : ℕ) → i < length s → get_or s i 0 ≡ 60 → text ≡ take i s → text ≡ encode_of standard b → IsBytes b
    → field content 60 s ≡ Ok (b, take (length s - (i + 1)) (drop (i + 1) s))
at_once s text b i within bracket front spelled good =
    let behind : drop i s ≡ 60 ∷ drop (i + 1) s = drop_more s i 0 within ∙ ap (λ (x : ℕ). x ∷ drop (i + 1) s) bracket in
    let whole : s ≡ (encode_of standard b ++ (60 ∷ [])) ++ drop (i + 1) s =
    sym (take-append-drop i s) ∙ ap (λ (l : List ℕ). take i s ++ l) behind ∙ ap (λ (l : List ℕ). l ++ (60 ∷ drop (i + 1) s)) (sym front ∙ spelled) ∙ sym (append_assoc (encode_of standard b) (60 ∷ []) (drop (i + 1) s)) in
    ap (field content 60) whole ∙ (field_exact 60 content_field refl).again b good (drop (i + 1) s) ∙ ap (λ (l : List ℕ). Ok (b, l)) (sym (take_rest s (i + 1)))

-- What holds of a value that a call gave holds of the value that is kept of it.
pub kept : {A E : Type 0} (r : Result A E) (a : A) (P : A → Type 0) → result_ok r ≡ Some a → IfOk r P → P a
kept (Ok x) a P e h = let same : x ≡ a = cc e in subst P same h
kept (Err x) a P e h = cc e
