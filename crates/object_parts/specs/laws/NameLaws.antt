-- The law of names.
use Rattle.std.proofs.Common.{◌≡◌, ℕ, ◌*◌, Bool, true, false, cond, Option, Some, None, List, length, Result, Ok, Err, refl, sym, ap, ◌∙◌, arith}
use Rattle.std.specs.Result.{result_ok}
use Rattle.der.specs.Tags as tag
use Rattle.der.specs.Grammar.{AreBytes}
use Rattle.hex.specs.Hex.{encode_lower, lower_digits, decode_sized}
use Rattle.hex.specs.declared.error.FromHexError.{FromHexError}
use Rattle.hex.proofs.HexLemmas.{length-encode_with, decode_sized-encode_lower, decode_sized-ok, decode_sized-twice, decode_of-ok}
use Rattle.der.specs.Form.{IsWhole, IsFront}
use Rattle.der.specs.Forms.{within, sole, preceded}
use Rattle.der.specs.laws.FormLaws.{leaf-law, within-law}
use Rattle.der.specs.laws.FrameLaws.{sole-law, preceded-law}
use Rattle.der.specs.Leaves.{are_same}
use Rattle.der.specs.laws.LeafLaws.{same-self, same-lists}
use Rattle.object_parts.specs.declared.identifiers.TheConstants.{COMMON_NAME}
use Rattle.object_parts.specs.FrameFormats.{identifier}
use Rattle.object_parts.specs.laws.FrameLaws.{identifier-law}
use Rattle.object_parts.specs.NameFormats.{key_text, key_in, if_lower, key_digits, name}

lower-taken : (b : Bool) (text bytes x : List ℕ) → are_same text (encode_lower bytes) ≡ b
    → cond b (Some bytes) None ≡ Some x → (text ≡ encode_lower x) × (bytes ≡ x)
lower-taken true text bytes x test e =
    let same : bytes ≡ x = cc in
    (same-lists text (encode_lower bytes) test ∙ ap encode_lower same, same)
lower-taken false text bytes x test e = absurd cc

digits-taken : (text : List ℕ) (r : Result (List ℕ) FromHexError) (x : List ℕ)
    → decode_sized text 20 ≡ r → if_lower text (result_ok r) ≡ Some x
    → ((length x ≡ 20) × AreBytes x) × (text ≡ encode_lower x)
unfolding key_text
digits-taken text (Err d) x read e = absurd cc
digits-taken text (Ok bytes) x read e =
    let t = lower-taken (are_same text (encode_lower bytes)) text bytes x refl e in
    let long : length text ≡ 2 * 20 = decode_sized-ok text 20 bytes read in
    let ok = decode_of-ok text x
    (sym (decode_sized-twice text 20 long) ∙ read ∙ ap (λ (l : List ℕ). Ok l) t.1) in
    ((omega (arith, ok.2), ok.3), t.0)

pub key_digits-law : IsWhole key_digits
unfolding key_text key_in
key_digits-law = leaf-law (λ (bytes : List ℕ). (length bytes ≡ 20) × AreBytes bytes) key_text
    (λ text. if_lower text (key_in text)) (record {
      again = λ x good input.
          rw (decode_sized-encode_lower x 20 good.0 good.1, same-self (encode_lower x)) refl;
      taken = λ x text input e. digits-taken text (decode_sized text 20) x refl e;
    })

pub name-law : IsFront name
unfolding name
name-law =
    within-law tag.sequence
    (sole tag.set_of
    (sole tag.sequence
    (preceded (identifier COMMON_NAME) (sole tag.printable_string key_digits))))
    (sole-law tag.set_of
    (sole tag.sequence
    (preceded (identifier COMMON_NAME) (sole tag.printable_string key_digits)))
    (sole-law tag.sequence
    (preceded (identifier COMMON_NAME) (sole tag.printable_string key_digits))
    (preceded-law (identifier COMMON_NAME) (sole tag.printable_string key_digits)
    (identifier-law COMMON_NAME) tt
    (sole-law tag.printable_string key_digits key_digits-law))))
