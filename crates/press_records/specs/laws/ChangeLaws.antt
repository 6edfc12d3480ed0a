-- The laws of changes.
use Rattle.std.proofs.Common.{◌≡◌, inl, inr, ℕ, ◌≤◌, List, length, Option, Some, None, refl, sym, ap, arith}
use Rattle.std.specs.Option.{option_map}
use Rattle.std.specs.Str.{is_utf8}
use Rattle.sha2.specs.Sha256.{sha256}
use Rattle.pub_set.specs.declared.steps.Change.{Change}
use Rattle.pub_set.specs.declared.steps.Change.TheVariants.{Withdraw}
use Rattle.pub_set.specs.Changes.{Contents}
use Rattle.record_forms.specs.Form.{IsForm}
use Rattle.record_forms.specs.Forms.{both, sized}
use Rattle.record_forms.specs.laws.ByteLaws.{same-some, passed, sized-law}
use Rattle.record_forms.specs.laws.FormLaws.{both-law, through-law, either-law}
use Rattle.record_forms.specs.laws.ListLaws.{HasBytes}
use Rattle.press_records.specs.Changes.{text_in, texts, RawChange, raw_changes, put_over, change_told, change_raw, changes}

pub texts-law : IsForm texts
texts-law = through-law sized text_in (λ bytes. bytes) (λ x y e. sym (passed (is_utf8 x) x y e).1) sized-law

pub raw_changes-law : IsForm raw_changes
raw_changes-law = either-law 1 (both texts sized) 2 texts refl (both-law texts sized texts-law sized-law) texts-law

withdrawn-back : (held : Contents) (uri : List ℕ) (y : Change) (there : Option (List ℕ))
    → option_map (λ bytes. Withdraw uri (sha256 bytes)) there ≡ Some y → change_raw y ≡ inr uri
withdrawn-back held uri y (Some bytes) e = ap change_raw (sym (same-some (Withdraw uri (sha256 bytes)) y e))
withdrawn-back held uri y None e = absurd cc

change-back : (held : Contents) (x : RawChange) (y : Change) → change_told held x ≡ Some y → change_raw y ≡ x
change-back held (inl put) y e = ap change_raw (sym (same-some (put_over held put) y e))
change-back held (inr uri) y e = withdrawn-back held uri y (held uri) e

pub changes-law : (held : Contents) → IsForm (changes held)
unfolding changes
changes-law held = through-law raw_changes (change_told held) change_raw (change-back held) raw_changes-law

some-bytes : (x : RawChange) → 1 ≤ length (raw_changes.spelling x)
some-bytes (inl put) = omega arith
some-bytes (inr uri) = omega arith

pub changes-bytes : (held : Contents) → HasBytes (changes held)
unfolding changes
changes-bytes held x = some-bytes (change_raw x)
