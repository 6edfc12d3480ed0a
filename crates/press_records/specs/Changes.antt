-- The changes in the record of an edition, over what stood before it. No hash is written: what is
-- replaced or withdrawn stands.
use Rattle.std.specs.Prelude.{ℕ, Bool, true, ◌&&◌, List, [], ◌∷◌, Option, Some, None, if◌then◌else◌}
use Rattle.std.specs.Prelude.{◌⊎◌}
use Rattle.std.proofs.Common.{inl, inr}
use Rattle.std.specs.Option.{option_map}
use Rattle.std.specs.Str.{is_utf8}
use Rattle.std.specs.Ordering.{is_lt}
use Rattle.sha2.specs.Sha256.{sha256}
use Rattle.pub_set.specs.declared.steps.Change.{Change}
use Rattle.pub_set.specs.declared.steps.Change.TheVariants.{Put, Withdraw}
use Rattle.pub_set.specs.Objects.{uri_cmp}
use Rattle.pub_set.specs.Changes.{Contents, uri_of}
use Rattle.record_forms.specs.Form.{Form}
use Rattle.record_forms.specs.Forms.{both, through, sized, either}

-- A text in UTF-8.
abbrev pub text_in : List ℕ → Option (List ℕ)
text_in bytes = if is_utf8 bytes then Some bytes else None

abbrev pub texts : Form (List ℕ)
texts = through sized text_in (λ bytes. bytes)

-- What a record tells of a change: bytes that are put at a URI, or a URI that is withdrawn.
abbrev pub RawChange : Type 0
RawChange = (List ℕ × List ℕ) ⊎ List ℕ

-- 1, the URI and the bytes; or 2 and the URI.
abbrev pub raw_changes : Form RawChange
raw_changes = either 1 (both texts sized) 2 texts

-- What is put takes the place of what stands there.
abbrev pub put_over : Contents → List ℕ × List ℕ → Change
put_over held put = Put put.0 put.1 (option_map sha256 (held put.0))

-- Only what stands is withdrawn.
abbrev pub withdrawn_over : Contents → List ℕ → Option Change
withdrawn_over held uri = option_map (λ bytes. Withdraw uri (sha256 bytes)) (held uri)

abbrev pub change_told : Contents → RawChange → Option Change
change_told held (inl put) = Some (put_over held put)
change_told held (inr uri) = withdrawn_over held uri

abbrev pub change_raw : Change → RawChange
change_raw (Put uri bytes replaces) = inl (uri, bytes)
change_raw (Withdraw uri hash) = inr uri

unfoldable pub changes : Contents → Form Change
changes held = through raw_changes (change_told held) change_raw

-- Each URI comes after the one before it.
abbrev pub uris_rise_behind : List ℕ → List Change → Bool
uris_rise_behind uri [] = true
uris_rise_behind uri (change ∷ rest) =
    is_lt (uri_cmp uri (uri_of change)) && uris_rise_behind (uri_of change) rest

abbrev pub uris_rise : List Change → Bool
uris_rise [] = true
uris_rise (change ∷ rest) = uris_rise_behind (uri_of change) rest
