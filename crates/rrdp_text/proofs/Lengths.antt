-- How long Base64 is, and the lines of snapshots and deltas.
use Rattle.std.proofs.Common.{◌≡◌, ℕ, ◌+◌, ◌*◌, ◌/◌, List, [], ◌∷◌, length, arith, ◌∙◌, refl, length-append, codes, decimal, None, Some}
use Rattle.std.specs.Prelude.{replicate}
use Rattle.std.specs.List.{flat_map}
use Rattle.std.proofs.lemmas.List.{length-replicate}
use Rattle.base64.specs.Rfc4648.{encode_symbols, padding_len, unpadded_len}
use Rattle.base64.specs.GeneralPurpose.{encode_of}
use Rattle.base64.specs.Engines.{standard}
use Rattle.hex.specs.Hex.{lower_digits}
use Rattle.hex.proofs.HexLemmas.{length-encode_with}
use Rattle.pub_set.specs.declared.objects.Object.{Object}
use Rattle.pub_set.specs.declared.steps.Change.{Change}
use Rattle.pub_set.specs.declared.steps.Change.TheVariants.{Put, Withdraw}
use Rattle.uuid.specs.Text.{hyphenated_text, lower}
use Rattle.rrdp_text.specs.Texts.{opening, opening_behind, hash_text, content_text, object_text, change_text, snapshot_text, delta_text}

symbols_long : (t m : List ℕ) → length (encode_symbols t m) ≡ unpadded_len (length m)
unfolding encode_symbols
symbols_long t [] = refl
symbols_long t (a ∷ []) = refl
symbols_long t (a ∷ b ∷ []) = refl
symbols_long t (a ∷ b ∷ c ∷ rest) =
    let more = symbols_long t rest in
    omega (arith, more)

pub encoded_long : (m : List ℕ) → length (encode_of standard m) ≡ (length m + 2) / 3 * 4
encoded_long m =
    let symbols = symbols_long standard.encode_table m in
    length-append (encode_symbols standard.encode_table m) (replicate (padding_len (length m)) standard.padding.value)
    ∙ (let pad = length-replicate (padding_len (length m)) standard.padding.value in omega (arith, symbols, pad))

pub object_long : (object : Object) → length (object_text object) ≡ length object.uri + length (encode_of standard object.bytes) + 29
unfolding object_text content_text
object_long object = simp length-append (omega arith)

pub opening_long : (front session : List ℕ) (serial : ℕ) → length (opening_behind front session serial)
    ≡ length front + length (hyphenated_text lower session) + 10 + length (decimal serial) + 3
unfolding opening_behind
opening_long front session serial = simp length-append (omega arith)

pub snapshot_long : (session : List ℕ) (serial : ℕ) (objects : List Object) → length (snapshot_text session serial objects)
    ≡ length (opening (codes "snapshot") session serial) + length (flat_map object_text objects) + 12
unfolding snapshot_text
snapshot_long session serial objects = simp length-append (omega arith)

-- ---- deltas

pub hash_long : (hash : List ℕ) → length (hash_text hash) ≡ length hash * 2 + 8
unfolding hash_text
hash_long hash =
    let digits = length-encode_with lower_digits hash in
    simp length-append (omega (arith, digits))

pub placed_long : (uri bytes : List ℕ) → length (change_text (Put uri bytes None)) ≡ length uri + length (encode_of standard bytes) + 29
unfolding change_text content_text
placed_long uri bytes = simp length-append (omega arith)

pub replaced_long : (uri bytes hash : List ℕ)
    → length (change_text (Put uri bytes (Some hash))) ≡ length uri + length (hash_text hash) + length (encode_of standard bytes) + 29
unfolding change_text content_text
replaced_long uri bytes hash = simp length-append (omega arith)

pub withdrawn_long : (uri hash : List ℕ) → length (change_text (Withdraw uri hash)) ≡ length uri + length (hash_text hash) + 21
unfolding change_text
withdrawn_long uri hash = simp length-append (omega arith)

pub delta_long : (session : List ℕ) (serial : ℕ) (changes : List Change) → length (delta_text session serial changes)
    ≡ length (opening (codes "delta") session serial) + length (flat_map change_text changes) + 9
unfolding delta_text
delta_long session serial changes = simp length-append (omega arith)
