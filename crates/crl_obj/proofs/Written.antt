-- What the writers write.
use Rattle.std.proofs.Common.{◌≡◌, ℕ, ◌<◌, ◌^◌, List, ◌++◌, length, ap, ◌∙◌}
use Rattle.sha2.specs.Sha256.{sha256}
use Rattle.der.specs.Tags as tag
use Rattle.der.specs.Spelling.{spelled}
use Rattle.der.specs.Object.{Spells}
use Rattle.object_parts.specs.FrameFormats.{signature}
use Rattle.crl_obj.specs.Values.{CrlValue, IsCrl}
use Rattle.crl_obj.specs.Formats.{signed_bytes, signed_crl}

-- An element around the signed bytes and their signature is the spelling of the CRL.
pub is-spelled : (tbs bytes out : List ℕ) → length bytes ≡ 256 → out ≡ spelled tag.sequence (tbs ++ signature.spelling bytes) → (crl : CrlValue) → IsCrl crl → tbs ≡ signed_bytes crl → length out < 2 ^ 32 → Spells signed_crl (record { crl = crl; digest = sha256 tbs; signature = bytes }) out
unfolding signed_crl signed_bytes
is-spelled tbs bytes out long written crl is same short = record {
  good = record { crl = is; digest = ap sha256 same; signature = long };
  short = short;
  spelled = written ∙ ap (λ (t : List ℕ). spelled tag.sequence (t ++ signature.spelling bytes)) same;
}
