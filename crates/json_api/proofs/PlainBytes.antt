-- The table of bytes that stand for themselves in a text.
use Rattle.std.proofs.Common.{◌≡◌, ◌<◌, ℕ, Bool, get_or, refl}
use Rattle.std.proofs.lemmas.Bool.{agree_below_at}
use Rattle.json_api.specs.inner.Plain.{is_plain}
use Rattle.json_api.specs.declared.plain.TheConstants.{PLAIN}

pub plain_told : (c : ℕ) (d : Bool) → c < 256 → get_or PLAIN c d ≡ is_plain c
plain_told c d within = agree_below_at (λ k. get_or PLAIN k d) is_plain 256 c refl within
