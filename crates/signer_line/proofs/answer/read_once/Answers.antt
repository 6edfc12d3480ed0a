use Rattle.std.proofs.Common.{◌∙◌, sym, subst}
use Rattle.hex.specs.Hex.{encode_lower}
use Rattle.signer_api.specs.PublicKey.{IsPublicKey}
use Rattle.signer_line.proofs.LineLemmas.{digits_long, none_some, some_same}
use Rattle.signer_line.proofs.answer.read_once.Goals as goal

pub returns-in_err-key-clause-every : goal.returns-in_err-key-clause-every
returns-in_err-key-clause-every c = λ key signature is bytes long bytes_too spelled.
    absurd (c.in_err-key.ensures.every (encode_lower key) (encode_lower signature) (digits_long key 270 is.whole) spelled)

pub returns-in_err-read_hex-clause-every : goal.returns-in_err-read_hex-clause-every
returns-in_err-read_hex-clause-every c = λ key signature is bytes long bytes_too spelled.
    let parts = c.in_ok-key.ensures.every (encode_lower key) (encode_lower signature) (digits_long key 270 is.whole) spelled in
    absurd (none_some _ _ (c.in_err-read_hex.ensures.every key is.whole bytes parts.0))

pub returns-in_err-key-2-clause-every : goal.returns-in_err-key-2-clause-every
returns-in_err-key-2-clause-every c = λ key signature is bytes long bytes_too spelled.
    let parts = c.in_ok-key.ensures.every (encode_lower key) (encode_lower signature) (digits_long key 270 is.whole) spelled in
    let same = some_same _ _ _ (c.in_ok-read_hex.ensures.every key is.whole bytes parts.0) in
    cc (c.in_err-key-2.ensures.found.1 (subst IsPublicKey (sym same) is))

pub returns-in_err-bytes-clause-every : goal.returns-in_err-bytes-clause-every
returns-in_err-bytes-clause-every c = λ key signature is bytes long bytes_too spelled.
    let parts = c.in_ok-key.ensures.every (encode_lower key) (encode_lower signature) (digits_long key 270 is.whole) spelled in
    absurd (none_some _ _ (c.in_err-bytes.ensures.every signature long bytes_too parts.1))

pub returns-clause-every : goal.returns-clause-every
returns-clause-every c = λ key signature is bytes long bytes_too spelled.
    let parts = c.in_ok-key.ensures.every (encode_lower key) (encode_lower signature) (digits_long key 270 is.whole) spelled in
    let same = some_same _ _ _ (c.in_ok-read_hex.ensures.every key is.whole bytes parts.0) in
    (c.in_ok-key-2.ensures.value ∙ same, some_same _ _ _ (c.in_ok-bytes.ensures.every signature long bytes_too parts.1))
