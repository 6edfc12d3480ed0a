use Rattle.std.proofs.Common.{◌≡◌, None, sym}
use Rattle.origins.specs.Text.{IsPrefixText}
use Rattle.origins.proofs.Prefixes.{same_prefixes}
use Rattle.origins.proofs.ReadPrefix.{reads_made}
use Rattle.origins.proofs.Told.{told_none, none_told}
use Rattle.origins.proofs.Prefix.read.Goals as goal

pub returns-in_err-written : goal.returns-in_err-written
returns-in_err-written c = rw c.from_residual.ensures (λ prefix spelled.
    let text : IsPrefixText c.as_bytes.result.now prefix.v6 prefix.address prefix.length None =
    rw c.as_bytes.ensures.value spelled in
    c.in_err-written.ensures _ _ _ _ text)

pub returns-in-Some : goal.returns-in-Some
returns-in-Some c = λ prefix spelled.
    let (maximum, told, is) = c.in_ok-written.ensures in
    let text : IsPrefixText c.as_bytes.result.now prefix.v6 prefix.address prefix.length None =
    rw c.as_bytes.ensures.value spelled in
    let same = same_prefixes _ _ _ _ _ _ _ _ _ text is in
    let none : c.in_ok-written.written.maximum ≡ None = told_none _ maximum told (sym same.maximum_same) in
    absurd (cc)

pub returns-in-None : goal.returns-in-None
returns-in-None c =
    let (maximum, told, is) = c.in_ok-written.ensures in
    let written = c.in_ok-written.written in
    let none : maximum ≡ None = none_told _ maximum told c.in-None.is in
    let text : IsPrefixText c.args.text.now written.v6 written.address written.length None =
    rw (← c.as_bytes.ensures.value) (rw none at is) in
    reads_made _ _ _ _ c.new.result text c.new.ensures
