use Rattle.std.proofs.Common.{◌≡◌, ap, sym, ◌∙◌, arith}
use Rattle.origins.specs.Text.{IsAddressText}
use Rattle.origins.specs.Prefix.{address_bits}
use Rattle.origins.proofs.Lengths.{same_lengths}
use Rattle.origins.proofs.Told.{bits_small}
use Rattle.origins.proofs.Prefixes.{prefix_split, prefix_join, lengths_after, same_addresses}
use Rattle.origins.proofs.grammar.read_prefix.Goals as goal

pub returns-in_err-after : goal.returns-in_err-after
returns-in_err-after c = rw c.from_residual.ensures (λ v6 address len maximum is.
    let split = prefix_split c.args.text.now v6 address len maximum is in
    c.in_err-after.ensures split.lengths (c.split_before.ensures.back ∙ split.back_is))

pub returns-in_err-length : goal.returns-in_err-length
returns-in_err-length c = rw c.from_residual-in_err-length.ensures (λ v6 address len maximum is.
    let split = prefix_split c.args.text.now v6 address len maximum is in
    c.in_err-length.ensures len maximum (lengths_after _ _ _ _ _ _ _ (sym c.split_before.ensures.back ∙ c.in_ok-after.ensures) split))

pub returns-in_err-v6 : goal.returns-in_err-v6
returns-in_err-v6 c = rw c.from_residual-in_err-v6.ensures (λ v6 address len maximum is.
    let split = prefix_split c.args.text.now v6 address len maximum is in
    c.in_err-v6.ensures v6 address (rw c.split_before.ensures.front split.address_is))

pub returns-then-length-from : goal.returns-then-length-from
returns-then-length-from c = λ v6 address len maximum is.
    let split = prefix_split c.args.text.now v6 address len maximum is in
    let lengths = lengths_after _ _ _ _ _ _ _ (sym c.split_before.ensures.back ∙ c.in_ok-after.ensures) split in
    let told = c.in_ok-length.ensures in
    let same_len : len ≡ told.len = (same_lengths _ len told.len maximum told.maximum lengths told.written).0 in
    let front : IsAddressText c.split_before.result.0.now v6 address = rw c.split_before.ensures.front split.address_is in
    let family : v6 ≡ c.in_ok-v6.v6 = (same_addresses _ _ _ _ _ front c.in_ok-v6.ensures).0 in
    let bits : address_bits v6 ≡ address_bits c.in_ok-v6.v6 = ap address_bits family in
    omega (arith, split.short, told.len_told, c.address_bits.ensures, c.from.ensures)

pub returns : goal.returns
returns c =
    let told = c.in_ok-length.ensures in
    let small = bits_small c.in_ok-v6.v6 in
    let same_len : told.len ≡ c.in_ok-length.length = omega (arith, told.len_told, c.from.ensures, c.address_bits.ensures) in (
      told.maximum,
      told.maximum_told,
      prefix_join c.args.text.now _ _ _ _ (record {
        lengths = c.in_ok-after.field-0.now;
        back_is = sym c.split_before.ensures.back ∙ c.in_ok-after.ensures;
        address_is = rw (← c.split_before.ensures.front) c.in_ok-v6.ensures;
        lengths_are = rw (← same_len) told.written;
        short = omega (arith, c.from.ensures, c.address_bits.ensures);
      }),
    )
