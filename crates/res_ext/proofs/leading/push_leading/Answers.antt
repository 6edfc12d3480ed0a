use Rattle.std.proofs.Common.{◌≡◌, ◌∙◌, ◌++◌, ◌-◌, ◌*◌, ◌%◌, ◌^◌, List, ℕ, take, subst, sym, ap, arith}
use Rattle.std.specs.Int.{div_ceil, bytes_high_first}
use Rattle.std.proofs.lemmas.Nat.{shl_whole}
use Rattle.std.proofs.lemmas.Result.{IfOk-equal}
use Rattle.der.specs.Spelling.{AreBits, bits_spelling}
use Rattle.res_ext.specs.Prefixes.{octets, spare, leading_bytes, leading_spelling}
use Rattle.res_ext.specs.laws.LeadingLaws.{leading_bits, leading_written}
use Rattle.res_ext.proofs.leading.push_leading.Goals as goal

count_is : (len count : ℕ) → count ≡ div_ceil len 8 → count ≡ octets len
count_is len count is = omega (arith, is)

pub bits-requires : goal.bits-requires
bits-requires c =
    let top : c.to_be_bytes-bytes.result ≡ bytes_high_first 16 (c.args.address * 2 ^ (128 - c.args.bits) % 2 ^ 128) = c.to_be_bytes-bytes.ensures in
    let count = count_is c.args.length c.div_ceil-count.result c.div_ceil-count.ensures in
    let whole = shl_whole c.args.address c.args.bits (128 - c.args.bits) 128 c.requires.fits (omega (arith, c.requires.size.short)) in
    let bytes : take c.div_ceil-count.result c.to_be_bytes-bytes.result ≡ leading_bytes c.args.bits c.args.length c.args.address =
    (λ i. take (count i) ((top ∙ ap (bytes_high_first 16) whole) i)) ∙ leading_written c.args.bits c.args.length c.args.address c.requires.size c.requires.within c.requires.fits c.requires.clear in
    let over : 8 * c.div_ceil-count.result - c.args.length ≡ spare c.args.length = ap (λ (k : ℕ). 8 * k - c.args.length) count in
    subst (λ (u : ℕ). AreBits u (take c.div_ceil-count.result c.to_be_bytes-bytes.result)) (sym over) (subst (λ (b : List ℕ). AreBits (spare c.args.length) b) (sym bytes) (leading_bits c.args.bits c.args.length c.args.address c.requires.within c.requires.fits c.requires.clear))

pub returns : goal.returns
unfolding leading_spelling
returns c =
    let top : c.to_be_bytes-bytes.result ≡ bytes_high_first 16 (c.args.address * 2 ^ (128 - c.args.bits) % 2 ^ 128) = c.to_be_bytes-bytes.ensures in
    let count = count_is c.args.length c.div_ceil-count.result c.div_ceil-count.ensures in
    let whole = shl_whole c.args.address c.args.bits (128 - c.args.bits) 128 c.requires.fits (omega (arith, c.requires.size.short)) in
    let bytes : take c.div_ceil-count.result c.to_be_bytes-bytes.result ≡ leading_bytes c.args.bits c.args.length c.args.address =
    (λ i. take (count i) ((top ∙ ap (bytes_high_first 16) whole) i)) ∙ leading_written c.args.bits c.args.length c.args.address c.requires.size c.requires.within c.requires.fits c.requires.clear in
    IfOk-equal c.bits.result _ _ _ c.bits.ensures.ok (λ i. c.args.out.now.items ++ bits_spelling (8 * count i - c.args.length) (bytes i))
