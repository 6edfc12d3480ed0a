-- The text of an origin is ASCII.
use Rattle.std.specs.Prelude.{nat_lt, codes}
use Rattle.std.proofs.Common.{◌≡◌, inl, inr, ℕ, zero, suc, ◌<◌, ◌≤◌, ◌^◌, lit<, Bool, true, false, cond, eqb, List, [], ◌++◌, get_or, decimal, refl, arith}
use Rattle.std.specs.Str.{IsAscii}
use Rattle.std.specs.List.{list_all}
use Rattle.std.specs.Int.{w32, w128, to_be_bytes}
use Rattle.std.specs.Net.Addr.{segments_of}
use Rattle.std.specs.Net.Text.{ipv4_text, hex_groups_text}
use Rattle.std.proofs.lemmas.Bool.{ltb-true}
use Rattle.std.proofs.lemmas.Fmt.{IsAscii-decimal}
use Rattle.std.proofs.lemmas.List.Sums.{AllPass-from_list_all}
use Rattle.std.proofs.lemmas.Str.{IsAscii-append}
use Rattle.std.proofs.lemmas.Str.Ascii.{IsAscii-from_all}
use Rattle.std.proofs.NetLemmas.Alphabet.{IsDigitOrDot, IsHexOrColon, All-ipv4_text, All-hex_groups_text}
use Rattle.ip_text.specs.laws.ByteLaws.{are_bytes, segments_fit}
use Rattle.origins.specs.Prefix.{address_bits}
use Rattle.origins.specs.declared.Origin.{Origin}
use Rattle.origins.specs.Origin.{address_text, maximum_text, origin_text}

digit-below : (c : ℕ) → IsDigitOrDot c → c < 128
digit-below c (inl digit) = omega arith
digit-below c (inr dot) = omega arith

group-below : (c : ℕ) → IsHexOrColon c → c < 128
group-below c (inl digit) = omega arith
group-below c (inr letter) = omega arith

four-fit : (n k : ℕ) → get_or (to_be_bytes w32 n) k 0 < 2 ^ 8
four-fit n zero = omega arith
four-fit n (suc zero) = omega arith
four-fit n (suc (suc zero)) = omega arith
four-fit n (suc (suc (suc zero))) = omega arith
four-fit n (suc (suc (suc (suc k)))) = lit< tt

address-ascii : (v6 : Bool) (address : ℕ) → IsAscii (address_text v6 address)
address-ascii false address =
    let each = All-ipv4_text (to_be_bytes w32 address) (four-fit address) in
    IsAscii-from_all (ipv4_text (to_be_bytes w32 address)) (λ k d lt. digit-below _ (each k d lt))
address-ascii true address =
    let bytes = to_be_bytes w128 address in
    let groups = segments_of bytes in
    let each = All-hex_groups_text groups (segments_fit bytes (are_bytes address)) in
    IsAscii-from_all (hex_groups_text groups) (λ k d lt. group-below _ (each k d lt))

literal : (text : List ℕ) → list_all (λ b. nat_lt b 128) text ≡ true → IsAscii text
literal text pass =
    IsAscii-from_all text (λ k d lt. ltb-true _ 128
    (AllPass-from_list_all (λ b. nat_lt b 128) text pass k d lt))

maximum-ascii : (len max : ℕ) (b : Bool) → max < 2 ^ 64
    → IsAscii (cond b [] (codes "-" ++ decimal max))
maximum-ascii len max true fits = IsAscii-from_all [] (λ k d lt. absurd (omega arith))
maximum-ascii len max false fits =
    IsAscii-append (codes "-") (decimal max) (literal (codes "-") refl) (IsAscii-decimal max fits)

bits-small : (v6 : Bool) (n : ℕ) → n ≤ address_bits v6 → n < 2 ^ 64
bits-small false n le = omega arith
bits-small true n le = omega arith

pub text-ascii : (origin : Origin) → IsAscii (origin_text origin)
text-ascii origin =
    let short = bits-small origin.prefix.v6 origin.prefix.length origin.prefix.prefix.short in
    let most = bits-small origin.prefix.v6 origin.max origin.maximum.at_most in
    let number = origin.number in
    let at : List ℕ = address_text origin.prefix.v6 origin.prefix.address in
    let address : IsAscii at = address-ascii origin.prefix.v6 origin.prefix.address in
    let one = IsAscii-append at (codes "/") address (literal (codes "/") refl) in
    let two = IsAscii-append _ (decimal origin.prefix.length) one
    (IsAscii-decimal origin.prefix.length short) in
    let three = IsAscii-append _ (maximum_text origin.prefix.length origin.max) two
    (maximum-ascii origin.prefix.length origin.max (eqb origin.max origin.prefix.length) most) in
    let four = IsAscii-append _ (codes " => ") three (literal (codes " => ") refl) in
    IsAscii-append _ (decimal origin.asn) four (IsAscii-decimal origin.asn (omega (arith, number)))
