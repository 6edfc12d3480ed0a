use Rattle.std.proofs.Common.{◌≡◌, ◌∙◌, ℕ, ◌∷◌, [], ap}
use Rattle.cmd_codec.specs.Spelling.{bytes_32, bytes_128}
use Rattle.cmd_codec.proofs.Sizes.{on_ok, extended, pushed_origin, byte_of_family}
use Rattle.cmd_codec.proofs.writing.push_origin.Goals as goal

address : (c : goal.After-extend_from_slice-2) → c.to_be_bytes.result ≡ bytes_128 c.args.origin.now.prefix.address
unfolding bytes_128
address c = c.to_be_bytes.ensures

asn : (c : goal.After-extend_from_slice-2) → c.to_be_bytes-2.result ≡ bytes_32 c.args.origin.now.asn
unfolding bytes_32
asn c = c.to_be_bytes-2.ensures

pub returns : goal.returns
returns c =
    on_ok c.extend_from_slice-2.result _ _
    (pushed_origin c.args.origin.now c.args.bytes.now.items c.push.new.self.items c.extend_from_slice.new.self.items c.push-2.new.self.items c.push-3.new.self.items c.extend_from_slice-2.new.self.items
    (c.from.result ∷ []) c.to_be_bytes.result c.to_be_bytes-2.result (ap (λ (n : ℕ). n ∷ []) (c.from.ensures ∙ byte_of_family c.args.origin.now.prefix.v6)) (address c) (asn c)
    c.in_ok-push.ensures.items c.in_ok-extend_from_slice.ensures.items c.in_ok-push-2.ensures.items c.in_ok-push-3.ensures.items)
    (extended c.extend_from_slice-2.result c.extend_from_slice-2.new.self.items c.push-3.new.self.items c.to_be_bytes-2.result c.extend_from_slice-2.ensures.items)
