use Rattle.std.proofs.Common.{◌≡◌}
use Rattle.cmd_codec.specs.Spelling.{bytes_128, range_spelling}
use Rattle.cmd_codec.proofs.Sizes.{on_ok, extended, pushed_two, range_parts}
use Rattle.cmd_codec.proofs.writing.push_range.Goals as goal

first : (c : goal.After-extend_from_slice-2) → c.to_be_bytes.result ≡ bytes_128 c.args.range.now.first
unfolding bytes_128
first c = c.to_be_bytes.ensures

last : (c : goal.After-extend_from_slice-2) → c.to_be_bytes-2.result ≡ bytes_128 c.args.range.now.last
unfolding bytes_128
last c = c.to_be_bytes-2.ensures

pub returns : goal.returns
returns c =
    on_ok c.extend_from_slice-2.result _ _
    (pushed_two c.args.bytes.now.items c.extend_from_slice.new.self.items c.extend_from_slice-2.new.self.items c.to_be_bytes.result c.to_be_bytes-2.result (range_spelling c.args.range.now)
    (range_parts c.args.range.now c.to_be_bytes.result c.to_be_bytes-2.result (first c) (last c)) c.in_ok-extend_from_slice.ensures.items)
    (extended c.extend_from_slice-2.result c.extend_from_slice-2.new.self.items c.extend_from_slice.new.self.items c.to_be_bytes-2.result c.extend_from_slice-2.ensures.items)
