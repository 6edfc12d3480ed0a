use Rattle.cmd_codec.specs.Spelling.{part_spelling}
use Rattle.cmd_codec.specs.Spelling.Part.{TheRanges}
use Rattle.cmd_codec.proofs.Sizes.{on_ok, pushed_three}
use Rattle.cmd_codec.proofs.writing.push_resources.Goals as goal

pub returns : goal.returns
returns c =
    on_ok c.push_ranges-3.result _ _
    (pushed_three c.args.bytes.now.items c.push_ranges.new.bytes.items c.push_ranges-2.new.bytes.items c.push_ranges-3.new.bytes.items (part_spelling (TheRanges c.args.grant.now.asn))
    (part_spelling (TheRanges c.args.grant.now.v4)) (part_spelling (TheRanges c.args.grant.now.v6)) c.in_ok-push_ranges.ensures c.in_ok-push_ranges-2.ensures)
    c.push_ranges-3.ensures
