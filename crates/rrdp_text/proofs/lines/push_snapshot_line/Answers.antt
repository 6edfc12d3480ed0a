use Rattle.std.proofs.Common.{◌++◌, append_assoc, codes}
use Rattle.std.specs.String.{string_bytes}
use Rattle.rrdp_text.specs.Texts.{snapshot_line}
use Rattle.rrdp_text.proofs.Lists.{pushed}
use Rattle.rrdp_text.proofs.lines.push_snapshot_line.Goals as goal

pub returns : goal.returns
unfolding snapshot_line
returns c =
    let first = c.in_ok-push_uri.ensures in
    let second = c.in_ok-push_hash.ensures in
    pushed c.push_str.result (string_bytes c.push_hash.new.out) (codes "/>\n") (string_bytes c.push_str.new.self) (string_bytes c.args.out.now ++ snapshot_line c.args.file.now)
    c.push_str.ensures.bytes (rw (second, first) (simp append_assoc))
