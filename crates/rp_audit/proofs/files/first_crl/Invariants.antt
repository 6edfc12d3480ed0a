use Rattle.std.proofs.Common.{◌≡◌, drop}
use Rattle.rp_rules.specs.Points.{first_of}
use Rattle.rp_audit.proofs.Lists.{crls}
use Rattle.rp_audit.proofs.files.first_crl.Given as goal

abbrev pub invariant-loop-file : goal.invariant-loop-file
invariant-loop-file l = first_of (crls l.files) ≡ first_of (crls (drop l.file-index l.files))
