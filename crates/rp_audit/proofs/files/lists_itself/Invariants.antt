use Rattle.std.proofs.Common.{◌≡◌, drop, map}
use Rattle.payloads.specs.ManifestFormats.{name_of}
use Rattle.rp_rules.specs.Authorities.{listed_uri, manifest_place}
use Rattle.rp_rules.specs.Certificates.{is_among}
use Rattle.rp_audit.specs.inner.Views.{authority_value}
use Rattle.rp_audit.proofs.files.lists_itself.Given as goal

abbrev pub invariant-loop-file : goal.invariant-loop-file
invariant-loop-file l = is_among (map (listed_uri (authority_value l.authority)) (map name_of l.files)) (manifest_place (authority_value l.authority))
    ≡ is_among (map (listed_uri (authority_value l.authority)) (map name_of (drop l.file-index l.files))) (manifest_place (authority_value l.authority))
