-- What the clauses of a manifest's reading stand on.
use Rattle.std.proofs.Common.{refl}
use Rattle.payloads.specs.ManifestFormats.{unordered_manifest, manifest, is_rising_manifest}
use Rattle.payloads.specs.laws.ManifestLaws.{manifest-unordered, unordered-manifest}
use Rattle.payloads.proofs.Clauses.{IsOrderedForm}

pub manifest-form : IsOrderedForm unordered_manifest manifest is_rising_manifest
manifest-form = record {
  same = λ v. refl;
  into = λ v good. (manifest-unordered v good, good.rises);
  back = λ v good up. unordered-manifest v good up;
}
