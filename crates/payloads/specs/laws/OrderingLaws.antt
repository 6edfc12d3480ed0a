-- What is out of its order in a body is told by the forms that take it in any order.
use Rattle.payloads.specs.laws.AnswerLaws.{IsOrdering}
use Rattle.payloads.specs.ManifestFormats.{unordered_manifest, placed_manifest, is_rising_manifest}
use Rattle.payloads.specs.ManifestReading.{manifest_value, unordered_name}
use Rattle.payloads.specs.laws.ManifestLaws.{unordered_manifest-law, manifest-sees, none-name, some-name}
use Rattle.payloads.specs.RoaFormats.{unordered_roa, placed_roa, is_below, is_rising}
use Rattle.payloads.specs.RoaReading.{roa_value, unordered_entry}
use Rattle.payloads.specs.laws.BlockLaws.{unordered_roa-law}
use Rattle.payloads.specs.laws.RoaLaws.{roa-sees, none-unordered, some-unordered}

pub manifest-ordering :
    IsOrdering unordered_manifest placed_manifest manifest_value unordered_name is_rising_manifest
manifest-ordering = record {
  law = unordered_manifest-law;
  sees = manifest-sees;
  none = none-name;
  some = some-name;
}

pub roa-ordering : IsOrdering unordered_roa placed_roa roa_value unordered_entry is_rising
roa-ordering = record {
  law = unordered_roa-law;
  sees = roa-sees;
  none = λ y e. none-unordered is_below y.1 e;
  some = λ y at e. some-unordered is_below y.1 at e;
}
