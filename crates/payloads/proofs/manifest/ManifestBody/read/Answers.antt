use Rattle.std.proofs.Common.{arith}
use Rattle.payloads.specs.ManifestFormats.{unordered_manifest, placed_manifest, manifest, is_rising_manifest}
use Rattle.payloads.specs.ManifestReading.{manifest_view, manifest_value, unordered_name, manifest_read}
use Rattle.payloads.proofs.Clauses.{found-from, only-from, order-from, fault-from}
use Rattle.payloads.proofs.ManifestClauses.{manifest-form}
use Rattle.payloads.specs.laws.OrderingLaws.{manifest-ordering}
use Rattle.payloads.proofs.manifest.ManifestBody.read.Goals as goal

pub returns-clause-found : goal.returns-clause-found
unfolding manifest_read
returns-clause-found c = found-from manifest_view unordered_manifest manifest placed_manifest manifest_value unordered_name is_rising_manifest manifest-ordering manifest-form c.args.bytes.now (λ i. omega (arith, c.type_inv.bytes i)) c.read_body.result c.read_body.ensures

pub returns-clause-only : goal.returns-clause-only
unfolding manifest_read
returns-clause-only c = only-from manifest_view unordered_manifest manifest placed_manifest manifest_value unordered_name is_rising_manifest manifest-ordering manifest-form c.args.bytes.now (λ i. omega (arith, c.type_inv.bytes i)) c.read_body.result c.read_body.ensures

pub returns-clause-order : goal.returns-clause-order
unfolding manifest_read
returns-clause-order c = order-from manifest_view unordered_manifest placed_manifest manifest_value unordered_name is_rising_manifest manifest-ordering c.args.bytes.now (λ i. omega (arith, c.type_inv.bytes i)) c.read_body.result c.read_body.ensures

pub returns-clause-fault : goal.returns-clause-fault
unfolding manifest_read
returns-clause-fault c = fault-from manifest_view unordered_manifest placed_manifest manifest_value unordered_name is_rising_manifest manifest-ordering c.args.bytes.now (λ i. omega (arith, c.type_inv.bytes i)) c.read_body.result c.read_body.ensures
