use Rattle.std.proofs.Common.{arith}
use Rattle.payloads.specs.RoaFormats.{unordered_roa, placed_roa, roa, is_rising}
use Rattle.payloads.specs.RoaReading.{roa_view, roa_value, unordered_entry, roa_read}
use Rattle.payloads.proofs.Clauses.{found-from, only-from, order-from, fault-from}
use Rattle.payloads.proofs.RoaClauses.{roa-form}
use Rattle.payloads.specs.laws.OrderingLaws.{roa-ordering}
use Rattle.payloads.proofs.roa.RoaBody.read.Goals as goal

pub returns-clause-found : goal.returns-clause-found
unfolding roa_read
returns-clause-found c = found-from roa_view unordered_roa roa placed_roa roa_value unordered_entry is_rising roa-ordering roa-form c.args.bytes.now (λ i. omega (arith, c.type_inv.bytes i)) c.read_body.result c.read_body.ensures

pub returns-clause-only : goal.returns-clause-only
unfolding roa_read
returns-clause-only c = only-from roa_view unordered_roa roa placed_roa roa_value unordered_entry is_rising roa-ordering roa-form c.args.bytes.now (λ i. omega (arith, c.type_inv.bytes i)) c.read_body.result c.read_body.ensures

pub returns-clause-order : goal.returns-clause-order
unfolding roa_read
returns-clause-order c = order-from roa_view unordered_roa placed_roa roa_value unordered_entry is_rising roa-ordering c.args.bytes.now (λ i. omega (arith, c.type_inv.bytes i)) c.read_body.result c.read_body.ensures

pub returns-clause-fault : goal.returns-clause-fault
unfolding roa_read
returns-clause-fault c = fault-from roa_view unordered_roa placed_roa roa_value unordered_entry is_rising roa-ordering c.args.bytes.now (λ i. omega (arith, c.type_inv.bytes i)) c.read_body.result c.read_body.ensures
