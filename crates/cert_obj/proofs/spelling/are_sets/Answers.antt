use Rattle.res_sets.specs.declared.numbers.Family.TheVariants.{Asn, V4, V6}
use Rattle.cert_obj.specs.laws.HoldingLaws.{listed}
use Rattle.cert_obj.proofs.spelling.are_sets.Goals as goal

pub returns : goal.returns
returns c = record {
  asn = listed Asn c.args.resources.now.asn c.args.resources.now.asn_family c.as_slice-asn.ensures.canonical;
  v4 = listed V4 c.args.resources.now.v4 c.args.resources.now.v4_family c.as_slice-v4.ensures.canonical;
  v6 = listed V6 c.args.resources.now.v6 c.args.resources.now.v6_family c.as_slice-v6.ensures.canonical;
}
