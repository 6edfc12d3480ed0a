use Rattle.std.proofs.Common.{arith}
use Rattle.res_ext.specs.Formats.{ip_content}
use Rattle.res_ext.specs.laws.FormatLaws.{ip_content-law}
use Rattle.res_ext.specs.Views.{ip_view}
use Rattle.res_ext.specs.declared.fault.ExtFault.TheVariants.{NotCanonical}
use Rattle.res_ext.specs.Answers.{goes_wrong}
use Rattle.res_ext.specs.laws.AnswerLaws.{met-found, met-only, met-refused, met-bad, refused-spells, else-refused}
use Rattle.res_ext.specs.laws.FamilyLaws.{bad-taken, bad-met, bad-refused}
use Rattle.res_ext.proofs.ip_addresses.read_ip.Goals as goal

pub returns-clause-found : goal.returns-clause-found
returns-clause-found c = met-found ip_content goes_wrong ip_view ip_content-law c.args.bytes.now c.extension_of.result (λ i. omega (arith, c.type_inv.bytes i)) c.extension_of.ensures

pub returns-clause-only : goal.returns-clause-only
returns-clause-only c value spells = met-only ip_content goes_wrong ip_view ip_content-law c.args.bytes.now c.extension_of.result (λ i. omega (arith, c.type_inv.bytes i)) c.extension_of.ensures value spells

pub returns-clause-family : goal.returns-clause-family
returns-clause-family c e = bad-taken c.args.bytes.now (λ i. omega (arith, c.type_inv.bytes i)) (met-bad ip_view c.extension_of.result _ c.extension_of.ensures e)

pub returns-clause-family_only : goal.returns-clause-family_only
returns-clause-family_only c bad = bad-met ip_view c.args.bytes.now c.extension_of.result (λ i. omega (arith, c.type_inv.bytes i)) c.extension_of.ensures bad

pub returns-clause-refused : goal.returns-clause-refused
returns-clause-refused c e =
    let told = met-refused ip_view c.extension_of.result _ c.extension_of.ensures e in (
      refused-spells ip_content goes_wrong ip_content-law c.args.bytes.now NotCanonical (λ i. omega (arith, c.type_inv.bytes i)) told,
      λ bad. bad-refused c.args.bytes.now (λ i. omega (arith, c.type_inv.bytes i)) told bad,
    )

pub returns-clause-refused_only : goal.returns-clause-refused_only
returns-clause-refused_only c none right =
    else-refused ip_content goes_wrong ip_view ip_content-law c.args.bytes.now c.extension_of.result (λ i. omega (arith, c.type_inv.bytes i)) c.extension_of.ensures none
    (λ e. right (bad-taken c.args.bytes.now (λ i. omega (arith, c.type_inv.bytes i)) e))
