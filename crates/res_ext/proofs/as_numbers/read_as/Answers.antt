use Rattle.std.proofs.Common.{arith}
use Rattle.res_ext.specs.Formats.{as_content}
use Rattle.res_ext.specs.laws.FormatLaws.{as_content-law}
use Rattle.res_ext.specs.Views.{as_view}
use Rattle.res_ext.specs.declared.fault.ExtFault.TheVariants.{NotCanonical}
use Rattle.res_ext.specs.Answers.{never}
use Rattle.res_ext.specs.laws.AnswerLaws.{met-found, met-only, met-refused, met-bad, refused-spells, else-refused, never-bad}
use Rattle.res_ext.proofs.as_numbers.read_as.Goals as goal

pub returns-clause-found : goal.returns-clause-found
returns-clause-found c = met-found as_content never as_view as_content-law c.args.bytes.now c.extension_of.result (λ i. omega (arith, c.type_inv.bytes i)) c.extension_of.ensures

pub returns-clause-only : goal.returns-clause-only
returns-clause-only c value spells = met-only as_content never as_view as_content-law c.args.bytes.now c.extension_of.result (λ i. omega (arith, c.type_inv.bytes i)) c.extension_of.ensures value spells

pub returns-clause-refused : goal.returns-clause-refused
returns-clause-refused c e =
    refused-spells as_content never as_content-law c.args.bytes.now NotCanonical (λ i. omega (arith, c.type_inv.bytes i))
    (met-refused as_view c.extension_of.result _ c.extension_of.ensures e)

pub returns-clause-refused_only : goal.returns-clause-refused_only
returns-clause-refused_only c none =
    else-refused as_content never as_view as_content-law c.args.bytes.now c.extension_of.result (λ i. omega (arith, c.type_inv.bytes i)) c.extension_of.ensures none
    (λ e. never-bad as_content c.args.bytes.now e)

pub returns-clause-no_family : goal.returns-clause-no_family
returns-clause-no_family c e = never-bad as_content c.args.bytes.now (met-bad as_view c.extension_of.result _ c.extension_of.ensures e)
