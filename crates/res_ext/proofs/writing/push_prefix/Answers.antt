use Rattle.res_ext.specs.Formats.{span_of}
use Rattle.res_ext.specs.laws.PrefixLaws.{span_length-found}
use Rattle.res_ext.proofs.writing.push_prefix.Goals as goal

pub push_leading-requires-clause-within : goal.push_leading-requires-clause-within
push_leading-requires-clause-within c = (span_length-found c.args.size c.args.length (span_of c.args.range) c.args.range.ordered c.requires.prefix).short

pub push_leading-requires-clause-clear : goal.push_leading-requires-clause-clear
push_leading-requires-clause-clear c = (span_length-found c.args.size c.args.length (span_of c.args.range) c.args.range.ordered c.requires.prefix).no_host_bits
