-- The prefix that a range is.
pub use Rattle.res_sets.specs.laws.PrefixLaws.{range_of, span_length-some, span_length-found, length_told}
