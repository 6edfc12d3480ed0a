use Rattle.std.proofs.Common.{rules}
use Rattle.std.specs.Ordering.{is_lt}
use Rattle.std.proofs.lemmas.List.Sorted.{IsPermutation-map}
use Rattle.pub_set.specs.Objects.{uri_cmp}
use Rattle.payloads.specs.ManifestFormats.{name_of, file_view}
use Rattle.payloads.specs.declared.values.ListedFile.{ListedFile}
use Rattle.issue_drafts.specs.laws.UriOrder.{by-uri, compares-uris}
use Rattle.issue_drafts.proofs.Filed.{files-rise}
use Rattle.issue_drafts.proofs.listing.by_name.Goals as goal

pub returns-clause-permutation : goal.returns-clause-permutation
returns-clause-permutation c =
    IsPermutation-map file_view c.args.files.items c.sort_by.new.self.items c.in_ok-sort_by.ensures.permutation

pub returns-clause-rising : goal.returns-clause-rising
returns-clause-rising c =
    files-rise c.args.files.items c.sort_by.new.self.items c.requires c.in_ok-sort_by.ensures.permutation
    (c.in_ok-sort_by.ensures.sorted (λ (a b : ListedFile). is_lt (uri_cmp (name_of a) (name_of b))) (by-uri name_of)
    (compares-uris name_of (λ a r f called. search rules)))
