use Rattle.std.proofs.Common.{[], ◌++◌, List, map, ap, ◌∙◌}
use denote.Ref.{Bor}
use Rattle.std.specs.List.{zip}
use Rattle.std.specs.List.Sorted.{IsPermutation}
use Rattle.der.specs.Forms.{AreAll}
use Rattle.key_roll.specs.declared.issued.IssuedRow.{IssuedRow}
use Rattle.payloads.specs.ManifestFormats.{IsFile, file_view}
use Rattle.payloads.specs.declared.values.ListedFile.{ListedFile}
use Rattle.issue_drafts.specs.Views.{draft_of}
use Rattle.issue_drafts.specs.inner.Positions.{items_at}
use Rattle.issue_drafts.specs.Files.{kept_file, made_file}
use Rattle.issue_drafts.proofs.Filed.{both-files, are-moved, if-ok}
use Rattle.issue_drafts.proofs.listing.merged.Goals as goal

pub returns-clause-are : goal.returns-clause-are
returns-clause-are c =
    let kept = map (kept_file c.args.folder.now) (map (λ (row : Bor IssuedRow). row.now) c.args.kept.now) in
    let made = map (made_file c.args.folder.now) (items_at (zip (map draft_of c.args.drafts.now)
    c.args.hashes.now) c.args.made.now) in
    let first : AreAll IsFile (map file_view c.push_kept.new.files.items) =
    both-files [] kept (map file_view c.push_kept.new.files.items)
    (c.in_ok-push_kept.ensures.files ∙ ap (λ (l : List ListedFile). map file_view l ++ kept)
    c.new-files.ensures.items) tt c.in_ok-push_kept.ensures.are in
    let all : AreAll IsFile (map file_view c.push_made.new.files.items) =
    both-files (map file_view c.push_kept.new.files.items) made (map file_view c.push_made.new.files.items)
    c.in_ok-push_made.ensures.files first c.in_ok-push_made.ensures.are in
    if-ok c.by_name.result (λ files. IsPermutation (map file_view c.push_made.new.files.items)
    (map file_view files.items))
    (λ files. AreAll IsFile (map file_view files.items))
    (λ files moved. are-moved IsFile (map file_view c.push_made.new.files.items) (map file_view files.items)
    moved all) c.by_name.ensures.permutation
