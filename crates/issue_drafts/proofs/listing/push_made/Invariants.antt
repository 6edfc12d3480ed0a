use Rattle.std.proofs.Common.{◌≡◌, ◌++◌, map, take}
use Rattle.std.specs.List.{zip}
use Rattle.der.specs.Forms.{AreAll}
use Rattle.payloads.specs.ManifestFormats.{IsFile, file_view}
use Rattle.issue_drafts.specs.Views.{draft_of}
use Rattle.issue_drafts.specs.inner.Positions.{items_at}
use Rattle.issue_drafts.specs.Files.{made_file}
use Rattle.issue_drafts.proofs.listing.push_made.Given as goal

abbrev pub invariant-loop-entry : goal.invariant-loop-entry
invariant-loop-entry l = record {
  files : map file_view l.files.items ≡ map file_view l.fn.files.items ++ map (made_file l.folder)
      (items_at (zip (map draft_of l.drafts) l.hashes) (take l.entry-index l.positions));
  are : AreAll IsFile (map (made_file l.folder) (items_at (zip (map draft_of l.drafts) l.hashes)
      (take l.entry-index l.positions)));
}
