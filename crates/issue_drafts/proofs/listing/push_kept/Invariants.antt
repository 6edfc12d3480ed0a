use Rattle.std.proofs.Common.{◌≡◌, ◌++◌, map, take}
use Rattle.der.specs.Forms.{AreAll}
use Rattle.payloads.specs.ManifestFormats.{IsFile, file_view}
use Rattle.issue_drafts.specs.Files.{kept_file}
use Rattle.issue_drafts.proofs.listing.push_kept.Given as goal

abbrev pub invariant-loop-row : goal.invariant-loop-row
invariant-loop-row l = record {
  files : map file_view l.files.items ≡ map file_view l.fn.files.items ++ map (kept_file l.folder)
      (map (λ row. row.now) (take l.row-index l.rows));
  are : AreAll IsFile (map (kept_file l.folder) (map (λ row. row.now) (take l.row-index l.rows)));
}
