-- The lines that tell of an edition: of the last one, or of one of a workload.
use Rattle.std.specs.Prelude.{ℕ, List, ◌++◌, length, codes, decimal}
use Rattle.rp_rules.specs.Yield.{AuditedValue}
use Rattle.editions.specs.Edition.{State}
use Rattle.editions.specs.declared.published_state.PublishedNumbers.{PublishedNumbers}
use Rattle.krill_top.specs.declared.summary.Summary.{Summary}

-- All are 0 where there is no edition.
abbrev pub no_edition : Summary
no_edition = record { serial = 0; moment = 0; objects = 0; points = 0; origins = 0 }

-- What was found of the edition that leaves this.
abbrev pub summary_of : State → AuditedValue → Summary
summary_of last audited = record {
  serial = last.serial;
  moment = last.moment;
  objects = audited.objects;
  points = length audited.points;
  origins = length audited.origins;
}

-- A JSON object with the numbers by their names, in their order, and a line feed.
abbrev pub summary_line : Summary → List ℕ
summary_line summary = codes "{\"moment\":" ++ decimal summary.moment
    ++ codes ",\"objects\":" ++ decimal summary.objects
    ++ codes ",\"origins\":" ++ decimal summary.origins
    ++ codes ",\"points\":" ++ decimal summary.points
    ++ codes ",\"serial\":" ++ decimal summary.serial ++ codes "}\n"

-- The same of a workload of so many authorities: how many commands were accepted so far, and what was
-- published of them.
abbrev pub workload_line : ℕ → ℕ → PublishedNumbers → List ℕ
workload_line authorities commands published =
    codes "{\"authorities\":" ++ decimal authorities
    ++ codes ",\"commands\":" ++ decimal commands
    ++ codes ",\"objects\":" ++ decimal published.objects
    ++ codes ",\"origins\":" ++ decimal published.origins
    ++ codes ",\"serial\":" ++ decimal published.serial ++ codes "}\n"
