-- The work of an edition, and what stands published before it.
use Rattle.std.specs.Prelude.{List}
use Rattle.key_ids.specs.Uris.{Bases}
use Rattle.authority_book.specs.declared.rows.NameRow.{NameRow}
use Rattle.key_roll.specs.declared.issued.IssuedRow.{IssuedRow}
use Rattle.key_roll.specs.declared.work.Work.{Work}
use Rattle.issue_drafts.specs.declared.issue_parts.IssueParts.{IssueParts}

pub record IssueInput : Type 0 where
  pub work : Work
  pub names : List NameRow
  pub issued : List IssuedRow
  pub site : Bases

-- What the parts are that the code is handed.
abbrev pub input_of : IssueParts → IssueInput
input_of at =
    record { work = at.work.now; names = at.names.now; issued = at.issued.now; site = at.site.now }
