use Rattle.std.proofs.Common.{◌∙◌, ap, sym, Bor}
use Rattle.std.specs.Prelude.{Option, option_copied}
use Rattle.notice_board.specs.declared.sheets.SheetRow.{SheetRow}
use Rattle.json_api.specs.Texts.{resources_text}
use Rattle.krill_top.specs.Reads.{certified_in}
use Rattle.krill_top.proofs.Reading.{none_text}
use Rattle.krill_top.proofs.reads.certified_by.Goals as goal

pub returns-in-None : goal.returns-in-None
returns-in-None c =
    none_text c.empty.result (record { asn = c.empty.ensures.asn; v4 = c.empty.ensures.v4; v6 = c.empty.ensures.v6 })
    ∙ ap (λ (r : Option (Bor SheetRow)). resources_text (certified_in (option_copied r))) (sym c.in-None.is)
