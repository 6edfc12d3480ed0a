use Rattle.std.proofs.Common.{◌∙◌, ap}
use Rattle.std.specs.Prelude.{Option}
use Rattle.notice_board.specs.declared.sheets.SheetRow.{SheetRow}
use Rattle.json_api.specs.Texts.{resources_text}
use Rattle.krill_top.specs.Reads.{certified_in, stage_in}
use Rattle.krill_top.proofs.Reading.{shown_text}
use Rattle.krill_top.proofs.reads.shown.Goals as goal

pub returns : goal.returns
returns c = shown_text c.show_text.result c.args.name.now c.args.config.now.settings c.args.sheet.now c.args.desk _ c.parent.result c.stage_by.result c.children.result.now
    (c.in_ok-certified_by.ensures ∙ ap (λ (r : Option SheetRow). resources_text (certified_in r)) c.row_at-row.ensures.known)
    c.parent.ensures
    (c.stage_by.ensures ∙ ap stage_in c.row_at-row.ensures.known)
    c.children.ensures.children c.row_at-row.ensures.canonical c.show_text.ensures
