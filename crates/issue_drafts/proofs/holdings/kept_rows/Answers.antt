use Rattle.std.proofs.Common.{◌≡◌, ℕ, Bool, List, map, filter, Vec, Global, ap, ◌∙◌}
use denote.Ref.{Bor}
use Rattle.key_ids.specs.Uris.{anchor_uri}
use Rattle.key_roll.specs.declared.issued.IssuedRow.{IssuedRow}
use Rattle.issue_drafts.specs.inner.Holdings.{is_kept_under, is_inside}
use Rattle.issue_drafts.proofs.Filed.{if-ok}
use Rattle.issue_drafts.proofs.Foldered.{filter-within}
use Rattle.issue_drafts.proofs.holdings.kept_rows.Goals as goal

pub returns : goal.returns
returns c =
    let now : Bor IssuedRow → IssuedRow = λ row. row.now in
    let id = c.args.id.now.bytes in
    let touched = c.args.touched.now in
    let issued = c.args.issued.now in
    let anchor = anchor_uri c.args.site.now in
    let p : List ℕ → IssuedRow → Bool = λ a. is_kept_under id a touched in
    if-ok c.kept_among.result
    (λ (kept : Vec (Bor IssuedRow) Global). map now kept.items ≡ filter (p c.as_str.result.now) c.in_folder-inside.result.now)
    (λ (kept : Vec (Bor IssuedRow) Global). map now kept.items ≡ filter (p anchor) issued)
    (λ kept is. is
    ∙ (ap (λ (a : List ℕ). filter (p a) c.in_folder-inside.result.now) (c.as_str.ensures.value ∙ c.in_ok-anchor.ensures)
    ∙ (ap (filter (p anchor)) c.in_folder-inside.ensures
    ∙ filter-within (p anchor) (is_inside c.args.folder.now) issued c.requires.inside)))
    c.kept_among.ensures
