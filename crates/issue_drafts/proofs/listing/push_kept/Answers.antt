use Rattle.std.proofs.Common.{◌≡◌, ℕ, ◌+◌, List, [], ◌∷◌, ◌++◌, length, get_or, map, take, sym, ap, subst, ◌∙◌, arith}
use denote.Ref.{Bor}
use Rattle.std.proofs.lemmas.List.{get_or-map, length-map, map-append, take_more}
use Rattle.key_roll.specs.declared.issued.IssuedRow.{IssuedRow}
use Rattle.payloads.specs.ManifestFormats.{file_view}
use Rattle.issue_drafts.specs.Files.{name_in, kept_file, IsListable}
use Rattle.issue_drafts.proofs.Filed.{listed-more}
use Rattle.issue_drafts.proofs.listing.push_kept.Goals as goal

pub push_file-requires : goal.push_file-requires
push_file-requires c =
    let now : Bor IssuedRow → IssuedRow = λ row. row.now in
    let rows = c.args.rows.now in
    let i = c.loop-row.row-index in
    let row = c.row-item.result in
    let here : get_or (map now rows) i row.now ≡ row.now =
    get_or-map now rows i row row.now c.loop-row-test.true ∙ sym (ap now c.row-item.is) in
    let long : length (map now rows) ≡ length rows = length-map rows now in
    subst (IsListable c.args.folder.now) (sym c.as_str.ensures)
    (subst (λ (r : IssuedRow). IsListable c.args.folder.now r.uri) here
    (c.requires i row.now (omega (arith, long, c.loop-row-test.true))))

pub loop-row-preserved : goal.loop-row-preserved
loop-row-preserved c =
    let now : Bor IssuedRow → IssuedRow = λ row. row.now in
    let rows = c.args.rows.now in
    let folder = c.args.folder.now in
    let i = c.loop-row.row-index in
    let row = c.row-item.result in
    let more : map now (take (i + 1) rows) ≡ map now (take i rows) ++ row.now ∷ [] =
    ap (map now) (take_more rows i row c.loop-row-test.true
    ∙ ap (λ (r : Bor IssuedRow). take i rows ++ r ∷ []) (sym c.row-item.is))
    ∙ map-append now (take i rows) (row ∷ []) in
    let h =
    listed-more (kept_file folder) (map now (take i rows)) (map now (take (i + 1) rows)) row.now
    (map file_view c.args.files.now.items) (map file_view c.loop-row.files.items)
    (map file_view c.push_file.new.files.items) (name_in folder c.as_str.result.now, row.now.hash)
    more c.loop-row.invariant.files c.loop-row.invariant.are c.in_ok-push_file.ensures.files
    c.in_ok-push_file.ensures.is
    (ap (λ (u : List ℕ). (name_in folder u, row.now.hash)) c.as_str.ensures) in
    record { files = h.files; are = h.are }
