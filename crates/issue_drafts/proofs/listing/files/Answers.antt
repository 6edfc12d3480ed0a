use Rattle.std.proofs.Common.{◌≡◌, ◌++◌, List, length, map, sym, ap, subst, ◌∙◌}
use Rattle.std.specs.List.{AllZip, zip}
use Rattle.std.proofs.lemmas.List.{length-map, take_all}
use denote.Ref.{Bor}
use Rattle.key_roll.specs.declared.issued.IssuedRow.{IssuedRow}
use Rattle.payloads.specs.ManifestFormats.{file_view}
use Rattle.issue_drafts.specs.IssueInput.{input_of}
use Rattle.issue_drafts.specs.Views.{draft_of, manifest_of}
use Rattle.issue_drafts.specs.declared.draft.ManifestDraft.{ManifestDraft}
use Rattle.issue_drafts.specs.Files.{AreListable}
use Rattle.issue_drafts.proofs.Filed.{all-at}
use Rattle.issue_drafts.proofs.Merged.{OfKey, kept-lie, made-inside, ready-here, of-here}
use Rattle.issue_drafts.proofs.Merged.{key-more, file-table, all-listed}
use Rattle.issue_drafts.proofs.listing.files.Goals as goal

pub kept_rows-requires-clause-inside : goal.kept_rows-requires-clause-inside
kept_rows-requires-clause-inside c =
    let s = input_of c.args.at.now in
    let drafts = map draft_of c.args.drafts.now in
    let manifests = map manifest_of c.args.manifests.now in
    kept-lie s (drafts ++ manifests) drafts c.args.touched.now c.manifest-item.result.issuer.row.now
    c.as_str-path.result.now c.manifest-item.result.issuer.id.bytes c.requires.touched
    (all-at (λ (m : ManifestDraft). AreListable s (drafts ++ manifests) drafts m.issuer.row.now)
    c.args.manifests.now c.loop-manifest.manifest-index c.manifest-item.result c.manifest-item.result
    c.requires.listable c.loop-manifest-test.true c.manifest-item.is)
    (c.as_str-path.ensures.value ∙ c.in_ok-folder.ensures) c.manifest-item.result.issuer.identified

pub merged-requires-clause-made_inside : goal.merged-requires-clause-made_inside
merged-requires-clause-made_inside c =
    made-inside (input_of c.args.at.now) (map draft_of c.args.drafts.now) c.args.hashes.now
    c.manifest-item.result.issuer.id.bytes c.in_ok-made.made c.positions-come.result.now
    (c.requires.each ∙ sym (length-map c.args.drafts.now draft_of)) c.in_ok-made.ensures c.positions-come.ensures

pub merged-requires-clause-kept_listable : goal.merged-requires-clause-kept_listable
merged-requires-clause-kept_listable c =
    let s = input_of c.args.at.now in
    let drafts = map draft_of c.args.drafts.now in
    let manifests = map manifest_of c.args.manifests.now in
    (ready-here s drafts manifests c.args.hashes.now c.args.touched.now c.manifest-item.result.issuer.row.now
    c.as_str-path.result.now c.manifest-item.result.issuer.id.bytes (map (λ (row : Bor IssuedRow). row.now) c.deref.result.now)
    c.in_ok-made.made c.positions-come.result.now
    (c.requires.each ∙ sym (length-map c.args.drafts.now draft_of))
    c.requires.standing c.requires.rising c.requires.touched
    (all-at (λ (m : ManifestDraft). AreListable s (drafts ++ manifests) drafts m.issuer.row.now)
    c.args.manifests.now c.loop-manifest.manifest-index c.manifest-item.result c.manifest-item.result
    c.requires.listable c.loop-manifest-test.true c.manifest-item.is)
    (ap (map (λ (row : Bor IssuedRow). row.now)) c.deref.ensures.value ∙ c.in_ok-stay.ensures)
    c.in_ok-made.ensures c.manifest-item.result.issuer.identified c.positions-come.ensures
    (c.as_str-path.ensures.value ∙ c.in_ok-folder.ensures)).kept

pub merged-requires-clause-made_listable : goal.merged-requires-clause-made_listable
merged-requires-clause-made_listable c =
    let s = input_of c.args.at.now in
    let drafts = map draft_of c.args.drafts.now in
    let manifests = map manifest_of c.args.manifests.now in
    (ready-here s drafts manifests c.args.hashes.now c.args.touched.now c.manifest-item.result.issuer.row.now
    c.as_str-path.result.now c.manifest-item.result.issuer.id.bytes (map (λ (row : Bor IssuedRow). row.now) c.deref.result.now)
    c.in_ok-made.made c.positions-come.result.now
    (c.requires.each ∙ sym (length-map c.args.drafts.now draft_of))
    c.requires.standing c.requires.rising c.requires.touched
    (all-at (λ (m : ManifestDraft). AreListable s (drafts ++ manifests) drafts m.issuer.row.now)
    c.args.manifests.now c.loop-manifest.manifest-index c.manifest-item.result c.manifest-item.result
    c.requires.listable c.loop-manifest-test.true c.manifest-item.is)
    (ap (map (λ (row : Bor IssuedRow). row.now)) c.deref.ensures.value ∙ c.in_ok-stay.ensures)
    c.in_ok-made.ensures c.manifest-item.result.issuer.identified c.positions-come.ensures
    (c.as_str-path.ensures.value ∙ c.in_ok-folder.ensures)).come

pub merged-requires-clause-apart : goal.merged-requires-clause-apart
merged-requires-clause-apart c =
    let s = input_of c.args.at.now in
    let drafts = map draft_of c.args.drafts.now in
    let manifests = map manifest_of c.args.manifests.now in
    (ready-here s drafts manifests c.args.hashes.now c.args.touched.now c.manifest-item.result.issuer.row.now
    c.as_str-path.result.now c.manifest-item.result.issuer.id.bytes (map (λ (row : Bor IssuedRow). row.now) c.deref.result.now)
    c.in_ok-made.made c.positions-come.result.now
    (c.requires.each ∙ sym (length-map c.args.drafts.now draft_of))
    c.requires.standing c.requires.rising c.requires.touched
    (all-at (λ (m : ManifestDraft). AreListable s (drafts ++ manifests) drafts m.issuer.row.now)
    c.args.manifests.now c.loop-manifest.manifest-index c.manifest-item.result c.manifest-item.result
    c.requires.listable c.loop-manifest-test.true c.manifest-item.is)
    (ap (map (λ (row : Bor IssuedRow). row.now)) c.deref.ensures.value ∙ c.in_ok-stay.ensures)
    c.in_ok-made.ensures c.manifest-item.result.issuer.identified c.positions-come.ensures
    (c.as_str-path.ensures.value ∙ c.in_ok-folder.ensures)).apart

pub loop-manifest-preserved : goal.loop-manifest-preserved
loop-manifest-preserved c =
    let s = input_of c.args.at.now in
    let drafts = map draft_of c.args.drafts.now in
    let manifests = map manifest_of c.args.manifests.now in
    let key = c.manifest-item.result.issuer.row.now in
    let rows = map (λ (row : Bor IssuedRow). row.now) c.deref.result.now in
    let long : length c.args.hashes.now ≡ length drafts = c.requires.each ∙ sym
    (length-map c.args.drafts.now draft_of) in
    let folder = c.as_str-path.ensures.value ∙ c.in_ok-folder.ensures in
    let stay = ap (map (λ (row : Bor IssuedRow). row.now)) c.deref.ensures.value ∙ c.in_ok-stay.ensures in
    let r =
    ready-here s drafts manifests c.args.hashes.now c.args.touched.now key c.as_str-path.result.now c.manifest-item.result.issuer.id.bytes
    rows c.in_ok-made.made c.positions-come.result.now long
    c.requires.standing c.requires.rising c.requires.touched
    (all-at (λ (m : ManifestDraft). AreListable s (drafts ++ manifests) drafts m.issuer.row.now)
    c.args.manifests.now c.loop-manifest.manifest-index c.manifest-item.result c.manifest-item.result
    c.requires.listable c.loop-manifest-test.true c.manifest-item.is)
    stay c.in_ok-made.ensures c.manifest-item.result.issuer.identified c.positions-come.ensures folder in
    key-more s c.args.touched.now (zip drafts c.args.hashes.now) (λ (m : ManifestDraft). m.issuer.row.now)
    c.args.manifests.now c.loop-manifest.manifest-index c.manifest-item.result key
    c.loop-manifest.lists.items c.push.new.self.items c.new.result c.loop-manifest-test.true
    (ap (λ (m : ManifestDraft). m.issuer.row.now) c.manifest-item.is) c.loop-manifest.invariant
    (of-here s drafts c.args.hashes.now c.args.touched.now key c.as_str-path.result.now c.manifest-item.result.issuer.id.bytes
    rows c.in_ok-made.made c.positions-come.result.now
    c.in_ok-list.list.items c.new.result long stay c.in_ok-made.ensures c.manifest-item.result.issuer.identified
    c.positions-come.ensures folder r
    c.in_ok-list.ensures.merged c.in_ok-list.ensures.are c.new.ensures)
    c.in_ok-push.ensures.items

pub returns-clause-lists : goal.returns-clause-lists
returns-clause-lists c = λ puts are.
    let s = input_of c.args.at.now in
    let made = zip (map draft_of c.args.drafts.now) c.args.hashes.now in
    let lists = map (map file_view) c.loop-manifest.lists.items in
    file-table s puts c.args.touched.now made (map (λ (m : ManifestDraft). m.issuer.row.now)
    c.args.manifests.now) lists
    (subst (λ (l : List ManifestDraft). AllZip (OfKey s c.args.touched.now made)
    (map (λ (m : ManifestDraft). m.issuer.row.now) l) lists)
    (take_all c.loop-manifest.manifest-index c.args.manifests.now c.loop-manifest-test.false)
    c.loop-manifest.invariant) are

pub returns-clause-listed : goal.returns-clause-listed
returns-clause-listed c =
    let s = input_of c.args.at.now in
    let made = zip (map draft_of c.args.drafts.now) c.args.hashes.now in
    all-listed s c.args.touched.now made (map (λ (m : ManifestDraft). m.issuer.row.now) c.args.manifests.now)
    c.loop-manifest.lists.items
    (subst (λ (l : List ManifestDraft). AllZip (OfKey s c.args.touched.now made)
    (map (λ (m : ManifestDraft). m.issuer.row.now) l) (map (map file_view) c.loop-manifest.lists.items))
    (take_all c.loop-manifest.manifest-index c.args.manifests.now c.loop-manifest-test.false)
    c.loop-manifest.invariant)
