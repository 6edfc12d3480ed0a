-- A plan's lists as the signing sees them.
use Rattle.std.proofs.Common.{◌≡◌, ℕ, List, [], ◌∷◌, length, map, refl, sym, ap, subst, ◌∙◌, arith}
use Rattle.std.specs.List.{All, zip}
use Rattle.std.proofs.lemmas.List.{length-map}
use Rattle.issue_values.specs.Publishers.{publishing}
use Rattle.payloads.specs.declared.values.ListedFile.{ListedFile}
use Rattle.payloads.specs.ManifestFormats.{file_view}
use Rattle.key_roll.specs.declared.rows.KeyRow.{KeyRow}
use Rattle.issue_drafts.specs.WorkKeys.{Keys}
use Rattle.issue_drafts.specs.IssueInput.{IssueInput, input_of}
use Rattle.issue_drafts.specs.Drafts as words
use Rattle.issue_drafts.specs.Views.{draft_of, IsPositioned, IsSubjectPositioned}
use Rattle.issue_drafts.specs.Serials.{given_serial}
use Rattle.issue_drafts.specs.declared.draft.Draft as code
use Rattle.issue_drafts.specs.declared.draft.ManifestDraft as manifests
use Rattle.issue_drafts.specs.Tables.{IsTable}
use Rattle.issue_sign.specs.Objects.{Entries, Files}
use Rattle.signer_api.specs.State.{SignerState}
use Rattle.issue_drafts.specs.Files.{AreMerged, kept_files, made_files}
use Rattle.issue_sign.specs.Objects.{Signed}
use Rattle.issue_sign.specs.SignInput.{SignInputValue, IsSignInput, AreDrafts, AreManifests}
use Rattle.issue_sign.specs.Made.{Way, AreMade}
use Rattle.issue_sign.specs.declared.object.Object.{Object}
use Rattle.issue_sign.specs.declared.sign_input.SignInput.{SignInput}
use Rattle.issue_make.specs.ObjectPlan.{IsObjectPlan}
use Rattle.issue_make.specs.inner.Signing.{sign_input_of}
use Rattle.issue_make.specs.declared.plans.ObjectPlan.{ObjectPlan}
use Rattle.issue_make.proofs.Parts.{all-of-map}

pub is-basis : (sign_input : SignInput) (keys : Keys) (rows : List KeyRow) (entries : Entries) (files : Files) (plan : ObjectPlan)
    → sign_input.publishers.now ≡ plan.publishers.items → sign_input.revoked.now ≡ plan.revoked.items
    → IsObjectPlan (input_of sign_input.input.now) keys rows plan → plan.revoked.items ≡ map entries rows
    → IsSignInput sign_input (sign_input_of (input_of sign_input.input.now) keys rows entries files)
is-basis sign_input keys rows entries files plan published revoked p is =
    record { publishers = ap (map publishing) published ∙ p.publishers; entries = revoked ∙ is }

pub are-drafts : (s : IssueInput) (keys : Keys) (rows : List KeyRow) (entries : Entries) (files : Files) (plan : ObjectPlan)
    (ds : List code.Draft) (given : List ℕ)
    → ds ≡ plan.drafts.items → given ≡ plan.serials.given.items → IsObjectPlan s keys rows plan
    → AreDrafts (sign_input_of s keys rows entries files) ds given
are-drafts s keys rows entries files plan ds given e f p = record {
  issuers = subst (λ (l : List code.Draft). All (λ d. IsPositioned rows d.issuer) l) (sym e) p.issuers;
  subjects = subst (λ (l : List code.Draft). All (λ d. IsSubjectPositioned rows d.kind) l) (sym e) p.subjects;
  serials = f ∙ (p.given ∙ ap (map (λ (d : code.Draft). given_serial (words.drafts s keys) (draft_of d))) (sym e));
}

twice : (files : Files) (ms : List manifests.ManifestDraft) → map files (map (λ m. m.issuer.row.now) ms) ≡ map (λ m. files m.issuer.row.now) ms
twice files [] = refl
twice files (m ∷ ms) = ap (λ (l : List (List (List ℕ × List ℕ))). files m.issuer.row.now ∷ l) (twice files ms)

pub are-manifests : (s : IssueInput) (keys : Keys) (rows : List KeyRow) (entries : Entries) (plan : ObjectPlan)
    (R : KeyRow → List (List ℕ × List ℕ) → Type 0) (ms listed : List manifests.ManifestDraft) (next : List ℕ) (lists : List (List ListedFile))
    → ms ≡ plan.manifests.items → listed ≡ plan.manifests.items → next ≡ plan.serials.next.items → IsObjectPlan s keys rows plan
    → (table : IsTable R (map (λ m. m.issuer.row.now) listed) (map (map file_view) lists))
    → AreManifests (sign_input_of s keys rows entries table.of) ms next lists
are-manifests s keys rows entries plan R ms listed next lists e h f p table = record {
  issuers = subst (λ (l : List manifests.ManifestDraft). All (λ d. IsPositioned rows d.issuer) l) (sym e) p.manifest_issuers;
  serials = f ∙ p.next;
  files = table.is ∙ (twice table.of listed ∙ ap (map (λ (m : manifests.ManifestDraft). table.of m.issuer.row.now)) (h ∙ sym e));
}

pub as-many : (files : Files) (ms : List manifests.ManifestDraft) (lists : List (List ListedFile))
    → map (map file_view) lists ≡ map files (map (λ m. m.issuer.row.now) ms) → length lists ≡ length ms
as-many files ms lists is =
    let one : length (map (map file_view) lists) ≡ length lists = length-map lists (map file_view) in
    let two : length (map files (map (λ (m : manifests.ManifestDraft). m.issuer.row.now) ms)) ≡ length (map (λ (m : manifests.ManifestDraft). m.issuer.row.now) ms) =
    length-map (map (λ (m : manifests.ManifestDraft). m.issuer.row.now) ms) files in
    let three : length (map (λ (m : manifests.ManifestDraft). m.issuer.row.now) ms) ≡ length ms = length-map ms (λ (m : manifests.ManifestDraft). m.issuer.row.now) in
    let same = ap length is in
    omega arith

-- As many objects as drafts.
pub as-many-made : (s : IssueInput) (b : SignInputValue) (way : Way) (drafts : List words.Draft) (old new : List SignerState)
    (objects : List Object) (made : List Signed) → AreMade s b way drafts old new objects made → length objects ≡ length drafts
as-many-made s b way drafts old new objects made are =
    let one : length (map (λ (o : Object). o.bytes) objects) ≡ length objects = length-map objects (λ (o : Object). o.bytes) in
    let two : length (map way.bytes made) ≡ length made = length-map made way.bytes in
    let three : length (map (λ (x : Signed). x.draft) made) ≡ length made = length-map made (λ (x : Signed). x.draft) in
    let same : length (map (λ (o : Object). o.bytes) objects) ≡ length (map way.bytes made) = ap length are.bytes in
    let each : length (map (λ (x : Signed). x.draft) made) ≡ length drafts = ap length are.each in
    omega arith

-- The files of manifests, from a table of them.
pub lists-of : (s : IssueInput) (all : List words.Draft) (ds seen : List code.Draft) (ms listed : List manifests.ManifestDraft)
    (hashes told : List (List ℕ)) (lists : List (List (List ℕ × List ℕ)))
    → seen ≡ ds → listed ≡ ms → told ≡ hashes
    → (table : IsTable (λ key list. AreMerged (kept_files s all key) (made_files s key (zip (map draft_of seen) told)) list)
    (map (λ m. m.issuer.row.now) listed) lists)
    → All (λ m. AreMerged (kept_files s all m.issuer.row.now) (made_files s m.issuer.row.now (zip (map draft_of ds) hashes))
    (table.of m.issuer.row.now)) ms
lists-of s all ds seen ms listed hashes told lists e f h table =
    subst (λ (l : List (List ℕ)). All (λ m. AreMerged (kept_files s all m.issuer.row.now)
    (made_files s m.issuer.row.now (zip (map draft_of ds) l)) (table.of m.issuer.row.now)) ms) h
    (subst (λ (l : List code.Draft). All (λ m. AreMerged (kept_files s all m.issuer.row.now)
    (made_files s m.issuer.row.now (zip (map draft_of l) told)) (table.of m.issuer.row.now)) ms) e
    (subst (λ (l : List manifests.ManifestDraft). All (λ m. AreMerged (kept_files s all m.issuer.row.now)
    (made_files s m.issuer.row.now (zip (map draft_of seen) told)) (table.of m.issuer.row.now)) l) f
    (all-of-map (λ (key : KeyRow). AreMerged (kept_files s all key) (made_files s key (zip (map draft_of seen) told)) (table.of key))
    (λ (m : manifests.ManifestDraft). m.issuer.row.now) listed table.each)))
