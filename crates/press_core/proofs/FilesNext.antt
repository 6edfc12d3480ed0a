-- The files of a press with one more edition.
use Rattle.std.proofs.Common.{◌≡◌, ℕ, ◌+◌, sym, subst, ap, ap₂, ◌∙◌, length, List, [], ◌∷◌, ◌++◌}
use Rattle.pub_set.specs.declared.objects.Object.{Object}
use Rattle.pub_set.specs.Objects.{content_at, IsAscending}
use Rattle.pub_set.specs.Changes.{Contents, after_all}
use Rattle.authority_book.specs.declared.commands.Command.{Command}
use Rattle.editions.specs.Edition.{Edition}
use Rattle.rrdp_state.specs.declared.next.NextDelta.{NextDelta}
use Rattle.rrdp_state.specs.Editions as rrdp
use Rattle.rrdp_state.specs.Editions.{FollowEachOther, objects_of, next_delta, edition_delta}
use Rattle.rrdp_state.specs.Exported.{Repository}
use Rattle.rrdp_state.specs.Kept.{Kept}
use Rattle.rrdp_state.specs.State as rrdp_state
use Rattle.press_core.specs.Press.{PressValue}
use Rattle.press_core.specs.Next.{NextValue, IsNext}
use Rattle.press_core.specs.Stands.{IsLeftBy}
use Rattle.press_core.specs.Follows.{edition_of}
use Rattle.press_core.specs.Files.{told, rrdp_editions, repository_at, repository_of, HasFilesOf, delta_of}
use Rattle.press_core.proofs.Told.{follow_told, leave_told, behind_told}
use Rattle.press_core.proofs.AfterExports.{kept_serial}

abbrev pub OneSet : Type 0
OneSet = (a b : List Object) → IsAscending a → IsAscending b → ((uri : List ℕ) → content_at a uri ≡ content_at b uri) → a ≡ b

-- What stands then is what the editions leave, as a list.
same_set : OneSet → (lists : List (List Command)) (editions : List Edition) (press : PressValue) (edition : NextValue) → IsLeftBy lists editions press.at
    → IsNext press.site press.at edition → edition.next.set ≡ (told (rrdp_editions editions) (edition_of edition)).objects
same_set one lists editions press edition left next =
    let older = rrdp_editions editions in
    let new = told older (edition_of edition) in
    let follow : FollowEachOther (new ∷ older) = subst FollowEachOther (behind_told editions (edition_of edition)) (follow_told (editions ++ edition_of edition ∷ [])) in
    let held : (uri : List ℕ) → content_at press.at.set uri ≡ content_at (objects_of older) uri = λ uri. left.set uri ∙ sym (leave_told editions uri) in
    one edition.next.set new.objects next.ascending follow.0
    (λ uri. next.set uri ∙ (ap (λ (h : Contents). after_all h edition.changes uri) (λ i u. held u i) ∙ sym (follow.1 uri)))

pub set_next : OneSet → (lists : List (List Command)) (editions : List Edition) (press : PressValue) (edition : NextValue) → IsLeftBy lists editions press.at
    → IsNext press.site press.at edition → edition.next.set ≡ objects_of (rrdp_editions (editions ++ edition_of edition ∷ []))
set_next one lists editions press edition left next =
    same_set one lists editions press edition left next ∙ ap objects_of (sym (behind_told editions (edition_of edition)))

files_next : OneSet → (lists : List (List Command)) (editions : List Edition) (press : PressValue) (edition : NextValue) (delta : NextDelta) (set : List Object) (kept : Kept)
    → IsLeftBy lists editions press.at → HasFilesOf editions press → IsNext press.site press.at edition → press.rrdp.serial ≡ press.at.serial
    → delta ≡ delta_of press.rrdp.session edition → set ≡ edition.next.set
    → ((repository : Repository) (older : List rrdp.Edition) (new : rrdp.Edition) → rrdp_state.StandsFor repository older press.rrdp
    → FollowEachOther (new ∷ older) → set ≡ new.objects → delta ≡ edition_delta repository.session older new → rrdp_state.StandsFor repository (new ∷ older) kept)
    → rrdp_state.StandsFor (repository_of press) (rrdp_editions (editions ++ edition_of edition ∷ [])) kept
files_next one lists editions press edition delta set kept left has next counted text given advance =
    let older = rrdp_editions editions in
    let new = told older (edition_of edition) in
    let behind = behind_told editions (edition_of edition) in
    let follow : FollowEachOther (new ∷ older) = subst FollowEachOther behind (follow_told (editions ++ edition_of edition ∷ [])) in
    let serial : edition.next.serial ≡ length older + 1 =
    next.serial ∙ ap (λ n. n + 1) (sym counted ∙ kept_serial (repository_of press) older press.rrdp has.kept) in
    let same = same_set one lists editions press edition left next in
    subst (λ (es : List rrdp.Edition). rrdp_state.StandsFor (repository_of press) es kept) (sym behind)
    (advance (repository_of press) older new has.kept follow (given ∙ same)
    (text ∙ ap₂ (λ (n : ℕ) (objects : List Object). next_delta press.rrdp.session n objects edition.changes) serial same))

-- The same of a press as its fields are.
pub files_then : OneSet → (view now : PressValue) (edition : NextValue) (delta : NextDelta) (set : List Object) (kept : Kept) → view ≡ now
    → view.rrdp.serial ≡ view.at.serial → IsNext now.site now.at edition → delta ≡ delta_of now.rrdp.session edition → set ≡ edition.next.set
    → ((repository : Repository) (older : List rrdp.Edition) (told : rrdp.Edition) → rrdp_state.StandsFor repository older view.rrdp
    → FollowEachOther (told ∷ older) → set ≡ told.objects → delta ≡ edition_delta repository.session older told → rrdp_state.StandsFor repository (told ∷ older) kept)
    → kept.session ≡ view.rrdp.session
    → (lists : List (List Command)) (editions : List Edition) → IsLeftBy lists editions now.at → HasFilesOf editions now
    → rrdp_state.StandsFor (repository_at kept.session view.site) (rrdp_editions (editions ++ edition_of edition ∷ [])) kept
files_then one view now edition delta set kept same counted next text given advance session lists editions left has =
    let es = rrdp_editions (editions ++ edition_of edition ∷ []) in
    let back = sym same in
    let stands : rrdp_state.StandsFor (repository_of view) es kept =
    files_next one lists editions view edition delta set kept
    (subst (λ (press : PressValue). IsLeftBy lists editions press.at) back left)
    (subst (HasFilesOf editions) back has)
    (subst (λ (press : PressValue). IsNext press.site press.at edition) back next)
    counted
    (subst (λ (press : PressValue). delta ≡ delta_of press.rrdp.session edition) back text)
    given advance in
    subst (λ (id : List ℕ). rrdp_state.StandsFor (repository_at id view.site) es kept) (sym session) stands
