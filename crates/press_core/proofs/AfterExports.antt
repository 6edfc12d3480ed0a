-- What an export of a press leaves.
use Rattle.std.proofs.Common.{◌≡◌, ℕ, zero, suc, ◌+◌, ◌-◌, ◌<◌, ◌≤◌, ◌^◌, refl, sym, subst, ap, ap₂, ◌∙◌, arith, length, get_or, take, drop, map, List, [], ◌∷◌, ◌++◌, Some, None, Bool, true, false}
use Rattle.std.specs.Prelude.{◌≢◌, Option, option_map, IfSome, nat_lt, String, Result, Ok, Err, OnOk}
use Rattle.std.specs.declared.alloc.Global.{Global}
use Rattle.std.proofs.lemmas.Bool.{false≢true}
use Rattle.std.proofs.lemmas.Bool.Decides.{nat_tests}
use Rattle.std.proofs.lemmas.List.{take-append-drop, length-append, length-drop, map-append}
use Rattle.key_ids.specs.Uris.{Bases, anchor_uri}
use Rattle.key_roll.specs.declared.rows.KeyRow.{KeyRow}
use Rattle.key_roll.specs.declared.rows.Role.TheVariants.{Current}
use Rattle.pub_set.specs.Objects.{content_at}
use Rattle.pub_set.specs.laws.LookupLaws.{all_append}
use Rattle.issue_plan.specs.Keys.{row_of}
use Rattle.authority_book.specs.declared.commands.Command.{Command}
use Rattle.outlet_api.specs.declared.exports.OutFile.{OutFile}
use Rattle.outlet_api.specs.Calls.{Files, Call, put, after_all, IsFront}
use Rattle.outlet_api.specs.declared.exports.OutFiles.{OutFiles}
use Rattle.outlet_api.specs.Exports.{put_of, removal_of, calls_of}
use Rattle.outlet_api.specs.laws.FrontLaws.{holds_at_front}
use Rattle.rrdp_state.specs.Editions as rrdp
use Rattle.rrdp_state.specs.Editions.{FollowEachOther, objects_of}
use Rattle.rrdp_state.specs.Exported.{Repository, IsBeside, AreBeside, export_calls, file_puts, puts_of, removals_of}
use Rattle.rrdp_state.specs.Coherent.{Shows, Coherent}
use Rattle.rrdp_state.specs.Kept.{Kept}
use Rattle.rrdp_state.specs.State.{kept_of}
use Rattle.rrdp_state.specs.State as rrdp_state
use Rattle.editions.specs.Edition.{Edition}
use Rattle.editions.specs.PublishedState.{PublishedStateValue}
use Rattle.press_core.specs.declared.last_export.LastExport.{LastExport}
use Rattle.press_core.specs.declared.last_export.LastExport.TheVariants.{NoExport, Failed, Done}
use Rattle.press_core.specs.Press.{PressValue}
use Rattle.press_core.specs.Stands.{IsLeftBy}
use Rattle.press_core.specs.Files.{told, told_before, rrdp_editions, repository_of, HasFilesOf}
use Rattle.press_core.specs.Exports.{certificate_path, locator_path, locator_for, file_put, anchor_puts, puts_all, export_of}
use Rattle.press_core.specs.Exports.{ShowsFiles, IsCoherent, ShowsEdition, ShowsLast}
use Rattle.press_core.specs.inner.Exporting.{IsCounted}
use Rattle.press_core.proofs.Told.{follow_told, count_told}

-- The laws of what an export of RRDP's files leaves.
pub record Laws : Type 0 where
  pub all : (repository : Repository) (editions : List rrdp.Edition) (beside : List Call) (files : Files) (calls : ℕ)
      → FollowEachOther editions → length editions < 2 ^ 64 → AreBeside beside → Coherent repository editions files
      → Coherent repository editions (after_all (take calls (export_calls repository editions true beside)) files)
  pub all_in_the_end : (repository : Repository) (older : List rrdp.Edition) (edition : rrdp.Edition) (beside : List Call) (files : Files)
      → length (edition ∷ older) < 2 ^ 64 → AreBeside beside
      → Shows repository (edition ∷ older) (after_all (export_calls repository (edition ∷ older) true beside) files)
  pub newest : (repository : Repository) (editions : List rrdp.Edition) (beside : List Call) (files : Files) (later calls : ℕ)
      → FollowEachOther editions → length editions < 2 ^ 64 → AreBeside beside → later ≤ 1 → Shows repository (drop later editions) files
      → Coherent repository editions (after_all (take calls (export_calls repository editions false beside)) files)
  pub newest_in_the_end : (repository : Repository) (editions : List rrdp.Edition) (beside : List Call) (files : Files) (later : ℕ)
      → FollowEachOther editions → length editions < 2 ^ 64 → AreBeside beside → later ≤ 1 → Shows repository (drop later editions) files
      → Shows repository editions (after_all (export_calls repository editions false beside) files)
  pub beside : (repository : Repository) (editions : List rrdp.Edition) (all : Bool) (beside : List Call) (files : Files) (path : List ℕ)
      → AreBeside beside → IsBeside path
      → after_all (export_calls repository editions all beside) files path ≡ after_all beside files path

-- ---- the files of the press

pub kept_serial : (repository : Repository) (editions : List rrdp.Edition) (kept : Kept) → rrdp_state.StandsFor repository editions kept → kept.serial ≡ length editions
kept_serial repository editions kept stands = ap (λ (k : Kept). k.serial) stands.state ∙ counted editions
  where
    counted : (es : List rrdp.Edition) → (kept_of repository es).serial ≡ length es
    counted [] = refl
    counted (e ∷ es) = omega arith

pub not_empty : (editions : List rrdp.Edition) (serial : ℕ) → length editions ≡ serial → (serial ≡ 0 → ⊥) → editions ≡ [] → ⊥
not_empty editions serial count some empty = some (sym count ∙ ap length empty)

-- ---- the last edition exported, among all

told_both : (older : List rrdp.Edition) (first second : List Edition) → told_before older (first ++ second) ≡ told_before (told_before older first) second
told_both older [] second = refl
told_both older (edition ∷ first) second = told_both (told older edition ∷ older) first second

drop_one : (n : ℕ) (x : rrdp.Edition) (l m : List rrdp.Edition) → drop n l ≡ x ∷ m → drop (suc n) l ≡ m
drop_one zero x l m e = ap (drop 1) e
drop_one (suc n) x [] m e = absurd (let long = ap length e in omega (arith, long))
drop_one (suc n) x (y ∷ l) m e = drop_one n x l m e

drop_behind : (older : List rrdp.Edition) (editions : List Edition) → drop (length editions) (told_before older editions) ≡ older
drop_behind older [] = refl
drop_behind older (edition ∷ rest) =
    drop_one (length rest) (told older edition) (told_before (told older edition ∷ older) rest) older (drop_behind (told older edition ∷ older) rest)

drop_told : (editions : List Edition) (n : ℕ) → drop (length editions - n) (rrdp_editions editions) ≡ rrdp_editions (take n editions)
drop_told editions n =
    ap₂ drop (sym (length-drop n editions)) (ap rrdp_editions (sym (take-append-drop n editions)) ∙ told_both [] (take n editions) (drop n editions))
    ∙ drop_behind (rrdp_editions (take n editions)) (drop n editions)

-- Where not all is put, the files show this edition or the one before it.
pub record ShowsRecent (repository : Repository) (editions : List Edition) (files : Files) : Type 0 where
  pub later : ℕ
  pub few : later ≤ 1
  pub shows : Shows repository (drop later (rrdp_editions editions)) files

recent : (repository : Repository) (editions : List Edition) (last : LastExport) (serial : ℕ) (files : Files) → length editions ≡ serial
    → puts_all last serial ≡ false → ShowsLast (ShowsFiles repository) editions last (Some files) → ShowsRecent repository editions files
recent repository editions NoExport serial files count test shows = absurd (false≢true (sym test))
recent repository editions Failed serial files count test shows = absurd (false≢true (sym test))
recent repository editions (Done exported) serial files count test shows = record {
  later = length editions - exported;
  few = few_later (length editions) exported serial count test;
  shows = subst (λ (told : List rrdp.Edition). Shows repository told files) (sym (drop_told editions exported)) shows.shown;
}
  where
    few_later : (count exported serial : ℕ) → count ≡ serial → nat_lt (exported + 1) serial ≡ false → count - exported ≤ 1
    few_later count exported serial same test = grind (arith, nat_tests)

-- ---- the anchor's files stand beside

codes_apart : (a b : List ℕ) → length a < length b → a ≡ b → ⊥
codes_apart a b less same = let long = ap length same in absurd (omega (arith, less, long))

pub certificate_beside : IsBeside certificate_path
certificate_beside = record { plain = refl; other = codes_apart _ _ (omega arith) }

pub locator_beside : IsBeside locator_path
locator_beside = record { plain = refl; other = codes_apart _ _ (omega arith) }

beside_put : (path : List ℕ) (left : Option (List ℕ)) → IsBeside path → AreBeside (file_put path left)
beside_put path None is = tt
beside_put path (Some bytes) is = (is, tt)

pub anchor_beside : (site : Bases) (at : PublishedStateValue) → AreBeside (anchor_puts site at)
anchor_beside site at =
    all_append (λ (call : Call). IsBeside call.path) (file_put certificate_path (content_at at.set (anchor_uri site)))
    (file_put locator_path (option_map (locator_for site) (row_of at.rows 0 Current)))
    (beside_put certificate_path (content_at at.set (anchor_uri site)) certificate_beside)
    (beside_put locator_path (option_map (locator_for site) (row_of at.rows 0 Current)) locator_beside)

certificate_put : (certificate locator : Option (List ℕ)) (bytes : List ℕ) (files : Files) → certificate ≡ Some bytes
    → after_all (file_put certificate_path certificate ++ file_put locator_path locator) files certificate_path ≡ Some bytes
certificate_put None locator bytes files is = absurd (false≢true (ap is_there is))
  where
    is_there : Option (List ℕ) → Bool
    is_there None = false
    is_there (Some x) = true
certificate_put (Some held) None bytes files is = is
certificate_put (Some held) (Some l) bytes files is = is

locator_put : (certificate locator : Option (List ℕ)) (bytes : List ℕ) (files : Files) → locator ≡ Some bytes
    → after_all (file_put certificate_path certificate ++ file_put locator_path locator) files locator_path ≡ Some bytes
locator_put certificate None bytes files is = absurd (false≢true (ap is_there is))
  where
    is_there : Option (List ℕ) → Bool
    is_there None = false
    is_there (Some x) = true
locator_put None (Some l) bytes files is = is
locator_put (Some held) (Some l) bytes files is = is

-- ---- after the calls

module _ (laws : Laws) (press : PressValue) (editions : List Edition) (counted : IsCounted editions press) where
  many : length editions ≡ press.at.serial
  many = sym (count_told editions) ∙ counted.count

  small : length (rrdp_editions editions) < 2 ^ 64
  small = subst (λ (n : ℕ). n < 2 ^ 64) (sym counted.count) counted.small

  pub coherent_after : (files : Files) → ShowsLast (ShowsFiles (repository_of press)) editions press.last_export (Some files)
      → IsCoherent (repository_of press) editions files → (calls : ℕ) → IsCoherent (repository_of press) editions (after_all (take calls (export_of press editions)) files)
  coherent_after files shows coherent calls =
      let repository = repository_of press in
      let told = rrdp_editions editions in
      let beside = anchor_puts press.site press.at in
      elim (puts_all press.last_export press.at.serial) as (λ b. puts_all press.last_export press.at.serial ≡ b
      → Coherent repository told (after_all (take calls (export_calls repository told b beside)) files)) [
        | true ↦ λ test. laws.all repository told beside files calls (follow_told editions) small (anchor_beside press.site press.at) coherent
        | false ↦ λ test.
            let near = recent repository editions press.last_export press.at.serial files many test shows in
            laws.newest repository told beside files near.later calls (follow_told editions) small (anchor_beside press.site press.at) near.few near.shows
      ] refl

  in_the_end : (repository : Repository) (told : List rrdp.Edition) (beside : List Call) (files : Files) → (told ≡ [] → ⊥) → length told < 2 ^ 64 → AreBeside beside
      → Shows repository told (after_all (export_calls repository told true beside) files)
  in_the_end repository [] beside files some less are = absurd (some refl)
  in_the_end repository (edition ∷ older) beside files some less are = laws.all_in_the_end repository older edition beside files less are

  pub shown_after : (lists : List (List Command)) (files : Files) → press.at.serial ≢ 0 → IsLeftBy lists editions press.at
      → ShowsLast (ShowsFiles (repository_of press)) editions press.last_export (Some files)
      → ShowsEdition press.rrdp.session press.site editions (after_all (export_of press editions) files)
  shown_after lists files some left shows =
      let repository = repository_of press in
      let told = rrdp_editions editions in
      let beside = anchor_puts press.site press.at in
      let all = puts_all press.last_export press.at.serial in
      let are = anchor_beside press.site press.at in
      let certificate = content_at press.at.set (anchor_uri press.site) in
      let locator = option_map (locator_for press.site) (row_of press.at.rows 0 Current) in
      record {
        rrdp = elim (puts_all press.last_export press.at.serial) as (λ b. puts_all press.last_export press.at.serial ≡ b
            → Shows repository told (after_all (export_calls repository told b beside) files)) [
              | true ↦ λ test. in_the_end repository told beside files (not_empty told press.at.serial counted.count some) small are
              | false ↦ λ test.
                  let near = recent repository editions press.last_export press.at.serial files many test shows in
                  laws.newest_in_the_end repository told beside files near.later (follow_told editions) small are near.few near.shows
            ] refl;
        certificate = λ bytes stands. laws.beside repository told all beside files certificate_path are certificate_beside
            ∙ certificate_put certificate locator bytes files (left.set (anchor_uri press.site) ∙ stands);
        locator = λ row stands. laws.beside repository told all beside files locator_path are locator_beside
            ∙ locator_put certificate locator (locator_for press.site row) files
            (ap (λ (rows : List KeyRow). option_map (locator_for press.site) (row_of rows 0 Current)) left.rows ∙ ap (option_map (locator_for press.site)) stands);
      }

-- ---- what an outlet tells

pub front_none : (calls : List Call) (old : Option Files) → IsFront calls old old
front_none calls None = (0, omega arith, refl)
front_none calls (Some files) = (0, omega arith, refl)

pub coherent_told : (laws : Laws) (press : PressValue) (editions : List Edition) (old new : Option Files) → IsCounted editions press
    → IsFront (export_of press editions) old new
    → ShowsLast (ShowsFiles (repository_of press)) editions press.last_export old
    → IfSome old (IsCoherent (repository_of press) editions) → IfSome new (IsCoherent (repository_of press) editions)
coherent_told laws press editions None new counted front shows coherent =
    holds_at_front (IsCoherent (repository_of press) editions) (export_of press editions) None new front tt
coherent_told laws press editions (Some files) new counted front shows coherent =
    holds_at_front (IsCoherent (repository_of press) editions) (export_of press editions) (Some files) new front
    (λ n less. coherent_after laws press editions counted files shows coherent n)

pub shown_told : (laws : Laws) (press : PressValue) (lists : List (List Command)) (editions : List Edition) (old new : Option Files) → IsCounted editions press
    → press.at.serial ≢ 0 → IsLeftBy lists editions press.at → new ≡ option_map (after_all (export_of press editions)) old
    → ShowsLast (ShowsFiles (repository_of press)) editions press.last_export old
    → IfSome new (ShowsEdition press.rrdp.session press.site editions)
shown_told laws press lists editions None new counted some left done shows =
    subst (λ (o : Option Files). IfSome o (ShowsEdition press.rrdp.session press.site editions)) (sym done) tt
shown_told laws press lists editions (Some files) new counted some left done shows =
    subst (λ (o : Option Files). IfSome o (ShowsEdition press.rrdp.session press.site editions)) (sym done)
    (shown_after laws press editions counted lists files some left shows)

-- ---- lists that end alike

pub snoc_same : {X : Type 0} (xs ys : List X) (x y : X) → xs ++ x ∷ [] ≡ ys ++ y ∷ [] → (xs ≡ ys) × (x ≡ y)
snoc_same {X} [] [] x y e = (refl, ap (λ (l : List X). get_or l 0 x) e)
snoc_same [] (b ∷ ys) x y e = absurd (let long = ap length e in let more = length-append ys (y ∷ []) in omega (arith, long, more))
snoc_same (a ∷ xs) [] x y e = absurd (let long = ap length e in let more = length-append xs (x ∷ []) in omega (arith, long, more))
snoc_same {X} (a ∷ xs) (b ∷ ys) x y e =
    let rest = snoc_same xs ys x y (ap (drop 1) e) in
    (ap₂ (λ (h : X) (t : List X). h ∷ t) (ap (λ (l : List X). get_or l 0 a) e) rest.0, rest.1)

-- Where what is told of a list ends so, the list has a last element of which that is told.
pub record EndsSo {X Y : Type 0} (f : X → Y) (xs : List X) (ys : List Y) (y : Y) : Type 0 where
  pub first : List X
  pub last : X
  pub is : xs ≡ first ++ last ∷ []
  pub told_first : map f first ≡ ys
  pub told_last : f last ≡ y

pub ends_so : {X Y : Type 0} (f : X → Y) (xs : List X) (ys : List Y) (y : Y) → map f xs ≡ ys ++ y ∷ [] → EndsSo f xs ys y
ends_so f [] [] y e = absurd (let long = ap length e in omega (arith, long))
ends_so f [] (z ∷ ys) y e = absurd (let long = ap length e in omega (arith, long))
ends_so {X} {Y} f (x ∷ []) [] y e = record { first = []; last = x; is = refl; told_first = refl; told_last = ap (λ (l : List Y). get_or l 0 y) e }
ends_so f (x ∷ x2 ∷ xs) [] y e = absurd (let long = ap length e in omega (arith, long))
ends_so {X} {Y} f (x ∷ xs) (z ∷ ys) y e =
    let rest = ends_so f xs ys y (ap (drop 1) e) in
    record {
      first = x ∷ rest.first;
      last = rest.last;
      is = ap (λ (l : List X). x ∷ l) rest.is;
      told_first = ap₂ (λ (h : Y) (t : List Y). h ∷ t) (ap (λ (l : List Y). get_or l 0 (f x)) e) rest.told_first;
      told_last = rest.told_last;
    }

-- The calls of an export whose last put has others before it.
pub calls_with : (repository : Repository) (editions : List rrdp.Edition) (all : Bool) (puts new besides : List OutFile) (removes : List (String Global))
    → (editions ≡ [] → ⊥) → map put_of puts ≡ puts_of repository editions all → map removal_of removes ≡ removals_of repository editions all
    → ((first : List OutFile) (last : OutFile) → puts ≡ first ++ last ∷ [] → new ≡ (first ++ besides) ++ last ∷ [])
    → map put_of new ++ map removal_of removes ≡ export_calls repository editions all (map put_of besides)
calls_with repository [] all puts new besides removes some put gone before = absurd (some refl)
calls_with repository (edition ∷ older) all puts new besides removes some put gone before =
    let ends = ends_so put_of puts (file_puts repository (edition ∷ older) all) _ put in
    ap₂ (λ (a b : List Call). a ++ b)
    (ap (map put_of) (before ends.first ends.last ends.is)
    ∙ (map-append put_of (ends.first ++ besides) (ends.last ∷ [])
    ∙ ap₂ (λ (a : List Call) (c : Call). a ++ c ∷ [])
    (map-append put_of ends.first besides ∙ ap (λ (a : List Call). a ++ map put_of besides) ends.told_first) ends.told_last))
    gone

-- ---- as the press's fields are

pub on_ok : {T E : Type 0} (r : Result T E) (P Q : Type 0) → (P → Q) → OnOk r P → OnOk r Q
on_ok (Ok x) P Q step p = step p
on_ok (Err e) P Q step p = tt

-- The calls that are made are those of the export.
pub calls_then : (view now : PressValue) → view ≡ now → (editions : List Edition) → HasFilesOf editions now
    → view.rrdp.serial ≡ view.at.serial → (now.at.serial ≡ 0 → ⊥) → (files : OutFiles) (all : Bool) → all ≡ puts_all view.last_export now.at.serial
    → ((repository : Repository) (es : List rrdp.Edition) → rrdp_state.StandsFor repository es view.rrdp → view.at.set ≡ objects_of es → (es ≡ [] → ⊥)
    → calls_of files ≡ export_calls repository es all (anchor_puts view.site view.at))
    → calls_of files ≡ export_of now editions
calls_then view now same editions has counted some files all test law =
    let back = sym same in
    let es = rrdp_editions editions in
    let held : HasFilesOf editions view = subst (HasFilesOf editions) back has in
    let serial : now.at.serial ≡ length es =
    ap (λ (press : PressValue). press.at.serial) back ∙ (sym counted ∙ kept_serial (repository_of view) es view.rrdp held.kept) in
    law (repository_of view) es held.kept held.set (λ empty. some (serial ∙ ap length empty))
    ∙ (ap (λ (b : Bool). export_calls (repository_of view) es b (anchor_puts view.site view.at))
    (test ∙ ap (λ (press : PressValue). puts_all view.last_export press.at.serial) back)
    ∙ ap (λ (press : PressValue). export_of press editions) same)
