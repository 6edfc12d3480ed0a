-- Records of commands, and lists of them.
use Rattle.std.proofs.Common.{◌≡◌, ℕ, ◌++◌, List, [], ◌∷◌, None, Result, Ok, true, false, map, refl, sym, ap, ◌∙◌}
use Rattle.std.specs.Prelude.{is_err}
use Rattle.std.specs.List.{All, AllByRecursion}
use Rattle.std.proofs.lemmas.List.{map-append}
use Rattle.std.proofs.lemmas.List.Elements.{All-append, All-from_recursion, recursion_from_All}
use Rattle.authority_book.specs.declared.commands.Command.{Command}
use Rattle.authority_book.specs.declared.refusals.Refusal.{Refusal}
use Rattle.authority_book.specs.Settings.{Settings}
use Rattle.authority_book.specs.Verdict.{refused_or_ok, verdict_of, IsAccepted}
use Rattle.authority_book.specs.Fold.{fold_of, Taken}
use Rattle.cmd_codec.specs.Spelling.{spelling, IsRecordable}
use Rattle.desk_core.specs.Commands.{Records}
use Rattle.desk_core.specs.inner.Kept.{IsLoaded}

All-one : {X : Type 0} (P : X → Type 0) → (x : X) → P x → All P (x ∷ [])
All-one P x p = All-from_recursion P (x ∷ []) (p, tt)

-- No two commands have one spelling.
abbrev SpelledApart : Type 0
SpelledApart = (one other : Command) → IsRecordable one → IsRecordable other → spelling one ≡ spelling other → one ≡ other

determined_from : SpelledApart → (one other : List Command) → AllByRecursion IsRecordable one → AllByRecursion IsRecordable other → map spelling one ≡ map spelling other → one ≡ other
determined_from apart [] [] p q e = refl
determined_from apart [] (y ∷ other) p q e = cc
determined_from apart (x ∷ one) [] p q e = cc
determined_from apart (x ∷ one) (y ∷ other) p q e =
    let first : spelling x ≡ spelling y = cc in
    let rest : map spelling one ≡ map spelling other = cc in
    let head = apart x y p.0 q.0 first in
    let tail = determined_from apart one other p.1 q.1 rest in
    λ i. head i ∷ tail i

pub determined : SpelledApart → (number : ℕ) (records : List (List ℕ)) (one other : List Command) → Records number records one → Records number records other → one ≡ other
determined apart number records one other p q =
    determined_from apart one other (recursion_from_All IsRecordable one p.recordable) (recursion_from_All IsRecordable other q.recordable) (sym p.spelled ∙ q.spelled)

-- What a refused command's verdict rules out.
pub refused : (settings fold : Settings) (command : Command) (r : Result (Unit {0}) Refusal) → r ≡ verdict_of settings command None →
    settings ≡ fold → is_err r ≡ true → IsAccepted fold command → ⊥
refused settings fold command r is same err accepted =
    let ok : r ≡ Ok tt = is ∙ (ap (λ (s : Settings). verdict_of s command None) same ∙ ap refused_or_ok accepted) in
    let no : true ≡ false = sym err ∙ ap is_err ok in cc

pub records_push : (number : ℕ) (settings : Settings) (records : List (List ℕ)) (payload : List ℕ) (commands : List Command) (command : Command) → IsRecordable command → payload ≡ spelling command →
    ((commands : List Command) → settings ≡ fold_of number commands → Taken number commands → Taken number (commands ++ command ∷ [])) →
    Records number records commands → settings ≡ fold_of number commands → Records number (records ++ payload ∷ []) (commands ++ command ∷ [])
records_push number settings records payload commands command recordable spelled takes recorded fold = record {
  spelled = (λ i. recorded.spelled i ++ spelled i ∷ []) ∙ sym (map-append spelling commands (command ∷ []));
  recordable = All-append IsRecordable commands (command ∷ []) recorded.recordable (All-one IsRecordable command recordable);
  taken = takes commands fold recorded.taken;
}

-- One record more.
pub loaded_push : (number : ℕ) (old new : Settings) (records : List (List ℕ)) (payload : List ℕ) (command : Command) → IsRecordable command → payload ≡ spelling command →
    ((desk : ℕ) (commands : List Command) → old ≡ fold_of desk commands → new ≡ fold_of desk (commands ++ command ∷ [])) →
    ((desk : ℕ) (commands : List Command) → old ≡ fold_of desk commands → Taken desk commands → Taken desk (commands ++ command ∷ [])) →
    IsLoaded number old records → IsLoaded number new (records ++ payload ∷ [])
loaded_push number old new records payload command recordable spelled folds takes loaded = record {
  commands = loaded.commands ++ command ∷ [];
  recorded = records_push number old records payload loaded.commands command recordable spelled (takes number) loaded.recorded loaded.fold;
  fold = folds number loaded.commands loaded.fold;
}
