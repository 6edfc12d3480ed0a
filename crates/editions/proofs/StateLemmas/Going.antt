-- Commands behind a cut, taken in.
use Rattle.std.proofs.Common.{◌≡◌, ℕ, ◌<◌, ◌≤◌, ◌+◌, zero, suc, inl, inr, refl, sym, subst, ◌∙◌, ap, ap₂, arith, length, get_or, take, drop, List, [], ◌∷◌, ◌++◌, Some}
use Rattle.std.specs.Prelude.{◌⊎◌, slice_get}
use Rattle.std.proofs.lemmas.Bool.{cases_lt}
use Rattle.std.proofs.lemmas.List.{length-append, length-drop}
use Rattle.authority_book.specs.declared.commands.Command.{Command}
use Rattle.authority_book.specs.Settings.{Settings}
use Rattle.std.proofs.lemmas.Option.{get_or_from_slice_get, slice_get-get_or, slice_get_within}
use Rattle.authority_book.specs.Fold.{after, after_all, empty_settings, fold_of, AcceptedInTurn}
use Rattle.editions.specs.Step as step
use Rattle.editions.specs.Step.{IsCut, configs_at}
use Rattle.editions.specs.declared.gathered.Gathered.{Gathered}
use Rattle.editions.specs.Gathering.{commands_of, configs_from, cut_from, configs_with, cut_with, AreAccepted, IsNextCommands, AreNextCommands}
use Rattle.editions.specs.PublishedState.{AreTakenIn}
use Rattle.editions.proofs.StateLemmas.Folds.{after-append}

take-front : {X : Type 0} (front rest : List X) → take (length front) (front ++ rest) ≡ front
take-front [] rest = refl
take-front {X} (x ∷ front) rest = ap (λ (l : List X). x ∷ l) (take-front front rest)

take-further : {X : Type 0} (n : ℕ) (list front rest : List X) → n ≤ length list → drop n list ≡ front ++ rest → take (n + length front) list ≡ take n list ++ front
take-further {X} zero list front rest inside is =
    let none : 0 + length front ≡ length front = omega arith in
    ap (λ (k : ℕ). take k list) none ∙ (ap (take (length front)) is ∙ take-front front rest)
take-further (suc n) [] front rest inside is = absurd (omega arith)
take-further {X} (suc n) (x ∷ list) front rest inside is =
    let more : suc n + length front ≡ suc (n + length front) = omega arith in
    ap (λ (k : ℕ). take k (x ∷ list)) more ∙ ap (λ (l : List X). x ∷ l) (take-further n list front rest (omega arith) is)

-- One desk's commands, with those behind the cut.
fold-further : (desk n : ℕ) (list commands : List Command) → IsNextCommands list n commands → after_all (fold_of desk (take n list)) commands ≡ fold_of desk (take (n + length commands) list)
fold-further desk n list commands on =
    sym (ap (fold_of desk) (take-further n list commands on.next.0 on.held on.next.1) ∙ after-append (empty_settings desk) (take n list) commands)

further-from : (desk : ℕ) (lists : List (List Command)) (cut : List ℕ) (gathered : List Gathered) → length cut ≡ length lists →
    ((k at : ℕ) → k < length cut → at ≡ desk + k → IsNextCommands (get_or lists k []) (get_or cut k 0) (commands_of gathered at)) →
    configs_from desk (step.configs_from desk lists cut) gathered ≡ step.configs_from desk lists (cut_from desk cut gathered)
further-from desk [] [] gathered same on = refl
further-from desk [] (n ∷ cut) gathered same on = absurd (omega arith)
further-from desk (list ∷ lists) [] gathered same on = absurd (omega arith)
further-from desk (list ∷ lists) (n ∷ cut) gathered same on =
    ap₂ (λ (s : Settings) (l : List Settings). s ∷ l)
    (fold-further desk n list (commands_of gathered desk) (on 0 desk (omega arith) (omega arith)))
    (further-from (desk + 1) lists cut gathered (omega arith) (λ k at inside is. on (suc k) at (omega arith) (omega arith)))

pub configs-further : (lists : List (List Command)) (cut : List ℕ) (gathered : List Gathered) → length cut ≡ length lists → AreNextCommands lists cut gathered →
    configs_with (configs_at lists cut) gathered ≡ configs_at lists (cut_with cut gathered)
configs-further lists cut gathered same on =
    further-from 0 lists cut gathered same (λ k at inside is.
    let here : k ≡ at = omega arith in
    subst (λ (d : ℕ). IsNextCommands (get_or lists k []) (get_or cut k 0) (commands_of gathered d)) here (on k))

-- ---- the cut

cut-long : (desk : ℕ) (cut : List ℕ) (gathered : List Gathered) → length (cut_from desk cut gathered) ≡ length cut
cut-long desk [] gathered = refl
cut-long desk (n ∷ cut) gathered = ap suc (cut-long (desk + 1) cut gathered)

cut-at : (desk : ℕ) (cut : List ℕ) (gathered : List Gathered) (k at : ℕ) → k < length cut → at ≡ desk + k →
    get_or (cut_from desk cut gathered) k 0 ≡ get_or cut k 0 + length (commands_of gathered at)
cut-at desk [] gathered k at inside is = absurd (omega arith)
cut-at desk (n ∷ cut) gathered zero at inside is =
    let here : desk ≡ at = omega arith in
    ap (λ (d : ℕ). n + length (commands_of gathered d)) here
cut-at desk (n ∷ cut) gathered (suc k) at inside is = cut-at (desk + 1) cut gathered k at (omega arith) (omega arith)

past : (xs : List ℕ) (k : ℕ) → length xs ≤ k → get_or xs k 0 ≡ 0
past [] k far = refl
past (x ∷ xs) zero far = absurd (omega arith)
past (x ∷ xs) (suc k) far = past xs k (omega arith)

grown-at : (cut : List ℕ) (gathered : List Gathered) (desk : ℕ) → (desk < length cut) ⊎ (length cut ≤ desk) → get_or cut desk 0 ≤ get_or (cut_with cut gathered) desk 0
grown-at cut gathered desk (inl inside) =
    let here : desk ≡ 0 + desk = omega arith in
    omega (arith, cut-at 0 cut gathered desk desk inside here)
grown-at cut gathered desk (inr far) = omega (arith, past cut desk far)

held-at : (lists : List (List Command)) (cut : List ℕ) (gathered : List Gathered) (desk : ℕ) → AreNextCommands lists cut gathered → (desk < length cut) ⊎ (length cut ≤ desk) →
    get_or (cut_with cut gathered) desk 0 ≤ length (get_or lists desk [])
held-at lists cut gathered desk on (inl inside) =
    let here : desk ≡ 0 + desk = omega arith in
    let all = ap length (on desk).next.1 in
    omega (
      arith,
      cut-at 0 cut gathered desk desk inside here,
      (on desk).held,
      all,
      length-drop (get_or cut desk 0) (get_or lists desk []),
      length-append (commands_of gathered desk) (on desk).next.0,
    )
held-at lists cut gathered desk on (inr far) =
    omega (arith, past (cut_with cut gathered) desk (let long = cut-long 0 cut gathered in omega (arith, far, long)))

pub cut-further : (lists : List (List Command)) (cut : List ℕ) (gathered : List Gathered) → length cut ≡ length lists → AreNextCommands lists cut gathered →
    IsCut lists cut (cut_with cut gathered)
cut-further lists cut gathered same on = record {
  desks = let long = cut-long 0 cut gathered in omega (arith, long);
  grown = λ desk. grown-at cut gathered desk (cases_lt desk (length cut));
  held = λ desk. held-at lists cut gathered desk on (cases_lt desk (length cut));
}

-- ---- what comes of accepted commands

accepted-both : (settings : Settings) (first second : List Command) → AcceptedInTurn settings first → AcceptedInTurn (after_all settings first) second → AcceptedInTurn settings (first ++ second)
accepted-both settings [] second one other = other
accepted-both settings (command ∷ first) second one other = (one.0, accepted-both (after settings command) first second one.1 other)

configs-long : (desk : ℕ) (configs : List Settings) (gathered : List Gathered) → length (configs_from desk configs gathered) ≡ length configs
configs-long desk [] gathered = refl
configs-long desk (config ∷ configs) gathered = ap suc (configs-long (desk + 1) configs gathered)

configs-at : (desk : ℕ) (configs : List Settings) (gathered : List Gathered) (k at : ℕ) (x y : Settings) → k < length configs → at ≡ desk + k →
    get_or (configs_from desk configs gathered) k y ≡ after_all (get_or configs k x) (commands_of gathered at)
configs-at desk [] gathered k at x y inside is = absurd (omega arith)
configs-at desk (config ∷ configs) gathered zero at x y inside is =
    let here : desk ≡ at = omega arith in
    ap (λ (d : ℕ). after_all config (commands_of gathered d)) here
configs-at desk (config ∷ configs) gathered (suc k) at x y inside is = configs-at (desk + 1) configs gathered k at x y (omega arith) (omega arith)

pub taken-further : (configs : List Settings) (cut : List ℕ) (gathered : List Gathered) → length configs ≡ length cut → AreTakenIn configs cut → AreAccepted configs gathered →
    AreTakenIn (configs_with configs gathered) (cut_with cut gathered)
taken-further configs cut gathered same taken accepted = λ desk config there.
    let next = configs_with configs gathered in
    let long = configs-long 0 configs gathered in
    let within : desk < length next = slice_get_within next desk config there in
    let inside : desk < length configs = omega (arith, within, long) in
    let in_cut : desk < length cut = omega (arith, inside, same) in
    let here : desk ≡ 0 + desk = omega arith in
    let was = get_or configs desk config in
    let held : slice_get configs desk ≡ Some was = slice_get-get_or configs desk config inside in
    let before = taken desk was held in
    let more = commands_of gathered desk in
    let now : config ≡ after_all was more = sym (get_or_from_slice_get next desk config config there) ∙ configs-at 0 configs gathered desk desk config config inside here in
    let next_taken : AcceptedInTurn (fold_of desk before.commands) more = subst (λ (s : Settings). AcceptedInTurn s more) before.is (accepted desk was held) in
    record {
      commands = before.commands ++ more;
      taken = accepted-both (empty_settings desk) before.commands more before.taken next_taken;
      is = now ∙ (ap (λ (s : Settings). after_all s more) before.is ∙ sym (after-append (empty_settings desk) before.commands more));
      counted = omega (arith, length-append before.commands more, before.counted, cut-at 0 cut gathered desk desk in_cut here);
    }
