-- What the commands up to a cut come to.
use Rattle.std.proofs.Common.{◌≡◌, ℕ, zero, suc, ◌+◌, ◌<◌, ◌≤◌, List, [], ◌∷◌, length, get_or, take, Some, refl, sym, ap, ap₂, subst, ◌∙◌, arith, take_at}
use Rattle.std.specs.Prelude.{slice_get}
use Rattle.std.proofs.lemmas.Option.{same_Some, slice_get_within}
use Rattle.std.proofs.lemmas.List.{length-append, length-map}
use Rattle.authority_book.specs.declared.commands.Command.{Command}
use Rattle.authority_book.specs.Settings.{Settings, ConfigValue}
use Rattle.entitle.specs.Certified.{settings_of}
use Rattle.authority_book.specs.Fold.{fold_of, empty_settings, after_all, AcceptedInTurn, Taken}
use Rattle.editions.specs.Edition.{cut_at}
use Rattle.editions.specs.Gathering.{commands_of, configs_with, AreAccepted}
use Rattle.editions.specs.Gathering as gathering
use Rattle.editions.specs.Step.{configs_from, configs_at}
use Rattle.editions.specs.PublishedState.{AreFirstConfigs, AreTakenIn, desks}
use Rattle.editions.specs.declared.gathered.Gathered.{Gathered}
use Rattle.press_core.specs.Resuming.{AreFirsts, AreConfigsOf, GoOnFrom}

-- ---- from the first configurations on

first-at : (configs : List Settings) → AreFirstConfigs configs → (desk : ℕ) (config : Settings) → slice_get configs desk ≡ Some config → (desk < desks) × (config ≡ empty_settings desk)
first-at configs first desk config at =
    let inside = slice_get_within configs desk config at in
    let long = first.one_each in
    let less : desk < desks = omega (arith, inside, long) in
    (less, same_Some config (empty_settings desk) (sym at ∙ first.empty desk less))

pub firsts-accepted : (configs : List Settings) (firsts : List Gathered) → AreFirstConfigs configs → ((desk : ℕ) → desk < desks → Taken desk (commands_of firsts desk)) → AreAccepted configs firsts
firsts-accepted configs firsts first taken desk config at =
    let is = first-at configs first desk config at in
    subst (λ (c : Settings). AcceptedInTurn c (commands_of firsts desk)) (sym is.1) (taken desk is.0)

with-length : (desk : ℕ) (configs : List Settings) (gathered : List Gathered) → length (gathering.configs_from desk configs gathered) ≡ length configs
with-length desk [] gathered = refl
with-length desk (config ∷ rest) gathered = ap suc (with-length (desk + 1) rest gathered)

with-at : (desk : ℕ) (configs : List Settings) (gathered : List Gathered) (k : ℕ) (config : Settings) → slice_get configs k ≡ Some config
    → slice_get (gathering.configs_from desk configs gathered) k ≡ Some (after_all config (commands_of gathered (desk + k)))
with-at desk [] gathered k config at = absurd cc
with-at desk (c ∷ rest) gathered zero config at =
    let same : c ≡ config = same_Some c config at in
    let place : desk ≡ desk + 0 = omega arith in
    ap₂ (λ (s : Settings) (d : ℕ). Some (after_all s (commands_of gathered d))) same place
with-at desk (c ∷ rest) gathered (suc k) config at =
    let place : desk + 1 + k ≡ desk + suc k = omega arith in
    with-at (desk + 1) rest gathered k config at ∙ ap (λ (d : ℕ). Some (after_all config (commands_of gathered d))) place

pub come-to : (configs : List Settings) (firsts : List Gathered) → AreFirstConfigs configs → AreConfigsOf firsts (configs_with configs firsts)
come-to configs firsts first = record {
  one_each = with-length 0 configs firsts ∙ first.one_each;
  folded = λ desk less. with-at 0 configs firsts desk (empty_settings desk) (first.empty desk less)
      ∙ ap (λ (d : ℕ). Some (after_all (empty_settings desk) (commands_of firsts d))) (let e : 0 + desk ≡ desk = omega arith in e);
}

-- Without commands they are the first ones.
pub none-come-to : (configs : List Settings) (firsts : List Gathered) → AreFirstConfigs configs → ((desk : ℕ) → commands_of firsts desk ≡ []) → AreConfigsOf firsts configs
none-come-to configs firsts first none = record {
  one_each = first.one_each;
  folded = λ desk less. first.empty desk less ∙ ap (λ (commands : List Command). Some (fold_of desk commands)) (sym (none desk));
}

pub no-commands : (commands : List Command) → length commands ≡ 0 → commands ≡ []
no-commands [] e = refl
no-commands (c ∷ commands) e = absurd (omega (arith, e))

-- ---- at the cut

pub taken-in : (cut : List ℕ) (firsts : List Gathered) (configs : List Settings) → AreFirsts cut firsts → length cut ≡ desks → AreConfigsOf firsts configs → AreTakenIn configs cut
taken-in cut firsts configs are long come desk config at =
    let inside = slice_get_within configs desk config at in
    let count = come.one_each in
    let less : desk < desks = omega (arith, inside, count) in
    let within : desk < length cut = omega (arith, less, long) in
    record {
      commands = commands_of firsts desk;
      taken = are.taken desk within;
      is = same_Some config (fold_of desk (commands_of firsts desk)) (sym at ∙ come.folded desk less);
      counted = are.count desk;
    }

-- Configurations desk by desk, of commands that are taken in.
each-config : (desk : ℕ) (lists : List (List Command)) (cut : List ℕ) (configs : List Settings) → length configs ≡ length lists
    → ((k : ℕ) → k < length configs → slice_get configs k ≡ Some (fold_of (desk + k) (take (cut_at cut k) (get_or lists k [])))) → configs ≡ configs_from desk lists cut
each-config desk [] cut [] long each = refl
each-config desk [] cut (config ∷ configs) long each = absurd (omega (arith, long))
each-config desk (list ∷ lists) cut [] long each = absurd (omega (arith, long))
each-config desk (list ∷ lists) [] (config ∷ configs) long each =
    ap₂ (λ (c : Settings) (rest : List Settings). c ∷ rest)
    (same_Some config _ (each 0 (omega arith)) ∙ ap (λ (d : ℕ). fold_of d []) (omega arith))
    (each-config (desk + 1) lists [] configs (omega (arith, long))
    (λ k less. each (suc k) (omega (arith, less)) ∙ ap (λ (d : ℕ). Some (fold_of d [])) (omega arith)))
each-config desk (list ∷ lists) (n ∷ cut) (config ∷ configs) long each =
    ap₂ (λ (c : Settings) (rest : List Settings). c ∷ rest)
    (same_Some config _ (each 0 (omega arith)) ∙ ap (λ (d : ℕ). fold_of d (take n list)) (omega arith))
    (each-config (desk + 1) lists cut configs (omega (arith, long))
    (λ k less. each (suc k) (omega (arith, less)) ∙ ap (λ (d : ℕ). Some (fold_of d (take (cut_at cut k) (get_or lists k [])))) (omega arith)))

pub configs-stand : (lists : List (List Command)) (cut : List ℕ) (firsts : List Gathered) (configs : List Settings)
    → ((desk : ℕ) → length (commands_of firsts desk) ≡ cut_at cut desk) → length lists ≡ desks → GoOnFrom lists firsts → AreConfigsOf firsts configs → configs ≡ configs_at lists cut
configs-stand lists cut firsts configs count long on come = each-config 0 lists cut configs (come.one_each ∙ sym long) (λ k less.
    let all = come.one_each in
    let inside : k < desks = omega (arith, less, all) in
    let begins = on k in
    let first : commands_of firsts k ≡ take (cut_at cut k) (get_or lists k []) =
    sym (ap (λ (list : List Command). take (cut_at cut k) list) begins.1 ∙ take_at (commands_of firsts k) begins.0 (cut_at cut k) (count k)) in
    let place : k ≡ 0 + k = omega arith in
    come.folded k inside ∙ ap₂ (λ (d : ℕ) (commands : List Command). Some (fold_of d commands)) place first)

pub long-enough : (lists : List (List Command)) (cut : List ℕ) (firsts : List Gathered) → ((desk : ℕ) → length (commands_of firsts desk) ≡ cut_at cut desk) → GoOnFrom lists firsts
    → (desk : ℕ) → cut_at cut desk ≤ length (get_or lists desk [])
long-enough lists cut firsts count on desk =
    let begins = on desk in
    let long : length (get_or lists desk []) ≡ length (commands_of firsts desk) + length begins.0 = ap length begins.1 ∙ length-append (commands_of firsts desk) begins.0 in
    let same = count desk in
    omega (arith, long, same)

pub long-first : (configs : List ConfigValue) (first : List Settings) → settings_of configs ≡ first → AreFirstConfigs first → length configs ≡ desks
long-first configs first same is = sym (length-map configs (λ (c : ConfigValue). c.settings)) ∙ (ap length same ∙ is.one_each)
