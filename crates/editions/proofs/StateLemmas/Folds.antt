-- Commands applied one group after another.
use Rattle.std.proofs.Common.{◌≡◌, ◌≢◌, ℕ, ◌<◌, ◌+◌, zero, suc, true, false, refl, sym, subst, ◌∙◌, ap, arith, length, get_or, set, List, [], ◌∷◌, ◌++◌, Some, inl, inr}
use Rattle.std.specs.Prelude.{slice_get, ◌==◌}
use Rattle.std.proofs.lemmas.Bool.{cases_eq}
use Rattle.std.proofs.lemmas.Bool.Decides.{nat_tests}
use Rattle.std.proofs.lemmas.List.{get_or-set_same, get_or-set_other, length-append, length-set}
use Rattle.std.proofs.lemmas.Option.{get_or_from_slice_get, slice_get-get_or, slice_get_within}
use Rattle.authority_book.specs.declared.commands.Command.{Command}
use Rattle.authority_book.specs.Settings.{Settings}
use Rattle.authority_book.specs.Fold.{after, after_all, AcceptedInTurn}
use Rattle.editions.specs.declared.gathered.Gathered.{Gathered}
use Rattle.editions.specs.Gathering.{commands_of, configs_from, cut_from, AreAccepted}

pub after-append : (settings : Settings) (first second : List Command) → after_all settings (first ++ second) ≡ after_all (after_all settings first) second
after-append settings [] second = refl
after-append settings (command ∷ first) second = after-append (after settings command) first second

accepted-first : (settings : Settings) (first second : List Command) → AcceptedInTurn settings (first ++ second) → AcceptedInTurn settings first
accepted-first settings [] second all = tt
accepted-first settings (command ∷ first) second all = (all.0, accepted-first (after settings command) first second all.1)

accepted-second : (settings : Settings) (first second : List Command) → AcceptedInTurn settings (first ++ second) → AcceptedInTurn (after_all settings first) second
accepted-second settings [] second all = all
accepted-second settings (command ∷ first) second all = accepted-second (after settings command) first second all.1

-- ---- the commands of a desk

is-same : (a b : ℕ) → a ≡ b → (a == b) ≡ true
is-same a b same = grind (arith, nat_tests)

is-other : (a b : ℕ) → a ≢ b → (a == b) ≡ false
is-other a b other = grind (arith, nat_tests)

commands-here : (group : Gathered) (rest : List Gathered) (desk : ℕ) → group.desk ≡ desk → commands_of (group ∷ rest) desk ≡ group.commands ++ commands_of rest desk
commands-here group rest desk same = rw (is-same group.desk desk same) refl

commands-elsewhere : (group : Gathered) (rest : List Gathered) (desk : ℕ) → group.desk ≢ desk → commands_of (group ∷ rest) desk ≡ commands_of rest desk
commands-elsewhere group rest desk other = rw (is-other group.desk desk other) refl

-- ---- configurations

configs-past : (desk : ℕ) (configs : List Settings) (group : Gathered) (rest : List Gathered) → group.desk < desk → configs_from desk configs (group ∷ rest) ≡ configs_from desk configs rest
configs-past desk [] group rest past = refl
configs-past desk (config ∷ configs) group rest past =
    ap (λ (l : List Command). after_all config l ∷ configs_from (desk + 1) configs (group ∷ rest)) (commands-elsewhere group rest desk (omega arith))
    ∙ ap (λ (l : List Settings). after_all config (commands_of rest desk) ∷ l) (configs-past (desk + 1) configs group rest (omega arith))

-- With the commands of one group applied, the other groups are left.
pub configs-taken : (desk : ℕ) (configs : List Settings) (group : Gathered) (rest : List Gathered) (k : ℕ) (x : Settings) → group.desk ≡ desk + k → k < length configs →
    configs_from desk (set configs k (after_all (get_or configs k x) group.commands)) rest ≡ configs_from desk configs (group ∷ rest)
configs-taken desk [] group rest k x at inside = absurd (omega arith)
configs-taken desk (config ∷ configs) group rest zero x at inside =
    sym (ap (λ (l : List Command). after_all config l ∷ configs_from (desk + 1) configs (group ∷ rest)) (commands-here group rest desk (omega arith))
    ∙ (ap (λ (s : Settings). s ∷ configs_from (desk + 1) configs (group ∷ rest)) (after-append config group.commands (commands_of rest desk))
    ∙ ap (λ (l : List Settings). after_all (after_all config group.commands) (commands_of rest desk) ∷ l) (configs-past (desk + 1) configs group rest (omega arith))))
configs-taken desk (config ∷ configs) group rest (suc k) x at inside =
    let other : commands_of (group ∷ rest) desk ≡ commands_of rest desk = commands-elsewhere group rest desk (omega arith) in
    ap (λ (l : List Command). after_all config l ∷ configs_from (desk + 1) (set configs k (after_all (get_or configs k x) group.commands)) rest) (sym other)
    ∙ ap (λ (l : List Settings). after_all config (commands_of (group ∷ rest) desk) ∷ l) (configs-taken (desk + 1) configs group rest k x (omega arith) (omega arith))

pub accepted-now : (configs : List Settings) (group : Gathered) (rest : List Gathered) (k : ℕ) (x : Settings) → group.desk ≡ k → k < length configs →
    AreAccepted configs (group ∷ rest) → AcceptedInTurn (get_or configs k x) group.commands
accepted-now configs group rest k x at inside all =
    accepted-first (get_or configs k x) group.commands (commands_of rest k)
    (subst (AcceptedInTurn (get_or configs k x)) (commands-here group rest k at) (all k (get_or configs k x) (slice_get-get_or configs k x inside)))

pub accepted-later : (configs : List Settings) (group : Gathered) (rest : List Gathered) (k : ℕ) (x : Settings) → group.desk ≡ k → k < length configs →
    AreAccepted configs (group ∷ rest) → AreAccepted (set configs k (after_all (get_or configs k x) group.commands)) rest
accepted-later configs group rest k x at inside all = λ desk config is.
    let new = after_all (get_or configs k x) group.commands in
    let long : length (set configs k new) ≡ length configs = length-set configs k new in
    let there : desk < length (set configs k new) = slice_get_within (set configs k new) desk config is in
    let value : get_or (set configs k new) desk config ≡ config = get_or_from_slice_get (set configs k new) desk config config is in
    elim (cases_eq desk k) [
      | inl here ↦
          let now : config ≡ new = sym value ∙ (ap (λ (n : ℕ). get_or (set configs k new) n config) here ∙ get_or-set_same configs k new config inside) in
          let whole = subst (AcceptedInTurn (get_or configs k x)) (commands-here group rest k at) (all k (get_or configs k x) (slice_get-get_or configs k x inside)) in
          subst (λ (s : Settings). AcceptedInTurn s (commands_of rest desk)) (sym now)
          (subst (λ (n : ℕ). AcceptedInTurn new (commands_of rest n)) (sym here) (accepted-second (get_or configs k x) group.commands (commands_of rest k) whole))
      | inr other ↦
          let before : get_or configs desk config ≡ config = sym (get_or-set_other configs k desk new config other) ∙ value in
          let was : slice_get configs desk ≡ Some config = slice_get-get_or configs desk config (omega arith) ∙ ap (λ (s : Settings). Some s) before in
          subst (AcceptedInTurn config) (commands-elsewhere group rest desk (λ same. other (sym same ∙ at))) (all desk config was)
    ]

-- ---- cuts

cut-past : (desk : ℕ) (cut : List ℕ) (group : Gathered) (rest : List Gathered) → group.desk < desk → cut_from desk cut (group ∷ rest) ≡ cut_from desk cut rest
cut-past desk [] group rest past = refl
cut-past desk (n ∷ cut) group rest past =
    ap (λ (l : List Command). (n + length l) ∷ cut_from (desk + 1) cut (group ∷ rest)) (commands-elsewhere group rest desk (omega arith))
    ∙ ap (λ (l : List ℕ). (n + length (commands_of rest desk)) ∷ l) (cut-past (desk + 1) cut group rest (omega arith))

pub cut-taken : (desk : ℕ) (cut : List ℕ) (group : Gathered) (rest : List Gathered) (k : ℕ) → group.desk ≡ desk + k → k < length cut →
    cut_from desk (set cut k (get_or cut k 0 + length group.commands)) rest ≡ cut_from desk cut (group ∷ rest)
cut-taken desk [] group rest k at inside = absurd (omega arith)
cut-taken desk (n ∷ cut) group rest zero at inside =
    let more : n + length group.commands + length (commands_of rest desk) ≡ n + length (group.commands ++ commands_of rest desk) =
    omega (arith, length-append group.commands (commands_of rest desk)) in
    sym (ap (λ (l : List Command). (n + length l) ∷ cut_from (desk + 1) cut (group ∷ rest)) (commands-here group rest desk (omega arith))
    ∙ (ap (λ (m : ℕ). m ∷ cut_from (desk + 1) cut (group ∷ rest)) (sym more)
    ∙ ap (λ (l : List ℕ). (n + length group.commands + length (commands_of rest desk)) ∷ l) (cut-past (desk + 1) cut group rest (omega arith))))
cut-taken desk (n ∷ cut) group rest (suc k) at inside =
    let other : commands_of (group ∷ rest) desk ≡ commands_of rest desk = commands-elsewhere group rest desk (omega arith) in
    ap (λ (l : List Command). (n + length l) ∷ cut_from (desk + 1) (set cut k (get_or cut k 0 + length group.commands)) rest) (sym other)
    ∙ ap (λ (l : List ℕ). (n + length (commands_of (group ∷ rest) desk)) ∷ l) (cut-taken (desk + 1) cut group rest k (omega arith) (omega arith))

-- With no group left, all is taken in.
pub configs-none : (desk : ℕ) (configs : List Settings) → configs_from desk configs [] ≡ configs
configs-none desk [] = refl
configs-none desk (config ∷ configs) = ap (λ (l : List Settings). config ∷ l) (configs-none (desk + 1) configs)

pub cut-none : (desk : ℕ) (cut : List ℕ) → cut_from desk cut [] ≡ cut
cut-none desk [] = refl
cut-none desk (n ∷ cut) =
    let same : n + 0 ≡ n = omega arith in
    ap (λ (m : ℕ). m ∷ cut_from (desk + 1) cut []) same ∙ ap (λ (l : List ℕ). n ∷ l) (cut-none (desk + 1) cut)
