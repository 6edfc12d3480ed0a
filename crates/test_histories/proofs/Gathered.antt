-- The commands of the desks behind the press's cut can be taken in by an edition.
use Rattle.std.proofs.Common.{◌≡◌, ◌≢◌, ℕ, zero, suc, ◌+◌, ◌≤◌, ◌<◌, true, false, List, [], ◌∷◌, ◌++◌, length, take, drop, get_or, refl, sym, ◌∙◌, ap, subst, arith, inl, inr, append-nil}
use Rattle.std.specs.Prelude.{◌==◌, Some, slice_get}
use Rattle.std.proofs.lemmas.Bool.{cases_lt}
use Rattle.std.proofs.lemmas.Bool.Decides.{nat_tests}
use Rattle.std.proofs.lemmas.Option.{none-some, same_Some}
use Rattle.std.proofs.lemmas.List.{drop_all, length-map}
use Rattle.disk_api.specs.declared.memory.MemoryDisk.{MemoryDisk}
use Rattle.authority_book.specs.declared.commands.Command.{Command}
use Rattle.authority_book.specs.Settings.{Settings}
use Rattle.authority_book.specs.Fold.{fold_of, after, after_all, empty_settings, AcceptedInTurn}
use Rattle.cmd_codec.specs.Spelling.{spelling}
use Rattle.entitle.specs.Certified.{names_of}
use Rattle.desk_core.specs.View.{View}
use Rattle.desk_core.specs.Commands.{HasCommands}
use Rattle.editions.specs.Edition.{cut_at}
use Rattle.editions.specs.Step.{configs_from, configs_at}
use Rattle.editions.specs.declared.gathered.Gathered.{Gathered}
use Rattle.editions.specs.Gathering as gathering
use Rattle.editions.specs.Gathering.{configs_with, AreGathered, AreAccepted, AreNextCommands}
use Rattle.histories.specs.Devices.{Device, lists_of}
use Rattle.test_histories.specs.Gathered.{IsSince, AreSince}
use Rattle.test_histories.specs.Standing.{AreDesks}
use Rattle.test_histories.proofs.Places.{HasJournal, desk_at, desks_long, lists_long, list_at}

-- ---- numbers and commands by desk

is_same : (m n : ℕ) → m ≡ n → (m == n) ≡ true
is_same m n same = grind (arith, nat_tests)

is_other : (m n : ℕ) → m ≢ n → (m == n) ≡ false
is_other m n other = grind (arith, nat_tests)

pub skipped : (group : Gathered) (rest : List Gathered) (desk : ℕ) → group.desk ≢ desk → gathering.commands_of (group ∷ rest) desk ≡ gathering.commands_of rest desk
skipped group rest desk other = rw (is_other group.desk desk other) refl

pub counted : (group : Gathered) (rest : List Gathered) (desk : ℕ) → group.desk ≡ desk → gathering.commands_of (group ∷ rest) desk ≡ group.commands ++ gathering.commands_of rest desk
counted group rest desk same = rw (is_same group.desk desk same) refl

pub past_end : {X : Type 0} (xs : List X) (k : ℕ) (d : X) → length xs ≤ k → get_or xs k d ≡ d
past_end [] k d far = refl
past_end (x ∷ xs) zero d far = absurd (omega (arith, far))
past_end (x ∷ xs) (suc k) d far = past_end xs k d (omega (arith, far))

within : {X : Type 0} (xs : List X) (k : ℕ) (x : X) → slice_get xs k ≡ Some x → k < length xs
within [] k x there = absurd (none-some x there)
within (c ∷ xs) zero x there = omega arith
within (c ∷ xs) (suc k) x there = let rest = within xs k x there in omega (arith, rest)

pub there_is : {X : Type 0} (xs : List X) (k : ℕ) → k < length xs → (x : X) × (slice_get xs k ≡ Some x)
there_is [] k inside = absurd (omega (arith, inside))
there_is (x ∷ xs) zero inside = (x, refl)
there_is (x ∷ xs) (suc k) inside = there_is xs k (omega (arith, inside))

-- ---- one desk more

pub since_more : (number : ℕ) (desks : List (View MemoryDisk)) (cut : List ℕ) (groups : List Gathered) (desk : View MemoryDisk) (from : ℕ) (group : Gathered) → AreSince number desks cut groups
    → IsSince (number + length groups) desk from group → AreSince number (desks ++ desk ∷ []) (cut ++ from ∷ []) (groups ++ group ∷ [])
since_more number [] [] [] desk from group all is = (subst (λ (n : ℕ). IsSince n desk from group) (omega arith) is, tt)
since_more number [] [] (g ∷ groups) desk from group all is = absurd all
since_more number [] (n ∷ cut) groups desk from group all is = absurd all
since_more number (d ∷ desks) [] groups desk from group all is = absurd all
since_more number (d ∷ desks) (n ∷ cut) [] desk from group all is = absurd all
since_more number (d ∷ desks) (n ∷ cut) (g ∷ groups) desk from group all is =
    (all.0, since_more (suc number) desks cut groups desk from group all.1 (subst (λ (k : ℕ). IsSince k desk from group) (omega arith) is))

pub since_long : (number : ℕ) (desks : List (View MemoryDisk)) (cut : List ℕ) (groups : List Gathered) → AreSince number desks cut groups → length groups ≡ length cut
since_long number [] [] [] all = refl
since_long number [] [] (g ∷ groups) all = absurd all
since_long number [] (n ∷ cut) groups all = absurd all
since_long number (d ∷ desks) [] groups all = absurd all
since_long number (d ∷ desks) (n ∷ cut) [] all = absurd all
since_long number (d ∷ desks) (n ∷ cut) (g ∷ groups) all = ap suc (since_long (suc number) desks cut groups all.1)

-- ---- they go on where the cut ends

group_desk : (number : ℕ) (desks : List (View MemoryDisk)) (cut : List ℕ) (groups : List Gathered) (k : ℕ) (g : Gathered) → AreSince number desks cut groups → k < length groups → (get_or groups k g).desk ≡ number + k
group_desk number [] [] [] k g all inside = absurd (omega (arith, inside))
group_desk number [] [] (x ∷ groups) k g all inside = absurd all
group_desk number [] (n ∷ cut) groups k g all inside = absurd all
group_desk number (d ∷ desks) [] groups k g all inside = absurd all
group_desk number (d ∷ desks) (n ∷ cut) [] k g all inside = absurd all
group_desk number (d ∷ desks) (n ∷ cut) (x ∷ groups) zero g all inside = omega (arith, all.0.desk_is)
group_desk number (d ∷ desks) (n ∷ cut) (x ∷ groups) (suc k) g all inside =
    let rest = group_desk (suc number) desks cut groups k g all.1 (omega (arith, inside)) in omega (arith, rest)

group_from : (number : ℕ) (desks : List (View MemoryDisk)) (cut : List ℕ) (groups : List Gathered) (k : ℕ) (g : Gathered) → AreSince number desks cut groups → k < length groups → (get_or groups k g).from ≡ get_or cut k 0
group_from number [] [] [] k g all inside = absurd (omega (arith, inside))
group_from number [] [] (x ∷ groups) k g all inside = absurd all
group_from number [] (n ∷ cut) groups k g all inside = absurd all
group_from number (d ∷ desks) [] groups k g all inside = absurd all
group_from number (d ∷ desks) (n ∷ cut) [] k g all inside = absurd all
group_from number (d ∷ desks) (n ∷ cut) (x ∷ groups) zero g all inside = all.0.from_is
group_from number (d ∷ desks) (n ∷ cut) (x ∷ groups) (suc k) g all inside = group_from (suc number) desks cut groups k g all.1 (omega (arith, inside))

pub are_gathered : (desks : List (View MemoryDisk)) (cut : List ℕ) (groups : List Gathered) → AreSince 0 desks cut groups → AreGathered cut groups
are_gathered desks cut groups all =
    let long = since_long 0 desks cut groups all in
    record {
      desks = λ k g inside. let at = group_desk 0 desks cut groups k g all inside in omega (arith, at, inside, long);
      once = λ i j g before inside same.
          let one = group_desk 0 desks cut groups i g all (omega (arith, before, inside)) in
          let other = group_desk 0 desks cut groups j g all inside in
          omega (arith, one, other, same, before);
      from = λ k g inside.
          let here = group_desk 0 desks cut groups k g all inside in
          let at : (get_or groups k g).desk ≡ k = omega (arith, here) in
          group_from 0 desks cut groups k g all inside ∙ ap (λ (d : ℕ). get_or cut d 0) (sym at);
    }

-- ---- which they are

none_before : (number : ℕ) (desks : List (View MemoryDisk)) (cut : List ℕ) (groups : List Gathered) (at : ℕ) → AreSince number desks cut groups → at < number → gathering.commands_of groups at ≡ []
none_before number [] [] [] at all less = refl
none_before number [] [] (g ∷ groups) at all less = absurd all
none_before number [] (n ∷ cut) groups at all less = absurd all
none_before number (d ∷ desks) [] groups at all less = absurd all
none_before number (d ∷ desks) (n ∷ cut) [] at all less = absurd all
none_before number (d ∷ desks) (n ∷ cut) (g ∷ groups) at all less =
    let other : g.desk ≢ at = λ same. omega (arith, same, all.0.desk_is, less) in
    skipped g groups at other ∙ none_before (suc number) desks cut groups at all.1 (omega (arith, less))

none_behind : (number : ℕ) (desks : List (View MemoryDisk)) (cut : List ℕ) (groups : List Gathered) (at : ℕ) → AreSince number desks cut groups → number + length groups ≤ at → gathering.commands_of groups at ≡ []
none_behind number [] [] [] at all far = refl
none_behind number [] [] (g ∷ groups) at all far = absurd all
none_behind number [] (n ∷ cut) groups at all far = absurd all
none_behind number (d ∷ desks) [] groups at all far = absurd all
none_behind number (d ∷ desks) (n ∷ cut) [] at all far = absurd all
none_behind number (d ∷ desks) (n ∷ cut) (g ∷ groups) at all far =
    let other : g.desk ≢ at = λ same. omega (arith, same, all.0.desk_is, far) in
    skipped g groups at other ∙ none_behind (suc number) desks cut groups at all.1 (omega (arith, far))

those_at : (number : ℕ) (desks : List (View MemoryDisk)) (cut : List ℕ) (groups : List Gathered) (k at : ℕ) (desk : View MemoryDisk) (commands : List Command) → AreSince number desks cut groups
    → at ≡ number + k → slice_get desks k ≡ Some desk → HasCommands desk commands → gathering.commands_of groups at ≡ drop (get_or cut k 0) commands
those_at number [] [] groups k at desk commands all is there has = absurd (none-some desk there)
those_at number [] (n ∷ cut) groups k at desk commands all is there has = absurd all
those_at number (d ∷ desks) [] groups k at desk commands all is there has = absurd all
those_at number (d ∷ desks) (n ∷ cut) [] k at desk commands all is there has = absurd all
those_at number (d ∷ desks) (n ∷ cut) (g ∷ groups) zero at desk commands all is there has =
    let same : g.desk ≡ at = omega (arith, all.0.desk_is, is) in
    counted g groups at same
    ∙ ap (λ (l : List Command). g.commands ++ l) (none_before (suc number) desks cut groups at all.1 (omega (arith, is)))
    ∙ append-nil g.commands
    ∙ all.0.commands commands (subst (λ (v : View MemoryDisk). HasCommands v commands) (sym (same_Some d desk there)) has)
those_at number (d ∷ desks) (n ∷ cut) (g ∷ groups) (suc k) at desk commands all is there has =
    let other : g.desk ≢ at = λ same. omega (arith, same, all.0.desk_is, is) in
    skipped g groups at other ∙ those_at (suc number) desks cut groups k at desk commands all.1 (omega (arith, is)) there has

-- ---- what they come to

config_at : (desk : ℕ) (lists : List (List Command)) (cut : List ℕ) (k at : ℕ) (config : Settings) → at ≡ desk + k → slice_get (configs_from desk lists cut) k ≡ Some config
    → config ≡ fold_of at (take (get_or cut k 0) (get_or lists k []))
config_at desk [] cut k at config is there = absurd (none-some config there)
config_at desk (list ∷ lists) [] zero at config is there =
    let here : desk ≡ at = omega (arith, is) in
    sym (same_Some (fold_of desk []) config there) ∙ ap (λ (d : ℕ). fold_of d []) here
config_at desk (list ∷ lists) (n ∷ cut) zero at config is there =
    let here : desk ≡ at = omega (arith, is) in
    sym (same_Some (fold_of desk (take n list)) config there) ∙ ap (λ (d : ℕ). fold_of d (take n list)) here
config_at desk (list ∷ lists) [] (suc k) at config is there = config_at (desk + 1) lists [] k at config (omega (arith, is)) there
config_at desk (list ∷ lists) (n ∷ cut) (suc k) at config is there = config_at (desk + 1) lists cut k at config (omega (arith, is)) there

configs_long : (desk : ℕ) (lists : List (List Command)) (cut : List ℕ) → length (configs_from desk lists cut) ≡ length lists
configs_long desk [] cut = refl
configs_long desk (list ∷ lists) [] = ap suc (configs_long (desk + 1) lists [])
configs_long desk (list ∷ lists) (n ∷ cut) = ap suc (configs_long (desk + 1) lists cut)

accepted_behind : (settings : Settings) (n : ℕ) (list : List Command) → AcceptedInTurn settings list → AcceptedInTurn (after_all settings (take n list)) (drop n list)
accepted_behind settings zero list all = all
accepted_behind settings (suc n) [] all = all
accepted_behind settings (suc n) (command ∷ list) all = accepted_behind (after settings command) n list all.1

folded : (settings : Settings) (n : ℕ) (list : List Command) → after_all (after_all settings (take n list)) (drop n list) ≡ after_all settings list
folded settings zero list = refl
folded settings (suc n) [] = refl
folded settings (suc n) (command ∷ list) = folded (after settings command) n list

-- the names that the first desk has then
first_names : (lists : List (List Command)) (cut : List ℕ) (groups : List Gathered) → 0 < length lists
    → names_of (configs_with (configs_at lists cut) groups)
    ≡ (after_all (fold_of 0 (take (get_or cut 0 0) (get_or lists 0 []))) (gathering.commands_of groups 0)).names
first_names [] cut groups some = absurd (omega (arith, some))
first_names (list ∷ lists) [] groups some = refl
first_names (list ∷ lists) (n ∷ cut) groups some = refl

-- ---- over the desks of a store

module _ (desks : List (View MemoryDisk)) (devices : List (Device Command)) (cut : List ℕ) (groups : List Gathered)
    (stand : AreDesks 0 desks devices) (since : AreSince 0 desks cut groups) (one_each : length devices ≡ length cut) where
  abbrev lists : List (List Command)
  lists = lists_of devices

  at_desk : (desk : ℕ) → desk < length desks → (view : View MemoryDisk) × (slice_get desks desk ≡ Some view) × HasJournal view devices desk desk
  at_desk desk inside =
      let there = there_is desks desk inside in
      (there.0, there.1, desk_at 0 desks devices desk desk there.0 stand there.1 (omega arith))

  gathered_of : (desk : ℕ) → gathering.commands_of groups desk ≡ drop (cut_at cut desk) (get_or lists desk [])
  gathered_of desk = elim (cases_lt desk (length desks)) [
    | inl inside ↦ (
        let found = at_desk desk inside in
        let journal = found.2 in
        those_at 0 desks cut groups desk desk found.0 journal.device.list since (omega arith) found.1 journal.stands.commands
        ∙ ap (λ (l : List Command). drop (cut_at cut desk) l) (sym (list_at devices desk journal.device journal.there)))
    | inr far ↦ (
        let long = since_long 0 desks cut groups since in
        let none : get_or lists desk [] ≡ [] = past_end lists desk [] (omega (arith, far, desks_long 0 desks devices stand, lists_long devices)) in
        none_behind 0 desks cut groups desk since (omega (arith, far, long, one_each, desks_long 0 desks devices stand))
        ∙ sym (drop_all (cut_at cut desk) (get_or lists desk []) (omega (arith, ap length none))))
  ]

  pub they_go_on : ((desk : ℕ) → cut_at cut desk ≤ length (get_or lists desk [])) → AreNextCommands lists cut groups
  they_go_on held desk = record {
    held = held desk;
    next = ([], sym (gathered_of desk) ∙ sym (append-nil (gathering.commands_of groups desk)));
  }

  -- each is accepted after those before it
  pub they_are_accepted : (configs : List Settings) → configs ≡ configs_at lists cut → AreAccepted configs groups
  they_are_accepted configs same desk config there =
      let list = get_or lists desk [] in
      let n = cut_at cut desk in
      let at : slice_get (configs_at lists cut) desk ≡ Some config = subst (λ (c : List Settings). slice_get c desk ≡ Some config) same there in
      let is : config ≡ fold_of desk (take n list) = config_at 0 lists cut desk desk config (omega arith) at in
      let inside : desk < length desks = let less = within (configs_at lists cut) desk config at in
      omega (arith, less, configs_long 0 lists cut, lists_long devices, desks_long 0 desks devices stand) in
      let journal = (at_desk desk inside).2 in
      let taken : AcceptedInTurn (empty_settings desk) journal.device.list =
      subst (λ (d : ℕ). AcceptedInTurn (empty_settings d) journal.device.list) journal.stands.number_is journal.stands.commands.recorded.taken in
      let in_turn : AcceptedInTurn (empty_settings desk) list =
      subst (AcceptedInTurn (empty_settings desk)) (sym (list_at devices desk journal.device journal.there)) taken in
      subst (λ (s : Settings). AcceptedInTurn s (gathering.commands_of groups desk)) (sym is)
      (subst (AcceptedInTurn (fold_of desk (take n list))) (sym (gathered_of desk)) (accepted_behind (empty_settings desk) n list in_turn))

  -- the names are those of the trust anchor's desk
  pub their_names : (configs : List Settings) → configs ≡ configs_at lists cut → (anchor : View MemoryDisk) → slice_get desks 0 ≡ Some anchor
      → names_of (configs_with configs groups) ≡ anchor.settings.names
  their_names configs same anchor there =
      let journal = desk_at 0 desks devices 0 0 anchor stand there refl in
      let list = get_or lists 0 [] in
      let some : 0 < length lists = let less = within desks 0 anchor there in omega (arith, less, lists_long devices, desks_long 0 desks devices stand) in
      let whole : after_all (fold_of 0 (take (cut_at cut 0) list)) (gathering.commands_of groups 0) ≡ fold_of 0 list =
      ap (λ (l : List Command). after_all (fold_of 0 (take (cut_at cut 0) list)) l) (gathered_of 0) ∙ folded (empty_settings 0) (cut_at cut 0) list in
      let settings : anchor.settings ≡ fold_of 0 list =
      journal.stands.commands.fold ∙ (ap (λ (n : ℕ). fold_of n journal.device.list) journal.stands.number_is
      ∙ ap (λ (l : List Command). fold_of 0 l) (sym (list_at devices 0 journal.device journal.there))) in
      ap (λ (c : List Settings). names_of (configs_with c groups)) same
      ∙ (first_names lists cut groups some ∙ ap (λ (s : Settings). s.names) (whole ∙ sym settings))

-- ---- before they are gathered

pub within_cut : (desks : List (View MemoryDisk)) (devices : List (Device Command)) (cut : List ℕ) → AreDesks 0 desks devices
    → ((desk : ℕ) → cut_at cut desk ≤ length (get_or (lists_of devices) desk [])) → (number : ℕ) (desk : View MemoryDisk) → slice_get desks number ≡ Some desk
    → get_or cut number 0 ≤ length desk.records
within_cut desks devices cut stand held number desk there =
    let journal = desk_at 0 desks devices number number desk stand there (omega arith) in
    let list = journal.device.list in
    let same = ap length (list_at devices number journal.device journal.there) in
    let spelled = ap length journal.stands.commands.recorded.spelled ∙ length-map list spelling in
    let least = held number in
    omega (arith, least, same, spelled)
