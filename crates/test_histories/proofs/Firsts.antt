-- The commands of the desks up to a cut.
use Rattle.std.proofs.Common.{◌≡◌, ◌≢◌, ℕ, zero, suc, ◌+◌, ◌≤◌, ◌<◌, List, [], ◌∷◌, ◌++◌, length, take, drop, get_or, refl, sym, ◌∙◌, ap, subst, arith, inl, inr, append-nil}
use Rattle.std.specs.Prelude.{Some, slice_get}
use Rattle.std.proofs.lemmas.Bool.{cases_lt}
use Rattle.std.proofs.lemmas.Option.{none-some, same_Some}
use Rattle.std.proofs.lemmas.List.{length-map, length-take-le, take_more}
use Rattle.disk_api.specs.declared.memory.MemoryDisk.{MemoryDisk}
use Rattle.authority_book.specs.declared.commands.Command.{Command}
use Rattle.authority_book.specs.Settings.{Settings}
use Rattle.authority_book.specs.Fold.{after, empty_settings, AcceptedInTurn, Taken}
use Rattle.cmd_codec.specs.Spelling.{spelling}
use Rattle.desk_core.specs.View.{View}
use Rattle.desk_core.specs.Commands.{HasCommands}
use Rattle.editions.specs.Edition.{cut_at}
use Rattle.editions.specs.declared.gathered.Gathered.{Gathered}
use Rattle.editions.specs.Gathering.{commands_of}
use Rattle.press_core.specs.Loading.{LoadedValue, IsInOrder}
use Rattle.press_core.specs.Resuming.{AreFirsts, GoOnFrom}
use Rattle.histories.specs.Devices.{Device, lists_of}
use Rattle.test_histories.specs.Gathered.{IsFirstOf, AreFirstsOf}
use Rattle.test_histories.specs.Standing.{AreDesks}
use Rattle.test_histories.proofs.Gathered.{skipped, counted, past_end, there_is}
use Rattle.test_histories.proofs.Places.{HasJournal, desk_at, list_at}

-- ---- lists in two parts

split_at : (n : ℕ) (list : List Command) → list ≡ take n list ++ drop n list
split_at zero list = refl
split_at (suc n) [] = refl
split_at (suc n) (command ∷ list) = ap (λ (l : List Command). command ∷ l) (split_at n list)

taken_long : (n : ℕ) (list : List Command) → n ≤ length list → length (take n list) ≡ n
taken_long zero list within = refl
taken_long (suc n) [] within = absurd (omega (arith, within))
taken_long (suc n) (command ∷ list) within = ap suc (taken_long n list (omega (arith, within)))

accepted_front : (settings : Settings) (n : ℕ) (list : List Command) → AcceptedInTurn settings list → AcceptedInTurn settings (take n list)
accepted_front settings zero list all = tt
accepted_front settings (suc n) [] all = all
accepted_front settings (suc n) (command ∷ list) all = (all.0, accepted_front (after settings command) n list all.1)

-- a number for each desk at most
pub cut_short : (loaded : LoadedValue MemoryDisk) → IsInOrder loaded → length loaded.cut ≤ 64
cut_short loaded order = by loaded.serial refl
  where
    by : (n : ℕ) → loaded.serial ≡ n → length loaded.cut ≤ 64
    by zero is = let none = ap length (order.before is).2 in omega (arith, none)
    by (suc n) is = let full = order.desks (λ none. absurd (omega (arith, is, none))) in omega (arith, full)

-- ---- one desk more

firsts_more : (number : ℕ) (desks : List (View MemoryDisk)) (cut : List ℕ) (groups : List Gathered) (desk : View MemoryDisk) (count : ℕ) (group : Gathered) → AreFirstsOf number desks cut groups
    → slice_get desks (length cut) ≡ Some desk → IsFirstOf (number + length cut) desk count group → AreFirstsOf number desks (cut ++ count ∷ []) (groups ++ group ∷ [])
firsts_more number [] [] [] desk count group all there is = absurd (none-some desk there)
firsts_more number (d ∷ desks) [] [] desk count group all there is =
    (subst (λ (v : View MemoryDisk). IsFirstOf number v count group) (sym (same_Some d desk there)) (subst (λ (n : ℕ). IsFirstOf n desk count group) (omega arith) is), tt)
firsts_more number desks [] (g ∷ groups) desk count group all there is = absurd all
firsts_more number [] (n ∷ cut) groups desk count group all there is = absurd all
firsts_more number (d ∷ desks) (n ∷ cut) [] desk count group all there is = absurd all
firsts_more number (d ∷ desks) (n ∷ cut) (g ∷ groups) desk count group all there is =
    (all.0, firsts_more (suc number) desks cut groups desk count group all.1 there (subst (λ (k : ℕ). IsFirstOf k desk count group) (omega arith) is))

pub firsts_next : (desks : List (View MemoryDisk)) (cut : List ℕ) (groups : List Gathered) (k : ℕ) (desk : View MemoryDisk) (group : Gathered) → k < length cut → slice_get desks k ≡ Some desk
    → AreFirstsOf 0 desks (take k cut) groups → IsFirstOf k desk (get_or cut k 0) group → AreFirstsOf 0 desks (take (k + 1) cut) (groups ++ group ∷ [])
firsts_next desks cut groups k desk group inside there before is =
    let counted_to : length (take k cut) ≡ k = length-take-le k cut (omega (arith, inside)) in
    subst (λ (l : List ℕ). AreFirstsOf 0 desks l (groups ++ group ∷ [])) (sym (take_more cut k 0 inside))
    (firsts_more 0 desks (take k cut) groups desk (get_or cut k 0) group before (ap (λ (n : ℕ). slice_get desks n) counted_to ∙ there)
    (subst (λ (n : ℕ). IsFirstOf n desk (get_or cut k 0) group) (omega (arith, counted_to)) is))

firsts_long : (number : ℕ) (desks : List (View MemoryDisk)) (cut : List ℕ) (groups : List Gathered) → AreFirstsOf number desks cut groups → length groups ≡ length cut
firsts_long number desks [] [] all = refl
firsts_long number desks [] (g ∷ groups) all = absurd all
firsts_long number [] (n ∷ cut) groups all = absurd all
firsts_long number (d ∷ desks) (n ∷ cut) [] all = absurd all
firsts_long number (d ∷ desks) (n ∷ cut) (g ∷ groups) all = ap suc (firsts_long (suc number) desks cut groups all.1)

fewer_than_desks : (number : ℕ) (desks : List (View MemoryDisk)) (cut : List ℕ) (groups : List Gathered) → AreFirstsOf number desks cut groups → length cut ≤ length desks
fewer_than_desks number desks [] [] all = omega arith
fewer_than_desks number desks [] (g ∷ groups) all = absurd all
fewer_than_desks number [] (n ∷ cut) groups all = absurd all
fewer_than_desks number (d ∷ desks) (n ∷ cut) [] all = absurd all
fewer_than_desks number (d ∷ desks) (n ∷ cut) (g ∷ groups) all = let rest = fewer_than_desks (suc number) desks cut groups all.1 in omega (arith, rest)

first_desk : (number : ℕ) (desks : List (View MemoryDisk)) (cut : List ℕ) (groups : List Gathered) (k : ℕ) (g : Gathered) → AreFirstsOf number desks cut groups → k < length groups
    → ((get_or groups k g).desk ≡ number + k) × ((get_or groups k g).from ≡ 0)
first_desk number desks [] [] k g all inside = absurd (omega (arith, inside))
first_desk number desks [] (x ∷ groups) k g all inside = absurd all
first_desk number [] (n ∷ cut) groups k g all inside = absurd all
first_desk number (d ∷ desks) (n ∷ cut) [] k g all inside = absurd all
first_desk number (d ∷ desks) (n ∷ cut) (x ∷ groups) zero g all inside = (omega (arith, all.0.desk_is), all.0.from_is)
first_desk number (d ∷ desks) (n ∷ cut) (x ∷ groups) (suc k) g all inside =
    let rest = first_desk (suc number) desks cut groups k g all.1 (omega (arith, inside)) in (omega (arith, rest.0), rest.1)

-- ---- which they are

none_front : (number : ℕ) (desks : List (View MemoryDisk)) (cut : List ℕ) (groups : List Gathered) (at : ℕ) → AreFirstsOf number desks cut groups → at < number → commands_of groups at ≡ []
none_front number desks [] [] at all less = refl
none_front number desks [] (g ∷ groups) at all less = absurd all
none_front number [] (n ∷ cut) groups at all less = absurd all
none_front number (d ∷ desks) (n ∷ cut) [] at all less = absurd all
none_front number (d ∷ desks) (n ∷ cut) (g ∷ groups) at all less =
    let other : g.desk ≢ at = λ same. omega (arith, same, all.0.desk_is, less) in
    skipped g groups at other ∙ none_front (suc number) desks cut groups at all.1 (omega (arith, less))

none_far : (number : ℕ) (desks : List (View MemoryDisk)) (cut : List ℕ) (groups : List Gathered) (at : ℕ) → AreFirstsOf number desks cut groups → number + length groups ≤ at → commands_of groups at ≡ []
none_far number desks [] [] at all far = refl
none_far number desks [] (g ∷ groups) at all far = absurd all
none_far number [] (n ∷ cut) groups at all far = absurd all
none_far number (d ∷ desks) (n ∷ cut) [] at all far = absurd all
none_far number (d ∷ desks) (n ∷ cut) (g ∷ groups) at all far =
    let other : g.desk ≢ at = λ same. omega (arith, same, all.0.desk_is, far) in
    skipped g groups at other ∙ none_far (suc number) desks cut groups at all.1 (omega (arith, far))

-- Those of the desk at a place, and that it has as many.
first_of : (number : ℕ) (desks : List (View MemoryDisk)) (cut : List ℕ) (groups : List Gathered) (k at : ℕ) (desk : View MemoryDisk) (commands : List Command) → AreFirstsOf number desks cut groups
    → k < length cut → at ≡ number + k → slice_get desks k ≡ Some desk → HasCommands desk commands
    → (commands_of groups at ≡ take (get_or cut k 0) commands) × (get_or cut k 0 ≤ length desk.records)
first_of number desks [] groups k at desk commands all inside is there has = absurd (omega (arith, inside))
first_of number [] (n ∷ cut) groups k at desk commands all inside is there has = absurd all
first_of number (d ∷ desks) (n ∷ cut) [] k at desk commands all inside is there has = absurd all
first_of number (d ∷ desks) (n ∷ cut) (g ∷ groups) zero at desk commands all inside is there has =
    let same : g.desk ≡ at = omega (arith, all.0.desk_is, is) in (
      counted g groups at same
          ∙ ap (λ (l : List Command). g.commands ++ l) (none_front (suc number) desks cut groups at all.1 (omega (arith, is)))
          ∙ append-nil g.commands
          ∙ all.0.commands commands (subst (λ (v : View MemoryDisk). HasCommands v commands) (sym (same_Some d desk there)) has),
      subst (λ (v : View MemoryDisk). n ≤ length v.records) (same_Some d desk there) all.0.held,
    )
first_of number (d ∷ desks) (n ∷ cut) (g ∷ groups) (suc k) at desk commands all inside is there has =
    let other : g.desk ≢ at = λ same. omega (arith, same, all.0.desk_is, is) in
    let rest = first_of (suc number) desks cut groups k at desk commands all.1 (omega (arith, inside)) (omega (arith, is)) there has in
    (skipped g groups at other ∙ rest.0, rest.1)

module _ (desks : List (View MemoryDisk)) (devices : List (Device Command)) (cut : List ℕ) (groups : List Gathered)
    (stand : AreDesks 0 desks devices) (firsts : AreFirstsOf 0 desks cut groups) where
  -- A desk that the cut counts, its commands, and those that are taken in.
  record IsTakenIn (desk : ℕ) : Type 0 where
    pub view : View MemoryDisk
    pub journal : HasJournal view devices desk desk
    pub list : get_or (lists_of devices) desk [] ≡ journal.device.list
    pub those : commands_of groups desk ≡ take (cut_at cut desk) journal.device.list
    pub held : cut_at cut desk ≤ length journal.device.list

  taken_in : (desk : ℕ) → desk < length cut → IsTakenIn desk
  taken_in desk inside =
      let few = fewer_than_desks 0 desks cut groups firsts in
      let there = there_is desks desk (omega (arith, inside, few)) in
      let journal = desk_at 0 desks devices desk desk there.0 stand there.1 (omega arith) in
      let is = first_of 0 desks cut groups desk desk there.0 journal.device.list firsts inside (omega arith) there.1 journal.stands.commands in
      let long = ap length journal.stands.commands.recorded.spelled ∙ length-map journal.device.list spelling in
      record {
        view = there.0;
        journal = journal;
        list = list_at devices desk journal.device journal.there;
        those = is.0;
        held = let held = is.1 in omega (arith, held, long);
      }

  none_in : (desk : ℕ) → length cut ≤ desk → commands_of groups desk ≡ []
  none_in desk far = let one_each = firsts_long 0 desks cut groups firsts in none_far 0 desks cut groups desk firsts (omega (arith, far, one_each))

  pub go_on_from : GoOnFrom (lists_of devices) groups
  go_on_from desk = elim (cases_lt desk (length cut)) [
    | inl inside ↦ (
        let is = taken_in desk inside in
        let list = is.journal.device.list in (
          drop (cut_at cut desk) list,
          is.list ∙ split_at (cut_at cut desk) list
              ∙ ap (λ (l : List Command). l ++ drop (cut_at cut desk) list) (sym is.those),
        ))
    | inr far ↦ (
      get_or (lists_of devices) desk [],
      ap (λ (l : List Command). l ++ get_or (lists_of devices) desk []) (sym (none_in desk far)),
    )
  ]

  counts : (desk : ℕ) → length (commands_of groups desk) ≡ cut_at cut desk
  counts desk = elim (cases_lt desk (length cut)) [
    | inl inside ↦ (
        let is = taken_in desk inside in
        ap length is.those ∙ taken_long (cut_at cut desk) is.journal.device.list is.held)
    | inr far ↦ ap length (none_in desk far) ∙ sym (past_end cut desk 0 far)
  ]

  in_turn : (desk : ℕ) → desk < length cut → Taken desk (commands_of groups desk)
  in_turn desk inside =
      let is = taken_in desk inside in
      let list = is.journal.device.list in
      let taken : AcceptedInTurn (empty_settings desk) list =
      subst (λ (d : ℕ). AcceptedInTurn (empty_settings d) list) is.journal.stands.number_is is.journal.stands.commands.recorded.taken in
      subst (AcceptedInTurn (empty_settings desk)) (sym is.those) (accepted_front (empty_settings desk) (cut_at cut desk) list taken)

  pub are_firsts : AreFirsts cut groups
  are_firsts =
      let one_each = firsts_long 0 desks cut groups firsts in
      record {
        desks = λ k g inside. let at = first_desk 0 desks cut groups k g firsts inside in omega (arith, at.0, inside, one_each);
        once = λ i j g before inside same.
            let one = first_desk 0 desks cut groups i g firsts (omega (arith, before, inside)) in
            let other = first_desk 0 desks cut groups j g firsts inside in
            omega (arith, one.0, other.0, same, before);
        from = λ k g inside. (first_desk 0 desks cut groups k g firsts inside).1;
        count = counts;
        taken = in_turn;
      }
