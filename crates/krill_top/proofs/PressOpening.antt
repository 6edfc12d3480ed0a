-- Opening the press behind the desks: how many commands these have, and why it isn't opened.
use Rattle.std.proofs.Common.{◌≡◌, ◌≢◌, ◌≤◌, ◌<◌, ◌+◌, ℕ, zero, suc, List, [], ◌∷◌, ◌++◌, length, take, drop, get_or, refl, sym, ◌∙◌, ap, subst, arith, inl, inr, append-nil}
use Rattle.std.proofs.lemmas.Bool.{cases_lt}
use Rattle.std.proofs.lemmas.Option.{none-some, same_Some}
use Rattle.std.proofs.lemmas.List.{length-map, nil_from_length, take_more, length-take-le}
use Rattle.std.specs.Prelude.{◌⊎◌, Option, None, Some, IfSome, All, Any, slice_get, Err}
use Rattle.disk_api.specs.Content.{BothKnown}
use Rattle.disk_api.specs.declared.disk.Disk.{Ghosts as DiskGhosts}
use Rattle.gate_journal.specs.View.{IsSafe}
use Rattle.authority_book.specs.declared.commands.Command.{Command}
use Rattle.authority_book.specs.Settings.{Settings}
use Rattle.authority_book.specs.Fold.{empty_settings, after, AcceptedInTurn, Taken}
use Rattle.cmd_codec.specs.Spelling.{spelling}
use Rattle.desk_core.specs.View.{View}
use Rattle.desk_core.specs.Commands.{HasCommands}
use Rattle.signer_api.specs.State.{SignerState}
use Rattle.rp_rules.specs.Yield.{AuditedValue}
use Rattle.rp_audit.specs.Audit.{asking, IsTold, Asks}
use Rattle.rp_audit.specs.declared.refusal.AuditRefused.{AuditRefused}
use Rattle.rp_audit.specs.declared.refusal.AuditRefused.TheVariants as audit
use Rattle.editions.specs.Edition.{Edition, cut_at}
use Rattle.editions.specs.Gathering.{commands_of}
use Rattle.editions.specs.declared.gathered.Gathered.{Gathered}
use Rattle.key_ids.specs.Uris.{Bases}
use Rattle.press_records.specs.Store.{Store}
use Rattle.disk_api.specs.Runs.{LeavesOnly}
use Rattle.press_core.specs.JournalRecords.{AreRecords, store_for}
use Rattle.press_core.specs.Loading.{LoadedValue, IsLeftAs, IsLoadOf, IsInOrder, IsLoadFault, IsSameStore, IsStoreImage, anchor_of, loaded_store}
use Rattle.press_core.specs.Resuming.{AreFirsts, GoOnFrom, IsAudited, IsResumeFault}
use Rattle.press_core.specs.declared.loading.LoadFault.{LoadFault}
use Rattle.press_core.specs.declared.loading.LoadFault.TheVariants as load
use Rattle.press_core.specs.declared.resume.ResumeFault.{ResumeFault}
use Rattle.press_core.specs.declared.resume.ResumeFault.TheVariants as resume
use Rattle.krill_top.specs.declared.faults.OpenFault.{OpenFault}
use Rattle.krill_top.specs.declared.faults.OpenFault.TheVariants.{WrongCount, Damaged, BadRecord, SiteDiffers, CutPast, Refused, Unreached, OriginsDiffer, RowMismatch, DiskFault, SignerFault, OutletFault, Memory}
use Rattle.key_roll.specs.declared.rows.KeyRow.{KeyRow}
use Rattle.pub_set.specs.declared.objects.Object.{Object}
use Rattle.krill_top.specs.declared.summary.Summary.{Summary}
use Rattle.krill_top.specs.DeskStates.{DeskStates, DeskState, commands_of as commands_in, commands_at}
use Rattle.krill_top.specs.InstanceState.{lists_of}
use Rattle.krill_top.specs.DesksInStates.{AreIn}
use Rattle.krill_top.specs.PressDisk.{Given, AreAsked, load_fault_of, IsNotLoaded, IsPast, IsCutWithin, IsStopCause, IsOutletLeft, IsLoadedAndStopped}
use Rattle.krill_top.specs.inner.Gathered.{IsFirstOf, AreFirstsOf}
use Rattle.krill_top.specs.inner.PressOpened.{IsToldBy, IsWithin, IsPastOf, audit_fault_of, resume_fault_of}
use Rattle.krill_top.specs.inner.Summing.{summed}
use Rattle.krill_top.proofs.Lists.{list_at}
use Rattle.krill_top.proofs.PressFound.{some_so, HasEditions, finds_now, finds_later}
use Rattle.krill_top.proofs.Since.{skipped, counted, past_end, there_is}
use Rattle.krill_top.proofs.Standing.{At, at_place}

-- ---- a cut that goes too far

pub past_is : {D : Type 0} (desks : List (View D)) (cut : List ℕ) (fault : OpenFault) → IsPastOf desks cut fault
    → (desk : ℕ) × (count : ℕ) × (held : ℕ) × (fault ≡ CutPast desk count held) × ((found : DeskStates) → AreIn desks found → IsPast found cut desk count held)
past_is desks cut (WrongCount what needed found) is = absurd is
past_is desks cut (Damaged device at) is = absurd is
past_is desks cut (BadRecord device at) is = absurd is
past_is desks cut (SiteDiffers kept given) is = absurd is
past_is desks cut (CutPast desk count held) is = (desk, count, held, refl, is)
past_is desks cut (Refused uri rule) is = absurd is
past_is desks cut (Unreached uri) is = absurd is
past_is desks cut (OriginsDiffer uri) is = absurd is
past_is desks cut (RowMismatch key field kept found) is = absurd is
past_is desks cut (DiskFault device) is = absurd is
past_is desks cut (SignerFault signer) is = absurd is
past_is desks cut OutletFault is = absurd is
past_is desks cut Memory is = absurd is

pub past_stops : {D : Type 0} (desks : List (View D)) (given : Given) (loaded : LoadedValue D) (signers : List SignerState) (cut : List ℕ) (fault : OpenFault) → cut ≡ loaded.cut → AreIn desks given.found
    → IsPastOf desks cut fault → IsStopCause given loaded signers given.outlet fault
past_stops desks given loaded signers cut fault same found is =
    let past = past_is desks cut fault is in
    subst (λ (f : OpenFault). IsStopCause given loaded signers given.outlet f) (sym past.3)
    (subst (λ (c : List ℕ). IsPast given.found c past.0 past.1 past.2) same (past.4 given.found found))

pub past_asked : {D : Type 0} (desks : List (View D)) (cut : List ℕ) (fault : OpenFault) (ring : List SignerState) → IsPastOf desks cut fault → AreAsked fault ring ring
past_asked desks cut fault ring is = let past = past_is desks cut fault is in subst (λ (f : OpenFault). AreAsked f ring ring) (sym past.3) refl

-- ---- signers that aren't there

needed_by : (rows : List KeyRow) (needed signers : ℕ) → signers < needed → (needed ≡ 0) ⊎ Any (λ (row : KeyRow). row.signer + 1 ≡ needed) rows → Any (λ (row : KeyRow). row.signer + 1 ≡ needed) rows
needed_by rows needed signers less (inl none) = absurd (omega (arith, less, none))
needed_by rows needed signers less (inr some) = some

pub lacks_signers : {D : Type 0} (given : Given) (loaded : LoadedValue D) (signers : List SignerState) (needed count : ℕ) → IsCutWithin given.found loaded.cut → count ≡ length given.signers → count < needed
    → All (λ (row : KeyRow). row.signer < needed) loaded.rows → (needed ≡ 0) ⊎ Any (λ (row : KeyRow). row.signer + 1 ≡ needed) loaded.rows
    → IsStopCause given loaded signers given.outlet (WrongCount 1 needed count)
lacks_signers given loaded signers needed count within counted less enough some =
    (refl, counted, record { within = within; enough = enough; needed_is = needed_by loaded.rows needed count less some; lacks = less })

-- ---- lists in two parts

split_at : (n : ℕ) (list : List Command) → list ≡ take n list ++ drop n list
split_at zero list = refl
split_at (suc n) [] = refl
split_at (suc n) (command ∷ list) = ap (λ (l : List Command). command ∷ l) (split_at n list)

taken_long : (n : ℕ) (list : List Command) → n ≤ length list → length (take n list) ≡ n
taken_long zero list within = refl
taken_long (suc n) [] within = absurd (omega (arith, within))
taken_long (suc n) (command ∷ list) within = ap suc (taken_long n list (omega (arith, within)))

accepted_front : (settings : Settings) (n : ℕ) (list : List Command) → AcceptedInTurn settings list → AcceptedInTurn settings (take n list)
accepted_front settings zero list all = tt
accepted_front settings (suc n) [] all = all
accepted_front settings (suc n) (command ∷ list) all = (all.0, accepted_front (after settings command) n list all.1)

all_some : {A : Type 0} (known : Option A) (P : A → Type 0) → ((x : A) → P x) → IfSome known P
all_some None P so = tt
all_some (Some x) P so = so x

-- a number for each desk at most
pub cut_short : {D : Type 0} (loaded : LoadedValue D) → IsInOrder loaded → length loaded.cut ≤ 64
cut_short loaded order = by loaded.serial refl
  where
    by : (n : ℕ) → loaded.serial ≡ n → length loaded.cut ≤ 64
    by zero is = let none = ap length (order.before is).2 in omega (arith, none)
    by (suc n) is = let full = order.desks (λ none. absurd (omega (arith, is, none))) in omega (arith, full)

pub cut_fits : {D : Type 0} (desks : List (View D)) (loaded : LoadedValue D) → IsInOrder loaded → length desks ≡ 64 → length loaded.cut ≤ length desks
cut_fits desks loaded order one_each = let short = cut_short loaded order in omega (arith, short, one_each)

module _ {D : Type 0} where
  -- ---- how many commands the desks have

  records_long : (desk : View D) (commands : List Command) → HasCommands desk commands → length desk.records ≡ length commands
  records_long desk commands has = ap length has.recorded.spelled ∙ length-map commands spelling

  commands_there : (desks : List (View D)) (found : DeskStates) (k : ℕ) (desk : View D) → AreIn desks found → slice_get desks k ≡ Some desk → length desk.records ≡ length (commands_at found k)
  commands_there desks found k desk all there =
      let at : At found k desk = at_place desks found k desk all there in
      records_long desk at.state.commands at.stands.commands ∙ ap (λ (o : Option DeskState). length (commands_in o)) (sym at.there)

  here : (P : View D → Type 0) (found : Option (View D)) (desk : View D) → found ≡ Some desk → IfSome found P → P desk
  here P None desk is holds = absurd (none-some desk is)
  here P (Some d) desk is holds = subst P (same_Some d desk is) holds

  pub held_at : (desks : List (View D)) (found : DeskStates) (k n : ℕ) → AreIn desks found → k < length desks → IfSome (slice_get desks k) (λ d. n ≡ length d.records) → n ≡ length (commands_at found k)
  held_at desks found k n all inside is =
      let there = there_is desks k inside in
      here (λ (d : View D). n ≡ length d.records) (slice_get desks k) there.0 there.1 is ∙ commands_there desks found k there.0 all there.1

  pub within_at : (desks : List (View D)) (cut : List ℕ) (found : DeskStates) (k : ℕ) → AreIn desks found → length cut ≤ length desks → IfSome (slice_get desks k) (λ d. cut_at cut k ≤ length d.records)
      → cut_at cut k ≤ length (commands_at found k)
  within_at desks cut found k all long is = elim (cases_lt k (length desks)) [
    | inl inside ↦ (
        let there = there_is desks k inside in
        let less = here (λ (d : View D). cut_at cut k ≤ length d.records) (slice_get desks k) there.0 there.1 is in
        let same = commands_there desks found k there.0 all there.1 in
        omega (arith, less, same))
    | inr far ↦ (
        let none = past_end cut k 0 (omega (arith, far, long)) in
        omega (arith, none))
  ]

  pub cut_within : (desks : List (View D)) (cut : List ℕ) (found : DeskStates) → AreIn desks found → length cut ≤ length desks → IsWithin desks cut → IsCutWithin found cut
  cut_within desks cut found all long within desk = within_at desks cut found desk all long (within desk)

  -- each desk has all that was loaded takes in
  pub loaded_within : (desks : List (View D)) (loaded : LoadedValue D) (cut : List ℕ) (found : DeskStates) → IsInOrder loaded → length desks ≡ 64 → cut ≡ loaded.cut → AreIn desks found → IsWithin desks cut → IsCutWithin found loaded.cut
  loaded_within desks loaded cut found order one_each same all within =
      cut_within desks loaded.cut found all (cut_fits desks loaded order one_each) (subst (λ (l : List ℕ). IsWithin desks l) same within)

  -- as far as was looked, and then of each
  pub within_more : (desks : List (View D)) (cut : List ℕ) (k held : ℕ) → ((number : ℕ) → number < k → IfSome (slice_get desks number) (λ desk. cut_at cut number ≤ length desk.records))
      → IfSome (slice_get desks k) (λ d. held ≡ length d.records) → cut_at cut k ≤ held → (number : ℕ) → number < k + 1 → IfSome (slice_get desks number) (λ desk. cut_at cut number ≤ length desk.records)
  within_more desks cut k held before is less number inside = elim (cases_lt number k) [
    | inl earlier ↦ before number earlier
    | inr far ↦ (
        let same : k ≡ number = omega (arith, far, inside) in
        subst (λ (n : ℕ). IfSome (slice_get desks n) (λ desk. cut_at cut n ≤ length desk.records)) same
        (some_so (slice_get desks k) (λ d. held ≡ length d.records) (λ d. cut_at cut k ≤ length d.records) is (λ d long. omega (arith, less, long))))
  ]

  pub within_all : (desks : List (View D)) (cut : List ℕ) (k : ℕ) → length cut ≤ k → ((number : ℕ) → number < k → IfSome (slice_get desks number) (λ desk. cut_at cut number ≤ length desk.records)) → IsWithin desks cut
  within_all desks cut k long before number = elim (cases_lt number k) [
    | inl earlier ↦ before number earlier
    | inr far ↦ all_some (slice_get desks number) (λ desk. cut_at cut number ≤ length desk.records)
        (λ desk. let none = past_end cut number 0 (omega (arith, far, long)) in omega (arith, none))
  ]

  pub past_of : (desks : List (View D)) (cut : List ℕ) (k held : ℕ) → length desks ≡ 64 → length cut ≤ 64 → k < length cut → ((number : ℕ) → number < k → IfSome (slice_get desks number) (λ desk. cut_at cut number ≤ length desk.records))
      → IfSome (slice_get desks k) (λ d. held ≡ length d.records) → held < cut_at cut k → (found : DeskStates) → AreIn desks found → IsPast found cut k (cut_at cut k) held
  past_of desks cut k held one_each short inside before is less found all = record {
    count_is = refl;
    held_is = held_at desks found k held all (omega (arith, one_each, short, inside)) is;
    past = less;
    first = λ n earlier. within_at desks cut found n all (omega (arith, one_each, short)) (before n earlier);
  }

  -- ---- the first of each

  pub firsts_more : (number : ℕ) (desks : List (View D)) (cut : List ℕ) (groups : List Gathered) (desk : View D) (count : ℕ) (group : Gathered) → AreFirstsOf number desks cut groups
      → slice_get desks (length cut) ≡ Some desk → IsFirstOf (number + length cut) desk count group → AreFirstsOf number desks (cut ++ count ∷ []) (groups ++ group ∷ [])
  firsts_more number [] [] [] desk count group all there is = absurd (none-some desk there)
  firsts_more number (d ∷ desks) [] [] desk count group all there is =
      (subst (λ (v : View D). IsFirstOf number v count group) (sym (same_Some d desk there)) (subst (λ (n : ℕ). IsFirstOf n desk count group) (omega arith) is), tt)
  firsts_more number desks [] (g ∷ groups) desk count group all there is = absurd all
  firsts_more number [] (n ∷ cut) groups desk count group all there is = absurd all
  firsts_more number (d ∷ desks) (n ∷ cut) [] desk count group all there is = absurd all
  firsts_more number (d ∷ desks) (n ∷ cut) (g ∷ groups) desk count group all there is =
      (all.0, firsts_more (suc number) desks cut groups desk count group all.1 there (subst (λ (k : ℕ). IsFirstOf k desk count group) (omega arith) is))

  -- one more, of the next desk
  pub firsts_next : (desks : List (View D)) (cut : List ℕ) (groups : List Gathered) (k : ℕ) (group : Gathered) → k < length cut → k < length desks → AreFirstsOf 0 desks (take k cut) groups
      → IfSome (slice_get desks k) (λ d. IsFirstOf k d (cut_at cut k) group) → AreFirstsOf 0 desks (take (k + 1) cut) (groups ++ group ∷ [])
  firsts_next desks cut groups k group inside there before is =
      let desk = there_is desks k there in
      let counted : length (take k cut) ≡ k = length-take-le k cut (omega (arith, inside)) in
      subst (λ (l : List ℕ). AreFirstsOf 0 desks l (groups ++ group ∷ [])) (sym (take_more cut k 0 inside))
      (firsts_more 0 desks (take k cut) groups desk.0 (cut_at cut k) group before (ap (λ (n : ℕ). slice_get desks n) counted ∙ desk.1)
      (subst (λ (n : ℕ). IsFirstOf n desk.0 (cut_at cut k) group) (omega (arith, counted)) (here (λ (d : View D). IsFirstOf k d (cut_at cut k) group) (slice_get desks k) desk.0 desk.1 is)))

  pub firsts_long : (number : ℕ) (desks : List (View D)) (cut : List ℕ) (groups : List Gathered) → AreFirstsOf number desks cut groups → length groups ≡ length cut
  firsts_long number desks [] [] all = refl
  firsts_long number desks [] (g ∷ groups) all = absurd all
  firsts_long number [] (n ∷ cut) groups all = absurd all
  firsts_long number (d ∷ desks) (n ∷ cut) [] all = absurd all
  firsts_long number (d ∷ desks) (n ∷ cut) (g ∷ groups) all = ap suc (firsts_long (suc number) desks cut groups all.1)

  first_desk : (number : ℕ) (desks : List (View D)) (cut : List ℕ) (groups : List Gathered) (k : ℕ) (g : Gathered) → AreFirstsOf number desks cut groups → k < length groups
      → ((get_or groups k g).desk ≡ number + k) × ((get_or groups k g).from ≡ 0)
  first_desk number desks [] [] k g all inside = absurd (omega (arith, inside))
  first_desk number desks [] (x ∷ groups) k g all inside = absurd all
  first_desk number [] (n ∷ cut) groups k g all inside = absurd all
  first_desk number (d ∷ desks) (n ∷ cut) [] k g all inside = absurd all
  first_desk number (d ∷ desks) (n ∷ cut) (x ∷ groups) zero g all inside = (omega (arith, all.0.desk_is), all.0.from_is)
  first_desk number (d ∷ desks) (n ∷ cut) (x ∷ groups) (suc k) g all inside =
      let rest = first_desk (suc number) desks cut groups k g all.1 (omega (arith, inside)) in (omega (arith, rest.0), rest.1)

  none_front : (number : ℕ) (desks : List (View D)) (cut : List ℕ) (groups : List Gathered) (at : ℕ) → AreFirstsOf number desks cut groups → at < number → commands_of groups at ≡ []
  none_front number desks [] [] at all less = refl
  none_front number desks [] (g ∷ groups) at all less = absurd all
  none_front number [] (n ∷ cut) groups at all less = absurd all
  none_front number (d ∷ desks) (n ∷ cut) [] at all less = absurd all
  none_front number (d ∷ desks) (n ∷ cut) (g ∷ groups) at all less =
      let other : g.desk ≢ at = λ same. omega (arith, same, all.0.desk_is, less) in
      skipped g groups at other ∙ none_front (suc number) desks cut groups at all.1 (omega (arith, less))

  none_far : (number : ℕ) (desks : List (View D)) (cut : List ℕ) (groups : List Gathered) (at : ℕ) → AreFirstsOf number desks cut groups → number + length groups ≤ at → commands_of groups at ≡ []
  none_far number desks [] [] at all far = refl
  none_far number desks [] (g ∷ groups) at all far = absurd all
  none_far number [] (n ∷ cut) groups at all far = absurd all
  none_far number (d ∷ desks) (n ∷ cut) [] at all far = absurd all
  none_far number (d ∷ desks) (n ∷ cut) (g ∷ groups) at all far =
      let other : g.desk ≢ at = λ same. omega (arith, same, all.0.desk_is, far) in
      skipped g groups at other ∙ none_far (suc number) desks cut groups at all.1 (omega (arith, far))

  first_of : (number : ℕ) (desks : List (View D)) (cut : List ℕ) (groups : List Gathered) (k at : ℕ) (desk : View D) (commands : List Command) → AreFirstsOf number desks cut groups
      → k < length cut → at ≡ number + k → slice_get desks k ≡ Some desk → HasCommands desk commands → commands_of groups at ≡ take (get_or cut k 0) commands
  first_of number desks [] groups k at desk commands all inside is there has = absurd (omega (arith, inside))
  first_of number [] (n ∷ cut) groups k at desk commands all inside is there has = absurd all
  first_of number (d ∷ desks) (n ∷ cut) [] k at desk commands all inside is there has = absurd all
  first_of number (d ∷ desks) (n ∷ cut) (g ∷ groups) zero at desk commands all inside is there has =
      let same : g.desk ≡ at = omega (arith, all.0.desk_is, is) in
      counted g groups at same
      ∙ ap (λ (l : List Command). g.commands ++ l) (none_front (suc number) desks cut groups at all.1 (omega (arith, is)))
      ∙ append-nil g.commands
      ∙ all.0.commands commands (subst (λ (v : View D). HasCommands v commands) (sym (same_Some d desk there)) has)
  first_of number (d ∷ desks) (n ∷ cut) (g ∷ groups) (suc k) at desk commands all inside is there has =
      let other : g.desk ≢ at = λ same. omega (arith, same, all.0.desk_is, is) in
      skipped g groups at other ∙ first_of (suc number) desks cut groups k at desk commands all.1 (omega (arith, inside)) (omega (arith, is)) there has

  module _ (desks : List (View D)) (found : DeskStates) (cut : List ℕ) (groups : List Gathered) (all : AreIn desks found) (long : length cut ≤ length desks) (firsts : AreFirstsOf 0 desks cut groups) where
    -- the first commands of a desk are those of its list
    first_in : (desk : ℕ) → desk < length cut → commands_of groups desk ≡ take (cut_at cut desk) (commands_at found desk)
    first_in desk inside =
        let there = there_is desks desk (omega (arith, inside, long)) in
        let at : At found desk there.0 = at_place desks found desk there.0 all there.1 in
        first_of 0 desks cut groups desk desk there.0 at.state.commands firsts inside (omega arith) there.1 at.stands.commands
        ∙ ap (λ (o : Option DeskState). take (cut_at cut desk) (commands_in o)) (sym at.there)

    none_in : (desk : ℕ) → length cut ≤ desk → commands_of groups desk ≡ []
    none_in desk far = let one_each = firsts_long 0 desks cut groups firsts in none_far 0 desks cut groups desk firsts (omega (arith, far, one_each))

    pub go_on_from : GoOnFrom (lists_of found) groups
    go_on_from desk = elim (cases_lt desk (length cut)) [
      | inl inside ↦ (
        drop (cut_at cut desk) (commands_at found desk),
        list_at found desk ∙ split_at (cut_at cut desk) (commands_at found desk)
            ∙ ap (λ (l : List Command). l ++ drop (cut_at cut desk) (commands_at found desk)) (sym (first_in desk inside)),
      )
      | inr far ↦ (
        get_or (lists_of found) desk [],
        ap (λ (l : List Command). l ++ get_or (lists_of found) desk []) (sym (none_in desk far)),
      )
    ]

    counts : IsCutWithin found cut → (desk : ℕ) → length (commands_of groups desk) ≡ cut_at cut desk
    counts within desk = elim (cases_lt desk (length cut)) [
      | inl inside ↦ ap length (first_in desk inside) ∙ taken_long (cut_at cut desk) (commands_at found desk) (within desk)
      | inr far ↦ ap length (none_in desk far) ∙ sym (past_end cut desk 0 far)
    ]

    in_turn : (desk : ℕ) → desk < length cut → Taken desk (commands_of groups desk)
    in_turn desk inside =
        let there = there_is desks desk (omega (arith, inside, long)) in
        let at : At found desk there.0 = at_place desks found desk there.0 all there.1 in
        let taken : AcceptedInTurn (empty_settings desk) at.state.commands = subst (λ (d : ℕ). AcceptedInTurn (empty_settings d) at.state.commands) at.stands.number_is at.stands.commands.recorded.taken in
        subst (AcceptedInTurn (empty_settings desk)) (sym (first_in desk inside))
        (accepted_front (empty_settings desk) (cut_at cut desk) (commands_at found desk)
        (subst (AcceptedInTurn (empty_settings desk)) (ap commands_in (sym at.there)) taken))

    pub are_firsts : IsCutWithin found cut → AreFirsts cut groups
    are_firsts within =
        let one_each = firsts_long 0 desks cut groups firsts in
        record {
          desks = λ k g inside. let at = first_desk 0 desks cut groups k g firsts inside in omega (arith, at.0, inside, one_each);
          once = λ i j g before inside same.
              let one = first_desk 0 desks cut groups i g firsts (omega (arith, before, inside)) in
              let other = first_desk 0 desks cut groups j g firsts inside in
              omega (arith, one.0, other.0, same, before);
          from = λ k g inside. (first_desk 0 desks cut groups k g firsts inside).1;
          count = counts within;
          taken = in_turn;
        }

-- ---- who was asked

pub load_asked : (why : LoadFault) (old new : List SignerState) → new ≡ old → AreAsked (load_fault_of why) old new
load_asked (load.Damaged at) old new same = same
load_asked (load.BadRecord at) old new same = same
load_asked (load.SiteDiffers kept given) old new same = same
load_asked load.DiskFault old new same = same
load_asked load.Memory old new same = same

pub resume_asked : (why : ResumeFault) (old new : List SignerState) → new ≡ old → AreAsked (resume_fault_of why) old new
resume_asked (resume.OriginsDiffer uri) old new same = same
resume_asked (resume.RowMismatch key field kept found) old new same = same
resume_asked resume.Memory old new same = same

pub audit_asked : (why : AuditRefused) (old new : List SignerState) → Asks (Err why) old new → AreAsked (audit_fault_of why) old new
audit_asked (audit.Refused uri rule) old new asks = asks
audit_asked (audit.Unreached uri) old new asks = asks
audit_asked (audit.SignerFault signer) old new asks = asks
audit_asked audit.Memory old new asks = asks

-- ---- why it isn't opened

pub stop_of_audit : {D : Type 0} (given : Given) (loaded : LoadedValue D) (signers : List SignerState) (anchor : List ℕ) (why : AuditRefused) → IsCutWithin given.found loaded.cut
    → All (λ row. row.signer < length given.signers) loaded.rows → anchor_of loaded.rows ≡ Some anchor → IsTold given.signers (asking given.signers anchor loaded.site loaded.moment) loaded.set why
    → loaded.serial ≢ 0 → Asks (Err why) given.signers signers → IsStopCause given loaded signers given.outlet (audit_fault_of why)
stop_of_audit given loaded signers anchor (audit.Refused uri rule) within enough is told some asks = record { within = within; signers = enough; anchor = anchor; anchor_is = is; told = told }
stop_of_audit given loaded signers anchor (audit.Unreached uri) within enough is told some asks = record { within = within; signers = enough; anchor = anchor; anchor_is = is; told = told }
stop_of_audit given loaded signers anchor (audit.SignerFault signer) within enough is told some asks = (asks, within, enough, some)
stop_of_audit given loaded signers anchor audit.Memory within enough is told some asks = tt

-- the keys' signers are there, and this is what an audit by these signers found
pub stop_of_loaded : {D : Type 0} (given : Given) (loaded : LoadedValue D) (ring signers : List SignerState) (needed count : ℕ) (anchor : List ℕ) (bases : Bases) (moment : ℕ) (set : List Object) (why : AuditRefused)
    → given.signers ≡ ring → loaded.site ≡ bases → moment ≡ loaded.moment → set ≡ loaded.set → IsCutWithin given.found loaded.cut → All (λ (row : KeyRow). row.signer < needed) loaded.rows → needed ≤ count → count ≡ length ring → loaded.serial ≢ 0
    → Some anchor ≡ anchor_of loaded.rows → IsTold ring (asking ring anchor bases moment) set why → Asks (Err why) ring signers → IsStopCause given loaded signers given.outlet (audit_fault_of why)
stop_of_loaded given loaded ring signers needed count anchor bases moment set why same_ring same_site same_moment same_set within enough there counted some is told asks =
    let kept : length given.signers ≡ length ring = ap length same_ring in
    stop_of_audit given loaded signers anchor why within
    (λ k row inside. let less = enough k row inside in omega (arith, less, there, counted, kept))
    (sym is)
    (subst (λ (o : List Object). IsTold given.signers (asking given.signers anchor loaded.site loaded.moment) o why) same_set
    (subst (λ (m : ℕ). IsTold given.signers (asking given.signers anchor loaded.site m) set why) same_moment
    (subst (λ (b : Bases). IsTold given.signers (asking given.signers anchor b moment) set why) (sym same_site)
    (subst (λ (s : List SignerState). IsTold s (asking s anchor bases moment) set why) (sym same_ring) told))))
    some
    (subst (λ (s : List SignerState). Asks (Err why) s signers) (sym same_ring) asks)

pub stop_of_resume : {D : Type 0} (given : Given) (loaded : LoadedValue D) (signers : List SignerState) (audited : Option AuditedValue) (firsts : List Gathered) (why : ResumeFault) → All (λ row. row.signer < length given.signers) loaded.rows → IsAudited loaded given.signers audited
    → AreFirsts loaded.cut firsts → GoOnFrom (lists_of given.found) firsts → IsResumeFault loaded firsts audited why → IsStopCause given loaded signers given.outlet (resume_fault_of why)
stop_of_resume given loaded signers None firsts (resume.OriginsDiffer uri) enough by are begin cause = absurd cause
stop_of_resume given loaded signers None firsts (resume.RowMismatch key field kept found) enough by are begin cause = absurd cause
stop_of_resume given loaded signers None firsts resume.Memory enough by are begin cause = tt
stop_of_resume given loaded signers (Some audited) firsts (resume.OriginsDiffer uri) enough by are begin cause =
    record { signers = enough; audited = audited; by = by.1; firsts = firsts; are = are; of_desks = begin; cause = cause }
stop_of_resume given loaded signers (Some audited) firsts (resume.RowMismatch key field kept found) enough by are begin cause =
    record { signers = enough; audited = audited; by = by.1; firsts = firsts; are = are; of_desks = begin; cause = cause }
stop_of_resume given loaded signers (Some audited) firsts resume.Memory enough by are begin cause = tt

-- what is told of what was loaded
pub told_by : {D : Type 0} (editions : List Edition) (loaded : LoadedValue D) (ring : List SignerState) (audited : Option AuditedValue) (told : Summary) → IsLeftAs editions loaded → IsInOrder loaded
    → IsAudited loaded ring audited → told ≡ summed loaded.serial loaded.moment audited → IsToldBy editions audited told
told_by editions loaded ring None told left order none is =
    let moment : loaded.moment ≡ 0 = (order.before none).3 in (
      nil_from_length editions (sym left.count ∙ none),
      is ∙ (λ i. record { serial = none i; moment = moment i; objects = 0; points = 0; origins = 0 }),
    )
told_by editions loaded ring (Some audited) told left order some is =
    is ∙ (λ i. record { serial = left.serial i; moment = left.moment i; objects = audited.objects; points = length audited.points; origins = length audited.origins })

-- the outlet wasn't called
untouched : {D : Type 0} (given : Given) (loaded : LoadedValue D) (editions : List Edition) (fault : OpenFault) → IsOutletLeft given loaded editions given.outlet fault
untouched given loaded editions (WrongCount what needed found) = refl
untouched given loaded editions (Damaged device at) = refl
untouched given loaded editions (BadRecord device at) = refl
untouched given loaded editions (SiteDiffers kept given_base) = refl
untouched given loaded editions (CutPast desk count held) = refl
untouched given loaded editions (Refused uri rule) = refl
untouched given loaded editions (Unreached uri) = refl
untouched given loaded editions (OriginsDiffer uri) = refl
untouched given loaded editions (RowMismatch key field kept found) = refl
untouched given loaded editions (DiskFault device) = refl
untouched given loaded editions (SignerFault signer) = refl
untouched given loaded editions OutletFault = inl refl
untouched given loaded editions Memory = inl refl

-- what was loaded stands on the disk
pub stopped_loaded : {D : Type 0} (disk_of : DiskGhosts D) (given : Given) (fault : OpenFault) (old : D) (loaded : LoadedValue D) (editions : List Edition) (signers : List SignerState) → IsLeftAs editions loaded → IsInOrder loaded
    → IfSome (disk_of.content old) (λ file. IsLoadOf given.site given.session file editions loaded) → IfSome loaded.journal.records (AreRecords (loaded_store loaded) editions) → IsSafe disk_of loaded.journal
    → disk_of.fault_count old ≤ disk_of.fault_count loaded.journal.disk → IsStopCause given loaded signers given.outlet fault → IsLoadedAndStopped disk_of given fault old loaded.journal.disk signers given.outlet
stopped_loaded disk_of given fault old loaded editions signers left order known records safe later cause =
    let has : HasEditions disk_of (loaded_store loaded) editions loaded.journal = record { limit = order.limit; settled = order.settled; are = records } in
    record {
      loaded = loaded;
      editions = editions;
      left = left;
      known = known;
      cause = cause;
      outlet_left = untouched given loaded editions fault;
      coherent = λ was. was;
      holds = finds_now disk_of (loaded_store loaded) editions loaded.journal has safe;
      images = finds_later disk_of (loaded_store loaded) editions loaded.journal has safe;
      later = later;
    }

-- ---- a disk of which nothing was loaded

both_some : (R : List ℕ → List ℕ → Type 0) (old new : Option (List ℕ)) → BothKnown R old new → IfSome old (λ before. IfSome new (R before))
both_some R None new is = tt
both_some R (Some before) new is = subst (λ (o : Option (List ℕ)). IfSome o (R before)) (sym is.1) is.2

pub not_loaded : {D : Type 0} (disk_of : DiskGhosts D) → ((disk : D) (t : ℕ) (c : List ℕ) → t ≤ disk_of.moment disk → disk_of.may_leave disk c → disk_of.left_since disk t c)
    → (given : Given) (site : Bases) (session : List ℕ) (fault : OpenFault) (why : LoadFault) (old new : D) → given.site ≡ site → given.session ≡ session → fault ≡ load_fault_of why → IsLoadFault disk_of site old new why
    → BothKnown (IsSameStore (store_for session site)) (disk_of.content old) (disk_of.content new)
    → LeavesOnly disk_of old new (λ image. disk_of.may_leave old image ⊎ IfSome (disk_of.content old) (λ file. IsStoreImage (store_for session site) file image))
    → disk_of.fault_count old ≤ disk_of.fault_count new → IsNotLoaded disk_of given fault old new
not_loaded disk_of counts_now given site session fault why old new same_site same_session fault_is cause same any later =
    let store : store_for session site ≡ store_for given.session given.site = λ i. store_for (sym same_session i) (sym same_site i) in
    record {
      why = why;
      fault_is = fault_is;
      cause = subst (λ (s : Bases). IsLoadFault disk_of s old new why) (sym same_site) cause;
      same = subst (λ (s : Store). IfSome (disk_of.content old) (λ before. IfSome (disk_of.content new) (IsSameStore s before))) store (both_some (IsSameStore (store_for session site)) (disk_of.content old) (disk_of.content new) same);
      images = λ image may. subst (λ (s : Store). disk_of.may_leave old image ⊎ IfSome (disk_of.content old) (λ before. IsStoreImage s before image)) store
          (any.each image (counts_now new (disk_of.moment old) image any.later may));
      later = later;
    }
