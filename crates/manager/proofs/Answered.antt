-- What a press answers, and what it asks for.
use Rattle.std.proofs.Common.{◌≡◌, ℕ, zero, suc, ◌<◌, ◌≤◌, Bool, true, false, ◌||◌, List, [], ◌∷◌, ◌++◌, map, length, refl, sym, ap, ◌∙◌, subst, arith}
use Rattle.std.specs.Prelude.{◌==◌, nat_lt, All, IfSome}
use Rattle.std.specs.List.{list_any}
use Rattle.std.proofs.lemmas.Bool.{true≢false}
use Rattle.std.proofs.lemmas.Bool.Decides.{nat_tests}
use Rattle.outlet_api.specs.declared.outlet.Outlet.{Ghosts as OutletGhosts}
use Rattle.authority_book.specs.declared.commands.Command.{Command}
use Rattle.authority_book.specs.declared.rows.NameRow.{NameRow}
use Rattle.commit_word.specs.Seats.{FollowerSeat}
use Rattle.entitle.specs.Certified.{names_of}
use Rattle.key_roll.specs.declared.rows.KeyRow.{KeyRow}
use Rattle.issue_plan.specs.declared.keys.NextKey.{NextKey}
use Rattle.issue_plan.specs.Keys.{next_keys}
use Rattle.signer_api.specs.State.{SignerState}
use Rattle.notice_board.specs.Seats.{BoardSeat}
use Rattle.notice_board.specs.Lists.{last_serial}
use Rattle.notice_board.specs.declared.shown.ShownEdition.{ShownEdition}
use Rattle.editions.specs.Edition.{cut_at}
use Rattle.issue_plan.specs.Due.{is_due}
use Rattle.editions.specs.Due.{grows, steps_next}
use Rattle.editions.specs.Calling.{is_called_for}
use Rattle.editions.specs.Moments.{moment_behind}
use Rattle.editions.specs.declared.gathered.Gathered.{Gathered}
use Rattle.editions.specs.declared.published_state.PublishedNumbers.{PublishedNumbers}
use Rattle.editions.specs.Gathering.{configs_with, cut_with, AreGathered, AreAccepted}
use Rattle.editions.specs.PublishedState.{PublishedStateValue, published_of}
use Rattle.press_core.specs.PrepareInput.{start_of}
use Rattle.press_core.specs.Planned.{basis_for}
use Rattle.press_core.specs.Next.{NextValue}
use Rattle.press_core.specs.Follows.{IsNextEdition}
use Rattle.press_core.specs.Faults.{IsNothing}
use Rattle.press_core.specs.Stored.{StoredValue}
use Rattle.press_core.specs.StoredAnswers.{IsPrepareFault}
use Rattle.press_core.specs.declared.stored_fault.PrepareFault.{PrepareFault}
use Rattle.press_core.specs.declared.stored_fault.PrepareFault.TheVariants as prepare
use Rattle.manager.specs.Named.{Named}
use Rattle.manager.specs.Lists.{AreSeen, seat_at}
use Rattle.manager.specs.Gathered.{AreSince}
use Rattle.manager.specs.Run.{Stood, last_of, shown_at, shown_in}
use Rattle.manager.specs.Locked.{IsLockedOver, IsLocked}
use Rattle.manager.specs.Answers.{IsShownTo, IsAnswered, nothing_behind}
use Rattle.manager.specs.declared.publish_fault.Unmade.TheVariants.{Unprepared}
use Rattle.manager.proofs.Since.{Within, CutsGoOn, are_gathered, they_are_accepted, names_signed, seen_taken}
use Rattle.manager.proofs.Runs.{last_serial_in}
use Rattle.manager.proofs.Kept.{lock}
use Rattle.manager.proofs.Over.{over}

-- ---- what calls for no edition

not_less : (m n : ℕ) → nat_lt m n ≡ false → n ≤ m
not_less m n isnt = grind (arith, nat_tests)

none_first : (a b : Bool) → (a || b) ≡ false → (a ≡ false) × (b ≡ false)
none_first true b isnt = absurd (true≢false isnt)
none_first false b isnt = (refl, isnt)

grows_not : (before cut : List ℕ) → grows before cut ≡ false → (desk : ℕ) → cut_at cut desk ≤ cut_at before desk
grows_not before [] isnt desk = omega arith
grows_not [] (n ∷ cut) isnt zero = not_less 0 n (none_first (nat_lt 0 n) (grows [] cut) isnt).0
grows_not [] (n ∷ cut) isnt (suc desk) = let rest = grows_not [] cut (none_first (nat_lt 0 n) (grows [] cut) isnt).1 desk in omega (arith, rest)
grows_not (m ∷ before) (n ∷ cut) isnt zero = not_less m n (none_first (nat_lt m n) (grows before cut) isnt).0
grows_not (m ∷ before) (n ∷ cut) isnt (suc desk) = grows_not before cut (none_first (nat_lt m n) (grows before cut) isnt).1 desk

not_called : (at : PublishedStateValue) (cut : List ℕ) (moment : ℕ) (nexts : List NextKey) → is_called_for at cut moment nexts ≡ false → (desk : ℕ) → cut_at cut desk ≤ cut_at at.cut desk
not_called at cut moment nexts isnt =
    let due = (at.serial == 0) || grows at.cut cut || list_any (is_due moment) at.issued in
    let some = (at.serial == 0) || grows at.cut cut in
    let rest = (none_first some (list_any (is_due moment) at.issued) (none_first due (steps_next at.rows nexts) isnt).0).0 in
    grows_not at.cut cut (none_first (at.serial == 0) (grows at.cut cut) rest).1

-- ---- what was shown last

front_of_shown : (at : PublishedStateValue) (run : List Stood) → (before : List ShownEdition) × (shown_in at run ≡ before ++ shown_at (last_of at run) ∷ [])
front_of_shown at [] = ([], refl)
front_of_shown at (stood ∷ run) =
    let rest = front_of_shown stood.at run in
    (shown_at at ∷ rest.0, ap (λ (l : List ShownEdition). shown_at at ∷ l) rest.1)

module _ {D O : Type 0} (outlet_of : OutletGhosts O) (named : Named) (press : StoredValue D) (seats : List FollowerSeat) (board : BoardSeat) (outlet : O) (is : IsLocked outlet_of named (lock press seats board outlet)) where
  behind : IsLockedOver outlet_of named is.editions is.lists is.run is.calls (lock press seats board outlet)
  behind = over outlet_of named (lock press seats board outlet) is

  -- what stands is shown last
  pub shown_last : (before : List ShownEdition) × (board.shown ≡ before ++ shown_at press.press.at ∷ [])
  shown_last =
      let front = front_of_shown named.at is.run in
      (front.0, behind.shown ∙ (front.1 ∙ ap (λ (s : PublishedStateValue). front.0 ++ shown_at s ∷ []) (sym behind.made.last)))

  -- and its serial is
  pub shown_serial : last_serial board.shown ≡ press.press.at.serial
  shown_serial =
      ap last_serial behind.shown ∙ (last_serial_in named.at is.run ∙ ap (λ (s : PublishedStateValue). s.serial) (sym behind.made.last))

  module _ (clock : ℕ) (groups : List Gathered) (since : (lists : List (List Command)) → AreSeen (length named.signers) lists seats → AreSince 0 lists press.press.at.cut groups) where
    pub since_here : AreSince 0 is.lists press.press.at.cut groups
    since_here = since is.lists behind.seen

    within : Within is.lists press.press.at.cut groups
    within = record { all = since_here; one_each = behind.made.left.desks; held = behind.made.left.taken_in }

    -- ---- what a press asks for

    pub asks_gathered : AreGathered press.press.at.cut groups
    asks_gathered = are_gathered is.lists press.press.at.cut groups since_here

    pub asks_accepted : AreAccepted press.press.at.configs groups
    asks_accepted = they_are_accepted (length named.signers) is.lists (map (λ (seat : FollowerSeat). seat.seen) seats) press.press.at.cut groups press.press.at.configs within behind.seen behind.made.left.configs

    pub asks_live : All (λ (row : KeyRow). row.signer < length press.press.ring) press.press.at.rows
    asks_live = subst (λ (n : ℕ). All (λ (row : KeyRow). row.signer < n) press.press.at.rows) (sym behind.made.kept.count) behind.made.live_signers

    pub asks_names : CutsGoOn → All (λ (name : NameRow). name.signer < length press.press.ring) (names_of (configs_with press.press.at.configs groups))
    asks_names go =
        subst (λ (n : ℕ). All (λ (name : NameRow). name.signer < n) (names_of (configs_with press.press.at.configs groups))) (sym behind.made.kept.count)
        (names_signed go (length named.signers) is.lists (map (λ (seat : FollowerSeat). seat.seen) seats) press.press.at.cut groups press.press.at.configs within behind.seen behind.made.left.configs
        (omega (arith, behind.made.one_each, behind.made.left.desks)))

    -- ---- what it answers

    pub taken : (desk : ℕ) → length (seat_at seats desk).seen ≤ cut_at (cut_with press.press.at.cut groups) desk
    taken = seen_taken (length named.signers) is.lists seats press.press.at.cut groups within behind.seen

    pub answered : (ring : List SignerState) (prepared : NextValue) (told : PublishedNumbers) (shown : List ShownEdition) → IsNextEdition (start_of press.press clock groups) ring prepared
        → told ≡ published_of prepared.next → shown ≡ board.shown ++ shown_at prepared.next ∷ [] → IsAnswered told seats shown
    answered ring prepared told shown next told_is shown_is = record {
      edition = shown_at prepared.next;
      is = record {
        before = board.shown;
        last = shown_is;
        cut = λ desk. subst (λ (cut : List ℕ). length (seat_at seats desk).seen ≤ cut_at cut desk) (sym next.is_prepared.cut) (taken desk);
      };
      serial = ap (λ (p : PublishedNumbers). p.serial) (sym told_is);
      moment = ap (λ (p : PublishedNumbers). p.moment) (sym told_is);
      objects = ap (λ (p : PublishedNumbers). p.objects) (sym told_is);
      origins = ap (λ (p : PublishedNumbers). p.origins) (sym told_is);
    }

    nothing_shown : (serial : ℕ) → IsNothing (start_of press.press clock groups) serial → IsShownTo serial seats board.shown
    nothing_shown serial nothing =
        record {
          edition = shown_at press.press.at;
          is = record {
            before = shown_last.0;
            last = shown_last.1;
            cut = λ desk.
                let less = not_called press.press.at (cut_with press.press.at.cut groups) (moment_behind clock press.press.at.moment)
                (next_keys (basis_for (start_of press.press clock groups) nothing.sets)) nothing.called.answer desk in
                let all = taken desk in
                omega (arith, less, all);
          };
          serial_is = sym nothing.told;
        }

    pub refused_shown : (ring : List SignerState) (fault : PrepareFault D) → IsPrepareFault (start_of press.press clock groups) ring press.journal fault
        → IfSome (nothing_behind (Unprepared fault)) (λ serial. IsShownTo serial seats board.shown)
    refused_shown ring (prepare.Shut rose) why = tt
    refused_shown ring (prepare.ClockRange now met) why = tt
    refused_shown ring (prepare.SerialEnd value met) why = tt
    refused_shown ring (prepare.Nothing serial met) why = nothing_shown serial why.1.0
    refused_shown ring (prepare.SignerFault signer met) why = tt
    refused_shown ring (prepare.KeyClash id met) why = tt
    refused_shown ring (prepare.JournalFull held needed met) why = tt
    refused_shown ring prepare.Memory why = tt
