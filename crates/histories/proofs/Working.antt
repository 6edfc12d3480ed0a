-- What was done to a store is a part of a legal history.
use Rattle.std.proofs.Common.{◌≡◌, ℕ, ◌+◌, zero, suc, refl, sym, subst, ◌∙◌, ap, true, false, List, [], ◌∷◌, ◌++◌, length, map, append_assoc, Some, None}
use Rattle.std.specs.Prelude.{All, Option, IfSome, slice_get}
use Rattle.std.proofs.lemmas.Bool.{false≢true}
use Rattle.std.proofs.lemmas.List.{append-nil}
use Rattle.std.proofs.lemmas.List.Elements.{All-nil, All-cons, All-append}
use Rattle.std.proofs.Math.Seq.{take-append_seam}
use Rattle.authority_book.specs.declared.commands.Command.{Command}
use Rattle.key_ids.specs.Uris.{Bases}
use Rattle.editions.specs.Edition.{Edition}
use Rattle.editions.specs.Step.{Premises}
use Rattle.histories.specs.Devices.{Device, Signature, Store, opened, failed, with_one, changed_at, lists_of, doubt_at, for_desk, are_vouched, new_store}
use Rattle.histories.specs.Events.{Happening, History, after_one, after_all, signing}
use Rattle.histories.specs.Events.Event.{Commit, Publish, DeskFault, PressFault, Reopen}
use Rattle.histories.specs.Legal.{AreAllowed, IsLegal, IsNextCommand, FollowsTheOthers, InTurn, ground_of}
use Rattle.histories.specs.Acknowledged.{acknowledged, signatures_of}
use Rattle.histories.specs.Found.{AreFoundAfter, store_after}
use Rattle.histories.specs.Work.{Work, IsListWork, AreListWorks, IsWork, ground_with, IsAtWork, with_work, GoesOnAs}
use Rattle.histories.specs.Worked.{happens}
use Rattle.histories.proofs.GoesOn.{reopenings}
use Rattle.histories.proofs.Growing.{after_on, ends_legal, joins_legal}
use Rattle.histories.proofs.Kept.{Stay}
use Rattle.histories.proofs.Lists.{seam}
use Rattle.histories.proofs.Told.{commands_are, editions_are, vouched_through}

abbrev AtWork : Happening → Type 0
AtWork happening = IsAtWork happening.event

-- A journal with the record in doubt, if there is one.
abbrev ended : {X : Type 0} → List X → Option X → Device X
ended list None = opened list
ended list (Some x) = failed x (opened list)

-- The one at the seam of two lists is changed.
changed_seam : {X : Type 0} (done : List X) (f : X → X) (x : X) (rest : List X) → changed_at (length done) f (done ++ x ∷ rest) ≡ done ++ f x ∷ rest
changed_seam [] f x rest = refl
changed_seam (first ∷ done) f x rest = ap (λ l. first ∷ l) (changed_seam done f x rest)

-- The next of a list in its turn.
turn_at : {X : Type 0} (May : List X → X → Type 0) (before : List X) (x : X) (later : List X) → InTurn May (before ++ x ∷ later) → May before x
turn_at {X} May before x later turns =
    subst (λ (l : List X). May l x) (take-append_seam before (x ∷ later)) (turns (length before) x (seam before x later))

one_more : {X : Type 0} (before : List X) (x : X) (later : List X) → (before ++ x ∷ []) ++ later ≡ before ++ x ∷ later
one_more before x later = append_assoc before (x ∷ []) later

-- ---- what happens at one desk

abbrev desk_events : ℕ → List Command → Option Command → History
desk_events desk [] None = []
desk_events desk [] (Some command) = happens (DeskFault desk command) ∷ []
desk_events desk (command ∷ commands) doubt = happens (Commit desk command) ∷ desk_events desk commands doubt

desk_at_work : (desk : ℕ) (commands : List Command) (doubt : Option Command) → All AtWork (desk_events desk commands doubt)
desk_at_work desk [] None = All-nil AtWork
desk_at_work desk [] (Some command) = All-cons AtWork (happens (DeskFault desk command)) [] tt (All-nil AtWork)
desk_at_work desk (command ∷ commands) doubt = All-cons AtWork (happens (Commit desk command)) (desk_events desk commands doubt) tt (desk_at_work desk commands doubt)

desk_unsigned : (desk : ℕ) (commands : List Command) (doubt : Option Command) → signatures_of (desk_events desk commands doubt) ≡ []
desk_unsigned desk [] None = refl
desk_unsigned desk [] (Some command) = refl
desk_unsigned desk (command ∷ commands) doubt = desk_unsigned desk commands doubt

signed_on : (history more : History) → signatures_of (history ++ more) ≡ signatures_of history ++ signatures_of more
signed_on [] more = refl
signed_on (h ∷ rest) more =
    ap (λ (s : List Signature). h.signed ++ s) (signed_on rest more) ∙ sym (append_assoc h.signed (signatures_of rest) (signatures_of more))

-- The store has these journals at its desks then, and else what it had.
record Becomes (store then : Store) (desks : List (Device Command)) : Type 0 where
  pub desks_are : then.desks ≡ desks
  pub press : then.press ≡ store.press
  pub vouched : then.vouched ≡ store.vouched
  pub running : then.stopped ≡ false

module _ (site : Bases) where
  desk_goes : (number : ℕ) (done : List (Device Command)) (rest : List (Device Command)) → number ≡ length done → (list commands : List Command) (doubt : Option Command) (store : Store)
      → store.stopped ≡ false → store.desks ≡ done ++ opened list ∷ rest → InTurn (IsNextCommand number) (list ++ commands) → IfSome doubt (IsNextCommand number (list ++ commands))
      → AreAllowed site store (desk_events number commands doubt)
      × Becomes store (after_all store (desk_events number commands doubt)) (done ++ ended (list ++ commands) doubt ∷ rest)
  desk_goes number done rest here list [] None store running desks turns next = (
    tt,
    record {
      desks_are = desks ∙ ap (λ (l : List Command). done ++ opened l ∷ rest) (sym (append-nil list));
      press = refl;
      vouched = refl;
      running = running;
    },
  )
  desk_goes number done rest here list [] (Some command) store running desks turns next = (
    (
      record {
        running = running;
        device = opened list;
        there = ap (λ (l : List (Device Command)). slice_get l number) desks ∙ ap (λ (n : ℕ). slice_get (done ++ opened list ∷ rest) n) here ∙ seam done (opened list) rest;
        is_open = refl;
        next = subst (λ (l : List Command). IsNextCommand number l command) (append-nil list) next;
      },
      tt,
    ),
    record {
      desks_are = ap (λ (l : List (Device Command)). changed_at number (failed command) l) desks
          ∙ ap (λ (n : ℕ). changed_at n (failed command) (done ++ opened list ∷ rest)) here ∙ changed_seam done (failed command) (opened list) rest
          ∙ ap (λ (l : List Command). done ++ failed command (opened l) ∷ rest) (sym (append-nil list));
      press = refl;
      vouched = append-nil store.vouched;
      running = running;
    },
  )
  desk_goes number done rest here list (command ∷ commands) doubt store running desks turns next =
      let then : Store = after_one store (happens (Commit number command)) in
      let then_desks : then.desks ≡ done ++ opened (list ++ command ∷ []) ∷ rest =
      ap (λ (l : List (Device Command)). changed_at number (with_one command) l) desks
      ∙ ap (λ (n : ℕ). changed_at n (with_one command) (done ++ opened list ∷ rest)) here ∙ changed_seam done (with_one command) (opened list) rest in
      let seamed : (list ++ command ∷ []) ++ commands ≡ list ++ command ∷ commands = one_more list command commands in
      let goes = desk_goes number done rest here (list ++ command ∷ []) commands doubt then running then_desks
      (subst (λ (l : List Command). InTurn (IsNextCommand number) l) (sym seamed) turns)
      (subst (λ (l : List Command). IfSome doubt (IsNextCommand number l)) (sym seamed) next) in (
        (
          record {
            running = running;
            device = opened list;
            there = ap (λ (l : List (Device Command)). slice_get l number) desks ∙ ap (λ (n : ℕ). slice_get (done ++ opened list ∷ rest) n) here ∙ seam done (opened list) rest;
            is_open = refl;
            next = turn_at (IsNextCommand number) list command commands turns;
          },
          goes.0,
        ),
        record {
          desks_are = goes.1.desks_are ∙ ap (λ (l : List Command). done ++ ended l doubt ∷ rest) seamed;
          press = goes.1.press;
          vouched = goes.1.vouched ∙ append-nil store.vouched;
          running = goes.1.running;
        },
      )

-- ---- and at all of them

abbrev all_ended : List (List Command) → List (Option Command) → List (Device Command)
all_ended [] doubts = []
all_ended (list ∷ lists) [] = []
all_ended (list ∷ lists) (doubt ∷ doubts) = ended list doubt ∷ all_ended lists doubts

abbrev desks_events : (number : ℕ) (founds lefts : List (List Command)) (doubts : List (Option Command)) → AreListWorks number founds lefts doubts → History
desks_events number [] [] [] works = []
desks_events number (found ∷ founds) (left ∷ lefts) (doubt ∷ doubts) works =
    desk_events number works.0.more doubt ++ desks_events (suc number) founds lefts doubts works.1
desks_events number [] [] (doubt ∷ doubts) works = absurd works
desks_events number [] (left ∷ lefts) doubts works = absurd works
desks_events number (found ∷ founds) [] doubts works = absurd works
desks_events number (found ∷ founds) (left ∷ lefts) [] works = absurd works

desks_at_work : (number : ℕ) (founds lefts : List (List Command)) (doubts : List (Option Command)) (works : AreListWorks number founds lefts doubts) → All AtWork (desks_events number founds lefts doubts works)
desks_at_work number [] [] [] works = All-nil AtWork
desks_at_work number (found ∷ founds) (left ∷ lefts) (doubt ∷ doubts) works =
    All-append AtWork (desk_events number works.0.more doubt) (desks_events (suc number) founds lefts doubts works.1) (desk_at_work number works.0.more doubt)
    (desks_at_work (suc number) founds lefts doubts works.1)
desks_at_work number [] [] (doubt ∷ doubts) works = absurd works
desks_at_work number [] (left ∷ lefts) doubts works = absurd works
desks_at_work number (found ∷ founds) [] doubts works = absurd works
desks_at_work number (found ∷ founds) (left ∷ lefts) [] works = absurd works

desks_unsigned : (number : ℕ) (founds lefts : List (List Command)) (doubts : List (Option Command)) (works : AreListWorks number founds lefts doubts) → signatures_of (desks_events number founds lefts doubts works) ≡ []
desks_unsigned number [] [] [] works = refl
desks_unsigned number (found ∷ founds) (left ∷ lefts) (doubt ∷ doubts) works =
    signed_on (desk_events number works.0.more doubt) (desks_events (suc number) founds lefts doubts works.1)
    ∙ (λ i. desk_unsigned number works.0.more doubt i ++ desks_unsigned (suc number) founds lefts doubts works.1 i)
desks_unsigned number [] [] (doubt ∷ doubts) works = absurd works
desks_unsigned number [] (left ∷ lefts) doubts works = absurd works
desks_unsigned number (found ∷ founds) [] doubts works = absurd works
desks_unsigned number (found ∷ founds) (left ∷ lefts) [] works = absurd works

lists_ended : (number : ℕ) (founds lefts : List (List Command)) (doubts : List (Option Command)) → AreListWorks number founds lefts doubts → lists_of (all_ended lefts doubts) ≡ lefts
lists_ended number [] [] [] works = refl
lists_ended number (found ∷ founds) (left ∷ lefts) (None ∷ doubts) works = ap (λ (l : List (List Command)). left ∷ l) (lists_ended (suc number) founds lefts doubts works.1)
lists_ended number (found ∷ founds) (left ∷ lefts) (Some command ∷ doubts) works = ap (λ (l : List (List Command)). left ∷ l) (lists_ended (suc number) founds lefts doubts works.1)
lists_ended number [] [] (doubt ∷ doubts) works = absurd works
lists_ended number [] (left ∷ lefts) doubts works = absurd works
lists_ended number (found ∷ founds) [] doubts works = absurd works
lists_ended number (found ∷ founds) (left ∷ lefts) [] works = absurd works

doubts_ended : (number : ℕ) (founds lefts : List (List Command)) (doubts : List (Option Command)) → AreListWorks number founds lefts doubts → (desk : ℕ) → doubt_at (all_ended lefts doubts) desk ≡ for_desk doubts desk
doubts_ended number [] [] [] works desk = refl
doubts_ended number (found ∷ founds) (left ∷ lefts) (None ∷ doubts) works zero = refl
doubts_ended number (found ∷ founds) (left ∷ lefts) (Some command ∷ doubts) works zero = refl
doubts_ended number (found ∷ founds) (left ∷ lefts) (doubt ∷ doubts) works (suc desk) = doubts_ended (suc number) founds lefts doubts works.1 desk
doubts_ended number [] [] (doubt ∷ doubts) works desk = absurd works
doubts_ended number [] (left ∷ lefts) doubts works desk = absurd works
doubts_ended number (found ∷ founds) [] doubts works desk = absurd works
doubts_ended number (found ∷ founds) (left ∷ lefts) [] works desk = absurd works

longer : {X : Type 0} (done : List X) (x : X) → length (done ++ x ∷ []) ≡ suc (length done)
longer [] x = refl
longer (first ∷ done) x = ap suc (longer done x)

module _ (site : Bases) where
  desks_go : (number : ℕ) (done : List (Device Command)) → number ≡ length done → (founds lefts : List (List Command)) (doubts : List (Option Command)) (works : AreListWorks number founds lefts doubts) (store : Store)
      → store.stopped ≡ false → store.desks ≡ done ++ map opened founds
      → AreAllowed site store (desks_events number founds lefts doubts works)
      × Becomes store (after_all store (desks_events number founds lefts doubts works)) (done ++ all_ended lefts doubts)
  desks_go number done here [] [] [] works store running desks = (tt, record { desks_are = desks; press = refl; vouched = refl; running = running })
  desks_go number done here (found ∷ founds) (left ∷ lefts) (doubt ∷ doubts) works store running desks =
      let work : IsListWork number found left doubt = works.0 in
      let events = desk_events number work.more doubt in
      let rest = desks_events (suc number) founds lefts doubts works.1 in
      let one = desk_goes site number done (map opened founds) here found work.more doubt store running desks
      (subst (λ (l : List Command). InTurn (IsNextCommand number) l) work.grows work.turns)
      (subst (λ (l : List Command). IfSome doubt (IsNextCommand number l)) work.grows work.next) in
      let then : Store = after_all store events in
      let last : Device Command = ended left doubt in
      let then_desks : then.desks ≡ (done ++ last ∷ []) ++ map opened founds =
      one.1.desks_are ∙ ap (λ (l : List Command). done ++ ended l doubt ∷ map opened founds) (sym work.grows) ∙ sym (one_more done last (map opened founds)) in
      let all = desks_go (suc number) (done ++ last ∷ []) (ap suc here ∙ sym (longer done last)) founds lefts doubts works.1 then one.1.running then_desks in
      let joined : after_all store (events ++ rest) ≡ after_all then rest = after_on store events rest in (
        joins_legal site store events rest one.0 all.0,
        subst (λ (s : Store). Becomes store s (done ++ last ∷ all_ended lefts doubts)) (sym joined)
            (record {
              desks_are = all.1.desks_are ∙ one_more done last (all_ended lefts doubts);
              press = all.1.press ∙ one.1.press;
              vouched = all.1.vouched ∙ one.1.vouched;
              running = all.1.running;
            }),
      )
  desks_go number done here [] [] (doubt ∷ doubts) works store running desks = absurd works
  desks_go number done here [] (left ∷ lefts) doubts works store running desks = absurd works
  desks_go number done here (found ∷ founds) [] doubts works store running desks = absurd works
  desks_go number done here (found ∷ founds) (left ∷ lefts) [] works store running desks = absurd works

-- ---- the press

abbrev press_events : List Signature → List Edition → Option Edition → History
press_events signed [] None = []
press_events signed [] (Some edition) = record { signed = signed; event = PressFault edition } ∷ []
press_events signed (edition ∷ editions) doubt = record { signed = signed; event = Publish edition } ∷ press_events [] editions doubt

press_at_work : (signed : List Signature) (editions : List Edition) (doubt : Option Edition) → All AtWork (press_events signed editions doubt)
press_at_work signed [] None = All-nil AtWork
press_at_work signed [] (Some edition) = All-cons AtWork (record { signed = signed; event = PressFault edition }) [] tt (All-nil AtWork)
press_at_work signed (edition ∷ editions) doubt = All-cons AtWork (record { signed = signed; event = Publish edition }) (press_events [] editions doubt) tt (press_at_work [] editions doubt)

press_unsigned : (editions : List Edition) (doubt : Option Edition) → signatures_of (press_events [] editions doubt) ≡ []
press_unsigned [] None = refl
press_unsigned [] (Some edition) = refl
press_unsigned (edition ∷ editions) doubt = press_unsigned editions doubt

-- the signatures come with the first of them
press_signs : (signed : List Signature) (editions : List Edition) (doubt : Option Edition) (key digest bytes : List ℕ) → are_vouched (signatures_of (press_events signed editions doubt)) key digest bytes ≡ true
    → are_vouched signed key digest bytes ≡ true
press_signs signed [] None key digest bytes is = absurd (false≢true is)
press_signs signed [] (Some edition) key digest bytes is = subst (λ (s : List Signature). are_vouched s key digest bytes ≡ true) (append-nil signed) is
press_signs signed (edition ∷ editions) doubt key digest bytes is =
    subst (λ (s : List Signature). are_vouched s key digest bytes ≡ true) (append-nil signed)
    (subst (λ (s : List Signature). are_vouched (signed ++ s) key digest bytes ≡ true) (press_unsigned editions doubt) is)

record Publishes (store then : Store) (press : Device Edition) : Type 0 where
  pub desks : then.desks ≡ store.desks
  pub press_is : then.press ≡ press

module _ (site : Bases) (ground : Premises) (same_site : ground.site ≡ site) where
  press_goes : (signed : List Signature) (before editions : List Edition) (doubt : Option Edition) (store : Store) → store.stopped ≡ false → store.press ≡ opened before
      → lists_of store.desks ≡ ground.lists → are_vouched (store.vouched ++ signed) ≡ ground.vouched
      → InTurn (FollowsTheOthers ground) (before ++ editions) → IfSome doubt (FollowsTheOthers ground (before ++ editions))
      → AreAllowed site store (press_events signed editions doubt) × Publishes store (after_all store (press_events signed editions doubt)) (ended (before ++ editions) doubt)
  press_goes signed before [] None store running press lists vouched turns next = (
    tt,
    record { desks = refl; press_is = press ∙ ap (λ (l : List Edition). opened l) (sym (append-nil before)) },
  )
  press_goes signed before [] (Some edition) store running press lists vouched turns next =
      let same : ground_of site (signing store signed) ≡ ground = (λ i. record { lists = lists i; site = sym same_site i; vouched = vouched i }) in
      let list : store.press.list ≡ before = ap (λ (d : Device Edition). d.list) press in (
        (
          record {
            running = running;
            is_open = ap (λ (d : Device Edition). d.shut) press;
            next = subst (λ (g : Premises). FollowsTheOthers g store.press.list edition) (sym same)
                (subst (λ (l : List Edition). FollowsTheOthers ground l edition) (append-nil before ∙ sym list) next);
          },
          tt,
        ),
        record { desks = refl; press_is = ap (λ (d : Device Edition). failed edition d) press ∙ ap (λ (l : List Edition). failed edition (opened l)) (sym (append-nil before)) },
      )
  press_goes signed before (edition ∷ editions) doubt store running press lists vouched turns next =
      let same : ground_of site (signing store signed) ≡ ground = (λ i. record { lists = lists i; site = sym same_site i; vouched = vouched i }) in
      let list : store.press.list ≡ before = ap (λ (d : Device Edition). d.list) press in
      let then : Store = after_one store (record { signed = signed; event = Publish edition }) in
      let seamed : (before ++ edition ∷ []) ++ editions ≡ before ++ edition ∷ editions = one_more before edition editions in
      let goes = press_goes [] (before ++ edition ∷ []) editions doubt then running (ap (λ (d : Device Edition). with_one edition d) press) lists
      (ap (λ (v : List Signature). are_vouched v) (append-nil (store.vouched ++ signed)) ∙ vouched)
      (subst (λ (l : List Edition). InTurn (FollowsTheOthers ground) l) (sym seamed) turns)
      (subst (λ (l : List Edition). IfSome doubt (FollowsTheOthers ground l)) (sym seamed) next) in (
        (
          record {
            running = running;
            is_open = ap (λ (d : Device Edition). d.shut) press;
            next = subst (λ (g : Premises). FollowsTheOthers g store.press.list edition) (sym same)
                (subst (λ (l : List Edition). FollowsTheOthers ground l edition) (sym list) (turn_at (FollowsTheOthers ground) before edition editions turns));
          },
          goes.0,
        ),
        record { desks = goes.1.desks; press_is = goes.1.press_is ∙ ap (λ (l : List Edition). ended l doubt) seamed },
      )

-- ---- all of it

module _ (stay : Stay) (site : Bases) (history : History) (signed : List Signature) (work : Work) (legal : IsLegal site history)
    (found : AreFoundAfter history work.found.commands work.found.editions) (is : IsWork site (are_vouched (signatures_of history ++ signed)) work) where
  abbrev reopening : Happening
  reopening = record { signed = []; event = Reopen work.found.commands work.found.editions }

  abbrev start : Store
  start = after_one (store_after history) reopening

  abbrev first : History
  first = desks_events 0 work.found.commands work.left.commands work.doubts is.desks

  abbrev then : History
  then = press_events signed is.more work.doubt

  desks_gone : AreAllowed site start first × Becomes start (after_all start first) (all_ended work.left.commands work.doubts)
  desks_gone = desks_go site 0 [] refl work.found.commands work.left.commands work.doubts is.desks start refl refl

  start_vouched : start.vouched ≡ signatures_of history
  start_vouched = append-nil (store_after history).vouched ∙ vouched_through new_store history

  press_gone : AreAllowed site (after_all start first) then × Publishes (after_all start first) (after_all (after_all start first) then) (ended work.left.editions work.doubt)
  press_gone =
      let gone = desks_gone.1 in
      let goes = press_goes site (ground_with site (are_vouched (signatures_of history ++ signed)) work) refl signed work.found.editions is.more work.doubt (after_all start first) gone.running gone.press
      (ap lists_of gone.desks_are ∙ lists_ended 0 work.found.commands work.left.commands work.doubts is.desks)
      (ap (λ (v : List Signature). are_vouched (v ++ signed)) (gone.vouched ∙ start_vouched))
      (subst (λ (l : List Edition). InTurn (FollowsTheOthers (ground_with site (are_vouched (signatures_of history ++ signed)) work)) l) is.grows is.turns)
      (subst (λ (l : List Edition). IfSome work.doubt (FollowsTheOthers (ground_with site (are_vouched (signatures_of history ++ signed)) work) l)) is.grows is.next) in
      (goes.0, subst (λ (l : List Edition). Publishes (after_all start first) (after_all (after_all start first) then) (ended l work.doubt)) (sym is.grows) goes.1)

  whole : store_after (with_work history work (first ++ then)) ≡ after_all (after_all start first) then
  whole = after_on new_store history (reopening ∷ first ++ then) ∙ after_on start first then

  desks_are : (store_after (with_work history work (first ++ then))).desks ≡ all_ended work.left.commands work.doubts
  desks_are = ap (λ (s : Store). s.desks) whole ∙ press_gone.1.desks ∙ desks_gone.1.desks_are

  press_is : (store_after (with_work history work (first ++ then))).press ≡ ended work.left.editions work.doubt
  press_is = ap (λ (s : Store). s.press) whole ∙ press_gone.1.press_is

  ended_list : (list : List Edition) (doubt : Option Edition) → (ended list doubt).list ≡ list
  ended_list list None = refl
  ended_list list (Some edition) = refl

  ended_doubt : (list : List Edition) (doubt : Option Edition) → (ended list doubt).doubt ≡ doubt
  ended_doubt list None = refl
  ended_doubt list (Some edition) = refl

  unsigned : signatures_of (first ++ then) ≡ signatures_of then
  unsigned =
      signed_on first then
      ∙ ap (λ (s : List Signature). s ++ signatures_of then) (desks_unsigned 0 work.found.commands work.left.commands work.doubts is.desks)

  pub goes_on : GoesOnAs site history signed work
  goes_on =
      let all = with_work history work (first ++ then) in
      let commands : (acknowledged all).commands ≡ work.left.commands =
      sym (commands_are all) ∙ ap lists_of desks_are ∙ lists_ended 0 work.found.commands work.left.commands work.doubts is.desks in
      let editions : (acknowledged all).editions ≡ work.left.editions =
      sym (editions_are all) ∙ ap (λ (d : Device Edition). d.list) press_is ∙ ended_list work.left.editions work.doubt in
      record {
        more = first ++ then;
        at_work = All-append AtWork first then (desks_at_work 0 work.found.commands work.left.commands work.doubts is.desks) (press_at_work signed is.more work.doubt);
        signs = λ key digest bytes vouched. press_signs signed is.more work.doubt key digest bytes (subst (λ (s : List Signature). are_vouched s key digest bytes ≡ true) unsigned vouched);
        legal = joins_legal site new_store history (reopening ∷ first ++ then) legal (
          (ends_legal site new_store history (reopening ∷ []) (reopenings site history legal stay [] work.found.commands work.found.editions found)).0,
          joins_legal site start first then desks_gone.0 press_gone.0,
        );
        acknowledges = λ i. record { commands = commands i; editions = editions i };
        doubts = λ desk. ap (λ (d : List (Device Command)). doubt_at d desk) desks_are ∙ doubts_ended 0 work.found.commands work.left.commands work.doubts is.desks desk;
        doubt = ap (λ (d : Device Edition). d.doubt) press_is ∙ ended_doubt work.left.editions work.doubt;
      }
