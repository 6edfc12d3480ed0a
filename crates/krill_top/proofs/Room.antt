-- The journals have room for what they hold and for what is in doubt, behind a legal history that left what
-- was found.
use Rattle.std.proofs.Common.{◌≡◌, ◌≢◌, ◌≤◌, ℕ, zero, suc, List, [], ◌∷◌, ◌++◌, get_or, replicate, refl, sym, ap, ◌∙◌, subst, inl, inr, append-nil}
use Rattle.std.specs.Prelude.{◌⊎◌, Option, None, Some, IfSome, All}
use Rattle.std.proofs.lemmas.List.Elements.{All-nil, All-cons, All-append}
use Rattle.authority_book.specs.declared.commands.Command.{Command}
use Rattle.authority_book.specs.Verdict.{most_authorities}
use Rattle.gate_journal.specs.Format.{held_by}
use Rattle.key_ids.specs.Uris.{Bases}
use Rattle.signer_api.specs.State.{SignerState}
use Rattle.signer_ring.specs.Calls.{Call}
use Rattle.editions.specs.Edition.{Edition}
use Rattle.editions.specs.PublishedState.{PublishedStateValue}
use Rattle.press_core.specs.Follows.{edition_of}
use Rattle.press_core.specs.JournalRecords.{AreRecords, press_limit, store_for}
use Rattle.press_core.specs.Stands.{IsLeftBy}
use Rattle.histories.specs.Acknowledged.{Acknowledged, acknowledged, commands_of, editions_of}
use Rattle.histories.specs.Events.{History}
use Rattle.histories.specs.Events.Event.{Reopen}
use Rattle.histories.specs.Legal.{IsLegal, bytes_for, most_bytes, press_bytes_for}
use Rattle.manager.specs.Closing.{doubted_edition}
use Rattle.manager.specs.Locked.{IsInDoubt, all_of}
use Rattle.manager.specs.Named.{Named}
use Rattle.manager.specs.Run.{Stood, editions_of as made_in, AreAfter}
use Rattle.krill_top.specs.DeskStates.{DeskStates, commands_at}
use Rattle.krill_top.specs.Histories.{MayFind, and_doubt}
use Rattle.krill_top.specs.InstanceState.{InstanceState, lists_of}
use Rattle.krill_top.specs.inner.Room.{IsEditionOfBytes}
use Rattle.krill_top.specs.inner.RunLaws.{RunLaws}
use Rattle.krill_top.proofs.Fitting.{read_all}
use Rattle.krill_top.proofs.RunHistories.{told_on}

-- ---- what was found

module _ (laws : RunLaws) (history : History) (begun : InstanceState) (find : MayFind history begun) where
  abbrev reopened : History
  reopened = history ++ record { signed = []; event = Reopen (lists_of begun.desk_states) begun.editions } ∷ []

  abbrev first_told : Acknowledged
  first_told = record { commands = replicate most_authorities []; editions = [] }

  told : acknowledged reopened ≡ record { commands = lists_of begun.desk_states; editions = begun.editions }
  told = told_on first_told history (record { signed = []; event = Reopen (lists_of begun.desk_states) begun.editions } ∷ [])

  legal : IsLegal begun.site reopened
  legal = laws.reopen begun.site history [] (lists_of begun.desk_states) begun.editions find.legal find.found

  got_commands : (states : DeskStates) (desk : ℕ) → get_or (lists_of states) desk [] ≡ commands_at states desk
  got_commands [] desk = refl
  got_commands (state ∷ states) zero = refl
  got_commands (state ∷ states) (suc desk) = got_commands states desk

  pub found_fits : (desk : ℕ) → bytes_for (commands_at begun.desk_states desk) ≤ most_bytes
  found_fits desk =
      let same : commands_of reopened desk ≡ commands_at begun.desk_states desk = ap (λ (a : Acknowledged). get_or a.commands desk []) told ∙ got_commands begun.desk_states desk in
      subst (λ (l : List Command). bytes_for l ≤ most_bytes) same (laws.limits begun.site reopened desk legal)

  pub found_press : begun.editions ≢ [] → press_bytes_for begun.site begun.editions ≤ press_limit
  found_press some =
      let same : editions_of reopened ≡ begun.editions = ap (λ (a : Acknowledged). a.editions) told in
      subst (λ (l : List Edition). press_bytes_for begun.site l ≤ press_limit) same (laws.press_limits begun.site reopened legal (λ none. some (sym same ∙ none)))

  pub found_bytes : All IsEditionOfBytes begun.editions
  found_bytes = subst (λ (l : List Edition). All IsEditionOfBytes l) (ap (λ (a : Acknowledged). a.editions) told) (laws.bytes begun.site reopened legal)

-- ---- the press

module _ (laws : RunLaws) (named : Named) (editions : List Edition) (lists : List (List Command)) (run : List Stood) (calls : List Call) (ring : List SignerState) (at : PublishedStateValue)
    (session : List ℕ) (site : Bases) where
  abbrev all : List Edition
  all = all_of editions run

  abbrev doubted : (doubt : Option (List ℕ)) → IfSome doubt (IsInDoubt named editions lists run calls ring at) → Option Edition
  doubted = doubted_edition named editions lists run calls ring at

  pub press_room : (records : Option (List (List ℕ))) → IfSome records (AreRecords (store_for session site) all) → IsLeftBy lists all at
      → (run ≡ []) ⊎ IfSome records (λ r. held_by r ≤ press_limit) → (doubt : Option (List ℕ)) (is : IfSome doubt (IsInDoubt named editions lists run calls ring at))
      → IfSome doubt (λ entry. IfSome records (λ r. held_by (r ++ entry ∷ []) ≤ press_limit)) → (editions ≢ [] → press_bytes_for site editions ≤ press_limit)
      → (records ≡ None → and_doubt all (doubted doubt is) ≢ [] → press_bytes_for site (and_doubt all (doubted doubt is)) ≤ press_limit)
      → and_doubt all (doubted doubt is) ≢ [] → press_bytes_for site (and_doubt all (doubted doubt is)) ≤ press_limit
  press_room None are left room doubt is fits small unknown some = unknown refl some
  press_room (Some records) are left (inl none) None is fits small unknown some =
      let same : all ≡ editions = ap (λ (r : List Stood). editions ++ made_in r) none ∙ append-nil editions in
      subst (λ (l : List Edition). press_bytes_for site l ≤ press_limit) (sym same) (small (λ e. some (same ∙ e)))
  press_room (Some records) are left (inr whole) None is fits small unknown some = subst (λ (n : ℕ). n ≤ press_limit) (laws.takes session site all records are) whole
  press_room (Some records) are left room (Some entry) is fits small unknown some =
      subst (λ (n : ℕ). n ≤ press_limit)
      (laws.takes session site (all ++ edition_of is.prepared ∷ []) (records ++ entry ∷ [])
      (laws.records lists all at is.prepared (store_for session site) records entry left are is.recorded)) fits

  -- what is put

  run_bytes : (before : List Edition) (stood : List Stood) → AreAfter lists before stood → All IsEditionOfBytes (made_in stood)
  run_bytes before [] after = All-nil IsEditionOfBytes
  run_bytes before (one ∷ stood) after = All-cons IsEditionOfBytes one.edition (made_in stood) (read_all one.edition.changes after.0.readable) (run_bytes (before ++ one.edition ∷ []) stood after.1)

  doubt_bytes : All IsEditionOfBytes all → (doubt : Option (List ℕ)) (is : IfSome doubt (IsInDoubt named editions lists run calls ring at)) → All IsEditionOfBytes (and_doubt all (doubted doubt is))
  doubt_bytes are None is = are
  doubt_bytes are (Some entry) is = All-append IsEditionOfBytes all (edition_of is.prepared ∷ []) are
      (All-cons IsEditionOfBytes (edition_of is.prepared) [] (read_all is.prepared.changes is.readable) (All-nil IsEditionOfBytes))

  pub made_bytes : All IsEditionOfBytes editions → AreAfter lists editions run → (doubt : Option (List ℕ)) (is : IfSome doubt (IsInDoubt named editions lists run calls ring at))
      → All IsEditionOfBytes (and_doubt all (doubted doubt is))
  made_bytes found after doubt is = doubt_bytes (All-append IsEditionOfBytes editions (made_in run) found (run_bytes editions run after)) doubt is
