-- A history with one event more, and what is told of it.
use Rattle.std.proofs.Common.{◌≡◌, ℕ, refl, sym, subst, ◌∙◌, ap, true, false, List, [], ◌∷◌, ◌++◌, append_assoc, append-nil}
use Rattle.std.specs.Prelude.{Bool, ◌||◌}
use Rattle.std.specs.List.{list_any}
use Rattle.std.proofs.lemmas.Bool.{false≢true}
use Rattle.std.proofs.lemmas.List.Folds.{list_any-append}
use Rattle.key_ids.specs.Uris.{Bases}
use Rattle.authority_book.specs.declared.commands.Command.{Command}
use Rattle.editions.specs.Edition.{Edition}
use Rattle.editions.specs.PublishedState.{PublishedStateValue}
use Rattle.editions.specs.Step.{Premises, BeginsWith, AreMore, IsMore}
use Rattle.press_core.specs.Stands.{StandsFor}
use Rattle.histories.specs.Devices.{Signature, Store, new_store, is_signature, are_vouched}
use Rattle.histories.specs.Events.{Happening, History, after_one, after_all, signing}
use Rattle.histories.specs.Legal.{IsAllowed, AreAllowed, IsLegal}
use Rattle.histories.specs.Found.{store_after}
use Rattle.test_histories.specs.declared.done.Done.{Done}
use Rattle.test_histories.specs.Told.{IsTold, AreTold}

-- What stands for editions does so where there is more.
abbrev pub MoreStands : Type 0
MoreStands = (less more : Premises) (editions : List Edition) (state : PublishedStateValue) → IsMore less more
    → StandsFor less editions state → StandsFor more editions state

-- ---- the history

after_on : (store : Store) (history more : History) → after_all store (history ++ more) ≡ after_all (after_all store history) more
after_on store [] more = refl
after_on store (h ∷ rest) more = after_on (after_one store h) rest more

joins : (site : Bases) (store : Store) (history more : History) → AreAllowed site store history
    → AreAllowed site (after_all store history) more → AreAllowed site store (history ++ more)
joins site store [] more legal next = next
joins site store (h ∷ rest) more legal next = (legal.0, joins site (after_one store h) rest more legal.1 next)

pub left_then : (history : History) (store : Store) → store_after history ≡ store → (h : Happening)
    → store_after (history ++ h ∷ []) ≡ after_one store h
left_then history store left h = after_on new_store history (h ∷ []) ∙ ap (λ (s : Store). after_one s h) left

pub legal_then : (site : Bases) (history : History) (store : Store) → store_after history ≡ store → IsLegal site history
    → (h : Happening) → IsAllowed site (signing store h.signed) h.event → IsLegal site (history ++ h ∷ [])
legal_then site history store left legal h may = joins site new_store history (h ∷ []) legal
    (subst (λ (s : Store). IsAllowed site (signing s h.signed) h.event) (sym left) may, tt)

-- ---- what is told of it

pub told_then : (done : List Done) (history : History) (one : Done) (happened : History) → AreTold done history
    → IsTold one happened → AreTold (done ++ one ∷ []) (history ++ happened)
told_then [] history one happened all is =
    (happened, [], ap (λ (h : History). h ++ happened) all ∙ sym (append-nil happened), is, refl)
told_then (first ∷ done) history one happened all is = (
  all.0,
  all.1 ++ happened,
  ap (λ (h : History). h ++ happened) all.2 ∙ append_assoc all.0 all.1 happened,
  all.3,
  told_then done all.1 one happened all.4 is,
)

-- ---- more commands

pub same_begins : (list : List Command) → BeginsWith list list
same_begins list = ([], sym (append-nil list))

pub same_are_more : (lists : List (List Command)) → AreMore lists lists
same_are_more [] = tt
same_are_more (list ∷ lists) = (same_begins list, same_are_more lists)

-- ---- more signatures

true_or : (a b : Bool) → a ≡ true → (a || b) ≡ true
true_or true b is = refl
true_or false b is = absurd (false≢true is)

pub still_vouched : (before more : List Signature) (key digest bytes : List ℕ) → are_vouched before key digest bytes ≡ true
    → are_vouched (before ++ more) key digest bytes ≡ true
still_vouched before more key digest bytes is =
    let test = is_signature key digest bytes in
    list_any-append test before more ∙ true_or (list_any test before) (list_any test more) is
