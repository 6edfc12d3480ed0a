-- The signers of the names, before and after a command.
use Rattle.std.proofs.Common.{◌≡◌, ℕ, zero, suc, ◌<◌, Bool, true, false, List, [], ◌∷◌, ◌++◌, length, refl, sym, subst, arith}
use Rattle.std.specs.Prelude.{Option, None, Some, Ok, All, not, nat_le}
use Rattle.std.proofs.lemmas.Bool.{leb-false}
use Rattle.std.proofs.lemmas.Option.{none-some}
use Rattle.std.proofs.lemmas.List.Elements.{All-push}
use Rattle.authority_book.specs.declared.commands.Command.{Command}
use Rattle.authority_book.specs.declared.commands.Command.TheVariants.{Add, Delete, AddParent, AddChild, UpdateChild, RemoveChild, SuspendChild, UnsuspendChild, UpdateRoas, InitRoll, ActivateRoll}
use Rattle.authority_book.specs.declared.refusals.Refusal.{Refusal}
use Rattle.authority_book.specs.declared.refusals.Refusal.TheVariants.{Deleted, NameTaken, TooManyAuthorities, NoSuchSigner, AnchorOnly}
use Rattle.authority_book.specs.declared.rows.NameRow.{NameRow}
use Rattle.authority_book.specs.Listed.{is_listed}
use Rattle.authority_book.specs.Settings.{Settings}
use Rattle.authority_book.specs.Verdict.{verdict_of, refused_or_ok, refused_if, first_cause, is_anchor, most_authorities, lacks_signer}
use Rattle.authority_book.specs.Fold.{fold_of, after, after_all}
use Rattle.krill_top.specs.DeskStates.{DeskStates, DeskState, ChangesOne, commands_of, commands_at, names_in, desk_named}
use Rattle.krill_top.specs.Outcomes.{Outcome, Does, CommandedAt}
use Rattle.krill_top.specs.Outcomes.Outcome.{Accepted, NoSuchAuthority, Shut, Verdict, JournalFull, DiskFault, Memory}
use Rattle.krill_top.proofs.Standing.{get_set_same, get_set_other}

abbrev AreBelow : ℕ → List NameRow → Type 0
AreBelow signers names = All (λ (name : NameRow). name.signer < signers) names

-- ---- one command

granted_cause : (cause : Option Refusal) → refused_or_ok cause ≡ Ok tt → cause ≡ None
granted_cause None is = refl
granted_cause (Some refusal) is = absurd (cc)

last_cause : (a b c d e : Bool)
    → first_cause (refused_if a Deleted) (first_cause (refused_if b AnchorOnly) (first_cause (refused_if c NameTaken) (first_cause (refused_if d TooManyAuthorities) (refused_if e NoSuchSigner)))) ≡ None
    → e ≡ false
last_cause true b c d e is = absurd (none-some Deleted (sym is))
last_cause false true c d e is = absurd (none-some AnchorOnly (sym is))
last_cause false false true d e is = absurd (none-some NameTaken (sym is))
last_cause false false false true e is = absurd (none-some TooManyAuthorities (sym is))
last_cause false false false false true is = absurd (none-some NoSuchSigner (sym is))
last_cause false false false false false is = refl

below : (signers signer : ℕ) → nat_le signers signer ≡ false → signer < signers
below signers signer is = leb-false signers signer is

names_after : (settings : Settings) (command : Command) (signers : ℕ) → verdict_of settings command (Some signers) ≡ Ok tt → AreBelow signers settings.names → AreBelow signers (after settings command).names
names_after settings (Add name signer) signers is all =
    All-push (λ (row : NameRow). row.signer < signers) settings.names (record { name = name; signer = signer }) all
    (below signers signer (last_cause settings.deleted (not (is_anchor settings)) (is_listed settings.names name) (nat_le most_authorities (length settings.names)) (lacks_signer signer (Some signers)) (granted_cause _ is)))
names_after settings Delete signers is all = all
names_after settings (AddParent parent) signers is all = all
names_after settings (AddChild child grant) signers is all = all
names_after settings (UpdateChild child grant) signers is all = all
names_after settings (RemoveChild child) signers is all = all
names_after settings (SuspendChild child) signers is all = all
names_after settings (UnsuspendChild child) signers is all = all
names_after settings (UpdateRoas added removed) signers is all = all
names_after settings InitRoll signers is all = all
names_after settings ActivateRoll signers is all = all

fold_push : (settings : Settings) (commands : List Command) (command : Command) → after_all settings (commands ++ command ∷ []) ≡ after (after_all settings commands) command
fold_push settings [] command = refl
fold_push settings (first ∷ rest) command = fold_push (after settings first) rest command

-- ---- the anchor's desk

abbrev NamesBelow : ℕ → List Command → Type 0
NamesBelow signers commands = AreBelow signers (fold_of 0 commands).names

desk_does : (command : Command) (signers : ℕ) (outcome : Outcome) (was is : DeskState) → Does 0 command signers outcome was is → NamesBelow signers was.commands → NamesBelow signers is.commands
desk_does command signers (Accepted count) was is does all =
    subst (λ (s : DeskState). NamesBelow signers s.commands) (sym does.grown)
    (subst (λ (s : Settings). AreBelow signers s.names) (sym (fold_push (fold_of 0 []) was.commands command))
    (names_after (fold_of 0 was.commands) command signers does.place.may_come.verdict all))
desk_does command signers NoSuchAuthority was is does all = absurd does
desk_does command signers (Shut rise) was is does all = subst (λ (s : DeskState). NamesBelow signers s.commands) (sym does.same) all
desk_does command signers (Verdict refusal) was is does all = subst (λ (s : DeskState). NamesBelow signers s.commands) (sym does.same) all
desk_does command signers (JournalFull held needed) was is does all = subst (λ (s : DeskState). NamesBelow signers s.commands) (sym does.same) all
desk_does command signers (DiskFault rise) was is does all = subst (λ (s : DeskState). NamesBelow signers s.commands) (sym does.doubted) all
desk_does command signers Memory was is does all = subst (λ (s : DeskState). NamesBelow signers s.commands) (sym does.same) all

changes_names : (number : ℕ) (command : Command) (signers : ℕ) (outcome : Outcome) (before after : DeskStates) → ChangesOne number (Does number command signers outcome) before after
    → NamesBelow signers (commands_at before 0) → NamesBelow signers (commands_at after 0)
changes_names zero command signers outcome before after one all =
    subst (λ (s : DeskStates). NamesBelow signers (commands_at s 0)) (sym one.put)
    (subst (λ (o : Option DeskState). NamesBelow signers (commands_of o)) (sym (get_set_same before 0 one.is one.was one.found))
    (desk_does command signers outcome one.was one.is one.changes
    (subst (λ (o : Option DeskState). NamesBelow signers (commands_of o)) one.found all)))
changes_names (suc number) command signers outcome before after one all =
    subst (λ (s : DeskStates). NamesBelow signers (commands_at s 0)) (sym one.put)
    (subst (λ (o : Option DeskState). NamesBelow signers (commands_of o)) (sym (get_set_other before (suc number) 0 one.is (λ e. absurd (omega (arith, e))))) all)

at_desk : (number : Option ℕ) (command : Command) (signers : ℕ) (outcome : Outcome) (before after : DeskStates) → CommandedAt number command signers outcome before after
    → AreBelow signers (names_in before) → AreBelow signers (names_in after)
at_desk None command signers outcome before after is all = subst (λ (s : DeskStates). AreBelow signers (names_in s)) (sym is.1) all
at_desk (Some number) command signers outcome before after is all = changes_names number command signers outcome before after is all

pub commanded_names : (name : List ℕ) (command : Command) (signers : ℕ) (outcome : Outcome) (before after : DeskStates) → CommandedAt (desk_named before name) command signers outcome before after
    → All (λ (row : NameRow). row.signer < signers) (names_in before) → All (λ (row : NameRow). row.signer < signers) (names_in after)
commanded_names name command signers outcome before after is all = at_desk (desk_named before name) command signers outcome before after is all
