-- What a verdict granted is accepted, however many signers there are.
use Rattle.std.proofs.Common.{◌≡◌, ℕ, Bool, true, false, refl, sym}
use Rattle.std.proofs.lemmas.Option.{none-some}
use Rattle.std.specs.Prelude.{Option, None, Some, Ok, not, length, nat_le}
use Rattle.authority_book.specs.declared.commands.Command.{Command}
use Rattle.authority_book.specs.declared.commands.Command.TheVariants.{Add, Delete, AddParent, AddChild, UpdateChild, RemoveChild, SuspendChild, UnsuspendChild, UpdateRoas, InitRoll, ActivateRoll}
use Rattle.authority_book.specs.declared.refusals.Refusal.{Refusal}
use Rattle.authority_book.specs.declared.refusals.Refusal.TheVariants.{Deleted, NameTaken, TooManyAuthorities, NoSuchSigner, AnchorOnly}
use Rattle.authority_book.specs.Listed.{is_listed}
use Rattle.authority_book.specs.Settings.{Settings}
use Rattle.authority_book.specs.Verdict.{IsAccepted, verdict_of, refused_or_ok, refused_if, first_cause, is_anchor, most_authorities, lacks_signer}

accepted_of : (cause : Option Refusal) → refused_or_ok cause ≡ Ok tt → cause ≡ None
accepted_of None is = refl
accepted_of (Some refusal) is = absurd (cc)

without_signers : (a b c d e : Bool)
    → first_cause (refused_if a Deleted) (first_cause (refused_if b AnchorOnly) (first_cause (refused_if c NameTaken) (first_cause (refused_if d TooManyAuthorities) (refused_if e NoSuchSigner)))) ≡ None
    → first_cause (refused_if a Deleted) (first_cause (refused_if b AnchorOnly) (first_cause (refused_if c NameTaken) (first_cause (refused_if d TooManyAuthorities) (refused_if false NoSuchSigner)))) ≡ None
without_signers true b c d e is = absurd (none-some Deleted (sym is))
without_signers false true c d e is = absurd (none-some AnchorOnly (sym is))
without_signers false false true d e is = absurd (none-some NameTaken (sym is))
without_signers false false false true e is = absurd (none-some TooManyAuthorities (sym is))
without_signers false false false false e is = refl

pub granted_accepted : (settings : Settings) (command : Command) (signers : ℕ) → verdict_of settings command (Some signers) ≡ Ok tt → IsAccepted settings command
granted_accepted settings (Add name signer) signers is =
    without_signers settings.deleted (not (is_anchor settings)) (is_listed settings.names name) (nat_le most_authorities (length settings.names)) (lacks_signer signer (Some signers)) (accepted_of _ is)
granted_accepted settings Delete signers is = accepted_of _ is
granted_accepted settings (AddParent parent) signers is = accepted_of _ is
granted_accepted settings (AddChild child grant) signers is = accepted_of _ is
granted_accepted settings (UpdateChild child grant) signers is = accepted_of _ is
granted_accepted settings (RemoveChild child) signers is = accepted_of _ is
granted_accepted settings (SuspendChild child) signers is = accepted_of _ is
granted_accepted settings (UnsuspendChild child) signers is = accepted_of _ is
granted_accepted settings (UpdateRoas added removed) signers is = accepted_of _ is
granted_accepted settings InitRoll signers is = accepted_of _ is
granted_accepted settings ActivateRoll signers is = accepted_of _ is
