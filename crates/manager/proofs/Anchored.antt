-- The trust anchor's desk alone has names.
use Rattle.std.proofs.Common.{◌≡◌, ◌≢◌, ℕ, ◌<◌, Bool, true, false, List, [], ◌∷◌, length, refl, sym, ap, ◌∙◌, subst, arith, ⊎_elim}
use Rattle.std.specs.Prelude.{Option, None, All, not, nat_le, ◌==◌, if◌then◌else◌}
use Rattle.std.proofs.lemmas.Bool.{cases_eq, true≢false}
use Rattle.std.proofs.lemmas.Bool.Decides.{nat_tests}
use Rattle.std.proofs.lemmas.Option.{none-some}
use Rattle.authority_book.specs.declared.commands.Command.{Command}
use Rattle.authority_book.specs.declared.commands.Command.TheVariants.{Add, Delete, AddParent, AddChild, UpdateChild, RemoveChild, SuspendChild, UnsuspendChild, UpdateRoas, InitRoll, ActivateRoll}
use Rattle.authority_book.specs.declared.refusals.Refusal.{Refusal}
use Rattle.authority_book.specs.declared.refusals.Refusal.TheVariants.{Deleted, AnchorOnly, NameTaken, TooManyAuthorities, NoSuchSigner}
use Rattle.authority_book.specs.declared.rows.NameRow.{NameRow}
use Rattle.authority_book.specs.Listed.{is_listed}
use Rattle.authority_book.specs.Settings.{Settings}
use Rattle.authority_book.specs.Verdict.{refused_if, first_cause, is_anchor, most_authorities, lacks_signer, IsAccepted}
use Rattle.authority_book.specs.Fold.{after, after_all, empty_settings, first_names, fold_of, AcceptedInTurn, Taken}

second_cause : (a b : Bool) (rest : Option Refusal) → first_cause (refused_if a Deleted) (first_cause (refused_if b AnchorOnly) rest) ≡ None → b ≡ false
second_cause true b rest is = absurd (none-some Deleted (sym is))
second_cause false true rest is = absurd (none-some AnchorOnly (sym is))
second_cause false false rest is = refl

same_desk : (settings : Settings) (command : Command) → (after settings command).desk ≡ settings.desk
same_desk settings (Add name signer) = refl
same_desk settings Delete = refl
same_desk settings (AddParent parent) = refl
same_desk settings (AddChild child grant) = refl
same_desk settings (UpdateChild child grant) = refl
same_desk settings (RemoveChild child) = refl
same_desk settings (SuspendChild child) = refl
same_desk settings (UnsuspendChild child) = refl
same_desk settings (UpdateRoas added removed) = refl
same_desk settings InitRoll = refl
same_desk settings ActivateRoll = refl

same_names : (settings : Settings) (command : Command) → is_anchor settings ≡ false → IsAccepted settings command → (after settings command).names ≡ settings.names
same_names settings (Add name signer) other is =
    absurd (true≢false (subst (λ (b : Bool). not b ≡ false) other (second_cause settings.deleted (not (is_anchor settings))
    (first_cause (refused_if (is_listed settings.names name) NameTaken) (first_cause (refused_if (nat_le most_authorities (length settings.names)) TooManyAuthorities) (refused_if (lacks_signer signer None) NoSuchSigner))) is)))
same_names settings Delete other is = refl
same_names settings (AddParent parent) other is = refl
same_names settings (AddChild child grant) other is = refl
same_names settings (UpdateChild child grant) other is = refl
same_names settings (RemoveChild child) other is = refl
same_names settings (SuspendChild child) other is = refl
same_names settings (UnsuspendChild child) other is = refl
same_names settings (UpdateRoas added removed) other is = refl
same_names settings InitRoll other is = refl
same_names settings ActivateRoll other is = refl

none_named : (settings : Settings) (commands : List Command) → is_anchor settings ≡ false → settings.names ≡ [] → AcceptedInTurn settings commands → (after_all settings commands).names ≡ []
none_named settings [] other none all = none
none_named settings (command ∷ rest) other none all =
    none_named (after settings command) rest (ap (λ (n : ℕ). n == 0) (same_desk settings command) ∙ other) (same_names settings command other all.0 ∙ none) all.1

not_zero : (n : ℕ) → n ≢ 0 → (n == 0) ≡ false
not_zero n away = grind (arith, nat_tests)

pub names_elsewhere : (number : ℕ) (commands : List Command) → number ≢ 0 → Taken number commands → (fold_of number commands).names ≡ []
names_elsewhere number commands away taken =
    let other : (number == 0) ≡ false = not_zero number away in
    none_named (empty_settings number) commands other (ap (λ (b : Bool). if b then first_names else []) other) taken

-- so where the anchor's names have their signers, those of each desk do
pub names_below : (signers number : ℕ) (commands : List Command) → Taken number commands → ((number ≡ 0) → All (λ (name : NameRow). name.signer < signers) (fold_of 0 commands).names)
    → All (λ (name : NameRow). name.signer < signers) (fold_of number commands).names
names_below signers number commands taken first = ⊎_elim
    (λ (same : number ≡ 0). subst (λ (n : ℕ). All (λ (name : NameRow). name.signer < signers) (fold_of n commands).names) (sym same) (first same))
    (λ (away : number ≢ 0). subst (λ (l : List NameRow). All (λ (name : NameRow). name.signer < signers) l) (sym (names_elsewhere number commands away taken)) (λ k d within. absurd (omega (arith, within))))
    (cases_eq number 0)
