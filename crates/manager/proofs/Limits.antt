-- That desks' journals have room for their records.
use Rattle.std.proofs.Common.{◌≡◌, ℕ, ◌+◌, ◌≤◌, List, [], ◌∷◌, ◌++◌, map, length, get_or, sym, ◌∙◌, ap, subst, arith, inl, inr, ⊎_elim}
use Rattle.authority_book.specs.declared.commands.Command.{Command}
use Rattle.cmd_codec.specs.Spelling.{spelling}
use Rattle.gate_journal.specs.Format.{taken_by, held_by}
use Rattle.desk_core.specs.View.{View, journal_limit}
use Rattle.desk_core.specs.Answers.{needed_for}
use Rattle.manager.specs.Named.{Named}
use Rattle.manager.specs.Limits.{IsWithinLimit}

taken_push : (records : List (List ℕ)) (entry : List ℕ) → taken_by (map length (records ++ entry ∷ [])) ≡ taken_by (map length records) + (length entry + 9)
taken_push [] entry = omega arith
taken_push (first ∷ records) entry = let rest = taken_push records entry in omega (arith, rest)

-- a record more takes its bytes and 9
pub held_push : (records : List (List ℕ)) (entry : List ℕ) → held_by (records ++ entry ∷ []) ≡ held_by records + (length entry + 9)
held_push records entry = let more = taken_push records entry in omega (arith, more)

pub fits_push : (records : List (List ℕ)) (command : Command) → held_by records + needed_for command ≤ journal_limit → held_by (records ++ spelling command ∷ []) ≤ journal_limit
fits_push records command fits = subst (λ (n : ℕ). n ≤ journal_limit) (sym (held_push records (spelling command))) fits

module _ {D : Type 0} (named : Named) (old new : View D) where
  pub limit_taken : (command : Command) → held_by old.records + needed_for command ≤ journal_limit → new.records ≡ old.records ++ spelling command ∷ [] → IsWithinLimit named new
  limit_taken command fits recorded = inr (subst (λ (r : List (List ℕ)). held_by r ≤ journal_limit) (sym recorded) (fits_push old.records command fits))

  pub limit_same : new.records ≡ old.records → new.number ≡ old.number → IsWithinLimit named old → IsWithinLimit named new
  limit_same records number was = ⊎_elim
      (λ (found : old.records ≡ get_or named.records old.number []). inl (records ∙ (found ∙ ap (λ (n : ℕ). get_or named.records n []) (sym number))))
      (λ (fits : held_by old.records ≤ journal_limit). inr (subst (λ (r : List (List ℕ)). held_by r ≤ journal_limit) (sym records) fits))
      was
