use Rattle.std.proofs.Common.{◌∷◌, [], List, ℕ}
use Rattle.signer_line.proofs.LineLemmas.{parts_spelled, stripped, once_both, no_blank}
use Rattle.signer_line.proofs.answer.once_parts.Goals as goal

pub returns-clause-spelled : goal.returns-clause-spelled
returns-clause-spelled c =
    let word : List ℕ = 111 ∷ 110 ∷ 99 ∷ 101 ∷ 32 ∷ [] in
    let blank : List ℕ = 32 ∷ [] in
    let a = c.in_ok-digits.ensures.cases in
    let d = c.in_ok-signature.ensures.cases in
    parts_spelled _ _ _ _ _ (stripped 5 _ word _ a.0 a.1) c.split_at.ensures.by_index.0 (stripped 1 _ blank _ d.0 d.1)

pub returns-in_err-signature-clause-every : goal.returns-in_err-signature-clause-every
returns-in_err-signature-clause-every c = λ key signature long spelled.
    absurd (no_blank _ _ _ key signature c.in_ok-digits.ensures.cases.1 c.split_at.ensures.back long spelled c.in_err-signature.ensures.cases)

pub returns-clause-every : goal.returns-clause-every
returns-clause-every c = λ key signature long spelled.
    once_both _ _ _ _ _ key signature c.in_ok-digits.ensures.cases.1 c.split_at.ensures.front c.split_at.ensures.back c.in_ok-signature.ensures.cases.1 long spelled
