-- Keys dropped one after another.
use Rattle.std.proofs.Common.{◌∙◌, refl, subst, List, [], ◌∷◌, ◌++◌}
use Rattle.signer_api.specs.State.{SignerState}
use Rattle.signer_ring.specs.Ring.{Keeps}
use Rattle.editions.specs.declared.ended.EndedKey.{EndedKey}
use Rattle.press_core.specs.Press.{DropsOne, DropsEach}

-- One key more.
pub drops-more : (before : List EndedKey) (ended : EndedKey) (old between new : List SignerState) → DropsEach before old between → DropsOne ended between new →
    DropsEach (before ++ ended ∷ []) old new
drops-more [] ended old between new same one = (new, subst (λ (s : List SignerState). DropsOne ended s new) same one, refl)
drops-more (first ∷ before) ended old between new each one = (each.0, each.1, drops-more before ended each.0 between new each.2 one)

pub kept-none : (signers : List SignerState) → Keeps signers signers
kept-none signers = record { count = refl; told = λ h. h; vouched = λ key digest signature h. h }

pub kept-more : (old between new : List SignerState) → Keeps old between → Keeps between new → Keeps old new
kept-more old between new first second = record {
  count = second.count ∙ first.count;
  told = λ h. second.told (first.told h);
  vouched = λ key digest signature h. second.vouched key digest signature (first.vouched key digest signature h);
}
