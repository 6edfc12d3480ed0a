use Rattle.std.proofs.Common.{◌≡◌, List, ℕ, drop, ap, ◌∙◌}
use Rattle.std.proofs.lemmas.Result.{IfOk-weaker}
use Rattle.press_core.proofs.Entries.{drop-front}
use Rattle.press_core.proofs.stored.entry_with.Goals as goal

pub returns : goal.returns
returns c =
    IfOk-weaker c.new.result _ (λ (entry : List ℕ). entry ≡ c.args.built.now)
    (λ entry is. is ∙ (ap (λ (bytes : List ℕ). drop 8 bytes) c.in_ok-write.ensures
    ∙ drop-front 8 c.in_ok-buffer.buffer.items c.args.built.now c.in_ok-buffer.ensures)) c.new.ensures
