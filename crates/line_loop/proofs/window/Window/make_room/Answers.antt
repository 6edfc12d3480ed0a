use Rattle.std.proofs.Common.{◌≡◌, ℕ, ◌-◌, ◌++◌, List, length, take, drop, sym, ap, ◌∙◌, subst, arith}
use Rattle.line_loop.specs.inner.Pending.{NoFeed}
use Rattle.line_loop.proofs.Parts.{moved_up_to, written_back}
use Rattle.line_loop.proofs.window.Window.make_room.Goals as goal

pub invariant_of-self : goal.invariant_of-self
invariant_of-self c =
    let w = c.self.inside in
    let old = w.buffer.items in
    let new = c.move_to_front.new.buffer in
    let sizes = w.buffer.ok.0 in
    let whole : take w.buffer.len (new ++ drop (length new) old) ≡ new =
    written_back old new w.buffer.len (omega (arith, c.move_to_front.auto.buffer, c.deref_mut.ensures.len)) (omega arith) in (
      omega arith,
      omega (arith, c.self.invariant.1),
      omega (arith, c.self.invariant.2),
      c.self.invariant.3,
      subst (λ (xs : List ℕ). NoFeed (take (w.seen - w.start) xs)) (sym whole)
          (moved_up_to NoFeed old new w.start w.seen w.end c.self.invariant.0 c.self.invariant.1
          (c.move_to_front.ensures ∙ ap (λ (xs : List ℕ). drop w.start (take w.end xs)) c.deref_mut.ensures.value) c.self.invariant.4),
    )
