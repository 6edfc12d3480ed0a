use Rattle.std.proofs.Common.{◌≡◌, ℕ, ◌-◌, ◌≤◌, ◌++◌, List, length, take, drop, sym, ap, ◌∙◌, subst, arith}
use Rattle.line_loop.specs.inner.Pending.{NoFeed}
use Rattle.line_loop.proofs.Parts.{same_shorter, written_back}
use Rattle.line_loop.specs.declared.window.TheConstants.{BUFFER_LEN}
use Rattle.line_loop.proofs.window.Window.fill.Goals as goal
use Rattle.line_loop.proofs.window.Window.fill.Goals.{then-free-most, else-free-most}

pub invariant_of-self : goal.invariant_of-self
invariant_of-self g c =
    let w = c.self.inside in
    let old = w.buffer.items in
    let new = c.take_at.new.buffer in
    let sizes = w.buffer.ok.0 in
    let whole : take w.buffer.len (new ++ drop (length new) old) ≡ new =
    written_back old new w.buffer.len (omega (arith, c.take_at.auto.buffer, c.deref_mut.ensures.len)) (omega arith) in (
      c.self.invariant.0,
      c.self.invariant.1,
      c.self.invariant.2,
      c.self.invariant.3,
      subst (λ (xs : List ℕ). NoFeed (drop w.start xs)) (sym (ap (take w.seen) whole ∙ same_shorter old new w.seen w.end c.self.invariant.1 (c.take_at.ensures.front ∙ ap (take w.end) c.deref_mut.ensures.value))) c.self.invariant.4,
    )

pub invariant_of-self-2 : goal.invariant_of-self-2
invariant_of-self-2 g c =
    let w = c.self.inside in
    let old = w.buffer.items in
    let new = c.take_at.new.buffer in
    let sizes = w.buffer.ok.0 in
    let whole : take w.buffer.len (new ++ drop (length new) old) ≡ new =
    written_back old new w.buffer.len (omega (arith, c.take_at.auto.buffer, c.deref_mut.ensures.len)) (omega arith) in
    let fits : c.if-free-most.room ≤ BUFFER_LEN - w.end =
    elim c.if-free-most.branch [ then-free-most b ↦ omega arith | else-free-most b ↦ omega arith ] in (
      c.self.invariant.0,
      omega (arith, c.self.invariant.1),
      omega (arith, c.in_ok-n.ensures.ok.0, c.self.invariant.2),
      c.self.invariant.3,
      subst (λ (xs : List ℕ). NoFeed (drop w.start xs)) (sym (ap (take w.seen) whole ∙ same_shorter old new w.seen w.end c.self.invariant.1 (c.in_ok-n.ensures.front ∙ ap (take w.end) c.deref_mut.ensures.value))) c.self.invariant.4,
    )
