use Rattle.std.proofs.Common.{◌≡◌, ℕ, ◌-◌, List, take, drop, sym, ap, ◌∙◌, subst, arith}
use Rattle.std.specs.Prelude.{IfSome, IfNone}
use Rattle.line_loop.specs.inner.Pending.{Pending, NoFeed, EndsLine}
use Rattle.line_loop.proofs.Parts.{slice_is_part, front_up_to}
use Rattle.line_loop.proofs.window.Window.find_line.Goals as goal

pub find_feed-found-requires-clause-none_before : goal.find_feed-found-requires-clause-none_before
find_feed-found-requires-clause-none_before c =
    let w = c.self.inside in
    let bytes = w.buffer.items in
    let is : take (w.end - w.start) (drop w.start c.deref.result.now) ≡ drop w.start (take w.end bytes) =
    ap (λ (xs : List ℕ). take (w.end - w.start) (drop w.start xs)) c.deref.ensures.value ∙ slice_is_part bytes w.start w.end (omega (arith, c.self.invariant.0, c.self.invariant.1)) in
    subst NoFeed (sym (ap (take (w.seen - w.start)) is ∙ front_up_to bytes w.start w.seen w.end c.self.invariant.0 c.self.invariant.1)) c.self.invariant.4

pub returns-then-is_none-clause-none : goal.returns-then-is_none-clause-none
returns-then-is_none-clause-none c =
    let w = c.self.inside in
    let is : take (w.end - w.start) (drop w.start c.deref.result.now) ≡ c.args.self.now.bytes =
    ap (λ (xs : List ℕ). take (w.end - w.start) (drop w.start xs)) c.deref.ensures.value ∙ (slice_is_part w.buffer.items w.start w.end (omega (arith, c.self.invariant.0, c.self.invariant.1)) ∙ ap (λ (p : Pending). p.bytes) c.self.view_is) in
    subst (λ (xs : List ℕ). IfNone c.find_feed-found.result (NoFeed xs)) is c.find_feed-found.ensures.none

pub returns-else-is_none-clause-found : goal.returns-else-is_none-clause-found
returns-else-is_none-clause-found c =
    let w = c.self.inside in
    let is : take (w.end - w.start) (drop w.start c.deref.result.now) ≡ c.args.self.now.bytes =
    ap (λ (xs : List ℕ). take (w.end - w.start) (drop w.start xs)) c.deref.ensures.value ∙ (slice_is_part w.buffer.items w.start w.end (omega (arith, c.self.invariant.0, c.self.invariant.1)) ∙ ap (λ (p : Pending). p.bytes) c.self.view_is) in
    subst (λ (xs : List ℕ). IfSome c.find_feed-found.result (EndsLine xs)) is c.find_feed-found.ensures.found
