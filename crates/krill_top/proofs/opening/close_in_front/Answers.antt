use Rattle.std.proofs.Common.{[], ◌∷◌, ◌++◌, List, refl, ◌∙◌, ap, arith, append_assoc, rules}
use Rattle.desk_core.specs.View.{View}
use Rattle.krill_top.proofs.opening.close_in_front.Goals as goal

pub loop-desk-init : goal.loop-desk-init
loop-desk-init g c = ([], [], search rules, tt, refl, c.requires)

pub loop-desk-preserved : goal.loop-desk-preserved
loop-desk-preserved g c =
    let so_far = c.loop-desk.invariant in
    let desk = c.in-Some.desk in (
      desk ∷ so_far.0,
      c.close.result ∷ so_far.1,
      so_far.2 ∙ ap (λ (l : List (View g.row.D.Denot)). l ++ so_far.0) c.in-Some.ensures.items ∙ append_assoc c.pop.new.self.items (desk ∷ []) so_far.0,
      (record { same = c.close.ensures.disk; known = c.close.ensures.content; images = c.close.ensures.images }, so_far.3),
      c.put_in_front.ensures.items ∙ ap (λ (l : List g.row.D.Denot). c.close.result ∷ l) so_far.4,
      omega (arith, so_far.5, c.in-Some.ensures.cases, c.put_in_front.ensures.len, c.put_in_front.ensures.capacity),
    )
