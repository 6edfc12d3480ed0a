use Rattle.std.proofs.Common.{◌≡◌, ◌≢◌, ℕ, ◌<◌, ◌+◌, ◌∷◌, [], ◌++◌, Some, sym, ap, subst, ◌∙◌, arith, rules}
use Rattle.std.specs.Prelude.{slice_get, All, AllPairs}
use Rattle.std.proofs.lemmas.List.Elements.{All-push}
use Rattle.std.proofs.lemmas.List.Quantifiers.{all_pairs_push}
use Rattle.editions.specs.Edition.{cut_at}
use Rattle.editions.specs.declared.gathered.Gathered.{Gathered}
use Rattle.editions.specs.Gathering.{AreAccepted}
use Rattle.test_press.proofs.Groups.{accepted-grown}
use Rattle.test_press.proofs.publications.gathering.gathered.Goals as goal

pub loop-desk-preserved : goal.loop-desk-preserved
loop-desk-preserved c =
    let before = c.loop-desk.invariant in
    let groups = c.loop-desk.gathered.items in
    let group : Gathered = c.in_ok-group.field-0 in
    let desk = c.loop-desk.desk in
    let cut = c.args.at.now.cut in
    let configs = c.args.at.now.configs in
    let is : group.desk ≡ desk = c.in_ok-group.ensures.desk in
    let put : c.push.new.self.items ≡ groups ++ group ∷ [] = c.in_ok-push.ensures.items in
    let below : All (λ (g : Gathered). g.desk < group.desk) groups = λ k d inside. let b = before.below k d inside in omega (arith, b, is) in
    record {
      below = subst (All (λ (g : Gathered). g.desk < desk + 1)) (sym put)
          (All-push (λ (g : Gathered). g.desk < desk + 1) groups group (λ k d inside. let b = before.below k d inside in omega (arith, b)) (omega (arith, is)));
      once = subst (AllPairs (λ (a b : Gathered). a.desk ≢ b.desk)) (sym put)
          (all_pairs_push (λ (a b : Gathered). a.desk ≢ b.desk) groups group before.once
          (λ k d inside same. let b = below k d inside in omega (arith, b, same)));
      from = subst (All (λ (g : Gathered). g.from ≡ cut_at cut g.desk)) (sym put)
          (All-push (λ (g : Gathered). g.from ≡ cut_at cut g.desk) groups group before.from (c.in_ok-group.ensures.from ∙ ap (cut_at cut) (sym is)));
      accepted = subst (AreAccepted configs) (sym put)
          (accepted-grown configs groups group below before.accepted
          (λ config there. c.in_ok-group.ensures.accepted config (subst (λ (d : ℕ). slice_get configs d ≡ Some config) is there)));
    }

pub returns-clause-gathered : goal.returns-clause-gathered
returns-clause-gathered c =
    let before = c.loop-desk.invariant in
    record {
      desks = λ k d inside. let b = before.below k d inside in search (rules, arith, b);
      once = before.once;
      from = before.from;
    }
