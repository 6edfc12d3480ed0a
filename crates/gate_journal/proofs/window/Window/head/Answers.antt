use Rattle.std.proofs.Common.{◌≡◌, ◌∙◌, ◌+◌, ◌-◌, ℕ, List, length, take, drop, ap, arith, sym, length-drop}
use Rattle.std.proofs.lemmas.List.{length-take}
use Rattle.gate_journal.proofs.Windows.{window_part}
use Rattle.gate_journal.proofs.window.Window.head.Goals as goal

pub returns-clause-known : goal.returns-clause-known
returns-clause-known c bytes is =
    let skip = c.args.at - c.args.self.now.start in
    let want = c.args.want in
    let window = c.args.self.now.bytes.items in
    let there : take want (drop skip window) ≡ take want (drop c.args.at bytes) = window_part c.args.self.now.start c.args.at want window bytes is c.requires.inside.0 c.requires.inside.1 in
    let cut : skip + want - skip ≡ want = omega arith in
    let size : length (take (skip + want - skip) (drop skip c.deref.result.now)) ≡ want =
    omega (arith, length-take (skip + want - skip) (drop skip c.deref.result.now), length-drop skip c.deref.result.now, ap (λ (l : List ℕ). length l) c.deref.ensures.value, c.requires.inside.0, c.requires.inside.1) in
    ap (λ (n : ℕ). take n c.nine.result) (sym size)
    ∙ c.nine.ensures.front
    ∙ ap (λ (n : ℕ). take n (drop skip c.deref.result.now)) cut
    ∙ ap (λ (l : List ℕ). take want (drop skip l)) c.deref.ensures.value
    ∙ there
