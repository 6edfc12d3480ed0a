use Rattle.std.proofs.Common.{◌≡◌, ◌+◌, ◌≤◌, true, refl, ◌∙◌, ap, arith, length, drop, rules}
use Rattle.std.specs.Prelude.{insert}
use Rattle.std.specs.Result.{is_ok}
use Rattle.std.proofs.lemmas.List.{length-drop}
use Rattle.authority_book.specs.inner.Kept.{KeptOrigins}
use Rattle.authority_book.proofs.Gap.{put_right}
use Rattle.authority_book.proofs.sorted_origins.SortedOrigins.insert_at.Goals as goal

pub returns-else-self-gt0-clause-items : goal.returns-else-self-gt0-clause-items
returns-else-self-gt0-clause-items c =
    let xs = c.self.inside.items.items in
    let start = c.self.inside.start in
    let place = c.args.place in
    let ok : is_ok c.insert.result ≡ true = rw c.unwrap.ensures refl in
    let put : c.insert.new.self.items ≡ insert xs (start + place) c.args.origin = rw ok at c.insert.ensures.items in
    let bound : place ≤ length (drop start xs) = search rules in
    let within : start + place ≤ length xs = omega (arith, bound, length-drop start xs, c.self.invariant) in
    ap (drop start) put ∙ put_right xs start place (start + place) c.args.origin refl within
    ∙ ap (λ (v : KeptOrigins). insert v.items place c.args.origin) c.self.view_is
