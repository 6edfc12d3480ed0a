use Rattle.std.proofs.Common.{◌≡◌, ◌++◌, ◌∷◌, [], true, refl, ◌∙◌, ap, append_assoc}
use Rattle.std.specs.Result.{is_ok}
use Rattle.std.specs.String.{string_bytes}
use Rattle.pub_set.specs.declared.objects.Object.{Object}
use Rattle.pub_set.specs.Objects.{uri_at, IsBehind}
use Rattle.pub_set.specs.inner.Overlays.{IsSkipped}
use Rattle.pub_set.specs.laws.LookupLaws.{rise-right, below_further}
use Rattle.pub_set.proofs.Splits.{put_between, behind_push}
use Rattle.pub_set.proofs.merging.merge_one.Goals as goal

pub skip_at-requires-clause-ascending : goal.skip_at-requires-clause-ascending
skip_at-requires-clause-ascending c =
    rise-right uri_at c.move_below.new.merged.items c.move_below.new.rest.items (rw c.move_below.ensures.items c.requires.ascending)

pushed : (c : goal.After-unwrap) → c.push.new.self.items ≡ c.move_below.new.merged.items ++ record { uri = string_bytes c.args.uri; bytes = c.in-Some.bytes } ∷ []
pushed c =
    let ok : is_ok c.push.result ≡ true = rw c.unwrap.ensures refl in
    rw (ok, c.new-uri.ensures) at c.push.ensures.items

pub returns-in-Some-clause-put : goal.returns-in-Some-clause-put
returns-in-Some-clause-put c =
    let old = c.args.merged.now.items ++ c.args.rest.now.items in
    let xs = c.move_below.new.merged.items in
    let zs = c.skip_at.new.rest.items in
    let o : Object = record { uri = string_bytes c.args.uri; bytes = c.in-Some.bytes } in
    let is : c.push.new.self.items ++ zs ≡ xs ++ o ∷ zs = ap (λ l. l ++ zs) (pushed c) ∙ append_assoc xs (o ∷ []) zs in
    let below : IsBehind xs (string_bytes c.args.uri) = rw (← c.as_str-at.ensures.value) c.move_below.ensures.behind in
    let skipped : IsSkipped c.move_below.new.rest.items (string_bytes c.args.uri) zs = rw (← c.as_str-at.ensures.value) c.skip_at.ensures.skipped in
    put_between old xs c.move_below.new.rest.items zs (c.push.new.self.items ++ zs) (string_bytes c.args.uri) c.args.left c.requires.ascending c.move_below.ensures.items
    below skipped (rw c.in-Some.is is)

pub returns-in-Some-clause-behind : goal.returns-in-Some-clause-behind
returns-in-Some-clause-behind c = λ later less.
    let o : Object = record { uri = string_bytes c.args.uri; bytes = c.in-Some.bytes } in
    let below : IsBehind c.move_below.new.merged.items (string_bytes c.args.uri) = rw (← c.as_str-at.ensures.value) c.move_below.ensures.behind in
    rw (pushed c) (behind_push c.move_below.new.merged.items o later below less)

pub returns-in_default-clause-put : goal.returns-in_default-clause-put
returns-in_default-clause-put c =
    let old = c.args.merged.now.items ++ c.args.rest.now.items in
    let xs = c.move_below.new.merged.items in
    let zs = c.skip_at.new.rest.items in
    let below : IsBehind xs (string_bytes c.args.uri) = rw (← c.as_str-at.ensures.value) c.move_below.ensures.behind in
    let skipped : IsSkipped c.move_below.new.rest.items (string_bytes c.args.uri) zs = rw (← c.as_str-at.ensures.value) c.skip_at.ensures.skipped in
    put_between old xs c.move_below.new.rest.items zs (xs ++ zs) (string_bytes c.args.uri) c.args.left c.requires.ascending c.move_below.ensures.items
    below skipped (rw c.in_default.is refl)

pub returns-in_default-clause-behind : goal.returns-in_default-clause-behind
returns-in_default-clause-behind c = λ later less.
    let below : IsBehind c.move_below.new.merged.items (string_bytes c.args.uri) = rw (← c.as_str-at.ensures.value) c.move_below.ensures.behind in
    below_further uri_at (string_bytes c.args.uri) later c.move_below.new.merged.items less below
