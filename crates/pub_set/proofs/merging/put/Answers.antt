use Rattle.std.proofs.Common.{◌≡◌, true, refl, set}
use Rattle.std.specs.Result.{is_ok}
use Rattle.std.specs.Prelude.{Ok, Err}
use Rattle.std.specs.String.{string_bytes}
use Rattle.pub_set.specs.Objects.{IsPlace}
use Rattle.pub_set.specs.inner.Overlays.{IsPut}
use Rattle.pub_set.proofs.Splits.{put_over, put_out, put_in, put_none}
use Rattle.pub_set.proofs.merging.put.Goals as goal

replaced : (c : goal.After-drop-uri) →
    IsPut c.args.objects.now.items (string_bytes c.args.uri) c.args.left (set c.args.objects.now.items c.in-Ok-Some.place (record { uri = c.index_mut.result.now.uri; bytes = c.in-Ok-Some.bytes }))
replaced c =
    let place : IsPlace c.args.objects.now.items (string_bytes c.args.uri) (Ok c.in-Ok-Some.place) = rw (← c.deref.ensures.value, ← c.as_str.ensures.value) c.in-Ok-Some.ensures in
    rw c.in-Ok-Some.is-1 (put_over c.args.objects.now.items (string_bytes c.args.uri) c.in-Ok-Some.place c.index_mut.result.now c.in-Ok-Some.bytes c.requires.ascending place c.index_mut.ensures.value)

pub returns-in-Ok-Some-clause-put : goal.returns-in-Ok-Some-clause-put
returns-in-Ok-Some-clause-put c = replaced c

taken_out : (c : goal.After-drop-uri-in-Ok-None) → IsPut c.args.objects.now.items (string_bytes c.args.uri) c.args.left c.remove.new.self.items
taken_out c =
    let place : IsPlace c.args.objects.now.items (string_bytes c.args.uri) (Ok c.in-Ok-None.place) = rw (← c.deref.ensures.value, ← c.as_str.ensures.value) c.in-Ok-None.ensures in
    rw (c.in-Ok-None.is-1, c.remove.ensures.items) (put_out c.args.objects.now.items (string_bytes c.args.uri) c.in-Ok-None.place c.remove.result c.requires.ascending place)

pub returns-in-Ok-None-clause-put : goal.returns-in-Ok-None-clause-put
returns-in-Ok-None-clause-put c = taken_out c

put_new : (c : goal.After-unwrap) → IsPut c.args.objects.now.items (string_bytes c.args.uri) c.args.left c.insert.new.self.items
put_new c =
    let place : IsPlace c.args.objects.now.items (string_bytes c.args.uri) (Err c.in-Err-Some.place) = rw (← c.deref.ensures.value, ← c.as_str.ensures.value) c.in-Err-Some.ensures in
    let ok : is_ok c.insert.result ≡ true = rw c.unwrap.ensures refl in
    let put = rw (ok, c.new-uri.ensures) at c.insert.ensures.items in
    rw (c.in-Err-Some.is-1, put) (put_in c.args.objects.now.items (string_bytes c.args.uri) c.in-Err-Some.place c.in-Err-Some.bytes c.requires.ascending place)

pub returns-in-Err-Some-clause-put : goal.returns-in-Err-Some-clause-put
returns-in-Err-Some-clause-put c = put_new c

pub returns-clause-put : goal.returns-clause-put
returns-clause-put c =
    let place : IsPlace c.args.objects.now.items (string_bytes c.args.uri) (Err c.in-Err-None.field-0-0) = rw (← c.deref.ensures.value, ← c.as_str.ensures.value) c.in-Err-None.ensures in
    rw c.in-Err-None.is-1 (put_none c.args.objects.now.items (string_bytes c.args.uri) c.in-Err-None.field-0-0 c.requires.ascending place)
