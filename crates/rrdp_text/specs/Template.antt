-- How snapshots and deltas are read, from the front: a session and a serial, and what the lines
-- between the first and the last say (RFC 8182 sections 3.5.2 and 3.5.3).
use Rattle.std.specs.Prelude.{ℕ, List, [], length, codes, Option, Some, None, Result, Ok, if◌then◌else◌}
use Rattle.pub_set.specs.declared.objects.Object.{Object}
use Rattle.pub_set.specs.declared.steps.Change.{Change}
use Rattle.pub_set.specs.declared.steps.Change.TheVariants.{Put, Withdraw}
use Rattle.pub_set.specs.Changes.{uri_of}
use Rattle.rrdp_text.specs.Fields.{uri_above, hash, serial, session, content}
use Rattle.rrdp_text.specs.Reading.{literal, field, begins, elements, whole, ◌>>=◌}
use Rattle.rrdp_text.specs.Texts.{head}

-- `"`, which ends an attribute, and `<`, which ends a content
abbrev pub quote : ℕ
quote = 34

abbrev pub opens : ℕ
opens = 60

-- The session and the serial of the first line, which begins so up to the session.
unfoldable pub opening_in : List ℕ → List ℕ → Result ((List ℕ × ℕ) × List ℕ) ℕ
opening_in front s = do
  s ← literal front s
  id ← field session quote s
  s ← literal (codes " serial=\"") id.1
  number ← field serial quote s
  s ← literal (codes ">\n") number.1
  Ok ((id.0, number.0), s)

-- The content of a publish line, from the bracket before it on, and the line's end.
unfoldable pub content_in : List ℕ → Result (List ℕ × List ℕ) ℕ
content_in s = do
  s ← literal (codes ">") s
  bytes ← field content opens s
  s ← literal (codes "/publish>\n") bytes.1
  Ok (bytes.0, s)

-- The attribute of a hash.
unfoldable pub hash_in : List ℕ → Result (List ℕ × List ℕ) ℕ
hash_in s = do
  s ← literal (codes " hash=\"") s
  field hash quote s

-- A line of a snapshot, behind one with another URI.
unfoldable pub object_in : List ℕ → List ℕ → Result (Object × List ℕ) ℕ
object_in previous s = do
  s ← literal (codes "  <publish uri=\"") s
  uri ← field (uri_above previous) quote s
  bytes ← content_in uri.1
  Ok (record { uri = uri.0; bytes = bytes.0 }, bytes.1)

-- The hash that a put may carry, which begins with a space, and its content.
unfoldable pub replaced_in : List ℕ → Result ((Option (List ℕ) × List ℕ) × List ℕ) ℕ
replaced_in s = do
  old ← hash_in s
  bytes ← content_in old.1
  Ok ((Some old.0, bytes.0), bytes.1)

unfoldable pub placed_in : List ℕ → Result ((Option (List ℕ) × List ℕ) × List ℕ) ℕ
placed_in s = do
  bytes ← content_in s
  Ok ((None, bytes.0), bytes.1)

unfoldable pub put_in : List ℕ → List ℕ → Result (Change × List ℕ) ℕ
put_in previous s = do
  s ← literal (codes "publish uri=\"") s
  uri ← field (uri_above previous) quote s
  parts ← (if begins 32 uri.1 then replaced_in uri.1 else placed_in uri.1)
  Ok (Put uri.0 parts.0.1 parts.0.0, parts.1)

unfoldable pub withdraw_in : List ℕ → List ℕ → Result (Change × List ℕ) ℕ
withdraw_in previous s = do
  s ← literal (codes "withdraw uri=\"") s
  uri ← field (uri_above previous) quote s
  old ← hash_in uri.1
  s ← literal (codes "/>\n") old.1
  Ok (Withdraw uri.0 old.0, s)

-- A line of a delta, behind one with another URI: a put begins with `p`.
unfoldable pub change_in : List ℕ → List ℕ → Result (Change × List ℕ) ℕ
change_in previous s = do
  s ← literal (codes "  <") s
  if begins 112 s then put_in previous s else withdraw_in previous s

-- The lines between the first and the last, and the last one.
abbrev pub objects_in : List ℕ → Result (List Object × List ℕ) ℕ
objects_in s = elements object_in (λ o. o.uri) (codes "</snapshot>\n") (length s) [] s

abbrev pub changes_in : List ℕ → Result (List Change × List ℕ) ℕ
changes_in s = elements change_in uri_of (codes "</delta>\n") (length s) [] s

-- What the whole text of a snapshot says, or how many bytes are left at its first fault.
unfoldable pub snapshot_in : List ℕ → Result ((List ℕ × ℕ) × List Object) ℕ
snapshot_in s = do
  first ← opening_in (head (codes "snapshot")) s
  objects ← objects_in first.1
  whole ((first.0, objects.0), objects.1)

-- What the whole text of a delta says.
unfoldable pub delta_in : List ℕ → Result ((List ℕ × ℕ) × List Change) ℕ
delta_in s = do
  first ← opening_in (head (codes "delta")) s
  changes ← changes_in first.1
  whole ((first.0, changes.0), changes.1)
