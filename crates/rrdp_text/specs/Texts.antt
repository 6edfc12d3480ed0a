-- The texts of the three files of RRDP (RFC 8182 sections 3.5.1 to 3.5.3).
use Rattle.std.specs.Prelude.{ℕ, List, ◌++◌, codes, decimal, None, Some}
use Rattle.std.specs.List.{flat_map}
use Rattle.base64.specs.GeneralPurpose.{encode_of}
use Rattle.base64.specs.Engines.{standard}
use Rattle.hex.specs.Hex.{encode_lower}
use Rattle.uuid.specs.Text.{hyphenated_text, lower}
use Rattle.pub_set.specs.declared.objects.Object.{Object}
use Rattle.pub_set.specs.declared.steps.Change.{Change}
use Rattle.pub_set.specs.declared.steps.Change.TheVariants.{Put, Withdraw}
use Rattle.rrdp_text.specs.declared.files.FileRef.{FileRef}
use Rattle.rrdp_text.specs.declared.files.DeltaRef.{DeltaRef}

-- The first tag up to the session.
unfoldable pub head : List ℕ → List ℕ
head name =
    codes "<" ++ name
    ++ codes " xmlns=\"http://www.ripe.net/rpki/rrdp\" version=\"1\" session_id=\""

-- The first line behind those bytes.
unfoldable pub opening_behind : List ℕ → List ℕ → ℕ → List ℕ
opening_behind front session serial =
    front ++ hyphenated_text lower session
    ++ codes "\" serial=\"" ++ decimal serial ++ codes "\">\n"

-- The first line.
abbrev pub opening : List ℕ → List ℕ → ℕ → List ℕ
opening name session serial = opening_behind (head name) session serial

-- The attribute of a hash, with the space in front.
unfoldable pub hash_text : List ℕ → List ℕ
hash_text hash = codes " hash=\"" ++ encode_lower hash ++ codes "\""

-- The bytes of an object, and the end of its line.
unfoldable pub content_text : List ℕ → List ℕ
content_text bytes = codes ">" ++ encode_of standard bytes ++ codes "</publish>\n"

-- The line of an object in a snapshot.
unfoldable pub object_text : Object → List ℕ
object_text object =
    codes "  <publish uri=\"" ++ object.uri ++ codes "\"" ++ content_text object.bytes

-- The line of a change in a delta.
unfoldable pub change_text : Change → List ℕ
change_text (Put uri bytes None) =
    codes "  <publish uri=\"" ++ uri ++ codes "\"" ++ content_text bytes
change_text (Put uri bytes (Some hash)) =
    codes "  <publish uri=\"" ++ uri ++ codes "\"" ++ hash_text hash ++ content_text bytes
change_text (Withdraw uri hash) =
    codes "  <withdraw uri=\"" ++ uri ++ codes "\"" ++ hash_text hash ++ codes "/>\n"

-- The snapshot of a session and a serial (RFC 8182 section 3.5.2).
unfoldable pub snapshot_text : List ℕ → ℕ → List Object → List ℕ
snapshot_text session serial objects =
    opening (codes "snapshot") session serial ++ flat_map object_text objects
    ++ codes "</snapshot>\n"

-- The delta from the serial before to this one (RFC 8182 section 3.5.3).
unfoldable pub delta_text : List ℕ → ℕ → List Change → List ℕ
delta_text session serial changes =
    opening (codes "delta") session serial ++ flat_map change_text changes ++ codes "</delta>\n"

-- The line of the snapshot in the notification.
unfoldable pub snapshot_line : FileRef → List ℕ
snapshot_line file =
    codes "  <snapshot uri=\"" ++ file.uri ++ codes "\"" ++ hash_text file.hash ++ codes "/>\n"

-- The line of a delta in the notification.
unfoldable pub delta_line : DeltaRef → List ℕ
delta_line delta =
    codes "  <delta serial=\"" ++ decimal delta.serial ++ codes "\" uri=\"" ++ delta.file.uri
    ++ codes "\"" ++ hash_text delta.file.hash ++ codes "/>\n"

-- The notification (RFC 8182 section 3.5.1): the snapshot, and then the deltas as they are given.
unfoldable pub notification_text : List ℕ → ℕ → FileRef → List DeltaRef → List ℕ
notification_text session serial snapshot deltas =
    opening (codes "notification") session serial ++ snapshot_line snapshot
    ++ flat_map delta_line deltas ++ codes "</notification>\n"
