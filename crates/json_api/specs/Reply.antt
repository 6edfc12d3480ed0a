-- The texts of the replies: compact JSON, the members in byte order (RFC 8259 section 4).
use Rattle.std.specs.Prelude.{ℕ, List, ◌++◌, codes, decimal}
use Rattle.json.specs.Print.{quoted}
use Rattle.json_api.specs.declared.reply.PublishedReply.{PublishedReply}

-- The reply to an accepted command: the authority's name and the new number of its commands.
abbrev pub accepted_spelling : List ℕ → ℕ → List ℕ
accepted_spelling authority count =
    codes "{\"authority\":" ++ quoted authority ++ codes ",\"count\":" ++ decimal count ++ codes ",\"reply\":\"accepted\"}"

-- The reply to a publication: its serial and moment, and how many objects and origins stand published.
abbrev pub published_spelling : PublishedReply → List ℕ
published_spelling published =
    codes "{\"moment\":" ++ decimal published.moment ++ codes ",\"objects\":" ++ decimal published.objects
    ++ codes ",\"origins\":" ++ decimal published.origins ++ codes ",\"reply\":\"published\",\"serial\":" ++ decimal published.serial ++ codes "}"

-- The serial of the last publication.
abbrev pub serial_spelling : ℕ → List ℕ
serial_spelling serial = codes "{\"reply\":\"serial\",\"serial\":" ++ decimal serial ++ codes "}"

-- The serial that was seen, which was waited for or is behind it.
abbrev pub reached_spelling : ℕ → List ℕ
reached_spelling serial = codes "{\"reply\":\"reached\",\"serial\":" ++ decimal serial ++ codes "}"

-- A refusal: its number, what it is about, its name.
abbrev pub refusal_spelling : ℕ → List ℕ → List ℕ → List ℕ
refusal_spelling code detail refused =
    codes "{\"code\":" ++ decimal code ++ codes ",\"detail\":" ++ quoted detail ++ codes ",\"refused\":" ++ quoted refused ++ codes "}"
