-- The table of refusals: each one's number, what it is about, and its name.
use Rattle.std.specs.Prelude.{ℕ, List, [], ◌++◌, codes, decimal}
use Rattle.authority_book.specs.declared.refusals.Refusal.{Refusal}
use Rattle.authority_book.specs.declared.refusals.Refusal.TheVariants.{OriginThere, OriginTwice, NoSuchOrigin, TooManyOrigins}
use Rattle.authority_book.specs.Refusals.{code_of, name_of}
use Rattle.hex.specs.Hex.{encode_lower}
use Rattle.origins.specs.Origin.{origin_text}
use Rattle.json_api.specs.declared.line.LineFault.{LineFault}
use Rattle.json_api.specs.declared.line.LineFault.TheVariants as fault
use Rattle.json_api.specs.declared.refusals.Detail.{Detail}
use Rattle.json_api.specs.declared.refusals.Detail.TheVariants.{Empty, Number, Numbers, Name, Key}
use Rattle.json_api.specs.declared.refusals.Refused.{Refused}
use Rattle.json_api.specs.declared.refusals.Refused.TheVariants.{NoSuchAuthority, Shut, JournalFull, DiskFault, Nothing, ClockRange, SerialEnd, SignerFault, KeyClash, OutletFault, NotYet, BadLine, UnknownCommand, Memory}
use Rattle.json_api.specs.Reply.{refusal_spelling}

-- A full journal's refusal has the bytes that it takes and those of the record; that of a failed device
-- or signer its number; that of a key which another one is the same as, its identifier's hex digits.
abbrev pub refused_spelling : Refused → List ℕ
refused_spelling (NoSuchAuthority name) = refusal_spelling 20 name (codes "NoSuchAuthority")
refused_spelling Shut = refusal_spelling 21 [] (codes "Shut")
refused_spelling (JournalFull held needed) = refusal_spelling 22 (decimal held ++ codes " " ++ decimal needed) (codes "JournalFull")
refused_spelling (DiskFault device) = refusal_spelling 23 (decimal device) (codes "DiskFault")
refused_spelling (Nothing serial) = refusal_spelling 24 (decimal serial) (codes "Nothing")
refused_spelling (ClockRange now) = refusal_spelling 25 (decimal now) (codes "ClockRange")
refused_spelling (SerialEnd value) = refusal_spelling 26 (decimal value) (codes "SerialEnd")
refused_spelling (SignerFault signer) = refusal_spelling 27 (decimal signer) (codes "SignerFault")
refused_spelling (KeyClash id) = refusal_spelling 28 (encode_lower id.bytes) (codes "KeyClash")
refused_spelling (OutletFault serial) = refusal_spelling 29 (decimal serial) (codes "OutletFault")
refused_spelling (NotYet seen) = refusal_spelling 30 (decimal seen) (codes "NotYet")
refused_spelling BadLine = refusal_spelling 31 [] (codes "BadLine")
refused_spelling UnknownCommand = refusal_spelling 32 [] (codes "UnknownCommand")
refused_spelling Memory = refusal_spelling 40 [] (codes "Memory")

-- What a verdict's refusal is about: the origin, or how many origins there would be.
abbrev pub verdict_detail : Refusal → List ℕ
verdict_detail (OriginThere origin) = origin_text origin
verdict_detail (OriginTwice origin) = origin_text origin
verdict_detail (NoSuchOrigin origin) = origin_text origin
verdict_detail (TooManyOrigins after) = decimal after
verdict_detail refusal = []

abbrev pub verdict_spelling : Refusal → List ℕ
verdict_spelling refusal = refusal_spelling (code_of refusal) (verdict_detail refusal) (name_of refusal)

-- A bad field's refusal has its name.
abbrev pub fault_spelling : LineFault → List ℕ
fault_spelling fault.BadLine = refused_spelling BadLine
fault_spelling fault.UnknownCommand = refused_spelling UnknownCommand
fault_spelling (fault.BadField name) = refusal_spelling 33 name (codes "BadField")
fault_spelling fault.Memory = refused_spelling Memory

-- how a detail without escapes is told
abbrev pub detail_text : Detail → List ℕ
detail_text Empty = []
detail_text (Number n) = decimal n
detail_text (Numbers first second) = decimal first ++ codes " " ++ decimal second
detail_text (Name name) = name
detail_text (Key id) = encode_lower id.bytes
