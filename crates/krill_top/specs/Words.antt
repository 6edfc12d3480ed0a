-- The words of a run: a command, and behind it options, each at most once.
use Rattle.std.specs.declared.alloc.Global.{Global}
use Rattle.std.specs.Prelude.{ℕ, ◌+◌, ◌-◌, ◌*◌, nat_lt, Bool, true, false, not, ◌==◌, ◌&&◌, nat_eq, List, [], ◌∷◌, ◌++◌, map, length, drop, Option, None, Some, is_some, option_and_then, unwrap_or, String, codes, string_bytes, if◌then◌else◌}
use Rattle.std.specs.Option.{option_map}
use Rattle.std.specs.Str.{bytes_eq}
use Rattle.std.specs.List.{starts_with}
use Rattle.key_ids.specs.Uris.{Bases}
use Rattle.krill_top.specs.declared.words.Doing.{Doing}
use Rattle.krill_top.specs.declared.words.Doing.TheVariants.{Run, Audit, Workload}
use Rattle.krill_top.specs.declared.words.Named.{Named}
use Rattle.krill_top.specs.declared.words.Named.TheVariants as named

-- What the words ask for, with the values of the options that are given.
pub record AskedValue : Type 0 where
  pub doing : Doing
  pub rsync : Option (List ℕ)
  pub rrdp : Option (List ℕ)

-- A command, with the values of all options that stand behind it.
pub record SaidValue : Type 0 where
  pub named : Named
  pub number : Option (List ℕ)
  pub rsync : Option (List ℕ)
  pub rrdp : Option (List ℕ)

abbrev pub named_by : List ℕ → Option Named
named_by word = if bytes_eq word (codes "run") then Some named.Run
    else if bytes_eq word (codes "audit") then Some named.Audit
    else if bytes_eq word (codes "workload") then Some named.Workload else None

-- A value isn't empty, and doesn't begin with `-`.
abbrev pub is_value : List ℕ → Bool
is_value [] = false
is_value (byte ∷ rest) = not (byte == 45)

abbrev pub number_word : List ℕ
number_word = codes "--number"

abbrev pub rsync_word : List ℕ
rsync_word = codes "--rsync"

abbrev pub rrdp_word : List ℕ
rrdp_word = codes "--rrdp"

-- The value for an option that has none yet.
abbrev pub with_number : SaidValue → List ℕ → Option SaidValue
with_number said value = if is_value value && not (is_some said.number)
    then Some (record said { number = Some value }) else None

abbrev pub with_rsync : SaidValue → List ℕ → Option SaidValue
with_rsync said value = if is_value value && not (is_some said.rsync)
    then Some (record said { rsync = Some value }) else None

abbrev pub with_rrdp : SaidValue → List ℕ → Option SaidValue
with_rrdp said value = if is_value value && not (is_some said.rrdp)
    then Some (record said { rrdp = Some value }) else None

-- An option whose value is the next word.
abbrev pub with_next : SaidValue → List ℕ → List ℕ → Option SaidValue
with_next said word value = if bytes_eq word number_word then with_number said value
    else if bytes_eq word rsync_word then with_rsync said value
    else if bytes_eq word rrdp_word then with_rrdp said value else None

abbrev pub is_option : List ℕ → Bool
is_option word = if bytes_eq word number_word then true
    else if bytes_eq word rsync_word then true else bytes_eq word rrdp_word

-- An option in one word with its value, with a `=` between them.
abbrev pub behind : List ℕ → List ℕ → List ℕ
behind name word = drop (length name + 1) word

abbrev pub with_joined : SaidValue → List ℕ → Option SaidValue
with_joined said word = if starts_with nat_eq word (number_word ++ codes "=")
    then with_number said (behind number_word word)
    else if starts_with nat_eq word (rsync_word ++ codes "=")
    then with_rsync said (behind rsync_word word)
    else if starts_with nat_eq word (rrdp_word ++ codes "=")
    then with_rrdp said (behind rrdp_word word) else None

-- The words behind the command.
abbrev pub with_options : SaidValue → List (List ℕ) → Option SaidValue
with_options said [] = Some said
with_options said (word ∷ []) = with_joined said word
with_options said (word ∷ next ∷ rest) = if is_option word
    then option_and_then (λ more. with_options more rest) (with_next said word next)
    else option_and_then (λ more. with_options more (next ∷ rest)) (with_joined said word)

-- ---- the number of a workload's authorities

abbrev pub digit_of : ℕ → Option ℕ
digit_of byte = if nat_lt byte 48 then None
    else if nat_lt 57 byte then None else Some (byte - 48)

abbrev pub in_range : ℕ → Option ℕ
in_range number = if nat_lt number 1 then None
    else if nat_lt 63 number then None else Some number

-- Two digits, the first of which isn't 0.
abbrev pub of_digits : ℕ → ℕ → Option ℕ
of_digits tens units = if tens == 0 then None else in_range (tens * 10 + units)

-- A number from 1 to 63, in decimal without a leading zero.
abbrev pub number_of : List ℕ → Option ℕ
number_of [] = None
number_of (units ∷ []) = option_and_then in_range (digit_of units)
number_of (tens ∷ units ∷ []) = option_and_then
    (λ first. option_and_then (of_digits first) (digit_of units)) (digit_of tens)
number_of (first ∷ second ∷ third ∷ rest) = None

abbrev pub workload_of : List ℕ → Option Doing
workload_of number = option_map Workload (number_of number)

-- ---- what is asked for

-- A workload needs its number, and nothing else has one.
abbrev pub doing_with : Option (List ℕ) → Named → Option Doing
doing_with None named.Run = Some Run
doing_with None named.Audit = Some Audit
doing_with None named.Workload = None
doing_with (Some number) named.Run = None
doing_with (Some number) named.Audit = None
doing_with (Some number) named.Workload = workload_of number

abbrev pub doing_of : SaidValue → Option Doing
doing_of said = doing_with said.number said.named

abbrev pub asked_for : SaidValue → Option AskedValue
asked_for said = option_map
    (λ doing. record { doing = doing; rsync = said.rsync; rrdp = said.rrdp }) (doing_of said)

abbrev pub with_command : List (List ℕ) → Named → Option SaidValue
with_command options named = with_options
    (record { named = named; number = None; rsync = None; rrdp = None }) options

-- What these words ask for, if they are those of a run.
abbrev pub asked_by : List (List ℕ) → Option AskedValue
asked_by [] = None
asked_by (command ∷ options) = option_and_then asked_for
    (option_and_then (with_command options) (named_by command))

abbrev pub texts : List (String Global) → List (List ℕ)
texts words = map (λ word. string_bytes word) words

abbrev pub asked_of : List (String Global) → Option AskedValue
asked_of words = asked_by (texts words)

-- The bases of the repository: those that are given, and else these.
abbrev pub bases_of : AskedValue → Bases
bases_of asked = record {
  rsync = unwrap_or asked.rsync (codes "rsync://rpki.example/repo/");
  rrdp = unwrap_or asked.rrdp (codes "https://rpki.example/rrdp/");
}
