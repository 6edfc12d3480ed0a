-- That journals have room for what is written to them, and that what is put is bytes.
use Rattle.std.proofs.Common.{◌≡◌, ◌+◌, ◌≤◌, ℕ, List, [], ◌∷◌, ◌++◌, map, length, get_or, refl, sym, ◌∙◌, ap, subst, arith}
use Rattle.std.specs.Prelude.{Option, None, Some, IfSome, IsSome, All}
use Rattle.std.specs.Option.{option_map}
use Rattle.std.proofs.lemmas.Bool.{false≢true}
use Rattle.std.proofs.lemmas.Option.{none-some}
use Rattle.std.proofs.lemmas.List.{map-append}
use Rattle.std.proofs.lemmas.List.Elements.{All-nil, All-cons, All-append}
use Rattle.authority_book.specs.declared.commands.Command.{Command}
use Rattle.cmd_codec.specs.Spelling.{spelling}
use Rattle.desk_core.specs.View.{journal_limit}
use Rattle.desk_core.specs.Answers.{needed_for}
use Rattle.gate_journal.specs.Format.{taken_by, held_by, held_for}
use Rattle.key_ids.specs.Uris.{Bases}
use Rattle.signer_api.specs.State.{SignerState}
use Rattle.pub_set.specs.declared.steps.Change.{Change}
use Rattle.pub_set.specs.declared.steps.Change.TheVariants.{Put, Withdraw}
use Rattle.editions.specs.Edition.{Edition}
use Rattle.editions.specs.PlannedAndMade.{CanBeRead}
use Rattle.editions.specs.PublishedState.{PublishedStateValue}
use Rattle.press_core.specs.Follows.{edition_of}
use Rattle.press_core.specs.JournalRecords.{AreRecords, IsRecordOf, press_limit, store_for}
use Rattle.press_core.specs.Next.{NextValue}
use Rattle.press_core.specs.Planned.{IsPrepared}
use Rattle.press_core.specs.PrepareInput.{PrepareInput}
use Rattle.press_core.specs.Stands.{IsLeftBy}
use Rattle.histories.specs.Legal.{IsOfBytes, press_bytes_for}
use Rattle.krill_top.specs.Histories.{HasRoomFor, and_doubt}
use Rattle.krill_top.specs.inner.Room.{IsEditionOfBytes}
use Rattle.krill_top.specs.inner.RunLaws.{RecordsLaw, TakesLaw}

-- ---- one record more

taken_push : (records : List (List ℕ)) (entry : List ℕ) → taken_by (map length (records ++ entry ∷ [])) ≡ taken_by (map length records) + (length entry + 9)
taken_push [] entry = omega arith
taken_push (first ∷ records) entry = let rest = taken_push records entry in omega (arith, rest)

-- a record more takes its bytes and 9
held_push : (records : List (List ℕ)) (entry : List ℕ) → held_by (records ++ entry ∷ []) ≡ held_by records + (length entry + 9)
held_push records entry = let more = taken_push records entry in omega (arith, more)

-- a desk's journal takes a command more
pub desk_fits : (commands : List Command) (command : Command) → held_by (map spelling commands) + needed_for command ≤ journal_limit → held_by (map spelling (commands ++ command ∷ [])) ≤ journal_limit
desk_fits commands command fits =
    let whole : held_by (map spelling commands) + needed_for command ≡ held_by (map spelling (commands ++ command ∷ [])) =
    sym (held_push (map spelling commands) (spelling command)) ∙ ap held_by (sym (map-append spelling commands (command ∷ []))) in
    subst (λ (n : ℕ). n ≤ journal_limit) whole fits

-- ---- the press's journal

-- an edition more fits where its record does
pub edition_fits : RecordsLaw → TakesLaw → (session : List ℕ) (site : Bases) (lists : List (List Command)) (editions : List Edition) (at : PublishedStateValue) (prepared : NextValue) (entry : List ℕ)
    (records : Option (List (List ℕ))) (sizes : List ℕ) (limit : ℕ) → IfSome records (λ (all : List (List ℕ)). sizes ≡ map length all) → held_for sizes + (length entry + 9) ≤ limit → limit ≡ press_limit
    → IsLeftBy lists editions at → IfSome records (AreRecords (store_for session site) editions) → IsRecordOf at prepared entry
    → IfSome records (λ (_ : List (List ℕ)). press_bytes_for site (editions ++ edition_of prepared ∷ []) ≤ press_limit)
edition_fits records_law takes session site lists editions at prepared entry None sizes limit same fits is left are recorded = tt
edition_fits records_law takes session site lists editions at prepared entry (Some all) sizes limit same fits is left are recorded =
    let grown : AreRecords (store_for session site) (editions ++ edition_of prepared ∷ []) (all ++ entry ∷ []) = records_law lists editions at prepared (store_for session site) all entry left are recorded in
    let whole : held_for sizes + (length entry + 9) ≡ press_bytes_for site (editions ++ edition_of prepared ∷ []) =
    ap (λ (s : List ℕ). held_for s + (length entry + 9)) same ∙ sym (held_push all entry) ∙ takes session site (editions ++ edition_of prepared ∷ []) (all ++ entry ∷ []) grown in
    subst (λ (n : ℕ). n ≤ press_limit) whole (subst (λ (n : ℕ). held_for sizes + (length entry + 9) ≤ n) is fits)

-- what a disk tells after an append, it told before
pub told_before : {A B : Type 0} (known : Option A) (content was : Option B) (grow : B → B) (R : Type 0) → IfSome known (λ (a : A). IsSome content) → content ≡ option_map grow was → IfSome was (λ (b : B). R)
    → IfSome known (λ (a : A). R)
told_before None content was grow R told same so = tt
told_before {B = B} (Some x) content None grow R told same so = absurd (false≢true (subst (λ (o : Option B). IsSome o) same told))
told_before (Some x) content (Some b) grow R told same so = so

-- there is room for editions that fit, in records that go on behind those that were known
pub room_then : (site here : Bases) (editions : List Edition) (old new : Option (List (List ℕ))) → site ≡ here → IfSome new (λ (_ : List (List ℕ)). IsSome old)
    → IfSome old (λ (_ : List (List ℕ)). press_bytes_for site editions ≤ press_limit) → IfSome new (λ (_ : List (List ℕ)). HasRoomFor here editions)
room_then site here editions old None same told fits = tt
room_then site here editions None (Some new) same told fits = absurd (false≢true told)
room_then site here editions (Some old) (Some new) same told fits = λ some. subst (λ (s : Bases). press_bytes_for s editions ≤ press_limit) same fits

pub known_itself : {A : Type 0} (records : Option A) → IfSome records (λ (_ : A). IsSome records)
known_itself None = tt
known_itself (Some all) = refl

-- known or not, there is room
pub room_known : {A : Type 0} (records : Option A) (R : Type 0) → R → IfSome records (λ (_ : A). R)
room_known None R room = tt
room_known (Some all) R room = room

pub room_either : {A : Type 0} (records : Option A) (R : Type 0) → IfSome records (λ (_ : A). R) → (records ≡ None → R) → R
room_either None R known unknown = unknown refl
room_either (Some all) R known unknown = known

-- ---- bytes

read_bytes : (change : Change) → CanBeRead change → IsOfBytes change
read_bytes (Put uri bytes replaces) is = is.bytes
read_bytes (Withdraw uri hash) is = tt

pub read_all : (changes : List Change) → All CanBeRead changes → All IsOfBytes changes
read_all changes are k d within = read_bytes (get_or changes k d) (are k d within)

-- what an edition puts that was prepared
pub prepared_bytes : (start : PrepareInput) (ring : List SignerState) (prepared : NextValue) → IsPrepared start ring prepared → IsEditionOfBytes (edition_of prepared)
prepared_bytes start ring prepared is = subst (λ (c : List Change). All IsOfBytes c) (sym is.made.changes) (read_all is.made.made.changes is.made.readable)

-- and behind the others, none of which is in doubt
pub bytes_push : (editions : List Edition) (doubt : Option Edition) (edition : Edition) → doubt ≡ None → All IsEditionOfBytes (and_doubt editions doubt) → IsEditionOfBytes edition
    → All IsEditionOfBytes (editions ++ edition ∷ [])
bytes_push editions None edition none were is = All-append IsEditionOfBytes editions (edition ∷ []) were (All-cons IsEditionOfBytes edition [] is (All-nil IsEditionOfBytes))
bytes_push editions (Some other) edition none were is = absurd (none-some other (sym none))
