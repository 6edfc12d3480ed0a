-- What a run did, as a part of a history.
use Rattle.std.proofs.Common.{◌≡◌, ◌≢◌, ◌+◌, ◌<◌, ◌≤◌, ◌&&◌, ◌||◌, ℕ, zero, suc, Bool, true, false, List, [], ◌∷◌, ◌++◌, map, length, take, get_or, replicate, refl, sym, ap, ◌∙◌, subst, arith, append_assoc, append-nil}
use Rattle.std.specs.Prelude.{⊤, Option, None, Some, IfSome, All, slice_get}
use Rattle.std.specs.List.{list_any}
use Rattle.std.specs.Str.{bytes_eq}
use Rattle.std.proofs.lemmas.Bool.{false≢true}
use Rattle.std.proofs.lemmas.Slice.Eq.{bytes_eq-Decides}
use Rattle.std.proofs.lemmas.List.Folds.{list_any-append}
use Rattle.std.proofs.lemmas.List.Elements.{All-nil, All-cons}
use Rattle.std.proofs.Math.Seq.{take-append_seam}
use Rattle.authority_book.specs.declared.commands.Command.{Command}
use Rattle.authority_book.specs.Settings.{Settings}
use Rattle.authority_book.specs.Fold.{after, after_all, empty_settings, AcceptedInTurn}
use Rattle.authority_book.specs.Verdict.{IsAccepted, most_authorities}
use Rattle.cmd_codec.specs.Spelling.{spelling, IsRecordable}
use Rattle.disk_api.specs.declared.disk.Disk.{Ghosts as DiskGhosts}
use Rattle.desk_core.specs.Commands.{Records}
use Rattle.gate_journal.specs.Format.{taken_by}
use Rattle.key_ids.specs.Uris.{Bases}
use Rattle.signer_api.specs.State.{Signed}
use Rattle.signer_ring.specs.Calls.{Call}
use Rattle.signer_ring.specs.Calls.Call.{Makes, Signs, Once}
use Rattle.rp_rules.specs.Certificates.{Vouched}
use Rattle.press_records.specs.Edition.{StandingValue, after_edition, editions, nothing_stands}
use Rattle.press_core.specs.Records.{edition_value}
use Rattle.press_core.specs.JournalRecords.{press_limit}
use Rattle.editions.specs.Edition.{Edition}
use Rattle.editions.specs.Step.{Premises, AreMore, AreSteps}
use Rattle.editions.specs.VouchedCalls.{IsVouchedBy}
use Rattle.histories.specs.Acknowledged.{Acknowledged, acknowledged, acknowledging, acknowledging_all, ground_after, signatures_of}
use Rattle.histories.specs.Devices.{Signature, are_vouched, is_signature}
use Rattle.histories.specs.Events.{History}
use Rattle.histories.specs.Events.Event.{Reopen}
use Rattle.histories.specs.Legal.{IsNextCommand, FollowsTheOthers, InTurn, IsOfBytes, bytes_for, most_bytes, press_bytes_for, records_over}
use Rattle.histories.specs.Work.{IsListWork, AreListWorks, IsWork, GoesOnAs, ground_with}
use Rattle.krill_top.specs.DeskStates.{DeskState, DeskStates, most_desks, commands_at}
use Rattle.krill_top.specs.Histories.{MayFind, and_doubt, desk_doubt, signature_of, signatures, work_of}
use Rattle.krill_top.specs.inner.Room.{HasRoom}
use Rattle.krill_top.specs.inner.RunLaws.{RunLaws}
use Rattle.krill_top.specs.Run.{IsKeptAt, IsServedAt}
use Rattle.krill_top.proofs.Vouching.{front_of}
use Rattle.krill_top.specs.InstanceState.{Found, InstanceState, lists_of, premises_of, AreVouchedIn}

-- ---- what a run did at a desk

none_there : {X : Type 0} (n : ℕ) (x : X) → slice_get [] n ≡ Some x → ⊥
none_there n x is = absurd (cc)

same_one : {X : Type 0} (one other : X) → Some one ≡ Some other → one ≡ other
same_one one other is = cc

within : {X : Type 0} (xs : List X) (n : ℕ) (x : X) → slice_get xs n ≡ Some x → n < length xs
within [] n x is = absurd (none_there n x is)
within (y ∷ xs) zero x is = omega arith
within (y ∷ xs) (suc n) x is = let rest = within xs n x is in omega (arith, rest)

got : {X : Type 0} (xs : List X) (n : ℕ) (d x : X) → slice_get xs n ≡ Some x → get_or xs n d ≡ x
got [] n d x is = absurd (none_there n x is)
got (y ∷ xs) zero d x is = same_one y x is
got (y ∷ xs) (suc n) d x is = got xs n d x is

-- what all of a list are, the one at a place is
at_place : {X : Type 0} (P : X → Type 0) (xs : List X) → All P xs → (n : ℕ) (x : X) → slice_get xs n ≡ Some x → P x
at_place P xs all n x is = subst P (got xs n x x is) (all n x (within xs n x is))

-- a command of a list is accepted after those before it
accepted_at : (settings : Settings) (list : List Command) → AcceptedInTurn settings list → (place : ℕ) (command : Command) → slice_get list place ≡ Some command
    → IsAccepted (after_all settings (take place list)) command
accepted_at settings [] all place command there = absurd (none_there place command there)
accepted_at settings (first ∷ list) all zero command there = subst (λ (c : Command). IsAccepted settings c) (same_one first command there) all.0
accepted_at settings (first ∷ list) all (suc place) command there = accepted_at (after settings first) list all.1 place command there

taken_front : (list : List Command) (n : ℕ) → taken_by (map length (map spelling (take n list))) ≤ taken_by (map length (map spelling list))
taken_front list zero = omega arith
taken_front [] (suc n) = omega arith
taken_front (command ∷ list) (suc n) = let rest = taken_front list n in omega (arith, rest)

next_of : (list : List Command) (place : ℕ) (command : Command) → slice_get list place ≡ Some command → take place list ++ command ∷ [] ≡ take (suc place) list
next_of [] place command there = absurd (none_there place command there)
next_of (first ∷ list) zero command there = ap (λ (c : Command). c ∷ []) (same_one command first (sym there))
next_of (first ∷ list) (suc place) command there = ap (λ (l : List Command). first ∷ l) (next_of list place command there)

turns_of : (number : ℕ) (list : List Command) → Records number (map spelling list) list → bytes_for list ≤ most_bytes → InTurn (IsNextCommand number) list
turns_of number list records fits place command there =
    let front = taken_front list (suc place) in
    record {
      held = at_place IsRecordable list records.recordable place command there;
      accepted = accepted_at (empty_settings number) list records.taken place command there;
      fits = subst (λ (l : List Command). bytes_for l ≤ most_bytes) (sym (next_of list place command there)) (omega (arith, front, fits));
    }

seam : {X : Type 0} (before : List X) (x : X) (later : List X) → slice_get (before ++ x ∷ later) (length before) ≡ Some x
seam [] x later = refl
seam (first ∷ before) x later = seam before x later

last_turn : {X : Type 0} (May : List X → X → Type 0) (before : List X) (x : X) → InTurn May (before ++ x ∷ []) → May before x
last_turn {X} May before x turns =
    subst (λ (l : List X). May l x) (take-append_seam before (x ∷ [])) (turns (length before) x (seam before x []))

less_with : (list : List Command) (command : Command) → taken_by (map length (map spelling list)) ≤ taken_by (map length (map spelling (list ++ command ∷ [])))
less_with [] command = omega arith
less_with (first ∷ list) command = let rest = less_with list command in omega (arith, rest)

-- a desk's list in a run
pub record ListRun (number : ℕ) (was is : DeskState) : Type 0 where
  pub accepted : List Command
  pub grows : is.commands ≡ was.commands ++ accepted
  pub recorded : Records number (map spelling is.commands) is.commands
  pub next : IfSome is.doubt (λ command. Records number (map spelling (is.commands ++ command ∷ [])) (is.commands ++ command ∷ []))

-- so of each desk
abbrev pub RunAt : ℕ → Option DeskState → Option DeskState → Type 0
RunAt number None None = ⊤
RunAt number (Some was) (Some is) = ListRun number was is
RunAt number was is = ⊥

pub run_at : {D : Type 0} (disk_of : DiskGhosts D) (number : ℕ) (old new : Option D) (was is : Option DeskState) → IsKeptAt disk_of number old new was is → RunAt number was is
run_at disk_of number None None None None kept = tt
run_at disk_of number (Some old) (Some new) (Some was) (Some is) kept =
    record { accepted = kept.accepted; grows = kept.grows; recorded = kept.recorded; next = kept.next }
run_at disk_of number None None None (Some is) kept = absurd kept
run_at disk_of number None None (Some was) is kept = absurd kept
run_at disk_of number None (Some new) was is kept = absurd kept
run_at disk_of number (Some old) None was is kept = absurd kept
run_at disk_of number (Some old) (Some new) None is kept = absurd kept
run_at disk_of number (Some old) (Some new) (Some was) None kept = absurd kept

pub run_served : {D : Type 0} (disk_of : DiskGhosts D) (number : ℕ) (old new : Option D) (was is : Option DeskState) → IsServedAt disk_of number old new was is → RunAt number was is
run_served disk_of number None None None None served = tt
run_served disk_of number (Some old) (Some new) (Some was) (Some is) served =
    record { accepted = served.kept.accepted; grows = served.kept.grows; recorded = served.kept.recorded; next = served.kept.next }
run_served disk_of number None None None (Some is) served = absurd served
run_served disk_of number None None (Some was) is served = absurd served
run_served disk_of number None (Some new) was is served = absurd served
run_served disk_of number (Some old) None was is served = absurd served
run_served disk_of number (Some old) (Some new) None is served = absurd served
run_served disk_of number (Some old) (Some new) (Some was) None served = absurd served

fits_first : (list : List Command) (doubt : Option Command) → bytes_for (and_doubt list doubt) ≤ most_bytes → bytes_for list ≤ most_bytes
fits_first list None fits = fits
fits_first list (Some command) fits = let less = less_with list command in omega (arith, less, fits)

next_fits : (number : ℕ) (list : List Command) (doubt : Option Command) → IfSome doubt (λ command. Records number (map spelling (list ++ command ∷ [])) (list ++ command ∷ []))
    → bytes_for (and_doubt list doubt) ≤ most_bytes → IfSome doubt (IsNextCommand number list)
next_fits number list None records fits = tt
next_fits number list (Some command) records fits = last_turn (IsNextCommand number) list command (turns_of number (list ++ command ∷ []) records fits)

list_work : (number : ℕ) (was is : DeskState) → ListRun number was is → bytes_for (and_doubt is.commands is.doubt) ≤ most_bytes → IsListWork number was.commands is.commands is.doubt
list_work number was is run fits = record {
  more = run.accepted;
  grows = run.grows;
  turns = turns_of number is.commands run.recorded (fits_first is.commands is.doubt fits);
  next = next_fits number is.commands is.doubt run.next fits;
}

abbrev doubt_in : DeskState → Option Command
doubt_in desk = desk.doubt

list_works : (number : ℕ) (was is : DeskStates) → ((k : ℕ) → RunAt (number + k) (slice_get was k) (slice_get is k)) → ((k : ℕ) → k < length is → bytes_for (and_doubt (commands_at is k) (desk_doubt is k)) ≤ most_bytes)
    → AreListWorks number (lists_of was) (lists_of is) (map doubt_in is)
list_works number [] [] runs fits = tt
list_works number [] (now ∷ is) runs fits = absurd (runs 0)
list_works number (then ∷ was) [] runs fits = absurd (runs 0)
list_works number (then ∷ was) (now ∷ is) runs fits =
    let same : number + 0 ≡ number = omega arith in (
      list_work number then now (subst (λ (n : ℕ). ListRun n then now) same (runs 0)) (fits 0 (omega arith)),
      list_works (suc number) was is (λ k.
          let next : number + suc k ≡ suc number + k = omega arith in
          subst (λ (n : ℕ). RunAt n (slice_get was k) (slice_get is k)) next (runs (suc k)))
          (λ k inside. fits (suc k) (omega (arith, inside))),
    )

-- counted from the first on
runs_first : (was is : DeskStates) → ((k : ℕ) → RunAt k (slice_get was k) (slice_get is k)) → (k : ℕ) → RunAt (0 + k) (slice_get was k) (slice_get is k)
runs_first was is runs k =
    let same : k ≡ 0 + k = omega arith in
    subst (λ (n : ℕ). RunAt n (slice_get was k) (slice_get is k)) same (runs k)

-- ---- what it did at the press

records_front : (before : StandingValue) (list : List Edition) (n : ℕ)
    → taken_by (map length (records_over before (map edition_value (take n list)))) ≤ taken_by (map length (records_over before (map edition_value list)))
records_front before list zero = omega arith
records_front before [] (suc n) = omega arith
records_front before (edition ∷ list) (suc n) = let rest = records_front (after_edition before (edition_value edition)) list n in omega (arith, rest)

next_edition : (list : List Edition) (place : ℕ) (edition : Edition) → slice_get list place ≡ Some edition → take place list ++ edition ∷ [] ≡ take (suc place) list
next_edition [] place edition there = absurd (none_there place edition there)
next_edition (first ∷ list) zero edition there = ap (λ (e : Edition). e ∷ []) (same_one edition first (sym there))
next_edition (first ∷ list) (suc place) edition there = ap (λ (l : List Edition). first ∷ l) (next_edition list place edition there)

editions_turn : (ground : Premises) (list : List Edition) → AreSteps ground list → All (λ (e : Edition). All IsOfBytes e.changes) list → (list ≢ [] → press_bytes_for ground.site list ≤ press_limit)
    → InTurn (FollowsTheOthers ground) list
editions_turn ground list steps bytes fits place edition there =
    let step = steps place edition there in
    let front = records_front nothing_stands list (suc place) in
    let whole = fits (λ none. none_there place edition (subst (λ (l : List Edition). slice_get l place ≡ Some edition) none there)) in
    record {
      held = at_place (λ (e : Edition). All IsOfBytes e.changes) list bytes place edition there;
      clock = step.0;
      step = step.1;
      fits = subst (λ (l : List Edition). press_bytes_for ground.site l ≤ press_limit) (sym (next_edition list place edition there)) (omega (arith, front, whole));
    }

records_with : (before : StandingValue) (list : List Edition) (edition : Edition)
    → taken_by (map length (records_over before (map edition_value list))) ≤ taken_by (map length (records_over before (map edition_value (list ++ edition ∷ []))))
records_with before [] edition = omega arith
records_with before (first ∷ list) edition = let rest = records_with (after_edition before (edition_value first)) list edition in omega (arith, rest)

not_empty : {X : Type 0} (list : List X) (x : X) → list ++ x ∷ [] ≡ [] → ⊥
not_empty [] x is = absurd (cc)
not_empty (first ∷ list) x is = absurd (cc)

press_fits : (site : Bases) (list : List Edition) (doubt : Option Edition) → (and_doubt list doubt ≢ [] → press_bytes_for site (and_doubt list doubt) ≤ press_limit) → list ≢ [] → press_bytes_for site list ≤ press_limit
press_fits site list None fits some = fits some
press_fits site list (Some edition) fits some =
    let less = records_with nothing_stands list edition in
    let whole = fits (not_empty list edition) in
    omega (arith, less, whole)

bytes_first : (list : List Edition) (doubt : Option Edition) → All (λ (e : Edition). All IsOfBytes e.changes) (and_doubt list doubt) → All (λ (e : Edition). All IsOfBytes e.changes) list
bytes_first list None all = all
bytes_first list (Some edition) all = front_of (λ (e : Edition). All IsOfBytes e.changes) list (edition ∷ []) all

edition_next : (ground : Premises) (list : List Edition) (doubt : Option Edition) → IfSome doubt (λ edition. AreSteps ground (list ++ edition ∷ [])) → All (λ (e : Edition). All IsOfBytes e.changes) (and_doubt list doubt)
    → (and_doubt list doubt ≢ [] → press_bytes_for ground.site (and_doubt list doubt) ≤ press_limit) → IfSome doubt (FollowsTheOthers ground list)
edition_next ground list None steps bytes fits = tt
edition_next ground list (Some edition) steps bytes fits = last_turn (FollowsTheOthers ground) list edition (editions_turn ground (list ++ edition ∷ []) steps bytes fits)

-- ---- signatures

all_three : (a b c : Bool) → a ≡ true → b ≡ true → c ≡ true → (a && b && c) ≡ true
all_three true true true x y z = refl
all_three true true false x y z = absurd (false≢true z)
all_three true false c x y z = absurd (false≢true y)
all_three false b c x y z = absurd (false≢true x)

or_true : (b : Bool) → (b || true) ≡ true
or_true true = refl
or_true false = refl

same_bytes : (bytes : List ℕ) → bytes_eq bytes bytes ≡ true
same_bytes bytes = (bytes_eq-Decides bytes bytes).1 refl

-- It is vouched where its signature stands in the list.
among : (before : List Signature) (one : Signed) (later : List Signature) → are_vouched (before ++ signature_of one ∷ later) one.key one.digest one.signature ≡ true
among before one later =
    let test = is_signature one.key one.digest one.signature in
    let self : test (signature_of one) ≡ true =
    all_three (bytes_eq one.key one.key) (bytes_eq one.digest one.digest) (bytes_eq one.signature one.signature)
    (same_bytes one.key) (same_bytes one.digest) (same_bytes one.signature) in
    list_any-append test before (signature_of one ∷ later)
    ∙ (ap (λ (b : Bool). list_any test before || (b || list_any test later)) self ∙ or_true (list_any test before))

vouched_all : (before : List Signature) (calls : List Call) → All (IsVouchedBy (are_vouched (before ++ signatures calls))) calls
vouched_all before [] = All-nil (IsVouchedBy (are_vouched (before ++ [])))
vouched_all before (Makes signer key ∷ calls) =
    All-cons (IsVouchedBy (are_vouched (before ++ signatures calls))) (Makes signer key) calls tt (vouched_all before calls)
vouched_all before (Signs signer one ∷ calls) =
    let all = before ++ signature_of one ∷ signatures calls in
    All-cons (IsVouchedBy (are_vouched all)) (Signs signer one) calls (among before one (signatures calls))
    (subst (λ (s : List Signature). All (IsVouchedBy (are_vouched s)) calls) (append_assoc before (signature_of one ∷ []) (signatures calls))
    (vouched_all (before ++ signature_of one ∷ []) calls))
vouched_all before (Once signer one ∷ calls) =
    let all = before ++ signature_of one ∷ signatures calls in
    All-cons (IsVouchedBy (are_vouched all)) (Once signer one) calls (among before one (signatures calls))
    (subst (λ (s : List Signature). All (IsVouchedBy (are_vouched s)) calls) (append_assoc before (signature_of one ∷ []) (signatures calls))
    (vouched_all (before ++ signature_of one ∷ []) calls))

vouches_more : (signed more : List Signature) (key digest bytes : List ℕ) → are_vouched signed key digest bytes ≡ true → are_vouched (signed ++ more) key digest bytes ≡ true
vouches_more signed more key digest bytes is =
    list_any-append (is_signature key digest bytes) signed more ∙ ap (λ (b : Bool). b || list_any (is_signature key digest bytes) more) is

-- ---- behind a history

pub told_on : (told : Acknowledged) (history more : History) → acknowledging_all told (history ++ more) ≡ acknowledging_all (acknowledging_all told history) more
told_on told [] more = refl
told_on told (h ∷ rest) more = told_on (acknowledging told h.event) rest more

signed_on : (history more : History) → signatures_of (history ++ more) ≡ signatures_of history ++ signatures_of more
signed_on [] more = refl
signed_on (h ∷ rest) more =
    ap (λ (s : List Signature). h.signed ++ s) (signed_on rest more) ∙ sym (append_assoc h.signed (signatures_of rest) (signatures_of more))

same_lists : (lists : List (List Command)) → AreMore lists lists
same_lists [] = tt
same_lists (list ∷ lists) = (([], sym (append-nil list)), same_lists lists)

module _ (laws : RunLaws) (history : History) (begun ended : InstanceState) (same_site : ended.site ≡ begun.site) (same_found : ended.found ≡ begun.found)
    (just : begun.found.lists ≡ lists_of begun.desk_states) (just_editions : begun.found.editions ≡ begun.editions) (find : MayFind history begun) (room : HasRoom ended)
    (runs : (k : ℕ) → RunAt k (slice_get begun.desk_states k) (slice_get ended.desk_states k)) (many : length ended.desk_states ≡ most_desks)
    (made : List Edition) (grows : ended.editions ≡ begun.editions ++ made)
    (steps : (vouched : Vouched) → AreVouchedIn vouched ended → AreSteps (premises_of vouched ended) ended.editions)
    (doubt : (vouched : Vouched) → AreVouchedIn vouched ended → IfSome ended.in_doubt (λ edition. AreSteps (premises_of vouched ended) (ended.editions ++ edition ∷ []))) where
  abbrev before : List Signature
  before = signatures_of history

  abbrev vouched : Vouched
  vouched = are_vouched (before ++ signatures ended.calls)

  abbrev reopened : History
  reopened = history ++ record { signed = []; event = Reopen (lists_of begun.desk_states) begun.editions } ∷ []

  abbrev first_told : Acknowledged
  first_told = record { commands = replicate most_authorities []; editions = [] }

  told : acknowledged reopened ≡ record { commands = lists_of begun.desk_states; editions = begun.editions }
  told = told_on first_told history (record { signed = []; event = Reopen (lists_of begun.desk_states) begun.editions } ∷ [])

  signed : signatures_of reopened ≡ before
  signed = signed_on history (record { signed = []; event = Reopen (lists_of begun.desk_states) begun.editions } ∷ []) ∙ append-nil before

  found_steps : AreSteps (record { lists = begun.found.lists; site = ended.site; vouched = vouched }) begun.found.editions
  found_steps =
      let was = laws.steps begun.site reopened (laws.reopen begun.site history [] (lists_of begun.desk_states) begun.editions find.legal find.found) in
      let ground : ground_after begun.site reopened ≡ record { lists = lists_of begun.desk_states; site = begun.site; vouched = are_vouched before } =
      (λ i. record { lists = (told i).commands; site = begun.site; vouched = are_vouched (signed i) }) in
      let here : AreSteps (record { lists = lists_of begun.desk_states; site = begun.site; vouched = are_vouched before }) begun.editions =
      subst (λ (g : Premises). AreSteps g begun.editions) ground (subst (λ (a : Acknowledged). AreSteps (ground_after begun.site reopened) a.editions) told was) in
      let more : AreSteps (record { lists = lists_of begun.desk_states; site = begun.site; vouched = vouched }) begun.editions =
      laws.stay (record { lists = lists_of begun.desk_states; site = begun.site; vouched = are_vouched before }) (record { lists = lists_of begun.desk_states; site = begun.site; vouched = vouched }) begun.editions
      (record { lists = same_lists (lists_of begun.desk_states); site = refl; vouched = vouches_more before (signatures ended.calls) }) here in
      subst (λ (l : List (List Command)). AreSteps (record { lists = l; site = ended.site; vouched = vouched }) begun.found.editions) (sym just)
      (subst (λ (s : Bases). AreSteps (record { lists = lists_of begun.desk_states; site = s; vouched = vouched }) begun.found.editions) (sym same_site)
      (subst (λ (e : List Edition). AreSteps (record { lists = lists_of begun.desk_states; site = begun.site; vouched = vouched }) e) (sym just_editions) more))

  vouches : AreVouchedIn vouched ended
  vouches = record {
    calls = vouched_all before ended.calls;
    found = subst (λ (f : Found). AreSteps (record { lists = f.lists; site = ended.site; vouched = vouched }) f.editions) (sym same_found) found_steps;
  }

  abbrev ground : Premises
  ground = ground_with begun.site vouched (work_of begun ended)

  same_ground : premises_of vouched ended ≡ ground
  same_ground = λ i. record { lists = lists_of ended.desk_states; site = same_site i; vouched = vouched }

  fits : and_doubt ended.editions ended.in_doubt ≢ [] → press_bytes_for begun.site (and_doubt ended.editions ended.in_doubt) ≤ press_limit
  fits some = subst (λ (s : Bases). press_bytes_for s (and_doubt ended.editions ended.in_doubt) ≤ press_limit) same_site (room.press some)

  is_work : IsWork begun.site vouched (work_of begun ended)
  is_work = record {
    desks = list_works 0 begun.desk_states ended.desk_states (runs_first begun.desk_states ended.desk_states runs) (λ k inside. room.desks k (omega (arith, inside, many)));
    more = made;
    grows = grows;
    turns = editions_turn ground ended.editions (subst (λ (g : Premises). AreSteps g ended.editions) same_ground (steps vouched vouches)) (bytes_first ended.editions ended.in_doubt room.bytes)
        (press_fits begun.site ended.editions ended.in_doubt fits);
    next = edition_next ground ended.editions ended.in_doubt
        (subst (λ (g : Premises). IfSome ended.in_doubt (λ edition. AreSteps g (ended.editions ++ edition ∷ []))) same_ground (doubt vouched vouches)) room.bytes fits;
  }

  pub goes_on : GoesOnAs begun.site history (signatures ended.calls) (work_of begun ended)
  goes_on = laws.work begun.site history (signatures ended.calls) (work_of begun ended) find.legal find.found is_work
