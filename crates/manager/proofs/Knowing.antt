-- What is known of the desks, as more of their lists is seen.
use Rattle.std.proofs.Common.{◌≡◌, ◌≢◌, ℕ, zero, suc, ◌+◌, ◌<◌, Bool, true, false, not, cond, nat_lt, List, [], ◌∷◌, ◌++◌, map, length, take, drop, get_or, refl, sym, ap, ◌∙◌, subst, arith, append-nil, append_assoc, length-append, ⊎_elim}
use Rattle.std.specs.Prelude.{Some, None, slice_set}
use Rattle.std.specs.Str.{bytes_eq}
use Rattle.std.specs.List.{position_or_len}
use Rattle.std.proofs.Math.Seq.{take-append_seam}
use Rattle.std.proofs.lemmas.Bool.{cases_eq, ltb-true, lt-ltb}
use Rattle.std.proofs.lemmas.Option.{cond_some}
use Rattle.std.proofs.lemmas.List.{length-map, take-map, take-append-drop, get_or-set_same, get_or-set_other, get_or_default, length-set}
use Rattle.std.proofs.lemmas.List.Elements.{All-take}
use mathlib.Core.List.{IsPrefix}
use Rattle.atomic_table.specs.Seated.{TableId}
use Rattle.commit_word.specs.Seats.{FollowerSeat}
use Rattle.authority_book.specs.declared.commands.Command.{Command}
use Rattle.authority_book.specs.declared.commands.Command.TheVariants.{Add, Delete, AddParent, AddChild, UpdateChild, RemoveChild, SuspendChild, UnsuspendChild, UpdateRoas, InitRoll, ActivateRoll}
use Rattle.authority_book.specs.declared.rows.NameRow.{NameRow}
use Rattle.authority_book.specs.Settings.{Settings}
use Rattle.authority_book.specs.Listed.{place_of}
use Rattle.authority_book.specs.Fold.{fold_of, after, after_all, empty_settings, AcceptedInTurn}
use Rattle.cmd_codec.specs.Spelling.{spelling, IsRecordable}
use Rattle.desk_core.specs.Commands.{Records}
use Rattle.notice_board.specs.declared.shown.ShownEdition.{ShownEdition}
use Rattle.manager.specs.Named.{Named}
use Rattle.manager.specs.Lists.{seat_at, no_seat}
use Rattle.manager.specs.Passes.{PassValue, anchor_desk, Knows, ComesTo, IsNamed, IsMore, KnowsMore, HasLearned, IsSeatOf, AreSeatsOf}

-- ---- prefixes

pub prefix_none : {X : Type 0} (xs : List X) → IsPrefix xs xs
prefix_none xs = ([], append-nil xs)

pub prefix_on : {X : Type 0} (xs ys zs : List X) → IsPrefix xs ys → IsPrefix ys zs → IsPrefix xs zs
prefix_on xs ys zs p q = (p.0 ++ q.0, sym (append_assoc xs p.0 q.0) ∙ (ap (λ w. w ++ q.0) p.1 ∙ q.1))

-- ---- a seat that has seen more

pub more_none : (seat : FollowerSeat) → IsMore seat seat
more_none seat = record { grows = prefix_none seat.seen; rest = refl }

pub more_on : (a b c : FollowerSeat) → IsMore a b → IsMore b c → IsMore a c
more_on a b c p q = record {
  grows = prefix_on a.seen b.seen c.seen p.grows q.grows;
  rest = q.rest ∙ ap (λ (s : FollowerSeat). record s { seen = c.seen }) p.rest;
}

pub more_seen : (seat next : FollowerSeat) (seen : List (List ℕ)) → IsPrefix seat.seen seen → next ≡ record seat { seen = seen } → IsMore seat next
more_seen seat next seen grows is = subst (λ (s : FollowerSeat). IsMore seat s) (sym is) (record { grows = grows; rest = refl })

-- ---- seats, of which one changes

module _ (seats : List FollowerSeat) (place : ℕ) (next : FollowerSeat) (within : place < length seats) where
  pub set_here : seat_at (slice_set seats place next) place ≡ next
  set_here = get_or-set_same seats place next no_seat within

  pub set_other : (other : ℕ) → other ≢ place → seat_at (slice_set seats place next) other ≡ seat_at seats other
  set_other other away = get_or-set_other seats place other next no_seat away

  pub set_each : (P : ℕ → FollowerSeat → Type 0) → P place next → ((other : ℕ) → other ≢ place → P other (seat_at seats other))
      → (desk : ℕ) → P desk (seat_at (slice_set seats place next) desk)
  set_each P here others desk = ⊎_elim
      (λ (is : desk ≡ place). subst (λ (n : ℕ). P n (seat_at (slice_set seats place next) n)) (sym is) (subst (P place) (sym set_here) here))
      (λ (away : desk ≢ place). subst (P desk) (sym (set_other desk away)) (others desk away))
      (cases_eq desk place)

  pub set_more : IsMore (seat_at seats place) next → KnowsMore seats (slice_set seats place next)
  set_more more = record {
    count = length-set seats place next;
    each = set_each (λ desk seat. IsMore (seat_at seats desk) seat) more (λ other away. more_none (seat_at seats other));
  }

  pub set_seats : (words : ℕ → TableId) (named : Named) → AreSeatsOf words named seats → IsSeatOf words named place next → AreSeatsOf words named (slice_set seats place next)
  set_seats words named are is desk below =
      set_each (λ other seat. other < length seats → IsSeatOf words named other seat) (λ b. is) (λ other away b. are other b) desk
      (subst (λ (n : ℕ). desk < n) (length-set seats place next) below)

pub knows_none : (a : List FollowerSeat) → KnowsMore a a
knows_none a = record { count = refl; each = λ desk. more_none (seat_at a desk) }

pub knows_on : (a b c : List FollowerSeat) → KnowsMore a b → KnowsMore b c → KnowsMore a c
knows_on a b c p q = record {
  count = q.count ∙ p.count;
  each = λ desk. more_on (seat_at a desk) (seat_at b desk) (seat_at c desk) (p.each desk) (q.each desk);
}

-- what an index gives is the seat
pub read_seat : (seats : List FollowerSeat) (place : ℕ) (was : FollowerSeat) → place < length seats → was ≡ get_or seats place was → was ≡ seat_at seats place
read_seat seats place was within read = read ∙ get_or_default seats place was no_seat within

-- ---- the commands of a desk

abbrev pub OneList : Type 0
OneList = (number : ℕ) (records : List (List ℕ)) (one other : List Command) → Records number records one → Records number records other → one ≡ other

accepted_front : (settings : Settings) (n : ℕ) (list : List Command) → AcceptedInTurn settings list → AcceptedInTurn settings (take n list)
accepted_front settings zero list all = tt
accepted_front settings (suc n) [] all = all
accepted_front settings (suc n) (command ∷ list) all = (all.0, accepted_front (after settings command) n list all.1)

-- records that begin with others are those of commands that begin with theirs
pub begins : OneList → (number : ℕ) (old new : List Command) (was is : List (List ℕ)) → Records number was old → Records number is new → IsPrefix was is
    → (rest : List Command) × (new ≡ old ++ rest)
begins law number old new was is first second prefix =
    let n = length old in
    let long : n ≡ length (map spelling old) = sym (length-map old spelling) in
    let front : map spelling old ≡ map spelling (take n new) =
    sym (take-append_seam (map spelling old) prefix.0)
    ∙ (ap (λ (k : ℕ). take k (map spelling old ++ prefix.0)) (sym long)
    ∙ (ap (λ (l : List (List ℕ)). take n (l ++ prefix.0)) (sym first.spelled)
    ∙ (ap (take n) (prefix.1 ∙ second.spelled) ∙ take-map spelling n new))) in
    let same : old ≡ take n new = law number (map spelling old) old (take n new)
    (record { spelled = refl; recordable = first.recordable; taken = first.taken })
    (record { spelled = front; recordable = All-take IsRecordable n new second.recordable; taken = accepted_front (empty_settings number) n new second.taken }) in
    (drop n new, sym (take-append-drop n new) ∙ ap (λ (l : List Command). l ++ drop n new) (sym same))

-- ---- names that are listed stay where they are

abbrev GrowsTo : List NameRow → List NameRow → Type 0
GrowsTo names more = (rest : List NameRow) × (more ≡ names ++ rest)

names_one : (settings : Settings) (command : Command) → GrowsTo settings.names (after settings command).names
names_one settings (Add name signer) = (record { name = name; signer = signer } ∷ [], refl)
names_one settings Delete = ([], sym (append-nil settings.names))
names_one settings (AddParent parent) = ([], sym (append-nil settings.names))
names_one settings (AddChild child grant) = ([], sym (append-nil settings.names))
names_one settings (UpdateChild child grant) = ([], sym (append-nil settings.names))
names_one settings (RemoveChild child) = ([], sym (append-nil settings.names))
names_one settings (SuspendChild child) = ([], sym (append-nil settings.names))
names_one settings (UnsuspendChild child) = ([], sym (append-nil settings.names))
names_one settings (UpdateRoas added removed) = ([], sym (append-nil settings.names))
names_one settings InitRoll = ([], sym (append-nil settings.names))
names_one settings ActivateRoll = ([], sym (append-nil settings.names))

names_all : (settings : Settings) (commands : List Command) → GrowsTo settings.names (after_all settings commands).names
names_all settings [] = ([], sym (append-nil settings.names))
names_all settings (command ∷ rest) =
    let one = names_one settings command in
    let all = names_all (after settings command) rest in
    (one.0 ++ all.0, all.1 ∙ (ap (λ (l : List NameRow). l ++ all.0) one.1 ∙ append_assoc settings.names one.0 all.0))

pub fold_append : (settings : Settings) (one more : List Command) → after_all settings (one ++ more) ≡ after_all (after_all settings one) more
fold_append settings [] more = refl
fold_append settings (command ∷ rest) more = fold_append (after settings command) rest more

front_at : (p : NameRow → Bool) (x : NameRow) (xs ys : List NameRow) (b : Bool) → p x ≡ b
    → (position_or_len p xs < length xs → position_or_len p (xs ++ ys) ≡ position_or_len p xs)
    → cond (not b) (1 + position_or_len p xs) 0 < suc (length xs) → cond (not b) (1 + position_or_len p (xs ++ ys)) 0 ≡ cond (not b) (1 + position_or_len p xs) 0
front_at p x xs ys true is rest below = refl
front_at p x xs ys false is rest below = ap (λ (n : ℕ). 1 + n) (rest (omega (arith, below)))

front : (p : NameRow → Bool) (xs ys : List NameRow) → position_or_len p xs < length xs → position_or_len p (xs ++ ys) ≡ position_or_len p xs
front p [] ys below = absurd (omega (arith, below))
front p (x ∷ xs) ys below = front_at p x xs ys (p x) refl (front p xs ys) below

shown_place : (b : Bool) (n k : ℕ) → b ≡ true → n ≡ k → cond b (Some n) None ≡ Some k
shown_place true n k is same = ap (λ (m : ℕ). Some m) same
shown_place false n k is same = absurd (cc)

pub stays_listed : (names more : List NameRow) (name : List ℕ) (place : ℕ) → GrowsTo names more → place_of names name ≡ Some place → place_of more name ≡ Some place
stays_listed names more name place grows is =
    let p : NameRow → Bool = λ row. bytes_eq row.name name in
    let parts = cond_some (nat_lt (position_or_len p names) (length names)) (position_or_len p names) place is in
    let below : position_or_len p names < length names = ltb-true _ _ parts.0 in
    let same : position_or_len p (names ++ grows.0) ≡ position_or_len p names = front p names grows.0 below in
    let within : nat_lt (position_or_len p (names ++ grows.0)) (length (names ++ grows.0)) ≡ true =
    lt-ltb _ _ (omega (arith, same, below, length-append names grows.0)) in
    subst (λ (l : List NameRow). place_of l name ≡ Some place) (sym grows.1)
    (shown_place (nat_lt (position_or_len p (names ++ grows.0)) (length (names ++ grows.0))) (position_or_len p (names ++ grows.0)) place within (same ∙ parts.1))

-- an authority that was found is found there still
pub named_stays : OneList → (old new : List FollowerSeat) (name : List ℕ) (place : ℕ) → IsPrefix (seat_at old anchor_desk).seen (seat_at new anchor_desk).seen
    → (commands : List Command) × Knows new anchor_desk commands → IsNamed old name (Some place) → IsNamed new name (Some place)
named_stays law old new name place grows known named =
    let was = named.known in
    let more = begins law anchor_desk was.commands known.0 (seat_at old anchor_desk).seen (seat_at new anchor_desk).seen was.known known.1 grows in
    let folded : fold_of anchor_desk known.0 ≡ after_all named.settings more.0 =
    ap (fold_of anchor_desk) more.1 ∙ (fold_append (empty_settings anchor_desk) was.commands more.0 ∙ ap (λ (s : Settings). after_all s more.0) (sym was.fold)) in
    let longer = names_all named.settings more.0 in
    record {
      settings = fold_of anchor_desk known.0;
      known = record { commands = known.0; known = known.1; fold = refl };
      place = stays_listed named.settings.names (fold_of anchor_desk known.0).names name place (longer.0, ap (λ (s : Settings). s.names) folded ∙ longer.1) named.place;
    }

-- what a desk comes to, where its list was seen as it was
pub comes_same : (old new : List FollowerSeat) (desk : ℕ) (settings : Settings) → seat_at new desk ≡ seat_at old desk → ComesTo old desk settings → ComesTo new desk settings
comes_same old new desk settings same is = record {
  commands = is.commands;
  known = subst (λ (s : FollowerSeat). Records desk s.seen is.commands) (sym same) is.known;
  fold = is.fold;
}

-- ---- the pass as a whole

pub rest_on : (a b c : PassValue) → b ≡ record a { seats = b.seats } → c ≡ record b { seats = c.seats } → c ≡ record a { seats = c.seats }
rest_on a b c first second = second ∙ ap (λ (p : PassValue). record p { seats = c.seats }) first

pub learned_rest : (old new : PassValue) → new ≡ record old { seats = new.seats } → KnowsMore old.seats new.seats → HasLearned old new
learned_rest old new rest more = record {
  seats = more;
  shown = subst (λ (l : List ShownEdition). IsPrefix old.shown l) (sym (ap (λ (p : PassValue). p.shown) rest)) (prefix_none old.shown);
  places = ap (λ (p : PassValue). p.places) rest;
}

-- and the board was looked at
pub learned_look : (a b c : PassValue) → HasLearned a b → c ≡ record b { shown = c.shown } → IsPrefix b.shown c.shown → HasLearned a c
learned_look a b c is rest grows = record {
  seats = subst (λ (l : List FollowerSeat). KnowsMore a.seats l) (sym (ap (λ (p : PassValue). p.seats) rest)) is.seats;
  shown = prefix_on a.shown b.shown c.shown is.shown grows;
  places = ap (λ (p : PassValue). p.places) rest ∙ is.places;
}

pub look_learned : (a b c : PassValue) → b ≡ record a { shown = b.shown } → IsPrefix a.shown b.shown → HasLearned b c → HasLearned a c
look_learned a b c rest grows is = record {
  seats = subst (λ (l : List FollowerSeat). KnowsMore l c.seats) (ap (λ (p : PassValue). p.seats) rest) is.seats;
  shown = prefix_on a.shown b.shown c.shown grows is.shown;
  places = is.places ∙ ap (λ (p : PassValue). p.places) rest;
}
