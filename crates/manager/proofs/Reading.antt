-- What the reads go through.
use mathlib.Core.Bool.{beq}
use Rattle.std.proofs.Common.{◌≡◌, ◌≢◌, ℕ, ◌<◌, Bool, true, false, ◌&&◌, ◌||◌, nat_eq, List, [], ◌∷◌, ◌++◌, length, get_or, refl, sym, ◌∙◌, ap, subst, arith, ⊎_elim}
use Rattle.std.specs.Prelude.{Some}
use Rattle.std.proofs.lemmas.Bool.{and_parts, eqb-true, cases_eq}
use Rattle.std.proofs.lemmas.Cmp.{eq_by_cmp_equiv, nat_eq_equiv}
use Rattle.std.proofs.lemmas.List.{get_or_append_left, get_or_push, length_push}
use Rattle.std.proofs.lemmas.Map.Views.{tells_apart}
use Rattle.std.specs.Cmp.{IsEquivalence}
use Rattle.std.specs.List.{list_any}
use mathlib.Core.List.{IsPrefix}
use Rattle.commit_word.specs.Seats.{FollowerSeat}
use Rattle.authority_book.specs.declared.rows.NameRow.{NameRow}
use Rattle.authority_book.specs.Settings.{Settings}
use Rattle.origins.specs.declared.Origin.{Origin}
use Rattle.origins.specs.laws.Same.{same_prefix, same_origin}
use Rattle.origins.specs.laws.Ordered.{origin_total, exact_origin}
use Rattle.authority_book.specs.Origins.{is_same, is_there}
use Rattle.notice_board.specs.declared.sheets.SheetRow.{SheetRow}
use Rattle.manager.specs.Lists.{seat_at}
use Rattle.notice_board.specs.Lists.{last_serial}
use Rattle.notice_board.specs.Rows.{IsRowShown}
use Rattle.manager.specs.Passes.{PassValue, ComesTo, IsNamed, KnowsMore, HasLearned, anchor_desk}
use Rattle.manager.specs.Reading.{IsState, AreShownRoas, AreRoas, IsShown, IsTree, IsListRow}
use Rattle.manager.specs.declared.locked_desks_answers.ListRow.{ListRow}
use Rattle.manager.specs.declared.locked_desks_answers.Shown.{Shown}
use Rattle.manager.specs.declared.locked_desks_answers.ShownRoa.{ShownRoa}
use Rattle.manager.specs.declared.locked_desks_answers.ShownRoas.{ShownRoas}
use Rattle.manager.proofs.Knowing.{comes_same, knows_on, rest_on, learned_rest, learned_look}

-- ---- `contains`

-- Whether two origins have the same numbers, as `contains` asks.
abbrev pub has_numbers : Origin → Origin → Bool
has_numbers a b =
    (beq a.prefix.v6 b.prefix.v6 && (nat_eq a.prefix.address b.prefix.address && nat_eq a.prefix.length b.prefix.length))
    && (nat_eq a.max b.max && nat_eq a.asn b.asn)

same_bool : (a b : Bool) → beq a b ≡ true → a ≡ b
same_bool true true is = refl
same_bool true false is = absurd (cc)
same_bool false true is = absurd (cc)
same_bool false false is = refl

its_bool : (a : Bool) → beq a a ≡ true
its_bool true = refl
its_bool false = refl

both_true : (a b : Bool) → a ≡ true → b ≡ true → (a && b) ≡ true
both_true true b first second = second
both_true false b first second = first

one_answer : (a b : Bool) → (a ≡ true → b ≡ true) → (b ≡ true → a ≡ true) → a ≡ b
one_answer true b to from = sym (to refl)
one_answer false true to from = from refl
one_answer false false to from = refl

same_numbers : (a b : Origin) → has_numbers a b ≡ true → a ≡ b
same_numbers a b is =
    let outer = and_parts _ _ is in
    let prefix = and_parts _ _ outer.0 in
    let address = and_parts _ _ prefix.1 in
    let rest = and_parts _ _ outer.1 in
    same_origin a b
    (same_prefix a.prefix b.prefix (same_bool _ _ prefix.0) (eqb-true _ _ address.0) (eqb-true _ _ address.1))
    (eqb-true _ _ rest.0) (eqb-true _ _ rest.1)

its_numbers : (a : Origin) → has_numbers a a ≡ true
its_numbers a =
    both_true _ _
    (both_true _ _ (its_bool a.prefix.v6) (both_true _ _ (nat_eq_equiv.refl a.prefix.address) (nat_eq_equiv.refl a.prefix.length)))
    (both_true _ _ (nat_eq_equiv.refl a.max) (nat_eq_equiv.refl a.asn))

test_is : (a b : Origin) → has_numbers b a ≡ is_same a b
test_is a b =
    one_answer (has_numbers b a) (is_same a b)
    (λ t. subst (λ (z : Origin). is_same a z ≡ true) (sym (same_numbers b a t)) (same_laws.refl a))
    (λ t. subst (λ (z : Origin). has_numbers z a ≡ true) (tells_apart exact_origin a b t) (its_numbers a))
  where
    same_laws : IsEquivalence is_same
    same_laws = eq_by_cmp_equiv origin_total

-- what `contains` finds is there
pub found_there : (origins : List Origin) (origin : Origin) → list_any (λ o. has_numbers o origin) origins ≡ is_there origins origin
found_there [] origin = refl
found_there (first ∷ rest) origin =
    ap (λ (b : Bool). b || list_any (λ o. has_numbers o origin) rest) (test_is origin first)
    ∙ ap (λ (b : Bool). is_same origin first || b) (found_there rest origin)

-- ---- origins

-- one more
pub roas_push : (row : SheetRow) (origins : List Origin) (roas : List ShownRoa) (origin : Origin) (roa : ShownRoa) → AreShownRoas row origins roas → roa.origin ≡ origin → IsState row origin roa.state
    → AreShownRoas row (origins ++ origin ∷ []) (roas ++ roa ∷ [])
roas_push row [] [] origin roa all same state = (same, state, tt)
roas_push row [] (l ∷ roas) origin roa all same state = absurd all
roas_push row (o ∷ origins) [] origin roa all same state = absurd all
roas_push row (o ∷ origins) (l ∷ roas) origin roa all same state = (all.0, all.1, roas_push row origins roas origin roa all.2 same state)

-- ---- rows of the list of names

abbrev pub RowsSoFar : List FollowerSeat → List NameRow → List ListRow → Type 0
RowsSoFar seats names rows =
    (desk : ℕ) (name : NameRow) (row : ListRow) → desk < length rows → IsListRow seats desk (get_or names desk name) (get_or rows desk row)

row_same : (old new : List FollowerSeat) (desk : ℕ) (name : NameRow) (row : ListRow) → seat_at new desk ≡ seat_at old desk → IsListRow old desk name row → IsListRow new desk name row
row_same old new desk name row same is = record {
  name_is = is.name_is;
  settings = is.settings;
  known = comes_same old new desk is.settings same is.known;
  deleted_is = is.deleted_is;
}

-- one row more, where the seats of others stay
pub rows_push : (old new : List FollowerSeat) (names : List NameRow) (rows : List ListRow) (row : ListRow) → ((other : ℕ) → other ≢ length rows → seat_at new other ≡ seat_at old other)
    → ((name : NameRow) → IsListRow new (length rows) (get_or names (length rows) name) row) → RowsSoFar old names rows → RowsSoFar new names (rows ++ row ∷ [])
rows_push old new names rows row others here all desk name d below = ⊎_elim
    (λ (is : desk ≡ length rows).
    let at : get_or (rows ++ row ∷ []) desk d ≡ row = ap (λ (n : ℕ). get_or (rows ++ row ∷ []) n d) is ∙ get_or_push rows row d (length rows) refl in
    subst (λ (r : ListRow). IsListRow new desk (get_or names desk name) r) (sym at)
    (subst (λ (n : ℕ). IsListRow new n (get_or names n name) row) (sym is) (here name)))
    (λ (away : desk ≢ length rows).
    let inside : desk < length rows = omega (arith, away, below, length_push rows row) in
    let at : get_or (rows ++ row ∷ []) desk d ≡ get_or rows desk d = get_or_append_left rows (row ∷ []) d desk inside in
    subst (λ (r : ListRow). IsListRow new desk (get_or names desk name) r) (sym at)
    (row_same old new desk (get_or names desk name) (get_or rows desk d) (others desk away) (all desk name d inside)))
    (cases_eq desk (length rows))

pub tree_same : (old new : List FollowerSeat) (names : List NameRow) (deleted : Bool) → seat_at new anchor_desk ≡ seat_at old anchor_desk → IsTree old names deleted → IsTree new names deleted
tree_same old new names deleted same is = record {
  settings = is.settings;
  known = comes_same old new anchor_desk is.settings same is.known;
  names_are = is.names_are;
  deleted_is = is.deleted_is;
}

-- ---- an authority that was found, and then read at its desk

pub read_learned : (a b c : PassValue) → b ≡ record a { seats = b.seats } → KnowsMore a.seats b.seats → c ≡ record b { seats = c.seats } → KnowsMore b.seats c.seats → HasLearned a c
read_learned a b c first more second further = learned_rest a c (rest_on a b c first second) (knows_on a.seats b.seats c.seats more further)

-- and then looked up on the board
pub looked_learned : (a b c d : PassValue) → b ≡ record a { seats = b.seats } → KnowsMore a.seats b.seats → c ≡ record b { seats = c.seats } → KnowsMore b.seats c.seats
    → d ≡ record c { shown = d.shown } → IsPrefix c.shown d.shown → HasLearned a d
looked_learned a b c d first more second further rest grows = learned_look a c d (read_learned a b c first more second further) rest grows

pub looked_named : (c d : PassValue) (name : List ℕ) (desk : ℕ) → d ≡ record c { shown = d.shown } → IsNamed c.seats name (Some desk) → IsNamed d.seats name (Some desk)
looked_named c d name desk rest named = subst (λ (l : List FollowerSeat). IsNamed l name (Some desk)) (sym (ap (λ (p : PassValue). p.seats) rest)) named

looked_known : (c d : PassValue) (desk : ℕ) (settings : Settings) → d ≡ record c { shown = d.shown } → ComesTo c.seats desk settings → ComesTo d.seats desk settings
looked_known c d desk settings rest known = subst (λ (l : List FollowerSeat). ComesTo l desk settings) (sym (ap (λ (p : PassValue). p.seats) rest)) known

pub shown_is : (name : List ℕ) (c d : PassValue) (shown : Shown) (desk : ℕ) → d ≡ record c { shown = d.shown } → IsNamed c.seats name (Some desk)
    → (settings : Settings) × ComesTo c.seats desk settings × (shown.parent ≡ settings.parent) × (shown.children ≡ settings.children)
    → IsRowShown d.shown desk shown.row → shown.serial ≡ last_serial d.shown → IsShown name d shown
shown_is name c d shown desk rest named family row serial = record {
  desk = desk;
  named = looked_named c d name desk rest named;
  settings = family.0;
  known = looked_known c d desk family.0 rest family.1;
  parent_is = family.2;
  children_are = family.3;
  row_is = row;
  serial_is = serial;
}

pub roas_are : (name : List ℕ) (c d : PassValue) (roas : ShownRoas) (row : SheetRow) (origins : List Origin) (desk : ℕ) → d ≡ record c { shown = d.shown } → IsNamed c.seats name (Some desk)
    → (settings : Settings) × ComesTo c.seats desk settings × (origins ≡ settings.origins)
    → IsRowShown d.shown desk row → AreShownRoas row origins roas.rows → roas.serial ≡ last_serial d.shown → AreRoas name d roas
roas_are name c d roas row origins desk rest named found row_is states serial = record {
  desk = desk;
  named = looked_named c d name desk rest named;
  settings = found.0;
  known = looked_known c d desk found.0 rest found.1;
  row = row;
  row_is = row_is;
  states = subst (λ (l : List Origin). AreShownRoas row l roas.rows) found.2 states;
  serial_is = serial;
}
