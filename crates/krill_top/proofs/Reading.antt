-- What the reads go through.
use mathlib.Core.Bool.{beq}
use Rattle.std.proofs.Common.{◌≡◌, ℕ, zero, suc, ◌<◌, ◌+◌, Bool, true, false, ◌&&◌, ◌||◌, cond, nat_eq, List, [], ◌∷◌, ◌++◌, length, map, take, refl, sym, ◌∙◌, ap, subst, arith, inl, inr}
use Rattle.std.proofs.lemmas.Bool.{and_parts, eqb-true, ltb-true, ltb-false}
use Rattle.std.proofs.lemmas.Cmp.{eq_by_cmp_equiv, nat_eq_equiv}
use Rattle.std.proofs.lemmas.Map.Views.{tells_apart}
use Rattle.std.specs.Cmp.{IsEquivalence}
use Rattle.std.specs.List.{list_any}
use Rattle.std.specs.Ordering.{ord_max, nat_cmp, is_lt}
use Rattle.std.specs.declared.cmp.Ordering.TheVariants.{Less, Equal, Greater}
use Rattle.std.specs.declared.alloc.Global.{Global}
use Rattle.std.specs.Prelude.{IfSome, ◌==◌, nat_lt, max, codes, decimal, slice_index_or, Option, Some, Result, Ok, Err, IfOk, Vec}
use Rattle.json.specs.Print.{quoted}
use Rattle.authority_book.specs.declared.rows.NameRow.{NameRow}
use Rattle.res_sets.specs.declared.holdings.Resources.{Resources}
use Rattle.res_sets.specs.Triples.{HaveNone, has}
use Rattle.authority_book.specs.declared.rows.Child.{Child}
use Rattle.authority_book.specs.Settings.{Settings}
use Rattle.json_api.specs.Texts.{commas, child_line, parent_text, stage_text, set_text, resources_text, show_spelling}
use Rattle.json_api.specs.declared.texts.StageWord.{StageWord}
use Rattle.origins.specs.declared.Origin.{Origin}
use Rattle.origins.specs.laws.Same.{same_prefix, same_origin}
use Rattle.origins.specs.laws.Ordered.{origin_total, exact_origin}
use Rattle.authority_book.specs.Origins.{is_same, is_there}
use Rattle.entitle.specs.Owed.{HasEach}
use Rattle.notice_board.specs.declared.sheets.Sheet.{Sheet}
use Rattle.notice_board.specs.declared.sheets.SheetRow.{SheetRow}
use Rattle.json_api.specs.declared.texts.ListLine.{ListLine}
use Rattle.json_api.specs.declared.texts.RoaLine.{RoaLine}
use Rattle.json_api.specs.declared.texts.RoaWord.TheVariants.{Published, Held, Pending}
use Rattle.krill_top.specs.DeskStates.{DeskStates, settings_at}
use Rattle.krill_top.specs.Reads.{list_lines, nothing_certified, row_at, certified_in, stage_in, shown_by, HasCanonicalSets, IsShownText, IsState, AreRoaLines}
use Rattle.krill_top.specs.Run.{signers_needed}

-- one line more
pub list_lines_push : (desk_states : DeskStates) (number : ℕ) (rows : List NameRow) (k at : ℕ) (d : NameRow) → at ≡ number + k → k < length rows
    → list_lines desk_states number (take (suc k) rows)
    ≡ list_lines desk_states number (take k rows) ++ record { name = (slice_index_or rows k d).name; deleted = (settings_at desk_states at).deleted } ∷ []
list_lines_push desk_states number [] k at d is less = absurd (omega (arith, less))
list_lines_push desk_states number (row ∷ rows) zero at d is less =
    ap (λ (n : ℕ). record { name = row.name; deleted = (settings_at desk_states n).deleted } ∷ []) (omega (arith, is))
list_lines_push desk_states number (row ∷ rows) (suc k) at d is less =
    let first : ListLine = record { name = row.name; deleted = (settings_at desk_states number).deleted } in
    ap (λ (l : List ListLine). first ∷ l) (list_lines_push desk_states (suc number) rows k at d (omega (arith, is)) (omega (arith, less)))

-- the text of no numbers
pub none_text : (held : Resources) → HaveNone held → resources_text held ≡ resources_text nothing_certified
unfolding resources_text
none_text held none = λ i.
    codes "{\"asn\":" ++ quoted (set_text (none.asn i))
    ++ codes ",\"ipv4\":" ++ quoted (set_text (none.v4 i))
    ++ codes ",\"ipv6\":" ++ quoted (set_text (none.v6 i)) ++ codes "}"

-- the text of an authority, by what the sheet says of it
pub shown_text : {E : Type 0} (result : Result (Vec ℕ Global) E) (name : List ℕ) (settings : Settings) (sheet : Sheet) (number : ℕ) (held : Resources) (parent : Option (List ℕ)) (word : StageWord) (children : List Child)
    → resources_text held ≡ resources_text (certified_in (row_at sheet number)) → parent ≡ settings.parent → word ≡ stage_in (row_at sheet number) → children ≡ settings.children
    → IfSome (row_at sheet number) (λ row. HasCanonicalSets row.certified)
    → IfOk result (λ text. text.items ≡ show_spelling (record { authority = name; certified = held; parent = parent; serial = sheet.serial; stage = word }) children)
    → IfOk result (λ text. IsShownText name settings sheet number text.items)
shown_text (Err wanting) name settings sheet number held parent word children helds parents words childs canonical is = tt
shown_text (Ok text) name settings sheet number held parent word children helds parents words childs canonical is = (
  is
      ∙ ap (λ (t : List ℕ). codes "{\"authority\":" ++ quoted name ++ codes ",\"certified\":" ++ t ++ codes ",\"children\":[" ++ commas (map child_line children)
      ++ codes "],\"parent\":" ++ parent_text parent ++ codes ",\"reply\":\"show\",\"serial\":" ++ decimal sheet.serial ++ codes ",\"stage\":" ++ stage_text word ++ codes "}") helds
      ∙ ap (λ (p : Option (List ℕ)). show_spelling (record (shown_by name settings sheet number) { parent = p; stage = word }) children) parents
      ∙ ap (λ (w : StageWord). show_spelling (record (shown_by name settings sheet number) { stage = w }) children) words
      ∙ ap (λ (c : List Child). show_spelling (shown_by name settings sheet number) c) childs,
  canonical,
)

-- ---- `roas list`

-- one line more
pub roa_lines_push : (row : Option SheetRow) (origins : List Origin) (lines : List RoaLine) (origin : Origin) (line : RoaLine) → AreRoaLines row origins lines → line.origin ≡ origin → IsState row origin line.state
    → AreRoaLines row (origins ++ origin ∷ []) (lines ++ line ∷ [])
roa_lines_push row [] [] origin line all same state = (same, state, tt)
roa_lines_push row [] (l ∷ lines) origin line all same state = absurd all
roa_lines_push row (o ∷ origins) [] origin line all same state = absurd all
roa_lines_push row (o ∷ origins) (l ∷ lines) origin line all same state = (all.0, all.1, roa_lines_push row origins lines origin line all.2 same state)

-- ---- where an origin stands

-- Whether two origins have the same numbers, as `contains` asks.
abbrev pub has_numbers : Origin → Origin → Bool
has_numbers a b =
    (beq a.prefix.v6 b.prefix.v6 && (nat_eq a.prefix.address b.prefix.address && nat_eq a.prefix.length b.prefix.length))
    && (nat_eq a.max b.max && nat_eq a.asn b.asn)

same_bool : (a b : Bool) → beq a b ≡ true → a ≡ b
same_bool true true is = refl
same_bool true false is = absurd (cc)
same_bool false true is = absurd (cc)
same_bool false false is = refl

its_bool : (a : Bool) → beq a a ≡ true
its_bool true = refl
its_bool false = refl

both_true : (a b : Bool) → a ≡ true → b ≡ true → (a && b) ≡ true
both_true true b first second = second
both_true false b first second = first

one_answer : (a b : Bool) → (a ≡ true → b ≡ true) → (b ≡ true → a ≡ true) → a ≡ b
one_answer true b to from = sym (to refl)
one_answer false true to from = from refl
one_answer false false to from = refl

same_numbers : (a b : Origin) → has_numbers a b ≡ true → a ≡ b
same_numbers a b is =
    let outer = and_parts _ _ is in
    let prefix = and_parts _ _ outer.0 in
    let address = and_parts _ _ prefix.1 in
    let rest = and_parts _ _ outer.1 in
    same_origin a b
    (same_prefix a.prefix b.prefix (same_bool _ _ prefix.0) (eqb-true _ _ address.0) (eqb-true _ _ address.1))
    (eqb-true _ _ rest.0) (eqb-true _ _ rest.1)

its_numbers : (a : Origin) → has_numbers a a ≡ true
its_numbers a =
    both_true _ _
    (both_true _ _ (its_bool a.prefix.v6) (both_true _ _ (nat_eq_equiv.refl a.prefix.address) (nat_eq_equiv.refl a.prefix.length)))
    (both_true _ _ (nat_eq_equiv.refl a.max) (nat_eq_equiv.refl a.asn))

test_is : (a b : Origin) → has_numbers b a ≡ is_same a b
test_is a b =
    one_answer (has_numbers b a) (is_same a b)
    (λ t. subst (λ (z : Origin). is_same a z ≡ true) (sym (same_numbers b a t)) (same_laws.refl a))
    (λ t. subst (λ (z : Origin). has_numbers z a ≡ true) (tells_apart exact_origin a b t) (its_numbers a))
  where
    same_laws : IsEquivalence is_same
    same_laws = eq_by_cmp_equiv origin_total

-- what `contains` finds is there
pub found_there : (origins : List Origin) (origin : Origin) → list_any (λ o. has_numbers o origin) origins ≡ is_there origins origin
found_there [] origin = refl
found_there (first ∷ rest) origin =
    ap (λ (b : Bool). b || list_any (λ o. has_numbers o origin) rest) (test_is origin first)
    ∙ ap (λ (b : Bool). is_same origin first || b) (found_there rest origin)

pub state_of_published : (known : Option SheetRow) (row : SheetRow) (origin : Origin) → known ≡ Some row → is_there row.published origin ≡ true → IsState known origin Published
state_of_published known row origin is there = subst (λ (r : Option SheetRow). IsState r origin Published) (sym is) (inl (there, refl))

pub pending_state : (known : Option SheetRow) (row : SheetRow) (origin : Origin) → known ≡ Some row → is_there row.published origin ≡ false → HasEach (has row.certified) origin.prefix
    → IsState known origin Pending
pending_state known row origin is other each = subst (λ (r : Option SheetRow). IsState r origin Pending) (sym is) (inr (other, inl (each, refl)))

pub held_state : (known : Option SheetRow) (row : SheetRow) (origin : Origin) → known ≡ Some row → is_there row.published origin ≡ false → ¬ HasEach (has row.certified) origin.prefix
    → IsState known origin Held
held_state known row origin is other none = subst (λ (r : Option SheetRow). IsState r origin Held) (sym is) (inr (other, inr (none, refl)))

-- ---- signers

-- one name more
pub needed_more : (rows : List NameRow) (row : NameRow) → signers_needed (rows ++ row ∷ []) ≡ max (signers_needed rows) (row.signer + 1)
needed_more [] row = omega arith
needed_more (r ∷ rows) row = let rest = needed_more rows row in omega (arith, rest)

-- the greater of two numbers
pub larger : (a b : ℕ) → ord_max nat_cmp a b ≡ max a b
larger a b = by_test (nat_lt b a) refl (b == a)
  where
    by_test : (less : Bool) → nat_lt b a ≡ less → (same : Bool) → cond (is_lt (cond less Less (cond same Equal Greater))) a b ≡ max a b
    by_test true is same = omega (arith, ltb-true b a is)
    by_test false is true = omega (arith, ltb-false b a is)
    by_test false is false = omega (arith, ltb-false b a is)
