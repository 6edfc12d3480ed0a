-- A pass over a line's tokens, a turn at a time.
use Rattle.std.proofs.Common.{◌≡◌, ℕ, ◌-◌, ◌≤◌, List, [], ◌∷◌, ◌++◌, length, Option, Some, None, IsSome, IfSome, refl, sym, ap, subst, ◌∙◌, arith}
use Rattle.json.specs.Token.{Token}
use Rattle.json.specs.Json.{parse_map, after_end_array, read_key, items, members, value}
use Rattle.json.proofs.Grammar.{value_is, value-begin_array, value-begin_object, read_key-shorter}
use Rattle.json.specs.Lex.{tokens}
use Rattle.serde_json.specs.Data.{Data, string, array, object, Items, no_items, item, Members, no_members, put}
use Rattle.serde_json.specs.Read.{of_json, of_items, of_members, converted, read}
use Rattle.std.specs.Prelude.{option_and_then}
use Rattle.serde_json.specs.Find.{as_str}
use Rattle.names.specs.Name.{IsName}
use Rattle.json_api.specs.declared.fields.Row.{Row}
use Rattle.json_api.specs.Table.{row_named}
use Rattle.json_api.proofs.Turns.{converted-array, converted-object, item_read, items_over, member_read, members_over, none_before, whole_read}
use Rattle.origins.specs.declared.Origin.{Origin}
use Rattle.origins.specs.Origin.{SpellsOrigin}
use Rattle.json_api.specs.Line.{AreOriginTexts}
use Rattle.json_api.specs.inner.Passes.{ReadsValue, ReadsItems, ReadsMembers, AreMembers}
use Rattle.json_api.specs.declared.slots.Slot.{Slot}
use Rattle.json_api.specs.declared.slots.Slot.TheVariants.{Absent}
use Rattle.json_api.specs.declared.fields.Field.{Field}
use Rattle.json_api.specs.inner.Slots.{slot_at}
use Rattle.json_api.proofs.Members.{AreMembers-none}

-- ---- values

string_read : (depth : ℕ) (old new : List Token) (t : List ℕ) → old ≡ Token.string t ∷ new → converted of_json (value depth old) ≡ Some (string t, new)
string_read depth old new t e = ap (converted of_json) (ap (value depth) e ∙ value_is depth (Token.string t ∷ new))

pub text_read : (old new : List Token) (t : List ℕ) → old ≡ Token.string t ∷ new → ReadsValue old (string t) new
text_read old new t e = string_read 126 old new t e

-- a text that is a row's command
pub row_read : (old new : List Token) (t : List ℕ) (found : Option Row) → old ≡ Token.string t ∷ new → found ≡ row_named t
    → IfSome found (λ row. (d : Data) × ReadsValue old d new × (option_and_then row_named (as_str d) ≡ Some row))
row_read old new t None e is = tt
row_read old new t (Some row) e is = (string t, text_read old new t e, sym is)

-- a text that is a name
pub name_read : (old new : List Token) (t : List ℕ) (found : Option (List ℕ)) → old ≡ Token.string t ∷ new → (IsSome found → IsName t)
    → IfSome found (λ name. name ≡ t) → IfSome found (λ name. (d : Data) × ReadsValue old d new × ((as_str d ≡ Some name) × IsName name))
name_read old new t None e good is = tt
name_read old new t (Some name) e good is =
    (string t, text_read old new t e, (ap (λ (n : List ℕ). Some n) (sym is), subst IsName (sym is) (good refl)))

pub list_read : (old mid new : List Token) (ds : Items) → old ≡ Token.begin_array ∷ mid → ReadsItems mid ds new → ReadsValue old (array ds) new
list_read old mid new ds e h =
    ap (converted of_json) (ap (value 126) e ∙ value-begin_array 126 mid (omega arith))
    ∙ converted-array (items (value 125) (length mid) mid) ∙ ap (parse_map array) h

pub object_read : (text : List ℕ) (mid : List Token) (ms : Members) → tokens text ≡ Token.begin_object ∷ mid → ReadsMembers mid ms [] → read text ≡ Some (object ms)
object_read text mid ms e h =
    whole_read (value 127 (tokens text)) (object ms)
    (ap (converted of_json) (ap (value 127) e ∙ value-begin_object 127 mid (omega arith))
    ∙ converted-object (members (value 126) (length mid) mid) ∙ ap (parse_map object) h)

-- ---- the items of a list

-- texts before the rest of the items
abbrev pub texts_before : List (List ℕ) → Items → Items
texts_before [] rest = rest
texts_before (t ∷ ts) rest = item (string t) (texts_before ts rest)

texts_push : (ts : List (List ℕ)) (t : List ℕ) (rest : Items) → texts_before ts (item (string t) rest) ≡ texts_before (ts ++ t ∷ []) rest
texts_push [] t rest = refl
texts_push (u ∷ ts) t rest = ap (item (string u)) (texts_push ts t rest)

one_more_text : (ts : List (List ℕ)) (t : List ℕ) (r : Option (Items × List Token)) → parse_map (texts_before ts) (parse_map (item (string t)) r) ≡ parse_map (texts_before (ts ++ t ∷ [])) r
one_more_text ts t None = refl
one_more_text ts t (Some p) = ap (λ ds. Some (ds, p.1)) (texts_push ts t p.0)

texts_spelled : (ts : List (List ℕ)) (os : List Origin) (t : List ℕ) (o : Origin)
    → AreOriginTexts (texts_before ts no_items) os → SpellsOrigin t o → AreOriginTexts (texts_before (ts ++ t ∷ []) no_items) (os ++ o ∷ [])
texts_spelled [] [] t o h is = (is, tt)
texts_spelled [] (p ∷ os) t o h is = absurd h
texts_spelled (u ∷ ts) [] t o h is = absurd h
texts_spelled (u ∷ ts) (p ∷ os) t o h is = (h.0, texts_spelled ts os t o h.1 is)

-- these origins' texts are passed
pub record PassedItems (from to : List Token) (origins : List Origin) : Type 0 where
  pub turns : ℕ
  pub enough : length to ≤ turns
  pub texts : List (List ℕ)
  pub passed : converted of_items (items (value 125) (length from) from) ≡ parse_map (texts_before texts) (converted of_items (items (value 125) turns to))
  pub spelled : AreOriginTexts (texts_before texts no_items) origins
  pub shorter : length to ≤ length from

pub PassedItems-start : (ts : List Token) → PassedItems ts ts []
PassedItems-start ts = record {
  turns = length ts;
  enough = omega arith;
  texts = [];
  passed = none_before (converted of_items (items (value 125) (length ts) ts));
  spelled = tt;
  shorter = omega arith;
}

pub PassedItems-step : (from to next : List Token) (t : List ℕ) (origins : List Origin) (o : Origin) → PassedItems from to origins
    → after_end_array to ≡ None → to ≡ Token.string t ∷ next → SpellsOrigin t o → PassedItems from next (origins ++ o ∷ [])
PassedItems-step from to next t origins o p going e is =
    let n = p.turns in
    let enough = p.enough in
    let before = p.shorter in
    let less : length to ≡ length (Token.string t ∷ next) = ap length e in
    let turn = item_read (value 125) n to next (string t) (omega arith) going (string_read 125 to next t e) in
    record {
      turns = n - 1;
      enough = omega arith;
      texts = p.texts ++ t ∷ [];
      passed = p.passed ∙ ap (parse_map (texts_before p.texts)) turn ∙ one_more_text p.texts t (converted of_items (items (value 125) (n - 1) next));
      spelled = texts_spelled p.texts origins t o p.spelled is;
      shorter = omega arith;
    }

pub PassedItems-end : (from to rest : List Token) (origins : List Origin) → PassedItems from to origins → after_end_array to ≡ Some rest
    → (ds : Items) × ReadsItems from ds rest × AreOriginTexts ds origins
PassedItems-end from to rest origins p e = (
  texts_before p.texts no_items,
  p.passed ∙ ap (parse_map (texts_before p.texts)) (items_over (value 125) p.turns to rest p.enough e),
  p.spelled,
)

-- ---- the members of a line

-- members with these slots are passed
pub record PassedMembers (from to : List Token) (slots : List Slot) : Type 0 where
  pub turns : ℕ
  pub enough : length to ≤ turns
  pub found : Members
  pub passed : converted (λ ms. of_members ms no_members) (members (value 126) (length from) from) ≡ converted (λ ms. of_members ms found) (members (value 126) turns to)
  pub are : AreMembers found slots

pub PassedMembers-step : (from to mid next : List Token) (name : List ℕ) (d : Data) (old new : List Slot) (p : PassedMembers from to old)
    → read_key to ≡ Some (Some name, mid) → ReadsValue mid d next → length next ≤ length mid → AreMembers (put name d p.found) new → PassedMembers from next new
PassedMembers-step from to mid next name d old new p key reads short are =
    let n = p.turns in
    let enough = p.enough in
    let less = read_key-shorter to (Some name) mid key in
    record {
      turns = n - 1;
      enough = omega arith;
      found = put name d p.found;
      passed = p.passed ∙ member_read (value 126) p.found n name to mid next d (omega arith) key reads;
      are = are;
    }

pub PassedMembers-end : (from to rest : List Token) (slots : List Slot) → PassedMembers from to slots → read_key to ≡ Some (None, rest)
    → (ms : Members) × ReadsMembers from ms rest × AreMembers ms slots
PassedMembers-end from to rest slots p key =
    (p.found, p.passed ∙ members_over (value 126) p.found p.turns to rest p.enough key, p.are)

pub PassedMembers-start : (ts : List Token) (slots : List Slot) → ((f : Field) → slot_at slots f ≡ Absent) → PassedMembers ts ts slots
PassedMembers-start ts slots absent = record {
  turns = length ts;
  enough = omega arith;
  found = no_members;
  passed = refl;
  are = AreMembers-none slots absent;
}
