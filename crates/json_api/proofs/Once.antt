-- No line is read in two ways.
use Rattle.std.proofs.Common.{◌≡◌, ℕ, ◌<◌, ◌≤◌, ◌^◌, List, [], ◌∷◌, Option, Some, None, IsSomeAnd, inl, inr, refl, sym, ap, subst, ◌∙◌}
use Rattle.std.specs.Prelude.{Result, codes, option_and_then}
use Rattle.serde_json.specs.Data.{Data, Items, no_items, item}
use Rattle.serde_json.specs.Find.{get, as_str, as_array, as_number, as_u64}
use Rattle.serde_json.specs.Read.{read}
use Rattle.names.specs.Name.{IsName}
use Rattle.res_sets.specs.declared.numbers.Family.{Family}
use Rattle.res_sets.specs.declared.numbers.Family.TheVariants.{Asn, V4, V6}
use Rattle.res_sets.specs.declared.holdings.Resources.{Resources}
use Rattle.res_sets.specs.Sets.{RangeSet}
use Rattle.res_sets.specs.Texts.{Spells}
use Rattle.origins.specs.declared.Prefix.{Prefix}
use Rattle.origins.specs.declared.Origin.{Origin}
use Rattle.origins.specs.Text.{Parts, IsOriginText}
use Rattle.origins.specs.Origin.{HasParts, SpellsOrigin, maximum_of}
use Rattle.json_api.specs.declared.fields.Kind.{Kind}
use Rattle.json_api.specs.declared.fields.Kind.TheVariants as kind
use Rattle.json_api.specs.declared.fields.Row.{Row}
use Rattle.json_api.specs.declared.line.Line.{Line}
use Rattle.json_api.specs.declared.line.LineFault.{LineFault}
use Rattle.json_api.specs.declared.slots.Slot.{Slot}
use Rattle.json_api.specs.declared.slots.Slot.TheVariants as slot
use Rattle.json_api.specs.Names.{name_of, kind_of}
use Rattle.json_api.specs.Rows.{Slots, as_row, as_name, as_number as number_in, as_serial, as_looks, as_resources, as_origins}
use Rattle.json_api.specs.Table.{row_named, line_of}
use Rattle.json_api.specs.Line.{most_looks, AreOriginTexts, IsSetText, AreResources, Says, Tells, AreSlots, ReadsValue, ReadsLine}
use Rattle.res_sets.specs.laws.SetLaws.{same_resources}

-- what is known of the texts of sets and of origins
pub record TextsOnce : Type 0 where
  pub set : (family : Family) (text : List ℕ) (a b : RangeSet) → Spells family text a → Spells family text b → a ≡ b
  pub parts : (text : List ℕ) (p q : Parts) → IsOriginText text p → IsOriginText text q → p ≡ q
  pub prefix : (p q : Prefix) → p.v6 ≡ q.v6 → p.address ≡ q.address → p.length ≡ q.length → p ≡ q
  pub origin : (o p : Origin) → o.prefix ≡ p.prefix → o.max ≡ p.max → o.asn ≡ p.asn → o ≡ p

some_once : {A : Type 0} (found : Option A) (a b : A) → found ≡ Some a → found ≡ Some b → a ≡ b
some_once found a b x y = let e : Some a ≡ Some b = sym x ∙ y in cc

-- what is said of the value that an option holds
held_once : {A B : Type 0} (P : A → B → Type 0) (found : Option A) (a b : B) → ((x : A) → P x a → P x b → a ≡ b)
    → IsSomeAnd found (λ x. P x a) → IsSomeAnd found (λ x. P x b) → a ≡ b
held_once P None a b once x y = absurd x
held_once P (Some v) a b once x y = once v x y

-- ---- origins

same_parts : TextsOnce → (o p : Origin) (m n : Parts) → m ≡ n → HasParts o m → HasParts p n → o ≡ p
same_parts once o p m n e a b =
    let v6 = a.v6 ∙ (ap (λ (x : Parts). x.v6) e ∙ sym b.v6) in
    let address = a.address ∙ (ap (λ (x : Parts). x.address) e ∙ sym b.address) in
    let len = a.len ∙ (ap (λ (x : Parts). x.len) e ∙ sym b.len) in
    let max = a.max ∙ (ap (λ (x : Parts). maximum_of x) e ∙ sym b.max) in
    let asn = a.asn ∙ (ap (λ (x : Parts). x.asn) e ∙ sym b.asn) in
    once.origin o p (once.prefix o.prefix p.prefix v6 address len) max asn

origin_once : TextsOnce → (text : List ℕ) (o p : Origin) → SpellsOrigin text o → SpellsOrigin text p → o ≡ p
origin_once once text o p x y = same_parts once o p x.0 y.0 (once.parts text x.0 y.0 x.1 y.1) x.2.2 y.2.2

origins_once : TextsOnce → (values : Items) (os ps : List Origin) → AreOriginTexts values os → AreOriginTexts values ps → os ≡ ps
origins_once once no_items [] [] x y = refl
origins_once once no_items [] (p ∷ ps) x y = absurd y
origins_once once no_items (o ∷ os) ps x y = absurd x
origins_once once (item v vs) [] ps x y = absurd x
origins_once once (item v vs) (o ∷ os) [] x y = absurd y
origins_once once (item v vs) (o ∷ os) (p ∷ ps) x y =
    let first = held_once SpellsOrigin (as_str v) o p (λ text. origin_once once text o p) x.0 y.0 in
    let rest = origins_once once vs os ps x.1 y.1 in
    (λ i. first i ∷ rest i)

-- ---- sets

set_once : TextsOnce → (family : Family) (found : Option Data) (a b : RangeSet) → IsSetText family found a → IsSetText family found b → a ≡ b
set_once once family None a b x y = x ∙ sym y
set_once once family (Some value) a b x y = held_once (Spells family) (as_str value) a b (λ text. once.set family text a b) x y

resources_once : TextsOnce → (value : Data) (g h : Resources) → AreResources value g → AreResources value h → g ≡ h
resources_once once value g h x y = same_resources g h
    (set_once once Asn (get (codes "asn") value) g.asn h.asn x.asn y.asn)
    (set_once once V4 (get (codes "ipv4") value) g.v4 h.v4 x.v4 y.v4)
    (set_once once V6 (get (codes "ipv6") value) g.v6 h.v6 x.v6 y.v6)

-- ---- slots

row_slot : (s : Slot) (x : Row) → as_row s ≡ Some x → s ≡ slot.Row x
row_slot slot.Absent x e = absurd (cc)
row_slot slot.Bad x e = absurd (cc)
row_slot (slot.Row of) x e = cc
row_slot (slot.Name name) x e = absurd (cc)
row_slot (slot.Number n) x e = absurd (cc)
row_slot (slot.Serial n) x e = absurd (cc)
row_slot (slot.Looks n) x e = absurd (cc)
row_slot (slot.Resources held) x e = absurd (cc)
row_slot (slot.Origins origins) x e = absurd (cc)

name_slot : (s : Slot) (x : List ℕ) → as_name s ≡ Some x → s ≡ slot.Name x
name_slot slot.Absent x e = absurd (cc)
name_slot slot.Bad x e = absurd (cc)
name_slot (slot.Row of) x e = absurd (cc)
name_slot (slot.Name name) x e = cc
name_slot (slot.Number n) x e = absurd (cc)
name_slot (slot.Serial n) x e = absurd (cc)
name_slot (slot.Looks n) x e = absurd (cc)
name_slot (slot.Resources held) x e = absurd (cc)
name_slot (slot.Origins origins) x e = absurd (cc)

number_slot : (s : Slot) (x : ℕ) → number_in s ≡ Some x → s ≡ slot.Number x
number_slot slot.Absent x e = absurd (cc)
number_slot slot.Bad x e = absurd (cc)
number_slot (slot.Row of) x e = absurd (cc)
number_slot (slot.Name name) x e = absurd (cc)
number_slot (slot.Number n) x e = cc
number_slot (slot.Serial n) x e = absurd (cc)
number_slot (slot.Looks n) x e = absurd (cc)
number_slot (slot.Resources held) x e = absurd (cc)
number_slot (slot.Origins origins) x e = absurd (cc)

serial_slot : (s : Slot) (x : ℕ) → as_serial s ≡ Some x → s ≡ slot.Serial x
serial_slot slot.Absent x e = absurd (cc)
serial_slot slot.Bad x e = absurd (cc)
serial_slot (slot.Row of) x e = absurd (cc)
serial_slot (slot.Name name) x e = absurd (cc)
serial_slot (slot.Number n) x e = absurd (cc)
serial_slot (slot.Serial n) x e = cc
serial_slot (slot.Looks n) x e = absurd (cc)
serial_slot (slot.Resources held) x e = absurd (cc)
serial_slot (slot.Origins origins) x e = absurd (cc)

looks_slot : (s : Slot) (x : ℕ) → as_looks s ≡ Some x → s ≡ slot.Looks x
looks_slot slot.Absent x e = absurd (cc)
looks_slot slot.Bad x e = absurd (cc)
looks_slot (slot.Row of) x e = absurd (cc)
looks_slot (slot.Name name) x e = absurd (cc)
looks_slot (slot.Number n) x e = absurd (cc)
looks_slot (slot.Serial n) x e = absurd (cc)
looks_slot (slot.Looks n) x e = cc
looks_slot (slot.Resources held) x e = absurd (cc)
looks_slot (slot.Origins origins) x e = absurd (cc)

resources_slot : (s : Slot) (x : Resources) → as_resources s ≡ Some x → s ≡ slot.Resources x
resources_slot slot.Absent x e = absurd (cc)
resources_slot slot.Bad x e = absurd (cc)
resources_slot (slot.Row of) x e = absurd (cc)
resources_slot (slot.Name name) x e = absurd (cc)
resources_slot (slot.Number n) x e = absurd (cc)
resources_slot (slot.Serial n) x e = absurd (cc)
resources_slot (slot.Looks n) x e = absurd (cc)
resources_slot (slot.Resources held) x e = cc
resources_slot (slot.Origins origins) x e = absurd (cc)

origins_slot : (s : Slot) (x : List Origin) → as_origins s ≡ Some x → s ≡ slot.Origins x
origins_slot slot.Absent x e = absurd (cc)
origins_slot slot.Bad x e = absurd (cc)
origins_slot (slot.Row of) x e = absurd (cc)
origins_slot (slot.Name name) x e = absurd (cc)
origins_slot (slot.Number n) x e = absurd (cc)
origins_slot (slot.Serial n) x e = absurd (cc)
origins_slot (slot.Looks n) x e = absurd (cc)
origins_slot (slot.Resources held) x e = absurd (cc)
origins_slot (slot.Origins origins) x e = cc

some_of : {A : Type 0} (found : Option A) (P : A → Type 0) → IsSomeAnd found P → (x : A) × (found ≡ Some x) × P x
some_of None P h = absurd h
some_of (Some x) P h = (x, refl, h)

-- a slot is what it holds
slot_once : {A : Type 0} (held : Slot → Option A) (make : A → Slot) → ((s : Slot) (x : A) → held s ≡ Some x → s ≡ make x)
    → (P : A → Type 0) → ((x y : A) → P x → P y → x ≡ y) → (a b : Slot) → IsSomeAnd (held a) P → IsSomeAnd (held b) P → a ≡ b
slot_once held make whole P once a b x y =
    let p = some_of (held a) P x in
    let q = some_of (held b) P y in
    whole a p.0 p.1 ∙ (ap make (once p.0 q.0 p.2 q.2) ∙ sym (whole b q.0 q.1))

says_once : TextsOnce → (of : Kind) (value : Data) (a b : Slot) → Says of value a → Says of value b → a ≡ b
says_once once kind.Row value a b x y = slot_once as_row (λ of. slot.Row of) row_slot
    (λ row. option_and_then row_named (as_str value) ≡ Some row)
    (λ m n p q. some_once (option_and_then row_named (as_str value)) m n p q) a b x y
says_once once kind.Name value a b x y = slot_once as_name (λ name. slot.Name name) name_slot
    (λ name. (as_str value ≡ Some name) × IsName name)
    (λ m n p q. some_once (as_str value) m n p.0 q.0) a b x y
says_once once kind.Number value a b x y = slot_once number_in (λ n. slot.Number n) number_slot
    (λ n. (option_and_then as_u64 (as_number value) ≡ Some n) × (n < 2 ^ 32))
    (λ m n p q. some_once (option_and_then as_u64 (as_number value)) m n p.0 q.0) a b x y
says_once once kind.Serial value a b x y = slot_once as_serial (λ n. slot.Serial n) serial_slot
    (λ n. option_and_then as_u64 (as_number value) ≡ Some n)
    (λ m n p q. some_once (option_and_then as_u64 (as_number value)) m n p q) a b x y
says_once once kind.Looks value a b x y = slot_once as_looks (λ n. slot.Looks n) looks_slot
    (λ n. (option_and_then as_u64 (as_number value) ≡ Some n) × (1 ≤ n) × (n ≤ most_looks))
    (λ m n p q. some_once (option_and_then as_u64 (as_number value)) m n p.0 q.0) a b x y
says_once once kind.Resources value a b x y = slot_once as_resources (λ held. slot.Resources held) resources_slot
    (AreResources value) (resources_once once value) a b x y
says_once once kind.Origins value a b x y = slot_once as_origins (λ origins. slot.Origins origins) origins_slot
    (λ origins. IsSomeAnd (as_array value) (λ items. AreOriginTexts items origins))
    (λ m n p q. held_once AreOriginTexts (as_array value) m n (λ items. origins_once once items m n) p q) a b x y

tells_once : TextsOnce → (of : Kind) (found : Option Data) (a b : Slot) → Tells of found a → Tells of found b → a ≡ b
tells_once once of None a b x y = x ∙ sym y
tells_once once of (Some value) a b (inl x) (inl y) = says_once once of value a b x y
tells_once once of (Some value) a b (inl x) (inr y) = absurd (y.1 a x)
tells_once once of (Some value) a b (inr x) (inl y) = absurd (x.1 b y)
tells_once once of (Some value) a b (inr x) (inr y) = x.0 ∙ sym y.0

slots_once : TextsOnce → (value : Data) (s t : Slots) → AreSlots value s → AreSlots value t → s ≡ t
slots_once once value s t x y = λ i f. tells_once once (kind_of f) (get (name_of f) value) (s f) (t f) (x f) (y f) i

-- ---- lines

value_once : TextsOnce → (value : Data) (a b : Result Line LineFault) → ReadsValue value a → ReadsValue value b → a ≡ b
value_once once value a b x y =
    x.says ∙ (ap (λ (s : Slots). line_of value s) (slots_once once value x.slots y.slots x.are y.are) ∙ sym y.says)

pub line_once : TextsOnce → (bytes : List ℕ) (a b : Result Line LineFault) → ReadsLine bytes a → ReadsLine bytes b → a ≡ b
line_once once bytes a b (inl x) (inl y) =
    let same : y.0 ≡ x.0 = some_once (read bytes) y.0 x.0 y.1.0.text x.1.0.text in
    value_once once x.0 a b x.1.1 (subst (λ (d : Data). ReadsValue d b) same y.1.1)
line_once once bytes a b (inl x) (inr y) = absurd (y.0 x.0 x.1.0)
line_once once bytes a b (inr x) (inl y) = absurd (x.0 y.0 y.1.0)
line_once once bytes a b (inr x) (inr y) = x.1 ∙ sym y.1
