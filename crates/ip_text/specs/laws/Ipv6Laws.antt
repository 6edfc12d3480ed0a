-- A text writes one IPv6 address at most, and none where it writes an IPv4 address; what is
-- printed of an address is its text.
use Rattle.std.proofs.Common.{◌≡◌, ◌≢◌, ℕ, ◌^◌, ◌<◌, true, false, List, [], ◌∷◌, ◌++◌, decimal, refl, sym, ap, ◌∙◌, arith, inl, inr}
use Rattle.std.proofs.lemmas.Bool.{false≢true}
use Rattle.std.proofs.lemmas.List.Elements.{recursion_from_All}
use Rattle.std.proofs.NetLemmas.Alphabet.{IsHexOrColon, All-hex_groups_text}
use Rattle.std.proofs.NetLemmas.Texts.{IsColonHex-hex_groups_text}
use Rattle.std.proofs.NetLemmas.Theorems.{IsIpv6Text_unique}
use Rattle.std.specs.Char.{digit_value}
use Rattle.std.specs.Int.{w128, to_be_bytes, from_be_bytes}
use Rattle.std.specs.List.{AllByRecursion}
use Rattle.std.specs.Net.Addr.{octets_of, segments_of}
use Rattle.std.specs.Net.Grammar.{IsDotted, IsGroupsAfter, IsColonHex}
use Rattle.std.specs.Net.Text.{dotted_text}
use Rattle.std.specs.Str.Parse.{AllDigits}
use Rattle.std.specs.declared.net.ipv6_addr.Ipv6Addr.{Ipv6Addr}
use Rattle.ip_text.specs.Ipv4.{IsIpv4Text}
use Rattle.ip_text.specs.laws.Ipv4Laws.{to_dotted}
use Rattle.ip_text.specs.Ipv6.{IsEightGroups, IsIpv6Text, ipv6_text}
use Rattle.ip_text.specs.laws.ByteLaws.{are_bytes, segments_fit, bytes_of_octets, from_be_bytes-to_be_bytes_16}

all_append : (P : ℕ → Type 0) (a b : List ℕ) → AllByRecursion P a → AllByRecursion P b → AllByRecursion P (a ++ b)
all_append P [] b h k = k
all_append P (c ∷ a) b h k = (h.0, all_append P a b h.1 k)

all_left : (P : ℕ → Type 0) (a b : List ℕ) → AllByRecursion P (a ++ b) → AllByRecursion P a
all_left P [] b h = tt
all_left P (c ∷ a) b h = (h.0, all_left P a b h.1)

all_right : (P : ℕ → Type 0) (a b : List ℕ) → AllByRecursion P (a ++ b) → AllByRecursion P b
all_right P [] b h = h
all_right P (c ∷ a) b h = all_right P a b h.1

digits_all : (P : ℕ → Type 0) → ((c : ℕ) → digit_value c < 16 → P c) → (ds : List ℕ) → AllDigits 16 ds → AllByRecursion P ds
digits_all P hex [] h = tt
digits_all P hex (c ∷ ds) h = (hex c h.0, digits_all P hex ds h.1)

groups_all : (P : ℕ → Type 0) → ((c : ℕ) → digit_value c < 16 → P c) → P 58 → (lead text groups : List ℕ) → AllByRecursion P lead
    → IsGroupsAfter false lead text groups → AllByRecursion P text
groups_all P hex colon lead text [] first h = rw h tt
groups_all P hex colon lead text (g ∷ groups) first (inl (group, rest, e, is, more)) =
    let after = groups_all P hex colon (58 ∷ []) rest groups (colon, tt) more in
    rw e (all_append P (lead ++ group) rest (all_append P lead group first (digits_all P hex group is.0.0.1)) after)
groups_all P hex colon lead text (g ∷ groups) first (inr (last, octets, never, e, dotted, value)) = absurd (false≢true never)

-- what holds of hex digits and of `:` holds of each byte of an IPv6 address
pub each_group_byte : (P : ℕ → Type 0) → ((c : ℕ) → digit_value c < 16 → P c) → P 58 → (text groups : List ℕ) → IsEightGroups text groups → AllByRecursion P text
each_group_byte P hex colon text groups (inl (h, eight)) = groups_all P hex colon [] text groups tt h
each_group_byte P hex colon text groups (inr h) =
    let head = groups_all P hex colon [] h.head_text h.head tt h.head_groups in
    let tail = groups_all P hex colon [] h.tail_text h.tail tt h.tail_groups in
    rw h.spelled (all_append P (h.head_text ++ 58 ∷ 58 ∷ []) h.tail_text (all_append P h.head_text (58 ∷ 58 ∷ []) head (colon, (colon, tt))) tail)

-- groups with no dotted part are groups
weaker : (lead text groups : List ℕ) → IsGroupsAfter false lead text groups → IsGroupsAfter true lead text groups
weaker lead text [] h = h
weaker lead text (g ∷ groups) (inl (group, rest, e, is, more)) = inl (group, rest, e, is, weaker (58 ∷ []) rest groups more)
weaker lead text (g ∷ groups) (inr (last, octets, never, e, dotted, value)) = absurd (false≢true never)

pub to_colon_hex : (text groups : List ℕ) → IsEightGroups text groups → IsColonHex text groups
to_colon_hex text groups (inl (h, eight)) = inl (weaker [] text groups h, eight)
to_colon_hex text groups (inr h) = inr (record {
  head_text = h.head_text;
  tail_text = h.tail_text;
  head = h.head;
  tail = h.tail;
  spelled = h.spelled;
  head_groups = h.head_groups;
  tail_groups = weaker [] h.tail_text h.tail h.tail_groups;
  room = h.room;
  value = h.value;
})

-- no byte is a dot
abbrev pub HasNoDot : List ℕ → Type 0
HasNoDot text = AllByRecursion (λ c. c ≢ 46) text

dotted_has_dot : (text octets : List ℕ) → IsDotted text octets → HasNoDot text → ⊥
dotted_has_dot text octets is h =
    let P = λ (c : ℕ). c ≢ 46 in
    let spelled : HasNoDot (dotted_text is.a is.b is.c is.d) = rw is.spelled at h in
    let front = all_left P _ (decimal is.d) spelled in
    let dot = all_right P (decimal is.a ++ (46 ∷ []) ++ decimal is.b ++ (46 ∷ []) ++ decimal is.c) (46 ∷ []) front in
    dot.0 refl

stronger : (lead text groups : List ℕ) → HasNoDot text → IsGroupsAfter true lead text groups → IsGroupsAfter false lead text groups
stronger lead text [] no_dot h = h
stronger lead text (g ∷ groups) no_dot (inl (group, rest, e, is, more)) =
    let split : HasNoDot ((lead ++ group) ++ rest) = rw e at no_dot in
    inl (group, rest, e, is, stronger (58 ∷ []) rest groups (all_right _ (lead ++ group) rest split) more)
stronger lead text (g ∷ groups) no_dot (inr (last, octets, always, e, dotted, value)) =
    let split : HasNoDot (lead ++ last) = rw e at no_dot in
    absurd (dotted_has_dot last octets dotted (all_right _ lead last split))

pub from_colon_hex : (text groups : List ℕ) → HasNoDot text → IsColonHex text groups → IsEightGroups text groups
from_colon_hex text groups no_dot (inl (h, eight)) = inl (stronger [] text groups no_dot h, eight)
from_colon_hex text groups no_dot (inr h) =
    let split : HasNoDot ((h.head_text ++ 58 ∷ 58 ∷ []) ++ h.tail_text) = rw h.spelled at no_dot in
    inr (record {
      head_text = h.head_text;
      tail_text = h.tail_text;
      head = h.head;
      tail = h.tail;
      spelled = h.spelled;
      head_groups = h.head_groups;
      tail_groups = stronger [] h.tail_text h.tail (all_right _ (h.head_text ++ 58 ∷ 58 ∷ []) h.tail_text split) h.tail_groups;
      room = h.room;
      value = h.value;
    })

hex_no_dot : (c : ℕ) → digit_value c < 16 → c ≢ 46
hex_no_dot c h e = let at_dot : digit_value 46 < 16 = rw e at h in omega arith

pub eight_has_no_dot : (text groups : List ℕ) → IsEightGroups text groups → HasNoDot text
eight_has_no_dot text groups h = each_group_byte (λ c. c ≢ 46) hex_no_dot (λ (e : 58 ≡ 46). omega arith) text groups h

-- a text has one list of groups
pub same_groups : (text xs ys : List ℕ) → IsEightGroups text xs → IsEightGroups text ys → xs ≡ ys
same_groups text xs ys h k =
    ap (λ (a : Ipv6Addr). a.segments) (IsIpv6Text_unique text (record { segments = xs }) (record { segments = ys }) (to_colon_hex text xs h) (to_colon_hex text ys k))

shown_no_dot : (bs : List ℕ) → AllByRecursion IsHexOrColon bs → HasNoDot bs
shown_no_dot [] h = tt
shown_no_dot (c ∷ bs) h = (
  elim h.0 [ inl digit ↦ (λ (e : c ≡ 46). omega arith) | inr letter ↦ (λ (e : c ≡ 46). omega arith) ],
  shown_no_dot bs h.1,
)

-- an address's groups
abbrev groups_of : ℕ → List ℕ
groups_of address = segments_of (to_be_bytes w128 address)

-- what is printed of an address is its text
pub own_ipv6_text : (address : ℕ) → address < 2 ^ 128 → IsIpv6Text (ipv6_text address) address
own_ipv6_text address fits =
    let bytes = are_bytes address in
    let segments = segments_fit (to_be_bytes w128 address) bytes in
    let no_dot = shown_no_dot _ (recursion_from_All IsHexOrColon _ (All-hex_groups_text (groups_of address) segments)) in
    let octets = bytes_of_octets (to_be_bytes w128 address) 8 refl bytes in
    record {
      groups = groups_of address;
      spelled = from_colon_hex _ _ no_dot (IsColonHex-hex_groups_text (groups_of address) refl segments);
      value = sym (ap (from_be_bytes w128) octets ∙ from_be_bytes-to_be_bytes_16 address fits);
      fits = fits;
    }

-- no text writes two IPv6 addresses
pub one_ipv6 : (text : List ℕ) (a b : ℕ) → IsIpv6Text text a → IsIpv6Text text b → a ≡ b
one_ipv6 text a b one other =
    one.value ∙ (ap (λ groups. from_be_bytes w128 (octets_of groups)) (same_groups text one.groups other.groups one.spelled other.spelled) ∙ sym other.value)

-- no text writes an address of each family
pub one_family : (text : List ℕ) (a b : ℕ) → IsIpv4Text text a → IsIpv6Text text b → ⊥
one_family text a b one other = dotted_has_dot text _ (to_dotted text a one) (eight_has_no_dot text other.groups other.spelled)
