-- No text is read in two ways.
use Rattle.std.proofs.Common.{◌≡◌, ◌≢◌, ℕ, ◌-◌, ◌%◌, ◌^◌, ◌≤◌, Bool, true, false, List, [], ◌∷◌, zero, suc, Ok, Err, refl, ap, sym, subst, ◌∙◌, arith}
use Rattle.std.specs.Bool.{MatchBool}
use Rattle.std.specs.List.{list_any, before_first, after_first}
use Rattle.ip_text.specs.Number.{IsDecimalText, IsAsNumberText}
use Rattle.ip_text.specs.Ipv4.{IsIpv4Text}
use Rattle.ip_text.specs.laws.NumberLaws.{one_decimal}
use Rattle.ip_text.specs.Ipv6.{IsIpv6Text}
use Rattle.res_sets.specs.declared.numbers.Family.{Family}
use Rattle.res_sets.specs.declared.numbers.Family.TheVariants.{Asn, V4, V6}
use Rattle.res_sets.specs.declared.numbers.Range.{Range}
use Rattle.res_sets.specs.declared.prefixes.BlockFault.{BlockFault}
use Rattle.res_sets.specs.declared.prefixes.BlockFault.TheVariants.{BadNumber, BadRange, HostBits}
use Rattle.res_sets.specs.declared.texts.TextFault.{TextFault}
use Rattle.res_sets.specs.declared.texts.TextFault.TheVariants as text_fault
use Rattle.res_sets.specs.Numbers.{any_spans, AreCanonical}
use Rattle.res_sets.specs.Sets.{RangeSet}
use Rattle.res_sets.specs.Blocks.{is_hyphen, is_slash, without_leading, without_trailing, blocks}
use Rattle.res_sets.specs.Prefixes.{ReadsPrefix}
use Rattle.res_sets.specs.Texts.{Writes, ReadsNumber, ReadsEnds, ReadsAddress, ReadsOne, ReadsBlock, AllRead, Spells, IsFirstFault, HasFault, fault_at}
use Rattle.res_sets.proofs.Canonical.{same_range, same_sets}

-- what is known of the texts of numbers and addresses
pub record NumbersOnce : Type 0 where
  pub asn : (text : List ℕ) (m n : ℕ) → IsAsNumberText text m → IsAsNumberText text n → m ≡ n
  pub v4 : (text : List ℕ) (m n : ℕ) → IsIpv4Text text m → IsIpv4Text text n → m ≡ n
  pub v6 : (text : List ℕ) (m n : ℕ) → IsIpv6Text text m → IsIpv6Text text n → m ≡ n

writes_once : NumbersOnce → (family : Family) (text : List ℕ) (m n : ℕ) → Writes family text m → Writes family text n → m ≡ n
writes_once once Asn = once.asn
writes_once once V4 = once.v4
writes_once once V6 = once.v6

abbrev Once : (ℕ → Type 0) → Type 0
Once P = (m n : ℕ) → P m → P n → m ≡ n

number_once : (P : ℕ → Type 0) (r s : Range) → Once P → ReadsNumber P (Ok r) → ReadsNumber P (Ok s) → r ≡ s
number_once P r s once a b =
    let first = once r.first s.first a.0 b.0 in
    same_range r s first (a.1 ∙ (first ∙ sym b.1))

number_no_fault : (P : ℕ → Type 0) (r : Range) (fault : BlockFault) → ReadsNumber P (Ok r) → ReadsNumber P (Err fault) → ⊥
number_no_fault P r BadNumber a b = b r.first a.0
number_no_fault P r BadRange a b = b
number_no_fault P r HostBits a b = b

ends_once : (P Q : ℕ → Type 0) (r s : Range) → Once P → Once Q → ReadsEnds P Q (Ok r) → ReadsEnds P Q (Ok s) → r ≡ s
ends_once P Q r s once_p once_q a b = same_range r s (once_p r.first s.first a.0 b.0) (once_q r.last s.last a.1 b.1)

ends_no_fault : (P Q : ℕ → Type 0) (r : Range) (fault : BlockFault) → Once P → Once Q → ReadsEnds P Q (Ok r) → ReadsEnds P Q (Err fault) → ⊥
ends_no_fault P Q r BadNumber once_p once_q a b = b r.first r.last a.0 a.1
ends_no_fault P Q r BadRange once_p once_q a (m, (n, (first, last, less))) =
    let ordered : r.first ≤ r.last = r.ordered in
    let e = once_p r.first m a.0 first in
    let f = once_q r.last n a.1 last in
    omega (arith, e, f, less)
ends_no_fault P Q r HostBits once_p once_q a b = b

prefix_once : (bits : ℕ) (P Q : ℕ → Type 0) (r s : Range) → Once P → Once Q → ReadsPrefix bits P Q (Ok r) → ReadsPrefix bits P Q (Ok s) → r ≡ s
prefix_once bits P Q r s once_p once_q (first_r, (m, (len_r, is_r))) (first_s, (n, (len_s, is_s))) =
    let first = once_p r.first s.first first_r first_s in
    let len = once_q m n len_r len_s in
    let size : 2 ^ (bits - m) ≡ 2 ^ (bits - n) = ap (λ (k : ℕ). 2 ^ (bits - k)) len in
    same_range r s first (omega (arith, is_r.size, is_s.size, first, size))

prefix_no_fault : (bits : ℕ) (P Q : ℕ → Type 0) (r : Range) (fault : BlockFault) → Once P → Once Q → ReadsPrefix bits P Q (Ok r) → ReadsPrefix bits P Q (Err fault) → ⊥
prefix_no_fault bits P Q r BadNumber once_p once_q (first, (len, (length, is))) b = b r.first len first length
prefix_no_fault bits P Q r BadRange once_p once_q (first, (len, (length, is))) (m, (l, (address, other, long))) =
    let e = once_q len l length other in
    omega (arith, e, long, is.short)
prefix_no_fault bits P Q r HostBits once_p once_q (first, (len, (length, is))) (m, (l, (address, other, short, host))) =
    let e = once_p r.first m first address in
    let f = once_q len l length other in
    host (ap (λ (k : ℕ). m % 2 ^ (bits - k)) (sym f) ∙ (ap (λ (k : ℕ). k % 2 ^ (bits - len)) (sym e) ∙ is.no_host_bits))

either_once : (P Q : Range → Type 0) (b : Bool) (r s : Range) → (P r → P s → r ≡ s) → (Q r → Q s → r ≡ s) → MatchBool b (P r) (Q r) → MatchBool b (P s) (Q s) → r ≡ s
either_once P Q true r s f g = f
either_once P Q false r s f g = g

from_either : (P Q R S T : Type 0) (b : Bool) → (P → R → T) → (Q → S → T) → MatchBool b P Q → MatchBool b R S → T
from_either P Q R S T true f g = f
from_either P Q R S T false f g = g

address_once : NumbersOnce → (bits : ℕ) (family : Family) (block : List ℕ) (r s : Range) → ReadsAddress bits family block (Ok r) → ReadsAddress bits family block (Ok s) → r ≡ s
address_once once bits family block r s =
    let Before : ℕ → Type 0 = Writes family (before_first is_slash block) in
    let After : ℕ → Type 0 = IsDecimalText (after_first is_slash block) in
    let Whole : ℕ → Type 0 = Writes family block in
    either_once (λ x. ReadsPrefix bits Before After (Ok x)) (λ x. ReadsNumber Whole (Ok x)) (list_any is_slash block) r s
    (prefix_once bits Before After r s (writes_once once family (before_first is_slash block)) (one_decimal (after_first is_slash block)))
    (number_once Whole r s (writes_once once family block))

one_once : NumbersOnce → (family : Family) (block : List ℕ) (r s : Range) → ReadsOne family block (Ok r) → ReadsOne family block (Ok s) → r ≡ s
one_once once Asn block r s = number_once (Writes Asn block) r s (writes_once once Asn block)
one_once once V4 block r s = address_once once 32 V4 block r s
one_once once V6 block r s = address_once once 128 V6 block r s

block_once : NumbersOnce → (family : Family) (block : List ℕ) (r s : Range) → ReadsBlock family block (Ok r) → ReadsBlock family block (Ok s) → r ≡ s
block_once once family block r s =
    let First : ℕ → Type 0 = Writes family (without_trailing (before_first is_hyphen block)) in
    let Last : ℕ → Type 0 = Writes family (without_leading (after_first is_hyphen block)) in
    either_once (λ x. ReadsEnds First Last (Ok x)) (λ x. ReadsOne family block (Ok x)) (list_any is_hyphen block) r s
    (ends_once First Last r s (writes_once once family (without_trailing (before_first is_hyphen block))) (writes_once once family (without_leading (after_first is_hyphen block))))
    (one_once once family block r s)

address_no_fault : NumbersOnce → (bits : ℕ) (family : Family) (block : List ℕ) (r : Range) (fault : BlockFault) → ReadsAddress bits family block (Ok r) → ReadsAddress bits family block (Err fault) → ⊥
address_no_fault once bits family block r fault =
    let Before : ℕ → Type 0 = Writes family (before_first is_slash block) in
    let After : ℕ → Type 0 = IsDecimalText (after_first is_slash block) in
    let Whole : ℕ → Type 0 = Writes family block in
    from_either (ReadsPrefix bits Before After (Ok r)) (ReadsNumber Whole (Ok r)) (ReadsPrefix bits Before After (Err fault)) (ReadsNumber Whole (Err fault)) ⊥ (list_any is_slash block)
    (prefix_no_fault bits Before After r fault (writes_once once family (before_first is_slash block)) (one_decimal (after_first is_slash block)))
    (number_no_fault Whole r fault)

one_no_fault : NumbersOnce → (family : Family) (block : List ℕ) (r : Range) (fault : BlockFault) → ReadsOne family block (Ok r) → ReadsOne family block (Err fault) → ⊥
one_no_fault once Asn block r fault = number_no_fault (Writes Asn block) r fault
one_no_fault once V4 block r fault = address_no_fault once 32 V4 block r fault
one_no_fault once V6 block r fault = address_no_fault once 128 V6 block r fault

block_no_fault : NumbersOnce → (family : Family) (block : List ℕ) (r : Range) (fault : BlockFault) → ReadsBlock family block (Ok r) → ReadsBlock family block (Err fault) → ⊥
block_no_fault once family block r fault =
    let First : ℕ → Type 0 = Writes family (without_trailing (before_first is_hyphen block)) in
    let Last : ℕ → Type 0 = Writes family (without_leading (after_first is_hyphen block)) in
    from_either (ReadsEnds First Last (Ok r)) (ReadsOne family block (Ok r)) (ReadsEnds First Last (Err fault)) (ReadsOne family block (Err fault)) ⊥ (list_any is_hyphen block)
    (ends_no_fault First Last r fault (writes_once once family (without_trailing (before_first is_hyphen block))) (writes_once once family (without_leading (after_first is_hyphen block))))
    (one_no_fault once family block r fault)

all_once : NumbersOnce → (family : Family) (bs : List (List ℕ)) (xs ys : List Range) → AllRead family bs xs → AllRead family bs ys → xs ≡ ys
all_once once family [] [] [] a b = refl
all_once once family [] [] (y ∷ ys) a b = absurd b
all_once once family [] (x ∷ xs) ys a b = absurd a
all_once once family (block ∷ bs) [] ys a b = absurd a
all_once once family (block ∷ bs) (x ∷ xs) [] a b = absurd b
all_once once family (block ∷ bs) (x ∷ xs) (y ∷ ys) a b =
    ap (λ (r : Range). r ∷ xs) (block_once once family block x y a.0 b.0) ∙ ap (λ (rs : List Range). y ∷ rs) (all_once once family bs xs ys a.1 b.1)

all_no_fault : NumbersOnce → (family : Family) (bs : List (List ℕ)) (xs : List Range) (at : ℕ) (fault : BlockFault) → AllRead family bs xs → IsFirstFault family bs at fault → ⊥
all_no_fault once family [] xs at fault a b = b
all_no_fault once family (block ∷ bs) [] at fault a b = a
all_no_fault once family (block ∷ bs) (x ∷ xs) zero fault a b = block_no_fault once family block x fault a.0 b
all_no_fault once family (block ∷ bs) (x ∷ xs) (suc at) fault a b = all_no_fault once family bs xs at fault a.1 b.1

pub spells_once : NumbersOnce → (family : Family) (text : List ℕ) (a b : RangeSet) → Spells family text a → Spells family text b → a ≡ b
spells_once once family text a b spells_a spells_b =
    let said = all_once once family (blocks text) spells_a.ranges.members.0 spells_b.ranges.members.0 spells_a.ranges.members.1.0 spells_b.ranges.members.1.0 in
    let family_is : a.family ≡ b.family = spells_a.family ∙ sym spells_b.family in
    same_sets a b
    (subst (λ f. AreCanonical f a.ranges) (sym spells_a.family) spells_a.ranges.canonical)
    (subst (λ f. AreCanonical f b.ranges) (sym spells_b.family) spells_b.ranges.canonical)
    family_is
    (λ n. spells_a.ranges.members.1.1 n ∙ (ap (λ (rs : List Range). any_spans rs n) said ∙ sym (spells_b.ranges.members.1.1 n)))

pub spells_no_fault : NumbersOnce → (family : Family) (text : List ℕ) (set : RangeSet) (at : ℕ) (fault : BlockFault) → Spells family text set → IsFirstFault family (blocks text) at fault → ⊥
spells_no_fault once family text set at fault spells = all_no_fault once family (blocks text) spells.ranges.members.0 at fault spells.ranges.members.1.0

-- no text has two faults

number_one_fault : (P : ℕ → Type 0) (f g : BlockFault) → ReadsNumber P (Err f) → ReadsNumber P (Err g) → f ≡ g
number_one_fault P BadNumber BadNumber a b = refl
number_one_fault P BadNumber BadRange a b = absurd b
number_one_fault P BadNumber HostBits a b = absurd b
number_one_fault P BadRange g a b = absurd a
number_one_fault P HostBits g a b = absurd a

ends_one_fault : (P Q : ℕ → Type 0) (f g : BlockFault) → ReadsEnds P Q (Err f) → ReadsEnds P Q (Err g) → f ≡ g
ends_one_fault P Q BadNumber BadNumber a b = refl
ends_one_fault P Q BadNumber BadRange a (m, (n, (first, last, less))) = absurd (a m n first last)
ends_one_fault P Q BadNumber HostBits a b = absurd b
ends_one_fault P Q BadRange BadNumber (m, (n, (first, last, less))) b = absurd (b m n first last)
ends_one_fault P Q BadRange BadRange a b = refl
ends_one_fault P Q BadRange HostBits a b = absurd b
ends_one_fault P Q HostBits g a b = absurd a

prefix_one_fault : (bits : ℕ) (P Q : ℕ → Type 0) (f g : BlockFault) → Once Q → ReadsPrefix bits P Q (Err f) → ReadsPrefix bits P Q (Err g) → f ≡ g
prefix_one_fault bits P Q BadNumber BadNumber once a b = refl
prefix_one_fault bits P Q BadNumber BadRange once a (m, (len, (address, length, _))) = absurd (a m len address length)
prefix_one_fault bits P Q BadNumber HostBits once a (m, (len, (address, length, _, _))) = absurd (a m len address length)
prefix_one_fault bits P Q BadRange BadNumber once (m, (len, (address, length, _))) b = absurd (b m len address length)
prefix_one_fault bits P Q BadRange BadRange once a b = refl
prefix_one_fault bits P Q BadRange HostBits once (m, (len, (_, length, long))) (n, (l, (_, other, short, _))) =
    absurd (omega (arith, once len l length other, long, short))
prefix_one_fault bits P Q HostBits BadNumber once (m, (len, (address, length, _, _))) b = absurd (b m len address length)
prefix_one_fault bits P Q HostBits BadRange once (n, (l, (_, other, short, _))) (m, (len, (_, length, long))) =
    absurd (omega (arith, once len l length other, long, short))
prefix_one_fault bits P Q HostBits HostBits once a b = refl

address_one_fault : (bits : ℕ) (family : Family) (block : List ℕ) (f g : BlockFault) → ReadsAddress bits family block (Err f) → ReadsAddress bits family block (Err g) → f ≡ g
address_one_fault bits family block f g =
    let Before : ℕ → Type 0 = Writes family (before_first is_slash block) in
    let After : ℕ → Type 0 = IsDecimalText (after_first is_slash block) in
    let Whole : ℕ → Type 0 = Writes family block in
    from_either (ReadsPrefix bits Before After (Err f)) (ReadsNumber Whole (Err f)) (ReadsPrefix bits Before After (Err g)) (ReadsNumber Whole (Err g)) (f ≡ g) (list_any is_slash block)
    (prefix_one_fault bits Before After f g (one_decimal (after_first is_slash block)))
    (number_one_fault Whole f g)

one_one_fault : (family : Family) (block : List ℕ) (f g : BlockFault) → ReadsOne family block (Err f) → ReadsOne family block (Err g) → f ≡ g
one_one_fault Asn block f g = number_one_fault (Writes Asn block) f g
one_one_fault V4 block f g = address_one_fault 32 V4 block f g
one_one_fault V6 block f g = address_one_fault 128 V6 block f g

block_one_fault : (family : Family) (block : List ℕ) (f g : BlockFault) → ReadsBlock family block (Err f) → ReadsBlock family block (Err g) → f ≡ g
block_one_fault family block f g =
    let First : ℕ → Type 0 = Writes family (without_trailing (before_first is_hyphen block)) in
    let Last : ℕ → Type 0 = Writes family (without_leading (after_first is_hyphen block)) in
    from_either (ReadsEnds First Last (Err f)) (ReadsOne family block (Err f)) (ReadsEnds First Last (Err g)) (ReadsOne family block (Err g)) (f ≡ g) (list_any is_hyphen block)
    (ends_one_fault First Last f g)
    (one_one_fault family block f g)

first_fault_once : NumbersOnce → (family : Family) (bs : List (List ℕ)) (at at' : ℕ) (f g : BlockFault) → IsFirstFault family bs at f → IsFirstFault family bs at' g → (at ≡ at') × (f ≡ g)
first_fault_once once family [] at at' f g a b = absurd a
first_fault_once once family (block ∷ bs) zero zero f g a b = (refl, block_one_fault family block f g a b)
first_fault_once once family (block ∷ bs) zero (suc at') f g a b = absurd (block_no_fault once family block b.0.0 f b.0.1 a)
first_fault_once once family (block ∷ bs) (suc at) zero f g a b = absurd (block_no_fault once family block a.0.0 g a.0.1 b)
first_fault_once once family (block ∷ bs) (suc at) (suc at') f g a b =
    let rest = first_fault_once once family bs at at' f g a.1 b.1 in (ap suc rest.0, rest.1)

-- what a fault says of the text's blocks
fault_says : (family : Family) (text : List ℕ) (e : TextFault) → HasFault family text e → e ≢ text_fault.Memory
    → (at : ℕ) × ((fault : BlockFault) × ((e ≡ fault_at fault at) × IsFirstFault family (blocks text) at fault))
fault_says family text (text_fault.BadNumber at) has other = (at, (BadNumber, (refl, has)))
fault_says family text (text_fault.BadRange at) has other = (at, (BadRange, (refl, has)))
fault_says family text (text_fault.HostBits at) has other = (at, (HostBits, (refl, has)))
fault_says family text text_fault.Memory has other = absurd (other refl)

pub one_fault : NumbersOnce → (family : Family) (text : List ℕ) (a b : TextFault) → HasFault family text a → HasFault family text b → a ≢ text_fault.Memory → b ≢ text_fault.Memory → a ≡ b
one_fault once family text a b has_a has_b other_a other_b =
    let says_a = fault_says family text a has_a other_a in
    let says_b = fault_says family text b has_b other_b in
    let same = first_fault_once once family (blocks text) says_a.0 says_b.0 says_a.1.0 says_b.1.0 says_a.1.1.1 says_b.1.1.1 in
    says_a.1.1.0 ∙ (ap (λ k. fault_at says_a.1.0 k) same.0 ∙ (ap (λ f. fault_at f says_b.0) same.1 ∙ sym says_b.1.1.0))
