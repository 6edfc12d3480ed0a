-- Numbers and addresses are printed without the bytes that part blocks.
use Rattle.std.proofs.Common.{◌≡◌, ℕ, ◌/◌, ◌%◌, ◌<◌, ◌≤◌, ◌^◌, Bool, false, ◌||◌, List, [], ◌∷◌, ◌++◌, codes, decimal, length, length-append, inl, inr, refl, ap, sym, subst, ◌∙◌, arith}
use Rattle.std.specs.List.{list_any}
use Rattle.std.specs.Char.{digit_value}
use Rattle.std.specs.Net.Grammar.{IsGroupsAfter}
use Rattle.std.specs.Str.Parse.{AllDigits}
use Rattle.std.proofs.lemmas.Bool.{or_from, or_parts, false≢true}
use Rattle.std.proofs.lemmas.Bool.Decides.{nat_tests}
use Rattle.std.proofs.lemmas.Fmt.{decimal_is_IsNumeral}
use Rattle.std.proofs.lemmas.List.Folds.{list_any-append}
use Rattle.ip_text.specs.Ipv4.{dotted}
use Rattle.ip_text.specs.Ipv6.{IsEightGroups, IsIpv6Text, ipv6_text}
use Rattle.res_sets.specs.declared.numbers.Family.{Family}
use Rattle.res_sets.specs.declared.numbers.Family.TheVariants.{Asn, V4, V6}
use Rattle.res_sets.specs.Numbers.{family_end}
use Rattle.res_sets.specs.Blocks.{is_blank, is_comma, is_hyphen, is_slash}
use Rattle.res_sets.specs.Printed.{number_text}

-- a byte that parts a block from another or from its parts
abbrev pub is_mark : ℕ → Bool
is_mark b = (is_blank b || is_comma b) || (is_hyphen b || is_slash b)

abbrev pub Lacks : (ℕ → Bool) → List ℕ → Type 0
Lacks p text = list_any p text ≡ false

pub Lacks-append : (p : ℕ → Bool) (a b : List ℕ) → Lacks p a → Lacks p b → Lacks p (a ++ b)
Lacks-append p a b lacks_a lacks_b = list_any-append p a b ∙ or_from (list_any p a) (list_any p b) lacks_a lacks_b

pub Lacks-weaker : (p q : ℕ → Bool) (text : List ℕ) → ((b : ℕ) → p b ≡ false → q b ≡ false) → Lacks p text → Lacks q text
Lacks-weaker p q [] weaker lacks = refl
Lacks-weaker p q (b ∷ text) weaker lacks =
    let parts = or_parts (p b) (list_any p text) lacks in
    or_from (q b) (list_any q text) (weaker b parts.0) (Lacks-weaker p q text weaker parts.1)

digit_is_plain : (b : ℕ) → digit_value b < 16 → is_mark b ≡ false
digit_is_plain b digit = grind (arith, nat_tests, digit)

digits_are_plain : (radix : ℕ) (text : List ℕ) → radix ≤ 16 → AllDigits radix text → Lacks is_mark text
digits_are_plain radix [] le digits = refl
digits_are_plain radix (b ∷ text) le digits = or_from (is_mark b) (list_any is_mark text) (digit_is_plain b (omega (arith, digits.0))) (digits_are_plain radix text le digits.1)

pub decimal_is_plain : (n : ℕ) → n < 2 ^ 64 → Lacks is_mark (decimal n)
decimal_is_plain n fits = digits_are_plain 10 (decimal n) (omega arith) (decimal_is_IsNumeral n fits).0.1

four_plain : (a b c d : ℕ) → a < 256 → b < 256 → c < 256 → d < 256 → Lacks is_mark (decimal a ++ codes "." ++ decimal b ++ codes "." ++ decimal c ++ codes "." ++ decimal d)
four_plain a b c d fa fb fc fd =
    let p = decimal_is_plain a (omega arith) in
    let q = decimal_is_plain b (omega arith) in
    let r = decimal_is_plain c (omega arith) in
    let s = decimal_is_plain d (omega arith) in
    let one = Lacks-append is_mark (decimal a) (codes ".") p refl in
    let two = Lacks-append is_mark (decimal a ++ codes ".") (decimal b) one q in
    let three = Lacks-append is_mark (decimal a ++ codes "." ++ decimal b) (codes ".") two refl in
    let four = Lacks-append is_mark (decimal a ++ codes "." ++ decimal b ++ codes ".") (decimal c) three r in
    let five = Lacks-append is_mark (decimal a ++ codes "." ++ decimal b ++ codes "." ++ decimal c) (codes ".") four refl in
    Lacks-append is_mark (decimal a ++ codes "." ++ decimal b ++ codes "." ++ decimal c ++ codes ".") (decimal d) five s

four_some : (a b c d : ℕ) → 0 < length (decimal a ++ codes "." ++ decimal b ++ codes "." ++ decimal c ++ codes "." ++ decimal d)
four_some a b c d =
    omega (arith, length-append (decimal a ++ codes "." ++ decimal b ++ codes "." ++ decimal c ++ codes ".") (decimal d), length-append (decimal a ++ codes "." ++ decimal b ++ codes "." ++ decimal c) (codes "."))

groups_are_plain : (lead text groups : List ℕ) → Lacks is_mark lead → IsGroupsAfter false lead text groups → Lacks is_mark text
groups_are_plain lead text [] plain is = subst (λ (t : List ℕ). Lacks is_mark t) (sym is) refl
groups_are_plain lead text (s ∷ groups) plain (inl (group, rest, is, number, after)) =
    let digits = digits_are_plain 16 group (omega arith) number.0.0.1 in
    let others = groups_are_plain (codes ":") rest groups refl after in
    subst (λ (t : List ℕ). Lacks is_mark t) (sym is) (Lacks-append is_mark (lead ++ group) rest (Lacks-append is_mark lead group plain digits) others)
groups_are_plain lead text (s ∷ groups) plain (inr (last, octets, never, is, dotted_is, rest)) = absurd (false≢true never)

groups_are_some : (lead text groups : List ℕ) → 0 < length groups → IsGroupsAfter false lead text groups → 0 < length text
groups_are_some lead text [] some is = absurd (omega arith)
groups_are_some lead text (s ∷ groups) some (inl (group, rest, is, number, after)) =
    let n = number.0.0.0 in
    omega (arith, ap length is, length-append (lead ++ group) rest, length-append lead group, n)
groups_are_some lead text (s ∷ groups) some (inr (last, octets, never, is, dotted_is, rest)) = absurd (false≢true never)

-- a text with no such byte, and not empty
pub record IsPlain (text : List ℕ) : Type 0 where
  pub some : 0 < length text
  pub plain : Lacks is_mark text

ipv6_is_plain : (text : List ℕ) (n : ℕ) → IsIpv6Text text n → IsPlain text
ipv6_is_plain text n is = eight text is.groups is.spelled
  where
    eight : (text groups : List ℕ) → IsEightGroups text groups → IsPlain text
    eight text groups (inl (spelled, count)) = record {
      some = groups_are_some [] text groups (omega (arith, count)) spelled;
      plain = groups_are_plain [] text groups refl spelled;
    }
    eight text groups (inr elided) = record {
      some = omega (arith, ap length elided.spelled, length-append (elided.head_text ++ codes "::") elided.tail_text, length-append elided.head_text (codes "::"));
      plain =
          subst (λ (t : List ℕ). Lacks is_mark t) (sym elided.spelled)
          (Lacks-append is_mark (elided.head_text ++ codes "::") elided.tail_text
          (Lacks-append is_mark elided.head_text (codes "::") (groups_are_plain [] elided.head_text elided.head refl elided.head_groups) refl)
          (groups_are_plain [] elided.tail_text elided.tail refl elided.tail_groups));
    }

dotted_is_plain : (n : ℕ) → n < 2 ^ 32 → IsPlain (dotted n)
dotted_is_plain n fits = record {
  some = four_some (n / 16777216 % 256) (n / 65536 % 256) (n / 256 % 256) (n % 256);
  plain = four_plain (n / 16777216 % 256) (n / 65536 % 256) (n / 256 % 256) (n % 256) (omega arith) (omega arith) (omega arith) (omega arith);
}

pub number_is_plain : (family : Family) (n : ℕ) → ((a : ℕ) → a < 2 ^ 128 → IsIpv6Text (ipv6_text a) a) → n < family_end family → IsPlain (number_text family n)
number_is_plain Asn n own fits = record {
  some = omega (arith, length-append (codes "AS") (decimal n));
  plain = Lacks-append is_mark (codes "AS") (decimal n) refl (decimal_is_plain n (omega arith));
}
number_is_plain V4 n own fits = dotted_is_plain n fits
number_is_plain V6 n own fits = ipv6_is_plain (ipv6_text n) n (own n fits)
