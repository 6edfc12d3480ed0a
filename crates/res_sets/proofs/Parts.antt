-- The blocks of a text, one after another.
use Rattle.std.proofs.Common.{◌≡◌, ℕ, ◌+◌, ◌<◌, ◌≤◌, true, false, List, [], ◌∷◌, ◌++◌, suc, length, Err, refl, ap, sym, subst, ◌∙◌, append_assoc, add-zero, zero-add, length-drop, inl, inr, arith}
use Rattle.std.specs.List.{list_any, list_all, position_or_len, before_first, after_first, slice_split, onto_first}
use Rattle.std.proofs.lemmas.Bool.{cases_Bool, or_parts, ltb-true, cond-false}
use Rattle.std.proofs.lemmas.Bool.Decides.{nat_tests}
use Rattle.std.proofs.lemmas.List.Splits.{slice_split_first, length-slice_split}
use Rattle.res_sets.specs.declared.numbers.Family.{Family}
use Rattle.res_sets.specs.declared.numbers.Range.{Range}
use Rattle.res_sets.specs.declared.prefixes.BlockFault.{BlockFault}
use Rattle.res_sets.specs.declared.prefixes.BlockFault.TheVariants.{BadNumber, BadRange, HostBits}
use Rattle.res_sets.specs.declared.texts.TextFault.{TextFault}
use Rattle.res_sets.specs.declared.texts.TextFault.TheVariants as text_fault
use Rattle.res_sets.specs.Blocks.{is_blank, is_comma, without_leading, without_trailing, behind_commas, round_commas, blocks}
use Rattle.res_sets.specs.Texts.{ReadsBlock, AllRead, IsFirstFault, PushesBlock, BlockHasFault, HasFault}
use Rattle.res_sets.proofs.Blanks.{any_is_before_end}

-- the blocks of what is left of a text
abbrev pub blocks_left : List ℕ → List (List ℕ)
blocks_left rest = round_commas (slice_split is_comma rest)

abbrev trim_first : List (List ℕ) → List (List ℕ)
trim_first [] = []
trim_first (part ∷ parts) = without_leading part ∷ parts

behind_is_round : (parts : List (List ℕ)) → behind_commas parts ≡ round_commas (trim_first parts)
behind_is_round [] = refl
behind_is_round (part ∷ []) = refl
behind_is_round (part ∷ next ∷ parts) = refl

trim_onto_blank : (b : ℕ) (parts : List (List ℕ)) → is_blank b ≡ true → 0 < length parts → trim_first (onto_first b parts) ≡ trim_first parts
trim_onto_blank b [] blank some = absurd (omega arith)
trim_onto_blank b (part ∷ parts) blank some = let e : without_leading (b ∷ part) ≡ without_leading part = grind (arith, nat_tests, blank) in ap (λ (x : List ℕ). x ∷ parts) e

trim_onto_other : (b : ℕ) (parts : List (List ℕ)) → is_blank b ≡ false → trim_first (onto_first b parts) ≡ onto_first b parts
trim_onto_other b [] other = let e : without_leading (b ∷ []) ≡ b ∷ [] = grind (arith, nat_tests, other) in ap (λ (x : List ℕ). x ∷ []) e
trim_onto_other b (part ∷ parts) other = let e : without_leading (b ∷ part) ≡ b ∷ part = grind (arith, nat_tests, other) in ap (λ (x : List ℕ). x ∷ parts) e

split_some : (bytes : List ℕ) → 0 < length (slice_split is_comma bytes)
split_some bytes = omega (arith, length-slice_split is_comma bytes)

split_comma : (bytes : List ℕ) (b : ℕ) → is_comma b ≡ true → slice_split is_comma (b ∷ bytes) ≡ [] ∷ slice_split is_comma bytes
split_comma bytes b comma = grind (arith, nat_tests, comma)

split_other : (bytes : List ℕ) (b : ℕ) → is_comma b ≡ false → slice_split is_comma (b ∷ bytes) ≡ onto_first b (slice_split is_comma bytes)
split_other bytes b other = grind (arith, nat_tests, other)

leading_blank : (b : ℕ) (bytes : List ℕ) → is_blank b ≡ true → without_leading (b ∷ bytes) ≡ without_leading bytes
leading_blank b bytes blank = grind (arith, nat_tests, blank)

leading_other : (b : ℕ) (bytes : List ℕ) → is_blank b ≡ false → without_leading (b ∷ bytes) ≡ b ∷ bytes
leading_other b bytes other = grind (arith, nat_tests, other)

blank_no_comma : (b : ℕ) → is_blank b ≡ true → is_comma b ≡ false
blank_no_comma b blank = grind (arith, nat_tests, blank)

split_without_leading : (bytes : List ℕ) → slice_split is_comma (without_leading bytes) ≡ trim_first (slice_split is_comma bytes)
split_without_leading [] = refl
split_without_leading (b ∷ bytes) = elim (cases_Bool (is_blank b)) [
  | inl blank ↦
      ap (slice_split is_comma) (leading_blank b bytes blank) ∙ (split_without_leading bytes
      ∙ (sym (trim_onto_blank b (slice_split is_comma bytes) blank (split_some bytes)) ∙ ap trim_first (sym (split_other bytes b (blank_no_comma b blank)))))
  | inr other ↦
      ap (slice_split is_comma) (leading_other b bytes other) ∙ elim (cases_Bool (is_comma b)) [
        | inl comma ↦ split_comma bytes b comma ∙ ap trim_first (sym (split_comma bytes b comma))
        | inr no_comma ↦ split_other bytes b no_comma ∙ (sym (trim_onto_other b (slice_split is_comma bytes) other) ∙ ap trim_first (sym (split_other bytes b no_comma)))
      ]
]

pub blocks_behind : (more : List ℕ) → behind_commas (slice_split is_comma more) ≡ blocks_left (without_leading more)
blocks_behind more = behind_is_round (slice_split is_comma more) ∙ ap round_commas (sym (split_without_leading more))

round_next : (part : List ℕ) (parts : List (List ℕ)) → 0 < length parts → round_commas (part ∷ parts) ≡ without_trailing part ∷ behind_commas parts
round_next part [] some = absurd (omega arith)
round_next part (next ∷ parts) some = refl

-- where a comma is left, the next block stands before it
pub left_next : (rest : List ℕ) → list_any is_comma rest ≡ true
    → blocks_left rest ≡ without_trailing (before_first is_comma rest) ∷ blocks_left (without_leading (after_first is_comma rest))
left_next rest some =
    let within : position_or_len is_comma rest < length rest = ltb-true _ _ (sym (any_is_before_end is_comma rest) ∙ some) in
    let split = slice_split_first is_comma rest 0 within in
    ap round_commas split ∙ (round_next (before_first is_comma rest) (slice_split is_comma (after_first is_comma rest)) (split_some (after_first is_comma rest))
    ∙ ap (λ (x : List (List ℕ)). without_trailing (before_first is_comma rest) ∷ x) (blocks_behind (after_first is_comma rest)))

onto_one : (b : ℕ) (bytes : List ℕ) (parts : List (List ℕ)) → parts ≡ bytes ∷ [] → onto_first b parts ≡ (b ∷ bytes) ∷ []
onto_one b bytes parts is = ap (onto_first b) is

split_none : (rest : List ℕ) → list_any is_comma rest ≡ false → slice_split is_comma rest ≡ rest ∷ []
split_none [] none = refl
split_none (b ∷ rest) none =
    let parts = or_parts (is_comma b) (list_any is_comma rest) none in
    split_other rest b parts.0 ∙ onto_one b rest (slice_split is_comma rest) (split_none rest parts.1)

-- where no comma is left, the rest is the last block
pub left_last : (rest : List ℕ) → list_any is_comma rest ≡ false → blocks_left rest ≡ rest ∷ []
left_last rest none = ap round_commas (split_none rest none)

length-without_leading : (bytes : List ℕ) → length (without_leading bytes) ≤ length bytes
length-without_leading [] = omega arith
length-without_leading (b ∷ bytes) = elim (cases_Bool (is_blank b)) [
  | inl blank ↦ omega (arith, ap length (leading_blank b bytes blank), length-without_leading bytes)
  | inr other ↦ omega (arith, ap length (leading_other b bytes other))
]

pub left_shorter : (rest : List ℕ) → list_any is_comma rest ≡ true → length (without_leading (after_first is_comma rest)) < length rest
left_shorter rest some =
    let within : position_or_len is_comma rest < length rest = ltb-true _ _ (sym (any_is_before_end is_comma rest) ∙ some) in
    let shorter = length-without_leading (after_first is_comma rest) in
    let behind = length-drop (position_or_len is_comma rest + 1) rest in
    omega (arith, within, shorter, behind)

-- how far a text has been read: the ranges of the blocks so far, and what is left of the text
pub record Reading (family : Family) (text rest : List ℕ) (at : ℕ) (read : List Range) : Type 0 where
  pub short : at + length rest ≤ length text
  pub all : (ranges : List Range) → AllRead family (blocks_left rest) ranges → AllRead family (blocks_left text) (read ++ ranges)
  pub faulty : (k : ℕ) (fault : BlockFault) → IsFirstFault family (blocks_left rest) k fault → IsFirstFault family (blocks_left text) (at + k) fault

pub Reading-start : (family : Family) (text : List ℕ) → Reading family text text 0 []
Reading-start family text = record {
  short = omega arith;
  all = λ ranges read. read;
  faulty = λ k fault first. subst (λ (x : ℕ). IsFirstFault family (blocks_left text) x fault) (sym (zero-add k)) first;
}

pub Reading-next : (family : Family) (text rest : List ℕ) (at : ℕ) (read new : List Range) → list_any is_comma rest ≡ true
    → PushesBlock family (without_trailing (before_first is_comma rest)) read new → Reading family text rest at read
    → Reading family text (without_leading (after_first is_comma rest)) (at + 1) new
Reading-next family text rest at read new some pushed so_far =
    let next = left_next rest some in
    record {
      short = omega (arith, left_shorter rest some, so_far.short);
      all = λ ranges all.
          let whole = so_far.all (pushed.0 ∷ ranges) (subst (λ (x : List (List ℕ)). AllRead family x (pushed.0 ∷ ranges)) (sym next) (pushed.1.0, all)) in
          let same : read ++ (pushed.0 ∷ ranges) ≡ new ++ ranges = sym (ap (λ (x : List Range). x ++ ranges) pushed.1.1 ∙ append_assoc read (pushed.0 ∷ []) ranges) in
          subst (λ (x : List Range). AllRead family (blocks_left text) x) same whole;
      faulty = λ k fault first.
          let whole = so_far.faulty (suc k) fault (subst (λ (x : List (List ℕ)). IsFirstFault family x (suc k) fault) (sym next) ((pushed.0, pushed.1.0), first)) in
          subst (λ (x : ℕ). IsFirstFault family (blocks_left text) x fault) (omega arith) whole;
    }

pub Reading-end : (family : Family) (text rest : List ℕ) (at : ℕ) (read new : List Range) → list_any is_comma rest ≡ false
    → PushesBlock family rest read new → Reading family text rest at read → AllRead family (blocks_left text) new
Reading-end family text rest at read new none pushed so_far =
    let whole = so_far.all (pushed.0 ∷ []) (subst (λ (x : List (List ℕ)). AllRead family x (pushed.0 ∷ [])) (sym (left_last rest none)) (pushed.1.0, tt)) in
    subst (λ (x : List Range). AllRead family (blocks_left text) x) (sym pushed.1.1) whole

-- the first block that is left is faulty
first_faulty : (family : Family) (text rest block : List ℕ) (more : List (List ℕ)) (at : ℕ) (read : List Range) (fault : BlockFault) → blocks_left rest ≡ block ∷ more
    → ReadsBlock family block (Err fault) → Reading family text rest at read → IsFirstFault family (blocks_left text) at fault
first_faulty family text rest block more at read fault is first so_far =
    subst (λ (x : ℕ). IsFirstFault family (blocks_left text) x fault) (add-zero at)
    (so_far.faulty 0 fault (subst (λ (x : List (List ℕ)). IsFirstFault family x 0 fault) (sym is) first))

pub blocks_are_left : (text : List ℕ) → list_all is_blank text ≡ false → blocks text ≡ blocks_left text
blocks_are_left text some = cond-false (list_all is_blank text) [] (blocks_left text) some

pub HasFault-from : (family : Family) (text rest block : List ℕ) (more : List (List ℕ)) (at : ℕ) (read : List Range) (e : TextFault) → list_all is_blank text ≡ false
    → blocks_left rest ≡ block ∷ more → BlockHasFault family block at e → Reading family text rest at read → HasFault family text e
HasFault-from family text rest block more at read (text_fault.BadNumber place) some is fault so_far =
    let first = first_faulty family text rest block more at read BadNumber is fault.1 so_far in
    subst (λ (x : ℕ). IsFirstFault family (blocks text) x BadNumber) (sym fault.0) (subst (λ (x : List (List ℕ)). IsFirstFault family x at BadNumber) (sym (blocks_are_left text some)) first)
HasFault-from family text rest block more at read (text_fault.BadRange place) some is fault so_far =
    let first = first_faulty family text rest block more at read BadRange is fault.1 so_far in
    subst (λ (x : ℕ). IsFirstFault family (blocks text) x BadRange) (sym fault.0) (subst (λ (x : List (List ℕ)). IsFirstFault family x at BadRange) (sym (blocks_are_left text some)) first)
HasFault-from family text rest block more at read (text_fault.HostBits place) some is fault so_far =
    let first = first_faulty family text rest block more at read HostBits is fault.1 so_far in
    subst (λ (x : ℕ). IsFirstFault family (blocks text) x HostBits) (sym fault.0) (subst (λ (x : List (List ℕ)). IsFirstFault family x at HostBits) (sym (blocks_are_left text some)) first)
HasFault-from family text rest block more at read text_fault.Memory some is fault so_far = tt
