-- Whole records.
use Rattle.std.proofs.Common.{◌≡◌, ◌<◌, ◌≤◌, ℕ, List, [], ◌∷◌, ◌++◌, length, refl, sym, ap, ◌∙◌, arith, append-nil, None, Some}
use Rattle.std.specs.Prelude.{Result, Ok, Err, IfOk}
use Rattle.std.specs.List.{flat_map}
use Rattle.authority_book.specs.declared.commands.Command.{Command}
use Rattle.cmd_codec.specs.declared.faults.RecordFault.{RecordFault}
use Rattle.cmd_codec.specs.declared.faults.RecordFault.TheVariants.{BadRecord, Memory}
use Rattle.cmd_codec.specs.Spelling.{part_spelling, row, spelling, IsRecordable}
use Rattle.cmd_codec.specs.Fault.{Place, kinds_of, parts_if, fields, bad_of, left_over, first_bad}
use Rattle.cmd_codec.specs.Outcome.{IsUnlessMemory, IsFaultOf, ReadsRow, Answers}

pub behind_first : List ℕ → Place
behind_first left = record { at = 1; left = left }

fields_are : (first : ℕ) (left : List ℕ) (start : Place) → start.at ≡ 1 → start.left ≡ left → fields (first ∷ left) ≡ parts_if (kinds_of first) start
unfolding fields
fields_are first left start at_is left_is = λ i. parts_if (kinds_of first) (record { at = sym at_is i; left = sym left_is i })

pub no_bytes : (bytes : List ℕ) → length bytes ≡ 0 → first_bad bytes ≡ Some 0
unfolding fields
no_bytes [] none = refl
no_bytes (b ∷ bytes) none = absurd (omega arith)

-- a part is bad
pub bad_row : (bytes left : List ℕ) (first : ℕ) (start end : Place) (fault : RecordFault) → bytes ≡ first ∷ left → start.at ≡ 1 → start.left ≡ left
    → IsFaultOf (parts_if (kinds_of first) start) fault → Answers bytes (Err fault)
bad_row bytes left first start end (BadRecord at) is at_is left_is bad =
    ap (λ (b : List ℕ). first_bad b) is ∙ ap bad_of (fields_are first left start at_is left_is ∙ bad)
bad_row bytes left first start end Memory is at_is left_is bad = tt

-- bytes are left over
pub bad_rest : (bytes left : List ℕ) (first : ℕ) (start end : Place) (command : Command) → bytes ≡ first ∷ left → start.at ≡ 1 → start.left ≡ left
    → ReadsRow first start end (Ok command) → ¬ (end.left ≡ []) → first_bad bytes ≡ Some end.at
bad_rest bytes left first start end command is at_is left_is (first_is, recordable, passes) more =
    ap (λ (b : List ℕ). first_bad b) is ∙ ap bad_of (fields_are first left start at_is left_is ∙ passes.behind) ∙ over end.at end.left more
  where
    over : (at : ℕ) (rest : List ℕ) → ¬ (rest ≡ []) → left_over at rest ≡ Some at
    over at [] none = absurd (none refl)
    over at (b ∷ rest) none = refl

-- a whole record
pub whole : (bytes left : List ℕ) (first : ℕ) (start end : Place) (command : Command) → bytes ≡ first ∷ left → start.at ≡ 1 → start.left ≡ left
    → ReadsRow first start end (Ok command) → end.left ≡ [] → Answers bytes (Ok command)
unfolding spelling
whole bytes left first start end command is at_is left_is (first_is, recordable, passes) none =
    let texts : List ℕ = flat_map part_spelling (row command).1 in
    let rest : left ≡ texts = sym left_is ∙ passes.spelled ∙ ap (λ (t : List ℕ). texts ++ t) none ∙ append-nil texts in (
      recordable,
      is ∙ (λ i. sym first_is i ∷ rest i),
      ap (λ (b : List ℕ). first_bad b) is ∙ ap bad_of (fields_are first left start at_is left_is ∙ passes.behind) ∙ ap (λ (t : List ℕ). left_over end.at t) none,
    )

pub some_left : (left : List ℕ) → 0 < length left → ¬ (left ≡ [])
some_left [] more = absurd (omega arith)
some_left (b ∷ left) more = λ e. cc

pub none_left : (left : List ℕ) → length left ≤ 0 → left ≡ []
none_left [] none = refl
none_left (b ∷ left) none = absurd (omega arith)

-- What an answer says in the four clauses of reading.
pub is_found : (bytes : List ℕ) (r : Result Command RecordFault) → Answers bytes r → IfOk r (λ command. IsRecordable command × (bytes ≡ spelling command))
is_found bytes (Ok command) (recordable, is, good) = (recordable, is)
is_found bytes (Err fault) is = tt

pub is_only : (apart : (one other : Command) → IsRecordable one → IsRecordable other → spelling one ≡ spelling other → one ≡ other)
    → (good : (command : Command) → IsRecordable command → first_bad (spelling command) ≡ None)
    → (bytes : List ℕ) (r : Result Command RecordFault) → Answers bytes r → (command : Command) → IsRecordable command → bytes ≡ spelling command → IsUnlessMemory r (Ok command)
is_only apart good bytes (Ok found) (recordable, is, none) command sound spelled = ap (λ (c : Command). Ok c) (apart found command recordable sound (sym is ∙ spelled))
is_only apart good bytes (Err (BadRecord at)) bad command sound spelled =
    let none : first_bad bytes ≡ None = ap (λ (b : List ℕ). first_bad b) spelled ∙ good command sound in
    absurd (cc)
is_only apart good bytes (Err Memory) bad command sound spelled = tt

pub is_bad : (bytes : List ℕ) (r : Result Command RecordFault) → Answers bytes r → (at : ℕ) → r ≡ Err (BadRecord at) → first_bad bytes ≡ Some at
is_bad bytes (Ok command) is at e = absurd (cc)
is_bad bytes (Err (BadRecord here)) bad at e = let same : here ≡ at = cc in bad ∙ ap (λ (n : ℕ). Some n) same
is_bad bytes (Err Memory) is at e = absurd (cc)

pub is_bad_only : (bytes : List ℕ) (r : Result Command RecordFault) → Answers bytes r → (at : ℕ) → first_bad bytes ≡ Some at → IsUnlessMemory r (Err (BadRecord at))
is_bad_only bytes (Ok command) (recordable, is, none) at bad = absurd (cc)
is_bad_only bytes (Err (BadRecord here)) is at bad = let same : here ≡ at = cc in ap (λ (n : ℕ). Err (BadRecord n)) same
is_bad_only bytes (Err Memory) is at bad = tt
