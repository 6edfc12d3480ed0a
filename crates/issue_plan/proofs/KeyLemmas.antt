-- The keys of one desk more.
use Rattle.std.proofs.Common.{◌≡◌, ℕ, ◌+◌, suc, true, false, List, [], ◌∷◌, ◌++◌, sym, ap, ap₂, subst, ◌∙◌, arith, cond}
use Rattle.std.specs.Prelude.{slice_get, Option, None, Some}
use Rattle.std.proofs.lemmas.List.{append-nil, append_assoc}
use Rattle.res_sets.specs.declared.holdings.Resources.{Resources}
use Rattle.authority_book.specs.declared.rows.NameRow.{NameRow}
use Rattle.entitle.specs.Certified.{names_of}
use Rattle.key_roll.specs.declared.rows.Role.TheVariants.{New, Current, Old}
use Rattle.key_roll.specs.declared.rows.KeyRow.{KeyRow}
use Rattle.key_roll.specs.declared.stages.Stage.{Stage}
use Rattle.key_roll.specs.declared.stages.StepEnd.{StepEnd}
use Rattle.key_roll.specs.Stages.{step_of}
use Rattle.issue_plan.specs.declared.keys.NextKey.{NextKey}
use Rattle.issue_plan.specs.declared.keys.Asked.{Asked}
use Rattle.issue_plan.specs.Keys.{Basis, keys_of, keys_at, keys_of_first, keys_after, keys_at_end, stage_of, asked_at, row_of, holds_nothing, list_of, inits_of, activates_of}

pub unnamed : (basis : Basis) (desk : ℕ) (keys : List NextKey) → slice_get (names_of basis.configs) desk ≡ None →
    keys ≡ keys ++ keys_at basis desk
unnamed basis desk keys none =
    sym (ap (λ o. keys ++ keys_of basis desk o (slice_get basis.sets desk)) none ∙ append-nil keys)

pub without_set : (basis : Basis) (desk : ℕ) (keys : List NextKey) (name : NameRow) →
    slice_get (names_of basis.configs) desk ≡ Some name → slice_get basis.sets desk ≡ None →
    keys ≡ keys ++ keys_at basis desk
without_set basis desk keys name named none =
    sym (ap (λ o. keys ++ keys_of basis desk o (slice_get basis.sets desk)) named
    ∙ (ap (λ o. keys ++ keys_of basis desk (Some name) o) none ∙ append-nil keys))

-- The keys where there is a set.
set_keys : (basis : Basis) (desk : ℕ) (name : NameRow) (set : Resources) →
    slice_get (names_of basis.configs) desk ≡ Some name → slice_get basis.sets desk ≡ Some set →
    keys_at basis desk ≡ keys_of basis desk (Some name) (Some set)
set_keys basis desk name set named held =
    ap (λ o. keys_of basis desk o (slice_get basis.sets desk)) named ∙ ap (λ o. keys_of basis desk (Some name) o) held

pub with_nothing : (basis : Basis) (desk : ℕ) (keys : List NextKey) (name : NameRow) (set : Resources) →
    slice_get (names_of basis.configs) desk ≡ Some name → slice_get basis.sets desk ≡ Some set →
    holds_nothing set ≡ true → keys ≡ keys ++ keys_at basis desk
with_nothing basis desk keys name set named held nothing =
    sym (ap (λ l. keys ++ l) (set_keys basis desk name set named held
    ∙ ap (λ b. cond b [] (keys_after (asked_at basis desk name) (row_of basis.rows desk New) (row_of basis.rows desk Current) (row_of basis.rows desk Old))) nothing)
    ∙ append-nil keys)

-- What the desk's authority asks, with these numbers of rollovers.
abbrev asked_with : Basis → ℕ → NameRow → ℕ → ℕ → Asked
asked_with basis desk name inits activates =
    record { desk = desk; signer = name.signer; inits = inits; activates = activates; moment = basis.moment }

pub with_some : (basis : Basis) (desk : ℕ) (keys : List NextKey) (name : NameRow) (set : Resources) (inits activates : ℕ) (own : List NextKey) →
    slice_get (names_of basis.configs) desk ≡ Some name → slice_get basis.sets desk ≡ Some set →
    holds_nothing set ≡ false → inits ≡ inits_of (slice_get basis.configs desk) → activates ≡ activates_of (slice_get basis.configs desk) →
    own ≡ keys_after (asked_with basis desk name inits activates) (row_of basis.rows desk New) (row_of basis.rows desk Current) (row_of basis.rows desk Old) →
    keys ++ own ≡ keys ++ keys_at basis desk
with_some basis desk keys name set inits activates own named held some inits_is activates_is is =
    let after : Asked → List NextKey = λ asked. keys_after asked (row_of basis.rows desk New) (row_of basis.rows desk Current) (row_of basis.rows desk Old) in
    let asked : asked_with basis desk name inits activates ≡ asked_at basis desk name = ap₂ (asked_with basis desk name) inits_is activates_is in
    ap (λ l. keys ++ l) (is ∙ (ap after asked ∙ sym (set_keys basis desk name set named held
    ∙ ap (λ b. cond b [] (after (asked_at basis desk name))) some)))

-- One key or two behind the others.
pub pushed_one : (keys one all : List NextKey) (first : NextKey) (second : Option NextKey) → one ≡ keys ++ first ∷ [] →
    second ≡ None → keys ++ (first ∷ list_of second) ≡ all → one ≡ all
pushed_one keys one all first second put none is = put ∙ (sym (ap (λ o. keys ++ (first ∷ list_of o)) none) ∙ is)

pub pushed_two : (keys one two all : List NextKey) (first next : NextKey) (second : Option NextKey) → one ≡ keys ++ first ∷ [] →
    two ≡ one ++ next ∷ [] → second ≡ Some next → keys ++ (first ∷ list_of second) ≡ all → two ≡ all
pushed_two keys one two all first next second put more some is =
    more ∙ (ap (λ l. l ++ next ∷ []) put ∙ (append_assoc keys (first ∷ []) (next ∷ [])
    ∙ (sym (ap (λ o. keys ++ (first ∷ list_of o)) some) ∙ is)))

pub desk_more : (basis : Basis) (desk : ℕ) (before after : List NextKey) → before ≡ keys_of_first basis desk →
    after ≡ before ++ keys_at basis desk → after ≡ keys_of_first basis (desk + 1)
desk_more basis desk before after is more =
    let next : suc desk ≡ desk + 1 = omega arith in
    subst (λ n. after ≡ keys_of_first basis n) next (more ∙ ap (λ l. l ++ keys_at basis desk) is)

-- The keys with which a step by the table ends.
pub keys_stepped : (asked : Asked) (new current old : Option KeyRow) (c : KeyRow) (stage : Stage) (end : StepEnd) (keys : List NextKey) →
    Some c ≡ current → stage ≡ stage_of new c old → end ≡ step_of stage asked.inits asked.activates c.done asked.moment →
    keys ≡ keys_at_end asked new c end → keys ≡ keys_after asked new current old
keys_stepped asked new current old c stage end keys at_current stage_is end_is is =
    let stepped : end ≡ step_of (stage_of new c old) asked.inits asked.activates c.done asked.moment =
    end_is ∙ ap (λ (s : Stage). step_of s asked.inits asked.activates c.done asked.moment) stage_is in
    is ∙ (ap (λ (e : StepEnd). keys_at_end asked new c e) stepped ∙ ap (λ (o : Option KeyRow). keys_after asked new o old) at_current)
