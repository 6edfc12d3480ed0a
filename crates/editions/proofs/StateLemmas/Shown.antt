-- What is shown of the authorities, desk by desk.
use Rattle.std.proofs.Common.{◌≡◌, ℕ, ◌<◌, ◌≤◌, ◌+◌, zero, suc, true, false, cond, refl, sym, ◌∙◌, ap, arith, length, get_or, set, take, drop, List, [], ◌∷◌, ◌++◌, inl, inr}
use Rattle.std.specs.Prelude.{Bool, ◌==◌}
use Rattle.std.proofs.lemmas.Bool.{cases_eq}
use Rattle.std.proofs.lemmas.Bool.Decides.{nat_tests}
use Rattle.std.proofs.lemmas.List.{take_more, append-nil, append_assoc, length_push, drop_all, get_or-set_same, get_or-set_other}
use Rattle.origins.specs.declared.Origin.{Origin}
use Rattle.res_sets.specs.declared.holdings.Resources.{Resources}
use Rattle.entitle.specs.declared.trees.Owed.{Owed}
use Rattle.notice_board.specs.declared.sheets.SheetRow.{SheetRow}
use Rattle.notice_board.specs.declared.sheets.ShownStage.{ShownStage}
use Rattle.editions.specs.PublishedState.{PublishedStateValue}
use Rattle.editions.specs.Sheets.{stage_of, origins_at, shown_at, shown_from}
use Rattle.editions.proofs.StateLemmas.Growing.{passed-grown, next-dropped}

-- Empty lists, and one more.
pub empty-push : (lists : List (List Origin)) → ((k : ℕ) → get_or lists k [] ≡ []) → (k : ℕ) → get_or (lists ++ [] ∷ []) k [] ≡ []
empty-push [] none zero = refl
empty-push [] none (suc k) = refl
empty-push (list ∷ lists) none zero = none 0
empty-push (list ∷ lists) none (suc k) = empty-push lists (λ j. none (suc j)) k

-- One more owed origin.
pub origins-grown : (owed : List Owed) (i : ℕ) (each : Owed) (desk : ℕ) → i < length owed → each ≡ get_or owed i each →
    origins_at (take (i + 1) owed) desk ≡ origins_at (take i owed) desk ++ cond (each.desk == desk) (each.origin ∷ []) []
origins-grown owed i each desk inside is =
    let longer : take (i + 1) owed ≡ take i owed ++ each ∷ [] = take_more owed i each inside ∙ ap (λ (o : Owed). take i owed ++ o ∷ []) (sym is) in
    ap (λ (l : List Owed). origins_at l desk) longer
    ∙ passed-grown (λ (o : Owed). o.desk == desk) (λ (o : Owed). o.origin) (take i owed) each

-- One more behind those at a place.
pub pushed-at : (lists : List (List Origin)) (desk : ℕ) (new : List Origin) (origin : Origin) → desk < length lists → new ≡ get_or lists desk [] ++ origin ∷ [] →
    (other : ℕ) → other < length lists → get_or (set lists desk new) other [] ≡ get_or lists other [] ++ cond (desk == other) (origin ∷ []) []
pushed-at lists desk new origin inside is other there =
    elim (cases_eq other desk) [
      | inl here ↦
          let same : (desk == other) ≡ true = grind (arith, nat_tests) in
          ap (λ (n : ℕ). get_or (set lists desk new) n []) here
          ∙ (get_or-set_same lists desk new [] inside
          ∙ (is ∙ (ap (λ (n : ℕ). get_or lists n [] ++ origin ∷ []) (sym here)
          ∙ ap (λ (b : Bool). get_or lists other [] ++ cond b (origin ∷ []) []) (sym same))))
      | inr apart ↦
          let not_same : (desk == other) ≡ false = grind (arith, nat_tests) in
          get_or-set_other lists desk other new [] apart
          ∙ (sym (append-nil (get_or lists other []))
          ∙ ap (λ (b : Bool). get_or lists other [] ++ cond b (origin ∷ []) []) (sym not_same))
    ]

-- ---- rows

pub row-is : (published_state : PublishedStateValue) (desk : ℕ) (set : Resources) (row : SheetRow) → row.desk ≡ desk → row.certified ≡ set → row.stage ≡ stage_of published_state.rows desk →
    row.published ≡ origins_at published_state.owed desk → row ≡ shown_at published_state desk set
row-is published_state desk set row same_desk same_set same_stage same_published =
    let first : row ≡ record { desk = desk; certified = row.certified; stage = row.stage; published = row.published } =
    ap (λ (d : ℕ). record { desk = d; certified = row.certified; stage = row.stage; published = row.published }) same_desk in
    let second : record { desk = desk; certified = row.certified; stage = row.stage; published = row.published }
    ≡ record { desk = desk; certified = set; stage = row.stage; published = row.published } =
    ap (λ (s : Resources). record { desk = desk; certified = s; stage = row.stage; published = row.published }) same_set in
    let third : record { desk = desk; certified = set; stage = row.stage; published = row.published }
    ≡ record { desk = desk; certified = set; stage = stage_of published_state.rows desk; published = row.published } =
    ap (λ (s : ShownStage). record { desk = desk; certified = set; stage = s; published = row.published }) same_stage in
    first ∙ (second ∙ (third ∙ ap (λ (l : List Origin). record { desk = desk; certified = set; stage = stage_of published_state.rows desk; published = l }) same_published))

pub shown-next : (published_state : PublishedStateValue) (sets : List Resources) (desk : ℕ) (set : Resources) → desk < length sets → set ≡ get_or sets desk set →
    shown_from published_state desk (drop desk sets) ≡ shown_at published_state desk set ∷ shown_from published_state (desk + 1) (drop (desk + 1) sets)
shown-next published_state sets desk set inside is = ap (shown_from published_state desk) (next-dropped sets desk set inside is)

-- One row more, and those that are left.
pub rows-grown : (published_state : PublishedStateValue) (sets : List Resources) (rows after : List SheetRow) (row : SheetRow) (set : Resources) → length rows < length sets → set ≡ get_or sets (length rows) set →
    after ≡ rows ++ row ∷ [] → row ≡ shown_at published_state (length rows) set →
    rows ++ shown_from published_state (length rows) (drop (length rows) sets) ≡ shown_from published_state 0 sets →
    after ++ shown_from published_state (length after) (drop (length after) sets) ≡ shown_from published_state 0 sets
rows-grown published_state sets rows after row set inside is now what before =
    let long : length after ≡ length rows + 1 = ap length now ∙ length_push rows row in
    ap (λ (n : ℕ). after ++ shown_from published_state n (drop n sets)) long
    ∙ (ap (λ (l : List SheetRow). l ++ shown_from published_state (length rows + 1) (drop (length rows + 1) sets)) now
    ∙ (append_assoc rows (row ∷ []) (shown_from published_state (length rows + 1) (drop (length rows + 1) sets))
    ∙ (ap (λ (r : SheetRow). rows ++ r ∷ shown_from published_state (length rows + 1) (drop (length rows + 1) sets)) what
    ∙ (ap (λ (l : List SheetRow). rows ++ l) (sym (shown-next published_state sets (length rows) set inside is)) ∙ before))))

pub rows-all : (published_state : PublishedStateValue) (sets : List Resources) (rows : List SheetRow) → length sets ≤ length rows →
    rows ++ shown_from published_state (length rows) (drop (length rows) sets) ≡ shown_from published_state 0 sets → rows ≡ shown_from published_state 0 sets
rows-all published_state sets rows long all =
    let none : drop (length rows) sets ≡ [] = drop_all (length rows) sets long in
    sym (append-nil rows) ∙ (ap (λ (l : List Resources). rows ++ shown_from published_state (length rows) l) (sym none) ∙ all)
