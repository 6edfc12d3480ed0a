-- The record of an edition, read up to its changes, and these behind it.
use Rattle.std.proofs.Common.{◌≡◌, ℕ, ◌^◌, ◌<◌, Bool, true, false, cond, ltb, ◌&&◌, List, [], ◌∷◌, length, Option, Some, None, refl, sym, ap, ◌∙◌, arith}
use Rattle.std.specs.Prelude.{Err, ◌==◌}
use Rattle.std.proofs.lemmas.Bool.{lt-ltb, eqb-true}
use Rattle.pub_set.specs.declared.steps.Change.{Change}
use Rattle.record_forms.specs.Form.{Form}
use Rattle.record_forms.specs.Forms.{◌>>=◌, both, marked, behind_byte, counted, so_many, number_32, number_64, at_end, read_whole}
use Rattle.record_forms.specs.Outcome.{Gives}
use Rattle.record_forms.specs.declared.fault.ReadFault.{ReadFault}
use Rattle.record_forms.specs.declared.fault.ReadFault.TheVariants.{Bad, Memory}
use Rattle.record_forms.specs.laws.ByteLaws.{some-of, passed}
use Rattle.press_records.specs.Changes.{changes, uris_rise}
use Rattle.press_records.specs.Rows.{RowValue, key_rows}
use Rattle.press_records.specs.Edition.{EditionValue, StandingValue, Fields, edition_fields, edition_of, edition_told, editions, may_follow, is_next, is_dated, is_cut, are_live}
use Rattle.press_records.specs.Views.{edition_value}
use Rattle.press_records.specs.declared.edition.ReadEdition.{ReadEdition}
use Rattle.press_records.specs.inner.Taking.{Front, front_lists, edition_fronts, fields_with, AreNone}

-- ---- a reading that goes on behind another

-- The first reads what the second reads, and more behind it.
abbrev Leads : {A B : Type 0} → Form A → Form B → (B × List ℕ → Option (A × List ℕ)) → Type 0
Leads f g more = (bytes : List ℕ) → f.read bytes ≡ (g.read bytes >>= more)

abbrev behind_it : {A B C : Type 0} → (B × List ℕ → Option (C × List ℕ)) → (A × B) × List ℕ → Option ((A × C) × List ℕ)
behind_it more z = more (z.0.1, z.1) >>= (λ y. Some ((z.0.0, y.0), y.1))

both-leads : {A B C : Type 0} (f : Form A) (g : Form C) (h : Form B) (more : B × List ℕ → Option (C × List ℕ)) → Leads g h more
    → Leads (both f g) (both f h) (behind_it more)
both-leads {A = A} {B = B} {C = C} f g h more leads bytes = first (f.read bytes)
  where
    second : (x : A) (r : Option (B × List ℕ))
        → ((r >>= more) >>= (λ y. some-of {A = (A × C) × List ℕ} ((x, y.0), y.1)))
        ≡ ((r >>= (λ y. some-of {A = (A × B) × List ℕ} ((x, y.0), y.1))) >>= behind_it more)
    second x None = refl
    second x (Some (y, rest)) = refl

    first : (r : Option (A × List ℕ))
        → (r >>= (λ x. g.read x.1 >>= (λ y. some-of {A = (A × C) × List ℕ} ((x.0, y.0), y.1))))
        ≡ ((r >>= (λ x. h.read x.1 >>= (λ y. some-of {A = (A × B) × List ℕ} ((x.0, y.0), y.1)))) >>= behind_it more)
    first None = refl
    first (Some (x, rest)) =
        ap (λ (r : Option (C × List ℕ)). r >>= (λ y. some-of {A = (A × C) × List ℕ} ((x, y.0), y.1))) (leads rest) ∙ second x (h.read rest)

marked-leads : {A B : Type 0} (mark : ℕ) (f : Form A) (g : Form B) (more : B × List ℕ → Option (A × List ℕ)) → Leads f g more
    → Leads (marked mark f) (marked mark g) more
marked-leads mark f g more leads bytes = on (behind_byte mark bytes)
  where
    on : (r : Option (List ℕ)) → (r >>= f.read) ≡ ((r >>= g.read) >>= more)
    on None = refl
    on (Some rest) = leads rest

-- ---- the fields

abbrev many : StandingValue → ℕ × List ℕ → Option (List Change × List ℕ)
many before n = so_many (changes before.set).read n.0 n.1

abbrev last_of : StandingValue → Front × List ℕ → Option (Fields × List ℕ)
last_of before = behind_it (behind_it (behind_it (behind_it (many before))))

abbrev all_changes : StandingValue → Form (List Change)
all_changes before = counted (changes before.set)

abbrev with_rows : StandingValue → Form (List RowValue × List Change)
with_rows before = both (counted (key_rows before.rows)) (all_changes before)

abbrev with_cut : StandingValue → Form (List ℕ × (List RowValue × List Change))
with_cut before = both (counted number_64) (with_rows before)

abbrev rows_front : StandingValue → Form (List RowValue × ℕ)
rows_front before = both (counted (key_rows before.rows)) number_32

fields-lead : (before : StandingValue) → Leads (edition_fields before) (edition_fronts before) (last_of before)
fields-lead before =
    let rows = both-leads (counted (key_rows before.rows)) (all_changes before) number_32 (many before) (λ bytes. refl) in
    let lists = both-leads (counted number_64) (with_rows before) (rows_front before) (behind_it (many before)) rows in
    let dated = both-leads number_64 (with_cut before) (front_lists before) (behind_it (behind_it (many before))) lists in
    marked-leads 1 (both number_64 (both number_64 (with_cut before))) (both number_64 (both number_64 (front_lists before))) (last_of before)
    (both-leads number_64 (both number_64 (with_cut before)) (both number_64 (front_lists before)) (behind_it (behind_it (behind_it (many before)))) dated)

-- ---- what they tell

abbrev after_fields : StandingValue → Option (Fields × List ℕ) → Option EditionValue
after_fields before r = (r >>= (λ z. edition_told before z.0 >>= (λ y. some-of {A = EditionValue × List ℕ} (y, z.1)))) >>= at_end

abbrev told_with : StandingValue → Front → Option (List Change × List ℕ) → Option EditionValue
told_with before x r = r >>= (λ ys. edition_told before (fields_with x ys.0) >>= (λ edition. at_end (edition, ys.1)))

-- The fields of so many changes, from those in front.
abbrev spread : Front → Option (List Change × List ℕ) → Option (Fields × List ℕ)
spread x r =
    (((r >>= (λ y. some-of {A = (List RowValue × List Change) × List ℕ} ((x.1.1.1.0, y.0), y.1)))
    >>= (λ y. some-of {A = (List ℕ × (List RowValue × List Change)) × List ℕ} ((x.1.1.0, y.0), y.1)))
    >>= (λ y. some-of {A = (ℕ × (List ℕ × (List RowValue × List Change))) × List ℕ} ((x.1.0, y.0), y.1)))
    >>= (λ y. some-of {A = Fields × List ℕ} ((x.0, y.0), y.1))

spread-told : (before : StandingValue) (x : Front) (r : Option (List Change × List ℕ)) → after_fields before (spread x r) ≡ told_with before x r
spread-told before x None = refl
spread-told before x (Some (all, rest)) = on (edition_told before (fields_with x all))
  where
    on : (o : Option EditionValue)
        → ((o >>= (λ y. some-of {A = EditionValue × List ℕ} (y, rest))) >>= at_end) ≡ (o >>= (λ edition. at_end (edition, rest)))
    on None = refl
    on (Some edition) = refl

-- What all of the bytes tell, where their front and so many changes are read.
whole : (before : StandingValue) (bytes : List ℕ) (x : Front) (rest : List ℕ) (r : Option (List Change × List ℕ)) → length bytes < 2 ^ 32
    → (edition_fronts before).read bytes ≡ Some (x, rest) → so_many (changes before.set).read x.1.1.1.1 rest ≡ r
    → read_whole (editions before) bytes ≡ told_with before x r
unfolding editions
whole before bytes x rest r short first more =
    ap (λ (b : Bool). cond b (after_fields before ((edition_fields before).read bytes)) None) (lt-ltb (length bytes) (2 ^ 32) short)
    ∙ ap (after_fields before)
    (fields-lead before bytes ∙ ap (λ (q : Option (Front × List ℕ)). q >>= last_of before) first ∙ ap (spread x) more)
    ∙ spread-told before x r

-- ---- what isn't told

abbrev none_of : Option EditionValue
none_of = None

both-none : (b : Bool) (r : Option EditionValue) → r ≡ none_of → cond b r None ≡ none_of
both-none true r e = e
both-none false r e = refl

pub front-fails : {X : Type 0} (view : X → Front × List ℕ) (before stands : StandingValue) (bytes : List ℕ) (fault : ReadFault) → stands ≡ before
    → Gives view (Err fault) ((edition_fronts stands).read bytes)
    → Gives {X = ReadEdition} edition_value (Err fault) (read_whole (editions before) bytes)
unfolding editions
front-fails view before stands bytes Bad same e =
    both-none (ltb (length bytes) (2 ^ 32)) (after_fields before ((edition_fields before).read bytes))
    (ap (after_fields before)
    (fields-lead before bytes ∙ ap (λ (q : Option (Front × List ℕ)). q >>= last_of before) (ap (λ (s : StandingValue). (edition_fronts s).read bytes) (sym same) ∙ e)))
front-fails view before stands bytes Memory same e = tt

not-risen : (may up : Bool) (edition : EditionValue) (end : List ℕ) → (up ≡ true → ⊥)
    → (cond (may && up) (some-of edition) None >>= (λ edition. at_end (edition, end))) ≡ none_of
not-risen may true edition end falls = absurd (falls refl)
not-risen true false edition end falls = refl
not-risen false false edition end falls = refl

pub changes-fail : (before : StandingValue) (bytes : List ℕ) (x : Front) (rest : List ℕ) (fault : ReadFault) → length bytes < 2 ^ 32
    → (edition_fronts before).read bytes ≡ Some (x, rest) → AreNone before.set x.1.1.1.1 rest fault
    → Gives {X = ReadEdition} edition_value (Err fault) (read_whole (editions before) bytes)
changes-fail before bytes x rest Bad short first none =
    let read = so_many (changes before.set).read x.1.1.1.1 rest in
    whole before bytes x rest read short first refl ∙ choose read refl
  where
    choose : (r : Option (List Change × List ℕ)) → so_many (changes before.set).read x.1.1.1.1 rest ≡ r → told_with before x r ≡ none_of
    choose None e = refl
    choose (Some (all, end)) e =
        let edition = edition_of (fields_with x all) in
        not-risen (is_next before.serial edition.serial && is_dated before.moment edition.moment && is_cut before.cut edition.cut && are_live edition.moment edition.rows)
        (uris_rise all) edition end (λ up. none all end e up)
changes-fail before bytes x rest Memory short first none = tt

-- ---- what is told

pub told-fails : (before : StandingValue) (bytes : List ℕ) (x : Front) (rest : List ℕ) (all : List Change) (end : List ℕ) (fault : ReadFault)
    → length bytes < 2 ^ 32 → (edition_fronts before).read bytes ≡ Some (x, rest)
    → so_many (changes before.set).read x.1.1.1.1 rest ≡ Some (all, end)
    → Gives {X = ReadEdition} edition_value (Err fault) (edition_told before (fields_with x all))
    → Gives {X = ReadEdition} edition_value (Err fault) (read_whole (editions before) bytes)
told-fails before bytes x rest all end Bad short first more e =
    whole before bytes x rest (Some (all, end)) short first more ∙ ap (λ (o : Option EditionValue). o >>= (λ edition. at_end (edition, end))) e
told-fails before bytes x rest all end Memory short first more e = tt

pub told-whole : (before : StandingValue) (bytes : List ℕ) (x : Front) (rest : List ℕ) (all : List Change) (end : List ℕ) (edition : EditionValue)
    → length bytes < 2 ^ 32 → (edition_fronts before).read bytes ≡ Some (x, rest)
    → so_many (changes before.set).read x.1.1.1.1 rest ≡ Some (all, end)
    → edition_told before (fields_with x all) ≡ Some edition → read_whole (editions before) bytes ≡ at_end (edition, end)
told-whole before bytes x rest all end edition short first more e =
    whole before bytes x rest (Some (all, end)) short first more ∙ ap (λ (o : Option EditionValue). o >>= (λ edition. at_end (edition, end))) e

-- Whether bytes are left.
pub none-left : (edition : EditionValue) (end : List ℕ) (empty : Bool) → empty ≡ (length end == 0) → empty ≡ false → at_end (edition, end) ≡ none_of
none-left edition [] empty is left = absurd cc
none-left edition (b ∷ end) empty is left = refl

pub at-the-end : (edition : EditionValue) (end : List ℕ) (empty : Bool) → empty ≡ (length end == 0) → empty ≡ true → at_end (edition, end) ≡ some-of edition
at-the-end edition [] empty is done = refl
at-the-end edition (b ∷ end) empty is done =
    absurd (let long = eqb-true (length (b ∷ end)) 0 (sym is ∙ done) in omega (arith, long))

-- Its changes are those that were read.
pub told-changes : (before : StandingValue) (x : Front) (all : List Change) (edition : EditionValue) → edition_told before (fields_with x all) ≡ Some edition
    → all ≡ edition.changes
told-changes before x all edition e =
    ap (λ (y : EditionValue). y.changes) (passed (may_follow before (edition_of (fields_with x all))) (edition_of (fields_with x all)) edition e).1
