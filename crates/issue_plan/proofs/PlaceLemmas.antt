-- Where the ROAs of owed origins stand.
use Rattle.std.proofs.Common.{◌≡◌, ℕ, suc, ◌+◌, ◌<◌, ◌⊎◌, inl, inr, Option, None, Some, List, [], ◌∷◌, ◌++◌, length, map, get_or, set, replicate, refl, sym, ap, ap₂, subst, ◌≤◌, ◌∙◌, arith}
use Rattle.std.specs.Prelude.{slice_get, option_map, option_and_then}
use Rattle.std.specs.Ordering.{on}
use Rattle.std.proofs.lemmas.Map.Keys.{Less-from_sorted}
use Rattle.std.specs.List.{filter_map, flat_map, cons_option}
use Rattle.std.proofs.lemmas.List.{get_or_default, get_or-set_same, get_or-set_other, length-set, get_or-replicate, length-replicate}
use Rattle.std.proofs.lemmas.List.Elements.{filter_map-append}
use Rattle.std.proofs.lemmas.Bool.{cases_eq, cases_lt, false≢true, and_parts, eqb-true}
use Rattle.std.proofs.lemmas.Option.{slice_get_within, get_or_from_slice_get}
use Rattle.std.specs.Prelude.{true, false, ◌==◌, ◌&&◌}
use Rattle.std.specs.Option.{option_map_or}
use Rattle.origins.specs.declared.Origin.{Origin}
use Rattle.key_roll.specs.declared.issued.What.TheVariants.{Route}
use Rattle.issue_plan.specs.ByName.{IsRoaUri, StandByName}
use Rattle.issue_plan.specs.Serves.{is_same_origin}
use Rattle.issue_plan.specs.laws.SameLaws.{origin-is}
use Rattle.issue_plan.specs.inner.Groups.{IsFileOf, IsGroup}
use Rattle.issue_plan.proofs.GroupLemmas.{name-once}
use Rattle.authority_book.specs.declared.rows.NameRow.{NameRow}
use Rattle.authority_book.specs.Settings.{Settings}
use Rattle.entitle.specs.declared.trees.Owed.{Owed}
use Rattle.entitle.specs.Certified.{names_of}
use Rattle.key_ids.specs.Uris.{folder_of, file_uri}
use Rattle.pub_set.specs.Objects.{Rise, uri_cmp}
use Rattle.pub_set.specs.laws.UriLaws.{same_self, other_below}
use Rattle.key_roll.specs.declared.issued.IssuedRow.{IssuedRow}
use Rattle.issue_plan.specs.declared.anew.Standing.{Standing}
use Rattle.issue_plan.specs.Uris.{owed_uris, roa_uris, roa_file}
use Rattle.issue_plan.specs.inner.Positions.{position_in}
use Rattle.issue_plan.proofs.PositionLemmas.{first-there}
use Rattle.issue_plan.specs.inner.OwedPlaces.{folder_at, owed_place, owed_position, owed_positions, is_that, IsPlaceIn, IsNoted, AreNoted}

-- Nothing is noted yet.
pub none-noted : (s : Standing) (owed : List Owed) (noted : List (Option ℕ))
    → noted ≡ replicate (length owed) None → AreNoted s owed noted
none-noted s owed noted all = record {
  long = ap length all ∙ length-replicate (length owed) None;
  each = λ i d inside position is.
      let here : get_or noted i None ≡ None =
      ap (λ (l : List (Option ℕ)). get_or l i None) all ∙ get_or-replicate (length owed) i None None inside in
      let no : None ≡ Some position = sym here ∙ is in absurd cc;
}

-- One more is noted.
pub one-noted : (s : Standing) (owed : List Owed) (noted : List (Option ℕ)) (index position : ℕ)
    → index < length owed → ((d : Owed) → owed_position s (get_or owed index d) ≡ Some position)
    → AreNoted s owed noted → AreNoted s owed (set noted index (Some position))
one-noted s owed noted index position inside stands are = record {
  long = length-set noted index (Some position) ∙ are.long;
  each = λ i d within at is. by i d within at is (cases_eq i index);
}
  where
    by : (i : ℕ) (d : Owed) → i < length owed → (at : ℕ)
        → get_or (set noted index (Some position)) i None ≡ Some at
        → (i ≡ index) ⊎ (i ≡ index → ⊥) → owed_position s (get_or owed i d) ≡ Some at
    by i d within at is (inl same) =
        let here : get_or (set noted index (Some position)) i None ≡ Some position =
        ap (λ k. get_or (set noted index (Some position)) k None) same
        ∙ get_or-set_same noted index (Some position) None (omega (arith, inside, are.long)) in
        ap (λ k. owed_position s (get_or owed k d)) same ∙ (stands d ∙ (sym here ∙ is))
    by i d within at is (inr other) =
        are.each i d within at (sym (get_or-set_other noted index i (Some position) None other) ∙ is)

-- What is found of owed origins is found of their places.
of-place : (s : Standing) (names : List NameRow) (owed : Owed) (name : Option NameRow) (rest : List ℕ)
    → cons_option (option_and_then (position_in s.issued.now)
    (option_map (λ (row : NameRow). file_uri s.site.now row.name (roa_file owed.origin)) name)) rest
    ≡ filter_map (position_in s.issued.now) (roa_uris s.site.now owed.origin name) ++ rest
of-place s names owed None rest = refl
of-place s names owed (Some row) rest =
    found (position_in s.issued.now (file_uri s.site.now row.name (roa_file owed.origin)))
  where
    found : (position : Option ℕ) → cons_option position rest ≡ cons_option position [] ++ rest
    found None = refl
    found (Some n) = refl

pub found-places : (s : Standing) (configs : List Settings) → s.names.now ≡ names_of configs → (owed : List Owed)
    → filter_map (λ p. p) (owed_positions s owed)
    ≡ filter_map (position_in s.issued.now) (flat_map (owed_uris s.site.now configs) owed)
found-places s configs are [] = refl
found-places s configs are (each ∷ owed) =
    ap (cons_option (owed_position s each)) (found-places s configs are owed)
    ∙ (of-place s s.names.now each (slice_get s.names.now each.desk)
    (filter_map (position_in s.issued.now) (flat_map (owed_uris s.site.now configs) owed))
    ∙ (ap (λ (names : List NameRow). filter_map (position_in s.issued.now)
    (roa_uris s.site.now each.origin (slice_get names each.desk))
    ++ filter_map (position_in s.issued.now) (flat_map (owed_uris s.site.now configs) owed)) are
    ∙ sym (filter_map-append (position_in s.issued.now) (owed_uris s.site.now configs each)
    (flat_map (owed_uris s.site.now configs) owed))))

-- The place of an owed origin in the folder of its desk.
pub place-in : (s : Standing) (owed : Owed) (desk : ℕ) (folder uri : List ℕ)
    → folder_at s.site.now s.names.now desk ≡ Some folder → owed.desk ≡ desk
    → uri ≡ folder ++ roa_file owed.origin
    → owed_place s.site.now s.names.now owed ≡ Some uri
place-in s owed desk folder uri is same at = by (slice_get s.names.now owed.desk)
    (ap (folder_at s.site.now s.names.now) same ∙ is)
  where
    by : (name : Option NameRow) → option_map (λ (row : NameRow). folder_of s.site.now row.name) name ≡ Some folder
        → option_map (λ (row : NameRow). file_uri s.site.now row.name (roa_file owed.origin)) name ≡ Some uri
    by None wrong = absurd cc
    by (Some row) here =
        let there : folder_of s.site.now row.name ≡ folder = cc here in
        ap (λ (l : List ℕ). Some (l ++ roa_file owed.origin)) there ∙ ap (λ (l : List ℕ). Some l) (sym at)

-- Each row stands at its own position.
pub own-position : (issued : List IssuedRow) (i : ℕ) (d : IssuedRow) → Rise (λ row. row.uri) issued → i < length issued
    → position_in issued (get_or issued i d).uri ≡ Some i
own-position issued i d up inside =
    first-there issued (get_or issued i d).uri i d inside (same_self (get_or issued i d).uri)
    (λ k e less. other_below (get_or issued k e).uri (get_or issued i d).uri
    (ap (λ (r : IssuedRow). uri_cmp (get_or issued k e).uri r.uri) (get_or_default issued i d e inside)
    ∙ Less-from_sorted (on (λ (r : IssuedRow). r.uri) uri_cmp) issued k i e up less inside))

-- ---- ROAs that stand by name

-- One that stands in the desk's folder is at the place of the desk's origin.
place-named : (s : Standing) (desk : ℕ) (row : IssuedRow) → IsFileOf s desk row.uri
    → ((origin : Origin) → row.what ≡ Route origin → IsRoaUri s.site.now origin row.uri) → IsPlaceIn s desk row
place-named s desk row file stands = λ origin is.
    let here = stands origin is in
    let same : file.row.name ≡ here.name =
    name-once s.site.now file.row.name here.name file.rest (roa_file origin) file.named here.is_name (sym file.is ∙ here.is) in
    ap (option_map (λ (r : NameRow). file_uri s.site.now r.name (roa_file origin))) file.at
    ∙ ap (λ (l : List ℕ). Some l) (ap (λ (l : List ℕ). file_uri s.site.now l (roa_file origin)) same ∙ sym here.is)

pub group-place : (s : Standing) (desk first end i : ℕ) (d : IssuedRow) → StandByName s.site.now s.issued.now
    → IsGroup s desk first end → first ≤ i → i < end → IsPlaceIn s desk (get_or s.issued.now i d)
group-place s desk first end i d stand group after before =
    place-named s desk (get_or s.issued.now i d) (group.each i d after before)
    (stand.roas i d (let within = group.within in omega (arith, before, within)))

-- The origin that a row was guessed to be of, and where its ROA stands.
pub that-each : (owed : List Owed) (index desk : ℕ) (origin : Origin) → is_that owed index desk origin ≡ true
    → (index < length owed) × ((d : Owed) → get_or owed index d ≡ record { desk = desk; origin = origin })
that-each owed index desk origin that = by (slice_get owed index) refl that
  where
    by : (o : Option Owed) → slice_get owed index ≡ o
        → option_map_or (λ (each : Owed). (each.desk == desk) && is_same_origin each.origin origin) o false ≡ true
        → (index < length owed) × ((d : Owed) → get_or owed index d ≡ record { desk = desk; origin = origin })
    by None is so = absurd (false≢true so)
    by (Some each) is so =
        let parts = and_parts (each.desk == desk) (is_same_origin each.origin origin) so in
        let same : each ≡ record { desk = desk; origin = origin } = whole (eqb-true each.desk desk parts.0) (origin-is each.origin origin parts.1) in
        (slice_get_within owed index each is, λ d. get_or_from_slice_get owed index each d is ∙ same)
      where
        whole : each.desk ≡ desk → each.origin ≡ origin → each ≡ record { desk = desk; origin = origin }
        whole a b = λ i. record { desk = a i; origin = b i }

pub that-place : (s : Standing) (owed : List Owed) (index desk position : ℕ) (origin : Origin) (row : IssuedRow)
    → is_that owed index desk origin ≡ true → row.what ≡ Route origin → IsPlaceIn s desk row
    → position_in s.issued.now row.uri ≡ Some position
    → (d : Owed) → owed_position s (get_or owed index d) ≡ Some position
that-place s owed index desk position origin row that what place at d =
    ap (owed_position s) ((that-each owed index desk origin that).1 d)
    ∙ (ap (option_and_then (position_in s.issued.now)) (place origin what) ∙ at)

-- What is noted at an index is the position of what stands at its owed origin's place.
pub noted-at : (s : Standing) (owed : List Owed) (noted : List (Option ℕ)) (index : ℕ) (each : Owed) (here : Option ℕ)
    → AreNoted s owed noted → index < length owed → each ≡ get_or owed index each → here ≡ get_or noted index here
    → IsNoted s each here
noted-at s owed noted index each here are inside is-each is-here =
    λ position is. ap (owed_position s) is-each
    ∙ are.each index each inside position
    (get_or_default noted index None here (omega (arith, inside, are.long)) ∙ (sym is-here ∙ is))

-- The positions of what stands at the places of the first owed origins are all known, those of others where they are noted.
pub record AreFilled (s : Standing) (owed : List Owed) (positions : List (Option ℕ)) (n : ℕ) : Type 0 where
  pub noted : AreNoted s owed positions
  pub filled : (i : ℕ) (d : Owed) → i < n → get_or positions i None ≡ owed_position s (get_or owed i d)

pub none-filled : (s : Standing) (owed : List Owed) (positions : List (Option ℕ))
    → AreNoted s owed positions → AreFilled s owed positions 0
none-filled s owed positions are = record { noted = are; filled = λ i d below. absurd (omega (arith, below)) }

-- One more is known.
pub one-filled : (s : Standing) (owed : List Owed) (positions : List (Option ℕ)) (index : ℕ) (each : Owed) (here : Option ℕ)
    → index < length owed → each ≡ get_or owed index each → here ≡ owed_position s each
    → AreFilled s owed positions index → AreFilled s owed (set positions index here) (index + 1)
one-filled s owed positions index each here inside is-each is-here are = record {
  noted = record {
    long = length-set positions index here ∙ are.noted.long;
    each = λ i d within at is. by i d within at is (cases_eq i index);
  };
  filled = λ i d below. before i d below (cases_eq i index);
}
  where
    set-here : get_or (set positions index here) index None ≡ here
    set-here = get_or-set_same positions index here None (let long = are.noted.long in omega (arith, inside, long))

    that : (d : Owed) → here ≡ owed_position s (get_or owed index d)
    that d = is-here ∙ ap (owed_position s) (is-each ∙ get_or_default owed index each d inside)

    by : (i : ℕ) (d : Owed) → i < length owed → (at : ℕ) → get_or (set positions index here) i None ≡ Some at
        → (i ≡ index) ⊎ (i ≡ index → ⊥) → owed_position s (get_or owed i d) ≡ Some at
    by i d within at is (inl same) =
        ap (λ k. owed_position s (get_or owed k d)) same
        ∙ (sym (that d) ∙ (sym set-here ∙ (sym (ap (λ k. get_or (set positions index here) k None) same) ∙ is)))
    by i d within at is (inr other) =
        are.noted.each i d within at (sym (get_or-set_other positions index i here None other) ∙ is)

    before : (i : ℕ) (d : Owed) → i < index + 1 → (i ≡ index) ⊎ (i ≡ index → ⊥)
        → get_or (set positions index here) i None ≡ owed_position s (get_or owed i d)
    before i d below (inl same) =
        ap (λ k. get_or (set positions index here) k None) same
        ∙ (set-here ∙ (that d ∙ ap (λ k. owed_position s (get_or owed k d)) (sym same)))
    before i d below (inr other) =
        get_or-set_other positions index i here None other
        ∙ are.filled i d (by-cases (cases_lt i index))
      where
        by-cases : (i < index) ⊎ (index ≤ i) → i < index
        by-cases (inl less) = less
        by-cases (inr over) =
            let same : i ≡ index = omega (arith, over, below) in absurd (other same)

each-known : (f : Owed → Option ℕ) (owed : List Owed) (positions : List (Option ℕ)) → length positions ≡ length owed
    → ((i : ℕ) (d : Owed) → i < length owed → get_or positions i None ≡ f (get_or owed i d))
    → positions ≡ map f owed
each-known f [] [] long each = refl
each-known f [] (x ∷ positions) long each = absurd (omega (arith, long))
each-known f (o ∷ owed) [] long each = absurd (omega (arith, long))
each-known f (o ∷ owed) (x ∷ positions) long each =
    ap₂ (λ (a : Option ℕ) (l : List (Option ℕ)). a ∷ l) (each 0 o (omega arith))
    (each-known f owed positions (omega (arith, long)) (λ i d inside. each (suc i) d (omega (arith, inside))))

pub all-filled : (s : Standing) (owed : List Owed) (positions : List (Option ℕ)) (n : ℕ) → length owed ≤ n
    → AreFilled s owed positions n → positions ≡ owed_positions s owed
all-filled s owed positions n all are =
    each-known (owed_position s) owed positions are.noted.long (λ i d inside. are.filled i d (omega (arith, all, inside)))

-- What holds of all rows before one, and of that one.
pub named-more : (P : IssuedRow → Type 0) (issued : List IssuedRow) (i : ℕ) (row : IssuedRow) → i < length issued
    → row ≡ get_or issued i row → ((k : ℕ) (d : IssuedRow) → k < i → P (get_or issued k d)) → P row
    → (k : ℕ) (d : IssuedRow) → k < i + 1 → P (get_or issued k d)
named-more P issued i row inside is all here k d below = by (cases_lt k i)
  where
    by : (k < i) ⊎ (i ≤ k) → P (get_or issued k d)
    by (inl less) = all k d less
    by (inr over) =
        let same : i ≡ k = omega (arith, over, below) in
        subst P (is ∙ (get_or_default issued i row d inside ∙ ap (λ n. get_or issued n d) same)) here
