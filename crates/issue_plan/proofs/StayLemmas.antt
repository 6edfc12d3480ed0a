-- What is known to stay.
use Rattle.std.proofs.Common.{◌≡◌, ℕ, zero, suc, map, ◌+◌, ◌<◌, ◌⊎◌, inl, inr, Option, None, Some, Bool, true, false, cond, List, [], ◌∷◌, ◌++◌, length, get_or, set, take, replicate, append_assoc, refl, sym, ap, subst, ◌∙◌, arith}
use Rattle.std.specs.Prelude.{slice_get, option_map, option_and_then, filter, is_none}
use Rattle.std.specs.List.{filter_map, cons_option}
use Rattle.std.proofs.lemmas.Bool.{cases_eq, false≢true}
use Rattle.std.proofs.lemmas.List.{take_more, get_or_default, get_or-set_same, get_or-set_other, length-set, get_or-replicate, length-replicate, append-nil}
use Rattle.std.proofs.lemmas.List.Elements.{filter-append, filter_map-append}
use Rattle.authority_book.specs.declared.rows.NameRow.{NameRow}
use Rattle.entitle.specs.declared.trees.Owed.{Owed}
use Rattle.key_ids.specs.Uris.{file_uri}
use Rattle.key_roll.specs.declared.issued.IssuedRow.{IssuedRow}
use Rattle.key_roll.specs.declared.work.KeyName.{KeyName}
use Rattle.key_roll.specs.declared.work.RoaWork.{RoaWork}
use Rattle.issue_plan.specs.declared.anew.Standing.{Standing}
use Rattle.issue_plan.specs.declared.keys.NextKey.{NextKey}
use Rattle.issue_plan.specs.declared.live.LiveKey.{LiveKey}
use Rattle.issue_plan.specs.declared.roas.Issuer.{Issuer}
use Rattle.issue_plan.specs.Serves.{serves_roa}
use Rattle.issue_plan.specs.Uris.{roa_file}
use Rattle.issue_plan.specs.Wanted.{current_of, roa_by, roa_of, wanted_roas}
use Rattle.issue_plan.specs.inner.Live.{live_at}
use Rattle.issue_plan.specs.inner.Positions.{position_in, serving_at}
use Rattle.issue_plan.specs.inner.Anew.{kept_roa}
use Rattle.issue_plan.specs.inner.OwedPlaces.{owed_place, owed_position, owed_positions, IsIssuer, IsServing, IsStaying, AreStaying}
use Rattle.issue_plan.proofs.OwedLemmas.{kept-owed}

-- Nothing is known to stay yet.
pub none-staying : (s : Standing) (keys : List NextKey) (settled : List LiveKey) (owed : List Owed) (stay : List Bool)
    → stay ≡ replicate (length owed) false → AreStaying s keys settled owed stay
none-staying s keys settled owed stay all = record {
  long = ap length all ∙ length-replicate (length owed) false;
  each = λ i d inside is.
      absurd (false≢true (sym (ap (λ (l : List Bool). get_or l i false) all ∙ get_or-replicate (length owed) i false false inside) ∙ is));
}

-- One mark is set anew.
pub one-staying : (s : Standing) (keys : List NextKey) (settled : List LiveKey) (owed : List Owed) (stay : List Bool)
    (index : ℕ) (mark : Bool)
    → (mark ≡ true → (d : Owed) → IsStaying s keys settled (get_or owed index d))
    → AreStaying s keys settled owed stay → AreStaying s keys settled owed (set stay index mark)
one-staying s keys settled owed stay index mark stays are = record {
  long = length-set stay index mark ∙ are.long;
  each = λ i d within is. by i d within is (cases_eq i index);
}
  where
    by : (i : ℕ) (d : Owed) → i < length owed → get_or (set stay index mark) i false ≡ true
        → (i ≡ index) ⊎ (i ≡ index → ⊥) → IsStaying s keys settled (get_or owed i d)
    by i d within is (inl same) =
        let here : get_or (set stay index mark) i false ≡ mark =
        ap (λ k. get_or (set stay index mark) k false) same
        ∙ get_or-set_same stay index mark false (let long = are.long in omega (arith, within, same, long)) in
        subst (λ k. IsStaying s keys settled (get_or owed k d)) (sym same) (stays (sym here ∙ is) d)
    by i d within is (inr other) =
        are.each i d within (sym (get_or-set_other stay index i mark false other) ∙ is)

-- A row that serves stays.
pub serving-stays : (s : Standing) (keys : List NextKey) (settled : List LiveKey) (issuer : Issuer) (owed : Owed)
    (row : IssuedRow) (position : ℕ)
    → IsIssuer keys settled issuer → issuer.desk ≡ owed.desk
    → owed_place s.site.now s.names.now owed ≡ Some row.uri
    → position_in s.issued.now row.uri ≡ Some position → slice_get s.issued.now position ≡ Some row
    → IsServing s.moment issuer owed row → IsStaying s keys settled owed
serving-stays s keys settled issuer owed row position is desk place at stands serving = record {
  roa = roa;
  wanted = ap (roa_by owed) (ap (current_of keys) (sym desk) ∙ (sym is.name ∙ serving.named));
  position = position;
  at = here;
  kept = by (slice_get s.names.now owed.desk) refl;
}
  where
    roa : RoaWork
    roa = record { issuer = serving.name; origin = owed.origin }

    here : owed_position s owed ≡ Some position
    here = ap (option_and_then (position_in s.issued.now)) place ∙ at

    live : live_at settled serving.name ≡ Some serving.key
    live = sym (ap (option_and_then (live_at settled)) serving.named) ∙ (sym is.key ∙ serving.settled)

    by : (name : Option NameRow) → slice_get s.names.now owed.desk ≡ name → kept_roa s settled roa ≡ Some position
    by None named =
        let no : None ≡ Some row.uri =
        sym (ap (option_map (λ (r : NameRow). file_uri s.site.now r.name (roa_file owed.origin))) named) ∙ place in
        absurd cc
    by (Some name) named =
        kept-owed s settled roa owed serving.key name live refl serving.desk named
        ∙ (ap (option_and_then (λ p. serving_at (serves_roa s.moment roa) p (slice_get s.issued.now p))) here
        ∙ (ap (serving_at (serves_roa s.moment roa) position) stands
        ∙ ap (λ (b : Bool). cond b (Some position) None) serving.serves))

-- ---- as they are sorted

pub some-owed : (owed : List Owed) (i : ℕ) → i < length owed → Owed
some-owed [] i inside = absurd (omega (arith, inside))
some-owed (each ∷ owed) i inside = each

pub stays-at : (s : Standing) (keys : List NextKey) (settled : List LiveKey) (owed : List Owed) (stay : List Bool) (i : ℕ)
    (b : Bool) (d : Owed)
    → AreStaying s keys settled owed stay → i < length owed → get_or stay i b ≡ true
    → IsStaying s keys settled (get_or owed i d)
stays-at s keys settled owed stay i b d are inside is =
    are.each i d inside (get_or_default stay i false b (let long = are.long in omega (arith, inside, long)) ∙ is)

map-at : (f : Owed → Option ℕ) (owed : List Owed) (i : ℕ) (d : Owed) (e : Option ℕ) → i < length owed
    → get_or (map f owed) i e ≡ f (get_or owed i d)
map-at f [] i d e inside = absurd (omega (arith, inside))
map-at f (each ∷ owed) zero d e inside = refl
map-at f (each ∷ owed) (suc i) d e inside = map-at f owed i d e (omega (arith, inside))

pub found-at : (s : Standing) (owed : List Owed) (found : List (Option ℕ)) (i : ℕ) (d : Owed) (e : Option ℕ)
    → found ≡ owed_positions s owed → i < length owed → get_or found i e ≡ owed_position s (get_or owed i d)
found-at s owed found i d e are inside =
    ap (λ (l : List (Option ℕ)). get_or l i e) are ∙ map-at (owed_position s) owed i d e inside

-- One owed origin more, of which what stands at its place stays.
more-wanted : (keys : List NextKey) (owed : List Owed) (i : ℕ) (each : Owed) (roa : RoaWork)
    → i < length owed → each ≡ get_or owed i each → roa_of keys each ≡ Some roa
    → wanted_roas keys (take (i + 1) owed) ≡ wanted_roas keys (take i owed) ++ roa ∷ []
more-wanted keys owed i each roa inside is wanted =
    ap (wanted_roas keys) (take_more owed i each inside ∙ ap (λ (o : Owed). take i owed ++ o ∷ []) (sym is))
    ∙ (filter_map-append (roa_of keys) (take i owed) (each ∷ [])
    ∙ ap (λ (o : Option RoaWork). wanted_roas keys (take i owed) ++ cons_option o []) wanted)

pub anew-staying : (s : Standing) (keys : List NextKey) (settled : List LiveKey) (owed : List Owed) (i : ℕ) (each : Owed)
    (anew : List RoaWork)
    → i < length owed → each ≡ get_or owed i each → IsStaying s keys settled each
    → anew ≡ filter (λ roa. is_none (kept_roa s settled roa)) (wanted_roas keys (take i owed))
    → anew ≡ filter (λ roa. is_none (kept_roa s settled roa)) (wanted_roas keys (take (i + 1) owed))
anew-staying s keys settled owed i each anew inside is stays was =
    let p : RoaWork → Bool = λ roa. is_none (kept_roa s settled roa) in
    let none : filter p (stays.roa ∷ []) ≡ [] =
    ap (λ (k : Option ℕ). cond (is_none k) (stays.roa ∷ []) []) stays.kept in
    was ∙ sym (ap (filter p) (more-wanted keys owed i each stays.roa inside is stays.wanted)
    ∙ (filter-append p (wanted_roas keys (take i owed)) (stays.roa ∷ [])
    ∙ (ap (λ (l : List RoaWork). filter p (wanted_roas keys (take i owed)) ++ l) none
    ∙ append-nil (filter p (wanted_roas keys (take i owed))))))

pub kept-staying : (s : Standing) (keys : List NextKey) (settled : List LiveKey) (owed : List Owed) (i : ℕ) (each : Owed)
    (found : Option ℕ) (first old new : List ℕ)
    → i < length owed → each ≡ get_or owed i each → IsStaying s keys settled each
    → found ≡ owed_position s each
    → old ≡ first ++ filter_map (kept_roa s settled) (wanted_roas keys (take i owed))
    → new ≡ old ++ cons_option found []
    → new ≡ first ++ filter_map (kept_roa s settled) (wanted_roas keys (take (i + 1) owed))
kept-staying s keys settled owed i each found first old new inside is stays at was put =
    let kept = kept_roa s settled in
    let before = filter_map kept (wanted_roas keys (take i owed)) in
    let one : cons_option found [] ≡ filter_map kept (stays.roa ∷ []) =
    ap (λ (o : Option ℕ). cons_option o []) (at ∙ (stays.at ∙ sym stays.kept)) in
    put ∙ (ap (λ (l : List ℕ). l ++ cons_option found []) was
    ∙ (append_assoc first before (cons_option found [])
    ∙ ap (λ (l : List ℕ). first ++ l)
    (ap (λ (l : List ℕ). before ++ l) one
    ∙ (sym (filter_map-append kept (wanted_roas keys (take i owed)) (stays.roa ∷ []))
    ∙ ap (filter_map kept) (sym (more-wanted keys owed i each stays.roa inside is stays.wanted))))))
