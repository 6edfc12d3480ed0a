-- Lists of origins and of ranges, read one after another.
use Rattle.std.proofs.Common.{◌≡◌, ℕ, suc, ◌+◌, ◌-◌, ◌<◌, List, [], ◌∷◌, ◌++◌, length, drop, refl, sym, ap, subst, ◌∙◌, append_assoc, append-nil, length-append, arith}
use Rattle.std.specs.List.{flat_map}
use Rattle.origins.specs.declared.Origin.{Origin}
use Rattle.res_sets.specs.declared.numbers.Family.{Family}
use Rattle.res_sets.specs.declared.numbers.Range.{Range}
use Rattle.res_sets.specs.Merging.{room_from}
use Rattle.res_sets.specs.Sets.{RangeSet, IsCanonical, GoesBehind, no_numbers, with_range}
use Rattle.std.proofs.lemmas.Bool.{false≢true}
use Rattle.res_sets.specs.laws.SetLaws.{canonical_with}
use Rattle.cmd_codec.specs.declared.faults.RecordFault.{RecordFault}
use Rattle.cmd_codec.specs.Spelling.{origin_spelling, range_spelling}
use Rattle.cmd_codec.specs.Fault.{Place, Way, and_then, field, front_128, is_origin, is_range, origin_fields, range_fields}
use Rattle.cmd_codec.specs.Fault.Way.{Behind}
use Rattle.cmd_codec.specs.Outcome.{IsFaultOf, Passes}
use Rattle.cmd_codec.proofs.Ways.{fault_first, fault_alike}

pub flat_push : {A : Type 0} (f : A → List ℕ) (xs : List A) (x : A) → flat_map f (xs ++ x ∷ []) ≡ flat_map f xs ++ f x
flat_push f [] x = append-nil (f x)
flat_push f (y ∷ xs) x = ap (λ (t : List ℕ). f y ++ t) (flat_push f xs x) ∙ sym (append_assoc (f y) (flat_map f xs) (f x))

-- one more behind those that are read
spelled_more : {A : Type 0} (f : A → List ℕ) (xs : List A) (x : A) (start here there : List ℕ) → start ≡ flat_map f xs ++ here → here ≡ f x ++ there → start ≡ flat_map f (xs ++ x ∷ []) ++ there
spelled_more f xs x start here there before next =
    before ∙ ap (λ (t : List ℕ). flat_map f xs ++ t) next ∙ sym (append_assoc (flat_map f xs) (f x) there)
    ∙ ap (λ (t : List ℕ). t ++ there) (sym (flat_push f xs x))

pub record OriginsSoFar (start here : Place) (count : ℕ) (items : List Origin) : Type 0 where
  pub way : (n : ℕ) → origin_fields (n + count) start ≡ origin_fields n here
  pub spelled : start.left ≡ flat_map origin_spelling items ++ here.left
  pub size : length items ≡ count

pub no_origins : (start : Place) → OriginsSoFar start start 0 []
no_origins start = record {
  way = λ n. let e : n + 0 ≡ n = omega arith in ap (λ (m : ℕ). origin_fields m start) e;
  spelled = refl;
  size = refl;
}

one_origin : (n : ℕ) (here : Place) → origin_fields (suc n) here ≡ and_then (field 23 is_origin here) (origin_fields n)
unfolding origin_fields
one_origin n here = refl

pub more_origins : (start here there : Place) (count : ℕ) (items : List Origin) (o : Origin) → OriginsSoFar start here count items
    → Passes (origin_spelling o) (field 23 is_origin) here there → OriginsSoFar start there (count + 1) (items ++ o ∷ [])
more_origins start here there count items o so_far passes = record {
  way = λ n.
      let e : n + (count + 1) ≡ suc n + count = omega arith in
      ap (λ (m : ℕ). origin_fields m start) e ∙ so_far.way (suc n) ∙ one_origin n here ∙ ap (λ (w : Way). and_then w (origin_fields n)) passes.behind;
  spelled = spelled_more origin_spelling items o start.left here.left there.left so_far.spelled passes.spelled;
  size = omega (arith, length-append items (o ∷ []), so_far.size);
}

pub all_origins : (start here : Place) (count : ℕ) (items : List Origin) → OriginsSoFar start here count items → Passes (flat_map origin_spelling items) (origin_fields count) start here
unfolding origin_fields
all_origins start here count items so_far = record {
  behind = let e : count ≡ 0 + count = omega arith in ap (λ (m : ℕ). origin_fields m start) e ∙ so_far.way 0 ∙ none here;
  spelled = so_far.spelled;
}
  where
    none : (here : Place) → origin_fields 0 here ≡ Behind here
    none here = refl

pub bad_origin : (start here : Place) (done count : ℕ) (items : List Origin) (fault : RecordFault) → OriginsSoFar start here done items → done < count
    → IsFaultOf (field 23 is_origin here) fault → IsFaultOf (origin_fields count start) fault
bad_origin start here done count items fault so_far more bad =
    let n : ℕ = count - done - 1 in
    let e : count ≡ suc n + done = omega arith in
    fault_alike (origin_fields count start) (and_then (field 23 is_origin here) (origin_fields n)) fault
    (ap (λ (m : ℕ). origin_fields m start) e ∙ so_far.way (suc n) ∙ one_origin n here)
    (fault_first (field 23 is_origin here) (origin_fields n) fault bad)

pub record RangesSoFar (family : Family) (start here : Place) (count : ℕ) (set : RangeSet) : Type 0 where
  pub way : (n : ℕ) → range_fields family (n + count) 0 start ≡ range_fields family n (room_from 0 set.ranges) here
  pub spelled : start.left ≡ flat_map range_spelling set.ranges ++ here.left
  pub size : length set.ranges ≡ count
  pub family_is : set.family ≡ family
  pub canonical : IsCanonical set

none_canonical : (family : Family) → IsCanonical (no_numbers family)
none_canonical family = record { rise = tt; within = λ n has. absurd (false≢true has) }

pub no_ranges : (family : Family) (start : Place) (set : RangeSet) → set ≡ no_numbers family → RangesSoFar family start start 0 set
no_ranges family start set is = subst (λ (s : RangeSet). RangesSoFar family start start 0 s) (sym is) (record {
  way = λ n. let e : n + 0 ≡ n = omega arith in ap (λ (m : ℕ). range_fields family m 0 start) e;
  spelled = refl;
  size = refl;
  family_is = refl;
  canonical = none_canonical family;
})

one_range : (family : Family) (n low : ℕ) (here : Place) → range_fields family (suc n) low here
    ≡ and_then (field 32 (is_range family low) here) (range_fields family n (front_128 (drop 16 here.left) + 2))
unfolding range_fields
one_range family n low here = refl

room_behind : (low : ℕ) (xs : List Range) (x : Range) → room_from low (xs ++ x ∷ []) ≡ x.last + 2
room_behind low [] x = refl
room_behind low (r ∷ rs) x = room_behind (r.last + 2) rs x

pub more_ranges : (family : Family) (start here there : Place) (count : ℕ) (set after : RangeSet) (range : Range) → RangesSoFar family start here count set
    → GoesBehind set range → after ≡ with_range set range → range.last ≡ front_128 (drop 16 here.left)
    → Passes (range_spelling range) (field 32 (is_range set.family (room_from 0 set.ranges))) here there → RangesSoFar family start there (count + 1) after
more_ranges family start here there count set after range so_far behind after_is last_is passes =
    subst (λ (s : RangeSet). RangesSoFar family start there (count + 1) s) (sym after_is) (record {
      way = λ n.
          let low : ℕ = room_from 0 set.ranges in
          let e : n + (count + 1) ≡ suc n + count = omega arith in
          let next : ℕ = front_128 (drop 16 here.left) + 2 in
          let room : next ≡ room_from 0 (set.ranges ++ range ∷ []) = ap (λ (m : ℕ). m + 2) (sym last_is) ∙ sym (room_behind 0 set.ranges range) in
          ap (λ (m : ℕ). range_fields family m 0 start) e ∙ so_far.way (suc n) ∙ one_range family n low here
          ∙ ap (λ (f : Family). and_then (field 32 (is_range f low) here) (range_fields family n next)) (sym so_far.family_is)
          ∙ ap (λ (w : Way). and_then w (range_fields family n next)) passes.behind
          ∙ ap (λ (m : ℕ). range_fields family n m there) room;
      spelled = spelled_more range_spelling set.ranges range start.left here.left there.left so_far.spelled passes.spelled;
      size = omega (arith, length-append set.ranges (range ∷ []), so_far.size);
      family_is = so_far.family_is;
      canonical = canonical_with set range so_far.canonical behind;
    })

pub all_ranges : (family : Family) (start here : Place) (count : ℕ) (set : RangeSet) → RangesSoFar family start here count set
    → Passes (flat_map range_spelling set.ranges) (range_fields family count 0) start here
unfolding range_fields
all_ranges family start here count set so_far = record {
  behind = let e : count ≡ 0 + count = omega arith in ap (λ (m : ℕ). range_fields family m 0 start) e ∙ so_far.way 0 ∙ none (room_from 0 set.ranges) here;
  spelled = so_far.spelled;
}
  where
    none : (low : ℕ) (here : Place) → range_fields family 0 low here ≡ Behind here
    none low here = refl

pub bad_range : (family : Family) (start here : Place) (done count : ℕ) (set : RangeSet) (fault : RecordFault) → RangesSoFar family start here done set → done < count
    → IsFaultOf (field 32 (is_range set.family (room_from 0 set.ranges)) here) fault → IsFaultOf (range_fields family count 0 start) fault
bad_range family start here done count set fault so_far more bad =
    let low : ℕ = room_from 0 set.ranges in
    let n : ℕ = count - done - 1 in
    let next : ℕ = front_128 (drop 16 here.left) + 2 in
    let e : count ≡ suc n + done = omega arith in
    fault_alike (range_fields family count 0 start) (and_then (field 32 (is_range set.family low) here) (range_fields family n next)) fault
    (ap (λ (m : ℕ). range_fields family m 0 start) e ∙ so_far.way (suc n) ∙ one_range family n low here
    ∙ ap (λ (f : Family). and_then (field 32 (is_range f low) here) (range_fields family n next)) (sym so_far.family_is))
    (fault_first (field 32 (is_range set.family low) here) (range_fields family n next) fault bad)
