-- Each step keeps the rule of the count word.
use Rattle.std.proofs.Common.{◌≡◌, ◌≢◌, ◌⊎◌, ℕ, ◌+◌, ◌<◌, ◌≤◌, true, false, true≢false, List, [], ◌∷◌, ◌++◌, length, set, Option, Some, None, slice_get, inl, inr, ⊎_elim, refl, ap, sym, ◌∙◌, subst, arith, length-append}
use Rattle.std.proofs.lemmas.Option.{slice_get_within}
use mathlib.Core.Option.{some, some-ne-none}
use mathlib.Core.Logic.{dite}
use mathlib.Core.List.{IsPrefix}
use native.Mathlib.Decide.{ℕ_discrete}
use lib.ListN.{get_elem?}
use Rattle.atomic_table.proofs.Lists.{at_set, set_else, at_longer, at_last}
use Rattle.commit_word.specs.declared.views.View.{View}
use Rattle.commit_word.specs.Entries.{Has, Rises, joined, with_coming}
use Rattle.commit_word.specs.Rule.{Fits, AreApart, IsMade, KeepsWordRuleBy, KeepsWordRule, laid_out}
use Rattle.commit_word.specs.inner.Steps.{first_owner, follower_of, spent, made_aside, IsMadeBy}
use Rattle.commit_word.proofs.Prefixes.{prefix_self, prefix_trans, prefix_length, prefix_get, prefix_within, prefix_snoc, slice_get_end}
use Rattle.commit_word.proofs.Places.{has_one, has_append, has_front, has_end, has_joined, joined_left, joined_right, rises_joined, rises_snoc}
use Rattle.commit_word.proofs.Rows.{set_at, at_end, same_at, at_before, apart_set, made_set, made_longer}

-- what the owner has seen begins what it has laid out, which has at most one entry more
pub laid_prefix : (seen : List (List ℕ)) (coming : Option (List ℕ)) → IsPrefix seen (with_coming seen coming)
laid_prefix seen None = prefix_self seen
laid_prefix seen (Some e) = prefix_snoc seen e

pub laid_length : (seen : List (List ℕ)) (coming : Option (List ℕ)) → length (with_coming seen coming) ≤ length seen + 1
laid_length seen None = omega arith
laid_length seen (Some e) = omega (arith, length-append seen (e ∷ []))

module _ (key : List (List ℕ)) (words : List ℕ) (views : List View) where
  -- the seat that owns is the owner's
  pub owner_at : (by : ℕ) (v : View) → get_elem? views by ≡ some v → v.owns ≡ true → KeepsWordRule key words views → (by ≡ 0) × KeepsWordRuleBy key words views v
  owner_at by v at owns k =
      let here : by ≡ 0 = (k.1.seats by v at).alone owns in
      (here, subst (KeepsWordRuleBy key words views) (same_at views 0 by k.0 v (sym here) k.1.at at) k.1)

  -- one that does not own is another
  pub not_owner : (o : View) → KeepsWordRuleBy key words views o → (by : ℕ) (v : View) → get_elem? views by ≡ some v → v.owns ≡ false → by ≢ 0
  not_owner o k by v at owns here = true≢false (sym k.owns ∙ ap (λ (x : View). x.owns) (same_at views 0 by o v (sym here) k.at at) ∙ owns)

-- what the rule says of a seat whose view is v
pub made_by : (recovered : ℕ) (o : View) (by : ℕ) (v : View) → Fits recovered o by v → IsMadeBy v
made_by recovered o by v f = record {
  known = f.known;
  rises = f.rises;
  past = λ p e h. let low = f.low in let far = f.past p e h in omega arith;
  stands = λ p e h lt. prefix_within v.seen (laid_out o) p e (prefix_trans v.seen o.seen (laid_out o) f.seen (laid_prefix o.seen o.coming)) lt (f.stands p e h);
}

-- a seat fits an owner that has seen more
pub fits_grown : (recovered : ℕ) (o n : View) (by : ℕ) (v : View) → IsPrefix o.seen n.seen → ((p : ℕ) (e : List ℕ) → slice_get (laid_out o) p ≡ Some e → slice_get (laid_out n) p ≡ Some e) → Fits recovered o by v → Fits recovered n by v
fits_grown recovered o n by v more laid f = record {
  alone = f.alone;
  seen = prefix_trans v.seen o.seen n.seen f.seen more;
  told = prefix_trans v.told o.seen n.seen f.told more;
  low = f.low;
  known = f.known;
  rises = f.rises;
  past = f.past;
  stands = λ p e h. laid p e (f.stands p e h);
}

-- at first
pub first_kept : (key : List (List ℕ)) (n : ℕ) → length key ≡ n → KeepsWordRule key (n ∷ []) (first_owner key ∷ [])
first_kept key n is = (
  first_owner key,
  record {
    at = refl;
    owns = refl;
    word = ap (λ (k : ℕ). k ∷ []) (sym is);
    begins = prefix_self key;
    seats = one;
    apart = none;
    covered = λ p low high. absurd (omega arith);
  },
)
  where
    fits : Fits (length key) (first_owner key) 0 (first_owner key)
    fits = record { alone = λ _. refl; seen = prefix_self key; told = (key, refl); low = omega arith; known = omega arith; rises = tt; past = λ p e h. absurd h; stands = λ p e h. absurd h }

    one : (by : ℕ) (v : View) → get_elem? (first_owner key ∷ []) by ≡ some v → Fits (length key) (first_owner key) by v
    one by v at = ⊎_elim (λ t. absurd (some-ne-none v (sym t))) (λ (t : (by ≡ 0) × (first_owner key ≡ v)). subst (λ (x : ℕ × View). Fits (length key) (first_owner key) x.0 x.1) (λ i. (sym t.0 i, t.1 i)) fits) (at_end [] (first_owner key) v by at)

    none : AreApart (first_owner key ∷ [])
    none i j v w p d e ai aj hv hw = ⊎_elim (λ t. absurd (some-ne-none v (sym t))) (λ (t : (i ≡ 0) × (first_owner key ≡ v)). absurd (subst (λ (x : View). Has x.mine p d) (sym t.1) hv)) (at_end [] (first_owner key) v i ai)

module _ (key : List (List ℕ)) (words : List ℕ) (views : List View) (o : View) (k : KeepsWordRuleBy key words views o) where
  -- a follower sees the list whole
  pub load_kept : (by : ℕ) (v : View) → get_elem? views by ≡ some v → v.owns ≡ false → KeepsWordRuleBy key words (set views by (record v { seen = o.seen })) o
  load_kept by v at owns = let w = record v { seen = o.seen } in record {
    at = set_else views by 0 w (λ h. not_owner key words views o k by v at owns (sym h)) ∙ k.at;
    owns = k.owns;
    word = k.word;
    begins = k.begins;
    seats = λ j u a. ⊎_elim
        (λ (t : (j ≡ by) × (w ≡ u)). subst (λ (x : ℕ × View). Fits (length key) o x.0 x.1) (λ i. (sym t.0 i, t.1 i)) fits)
        (λ (t : (j ≢ by) × (get_elem? views j ≡ some u)). k.seats j u t.1)
        (at_set views by j w u a);
    apart = apart_set views by v w at refl k.apart;
    covered = λ p low high. made_set views by v w at (λ _ _ h. h) p (k.covered p low high);
  }
    where
      fits : Fits (length key) o by (record v { seen = o.seen })
      fits = let f = k.seats by v at in let known = f.known in let more = prefix_length v.seen o.seen f.seen in record { alone = f.alone; seen = prefix_self o.seen; told = f.told; low = f.low; known = omega arith; rises = f.rises; past = f.past; stands = f.stands }

  -- a new follower made nothing
  pub split_kept : (by : ℕ) (v : View) → get_elem? views by ≡ some v → KeepsWordRuleBy key words (views ++ follower_of v [] ∷ []) o
  split_kept by v at = let r = follower_of v [] in record {
    at = at_longer views (r ∷ []) 0 o k.at;
    owns = k.owns;
    word = k.word;
    begins = k.begins;
    seats = λ j u a. ⊎_elim (λ t. k.seats j u t) (λ (t : (j ≡ length views) × (r ≡ u)). subst (Fits (length key) o j) t.1 (fits j)) (at_end views r u j a);
    apart = λ i j x y p d e ai aj hx hy. ⊎_elim
        (λ bi. ⊎_elim (λ bj. k.apart i j x y p d e bi bj hx hy) (λ (t : (j ≡ length views) × (r ≡ y)). absurd (subst (λ (z : View). Has z.mine p e) (sym t.1) hy)) (at_end views r y j aj))
        (λ (t : (i ≡ length views) × (r ≡ x)). absurd (subst (λ (z : View). Has z.mine p d) (sym t.1) hx))
        (at_end views r x i ai);
    covered = λ p low high. made_longer views (r ∷ []) p (k.covered p low high);
  }
    where
      fits : (j : ℕ) → Fits (length key) o j (follower_of v [])
      fits j = let f = k.seats by v at in record { alone = λ h. absurd (true≢false (sym h)); seen = f.seen; told = (o.seen, refl); low = f.low; known = f.known; rises = tt; past = λ p e h. absurd h; stands = λ p e h. absurd h }

module _ (key : List (List ℕ)) (words : List ℕ) (views : List View) (v : View) (k : KeepsWordRuleBy key words views v) (by : ℕ) (here : by ≡ 0) (at : get_elem? views by ≡ some v) where
  at_owner : (w : View) → get_elem? (set views by w) 0 ≡ some w
  at_owner w = subst (λ (n : ℕ). get_elem? (set views by w) n ≡ some w) here (set_at views by v w at)

  -- what stands past the owner's list was set aside
  within : v.coming ≡ None → (j : ℕ) (u : View) (p : ℕ) (e : List ℕ) → get_elem? views j ≡ some u → Has u.mine p e → p < length v.seen
  within none j u p e a h = slice_get_within v.seen p e (subst (λ c. slice_get (with_coming v.seen c) p ≡ Some e) none ((k.seats j u a).stands p e h))

  -- the entry set aside comes
  pub bump_aside : (entry : List ℕ) → v.coming ≡ Some entry → (n : ℕ) → length (v.seen ++ entry ∷ []) ≡ n
      → KeepsWordRuleBy key (n ∷ []) (set views by (record v { seen = v.seen ++ entry ∷ []; coming = None })) (record v { seen = v.seen ++ entry ∷ []; coming = None })
  bump_aside entry is n len = let w = record v { seen = v.seen ++ entry ∷ []; coming = None } in record {
    at = at_owner w;
    owns = k.owns;
    word = ap (λ (m : ℕ). m ∷ []) (sym len);
    begins = prefix_trans key v.seen w.seen k.begins (prefix_snoc v.seen entry);
    seats = λ j u a. ⊎_elim
        (λ (t : (j ≡ by) × (w ≡ u)). subst (λ (x : ℕ × View). Fits (length key) w x.0 x.1) (λ i. (sym t.0 i, t.1 i)) fits)
        (λ (t : (j ≢ by) × (get_elem? views j ≡ some u)). fits_grown (length key) v w j u (prefix_snoc v.seen entry) laid (k.seats j u t.1))
        (at_set views by j w u a);
    apart = apart_set views by v w at refl k.apart;
    covered = λ p low high. made_set views by v w at (λ _ _ h. h) p (k.covered p low (subst (λ l. p < length l) (sym same) high));
  }
    where
      same : laid_out v ≡ v.seen ++ entry ∷ []
      same = ap (with_coming v.seen) is

      laid : (p : ℕ) (e : List ℕ) → slice_get (laid_out v) p ≡ Some e → slice_get (v.seen ++ entry ∷ []) p ≡ Some e
      laid p e h = subst (λ l. slice_get l p ≡ Some e) same h

      fits : Fits (length key) (record v { seen = v.seen ++ entry ∷ []; coming = None }) by (record v { seen = v.seen ++ entry ∷ []; coming = None })
      fits = let f = k.seats by v at in record {
        alone = f.alone;
        seen = prefix_self (v.seen ++ entry ∷ []);
        told = prefix_trans v.told v.seen (v.seen ++ entry ∷ []) f.told (prefix_snoc v.seen entry);
        low = f.low;
        known = let known = f.known in let more = length-append v.seen (entry ∷ []) in omega arith;
        rises = f.rises;
        past = f.past;
        stands = λ p e h. laid p e (f.stands p e h);
      }

  -- an entry that the owner made comes
  pub bump_own : (entry : List ℕ) → v.coming ≡ None → (n : ℕ) → length (v.seen ++ entry ∷ []) ≡ n
      → KeepsWordRuleBy key (n ∷ []) (set views by (record v { seen = v.seen ++ entry ∷ []; mine = v.mine ++ (length v.seen, entry) ∷ [] })) (record v { seen = v.seen ++ entry ∷ []; mine = v.mine ++ (length v.seen, entry) ∷ [] })
  bump_own entry none n len = let w = record v { seen = v.seen ++ entry ∷ []; mine = v.mine ++ (length v.seen, entry) ∷ [] } in record {
    at = at_owner w;
    owns = k.owns;
    word = ap (λ (m : ℕ). m ∷ []) (sym len);
    begins = prefix_trans key v.seen w.seen k.begins (prefix_snoc v.seen entry);
    seats = λ j u a. ⊎_elim
        (λ (t : (j ≡ by) × (w ≡ u)). subst (λ (x : ℕ × View). Fits (length key) w x.0 x.1) (λ i. (sym t.0 i, t.1 i)) fits)
        (λ (t : (j ≢ by) × (get_elem? views j ≡ some u)). fits_grown (length key) v w j u (prefix_snoc v.seen entry) laid (k.seats j u t.1))
        (at_set views by j w u a);
    apart = apart;
    covered = λ p low high. dite (ℕ_discrete p (length v.seen))
        (λ (last : p ≡ length v.seen). (by, w, entry, set_at views by v w at, subst (λ (m : ℕ). Has w.mine m entry) (sym last) (has_end v.mine (length v.seen) entry)))
        (λ (other : p ≢ length v.seen). made_set views by v w at (λ q e h. has_front v.mine ((length v.seen, entry) ∷ []) q e h) p (k.covered p low (before p other high)));
  }
    where
      new : View
      new = record v { seen = v.seen ++ entry ∷ []; mine = v.mine ++ (length v.seen, entry) ∷ [] }

      was : laid_out v ≡ v.seen
      was = ap (with_coming v.seen) none

      same : laid_out (record v { seen = v.seen ++ entry ∷ []; mine = v.mine ++ (length v.seen, entry) ∷ [] }) ≡ v.seen ++ entry ∷ []
      same = ap (with_coming (v.seen ++ entry ∷ [])) none

      before : (p : ℕ) → p ≢ length v.seen → p < length (with_coming (v.seen ++ entry ∷ []) v.coming) → p < length (laid_out v)
      before p other high =
          let len' : length (v.seen ++ entry ∷ []) ≡ length v.seen + 1 = length-append v.seen (entry ∷ []) in
          let high' : p < length (v.seen ++ entry ∷ []) = subst (λ l. p < length l) same high in
          subst (λ l. p < length l) (sym was) (omega arith)

      laid : (p : ℕ) (e : List ℕ) → slice_get (laid_out v) p ≡ Some e → slice_get (with_coming (v.seen ++ entry ∷ []) v.coming) p ≡ Some e
      laid p e h = subst (λ l. slice_get l p ≡ Some e) (sym same) (prefix_get v.seen (v.seen ++ entry ∷ []) p e (prefix_snoc v.seen entry) (subst (λ l. slice_get l p ≡ Some e) was h))

      last : slice_get (with_coming (v.seen ++ entry ∷ []) v.coming) (length v.seen) ≡ Some entry
      last = subst (λ l. slice_get l (length v.seen) ≡ Some entry) (sym same) (slice_get_end v.seen entry)

      fits : Fits (length key) (record v { seen = v.seen ++ entry ∷ []; mine = v.mine ++ (length v.seen, entry) ∷ [] }) by (record v { seen = v.seen ++ entry ∷ []; mine = v.mine ++ (length v.seen, entry) ∷ [] })
      fits = let f = k.seats by v at in record {
        alone = f.alone;
        seen = prefix_self (v.seen ++ entry ∷ []);
        told = prefix_trans v.told v.seen (v.seen ++ entry ∷ []) f.told (prefix_snoc v.seen entry);
        low = f.low;
        known = let known = f.known in let more = length-append v.seen (entry ∷ []) in omega arith;
        rises = rises_snoc v.mine (length v.seen) entry f.rises (λ p e h. within none by v p e at h);
        past = λ p e h. ⊎_elim
            (λ t. f.past p e t)
            (λ t. let one = has_one (length v.seen) p entry e t in let low = prefix_length key v.seen k.begins in subst (λ (m : ℕ). length key ≤ m) one.0 low)
            (has_append v.mine ((length v.seen, entry) ∷ []) p e h);
        stands = λ p e h. ⊎_elim
            (λ t. laid p e (f.stands p e t))
            (λ t. let one = has_one (length v.seen) p entry e t in subst (λ (x : ℕ × List ℕ). slice_get (with_coming (v.seen ++ entry ∷ []) v.coming) x.0 ≡ Some x.1) (λ i. (one.0 i, one.1 i)) last)
            (has_append v.mine ((length v.seen, entry) ∷ []) p e h);
      }

      -- the new place stands in what no other seat made
      clash : (j : ℕ) (y : View) (p : ℕ) (d e : List ℕ) → j ≢ by → get_elem? views j ≡ some y → Has (v.mine ++ (length v.seen, entry) ∷ []) p d → Has y.mine p e → ⊥
      clash j y p d e apart a hv hy = ⊎_elim
          (λ t. apart (k.apart j by y v p e d a at hy t))
          (λ t. let one = has_one (length v.seen) p entry d t in let low = within none j y p e a hy in absurd (omega arith))
          (has_append v.mine ((length v.seen, entry) ∷ []) p d hv)

      apart : AreApart (set views by (record v { seen = v.seen ++ entry ∷ []; mine = v.mine ++ (length v.seen, entry) ∷ [] }))
      apart i j x y p d e ai aj hx hy =
          let w = record v { seen = v.seen ++ entry ∷ []; mine = v.mine ++ (length v.seen, entry) ∷ [] } in
          ⊎_elim
          (λ (t : (i ≡ by) × (w ≡ x)). ⊎_elim
          (λ (u : (j ≡ by) × (w ≡ y)). t.0 ∙ sym u.0)
          (λ (u : (j ≢ by) × (get_elem? views j ≡ some y)). absurd (clash j y p d e u.0 u.1 (subst (λ (z : View). Has z.mine p d) (sym t.1) hx) hy))
          (at_set views by j w y aj))
          (λ (t : (i ≢ by) × (get_elem? views i ≡ some x)). ⊎_elim
          (λ (u : (j ≡ by) × (w ≡ y)). absurd (clash i x p e d t.0 t.1 (subst (λ (z : View). Has z.mine p e) (sym u.1) hy) hx))
          (λ (u : (j ≢ by) × (get_elem? views j ≡ some y)). k.apart i j x y p d e t.1 u.1 hx hy)
          (at_set views by j w y aj))
          (at_set views by i w x ai)

  -- an entry is set aside, which a new follower made
  pub aside_kept : (entry : List ℕ) → v.coming ≡ None
      → KeepsWordRuleBy key words (set views by (record v { coming = Some entry }) ++ follower_of v ((length v.seen, entry) ∷ []) ∷ []) (record v { coming = Some entry })
  aside_kept entry none =
      let w = record v { coming = Some entry } in
      let r = follower_of v ((length v.seen, entry) ∷ []) in
      let row : List View = set views by w in record {
        at = at_longer row (r ∷ []) 0 w (at_owner w);
        owns = k.owns;
        word = k.word;
        begins = k.begins;
        seats = λ j u a. ⊎_elim
            (λ b. ⊎_elim
            (λ (t : (j ≡ by) × (w ≡ u)). subst (λ (x : ℕ × View). Fits (length key) w x.0 x.1) (λ i. (sym t.0 i, t.1 i)) noted)
            (λ (t : (j ≢ by) × (get_elem? views j ≡ some u)). grown j u t.1)
            (at_set views by j w u b))
            (λ (t : (j ≡ length row) × (r ≡ u)). subst (Fits (length key) w j) t.1 (fits j))
            (at_end row r u j a);
        apart = λ i j x y p d e ai aj hx hy. ⊎_elim
            (λ bi. ⊎_elim
            (λ bj. apart_set views by v w at refl k.apart i j x y p d e bi bj hx hy)
            (λ (t : (j ≡ length row) × (r ≡ y)). absurd (clash i x p d e bi hx (subst (λ (z : View). Has z.mine p e) (sym t.1) hy)))
            (at_end row r y j aj))
            (λ (t : (i ≡ length row) × (r ≡ x)). ⊎_elim
            (λ bj. absurd (clash j y p e d bj hy (subst (λ (z : View). Has z.mine p d) (sym t.1) hx)))
            (λ (u : (j ≡ length row) × (r ≡ y)). t.0 ∙ sym u.0)
            (at_end row r y j aj))
            (at_end row r x i ai);
        covered = λ p low high. dite (ℕ_discrete p (length v.seen))
            (λ (last : p ≡ length v.seen). (length row, r, entry, at_last row r (length row) refl, inl (λ i. (sym last i, entry))))
            (λ (other : p ≢ length v.seen). made_longer row (r ∷ []) p (made_set views by v w at (λ _ _ h. h) p (k.covered p low (before p other high))));
      }
    where
      was : laid_out v ≡ v.seen
      was = ap (with_coming v.seen) none

      before : (p : ℕ) → p ≢ length v.seen → p < length (v.seen ++ entry ∷ []) → p < length (laid_out v)
      before p other high = let len = length-append v.seen (entry ∷ []) in subst (λ l. p < length l) (sym was) (omega arith)

      laid : (p : ℕ) (e : List ℕ) → slice_get (laid_out v) p ≡ Some e → slice_get (v.seen ++ entry ∷ []) p ≡ Some e
      laid p e h = prefix_get v.seen (v.seen ++ entry ∷ []) p e (prefix_snoc v.seen entry) (subst (λ l. slice_get l p ≡ Some e) was h)

      grown : (j : ℕ) (u : View) → get_elem? views j ≡ some u → Fits (length key) (record v { coming = Some entry }) j u
      grown j u a = fits_grown (length key) v (record v { coming = Some entry }) j u (prefix_self v.seen) laid (k.seats j u a)

      noted : Fits (length key) (record v { coming = Some entry }) by (record v { coming = Some entry })
      noted = let f = grown by v at in record { alone = f.alone; seen = f.seen; told = f.told; low = f.low; known = f.known; rises = f.rises; past = f.past; stands = f.stands }

      fits : (j : ℕ) → Fits (length key) (record v { coming = Some entry }) j (follower_of v ((length v.seen, entry) ∷ []))
      fits j = record {
        alone = λ h. absurd (true≢false (sym h));
        seen = prefix_self v.seen;
        told = (v.seen, refl);
        low = (k.seats by v at).low;
        known = (k.seats by v at).known;
        rises = ((λ p e h. absurd h), tt);
        past = λ p e h. let one = has_one (length v.seen) p entry e h in let low = prefix_length key v.seen k.begins in subst (λ (m : ℕ). length key ≤ m) one.0 low;
        stands = λ p e h. let one = has_one (length v.seen) p entry e h in subst (λ (x : ℕ × List ℕ). slice_get (v.seen ++ entry ∷ []) x.0 ≡ Some x.1) (λ i. (one.0 i, one.1 i)) (slice_get_end v.seen entry);
      }

      clash : (i : ℕ) (x : View) (p : ℕ) (d e : List ℕ) → get_elem? (set views by (record v { coming = Some entry })) i ≡ some x → Has x.mine p d → Has ((length v.seen, entry) ∷ []) p e → ⊥
      clash i x p d e a hx hr =
          let b = at_before views by v (record v { coming = Some entry }) at refl i x a in
          let one = has_one (length v.seen) p entry e hr in
          let low = within none i b.0 p d b.1 (subst (λ m. Has m p d) (sym b.2) hx) in
          absurd (omega arith)

-- the rows after a seat took in another
abbrev pub joined_rows : List View → ℕ → View → ℕ → List View
joined_rows views by b other = set (set views by b) other spent

-- a seat takes in another, whose view is spent; the owner's view may be the one that changes
module _ (key : List (List ℕ)) (words : List ℕ) (views : List View) (o : View) (k : KeepsWordRuleBy key words views o) (by other : ℕ) (v u b : View) (at : get_elem? views by ≡ some v) (there : get_elem? views other ≡ some u) (ne : other ≢ by) (both : b.mine ≡ joined v.mine u.mine) where
  made_apart : (p : ℕ) (d e : List ℕ) → Has v.mine p d → Has u.mine p e → ⊥
  made_apart p d e hv hu = ne (sym (k.apart by other v u p d e at there hv hu))

  -- a view of the new rows is the spent one, the one that changed, or another
  rows_at : {C : Type 0} (j : ℕ) (x : View) → get_elem? (joined_rows views by b other) j ≡ some x → ((j ≡ other) × (spent ≡ x) → C) → ((j ≢ other) × (j ≡ by) × (b ≡ x) → C) → ((j ≢ other) × (j ≢ by) × (get_elem? views j ≡ some x) → C) → C
  rows_at j x a gone changed stays = ⊎_elim gone
      (λ (t : (j ≢ other) × (get_elem? (set views by b) j ≡ some x)). ⊎_elim
      (λ (s : (j ≡ by) × (b ≡ x)). changed (t.0, s.0, s.1))
      (λ (s : (j ≢ by) × (get_elem? views j ≡ some x)). stays (t.0, s.0, s.1))
      (at_set views by j b x t.1))
      (at_set (set views by b) other j spent x a)

  -- the seat that made what a view of the new rows has
  Source : ℕ → ℕ → List ℕ → Type 0
  Source j p d = (j ≢ other) × (i : ℕ) × (x : View) × (get_elem? views i ≡ some x) × Has x.mine p d × ((j ≡ i) ⊎ ((j ≡ by) × (i ≡ other)))

  source : (j : ℕ) (x : View) (p : ℕ) (d : List ℕ) → get_elem? (joined_rows views by b other) j ≡ some x → Has x.mine p d → Source j p d
  unfolding Source
  source j x p d a h = rows_at j x a
      (λ t. absurd (subst (λ (z : View). Has z.mine p d) (sym t.1) h))
      (λ t. ⊎_elim
      (λ l. (t.0, by, v, at, l, inl t.1))
      (λ r. (t.0, other, u, there, r, inr (t.1, refl)))
      (has_joined v.mine u.mine p d (subst (λ m. Has m p d) both (subst (λ (z : View). Has z.mine p d) (sym t.2) h))))
      (λ t. (t.0, j, x, t.2, h, inl refl))

  joined_apart_rows : AreApart (joined_rows views by b other)
  unfolding Source
  joined_apart_rows i j x y p d e ai aj hx hy =
      let s = source i x p d ai hx in
      let t = source j y p e aj hy in
      let same : s.1 ≡ t.1 = k.apart s.1 t.1 s.2 t.2 p d e s.3 t.3 s.4 t.4 in
      ⊎_elim
      (λ (a : i ≡ s.1). ⊎_elim (λ (c : j ≡ t.1). a ∙ same ∙ sym c) (λ (c : (j ≡ by) × (t.1 ≡ other)). absurd (s.0 (a ∙ same ∙ c.1))) t.5)
      (λ (a : (i ≡ by) × (s.1 ≡ other)). ⊎_elim (λ (c : j ≡ t.1). absurd (t.0 (c ∙ sym same ∙ a.1))) (λ (c : (j ≡ by) × (t.1 ≡ other)). a.0 ∙ sym c.0) t.5)
      s.5

  pub rows_by : get_elem? (joined_rows views by b other) by ≡ some b
  rows_by = set_else (set views by b) other by spent (λ h. ne (sym h)) ∙ set_at views by v b at

  rows_made : (p : ℕ) → IsMade views p → IsMade (joined_rows views by b other) p
  rows_made p m = dite (ℕ_discrete m.0 other)
      (λ (same : m.0 ≡ other). (by, b, m.2, rows_by, subst (λ l. Has l p m.2) (sym both) (joined_right v.mine u.mine p m.2 (subst (λ (x : View). Has x.mine p m.2) (same_at views m.0 other m.1 u same m.3 there) m.4))))
      (λ (apart : m.0 ≢ other). dite (ℕ_discrete m.0 by)
      (λ (same : m.0 ≡ by). (by, b, m.2, rows_by, subst (λ l. Has l p m.2) (sym both) (joined_left v.mine u.mine p m.2 (subst (λ (x : View). Has x.mine p m.2) (same_at views m.0 by m.1 v same m.3 at) m.4))))
      (λ (far : m.0 ≢ by). (m.0, m.1, m.2, set_else (set views by b) other m.0 spent apart ∙ (set_else views by m.0 b far ∙ m.3), m.4)))

  pub join_kept : (told : List (List ℕ)) (mine : List (ℕ × List ℕ))
      → get_elem? (joined_rows views by b other) 0 ≡ some (record o { told = told; mine = mine })
      → b.owns ≡ v.owns → IsPrefix v.seen b.seen → IsPrefix b.seen o.seen → IsPrefix b.told o.seen → b.recovered ≡ v.recovered
      → KeepsWordRuleBy key words (joined_rows views by b other) (record o { told = told; mine = mine })
  join_kept told mine home owns grows seen tells low =
      let n : View = record o { told = told; mine = mine } in
      record {
        at = home;
        owns = k.owns;
        word = k.word;
        begins = k.begins;
        seats = λ j x a. rows_at j x a
            (λ t. subst (Fits (length key) n j) t.1 (gone j))
            (λ t. subst (λ (z : ℕ × View). Fits (length key) n z.0 z.1) (λ i. (sym t.1 i, t.2 i)) fits)
            (λ t. fits_grown (length key) o n j x (prefix_self o.seen) (λ p e h. h) (k.seats j x t.2));
        apart = joined_apart_rows;
        covered = λ p low high. rows_made p (k.covered p low high);
      }
    where
      gone : (j : ℕ) → Fits (length key) (record o { told = told; mine = mine }) j spent
      gone j = record { alone = λ h. absurd (true≢false (sym h)); seen = (o.seen, refl); told = (o.seen, refl); low = omega arith; known = omega arith; rises = tt; past = λ p e h. absurd h; stands = λ p e h. absurd h }

      fits : Fits (length key) (record o { told = told; mine = mine }) by b
      fits = let f = k.seats by v at in let g = k.seats other u there in record {
        alone = λ h. f.alone (sym owns ∙ h);
        seen = seen;
        told = tells;
        low = subst (λ (m : ℕ). m ≤ length key) (sym low) f.low;
        known = let known = f.known in let more = prefix_length v.seen b.seen grows in omega arith;
        rises = subst Rises (sym both) (rises_joined v.mine u.mine f.rises g.rises made_apart);
        past = λ p e h. ⊎_elim (λ t. f.past p e t) (λ t. g.past p e t) (has_joined v.mine u.mine p e (subst (λ m. Has m p e) both h));
        stands = λ p e h. ⊎_elim (λ t. f.stands p e t) (λ t. g.stands p e t) (has_joined v.mine u.mine p e (subst (λ m. Has m p e) both h));
      }

-- the seat that made the entry set aside
pub aside_made : (v : View) (entries : List (List ℕ)) → v.recovered ≤ length v.seen → length entries ≡ 1 → IsMadeBy (made_aside entries v)
aside_made v [] known one = absurd (omega arith)
aside_made v (e ∷ []) known one = record {
  known = known;
  rises = ((λ p d h. absurd h), tt);
  past = λ p d h. let at = has_one (length v.seen) p e d h in omega arith;
  stands = λ p d h lt. let at = has_one (length v.seen) p e d h in absurd (omega arith);
}
aside_made v (e ∷ f ∷ more) known one = absurd (omega arith)
