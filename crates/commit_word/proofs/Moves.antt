-- What each step asks of the table.
use Rattle.std.proofs.Common.{◌≡◌, ◌⊎◌, ⊎_elim, ℕ, ◌+◌, ◌%◌, ◌^◌, ◌<◌, ◌≤◌, true, false, List, [], ◌∷◌, ◌++◌, length, set, Option, Some, None, MatchOption, slice_get, slice_index, slice_set, refl, ap, sym, ◌∙◌, subst, arith, length-append}
use Rattle.std.proofs.lemmas.Option.{slice_get_within}
use mathlib.Core.Option.{none, some}
use mathlib.Core.List.{IsPrefix}
use lib.ListN.{get_elem?}
use Rattle.atomic_table.specs.Table.{State, Me, step, Act, keeps, Valid, stepped, carried_after, Allows, Splits, Joins}
use Rattle.atomic_table.proofs.Lists.{set_else, set_again}
use Rattle.commit_word.specs.declared.views.View.{View}
use Rattle.commit_word.specs.Entries.{joined}
use Rattle.commit_word.specs.Rule.{Fits, KeepsWordRuleBy, KeepsWordRule, laid_out}
use Rattle.commit_word.specs.inner.Steps.{follower_of, spent, both_seats, owner_with, set_aside, made_aside, Loads, Looks, Bumps}
use Rattle.commit_word.proofs.Prefixes.{prefix_self, prefix_length, prefix_shorter, prefix_within, longer_both}
use Rattle.commit_word.proofs.Rows.{set_at}
use Rattle.commit_word.proofs.Kept.{laid_prefix, laid_length, owner_at, not_owner, made_by, load_kept, split_kept, bump_aside, bump_own, aside_kept, joined_rows, rows_by, join_kept}

-- the words after a step that leaves the word
same_words : (key : List (List ℕ)) (o : View) (words : List ℕ) (views : List View) → words ≡ length o.seen ∷ [] → KeepsWordRuleBy key words views o → KeepsWordRuleBy key (slice_set words 0 (slice_index words 0)) views o
same_words key o words views is k = subst (λ ws. KeepsWordRuleBy key ws views o) (sym (ap (λ ws. slice_set ws 0 (slice_index ws 0)) is ∙ sym is)) k

within_seen : (o : View) (p : ℕ) (e : List ℕ) → p < length o.seen → slice_get (laid_out o) p ≡ Some e → slice_get o.seen p ≡ Some e
within_seen o p e lt h = prefix_within o.seen (laid_out o) p e (laid_prefix o.seen o.coming) lt h

-- the count after a bump
next_count : (n len : ℕ) → n ≡ len → len < 2 ^ 63 → (n + 1) % 2 ^ 64 ≡ len + 1
next_count n len same room = omega arith

off : (views : List View) (id : ℕ) (v both : View) (other : ℕ) (u : View) → ¬ (other ≡ id) → get_elem? (set views id both) other ≡ some u → get_elem? views other ≡ some u
off views id v both other u ne e = sym (set_else views id other both ne) ∙ e

module _ (key : List (List ℕ)) where
  abbrev pub Holds : {S : Type 0} → State S View → Type 0
  Holds s = KeepsWordRule key s.words s.views

  pub loads : {S : Type 0} (slots id : ℕ) (me : Me S View) → me.1 ≡ [] → me.0.owns ≡ false → Allows (Holds {S = S}) slots id me 0 (λ n. n) (Loads (step 0 0 0 0 none) me)
  loads slots id me empty owns s held homes at fits =
      let o : View = held.0 in
      let k : KeepsWordRuleBy key s.words s.views o = held.1 in
      let f : Fits (length key) o id me.0 = k.seats id me.0 at in
      let found : length o.seen ≡ slice_index s.words 0 = sym (ap (λ ws. slice_index ws 0) k.word) in (
        record me.0 { seen = o.seen },
        keeps,
        tt,
        (o, same_words key o s.words (set s.views id (record me.0 { seen = o.seen })) k.word (load_kept key s.words s.views o k id me.0 at owns)),
        (
          empty,
          refl,
          f.seen,
          found,
          record { known = (let known = f.known in let more = prefix_length me.0.seen o.seen f.seen in omega arith); rises = f.rises; past = (made_by (length key) o id me.0 f).past; stands = λ p e h lt. within_seen o p e lt (f.stands p e h) },
          λ p e h. let at_most = slice_get_within (laid_out o) p e (f.stands p e h) in let len = laid_length o.seen o.coming in omega arith,
        ),
      )

  pub looks : {S : Type 0} (slots id : ℕ) (me : Me S View) → me.1 ≡ [] → (me.0.owns ≡ true) ⊎ (length me.0.told ≤ length me.0.seen) → Allows (Holds {S = S}) slots id me 0 (λ n. n) (Looks (step 0 0 0 0 none) me)
  looks slots id me empty short s held homes at fits =
      let o : View = held.0 in
      let k : KeepsWordRuleBy key s.words s.views o = held.1 in
      let f : Fits (length key) o id me.0 = k.seats id me.0 at in
      let told : IsPrefix me.0.told me.0.seen =
      ⊎_elim
      (λ (owns : me.0.owns ≡ true). ((owner_at key s.words s.views id me.0 at owns held).1.seats id me.0 at).told)
      (λ (le : length me.0.told ≤ length me.0.seen). prefix_shorter me.0.told me.0.seen o.seen f.told f.seen le)
      short in (
        me.0,
        keeps,
        tt,
        (o, same_words key o s.words (set s.views id me.0) k.word (subst (λ vs. KeepsWordRuleBy key s.words vs o) (sym (set_again s.views id me.0 at)) k)),
        ((λ i. (me.0, empty i)), told, made_by (length key) o id me.0 f, λ owns. ((owner_at key s.words s.views id me.0 at owns held).1.seats id me.0 at).stands),
      )

  pub bumps : {S : Type 0} (slots id : ℕ) (me : Me S View) → me.1 ≡ [] → me.0.owns ≡ true → length me.0.seen < 2 ^ 63 → Allows (Holds {S = S}) slots id me 0 (λ n. (n + 1) % 2 ^ 64) (Bumps (step 0 0 0 0 none) me)
  bumps {S} slots id me empty owns room s held homes at fits = go me.0.coming refl
    where
      v : View
      v = me.0

      here : (id ≡ 0) × KeepsWordRuleBy key s.words s.views me.0
      here = owner_at key s.words s.views id me.0 at owns held

      m : ℕ
      m = (slice_index s.words 0 + 1) % 2 ^ 64

      counted : (e : List ℕ) → length (me.0.seen ++ e ∷ []) ≡ (slice_index s.words 0 + 1) % 2 ^ 64
      counted e = length-append me.0.seen (e ∷ []) ∙ sym (next_count (slice_index s.words 0) (length me.0.seen) (ap (λ ws. slice_index ws 0) here.1.word) room)

      one_word : (n : ℕ) → slice_set s.words 0 n ≡ n ∷ []
      one_word n = ap (λ ws. slice_set ws 0 n) here.1.word

      go : (c : Option (List ℕ)) → me.0.coming ≡ c
          → (w : View) × (a : Act S) × Valid s.homes me.1 a × Holds (stepped s 0 ((slice_index s.words 0 + 1) % 2 ^ 64) id me.1 w a) × Bumps (step 0 0 0 0 none) me (slice_index s.words 0) (w, carried_after me.1 a)
      go None is =
          let w : View = record me.0 { seen = me.0.seen ++ [] ∷ []; mine = me.0.mine ++ (length me.0.seen, []) ∷ [] } in
          let k = bump_own key s.words s.views me.0 here.1 id here.0 at [] is ((slice_index s.words 0 + 1) % 2 ^ 64) (counted []) in (
            w,
            keeps,
            tt,
            (w, subst (λ ws. KeepsWordRuleBy key ws (set s.views id w) w) (sym (one_word ((slice_index s.words 0 + 1) % 2 ^ 64))) k),
            (
              empty,
              made_by (length key) w id w (k.seats id w (set_at s.views id me.0 w at)),
              (k.seats id w (set_at s.views id me.0 w at)).stands,
              subst (λ c. MatchOption c ((entry : List ℕ) × (w ≡ record me.0 { seen = me.0.seen ++ entry ∷ []; mine = me.0.mine ++ (length me.0.seen, entry) ∷ [] })) (λ entry. w ≡ record me.0 { seen = me.0.seen ++ entry ∷ []; coming = None })) (sym is) ([], refl),
            ),
          )
      go (Some e) is =
          let w : View = record me.0 { seen = me.0.seen ++ e ∷ []; coming = None } in
          let k = bump_aside key s.words s.views me.0 here.1 id here.0 at e is ((slice_index s.words 0 + 1) % 2 ^ 64) (counted e) in (
            w,
            keeps,
            tt,
            (w, subst (λ ws. KeepsWordRuleBy key ws (set s.views id w) w) (sym (one_word ((slice_index s.words 0 + 1) % 2 ^ 64))) k),
            (
              empty,
              made_by (length key) w id w (k.seats id w (set_at s.views id me.0 w at)),
              (k.seats id w (set_at s.views id me.0 w at)).stands,
              subst (λ c. MatchOption c ((entry : List ℕ) × (w ≡ record me.0 { seen = me.0.seen ++ entry ∷ []; mine = me.0.mine ++ (length me.0.seen, entry) ∷ [] })) (λ entry. w ≡ record me.0 { seen = me.0.seen ++ entry ∷ []; coming = None })) (sym is) refl,
            ),
          )

  pub copies : {S : Type 0} (id : ℕ) (v : View) → Splits (Holds {S = S}) id v v (follower_of v [])
  copies id v s held at =
      (held.0, subst (λ vs. KeepsWordRuleBy key s.words (vs ++ follower_of v [] ∷ []) held.0) (sym (set_again s.views id v at)) (split_kept key s.words s.views held.0 held.1 id v at))

  pub sets_aside : {S : Type 0} (id : ℕ) (v : View) (entries : List (List ℕ)) → v.owns ≡ true → v.coming ≡ None → length entries ≡ 1 → Splits (Holds {S = S}) id v (set_aside entries v) (made_aside entries v)
  sets_aside id v [] owns free one s held at = absurd (omega arith)
  sets_aside id v (e ∷ []) owns free one s held at =
      let here = owner_at key s.words s.views id v at owns held in
      (record v { coming = Some e }, aside_kept key s.words s.views v here.1 id here.0 at e free)
  sets_aside id v (e ∷ f ∷ more) owns free one s held at = absurd (omega arith)

  pub meets : {S : Type 0} (id : ℕ) (v : View) (other : ℕ) (u : View) → v.owns ≡ false → u.owns ≡ false → Joins (Holds {S = S}) id v other u (both_seats v u) spent
  meets id v other u owns other_owns s held at ne there =
      let o : View = held.0 in
      let k : KeepsWordRuleBy key s.words s.views o = held.1 in
      let b : View = both_seats v u in
      let was : get_elem? s.views other ≡ some u = off s.views id v b other u ne there in
      let long = longer_both v.seen u.seen o.seen (k.seats id v at).seen (k.seats other u was).seen in
      let home : get_elem? (joined_rows s.views id b other) 0 ≡ some o =
      set_else (set s.views id b) other 0 spent (λ h. not_owner key s.words s.views o k other u was other_owns (sym h))
      ∙ (set_else s.views id 0 b (λ h. not_owner key s.words s.views o k id v at owns (sym h)) ∙ k.at) in
      (o, join_kept key s.words s.views o k id other v u b at was ne refl o.told o.mine home refl long.2 long.0 long.1 refl)

  pub takes_in : {S : Type 0} (id : ℕ) (v : View) (other : ℕ) (u : View) → v.owns ≡ true → Joins (Holds {S = S}) id v other u (owner_with v u) spent
  takes_in id v other u owns s held at ne there =
      let here = owner_at key s.words s.views id v at owns held in
      let k : KeepsWordRuleBy key s.words s.views v = here.1 in
      let b : View = owner_with v u in
      let was : get_elem? s.views other ≡ some u = off s.views id v b other u ne there in
      let home : get_elem? (joined_rows s.views id b other) 0 ≡ some b =
      subst (λ (n : ℕ). get_elem? (joined_rows s.views id b other) n ≡ some b) here.0 (rows_by key s.words s.views v k id other v u b at was ne refl) in
      (b, join_kept key s.words s.views v k id other v u b at was ne refl u.seen (joined v.mine u.mine) home refl (prefix_self v.seen) (prefix_self v.seen) (k.seats other u was).seen refl)
