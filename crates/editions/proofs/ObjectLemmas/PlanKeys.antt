-- The keys that the work of a plan leaves and makes are the next ones.
use Rattle.std.proofs.Common.{◌≡◌, ◌≢◌, ℕ, ◌==◌, Bool, true, false, cond, not, Option, Some, None, List, [], ◌∷◌, map, filter, find, get_or, refl, sym, ap, subst, ◌∙◌, inl, inr}
use Rattle.std.specs.Prelude.{AllPairs, All, Contains}
use Rattle.std.specs.List.{filter_map}
use Rattle.std.specs.Str.{bytes_eq}
use Rattle.std.proofs.lemmas.Bool.{true≢false, false≢true, false_from_ne_true, true_from_ne_false, not-true, eq-eqb, eqb-true}
use Rattle.std.proofs.lemmas.Option.{same_Some, none-some}
use Rattle.std.proofs.lemmas.List.Elements.{Contains-get_or, All-contains, Contains-append_left, Contains-append_right, Contains-append_cases}
use Rattle.std.proofs.lemmas.List.Folds.{Any-from_list_any, list_any-from_Any}
use Rattle.std.proofs.lemmas.List.Sorted.{Contains-permutation, IsPermutation-sym}
use Rattle.std.proofs.lemmas.Slice.Eq.{bytes_eq-Decides}
use Rattle.key_ids.specs.declared.identifier.KeyId.{KeyId}
use Rattle.key_roll.specs.declared.rows.KeyRow.{KeyRow}
use Rattle.key_roll.specs.declared.rows.Role.{Role}
use Rattle.key_roll.specs.declared.work.Work.{Work}
use Rattle.key_roll.specs.declared.work.KeyName.{KeyName}
use Rattle.key_roll.specs.declared.work.KeyName.TheVariants.{Live, Fresh}
use Rattle.key_roll.specs.declared.work.NewKey.{NewKey}
use Rattle.key_roll.specs.declared.work.RoleWork.{RoleWork}
use Rattle.issue_plan.specs.declared.keys.NextKey.{NextKey}
use Rattle.issue_plan.specs.Keys as plan
use Rattle.issue_plan.specs.Keys.{is_live}
use Rattle.issue_plan.specs.Work.{new_key_of, new_key_by, role_of, role_by, goes_on, dropped}
use Rattle.issue_keys.specs.Keys.{id_of, is_dropped, with_role, kept_rows, fresh_row, AreFresh}
use Rattle.issue_keys.specs.Keys as rowed
use Rattle.issue_keys.specs.Making.{AreApart}
use Rattle.issue_drafts.specs.WorkKeys.{Keys, all_keys, key_named}
use Rattle.editions.specs.Keys.{IsCarriedOver, IsNextBy, AreEach}
use Rattle.items.specs.laws.ElementLaws.{from-map, into-map, from-filter, into-filter, from-filter_map, into-filter_map, found-in, is-found}
use Rattle.items.specs.laws.PairLaws.{Each, Twos, each-at, each-from, twos-same, twos-pairs, Sides, sides-from, side-of, each-sides, twos-sides, twos-filter_map, twos-append, twos-map, twos-filter, twos-from}
use Rattle.editions.proofs.ObjectLemmas.Views.{apart-same}
use Rattle.editions.proofs.ObjectLemmas.Nexts.{IsKeptKey, IsFromBy, IsFrom, AreOther, IsBefore}
use Rattle.editions.proofs.ObjectLemmas.FreshKeys.{apart-ids, fresh-same, made-for, is-made, fresh-twos, fresh-ids}

-- ---- what a next key asks

pub record IsTurn (next : NextKey) (r : RoleWork) : Type 0 where
  pub id : KeyId
  pub name : next.name ≡ Live id
  pub changed : next.is_changed ≡ true
  pub is : record { key = id; role = next.role; since = next.since; done = next.done } ≡ r

turn-by : (next : NextKey) (name : KeyName) (r : RoleWork) → next.name ≡ name
    → role_by next name ≡ Some r → IsTurn next r
turn-by next (Fresh desk) r at e = absurd cc
turn-by next (Live id) r at e = by next.is_changed refl e
  where
    by : (b : Bool) → next.is_changed ≡ b
        → cond b (Some (record { key = id; role = next.role; since = next.since; done = next.done }))
        None ≡ Some r → IsTurn next r
    by false changed e = absurd cc
    by true changed e = record {
      id = id;
      name = at;
      changed = changed;
      is = same_Some (record { key = id; role = next.role; since = next.since; done = next.done }) r e;
    }

turn : (next : NextKey) (r : RoleWork) → role_of next ≡ Some r → IsTurn next r
turn next r e = turn-by next next.name r refl e

pub record IsAsking (next : NextKey) (new : NewKey) : Type 0 where
  pub desk : ℕ
  pub name : next.name ≡ Fresh desk
  pub at : new.desk ≡ desk
  pub role : new.role ≡ next.role

asking-by : (next : NextKey) (name : KeyName) (new : NewKey) → next.name ≡ name
    → new_key_by next name ≡ Some new → IsAsking next new
asking-by next (Live id) new at e = absurd cc
asking-by next (Fresh desk) new at e =
    let asked : NewKey = record {
      desk = desk;
      signer = next.signer;
      role = next.role;
      since = next.since;
      done = next.done;
    } in
    record {
      desk = desk;
      name = at;
      at = ap (λ (n : NewKey). n.desk) (sym (same_Some asked new e));
      role = ap (λ (n : NewKey). n.role) (sym (same_Some asked new e));
    }

asking : (next : NextKey) (new : NewKey) → new_key_of next ≡ Some new → IsAsking next new
asking next new e = asking-by next next.name new refl e

other-live : (x y : KeyName) (i j : KeyId) → x ≡ Live i → y ≡ Live j → AreOther x y
    → i.bytes ≢ j.bytes
other-live x y i j one two o =
    subst (λ (z : KeyName). AreOther z (Live j)) one (subst (λ (z : KeyName). AreOther x z) two o)

other-fresh : (x y : KeyName) (d e : ℕ) → x ≡ Fresh d → y ≡ Fresh e → AreOther x y → d ≢ e
other-fresh x y d e one two o =
    subst (λ (z : KeyName). AreOther z (Fresh e)) one
    (subst (λ (z : KeyName). AreOther x z) two o)

-- ---- pairs

-- The key of a next one, which its name stands for.
pub record IsKeyOf (rows : List KeyRow) (keys : Keys) (next : NextKey) (key : KeyRow)
    : Type 0 where
  pub among : Contains (all_keys keys) key
  pub named : key_named keys next.name ≡ Some key
  pub is : IsNextBy rows next next.name key
  pub desk : key.desk ≡ next.desk
  pub role : key.role ≡ next.role

-- Each next key has one, and these are all.
pub record ArePaired (rows : List KeyRow) (nexts : List NextKey) (keys : Keys) : Type 0 where
  pub list : List KeyRow
  pub sides : Sides (IsKeyOf rows keys) nexts list
  pub each : AreEach rows nexts list
  pub apart : AllPairs (λ k l. id_of k ≢ id_of l) list
  pub all_apart : AllPairs (λ k l. id_of k ≢ id_of l) (all_keys keys)
  pub only : (k : KeyRow) → Contains list k → Contains (all_keys keys) k
  pub covered : (k : KeyRow) → Contains (all_keys keys) k → Contains list k

-- ---- the keys

module _ (rows : List KeyRow) (apart : AllPairs (λ a b. id_of a ≢ id_of b) rows)
    (nexts : List NextKey) (from : Each (IsFrom rows) nexts) (rise : Twos IsBefore nexts)
    (work : Work) (asked : work.new_keys ≡ filter_map new_key_of nexts)
    (turned : work.roles ≡ filter_map role_of nexts) (ended : work.dropped ≡ dropped nexts rows)
    (keys : Keys) (kept : keys.kept ≡ kept_rows work rows)
    (fresh : AreFresh work.new_keys keys.fresh) (new_apart : AreApart (map id_of rows) keys.fresh)
  where
    live-same : (a b : NextKey) (i j : KeyId) → Contains nexts a → Contains nexts b
        → a.name ≡ Live i → b.name ≡ Live j → i.bytes ≡ j.bytes → a ≡ b
    live-same a b i j c d one two same =
        twos-same IsBefore nexts a b rise c d
        (λ r. other-live a.name b.name i j one two r.other same)
        (λ r. other-live b.name a.name j i two one r.other (sym same))

    fresh-same-next : (a b : NextKey) (i j : ℕ) → Contains nexts a → Contains nexts b
        → a.name ≡ Fresh i → b.name ≡ Fresh j → i ≡ j → a ≡ b
    fresh-same-next a b i j c d one two same =
        twos-same IsBefore nexts a b rise c d
        (λ r. other-fresh a.name b.name i j one two r.other same)
        (λ r. other-fresh b.name a.name j i two one r.other (sym same))

    -- ---- a key that goes on

    abbrev carried : KeyRow → NextKey → KeyRow
    carried row next = record row { role = next.role; since = next.since; done = next.done }

    module _ (next : NextKey) (among : Contains nexts next) (id : KeyId) (name : next.name ≡ Live id)
        (is : IsKeptKey rows next id) where
      goes-on : (d : KeyId) → d.bytes ≡ id_of is.row → goes_on nexts d ≡ true
      goes-on d same =
          list_any-from_Any (λ (n : NextKey). is_live d n.name) nexts (
            among.0,
            next,
            among.1,
            among.2,
            subst (λ (n : KeyName). is_live d n ≡ true) (sym name)
                ((bytes_eq-Decides id.bytes d.bytes).1 (sym is.named ∙ sym same)),
          )

      not-dropped : is_dropped work.dropped is.row ≡ false
      not-dropped = false_from_ne_true (is_dropped work.dropped is.row) (λ e.
          let any = Any-from_list_any (λ (d : KeyId). bytes_eq d.bytes (id_of is.row)) work.dropped e in
          let inside : Contains (dropped nexts rows) any.1 =
          subst (λ (l : List KeyId). Contains l any.1) ended (any.0, any.2, any.3) in
          let gone = from-filter (λ (d : KeyId). not (goes_on nexts d)) (map plan.id_of rows) any.1
          inside in
          let same = (bytes_eq-Decides any.1.bytes (id_of is.row)).0 any.4 in
          true≢false (sym (goes-on any.1 same) ∙ not-true (goes_on nexts any.1) gone.1))

      abbrev is_its : RoleWork → Bool
      is_its r = bytes_eq r.key.bytes (id_of is.row)

      -- What a turn of the key says.
      its-turn : (r : RoleWork) → Contains work.roles r → is_its r ≡ true
          → (next.is_changed ≡ true)
          × (record { key = id; role = next.role; since = next.since; done = next.done } ≡ r)
      its-turn r c its =
          let other = from-filter_map role_of nexts r
          (subst (λ (l : List RoleWork). Contains l r) turned c) in
          let t = turn other.0 r other.2 in
          let key : t.id.bytes ≡ id.bytes =
          ap (λ (w : RoleWork). w.key.bytes) t.is
          ∙ ((bytes_eq-Decides r.key.bytes (id_of is.row)).0 its ∙ is.named) in
          let same : other.0 ≡ next = live-same other.0 next t.id id other.1 among t.name name key in
          let ids : t.id ≡ id = same-id t.id id key in
          let made : KeyId → NextKey → RoleWork = λ i n.
          record { key = i; role = n.role; since = n.since; done = n.done } in (
            subst (λ (n : NextKey). n.is_changed ≡ true) same t.changed,
            sym (ap (λ (i : KeyId). made i other.0) ids ∙ ap (made id) same) ∙ t.is,
          )
        where
          same-id : (a b : KeyId) → a.bytes ≡ b.bytes → a ≡ b
          same-id a b e = ap (λ (l : List ℕ). of l) e
            where
              of : List ℕ → KeyId
              of l = record { bytes = l }

      role-found : (o : Option RoleWork) → find is_its work.roles ≡ o
          → with_role is.row o ≡ carried is.row next
      role-found (Some r) e =
          let f = found-in is_its work.roles r e in
          let t = its-turn r f.0 f.1 in
          ap (λ (w : RoleWork). record is.row { role = w.role; since = w.since; done = w.done }) (sym t.1)
      role-found None e =
          let unchanged : next.is_changed ≡ false = false_from_ne_true next.is_changed (λ changed.
          let r : RoleWork =
          record { key = id; role = next.role; since = next.since; done = next.done } in
          let asks : role_of next ≡ Some r =
          ap (role_by next) name ∙ ap (λ (b : Bool). cond b (Some r) None) changed in
          let inside : Contains work.roles r = subst (λ (l : List RoleWork). Contains l r) (sym turned)
          (into-filter_map role_of nexts next r among asks) in
          let found = is-found is_its work.roles r inside
          ((bytes_eq-Decides id.bytes (id_of is.row)).1 (sym is.named)) in
          none-some found.0 (sym e ∙ found.1)) in
          let with_these : Role → ℕ → ℕ → KeyRow = λ role since done.
          record is.row { role = role; since = since; done = done } in
          ap (λ (x : Role). with_these x is.row.since is.row.done) (sym (is.role unchanged))
          ∙ (ap (λ (x : ℕ). with_these next.role x is.row.done) (sym (is.since unchanged))
          ∙ ap (with_these next.role next.since) (sym (is.done unchanged)))

      kept-inside : Contains keys.kept (carried is.row next)
      kept-inside =
          let inside = into-map (λ (row : KeyRow). with_role row (rowed.role_of work.roles row))
          (filter (λ (row : KeyRow). not (is_dropped work.dropped row)) rows) is.row
          (into-filter (λ (row : KeyRow). not (is_dropped work.dropped row)) rows is.row
          (ap not not-dropped) is.live) in
          subst (λ (l : List KeyRow). Contains l (carried is.row next)) (sym kept)
          (subst (λ (r : KeyRow). Contains (kept_rows work rows) r)
          (role-found (find is_its work.roles) refl) inside)

      goes : IsCarriedOver rows id next (carried is.row next)
      goes = record { row = is.row; live = is.live; named = is.named; same = refl }

    -- ---- all keys

    kept-from : (k : KeyRow) → Contains keys.kept k
        → (row : KeyRow) × Contains rows row × (is_dropped work.dropped row ≡ false)
        × (with_role row (rowed.role_of work.roles row) ≡ k)
    kept-from k c =
        let m = from-map (λ (row : KeyRow). with_role row (rowed.role_of work.roles row))
        (filter (λ (row : KeyRow). not (is_dropped work.dropped row)) rows) k
        (subst (λ (l : List KeyRow). Contains l k) kept c) in
        let f = from-filter (λ (row : KeyRow). not (is_dropped work.dropped row)) rows m.0 m.1 in
        (m.0, f.0, not-true (is_dropped work.dropped m.0) f.1, m.2)

    role-id : (row : KeyRow) (o : Option RoleWork) → id_of (with_role row o) ≡ id_of row
    role-id row None = refl
    role-id row (Some r) = refl

    -- Two keys of one identifier are one.
    all-same : (a b : KeyRow) → Contains (all_keys keys) a → Contains (all_keys keys) b
        → id_of a ≡ id_of b → a ≡ b
    all-same a b c d same =
        elim (Contains-append_cases keys.kept keys.fresh a c) [
          | inl left ↦ elim (Contains-append_cases keys.kept keys.fresh b d) [
            | inl right ↦ both left right
            | inr new ↦ absurd (one a left b new same)
          ]
          | inr left ↦ elim (Contains-append_cases keys.kept keys.fresh b d) [
            | inl right ↦ absurd (one b right a left (sym same))
            | inr right ↦ fresh-same (map id_of rows) keys.fresh new_apart a b left right same
          ]
        ]
      where
        both : Contains keys.kept a → Contains keys.kept b → a ≡ b
        both left right =
            let x = kept-from a left in
            let y = kept-from b right in
            let ids : id_of x.0 ≡ id_of y.0 =
            sym (role-id x.0 (rowed.role_of work.roles x.0)) ∙ (ap id_of x.3 ∙ (same
            ∙ (sym (ap id_of y.3) ∙ role-id y.0 (rowed.role_of work.roles y.0)))) in
            let e : x.0 ≡ y.0 = apart-same rows x.0 y.0 apart x.1 y.1 ids in
            sym x.3 ∙ (ap (λ (r : KeyRow). with_role r (rowed.role_of work.roles r)) e ∙ y.3)

        one : (k : KeyRow) → Contains keys.kept k → (f : KeyRow) → Contains keys.fresh f
            → id_of k ≡ id_of f → ⊥
        one k left f right e =
            let x = kept-from k left in
            apart-ids (map id_of rows) keys.fresh new_apart f right (id_of x.0)
            (into-map id_of rows x.0 x.1)
            (sym (role-id x.0 (rowed.role_of work.roles x.0)) ∙ (ap id_of x.3 ∙ e))

    -- ---- the key of a next one

    abbrev IsOf : NextKey → KeyRow → Type 0
    IsOf = IsKeyOf rows keys

    named-live : (id : KeyId) (k : KeyRow) → Contains (all_keys keys) k → id_of k ≡ id.bytes
        → key_named keys (Live id) ≡ Some k
    named-live id k c same =
        let test : KeyRow → Bool = λ row. bytes_eq (id_of row) id.bytes in
        let found = is-found test (all_keys keys) k c ((bytes_eq-Decides (id_of k) id.bytes).1 same) in
        let f = found-in test (all_keys keys) found.0 found.1 in
        found.1 ∙ ap (λ (r : KeyRow). Some r)
        (all-same found.0 k f.0 c
        ((bytes_eq-Decides (id_of found.0) id.bytes).0 f.1 ∙ sym same))

    in-fresh : (f : KeyRow) → Contains keys.fresh f → Contains (all_keys keys) f
    in-fresh f c = Contains-append_right keys.kept keys.fresh f c

    -- What a key that was made was made for.
    record IsMadeFor (f : KeyRow) : Type 0 where
      new : NewKey
      next : NextKey
      inside : Contains nexts next
      asks : new_key_of next ≡ Some new
      row : f ≡ fresh_row new f.key

    fresh-from : (f : KeyRow) → Contains keys.fresh f → IsMadeFor f
    fresh-from f c =
        let m = made-for fresh.news fresh.keys f
        (subst (λ (l : List KeyRow). Contains l f) fresh.rows c) in
        let inside : Contains work.new_keys m.0 =
        Contains-permutation fresh.news work.new_keys m.0
        (IsPermutation-sym work.new_keys fresh.news fresh.by_desk.permutation) m.2 in
        let n = from-filter_map new_key_of nexts m.0
        (subst (λ (l : List NewKey). Contains l m.0) asked inside) in
        record {
          new = m.0;
          next = n.0;
          inside = n.1;
          asks = n.2;
          row = m.3 ∙ ap (fresh_row m.0) (sym (ap (λ (r : KeyRow). r.key) m.3));
        }

    fresh-made : (next : NextKey) → Contains nexts next → (new : NewKey) → new_key_of next ≡ Some new
        → (f : KeyRow) × Contains keys.fresh f × (f.desk ≡ new.desk)
    fresh-made next c new asks =
        let inside : Contains work.new_keys new = subst (λ (l : List NewKey). Contains l new) (sym asked)
        (into-filter_map new_key_of nexts next new c asks) in
        let made = is-made fresh.news fresh.keys new fresh.each
        (Contains-permutation work.new_keys fresh.news new fresh.by_desk.permutation inside) in (
          fresh_row new made.0,
          subst (λ (l : List KeyRow). Contains l (fresh_row new made.0)) (sym fresh.rows) made.1,
          refl,
        )

    fresh-new : (f : KeyRow) → Contains keys.fresh f → All (λ live. id_of live ≢ id_of f) rows
    fresh-new f c = λ k d inside.
        apart-ids (map id_of rows) keys.fresh new_apart f c (id_of (get_or rows k d))
        (into-map id_of rows (get_or rows k d) (Contains-get_or rows k d inside))

    key-by : (next : NextKey) → Contains nexts next → (name : KeyName) → next.name ≡ name
        → IsFromBy rows next name → (key : KeyRow) × IsOf next key
    key-by next c (Live id) name is =
        let key : KeyRow = carried is.row next in
        let inside : Contains (all_keys keys) key =
        Contains-append_left keys.kept keys.fresh key (kept-inside next c id name is) in (
          key,
          record {
            among = inside;
            named = ap (key_named keys) name ∙ named-live id key inside is.named;
            is = subst (λ (n : KeyName). IsNextBy rows next n key) (sym name) (goes next c id name is);
            desk = is.desk;
            role = refl;
          },
        )
    key-by next c (Fresh desk) name is =
        let new : NewKey = record {
          desk = desk;
          signer = next.signer;
          role = next.role;
          since = next.since;
          done = next.done;
        } in
        let asks : new_key_of next ≡ Some new = ap (new_key_by next) name in
        let f = fresh-made next c new asks in
        let test : KeyRow → Bool = λ row. row.desk == desk in
        let found = is-found test keys.fresh f.0 f.1 (eq-eqb f.0.desk desk f.2) in
        let y = found-in test keys.fresh found.0 found.1 in
        let at : found.0.desk ≡ desk = eqb-true found.0.desk desk y.1 in
        let m = fresh-from found.0 y.0 in
        let a = asking m.next m.new m.asks in
        let made : found.0.desk ≡ m.new.desk = ap (λ (r : KeyRow). r.desk) m.row in
        let same : m.next ≡ next =
        fresh-same-next m.next next a.desk desk m.inside c a.name name (sym a.at ∙ (sym made ∙ at)) in (
          found.0,
          record {
            among = in-fresh found.0 y.0;
            named = ap (key_named keys) name ∙ found.1;
            is = subst (λ (n : KeyName). IsNextBy rows next n found.0) (sym name) (record {
              made = m.new;
              asked = subst (λ (n : NextKey). new_key_of n ≡ Some m.new) same m.asks;
              row = m.row;
              apart = fresh-new found.0 y.0;
            });
            desk = at ∙ is;
            role = ap (λ (r : KeyRow). r.role) m.row ∙ (a.role ∙ ap (λ (n : NextKey). n.role) same);
          },
        )

    beside : (list : List KeyRow) × Sides IsOf nexts list
    beside = sides-from IsOf nexts (λ next c.
        key-by next c next.name refl (each-at (IsFrom rows) nexts next from c))

    abbrev next_rows : List KeyRow
    next_rows = beside.0

    -- ---- all of them

    next-each : AreEach rows nexts next_rows
    next-each = by nexts next_rows beside.1
      where
        by : (xs : List NextKey) (ys : List KeyRow) → Sides IsOf xs ys → AreEach rows xs ys
        by [] [] sides = tt
        by [] (y ∷ ys) sides = absurd sides
        by (x ∷ xs) [] sides = absurd sides
        by (x ∷ xs) (y ∷ ys) sides = (sides.0.is, by xs ys sides.1)

    fresh-desk : (desk : ℕ) (f : KeyRow) → key_named keys (Fresh desk) ≡ Some f → f.desk ≡ desk
    fresh-desk desk f e =
        eqb-true f.desk desk (found-in (λ (row : KeyRow). row.desk == desk) keys.fresh f e).1

    -- Keys of two names have two identifiers.
    names-apart : (a b : NextKey) (one two : KeyName) (k l : KeyRow) → AreOther one two
        → IsNextBy rows a one k → IsNextBy rows b two l
        → key_named keys one ≡ Some k → key_named keys two ≡ Some l → id_of k ≢ id_of l
    names-apart a b (Live i) (Live j) k l other first second c d = λ same.
        other (sym first.named ∙ (sym (ap id_of first.same)
        ∙ (same ∙ (ap id_of second.same ∙ second.named))))
    names-apart a b (Live i) (Fresh desk) k l other first second c d = λ same.
        All-contains (λ (r : KeyRow). id_of r ≢ id_of l) rows first.row second.apart first.live
        (sym (ap id_of first.same) ∙ same)
    names-apart a b (Fresh desk) (Live j) k l other first second c d = λ same.
        All-contains (λ (r : KeyRow). id_of r ≢ id_of k) rows second.row first.apart second.live
        (sym (ap id_of second.same) ∙ sym same)
    names-apart a b (Fresh desk) (Fresh more) k l other first second c d = λ same.
        let inside : Contains keys.fresh k =
        (found-in (λ (row : KeyRow). row.desk == desk) keys.fresh k c).0 in
        let outside : Contains keys.fresh l =
        (found-in (λ (row : KeyRow). row.desk == more) keys.fresh l d).0 in
        let is : k ≡ l = fresh-same (map id_of rows) keys.fresh new_apart k l inside outside same in
        other (sym (fresh-desk desk k c) ∙ (ap (λ (r : KeyRow). r.desk) is ∙ fresh-desk more l d))

    next-twos : Twos (λ (k l : KeyRow). id_of k ≢ id_of l) next_rows
    next-twos = twos-sides IsOf IsBefore (λ (k l : KeyRow). id_of k ≢ id_of l) nexts next_rows
        (λ x y k l r one two.
        names-apart x y x.name y.name k l r.other one.is two.is one.named two.named)
        beside.1 rise

    next-apart : AllPairs (λ k l. id_of k ≢ id_of l) next_rows
    next-apart = twos-pairs (λ (k l : KeyRow). id_of k ≢ id_of l) next_rows next-twos

    fresh-desks : Twos (λ (f g : KeyRow). f.desk ≢ g.desk) keys.fresh
    fresh-desks =
        subst (λ (l : List KeyRow). Twos (λ (f g : KeyRow). f.desk ≢ g.desk) l) (sym fresh.rows)
        (fresh-twos work.new_keys fresh.news fresh.keys fresh.by_desk.permutation
        (subst (λ (l : List NewKey). Twos (λ (a b : NewKey). a.desk ≢ b.desk) l) (sym asked)
        (twos-filter_map new_key_of IsBefore (λ (a b : NewKey). a.desk ≢ b.desk) nexts
        (λ x y a b r one two same.
        let first = asking x a one in
        let second = asking y b two in
        other-fresh x.name y.name first.desk second.desk first.name second.name r.other
        (sym first.at ∙ (same ∙ second.at))) rise)))

    kept-covered : (k : KeyRow) → Contains keys.kept k → Contains next_rows k
    kept-covered k c =
        let f = kept-from k c in
        let row : KeyRow = f.0 in
        let on : goes_on nexts (plan.id_of row) ≡ true =
        true_from_ne_false (goes_on nexts (plan.id_of row)) (λ none.
        let inside : Contains work.dropped (plan.id_of row) =
        subst (λ (l : List KeyId). Contains l (plan.id_of row)) (sym ended)
        (into-filter (λ (d : KeyId). not (goes_on nexts d)) (map plan.id_of rows) (plan.id_of row)
        (ap not none) (into-map plan.id_of rows row f.1)) in
        false≢true (sym f.2
        ∙ list_any-from_Any (λ (d : KeyId). bytes_eq d.bytes (id_of row)) work.dropped (
          inside.0,
          plan.id_of row,
          inside.1,
          inside.2,
          (bytes_eq-Decides (id_of row) (id_of row)).1 refl,
        ))) in
        let any = Any-from_list_any (λ (n : NextKey). is_live (plan.id_of row) n.name) nexts on in
        let side = side-of IsOf nexts next_rows any.1 beside.1 (any.0, any.2, any.3) in
        let same : id_of side.0 ≡ id_of row =
        live-id any.1 any.1.name side.0 side.2.is any.4 in
        let it : side.0 ≡ k = all-same side.0 k side.2.among
        (Contains-append_left keys.kept keys.fresh k c)
        (same ∙ (sym (role-id row (rowed.role_of work.roles row)) ∙ ap id_of f.3)) in
        subst (λ (r : KeyRow). Contains next_rows r) it side.1
      where
        live-id : (next : NextKey) (name : KeyName) (key : KeyRow) → IsNextBy rows next name key
            → is_live (plan.id_of (kept-from k c).0) name ≡ true
            → id_of key ≡ id_of (kept-from k c).0
        live-id next (Live id) key is e =
            ap id_of is.same
            ∙ (is.named ∙ (bytes_eq-Decides id.bytes (id_of (kept-from k c).0)).0 e)
        live-id next (Fresh desk) key is e = absurd (false≢true e)

    fresh-covered : (f : KeyRow) → Contains keys.fresh f → Contains next_rows f
    fresh-covered f c =
        let m = fresh-from f c in
        let a = asking m.next m.new m.asks in
        let side = side-of IsOf nexts next_rows m.next beside.1 m.inside in
        let named : key_named keys (Fresh a.desk) ≡ Some side.0 =
        sym (ap (key_named keys) a.name) ∙ side.2.named in
        let inside : Contains keys.fresh side.0 =
        (found-in (λ (row : KeyRow). row.desk == a.desk) keys.fresh side.0 named).0 in
        let desk : f.desk ≡ side.0.desk =
        ap (λ (r : KeyRow). r.desk) m.row ∙ (a.at ∙ sym (fresh-desk a.desk side.0 named)) in
        let it : side.0 ≡ f = twos-same (λ (x y : KeyRow). x.desk ≢ y.desk) keys.fresh side.0 f
        fresh-desks inside c (λ apart. apart (sym desk)) (λ apart. apart desk) in
        subst (λ (r : KeyRow). Contains next_rows r) it side.1

    covered : (k : KeyRow) → Contains (all_keys keys) k → Contains next_rows k
    covered k c = elim (Contains-append_cases keys.kept keys.fresh k c) [
      | inl left ↦ kept-covered k left
      | inr right ↦ fresh-covered k right
    ]

    only : (k : KeyRow) → Contains next_rows k → Contains (all_keys keys) k
    only k c =
        each-at (Contains (all_keys keys)) next_rows k
        (each-sides IsOf (λ (n : NextKey). Unit {0}) (Contains (all_keys keys)) nexts next_rows
        (λ x a u is. is.among) beside.1 (each-from (λ (n : NextKey). Unit {0}) nexts (λ x d. tt))) c

    all-twos : Twos (λ (k l : KeyRow). id_of k ≢ id_of l) (all_keys keys)
    all-twos = twos-append (λ (k l : KeyRow). id_of k ≢ id_of l) keys.kept keys.fresh
        (subst (λ (l : List KeyRow). Twos (λ (k l : KeyRow). id_of k ≢ id_of l) l) (sym kept)
        (twos-map (λ (row : KeyRow). with_role row (rowed.role_of work.roles row))
        (λ (k l : KeyRow). id_of k ≢ id_of l) (λ (k l : KeyRow). id_of k ≢ id_of l)
        (filter (λ (row : KeyRow). not (is_dropped work.dropped row)) rows)
        (λ x y other same. other (sym (role-id x (rowed.role_of work.roles x))
        ∙ (same ∙ role-id y (rowed.role_of work.roles y))))
        (twos-filter (λ (row : KeyRow). not (is_dropped work.dropped row))
        (λ (k l : KeyRow). id_of k ≢ id_of l) rows
        (twos-from (λ (k l : KeyRow). id_of k ≢ id_of l) rows apart))))
        (fresh-ids (map id_of rows) keys.fresh new_apart)
        (λ x y c d. one-apart x c y d)
      where
        one-apart : (k : KeyRow) → Contains keys.kept k → (f : KeyRow) → Contains keys.fresh f
            → id_of k ≢ id_of f
        one-apart k left f right = λ e.
            let x = kept-from k left in
            apart-ids (map id_of rows) keys.fresh new_apart f right (id_of x.0)
            (into-map id_of rows x.0 x.1)
            (sym (role-id x.0 (rowed.role_of work.roles x.0)) ∙ (ap id_of x.3 ∙ e))

    pub paired : ArePaired rows nexts keys
    paired = record {
      list = next_rows;
      sides = beside.1;
      each = next-each;
      apart = next-apart;
      all_apart = twos-pairs (λ (k l : KeyRow). id_of k ≢ id_of l) (all_keys keys) all-twos;
      only = only;
      covered = covered;
    }
