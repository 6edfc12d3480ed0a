-- The keys of an edition are those of a tree.
use Rattle.std.proofs.Common.{◌≡◌, ◌≢◌, ℕ, ◌<◌, ◌≤◌, suc, true, false, eqb, ◌&&◌, Option, Some, List, [], ◌∷◌, length, get_or, AllPairs, refl, sym, ap, subst, ◌∙◌, inl, inr, arith}
use Rattle.std.specs.List.{slice_get}
use Rattle.std.proofs.lemmas.Bool.{and_from, eq-eqb}
use Rattle.std.proofs.lemmas.Option.{same_Some, slice_get_within, get_or_from_slice_get, slice_get-get_or}
use Rattle.res_sets.specs.declared.numbers.Family.{Family}
use Rattle.res_sets.specs.declared.holdings.Resources.{Resources}
use Rattle.res_sets.specs.Triples.{has}
use Rattle.authority_book.specs.declared.rows.NameRow.{NameRow}
use Rattle.authority_book.specs.Listed.{place_of}
use Rattle.key_ids.specs.declared.identifier.KeyId.{KeyId}
use Rattle.entitle.specs.Certified.{names_of, at_place, is_anchor, granted_to, Grant, certified, most_parents, AreCertified}
use Rattle.key_roll.specs.declared.rows.KeyRow.{KeyRow}
use Rattle.key_roll.specs.declared.rows.Role.{Role}
use Rattle.key_roll.specs.declared.rows.Role.TheVariants.{Current}
use Rattle.key_roll.specs.declared.work.KeyName.{KeyName}
use Rattle.key_roll.specs.declared.work.KeyName.TheVariants.{Live, Fresh}
use Rattle.key_roll.specs.declared.work.NewKey.{NewKey}
use Rattle.issue_plan.specs.declared.keys.NextKey.{NextKey}
use Rattle.issue_plan.specs.Keys.{Basis, row_of, next_keys}
use Rattle.key_roll.specs.Roles.{is_role}
use Rattle.issue_plan.specs.Wanted.{desk_of}
use Rattle.issue_plan.specs.Work.{new_key_by}
use Rattle.issue_keys.specs.Keys.{id_of}
use Rattle.editions.specs.Keys.{IsNextBy, AreEach, AreNext}
use Rattle.editions.specs.Names.{AreTree}
use Rattle.editions.specs.inner.KeyTree.{IsDesk, is_level, HasIssuer, IsInTree}
use Rattle.items.specs.laws.AmongLaws.{In, some-found, contains-in}
use Rattle.editions.proofs.WalkLemmas.Elements.{one-of, pairs-twos}
use Rattle.editions.proofs.WalkLemmas.Levels.{no-anchor, ComesFrom, comes-from, ComesDown, comes-down, certified-more, level-below, one-level, some-level}
use Rattle.editions.proofs.PlanLemmas.Places.{name-at, placed, has-some, holds-some}
use Rattle.editions.proofs.WalkLemmas.NextKeys.{next-is, next-current}
use Rattle.editions.proofs.PlanLemmas.There.{Names}

-- ---- sets

-- ---- desks

module _ (basis : Basis) (tree : AreTree (names_of basis.configs))
    (are : AreCertified basis.configs basis.sets) where
  abbrev names : List NameRow
  names = names_of basis.configs

  -- What a desk has is what is certified to its name.
  pub desk-has : (desk : ℕ) (name : NameRow) (is : IsDesk basis.configs basis.sets desk name) (family : Family) (number : ℕ)
      → has is.set family number ≡ certified basis.configs most_parents name.name family number
  desk-has desk name is family number =
      let inside : desk < length basis.sets = slice_get_within basis.sets desk is.set is.has in
      ap (λ (r : Resources). has r family number)
      (sym (get_or_from_slice_get basis.sets desk is.set is.set is.has))
      ∙ (are.members desk name is.set inside family number
      ∙ ap (λ (r : NameRow). certified basis.configs most_parents r.name family number)
      (get_or_from_slice_get names desk name name is.named))

  -- The place of a name to which something is certified is a desk that holds something.
  pub certified-desk : (name : List ℕ) (place : ℕ) (d : NameRow) (set : Resources) (family : Family)
      (number : ℕ) → place_of names name ≡ Some place
      → certified basis.configs most_parents name family number ≡ true
      → (row : NameRow) × (row.name ≡ name) × IsDesk basis.configs basis.sets place row
  certified-desk name place d set family number at held =
      let w = name-at names name place d at in
      let low = w.0 in
      let long = are.one_each in
      let inside : place < length basis.sets = omega (arith, low, long) in
      let some : has (get_or basis.sets place set) family number ≡ true =
      are.members place d set inside family number
      ∙ (ap (λ (n : List ℕ). certified basis.configs most_parents n family number) w.1 ∙ held) in (
        get_or names place d,
        w.1,
        record {
          named = slice_get-get_or names place d w.0;
          set = get_or basis.sets place set;
          has = slice_get-get_or basis.sets place set inside;
          some = holds-some (get_or basis.sets place set) family number some;
        },
      )

  -- What comes down to a desk's name.
  module _ (desk : ℕ) (name : NameRow) (is : IsDesk basis.configs basis.sets desk name) where
    abbrev one_held : (family : Family) × (n : ℕ) × (has is.set family n ≡ true)
    one_held = has-some is.set is.some

    abbrev family : Family
    family = one_held.0

    abbrev number : ℕ
    number = one_held.1

    held : certified basis.configs (suc 63) name.name family number ≡ true
    held = sym (desk-has desk name is family number) ∙ one_held.2

    pub level : (level : ℕ) × (level ≤ most_parents) × (is_level basis.configs level name.name ≡ true)
    level = some-level basis.configs most_parents name.name family number held

    module _ (other : desk ≢ 0) where
      no : is_anchor name.name ≡ false
      no = no-anchor names desk name tree is.named other

      down : ComesDown basis.configs 63 name.name family number
      down = comes-down basis.configs 63 name.name family number no held

      own : granted_to basis.configs name.name (slice_get basis.configs desk) ≡ Some down.grant
      own = ap (λ (o : Option ℕ). granted_to basis.configs name.name (at_place basis.configs o))
          (sym (placed names desk name tree.apart is.named)) ∙ down.is

      from : ComesFrom basis.configs (slice_get basis.configs desk) down.grant
      from = comes-from basis.configs name.name (slice_get basis.configs desk) down.grant own

      above : (row : NameRow) × (row.name ≡ down.grant.parent) × IsDesk basis.configs basis.sets from.place row
      above = certified-desk down.grant.parent from.place name is.set family number from.placed
          (certified-more basis.configs 63 down.grant.parent family number down.above)

      -- The parent's authority has each number.
      inside : (f : Family) (x : ℕ) → has is.set f x ≡ true → has above.2.set f x ≡ true
      inside f x here =
          let all : certified basis.configs (suc 63) name.name f x ≡ true =
          sym (desk-has desk name is f x) ∙ here in
          let w = comes-down basis.configs 63 name.name f x no all in
          let same : w.grant ≡ down.grant = same_Some w.grant down.grant (sym w.is ∙ down.is) in
          let up : certified basis.configs 63 down.grant.parent f x ≡ true =
          subst (λ (g : Grant). certified basis.configs 63 g.parent f x ≡ true) same w.above in
          desk-has from.place above.0 above.2 f x
          ∙ (ap (λ (n : List ℕ). certified basis.configs most_parents n f x) above.1
          ∙ certified-more basis.configs 63 down.grant.parent f x up)

      higher : (higher : ℕ) × (higher ≤ 63) × (is_level basis.configs higher down.grant.parent ≡ true)
      higher = some-level basis.configs 63 down.grant.parent family number down.above

      pub has-issuer : (keys : List KeyRow) (l : ℕ) → is_level basis.configs l name.name ≡ true
          → ((place : ℕ) (row : NameRow) → IsDesk basis.configs basis.sets place row
          → (key : KeyRow) × (row_of keys place Current ≡ Some key))
          → HasIssuer basis.configs basis.sets keys desk is.set l
      has-issuer keys l at current =
          let key = current from.place above.0 above.2 in
          record {
            above = from.place;
            parent = ap (desk_of basis.configs) from.called ∙ from.placed;
            parents_name = above.0;
            is = above.2;
            issuer = key.0;
            current = key.1;
            higher = higher.0;
            below = one-level basis.configs l (suc higher.0) name.name at
                (level-below basis.configs name.name down.grant higher.0 no down.is ∙ higher.2);
            at = ap (is_level basis.configs higher.0) above.1 ∙ higher.2;
            inside = inside;
          }

-- ---- keys

-- A key for each of the next ones.
keys-from : (rows : List KeyRow) (nexts : List NextKey) (keys : List KeyRow) → AreEach rows nexts keys
    → (key : KeyRow) → In key keys → (next : NextKey) × In next nexts × IsNextBy rows next next.name key
keys-from rows [] [] each key at = absurd at
keys-from rows [] (k ∷ keys) each key at = absurd each
keys-from rows (n ∷ nexts) [] each key at = absurd at
keys-from rows (n ∷ nexts) (k ∷ keys) each key (inl same) =
    (n, inl refl, subst (IsNextBy rows n n.name) same each.0)
keys-from rows (n ∷ nexts) (k ∷ keys) each key (inr at) =
    let w = keys-from rows nexts keys each.1 key at in (w.0, inr w.1, w.2)

keys-into : (rows : List KeyRow) (nexts : List NextKey) (keys : List KeyRow) → AreEach rows nexts keys
    → (next : NextKey) → In next nexts → (key : KeyRow) × In key keys × IsNextBy rows next next.name key
keys-into rows [] keys each next at = absurd at
keys-into rows (n ∷ nexts) [] each next at = absurd each
keys-into rows (n ∷ nexts) (k ∷ keys) each next (inl same) =
    (k, inl refl, subst (λ (m : NextKey). IsNextBy rows m m.name k) same each.0)
keys-into rows (n ∷ nexts) (k ∷ keys) each next (inr at) =
    let w = keys-into rows nexts keys each.1 next at in (w.0, inr w.1, w.2)

abbrev asked_for : NextKey → ℕ → NewKey
asked_for next desk = record {
  desk = desk;
  signer = next.signer;
  role = next.role;
  since = next.since;
  done = next.done;
}

-- A next key's desk and role are the key's.
key-like : (rows : List KeyRow) → AllPairs (λ a b. id_of a ≢ id_of b) rows → (desk : ℕ) (next : NextKey)
    (name : KeyName) (key : KeyRow) → next.name ≡ name → Names rows desk name
    → IsNextBy rows next name key → (key.desk ≡ desk) × (key.role ≡ next.role)
key-like rows apart desk next (Live id) key e names on =
    let same : on.row ≡ names.0 =
    one-of id_of rows on.row names.0 (pairs-twos (λ a b. id_of a ≢ id_of b) rows apart)
    (contains-in on.row rows on.live) names.1 (on.named ∙ ap (λ (i : KeyId). i.bytes) names.3) in (
      ap (λ (k : KeyRow). k.desk) on.same ∙ (ap (λ (k : KeyRow). k.desk) same ∙ names.2),
      ap (λ (k : KeyRow). k.role) on.same,
    )
key-like rows apart desk next (Fresh other) key e names new =
    let asked : Some (asked_for next other) ≡ Some new.made = sym (ap (new_key_by next) e) ∙ new.asked in
    let is : asked_for next other ≡ new.made = same_Some (asked_for next other) new.made asked in (
      ap (λ (k : KeyRow). k.desk) new.row ∙ (sym (ap (λ (n : NewKey). n.desk) is) ∙ names),
      ap (λ (k : KeyRow). k.role) new.row ∙ sym (ap (λ (n : NewKey). n.role) is),
    )

module _ (basis : Basis) (keys : List KeyRow) (tree : AreTree (names_of basis.configs))
    (are : AreCertified basis.configs basis.sets)
    (before : AllPairs (λ a b. id_of a ≢ id_of b) basis.rows)
    (next : AreNext basis.rows (next_keys basis) keys) where
  -- A desk that holds something has a current key.
  pub has-current : (desk : ℕ) (name : NameRow) → IsDesk basis.configs basis.sets desk name
      → (key : KeyRow) × (row_of keys desk Current ≡ Some key)
  has-current desk name is =
      let n = next-current basis desk name is in
      let k = keys-into basis.rows (next_keys basis) keys next.each n.0 n.1 in
      let w = next-is basis n.0 n.1 in
      let like = key-like basis.rows before w.0 n.0 n.0.name k.0 refl w.1.0.names k.2 in
      let desk_is : k.0.desk ≡ desk = like.0 ∙ (sym w.1.0.at ∙ n.2) in
      let role_is : is_role k.0.role Current ≡ true =
      ap (λ (r : Role). is_role r Current) like.1 ∙ n.3 in
      some-found (λ (row : KeyRow). eqb row.desk desk && is_role row.role Current) keys k.0 k.1
      (and_from (eqb k.0.desk desk) (is_role k.0.role Current) (eq-eqb k.0.desk desk desk_is) role_is)

  -- Each key is in the tree.
  pub in-tree : (key : KeyRow) → In key keys → IsInTree basis.configs basis.sets keys key
  in-tree key at =
      let k = keys-from basis.rows (next_keys basis) keys next.each key at in
      let w = next-is basis k.0 k.1 in
      let like = key-like basis.rows before w.0 k.0 k.0.name key refl w.1.0.names k.2 in
      let is : IsDesk basis.configs basis.sets key.desk w.1.1 =
      subst (λ (d : ℕ). IsDesk basis.configs basis.sets d w.1.1) (sym like.0) w.1.2 in
      let l = level basis tree are key.desk w.1.1 is in
      record {
        name = w.1.1;
        is = is;
        level = l.0;
        within = l.1;
        at = l.2;
        issuer = λ other. has-issuer basis tree are key.desk w.1.1 is other keys l.0 l.2 has-current;
      }
