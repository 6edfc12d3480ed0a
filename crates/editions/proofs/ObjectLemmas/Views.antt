-- What an edition tells of its keys, over the ones before it.
use Rattle.std.proofs.Common.{◌≡◌, ◌≢◌, ℕ, ◌<◌, ◌≤◌, Bool, true, false, cond, Some, List, [], ◌∷◌, ◌++◌, length, map, get_or, refl, sym, ap, subst, ◌∙◌, arith, ◌⊎◌, inl, inr}
use Rattle.std.specs.Prelude.{All, AllPairs, Contains}
use Rattle.std.specs.Str.{bytes_eq}
use Rattle.std.proofs.lemmas.Bool.{cases_order}
use Rattle.std.proofs.lemmas.Option.{same_Some}
use Rattle.std.proofs.lemmas.List.{get_or_default}
use Rattle.std.proofs.lemmas.List.Elements.{All-contains}
use Rattle.std.proofs.lemmas.List.Folds.{Any-from_list_any, list_any-from_Any}
use Rattle.std.proofs.lemmas.Slice.Eq.{bytes_eq-Decides}
use Rattle.cert_obj.specs.Values.{SignedCert}
use Rattle.key_roll.specs.declared.rows.KeyRow.{KeyRow}
use Rattle.key_roll.specs.declared.work.KeyName.{KeyName}
use Rattle.key_roll.specs.declared.work.KeyName.TheVariants.{Live, Fresh}
use Rattle.pub_set.specs.Changes.{Contents}
use Rattle.issue_plan.specs.declared.keys.NextKey.{NextKey}
use Rattle.issue_plan.specs.Keys.{next_keys}
use Rattle.issue_keys.specs.Keys.{id_of}
use Rattle.editions.specs.Edition.{Edition, state_after, set_after, is_live_in}
use Rattle.editions.specs.Held.{HasCertificate}
use Rattle.editions.specs.Keys.{IsNextBy, AreEach, AreNext}
use Rattle.editions.specs.Table.{IsTable}
use Rattle.editions.specs.Wanted.{keeps_point}
use Rattle.editions.specs.Objects.{Issuance, IsNewSet}
use Rattle.editions.specs.Step.{Premises, IsStep, AreRevoked, counted}
use Rattle.items.specs.laws.ElementLaws.{none, there, first-or-rest, from-map, into-map}
use Rattle.editions.proofs.ObjectLemmas.Kept.{IsOver}
use Rattle.editions.proofs.ObjectLemmas.Standing.{left-at}
use Rattle.editions.proofs.ObjectLemmas.Given.{IsGiven, given, serial-from, serial-to, behind-to, kept_on, pointed_anew}
use Rattle.editions.proofs.ObjectLemmas.Tables.{dated}

-- ---- an edition

pub record IsView (premises : Premises) (before : List Edition) (edition : Edition) (m : Issuance)
    : Type 0 where
  pub rows : edition.rows ≡ map (counted m.plan_input m.keys m.entries) m.keys
  pub set : IsNewSet m
  pub new : m.new ≡ set_after (before ++ edition ∷ [])
  pub old : m.old ≡ set_after before
  pub table : IsTable m.old m.plan_input.issued
  pub over : IsOver m.plan_input m.keys
  pub next : AreNext (state_after before).rows (next_keys m.plan_input.basis) m.keys
  pub moment : m.plan_input.basis.moment ≡ edition.moment
  pub site : m.plan_input.site ≡ premises.site

pub record HasView (premises : Premises) (before : List Edition) (edition : Edition) : Type 0 where
  pub m : Issuance
  pub view : IsView premises before edition m
  pub revoked :
      AreRevoked (before ++ edition ∷ []) (length before) m.plan_input m.keys m.entries

pub view-of : (premises : Premises) (clock : ℕ) (before : List Edition) (edition : Edition)
    → AllPairs (λ a b. id_of a ≢ id_of b) (state_after before).rows → IsStep premises clock before edition
    → HasView premises before edition
view-of premises clock before edition apart step = record {
  m = _;
  view = record {
    rows = step.made.rows;
    set = step.made.set;
    new = refl;
    old = refl;
    table = step.made.table;
    over = record { next = step.made.next; apart = apart };
    next = step.made.next;
    moment = refl;
    site = refl;
  };
  revoked = step.made.listed;
}

-- ---- keys by their identifiers

pub apart-same : (xs : List KeyRow) (a b : KeyRow) → AllPairs (λ x y. id_of x ≢ id_of y) xs
    → Contains xs a → Contains xs b → id_of a ≡ id_of b → a ≡ b
apart-same xs a b apart one two e =
    elim (cases_order one.0 two.0) [
      | inl same ↦
          let moved : get_or xs one.0 b ≡ b = ap (λ (k : ℕ). get_or xs k b) same ∙ two.2 in
          sym one.2 ∙ (get_or_default xs one.0 a b one.1 ∙ moved)
      | inr other ↦ elim other [
        | inl less ↦ absurd (apart one.0 two.0 a less two.1
            (ap id_of one.2 ∙ (e ∙ sym (ap id_of (get_or_default xs two.0 a b two.1 ∙ two.2)))))
        | inr more ↦ absurd (apart two.0 one.0 b more one.1
            (ap id_of two.2 ∙ (sym e ∙ sym (ap id_of (get_or_default xs one.0 b a one.1 ∙ one.2)))))
      ]
    ]

pub live-row : (id : List ℕ) (edition : Edition) → is_live_in id edition ≡ true
    → (row : KeyRow) × Contains edition.rows row × (id_of row ≡ id)
live-row id edition live =
    let any = Any-from_list_any (λ (row : KeyRow). bytes_eq (id_of row) id) edition.rows live in
    (any.1, (any.0, any.2, any.3), (bytes_eq-Decides (id_of any.1) id).0 any.4)

pub row-live : (id : List ℕ) (edition : Edition) (row : KeyRow) → Contains edition.rows row
    → id_of row ≡ id → is_live_in id edition ≡ true
row-live id edition row c is =
    list_any-from_Any (λ (r : KeyRow). bytes_eq (id_of r) id) edition.rows
    (c.0, row, c.1, c.2, (bytes_eq-Decides (id_of row) id).1 is)

-- ---- where a key comes from

-- A live key of before, with its history.
pub record HasCome (rows : List KeyRow) (key : KeyRow) : Type 0 where
  pub row : KeyRow
  pub live : Contains rows row
  pub named : id_of row ≡ id_of key
  pub serial : key.next_serial ≡ row.next_serial
  pub number : key.number ≡ row.number
  pub this_update : key.this_update ≡ row.this_update
  pub revoked : key.revoked ≡ row.revoked

-- One that was made.
pub record IsMadeNew (rows : List KeyRow) (key : KeyRow) : Type 0 where
  pub apart : All (λ live. id_of live ≢ id_of key) rows
  pub serial : key.next_serial ≡ 1
  pub this_update : key.this_update ≡ 0
  pub revoked : key.revoked ≡ []

come-by : (rows : List KeyRow) (next : NextKey) (name : KeyName) (key : KeyRow)
    → IsNextBy rows next name key → HasCome rows key ⊎ IsMadeNew rows key
come-by rows next (Live id) key on = inl (record {
  row = on.row;
  live = on.live;
  named = ap id_of (sym on.same);
  serial = ap (λ (k : KeyRow). k.next_serial) on.same;
  number = ap (λ (k : KeyRow). k.number) on.same;
  this_update = ap (λ (k : KeyRow). k.this_update) on.same;
  revoked = ap (λ (k : KeyRow). k.revoked) on.same;
})
come-by rows next (Fresh desk) key new = inr (record {
  apart = new.apart;
  serial = ap (λ (k : KeyRow). k.next_serial) new.row;
  this_update = ap (λ (k : KeyRow). k.this_update) new.row;
  revoked = ap (λ (k : KeyRow). k.revoked) new.row;
})

pub each-come : (rows : List KeyRow) (nexts : List NextKey) (keys : List KeyRow) (key : KeyRow)
    → AreEach rows nexts keys → Contains keys key → HasCome rows key ⊎ IsMadeNew rows key
each-come rows [] [] key each c = absurd (none key c)
each-come rows [] (k ∷ keys) key each c = absurd each
each-come rows (next ∷ nexts) [] key each c = absurd each
each-come rows (next ∷ nexts) (k ∷ keys) key each c =
    elim (first-or-rest k keys key c) [
      | inl same ↦ subst (λ (x : KeyRow). HasCome rows x ⊎ IsMadeNew rows x) same
          (come-by rows next next.name k each.0)
      | inr later ↦ each-come rows nexts keys key each.1 later
    ]

-- ---- what an edition tells

module _ (premises : Premises) (before : List Edition) (edition : Edition) (m : Issuance)
    (view : IsView premises before edition m) where
  abbrev pub live_rows : List KeyRow
  live_rows = (state_after before).rows

  pub came : (key : KeyRow) → Contains m.keys key → HasCome live_rows key ⊎ IsMadeNew live_rows key
  came key c = each-come live_rows (next_keys m.plan_input.basis) m.keys key view.next.each c

  -- The key of a row of the edition.
  pub row-key : (row : KeyRow) → Contains edition.rows row
      → (key : KeyRow) × Contains m.keys key × (counted m.plan_input m.keys m.entries key ≡ row)
  row-key row c =
      from-map (counted m.plan_input m.keys m.entries) m.keys row
      (subst (λ (rows : List KeyRow). Contains rows row) view.rows c)

  pub key-row : (key : KeyRow) → Contains m.keys key
      → Contains edition.rows (counted m.plan_input m.keys m.entries key)
  key-row key c =
      subst (λ (rows : List KeyRow). Contains rows (counted m.plan_input m.keys m.entries key))
      (sym view.rows) (into-map (counted m.plan_input m.keys m.entries) m.keys key c)

  id-by : (b : Bool) (key kept made : KeyRow) → id_of kept ≡ id_of key → id_of made ≡ id_of key
      → id_of (cond b kept made) ≡ id_of key
  id-by true key kept made one two = one
  id-by false key kept made one two = two

  pub id-counted : (key : KeyRow) → id_of (counted m.plan_input m.keys m.entries key) ≡ id_of key
  id-counted key =
      id-by (keeps_point m.plan_input m.keys key) key (kept_on m key) (pointed_anew m key) refl refl

  pub id-next : (key row : KeyRow) → counted m.plan_input m.keys m.entries key ≡ row
      → id_of key ≡ id_of row
  id-next key row e = sym (id-counted key) ∙ ap id_of e

  pub same-key : (a b : KeyRow) → Contains m.keys a → Contains m.keys b → id_of a ≡ id_of b → a ≡ b
  same-key a b one two e = apart-same m.keys a b view.next.apart one two e

  -- A key that is live before and in the edition isn't new.
  pub on-row : (key : KeyRow) → Contains m.keys key → (row : KeyRow) → Contains live_rows row
      → id_of row ≡ id_of key → HasCome live_rows key
  on-row key c row live named =
      elim (came key c) [
        | inl come ↦ come
        | inr new ↦ absurd
            (All-contains (λ r. id_of r ≢ id_of key) live_rows row new.apart live named)
      ]

  -- What stood before, and stays: of a key that is live.
  pub record IsOld (uri bytes : List ℕ) (c : SignedCert) : Type 0 where
    pub issuer : KeyRow
    pub live : Contains m.keys issuer
    pub named : c.cert.issuer ≡ id_of issuer
    pub stood : set_after before uri ≡ Some bytes

  -- What is held in the edition was given in it, or stood before.
  pub given-or-old : (uri bytes : List ℕ) (c : SignedCert)
      → set_after (before ++ edition ∷ []) uri ≡ Some bytes → HasCertificate bytes c
      → IsGiven m uri c ⊎ IsOld uri bytes c
  given-or-old uri bytes c stands has =
      let left = left-at m view.over view.set uri bytes (ap (λ (set : Contents). set uri) view.new ∙ stands) in
      elim (left.3) [
        | inl put ↦ inl (subst (λ (u : List ℕ). IsGiven m u c) left.2 (given m left.0 bytes c put has))
        | inr old ↦
            let row = old.fit.row in
            let at = view.table.each row old.fit.among in
            let same : at.0 ≡ bytes = same_Some at.0 bytes
            (sym at.1 ∙ (ap m.old old.fit.at ∙ old.stood)) in
            let says = dated at.0 row row.what c at.2.told
            (subst (λ (b : List ℕ). HasCertificate b c) (sym same) has) in
            inr (record {
              issuer = left.0.issuer;
              live = old.live;
              named = sym says.issuer ∙ old.fit.issuer;
              stood = ap (λ (set : Contents). set uri) (sym view.old) ∙ (ap m.old (sym left.2) ∙ old.stood);
            })
      ]

  -- The key that issued it is live either way.
  pub record HasIssuer (c : SignedCert) : Type 0 where
    pub issuer : KeyRow
    pub live : Contains m.keys issuer
    pub named : c.cert.issuer ≡ id_of issuer

  pub issuer-of : (uri bytes : List ℕ) (c : SignedCert)
      → set_after (before ++ edition ∷ []) uri ≡ Some bytes → HasCertificate bytes c → HasIssuer c
  issuer-of uri bytes c stands has = elim (given-or-old uri bytes c stands has) [
    | inl given ↦ record { issuer = given.issuer; live = given.live; named = given.named }
    | inr old ↦ record { issuer = old.issuer; live = old.live; named = old.named }
  ]

  -- What is given in the edition has a serial that the key gave in it.
  pub given-from : (uri : List ℕ) (c : SignedCert) (key : KeyRow) → IsGiven m uri c → Contains m.keys key
      → id_of key ≡ c.cert.issuer → key.next_serial ≤ c.cert.serial
  given-from uri c key is live named =
      let same : is.issuer ≡ key = same-key is.issuer key is.live live (sym is.named ∙ sym named) in
      subst (λ (k : KeyRow). k.next_serial ≤ c.cert.serial) same
      (serial-from m uri is.issuer c.cert.serial is.serial)

  pub given-to : (uri : List ℕ) (c : SignedCert) (row : KeyRow) → IsGiven m uri c → Contains edition.rows row
      → id_of row ≡ c.cert.issuer → c.cert.serial < row.next_serial
  given-to uri c row is inside named =
      let key = row-key row inside in
      let same : is.issuer ≡ key.0 = same-key is.issuer key.0 is.live key.1
      (sym is.named ∙ (sym named ∙ sym (id-next key.0 row key.2))) in
      subst (λ (k : KeyRow). c.cert.serial < k.next_serial)
      (ap (counted m.plan_input m.keys m.entries) same ∙ key.2)
      (serial-to m uri is.issuer c.cert.serial is.serial)

  -- A serial below the next ones of the key before is below its next one in the edition.
  pub carried : (id : List ℕ) (n : ℕ) (key : KeyRow) → Contains m.keys key → id_of key ≡ id
      → (row : KeyRow) → Contains live_rows row → id_of row ≡ id
      → ((r : KeyRow) → Contains live_rows r → id_of r ≡ id → n < r.next_serial)
      → n < key.next_serial
  carried id n key live named row there is below =
      let come = on-row key live row there (is ∙ sym named) in
      let less = below come.row come.live (come.named ∙ named) in
      let same = come.serial in
      omega (arith, less, same)

  -- The next serial of a row is no less than that of its key.
  pub row-above : (id : List ℕ) (n : ℕ) (row : KeyRow) → Contains edition.rows row → id_of row ≡ id
      → ((key : KeyRow) → Contains m.keys key → id_of key ≡ id → n < key.next_serial)
      → n < row.next_serial
  row-above id n row c is above =
      let key = row-key row c in
      let less = above key.0 key.1 (id-next key.0 row key.2 ∙ is) in
      let most = behind-to m key.0 in
      let same : (counted m.plan_input m.keys m.entries key.0).next_serial ≡ row.next_serial =
      ap (λ (k : KeyRow). k.next_serial) key.2 in
      omega (arith, less, most, same)
