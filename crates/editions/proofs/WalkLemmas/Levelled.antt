-- The keys of an edition by their levels, and the trust anchor's one key.
use Rattle.std.proofs.Common.{◌≡◌, ◌≢◌, ◌⊎◌, ℕ, ◌==◌, ◌≤◌, ◌<◌, suc, Bool, true, false, not, cond, Option, None, Some, List, [], ◌∷◌, filter, length, AllPairs, codes, slice_get, get_or, refl, sym, ap, subst, ◌∙◌, arith, inl, inr}
use Rattle.std.specs.List.{list_any}
use Rattle.std.specs.Option.{option_map_or}
use Rattle.std.proofs.lemmas.Bool.{true≢false, and_from, eqb-true, eq-eqb, not_from_false}
use Rattle.std.proofs.lemmas.Option.{same_Some, slice_get_within, slice_get_cases}
use Rattle.std.proofs.lemmas.Slice.Eq.{bytes_eq-Decides}
use Rattle.res_sets.specs.declared.numbers.Family.TheVariants.{Asn}
use Rattle.res_sets.specs.declared.holdings.Resources.{Resources}
use Rattle.key_ids.specs.Uris.{Bases, anchor_uri, file_uri, cert_uri}
use Rattle.authority_book.specs.declared.rows.NameRow.{NameRow}
use Rattle.entitle.specs.Certified.{names_of, is_anchor, most_parents, AreCertified}
use Rattle.entitle.specs.Owed.{AreOwed}
use Rattle.key_roll.specs.declared.rows.KeyRow.{KeyRow}
use Rattle.key_roll.specs.declared.rows.Role.TheVariants.{Current}
use Rattle.cert_obj.specs.Values.{CertValue, SignedCert}
use Rattle.rp_rules.specs.Objects.{certificate_in}
use Rattle.sha1.specs.Sha1.{sha1}
use Rattle.issue_values.specs.Certificates.{anchor_certificate, authority_certificate}
use Rattle.issue_plan.specs.Keys.{next_keys, row_of}
use Rattle.issue_keys.specs.Keys.{id_of}
use Rattle.issue_drafts.specs.Publishers.{name_at, is_key, publishing_of}
use Rattle.editions.specs.Keys.{AreNext}
use Rattle.editions.specs.Objects.{Issuance}
use Rattle.editions.proofs.WalkLemmas.Serving.{IsServed, certificate_made}
use Rattle.editions.specs.Names.{AreTree}
use Rattle.editions.specs.inner.KeyTree.{IsDesk, is_level, IsInTree}
use Rattle.items.specs.laws.AmongLaws.{In, in-filter, filter-in, any-in, in-any}
use Rattle.items.specs.laws.PairLaws.{Twos}
use Rattle.editions.proofs.WalkLemmas.Elements.{pairs-twos, twos-from}
use Rattle.editions.proofs.WalkLemmas.KeyTree.{has-current, certified-desk}
use Rattle.editions.proofs.WalkLemmas.Levels.{no-anchor, the-anchor, one-level}
use Rattle.editions.proofs.PlanLemmas.Places.{placed}
use Rattle.editions.proofs.WalkLemmas.Members.{Member, members, members-twos, member-of, filter-one}
use Rattle.editions.proofs.WalkLemmas.NextKeys.{row-parts}
use Rattle.issue_values.specs.Publishers.{Publishing}
use Rattle.editions.proofs.WalkLemmas.Point.{publishing}
use Rattle.editions.proofs.WalkLemmas.Homes as homes
use Rattle.editions.proofs.WalkLemmas.Seats as seats
use Rattle.editions.proofs.WalkLemmas.Files as files

key-by : (key : List ℕ) (b : Bool) (one two : CertValue) → one.key ≡ key → two.key ≡ key
    → (cond b one two).key ≡ key
key-by key true one two e f = e
key-by key false one two e f = f

pub both-ways : (a b : Bool) → (a ≡ true → b ≡ true) → (b ≡ true → a ≡ true) → a ≡ b
both-ways true b one two = sym (one refl)
both-ways false true one two = two refl
both-ways false false one two = refl

pub zero-or : (n : ℕ) → (n ≡ 0) ⊎ (n ≢ 0)
zero-or n = by (n == 0) refl
  where
    by : (b : Bool) → (n == 0) ≡ b → (n ≡ 0) ⊎ (n ≢ 0)
    by true e = inl (eqb-true n 0 e)
    by false e = inr (λ zero. true≢false (sym (eq-eqb n 0 zero) ∙ e))

module _ (m : Issuance) (tree : AreTree (names_of m.plan_input.basis.configs))
    (are : AreCertified m.plan_input.basis.configs m.plan_input.basis.sets)
    (before : AllPairs (λ a b. id_of a ≢ id_of b) m.plan_input.basis.rows)
    (next : AreNext m.plan_input.basis.rows (next_keys m.plan_input.basis) m.keys)
    (set : IsServed m) where
  abbrev pub K : Type 0
  K = Member m.keys

  abbrev names : List NameRow
  names = names_of m.plan_input.basis.configs

  abbrev pub name_of : K → List ℕ
  name_of c = name_at names c.0.desk

  abbrev pub level : ℕ → K → Bool
  level n c = is_level m.plan_input.basis.configs n (name_of c)

  abbrev in_tree : (c : K) → IsInTree m.plan_input.basis.configs m.plan_input.basis.sets m.keys c.0
  in_tree c = homes.placed m tree are before next c.0 c.1

  pub name-is : (c : K) → name_of c ≡ (in_tree c).name.name
  name-is c = ap (λ (o : Option NameRow). option_map_or (λ (n : NameRow). n.name) o []) (in_tree c).is.named

  abbrev pub own-level : (c : K) → (n : ℕ) × (n ≤ most_parents) × (level n c ≡ true)
  own-level c = (
    (in_tree c).level,
    (in_tree c).within,
    ap (is_level m.plan_input.basis.configs (in_tree c).level) (name-is c) ∙ (in_tree c).at,
  )

  -- ---- the trust anchor's key

  zero-desk : (c : K) → level 0 c ≡ true → c.0.desk ≡ 0
  zero-desk c here = by (zero-or c.0.desk)
    where
      by : (c.0.desk ≡ 0) ⊎ (c.0.desk ≢ 0) → c.0.desk ≡ 0
      by (inl zero) = zero
      by (inr other) =
          let no = no-anchor names c.0.desk (in_tree c).name tree (in_tree c).is.named other in
          absurd (true≢false (sym here ∙ (ap is_anchor (name-is c) ∙ no)))

  pub top-name : (c : K) → c.0.desk ≡ 0 → name_of c ≡ codes "ta"
  top-name c zero =
      name-is c ∙ the-anchor names (in_tree c).name tree
      (ap (slice_get names) (sym zero) ∙ (in_tree c).is.named)

  level-zero : (c : K) → c.0.desk ≡ 0 → level 0 c ≡ true
  level-zero c zero = ap is_anchor (top-name c zero) ∙ (bytes_eq-Decides (codes "ta") (codes "ta")).1 refl

  pub top-place : (c : K) → c.0.desk ≡ 0 → homes.place m tree are before next c.0 c.1
      ≡ anchor_uri m.plan_input.site
  top-place c zero =
      ap (λ (b : Bool). cond b (anchor_uri m.plan_input.site)
      (cert_uri m.plan_input.site
      (name_at names (homes.issuer m tree are before next c.0 c.1).desk) (id_of c.0)))
      (ap (λ (i : KeyRow). is_key i c.0) (homes.own-issuer m tree are before next c.0 c.1 zero)
      ∙ (bytes_eq-Decides (id_of c.0) (id_of c.0)).1 refl)

  key-says : (c : K) → c.0.desk ≡ 0
      → (seats.is_object m tree are before next set c.0 c.1).certificate.cert.key ≡ c.0.key.bytes
  key-says c zero =
      let held : Resources = homes.held m tree are before next c.0 c.1 in
      let n : ℕ = seats.serial m tree are before next set c.0 c.1 in
      let of : KeyRow → CertValue = λ r. certificate_made m (seats.made m tree are before next set c.0 c.1) r c.0
      held n in
      ap (λ (v : CertValue). v.key) (seats.is_object m tree are before next set c.0 c.1).says
      ∙ (ap (λ (r : KeyRow). (of r).key) (homes.own-issuer m tree are before next c.0 c.1 zero)
      ∙ key-by c.0.key.bytes (is_key c.0 c.0)
      (anchor_certificate m.plan_input.site (seats.made m tree are before next set c.0 c.1)
      (publishing_of (homes.w m tree are before next) (homes.ks m tree are before next) c.0) held n)
      (authority_certificate m.plan_input.site (seats.made m tree are before next set c.0 c.1)
      (publishing_of (homes.w m tree are before next) (homes.ks m tree are before next) c.0)
      (publishing_of (homes.w m tree are before next) (homes.ks m tree are before next) c.0) held n)
      refl refl)

  -- Its certificate is the trust anchor's.
  pub top-says : (c : K) → c.0.desk ≡ 0
      → (seats.is_object m tree are before next set c.0 c.1).certificate.cert
      ≡ anchor_certificate m.plan_input.site (seats.made m tree are before next set c.0 c.1)
      (publishing (homes.seat m tree are before next c.0 c.1))
      (homes.held m tree are before next c.0 c.1) (seats.serial m tree are before next set c.0 c.1)
  top-says c zero =
      let held : Resources = homes.held m tree are before next c.0 c.1 in
      let n : ℕ = seats.serial m tree are before next set c.0 c.1 in
      let pub_of : KeyRow → Publishing = λ r. publishing_of (homes.w m tree are before next)
      (homes.ks m tree are before next) r in
      let of : KeyRow → CertValue = λ r. certificate_made m (seats.made m tree are before next set c.0 c.1) r c.0
      held n in
      (seats.is_object m tree are before next set c.0 c.1).says
      ∙ (ap of (homes.own-issuer m tree are before next c.0 c.1 zero)
      ∙ ap (λ (b : Bool). cond b
      (anchor_certificate m.plan_input.site (seats.made m tree are before next set c.0 c.1) (pub_of c.0) held n)
      (authority_certificate m.plan_input.site (seats.made m tree are before next set c.0 c.1) (pub_of c.0) (pub_of c.0) held n))
      ((bytes_eq-Decides (id_of c.0) (id_of c.0)).1 refl))

  -- Two keys of the trust anchor have their certificates at one place.
  one-top : (a b : K) → a.0.desk ≡ 0 → b.0.desk ≡ 0 → id_of a.0 ≡ id_of b.0
  one-top a b zero also =
      let one = seats.left m tree are before next set a.0 a.1 in
      let two = seats.left m tree are before next set b.0 b.1 in
      let here : m.new (anchor_uri m.plan_input.site) ≡ Some one.0 = ap m.new (sym (top-place a zero)) ∙ one.1 in
      let there : m.new (anchor_uri m.plan_input.site) ≡ Some two.0 = ap m.new (sym (top-place b also)) ∙ two.1 in
      let bytes : one.0 ≡ two.0 = same_Some one.0 two.0 (sym here ∙ there) in
      let first = seats.is_object m tree are before next set a.0 a.1 in
      let second = seats.is_object m tree are before next set b.0 b.1 in
      let same : first.certificate ≡ second.certificate =
      same_Some first.certificate second.certificate
      (sym first.read ∙ (ap certificate_in bytes ∙ second.read)) in
      ap sha1 (sym (key-says a zero) ∙ (ap (λ (c : SignedCert). c.cert.key) same ∙ key-says b also))

  desk-zero : (row : NameRow) × IsDesk m.plan_input.basis.configs m.plan_input.basis.sets 0 row
  desk-zero =
      let anchor : NameRow = record { name = codes "ta"; signer = 0 } in
      let inside : 0 < length names = slice_get_within names 0 anchor tree.anchor in
      by inside (slice_get_cases m.plan_input.basis.sets 0).1
    where
      by : 0 < length names → (((set : Resources) × (0 < length m.plan_input.basis.sets)
          × (slice_get m.plan_input.basis.sets 0 ≡ Some set) × (get_or m.plan_input.basis.sets 0 set ≡ set))
          ⊎ ((length m.plan_input.basis.sets ≤ 0) × (slice_get m.plan_input.basis.sets 0 ≡ None)))
          → (row : NameRow) × IsDesk m.plan_input.basis.configs m.plan_input.basis.sets 0 row
      by inside (inr past) =
          let long = are.one_each in
          let low = past.0 in
          absurd (omega (arith, inside, long, low))
      by inside (inl there) =
          let anchor : NameRow = record { name = codes "ta"; signer = 0 } in
          let d = certified-desk m.plan_input.basis tree are (codes "ta") 0 anchor there.0 Asn 0
          (placed names 0 anchor tree.apart tree.anchor) refl in
          (d.0, d.2)

  pub tops : (y : K) × (filter (level 0) (members m.keys) ≡ y ∷ []) × (level 0 y ≡ true)
  tops =
      let current = has-current m.plan_input.basis m.keys tree are before next 0 desk-zero.0 desk-zero.1 in
      let parts = row-parts m.keys 0 Current current.0 current.1 in
      let e = member-of current.0 m.keys parts.0 in
      let zero : e.0.0.desk ≡ 0 = ap (λ (r : KeyRow). r.desk) e.2 ∙ parts.1 in
      filter-one (level 0) e.0 (members m.keys) e.1 (level-zero e.0 zero)
      (twos-from (λ (a b : K). id_of a.0 ≢ id_of b.0)
      (λ (a b : K). level 0 a ≡ true → level 0 b ≡ true → ⊥) (members m.keys)
      (λ a b x y other p q. other (one-top a b (zero-desk a p) (zero-desk b q)))
      (members-twos (λ (a b : KeyRow). id_of a ≢ id_of b) m.keys
      (pairs-twos (λ (a b : KeyRow). id_of a ≢ id_of b) m.keys next.apart)))

  abbrev pub top : K
  top = tops.0

  pub top-first : filter (level 0) (members m.keys) ≡ top ∷ []
  top-first = tops.1

  pub top-desk : top.0.desk ≡ 0
  top-desk = zero-desk top tops.2

  pub top-current : row_of m.keys 0 Current ≡ Some top.0
  top-current =
      let current = has-current m.plan_input.basis m.keys tree are before next 0 desk-zero.0 desk-zero.1 in
      let parts = row-parts m.keys 0 Current current.0 current.1 in
      let e : K = (current.0, parts.0) in
      let same : top.0 ≡ current.0 =
      homes.one-key m tree are before next top.0 current.0 top.1 parts.0 (one-top top e top-desk parts.1) in
      current.1 ∙ ap (λ (r : KeyRow). Some r) (sym same)

  -- ---- the next level

  module _ (anchor : List ℕ) (owes : AreOwed m.plan_input.basis.configs m.plan_input.owed)
      (apart : (site : Bases) (a f : List ℕ) → anchor_uri site ≢ file_uri site a f) where
    abbrev is_below : K → K → Bool
    is_below = files.is_below m tree are before next set anchor owes apart

    abbrev issuer : K → KeyRow
    issuer c = files.issuer m tree are before next set anchor owes apart c

    -- Levels of a key and of its issuer.
    higher : (k c : K) → c.0.desk ≢ 0 → issuer c ≡ k.0 → (n : ℕ) → level (suc n) c ≡ level n k
    higher k c other is n =
        let has = homes.other-issuer m tree are before next c.0 c.1 other in
        let desk : has.0.above ≡ k.0.desk =
        sym (row-parts m.keys has.0.above Current has.0.issuer has.0.current).1
        ∙ (ap (λ (r : KeyRow). r.desk) has.1 ∙ ap (λ (r : KeyRow). r.desk) is) in
        let name : has.0.parents_name ≡ (in_tree k).name =
        same_Some has.0.parents_name (in_tree k).name
        (sym has.0.is.named ∙ (ap (slice_get names) desk ∙ (in_tree k).is.named)) in
        let at : level has.0.higher k ≡ true =
        ap (is_level m.plan_input.basis.configs has.0.higher) (name-is k)
        ∙ subst (λ (r : NameRow). is_level m.plan_input.basis.configs has.0.higher r.name ≡ true) name has.0.at in
        let own : level (in_tree c).level c ≡ true = (own-level c).2 in
        let deeper = has.0.below in
        both-ways (level (suc n) c) (level n k)
        (λ here.
        let same = one-level m.plan_input.basis.configs (suc n) (in_tree c).level (name_of c) here own in
        let down : has.0.higher ≡ n = omega (arith, same, deeper) in
        subst (λ (i : ℕ). level i k ≡ true) down at)
        (λ here.
        let same = one-level m.plan_input.basis.configs n has.0.higher (name_of k) here at in
        let up : (in_tree c).level ≡ suc n = omega (arith, same, deeper) in
        subst (λ (i : ℕ). level i c ≡ true) up own)

    below-parts : (k c : K) → is_below k c ≡ true → (issuer c ≡ k.0) × (c.0.desk ≢ 0)
    below-parts k c so = files.below-is m tree are before next set anchor owes apart k c so

    pub below-next : (n : ℕ) (c : K) → In c (members m.keys)
        → list_any (λ k. is_below k c) (filter (level n) (members m.keys)) ≡ level (suc n) c
    below-next n c inside = both-ways (list_any (λ k. is_below k c) (filter (level n) (members m.keys)))
        (level (suc n) c)
        (λ any.
        let w = in-any (λ k. is_below k c) (filter (level n) (members m.keys)) any in
        let p = below-parts w.0 c w.2 in
        higher w.0 c p.1 p.0 n ∙ (filter-in (level n) w.0 (members m.keys) w.1).1)
        (λ here. by here (zero-or c.0.desk))
      where
        by : level (suc n) c ≡ true → (c.0.desk ≡ 0) ⊎ (c.0.desk ≢ 0)
            → list_any (λ k. is_below k c) (filter (level n) (members m.keys)) ≡ true
        by here (inl zero) =
            let levels = one-level m.plan_input.basis.configs (suc n) 0 (name_of c) here (level-zero c zero) in
            absurd (omega (arith, levels))
        by here (inr other) =
            let e = member-of (issuer c) m.keys (homes.above m tree are before next c.0 c.1).live in
            let so : is_below e.0 c ≡ true =
            and_from (not (c.0.desk == 0)) (is_key (issuer c) e.0.0)
            (not_from_false (c.0.desk == 0) (no-zero other))
            (ap (is_key (issuer c)) e.2 ∙ (bytes_eq-Decides (id_of (issuer c)) (id_of (issuer c))).1 refl) in
            any-in (λ k. is_below k c) (filter (level n) (members m.keys)) e.0
            (in-filter (level n) e.0 (members m.keys) (sym (higher e.0 c other (sym e.2) n) ∙ here) e.1) so
          where
            no-zero : c.0.desk ≢ 0 → (c.0.desk == 0) ≡ false
            no-zero other = on (c.0.desk == 0) refl
              where
                on : (b : Bool) → (c.0.desk == 0) ≡ b → b ≡ false
                on true e = absurd (other (eqb-true c.0.desk 0 e))
                on false e = refl

    not-other : (b : Bool) → (b ≡ true → ⊥) → b ≡ false
    not-other true never = absurd (never refl)
    not-other false never = refl

    pub one-above : Twos (λ k l. (c : K) → In c (members m.keys) → is_below k c ≡ true → is_below l c ≡ false)
        (members m.keys)
    one-above = twos-from (λ (a b : K). id_of a.0 ≢ id_of b.0)
        (λ k l. (c : K) → In c (members m.keys) → is_below k c ≡ true → is_below l c ≡ false)
        (members m.keys)
        (λ k l x y other c inside so. not-other (is_below l c) (λ also.
        other (ap id_of (sym (below-parts k c so).0 ∙ (below-parts l c also).0))))
        (members-twos (λ (a b : KeyRow). id_of a ≢ id_of b) m.keys
        (pairs-twos (λ (a b : KeyRow). id_of a ≢ id_of b) m.keys next.apart))
