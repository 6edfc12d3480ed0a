-- The edition that made a key's CRL and its manifest, since which what the key issued is the same.
use Rattle.std.proofs.Common.{◌≡◌, ℕ, zero, suc, ◌≤◌, Bool, true, false, Some, List, [], ◌∷◌, ◌++◌, take, refl, sym, ap, subst, ◌∙◌, arith, inl, inr}
use Rattle.std.specs.Prelude.{Contains, is_some}
use Rattle.std.specs.List.{slice_get}
use Rattle.std.proofs.lemmas.Bool.{cases_eq, true≢false}
use Rattle.std.proofs.lemmas.Option.{same_Some, none-some, slice_get_within}
use Rattle.key_ids.specs.Uris.{Bases, crl_uri}
use Rattle.key_roll.specs.declared.rows.KeyRow.{KeyRow}
use Rattle.cert_obj.specs.Values.{SignedCert}
use Rattle.pub_set.specs.Changes.{Contents}
use Rattle.entitle.specs.Certified.{names_of}
use Rattle.issue_keys.specs.Keys.{id_of}
use Rattle.issue_drafts.specs.Publishers.{name_at}
use Rattle.issue_drafts.specs.Drafts.{Draft}
use Rattle.editions.specs.Edition.{Edition, set_after, is_live_in, IsInLife}
use Rattle.editions.specs.Held.{HasCertificate, Holds}
use Rattle.editions.specs.Wanted.{all_objects, keeps_point}
use Rattle.editions.specs.Objects.{Issuance}
use Rattle.editions.specs.Step.{Premises, AreSteps, counted}
use Rattle.editions.proofs.ObjectLemmas.Fitting.{KeepsFiles, keeps-files}
use Rattle.editions.proofs.ObjectLemmas.Standing.{left-at, files-stay}
use Rattle.editions.proofs.ObjectLemmas.Given.{issued-by, kept_on, pointed_anew, counted-kept, counted-anew}
use Rattle.editions.proofs.ObjectLemmas.Tables.{dated}
use Rattle.editions.proofs.ObjectLemmas.Views.{row-live, row-key, key-row, id-counted, id-next}
use Rattle.editions.proofs.ObjectLemmas.History.{there-is, set-before, seen, Stands, now, stands-held, held-stands}
use Rattle.editions.proofs.ObjectLemmas.Numbers.{IsAsBefore, as-before, listing, same-crl-id, reads-crl, crl_for, crl-drafted}

module _ (premises : Premises) (editions : List Edition) (steps : AreSteps premises editions) where
  abbrev seen_m : (k : ℕ) (edition : Edition) → slice_get editions k ≡ Some edition → Issuance
  seen_m k edition there = (seen premises editions steps k edition there).m

  -- ---- a key with its point kept

  module _ (j : ℕ) (edition : Edition) (there : slice_get editions (suc j) ≡ Some edition) (key : KeyRow)
      (c : Contains (seen_m (suc j) edition there).keys key)
      (keeps : keeps_point (seen_m (suc j) edition there).plan_input (seen_m (suc j) edition there).keys key ≡ true) where
    abbrev w_m : Issuance
    w_m = seen_m (suc j) edition there

    abbrev id : List ℕ
    id = id_of key

    files : KeepsFiles w_m.plan_input w_m.keys key
    files =
        let view = (seen premises editions steps (suc j) edition there).view in
        keeps-files w_m.plan_input w_m.keys view.over view.table.rising key c keeps

    stay : (d : Draft) → Contains (all_objects w_m.plan_input w_m.keys) d → id_of d.issuer ≡ id
        → w_m.new d.uri ≡ w_m.old d.uri
    stay =
        let view = (seen premises editions steps (suc j) edition there).view in
        files-stay w_m view.over view.set view.table.rising key c keeps

    pub before : (e : Edition) × (slice_get editions j ≡ Some e)
    before =
        let within = slice_get_within editions (suc j) edition there in
        there-is editions j (omega (arith, within))

    old-is : (uri bytes : List ℕ) → w_m.old uri ≡ Some bytes → Stands premises editions steps j uri bytes
    old-is uri bytes stood =
        ap (λ (s : Contents). s uri) (sym (seen premises editions steps (suc j) edition there).view.old) ∙ stood

    is-old : (uri bytes : List ℕ) → Stands premises editions steps j uri bytes → w_m.old uri ≡ Some bytes
    is-old uri bytes stands =
        ap (λ (s : Contents). s uri) (seen premises editions steps (suc j) edition there).view.old ∙ stands

    new-is : (uri bytes : List ℕ) → w_m.new uri ≡ Some bytes → Stands premises editions steps (suc j) uri bytes
    new-is uri bytes stands =
        let w = seen premises editions steps (suc j) edition there in
        ap (λ (s : Contents). s uri) (sym (set-before-of w.view.new)) ∙ stands
      where
        set-before-of : w_m.new ≡ set_after (take (suc j) editions ++ edition ∷ [])
            → w_m.new ≡ set_after (take (suc (suc j)) editions)
        set-before-of e = e ∙ set-before editions (suc j) edition there

    -- What it held it holds.
    pub goes-on : (x : SignedCert) → Holds editions j id x → Holds editions (suc j) id x
    goes-on x held =
        let w = seen premises editions steps (suc j) edition there in
        let stands = stands-held premises editions steps j id x held in
        let row = w.view.table.all held.uri (ap is_some (is-old held.uri held.bytes stands)) in
        let at = w.view.table.each row.0 row.1 in
        let same : at.0 ≡ held.bytes = same_Some at.0 held.bytes
        (sym at.1 ∙ (ap w_m.old row.2 ∙ is-old held.uri held.bytes stands)) in
        let has : HasCertificate at.0 x = subst (λ (b : List ℕ). HasCertificate b x) (sym same) held.has in
        let says = dated at.0 row.0 row.0.what x at.2.told has in
        let d = files.stood row.0 row.1 (says.issuer ∙ held.issuer) in
        let kept-there : w_m.new held.uri ≡ w_m.old held.uri =
        ap w_m.new (sym row.2) ∙ (ap w_m.new (sym d.2)
        ∙ (stay d.0 d.1 d.3 ∙ (ap w_m.old d.2 ∙ ap w_m.old row.2))) in
        held-stands premises editions steps (suc j) id x held.uri held.bytes
        (new-is held.uri held.bytes (kept-there ∙ is-old held.uri held.bytes stands)) held.has held.issuer

    -- And it holds nothing else.
    pub held-before : (x : SignedCert) → Holds editions (suc j) id x → Holds editions j id x
    held-before x held =
        let w = seen premises editions steps (suc j) edition there in
        let stands = stands-held premises editions steps (suc j) id x held in
        let new : w_m.new held.uri ≡ Some held.bytes = ap (λ (s : Contents). s held.uri) w.view.new
        ∙ now premises editions steps (suc j) edition there held.uri held.bytes stands in
        let left = left-at w_m w.view.over w.view.set held.uri held.bytes new in
        let stood : w_m.old held.uri ≡ Some held.bytes = elim (left.3) [
          | inr old ↦ ap w_m.old (sym left.2) ∙ old.stood
          | inl put ↦
              let issuer : id_of left.0.issuer ≡ id =
              sym (issued-by w_m left.0 held.bytes x put held.has) ∙ held.issuer in
              ap w_m.old (sym left.2) ∙ (sym (stay left.0 left.1 issuer) ∙ (ap w_m.new left.2 ∙ new))
        ] in
        held-stands premises editions steps j id x held.uri held.bytes (old-is held.uri held.bytes stood)
        held.has held.issuer

    -- Its row was live before, and has the same point.
    pub record WasLive : Type 0 where
      pub one : KeyRow
      pub live : Contains (seen_m j before.0 before.1).keys one
      pub named : id_of one ≡ id
      pub like : IsAsBefore premises editions steps key (counted (seen_m j before.0 before.1).plan_input
          (seen_m j before.0 before.1).keys (seen_m j before.0 before.1).entries one)

    pub was-live : WasLive
    was-live =
        let w = seen premises editions steps (suc j) edition there in
        let v = seen premises editions steps j before.0 before.1 in
        let d : Draft = crl_for premises editions steps w_m key in
        let has = crl-drafted premises editions steps (suc j) edition there key c in
        elim (has.leaves) [
          | inl put ↦ absurd (true≢false (sym keeps ∙ put.point refl))
          | inr old ↦
              let l = reads-crl premises editions steps (suc j) edition there d has.bytes refl (inr old) in
              let a = listing premises editions steps j before.0 before.1 d.uri has.bytes l.0
              (old-is d.uri has.bytes old.stood) l.1 in
              let name : List ℕ = name_at (names_of v.m.plan_input.basis.configs) a.issuer.desk in
              let other : List ℕ = name_at (names_of w.m.plan_input.basis.configs) key.desk in
              let site : v.m.plan_input.site ≡ w.m.plan_input.site = v.view.site ∙ sym w.view.site in
              let ids : id_of a.issuer ≡ id = same-crl-id v.m.plan_input.site name other a.issuer key
              (sym a.at ∙ ap (λ (s : Bases). crl_uri s other (id_of key)) (sym site)) in
              record {
                one = a.issuer;
                live = a.live;
                named = ids;
                like = as-before premises editions steps j before.0 edition before.1 there a.issuer key a.live c ids;
              }
        ]

  -- ---- since when

  -- The edition at the position made the CRL of the row's key; since then the key holds the same.
  pub record HasPut (k : ℕ) (id : List ℕ) (row : KeyRow) : Type 0 where
    pub position : ℕ
    pub least : position ≤ k
    pub edition : Edition
    pub there : slice_get editions position ≡ Some edition
    pub key : KeyRow
    pub among : Contains (seen_m position edition there).keys key
    pub named : id_of key ≡ id
    pub fresh : keeps_point (seen_m position edition there).plan_input (seen_m position edition there).keys key ≡ false
    pub update : row.this_update ≡ edition.moment
    pub revoked : row.revoked ≡ (seen_m position edition there).entries key
    pub life : IsInLife id editions position k
    pub stays : (at : ℕ) → position ≤ at → at ≤ k → (x : SignedCert) → Holds editions at id x → Holds editions k id x
    pub stood : (x : SignedCert) → Holds editions k id x → Holds editions position id x

  live-in : (k : ℕ) (edition : Edition) (there : slice_get editions k ≡ Some edition) (key : KeyRow)
      → Contains (seen_m k edition there).keys key → is_live_in (id_of key) edition ≡ true
  live-in k edition there key c =
      let w = seen premises editions steps k edition there in
      row-live (id_of key) edition (counted w.m.plan_input w.m.keys w.m.entries key)
      (key-row premises (take k editions) edition w.m w.view key c)
      (id-counted premises (take k editions) edition w.m w.view key)

  -- In the edition itself.
  put-here : (k : ℕ) (edition : Edition) (there : slice_get editions k ≡ Some edition) (key : KeyRow)
      → Contains (seen_m k edition there).keys key
      → keeps_point (seen_m k edition there).plan_input (seen_m k edition there).keys key ≡ false
      → HasPut k (id_of key) (counted (seen_m k edition there).plan_input (seen_m k edition there).keys
      (seen_m k edition there).entries key)
  put-here k edition there key c isnt =
      let w = seen premises editions steps k edition there in
      let is : counted w.m.plan_input w.m.keys w.m.entries key ≡ pointed_anew w.m key = counted-anew w.m key isnt in
      record {
        position = k;
        least = omega arith;
        edition = edition;
        there = there;
        key = key;
        among = c;
        named = refl;
        fresh = isnt;
        update = ap (λ (r : KeyRow). r.this_update) is ∙ w.view.moment;
        revoked = ap (λ (r : KeyRow). r.revoked) is;
        life = record {
          ordered = omega arith;
          within = slice_get_within editions k edition there;
          unbroken = λ position x low high at.
              let same : position ≡ k = omega (arith, low, high) in
              let one : edition ≡ x = same_Some edition x
              (sym there ∙ (ap (slice_get editions) (sym same) ∙ at)) in
              subst (λ (e : Edition). is_live_in (id_of key) e ≡ true) one (live-in k edition there key c);
        };
        stays = λ at low high x held.
            let same : at ≡ k = omega (arith, low, high) in
            subst (λ (n : ℕ). Holds editions n (id_of key) x) same held;
        stood = λ x held. held;
      }

  -- Or before it.
  put-before : (j : ℕ) (edition : Edition) (there : slice_get editions (suc j) ≡ Some edition) (key : KeyRow)
      (c : Contains (seen_m (suc j) edition there).keys key)
      (keeps : keeps_point (seen_m (suc j) edition there).plan_input (seen_m (suc j) edition there).keys key ≡ true)
      (row : KeyRow) → IsAsBefore premises editions steps key row → HasPut j (id_of key) row
      → HasPut (suc j) (id_of key) (counted (seen_m (suc j) edition there).plan_input
      (seen_m (suc j) edition there).keys (seen_m (suc j) edition there).entries key)
  put-before j edition there key c keeps row like put =
      let w = seen premises editions steps (suc j) edition there in
      let is : counted w.m.plan_input w.m.keys w.m.entries key ≡ kept_on w.m key = counted-kept w.m key keeps in
      let least = put.least in
      record {
        position = put.position;
        least = omega (arith, least);
        edition = put.edition;
        there = put.there;
        key = put.key;
        among = put.among;
        named = put.named;
        fresh = put.fresh;
        update = ap (λ (r : KeyRow). r.this_update) is ∙ (like.this_update ∙ put.update);
        revoked = ap (λ (r : KeyRow). r.revoked) is ∙ (like.revoked ∙ put.revoked);
        life = record {
          ordered = omega (arith, least);
          within = slice_get_within editions (suc j) edition there;
          unbroken = λ position x low high at. elim (cases_eq position (suc j)) [
            | inl same ↦
                let one : edition ≡ x = same_Some edition x
                (sym there ∙ (ap (slice_get editions) (sym same) ∙ at)) in
                subst (λ (e : Edition). is_live_in (id_of key) e ≡ true) one (live-in (suc j) edition there key c)
            | inr apart ↦ put.life.unbroken position x low (omega (arith, high, apart)) at
          ];
        };
        stays = λ at low high x held. elim (cases_eq at (suc j)) [
          | inl same ↦ subst (λ (n : ℕ). Holds editions n (id_of key) x) same held
          | inr apart ↦ goes-on j edition there key c keeps x
              (put.stays at low (omega (arith, high, apart)) x held)
        ];
        stood = λ x held. put.stood x (held-before j edition there key c keeps x held);
      }

  has-put-by : (k : ℕ) (edition : Edition) (there : slice_get editions k ≡ Some edition) (key : KeyRow)
      (c : Contains (seen_m k edition there).keys key) (b : Bool)
      → keeps_point (seen_m k edition there).plan_input (seen_m k edition there).keys key ≡ b
      → HasPut k (id_of key) (counted (seen_m k edition there).plan_input (seen_m k edition there).keys
      (seen_m k edition there).entries key)
  has-put-by k edition there key c false isnt = put-here k edition there key c isnt
  has-put-by zero edition there key c true keeps =
      let w = seen premises editions steps zero edition there in
      let d : Draft = crl_for premises editions steps w.m key in
      let has = crl-drafted premises editions steps zero edition there key c in
      elim (has.leaves) [
        | inl put ↦ absurd (true≢false (sym keeps ∙ put.point refl))
        | inr old ↦ absurd (none-some has.bytes (ap (λ (s : Contents). s d.uri) (sym w.view.old) ∙ old.stood))
      ]
  has-put-by (suc j) edition there key c true keeps =
      let was = was-live j edition there key c keeps in
      let first = before j edition there key c keeps in
      let v = seen premises editions steps j first.0 first.1 in
      let row : KeyRow = counted v.m.plan_input v.m.keys v.m.entries was.one in
      put-before j edition there key c keeps row was.like
      (subst (λ (i : List ℕ). HasPut j i row) was.named
      (has-put-by j first.0 first.1 was.one was.live (keeps_point v.m.plan_input v.m.keys was.one) refl))

  pub has-put : (k : ℕ) (edition : Edition) (there : slice_get editions k ≡ Some edition) (row : KeyRow)
      → Contains edition.rows row → HasPut k (id_of row) row
  has-put k edition there row inside =
      let w = seen premises editions steps k edition there in
      let key = row-key premises (take k editions) edition w.m w.view row inside in
      subst (λ (i : List ℕ). HasPut k i row) (id-next premises (take k editions) edition w.m w.view key.0 row key.2)
      (subst (HasPut k (id_of key.0)) key.2
      (has-put-by k edition there key.0 key.1 (keeps_point w.m.plan_input w.m.keys key.0) refl))
