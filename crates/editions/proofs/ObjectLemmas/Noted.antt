-- What the rows of the live keys and the table note of certificates is what the editions before tell.
use Rattle.std.proofs.Common.{◌≡◌, ◌≢◌, ℕ, suc, ◌+◌, ◌<◌, ◌≤◌, Bool, true, false, cond, nat_le, Option, None, Some, List, [], ◌∷◌, ◌++◌, length, take, map, filter, refl, sym, ap, subst, ◌∙◌, arith, ◌⊎◌, inl, inr}
use Rattle.std.specs.Prelude.{Contains, is_some}
use Rattle.std.specs.List.{slice_get}
use Rattle.std.proofs.lemmas.Bool.{cases_lt, leb-true, le-leb, true≢false}
use Rattle.std.proofs.lemmas.Option.{same_Some, none-some, slice_get_within}
use Rattle.std.specs.Str.{bytes_eq}
use Rattle.std.proofs.lemmas.Slice.Eq.{bytes_eq-Decides}
use Rattle.std.proofs.lemmas.List.{length-take-le, length-append, take-take}
use Rattle.sha2.specs.Sha256.{sha256}
use Rattle.std.proofs.lemmas.List.Elements.{All-contains, Contains-append_left, Contains-append_right, Contains-append_cases}
use Rattle.key_roll.specs.declared.rows.KeyRow.{KeyRow}
use Rattle.key_roll.specs.declared.rows.RevokedRow.{RevokedRow}
use Rattle.key_roll.specs.declared.issued.IssuedRow.{IssuedRow}
use Rattle.key_ids.specs.Uris.{anchor_uri}
use Rattle.cert_obj.specs.Values.{SignedCert}
use Rattle.crl_obj.specs.Values.{CrlValue, SignedCrl}
use Rattle.rp_rules.specs.Objects.{is_anchors}
use Rattle.pub_set.specs.declared.steps.Change.TheVariants.{Put}
use Rattle.pub_set.specs.Changes.{Contents, change_at, difference}
use Rattle.issue_keys.specs.Keys.{id_of}
use Rattle.issue_drafts.specs.Revoking.{revoked_row}
use Rattle.issue_drafts.specs.Firsts.{AreFirsts}
use Rattle.editions.specs.Edition.{Edition, state_after, set_after, is_live_in, IsInLife, AreChanges}
use Rattle.editions.specs.Held.{HasCertificate, IsHeld, Holds}
use Rattle.editions.specs.Superseded.{IsCrlOf, IsSuperseded, IsEntryOf, AreSuperseded}
use Rattle.editions.specs.Table.{IsTable}
use Rattle.editions.specs.Wanted.{keeps_point}
use Rattle.editions.specs.Objects.{Issuance}
use Rattle.editions.specs.Step.{Premises, AreSteps, counted}
use Rattle.editions.specs.inner.ByRows.{is_ended, with_ended, candidates, AreListed}
use Rattle.items.specs.laws.ElementLaws.{none, from-map, into-map, from-filter, into-filter}
use Rattle.editions.proofs.ObjectLemmas.Firsts.{is-row, has-entry}
use Rattle.editions.proofs.ObjectLemmas.Given.{serial-from}
use Rattle.editions.proofs.ObjectLemmas.Numbers.{listing, HasListing, has-listing}
use Rattle.editions.proofs.ObjectLemmas.Views.{IsView, HasView, HasCome, IsMadeNew, live-row, row-live, came, row-key, key-row, id-counted, id-next, same-key, given-or-old, given-from, carried}
use Rattle.editions.proofs.ObjectLemmas.History.{there-is, take-next, rows-after, shorter, joined, seen, positive, live-at, below, own, Stands, held-stands, IsGivenAt, given-at, one-uri, stays-there}
use Rattle.editions.proofs.ObjectLemmas.Pointed.{HasPut, has-put}
use Rattle.editions.proofs.StepLemmas.Until.{superseded_until}
use Rattle.editions.proofs.ObjectLemmas.Tables.{Tells, told, dated, Ends, ends, is-ended, is-touched}
use Rattle.editions.proofs.ObjectLemmas.Crls.{HadCrl, had-crl}
use Rattle.editions.proofs.ObjectLemmas.Lasts.{HasLast, last-of, get-append, take-count, get-last, holds-now, holds-then, holds-more, holds-less, life-on, life-before}

module _ (premises : Premises) (editions : List Edition) (edition : Edition) (m : Issuance)
    (steps : AreSteps premises editions) (view : IsView premises editions edition m)
    (table : IsTable (set_after editions) m.plan_input.issued)
    (listed : AreListed m.plan_input edition.changes m.keys m.entries)
    (changes :
    AreChanges (set_after editions) (set_after (editions ++ edition ∷ [])) edition.changes) where
  abbrev more : List Edition
  more = editions ++ edition ∷ []

  abbrev count : ℕ
  count = length editions

  abbrev rows_for : KeyRow → List RevokedRow
  rows_for key = candidates m.plan_input edition.changes key

  abbrev test : KeyRow → IssuedRow → Bool
  test key = is_ended m.plan_input edition.changes key

  abbrev ended_rows : KeyRow → List RevokedRow
  ended_rows key = map (revoked_row m.plan_input.basis.moment) (filter (test key) m.plan_input.issued)

  lives : (key : KeyRow) → Contains m.keys key → is_live_in (id_of key) edition ≡ true
  lives key among =
      row-live (id_of key) edition (counted m.plan_input m.keys m.entries key)
      (key-row premises editions edition m view key among) (id-counted premises editions edition m view key)

  abbrev IsFresh : KeyRow → Type 0
  IsFresh key = keeps_point m.plan_input m.keys key ≡ false

  firsts : (key : KeyRow) → Contains m.keys key → IsFresh key → AreFirsts (rows_for key) (m.entries key)
  firsts key among fresh =
      All-contains (λ (k : KeyRow). IsFresh k → AreFirsts (rows_for k) (m.entries k)) m.keys key
      listed among fresh

  -- ---- a row that is listed

  -- It stands for a certificate that ends.
  record IsOfEnded (key : KeyRow) (entry : RevokedRow) : Type 0 where
    row : IssuedRow
    among : Contains m.plan_input.issued row
    is : Ends m.plan_input edition.changes key row
    made : revoked_row m.plan_input.basis.moment row ≡ entry

  candidate : (key : KeyRow) (entry : RevokedRow) → Contains (rows_for key) entry
      → (key.this_update ≤ entry.not_after)
      × (Contains key.revoked entry ⊎ IsOfEnded key entry)
  candidate key entry c =
      let passes : RevokedRow → Bool = λ row. nat_le key.this_update row.not_after in
      let kept = from-filter passes (with_ended m.plan_input edition.changes key) entry c in (
        leb-true key.this_update entry.not_after kept.1,
        elim (Contains-append_cases key.revoked (ended_rows key) entry kept.0) [
          | inl old ↦ inl old
          | inr new ↦
              let row = from-map (revoked_row m.plan_input.basis.moment)
              (filter (test key) m.plan_input.issued) entry new in
              let is = from-filter (test key) m.plan_input.issued row.0 row.1 in
              inr (record {
                row = row.0;
                among = is.0;
                is = ends m.plan_input edition.changes key row.0 is.1;
                made = row.2;
              })
        ],
      )

  -- What a row of the table that ends tells of.
  record HasEnded (key : KeyRow) (row : IssuedRow) : Type 0 where
    bytes : List ℕ
    there : set_after editions row.uri ≡ Some bytes
    tells : Tells bytes row
    issuer : tells.certificate.cert.issuer ≡ id_of key

  has-ended : (key : KeyRow) (row : IssuedRow) → Contains m.plan_input.issued row
      → Ends m.plan_input edition.changes key row → HasEnded key row
  has-ended key row c is =
      let at = table.each row c in
      let tells = told at.0 row row.what at.2.told is.some in
      record {
        bytes = at.0;
        there = at.1;
        tells = tells;
        issuer = sym tells.dated.issuer ∙ is.issuer;
      }

  ended-held : (key : KeyRow) (row : IssuedRow) (e : HasEnded key row)
      → IsHeld (set_after editions) (id_of key) e.tells.certificate
  ended-held key row e = record {
    uri = row.uri;
    bytes = e.bytes;
    there = e.there;
    has = e.tells.has;
    issuer = e.issuer;
  }

  -- ---- behind some editions

  module _ (last : HasLast editions) where
    abbrev seen_last : HasView premises (take last.position editions) last.edition
    seen_last = seen premises editions steps last.position last.edition last.there

    rows-last : (state_after editions).rows ≡ last.edition.rows
    rows-last =
        ap (λ (l : List Edition). (state_after l).rows) (sym last.whole)
        ∙ rows-after editions last.position last.edition last.there

    stands-last : (uri bytes : List ℕ) → set_after editions uri ≡ Some bytes
        → Stands premises editions steps last.position uri bytes
    stands-last uri bytes there =
        let next : suc last.position ≡ last.position + 1 = omega arith in
        ap (λ (n : ℕ). set_after (take n editions) uri) next
        ∙ (ap (λ (l : List Edition). set_after l uri) last.whole ∙ there)

    last-set : set_after (take (suc last.position) editions) ≡ set_after editions
    last-set =
        let next : suc last.position ≡ last.position + 1 = omega arith in
        ap (λ (n : ℕ). set_after (take n editions)) next ∙ ap (λ (l : List Edition). set_after l) last.whole

    last-within : last.position < length editions
    last-within = let next = last.next in omega (arith, next)

    holds-last : (id : List ℕ) (c : SignedCert) → IsHeld (set_after editions) id c
        → Holds editions last.position id c
    holds-last id c held =
        subst (λ (l : List Edition). IsHeld (set_after l) id c) (sym last.whole) held

    one-held : (id : List ℕ) (c : SignedCert) (one other : IsHeld (set_after editions) id c) → one.uri ≡ other.uri
    one-held id c =
        subst (λ (l : List Edition). (one other : IsHeld (set_after l) id c) → one.uri ≡ other.uri) last.whole
        (one-uri premises editions steps last.position id c last-within)

    held-by : (id : List ℕ) (c : SignedCert) → Holds editions last.position id c
        → IsHeld (set_after editions) id c
    held-by id c held = subst (λ (l : List Edition). IsHeld (set_after l) id c) last.whole held

    -- What gave a certificate that stands.
    given-last : (uri bytes : List ℕ) (c : SignedCert) → set_after editions uri ≡ Some bytes
        → HasCertificate bytes c → IsGivenAt premises editions steps last.position uri bytes c
    given-last uri bytes c there has =
        given-at premises editions steps last.position uri bytes c (stands-last uri bytes there) has

    at-site : (position : ℕ) (e : Edition) (there : slice_get editions position ≡ Some e)
        → (seen premises editions steps position e there).m.plan_input.site ≡ m.plan_input.site
    at-site position e there = (seen premises editions steps position e there).view.site ∙ sym view.site

    -- It isn't the trust anchor's own just where it doesn't stand at that one's place.
    anchor-by : (uri bytes : List ℕ) (c : SignedCert) → set_after editions uri ≡ Some bytes → HasCertificate bytes c
        → (uri ≡ anchor_uri m.plan_input.site → is_anchors c ≡ true)
        × (uri ≢ anchor_uri m.plan_input.site → is_anchors c ≡ false)
    anchor-by uri bytes c there has =
        let g = given-last uri bytes c there has in
        let least = g.least in
        let e = there-is editions g.position (omega (arith, least, last-within)) in
        let giving = g.given e.0 e.1 in
        let site = at-site g.position e.0 e.1 in (
          λ same. giving.anchor (same ∙ sym (ap anchor_uri site)),
          λ other. giving.other (λ same. other (same ∙ ap anchor_uri site)),
        )

    -- Its serial is at least 1.
    serial-some : (uri bytes : List ℕ) (c : SignedCert) → set_after editions uri ≡ Some bytes → HasCertificate bytes c
        → 1 ≤ c.cert.serial
    serial-some uri bytes c there has =
        let g = given-last uri bytes c there has in
        let least = g.least in
        let e = there-is editions g.position (omega (arith, least, last-within)) in
        let giving = g.given e.0 e.1 in
        let from = serial-from (seen premises editions steps g.position e.0 e.1).m uri giving.issuer c.cert.serial
        giving.serial in
        let some = positive premises editions steps g.position e.0 e.1 giving.issuer giving.live in
        omega (arith, from, some)

    -- What the key issued in its life until the last edition stood after that, if it is held.
    still-held : (key : KeyRow) → Contains m.keys key → (c : SignedCert) (from : ℕ)
        → IsInLife (id_of key) editions from last.position → Holds editions from (id_of key) c
        → (now : IsHeld (set_after more) (id_of key) c) → set_after editions now.uri ≡ Some now.bytes
    still-held key among c from life held now =
        let id : List ℕ = id_of key in
        elim (given-or-old premises editions edition m view now.uri now.bytes c now.there now.has) [
          | inr old ↦ old.stood
          | inl given ↦
              let live = live-row id last.edition
              (life.unbroken last.position last.edition life.ordered (omega arith) last.there) in
              let less = carried premises editions edition m view id c.cert.serial key among refl live.0
              (subst (λ (l : List KeyRow). Contains l live.0) (sym rows-last) live.1) live.2
              (λ r inside same. below premises editions steps last.position from id c life held last.edition
              last.there r (subst (λ (l : List KeyRow). Contains l r) rows-last inside) same) in
              let least = given-from premises editions edition m view now.uri c key given among (sym now.issuer) in
              absurd (omega (arith, less, least))
        ]

    held-still : (key : KeyRow) → Contains m.keys key → (c : SignedCert) (from : ℕ)
        → IsInLife (id_of key) editions from last.position → Holds editions from (id_of key) c
        → IsHeld (set_after more) (id_of key) c → Holds editions last.position (id_of key) c
    held-still key among c from life held now = holds-last (id_of key) c (record {
      uri = now.uri;
      bytes = now.bytes;
      there = still-held key among c from life held now;
      has = now.has;
      issuer = now.issuer;
    })

    -- ---- a key that goes on

    module _ (key : KeyRow) (among : Contains m.keys key) (fresh : IsFresh key)
        (come : HasCome (state_after editions).rows key) where
      abbrev id : List ℕ
      id = id_of key

      kept : Contains last.edition.rows come.row
      kept = subst (λ (l : List KeyRow). Contains l come.row) rows-last come.live

      -- The edition that made its last CRL.
      put : HasPut premises editions steps last.position id come.row
      put = subst (λ (i : List ℕ). HasPut premises editions steps last.position i come.row) come.named
          (has-put premises editions steps last.position last.edition last.there come.row kept)

      abbrev put_view : HasView premises (take put.position editions) put.edition
      put_view = seen premises editions steps put.position put.edition put.there

      updated : put.edition.moment ≡ key.this_update
      updated = sym put.update ∙ sym come.this_update

      put-within : put.position < length editions
      put-within =
          let least = put.least in
          omega (arith, least, last-within)

      noted : AreSuperseded editions put.position id key.revoked
      noted =
          let until : length (take put.position editions) ≡ put.position =
          length-take-le put.position editions (omega (arith, put-within)) in
          let entries : put_view.m.entries put.key ≡ key.revoked = sym put.revoked ∙ sym come.revoked in
          let front : List Edition = take put.position editions ++ put.edition ∷ [] in
          let base : AreSuperseded front (length (take put.position editions)) (id_of put.key)
          (put_view.m.entries put.key) =
          All-contains (λ (k : KeyRow). keeps_point put_view.m.plan_input put_view.m.keys k ≡ false
          → AreSuperseded front (length (take put.position editions))
          (id_of k) (put_view.m.entries k)) put_view.m.keys put.key
          put_view.revoked put.among put.fresh in
          let here : AreSuperseded front put.position id key.revoked =
          subst (λ (l : List RevokedRow). AreSuperseded front put.position id l) entries
          (subst (λ (i : List ℕ). AreSuperseded front put.position i (put_view.m.entries put.key)) put.named
          (subst (λ (n : ℕ). AreSuperseded front n (id_of put.key) (put_view.m.entries put.key)) until base)) in
          let next : suc put.position ≡ put.position + 1 = omega arith in
          let whole_front : take (put.position + 1) editions ≡ front =
          take-next editions put.position put.edition put.there in
          let long : length front ≡ length (take put.position editions) + 1 =
          length-append (take put.position editions) (put.edition ∷ []) in
          superseded_until front editions put.position (omega (arith, long, until)) put-within
          (sym (ap (take (put.position + 1)) whole_front)
          ∙ take-take-same put.position) id key.revoked here
        where
          take-take-same : (n : ℕ) → take (n + 1) (take (n + 1) editions) ≡ take (n + 1) editions
          take-take-same n = take-take (n + 1) (n + 1) editions (omega arith)

      key_last : (k : KeyRow) × Contains (seen_last).m.keys k
          × (counted (seen_last).m.plan_input (seen_last).m.keys (seen_last).m.entries k ≡ come.row)
      key_last = row-key premises (take last.position editions) last.edition (seen_last).m (seen_last).view come.row kept

      crl : HasListing premises editions steps last.position (seen_last).m key_last.0
      crl = has-listing premises editions steps last.position last.edition last.there key_last.0 key_last.1

      crl-stands : IsCrlOf (set_after editions) id crl.crl
      crl-stands =
          let named : id_of key_last.0 ≡ id =
          id-next premises (take last.position editions) last.edition (seen_last).m (seen_last).view key_last.0 come.row
          key_last.2 ∙ come.named in
          subst (λ (set : Contents). IsCrlOf set id crl.crl) last-set
          (subst (λ (i : List ℕ). IsCrlOf (set_after (take (suc last.position) editions)) i crl.crl) named crl.stands)

      crl-before : IsCrlOf (set_after (take count more)) id crl.crl
      crl-before =
          subst (λ (l : List Edition). IsCrlOf (set_after l) id crl.crl)
          (sym (take-count editions edition)) crl-stands

      -- Each CRL of the key that stood is of that moment.
      only-crl : (l : SignedCrl) → IsCrlOf (set_after (take count more)) id l
          → l.crl.this_update ≡ key.this_update
      only-crl l is =
          let there : set_after editions is.uri ≡ Some is.bytes =
          ap (λ (e : List Edition). set_after e is.uri) (sym (take-count editions edition)) ∙ is.there in
          let one = listing premises editions steps last.position last.edition last.there is.uri is.bytes l
          (stands-last is.uri is.bytes there) is.read in
          let row : KeyRow = counted (seen_last).m.plan_input (seen_last).m.keys (seen_last).m.entries one.issuer in
          let named : id_of one.issuer ≡ id =
          sym (id-counted premises (take last.position editions) last.edition (seen_last).m (seen_last).view one.issuer)
          ∙ (sym (ap (λ (v : CrlValue). v.issuer) one.says) ∙ is.issuer) in
          let own : id_of key_last.0 ≡ id =
          id-next premises (take last.position editions) last.edition (seen_last).m (seen_last).view key_last.0 come.row
          key_last.2 ∙ come.named in
          let same : one.issuer ≡ key_last.0 = same-key premises (take last.position editions) last.edition
          (seen_last).m (seen_last).view one.issuer key_last.0 one.live key_last.1 (named ∙ sym own) in
          ap (λ (v : CrlValue). v.this_update) one.says
          ∙ (ap (λ (k : KeyRow). (counted (seen_last).m.plan_input (seen_last).m.keys (seen_last).m.entries k).this_update)
          same ∙ (ap (λ (r : KeyRow). r.this_update) key_last.2 ∙ sym come.this_update))

      put-life : (from : ℕ) → IsInLife id editions from put.position → IsInLife id editions from last.position
      put-life from life = joined premises editions steps id from put.position last.position life put.life

      life-more : (from : ℕ) → IsInLife id editions from last.position → IsInLife id more from count
      life-more from life =
          life-on editions edition id from last.position last.next life (lives key among)

      more-held : (k : ℕ) (c : SignedCert) → k ≤ last.position → Holds editions k id c
          → Holds more k id c
      more-held k c inside held =
          let next = last.next in
          holds-more editions edition id k c (omega (arith, next, inside)) held

      -- An entry of the last CRL that still counts.
      old-entry : (entry : RevokedRow) (c : SignedCert) → IsEntryOf editions put.position id entry c
          → key.this_update ≤ entry.not_after → IsEntryOf more count id entry c
      old-entry entry c is due =
          let s = is.superseded in
          let next = last.next in
          let before = s.before in
          let least = put.least in
          let late = is.not_after in
          let moment : crl.crl.crl.this_update ≡ key.this_update = only-crl crl.crl crl-before in
          let gone-last : ¬ Holds editions last.position id c = λ held. s.gone (put.stood c held) in
          let gone : ¬ Holds more count id c = λ held.
          gone-last (held-still key among c s.earlier (put-life s.earlier s.life) s.held
          (holds-now editions edition id c held)) in
          record {
            superseded = record {
              earlier = s.earlier;
              before = omega (arith, before, next, least);
              life = life-more s.earlier (put-life s.earlier s.life);
              held = more-held s.earlier c (omega (arith, before, least)) s.held;
              gone = gone;
              previous = crl.crl;
              listed = crl-before;
              due = omega (arith, moment, due, late);
              issued = s.issued;
            };
            at = is.at;
            when = record {
              last = is.when.last;
              next = is.when.next;
              life = life-more is.when.last (put-life is.when.last is.when.life);
              held = let low = is.when.life.ordered in
                  more-held is.when.last c (omega (arith, low, least)) is.when.held;
              since = λ k low high held. elim (cases_lt k count) [
                | inl inside ↦ elim (cases_lt put.position k) [
                  | inr early ↦ is.when.since k low early (holds-less editions edition id k c inside held)
                  | inl later ↦ gone-last (put.stays k (omega (arith, later)) (omega (arith, inside, next)) c
                      (holds-less editions edition id k c inside held))
                ]
                | inr past ↦
                    let here : k ≡ count = omega (arith, high, past) in
                    gone (subst (λ (n : ℕ). Holds more n id c) here held)
              ];
            };
            by = is.by;
            there = get-append editions (edition ∷ []) is.at
                (slice_get_within editions is.at is.by is.there) ∙ is.there;
            moment = is.moment;
            serial = is.serial;
            not_after = is.not_after;
          }

      life-last : IsInLife id editions last.position last.position
      life-last =
          let next = last.next in
          record {
            ordered = omega arith;
            within = omega (arith, next);
            unbroken = λ position x least most there.
                let here : position ≡ last.position = omega (arith, least, most) in
                subst (λ (e : Edition). is_live_in id e ≡ true)
                (same_Some last.edition x
                (sym last.there ∙ (ap (slice_get editions) (sym here) ∙ there)))
                (row-live id last.edition come.row kept come.named);
          }

      -- What stands as before isn't changed.
      not-changed : (uri bytes : List ℕ) → set_after editions uri ≡ Some bytes → set_after more uri ≡ Some bytes
          → is_some (change_at edition.changes uri) ≡ true → ⊥
      not-changed uri bytes stood stands touched =
          let none : change_at edition.changes uri ≡ None =
          changes.each uri
          ∙ (ap (λ (o : Option (List ℕ)). difference uri o (set_after more uri)) stood
          ∙ (ap (difference uri (Some bytes)) stands
          ∙ ap (λ (b : Bool). cond b None (Some (Put uri bytes (Some (sha256 bytes)))))
          ((bytes_eq-Decides bytes bytes).1 refl))) in
          true≢false (sym touched ∙ ap is_some none)

      -- An entry of a certificate that ends now.
      new-entry : (entry : RevokedRow) (is : IsOfEnded key entry)
          → key.this_update ≤ entry.not_after
          → IsEntryOf more count id entry (has-ended key is.row is.among is.is).tells.certificate
      unfolding ended-held
      new-entry entry is due =
          let e = has-ended key is.row is.among is.is in
          let c : SignedCert = e.tells.certificate in
          let next = last.next in
          let held = holds-last id c (ended-held key is.row e) in
          let gone : ¬ Holds more count id c = λ now.
          let at = holds-now editions edition id c now in
          let stood = still-held key among c last.position life-last held at in
          let then : IsHeld (set_after editions) id c = record {
            uri = at.uri;
            bytes = at.bytes;
            there = stood;
            has = at.has;
            issuer = at.issuer;
          } in
          let uris : at.uri ≡ is.row.uri = one-held id c then (ended-held key is.row e) in
          let bytes : at.bytes ≡ e.bytes = same_Some at.bytes e.bytes
          (sym stood ∙ (ap (set_after editions) uris ∙ e.there)) in
          let here : set_after more is.row.uri ≡ Some e.bytes =
          ap (set_after more) (sym uris) ∙ (at.there ∙ ap (λ (b : List ℕ). Some b) bytes) in
          not-changed is.row.uri e.bytes e.there here is.is.touched in
          let moment : crl.crl.crl.this_update ≡ key.this_update = only-crl crl.crl crl-before in
          let ended : entry.not_after ≡ c.cert.not_after =
          sym (ap (λ (r : RevokedRow). r.not_after) is.made) ∙ e.tells.dated.not_after in
          record {
            superseded = record {
              earlier = last.position;
              before = omega (arith, next);
              life = life-more last.position life-last;
              held = more-held last.position c (omega arith) held;
              gone = gone;
              previous = crl.crl;
              listed = crl-before;
              due = omega (arith, moment, due, ended);
              issued = (anchor-by is.row.uri e.bytes c e.there e.tells.has).1 is.is.apart;
            };
            at = count;
            when = record {
              last = last.position;
              next = next;
              life = life-more last.position life-last;
              held = more-held last.position c (omega arith) held;
              since = λ k least most now.
                  let here : k ≡ count = omega (arith, least, most) in
                  gone (subst (λ (n : ℕ). Holds more n id c) here now);
            };
            by = edition;
            there = get-last editions edition;
            moment = sym (ap (λ (r : RevokedRow). r.revoked_at) is.made) ∙ view.moment;
            serial = sym (ap (λ (r : RevokedRow). r.serial) is.made) ∙ e.tells.dated.serial;
            not_after = ended;
          }

      each : (entry : RevokedRow) → Contains (m.entries key) entry
          → (c : SignedCert) × IsEntryOf more count id entry c
      each entry c =
          let parts = candidate key entry
          (is-row (rows_for key) (m.entries key) entry (firsts key among fresh) c) in
          elim parts.1 [
            | inl old ↦
                let was = noted.each entry old in
                (was.0, old-entry entry was.0 was.1 parts.0)
            | inr new ↦ (
              (has-ended key new.row new.among new.is).tells.certificate,
              new-entry entry new parts.0,
            )
          ]

      -- ---- what is superseded is listed

      record IsOnList (c : SignedCert) : Type 0 where
        row : RevokedRow
        inside : Contains (rows_for key) row
        same : row.serial ≡ c.cert.serial

      on-list : (c : SignedCert) (row : RevokedRow)
          → Contains (with_ended m.plan_input edition.changes key) row
          → key.this_update ≤ c.cert.not_after → row.serial ≡ c.cert.serial
          → row.not_after ≡ c.cert.not_after → IsOnList c
      on-list c row inside due serial end = record {
        row = row;
        inside = into-filter (λ r. nat_le key.this_update r.not_after)
            (with_ended m.plan_input edition.changes key) row
            (le-leb key.this_update row.not_after (omega (arith, due, end))) inside;
        same = serial;
      }

      is-due : (c : SignedCert) → IsSuperseded more count id c
          → key.this_update ≤ c.cert.not_after
      is-due c s =
          let moment = only-crl s.previous s.listed in
          let due = s.due in
          omega (arith, moment, due)

      life-then : (from : ℕ) → from ≤ last.position → IsInLife id more from count
          → IsInLife id editions from last.position
      life-then from least life =
          let next = last.next in
          life-before editions edition id from count last.position next least life (omega (arith, next))

      before-last : (c : SignedCert) (s : IsSuperseded more count id c) → s.earlier ≤ last.position
      before-last c s =
          let next = last.next in
          let before = s.before in
          omega (arith, before, next)

      held-then : (c : SignedCert) (s : IsSuperseded more count id c)
          → Holds editions s.earlier id c
      held-then c s = holds-less editions edition id s.earlier c s.before s.held

      touched : (c : SignedCert) (uri bytes : List ℕ) → set_after editions uri ≡ Some bytes
          → HasCertificate bytes c → c.cert.issuer ≡ id → ¬ Holds more count id c
          → is_some (change_at edition.changes uri) ≡ true
      touched c uri bytes there has issuer gone =
          is-touched uri bytes (change_at edition.changes uri) (set_after more uri)
          (changes.each uri
          ∙ ap (λ (o : Option (List ℕ)). difference uri o (set_after more uri)) there)
          (λ stands. gone (holds-then editions edition id c (record {
            uri = uri;
            bytes = bytes;
            there = stands;
            has = has;
            issuer = issuer;
          })))

      -- What the last edition held stands in the table.
      from-table : (c : SignedCert) (s : IsSuperseded more count id c)
          → Holds editions last.position id c → IsOnList c
      from-table c s holds =
          let h = held-by id c holds in
          let row = table.all h.uri (ap is_some h.there) in
          let at = table.each row.0 row.1 in
          let stands : set_after editions row.0.uri ≡ Some h.bytes =
          ap (set_after editions) row.2 ∙ h.there in
          let bytes : h.bytes ≡ at.0 = same_Some h.bytes at.0 (sym stands ∙ at.1) in
          let has : HasCertificate at.0 c =
          subst (λ (b : List ℕ). HasCertificate b c) bytes h.has in
          let says = dated at.0 row.0 row.0.what c at.2.told has in
          let some = serial-some row.0.uri at.0 c at.1 has in
          let serial = says.serial in
          let is : Ends m.plan_input edition.changes key row.0 = record {
            issuer = says.issuer ∙ h.issuer;
            some = λ none. omega (arith, none, serial, some);
            apart = λ same. true≢false
                (sym ((anchor-by row.0.uri at.0 c at.1 has).0 same) ∙ s.issued);
            touched = touched c row.0.uri at.0 at.1 has h.issuer s.gone;
          } in
          let made : RevokedRow = revoked_row m.plan_input.basis.moment row.0 in
          on-list c made
          (Contains-append_right key.revoked (ended_rows key) made
          (into-map (revoked_row m.plan_input.basis.moment) (filter (test key) m.plan_input.issued) row.0
          (into-filter (test key) m.plan_input.issued row.0
          (is-ended m.plan_input edition.changes key row.0 is) row.1)))
          (is-due c s) says.serial says.not_after

      -- A CRL of the key that stood before the one of its row is earlier.
      had : (from : ℕ) → from < put.position → IsInLife id editions from put.position
          → HadCrl editions id put.position key.this_update
      had from less life =
          subst (λ (n : ℕ). HadCrl editions id put.position n) updated
          (had-crl premises editions steps id from put.position put.edition put.there less life)

      -- What had ended before stands on the last CRL.
      from-notes : (c : SignedCert) (s : IsSuperseded more count id c) → s.earlier < put.position
          → ¬ Holds editions put.position id c → IsOnList c
      from-notes c s less gone =
          let whole_life = life-then s.earlier (before-last c s) s.life in
          let life = shorter id editions s.earlier last.position put.position (omega (arith, less)) put.least whole_life in
          let had = had s.earlier less life in
          let due = is-due c s in
          let earlier = had.earlier in
          let superseded : IsSuperseded editions put.position id c = record {
            earlier = s.earlier;
            before = less;
            life = life;
            held = held-then c s;
            gone = gone;
            previous = had.list;
            listed = had.stood;
            due = omega (arith, due, earlier);
            issued = s.issued;
          } in
          let entry = noted.all c superseded in
          on-list c entry.0
          (Contains-append_left key.revoked (ended_rows key) entry.0 entry.1)
          due entry.2.serial entry.2.not_after

      -- What was held in the life before that CRL: it stood then at its place, or it had ended.
      by-place : (c : SignedCert) (s : IsSuperseded more count id c) → s.earlier < put.position → IsOnList c
      by-place c s less = by (set_after (take (suc put.position) editions) first.uri) refl
        where
          first : Holds editions s.earlier id c
          first = held-then c s

          life : IsInLife id editions s.earlier put.position
          life = shorter id editions s.earlier last.position put.position (omega (arith, less)) put.least
              (life-then s.earlier (before-last c s) s.life)

          -- It would stand there.
          there-then : Holds editions put.position id c
              → set_after (take (suc put.position) editions) first.uri ≡ Some first.bytes
          there-then then = stays-there premises editions steps id c s.earlier put.position life first then put.position
              (omega (arith, less)) (omega arith)

          by-test : (bytes : List ℕ) → set_after (take (suc put.position) editions) first.uri ≡ Some bytes → (b : Bool)
              → bytes_eq bytes first.bytes ≡ b → IsOnList c
          by-test bytes was false other = from-notes c s less (λ then. true≢false
              (sym ((bytes_eq-Decides bytes first.bytes).1 (same_Some bytes first.bytes (sym was ∙ there-then then)))
              ∙ other))
          by-test bytes was true same =
              let is : bytes ≡ first.bytes = (bytes_eq-Decides bytes first.bytes).0 same in
              let then : Holds editions put.position id c = held-stands premises editions steps put.position id c first.uri
              first.bytes (was ∙ ap (λ (b : List ℕ). Some b) is) first.has first.issuer in
              from-table c s (put.stays put.position (omega arith) put.least c then)

          by : (o : Option (List ℕ)) → set_after (take (suc put.position) editions) first.uri ≡ o → IsOnList c
          by None was = from-notes c s less (λ then. none-some first.bytes (sym was ∙ there-then then))
          by (Some bytes) was = by-test bytes was (bytes_eq bytes first.bytes) refl

      all : (c : SignedCert) → IsSuperseded more count id c
          → (entry : RevokedRow) × Contains (m.entries key) entry × IsEntryOf more count id entry c
      all c s =
          let on : IsOnList c = elim (cases_lt s.earlier put.position) [
            | inl less ↦ by-place c s less
            | inr past ↦ from-table c s (put.stays s.earlier past (before-last c s) c (held-then c s))
          ] in
          let entry = has-entry (rows_for key) (m.entries key) on.row (firsts key among fresh) on.inside in
          let is = each entry.0 entry.1 in
          let other : SignedCert = is.0 in
          let t : IsSuperseded more count id other = is.1.superseded in
          let serial : c.cert.serial ≡ other.cert.serial =
          sym on.same ∙ (sym entry.2 ∙ is.1.serial) in
          let same : other ≡ c = elim (cases_lt s.earlier t.earlier) [
            | inl less ↦ sym (own premises editions steps id s.earlier t.earlier c other
                (shorter id editions s.earlier last.position t.earlier (omega (arith, less))
                (before-last other t) (life-then s.earlier (before-last c s) s.life))
                (held-then c s) (held-then other t) serial)
            | inr least ↦ own premises editions steps id t.earlier s.earlier other c
                (shorter id editions t.earlier last.position s.earlier least
                (before-last c s) (life-then t.earlier (before-last other t) t.life))
                (held-then other t) (held-then c s) (sym serial)
          ] in
          (entry.0, entry.1, subst (λ (x : SignedCert). IsEntryOf more count id entry.0 x) same is.1)

    -- ---- a new key

    no-life : (key : KeyRow) → IsMadeNew (state_after editions).rows key → (from : ℕ) → from < count
        → IsInLife (id_of key) more from count → ⊥
    no-life key new from before life =
        let next = last.next in
        let least : from ≤ last.position = omega (arith, before, next) in
        let then = life-before editions edition (id_of key) from count last.position next least life
        (omega (arith, next)) in
        let live = live-row (id_of key) last.edition
        (then.unbroken last.position last.edition least (omega arith) last.there) in
        All-contains (λ (r : KeyRow). id_of r ≢ id_of key) (state_after editions).rows live.0 new.apart
        (subst (λ (l : List KeyRow). Contains l live.0) (sym rows-last) live.1) live.2

    no-ended : (key : KeyRow) → IsMadeNew (state_after editions).rows key → (row : IssuedRow)
        → Contains m.plan_input.issued row → Ends m.plan_input edition.changes key row → ⊥
    no-ended key new row among is =
        let e = has-ended key row among is in
        let c : SignedCert = e.tells.certificate in
        let live = live-at premises editions steps last.position last.edition last.there row.uri e.bytes c
        (stands-last row.uri e.bytes e.there) e.tells.has in
        let was = live-row c.cert.issuer last.edition live in
        All-contains (λ (r : KeyRow). id_of r ≢ id_of key) (state_after editions).rows was.0 new.apart
        (subst (λ (l : List KeyRow). Contains l was.0) (sym rows-last) was.1) (was.2 ∙ e.issuer)

  -- ---- all of them

  -- A key under which nothing was issued before has no entry.
  empty : (key : KeyRow) → Contains m.keys key → IsFresh key → key.revoked ≡ []
      → ((row : IssuedRow) → Contains m.plan_input.issued row
      → Ends m.plan_input edition.changes key row → ⊥)
      → ((from : ℕ) → from < count → IsInLife (id_of key) more from count → ⊥)
      → AreSuperseded more count (id_of key) (m.entries key)
  empty key among fresh revoked ended life = record {
    rising = (firsts key among fresh).rising;
    each = λ entry c.
        let parts = candidate key entry
        (is-row (rows_for key) (m.entries key) entry (firsts key among fresh) c) in
        absurd (elim parts.1 [
          | inl old ↦ none entry (subst (λ (l : List RevokedRow). Contains l entry) revoked old)
          | inr new ↦ ended new.row new.among new.is
        ]);
    all = λ c s. absurd (life s.earlier s.before s.life);
  }

  pub superseded : (key : KeyRow) → Contains m.keys key → IsFresh key
      → AreSuperseded more count (id_of key) (m.entries key)
  superseded key among fresh =
      elim (last-of editions) [
        | inl nothing ↦
            elim (came premises editions edition m view key among) [
              | inl come ↦ absurd (none come.row (subst (λ (l : List Edition).
                  Contains (state_after l).rows come.row) nothing come.live))
              | inr new ↦ empty key among fresh new.revoked
                  (λ row c is.
                  let at = table.each row c in
                  none-some at.0
                  (subst (λ (l : List Edition). set_after l row.uri ≡ Some at.0) nothing at.1))
                  (λ from less life.
                  let none = ap (λ (l : List Edition). length l) nothing in
                  omega (arith, less, none))
            ]
        | inr last ↦
            elim (came premises editions edition m view key among) [
              | inl come ↦ record {
                rising = (firsts key among fresh).rising;
                each = each last key among fresh come;
                all = all last key among fresh come;
              }
              | inr new ↦ empty key among fresh new.revoked (no-ended last key new) (no-life last key new)
            ]
      ]
