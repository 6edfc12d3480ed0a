-- Editions that each follow those before them: the serials of a key only rise.
use Rattle.std.proofs.Common.{◌≡◌, ℕ, suc, zero, ◌+◌, ◌<◌, ◌≤◌, Bool, true, false, Option, None, Some, List, [], ◌∷◌, ◌++◌, length, take, refl, sym, ap, subst, ◌∙◌, arith, ◌⊎◌, inl, inr}
use Rattle.std.specs.Prelude.{Contains, AllPairs, ◌≢◌}
use Rattle.std.specs.List.{slice_get}
use Rattle.std.specs.Str.{bytes_eq}
use Rattle.std.proofs.lemmas.Bool.{cases_eq, cases_lt, cases_order, true≢false}
use Rattle.std.proofs.lemmas.Slice.Eq.{bytes_eq-Decides}
use Rattle.std.proofs.lemmas.Option.{same_Some, none-some, slice_get_within, get_or_from_slice_get}
use Rattle.std.proofs.lemmas.List.{take_more, take_at}
use Rattle.cert_obj.specs.Values.{SignedCert}
use Rattle.key_roll.specs.declared.rows.KeyRow.{KeyRow}
use Rattle.issue_keys.specs.Keys.{id_of}
use Rattle.editions.specs.Edition.{Edition, State, after_edition, first_state, state_after, set_after, is_live_in, IsInLife}
use Rattle.editions.specs.Held.{HasCertificate, IsHeld, Holds, HaveOwnSerials}
use Rattle.pub_set.specs.Changes.{Contents}
use Rattle.editions.specs.Step.{Premises, IsStep, AreSteps, next_moment, counted}
use Rattle.items.specs.laws.ElementLaws.{none}
use Rattle.editions.proofs.ObjectLemmas.Given.{IsNumberedAt, IsBehindAt, IsGiven, own-certificate, one-place, behind-to}
use Rattle.editions.proofs.ObjectLemmas.Views.{HasView, view-of, live-row, row-live, came, row-key, key-row, id-counted, given-or-old, issuer-of, given-from, given-to, carried, row-above, same-key}
use Rattle.editions.proofs.StepLemmas.Following.{state_on}
use Rattle.editions.proofs.WalkLemmas.Rows.{step-apart, rows-apart}

-- ---- editions by their positions

pub after-last : (before : List Edition) (edition : Edition)
    → state_after (before ++ edition ∷ []) ≡ after_edition (state_after before) edition
after-last before edition = state_on first_state before (edition ∷ [])

pub take-next : (editions : List Edition) (k : ℕ) (edition : Edition)
    → slice_get editions k ≡ Some edition
    → take (k + 1) editions ≡ take k editions ++ edition ∷ []
take-next editions k edition there =
    take_more editions k edition (slice_get_within editions k edition there)
    ∙ ap (λ (e : Edition). take k editions ++ e ∷ [])
    (get_or_from_slice_get editions k edition edition there)

pub seam : (xs : List Edition) (x : Edition) → slice_get (xs ++ x ∷ []) (length xs) ≡ Some x
seam [] x = refl
seam (first ∷ xs) x = seam xs x

-- What the editions up to a position leave is what the one there does.
pub rows-after : (editions : List Edition) (k : ℕ) (edition : Edition)
    → slice_get editions k ≡ Some edition
    → (state_after (take (k + 1) editions)).rows ≡ edition.rows
rows-after editions k edition there =
    ap (λ (l : List Edition). (state_after l).rows) (take-next editions k edition there)
    ∙ ap (λ (s : State). s.rows) (after-last (take k editions) edition)

pub rows-before : (editions : List Edition) (k : ℕ) (edition : Edition)
    → slice_get editions k ≡ Some edition
    → (state_after (take (suc k) editions)).rows ≡ edition.rows
rows-before editions k edition there =
    let next : suc k ≡ k + 1 = omega arith in
    ap (λ (n : ℕ). (state_after (take n editions)).rows) next
    ∙ rows-after editions k edition there

pub set-before : (editions : List Edition) (k : ℕ) (edition : Edition)
    → slice_get editions k ≡ Some edition
    → set_after (take k editions ++ edition ∷ []) ≡ set_after (take (suc k) editions)
set-before editions k edition there =
    let next : k + 1 ≡ suc k = omega arith in
    ap (λ (l : List Edition). set_after l) (sym (take-next editions k edition there))
    ∙ ap (λ (n : ℕ). set_after (take n editions)) next

pub moment-after : (editions : List Edition) (k : ℕ) (edition : Edition)
    → slice_get editions k ≡ Some edition
    → (state_after (take (k + 1) editions)).moment ≡ edition.moment
moment-after editions k edition there =
    ap (λ (l : List Edition). (state_after l).moment) (take-next editions k edition there)
    ∙ ap (λ (s : State). s.moment) (after-last (take k editions) edition)

pub moment-before : (editions : List Edition) (k : ℕ) (edition : Edition)
    → slice_get editions k ≡ Some edition
    → (state_after (take (suc k) editions)).moment ≡ edition.moment
moment-before editions k edition there =
    let next : suc k ≡ k + 1 = omega arith in
    ap (λ (n : ℕ). (state_after (take n editions)).moment) next
    ∙ moment-after editions k edition there

pub there-is : (editions : List Edition) (k : ℕ) → k < length editions
    → (edition : Edition) × (slice_get editions k ≡ Some edition)
there-is [] k within = absurd (omega (arith, within))
there-is (edition ∷ editions) zero within = (edition, refl)
there-is (edition ∷ editions) (suc k) within = there-is editions k (omega (arith, within))

pub held-last : (editions : List Edition) (k : ℕ) (edition : Edition) (id : List ℕ) (c : SignedCert)
    → slice_get editions k ≡ Some edition → Holds editions k id c
    → IsHeld (set_after (take k editions ++ edition ∷ [])) id c
held-last editions k edition id c there held =
    subst (λ (l : List Edition). IsHeld (set_after l) id c) (take-next editions k edition there) held

later-than : (clock : ℕ) (state : State) → state.moment < next_moment clock state
later-than clock state = omega arith

-- ---- one certificate

pub same-certificate : (bytes : List ℕ) (one other : SignedCert) → HasCertificate bytes one
    → HasCertificate bytes other → one ≡ other
same-certificate bytes one other (inl e) has = own-certificate bytes one other e has
same-certificate bytes one other (inr e) (inl f) =
    sym (own-certificate bytes other one f (inr e))
same-certificate bytes one other (inr e) (inr f) = same_Some one other (sym e ∙ f)

-- ---- the life of a key

pub shorter : (id : List ℕ) (editions : List Edition) (from to other : ℕ) → from ≤ other
    → other ≤ to → IsInLife id editions from to → IsInLife id editions from other
shorter id editions from to other least most life =
    let within = life.within in
    record {
      ordered = least;
      within = omega (arith, within, most);
      unbroken = λ position edition low high there.
          life.unbroken position edition low (omega (arith, high, most)) there;
    }

module _ (premises : Premises) (editions : List Edition) (steps : AreSteps premises editions) where
  -- No two live keys before an edition have one identifier.
  before-apart : (k : ℕ) → k < length editions → AllPairs (λ a b. id_of a ≢ id_of b) (state_after (take k editions)).rows
  before-apart zero within = λ i j d less inside. absurd (omega (arith, inside))
  before-apart (suc at) within =
      let before = there-is editions at (omega (arith, within)) in
      let step = steps at before.0 before.1 in
      subst (AllPairs (λ a b. id_of a ≢ id_of b)) (sym (rows-before editions at before.0 before.1))
      (step-apart premises step.0 (take at editions) before.0 step.1)

  pub seen : (k : ℕ) (edition : Edition) → slice_get editions k ≡ Some edition
      → HasView premises (take k editions) edition
  seen k edition there =
      let step = steps k edition there in
      view-of premises step.0 (take k editions) edition (before-apart k (slice_get_within editions k edition there)) step.1

  -- Moments rise.
  pub rises : (k : ℕ) (edition : Edition) → slice_get editions k ≡ Some edition
      → (state_after (take k editions)).moment < edition.moment
  rises k edition there =
      let step = steps k edition there in
      let more = later-than step.0 (state_after (take k editions)) in
      let is = step.1.moment in
      omega (arith, more, is)

  row-positive : (k : ℕ) → k < length editions → (row : KeyRow)
      → Contains (state_after (take k editions)).rows row → 1 ≤ row.next_serial
  row-positive zero within row c = absurd (none row c)
  row-positive (suc at) within row c =
      let before = there-is editions at (omega (arith, within)) in
      let v = seen at before.0 before.1 in
      let inside : Contains before.0.rows row =
      subst (λ (l : List KeyRow). Contains l row) (rows-before editions at before.0 before.1) c in
      let key = row-key premises (take at editions) before.0 v.m v.view row inside in
      let most = behind-to v.m key.0 in
      let same = ap (λ (k : KeyRow). k.next_serial) key.2 in
      elim (came premises (take at editions) before.0 v.m v.view key.0 key.1) [
        | inr new ↦ let e = new.serial in omega (arith, e, most, same)
        | inl come ↦ let le = row-positive at (omega (arith, within)) come.row come.live in
            let e = come.serial in
            omega (arith, e, le, most, same)
      ]

  -- The next serial of a key is at least 1.
  pub positive : (k : ℕ) (edition : Edition) (there : slice_get editions k ≡ Some edition)
      (key : KeyRow) → Contains (seen k edition there).m.keys key → 1 ≤ key.next_serial
  positive k edition there key among =
      let v = seen k edition there in
      elim (came premises (take k editions) edition v.m v.view key among) [
        | inr new ↦ let e = new.serial in omega (arith, e)
        | inl come ↦ let le = row-positive k (slice_get_within editions k edition there) come.row come.live in
            let e = come.serial in
            omega (arith, e, le)
      ]

  -- ---- the serials of a key rise

  abbrev pub AreAbove : ℕ → List ℕ → ℕ → Type 0
  AreAbove n id at = (before : Edition) → slice_get editions at ≡ Some before
      → (row : KeyRow) → Contains before.rows row → id_of row ≡ id → n < row.next_serial

  under-by : (at from : ℕ) (id : List ℕ) (n : ℕ) → IsInLife id editions from (suc at)
      → from < suc at → AreAbove n id at
      → (edition : Edition) (there : slice_get editions (suc at) ≡ Some edition)
      → (key : KeyRow) → Contains (seen (suc at) edition there).m.keys key → id_of key ≡ id
      → n < key.next_serial
  under-by at from id n life less above edition there key among named =
      let v = seen (suc at) edition there in
      let within = life.within in
      let before = there-is editions at (omega (arith, within)) in
      let rows : (state_after (take (suc at) editions)).rows ≡ before.0.rows =
      rows-before editions at before.0 before.1 in
      let was = live-row id before.0
      (life.unbroken at before.0 (omega (arith, less)) (omega arith) before.1) in
      carried premises (take (suc at) editions) edition v.m v.view id n key among named was.0
      (subst (λ (l : List KeyRow). Contains l was.0) (sym rows) was.1) was.2
      (λ r inside same. above before.0 before.1 r
      (subst (λ (l : List KeyRow). Contains l r) rows inside) same)

  above-on : (to from : ℕ) (id : List ℕ) (n : ℕ) → IsInLife id editions from to → AreAbove n id from
      → AreAbove n id to
  above-on zero from id n life above =
      let ordered = life.ordered in
      let first : from ≡ 0 = omega (arith, ordered) in
      subst (AreAbove n id) first above
  above-on (suc at) from id n life above = elim (cases_eq from (suc at)) [
    | inl same ↦ subst (AreAbove n id) same above
    | inr apart ↦
        let ordered = life.ordered in
        let less : from < suc at = omega (arith, apart, ordered) in
        λ edition there row live named.
        let v = seen (suc at) edition there in
        row-above premises (take (suc at) editions) edition v.m v.view id n row live named
        (under-by at from id n life less
        (above-on at from id n (shorter id editions from (suc at) at (omega (arith, less)) (omega arith) life) above)
        edition there)
  ]

  -- So do those that it has at the beginning of a later edition.
  before-key : (to from : ℕ) (id : List ℕ) (n : ℕ) → IsInLife id editions from to → from < to → AreAbove n id from
      → (edition : Edition) (there : slice_get editions to ≡ Some edition)
      → (key : KeyRow) → Contains (seen to edition there).m.keys key → id_of key ≡ id → n < key.next_serial
  before-key zero from id n life less above edition there key among named = absurd (omega (arith, less))
  before-key (suc at) from id n life less above edition there key among named =
      under-by at from id n life less
      (above-on at from id n (shorter id editions from (suc at) at (omega (arith, less)) (omega arith) life) above)
      edition there key among named

  -- ---- which edition gave a certificate

  -- It stands after the edition at that position.
  abbrev pub Stands : ℕ → List ℕ → List ℕ → Type 0
  Stands k uri bytes = set_after (take (suc k) editions) uri ≡ Some bytes

  pub now : (k : ℕ) (edition : Edition) → slice_get editions k ≡ Some edition → (uri bytes : List ℕ) → Stands k uri bytes
      → set_after (take k editions ++ edition ∷ []) uri ≡ Some bytes
  now k edition there uri bytes stands =
      ap (λ (set : Contents). set uri) (set-before editions k edition there) ∙ stands

  -- The key of its issuer is live.
  pub live-at : (k : ℕ) (edition : Edition) → slice_get editions k ≡ Some edition → (uri bytes : List ℕ) (c : SignedCert)
      → Stands k uri bytes → HasCertificate bytes c → is_live_in c.cert.issuer edition ≡ true
  live-at k edition there uri bytes c stands has =
      let v = seen k edition there in
      let is = issuer-of premises (take k editions) edition v.m v.view uri bytes c (now k edition there uri bytes stands)
      has in
      row-live c.cert.issuer edition (counted v.m.plan_input v.m.keys v.m.entries is.issuer)
      (key-row premises (take k editions) edition v.m v.view is.issuer is.live)
      (id-counted premises (take k editions) edition v.m v.view is.issuer ∙ sym is.named)

  -- The edition at some position gave it, and it stands since then.
  pub record IsGivenAt (k : ℕ) (uri bytes : List ℕ) (c : SignedCert) : Type 0 where
    pub position : ℕ
    pub least : position ≤ k
    pub given : (edition : Edition) (there : slice_get editions position ≡ Some edition)
        → IsGiven (seen position edition there).m uri c
    pub since : (later : ℕ) → position ≤ later → later ≤ k → Stands later uri bytes

  -- Here, where it didn't stand before.
  given-here : (k : ℕ) (uri bytes : List ℕ) (c : SignedCert) → Stands k uri bytes → HasCertificate bytes c
      → (set_after (take k editions) uri ≡ Some bytes → ⊥) → IsGivenAt k uri bytes c
  given-here k uri bytes c stands has isnt = record {
    position = k;
    least = omega arith;
    given = λ edition there.
        let v = seen k edition there in
        elim (given-or-old premises (take k editions) edition v.m v.view uri bytes c
        (now k edition there uri bytes stands) has) [
          | inl made ↦ made
          | inr old ↦ absurd (isnt old.stood)
        ];
    since = λ later low high.
        let same : k ≡ later = omega (arith, low, high) in
        subst (λ (n : ℕ). Stands n uri bytes) same stands;
  }

  -- Or before.
  given-next : (j : ℕ) (uri bytes : List ℕ) (c : SignedCert) → Stands (suc j) uri bytes → HasCertificate bytes c
      → (Stands j uri bytes → IsGivenAt j uri bytes c) → IsGivenAt (suc j) uri bytes c
  given-next j uri bytes c stands has earlier = by (set_after (take (suc j) editions) uri) refl
    where
      by-test : (old : List ℕ) → set_after (take (suc j) editions) uri ≡ Some old → (b : Bool)
          → bytes_eq old bytes ≡ b → IsGivenAt (suc j) uri bytes c
      by-test old was false other = given-here (suc j) uri bytes c stands has (λ stood.
          true≢false (sym ((bytes_eq-Decides old bytes).1 (same_Some old bytes (sym was ∙ stood))) ∙ other))
      by-test old was true same =
          let is : old ≡ bytes = (bytes_eq-Decides old bytes).0 same in
          let g = earlier (was ∙ ap (λ (b : List ℕ). Some b) is) in
          let least = g.least in
          record {
            position = g.position;
            least = omega (arith, least);
            given = g.given;
            since = λ later low high. elim (cases_eq later (suc j)) [
              | inl here ↦ subst (λ (n : ℕ). Stands n uri bytes) (sym here) stands
              | inr apart ↦ g.since later low (omega (arith, high, apart))
            ];
          }

      by : (o : Option (List ℕ)) → set_after (take (suc j) editions) uri ≡ o → IsGivenAt (suc j) uri bytes c
      by None was = given-here (suc j) uri bytes c stands has (λ stood. absurd (none-some bytes (sym was ∙ stood)))
      by (Some old) was = by-test old was (bytes_eq old bytes) refl

  pub given-at : (k : ℕ) (uri bytes : List ℕ) (c : SignedCert) → Stands k uri bytes → HasCertificate bytes c
      → IsGivenAt k uri bytes c
  given-at zero uri bytes c stands has =
      given-here zero uri bytes c stands has (λ stood. absurd (none-some bytes stood))
  given-at (suc j) uri bytes c stands has =
      given-next j uri bytes c stands has (λ stood. given-at j uri bytes c stood has)

  -- The key is live since then.
  given-life : (k : ℕ) (uri bytes : List ℕ) (c : SignedCert) → k < length editions → HasCertificate bytes c
      → (g : IsGivenAt k uri bytes c) → IsInLife c.cert.issuer editions g.position k
  given-life k uri bytes c within has g = record {
    ordered = g.least;
    within = within;
    unbroken = λ position x low high there.
        live-at position x there uri bytes c (g.since position low high) has;
  }

  pub stands-held : (k : ℕ) (id : List ℕ) (c : SignedCert) (held : Holds editions k id c)
      → Stands k held.uri held.bytes
  stands-held k id c held =
      let next : suc k ≡ k + 1 = omega arith in
      ap (λ (n : ℕ). set_after (take n editions) held.uri) next ∙ held.there

  pub held-stands : (k : ℕ) (id : List ℕ) (c : SignedCert) (uri bytes : List ℕ) → Stands k uri bytes
      → HasCertificate bytes c → c.cert.issuer ≡ id → Holds editions k id c
  held-stands k id c uri bytes stands has issuer =
      let next : k + 1 ≡ suc k = omega arith in
      record {
        uri = uri;
        bytes = bytes;
        there = ap (λ (n : ℕ). set_after (take n editions) uri) next ∙ stands;
        has = has;
        issuer = issuer;
      }

  -- The same of what an edition holds, from the edition that gave it on.
  pub record HasGiven (k : ℕ) (id : List ℕ) (c : SignedCert) : Type 0 where
    pub uri : List ℕ
    pub bytes : List ℕ
    pub has : HasCertificate bytes c
    pub issuer : c.cert.issuer ≡ id
    pub at : IsGivenAt k uri bytes c
    pub life : IsInLife id editions at.position k
    pub above : AreAbove c.cert.serial id at.position

  pub given-held : (k : ℕ) (id : List ℕ) (c : SignedCert) → k < length editions → Holds editions k id c
      → HasGiven k id c
  given-held k id c within held =
      let g = given-at k held.uri held.bytes c (stands-held k id c held) held.has in
      record {
        uri = held.uri;
        bytes = held.bytes;
        has = held.has;
        issuer = held.issuer;
        at = g;
        life = subst (λ (i : List ℕ). IsInLife i editions g.position k) held.issuer
            (given-life k held.uri held.bytes c within held.has g);
        above = λ edition there row inside named.
            let v = seen g.position edition there in
            given-to premises (take g.position editions) edition v.m v.view held.uri c row (g.given edition there) inside
            (named ∙ sym held.issuer);
      }

  -- Two lives of which one goes on where the other ends.
  pub joined : (id : List ℕ) (a b c : ℕ) → IsInLife id editions a b → IsInLife id editions b c → IsInLife id editions a c
  joined id a b c one two =
      let first = one.ordered in
      let second = two.ordered in
      record {
        ordered = omega (arith, first, second);
        within = two.within;
        unbroken = λ position x low high there. elim (cases_lt position b) [
          | inl less ↦ one.unbroken position x low (omega (arith, less)) there
          | inr past ↦ two.unbroken position x past high there
        ];
      }

  from-within : (id : List ℕ) (from to : ℕ) → IsInLife id editions from to → from < length editions
  from-within id from to life =
      let within = life.within in
      let ordered = life.ordered in
      omega (arith, within, ordered)

  -- The next serials of a key are above those of what it issued in its life.
  pub below : (to from : ℕ) (id : List ℕ) (c : SignedCert) → IsInLife id editions from to
      → Holds editions from id c → AreAbove c.cert.serial id to
  below to from id c life held =
      let g = given-held from id c (from-within id from to life) held in
      above-on to g.at.position id c.cert.serial (joined id g.at.position from to g.life life) g.above

  -- So are those that it has at the beginning of a later edition.
  pub under : (to from : ℕ) (id : List ℕ) (c : SignedCert) → IsInLife id editions from to
      → from < to → Holds editions from id c
      → (edition : Edition) (there : slice_get editions to ≡ Some edition)
      → (key : KeyRow) → Contains (seen to edition there).m.keys key → id_of key ≡ id
      → c.cert.serial < key.next_serial
  under to from id c life less held edition there key among named =
      let g = given-held from id c (from-within id from to life) held in
      let least = g.at.least in
      before-key to g.at.position id c.cert.serial (joined id g.at.position from to g.life life)
      (omega (arith, less, least)) g.above edition there key among named

  -- ---- one serial, one certificate

  -- Of one serial one edition gave one thing.
  given-once : (at : ℕ) (id : List ℕ) (one other : SignedCert) (edition : Edition)
      (there : slice_get editions at ≡ Some edition) (first second : List ℕ)
      → IsGiven (seen at edition there).m first one → IsGiven (seen at edition there).m second other
      → one.cert.issuer ≡ id → other.cert.issuer ≡ id → one.cert.serial ≡ other.cert.serial → first ≡ second
  given-once at id one other edition there first second g h is so same =
      let v = seen at edition there in
      let keys : h.issuer ≡ g.issuer = same-key premises (take at editions) edition v.m v.view
      h.issuer g.issuer h.live g.live
      (sym h.named ∙ (so ∙ (sym is ∙ g.named))) in
      one-place v.m first second g.issuer one.cert.serial
      g.serial (subst (λ (n : ℕ). IsNumberedAt v.m second g.issuer n
      ⊎ IsBehindAt v.m second g.issuer n) (sym same)
      (subst (λ (k : KeyRow). IsNumberedAt v.m second k other.cert.serial
      ⊎ IsBehindAt v.m second k other.cert.serial) keys h.serial))

  here-given : (p q : ℕ) (uri : List ℕ) (c : SignedCert) → p ≡ q
      → ((e : Edition) (t : slice_get editions q ≡ Some e) → IsGiven (seen q e t).m uri c)
      → (e : Edition) (t : slice_get editions p ≡ Some e) → IsGiven (seen p e t).m uri c
  here-given p q uri c same is =
      subst (λ (n : ℕ). (e : Edition) (t : slice_get editions n ≡ Some e) → IsGiven (seen n e t).m uri c) (sym same) is

  -- What was given earlier has another serial.
  given-other : (p q to : ℕ) (id : List ℕ) (one other : SignedCert) → IsInLife id editions p q → p < q
      → AreAbove one.cert.serial id p → (g : HasGiven to id other) → g.at.position ≡ q
      → one.cert.serial ≡ other.cert.serial → ⊥
  given-other p q to id one other life less above g is same =
      let edition = there-is editions q life.within in
      let v = seen q edition.0 edition.1 in
      let h : IsGiven v.m g.uri other =
      here-given q g.at.position g.uri other (sym is) g.at.given edition.0 edition.1 in
      let named : id_of h.issuer ≡ id = sym h.named ∙ g.issuer in
      let low = before-key q p id one.cert.serial life less above edition.0 edition.1 h.issuer h.live named in
      let from = given-from premises (take q editions) edition.0 v.m v.view g.uri other h.issuer h h.live
      (sym h.named) in
      absurd (omega (arith, low, from, same))

  pub own : (id : List ℕ) → HaveOwnSerials editions id
  own id from to one other life first second same =
      let g = given-held from id one (from-within id from to life) first in
      let h = given-held to id other life.within second in
      let p : ℕ = g.at.position in
      let q : ℕ = h.at.position in
      let whole = joined id p from to g.life life in
      let to_p = g.at.least in
      let to_q = h.at.least in
      let ordered = life.ordered in
      elim (cases_order p q) [
        | inl here ↦
            let edition = there-is editions p (omega (arith, to_p, from-within id from to life)) in
            let uris : g.uri ≡ h.uri = given-once p id one other edition.0 edition.1 g.uri h.uri
            (g.at.given edition.0 edition.1)
            (here-given p q h.uri other here h.at.given edition.0 edition.1) g.issuer h.issuer same in
            let bytes : g.bytes ≡ h.bytes = same_Some g.bytes h.bytes
            (sym (g.at.since p (omega arith) to_p)
            ∙ (ap (set_after (take (suc p) editions)) uris
            ∙ h.at.since p (omega (arith, here)) (omega (arith, here, to_q)))) in
            same-certificate h.bytes one other (subst (λ (b : List ℕ). HasCertificate b one) bytes g.has) h.has
        | inr apart ↦ elim apart [
          | inl less ↦ absurd (given-other p q to id one other
              (shorter id editions p to q (omega (arith, less)) to_q whole) less g.above h refl same)
          | inr more ↦ absurd (given-other q p from id other one
              (shorter id editions q to p (omega (arith, more)) (omega (arith, to_p, ordered)) h.life) more h.above g
              refl (sym same))
        ]
      ]

  -- What is held earlier and later in a life was given before the earlier edition.
  given-before : (id : List ℕ) (c : SignedCert) (from to : ℕ) → IsInLife id editions from to
      → Holds editions from id c → (h : HasGiven to id c) → h.at.position ≤ from
  given-before id c from to life first h = elim (cases_lt from h.at.position) [
    | inr past ↦ past
    | inl less ↦
        let g = given-held from id c (from-within id from to life) first in
        let p : ℕ = g.at.position in
        let to_p = g.at.least in
        let to_q = h.at.least in
        absurd (given-other p h.at.position to id c c
        (shorter id editions p to h.at.position (omega (arith, less, to_p)) to_q
        (joined id p from to g.life life)) (omega (arith, less, to_p)) g.above h refl refl)
  ]

  -- Of a certificate one place stands.
  pub one-uri : (k : ℕ) (id : List ℕ) (c : SignedCert) → k < length editions → (one other : Holds editions k id c)
      → one.uri ≡ other.uri
  unfolding given-held
  one-uri k id c within one other =
      let g = given-at k one.uri one.bytes c (stands-held k id c one) one.has in
      let h = given-at k other.uri other.bytes c (stands-held k id c other) other.has in
      let a = given-held k id c within one in
      let b = given-held k id c within other in
      let p : ℕ = g.position in
      let q : ℕ = h.position in
      let to_p = g.least in
      let to_q = h.least in
      elim (cases_order p q) [
        | inl here ↦
            let edition = there-is editions p (omega (arith, to_p, within)) in
            given-once p id c c edition.0 edition.1 one.uri other.uri (g.given edition.0 edition.1)
            (here-given p q other.uri c here h.given edition.0 edition.1) one.issuer other.issuer refl
        | inr apart ↦ elim apart [
          | inl less ↦ absurd (given-other p q k id c c
              (shorter id editions p k q (omega (arith, less)) to_q a.life) less a.above b refl refl)
          | inr more ↦ absurd (given-other q p k id c c
              (shorter id editions q k p (omega (arith, more)) to_p b.life) more b.above a refl refl)
        ]
      ]

  -- It stands at its place in all of the life.
  pub stays-there : (id : List ℕ) (c : SignedCert) (from to : ℕ) → IsInLife id editions from to
      → (first : Holds editions from id c) → Holds editions to id c
      → (k : ℕ) → from ≤ k → k ≤ to → Stands k first.uri first.bytes
  unfolding given-held held-stands
  stays-there id c from to life first second k low high =
      let h = given-held to id c life.within second in
      let past = given-before id c from to life first h in
      let ordered = life.ordered in
      let then : Stands from h.uri h.bytes = h.at.since from past ordered in
      let uris : first.uri ≡ h.uri = one-uri from id c (from-within id from to life) first
      (held-stands from id c h.uri h.bytes then h.has h.issuer) in
      let bytes : first.bytes ≡ h.bytes = same_Some first.bytes h.bytes
      (sym (stands-held from id c first) ∙ (ap (set_after (take (suc from) editions)) uris ∙ then)) in
      ap (set_after (take (suc k) editions)) uris
      ∙ (h.at.since k (omega (arith, past, low)) high ∙ ap (λ (b : List ℕ). Some b) (sym bytes))

  -- What is held earlier and later in a life is held between.
  pub between : (id : List ℕ) (c : SignedCert) (from to : ℕ) → IsInLife id editions from to
      → Holds editions from id c → Holds editions to id c
      → (k : ℕ) → from ≤ k → k ≤ to → Holds editions k id c
  between id c from to life first second k low high =
      held-stands k id c first.uri first.bytes (stays-there id c from to life first second k low high)
      first.has first.issuer

-- The last of editions that end with it.
pub seen-now : (premises : Premises) (editions : List Edition) (edition : Edition)
    → AreSteps premises (editions ++ edition ∷ []) → HasView premises editions edition
seen-now premises editions edition steps =
    let step = steps (length editions) edition (seam editions edition) in
    view-of premises step.0 editions edition (rows-apart premises editions edition steps)
    (subst (λ (l : List Edition). IsStep premises step.0 l edition)
    (take_at editions (edition ∷ []) (length editions) refl) step.1)
