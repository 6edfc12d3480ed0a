-- A press that goes on over what was loaded.
use Rattle.std.proofs.Common.{◌≡◌, ◌≢◌, ℕ, ◌+◌, List, [], ◌∷◌, ◌++◌, length, Option, None, Some, IfSome, refl, sym, ap, subst, ◌∙◌, arith, inl, inr}
use Rattle.signer_api.specs.State.{SignerState}
use Rattle.gate_journal.specs.View as journals
use Rattle.authority_book.specs.Settings.{Settings}
use Rattle.authority_book.specs.declared.commands.Command.{Command}
use Rattle.pub_set.specs.declared.objects.Object.{Object}
use Rattle.pub_set.specs.Objects.{content_at, IsAscending}
use Rattle.rrdp_state.specs.Kept.{Kept}
use Rattle.key_ids.specs.Uris.{Bases}
use Rattle.key_roll.specs.declared.rows.KeyRow.{KeyRow}
use Rattle.rp_rules.specs.Sound.{IsSound}
use Rattle.rp_rules.specs.Yield.{AuditedValue}
use Rattle.press_records.specs.declared.store.StoreRecord.{StoreRecord}
use Rattle.press_records.specs.declared.recovered.RecoveredParts.{RecoveredParts}
use Rattle.entitle.specs.Certified.{names_of}
use Rattle.editions.specs.MadeIn.{AreAtHome}
use Rattle.editions.specs.Edition.{Edition, State, after_edition, state_after, state_from, set_after, cut_at}
use Rattle.editions.specs.Table.{IsTable}
use Rattle.editions.specs.Step.{Premises, AreSteps, configs_at}
use Rattle.editions.specs.Gathering.{commands_of}
use Rattle.editions.specs.PublishedState.{PublishedStateValue, desks}
use Rattle.editions.specs.declared.gathered.Gathered.{Gathered}
use Rattle.press_core.specs.declared.last_export.LastExport.TheVariants.{NoExport}
use Rattle.press_core.specs.declared.resume.ResumeFault.{ResumeFault}
use Rattle.press_core.specs.Press.{PressValue}
use Rattle.press_core.specs.Stands.{IsLeftBy, StandsFor}
use Rattle.press_core.specs.Stored.{StoredValue}
use Rattle.press_core.specs.Tables.{Home, homes_of, AreOfProfile}
use Rattle.press_core.specs.Agreement.{owed_yield, AreSameOrigins, first_mismatch}
use Rattle.press_core.specs.JournalRecords.{press_limit}
use Rattle.press_core.specs.Loading.{LoadedValue, IsLeftAs, IsInOrder, loaded_value}
use Rattle.press_core.specs.Resuming.{IsAudited, AreFirsts, GoOnFrom, GoesOn, AreAgreed, IsFaultAt, IsResumeFault}
use Rattle.press_core.specs.inner.Resumed.{IsLeft, IsAuditIf, IsFaultIf, AreNamed, IsStateOf, AreAgreedAt}
use Rattle.press_core.proofs.Configured.{configs-stand, long-enough}
use Rattle.press_core.proofs.AtHome.{IsHomeLaw, home}
use Rattle.press_core.proofs.Profiled.{IsLastLaw, AreHome, ends, steps-profile}

-- The laws of the layers below that it rests on.
pub record GoingLaws : Type 0 where
  pub last : IsLastLaw
  pub home : IsHomeLaw
  pub append : (before later : List Edition) → state_after (before ++ later) ≡ state_from (state_after before) later

module _ {D : Type 0} (journal : journals.View D) (store : StoreRecord) (left : RecoveredParts) (rrdp : Kept) (firsts : List Gathered)
    (ring : List SignerState) (at : PublishedStateValue) (is : IsStateOf store.site left firsts at)
    (count : (desk : ℕ) → length (commands_of firsts desk) ≡ cut_at left.cut desk) (up : IsAscending left.set) where
  abbrev loaded : LoadedValue D
  loaded = loaded_value journal store left rrdp

  abbrev pub resumed : StoredValue D
  resumed = record {
    press = record { site = store.site; ring = ring; at = at; ended = []; rrdp = rrdp; last_export = NoExport };
    journal = journal;
  }

  counted : (desk : ℕ) → length (commands_of firsts desk) ≡ cut_at at.cut desk
  counted desk = count desk ∙ sym (is.cut desk)

  left-by : (lists : List (List Command)) (editions : List Edition) → IsLeftAs editions loaded → length lists ≡ desks → GoOnFrom lists firsts → IsLeftBy lists editions at
  left-by lists editions found long on = record {
    serial = is.serial ∙ found.serial;
    moment = is.moment ∙ found.moment;
    cut = λ desk. is.cut desk ∙ found.cut desk;
    rows = is.rows ∙ found.rows;
    set = λ uri. ap (λ (objects : List Object). content_at objects uri) is.set ∙ found.set uri;
    desks = long ∙ sym is.desks;
    taken_in = long-enough lists at.cut firsts counted on;
    configs = configs-stand lists at.cut firsts at.configs counted long on is.configs;
  }

  abbrev homes : List Home
  homes = homes_of store.site (names_of at.configs) at.rows

  -- The last of editions, behind the others.
  module _ (laws : GoingLaws) (premises : Premises) (front : List Edition) (last : Edition) (found : IsLeftAs (front ++ last ∷ []) loaded) (long : length premises.lists ≡ desks)
      (on : GoOnFrom premises.lists firsts) (steps : AreSteps premises (front ++ last ∷ [])) where
    state-is : state_after (front ++ last ∷ []) ≡ after_edition (state_after front) last
    state-is = laws.append front (last ∷ [])

    some : at.serial ≢ 0
    some none =
        let step = laws.last premises front last steps in
        let counted : last.serial ≡ (state_after front).serial + 1 = step.1.serial in
        let same : 0 ≡ last.serial = sym none ∙ (is.serial ∙ (found.serial ∙ ap (λ (s : State). s.serial) state-is)) in
        omega (arith, counted, same)

    configs-are : at.configs ≡ configs_at premises.lists last.cut
    configs-are = configs-stand premises.lists last.cut firsts at.configs
        (λ desk. counted desk ∙ (is.cut desk ∙ (found.cut desk ∙ ap (λ (s : State). cut_at s.cut desk) state-is))) long on is.configs

    rows-are : at.rows ≡ last.rows
    rows-are = is.rows ∙ (found.rows ∙ ap (λ (s : State). s.rows) state-is)

    last-home : AreHome homes (front ++ last ∷ [])
    last-home uri bytes c there read =
        let named = subst AreNamed configs-are (is.named some) in
        let at-home = laws.home premises front last steps named.tree named.plain in
        let law : AreAtHome premises.site (names_of at.configs) at.rows (set_after (front ++ last ∷ [])) =
        subst (λ (rows : List KeyRow). AreAtHome premises.site (names_of at.configs) rows (set_after (front ++ last ∷ []))) (sym rows-are)
        (subst (λ (configs : List Settings). AreAtHome premises.site (names_of configs) last.rows (set_after (front ++ last ∷ []))) (sym configs-are) at-home) in
        home store.site premises.site (names_of at.configs) at.rows at.set (set_after (front ++ last ∷ []))
        (λ u. ap (λ (objects : List Object). content_at objects u) is.set ∙ found.set u) law (is.named some).tree (is.anchored some) uri bytes c there read

  all-home : GoingLaws → (premises : Premises) (editions : List Edition) → IsLeftAs editions loaded → length premises.lists ≡ desks → GoOnFrom premises.lists firsts → AreSteps premises editions
      → AreHome homes editions
  all-home laws premises editions found long on steps = elim (ends editions) [
    | inl none ↦ λ uri bytes c there read. absurd (let no : set_after [] uri ≡ Some bytes = ap (λ (es : List Edition). set_after es uri) (sym none) ∙ there in cc)
    | inr w ↦ subst (AreHome homes) (sym w.whole)
        (last-home laws premises w.front w.last (subst (λ (es : List Edition). IsLeftAs es loaded) w.whole found) long on (subst (AreSteps premises) w.whole steps))
  ]

  stands-for : GoingLaws → (premises : Premises) (editions : List Edition) → IsLeftAs editions loaded → length premises.lists ≡ desks → GoOnFrom premises.lists firsts
      → AreSteps premises editions → StandsFor premises editions at
  stands-for laws premises editions found long on steps =
      let by = left-by premises.lists editions found long on in
      let ascending : IsAscending at.set = subst IsAscending (sym is.set) up in
      let profile : AreOfProfile homes at.set =
      steps-profile laws.last homes premises editions at.set (all-home laws premises editions found long on steps) steps ascending by.set in
      let same : content_at at.set ≡ set_after editions = λ i uri. by.set uri i in
      record { left = by; steps = steps; table = subst (λ (held : List ℕ → Option (List ℕ)). IsTable held at.issued) same (is.table profile) }

  pub goes-on : GoingLaws → GoesOn loaded firsts ring resumed
  goes-on laws = record {
    serial = is.serial;
    moment = is.moment;
    cut = is.cut;
    rows = is.rows;
    set = is.set;
    configs = is.configs;
    hashed = is.hashed;
    table = is.table;
    others = is.others;
    left = left-by;
    stands = stands-for laws;
    files = refl;
    journal = refl;
    site = refl;
    ring = refl;
    ended = refl;
    last_export = refl;
  }

-- What a press over its journal is, by what its press is.
pub stored-so : {D : Type 0} (journal : journals.View D) (press made : PressValue) (stored : StoredValue D) → stored ≡ record { press = press; journal = journal } → press ≡ made
    → stored ≡ record { press = made; journal = journal }
stored-so {D} journal press made stored is same =
    let one : StoredValue D = record { press = press; journal = journal } in
    let other : StoredValue D = record { press = made; journal = journal } in
    let step : one ≡ other = λ i. record { press = same i; journal = journal } in
    is ∙ step

-- ---- what was loaded, by its parts

module _ {D : Type 0} (journal : journals.View D) (store : StoreRecord) (left : RecoveredParts) (rrdp : Kept) (loaded : LoadedValue D)
    (e : loaded_value journal store left rrdp ≡ loaded) where
  pub left-in-order : IsInOrder loaded → IsLeft left
  left-in-order order =
      let o : IsInOrder (loaded_value journal store left rrdp) = subst (λ (l : LoadedValue D). IsInOrder l) (sym e) order in
      record {
        moment = λ z. (o.before z).3;
        cut = λ z. (o.before z).2;
        rows = λ z. (o.before z).0;
        set = λ z. (o.before z).1;
        live = o.live;
        desks = o.desks;
      }

  pub rises : IsInOrder loaded → IsAscending left.set
  rises order = let o : IsInOrder (loaded_value journal store left rrdp) = subst (λ (l : LoadedValue D). IsInOrder l) (sym e) order in o.ascending

  pub counted-files : IsInOrder loaded → rrdp.serial ≡ left.serial
  counted-files order = let o : IsInOrder (loaded_value journal store left rrdp) = subst (λ (l : LoadedValue D). IsInOrder l) (sym e) order in o.counted

  pub limited : IsInOrder loaded → journal.limit ≡ press_limit
  limited order = let o : IsInOrder (loaded_value journal store left rrdp) = subst (λ (l : LoadedValue D). IsInOrder l) (sym e) order in o.limit

  pub audit-if : (ring : List SignerState) (audited : Option AuditedValue) → IsAudited loaded ring audited → IsAuditIf store.site left audited
  audit-if ring None is = ap (λ (l : LoadedValue D). l.serial) e ∙ is
  audit-if ring (Some audited) is =
      let both : IsAudited (loaded_value journal store left rrdp) ring (Some audited) = subst (λ (l : LoadedValue D). IsAudited l ring (Some audited)) (sym e) is in
      record { some = both.0; context = both.1.context; anchor = both.1.anchor; bases = both.1.bases; moment = both.1.moment; audit = both.1.audit }

  pub firsts-left : (firsts : List Gathered) → AreFirsts loaded.cut firsts → AreFirsts left.cut firsts
  firsts-left firsts are = subst (λ (l : LoadedValue D). AreFirsts l.cut firsts) (sym e) are

  pub fault-of : (firsts : List Gathered) (audited : Option AuditedValue) (fault : ResumeFault) → IsFaultIf store.site left.rows firsts audited fault → IsResumeFault loaded firsts audited fault
  fault-of firsts None fault is = subst (IsResumeFault loaded firsts None) (sym is) tt
  fault-of firsts (Some audited) fault is = subst (λ (l : LoadedValue D). IsFaultAt l.site l.rows firsts audited fault) e is

  module _ (firsts : List Gathered) (ring : List SignerState) (at : PublishedStateValue) (is : IsStateOf store.site left firsts at) (are : AreFirsts loaded.cut firsts) (order : IsInOrder loaded)
      (stored : StoredValue D) (made : stored ≡ resumed journal store left rrdp firsts ring at is (firsts-left firsts are).count (rises order)) where
    pub whole : GoingLaws → GoesOn loaded firsts ring stored
    whole laws = subst (λ (l : LoadedValue D). GoesOn l firsts ring stored) e
        (subst (GoesOn (loaded_value journal store left rrdp) firsts ring) (sym made) (goes-on journal store left rrdp firsts ring at is (firsts-left firsts are).count (rises order) laws))

    pub agreed : (audited : Option AuditedValue) → IsAudited loaded ring audited → IfSome audited (λ (a : AuditedValue). AreAgreedAt store.site a at) → AreAgreed loaded ring stored audited
    agreed None audit agrees = tt
    agreed (Some audited) audit agrees =
        let same : stored.press.at ≡ at = ap (λ (s : StoredValue D). s.press.at) made in
        let site : store.site ≡ loaded.site = ap (λ (l : LoadedValue D). l.site) e in
        let rows : at.rows ≡ loaded.rows = is.rows ∙ ap (λ (l : LoadedValue D). l.rows) e in
        let set : loaded.set ≡ stored.press.at.set = sym (ap (λ (p : PublishedStateValue). p.set) same ∙ (is.set ∙ ap (λ (l : LoadedValue D). l.set) e)) in
        let by = audit.1 in
        record {
          by = by;
          sound = subst (IsSound by.context) set (by.audit.visits, by.audit.sound);
          origins = subst (λ (s : Bases). AreSameOrigins (owed_yield s stored.press.at.configs stored.press.at.owed) audited.origins) site
              (subst (λ (p : PublishedStateValue). AreSameOrigins (owed_yield store.site p.configs p.owed) audited.origins) (sym same) agrees.origins);
          rows = ap (λ (r : List KeyRow). first_mismatch r audited.points) (sym rows) ∙ agrees.rows;
        }
