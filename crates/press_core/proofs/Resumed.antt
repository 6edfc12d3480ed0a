-- What stands when a press goes on: what was left behind an edition, and nothing before the first one.
use Rattle.std.proofs.Common.{◌≡◌, ℕ, List, [], length, None, sym, ap, subst, ◌∙◌, arith, inl, inr}
use Rattle.std.specs.Prelude.{All, Contains}
use Rattle.items.specs.laws.ElementLaws.{none as no-element}
use Rattle.std.specs.List.{AllZip}
use Rattle.std.specs.List.Sorted.{IsStrictlySortedBy}
use Rattle.std.proofs.lemmas.Bool.{and_parts, cases_lt}
use Rattle.std.proofs.lemmas.List.{get_or_past}
use Rattle.key_ids.specs.Uris.{Bases}
use Rattle.key_roll.specs.declared.rows.KeyRow.{KeyRow}
use Rattle.key_roll.specs.declared.issued.IssuedRow.{IssuedRow}
use Rattle.authority_book.specs.Settings.{Settings}
use Rattle.pub_set.specs.declared.objects.Object.{Object}
use Rattle.pub_set.specs.Objects.{content_at, IsAscending}
use Rattle.entitle.specs.declared.trees.Owed.{Owed}
use Rattle.entitle.specs.Certified.{settings_of, names_of}
use Rattle.rp_rules.specs.Yield.{AuditedValue}
use Rattle.press_records.specs.declared.recovered.RecoveredParts.{RecoveredParts}
use Rattle.editions.specs.Edition.{cut_at}
use Rattle.editions.specs.Table.{IsTable}
use Rattle.editions.specs.Clear.{IsClear}
use Rattle.editions.specs.PublishedState.{PublishedStateValue, IsFirst, desks}
use Rattle.editions.specs.declared.gathered.Gathered.{Gathered}
use Rattle.press_core.specs.declared.opening.Owing.{Owing}
use Rattle.press_core.specs.Agreement.{AreSameOrigins, owed_yield, first_mismatch}
use Rattle.press_core.specs.Staged.{AreStaged, HasStages}
use Rattle.press_core.specs.Tables.{Home, homes_of, IsHashed, AreOfProfile, HasOthers}
use Rattle.press_core.specs.Resuming.{AreFirsts, AreConfigsOf}
use Rattle.press_core.specs.inner.Rows.{IsRowFor}
use Rattle.press_core.specs.inner.Resumed.{IsLeft, IsOwing, owed_by, IsStandingWith, AreNamed, IsAnchored, IsStateOf, AreAgreedAt}
use Rattle.press_core.proofs.Configured.{none-come-to, no-commands}
use Rattle.press_core.proofs.Tabled.{hashed, tabled, others}

-- ---- behind an edition

module _ (left : RecoveredParts) (owing : Owing) (issued : List IssuedRow) (at : PublishedStateValue) (is : IsStandingWith left owing issued at) where
  abbrev at_homes : Bases → List Home
  at_homes site = homes_of site (names_of at.configs) at.rows

  abbrev left_homes : Bases → List Home
  left_homes site = homes_of site (names_of (settings_of owing.configs.items)) left.rows

  same-homes : (site : Bases) → at_homes site ≡ left_homes site
  same-homes site = ap (λ (configs : List Settings). homes_of site (names_of configs) at.rows) is.configs
      ∙ ap (λ (rows : List KeyRow). homes_of site (names_of (settings_of owing.configs.items)) rows) is.rows

  pub state-of : (site : Bases) (firsts : List Gathered) → IsOwing firsts owing → AllZip (IsRowFor (homes_of site (names_of (settings_of owing.configs.items)) left.rows)) left.set issued
      → IsAscending left.set → length left.cut ≡ desks → AreNamed (settings_of owing.configs.items) → IsAnchored site left.rows left.set → IsStateOf site left firsts at
  state-of site firsts comes zip up long named anchored = record {
    serial = is.serial;
    moment = is.moment;
    cut = λ desk. ap (λ (c : List ℕ). cut_at c desk) is.cut;
    desks = ap (λ (c : List ℕ). length c) is.cut ∙ long;
    rows = is.rows;
    set = is.set;
    hashed = subst (λ (objects : List Object). IsHashed objects at.issued) (sym is.set)
        (subst (λ (rows : List IssuedRow). IsHashed left.set rows) (sym is.table) (hashed (left_homes site) left.set issued zip));
    table = λ profile. subst (λ (objects : List Object). IsTable (content_at objects) at.issued) (sym is.set)
        (subst (λ (rows : List IssuedRow). IsTable (content_at left.set) rows) (sym is.table)
        (tabled left.set issued zip up (subst (λ (homes : List Home). AreOfProfile homes left.set) (same-homes site) (subst (λ (objects : List Object). AreOfProfile (at_homes site) objects) is.set profile))));
    others = subst (λ (homes : List Home). HasOthers homes at.set at.issued) (sym (same-homes site))
        (subst (λ (objects : List Object). HasOthers (left_homes site) objects at.issued) (sym is.set)
        (subst (λ (rows : List IssuedRow). HasOthers (left_homes site) left.set rows) (sym is.table) (others left.set issued zip)));
    named = λ some. subst AreNamed (sym is.configs) named;
    anchored = λ some. subst (λ (rows : List KeyRow). IsAnchored site rows at.set) (sym is.rows)
        (subst (λ (objects : List Object). IsAnchored site left.rows objects) (sym is.set) anchored);
    configs = subst (λ (configs : List Settings). AreConfigsOf firsts configs) (sym is.configs) comes.come;
  }

  pub clear-of : (site : Bases) → IsClear site left.rows issued → IsClear site at.rows at.issued
  clear-of site clear = subst (λ (rows : List KeyRow). IsClear site rows at.issued) (sym is.rows)
      (subst (λ (rows : List IssuedRow). IsClear site left.rows rows) (sym is.table) clear)

  pub agreed-at : (site : Bases) (audited : AuditedValue) → AreSameOrigins (owed_by site owing) audited.origins → first_mismatch left.rows audited.points ≡ None → AreAgreedAt site audited at
  agreed-at site audited same none = record {
    origins = subst (λ (configs : List Settings). AreSameOrigins (owed_yield site configs at.owed) audited.origins) (sym is.configs)
        (subst (λ (owed : List Owed). AreSameOrigins (owed_yield site (settings_of owing.configs.items) owed) audited.origins) (sym is.owed) same);
    rows = ap (λ (rows : List KeyRow). first_mismatch rows audited.points) is.rows ∙ none;
  }

pub stages-of : (site : Bases) (left : RecoveredParts) (firsts : List Gathered) (at : PublishedStateValue) → IsStateOf site left firsts at → IsLeft left → HasStages at
stages-of site left firsts at is order = record {
  none = λ z. is.rows ∙ order.rows (sym is.serial ∙ z);
  staged = λ some.
      let live = order.live (λ z. some (is.serial ∙ z)) in
      subst (λ (rows : List KeyRow). AreStaged rows) (sym is.rows) (and_parts _ _ (and_parts _ _ live).0).0;
}

-- ---- before the first edition

none-counted : (cut : List ℕ) → All (λ n. n ≡ 0) cut → (desk : ℕ) → cut_at cut desk ≡ 0
none-counted cut none desk =
    elim (cases_lt desk (length cut)) [
      | inl within ↦ none desk 0 within
      | inr past ↦ get_or_past cut desk 0 past
    ]

nothing-rises : IsAscending []
unfolding IsStrictlySortedBy
nothing-rises = tt

module _ (left : RecoveredParts) (firsts : List Gathered) (at : PublishedStateValue) (first : IsFirst at) where
  pub first-state : (site : Bases) → IsLeft left → left.serial ≡ 0 → AreFirsts left.cut firsts → IsStateOf site left firsts at
  first-state site order none are = record {
    serial = first.serial ∙ sym none;
    moment = first.moment ∙ sym (order.moment none);
    cut = λ desk. none-counted at.cut first.cut.none desk ∙ sym (uncounted desk);
    desks = first.cut.one_each;
    rows = first.rows ∙ sym (order.rows none);
    set = first.set ∙ sym (order.set none);
    hashed = subst (λ (objects : List Object). IsHashed objects at.issued) (sym first.set)
        (subst (λ (rows : List IssuedRow). IsHashed [] rows) (sym first.issued) (hashed [] [] [] tt));
    table = λ profile. subst (λ (objects : List Object). IsTable (content_at objects) at.issued) (sym first.set)
        (subst (λ (rows : List IssuedRow). IsTable (content_at []) rows) (sym first.issued)
        (tabled {homes = []} [] [] tt nothing-rises (λ object here. absurd (no-element object here))));
    others = λ object here. absurd (no-element object (subst (λ (objects : List Object). Contains objects object) first.set here));
    named = λ some. absurd (some first.serial);
    anchored = λ some. absurd (some first.serial);
    configs = none-come-to at.configs firsts first.configs (λ desk. no-commands _ (are.count desk ∙ uncounted desk));
  }
    where
      uncounted : (desk : ℕ) → cut_at left.cut desk ≡ 0
      uncounted desk = ap (λ (c : List ℕ). cut_at c desk) (order.cut none)

  pub first-clear : (site : Bases) → IsClear site at.rows at.issued
  first-clear site = subst (λ (rows : List KeyRow). IsClear site rows at.issued) (sym first.rows)
      (subst (λ (rows : List IssuedRow). IsClear site [] rows) (sym first.issued)
      (record { places = λ id fits other k d within. absurd (omega (arith, within)); anchor = λ k d within. absurd (omega (arith, within)) }))

  pub first-stages : HasStages at
  first-stages = record { none = λ z. first.rows; staged = λ some. absurd (some first.serial) }
