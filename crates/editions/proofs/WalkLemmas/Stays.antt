-- The places of a key stay in later editions, where the parent of its authority does.
use Rattle.std.proofs.Common.{◌≡◌, ◌≢◌, ℕ, suc, zero, ◌+◌, ◌<◌, ◌≤◌, ◌==◌, Bool, true, false, cond, Option, Some, None, List, [], ◌∷◌, ◌++◌, length, take, drop, slice_get, AllPairs, Contains, refl, sym, ap, subst, ◌∙◌, arith, append-nil, append_assoc, inl, inr}
use Rattle.std.specs.Option.{option_map_or}
use Rattle.std.proofs.lemmas.Bool.{cases_eq, eqb-true, eq-eqb, true≢false}
use Rattle.std.proofs.lemmas.List.{take-take, take-append-drop}
use Rattle.std.proofs.lemmas.Option.{same_Some, get_or_from_slice_get, slice_get_within}
use Rattle.key_ids.specs.Uris.{anchor_uri, cert_uri, folder_of, manifest_uri}
use Rattle.authority_book.specs.declared.commands.Command.{Command}
use Rattle.authority_book.specs.declared.commands.Command.TheVariants.{Add, Delete, AddParent, AddChild, UpdateChild, RemoveChild, SuspendChild, UnsuspendChild, UpdateRoas, InitRoll, ActivateRoll}
use Rattle.authority_book.specs.declared.rows.NameRow.{NameRow}
use Rattle.authority_book.specs.Settings.{Settings}
use Rattle.authority_book.specs.Fold.{after, after_all, fold_of, empty_settings}
use Rattle.entitle.specs.Certified.{names_of, AreCertified}
use Rattle.signer_api.specs.declared.values.PublicKey.{PublicKey}
use Rattle.sha1.specs.Sha1.{sha1}
use Rattle.key_roll.specs.declared.rows.KeyRow.{KeyRow}
use Rattle.key_roll.specs.declared.rows.Role.TheVariants.{Current}
use Rattle.rp_rules.specs.Authorities.{Authority}
use Rattle.issue_plan.specs.Keys.{next_keys}
use Rattle.issue_plan.specs.Wanted.{parent_of, desk_of}
use Rattle.issue_keys.specs.Keys.{id_of}
use Rattle.issue_drafts.specs.Publishers.{name_at}
use Rattle.issue_drafts.specs.Publishers as publishers
use Rattle.editions.specs.Edition.{Edition, state_after, cut_at}
use Rattle.editions.specs.Names.{AreTree}
use Rattle.editions.specs.Keys.{AreNext}
use Rattle.editions.specs.Objects.{Issuance}
use Rattle.editions.specs.Step.{Premises, IsStep, AreSteps, configs_at}
use Rattle.editions.specs.MadeIn.{issuance_of, IsAuthorityOf, IsSameKey, published_key}
use Rattle.items.specs.laws.AmongLaws.{In, contains-in}
use Rattle.editions.proofs.StateLemmas.Folds.{after-append}
use Rattle.editions.proofs.PlanLemmas.Places.{name-at}
use Rattle.editions.proofs.ObjectLemmas.History.{there-is, take-next, after-last}
use Rattle.editions.proofs.ObjectLemmas.Left.{front-steps}
use Rattle.editions.proofs.WalkLemmas.KeyTree.{in-tree}
use Rattle.editions.proofs.WalkLemmas.NextKeys.{row-parts}
use Rattle.editions.proofs.WalkLemmas.Rows.{rows-apart}
use Rattle.editions.proofs.WalkLemmas.Homes as homes

-- ---- names stay

abbrev pub IsGrown : List NameRow → List NameRow → Type 0
IsGrown names more = (rest : List NameRow) × (more ≡ names ++ rest)

grown-itself : (names : List NameRow) → IsGrown names names
grown-itself names = ([], sym (append-nil names))

name-step : (settings : Settings) (command : Command) → IsGrown settings.names (after settings command).names
name-step settings (Add name signer) = (record { name = name; signer = signer } ∷ [], refl)
name-step settings Delete = grown-itself settings.names
name-step settings (AddParent parent) = grown-itself settings.names
name-step settings (AddChild child grant) = grown-itself settings.names
name-step settings (UpdateChild child grant) = grown-itself settings.names
name-step settings (RemoveChild child) = grown-itself settings.names
name-step settings (SuspendChild child) = grown-itself settings.names
name-step settings (UnsuspendChild child) = grown-itself settings.names
name-step settings (UpdateRoas added removed) = grown-itself settings.names
name-step settings InitRoll = grown-itself settings.names
name-step settings ActivateRoll = grown-itself settings.names

pub names-after : (settings : Settings) (commands : List Command)
    → IsGrown settings.names (after_all settings commands).names
names-after settings [] = grown-itself settings.names
names-after settings (command ∷ rest) =
    let one = name-step settings command in
    let more = names-after (after settings command) rest in (
      one.0 ++ more.0,
      more.1
          ∙ (ap (λ (l : List NameRow). l ++ more.0) one.1 ∙ append_assoc settings.names one.0 more.0),
    )

names-taken : (list : List Command) (n more : ℕ) → n ≤ more
    → IsGrown (fold_of 0 (take n list)).names (fold_of 0 (take more list)).names
names-taken list n more le =
    let front : take n (take more list) ≡ take n list = take-take n more list le in
    let split : take n list ++ drop n (take more list) ≡ take more list =
    ap (λ (l : List Command). l ++ drop n (take more list)) (sym front) ∙ take-append-drop n (take more list) in
    let grown = names-after (fold_of 0 (take n list)) (drop n (take more list)) in (
      grown.0,
      ap (λ (l : List Command). (fold_of 0 l).names) (sym split)
          ∙ (ap (λ (s : Settings). s.names) (after-append (empty_settings 0) (take n list) (drop n (take more list)))
          ∙ grown.1),
    )

pub names-grow : (lists : List (List Command)) (cut more : List ℕ) → cut_at cut 0 ≤ cut_at more 0
    → IsGrown (names_of (configs_at lists cut)) (names_of (configs_at lists more))
names-grow [] cut more le = ([], refl)
names-grow (list ∷ lists) [] [] le = grown-itself (fold_of 0 []).names
names-grow (list ∷ lists) [] (k ∷ more) le = names-taken list 0 k le
names-grow (list ∷ lists) (n ∷ cut) [] le =
    let none : n ≡ 0 = omega (arith, le) in
    subst (λ (i : ℕ). IsGrown (fold_of 0 (take i list)).names (fold_of 0 []).names) (sym none)
    (grown-itself (fold_of 0 []).names)
names-grow (list ∷ lists) (n ∷ cut) (k ∷ more) le = names-taken list n k le

get-front : (xs ys : List NameRow) (k : ℕ) (x : NameRow) → slice_get xs k ≡ Some x → slice_get (xs ++ ys) k ≡ Some x
get-front [] ys k x e = absurd cc
get-front (y ∷ xs) ys zero x e = e
get-front (y ∷ xs) ys (suc k) x e = get-front xs ys k x e

-- A desk that has a name keeps it.
pub name-stays : (names more : List NameRow) (desk : ℕ) (row : NameRow) → IsGrown names more
    → slice_get names desk ≡ Some row → name_at more desk ≡ name_at names desk
name-stays names more desk row grown named =
    let tell : Option NameRow → List ℕ = λ o. option_map_or (λ (n : NameRow). n.name) o [] in
    ap tell (ap (λ (l : List NameRow). slice_get l desk) grown.1 ∙ get-front names grown.0 desk row named)
    ∙ sym (ap tell named)

-- ---- cuts grow

module _ (premises : Premises) (editions : List Edition) (steps : AreSteps premises editions) where
  cut-before : (k : ℕ) (edition : Edition) → slice_get editions k ≡ Some edition
      → (state_after (take (suc k) editions)).cut ≡ edition.cut
  cut-before k edition there =
      let next : suc k ≡ k + 1 = omega arith in
      ap (λ (n : ℕ). (state_after (take n editions)).cut) next
      ∙ (ap (λ (l : List Edition). (state_after l).cut) (take-next editions k edition there)
      ∙ ap (λ s. s.cut) (after-last (take k editions) edition))

  pub cuts-grow : (to from : ℕ) → from ≤ to → (first last : Edition) → slice_get editions from ≡ Some first
      → slice_get editions to ≡ Some last → cut_at first.cut 0 ≤ cut_at last.cut 0
  cuts-grow zero from le first last there then =
      let start : from ≡ 0 = omega (arith, le) in
      let same : first ≡ last = same_Some first last (sym there ∙ (ap (slice_get editions) start ∙ then)) in
      let cuts : cut_at first.cut 0 ≡ cut_at last.cut 0 = ap (λ (e : Edition). cut_at e.cut 0) same in
      omega (arith, cuts)
  cuts-grow (suc at) from le first last there then = elim (cases_eq from (suc at)) [
    | inl here ↦
        let same : first ≡ last = same_Some first last (sym there ∙ (ap (slice_get editions) here ∙ then)) in
        let cuts : cut_at first.cut 0 ≡ cut_at last.cut 0 = ap (λ (e : Edition). cut_at e.cut 0) same in
        omega (arith, cuts)
    | inr apart ↦
        let before = there-is editions at (within last then) in
        let less = cuts-grow at from (omega (arith, le, apart)) first before.0 there before.1 in
        let more = (steps (suc at) last then).1.cut.grown 0 in
        let is : cut_at (state_after (take (suc at) editions)).cut 0 ≡ cut_at before.0.cut 0 =
        ap (λ (c : List ℕ). cut_at c 0) (cut-before at before.0 before.1) in
        omega (arith, less, more, is)
  ]
    where
      within : (e : Edition) → slice_get editions (suc at) ≡ Some e → at < length editions
      within e is = let in_ = slice_get_within editions (suc at) e is in omega (arith, in_)

-- ---- the certificate of a key

module _ (m : Issuance) (tree : AreTree (names_of m.plan_input.basis.configs))
    (certified : AreCertified m.plan_input.basis.configs m.plan_input.basis.sets)
    (before : AllPairs (λ a b. id_of a ≢ id_of b) m.plan_input.basis.rows)
    (next : AreNext m.plan_input.basis.rows (next_keys m.plan_input.basis) m.keys)
    (k : KeyRow) (at : In k m.keys) where
  abbrev configs : List Settings
  configs = m.plan_input.basis.configs

  abbrev names : List NameRow
  names = names_of configs

  -- The trust anchor's has a place of its own.
  pub anchors-place : k.desk ≡ 0 → (published_key m k).certificate ≡ anchor_uri m.plan_input.site
  anchors-place zero_desk =
      ap (λ (b : Bool). cond b (anchor_uri m.plan_input.site) (publishers.first_of
      (publishers.made_for (homes.w m tree certified before next) (homes.ks m tree certified before next) k)
      (publishers.standing_for m.plan_input.issued k) (anchor_uri m.plan_input.site))) (eq-eqb k.desk 0 zero_desk)

  -- Another's stands in the folder of the parent.
  pub record HasParent : Type 0 where
    pub parent : List ℕ
    pub is : parent_of (slice_get configs k.desk) ≡ Some parent
    pub place : (published_key m k).certificate ≡ cert_uri m.plan_input.site parent (id_of k)
    pub above : ℕ
    pub row : NameRow
    pub known : slice_get names above ≡ Some row
    pub called : row.name ≡ parent

  parent-by : (o : Option (List ℕ)) (above : ℕ) (row : NameRow) → desk_of configs o ≡ Some above
      → slice_get names above ≡ Some row → o ≡ Some row.name
  parent-by None above row e named = absurd cc
  parent-by (Some name) above row e named =
      let h = name-at names name above row e in
      ap (λ (n : List ℕ). Some n)
      (sym h.1 ∙ ap (λ (r : NameRow). r.name) (get_or_from_slice_get names above row row named))

  pub others-place : k.desk ≢ 0 → HasParent
  others-place other =
      let has = homes.other-issuer m tree certified before next k at other in
      let issuer : KeyRow = homes.issuer m tree certified before next k at in
      let desk : issuer.desk ≡ has.0.above =
      sym (ap (λ (r : KeyRow). r.desk) has.1)
      ∙ (row-parts m.keys has.0.above Current has.0.issuer has.0.current).1 in
      let name : name_at names issuer.desk ≡ has.0.parents_name.name =
      ap (name_at names) desk
      ∙ ap (λ (o : Option NameRow). option_map_or (λ (n : NameRow). n.name) o []) has.0.is.named in
      record {
        parent = has.0.parents_name.name;
        is = parent-by (parent_of (slice_get configs k.desk)) has.0.above has.0.parents_name has.0.parent
            has.0.is.named;
        place = homes.certificate-at m tree certified before next k at
            ∙ (ap (λ (b : Bool). cond b (anchor_uri m.plan_input.site)
            (cert_uri m.plan_input.site (name_at names issuer.desk) (id_of k)))
            (homes.apart-issuer m tree certified before next k at other)
            ∙ ap (λ (n : List ℕ). cert_uri m.plan_input.site n (id_of k)) name);
        above = has.0.above;
        row = has.0.parents_name;
        known = has.0.is.named;
        called = refl;
      }

-- ---- two editions

module _ (premises : Premises) (editions : List Edition) (steps : AreSteps premises editions)
    (from to : ℕ) (le : from ≤ to) (first last : Edition) (there : slice_get editions from ≡ Some first)
    (then : slice_get editions to ≡ Some last) (clock later : ℕ)
    (one : IsStep premises clock (take from editions) first) (two : IsStep premises later (take to editions) last)
    (tree : AreTree (names_of (configs_at premises.lists first.cut)))
    (trees : AreTree (names_of (configs_at premises.lists last.cut)))
    (k l : KeyRow) (live : Contains one.made.keys k) (lives : Contains two.made.keys l) (same : IsSameKey k l)
    (parents : parent_of (slice_get (configs_at premises.lists last.cut) k.desk)
    ≡ parent_of (slice_get (configs_at premises.lists first.cut) k.desk)) where
  abbrev m : Issuance
  m = issuance_of premises clock (take from editions) first one

  abbrev n : Issuance
  n = issuance_of premises later (take to editions) last two

  rows-at : (position : ℕ) (edition : Edition) → slice_get editions position ≡ Some edition
      → AllPairs (λ a b. id_of a ≢ id_of b) (state_after (take position editions)).rows
  rows-at position edition is = rows-apart premises (take position editions) edition
      (subst (AreSteps premises) (take-next editions position edition is)
      (front-steps premises editions (position + 1) steps))

  ids : id_of l ≡ id_of k
  ids = ap (λ (key : PublicKey). sha1 key.bytes) same.key

  names-same : (published_key n l).name ≡ (published_key m k).name
  names-same =
      let placed = in-tree m.plan_input.basis m.keys tree one.made.certified (rows-at from first there) one.made.next k
      (contains-in k m.keys live) in
      ap (name_at (names_of n.plan_input.basis.configs)) same.desk
      ∙ name-stays (names_of m.plan_input.basis.configs) (names_of n.plan_input.basis.configs) k.desk placed.name
      (names-grow premises.lists first.cut last.cut
      (cuts-grow premises editions steps to from le first last there then)) placed.is.named

  certificates-same : (published_key n l).certificate ≡ (published_key m k).certificate
  certificates-same = by (k.desk == 0) refl
    where
      in-one : In k m.keys
      in-one = contains-in k m.keys live

      in-two : In l n.keys
      in-two = contains-in l n.keys lives

      by : (b : Bool) → (k.desk == 0) ≡ b → (published_key n l).certificate ≡ (published_key m k).certificate
      by true e =
          let zero_desk : k.desk ≡ 0 = eqb-true k.desk 0 e in
          anchors-place n trees two.made.certified (rows-at to last then) two.made.next l in-two
          (same.desk ∙ zero_desk)
          ∙ sym (anchors-place m tree one.made.certified (rows-at from first there) one.made.next k in-one
          zero_desk)
      by false e =
          let other : k.desk ≢ 0 = λ zero_desk. true≢false (sym (eq-eqb k.desk 0 zero_desk) ∙ e) in
          let p = others-place m tree one.made.certified (rows-at from first there) one.made.next k in-one
          other in
          let q = others-place n trees two.made.certified (rows-at to last then) two.made.next l in-two
          (λ zero_desk. other (sym same.desk ∙ zero_desk)) in
          let parent : q.parent ≡ p.parent = same_Some q.parent p.parent
          (sym q.is
          ∙ (ap (λ (d : ℕ). parent_of (slice_get n.plan_input.basis.configs d)) same.desk ∙ (parents ∙ p.is))) in
          q.place
          ∙ (ap (λ (x : List ℕ). cert_uri premises.site x (id_of l)) parent
          ∙ (ap (cert_uri premises.site p.parent) ids ∙ sym p.place))

  pub authority-stays : (a : Authority) → IsAuthorityOf n l a → IsAuthorityOf m k a
  authority-stays a of = record {
    key = of.key ∙ ap (λ (key : PublicKey). key.bytes) same.key;
    uri = of.uri ∙ certificates-same;
    folder = of.folder ∙ ap (folder_of premises.site) names-same;
    manifest = of.manifest
        ∙ (ap (λ (x : List ℕ). manifest_uri premises.site x (id_of l)) names-same
        ∙ ap (manifest_uri premises.site (published_key m k).name) ids);
  }
