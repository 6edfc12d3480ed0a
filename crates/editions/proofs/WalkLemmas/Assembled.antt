-- The set of an edition is published.
use Rattle.std.proofs.Common.{◌≡◌, ◌≢◌, ℕ, Bool, true, false, cond, Option, Some, List, [], ◌∷◌, ◌++◌, map, option_map, All, AllPairs, IsSome, refl, sym, ap, subst, ◌∙◌, inl, inr}
use Rattle.std.specs.Ordering.{is_eq}
use Rattle.std.proofs.lemmas.Cmp.{nat_list_cmp_total, tied_itself}
use Rattle.std.proofs.lemmas.List.Sums.{list_all-from_AllPass}
use Rattle.names.specs.Name.{IsName}
use Rattle.key_ids.specs.Uris.{Bases, anchor_uri, folder_of, file_uri}
use Rattle.authority_book.specs.declared.rows.NameRow.{NameRow}
use Rattle.entitle.specs.Certified.{names_of}
use Rattle.key_roll.specs.declared.rows.KeyRow.{KeyRow}
use Rattle.key_roll.specs.declared.rows.Role.TheVariants.{Current}
use Rattle.cert_obj.specs.Values.{SignedCert}
use Rattle.pub_set.specs.declared.objects.Object.{Object}
use Rattle.pub_set.specs.Objects.{content_at, is_same, IsAscending}
use Rattle.rp_rules.specs.Authorities.{is_folder}
use Rattle.rp_rules.specs.Certificates.{WalkContext, is_revoked}
use Rattle.signer_api.specs.declared.values.PublicKey.{PublicKey}
use Rattle.rp_rules.specs.Walk.{walk}
use Rattle.rp_rules.specs.Sound.{is_visited}
use Rattle.issue_values.specs.Bodies.{crl_entry}
use Rattle.issue_plan.specs.Keys.{row_of}
use Rattle.issue_keys.specs.Keys.{id_of}
use Rattle.issue_drafts.specs.Publishers.{name_at}
use Rattle.editions.specs.Edition.{Edition, set_after}
use Rattle.editions.specs.Held.{IsHeld, HaveOwnSerials}
use Rattle.editions.specs.Objects.{Issuance}
use Rattle.editions.specs.Step.{Premises, IsStep, AreSteps, counted, configs_at}
use Rattle.editions.specs.MadeIn.{issuance_of}
use Rattle.editions.specs.Published.{looking, yielded_for, IsPublished}
use Rattle.editions.specs.Names.{AreTree}
use Rattle.items.specs.laws.AmongLaws.{In, all-in, in-contains}
use Rattle.editions.proofs.ObjectLemmas.Lives.{counted-same}
use Rattle.editions.proofs.WalkLemmas.Rows.{rows-apart, last-step, current-kept}
use Rattle.editions.proofs.WalkLemmas.KeyTree.{in-tree}
use Rattle.editions.proofs.PlanLemmas.Told as plans
use Rattle.editions.proofs.WalkLemmas.Serving.{IsServed}
use Rattle.editions.proofs.WalkLemmas.Serves.{all-served}
use Rattle.editions.proofs.WalkLemmas.Revoked.{leaves-held}
use Rattle.editions.proofs.WalkLemmas.Folders.{plain-folder, plain-name}
use Rattle.editions.proofs.WalkLemmas.Inside.{HaveSpans, AreInsides}
use Rattle.editions.proofs.WalkLemmas.Build.{AreKinds}
use Rattle.editions.proofs.WalkLemmas.Apart.{AreTold}
use Rattle.editions.proofs.WalkLemmas.Whole.{IsWalked}
use Rattle.editions.proofs.WalkLemmas.Levelled as levelled
use Rattle.editions.proofs.WalkLemmas.Trees as trees

-- ---- each object of a set

some-first : (b : Bool) (bytes : List ℕ) (rest : Option (List ℕ)) → b ≡ true
    → IsSome (cond b (Some bytes) rest)
some-first true bytes rest e = refl
some-first false bytes rest e = absurd cc

some-later : (b : Bool) (bytes : List ℕ) (rest : Option (List ℕ)) → IsSome rest
    → IsSome (cond b (Some bytes) rest)
some-later true bytes rest some = refl
some-later false bytes rest some = some

-- At the URI of an object something stands.
stands : (objects : List Object) (o : Object) → In o objects → IsSome (content_at objects o.uri)
stands [] o at = absurd at
stands (first ∷ objects) o (inl same) =
    some-first (is_same first.uri o.uri) first.bytes (content_at objects o.uri)
    (ap (λ (x : Object). is_same first.uri x.uri) (sym same)
    ∙ ap is_eq (tied_itself nat_list_cmp_total first.uri))
stands (first ∷ objects) o (inr later) =
    some-later (is_same first.uri o.uri) first.bytes (content_at objects o.uri)
    (stands objects o later)

-- ---- the edition

module _ (own : (premises : Premises) (editions : List Edition) (id : List ℕ) → AreSteps premises editions
    → HaveOwnSerials editions id)
    (apart : (site : Bases) (a f : List ℕ) → anchor_uri site ≢ file_uri site a f)
    (kinds : AreKinds) (told : AreTold) (spans : HaveSpans) (insides : AreInsides)
    (premises : Premises) (editions : List Edition) (edition : Edition)
    (steps : AreSteps premises (editions ++ edition ∷ []))
    (tree : AreTree (names_of (configs_at premises.lists edition.cut)))
    (plain : All (λ row. IsName row.name) (names_of (configs_at premises.lists edition.cut))) where
  last : (clock : ℕ) × IsStep premises clock editions edition
  last = last-step premises editions edition steps

  abbrev step : IsStep premises last.0 editions edition
  step = last.1

  -- What the edition is made of.
  abbrev m : Issuance
  m = issuance_of premises last.0 editions edition step

  before : AllPairs (λ a b. id_of a ≢ id_of b) m.plan_input.basis.rows
  before = rows-apart premises editions edition steps

  abbrev names : List NameRow
  names = names_of m.plan_input.basis.configs

  plain-at : (k : KeyRow) → In k m.keys → IsName (name_at names k.desk)
  plain-at k at =
      let is = in-tree m.plan_input.basis m.keys tree step.made.certified before step.made.next k at in
      plain-name names plain k.desk is.name is.is.named

  folders : (k : KeyRow) → In k m.keys
      → is_folder m.plan_input.site (folder_of m.plan_input.site (name_at names k.desk)) ≡ true
  folders k at = plain-folder m.plan_input.site (name_at names k.desk) (plain-at k at)

  -- What stands serves.
  abbrev places : plans.AreTold
  places = record {
    anchor = apart;
    certificates = told.certificates;
    crls = told.crls;
    manifests = told.manifests;
    roas = told.roas;
  }

  abbrev ends : plans.HaveEnds
  ends = record {
    anchor = kinds.anchor;
    certificates = kinds.certificates;
    crls = kinds.crls;
    manifests = kinds.manifests;
    roas = kinds.roas;
  }

  served : IsServed m
  served = all-served places ends premises editions last.0 edition step steps tree plain

  not-revoked : (k : KeyRow) (at : In k m.keys) (c : SignedCert) → IsHeld m.new (id_of k) c
      → is_revoked (map crl_entry (served.points k (in-contains k m.keys at)).revoked) c.cert.serial ≡ false
  not-revoked = leaves-held own premises editions edition steps last.0 step served

  walked : IsWalked (trees.s m tree step.made.certified before step.made.next served step.made.owes
      apart kinds spans insides folders not-revoked told plain-at) m.new
      (map (yielded_for m.plan_input.site names) m.plan_input.owed)
  walked = trees.walked m tree step.made.certified before step.made.next served step.made.owes
      apart kinds spans insides folders not-revoked told plain-at

  abbrev top : KeyRow
  top = (levelled.top m tree step.made.certified before step.made.next served).0

  abbrev anchor : KeyRow
  anchor = counted m.plan_input m.keys m.entries top

  -- A look under that key.
  abbrev looked : PublicKey → WalkContext
  looked key = record {
    vouched = premises.vouched;
    anchor = key.bytes;
    bases = premises.site;
    moment = edition.moment;
  }

  current : row_of edition.rows 0 Current ≡ Some anchor
  current =
      ap (λ (rows : List KeyRow). row_of rows 0 Current) step.made.rows
      ∙ (current-kept m.plan_input m.keys m.entries m.keys 0
      ∙ ap (option_map (counted m.plan_input m.keys m.entries))
      (levelled.top-current m tree step.made.certified before step.made.next served))

  pub published : (objects : List Object) → IsAscending objects
      → ((uri : List ℕ) → content_at objects uri ≡ set_after (editions ++ edition ∷ []) uri)
      → IsPublished premises edition (set_after (editions ++ edition ∷ []))
  published objects ascending match_ =
      let same : m.new ≡ content_at objects = λ i uri. sym (match_ uri) i in
      record {
        anchor = anchor;
        current = current;
        objects = objects;
        ascending = ascending;
        are = match_;
        visits = walked.visits;
        sound = record {
          walk = ap (walk (looking premises edition anchor)) (sym same)
              ∙ (ap (λ (key : PublicKey). walk (looked key) m.new) (counted-same m top).key ∙ walked.walked);
          all = list_all-from_AllPass (is_visited walked.visits) objects (all-in (λ (o : Object).
              is_visited walked.visits o ≡ true) objects (λ o at.
              walked.all o.uri (subst (λ (bs : Option (List ℕ)). IsSome bs) (match_ o.uri)
              (stands objects o at))));
        };
        owed = step.owed;
        owes = step.made.owes;
        yields = walked.yields;
        once = walked.once;
      }
