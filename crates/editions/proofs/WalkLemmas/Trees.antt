-- The walk of an edition's set visits all of it, and yields what is owed.
use Rattle.std.proofs.Common.{◌≡◌, ◌≢◌, ℕ, true, false, List, ◌∷◌, map, AllPairs, Ok, cond, sym, ap, subst, ◌∙◌, Bool}
use Rattle.std.specs.List.{flat_map}
use Rattle.std.proofs.lemmas.Bool.{eq-eqb}
use Rattle.names.specs.Name.{IsName}
use Rattle.key_ids.specs.Uris.{Bases, anchor_uri, folder_of, file_uri}
use Rattle.entitle.specs.Certified.{names_of, AreCertified}
use Rattle.entitle.specs.Owed.{AreOwed}
use Rattle.key_roll.specs.declared.rows.KeyRow.{KeyRow}
use Rattle.cert_obj.specs.Values.{CertValue, SignedCert, sets_of}
use Rattle.rp_rules.specs.Checks.{Checked}
use Rattle.rp_rules.specs.Certificates.{WalkContext, is_revoked, accepted_anchor}
use Rattle.rp_rules.specs.Authorities.{Authority, is_folder}
use Rattle.issue_values.specs.Bodies.{crl_entry}
use Rattle.issue_values.specs.Certificates.{anchor_certificate, authority_certificate}
use Rattle.issue_plan.specs.Keys.{next_keys}
use Rattle.issue_keys.specs.Keys.{id_of}
use Rattle.issue_drafts.specs.Publishers.{name_at}
use Rattle.editions.specs.Held.{IsHeld}
use Rattle.editions.specs.Keys.{AreNext}
use Rattle.editions.specs.Objects.{Issuance}
use Rattle.editions.proofs.WalkLemmas.Serving.{IsServed}
use Rattle.editions.specs.Published.{yielded_for}
use Rattle.editions.specs.Names.{AreTree}
use Rattle.items.specs.laws.AmongLaws.{In, in-contains}
use Rattle.editions.proofs.WalkLemmas.Members.{Member, members, members-are, map-map}
use Rattle.editions.proofs.WalkLemmas.Inside.{HaveSpans, AreInsides}
use Rattle.editions.proofs.WalkLemmas.Levels.{one-level}
use Rattle.editions.proofs.WalkLemmas.Levelled as levelled
use Rattle.editions.proofs.WalkLemmas.Point.{Seat, publishing, authority_with}
use Rattle.editions.proofs.WalkLemmas.Tops.{HasAnchor, top_seat, anchor-accepted}
use Rattle.editions.proofs.WalkLemmas.Whole.{IsWalked, IsTree, tree-walked}
use Rattle.editions.proofs.WalkLemmas.Walks.{AreApart}
use Rattle.editions.proofs.WalkLemmas.Homes as homes
use Rattle.editions.proofs.WalkLemmas.Seats as seats
use Rattle.editions.proofs.WalkLemmas.Files as files
use Rattle.editions.proofs.WalkLemmas.Build as build
use Rattle.editions.proofs.WalkLemmas.Build.{AreKinds}
use Rattle.editions.proofs.WalkLemmas.Apart as apart_
use Rattle.editions.proofs.WalkLemmas.Apart.{AreTold}
use Rattle.editions.proofs.WalkLemmas.Everywhere.{everywhere}

module _ (m : Issuance) (tree : AreTree (names_of m.plan_input.basis.configs))
    (are : AreCertified m.plan_input.basis.configs m.plan_input.basis.sets)
    (before : AllPairs (λ a b. id_of a ≢ id_of b) m.plan_input.basis.rows)
    (next : AreNext m.plan_input.basis.rows (next_keys m.plan_input.basis) m.keys)
    (set : IsServed m) (owes : AreOwed m.plan_input.basis.configs m.plan_input.owed)
    (apart : (site : Bases) (a f : List ℕ) → anchor_uri site ≢ file_uri site a f) (kinds : AreKinds)
    (spans : HaveSpans) (insides : AreInsides)
    (folders : (k : KeyRow) → In k m.keys → is_folder m.plan_input.site
    (folder_of m.plan_input.site (name_at (names_of m.plan_input.basis.configs) k.desk)) ≡ true)
    (unrevoked : (k : KeyRow) (at : In k m.keys) (c : SignedCert) → IsHeld m.new (id_of k) c
    → is_revoked (map crl_entry (set.points k (in-contains k m.keys at)).revoked) c.cert.serial ≡ false)
    (told : AreTold)
    (plain : (k : KeyRow) → In k m.keys
    → IsName (name_at (names_of m.plan_input.basis.configs) k.desk)) where
  abbrev K : Type 0
  K = Member m.keys

  abbrev pub top : K
  top = levelled.top m tree are before next set

  abbrev pub anchor : List ℕ
  anchor = top.0.key.bytes

  abbrev pub s : WalkContext
  s = build.s m tree are before next set anchor owes apart kinds spans insides folders unrevoked

  abbrev seat : KeyRow → Seat
  seat = build.seat m tree are before next set anchor owes apart kinds spans insides folders unrevoked

  abbrev authority : K → Authority
  authority = build.authority m tree are before next set anchor owes apart kinds spans insides folders unrevoked

  top-desk : top.0.desk ≡ 0
  top-desk = levelled.top-desk m tree are before next set

  top-at : (seat top.0).certificate ≡ anchor_uri m.plan_input.site
  top-at = homes.certificate-at m tree are before next top.0 top.1
      ∙ levelled.top-place m tree are before next set top top-desk

  top-is : top_seat s ≡ seat top.0
  top-is =
      let of : List ℕ → List ℕ → Seat = λ name certificate. record {
        key = anchor;
        name = name;
        certificate = certificate;
      } in
      ap (λ (n : List ℕ). of n (anchor_uri m.plan_input.site))
      (sym (levelled.top-name m tree are before next set top top-desk))
      ∙ ap (of (name_at (names_of m.plan_input.basis.configs) top.0.desk)) (sym top-at)

  abbrev has-anchor : HasAnchor s (seat top.0) m.new (homes.held m tree are before next top.0 top.1)
  has-anchor =
      let left = seats.left m tree are before next set top.0 top.1 in
      let object = seats.is_object m tree are before next set top.0 top.1 in
      record {
        bytes = left.0;
        there = ap m.new (homes.certificate-at m tree are before next top.0 top.1) ∙ left.1;
        certificate = object.certificate;
        read = object.read;
        made = object.made;
        time = object.time;
        serial = seats.serial m tree are before next set top.0 top.1;
        says = levelled.top-says m tree are before next set top top-desk;
        issued = subst (λ (r : KeyRow). m.vouched r.key.bytes object.certificate.digest
            object.certificate.signature ≡ true)
            (homes.own-issuer m tree are before next top.0 top.1 top-desk) object.vouched;
      }

  anchored : accepted_anchor s m.new ≡ Ok (authority top)
  anchored =
      let with : CertValue → Checked Authority = λ v.
      Ok (authority_with s (seat top.0) v (sets_of (homes.held m tree are before next top.0 top.1))) in
      anchor-accepted s (seat top.0) m.new (homes.held m tree are before next top.0 top.1) top-is has-anchor
      ∙ sym (ap (λ (b : Bool). with (cond b
      (anchor_certificate m.plan_input.site (seats.made m tree are before next set top.0 top.1) (publishing (seat top.0))
      (homes.held m tree are before next top.0 top.1) (seats.serial m tree are before next set top.0 top.1))
      (authority_certificate m.plan_input.site (seats.made m tree are before next set top.0 top.1)
      (publishing (seat (homes.issuer m tree are before next top.0 top.1))) (publishing (seat top.0))
      (homes.held m tree are before next top.0 top.1)
      (seats.serial m tree are before next set top.0 top.1)))) (eq-eqb top.0.desk 0 top-desk))

  abbrev uris : K → List (List ℕ)
  uris = files.uris m tree are before next set anchor owes apart

  is-tree : IsTree s m.new (members m.keys) (members m.plan_input.owed)
      (files.is_below m tree are before next set anchor owes apart)
      (files.is_under m tree are before next set anchor owes apart)
      (levelled.level m tree are before next set)
      (build.are-points m tree are before next set anchor owes apart kinds spans insides folders unrevoked)
  is-tree = record {
    top = top;
    anchor = anchored;
    first = levelled.top-first m tree are before next set;
    next = levelled.below-next m tree are before next set anchor owes apart;
    one_above = levelled.one-above m tree are before next set anchor owes apart;
    some = λ k at. levelled.own-level m tree are before next set k;
    one_level = λ k at i j. one-level m.plan_input.basis.configs i j
        (levelled.name_of m tree are before next set k);
    one_issuer = apart_.one-issuer m tree are before next set anchor owes apart kinds spans insides folders
        unrevoked told plain;
    issued = apart_.issued m tree are before next set anchor owes apart kinds spans insides folders
        unrevoked told plain;
    told_apart = apart_.told-apart m tree are before next set anchor owes apart kinds spans insides folders
        unrevoked told plain;
    apart = subst (λ (u : List ℕ). AreApart (u ∷ flat_map uris (members m.keys))) (sym top-at)
        (apart_.all-twos m tree are before next set anchor owes apart kinds spans insides folders
        unrevoked told plain);
    places = λ uri there. subst (λ (u : List ℕ). In uri (u ∷ flat_map uris (members m.keys))) (sym top-at)
        (everywhere m tree are before next set anchor owes apart uri there);
  }

  told-is : map (build.told m tree are before next set anchor owes apart kinds spans insides folders
      unrevoked) (members m.plan_input.owed)
      ≡ map (yielded_for m.plan_input.site (names_of m.plan_input.basis.configs)) m.plan_input.owed
  told-is =
      sym (map-map (λ (o : Member m.plan_input.owed). o.0)
      (yielded_for m.plan_input.site (names_of m.plan_input.basis.configs)) (members m.plan_input.owed))
      ∙ ap (map (yielded_for m.plan_input.site (names_of m.plan_input.basis.configs)))
      (members-are m.plan_input.owed)

  pub walked : IsWalked s m.new
      (map (yielded_for m.plan_input.site (names_of m.plan_input.basis.configs)) m.plan_input.owed)
  walked =
      subst (IsWalked s m.new) told-is
      (tree-walked s m.new (members m.keys) (members m.plan_input.owed)
      (files.is_below m tree are before next set anchor owes apart)
      (files.is_under m tree are before next set anchor owes apart)
      (levelled.level m tree are before next set)
      (build.are-points m tree are before next set anchor owes apart kinds spans insides folders unrevoked)
      is-tree)
