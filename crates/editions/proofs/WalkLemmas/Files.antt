-- The files that a key's manifest lists: the certificates of the keys below it, the ROAs under it, and
-- its CRL.
use Rattle.std.proofs.Common.{◌≡◌, ◌≢◌, ℕ, ◌==◌, ◌&&◌, Bool, true, false, not, cond, Option, Some, List, [], ◌∷◌, ◌++◌, map, filter, filter_map, option_map, AllPairs, codes, refl, sym, ap, ◌∙◌, inl, inr}
use Rattle.std.specs.Str.{bytes_eq}
use Rattle.std.proofs.lemmas.Bool.{and_parts, false_from_ne_true, eqb-true, eq-eqb}
use Rattle.std.proofs.lemmas.List.Elements.{filter-append, filter_map-append}
use Rattle.std.proofs.lemmas.Slice.Eq.{bytes_eq-Decides}
use Rattle.std.proofs.Math.Seq.{drop-append_seam}
use Rattle.sha2.specs.Sha256.{sha256}
use Rattle.hex.specs.Hex.{encode_lower}
use Rattle.key_ids.specs.Uris.{Bases, anchor_uri, file_uri, cert_uri}
use Rattle.entitle.specs.declared.trees.Owed.{Owed}
use Rattle.entitle.specs.Certified.{names_of, AreCertified}
use Rattle.entitle.specs.Owed.{AreOwed}
use Rattle.key_roll.specs.declared.rows.KeyRow.{KeyRow}
use Rattle.key_roll.specs.declared.work.CertWork.{CertWork}
use Rattle.key_roll.specs.declared.work.RoaWork.{RoaWork}
use Rattle.cert_obj.specs.Values.{CertValue, sets_of}
use Rattle.rp_rules.specs.Authorities.{Authority}
use Rattle.rp_rules.specs.Certificates.{File}
use Rattle.issue_values.specs.Certificates.{anchor_certificate, authority_certificate}
use Rattle.issue_plan.specs.declared.keys.NextKey.{NextKey}
use Rattle.issue_plan.specs.Keys.{kept, next_keys}
use Rattle.issue_plan.specs.Uris.{roa_file}
use Rattle.issue_plan.specs.Wanted as plan
use Rattle.issue_plan.specs.Wanted.{certificate_of, point_of}
use Rattle.issue_keys.specs.Keys.{id_of}
use Rattle.issue_drafts.specs.WorkKeys.{Keys}
use Rattle.issue_drafts.specs.Publishers as publishers
use Rattle.issue_drafts.specs.IssueInput.{IssueInput}
use Rattle.issue_drafts.specs.Publishers.{is_key, name_at}
use Rattle.issue_drafts.specs.Drafts.{Draft, certificate_draft, roa_draft, crl_draft, drafts}
use Rattle.issue_drafts.specs.Files.{name_in, folder_at, is_made_under}
use Rattle.editions.specs.Keys.{AreNext}
use Rattle.editions.specs.Wanted.{all_certificates, all_roas, all_points}
use Rattle.editions.specs.Objects.{Issuance, file_of}
use Rattle.editions.proofs.WalkLemmas.Serving.{IsServed}
use Rattle.editions.specs.Names.{AreTree}
use Rattle.items.specs.laws.AmongLaws.{In, filter-in}
use Rattle.editions.proofs.WalkLemmas.Elements.{pairs-twos, twos-from}
use Rattle.editions.proofs.WalkLemmas.Members.{Member, members, members-are, members-twos, member-of, map-map, filter-map-some, filter-of-map, filter-one}
use Rattle.editions.proofs.WalkLemmas.Point.{Seat, publishing, authority_with, crl_listed}
use Rattle.editions.proofs.WalkLemmas.Roas.{roa_listed}
use Rattle.editions.proofs.WalkLemmas.Children.{key_listed}
use Rattle.editions.proofs.WalkLemmas.Whole.{uris_at}
use Rattle.editions.proofs.WalkLemmas.Homes as homes
use Rattle.editions.proofs.WalkLemmas.Seats as seats
use Rattle.editions.proofs.WalkLemmas.KeyDrafts as drawn
use Rattle.editions.proofs.WalkLemmas.Stands as stands

and-true : (b : Bool) → (b && true) ≡ b
and-true true = refl
and-true false = refl

and-false : (b : Bool) → (b && false) ≡ false
and-false true = refl
and-false false = refl

module _ (m : Issuance) (tree : AreTree (names_of m.plan_input.basis.configs))
    (are : AreCertified m.plan_input.basis.configs m.plan_input.basis.sets)
    (before : AllPairs (λ a b. id_of a ≢ id_of b) m.plan_input.basis.rows)
    (next : AreNext m.plan_input.basis.rows (next_keys m.plan_input.basis) m.keys)
    (set : IsServed m) (anchor : List ℕ) (owes : AreOwed m.plan_input.basis.configs m.plan_input.owed)
    (apart : (site : Bases) (a f : List ℕ) → anchor_uri site ≢ file_uri site a f) where
  abbrev pub K : Type 0
  K = Member m.keys

  abbrev pub O : Type 0
  O = Member m.plan_input.owed

  abbrev w : IssueInput
  w = homes.w m tree are before next

  abbrev ks : Keys
  ks = homes.ks m tree are before next

  abbrev pub issuer : K → KeyRow
  issuer c = homes.issuer m tree are before next c.0 c.1

  abbrev pub signer : O → KeyRow
  signer o = drawn.signer m tree are before next owes o.0 o.1

  -- The key issued the certificate of another key, or the ROA of an origin.
  abbrev pub is_below : K → K → Bool
  is_below k c = not (c.0.desk == 0) && is_key (issuer c) k.0

  abbrev pub is_under : K → O → Bool
  is_under k o = is_key (signer o) k.0

  abbrev pub of_key : K → File
  of_key c = key_listed c.0.key.bytes (seats.left m tree are before next set c.0 c.1).0

  abbrev pub of_origin : O → File
  of_origin o = roa_listed o.0.origin (stands.roa-left m tree are before next set anchor owes o.0 o.1).0

  abbrev pub of_crl : K → File
  of_crl k = crl_listed (stands.seat_of m tree are before next set anchor k.0 k.1)
      (stands.crl-left m tree are before next set anchor k.0 k.1).0

  -- ---- all drafts

  abbrev cert_drafted : K → Draft
  cert_drafted c = homes.draft m tree are before next c.0 c.1

  abbrev roa_drafted : O → Draft
  roa_drafted o = drawn.roa_drafted m tree are before next owes o.0 o.1

  abbrev crl_drafted : K → Draft
  crl_drafted c = drawn.crl m tree are before next c.0 c.1

  nexts-are : map kept m.keys ≡ map (λ (c : K). kept c.0) (members m.keys)
  nexts-are = ap (map kept) (sym (members-are m.keys))
      ∙ map-map (λ (c : K). c.0) kept (members m.keys)

  certs-are : filter_map (certificate_draft w ks) (all_certificates m.plan_input m.keys)
      ≡ map cert_drafted (members m.keys)
  certs-are =
      let cof : NextKey → Option CertWork = certificate_of m.plan_input.basis.configs m.plan_input.basis.sets
      (map kept m.keys) in
      ap (λ (ns : List NextKey). filter_map (certificate_draft w ks) (filter_map cof ns)) nexts-are
      ∙ (ap (filter_map (certificate_draft w ks))
      (filter-map-some cof (λ (c : K). kept c.0)
      (λ (c : K). homes.work m tree are before next c.0 c.1) (members m.keys)
      (λ c inside. homes.work-is m tree are before next c.0 c.1))
      ∙ filter-map-some (certificate_draft w ks)
      (λ (c : K). homes.work m tree are before next c.0 c.1) cert_drafted (members m.keys)
      (λ c inside. homes.draft-is m tree are before next c.0 c.1))

  roas-are : filter_map (roa_draft w ks) (all_roas m.plan_input m.keys)
      ≡ map roa_drafted (members m.plan_input.owed)
  roas-are =
      let rof : Owed → Option RoaWork = plan.roa_of (map kept m.keys) in
      ap (λ (os : List Owed). filter_map (roa_draft w ks) (filter_map rof os))
      (sym (members-are m.plan_input.owed))
      ∙ (ap (filter_map (roa_draft w ks))
      (filter-map-some rof (λ (o : O). o.0)
      (λ (o : O). drawn.work m tree are before next owes o.0 o.1) (members m.plan_input.owed)
      (λ o inside. drawn.work-is m tree are before next owes o.0 o.1))
      ∙ filter-map-some (roa_draft w ks)
      (λ (o : O). drawn.work m tree are before next owes o.0 o.1) roa_drafted
      (members m.plan_input.owed)
      (λ o inside. drawn.roa-draft-is m tree are before next owes o.0 o.1))

  crls-are : filter_map (crl_draft w ks) (all_points m.keys) ≡ map crl_drafted (members m.keys)
  crls-are =
      ap (λ (ns : List NextKey). filter_map (crl_draft w ks) (map point_of ns)) nexts-are
      ∙ (ap (filter_map (crl_draft w ks)) (map-map (λ (c : K). kept c.0) point_of (members m.keys))
      ∙ filter-map-some (crl_draft w ks) (λ (c : K). point_of (kept c.0)) crl_drafted (members m.keys)
      (λ c inside. drawn.crl-draft-is m tree are before next c.0 c.1))

  pub drafts-are : drafts w ks ≡ (map cert_drafted (members m.keys)
      ++ map roa_drafted (members m.plan_input.owed)) ++ map crl_drafted (members m.keys)
  drafts-are =
      let of : List Draft → List Draft → List Draft → List Draft = λ a b c. (a ++ b) ++ c in
      let roas : List Draft = filter_map (roa_draft w ks) (all_roas m.plan_input m.keys) in
      let crls : List Draft = filter_map (crl_draft w ks) (all_points m.keys) in
      ap (λ (a : List Draft). of a roas crls) certs-are
      ∙ (ap (λ (b : List Draft). of (map cert_drafted (members m.keys)) b crls) roas-are
      ∙ ap (of (map cert_drafted (members m.keys)) (map roa_drafted (members m.plan_input.owed))) crls-are)

  -- ---- those of a key

  module _ (k : K) where
    abbrev under : Draft → Bool
    under d = is_made_under w k.0 d

    no-anchor : (d : Draft) (name file : List ℕ) → d.uri ≡ file_uri m.plan_input.site name file
        → bytes_eq d.uri (anchor_uri m.plan_input.site) ≡ false
    no-anchor d name file placed = false_from_ne_true (bytes_eq d.uri (anchor_uri m.plan_input.site)) (λ e.
        apart m.plan_input.site name file
        (sym ((bytes_eq-Decides d.uri (anchor_uri m.plan_input.site)).0 e) ∙ placed))

    in-folder : (d : Draft) (name file : List ℕ) → d.uri ≡ file_uri m.plan_input.site name file
        → under d ≡ is_key d.issuer k.0
    in-folder d name file placed =
        ap (λ (b : Bool). is_key d.issuer k.0 && not b) (no-anchor d name file placed)
        ∙ and-true (is_key d.issuer k.0)

    -- Where the certificate of a key that isn't the trust anchor's stands.
    cert-place : (c : K) → c.0.desk ≢ 0
        → (cert_drafted c).uri ≡ cert_uri m.plan_input.site
        (name_at (names_of m.plan_input.basis.configs) (issuer c).desk) (id_of c.0)
    cert-place c other = ap (λ (b : Bool). cond b (anchor_uri m.plan_input.site)
        (cert_uri m.plan_input.site (name_at (names_of m.plan_input.basis.configs) (issuer c).desk)
        (id_of c.0))) (homes.apart-issuer m tree are before next c.0 c.1 other)

    cert-under : (c : K) → under (cert_drafted c) ≡ is_below k c
    cert-under c = by (c.0.desk == 0) refl
      where
        by : (b : Bool) → (c.0.desk == 0) ≡ b → under (cert_drafted c) ≡ is_below k c
        by true e =
            let own : issuer c ≡ c.0 =
            homes.own-issuer m tree are before next c.0 c.1 (eqb-true c.0.desk 0 e) in
            let uri : (cert_drafted c).uri ≡ anchor_uri m.plan_input.site =
            ap (λ (b : Bool). cond b (anchor_uri m.plan_input.site)
            (cert_uri m.plan_input.site (name_at (names_of m.plan_input.basis.configs) (issuer c).desk)
            (id_of c.0)))
            (ap (λ (i : KeyRow). is_key i c.0) own ∙ (bytes_eq-Decides (id_of c.0) (id_of c.0)).1 refl) in
            ap (λ (b : Bool). is_key (issuer c) k.0 && not b)
            ((bytes_eq-Decides (cert_drafted c).uri (anchor_uri m.plan_input.site)).1 uri)
            ∙ (and-false (is_key (issuer c) k.0)
            ∙ sym (ap (λ (b : Bool). not b && is_key (issuer c) k.0) e))
        by false e =
            let other : c.0.desk ≢ 0 = λ zero. absurd (no (sym (eq-eqb c.0.desk 0 zero) ∙ e)) in
            in-folder (cert_drafted c) (name_at (names_of m.plan_input.basis.configs) (issuer c).desk)
            (encode_lower (id_of c.0) ++ codes ".cer") (cert-place c other)
            ∙ sym (ap (λ (b : Bool). not b && is_key (issuer c) k.0) e)
          where
            no : true ≡ false → ⊥
            no e = absurd cc

    abbrev below : List K
    below = filter (is_below k) (members m.keys)

    abbrev owed_under : List O
    owed_under = filter (is_under k) (members m.plan_input.owed)

    abbrev own : List K
    own = filter (λ (c : K). is_key c.0 k.0) (members m.keys)

    filtered : filter under (drafts w ks)
        ≡ (map cert_drafted below ++ map roa_drafted owed_under) ++ map crl_drafted own
    filtered =
        let certs : List Draft = map cert_drafted (members m.keys) in
        let roas : List Draft = map roa_drafted (members m.plan_input.owed) in
        let crls : List Draft = map crl_drafted (members m.keys) in
        let of : List Draft → List Draft → List Draft → List Draft = λ a b c. (a ++ b) ++ c in
        ap (filter under) drafts-are
        ∙ (filter-append under (certs ++ roas) crls
        ∙ (ap (λ (l : List Draft). l ++ filter under crls) (filter-append under certs roas)
        ∙ (ap (λ (l : List Draft). of l (filter under roas) (filter under crls))
        (filter-of-map under cert_drafted (is_below k) (members m.keys) (λ c inside. cert-under c))
        ∙ (ap (λ (l : List Draft). of (map cert_drafted below) l (filter under crls))
        (filter-of-map under roa_drafted (is_under k) (members m.plan_input.owed) (λ o inside.
        in-folder (roa_drafted o) (name_at (names_of m.plan_input.basis.configs) (signer o).desk)
        (roa_file o.0.origin) refl))
        ∙ ap (of (map cert_drafted below) (map roa_drafted owed_under))
        (filter-of-map under crl_drafted (λ (c : K). is_key c.0 k.0) (members m.keys) (λ c inside.
        in-folder (crl_drafted c) (name_at (names_of m.plan_input.basis.configs) c.0.desk)
        (encode_lower (id_of c.0) ++ codes ".crl") refl))))))

    -- The key is itself alone.
    pub own-one : (c : K) × (own ≡ c ∷ []) × (c.0 ≡ k.0)
    own-one =
        let e = member-of k.0 m.keys k.1 in
        let so : is_key e.0.0 k.0 ≡ true =
        ap (λ (r : KeyRow). is_key r k.0) e.2 ∙ (bytes_eq-Decides (id_of k.0) (id_of k.0)).1 refl in
        let one = filter-one (λ (c : K). is_key c.0 k.0) e.0 (members m.keys) e.1 so
        (members-twos (λ (a b : KeyRow). is_key a k.0 ≡ true → is_key b k.0 ≡ true → ⊥) m.keys
        (twos-from (λ (a b : KeyRow). id_of a ≢ id_of b)
        (λ (a b : KeyRow). is_key a k.0 ≡ true → is_key b k.0 ≡ true → ⊥) m.keys
        (λ a b x y other p q. other ((bytes_eq-Decides (id_of a) (id_of k.0)).0 p
        ∙ sym ((bytes_eq-Decides (id_of b) (id_of k.0)).0 q)))
        (pairs-twos (λ (a b : KeyRow). id_of a ≢ id_of b) m.keys next.apart))) in (
          one.0,
          one.1,
          homes.one-key m tree are before next one.0.0 k.0 one.0.1 k.1
              ((bytes_eq-Decides (id_of one.0.0) (id_of k.0)).0 one.2),
        )

    -- ---- the files

    abbrev name : List ℕ
    name = name_at (names_of m.plan_input.basis.configs) k.0.desk

    abbrev file_in : Draft → Option File
    file_in d = file_of m.new (folder_at w k.0) d

    file-is : (d : Draft) (file bytes : List ℕ) → d.uri ≡ file_uri m.plan_input.site name file
        → m.new d.uri ≡ Some bytes → file_in d ≡ Some (file, sha256 bytes)
    file-is d file bytes placed there =
        let folder : List ℕ = folder_at w k.0 in
        let of : Option (List ℕ) → Option File =
        option_map (λ (b : List ℕ). (name_in folder d.uri, sha256 b)) in
        let named : name_in folder d.uri ≡ file =
        ap (name_in folder) placed ∙ drop-append_seam folder file in
        ap of there ∙ ap (λ (n : List ℕ). some (n, sha256 bytes)) named
      where
        some : File → Option File
        some file = Some file

    -- A key below it is issued by it.
    pub below-is : (c : K) → is_below k c ≡ true → (issuer c ≡ k.0) × (c.0.desk ≢ 0)
    below-is c so =
        let p = and_parts (not (c.0.desk == 0)) (is_key (issuer c) k.0) so in (
          homes.one-key m tree are before next (issuer c) k.0
              (homes.above m tree are before next c.0 c.1).live k.1
              ((bytes_eq-Decides (id_of (issuer c)) (id_of k.0)).0 p.1),
          λ zero. none (sym (ap not (eq-eqb c.0.desk 0 zero)) ∙ p.0),
        )
      where
        none : false ≡ true → ⊥
        none e = absurd cc

    pub below-place : (c : K) → is_below k c ≡ true
        → (cert_drafted c).uri ≡ cert_uri m.plan_input.site name (id_of c.0)
    below-place c so =
        let is = below-is c so in
        cert-place c is.1
        ∙ ap (λ (r : KeyRow). cert_uri m.plan_input.site
        (name_at (names_of m.plan_input.basis.configs) r.desk) (id_of c.0)) is.0

    pub under-is : (o : O) → is_under k o ≡ true → signer o ≡ k.0
    under-is o so =
        homes.one-key m tree are before next (signer o) k.0
        (drawn.signer-at m tree are before next owes o.0 o.1) k.1
        ((bytes_eq-Decides (id_of (signer o)) (id_of k.0)).0 so)

    pub files-are : filter_map file_in (filter under (drafts w ks))
        ≡ (map of_key below ++ map of_origin owed_under) ++ of_crl own-one.0 ∷ []
    files-are =
        let certs : List Draft = map cert_drafted below in
        let roas : List Draft = map roa_drafted owed_under in
        let of : List File → List File → List File → List File = λ a b c. (a ++ b) ++ c in
        ap (filter_map file_in) filtered
        ∙ (filter_map-append file_in (certs ++ roas) (map crl_drafted own)
        ∙ (ap (λ (l : List File). l ++ filter_map file_in (map crl_drafted own))
        (filter_map-append file_in certs roas)
        ∙ (ap (λ (l : List File). of l (filter_map file_in roas) (filter_map file_in (map crl_drafted own)))
        (filter-map-some file_in cert_drafted of_key below (λ c inside.
        let so = (filter-in (is_below k) c (members m.keys) inside).1 in
        file-is (cert_drafted c) (encode_lower (id_of c.0) ++ codes ".cer")
        (seats.left m tree are before next set c.0 c.1).0 (below-place c so)
        (seats.left m tree are before next set c.0 c.1).1))
        ∙ (ap (λ (l : List File). of (map of_key below) l (filter_map file_in (map crl_drafted own)))
        (filter-map-some file_in roa_drafted of_origin owed_under (λ o inside.
        let so = (filter-in (is_under k) o (members m.plan_input.owed) inside).1 in
        file-is (roa_drafted o) (roa_file o.0.origin)
        (stands.roa-left m tree are before next set anchor owes o.0 o.1).0
        (ap (λ (r : KeyRow). file_uri m.plan_input.site
        (name_at (names_of m.plan_input.basis.configs) r.desk) (roa_file o.0.origin)) (under-is o so))
        (stands.roa-left m tree are before next set anchor owes o.0 o.1).1))
        ∙ ap (of (map of_key below) (map of_origin owed_under)) crl-file))))
      where
        crl-file : filter_map file_in (map crl_drafted own) ≡ of_crl own-one.0 ∷ []
        crl-file =
            ap (λ (l : List K). filter_map file_in (map crl_drafted l)) own-one.1
            ∙ filter-map-some file_in crl_drafted of_crl (own-one.0 ∷ []) (λ c inside. at c inside)
          where
            at : (c : K) → In c (own-one.0 ∷ []) → file_in (crl_drafted c) ≡ Some (of_crl c)
            at c (inr none) = absurd none
            at c (inl same) =
                let is : c.0 ≡ k.0 = ap (λ (x : K). x.0) (sym same) ∙ own-one.2 in
                file-is (crl_drafted c) (encode_lower (id_of c.0) ++ codes ".crl")
                (stands.crl-left m tree are before next set anchor c.0 c.1).0
                (ap (λ (r : KeyRow). file_uri m.plan_input.site
                (name_at (names_of m.plan_input.basis.configs) r.desk)
                (encode_lower (id_of c.0) ++ codes ".crl")) is)
                (stands.crl-left m tree are before next set anchor c.0 c.1).1

  -- ---- places

  abbrev pub seat : KeyRow → Seat
  seat k = record {
    key = k.key.bytes;
    name = name_at (names_of m.plan_input.basis.configs) k.desk;
    certificate = publishers.certificate_of w ks k;
  }

  -- What the certificate of a key says.
  abbrev pub value : K → CertValue
  value c =
      let held = homes.held m tree are before next c.0 c.1 in
      let serial = seats.serial m tree are before next set c.0 c.1 in
      let made = seats.made m tree are before next set c.0 c.1 in
      cond (c.0.desk == 0)
      (anchor_certificate m.plan_input.site made (publishing (seat c.0)) held serial)
      (authority_certificate m.plan_input.site made (publishing (seat (issuer c)))
      (publishing (seat c.0)) held serial)

  abbrev pub authority : K → Authority
  authority c = authority_with (stands.s m tree are before next set anchor) (seat c.0) (value c)
      (sets_of (homes.held m tree are before next c.0 c.1))

  abbrev pub place : O → List ℕ
  place o = (drawn.roa_drafted m tree are before next owes o.0 o.1).uri

  -- The places of a key's point and of what it lists.
  abbrev pub uris : K → List (List ℕ)
  uris = uris_at authority place (λ k. filter (is_below k) (members m.keys))
      (λ k. filter (is_under k) (members m.plan_input.owed))
