-- The CRLs, the manifests and the ROAs of an edition, as they stand.
use Rattle.std.proofs.Common.{◌≡◌, ◌≢◌, ℕ, Some, List, ◌++◌, map, AllPairs, refl, ap}
use Rattle.std.specs.Prelude.{Contains, false}
use Rattle.std.specs.List.{filter_map}
use Rattle.std.proofs.lemmas.List.Elements.{Contains-append_left, Contains-append_right}
use Rattle.entitle.specs.declared.trees.Owed.{Owed}
use Rattle.entitle.specs.Certified.{names_of, AreCertified}
use Rattle.entitle.specs.Owed.{AreOwed}
use Rattle.key_roll.specs.declared.rows.KeyRow.{KeyRow}
use Rattle.key_roll.specs.declared.work.RoaWork.{RoaWork}
use Rattle.cert_obj.specs.Values.{CertValue, SignedCert}
use Rattle.crl_obj.specs.declared.values.CrlEntry.{CrlEntry}
use Rattle.rp_rules.specs.Certificates as walk
use Rattle.rp_rules.specs.Certificates.{is_revoked}
use Rattle.issue_values.specs.Bodies.{crl_entry}
use Rattle.issue_plan.specs.Keys.{kept, next_keys}
use Rattle.issue_plan.specs.Wanted as plan
use Rattle.issue_keys.specs.Keys.{id_of}
use Rattle.issue_drafts.specs.Drafts.{Draft, certificate_draft, roa_draft, crl_draft, drafts, manifests}
use Rattle.editions.specs.Held.{IsHeld}
use Rattle.editions.specs.Keys.{AreNext}
use Rattle.editions.specs.Wanted.{all_certificates, all_roas, all_points, all_objects}
use Rattle.editions.specs.Objects.{Issuance}
use Rattle.editions.specs.Names.{AreTree}
use Rattle.items.specs.laws.ElementLaws.{into-filter_map}
use Rattle.items.specs.laws.AmongLaws.{In, in-contains, in-filter-map}
use Rattle.editions.proofs.WalkLemmas.Point.{Seat, HasCrl, HasManifest}
use Rattle.editions.proofs.WalkLemmas.Roas.{IsOwedRoa}
use Rattle.editions.proofs.WalkLemmas.Serving.{IsServed, ServesPoint, ServesRoa}
use Rattle.editions.proofs.WalkLemmas.Homes as homes
use Rattle.editions.proofs.WalkLemmas.KeyDrafts as drawn
use Rattle.editions.proofs.WalkLemmas.Serials.{manifest-has, roa-has}

module _ (m : Issuance) (tree : AreTree (names_of m.plan_input.basis.configs))
    (are : AreCertified m.plan_input.basis.configs m.plan_input.basis.sets)
    (before : AllPairs (λ a b. id_of a ≢ id_of b) m.plan_input.basis.rows)
    (next : AreNext m.plan_input.basis.rows (next_keys m.plan_input.basis) m.keys)
    (set : IsServed m) (anchor : List ℕ) where
  -- How a relying party with that anchor looks at the set.
  abbrev pub s : walk.WalkContext
  s = record {
    vouched = m.vouched;
    anchor = anchor;
    bases = m.plan_input.site;
    moment = m.plan_input.basis.moment;
  }

  abbrev pub seat_of : (k : KeyRow) → In k m.keys → Seat
  seat_of k at = homes.seat m tree are before next k at

  module _ (k : KeyRow) (at : In k m.keys) where
    -- ---- the CRL and the manifest

    abbrev pub point : ServesPoint m k
    point = set.points k (in-contains k m.keys at)

    abbrev pub crl-left : (bytes : List ℕ) × (m.new (drawn.crl m tree are before next k at).uri ≡ Some bytes)
    crl-left = (point.crl_bytes, point.crl_there)

    abbrev pub crl-stands : HasCrl s (seat_of k at) m.new point.made point.number point.revoked
    crl-stands = record {
      bytes = point.crl_bytes;
      there = point.crl_there;
      crl = point.crl;
      read = point.crl_read;
      says = point.crl_says;
      issued = point.crl_vouched;
    }

    pub manifest-stands :
        ((c : SignedCert) → IsHeld m.new (id_of k) c
        → is_revoked (map crl_entry point.revoked) c.cert.serial ≡ false)
        → HasManifest s (seat_of k at) m.new point.made point.number point.revoked point.files
    manifest-stands unrevoked = record {
      bytes = point.bytes;
      there = point.there;
      manifest = point.manifest;
      read = point.read;
      body = point.body;
      serial = point.serial;
      says = point.says;
      issued = point.issued;
      signer = point.signer;
      signed = point.signed;
      unrevoked = unrevoked point.manifest.certificate (record {
        uri = (drawn.manifest m tree are before next k at).uri;
        bytes = point.bytes;
        there = point.there;
        has = manifest-has point.bytes point.manifest point.read;
        issuer = ap (λ (c : CertValue). c.issuer) point.says;
      });
    }

  -- ---- ROAs

  module _ (owes : AreOwed m.plan_input.basis.configs m.plan_input.owed) (o : Owed) (oat : In o m.plan_input.owed) where
    abbrev signer : KeyRow
    signer = drawn.signer m tree are before next owes o oat

    abbrev drafted : Draft
    drafted = drawn.roa_drafted m tree are before next owes o oat

    pub roa-left : (bytes : List ℕ) × (m.new drafted.uri ≡ Some bytes) × ServesRoa m drafted o.origin bytes
    roa-left = set.roas drafted wanted o.origin refl
      where
        wanted : Contains (all_objects m.plan_input m.keys) drafted
        wanted =
            let w = homes.w m tree are before next in
            let ks = homes.ks m tree are before next in
            let certs : List Draft = filter_map (certificate_draft w ks) (all_certificates m.plan_input m.keys) in
            let roas : List Draft = filter_map (roa_draft w ks) (all_roas m.plan_input m.keys) in
            let work : RoaWork = drawn.work m tree are before next owes o oat in
            let among : Contains (all_roas m.plan_input m.keys) work =
            in-contains work (all_roas m.plan_input m.keys)
            (in-filter-map (plan.roa_of (map kept m.keys)) o work m.plan_input.owed
            (drawn.work-is m tree are before next owes o oat) oat) in
            let here : Contains roas drafted =
            into-filter_map (roa_draft w ks) (all_roas m.plan_input m.keys) work drafted among
            (drawn.roa-draft-is m tree are before next owes o oat) in
            Contains-append_left (drafts w ks) (manifests w ks) drafted
            (Contains-append_left (certs ++ roas) (filter_map (crl_draft w ks) (all_points m.keys)) drafted
            (Contains-append_right certs roas drafted here))

    abbrev pub roa_object : ServesRoa m drafted o.origin roa-left.0
    roa_object = roa-left.2

    abbrev pub owed-roa : (revoked : List CrlEntry)
        → ((c : SignedCert) → IsHeld m.new (id_of signer) c → is_revoked revoked c.cert.serial ≡ false)
        → IsOwedRoa s (seat_of signer (drawn.signer-at m tree are before next owes o oat)) m.new revoked o.origin
    owed-roa revoked unrevoked =
        let roa = roa_object.roa in
        record {
          bytes = roa-left.0;
          there = roa-left.1;
          roa = roa;
          read = roa_object.read;
          body = roa_object.body;
          made = roa_object.made;
          time = roa_object.time;
          serial = roa_object.serial;
          says = roa_object.says;
          issued = roa_object.issued;
          signer = roa_object.signer;
          signed = roa_object.signed;
          unrevoked = unrevoked roa.certificate (record {
            uri = drafted.uri;
            bytes = roa-left.0;
            there = roa-left.1;
            has = roa-has roa-left.0 roa roa_object.read;
            issuer = ap (λ (v : CertValue). v.issuer) roa_object.says;
          });
        }
