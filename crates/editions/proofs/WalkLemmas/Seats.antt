-- The certificates of an edition's keys, as they stand.
use Rattle.std.proofs.Common.{◌≡◌, ◌≢◌, ℕ, Some, List, AllPairs, refl, ◌++◌}
use Rattle.std.specs.Prelude.{Contains}
use Rattle.std.specs.List.{filter_map}
use Rattle.std.proofs.lemmas.List.Elements.{Contains-append_left}
use Rattle.entitle.specs.Certified.{names_of, AreCertified}
use Rattle.key_roll.specs.declared.rows.KeyRow.{KeyRow}
use Rattle.issue_plan.specs.Keys.{next_keys}
use Rattle.issue_keys.specs.Keys.{id_of}
use Rattle.issue_drafts.specs.Drafts.{Draft, certificate_draft, roa_draft, crl_draft, drafts, manifests}
use Rattle.editions.specs.Keys.{AreNext}
use Rattle.editions.specs.Wanted.{all_certificates, all_roas, all_points, all_objects}
use Rattle.editions.specs.Objects.{Issuance}
use Rattle.editions.specs.Names.{AreTree}
use Rattle.items.specs.laws.ElementLaws.{into-filter_map}
use Rattle.items.specs.laws.AmongLaws.{In, in-contains}
use Rattle.editions.proofs.WalkLemmas.Serving.{IsServed, ServesCertificate}
use Rattle.editions.proofs.WalkLemmas.Homes as homes

module _ (m : Issuance) (tree : AreTree (names_of m.plan_input.basis.configs))
    (certified : AreCertified m.plan_input.basis.configs m.plan_input.basis.sets)
    (before : AllPairs (λ a b. id_of a ≢ id_of b) m.plan_input.basis.rows)
    (next : AreNext m.plan_input.basis.rows (next_keys m.plan_input.basis) m.keys)
    (set : IsServed m) where
  module _ (k : KeyRow) (at : In k m.keys) where
    -- It is wanted.
    wanted : Contains (all_objects m.plan_input m.keys) (homes.draft m tree certified before next k at)
    wanted =
        let w = homes.w m tree certified before next in
        let ks = homes.ks m tree certified before next in
        let d : Draft = homes.draft m tree certified before next k at in
        let certs : List Draft = filter_map (certificate_draft w ks) (all_certificates m.plan_input m.keys) in
        let roas : List Draft = filter_map (roa_draft w ks) (all_roas m.plan_input m.keys) in
        let here : Contains certs d =
        into-filter_map (certificate_draft w ks) (all_certificates m.plan_input m.keys)
        (homes.work m tree certified before next k at) d
        (in-contains (homes.work m tree certified before next k at) (all_certificates m.plan_input m.keys)
        (homes.among m tree certified before next k at))
        (homes.draft-is m tree certified before next k at) in
        Contains-append_left (drafts w ks) (manifests w ks) d
        (Contains-append_left (certs ++ roas) (filter_map (crl_draft w ks) (all_points m.keys)) d
        (Contains-append_left certs roas d here))

    pub left : (bytes : List ℕ)
        × (m.new (homes.draft m tree certified before next k at).uri ≡ Some bytes)
        × ServesCertificate m (homes.draft m tree certified before next k at) k
        (homes.held m tree certified before next k at) bytes
    left = set.certificates (homes.draft m tree certified before next k at) wanted k
        (homes.held m tree certified before next k at) refl

    abbrev pub is_object : ServesCertificate m (homes.draft m tree certified before next k at) k
        (homes.held m tree certified before next k at) left.0
    is_object = left.2

    -- When it was made, and its serial.
    abbrev pub made : ℕ
    made = left.2.made

    abbrev pub serial : ℕ
    serial = left.2.serial
