-- What is wanted, by the works that ask it.
use Rattle.std.proofs.Common.{◌≡◌, Option, Some, List, ◌++◌, map}
use Rattle.std.specs.List.{filter_map}
use Rattle.key_roll.specs.declared.rows.KeyRow.{KeyRow}
use Rattle.key_roll.specs.declared.work.CertWork.{CertWork}
use Rattle.key_roll.specs.declared.work.RoaWork.{RoaWork}
use Rattle.key_roll.specs.declared.work.PointWork.{PointWork}
use Rattle.issue_plan.specs.Keys.{kept}
use Rattle.issue_plan.specs.Wanted.{PlanInput, point_of}
use Rattle.issue_drafts.specs.WorkKeys.{Keys}
use Rattle.issue_drafts.specs.IssueInput.{IssueInput}
use Rattle.issue_drafts.specs.Drafts.{Draft, certificate_draft, roa_draft, crl_draft, manifest_draft}
use Rattle.editions.specs.Wanted.{there, whole, all_certificates, all_roas, all_points, all_objects}
use Rattle.items.specs.laws.AmongLaws.{In, in-front, in-behind, in-map, in-filter-map}

module _ (plan_input : PlanInput) (ks : List KeyRow) where
  abbrev s : IssueInput
  s = whole plan_input ks

  abbrev keys : Keys
  keys = there ks

  abbrev certs : List Draft
  certs = filter_map (certificate_draft s keys) (all_certificates plan_input ks)

  abbrev roas : List Draft
  roas = filter_map (roa_draft s keys) (all_roas plan_input ks)

  abbrev crls : List Draft
  crls = filter_map (crl_draft s keys) (all_points ks)

  abbrev lists : List Draft
  lists = filter_map (manifest_draft s keys) (all_points ks)

  abbrev point_for : KeyRow → PointWork
  point_for key = point_of (kept key)

  pub cert-object : (cert : CertWork) (d : Draft) → In cert (all_certificates plan_input ks)
      → certificate_draft s keys cert ≡ Some d → In d (all_objects plan_input ks)
  cert-object cert d at is =
      in-front d ((certs ++ roas) ++ crls) lists (in-front d (certs ++ roas) crls (in-front d certs roas
      (in-filter-map (certificate_draft s keys) cert d (all_certificates plan_input ks) is at)))

  pub roa-object : (roa : RoaWork) (d : Draft) → In roa (all_roas plan_input ks)
      → roa_draft s keys roa ≡ Some d → In d (all_objects plan_input ks)
  roa-object roa d at is =
      in-front d ((certs ++ roas) ++ crls) lists (in-front d (certs ++ roas) crls (in-behind d certs roas
      (in-filter-map (roa_draft s keys) roa d (all_roas plan_input ks) is at)))

  pub point-there : (f : PointWork → Option Draft) (k : KeyRow) (d : Draft) → In k ks → f (point_for k) ≡ Some d
      → In d (filter_map f (all_points ks))
  point-there f k d at is =
      in-filter-map f (point_for k) d (all_points ks) is (in-map point_of (kept k) (map kept ks) (in-map kept k ks at))

  pub crl-object : (k : KeyRow) (d : Draft) → In k ks → crl_draft s keys (point_for k) ≡ Some d → In d (all_objects plan_input ks)
  crl-object k d at is =
      in-front d ((certs ++ roas) ++ crls) lists (in-behind d (certs ++ roas) crls (point-there (crl_draft s keys) k d at is))

  pub list-object : (k : KeyRow) (d : Draft) → In k ks → manifest_draft s keys (point_for k) ≡ Some d → In d (all_objects plan_input ks)
  list-object k d at is = in-behind d ((certs ++ roas) ++ crls) lists (point-there (manifest_draft s keys) k d at is)
