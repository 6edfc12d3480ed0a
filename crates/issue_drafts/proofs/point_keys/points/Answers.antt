use Rattle.std.proofs.Common.{◌≡◌, ◌<◌, List, false, length, map, refl, ap, ◌∙◌, arith, rules, vec_len}
use Rattle.std.proofs.lemmas.List.{length-map, take_all}
use Rattle.std.proofs.lemmas.Simd.{splat_is_map}
use Rattle.issue_drafts.specs.declared.draft.ManifestDraft.{ManifestDraft}
use Rattle.issue_drafts.proofs.Pointed.{has_manifest, marked, points-are, position-inside}
use Rattle.issue_drafts.proofs.point_keys.points.Goals as goal

pub loop-manifest-init : goal.loop-manifest-init
loop-manifest-init c =
    c.in_ok-points.ensures.items_if_clones_equal (λ y h. search rules) ∙ splat_is_map c.args.rows.now
    (length c.args.rows.now) false refl

pub index_mut-requires : goal.index_mut-requires
index_mut-requires c =
    let p = position-inside c.args.rows.now c.args.manifests.now c.loop-manifest.manifest-index
    c.manifest-item.result c.manifest-item.result c.requires.positioned c.loop-manifest-test.true
    c.manifest-item.is in
    let inside : c.manifest-item.result.issuer.position < length c.args.rows.now = p.1 in
    let is_len : length c.loop-manifest.points.items ≡ vec_len c.loop-manifest.points = search rules in
    let long : length c.loop-manifest.points.items ≡ length c.args.rows.now = ap length
    c.loop-manifest.invariant ∙ length-map c.args.rows.now _ in
    omega arith

pub loop-manifest-preserved : goal.loop-manifest-preserved
loop-manifest-preserved c =
    let p = position-inside c.args.rows.now c.args.manifests.now c.loop-manifest.manifest-index
    c.manifest-item.result c.manifest-item.result c.requires.positioned c.loop-manifest-test.true
    c.manifest-item.is in
    marked c.args.rows.now c.args.manifests.now c.loop-manifest.manifest-index c.manifest-item.result
    c.manifest-item.result c.loop-manifest.points.items
    c.requires.apart p.0 c.loop-manifest-test.true c.manifest-item.is c.loop-manifest.invariant

pub returns : goal.returns
returns c = λ s keys moved.
    points-are c.args.rows.now c.args.manifests.now c.loop-manifest.points.items
    (c.loop-manifest.invariant ∙ ap (λ (l : List ManifestDraft). map (has_manifest l) c.args.rows.now)
    (take_all c.loop-manifest.manifest-index c.args.manifests.now c.loop-manifest-test.false)) s keys moved
