use Rattle.std.proofs.Common.{◌≡◌, ◌<◌, ℕ, List, Some, length, get_or, map, sym, ap, subst, arith}
use Rattle.std.specs.List.{slice_get, zip}
use Rattle.payloads.specs.ManifestFormats.{file_view}
use Rattle.issue_drafts.specs.Drafts.{Draft}
use Rattle.issue_drafts.specs.Views.{draft_of}
use Rattle.issue_drafts.specs.Files.{name_in, made_file, IsListable}
use Rattle.issue_drafts.proofs.Filed.{no_position, in-both, hashed-at, at-listed, file-more}
use Rattle.issue_drafts.proofs.listing.push_made.Goals as goal

pub offset_bounds-drafts-entry : goal.offset_bounds-drafts-entry
offset_bounds-drafts-entry c =
    let i = c.loop-entry.entry-index in
    let position = (get_or c.args.positions.now i no_position).position in
    let lt : position < length c.args.drafts.now =
    (in-both c.args.drafts.now c.args.hashes.now position c.requires.each
    (c.requires.inside i no_position c.loop-entry-test.true)).0 in
    omega arith

pub bounds-drafts-entry : goal.bounds-drafts-entry
bounds-drafts-entry c =
    let i = c.loop-entry.entry-index in
    (in-both c.args.drafts.now c.args.hashes.now (get_or c.args.positions.now i no_position).position c.requires.each
    (c.requires.inside i no_position c.loop-entry-test.true)).0

pub hash_at-hash-requires : goal.hash_at-hash-requires
hash_at-hash-requires c =
    let i = c.loop-entry.entry-index in
    (in-both c.args.drafts.now c.args.hashes.now (get_or c.args.positions.now i no_position).position c.requires.each
    (c.requires.inside i no_position c.loop-entry-test.true)).1

pub push_file-requires : goal.push_file-requires
push_file-requires c =
    let i = c.loop-entry.entry-index in
    let position = (get_or c.args.positions.now i no_position).position in
    let both = zip (map draft_of c.args.drafts.now) c.args.hashes.now in
    let x : Draft × List ℕ = (draft_of c.index-drafts-entry.result, c.hash_at-hash.result.now) in
    let here : slice_get both position ≡ Some x =
    hashed-at c.args.drafts.now c.args.hashes.now position c.index-drafts-entry.result c.hash_at-hash.result.now
    c.requires.each
    (c.requires.inside i no_position c.loop-entry-test.true) c.index-drafts-entry.is c.hash_at-hash.ensures in
    subst (IsListable c.args.folder.now) (sym c.as_str.ensures)
    (at-listed (λ (m : Draft × List ℕ). IsListable c.args.folder.now m.0.uri) both c.args.positions.now i
    no_position x c.requires.listable c.loop-entry-test.true here)

pub loop-entry-preserved : goal.loop-entry-preserved
loop-entry-preserved c =
    let folder = c.args.folder.now in
    let i = c.loop-entry.entry-index in
    let position = (get_or c.args.positions.now i no_position).position in
    let both = zip (map draft_of c.args.drafts.now) c.args.hashes.now in
    let hash = c.hash_at-hash.result.now in
    let x : Draft × List ℕ = (draft_of c.index-drafts-entry.result, hash) in
    let here : slice_get both position ≡ Some x =
    hashed-at c.args.drafts.now c.args.hashes.now position c.index-drafts-entry.result hash c.requires.each
    (c.requires.inside i no_position c.loop-entry-test.true) c.index-drafts-entry.is c.hash_at-hash.ensures in
    let h =
    file-more (made_file folder) both c.args.positions.now i no_position x (map file_view c.args.files.now.items)
    (map file_view c.loop-entry.files.items)
    (map file_view c.push_file.new.files.items) (name_in folder c.as_str.result.now, hash) c.loop-entry-test.true here
    c.loop-entry.invariant.files c.loop-entry.invariant.are c.in_ok-push_file.ensures.files
    c.in_ok-push_file.ensures.is
    (ap (λ (u : List ℕ). (name_in folder u, hash)) c.as_str.ensures) in
    record { files = h.files; are = h.are }
