-- Counters below their end before an edition are within their limit after it.
use Rattle.std.proofs.Common.{◌≡◌, ◌+◌, ◌<◌, ◌≤◌, ◌^◌, Bool, true, false, cond, Option, None, Some, List, [], ◌∷◌, length, map, get_or, sym, subst, arith}
use Rattle.std.specs.Prelude.{All, IsPermutation, filter, not, count_by}
use Rattle.std.proofs.lemmas.List.{length-map, length-append}
use Rattle.std.proofs.lemmas.List.Sums.{count_by-le-length}
use Rattle.std.proofs.lemmas.List.Elements.{All-nil, All-cons, All-map, All-filter, All-append}
use Rattle.std.proofs.lemmas.List.Sorted.{All-permutation, length_permutation}
use Rattle.signer_api.specs.declared.values.PublicKey.{PublicKey}
use Rattle.key_roll.specs.declared.rows.KeyRow.{KeyRow}
use Rattle.key_roll.specs.declared.work.NewKey.{NewKey}
use Rattle.key_roll.specs.declared.work.RoleWork.{RoleWork}
use Rattle.issue_keys.specs.Keys.{is_dropped, with_role, role_of, kept_rows, fresh_row, fresh_rows}
use Rattle.issue_drafts.specs.WorkKeys.{all_keys}
use Rattle.issue_drafts.specs.IssueInput.{IssueInput}
use Rattle.issue_drafts.specs.Drafts.{Draft, is_numbered}
use Rattle.issue_sign.specs.Objects.{Signed}
use Rattle.issue_drafts.specs.Revoking.{has_point}
use Rattle.issue_make.specs.Trace.{IssuingTrace, IsIssuingTrace, all_of, made_of, row_after}
use Rattle.editions.specs.Step.{most_counted}

-- Both counters of a key are below their end.
pub record IsBelow (row : KeyRow) : Type 0 where
  pub number : row.number < 2 ^ 62
  pub serial : row.next_serial < 2 ^ 62

-- Both are within their limit.
pub record IsWithin (row : KeyRow) : Type 0 where
  pub number : row.number ≤ most_counted
  pub serial : row.next_serial ≤ most_counted

below-kept : (row : KeyRow) (role : Option RoleWork) → IsBelow row → IsBelow (with_role row role)
below-kept row None is = is
below-kept row (Some role) is = record { number = is.number; serial = is.serial }

below-fresh : (news : List NewKey) (keys : List PublicKey) → All IsBelow (fresh_rows news keys)
below-fresh [] keys = All-nil IsBelow
below-fresh (new ∷ news) [] = All-nil IsBelow
below-fresh (new ∷ news) (key ∷ keys) =
    All-cons IsBelow (fresh_row new key) (fresh_rows news keys)
    (record { number = omega arith; serial = omega arith }) (below-fresh news keys)

module _ (s : IssueInput) (live : List KeyRow) (trace : IssuingTrace) (is_trace : IsIssuingTrace s live trace)
    (numbers : All (λ row. row.number < 2 ^ 62) live)
    (serials : All (λ row. row.next_serial < 2 ^ 62) live)
    (few : length (made_of trace) < 2 ^ 62) where
  below-live : All IsBelow live
  below-live = λ k d inside. record { number = numbers k d inside; serial = serials k d inside }

  below-all : All IsBelow (all_keys trace.keys)
  below-all =
      let kept : All IsBelow (kept_rows s.work live) =
      All-map IsBelow (λ row. with_role row (role_of s.work.roles row))
      (filter (λ row. not (is_dropped s.work.dropped row)) live)
      (λ k d inside.
      let row : KeyRow = get_or (filter (λ row. not (is_dropped s.work.dropped row)) live) k d in
      below-kept row (role_of s.work.roles row)
      (All-filter (λ row. not (is_dropped s.work.dropped row)) IsBelow live below-live k d inside)) in
      All-append IsBelow trace.keys.kept trace.keys.fresh
      (subst (All IsBelow) (sym is_trace.keys.kept) kept)
      (subst (All IsBelow) (sym is_trace.keys.fresh.rows)
      (below-fresh is_trace.keys.fresh.news is_trace.keys.fresh.keys))

  -- No key takes more serials than there are objects.
  taken : (key : KeyRow) → count_by (is_numbered key) (all_of s trace) < 2 ^ 62
  taken key =
      let most = count_by-le-length (is_numbered key) (all_of s trace) in
      let drafts : List Draft = map (λ (x : Signed). x.draft) trace.objects in
      let same : length drafts ≡ length (all_of s trace) =
      length_permutation (all_of s trace) drafts is_trace.objects.permutation in
      let objects : length drafts ≡ length trace.objects =
      length-map trace.objects (λ (x : Signed). x.draft) in
      let more : length (made_of trace) ≡ length trace.objects + length trace.listed =
      length-append trace.objects trace.listed in
      omega (arith, most, same, objects, more, few)

  within : (key : KeyRow) → IsBelow key → IsWithin (row_after s trace key)
  within key is = by (has_point s trace.keys key)
    where
      by : (b : Bool) → IsWithin (cond b
          (record key {
            next_serial = key.next_serial + count_by (is_numbered key) (all_of s trace) + 1;
            number = key.number + 1;
            this_update = s.work.moment;
            revoked = trace.entries key;
          })
          (record key {
            next_serial = key.next_serial + count_by (is_numbered key) (all_of s trace);
            revoked = trace.entries key;
          }))
      by true =
          let number = is.number in
          let serial = is.serial in
          let most = taken key in
          record { number = omega (arith, number); serial = omega (arith, serial, most) }
      by false =
          let number = is.number in
          let serial = is.serial in
          let most = taken key in
          record { number = omega (arith, number); serial = omega (arith, serial, most) }

  pub all-within : (rows : List KeyRow)
      → IsPermutation (map (row_after s trace) (all_keys trace.keys)) rows → All IsWithin rows
  all-within rows moved =
      All-permutation IsWithin (map (row_after s trace) (all_keys trace.keys)) rows moved
      (All-map IsWithin (row_after s trace) (all_keys trace.keys)
      (λ k d inside. within _ (below-all k d inside)))
