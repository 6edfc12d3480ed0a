-- What an edition publishes, once rows and changes are there and before they are sorted.
use Rattle.std.proofs.Common.{◌≡◌, ◌≢◌, ℕ, List, ◌++◌, length, map, sym, ap, subst, ◌∙◌}
use Rattle.std.specs.Prelude.{Any}
use Rattle.std.specs.List.{All, AllPairs, filter_map}
use Rattle.std.specs.List.Sorted.{IsPermutation, IsSortedBy}
use Rattle.std.specs.Ordering.{is_lt}
use Rattle.std.proofs.lemmas.List.{length-map}
use Rattle.pub_set.specs.declared.steps.Change.{Change}
use Rattle.pub_set.specs.Changes.{uri_of, change_at}
use Rattle.pub_set.specs.Objects.{uri_cmp, Rise}
use Rattle.key_roll.specs.declared.issued.IssuedRow.{IssuedRow}
use Rattle.issue_drafts.specs.IssueInput.{IssueInput}
use Rattle.issue_drafts.specs.laws.UriOrder.{rise-sorted}
use Rattle.issue_sign.specs.declared.object.Object.{Object}
use Rattle.issue_make.specs.declared.publishing.Numbered.{Numbered}
use Rattle.issue_make.specs.Trace.{IssuingTrace, made_of, wanted_at, IsIssued}
use Rattle.issue_make.specs.inner.Putting.{withdrawal_by, puts_by, contents_of, rows_of, uris_of, IsWhole, IsOf}
use Rattle.issue_make.proofs.Issuing.{rows-are, contents-are, all-uris, rows-many}
use Rattle.issue_make.proofs.Wanted.{changes-apart, rows-apart, changes-wanted, rows-issued, rows-count}

-- The rows and the changes that are there.
pub record Stage
    (s : IssueInput) (n : Numbered) (objects listed : List Object) (rows : List IssuedRow) (changes : List Change)
    : Type 0 where
  pub rows_are : rows ≡ rows_of s.work.moment n objects listed
  pub changes_are : changes ≡ puts_by s.issued rows (contents_of (objects ++ listed))
      ++ filter_map (withdrawal_by s.issued) s.work.withdrawn
  pub whole : IsWhole n (length objects) (length listed)
  pub once : AllPairs (λ a b. a ≢ b) (uris_of n ++ s.work.withdrawn)

-- As many rows as objects, as the code has them.
pub many : (moment : ℕ) (n : Numbered) (objects listed firsts lasts all : List Object) (rows there : List IssuedRow)
    → firsts ≡ objects → lasts ≡ listed → rows ≡ rows_of moment n firsts lasts
    → all ≡ objects ++ listed → there ≡ rows → IsWhole n (length objects) (length listed)
    → length all ≡ length there
many moment n objects listed firsts lasts all rows there first last made joined same whole =
    ap length joined
    ∙ (sym (rows-many moment n objects listed whole)
    ∙ sym (ap length same ∙ ap length (made
    ∙ (ap (λ (l : List Object). rows_of moment n l lasts) first ∙ ap (rows_of moment n objects) last))))

pub stage : (s : IssueInput) (n : Numbered) (objects listed firsts lasts all : List Object)
    (rows there : List IssuedRow) (changes : List Change)
    → firsts ≡ objects → lasts ≡ listed → rows ≡ rows_of s.work.moment n firsts lasts
    → all ≡ objects ++ listed → there ≡ rows
    → changes ≡ puts_by s.issued there (contents_of all) ++ filter_map (withdrawal_by s.issued) s.work.withdrawn
    → IsWhole n (length objects) (length listed)
    → AllPairs (λ a b. a ≢ b) (uris_of n ++ s.work.withdrawn)
    → Stage s n objects listed rows changes
stage s n objects listed firsts lasts all rows there changes first last made joined same changed whole once = record {
  rows_are = made ∙ (ap (λ (l : List Object). rows_of s.work.moment n l lasts) first
      ∙ ap (rows_of s.work.moment n objects) last);
  changes_are = changed
      ∙ (ap (λ (l : List IssuedRow). puts_by s.issued l (contents_of all)
      ++ filter_map (withdrawal_by s.issued) s.work.withdrawn) same
      ∙ ap (λ (l : List Object). puts_by s.issued rows (contents_of l)
      ++ filter_map (withdrawal_by s.issued) s.work.withdrawn) joined);
  whole = whole;
  once = once;
}

stage-apart : (s : IssueInput) (n : Numbered) (objects listed : List Object) (rows : List IssuedRow) (changes : List Change)
    → Stage s n objects listed rows changes
    → AllPairs (λ a b. a ≢ b) (map (λ row. row.uri) rows ++ s.work.withdrawn)
stage-apart s n objects listed rows changes h =
    subst (λ (l : List (List ℕ)). AllPairs (λ (a b : List ℕ). a ≢ b) (l ++ s.work.withdrawn))
    (sym (ap (map (λ (row : IssuedRow). row.uri)) h.rows_are ∙ all-uris s.work.moment n objects listed h.whole)) h.once

stage-changes-apart : (s : IssueInput) (n : Numbered) (objects listed : List Object) (rows : List IssuedRow) (changes : List Change)
    → Stage s n objects listed rows changes → AllPairs (λ a b. a ≢ b) (map uri_of changes)
stage-changes-apart s n objects listed rows changes h =
    let contents : length (contents_of (objects ++ listed)) ≡ length (objects ++ listed) =
    length-map (objects ++ listed) (λ (o : Object). o.bytes) in
    changes-apart s.issued rows (contents_of (objects ++ listed)) s.work.withdrawn changes h.changes_are
    (ap length h.rows_are ∙ (rows-many s.work.moment n objects listed h.whole ∙ sym contents))
    (stage-apart s n objects listed rows changes h)

pub stage-rising : (s : IssueInput) (n : Numbered) (objects listed : List Object) (rows : List IssuedRow)
    (changes ordered : List Change)
    → Stage s n objects listed rows changes → IsPermutation changes ordered
    → IsSortedBy (λ a b. is_lt (uri_cmp (uri_of a) (uri_of b))) ordered → Rise uri_of ordered
stage-rising s n objects listed rows changes ordered h moved up =
    rise-sorted uri_of changes ordered (stage-changes-apart s n objects listed rows changes h) moved up

pub stage-listed : (s : IssueInput) (n : Numbered) (objects listed : List Object) (rows ordered : List IssuedRow)
    (changes : List Change)
    → Stage s n objects listed rows changes → IsPermutation rows ordered
    → IsSortedBy (λ a b. is_lt (uri_cmp a.uri b.uri)) ordered → Rise (λ row. row.uri) ordered
stage-listed s n objects listed rows ordered changes h moved up =
    rise-sorted (λ (row : IssuedRow). row.uri) rows ordered
    (rows-apart rows s.work.withdrawn (stage-apart s n objects listed rows changes h)) moved up

pub stage-wanted : (s : IssueInput) (n : Numbered) (objects listed : List Object) (rows : List IssuedRow)
    (changes ordered : List Change) (trace : IssuingTrace) (uri : List ℕ)
    → Stage s n objects listed rows changes → IsPermutation changes ordered → IsOf s n objects listed trace
    → change_at ordered uri ≡ wanted_at s trace uri
stage-wanted s n objects listed rows changes ordered trace uri h moved of =
    changes-wanted s trace rows (contents_of (objects ++ listed)) changes ordered uri h.changes_are
    (h.rows_are ∙ rows-are s n objects listed trace h.whole.positions of)
    (contents-are s n objects listed trace of) moved (stage-changes-apart s n objects listed rows changes h)

pub stage-count : (s : IssueInput) (n : Numbered) (objects listed : List Object) (rows ordered : List IssuedRow)
    (changes : List Change) (trace : IssuingTrace)
    → Stage s n objects listed rows changes → IsPermutation rows ordered → IsOf s n objects listed trace
    → length ordered ≡ length (made_of trace)
stage-count s n objects listed rows ordered changes trace h moved of =
    rows-count s trace rows ordered (h.rows_are ∙ rows-are s n objects listed trace h.whole.positions of) moved

pub stage-issued : (s : IssueInput) (n : Numbered) (objects listed : List Object) (rows ordered : List IssuedRow)
    (changes : List Change) (trace : IssuingTrace)
    → Stage s n objects listed rows changes → IsPermutation rows ordered → IsOf s n objects listed trace
    → All (λ x. Any (IsIssued s trace x) ordered) (made_of trace)
stage-issued s n objects listed rows ordered changes trace h moved of =
    rows-issued s trace rows ordered (h.rows_are ∙ rows-are s n objects listed trace h.whole.positions of) moved
