-- The keys that were made and the objects over them are what the making answers.
use Rattle.std.proofs.Common.{◌≡◌, ℕ, ◌≤◌, List, [], ◌∷◌, ◌++◌, length, map, take, drop, sym, ap, subst, ◌∙◌, arith}
use Rattle.std.specs.List.{All}
use Rattle.std.specs.List.Sorted.{IsPermutation, IsStableBy}
use Rattle.std.proofs.lemmas.List.{take-append-drop}
use Rattle.std.proofs.lemmas.List.Elements.{All-append, All-cons}
use Rattle.signer_api.specs.State.{SignerState}
use Rattle.signer_ring.specs.Ring.{Keeps}
use Rattle.signer_ring.specs.Calls.{after_calls, IsVouched}
use Rattle.key_roll.specs.declared.rows.KeyRow.{KeyRow}
use Rattle.issue_keys.specs.Keys.{kept_rows}
use Rattle.issue_keys.specs.Making.{making, AreMade}
use Rattle.issue_drafts.specs.WorkKeys.{Keys, keys_at, all_keys}
use Rattle.issue_drafts.specs.IssueInput.{IssueInput}
use Rattle.issue_sign.specs.Calls.{first_calls, second_calls, content_calls, last_calls}
use Rattle.issue_make.specs.Trace.{all_of, row_after, is_before}
use Rattle.issue_make.specs.declared.made.Made.{Made}
use Rattle.issue_make.specs.inner.Naming.{CanName}
use Rattle.issue_make.specs.CanMake.{CanMake}
use Rattle.issue_make.specs.inner.Ready.{AreReady}
use Rattle.issue_make.specs.inner.Finished.{IsFinished}
use Rattle.issue_make.specs.Made.{calls_of, to_manifests, IsMade}
use Rattle.issue_make.proofs.Parts.{grouped}
use Rattle.issue_make.proofs.Stops.{calls-on}

makings-vouched : (ring : List SignerState) (fresh : List KeyRow) → All (IsVouched ring) (map making fresh)
makings-vouched ring [] = λ k d lt. absurd (omega arith)
makings-vouched ring (row ∷ fresh) = All-cons (IsVouched ring) (making row) (map making fresh) tt (makings-vouched ring fresh)

-- Over the keys that stay and those that were made the objects can be made.
pub are-ready : (s : IssueInput) (live rows : List KeyRow) (n : ℕ) (old between : List SignerState) → CanMake s live (length old)
    → Keeps old between → n ≤ length rows → take n rows ≡ kept_rows s.work live → AreMade s.work.new_keys live old between (drop n rows)
    → All (λ row. CanName s.site row.name) s.names → AreReady s live rows n (length between)
are-ready s live rows n old between work keeps inside kept made named = record {
  work = subst (CanMake s live) (sym keeps.count) work;
  are = record { kept = kept; fresh = made.keys; apart = made.apart };
  inside = inside;
  named = named;
}

pub is-made : (s : IssueInput) (live rows : List KeyRow) (n : ℕ) (old between new : List SignerState) (made : Made)
    → AreMade s.work.new_keys live old between (drop n rows)
    → IsFinished s live rows (keys_at rows n) between new made → IsMade s live old new made
is-made s live rows n old between new made are f =
    let c = f.trace in
    let fresh : drop n rows ≡ c.keys.fresh = sym (ap (λ (keys : Keys). keys.fresh) f.over) in
    let all : rows ≡ all_keys c.keys = sym (take-append-drop n rows) ∙ sym (ap all_keys f.over) in
    let calls : calls_of s c ≡ map making c.keys.fresh ++ to_manifests s c =
    grouped (map making c.keys.fresh) (first_calls s c.keys (all_of s c) c.entries c.objects) (second_calls s c.keys (all_of s c) c.objects)
    (content_calls s c.files c.listed) (last_calls s c.keys (all_of s c) c.listed) in record {
      trace = c;
      is_trace = f.is_trace;
      signers = f.signers ∙ (ap (λ (ring : List SignerState). after_calls ring (to_manifests s c))
          (are.signers ∙ ap (λ (l : List KeyRow). after_calls old (map making l)) fresh)
          ∙ (calls-on old (map making c.keys.fresh) (to_manifests s c) ∙ ap (after_calls old) (sym calls)));
      vouched = subst (All (IsVouched new)) (sym calls)
          (All-append (IsVouched new) (map making c.keys.fresh) (to_manifests s c) (makings-vouched new c.keys.fresh) f.vouched);
      rising = f.outcome.rising;
      changes = f.outcome.changes;
      spelled = f.spelled;
      listed = f.outcome.listed;
      count = f.outcome.count;
      issued = f.outcome.issued;
      rows = subst (λ (l : List KeyRow). IsPermutation (map (row_after s c) l) made.rows) all f.outcome.after;
      sorted = f.outcome.sorted;
      stable = subst (λ (l : List KeyRow). IsStableBy is_before (map (row_after s c) l) made.rows) all f.outcome.stable;
      signatures = f.outcome.signatures;
    }
