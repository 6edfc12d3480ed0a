use Rattle.std.proofs.Common.{◌≡◌, ℕ, List, length, map, get_or, Some, refl, sym, ap, subst, ◌∙◌, arith}
use Rattle.std.specs.Prelude.{slice_get}
use Rattle.std.proofs.lemmas.List.{get_or-replicate}
use Rattle.std.proofs.lemmas.Result.{err_from_is_err_and}
use Rattle.signer_ring.specs.Ring.{Keeps}
use Rattle.signer_ring.specs.Jobs.{jobs_of}
use Rattle.signer_ring.specs.inner.Working.{Told, AreTold, IsFirstStop, given}
use Rattle.signer_ring.specs.laws.KeepsLaws.{kept-all}
use Rattle.signer_ring.proofs.Ringing.{all-kept, long-each}
use Rattle.signer_ring.proofs.Worked.{nothing-done, stop-of, of-the-ring, told-count, signed-all}
use Rattle.signer_ring.proofs.side.sign_all.Goals as goal

pub returns-in_err-answers-clause-stopped : goal.returns-in_err-answers-clause-stopped
returns-in_err-answers-clause-stopped g c =
    let p = err_from_is_err_and c.from_residual.result c.from_residual.ensures.1 in
    let old = map (λ (s : g.row.S.Denot). g.S.Signer.state s) c.args.signers.now.items in
    rw (p.1, p.2) (nothing-done c.args.jobs.now old old refl)

pub returns-in_err-answers-clause-there : goal.returns-in_err-answers-clause-there
returns-in_err-answers-clause-there g c =
    let p = err_from_is_err_and c.from_residual.result c.from_residual.ensures.1 in
    rw (p.1, p.2) tt

pub returns-in_err-answers-clause-kept : goal.returns-in_err-answers-clause-kept
returns-in_err-answers-clause-kept g c = kept-all (map (λ (s : g.row.S.Denot). g.S.Signer.state s) c.args.signers.now.items)

pub returns-in_err-taken-clause-stopped : goal.returns-in_err-taken-clause-stopped
returns-in_err-taken-clause-stopped g c =
    let p = err_from_is_err_and c.from_residual-in_err-taken.result c.from_residual-in_err-taken.ensures.1 in
    let old = map (λ (s : g.row.S.Denot). g.S.Signer.state s) c.args.signers.now.items in
    rw (p.1, p.2) (nothing-done c.args.jobs.now old old refl)

pub returns-in_err-taken-clause-there : goal.returns-in_err-taken-clause-there
returns-in_err-taken-clause-there g c =
    let p = err_from_is_err_and c.from_residual-in_err-taken.result c.from_residual-in_err-taken.ensures.1 in
    rw (p.1, p.2) tt

pub returns-in_err-taken-clause-kept : goal.returns-in_err-taken-clause-kept
returns-in_err-taken-clause-kept g c = kept-all (map (λ (s : g.row.S.Denot). g.S.Signer.state s) c.args.signers.now.items)

pub returns-in_err-told-clause-stopped : goal.returns-in_err-told-clause-stopped
returns-in_err-told-clause-stopped g c =
    let p = err_from_is_err_and c.from_residual-in_err-told.result c.from_residual-in_err-told.ensures.1 in
    let state = λ (s : g.row.S.Denot). g.S.Signer.state s in
    rw (p.1, p.2)
    (nothing-done c.args.jobs.now (map state c.args.signers.now.items) (map state c.have_all_work.new.signers.items)
    (ap (map state) c.in_err-told.ensures.kept))

pub returns-in_err-told-clause-there : goal.returns-in_err-told-clause-there
returns-in_err-told-clause-there g c =
    let p = err_from_is_err_and c.from_residual-in_err-told.result c.from_residual-in_err-told.ensures.1 in
    rw (p.1, p.2) tt

pub returns-in_err-told-clause-kept : goal.returns-in_err-told-clause-kept
returns-in_err-told-clause-kept g c =
    let state = λ (s : g.row.S.Denot). g.S.Signer.state s in
    let old = map state c.args.signers.now.items in
    subst (Keeps old) (sym (ap (map state) c.in_err-told.ensures.kept)) (kept-all old)

pub returns-in_err-first_stop-clause-stopped : goal.returns-in_err-first_stop-clause-stopped
returns-in_err-first_stop-clause-stopped g c =
    let p = err_from_is_err_and c.from_residual-in_err-first_stop.result c.from_residual-in_err-first_stop.ensures.1 in
    let state = λ (s : g.row.S.Denot). g.S.Signer.state s in
    let fault = c.in_err-first_stop.field-0.0 in
    rw (p.1, p.2)
    (stop-of c.args.jobs.now c.in_ok-told.told.items (map state c.args.signers.now.items) (map state c.have_all_work.new.signers.items) fault
    c.in_ok-told.ensures.worked
    (subst (λ (l : List Told). IsFirstStop l fault) c.deref.ensures.value c.in_err-first_stop.ensures.first))

pub returns-in_err-first_stop-clause-there : goal.returns-in_err-first_stop-clause-there
returns-in_err-first_stop-clause-there g c =
    let p = err_from_is_err_and c.from_residual-in_err-first_stop.result c.from_residual-in_err-first_stop.ensures.1 in
    rw (p.1, p.2) (of-the-ring c.deref.result.now c.in_err-first_stop.field-0.0 c.in_err-first_stop.ensures.first)

pub returns-in_err-first_stop-clause-kept : goal.returns-in_err-first_stop-clause-kept
returns-in_err-first_stop-clause-kept g c =
    let state = λ (s : g.row.S.Denot). g.S.Signer.state s in
    all-kept c.args.jobs.now c.in_ok-told.told.items (map state c.args.signers.now.items) (map state c.have_all_work.new.signers.items)
    c.in_ok-told.ensures.worked

pub returns-clause-answered : goal.returns-clause-answered
returns-clause-answered g c =
    let state = λ (s : g.row.S.Denot). g.S.Signer.state s in
    let jobs = c.args.jobs.now in
    let told = c.in_ok-told.told.items in
    let signers = c.args.signers.now in
    let old = map state signers.items in
    let new = map state c.have_all_work.new.signers.items in
    let worked = c.in_ok-told.ensures.worked in
    let size = signers.ok.0 in
    let count = told-count state jobs told signers.items new worked in
    let few : signers.len ≡ length told = omega (arith, size, count) in
    let are = subst AreTold (c.deref.ensures.value ∙ sym c.deref-2.ensures.value) c.in_ok-first_stop.ensures.none in
    let long : length c.merge.new.answers.items ≡ length jobs = sym c.merge.new.answers.ok.0 ∙ c.merge.ensures.count in
    (signed-all jobs told c.deref-2.result.now old new c.merge.new.answers.items signers.len c.deref-2.ensures.value worked few c.requires.there are long
    c.merge.ensures.each).answered

pub returns-clause-called : goal.returns-clause-called
returns-clause-called g c =
    let state = λ (s : g.row.S.Denot). g.S.Signer.state s in
    let jobs = c.args.jobs.now in
    let told = c.in_ok-told.told.items in
    let signers = c.args.signers.now in
    let old = map state signers.items in
    let new = map state c.have_all_work.new.signers.items in
    let worked = c.in_ok-told.ensures.worked in
    let size = signers.ok.0 in
    let count = told-count state jobs told signers.items new worked in
    let few : signers.len ≡ length told = omega (arith, size, count) in
    let are = subst AreTold (c.deref.ensures.value ∙ sym c.deref-2.ensures.value) c.in_ok-first_stop.ensures.none in
    let long : length c.merge.new.answers.items ≡ length jobs = sym c.merge.new.answers.ok.0 ∙ c.merge.ensures.count in
    (signed-all jobs told c.deref-2.result.now old new c.merge.new.answers.items signers.len c.deref-2.ensures.value worked few c.requires.there are long
    c.merge.ensures.each).called

pub returns-clause-vouched : goal.returns-clause-vouched
returns-clause-vouched g c =
    let state = λ (s : g.row.S.Denot). g.S.Signer.state s in
    let jobs = c.args.jobs.now in
    let told = c.in_ok-told.told.items in
    let signers = c.args.signers.now in
    let old = map state signers.items in
    let new = map state c.have_all_work.new.signers.items in
    let worked = c.in_ok-told.ensures.worked in
    let size = signers.ok.0 in
    let count = told-count state jobs told signers.items new worked in
    let few : signers.len ≡ length told = omega (arith, size, count) in
    let are = subst AreTold (c.deref.ensures.value ∙ sym c.deref-2.ensures.value) c.in_ok-first_stop.ensures.none in
    let long : length c.merge.new.answers.items ≡ length jobs = sym c.merge.new.answers.ok.0 ∙ c.merge.ensures.count in
    (signed-all jobs told c.deref-2.result.now old new c.merge.new.answers.items signers.len c.deref-2.ensures.value worked few c.requires.there are long
    c.merge.ensures.each).vouched

pub returns-clause-kept : goal.returns-clause-kept
returns-clause-kept g c =
    let state = λ (s : g.row.S.Denot). g.S.Signer.state s in
    all-kept c.args.jobs.now c.in_ok-told.told.items (map state c.args.signers.now.items) (map state c.have_all_work.new.signers.items)
    c.in_ok-told.ensures.worked

-- ---- what the answers are put together of

pub merge-requires-clause-told : goal.merge-requires-clause-told
merge-requires-clause-told g c = subst AreTold (c.deref.ensures.value ∙ sym c.deref-2.ensures.value) c.in_ok-first_stop.ensures.none

pub merge-requires-clause-each : goal.merge-requires-clause-each
merge-requires-clause-each g c =
    let state = λ (s : g.row.S.Denot). g.S.Signer.state s in
    let jobs = c.args.jobs.now in
    subst (λ (l : List Told). (n : ℕ) (t : Told) → slice_get l n ≡ Some t → length (given t) ≡ length (jobs_of n jobs)) (sym c.deref-2.ensures.value)
    (long-each jobs c.in_ok-told.told.items (map state c.args.signers.now.items) (map state c.have_all_work.new.signers.items) c.in_ok-told.ensures.worked
    (subst AreTold c.deref.ensures.value c.in_ok-first_stop.ensures.none))

pub merge-requires-clause-there : goal.merge-requires-clause-there
merge-requires-clause-there g c =
    let state = λ (s : g.row.S.Denot). g.S.Signer.state s in
    let size = c.args.signers.now.ok.0 in
    let count = told-count state c.args.jobs.now c.in_ok-told.told.items c.args.signers.now.items (map state c.have_all_work.new.signers.items)
    c.in_ok-told.ensures.worked in
    let same = ap length c.deref-2.ensures.value in
    λ k d lt.
    let low = c.requires.there k d lt in
    omega (arith, low, size, count, same)

pub merge-requires-clause-count : goal.merge-requires-clause-count
merge-requires-clause-count g c =
    let state = λ (s : g.row.S.Denot). g.S.Signer.state s in
    let size = c.args.signers.now.ok.0 in
    let count = told-count state c.args.jobs.now c.in_ok-told.told.items c.args.signers.now.items (map state c.have_all_work.new.signers.items)
    c.in_ok-told.ensures.worked in
    let same = ap length c.deref-2.ensures.value in
    omega (arith, size, count, same, c.as_mut_slice.ensures.len, c.in_ok-taken.ensures.len, c.len.ensures)

pub merge-requires-clause-none : goal.merge-requires-clause-none
merge-requires-clause-none g c =
    let state = λ (s : g.row.S.Denot). g.S.Signer.state s in
    let size = c.args.signers.now.ok.0 in
    let count = told-count state c.args.jobs.now c.in_ok-told.told.items c.args.signers.now.items (map state c.have_all_work.new.signers.items)
    c.in_ok-told.ensures.worked in
    let same = ap length c.deref-2.ensures.value in
    let zeros = c.as_mut_slice.ensures.value ∙ c.in_ok-taken.ensures.items_if_clones_equal (λ y h. h) in
    λ n low.
    ap (λ (l : List ℕ). get_or l n 0) zeros
    ∙ get_or-replicate c.len.result n 0 0 (omega (arith, low, size, count, same, c.len.ensures))
