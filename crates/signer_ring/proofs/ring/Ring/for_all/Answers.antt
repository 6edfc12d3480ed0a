use Rattle.std.proofs.Common.{◌≡◌, ◌<◌, ℕ, List, length, map, None, sym, ap, subst, ◌∙◌, arith}
use Rattle.std.specs.Prelude.{All, IfOk, IfErr}
use Rattle.std.proofs.lemmas.List.{length-map}
use Rattle.signer_api.specs.State.{SignerState}
use Rattle.signer_ring.specs.Calls.{after_calls, IsVouched}
use Rattle.signer_ring.specs.Jobs.{asked, AreAnswers, calls_for, first_absent, IsForAllStop}
use Rattle.signer_ring.specs.Ring.{Keeps}
use Rattle.signer_ring.specs.declared.jobs.SignJob.{SignJob}
use Rattle.signer_ring.proofs.Worked.{all-there, absent-none}
use Rattle.signer_ring.proofs.ring.Ring.for_all.Goals as goal

pub sign_all-requires-clause-there : goal.sign_all-requires-clause-there
sign_all-requires-clause-there g c =
    let state = λ (s : g.row.S.Denot). g.S.Signer.state s in
    let items = c.self.inside.signers.items in
    let there = all-there c.len.result c.deref.result.now (sym c.first_absent.ensures ∙ c.in_default.is) in
    let here = subst (λ (l : List SignJob). All (λ (job : SignJob). asked job < c.len.result) l) (c.deref.ensures.value ∙ sym c.deref-2.ensures.value) there in
    let view : map state items ≡ c.args.self.now = c.self.view_is in
    let long = ap length view in
    let size = length-map items state in
    let room = c.self.inside.signers.ok.0 in
    λ κs lives k d lt.
    let low = here k d lt in
    omega (arith, low, c.len.ensures, long, size, room)

pub returns-clause-absent : goal.returns-clause-absent
returns-clause-absent g c =
    let none : first_absent (length c.args.self.now) c.args.jobs.items ≡ None =
    ap (λ (n : ℕ). first_absent n c.args.jobs.items) (sym c.len.ensures)
    ∙ (ap (first_absent c.len.result) (sym c.deref.ensures.value) ∙ (sym c.first_absent.ensures ∙ c.in_default.is)) in
    absent-none c.sign_all.result (first_absent (length c.args.self.now) c.args.jobs.items) none c.sign_all.ensures.there

pub returns-clause-answered : goal.returns-clause-answered
returns-clause-answered g c =
    subst (λ (w : List SignJob). IfOk c.sign_all.result (λ a. AreAnswers w a.items)) c.deref-2.ensures.value c.sign_all.ensures.answered

pub returns-clause-called : goal.returns-clause-called
returns-clause-called g c =
    let state = λ (s : g.row.S.Denot). g.S.Signer.state s in
    let new = map state c.sign_all.new.signers.items in
    let view : map state c.self.inside.signers.items ≡ c.args.self.now = c.self.view_is in
    subst (λ (w : List SignJob). IfOk c.sign_all.result (λ a. new ≡ after_calls c.args.self.now (calls_for w a.items))) c.deref-2.ensures.value
    (subst (λ (o : List SignerState). IfOk c.sign_all.result (λ a. new ≡ after_calls o (calls_for c.deref-2.result.now a.items))) view c.sign_all.ensures.called)

pub returns-clause-vouched : goal.returns-clause-vouched
returns-clause-vouched g c =
    let new = map (λ (s : g.row.S.Denot). g.S.Signer.state s) c.sign_all.new.signers.items in
    subst (λ (w : List SignJob). IfOk c.sign_all.result (λ a. All (IsVouched new) (calls_for w a.items))) c.deref-2.ensures.value c.sign_all.ensures.vouched

pub returns-clause-stopped : goal.returns-clause-stopped
returns-clause-stopped g c =
    let state = λ (s : g.row.S.Denot). g.S.Signer.state s in
    let new = map state c.sign_all.new.signers.items in
    let view : map state c.self.inside.signers.items ≡ c.args.self.now = c.self.view_is in
    subst (λ (w : List SignJob). IfErr c.sign_all.result (IsForAllStop w c.args.self.now new)) c.deref-2.ensures.value
    (subst (λ (o : List SignerState). IfErr c.sign_all.result (IsForAllStop c.deref-2.result.now o new)) view c.sign_all.ensures.stopped)

pub returns-clause-kept : goal.returns-clause-kept
returns-clause-kept g c =
    let state = λ (s : g.row.S.Denot). g.S.Signer.state s in
    let new = map state c.sign_all.new.signers.items in
    let view : map state c.self.inside.signers.items ≡ c.args.self.now = c.self.view_is in
    subst (λ (o : List SignerState). Keeps o new) view c.sign_all.ensures.kept
