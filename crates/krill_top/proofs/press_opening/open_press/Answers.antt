use Rattle.std.proofs.Common.{◌<◌, ◌∙◌, ℕ, List, length, sym, ap, refl, subst, inl, inr, arith}
use Rattle.std.specs.Prelude.{IfSome, All}
use Rattle.key_ids.specs.Uris.{Bases}
use Rattle.key_roll.specs.declared.rows.KeyRow.{KeyRow}
use Rattle.signer_api.specs.State.{SignerState}
use Rattle.gate_journal.specs.View.{View as JournalView}
use Rattle.press_core.specs.Loading.{IsLoadOf, IsSameStore}
use Rattle.press_core.specs.JournalRecords.{store_for}
use Rattle.press_core.specs.Resuming.{IsAudited}
use Rattle.krill_top.specs.declared.faults.OpenFault.{OpenFault}
use Rattle.krill_top.specs.PressDisk.{AreAsked, IsStopCause, IsLoadedAndStopped}
use Rattle.krill_top.specs.inner.PressOpened.{AreGiven, IsBehindLoaded}
use Rattle.krill_top.proofs.Answering.{if_ok_so, if_err_both, if_err_three}
use Rattle.krill_top.proofs.PressFound.{loaded_by, records_known, records_read}
use Rattle.krill_top.proofs.PressOpening.{load_asked, not_loaded, stopped_loaded, told_by}
use Rattle.krill_top.proofs.press_opening.open_press.Goals as goal

pub go_on-requires-clause-signers : goal.go_on-requires-clause-signers
go_on-requires-clause-signers g c =
    subst (λ (s : List SignerState). All (λ (row : KeyRow). row.signer < length s) c.in-Ok.loaded.rows) (sym c.in-Ok-audit_loaded.ensures.same) c.in-Ok-audit_loaded.ensures.signers

pub go_on-requires-clause-audited : goal.go_on-requires-clause-audited
go_on-requires-clause-audited g c =
    subst (λ (s : List SignerState). IsAudited c.in-Ok.loaded s c.in-Ok-audit_loaded.audited) (sym c.in-Ok-audit_loaded.ensures.same) c.in-Ok-audit_loaded.ensures.audited

pub returns-in-Err-clause-refused : goal.returns-in-Err-clause-refused
returns-in-Err-clause-refused g c given is =
    let why = c.in-Err.ensures in
    inl (not_loaded g.D.Disk g.met.D.Disk.counts_now given c.args.site.now c.args.session c.load_fault-fault.result c.in-Err.field-0.fault c.args.disk c.in-Err.field-0.disk is.site_is is.session_is
    c.load_fault-fault.ensures why.refused why.same why.any_moment why.later)

pub returns-in-Err-clause-asked : goal.returns-in-Err-clause-asked
returns-in-Err-clause-asked g c = subst (λ (f : OpenFault). AreAsked f c.args.ring c.args.ring) (sym c.load_fault-fault.ensures) (load_asked c.in-Err.field-0.fault c.args.ring c.args.ring refl)

pub returns-in-Ok-audit_loaded-clause-opened : goal.returns-in-Ok-audit_loaded-clause-opened
returns-in-Ok-audit_loaded-clause-opened g c =
    let D : Type 0 = g.row.D.Denot in
    let loaded = c.in-Ok.loaded in
    let was = c.in-Ok.ensures in
    let audited = c.in-Ok-audit_loaded.audited in
    let seen = c.in-Ok-audit_loaded.ensures in
    let content = g.D.Disk.content c.args.disk in
    let both = loaded_by c.args.site.now c.args.session loaded content was.found was.left in
    if_ok_so c.go_on.result _ _ c.go_on.ensures.opened (λ made so given is.
    let behind = so given.found is.are.found in
    record {
      loaded = loaded;
      editions = both.0;
      left = both.1;
      order = was.order;
      known = subst (λ (s : Bases). IfSome content (λ file. IsLoadOf s given.session file both.0 loaded)) (sym is.site_is)
          (subst (λ (id : List ℕ). IfSome content (λ file. IsLoadOf c.args.site.now id file both.0 loaded)) (sym is.session_is) both.2);
      records = records_known (IsSameStore (store_for c.args.session c.args.site.now)) c.args.site.now c.args.session both.0 loaded content (g.D.Disk.content loaded.journal.disk) was.same was.safe.told both.2;
      read = records_read (IsSameStore (store_for c.args.session c.args.site.now)) content (g.D.Disk.content loaded.journal.disk) loaded.journal.records was.same was.safe.known;
      bases = was.site ∙ sym is.site_is;
      signers = subst (λ (s : List SignerState). All (λ (row : KeyRow). row.signer < length s) loaded.rows) (sym is.are.signers_are) seen.signers;
      audited = audited;
      behind = subst (λ (s : List SignerState). IsBehindLoaded g.D.Disk loaded given.found audited s made.press made.summary) (seen.same ∙ sym is.are.signers_are) behind;
      told_is = told_by both.0 loaded c.args.ring audited made.summary both.1 was.order seen.audited behind.told_is;
      later =
          let same = ap (λ (j : JournalView D). g.D.Disk.fault_count j.disk) behind.goes_on.journal in
          omega (arith, was.later, same);
    })

pub returns-in-Ok-audit_loaded-clause-refused : goal.returns-in-Ok-audit_loaded-clause-refused
returns-in-Ok-audit_loaded-clause-refused g c =
    let D : Type 0 = g.row.D.Denot in
    let loaded = c.in-Ok.loaded in
    let was = c.in-Ok.ensures in
    let seen = c.in-Ok-audit_loaded.ensures in
    let content = g.D.Disk.content c.args.disk in
    let both = loaded_by c.args.site.now c.args.session loaded content was.found was.left in
    let records = records_known (IsSameStore (store_for c.args.session c.args.site.now)) c.args.site.now c.args.session both.0 loaded content (g.D.Disk.content loaded.journal.disk) was.same was.safe.told both.2 in
    if_err_three c.go_on.result _ _ _ _ c.go_on.ensures.refused c.go_on.ensures.ring c.go_on.ensures.disk (λ e so kept same given is.
    let given_now : AreGiven c.args.desks.now c.audit_loaded.new.ring given = record { found = is.are.found; signers_are = is.are.signers_are ∙ sym seen.same } in
    inr (subst (λ (d : D). IsLoadedAndStopped g.D.Disk given e.fault c.args.disk d e.ring given.outlet) (sym same)
    (stopped_loaded g.D.Disk given e.fault c.args.disk loaded both.0 e.ring both.1 was.order
    (subst (λ (s : Bases). IfSome content (λ file. IsLoadOf s given.session file both.0 loaded)) (sym is.site_is)
    (subst (λ (id : List ℕ). IfSome content (λ file. IsLoadOf c.args.site.now id file both.0 loaded)) (sym is.session_is) both.2))
    records was.safe was.later
    (subst (λ (s : List SignerState). IsStopCause given loaded s given.outlet e.fault) (sym kept) (so given given_now)))))

pub returns-in-Ok-audit_loaded-clause-asked : goal.returns-in-Ok-audit_loaded-clause-asked
returns-in-Ok-audit_loaded-clause-asked g c =
    let seen = c.in-Ok-audit_loaded.ensures in
    if_err_both c.go_on.result _ _ _ c.go_on.ensures.asked c.go_on.ensures.ring (λ e asked same.
    subst (λ (s : List SignerState). AreAsked e.fault c.args.ring s) (sym (same ∙ seen.same))
    (subst (λ (s : List SignerState). AreAsked e.fault s s) seen.same asked))

pub returns-in-Err-audit_loaded-clause-refused : goal.returns-in-Err-audit_loaded-clause-refused
returns-in-Err-audit_loaded-clause-refused g c given is =
    let D : Type 0 = g.row.D.Denot in
    let loaded = c.in-Ok.loaded in
    let was = c.in-Ok.ensures in
    let content = g.D.Disk.content c.args.disk in
    let both = loaded_by c.args.site.now c.args.session loaded content was.found was.left in
    let records = records_known (IsSameStore (store_for c.args.session c.args.site.now)) c.args.site.now c.args.session both.0 loaded content (g.D.Disk.content loaded.journal.disk) was.same was.safe.told both.2 in
    inr (subst (λ (d : D). IsLoadedAndStopped g.D.Disk given c.in-Err-audit_loaded.fault c.args.disk d c.audit_loaded.new.ring given.outlet) (sym c.close-disk.ensures.disk)
    (stopped_loaded g.D.Disk given c.in-Err-audit_loaded.fault c.args.disk loaded both.0 c.audit_loaded.new.ring both.1 was.order
    (subst (λ (s : Bases). IfSome content (λ file. IsLoadOf s given.session file both.0 loaded)) (sym is.site_is)
    (subst (λ (id : List ℕ). IfSome content (λ file. IsLoadOf c.args.site.now id file both.0 loaded)) (sym is.session_is) both.2))
    records was.safe was.later (c.in-Err-audit_loaded.ensures.refused given is.are)))
