use Rattle.std.proofs.Common.{◌≡◌, ℕ, ◌+◌, ◌≤◌, List, [], length, sym, subst, ◌∙◌}
use Rattle.std.proofs.lemmas.Result.{err_from_is_err_and}
use Rattle.gate_journal.specs.Format.{held_for}
use Rattle.press_records.specs.Store.{Store, IsStoreRecord, store_value}
use Rattle.press_core.specs.JournalRecords.{store_for, press_limit}
use Rattle.press_core.proofs.Begun.{can-begin, begun-by, opened-then, holds-begun, holds-doubted, images-begun, stop-mid}
use Rattle.press_core.proofs.loading.begin_store.Goals as goal

-- The bytes that are appended are the record of the store that was given.
named-of : (given store : Store) (record_bytes written spelled : List ℕ) → store ≡ given → IsStoreRecord store spelled → record_bytes ≡ written
    → written ≡ spelled → IsStoreRecord given record_bytes
named-of given store record_bytes written spelled is named same wrote =
    subst (λ (b : List ℕ). IsStoreRecord given b) (sym (same ∙ wrote)) (subst (λ (x : Store). IsStoreRecord x spelled) is named)

pub append_first-requires-clause-fits : goal.append_first-requires-clause-fits
append_first-requires-clause-fits g c =
    let fits = subst (λ (b : List ℕ). held_for [] + (length b + 9) ≤ press_limit) (sym (c.deref.ensures.value ∙ c.in_ok-record.ensures)) c.in_ok-store.ensures.fits in
    can-begin g.D.Disk c.args.journal.now c.reserve.new.self c.deref.result.now c.requires.opened c.requires.empty c.reserve.ensures.same fits

pub returns-clause-begun : goal.returns-clause-begun
returns-clause-begun g c =
    let given = store_for c.args.session c.args.site.now in
    let store = store_value c.in_ok-store.store in
    let first = c.deref.result.now in
    let named = named-of given store first _ _ c.in_ok-store.ensures.store c.in_ok-store.ensures.named c.deref.ensures.value c.in_ok-record.ensures in
    begun-by g.D.Disk given c.args.journal.now c.reserve.new.self c.requires.opened c.reserve.ensures.same first c.requires.empty named
    c.append_first.new.journal store c.in_ok-store.ensures.store c.in_ok-append_first.ensures.appended c.in_ok-append_first.ensures.sizes

pub returns-clause-opened : goal.returns-clause-opened
returns-clause-opened g c =
    let given = store_for c.args.session c.args.site.now in
    let first = c.deref.result.now in
    let named = named-of given (store_value c.in_ok-store.store) first _ _ c.in_ok-store.ensures.store c.in_ok-store.ensures.named c.deref.ensures.value
    c.in_ok-record.ensures in
    let added = c.in_ok-append_first.ensures in
    opened-then g.D.Disk given c.args.journal.now c.reserve.new.self c.requires.opened c.reserve.ensures.same first c.requires.empty named
    c.append_first.new.journal added.appended added.sizes added.open added.limit added.safe

pub returns-clause-holds : goal.returns-clause-holds
returns-clause-holds g c =
    let given = store_for c.args.session c.args.site.now in
    let first = c.deref.result.now in
    let named = named-of given (store_value c.in_ok-store.store) first _ _ c.in_ok-store.ensures.store c.in_ok-store.ensures.named c.deref.ensures.value
    c.in_ok-record.ensures in
    let added = c.in_ok-append_first.ensures in
    holds-begun g.D.Disk given c.args.journal.now c.reserve.new.self c.requires.opened c.reserve.ensures.same first c.requires.empty named
    c.append_first.new.journal added.appended added.open added.limit added.safe

pub returns-clause-images : goal.returns-clause-images
returns-clause-images g c =
    let given = store_for c.args.session c.args.site.now in
    let first = c.deref.result.now in
    let named = named-of given (store_value c.in_ok-store.store) first _ _ c.in_ok-store.ensures.store c.in_ok-store.ensures.named c.deref.ensures.value
    c.in_ok-record.ensures in
    images-begun g.D.Disk given c.args.journal.now c.reserve.new.self c.requires.opened c.reserve.ensures.same first c.requires.empty named
    c.append_first.new.journal c.append_first.ensures.any_moment

pub returns-in_err-append_first-clause-refused : goal.returns-in_err-append_first-clause-refused
returns-in_err-append_first-clause-refused g c =
    let p = err_from_is_err_and c.from_residual-in_err-append_first.result c.from_residual-in_err-append_first.ensures.1 in
    rw (p.1, p.2)
    (stop-mid g.D.Disk c.args.journal.now c.reserve.new.self c.append_first.new.journal.disk c.in_err-append_first.field-0.0 c.reserve.ensures.same
    c.in_err-append_first.ensures.refused)

pub returns-in_err-append_first-clause-holds : goal.returns-in_err-append_first-clause-holds
returns-in_err-append_first-clause-holds g c =
    let given = store_for c.args.session c.args.site.now in
    let first = c.deref.result.now in
    let named = named-of given (store_value c.in_ok-store.store) first _ _ c.in_ok-store.ensures.store c.in_ok-store.ensures.named c.deref.ensures.value
    c.in_ok-record.ensures in
    let left = c.in_err-append_first.ensures in
    holds-doubted g.D.Disk given c.args.journal.now c.reserve.new.self c.requires.opened c.reserve.ensures.same first c.requires.empty named
    c.append_first.new.journal left.doubted.0 left.doubted.1 left.limit left.safe

pub returns-in_err-append_first-clause-images : goal.returns-in_err-append_first-clause-images
returns-in_err-append_first-clause-images g c =
    let given = store_for c.args.session c.args.site.now in
    let first = c.deref.result.now in
    let named = named-of given (store_value c.in_ok-store.store) first _ _ c.in_ok-store.ensures.store c.in_ok-store.ensures.named c.deref.ensures.value
    c.in_ok-record.ensures in
    images-begun g.D.Disk given c.args.journal.now c.reserve.new.self c.requires.opened c.reserve.ensures.same first c.requires.empty named
    c.append_first.new.journal c.append_first.ensures.any_moment
