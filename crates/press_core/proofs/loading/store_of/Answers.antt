use Rattle.std.proofs.Common.{◌<◌, ℕ, List, Option, length, sym, subst, inl, inr, arith}
use Rattle.std.specs.Prelude.{IfSome}
use Rattle.std.proofs.lemmas.Result.{IfOk-weaker, IfErr-weaker}
use Rattle.press_records.specs.Store.{store_value}
use Rattle.press_core.specs.JournalRecords.{store_for}
use Rattle.press_core.specs.inner.Loads.{IsHeadedBy, IsStop, IsBegunBy, IsHad, IsNoneFirst, IsNoStore}
use Rattle.press_core.proofs.Begun.{headed-begun, stop-begun}
use Rattle.press_core.proofs.Crashes.{holds-read, images-read}
use Rattle.press_core.proofs.Editions.{records-on, sizes-on}
use Rattle.press_core.proofs.Heads.{store-none}
use Rattle.press_core.proofs.loading.store_of.Goals as goal

-- ---- a store that is begun

pub returns-then-count-eq0-clause-had : goal.returns-then-count-eq0-clause-had
returns-then-count-eq0-clause-had g c =
    let given = store_for c.args.session c.args.site.now in
    let old = c.args.journal.now in
    let new = c.begin_store.new.journal in
    IfOk-weaker c.begin_store.result (λ store. IsBegunBy given (store_value store) old new) (λ store. IsHad g.D.Disk given (store_value store) old new)
    (λ store begun. inr begun) c.begin_store.ensures.begun

pub returns-then-count-eq0-clause-named : goal.returns-then-count-eq0-clause-named
returns-then-count-eq0-clause-named g c =
    let given = store_for c.args.session c.args.site.now in
    let old = c.args.journal.now in
    let new = c.begin_store.new.journal in
    IfOk-weaker c.begin_store.result (λ store. IsBegunBy given (store_value store) old new) (λ store. IfSome new.records (IsHeadedBy (store_value store)))
    (λ store begun. headed-begun given (store_value store) old new begun) c.begin_store.ensures.begun

pub returns-then-count-eq0-clause-counted : goal.returns-then-count-eq0-clause-counted
returns-then-count-eq0-clause-counted g c =
    let given = store_for c.args.session c.args.site.now in
    let old = c.args.journal.now in
    let new = c.begin_store.new.journal in
    IfOk-weaker c.begin_store.result (λ store. IsBegunBy given (store_value store) old new) (λ _. 0 < length new.sizes)
    (λ store begun. (let one = begun.sizes in omega (arith, one))) c.begin_store.ensures.begun

pub returns-then-count-eq0-clause-refused : goal.returns-then-count-eq0-clause-refused
returns-then-count-eq0-clause-refused g c =
    let old = c.args.journal.now in
    let new = c.begin_store.new.journal.disk in
    IfErr-weaker c.begin_store.result (IsStop g.D.Disk (λ at. ⊥) old.disk new) (IsStop g.D.Disk (IsNoStore g.D.Disk old new) old.disk new)
    (stop-begun g.D.Disk (IsNoStore g.D.Disk old new) old.disk new) c.begin_store.ensures.refused

-- ---- a store that stands

pub returns-clause-had : goal.returns-clause-had
returns-clause-had g c =
    let given = store_for c.args.session c.args.site.now in
    let old = c.args.journal.now in
    let new = c.read_first.new.journal in
    IfOk-weaker c.read_first.result (λ store. IfSome old.records (IsHeadedBy (store_value store))) (λ store. IsHad g.D.Disk given (store_value store) old new)
    (λ store named. inl c.read_first.ensures.journal) c.read_first.ensures.named

pub returns-clause-named : goal.returns-clause-named
returns-clause-named g c =
    let old = c.args.journal.now in
    let new = c.read_first.new.journal in
    IfOk-weaker c.read_first.result (λ store. IfSome old.records (IsHeadedBy (store_value store)))
    (λ store. IfSome new.records (IsHeadedBy (store_value store)))
    (λ store named. subst (λ (r : Option (List (List ℕ))). IfSome r (IsHeadedBy (store_value store)))
    (sym (records-on g.D.Disk old new c.read_first.ensures.journal)) named) c.read_first.ensures.named

pub returns-clause-counted : goal.returns-clause-counted
returns-clause-counted g c =
    let old = c.args.journal.now in
    let new = c.read_first.new.journal in
    let some : 0 < length old.sizes = omega (arith, c.if-count-eq0.false, c.count.ensures.count) in
    IfOk-weaker c.read_first.result (λ store. IfSome old.records (IsHeadedBy (store_value store))) (λ _. 0 < length new.sizes)
    (λ store named. subst (λ (l : List ℕ). 0 < length l) (sym (sizes-on g.D.Disk old new c.read_first.ensures.journal)) some) c.read_first.ensures.named

pub returns-clause-refused : goal.returns-clause-refused
returns-clause-refused g c =
    let old = c.args.journal.now in
    let new = c.read_first.new.journal.disk in
    IfErr-weaker c.read_first.result (IsStop g.D.Disk (IsNoneFirst old.records) old.disk new) (IsStop g.D.Disk (IsNoStore g.D.Disk old new) old.disk new)
    (λ fault stop. store-none g.D.Disk old new fault c.read_first.ensures.journal.disk.content_stays stop) c.read_first.ensures.refused

pub returns-clause-holds : goal.returns-clause-holds
returns-clause-holds g c =
    holds-read g.D.Disk (store_for c.args.session c.args.site.now) c.args.journal.now c.read_first.new.journal c.requires c.read_first.ensures.journal

pub returns-clause-images : goal.returns-clause-images
returns-clause-images g c =
    images-read g.D.Disk (store_for c.args.session c.args.site.now) c.args.journal.now c.read_first.new.journal c.requires c.read_first.ensures.journal
