use Rattle.std.proofs.Common.{ℕ, ◌-◌, List, length, refl, sym, ap, subst, ◌∙◌, arith}
use Rattle.std.proofs.lemmas.Result.{err_from_is_err_and}
use Rattle.press_records.specs.Store.{store_value}
use Rattle.press_records.specs.declared.store.StoreRecord.{StoreRecord}
use Rattle.press_core.specs.Files.{repository_at}
use Rattle.press_core.specs.JournalRecords.{store_for}
use Rattle.press_core.specs.Loading.{IsInOrder, loaded_value}
use Rattle.press_core.specs.inner.Loads.{AreAllRead, IsFoundIn}
use Rattle.press_core.proofs.Crashes.{holds-behind, images-behind}
use Rattle.press_core.proofs.Editions.{records-on}
use Rattle.press_core.proofs.Found.{store-stop, editions-stop, site-stop}
use Rattle.press_core.proofs.FoundAll.{in-order-all, found-all}
use Rattle.press_core.proofs.loading.read_all.Goals as goal

-- ---- no store is found

pub returns-in_err-store-clause-refused : goal.returns-in_err-store-clause-refused
returns-in_err-store-clause-refused g c =
    let p = err_from_is_err_and c.from_residual.result c.from_residual.ensures.1 in
    rw (p.1, p.2)
    (store-stop g.D.Disk c.args.site.now c.args.journal.now c.store_of.new.journal.disk c.in_err-store.field-0.0 c.in_err-store.ensures.refused)

-- ---- an edition's record is bad

pub returns-in_err-read-clause-refused : goal.returns-in_err-read-clause-refused
returns-in_err-read-clause-refused g c =
    let p = err_from_is_err_and c.from_residual-in_err-read.result c.from_residual-in_err-read.ensures.1 in
    rw (p.1, p.2)
    (editions-stop g.D.Disk c.args.site.now (store_for c.args.session c.args.site.now) (store_value c.in_ok-store.store) c.args.journal.now c.store_of.new.journal
    c.read_editions.new.journal.disk c.in_err-read.field-0.0 c.in_ok-store.ensures.had c.in_ok-store.ensures.named
    c.read_editions.ensures.journal.disk.content_stays c.store_of.ensures.later c.in_err-read.ensures.refused)

pub returns-in_err-read-clause-holds : goal.returns-in_err-read-clause-holds
returns-in_err-read-clause-holds g c =
    holds-behind g.D.Disk (store_for c.args.session c.args.site.now) (store_value c.in_ok-store.store) c.args.journal.now c.store_of.new.journal
    c.read_editions.new.journal c.requires c.in_ok-store.ensures.opened c.in_ok-store.ensures.had c.read_editions.ensures.journal

pub returns-in_err-read-clause-images : goal.returns-in_err-read-clause-images
returns-in_err-read-clause-images g c =
    images-behind g.D.Disk (store_for c.args.session c.args.site.now) (store_value c.in_ok-store.store) c.args.journal.now c.store_of.new.journal
    c.read_editions.new.journal c.requires c.in_ok-store.ensures.opened c.in_ok-store.ensures.had c.read_editions.ensures.journal c.store_of.ensures.images

pub returns-in_err-read-clause-later : goal.returns-in_err-read-clause-later
returns-in_err-read-clause-later g c = omega (arith, c.store_of.ensures.later, c.read_editions.ensures.journal.later)

-- ---- the store is of other bases

pub returns-in_err-same_site-clause-refused : goal.returns-in_err-same_site-clause-refused
returns-in_err-same_site-clause-refused g c =
    let p = err_from_is_err_and c.from_residual-in_err-same_site.result c.from_residual-in_err-same_site.ensures.1 in
    let mid = c.store_of.new.journal in
    rw (p.1, p.2)
    (site-stop g.D.Disk c.args.session c.args.site.now c.args.journal.now mid c.read_editions.new.journal.disk c.in_ok-store.store
    (length mid.sizes - 1) c.in_ok-read.read.left c.in_ok-read.ensures.read.so_far c.in_err-same_site.field-0.0 c.in_ok-store.ensures.opened.sizes
    c.in_ok-store.ensures.had c.in_ok-store.ensures.named refl c.read_editions.ensures.journal.disk.content_stays c.in_err-same_site.ensures.other)

pub returns-in_err-same_site-clause-holds : goal.returns-in_err-same_site-clause-holds
returns-in_err-same_site-clause-holds g c =
    holds-behind g.D.Disk (store_for c.args.session c.args.site.now) (store_value c.in_ok-store.store) c.args.journal.now c.store_of.new.journal
    c.read_editions.new.journal c.requires c.in_ok-store.ensures.opened c.in_ok-store.ensures.had c.read_editions.ensures.journal

pub returns-in_err-same_site-clause-images : goal.returns-in_err-same_site-clause-images
returns-in_err-same_site-clause-images g c =
    images-behind g.D.Disk (store_for c.args.session c.args.site.now) (store_value c.in_ok-store.store) c.args.journal.now c.store_of.new.journal
    c.read_editions.new.journal c.requires c.in_ok-store.ensures.opened c.in_ok-store.ensures.had c.read_editions.ensures.journal c.store_of.ensures.images

pub returns-in_err-same_site-clause-later : goal.returns-in_err-same_site-clause-later
returns-in_err-same_site-clause-later g c = omega (arith, c.store_of.ensures.later, c.read_editions.ensures.journal.later)

-- ---- all is found

pub returns-clause-found : goal.returns-clause-found
returns-clause-found g c =
    let old = c.args.journal.now in
    let mid = c.store_of.new.journal in
    let now = c.read_editions.new.journal in
    let store = c.in_ok-store.store in
    let found = c.found_of.result in
    let left = c.in_ok-read.read.left in
    let resuming = c.in_ok-read.read.resuming in
    let read = subst (λ (session : List ℕ). AreAllRead (repository_at session store.site) mid.records (length mid.sizes - 1) left resuming)
    c.from_bytes-own.ensures c.in_ok-read.ensures.read in
    subst (λ (s : StoreRecord). IsFoundIn c.args.session old.records (loaded_value now s found.left found.rrdp)) (sym c.found_of.ensures.store)
    (found-all g.D.Disk c.same_contents_same_set.ensures mid now store found.left found.rrdp resuming left read c.found_of.ensures.left c.found_of.ensures.ascending
    c.found_of.ensures.files c.args.session c.args.site.now old c.requires.sizes c.in_ok-store.ensures.opened.sizes c.in_ok-store.ensures.had c.in_ok-store.ensures.named
    (records-on g.D.Disk mid now c.read_editions.ensures.journal))

pub returns-clause-in_order : goal.returns-clause-in_order
returns-clause-in_order g c =
    let mid = c.store_of.new.journal in
    let now = c.read_editions.new.journal in
    let store = c.in_ok-store.store in
    let found = c.found_of.result in
    let left = c.in_ok-read.read.left in
    let resuming = c.in_ok-read.read.resuming in
    let read = subst (λ (session : List ℕ). AreAllRead (repository_at session store.site) mid.records (length mid.sizes - 1) left resuming)
    c.from_bytes-own.ensures c.in_ok-read.ensures.read in
    subst (λ (s : StoreRecord). IsInOrder (loaded_value now s found.left found.rrdp)) (sym c.found_of.ensures.store)
    (in-order-all g.D.Disk c.same_contents_same_set.ensures mid now store found.left found.rrdp resuming left read c.found_of.ensures.left c.found_of.ensures.ascending
    c.found_of.ensures.serial c.in_ok-read.ensures.still_open)

pub returns-clause-site : goal.returns-clause-site
returns-clause-site g c = ap (λ (s : StoreRecord). s.site) c.found_of.ensures.store ∙ c.in_ok-same_site.ensures.same

pub returns-clause-holds : goal.returns-clause-holds
returns-clause-holds g c =
    holds-behind g.D.Disk (store_for c.args.session c.args.site.now) (store_value c.in_ok-store.store) c.args.journal.now c.store_of.new.journal
    c.read_editions.new.journal c.requires c.in_ok-store.ensures.opened c.in_ok-store.ensures.had c.read_editions.ensures.journal

pub returns-clause-images : goal.returns-clause-images
returns-clause-images g c =
    images-behind g.D.Disk (store_for c.args.session c.args.site.now) (store_value c.in_ok-store.store) c.args.journal.now c.store_of.new.journal
    c.read_editions.new.journal c.requires c.in_ok-store.ensures.opened c.in_ok-store.ensures.had c.read_editions.ensures.journal c.store_of.ensures.images

pub returns-clause-later : goal.returns-clause-later
returns-clause-later g c = omega (arith, c.store_of.ensures.later, c.read_editions.ensures.journal.later)
