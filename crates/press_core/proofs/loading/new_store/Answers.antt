use Rattle.std.proofs.Common.{◌≡◌, length, sym, subst, rules}
use Rattle.key_ids.specs.Base.{IsBase, rsync_scheme, https_scheme}
use Rattle.key_ids.specs.Uris.{Bases}
use Rattle.press_records.specs.Store.{AreBases, store_value}
use Rattle.press_records.specs.declared.store.StoreRecord.{StoreRecord}
use Rattle.press_core.proofs.Loads.{store-recorded, store-fits}
use Rattle.press_core.proofs.loading.new_store.Goals as goal

are-bases : (store : StoreRecord) (site : Bases) → store.site ≡ site → IsBase rsync_scheme site.rsync → IsBase https_scheme site.rrdp → AreBases (store_value store)
are-bases store site is rsync rrdp = record {
  rsync = subst (λ (b : Bases). IsBase rsync_scheme b.rsync) (sym is) rsync;
  rrdp = subst (λ (b : Bases). IsBase https_scheme b.rrdp) (sym is) rrdp;
}

pub returns-clause-named : goal.returns-clause-named
returns-clause-named c =
    let store : StoreRecord = record { session = c.as_bytes.result.now; site = c.in_ok-copied.field-0 } in
    let long : length c.as_bytes.result.now ≡ 16 = search rules in
    let bases = c.in_ok-copied.ensures.bases in
    store-recorded (store_value store) long (are-bases store c.args.site.now c.in_ok-copied.ensures.copy bases.0 bases.1)

pub returns-clause-fits : goal.returns-clause-fits
returns-clause-fits c =
    let store : StoreRecord = record { session = c.as_bytes.result.now; site = c.in_ok-copied.field-0 } in
    let long : length c.as_bytes.result.now ≡ 16 = search rules in
    let bases = c.in_ok-copied.ensures.bases in
    store-fits (store_value store) long (are-bases store c.args.site.now c.in_ok-copied.ensures.copy bases.0 bases.1)
