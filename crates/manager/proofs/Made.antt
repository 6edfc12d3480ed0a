-- What signers made of an edition, once it was exported.
use Rattle.std.proofs.Common.{◌≡◌, sym, subst}
use Rattle.std.specs.Prelude.{Result, Ok, Err, OnOk, OnErr}
use Rattle.press_core.specs.PrepareInput.{PrepareInput}
use Rattle.press_core.specs.Stored.{StoredValue}
use Rattle.press_core.specs.declared.last_export.LastExport.{LastExport}
use Rattle.manager.specs.Pressing.{exported_as}
use Rattle.manager.specs.Made.{HasMade, HasMadeNone, MayHaveMade}

module _ {D : Type 0} (start : PrepareInput) (old mid new : StoredValue D) (last : LastExport) (same : new ≡ exported_as last mid) where
  pub made_exported : HasMade start old mid → HasMade start old new
  made_exported is = subst (λ (s : StoredValue D). HasMade start old s) (sym same) (record {
    made = is.made;
    prepared = is.prepared;
    edition = is.edition;
    held = is.held;
    stands = is.stands;
    dropped = is.dropped;
    ended = is.ended;
  })

  pub none_exported : HasMadeNone old mid → HasMadeNone old new
  none_exported is = subst (λ (s : StoredValue D). HasMadeNone old s) (sym same) is

pub on_ok_so : {T E : Type 0} (result : Result T E) (P : Type 0) → P → OnOk result P
on_ok_so (Ok done) P so = so
on_ok_so (Err fault) P so = tt

pub on_err_so : {T E : Type 0} (result : Result T E) (P : Type 0) → P → OnErr result P
on_err_so (Ok done) P so = tt
on_err_so (Err fault) P so = so
