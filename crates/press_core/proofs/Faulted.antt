-- Why a press doesn't go on.
use Rattle.std.proofs.Common.{◌≡◌, List, Some, refl, sym, ◌∙◌}
use Rattle.key_ids.specs.Uris.{Bases}
use Rattle.key_roll.specs.declared.rows.KeyRow.{KeyRow}
use Rattle.entitle.specs.Certified.{settings_of}
use Rattle.rp_rules.specs.Yield.{AuditedValue, PointValue}
use Rattle.editions.specs.declared.gathered.Gathered.{Gathered}
use Rattle.press_core.specs.declared.opening.Owing.{Owing}
use Rattle.press_core.specs.declared.resume.ResumeFault.{ResumeFault}
use Rattle.press_core.specs.declared.resume.ResumeFault.TheVariants as why
use Rattle.press_core.specs.Agreement.{Mismatch, mismatch, first_mismatch, AreSameOrigins}
use Rattle.press_core.specs.Resuming.{IsOwedBy, IsFaultAt}
use Rattle.press_core.specs.inner.Resumed.{IsOwing, owed_by, TellsMismatch, IsOriginFault, IsRowFault}

owed-by : (site : Bases) (firsts : List Gathered) (owing : Owing) → IsOwing firsts owing → IsOwedBy site firsts (owed_by site owing)
owed-by site firsts owing is = record { configs = settings_of owing.configs.items; come = is.come; list = owing.owed.items; owes = is.owes; is = refl }

-- By what the commands come to.
pub origins-differ : (site : Bases) (rows : List KeyRow) (firsts : List Gathered) (owing : Owing) (audited : AuditedValue) (fault : ResumeFault) → IsOwing firsts owing
    → IsOriginFault (owed_by site owing) audited.origins fault → IsFaultAt site rows firsts audited fault
origins-differ site rows firsts owing audited (why.OriginsDiffer uri) is fault = (owed_by site owing, owed-by site firsts owing is, fault)
origins-differ site rows firsts owing audited (why.RowMismatch key field kept found) is fault = absurd fault
origins-differ site rows firsts owing audited why.Memory is fault = tt

pub rows-differ : (site : Bases) (rows : List KeyRow) (firsts : List Gathered) (owing : Owing) (audited : AuditedValue) (fault : ResumeFault) → IsOwing firsts owing
    → AreSameOrigins (owed_by site owing) audited.origins → IsRowFault rows audited.points fault → IsFaultAt site rows firsts audited fault
rows-differ site rows firsts owing audited (why.OriginsDiffer uri) is same fault = absurd fault
rows-differ site rows firsts owing audited (why.RowMismatch key field kept found) is same fault = ((owed_by site owing, owed-by site firsts owing is, same), fault)
rows-differ site rows firsts owing audited why.Memory is same fault = absurd fault

-- The mismatch that is told is the first one.
pub mismatch-told : (rows : List KeyRow) (points : List PointValue) (m : Mismatch) (fault : ResumeFault) → TellsMismatch m fault → first_mismatch rows points ≡ Some m
    → IsRowFault rows points fault
mismatch-told rows points m (why.OriginsDiffer uri) tells first = absurd tells
mismatch-told rows points m (why.RowMismatch key field kept found) tells first =
    let field_is = sym tells.1 in
    let kept_is = sym tells.2 in
    let found_is = sym tells.3 in
    let told : Some m ≡ Some (mismatch m.key field kept found) = λ i. Some (record { key = m.key; field = field_is i; kept = kept_is i; found = found_is i }) in
    (m.key, tells.0, first ∙ told)
mismatch-told rows points m why.Memory tells first = absurd tells
