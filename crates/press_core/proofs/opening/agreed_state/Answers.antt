use Rattle.std.proofs.Common.{◌≡◌, List, None, sym, ap, subst, ◌∙◌}
use Rattle.std.proofs.lemmas.Result.{err_from_is_err_and}
use Rattle.key_roll.specs.declared.rows.KeyRow.{KeyRow}
use Rattle.std.specs.Prelude.{All, map}
use Rattle.std.specs.List.{AllZip}
use Rattle.names.specs.Name.{IsName}
use Rattle.authority_book.specs.declared.rows.NameRow.{NameRow}
use Rattle.authority_book.specs.Settings.{ConfigValue}
use Rattle.entitle.specs.Certified.{settings_of, names_of}
use Rattle.press_core.specs.Agreement.{first_mismatch}
use Rattle.press_core.specs.declared.homes.Home.{Home}
use Rattle.press_core.specs.Tables as places
use Rattle.press_core.specs.Tables.{homes_of}
use Rattle.press_core.specs.inner.Rows.{home_value, IsRowFor}
use Rattle.press_core.specs.inner.Resumed.{IsRowFault}
use Rattle.press_core.proofs.Clearing.{AreUriLaws}
use Rattle.press_core.proofs.Configured.{taken-in}
use Rattle.press_core.proofs.Faulted.{rows-differ}
use Rattle.press_core.proofs.Following.{tree-of}
use Rattle.press_core.proofs.Opened.{in-folders, keys-live, is-anchored, is-clear}
use Rattle.press_core.proofs.Resumed.{state-of, clear-of, agreed-at}
use Rattle.press_core.proofs.Tabled.{rising}
use Rattle.press_core.proofs.opening.agreed_state.Goals as goal

pub compare_origins-requires-clause-folders : goal.compare_origins-requires-clause-folders
compare_origins-requires-clause-folders c = in-folders c.args.site.now c.args.left c.args.audited.now c.visits_are_accepted.ensures c.requires.audit

pub returns-in_err-compare_rows-clause-refused : goal.returns-in_err-compare_rows-clause-refused
returns-in_err-compare_rows-clause-refused c =
    let fault = c.in_err-compare_rows.field-0.0 in
    let p = err_from_is_err_and c.from_residual-in_err-compare_rows.result c.from_residual-in_err-compare_rows.ensures.1 in
    rw (p.1, p.2)
    (rows-differ c.args.site.now c.args.left.rows c.args.firsts.items c.in_ok-owing.owing c.args.audited.now fault c.in_ok-owing.ensures c.in_ok-compare_origins.ensures.same
    (subst (λ (rows : List KeyRow). IsRowFault rows c.args.audited.now.points fault) c.as_slice.ensures c.in_err-compare_rows.ensures.refused))

pub stand-requires-clause-taken : goal.stand-requires-clause-taken
stand-requires-clause-taken c =
    taken-in c.args.left.cut c.args.firsts.items (settings_of c.in_ok-owing.owing.configs.items) c.requires.firsts (c.requires.order.desks c.requires.audit.some) c.in_ok-owing.ensures.come

pub stand-requires-clause-live : goal.stand-requires-clause-live
stand-requires-clause-live c =
    let agreed : first_mismatch c.args.left.rows c.args.audited.now.points ≡ None =
    ap (λ (rows : List KeyRow). first_mismatch rows c.args.audited.now.points) (sym c.as_slice.ensures) ∙ c.in_ok-compare_rows.ensures.agreed in
    keys-live c.args.site.now c.args.left c.args.audited.now c.visits_are_accepted.ensures c.requires.audit agreed (c.requires.order.live c.requires.audit.some)
    (map home_value c.deref-2.result.now) c.in_ok-issued.issued.items c.in_ok-issued.ensures

pub stand-requires-clause-rising : goal.stand-requires-clause-rising
stand-requires-clause-rising c = rising (map home_value c.deref-2.result.now) c.args.left.set c.in_ok-issued.issued.items c.in_ok-issued.ensures c.requires.audit.audit.set

pub returns-clause-state : goal.returns-clause-state
returns-clause-state c =
    let owing = c.in_ok-owing.owing in
    let configs = settings_of owing.configs.items in
    let agreed : first_mismatch c.args.left.rows c.args.audited.now.points ≡ None =
    ap (λ (rows : List KeyRow). first_mismatch rows c.args.audited.now.points) (sym c.as_slice.ensures) ∙ c.in_ok-compare_rows.ensures.agreed in
    let taken = taken-in c.args.left.cut c.args.firsts.items configs c.requires.firsts (c.requires.order.desks c.requires.audit.some) c.in_ok-owing.ensures.come in
    let named : c.names_of-names.result.now ≡ names_of configs =
    c.names_of-names.ensures.names ∙ ap (λ (all : List ConfigValue). names_of (settings_of all)) c.deref.ensures.value in
    let homes : map home_value c.deref-2.result.now ≡ homes_of c.args.site.now (names_of configs) c.args.left.rows =
    ap (λ (all : List Home). map home_value all) c.deref-2.ensures.value
    ∙ (c.in_ok-homes.ensures
    ∙ (ap (λ (names : List NameRow). homes_of c.args.site.now names c.as_slice-2.result.now) named
    ∙ ap (λ (rows : List KeyRow). homes_of c.args.site.now (names_of configs) rows) c.as_slice-2.ensures)) in
    state-of c.args.left owing c.in_ok-issued.issued.items c.stand.result c.stand.ensures c.args.site.now c.args.firsts.items c.in_ok-owing.ensures
    (subst (λ (all : List places.Home). AllZip (IsRowFor all) c.args.left.set c.in_ok-issued.issued.items) homes c.in_ok-issued.ensures)
    c.requires.audit.audit.set (c.requires.order.desks c.requires.audit.some)
    (record {
      tree = tree-of c.accepted_names_are_apart.ensures configs c.args.left.cut c.in_ok-owing.ensures.come.one_each taken;
      plain = subst (All (λ (row : NameRow). IsName row.name)) named c.names_of-names.ensures.plain;
    })
    (is-anchored c.args.site.now c.args.left c.args.audited.now c.visits_are_accepted.ensures c.requires.audit agreed (c.requires.order.live c.requires.audit.some)
    (map home_value c.deref-2.result.now) c.in_ok-issued.issued.items c.in_ok-issued.ensures)

pub returns-clause-clear : goal.returns-clause-clear
returns-clause-clear c =
    let agreed : first_mismatch c.args.left.rows c.args.audited.now.points ≡ None =
    ap (λ (rows : List KeyRow). first_mismatch rows c.args.audited.now.points) (sym c.as_slice.ensures) ∙ c.in_ok-compare_rows.ensures.agreed in
    let laws : AreUriLaws = record {
      anchor = c.files_are_told_apart.ensures.anchor;
      certificates = c.keys_are_told_apart.ensures.certificates;
      crls = c.keys_are_told_apart.ensures.crls;
      manifests = c.keys_are_told_apart.ensures.manifests;
      ends_certificate = c.kinds_are_told_apart.ensures.certificates;
      ends_crl = c.kinds_are_told_apart.ensures.crls;
      ends_manifest = c.kinds_are_told_apart.ensures.manifests;
    } in
    clear-of c.args.left c.in_ok-owing.owing c.in_ok-issued.issued.items c.stand.result c.stand.ensures c.args.site.now
    (is-clear c.args.site.now c.args.left c.args.audited.now c.visits_are_accepted.ensures c.requires.audit agreed (c.requires.order.live c.requires.audit.some)
    (map home_value c.deref-2.result.now) c.in_ok-issued.issued.items c.in_ok-issued.ensures laws)

pub returns-clause-agreed : goal.returns-clause-agreed
returns-clause-agreed c =
    let agreed : first_mismatch c.args.left.rows c.args.audited.now.points ≡ None =
    ap (λ (rows : List KeyRow). first_mismatch rows c.args.audited.now.points) (sym c.as_slice.ensures) ∙ c.in_ok-compare_rows.ensures.agreed in
    agreed-at c.args.left c.in_ok-owing.owing c.in_ok-issued.issued.items c.stand.result c.stand.ensures c.args.site.now c.args.audited.now c.in_ok-compare_origins.ensures.same agreed
