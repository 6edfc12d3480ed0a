-- What comparing the origins tells.
use Rattle.std.proofs.Common.{◌≡◌, ℕ, List, None, Some, sym, subst}
use Rattle.std.specs.Prelude.{All}
use Rattle.names.specs.Name.{IsName}
use Rattle.key_ids.specs.Uris.{Bases}
use Rattle.authority_book.specs.declared.rows.NameRow.{NameRow}
use Rattle.entitle.specs.declared.trees.Owed.{Owed}
use Rattle.entitle.specs.Certified.{settings_of, names_of}
use Rattle.entitle.specs.Owed.{AreOwed}
use Rattle.rp_rules.specs.declared.audited.YieldedOrigin.{YieldedOrigin}
use Rattle.rp_rules.specs.Views.{yielded_values}
use Rattle.rp_rules.specs.Yield.{Yielded}
use Rattle.press_core.specs.declared.opening.Owing.{Owing}
use Rattle.press_core.specs.Agreement.{AreSameOrigins, IsOtherOrigin}
use Rattle.press_core.specs.inner.Resumed.{owed_places, yielded_places, IsOtherPlace, AreInFolders, owed_by}
use Rattle.press_core.proofs.Origins.{AreOriginLaws, owed-told, owed-same, owed-other}

module _ (laws : AreOriginLaws) (site : Bases) (owing : Owing) (names : List NameRow) (rows : List Owed) (found : List YieldedOrigin) (origins : List Yielded)
    (same-names : names ≡ names_of (settings_of owing.configs.items)) (same-rows : rows ≡ owing.owed.items) (is-found : yielded_values found ≡ origins)
    (owes : AreOwed (settings_of owing.configs.items) owing.owed.items) (plain : All (λ row. IsName row.name) names) (folders : AreInFolders site origins) where
  plain-names : All (λ row. IsName row.name) (names_of (settings_of owing.configs.items))
  plain-names = subst (λ (ns : List NameRow). All (λ row. IsName row.name) ns) same-names plain

  found-folders : AreInFolders site (yielded_values found)
  found-folders = subst (λ (l : List Yielded). AreInFolders site l) (sym is-found) folders

  pub origins-same : IsOtherPlace (owed_places site names rows) (yielded_places found) None → AreSameOrigins (owed_by site owing) origins
  origins-same none = subst (λ (l : List Yielded). AreSameOrigins (owed_by site owing) l) is-found
      (owed-same laws site (settings_of owing.configs.items) owing.owed.items found owes plain-names found-folders
      (owed-told laws site (settings_of owing.configs.items) owing.owed.items found owes plain-names found-folders names rows same-names same-rows None none))

  pub origins-other : (uri : List ℕ) → IsOtherPlace (owed_places site names rows) (yielded_places found) (Some uri) → IsOtherOrigin (owed_by site owing) origins uri
  origins-other uri some = subst (λ (l : List Yielded). IsOtherOrigin (owed_by site owing) l uri) is-found
      (owed-other laws site (settings_of owing.configs.items) owing.owed.items found owes plain-names found-folders uri
      (owed-told laws site (settings_of owing.configs.items) owing.owed.items found owes plain-names found-folders names rows same-names same-rows (Some uri) some))
