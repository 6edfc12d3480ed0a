-- What an audited set that agrees with the rows says: its keys are live, and nothing stands elsewhere.
use Rattle.std.proofs.Common.{◌≡◌, ℕ, ◌==◌, ◌&&◌, Bool, true, List, map, codes, Contains, Option, None, Some, option_map, Result, Ok, Err, refl, sym, ap, subst, ◌∙◌, eqb-true}
use Rattle.std.specs.List.{AllZip}
use Rattle.std.proofs.lemmas.Bool.{and_parts}
use Rattle.std.specs.List.{find}
use Rattle.std.proofs.lemmas.Option.{same_Some}
use Rattle.items.specs.laws.AmongLaws.{In, in-contains, found-in}
use Rattle.key_ids.specs.Uris.{Bases, anchor_uri, folder_of}
use Rattle.key_roll.specs.declared.rows.Role.TheVariants.{Current}
use Rattle.key_roll.specs.Roles.{is_role}
use Rattle.der.specs.Grammar.{AreBytes}
use Rattle.der.specs.declared.shape_fault.ShapeFault.{ShapeFault}
use Rattle.der.specs.Object.{read_object}
use Rattle.der.specs.laws.ObjectLaws.{object-taken}
use Rattle.crl_obj.specs.Values.{CrlValue, SignedCrl, are_rising}
use Rattle.crl_obj.specs.Formats.{signed_crl}
use Rattle.crl_obj.specs.laws.CrlLaws.{signed_crl-law}
use Rattle.key_roll.specs.declared.rows.KeyRow.{KeyRow}
use Rattle.key_roll.specs.declared.issued.IssuedRow.{IssuedRow}
use Rattle.pub_set.specs.declared.objects.Object.{Object}
use Rattle.pub_set.specs.Objects.{content_at}
use Rattle.rp_rules.specs.Objects.{value_in, crl_in}
use Rattle.rp_rules.specs.Certificates.{WalkContext}
use Rattle.rp_rules.specs.Walk.{Visit, Published}
use Rattle.rp_rules.specs.Accepted.{AreAccepted}
use Rattle.rp_rules.specs.Yield.{AuditedValue, PointValue, Yielded, points, yield}
use Rattle.press_records.specs.Rows.{row_value}
use Rattle.press_records.specs.Stages.{are_staged}
use Rattle.press_records.specs.Edition.{are_live}
use Rattle.press_records.specs.declared.recovered.RecoveredParts.{RecoveredParts}
use Rattle.editions.specs.PublishedState.{AreLive}
use Rattle.editions.specs.Clear.{IsClear}
use Rattle.press_core.specs.Agreement.{first_mismatch}
use Rattle.press_core.specs.Tables.{Home}
use Rattle.press_core.specs.inner.Rows.{IsRowFor}
use Rattle.press_core.specs.Loading.{anchor_of}
use Rattle.press_core.specs.inner.Resumed.{IsAuditAt, AreInFolders, IsAnchored}
use Rattle.press_core.proofs.Agreeing.{HasGoodCrl, live-rows, point-from}
use Rattle.press_core.proofs.Tabled.{object-at, row-of}
use Rattle.press_core.proofs.Clearing.{AreUriLaws, IsWalkLaw, clear}
use Rattle.press_core.proofs.Origins.{yield-in-folders}
use Rattle.press_core.proofs.Visited.{point-in, has-anchor}

-- ---- CRLs

read-so : (read : Result SignedCrl ShapeFault) (crl : SignedCrl) → value_in read ≡ Some crl → read ≡ Ok crl
read-so (Ok x) crl e = let same : x ≡ crl = cc in ap (λ (y : SignedCrl). Ok y) same
read-so (Err fault) crl e = absurd cc

crl-rises : (bytes : List ℕ) (crl : SignedCrl) → AreBytes bytes → crl_in bytes ≡ Some crl → are_rising crl.crl.entries ≡ true
unfolding signed_crl
crl-rises bytes crl fits e = (object-taken signed_crl signed_crl-law crl bytes fits (read-so (read_object signed_crl bytes) crl e)).good.crl.rising

good-crl : (homes : List Home) (s : WalkContext) (objects : List Object) (visits : List Visit) → AreAccepted s (content_at objects) visits → (issued : List IssuedRow) → AllZip (IsRowFor homes) objects issued
    → (point : PointValue) → In point (points (content_at objects) visits) → HasGoodCrl s.moment point
good-crl homes s objects visits all issued zip point at =
    let w = point-from (content_at objects) visits point at in
    let p = point-in s (content_at objects) visits all w.0 (in-contains (Published w.0) visits w.1) in
    let crl = p.1.crl in
    let o = object-at objects crl.uri crl.bytes crl.there in
    let row = row-of {homes = homes} objects issued zip o.0 o.1 in
    let fits : AreBytes crl.bytes = subst AreBytes o.3 row.2.bytes in
    subst (HasGoodCrl s.moment) w.2 (record {
      past = crl.past;
      rising = subst (λ (c : CrlValue). are_rising c.entries ≡ true) crl.is (crl-rises crl.bytes crl.signed fits crl.read);
    })

-- ---- the trust anchor's key

abbrev is_anchor : KeyRow → Bool
is_anchor row = (row.desk == 0) && is_role row.role Current

record IsAnchorRow (rows : List KeyRow) (bytes : List ℕ) : Type 0 where
  row : KeyRow
  live : Contains rows row
  desk : row.desk ≡ 0
  is : row.key.bytes ≡ bytes

anchor-row : (rows : List KeyRow) (bytes : List ℕ) → anchor_of rows ≡ Some bytes → IsAnchorRow rows bytes
anchor-row rows bytes e = by (find is_anchor rows) refl e
  where
    by : (o : Option KeyRow) → find is_anchor rows ≡ o → option_map (λ (r : KeyRow). r.key.bytes) o ≡ Some bytes → IsAnchorRow rows bytes
    by None found same = absurd cc
    by (Some row) found same =
        let at = found-in is_anchor rows row found in
        let desk = (and_parts (row.desk == 0) (is_role row.role Current) at.1).0 in
        record { row = row; live = in-contains row rows at.0; desk = eqb-true row.desk 0 desk; is = same_Some row.key.bytes bytes same }

-- ---- what was left

module _ (site : Bases) (left : RecoveredParts) (audited : AuditedValue) (walk-law : IsWalkLaw) (is : IsAuditAt site left audited) where
  pub in-folders : AreInFolders site audited.origins
  in-folders one at =
      let all = walk-law is.context left.set is.audit.visits is.audit.sound in
      let folders = subst (λ (b : Bases). AreInFolders b (yield is.audit.visits)) is.bases (yield-in-folders is.context left.set is.audit.visits all) in
      subst (λ (y : List Yielded). AreInFolders site y) (sym is.audit.origins) folders one at

  module _ (agreed : first_mismatch left.rows audited.points ≡ None) (live : are_live left.moment (map row_value left.rows) ≡ true) where
    met : first_mismatch left.rows (points (content_at left.set) is.audit.visits) ≡ None
    met = ap (first_mismatch left.rows) (sym is.audit.points) ∙ agreed

    staged : are_staged (map row_value left.rows) ≡ true
    staged = (and_parts _ _ (and_parts _ _ live).0).0

    module _ (homes : List Home) (issued : List IssuedRow) (zip : AllZip (IsRowFor homes) left.set issued) where
      pub keys-live : AreLive left.moment left.rows
      keys-live =
          let all = walk-law is.context left.set is.audit.visits is.audit.sound in
          live-rows left.moment left.rows (points (content_at left.set) is.audit.visits) live met
          (λ point at. subst (λ (m : ℕ). HasGoodCrl m point) is.moment (good-crl homes is.context left.set is.audit.visits all issued zip point at))

      -- The trust anchor's certificate names its folder.
      pub is-anchored : IsAnchored site left.rows left.set
      is-anchored =
          let s = is.context in
          let a = has-anchor s (content_at left.set) is.audit.visits is.audit.sound.walk in
          let key = anchor-row left.rows s.anchor is.anchor in
          record {
            apart = keys-live.apart;
            key = key.row;
            live = key.live;
            desk = key.desk;
            uri = anchor_uri s.bases;
            bytes = a.bytes;
            there = a.there;
            certificate = a.certificate;
            read = a.read;
            subject = a.subject ∙ sym key.is;
            folder = a.folder ∙ ap (λ (b : Bases). folder_of b (codes "ta")) is.bases;
          }

      pub is-clear : AreUriLaws → IsClear site left.rows issued
      is-clear laws = subst (λ (b : Bases). IsClear b left.rows issued) is.bases
          (clear laws walk-law is.context left.set is.audit.visits is.audit.sound left.rows met homes issued zip staged)
