use Rattle.std.proofs.Common.{◌≡◌, ℕ, List, map, Option, Some, sym, ap, subst, ◌∙◌, arith}
use Rattle.std.specs.Prelude.{Err}
use Rattle.std.proofs.lemmas.Result.{err_from_is_err_and}
use Rattle.key_roll.specs.declared.rows.KeyRow.{KeyRow}
use Rattle.pub_set.specs.declared.steps.Change.{Change}
use Rattle.pub_set.specs.declared.objects.Object.{Object}
use Rattle.pub_set.specs.Changes.{Contents, after_all}
use Rattle.record_forms.specs.Forms.{read_whole}
use Rattle.record_forms.specs.Outcome.{Gives}
use Rattle.press_records.specs.Rows.{row_value}
use Rattle.press_records.specs.Edition.{EditionValue, StandingValue, Fields, edition_told, editions, carried_out}
use Rattle.press_records.specs.Views.{RecoveredValue, standing_value, edition_value, recovered_standing}
use Rattle.press_records.specs.declared.edition.ReadEdition.{ReadEdition}
use Rattle.press_records.specs.inner.Taking.{Front, edition_fronts, front_value, fields_with}
use Rattle.press_records.proofs.Leading.{front-fails, changes-fail, told-fails, told-whole, none-left, at-the-end, told-changes}
use Rattle.press_records.proofs.recovered.Recovered.take_whole.Goals as goal

-- What is told of the fields as they were put together is told of what was read.
told-same : (before stands : StandingValue) (fields wanted : Fields) → edition_told stands wanted ≡ edition_told before wanted → fields ≡ wanted
    → (r : Option EditionValue) → edition_told stands fields ≡ r → edition_told before wanted ≡ r
told-same before stands fields wanted same is r e = sym same ∙ ap (edition_told stands) (sym is) ∙ e

-- What stands, by its parts.
abbrev parts : ℕ → ℕ → List ℕ → List KeyRow → List Object → RecoveredValue
parts serial moment cut rows set = record { serial = serial; moment = moment; cut = cut; rows = map row_value rows; objects = set }

pub returns-in_err-front-clause-told : goal.returns-in_err-front-clause-told
returns-in_err-front-clause-told c =
    let p = err_from_is_err_and c.from_residual.result c.from_residual.ensures.1 in
    rw (p.1, p.2)
    (front-fails {X = Front × List ℕ} (λ x. x) (recovered_standing c.args.self.now) (standing_value c.standing.result) c.args.bytes.now
    c.in_err-front.field-0.0 c.standing.ensures c.in_err-front.ensures)

pub returns-in_err-changes-clause-told : goal.returns-in_err-changes-clause-told
returns-in_err-changes-clause-told c =
    let inner = parts c.self.inside.serial c.self.inside.moment c.self.inside.cut c.self.inside.rows c.self.inside.set in
    let was : inner ≡ c.args.self.now = c.self.view_is in
    let before = recovered_standing inner in
    let bytes = c.args.bytes.now in
    let x = front_value c.in_ok-front.front in
    let rest = c.in_ok-front.rest.now in
    let fault = c.in_err-changes.field-0.0 in
    let p = err_from_is_err_and c.from_residual-in_err-changes.result c.from_residual-in_err-changes.ensures.1 in
    let first : (edition_fronts before).read bytes ≡ Some (x, rest) =
    subst (λ (s : StandingValue). (edition_fronts s).read bytes ≡ Some (x, rest)) (c.standing.ensures ∙ ap recovered_standing (sym was)) c.in_ok-front.ensures in
    rw (p.1, p.2)
    (subst (λ (v : RecoveredValue). Gives {X = ReadEdition} edition_value (Err fault) (read_whole (editions (recovered_standing v)) bytes)) was
    (changes-fail before bytes x rest fault (omega (arith, c.if-bytes.false)) first c.in_err-changes.ensures.none))

pub returns-in_err-edition-clause-told : goal.returns-in_err-edition-clause-told
returns-in_err-edition-clause-told c =
    let inner = parts c.self.inside.serial c.self.inside.moment c.self.inside.cut c.self.inside.rows c.self.inside.set in
    let was : inner ≡ c.args.self.now = c.self.view_is in
    let before = recovered_standing inner in
    let bytes = c.args.bytes.now in
    let x = front_value c.in_ok-front.front in
    let rest = c.in_ok-front.rest.now in
    let all = c.in_ok-changes.changes.items in
    let end = c.in_ok-changes.left.now in
    let fault = c.in_err-edition.field-0.0 in
    let p = err_from_is_err_and c.from_residual-in_err-edition.result c.from_residual-in_err-edition.ensures.1 in
    let first : (edition_fronts before).read bytes ≡ Some (x, rest) =
    subst (λ (s : StandingValue). (edition_fronts s).read bytes ≡ Some (x, rest)) (c.standing.ensures ∙ ap recovered_standing (sym was)) c.in_ok-front.ensures in
    let gives : Gives {X = ReadEdition} edition_value (Err fault) (edition_told (standing_value c.standing-2.result) (fields_with x all)) =
    subst (λ (y : Fields). Gives {X = ReadEdition} edition_value (Err fault) (edition_told (standing_value c.standing-2.result) y)) c.edition_behind.ensures
    c.in_err-edition.ensures in
    rw (p.1, p.2)
    (subst (λ (v : RecoveredValue). Gives {X = ReadEdition} edition_value (Err fault) (read_whole (editions (recovered_standing v)) bytes)) was
    (told-fails before bytes x rest all end fault (omega (arith, c.if-bytes.false)) first c.in_ok-changes.ensures.taken.read
    (subst (λ (s : StandingValue). Gives {X = ReadEdition} edition_value (Err fault) (edition_told s (fields_with x all))) c.standing-2.ensures gives)))

pub returns-then-not-is_empty-clause-told : goal.returns-then-not-is_empty-clause-told
returns-then-not-is_empty-clause-told c =
    let inner = parts c.self.inside.serial c.self.inside.moment c.self.inside.cut c.self.inside.rows c.self.inside.set in
    let was : inner ≡ c.args.self.now = c.self.view_is in
    let before = recovered_standing inner in
    let bytes = c.args.bytes.now in
    let x = front_value c.in_ok-front.front in
    let rest = c.in_ok-front.rest.now in
    let all = c.in_ok-changes.changes.items in
    let end = c.in_ok-changes.left.now in
    let first : (edition_fronts before).read bytes ≡ Some (x, rest) =
    subst (λ (s : StandingValue). (edition_fronts s).read bytes ≡ Some (x, rest)) (c.standing.ensures ∙ ap recovered_standing (sym was)) c.in_ok-front.ensures in
    let edition = edition_value c.in_ok-edition.edition in
    let told : edition_told before (fields_with x all) ≡ Some edition =
    told-same before (standing_value c.standing-2.result) _ (fields_with x all)
    (ap (λ (s : StandingValue). edition_told s (fields_with x all)) c.standing-2.ensures) c.edition_behind.ensures (Some edition) c.in_ok-edition.ensures in
    ap (λ (v : RecoveredValue). read_whole (editions (recovered_standing v)) bytes) (sym was)
    ∙ told-whole before bytes x rest all end edition (omega (arith, c.if-bytes.false)) first c.in_ok-changes.ensures.taken.read told
    ∙ none-left edition end c.is_empty.result c.is_empty.ensures c.if-not-is_empty.true

pub returns-clause-told : goal.returns-clause-told
returns-clause-told c =
    let inner = parts c.self.inside.serial c.self.inside.moment c.self.inside.cut c.self.inside.rows c.self.inside.set in
    let was : inner ≡ c.args.self.now = c.self.view_is in
    let before = recovered_standing inner in
    let bytes = c.args.bytes.now in
    let x = front_value c.in_ok-front.front in
    let rest = c.in_ok-front.rest.now in
    let all = c.in_ok-changes.changes.items in
    let end = c.in_ok-changes.left.now in
    let first : (edition_fronts before).read bytes ≡ Some (x, rest) =
    subst (λ (s : StandingValue). (edition_fronts s).read bytes ≡ Some (x, rest)) (c.standing.ensures ∙ ap recovered_standing (sym was)) c.in_ok-front.ensures in
    let edition = edition_value c.in_ok-edition.edition in
    let told : edition_told before (fields_with x all) ≡ Some edition =
    told-same before (standing_value c.standing-2.result) _ (fields_with x all)
    (ap (λ (s : StandingValue). edition_told s (fields_with x all)) c.standing-2.ensures) c.edition_behind.ensures (Some edition) c.in_ok-edition.ensures in
    ap (λ (v : RecoveredValue). read_whole (editions (recovered_standing v)) bytes) (sym was)
    ∙ told-whole before bytes x rest all end edition (omega (arith, c.if-bytes.false)) first c.in_ok-changes.ensures.taken.read told
    ∙ at-the-end edition end c.is_empty.result c.is_empty.ensures c.if-not-is_empty.false

pub returns-clause-carried : goal.returns-clause-carried
returns-clause-carried c =
    let inner = parts c.self.inside.serial c.self.inside.moment c.self.inside.cut c.self.inside.rows c.self.inside.set in
    let was : inner ≡ c.args.self.now = c.self.view_is in
    let before = recovered_standing inner in
    let x = front_value c.in_ok-front.front in
    let all = c.in_ok-changes.changes.items in
    let edition = edition_value c.in_ok-edition.edition in
    let told : edition_told before (fields_with x all) ≡ Some edition =
    told-same before (standing_value c.standing-2.result) _ (fields_with x all)
    (ap (λ (s : StandingValue). edition_told s (fields_with x all)) c.standing-2.ensures) c.edition_behind.ensures (Some edition) c.in_ok-edition.ensures in
    ap (λ (set : Contents). record before { set = set })
    (c.in_ok-changes.ensures.taken.led ∙ ap (λ (l : List Change). after_all before.set l) (told-changes before x all edition told))
    ∙ ap (λ (v : RecoveredValue). carried_out (recovered_standing v) edition) was
