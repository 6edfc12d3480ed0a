-- What agreed rows say of the keys that are live.
use Rattle.std.proofs.Common.{◌≡◌, ◌≢◌, ℕ, ◌≤◌, ◌&&◌, ◌||◌, ◌==◌, nat_lt, nat_le, Bool, true, false, not, cond, List, [], ◌∷◌, map, Option, None, Some, refl, sym, subst, ◌∙◌, inl, inr, eqb-true, leb-true}
use Rattle.std.specs.List.{list_all, list_any}
use Rattle.std.specs.Str.{bytes_eq}
use Rattle.std.proofs.lemmas.Bool.{and_parts, and_from, false≢true}
use Rattle.std.proofs.lemmas.Slice.Eq.{bytes_eq-Decides}
use Rattle.items.specs.laws.AmongLaws.{In, all-in, in-any, flat-map-in, in-flat-map}
use Rattle.items.specs.laws.PairLaws.{Each, Twos, twos-pairs}
use Rattle.der.specs.Forms.{AreAll}
use Rattle.key_roll.specs.declared.rows.KeyRow.{KeyRow}
use Rattle.key_roll.specs.declared.rows.RevokedRow.{RevokedRow}
use Rattle.crl_obj.specs.declared.values.CrlEntry.{CrlEntry}
use Rattle.crl_obj.specs.Values.{are_rising, rise_above}
use Rattle.pub_set.specs.Changes.{Contents}
use Rattle.rp_rules.specs.Points.{Point}
use Rattle.rp_rules.specs.Walk.{Visit, Certificate, Published, Route}
use Rattle.rp_rules.specs.Yield.{PointValue, point_value, point_of, points}
use Rattle.issue_values.specs.Bodies.{crl_entry, AreRevoked}
use Rattle.issue_keys.specs.Keys.{id_of}
use Rattle.press_records.specs.Rows.{row_value}
use Rattle.press_records.specs.Edition.{first_moment, is_counted, are_past, is_settled, are_apart, are_live}
use Rattle.press_records.specs.Edition as records
use Rattle.editions.specs.PublishedState.{AreLive}
use Rattle.press_core.specs.Agreement.{mismatch, first_other, crl_mismatch, greatest_known, differs, or_else, first_told, differs_here, has_point, row_mismatch, has_row, point_mismatch, first_mismatch}

-- ---- what isn't told

or-none : {X : Type 0} (a b : Option X) → or_else a b ≡ None → (a ≡ None) × (b ≡ None)
or-none None b e = (refl, e)
or-none (Some x) b e = absurd cc

none-told : {X Y : Type 0} (told : X → Option Y) (xs : List X) (x : X) → first_told told xs ≡ None → In x xs → told x ≡ None
none-told told [] x e at = absurd at
none-told told (y ∷ ys) x e (inl same) = subst (λ z. told z ≡ None) same (or-none (told y) (first_told told ys) e).0
none-told told (y ∷ ys) x e (inr at) = none-told told ys x (or-none (told y) (first_told told ys) e).1 at

-- Of a choice that tells nothing the other side was taken, or that one told nothing.
then-some : {X : Type 0} (b : Bool) (x : X) (o : Option X) → cond b (Some x) o ≡ None → (b ≡ false) × (o ≡ None)
then-some true x o e = absurd cc
then-some false x o e = (refl, e)

else-some : {X : Type 0} (b : Bool) (x : X) (o : Option X) → cond b o (Some x) ≡ None → (b ≡ true) × (o ≡ None)
else-some true x o e = (refl, e)
else-some false x o e = absurd cc

then-none : {X : Type 0} (b : Bool) (o : Option X) → cond b o None ≡ None → b ≡ true → o ≡ None
then-none true o e is = e
then-none false o e is = absurd (false≢true is)

not-false : (b : Bool) → not b ≡ false → b ≡ true
not-false true e = refl
not-false false e = absurd (false≢true (sym e))

-- ---- a row and its point

-- They agree, field by field.
pub record Agrees (row : KeyRow) (point : PointValue) : Type 0 where
  pub number : row.number ≡ point.number
  pub this_update : row.this_update ≡ point.this_update
  pub crl : first_other row.revoked point.crl ≡ None

no-crl : (key : List ℕ) (o : Option (ℕ × ℕ)) → crl_mismatch key o ≡ None → o ≡ None
no-crl key None e = refl
no-crl key (Some x) e = absurd cc

agrees : (row : KeyRow) (point : PointValue) → differs row point ≡ None → Agrees row point
agrees row point e =
    let number = then-some (not (row.number == point.number)) _ _ e in
    let time = then-some (not (row.this_update == point.this_update)) _ _ number.1 in
    let made = then-some (not (row.this_update == point.manifest_update)) _ _ time.1 in
    let serial = then-some (not (nat_lt (greatest_known point) row.next_serial)) _ _ made.1 in
    record {
      number = eqb-true row.number point.number (not-false (row.number == point.number) number.0);
      this_update = eqb-true row.this_update point.this_update (not-false (row.this_update == point.this_update) time.0);
      crl = no-crl row.key.bytes (first_other row.revoked point.crl) serial.1;
    }

-- Each row has a point of its key, with which it agrees.
pub record HasItsPoint (points : List PointValue) (row : KeyRow) : Type 0 where
  pub point : PointValue
  pub among : In point points
  pub key : point.key ≡ row.key.bytes
  pub agrees : Agrees row point

pub row-agrees : (rows : List KeyRow) (points : List PointValue) → first_mismatch rows points ≡ None → (row : KeyRow) → In row rows → HasItsPoint points row
row-agrees rows points e row at =
    let none = none-told (row_mismatch points) rows row (or-none (first_told (row_mismatch points) rows) (first_told (point_mismatch rows) points) e).0 at in
    let has = else-some (has_point points row) _ _ none in
    let w = in-any (λ (point : PointValue). bytes_eq point.key row.key.bytes) points has.0 in
    let same = none-told (differs_here row) points w.0 has.1 w.1 in
    record {
      point = w.0;
      among = w.1;
      key = (bytes_eq-Decides w.0.key row.key.bytes).0 w.2;
      agrees = agrees row w.0 (then-none (bytes_eq w.0.key row.key.bytes) (differs row w.0) same w.2);
    }

pub row-of-point : (rows : List KeyRow) (points : List PointValue) → first_mismatch rows points ≡ None → (point : PointValue) → In point points
    → (row : KeyRow) × In row rows × (row.key.bytes ≡ point.key)
row-of-point rows points e point at =
    let none = none-told (point_mismatch rows) points point (or-none (first_told (row_mismatch points) rows) (first_told (point_mismatch rows) points) e).1 at in
    let w = in-any (λ (row : KeyRow). bytes_eq row.key.bytes point.key) rows (has-one (has_row rows point) none) in
    (w.0, w.1, (bytes_eq-Decides w.0.key.bytes point.key).0 w.2)
  where
    has-one : (b : Bool) → cond b None (Some (mismatch point.key 0 0 point.number)) ≡ None → b ≡ true
    has-one true h = refl
    has-one false h = absurd cc

-- ---- points of visits

pub point-among : (held : Contents) (visits : List Visit) (p : Point) → In (Published p) visits → In (point_value held p) (points held visits)
point-among held visits p at = in-flat-map (point_of held) (Published p) (point_value held p) visits at (inl refl)

pub point-from : (held : Contents) (visits : List Visit) (point : PointValue) → In point (points held visits)
    → (p : Point) × In (Published p) visits × (point_value held p ≡ point)
point-from held visits point at =
    let w = flat-map-in (point_of held) point visits at in
    by w.0 w.1 w.2
  where
    by : (visit : Visit) → In visit visits → In point (point_of held visit) → (p : Point) × In (Published p) visits × (point_value held p ≡ point)
    by (Certificate a) here none = absurd none
    by (Published p) here (inl same) = (p, here, same)
    by (Published p) here (inr none) = absurd none
    by (Route a uri roa) here none = absurd none

-- ---- live keys

-- Serials that are the same rise alike.
rise-alike : (n : ℕ) (rows : List RevokedRow) (entries : List CrlEntry) → first_other rows entries ≡ None → rise_above n entries ≡ true → rise_above n (map crl_entry rows) ≡ true
rise-alike n [] entries none e = refl
rise-alike n (row ∷ rows) [] none e = absurd cc
rise-alike n (row ∷ rows) (entry ∷ entries) none e =
    let one = else-some (row.serial == entry.serial) _ _ none in
    let same : row.serial ≡ entry.serial = eqb-true row.serial entry.serial one.0 in
    let parts = and_parts (nat_lt n entry.serial) (rise_above entry.serial entries) e in
    let rest = rise-alike entry.serial rows entries one.1 parts.1 in
    subst (λ (k : ℕ). (nat_lt n k && rise_above k (map crl_entry rows)) ≡ true) (sym same) (and_from (nat_lt n entry.serial) (rise_above entry.serial (map crl_entry rows)) parts.0 rest)

rising-alike : (rows : List RevokedRow) (entries : List CrlEntry) → first_other rows entries ≡ None → are_rising entries ≡ true → are_rising (map crl_entry rows) ≡ true
rising-alike [] entries none e = refl
rising-alike (row ∷ rows) [] none e = absurd cc
rising-alike (row ∷ rows) (entry ∷ entries) none e =
    let one = else-some (row.serial == entry.serial) _ _ none in
    let same : row.serial ≡ entry.serial = eqb-true row.serial entry.serial one.0 in
    subst (λ (k : ℕ). rise_above k (map crl_entry rows) ≡ true) (sym same) (rise-alike entry.serial rows entries one.1 e)

past-all : (moment : ℕ) (rows : List RevokedRow) → list_all (λ entry. nat_le first_moment entry.revoked_at && nat_le entry.revoked_at moment) rows ≡ true
    → AreAll (λ row. (946_684_800 ≤ row.revoked_at) × (row.revoked_at ≤ moment)) rows
past-all moment [] e = tt
past-all moment (row ∷ rows) e =
    let one = and_parts _ _ e in
    let both = and_parts (nat_le first_moment row.revoked_at) (nat_le row.revoked_at moment) one.0 in
    ((leb-true first_moment row.revoked_at both.0, leb-true row.revoked_at moment both.1), past-all moment rows one.1)

settled-row : (moment : ℕ) (rows : List KeyRow) (row : KeyRow) → list_all (is_settled moment) (map row_value rows) ≡ true → In row rows → is_settled moment (row_value row) ≡ true
settled-row moment [] row e at = absurd at
settled-row moment (r ∷ rs) row e (inl same) = subst (λ (k : KeyRow). is_settled moment (row_value k) ≡ true) same (and_parts (is_settled moment (row_value r)) (list_all (is_settled moment) (map row_value rs)) e).0
settled-row moment (r ∷ rs) row e (inr at) = settled-row moment rs row (and_parts (is_settled moment (row_value r)) (list_all (is_settled moment) (map row_value rs)) e).1 at

apart-from : (id : List ℕ) (rows : List KeyRow) → not (list_any (bytes_eq id) (map records.id_of (map row_value rows))) ≡ true → Each (λ (row : KeyRow). id ≢ id_of row) rows
apart-from id [] e = tt
apart-from id (row ∷ rows) e = by (apart-from id rows) (bytes_eq id (id_of row)) refl e
  where
    by : (not (list_any (bytes_eq id) (map records.id_of (map row_value rows))) ≡ true → Each (λ (r : KeyRow). id ≢ id_of r) rows)
        → (b : Bool) → bytes_eq id (id_of row) ≡ b → not (b || list_any (bytes_eq id) (map records.id_of (map row_value rows))) ≡ true → Each (λ (r : KeyRow). id ≢ id_of r) (row ∷ rows)
    by rest true is h = absurd (false≢true h)
    by rest false is h = (λ same. false≢true (sym is ∙ (bytes_eq-Decides id (id_of row)).1 same), rest h)

all-apart : (rows : List KeyRow) → are_apart (map records.id_of (map row_value rows)) ≡ true → Twos (λ a b. id_of a ≢ id_of b) rows
all-apart [] e = tt
all-apart (row ∷ rows) e =
    let one = and_parts (not (list_any (bytes_eq (id_of row)) (map records.id_of (map row_value rows)))) (are_apart (map records.id_of (map row_value rows))) e in
    (apart-from (id_of row) rows one.0, all-apart rows one.1)

-- Live keys, where each row's point has a CRL with rising serials that is of that moment.
pub record HasGoodCrl (moment : ℕ) (point : PointValue) : Type 0 where
  pub past : point.this_update ≤ moment
  pub rising : are_rising point.crl ≡ true

pub live-rows : (moment : ℕ) (rows : List KeyRow) (points : List PointValue) → are_live moment (map row_value rows) ≡ true → first_mismatch rows points ≡ None
    → ((point : PointValue) → In point points → HasGoodCrl moment point) → AreLive moment rows
live-rows moment rows points live e good =
    let apart = and_parts _ _ live in
    let settled = (and_parts _ _ apart.0).1 in
    record {
      apart = twos-pairs (λ (a b : KeyRow). id_of a ≢ id_of b) rows (all-apart rows apart.1);
      revoked = all-in (λ (row : KeyRow). AreRevoked moment row.revoked) rows (λ row at.
          let has = row-agrees rows points e row at in
          record {
            rising = rising-alike row.revoked has.point.crl has.agrees.crl (good has.point has.among).rising;
            dated = past-all moment row.revoked (and_parts (is_counted (row_value row)) (are_past moment (row_value row)) (settled-row moment rows row settled at)).1;
          });
      dated = all-in (λ (row : KeyRow). row.this_update ≤ moment) rows (λ row at.
          let has = row-agrees rows points e row at in
          subst (λ (t : ℕ). t ≤ moment) (sym has.agrees.this_update) (good has.point has.among).past);
    }
