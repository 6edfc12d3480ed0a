-- Rows that come and go, two at once.
use Rattle.std.proofs.Common.{◌≡◌, ℕ, ◌<◌, ◌≤◌, suc, true, false, cond, refl, sym, subst, ◌∙◌, ap, arith, List, [], ◌∷◌, Some, None}
use Rattle.std.specs.Prelude.{Option, Ok, Err, insert, remove}
use Rattle.std.specs.declared.cmp.Ordering.TheVariants.{Less}
use Rattle.key_roll.specs.declared.issued.IssuedRow.{IssuedRow}
use Rattle.pub_set.specs.Objects.{uri_cmp, is_same, Rise}
use Rattle.pub_set.specs.laws.UriLaws.{same_is, other_above}
use Rattle.pub_set.specs.laws.LookupLaws.{rise-head, rise-tail, rise-cons}
use Rattle.editions.specs.declared.standing.NextRow.{NextRow}
use Rattle.editions.specs.declared.standing.NextRow.TheVariants.{Issued, Gone}
use Rattle.editions.specs.Joining.{at_uri}
use Rattle.editions.specs.Standing.{row_at, next_uri, next_row}
use Rattle.editions.specs.inner.RowPlaces.{IsRowPlace, IsExchanged, IsPutBehind}
use Rattle.editions.proofs.StateLemmas.InPlace.{row_in, row_out, coming_next}
use Rattle.editions.proofs.StateLemmas.Shifts.{before_insert, behind_insert, length-insert}
use Rattle.editions.proofs.StateLemmas.Tabled.{row_uri, IsComing}

-- ---- a row goes where another comes

pub exchanged_up : (rows new : List IssuedRow) (from to : ℕ) (gone : List ℕ) (row : IssuedRow) → Rise row_uri rows →
    IsRowPlace rows gone (Ok from) → IsRowPlace rows row.uri (Err to) → from < to → new ≡ remove (insert rows to row) from →
    IsExchanged rows gone row new
exchanged_up rows new from to gone row up there place below is =
    let came : IsComing rows (Issued row ∷ []) (insert rows to row) = row_in rows to row up place in record {
      with = insert rows to row;
      came = came;
      went = subst (λ (l : List IssuedRow). IsComing (insert rows to row) (Gone gone ∷ []) l) (sym is)
          (row_out (insert rows to row) from row gone came.rising (
            omega (arith, length-insert rows to row place.0, there.0),
            λ d. ap (λ (x : IssuedRow). x.uri) (before_insert rows to from row d below place.0) ∙ there.1 d,
          ));
    }

pub exchanged_down : (rows new : List IssuedRow) (from to : ℕ) (gone : List ℕ) (row : IssuedRow) → Rise row_uri rows →
    IsRowPlace rows gone (Ok from) → IsRowPlace rows row.uri (Err to) → to ≤ from → new ≡ remove (insert rows to row) (suc from) →
    IsExchanged rows gone row new
exchanged_down rows new from to gone row up there place above is =
    let came : IsComing rows (Issued row ∷ []) (insert rows to row) = row_in rows to row up place in record {
      with = insert rows to row;
      came = came;
      went = subst (λ (l : List IssuedRow). IsComing (insert rows to row) (Gone gone ∷ []) l) (sym is)
          (row_out (insert rows to row) (suc from) row gone came.rising (
            omega (arith, length-insert rows to row place.0, there.0),
            λ d. ap (λ (x : IssuedRow). x.uri) (behind_insert rows to from row d above there.0) ∙ there.1 d,
          ));
    }

-- ---- what is left to come

-- The second is carried out, and the first waits.
coming_second : (old new : List IssuedRow) (first next : NextRow) (rest : List NextRow) → Rise next_uri (first ∷ next ∷ rest) → IsComing old (next ∷ []) new →
    (at : List ℕ) → next_row (row_at new at) (at_uri next_uri (first ∷ rest) at) ≡ next_row (row_at old at) (at_uri next_uri (first ∷ next ∷ rest) at)
coming_second old new first next rest up one at =
    elim (is_same (next_uri first) at) as (λ b. is_same (next_uri first) at ≡ b →
    next_row (row_at new at) (cond b (Some first) (at_uri next_uri rest at)) ≡ next_row (row_at old at) (cond b (Some first) (at_uri next_uri (next ∷ rest) at))) [
      | true ↦ λ same.
          let here : next_uri first ≡ at = same_is (next_uri first) at same in
          let above : uri_cmp (next_uri first) (next_uri next) ≡ Less = (rise-head next_uri first (next ∷ rest) up).0 in
          let other : is_same (next_uri next) at ≡ false = rw (← here) (other_above (next_uri next) (next_uri first) above) in
          let stays : row_at new at ≡ row_at old at = one.each at ∙ ap (λ b. next_row (row_at old at) (cond b (Some next) None)) other in
          ap (λ (row : Option IssuedRow). next_row row (Some first)) stays
      | false ↦ λ other. coming_next old new next rest (rise-tail next_uri first (next ∷ rest) up) one at
    ] refl

without_second : (first next : NextRow) (rest : List NextRow) → Rise next_uri (first ∷ next ∷ rest) → Rise next_uri (first ∷ rest)
without_second first next rest up =
    rise-cons next_uri first rest (rise-head next_uri first (next ∷ rest) up).1
    (rise-tail next_uri next rest (rise-tail next_uri first (next ∷ rest) up))

-- What comes is carried out, and what waits does on.
pub put_beside : (old new : List IssuedRow) (waits : Option NextRow) (one : NextRow) → IsComing old (one ∷ []) new → IsPutBehind old waits one new waits
put_beside old new None one put = record {
  rising = put.rising;
  order = λ rest up. rise-tail next_uri one rest up;
  each = λ rest up at. coming_next old new one rest up put at;
}
put_beside old new (Some first) one put = record {
  rising = put.rising;
  order = λ rest up. without_second first one rest up;
  each = λ rest up at. coming_second old new first one rest up put at;
}

-- What waits is carried out, and what comes waits.
pub put_first : (old new : List IssuedRow) (first one : NextRow) → IsComing old (first ∷ []) new → IsPutBehind old (Some first) one new (Some one)
put_first old new first one put = record {
  rising = put.rising;
  order = λ rest up. rise-tail next_uri first (one ∷ rest) up;
  each = λ rest up at. coming_next old new first (one ∷ rest) up put at;
}

-- Both are carried out.
pub gone_first : (old new : List IssuedRow) (gone : List ℕ) (row : IssuedRow) → IsExchanged old gone row new →
    IsPutBehind old (Some (Gone gone)) (Issued row) new None
gone_first old new gone row is = record {
  rising = is.went.rising;
  order = λ rest up. rise-tail next_uri (Issued row) rest (rise-tail next_uri (Gone gone) (Issued row ∷ rest) up);
  each = λ rest up at.
      coming_next is.with new (Gone gone) rest (without_second (Gone gone) (Issued row) rest up) is.went at
      ∙ coming_second old is.with (Gone gone) (Issued row) rest up is.came at;
}

pub issued_first : (old new : List IssuedRow) (gone : List ℕ) (row : IssuedRow) → IsExchanged old gone row new →
    IsPutBehind old (Some (Issued row)) (Gone gone) new None
issued_first old new gone row is = record {
  rising = is.went.rising;
  order = λ rest up. rise-tail next_uri (Gone gone) rest (rise-tail next_uri (Issued row) (Gone gone ∷ rest) up);
  each = λ rest up at.
      coming_next is.with new (Gone gone) rest (rise-tail next_uri (Issued row) (Gone gone ∷ rest) up) is.went at
      ∙ coming_next old is.with (Issued row) (Gone gone ∷ rest) up is.came at;
}
