-- The ROAs of owed origins, made or kept.
use Rattle.std.proofs.Common.{◌≡◌, ℕ, ◌+◌, ◌<◌, Option, None, Some, List, [], ◌∷◌, ◌++◌, length, get_or, take, append_assoc, refl, sym, ap, ◌∙◌, arith}
use Rattle.std.specs.Prelude.{slice_get, option_map, option_and_then, filter, is_none}
use Rattle.std.specs.List.{filter_map, cons_option}
use Rattle.std.proofs.lemmas.List.{take_more}
use Rattle.std.proofs.lemmas.List.Elements.{filter-append, filter_map-append}
use Rattle.authority_book.specs.declared.rows.NameRow.{NameRow}
use Rattle.entitle.specs.declared.trees.Owed.{Owed}
use Rattle.key_roll.specs.declared.work.KeyName.{KeyName}
use Rattle.key_roll.specs.declared.work.RoaWork.{RoaWork}
use Rattle.issue_plan.specs.declared.anew.Standing.{Standing}
use Rattle.issue_plan.specs.declared.keys.NextKey.{NextKey}
use Rattle.issue_plan.specs.declared.live.LiveKey.{LiveKey}
use Rattle.issue_plan.specs.declared.roas.Issuer.{Issuer}
use Rattle.issue_plan.specs.Serves.{serves_roa}
use Rattle.issue_plan.specs.Wanted.{current_of, roa_by, roa_of, wanted_roas}
use Rattle.issue_plan.specs.inner.Live.{live_at}
use Rattle.issue_plan.specs.inner.Positions.{serving_at}
use Rattle.issue_plan.specs.inner.Anew.{kept_roa}
use Rattle.issue_plan.specs.inner.OwedPlaces.{owed_position, IsIssuer}

-- Where a key of the origin's own desk issues the ROA, its place is the owed origin's.
pub kept-owed : (s : Standing) (settled : List LiveKey) (roa : RoaWork) (owed : Owed) (key : LiveKey) (row : NameRow)
    → live_at settled roa.issuer ≡ Some key → roa.origin ≡ owed.origin → key.desk ≡ owed.desk
    → slice_get s.names.now owed.desk ≡ Some row
    → kept_roa s settled roa
    ≡ option_and_then (λ p. serving_at (serves_roa s.moment roa) p (slice_get s.issued.now p)) (owed_position s owed)
kept-owed s settled roa owed key row live origin desk name = rw (live, origin, desk, name) refl

-- What is wanted for one owed origin.
wanted-one : (keys : List NextKey) (settled : List LiveKey) (issuer : Issuer) (owed : Owed)
    → IsIssuer keys settled issuer → issuer.desk ≡ owed.desk
    → wanted_roas keys (owed ∷ []) ≡ cons_option (roa_by owed issuer.name) []
wanted-one keys settled issuer owed is desk =
    ap (λ (n : Option KeyName). cons_option (roa_by owed n) []) (ap (current_of keys) (sym desk) ∙ sym is.name)

-- One owed origin more.
more-wanted : (keys : List NextKey) (settled : List LiveKey) (issuer : Issuer) (owed : List Owed) (i : ℕ) (each : Owed)
    → i < length owed → each ≡ get_or owed i each
    → IsIssuer keys settled issuer → issuer.desk ≡ each.desk
    → wanted_roas keys (take (i + 1) owed)
    ≡ wanted_roas keys (take i owed) ++ cons_option (roa_by each issuer.name) []
more-wanted keys settled issuer owed i each inside is by desk =
    ap (wanted_roas keys) (take_more owed i each inside ∙ ap (λ (o : Owed). take i owed ++ o ∷ []) (sym is))
    ∙ (filter_map-append (roa_of keys) (take i owed) (each ∷ [])
    ∙ ap (λ (l : List RoaWork). wanted_roas keys (take i owed) ++ l) (wanted-one keys settled issuer each by desk))

pub more-anew : (kept : RoaWork → Option ℕ) (keys : List NextKey) (settled : List LiveKey) (issuer : Issuer)
    (owed : List Owed) (i : ℕ) (each : Owed) (old new : List RoaWork)
    → i < length owed → each ≡ get_or owed i each
    → IsIssuer keys settled issuer → issuer.desk ≡ each.desk
    → old ≡ filter (λ roa. is_none (kept roa)) (wanted_roas keys (take i owed))
    → new ≡ old ++ filter (λ roa. is_none (kept roa)) (cons_option (roa_by each issuer.name) [])
    → new ≡ filter (λ roa. is_none (kept roa)) (wanted_roas keys (take (i + 1) owed))
more-anew kept keys settled issuer owed i each old new inside is by desk was put =
    let one : List RoaWork = cons_option (roa_by each issuer.name) [] in
    let p = λ (roa : RoaWork). is_none (kept roa) in
    put ∙ (ap (λ (l : List RoaWork). l ++ filter p one) was
    ∙ (sym (filter-append p (wanted_roas keys (take i owed)) one)
    ∙ ap (filter p) (sym (more-wanted keys settled issuer owed i each inside is by desk))))

pub more-kept : (kept : RoaWork → Option ℕ) (keys : List NextKey) (settled : List LiveKey) (issuer : Issuer)
    (owed : List Owed) (i : ℕ) (each : Owed) (first old new : List ℕ)
    → i < length owed → each ≡ get_or owed i each
    → IsIssuer keys settled issuer → issuer.desk ≡ each.desk
    → old ≡ first ++ filter_map kept (wanted_roas keys (take i owed))
    → new ≡ old ++ filter_map kept (cons_option (roa_by each issuer.name) [])
    → new ≡ first ++ filter_map kept (wanted_roas keys (take (i + 1) owed))
more-kept kept keys settled issuer owed i each first old new inside is by desk was put =
    let one : List RoaWork = cons_option (roa_by each issuer.name) [] in
    put ∙ (ap (λ (l : List ℕ). l ++ filter_map kept one) was
    ∙ (append_assoc first (filter_map kept (wanted_roas keys (take i owed))) (filter_map kept one)
    ∙ ap (λ (l : List ℕ). first ++ l)
    (sym (filter_map-append kept (wanted_roas keys (take i owed)) one)
    ∙ ap (filter_map kept) (sym (more-wanted keys settled issuer owed i each inside is by desk)))))
