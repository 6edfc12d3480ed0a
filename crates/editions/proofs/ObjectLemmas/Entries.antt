-- The entries of an edition's CRLs are those that the rows and the table tell.
use Rattle.std.proofs.Common.{◌≡◌, ℕ, Bool, true, false, cond, not, ◌&&◌, ◌||◌, ◌==◌, nat_le, Option, Some, None, List, [], ◌∷◌, ◌++◌, map, filter, get_or, refl, sym, ap, subst, ◌∙◌, arith}
use Rattle.std.specs.Prelude.{Contains, option_map, is_some}
use Rattle.std.specs.List.{list_any}
use Rattle.std.specs.Str.{bytes_eq}
use Rattle.std.proofs.lemmas.Bool.{true≢false, le-leb}
use Rattle.std.proofs.lemmas.List.{append-nil}
use Rattle.std.proofs.lemmas.Bool.Decides.{same_from_decides}
use Rattle.std.proofs.lemmas.List.Elements.{All-contains, Contains-get_or, filter_agree}
use Rattle.std.proofs.lemmas.List.Folds.{list_any-append}
use Rattle.std.proofs.lemmas.List.Sorted.{list_any-IsPermutation}
use Rattle.std.proofs.lemmas.Slice.Eq.{bytes_eq-Decides}
use Rattle.sha2.specs.Sha256.{sha256}
use Rattle.key_ids.specs.Uris.{anchor_uri}
use Rattle.key_roll.specs.declared.rows.KeyRow.{KeyRow}
use Rattle.key_roll.specs.declared.rows.RevokedRow.{RevokedRow}
use Rattle.key_roll.specs.declared.issued.IssuedRow.{IssuedRow}
use Rattle.key_roll.specs.declared.work.Work.{Work}
use Rattle.pub_set.specs.declared.steps.Change.{Change}
use Rattle.pub_set.specs.declared.steps.Change.TheVariants.{Withdraw}
use Rattle.pub_set.specs.Objects.{is_same, found_at}
use Rattle.pub_set.specs.Changes.{Contents, change_at}
use Rattle.issue_plan.specs.Wanted.{PlanInput}
use Rattle.issue_keys.specs.Keys.{id_of}
use Rattle.issue_drafts.specs.WorkKeys.{all_keys}
use Rattle.issue_drafts.specs.IssueInput.{IssueInput}
use Rattle.issue_drafts.specs.Drafts.{Draft, manifests}
use Rattle.issue_drafts.specs.laws.UriOrder.{same-decides}
use Rattle.issue_sign.specs.Objects.{Signed}
use Rattle.issue_drafts.specs.Revoking.{revoked_row, has_point, is_listed, is_superseded, is_touched}
use Rattle.issue_drafts.specs.Revoking as lists
use Rattle.issue_make.specs.Trace.{IssuingTrace, IsIssuingTrace, all_of, puts_of, made_of, hash_at, put_of, withdrawal_at, or_else, wanted_at}
use Rattle.issue_drafts.specs.Firsts.{AreFirsts}
use Rattle.editions.specs.Table.{IsTable}
use Rattle.editions.specs.Wanted.{keeps_point}
use Rattle.crl_obj.specs.Values.{are_rising}
use Rattle.issue_values.specs.Bodies.{crl_entry}
use Rattle.editions.specs.inner.ByRows.{is_ended, with_ended, candidates, AreListed}
use Rattle.editions.specs.inner.PlanAndTable.{made_from, AreOfPlan}
use Rattle.items.specs.laws.ElementLaws.{here, there, filter-none, filter-all}
use Rattle.editions.proofs.ObjectLemmas.Firsts.{firsts-same}
use Rattle.editions.proofs.ObjectLemmas.Tables.{ends}
use Rattle.editions.proofs.ObjectLemmas.Changing.{hash-is}

filter-agree-in : {X : Type 0} (p q : X → Bool) (xs : List X)
    → ((x : X) → Contains xs x → p x ≡ q x) → filter p xs ≡ filter q xs
filter-agree-in p q [] same = refl
filter-agree-in {X} p q (x ∷ xs) same =
    ap (λ (b : Bool). cond b (x ∷ filter p xs) (filter p xs)) (same x (here x xs))
    ∙ ap (λ (l : List X). cond (q x) (x ∷ l) l)
    (filter-agree-in p q xs (λ y c. same y (there x xs y c)))

same-test : (a b : List ℕ) → is_same a b ≡ bytes_eq a b
same-test a b = same_from_decides (is_same a b) (bytes_eq a b) (same-decides a b) (bytes_eq-Decides a b)

found-any : {X V : Type 0} (key : X → List ℕ) (told : X → V) (xs : List X) (uri : List ℕ)
    → is_some (found_at key told xs uri) ≡ list_any (λ x. bytes_eq (key x) uri) xs
found-any key told [] uri = refl
found-any {X} {V} key told (x ∷ xs) uri =
    by (is_same (key x) uri) (found-any key told xs uri)
    ∙ ap (λ (b : Bool). b || list_any (λ y. bytes_eq (key y) uri) xs) (same-test (key x) uri)
  where
    by : (b : Bool) → is_some (found_at key told xs uri) ≡ list_any (λ y. bytes_eq (key y) uri) xs
        → is_some (cond b (Some (told x)) (found_at key told xs uri))
        ≡ (b || list_any (λ y. bytes_eq (key y) uri) xs)
    by true rest = refl
    by false rest = rest

any-map : {X Y : Type 0} (f : X → Y) (p : Y → Bool) (xs : List X)
    → list_any p (map f xs) ≡ list_any (λ x. p (f x)) xs
any-map f p [] = refl
any-map f p (x ∷ xs) = ap (λ (b : Bool). p (f x) || b) (any-map f p xs)

either-some : {X : Type 0} (a b : Option X) → is_some (or_else a b) ≡ (is_some a || is_some b)
either-some None b = refl
either-some (Some x) b = refl

module _ (plan_input : PlanInput) (work : Work) (trace : IssuingTrace) (old : Contents)
    (changes : List Change) (plan : AreOfPlan plan_input work trace.keys)
    (is : IsIssuingTrace (made_from plan_input work) plan_input.basis.rows trace)
    (table : IsTable old plan_input.issued)
    (each : (uri : List ℕ) → change_at changes uri ≡ wanted_at (made_from plan_input work) trace uri)
  where
    abbrev s : IssueInput
    s = made_from plan_input work

    -- An object is put at the URI.
    puts-there : (uri : List ℕ)
        → list_any (λ (d : Draft). bytes_eq d.uri uri) (puts_of s trace)
        ≡ is_some (found_at (λ (x : Signed). x.draft.uri) (put_of s trace) (made_of trace) uri)
    puts-there uri =
        let test : Draft → Bool = λ d. bytes_eq d.uri uri in
        let own : Signed → Bool = λ x. bytes_eq x.draft.uri uri in
        let draft : Signed → Draft = λ x. x.draft in
        let first : list_any test (all_of s trace) ≡ list_any own trace.objects =
        list_any-IsPermutation test (all_of s trace) (map draft trace.objects) is.objects.permutation
        ∙ any-map draft test trace.objects in
        let second : list_any test (manifests s trace.keys) ≡ list_any own trace.listed =
        list_any-IsPermutation test (manifests s trace.keys) (map draft trace.listed)
        is.listed.permutation ∙ any-map draft test trace.listed in
        list_any-append test (all_of s trace) (manifests s trace.keys)
        ∙ (ap (λ (b : Bool). b || list_any test (manifests s trace.keys)) first
        ∙ (ap (λ (b : Bool). list_any own trace.objects || b) second
        ∙ (sym (list_any-append own trace.objects trace.listed)
        ∙ sym (found-any (λ (x : Signed). x.draft.uri) (put_of s trace) (made_of trace) uri))))

    -- What stands there is withdrawn.
    withdrawn-there : (row : IssuedRow) → Contains plan_input.issued row
        → list_any (λ w. bytes_eq w row.uri) work.withdrawn ≡ is_some (withdrawal_at s row.uri)
    withdrawn-there row c =
        let at = table.each row c in
        let hash : hash_at s row.uri ≡ Some (sha256 at.0) =
        hash-is old plan_input.issued table row.uri ∙ ap (option_map sha256) at.1 in
        by (list_any (λ w. bytes_eq w row.uri) work.withdrawn) (hash_at s row.uri) (sha256 at.0) hash
      where
        by : (b : Bool) (o : Option (List ℕ)) (h : List ℕ) → o ≡ Some h
            → b ≡ is_some (cond b (option_map (λ hash. Withdraw row.uri hash) o) None)
        by true o h e = sym (ap (λ (p : Option (List ℕ)).
            is_some (option_map (λ hash. Withdraw row.uri hash) p)) e)
        by false o h e = refl

    touched : (row : IssuedRow) → Contains plan_input.issued row
        → is_touched s (puts_of s trace) row.uri ≡ is_some (change_at changes row.uri)
    touched row c =
        let put : Option Change =
        found_at (λ (x : Signed). x.draft.uri) (put_of s trace) (made_of trace) row.uri in
        ap (λ (b : Bool). b || list_any (λ w. bytes_eq w row.uri) work.withdrawn) (puts-there row.uri)
        ∙ (ap (λ (b : Bool). is_some put || b) (withdrawn-there row c)
        ∙ (sym (either-some put (withdrawal_at s row.uri)) ∙ ap is_some (sym (each row.uri))))

    ended : (key : KeyRow) → filter (is_superseded s (puts_of s trace) key) plan_input.issued
        ≡ filter (is_ended plan_input changes key) plan_input.issued
    ended key =
        filter-agree-in (is_superseded s (puts_of s trace) key) (is_ended plan_input changes key)
        plan_input.issued (λ row c.
        ap (λ (b : Bool). bytes_eq row.issuer.bytes (id_of key) && not (row.serial == 0)
        && not (bytes_eq row.uri (anchor_uri plan_input.site)) && b) (touched row c))

    same-candidates : (key : KeyRow) → Contains plan.keys key → keeps_point plan_input plan.keys key ≡ false
        → lists.candidates s trace.keys (puts_of s trace) key ≡ candidates plan_input changes key
    same-candidates key c isnt =
        let rows : List IssuedRow → ℕ → List RevokedRow = λ l n. key.revoked ++ map (revoked_row n) l in
        let inner : rows (filter (is_superseded s (puts_of s trace) key) plan_input.issued) work.moment
        ≡ with_ended plan_input changes key =
        ap (λ (l : List IssuedRow). rows l work.moment) (ended key)
        ∙ ap (rows (filter (is_ended plan_input changes key) plan_input.issued)) plan.moment in
        ap (filter (is_listed s trace.keys key)) inner
        ∙ filter_agree (is_listed s trace.keys key) (λ row. nat_le key.this_update row.not_after)
        (λ row. ap (λ (b : Bool). nat_le (cond b key.this_update 0) row.not_after)
        (plan.pointed key c ∙ ap not isnt)) (with_ended plan_input changes key)

    pub are-listed : AreListed plan_input changes plan.keys trace.entries
    are-listed = λ k d inside same.
        let key : KeyRow = get_or plan.keys k d in
        let c : Contains plan.keys key = Contains-get_or plan.keys k d inside in
        subst (λ (l : List RevokedRow). AreFirsts l (trace.entries key)) (same-candidates key c same)
        (All-contains (λ (x : KeyRow). AreFirsts
        (lists.candidates s trace.keys (puts_of s trace) x) (trace.entries x))
        (all_keys trace.keys) key is.entries ((plan.same key).0 c))

    -- A key with its point kept, under which nothing changes, keeps its entries.
    pub entries-stay : (key : KeyRow) → Contains plan.keys key → keeps_point plan_input plan.keys key ≡ true
        → are_rising (map crl_entry key.revoked) ≡ true
        → ((row : IssuedRow) → Contains plan_input.issued row → row.issuer.bytes ≡ id_of key
        → is_some (change_at changes row.uri) ≡ false)
        → trace.entries key ≡ key.revoked
    entries-stay key c keeps up same =
        let none : filter (is_ended plan_input changes key) plan_input.issued ≡ [] =
        filter-none (is_ended plan_input changes key) plan_input.issued (λ row inside. never row inside) in
        let all : key.revoked ++ map (revoked_row work.moment)
        (filter (is_superseded s (puts_of s trace) key) plan_input.issued) ≡ key.revoked =
        ap (λ (l : List IssuedRow). key.revoked ++ map (revoked_row work.moment) l) (ended key ∙ none)
        ∙ append-nil key.revoked in
        let no_point : has_point s trace.keys key ≡ false = plan.pointed key c ∙ ap not keeps in
        let candidates_are : lists.candidates s trace.keys (puts_of s trace) key ≡ key.revoked =
        ap (filter (is_listed s trace.keys key)) all
        ∙ (filter_agree (is_listed s trace.keys key) (λ row. true) (λ row.
        ap (λ (b : Bool). nat_le (cond b key.this_update 0) row.not_after) no_point
        ∙ le-leb 0 row.not_after (omega arith)) key.revoked
        ∙ filter-all key.revoked) in
        firsts-same key.revoked (trace.entries key) up
        (subst (λ (l : List RevokedRow). AreFirsts l (trace.entries key)) candidates_are
        (All-contains (λ (x : KeyRow). AreFirsts
        (lists.candidates s trace.keys (puts_of s trace) x) (trace.entries x))
        (all_keys trace.keys) key is.entries ((plan.same key).0 c)))
      where
        never : (row : IssuedRow) → Contains plan_input.issued row → is_ended plan_input changes key row ≡ false
        never row inside = by (is_ended plan_input changes key row) refl
          where
            by : (b : Bool) → is_ended plan_input changes key row ≡ b → b ≡ false
            by false e = refl
            by true e =
                let is_one = ends plan_input changes key row e in
                absurd (true≢false (sym is_one.touched ∙ same row inside is_one.issuer))
