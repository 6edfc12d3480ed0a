-- A snapshot and a delta are read exactly.
use Rattle.std.proofs.Common.{◌≡◌, ℕ, suc, ◌+◌, ◌-◌, ◌<◌, ◌≤◌, List, [], ◌∷◌, ◌++◌, length, take, inl, inr, Result, Ok, Err, Some, None, refl, sym, ap, ◌∙◌, subst, arith, append_assoc, length-append, codes}
use Rattle.std.specs.List.{flat_map}
use Rattle.std.specs.Ordering.{is_lt}
use Rattle.std.specs.declared.cmp.Ordering.TheVariants.{Less}
use Rattle.std.proofs.lemmas.List.{append-nil, take_at, nil_from_length}
use Rattle.pub_set.specs.Objects.{uri_cmp}
use Rattle.pub_set.specs.Changes.{uri_of}
use Rattle.pub_set.specs.declared.objects.Object.{Object}
use Rattle.pub_set.specs.declared.steps.Change.{Change}
use Rattle.pub_set.specs.declared.steps.Change.TheVariants.{Put, Withdraw}
use Rattle.rrdp_text.specs.declared.fault.XmlFault.{XmlFault}
use Rattle.rrdp_text.specs.declared.fault.XmlFault.TheVariants.{NotTemplate, Memory}
use Rattle.rrdp_text.specs.Reading.{whole, ◌>>=◌}
use Rattle.rrdp_text.specs.Template.{opening_in, object_in, change_in, objects_in, changes_in, snapshot_in, delta_in}
use Rattle.rrdp_text.specs.Texts.{head, opening, object_text, change_text, snapshot_text, delta_text}
use Rattle.rrdp_text.specs.Values.{IsOpening, IsUri, IsObject, IsChange, AreObjects, AreChanges}
use Rattle.rrdp_text.specs.declared.fault.Stop.{Stop}
use Rattle.rrdp_text.specs.declared.fault.Stop.TheVariants.{Here, Memory as OutOfMemory}
use Rattle.rrdp_text.specs.inner.Parts.{Gives}
use Rattle.rrdp_text.specs.Outcome.{IsReadAs, IsTrueFault, IsOkOrMemory, fault_of}
use Rattle.rrdp_text.proofs.Exact.{Exact, behind, done, same, cases_Result}
use Rattle.rrdp_text.proofs.ElementLaws.{AllGood, IsElement, elements_exact}
use Rattle.rrdp_text.proofs.FieldKinds.{IsUriAbove}
use Rattle.rrdp_text.proofs.LineLaws.{opening_exact, object_exact, object_begins, change_exact, change_begins, IsObjectBehind, IsChangeBehind}
use Rattle.rrdp_text.proofs.Order.{ascending_from, each_from, chain_is, less_is, some_behind}

-- ---- a reading of all bytes

pub record IsWhole {A : Type 0} (Good : A → Type 0) (text : A → List ℕ) (read : List ℕ → Result A ℕ) : Type 0 where
  pub again : (a : A) → Good a → read (text a) ≡ Ok a
  pub taken : (s : List ℕ) (a : A) → read s ≡ Ok a → Good a × (s ≡ text a)
  pub stops : (s : List ℕ) (left : ℕ) → read s ≡ Err left → (left ≤ length s)
      × (0 < left → (a : A) (more : List ℕ) → Good a → text a ≡ take (length s - left + 1) s ++ more → ⊥)

-- the bytes up to a byte with so many behind it, and that byte
front_taken : (front : List ℕ) (byte : ℕ) (back : List ℕ) → take (length (front ++ (byte ∷ back)) - suc (length back) + 1) (front ++ (byte ∷ back)) ≡ front ++ (byte ∷ [])
front_taken front byte back =
    let long = length-append front (byte ∷ back) in
    let short = length-append front (byte ∷ []) in
    let size : length (front ++ (byte ∷ [])) ≡ length (front ++ (byte ∷ back)) - suc (length back) + 1 = omega (arith, long, short) in
    ap (take (length (front ++ (byte ∷ back)) - suc (length back) + 1)) (sym (append_assoc front (byte ∷ []) back)) ∙ take_at (front ++ (byte ∷ [])) back _ size

whole_ok : {A : Type 0} (p : A × List ℕ) (a : A) → whole p ≡ Ok a → (p.0 ≡ a) × (p.1 ≡ [])
whole_ok {A} (x, rest) a h =
    let go : (l : List ℕ) → whole (x, l) ≡ Ok a → (x ≡ a) × (l ≡ []) =
    λ l. elim l as (λ (l : List ℕ). whole (x, l) ≡ Ok a → (x ≡ a) × (l ≡ [])) [ [] ↦ λ e. (cc e, refl) | b ∷ more ↦ λ e. cc e ] in
    go rest h

whole_err : {A : Type 0} (p : A × List ℕ) (left : ℕ) → whole p ≡ Err left → (b : ℕ) × (more : List ℕ) × (p.1 ≡ b ∷ more) × (left ≡ suc (length more))
whole_err {A} (x, rest) left h =
    let go : (l : List ℕ) → whole (x, l) ≡ Err left → (b : ℕ) × (more : List ℕ) × (l ≡ b ∷ more) × (left ≡ suc (length more)) =
    λ l. elim l as (λ (l : List ℕ). whole (x, l) ≡ Err left → (b : ℕ) × (more : List ℕ) × (l ≡ b ∷ more) × (left ≡ suc (length more))) [ [] ↦ λ e. cc e | b ∷ more ↦ λ e. (b, more, refl, cc e) ] in
    go rest h

true_stop : {A : Type 0} {Good : A → Type 0} {text : A → List ℕ} (s front back : List ℕ) (left byte : ℕ) → s ≡ front ++ (byte ∷ back) → left ≡ suc (length back)
    → ((a : A) (more : List ℕ) → Good a → text a ≡ (front ++ (byte ∷ [])) ++ more → ⊥)
    → (left ≤ length s) × (0 < left → (a : A) (more : List ℕ) → Good a → text a ≡ take (length s - left + 1) s ++ more → ⊥)
true_stop {A} {Good} {text} s front back left byte bytes place none =
    let long = length-append front (byte ∷ back) in
    let size = ap length bytes in
    let taken : take (length s - left + 1) s ≡ front ++ (byte ∷ []) = rw (bytes, place) (front_taken front byte back) in
    (omega (arith, long, size, place), λ some a more good e. none a more good (e ∙ ap (λ (l : List ℕ). l ++ more) taken))

pub whole_exact : {A : Type 0} {Good : A → Type 0} {text : A → List ℕ} {read : List ℕ → Result (A × List ℕ) ℕ} → Exact Good text read
    → IsWhole Good text (λ s. read s >>= whole)
whole_exact {A} {Good} {text} {read} exact = record {
  again = λ a good.
      let is : read (text a) ≡ Ok (a, []) = ap read (sym (append-nil (text a))) ∙ exact.again a good [] in
      rw is refl;
  taken = λ s a h. elim (cases_Result (read s)) [
    | inl (p, is) ↦
        let parts = whole_ok p a (rw is at h) in
        let inner = exact.taken s p.0 p.1 is in
        (subst Good parts.0 inner.0, inner.1 ∙ ap (λ (l : List ℕ). text p.0 ++ l) parts.1 ∙ append-nil (text p.0) ∙ ap text parts.0)
    | inr (place, is) ↦ let bad = rw is at h in cc bad
  ];
  stops = λ s left h. elim (cases_Result (read s)) [
    | inl (p, is) ↦
        let parts = whole_err p left (rw is at h) in
        let inner = exact.taken s p.0 p.1 is in
        let bytes : s ≡ text p.0 ++ (parts.0 ∷ parts.1) = inner.1 ∙ ap (λ (l : List ℕ). text p.0 ++ l) parts.2 in
        true_stop s (text p.0) parts.1 left parts.0 bytes parts.3 (λ a more good e.
        let one = exact.again a good [] in
        let other = exact.again p.0 inner.0 (parts.0 ∷ more) in
        let alike : text a ++ [] ≡ text p.0 ++ (parts.0 ∷ more) = append-nil (text a) ∙ e ∙ append_assoc (text p.0) (parts.0 ∷ []) more in
        let pair : ◌≡◌ {A = A × List ℕ} (a, []) (p.0, parts.0 ∷ more) = cc (one, other, ap read alike) in
        let bad : ◌≡◌ {A = List ℕ} [] (parts.0 ∷ more) = ap (λ (x : A × List ℕ). x.1) pair in
        cc bad)
    | inr (place, is) ↦
        let same_place : place ≡ left = (let e = rw is at h in cc e) in
        elim (exact.stops s left (is ∙ ap Err same_place)) [
          | inl end ↦ (omega arith, λ some a more good e. absurd (omega arith))
          | inr stop ↦ true_stop s stop.front stop.back left stop.byte stop.bytes stop.place (λ a more good e.
              stop.none a good [] more (append-nil (text a) ∙ e ∙ append_assoc stop.front (stop.byte ∷ []) more))
        ]
  ];
}

-- read otherwise, to the same
pub read_as : {A : Type 0} {Good : A → Type 0} {text spelled : A → List ℕ} {read other : List ℕ → Result A ℕ} → IsWhole Good text read
    → ((a : A) → text a ≡ spelled a) → ((s : List ℕ) → other s ≡ read s) → IsWhole Good spelled other
read_as {A} {Good} {text} {spelled} {read} {other} is alike same_read = record {
  again = λ a good. ap other (sym (alike a)) ∙ same_read (text a) ∙ is.again a good;
  taken = λ s a h. let inner = is.taken s a (sym (same_read s) ∙ h) in (inner.0, inner.1 ∙ alike a);
  stops = λ s left h. let inner = is.stops s left (sym (same_read s) ∙ h) in (inner.0, λ some a more good e. inner.1 some a more good (alike a ∙ e));
}

-- ---- the lists

objects_are : (os : List Object) → AllGood IsObjectBehind (λ o. o.uri) [] os → AreObjects os
objects_are os all =
    let order = ascending_from IsObjectBehind (λ o. o.uri) (λ p o good. less_is (uri_cmp p o.uri) good.uri.above) [] os all in
    record {
      ascending = order.0;
      each = each_from IsObjectBehind (λ o. o.uri) IsObject (λ p o good.
          record { uri = record { stands = some_behind p o.uri (less_is (uri_cmp p o.uri) good.uri.above); bytes = good.uri.bytes }; bytes = good.bytes }) [] os all;
    }

are_objects : (os : List Object) → AreObjects os → AllGood IsObjectBehind (λ o. o.uri) [] os
are_objects os are =
    chain_is IsObjectBehind (λ o. o.uri) IsObject
    (λ p o less is. record { uri = record { above = ap is_lt less; bytes = is.uri.bytes }; bytes = is.bytes })
    (λ o is. is.uri.stands) os are.ascending are.each

object_lines : IsElement IsObjectBehind object_text object_in (codes "</snapshot>\n")
object_lines = record { exact = object_exact; begins_so = object_begins; end_begins = λ rest. refl; end_stands = omega arith }

pub objects_exact : Exact AreObjects (λ os. flat_map object_text os ++ codes "</snapshot>\n") objects_in
objects_exact = same (elements_exact (λ o. o.uri) object_lines []) (λ os all. (objects_are os all, refl)) are_objects

change_above : (p : List ℕ) (c : Change) → IsChangeBehind p c → IsUriAbove p (uri_of c)
change_above p (Put uri bytes None) good = good.0
change_above p (Put uri bytes (Some digest)) good = good.0
change_above p (Withdraw uri digest) good = good.0

change_less : (p : List ℕ) (c : Change) → IsChangeBehind p c → uri_cmp p (uri_of c) ≡ Less
change_less p c good = less_is (uri_cmp p (uri_of c)) (change_above p c good).above

uri_is : (p uri : List ℕ) → IsUriAbove p uri → IsUri uri
uri_is p uri good = record { stands = some_behind p uri (less_is (uri_cmp p uri) good.above); bytes = good.bytes }

change_is : (p : List ℕ) (c : Change) → IsChangeBehind p c → IsChange c
change_is p (Put uri bytes None) good = (uri_is p uri good.0, good.1)
change_is p (Put uri bytes (Some digest)) good = (uri_is p uri good.0, good.1, good.2)
change_is p (Withdraw uri digest) good = (uri_is p uri good.0, good.1)

is_above : (p uri : List ℕ) → uri_cmp p uri ≡ Less → IsUri uri → IsUriAbove p uri
is_above p uri less is = record { above = ap is_lt less; bytes = is.bytes }

is_change : (p : List ℕ) (c : Change) → uri_cmp p (uri_of c) ≡ Less → IsChange c → IsChangeBehind p c
is_change p (Put uri bytes None) less is = (is_above p uri less is.0, is.1)
is_change p (Put uri bytes (Some digest)) less is = (is_above p uri less is.0, is.1, is.2)
is_change p (Withdraw uri digest) less is = (is_above p uri less is.0, is.1)

change_stands : (c : Change) → IsChange c → 0 < length (uri_of c)
change_stands (Put uri bytes None) is = is.0.stands
change_stands (Put uri bytes (Some digest)) is = is.0.stands
change_stands (Withdraw uri digest) is = is.0.stands

changes_are : (cs : List Change) → AllGood IsChangeBehind uri_of [] cs → AreChanges cs
changes_are cs all = record {
  ascending = (ascending_from IsChangeBehind uri_of change_less [] cs all).0;
  each = each_from IsChangeBehind uri_of IsChange change_is [] cs all;
}

are_changes : (cs : List Change) → AreChanges cs → AllGood IsChangeBehind uri_of [] cs
are_changes cs are = chain_is IsChangeBehind uri_of IsChange is_change change_stands cs are.ascending are.each

change_lines : IsElement IsChangeBehind change_text change_in (codes "</delta>\n")
change_lines = record { exact = change_exact; begins_so = change_begins; end_begins = λ rest. refl; end_stands = omega arith }

pub changes_exact : Exact AreChanges (λ cs. flat_map change_text cs ++ codes "</delta>\n") changes_in
changes_exact = same (elements_exact uri_of change_lines []) (λ cs all. (changes_are cs all, refl)) are_changes

-- ---- the files

-- the first line, and then a list
file_exact : {E : Type 0} {Are : List E → Type 0} {text : List E → List ℕ} {lines : List ℕ → Result (List E × List ℕ) ℕ} (name : List ℕ) → Exact Are text lines
    → Exact (λ (v : (List ℕ × ℕ) × List E). IsOpening v.0.0 v.0.1 × Are v.1) (λ v. opening name v.0.0 v.0.1 ++ text v.1)
    (λ s. opening_in (head name) s >>= λ p. lines p.1 >>= λ q. Ok ((p.0, q.0), q.1))
file_exact {E} {Are} {text} {lines} name inner = same
    (behind (λ (v : (List ℕ × ℕ) × List E). v.0) (opening_exact name) (λ first _.
    behind (λ (v : (List ℕ × ℕ) × List E). v.1) inner (λ es _. done (first, es))
    (λ es v good. ap (λ (x : (List ℕ × ℕ) × List E). x.1) good))
    (λ first v good. ap (λ (x : (List ℕ × ℕ) × List E). x.0) good.1))
    (λ v good. ((good.0, good.1.0), ap (λ (l : List ℕ). opening name v.0.0 v.0.1 ++ l) (append-nil (text v.1))))
    (λ v also. (also.0, (also.1, refl)))

abbrev File : Type 0 → Type 0
File E = (List ℕ × ℕ) × List E

abbrev paired : {E : Type 0} → (List ℕ × ℕ) × List ℕ → List E × List ℕ → File E × List ℕ
paired p q = ((p.0, q.0), q.1)

later : {E : Type 0} (p : (List ℕ × ℕ) × List ℕ) (r : Result (List E × List ℕ) ℕ)
    → (r >>= λ q. whole (paired p q)) ≡ ((r >>= λ q. Ok (paired p q)) >>= whole)
later p (Ok q) = refl
later p (Err left) = refl

file_read : {E : Type 0} (first : Result ((List ℕ × ℕ) × List ℕ) ℕ) (lines : List ℕ → Result (List E × List ℕ) ℕ)
    → (first >>= λ p. lines p.1 >>= λ q. whole (paired p q)) ≡ ((first >>= λ p. lines p.1 >>= λ q. Ok (paired p q)) >>= whole)
file_read (Err left) lines = refl
file_read (Ok p) lines = later p (lines p.1)

pub snapshot_exact : IsWhole (λ (v : (List ℕ × ℕ) × List Object). IsOpening v.0.0 v.0.1 × AreObjects v.1) (λ v. snapshot_text v.0.0 v.0.1 v.1) snapshot_in
unfolding snapshot_in snapshot_text
snapshot_exact = read_as (whole_exact (file_exact (codes "snapshot") objects_exact))
    (λ v. sym (append_assoc (opening (codes "snapshot") v.0.0 v.0.1) (flat_map object_text v.1) (codes "</snapshot>\n")))
    (λ s. file_read (opening_in (head (codes "snapshot")) s) objects_in)

pub delta_exact : IsWhole (λ (v : (List ℕ × ℕ) × List Change). IsOpening v.0.0 v.0.1 × AreChanges v.1) (λ v. delta_text v.0.0 v.0.1 v.1) delta_in
unfolding delta_in delta_text
delta_exact = read_as (whole_exact (file_exact (codes "delta") changes_exact))
    (λ v. sym (append_assoc (opening (codes "delta") v.0.0 v.0.1) (flat_map change_text v.1) (codes "</delta>\n")))
    (λ s. file_read (opening_in (head (codes "delta")) s) changes_in)

-- ---- what a result says

pub found : {X A : Type 0} {Good : A → Type 0} {text : A → List ℕ} {read : List ℕ → Result A ℕ} (view : X → A) → IsWhole Good text read
    → (bytes : List ℕ) (x : X) → read bytes ≡ Ok (view x) → Good (view x) × (bytes ≡ text (view x))
found view is bytes x h = is.taken bytes (view x) h

pub only : {X A : Type 0} {Good : A → Type 0} {text : A → List ℕ} {read : List ℕ → Result A ℕ} (view : X → A) → IsWhole Good text read
    → (bytes : List ℕ) (r : Result X XmlFault) → IsReadAs view bytes r (read bytes) → (a : A) → Good a → bytes ≡ text a → IsOkOrMemory view a r
only {X} {A} {Good} {text} {read} view is bytes (Ok x) h a good e = let again = is.again a good in cc (h, again, ap read e)
only {X} {A} {Good} {text} {read} view is bytes (Err (NotTemplate at)) h a good e = let again = is.again a good in cc (h.1, again, ap read e)
only view is bytes (Err Memory) h a good e = refl

pub true_fault : {X A : Type 0} {Good : A → Type 0} {text : A → List ℕ} {read : List ℕ → Result A ℕ} (view : X → A) → IsWhole Good text read
    → (bytes : List ℕ) (e : XmlFault) → IsReadAs view bytes (Err e) (read bytes) → IsTrueFault Good text bytes e
true_fault view is bytes (NotTemplate at) h =
    let stop = is.stops bytes (length bytes - at) h.1 in
    (h.0, λ inside a more good e. stop.1 (omega arith) a more good (let same_at : length bytes - (length bytes - at) ≡ at = omega arith in rw same_at e))
true_fault view is bytes Memory h = tt

-- a fault that is told by its place
pub as_fault : {X A : Type 0} {Good : A → Type 0} {text : A → List ℕ} {read : List ℕ → Result A ℕ} (view : X → A) → IsWhole Good text read
    → (bytes : List ℕ) (stop : Stop) → Gives view (Err stop) (read bytes) → IsReadAs view bytes (Err (fault_of (length bytes) stop)) (read bytes)
as_fault view is bytes (Here left) h =
    let inside = (is.stops bytes left h).0 in
    let again : length bytes - (length bytes - left) ≡ left = omega arith in
    (omega arith, rw again h)
as_fault view is bytes OutOfMemory h = tt

-- ---- the end of the text

pub ended : {E : Type 0} (first : Result ((List ℕ × ℕ) × List ℕ) ℕ) (lines : List ℕ → Result (List E × List ℕ) ℕ) (v : List ℕ × ℕ) (s rest : List ℕ) (es : List E)
    → first ≡ Ok (v, s) → lines s ≡ Ok (es, rest) → length rest ≡ 0
    → (first >>= λ p. lines p.1 >>= λ q. whole (paired p q)) ≡ Ok (v, es)
ended first lines v s rest es is more none = rw (is, more, nil_from_length rest none) refl

not_ended : {E : Type 0} (v : List ℕ × ℕ) (es : List E) (rest : List ℕ) → (length rest ≡ 0 → ⊥) → whole {A = File E} ((v, es), rest) ≡ Err (length rest)
not_ended v es [] some = absurd (some refl)
not_ended v es (b ∷ rest) some = refl

pub goes_on : {E : Type 0} (first : Result ((List ℕ × ℕ) × List ℕ) ℕ) (lines : List ℕ → Result (List E × List ℕ) ℕ) (v : List ℕ × ℕ) (s rest : List ℕ) (es : List E)
    → first ≡ Ok (v, s) → lines s ≡ Ok (es, rest) → (length rest ≡ 0 → ⊥)
    → (first >>= λ p. lines p.1 >>= λ q. whole (paired p q)) ≡ Err (length rest)
goes_on first lines v s rest es is more some = rw (is, more) (not_ended v es rest some)
