-- A snapshot has no more bytes than the one before it and the delta between them.
use Rattle.std.proofs.Common.{◌≡◌, ℕ, ◌+◌, ◌≤◌, true, false, cond, refl, sym, ◌∙◌, ap, arith, codes, decimal, length, List, [], ◌∷◌, Some, None, length-append}
use Rattle.std.specs.Prelude.{Option, if◌then◌else◌}
use Rattle.std.specs.List.{AllByRecursion, flat_map}
use Rattle.std.specs.Ordering.{on}
use Rattle.std.specs.declared.cmp.Ordering.TheVariants.{Less}
use Rattle.std.proofs.lemmas.Map.Keys.{sorted_head, sorted_tail}
use Rattle.pub_set.specs.declared.objects.Object.{Object}
use Rattle.pub_set.specs.declared.steps.Change.{Change}
use Rattle.pub_set.specs.declared.steps.Change.TheVariants.{Put, Withdraw}
use Rattle.pub_set.specs.Objects.{uri_cmp, uri_at, is_same, content_at, IsAscending}
use Rattle.pub_set.specs.Changes.{Contents, IsApplied, after, after_all}
use Rattle.uuid.specs.Text.{hyphenated_text, lower}
use Rattle.rrdp_text.specs.Texts.{head, opening, opening_behind, object_text, change_text, snapshot_text, delta_text}
use Rattle.pub_set.specs.laws.UriLaws.{same_self, other_below, same_is}

-- ---- URIs that tie are one and the same

-- ---- sizes

total : List Object → ℕ
total [] = 0
total (o ∷ os) = length (object_text o) + total os

total_changes : List Change → ℕ
total_changes [] = 0
total_changes (c ∷ cs) = length (change_text c) + total_changes cs

total_is : (os : List Object) → length (flat_map object_text os) ≡ total os
unfolding total
total_is [] = refl
total_is (o ∷ os) = length-append (object_text o) (flat_map object_text os) ∙ ap (λ n. length (object_text o) + n) (total_is os)

total_changes_is : (cs : List Change) → length (flat_map change_text cs) ≡ total_changes cs
unfolding total_changes
total_changes_is [] = refl
total_changes_is (c ∷ cs) = length-append (change_text c) (flat_map change_text cs) ∙ ap (λ n. length (change_text c) + n) (total_changes_is cs)

-- ---- objects but for those at a URI

without : List ℕ → List Object → List Object
without uri [] = []
without uri (o ∷ os) = if is_same o.uri uri then without uri os else o ∷ without uri os

content_without : (u v : List ℕ) (os : List Object) → content_at (without u os) v ≡ (if is_same u v then None else content_at os v)
unfolding without
content_without u v [] = elim (is_same u v) as (λ b. ◌≡◌ {A = Option (List ℕ)} None (cond b None None)) [ true ↦ refl | false ↦ refl ]
content_without u v (o ∷ os) =
    elim (is_same o.uri u) as (λ b. is_same o.uri u ≡ b →
    content_at (cond b (without u os) (o ∷ without u os)) v ≡ cond (is_same u v) None (cond (is_same o.uri v) (Some o.bytes) (content_at os v))) [
      | true ↦ λ same.
          let at : o.uri ≡ u = same_is o.uri u same in
          content_without u v os
          ∙ elim (is_same u v) as (λ b. is_same u v ≡ b → cond b None (content_at os v) ≡ cond b None (cond (is_same o.uri v) (Some o.bytes) (content_at os v))) [
            | true ↦ λ here. refl
            | false ↦ λ other. let e : is_same o.uri v ≡ false = ap (λ a. is_same a v) at ∙ other in rw e refl
          ] refl
      | false ↦ λ apart.
          elim (is_same o.uri v) as (λ b. is_same o.uri v ≡ b →
          cond b (Some o.bytes) (content_at (without u os) v) ≡ cond (is_same u v) None (cond b (Some o.bytes) (content_at os v))) [
            | true ↦ λ here.
                let at : o.uri ≡ v = same_is o.uri v here in
                elim (is_same u v) as (λ b. is_same u v ≡ b → Some o.bytes ≡ cond b None (Some o.bytes)) [
                  | true ↦ λ both.
                      let e : u ≡ v = same_is u v both in
                      let s : is_same o.uri u ≡ true = ap (λ a. is_same o.uri a) (e ∙ sym at) ∙ same_self o.uri in
                      cc
                  | false ↦ λ _. refl
                ] refl
            | false ↦ λ _. content_without u v os
          ] refl
    ] refl

total_without : (u : List ℕ) (os : List Object) → total (without u os) ≤ total os
unfolding total without
total_without u [] = omega arith
total_without u (o ∷ os) =
    let rest = total_without u os in
    elim (is_same o.uri u) as (λ b. total (cond b (without u os) (o ∷ without u os)) ≤ length (object_text o) + total os) [
      | true ↦ omega arith
      | false ↦ omega arith
    ]

some_is : {V : Type 0} (a b : V) → Some a ≡ Some b → a ≡ b
some_is a b h = cc

total_found : (u bytes : List ℕ) (os : List Object) → content_at os u ≡ Some bytes
    → total (without u os) + length (object_text (record { uri = u; bytes = bytes })) ≤ total os
unfolding total without
total_found u bytes [] found = absurd (cc)
total_found u bytes (o ∷ os) found =
    elim (is_same o.uri u) as (λ b. is_same o.uri u ≡ b → cond b (Some o.bytes) (content_at os u) ≡ Some bytes
    → total (cond b (without u os) (o ∷ without u os)) + length (object_text (record { uri = u; bytes = bytes })) ≤ length (object_text o) + total os) [
      | true ↦ λ same here.
          let uris : o.uri ≡ u = same_is o.uri u same in
          let contents : o.bytes ≡ bytes = some_is o.bytes bytes here in
          let sizes : length (object_text o) ≡ length (object_text (record { uri = u; bytes = bytes })) =
          ap (λ (x : Object). length (object_text x)) (λ i. record { uri = uris i; bytes = contents i }) in
          let rest = total_without u os in
          omega arith
      | false ↦ λ other here.
          let rest = total_found u bytes os here in
          omega arith
    ] refl found

-- ---- what stands comes from what stood, or from a change

all_both : {X : Type 0} (P Q R : X → Type 0) → ((x : X) → P x → Q x → R x) → (xs : List X) → AllByRecursion P xs → AllByRecursion Q xs → AllByRecursion R xs
all_both P Q R step [] p q = tt
all_both P Q R step (x ∷ xs) p q = (step x p.0 q.0, all_both P Q R step xs p.1 q.1)

all_step : {X : Type 0} (P R : X → Type 0) → ((x : X) → P x → R x) → (xs : List X) → AllByRecursion P xs → AllByRecursion R xs
all_step P R step [] p = tt
all_step P R step (x ∷ xs) p = (step x p.0, all_step P R step xs p.1)

tail_up : (o : Object) (os : List Object) → IsAscending (o ∷ os) → IsAscending os
tail_up o os up = sorted_tail (on uri_at uri_cmp) o os up

head_up : (o : Object) (os : List Object) → IsAscending (o ∷ os) → AllByRecursion (λ x. uri_cmp o.uri x.uri ≡ Less) os
head_up o os up = sorted_head (on uri_at uri_cmp) o os up

-- each object of a set is found in it
each_found : (os : List Object) → IsAscending os → AllByRecursion (λ o. content_at os o.uri ≡ Some o.bytes) os
each_found [] up = tt
each_found (o ∷ os) up = (
  rw (same_self o.uri) refl,
  all_both (λ (x : Object). uri_cmp o.uri x.uri ≡ Less) (λ (x : Object). content_at os x.uri ≡ Some x.bytes) (λ (x : Object). content_at (o ∷ os) x.uri ≡ Some x.bytes)
      (λ x less here. rw (other_below o.uri x.uri less) here) os (head_up o os up) (each_found os (tail_up o os up)),
)

total_within : (new old : List Object) → IsAscending new → AllByRecursion (λ o. content_at old o.uri ≡ Some o.bytes) new → total new ≤ total old
unfolding total
total_within [] old up all = omega arith
total_within (o ∷ new) old up all =
    let rest : total new ≤ total (without o.uri old) = total_within new (without o.uri old) (tail_up o new up)
    (all_both (λ (x : Object). uri_cmp o.uri x.uri ≡ Less) (λ (x : Object). content_at old x.uri ≡ Some x.bytes) (λ (x : Object). content_at (without o.uri old) x.uri ≡ Some x.bytes)
    (λ x less here. content_without o.uri x.uri old ∙ rw (other_below o.uri x.uri less) here) new (head_up o new up) all.1) in
    let here : total (without o.uri old) + length (object_text o) ≤ total old = total_found o.uri o.bytes old all.0 in
    omega arith

-- the objects after a change
changed : Change → List Object → List Object
changed (Put uri bytes replaces) os = record { uri = uri; bytes = bytes } ∷ os
changed (Withdraw uri hash) os = without uri os

content_changed : (c : Change) (os : List Object) (uri : List ℕ) → content_at (changed c os) uri ≡ after (content_at os) c uri
unfolding changed
content_changed (Put at bytes replaces) os uri = refl
content_changed (Withdraw at hash) os uri = content_without at uri os

put_size : (uri bytes : List ℕ) (replaces : Option (List ℕ)) → length (object_text (record { uri = uri; bytes = bytes })) ≤ length (change_text (Put uri bytes replaces))
unfolding object_text change_text
put_size uri bytes None = omega arith
put_size uri bytes (Some hash) = simp length-append (omega arith)

total_changed : (c : Change) (os : List Object) → total (changed c os) ≤ total os + length (change_text c)
unfolding changed total
total_changed (Put uri bytes replaces) os = let size = put_size uri bytes replaces in omega arith
total_changed (Withdraw uri hash) os = let rest = total_without uri os in omega arith

total_after : (changes : List Change) (new old : List Object) → IsAscending new → AllByRecursion (λ o. after_all (content_at old) changes o.uri ≡ Some o.bytes) new
    → total new ≤ total old + total_changes changes
unfolding total_changes
total_after [] new old up all = let h = total_within new old up all in omega arith
total_after (c ∷ cs) new old up all =
    let same : content_at (changed c old) ≡ after (content_at old) c = λ i uri. content_changed c old uri i in
    let rest : total new ≤ total (changed c old) + total_changes cs = total_after cs new (changed c old) up
    (all_step (λ (o : Object). after_all (after (content_at old) c) cs o.uri ≡ Some o.bytes) (λ (o : Object). after_all (content_at (changed c old)) cs o.uri ≡ Some o.bytes)
    (λ o here. ap (λ (f : Contents). after_all f cs o.uri) same ∙ here) new all) in
    let one = total_changed c old in
    omega arith

total_applied : (old new : List Object) (changes : List Change) → IsAscending new → IsApplied old changes new → total new ≤ total old + total_changes changes
total_applied old new changes up applied =
    total_after changes new old up
    (all_step (λ (o : Object). content_at new o.uri ≡ Some o.bytes) (λ (o : Object). after_all (content_at old) changes o.uri ≡ Some o.bytes)
    (λ o here. sym (applied o.uri) ∙ here) new (each_found new up))

-- ---- the texts

opening_size : (front session : List ℕ) (serial : ℕ) → length (opening_behind front session serial) ≡ length front + length (hyphenated_text lower session) + 10 + length (decimal serial) + 3
unfolding opening_behind
opening_size front session serial = simp length-append (omega arith)

snapshot_size : (session : List ℕ) (serial : ℕ) (os : List Object) → length (snapshot_text session serial os)
    ≡ length (opening (codes "snapshot") session serial) + total os + 12
unfolding snapshot_text
snapshot_size session serial os =
    let size = total_is os in
    simp length-append (omega arith)

delta_size : (session : List ℕ) (serial : ℕ) (cs : List Change) → length (delta_text session serial cs)
    ≡ length (opening (codes "delta") session serial) + total_changes cs + 9
unfolding delta_text
delta_size session serial cs =
    let size = total_changes_is cs in
    simp length-append (omega arith)

pub snapshot_grows : (session : List ℕ) (before serial : ℕ) (old new : List Object) (changes : List Change) → IsAscending new → IsApplied old changes new
    → length (snapshot_text session serial new) ≤ length (snapshot_text session before old) + length (delta_text session serial changes)
snapshot_grows session before serial old new changes up applied =
    let sums = total_applied old new changes up applied in
    let one = snapshot_size session serial new in
    let two = snapshot_size session before old in
    let three = delta_size session serial changes in
    let front = opening_size (head (codes "snapshot")) session serial in
    let back = opening_size (head (codes "snapshot")) session before in
    let between = opening_size (head (codes "delta")) session serial in
    omega arith
