-- Snapshots and deltas can be said, so their texts are read back.
use Rattle.std.proofs.Common.{◌≡◌, ℕ, zero, suc, Bool, true, false, cond, refl, sym, subst, ◌∙◌, ap, arith, List, [], ◌∷◌, ◌++◌, Some, None}
use Rattle.std.specs.Prelude.{Option, IsSome, slice_get, slice_index}
use Rattle.std.specs.Int.{to_be_bytes, w32}
use Rattle.std.specs.List.{All, AllByRecursion}
use Rattle.std.specs.Str.{bytes_eq}
use Rattle.std.specs.Cmp.{IsTotalOrder}
use Rattle.std.specs.Cmp.Lexicographic.{nat_list_cmp_total}
use Rattle.std.specs.FinMap.{slice_cmp-IsAntisymmetric, nat_cmp-IsAntisymmetric}
use Rattle.std.specs.Ordering.{is_eq, ordering_reverse, on}
use Rattle.std.specs.declared.cmp.Ordering.{Ordering}
use Rattle.std.specs.declared.cmp.Ordering.TheVariants.{Less, Equal, Greater}
use Rattle.std.proofs.lemmas.Cmp.{tied_itself}
use Rattle.std.proofs.lemmas.List.Elements.{recursion_from_All}
use Rattle.std.proofs.lemmas.Map.Keys.{sorted_head, sorted_tail}
use Rattle.std.proofs.lemmas.Option.{none-some}
use Rattle.sha2.specs.Sha256.{sha256, digest_bytes}
use Rattle.sha2.proofs.Facts256.{length-sha256}
use Rattle.res_ext.specs.laws.ByteLaws.{high-bytes}
use Rattle.pub_set.specs.declared.objects.Object.{Object}
use Rattle.pub_set.specs.declared.steps.Change.{Change}
use Rattle.pub_set.specs.declared.steps.Change.TheVariants.{Put, Withdraw}
use Rattle.pub_set.specs.Objects.{uri_cmp, is_same, found_at, Rise, AllAbove}
use Rattle.pub_set.specs.Changes.{Contents, uri_of, left_by, after, after_all, difference}
use Rattle.rrdp_text.specs.Values.{AreBytes, IsHash, IsUri, IsObject, IsChange}
use Rattle.editions.specs.Edition.{Edition, State, state_from, first_state, after_edition, set_after}
use Rattle.histories.specs.Legal.{IsOfBytes}

-- ---- what is found

is_equal : (o : Ordering) → is_eq o ≡ true → o ≡ Equal
is_equal Less h = cc
is_equal Equal h = cc
is_equal Greater h = cc

same_is : (a b : List ℕ) → is_same a b ≡ true → a ≡ b
same_is a b h = slice_cmp-IsAntisymmetric nat_cmp-IsAntisymmetric a b (is_equal (uri_cmp a b) h)

uri_total : IsTotalOrder uri_cmp
uri_total = nat_list_cmp_total

same_self : (a : List ℕ) → is_same a a ≡ true
same_self a = ap is_eq (tied_itself uri_total a)

other_above : (a b : List ℕ) → uri_cmp b a ≡ Less → is_same a b ≡ false
other_above a b h = ap is_eq (uri_total.antisymm a b ∙ ap ordering_reverse h)

module _ {X V : Type 0} (uri : X → List ℕ) (told : X → V) where
  none_above : (xs : List X) (at : List ℕ) → AllAbove uri xs at → found_at uri told xs at ≡ None
  none_above [] at above = refl
  none_above (x ∷ rest) at above = rw (other_above (uri x) at above.0) (none_above rest at above.1)

  -- What is found behind the first is found with it too.
  later : (x : X) (rest : List X) → Rise uri (x ∷ rest) → (at : List ℕ) (v : V) → found_at uri told rest at ≡ Some v
      → found_at uri told (x ∷ rest) at ≡ Some v
  later x rest up at v there =
      elim (is_same (uri x) at) as (λ b. is_same (uri x) at ≡ b → cond b (Some (told x)) (found_at uri told rest at) ≡ Some v) [
        | true ↦ λ same.
            let here : uri x ≡ at = same_is (uri x) at same in
            let none : found_at uri told rest at ≡ None =
            subst (λ (u : List ℕ). found_at uri told rest u ≡ None) here (none_above rest (uri x) (sorted_head (on uri uri_cmp) x rest up)) in
            absurd (none-some v (sym none ∙ there))
        | false ↦ λ other. there
      ] refl

  pub each_found : (Good : List ℕ → V → Type 0) (xs : List X) → Rise uri xs
      → ((at : List ℕ) (v : V) → found_at uri told xs at ≡ Some v → Good at v) → AllByRecursion (λ x. Good (uri x) (told x)) xs
  each_found Good [] up each = tt
  each_found Good (x ∷ rest) up each = (
    each (uri x) (told x) (rw (same_self (uri x)) refl),
    each_found Good rest (sorted_tail (on uri uri_cmp) x rest up) (λ at v there. each at v (later x rest up at v there)),
  )

-- ---- bytes

abbrev pub AreOfBytes : Contents → Type 0
AreOfBytes set = (uri bytes : List ℕ) → set uri ≡ Some bytes → AreBytes bytes

left_of_bytes : (held : Contents) (c : Change) → AreOfBytes held → IsOfBytes c → (uri bytes : List ℕ) (same : Bool)
    → cond same (left_by c) (held uri) ≡ Some bytes → AreBytes bytes
left_of_bytes held (Put at put replaces) before is uri bytes true there = subst AreBytes (let same : put ≡ bytes = cc in same) is
left_of_bytes held (Withdraw at hash) before is uri bytes true there = absurd (none-some bytes there)
left_of_bytes held c before is uri bytes false there = before uri bytes there

changes_of_bytes : (held : Contents) (changes : List Change) → AreOfBytes held → AllByRecursion IsOfBytes changes
    → AreOfBytes (after_all held changes)
changes_of_bytes held [] before all = before
changes_of_bytes held (c ∷ rest) before all =
    changes_of_bytes (after held c) rest
    (λ uri bytes there. left_of_bytes held c before all.0 uri bytes (is_same (uri_of c) uri) there) all.1

editions_of_bytes : (state : State) (editions : List Edition) → AreOfBytes state.set
    → ((place : ℕ) (edition : Edition) → slice_get editions place ≡ Some edition → All IsOfBytes edition.changes)
    → AreOfBytes (state_from state editions).set
editions_of_bytes state [] before each = before
editions_of_bytes state (edition ∷ rest) before each =
    editions_of_bytes (after_edition state edition) rest
    (changes_of_bytes state.set edition.changes before (recursion_from_All IsOfBytes edition.changes (each 0 edition refl)))
    (λ place x there. each (suc place) x there)

pub sets_of_bytes : (editions : List Edition)
    → ((place : ℕ) (edition : Edition) → slice_get editions place ≡ Some edition → All IsOfBytes edition.changes)
    → AreOfBytes (set_after editions)
sets_of_bytes editions each = editions_of_bytes first_state editions (λ uri bytes there. absurd (none-some bytes there)) each

-- ---- changes

joined-bytes : (a b : List ℕ) → AreBytes a → AreBytes b → AreBytes (a ++ b)
joined-bytes [] b first second i = second i
joined-bytes (c ∷ a) b first second zero = first zero
joined-bytes (c ∷ a) b first second (suc i) = joined-bytes a b (λ j. first (suc j)) second i

digest-bytes : (h : List ℕ) (n : ℕ) → AreBytes (digest_bytes h n)
unfolding digest_bytes
digest-bytes h zero i = omega arith
digest-bytes h (suc n) i = joined-bytes (digest_bytes h n) (to_be_bytes w32 (slice_index h n))
    (digest-bytes h n) (high-bytes 4 (slice_index h n)) i

hash-bytes : (message : List ℕ) → AreBytes (sha256 message)
unfolding sha256
hash-bytes message = digest-bytes _ 8

digest : (message : List ℕ) → IsHash (sha256 message)
digest message = record { size = length-sha256 message; bytes = hash-bytes message }

pub change_is : (uri : List ℕ) (held wanted : Option (List ℕ)) (c : Change) → difference uri held wanted ≡ Some c
    → (IsSome held → IsUri uri) → (IsSome wanted → IsUri uri) → ((bytes : List ℕ) → wanted ≡ Some bytes → AreBytes bytes)
    → IsChange c
change_is uri None None c is old new bytes = absurd (none-some c is)
change_is uri None (Some wanted) c is old new bytes =
    let same : Put uri wanted None ≡ c = cc in
    subst IsChange same (new refl, bytes wanted refl)
change_is uri (Some held) None c is old new bytes =
    let same : Withdraw uri (sha256 held) ≡ c = cc in
    subst IsChange same (old refl, digest held)
change_is uri (Some held) (Some wanted) c is old new bytes =
    elim (bytes_eq held wanted) as (λ b. cond b None (Some (Put uri wanted (Some (sha256 held)))) ≡ Some c → IsChange c) [
      | true ↦ λ none. absurd (none-some c none)
      | false ↦ λ some.
          let same : Put uri wanted (Some (sha256 held)) ≡ c = cc in
          subst IsChange same (new refl, digest held, bytes wanted refl)
    ] is

-- ---- objects

pub objects_are : (objects : List Object) → AllByRecursion (λ o. IsUri o.uri × AreBytes o.bytes) objects → AllByRecursion IsObject objects
objects_are [] all = tt
objects_are (o ∷ rest) all = (record { uri = all.0.0; bytes = all.0.1 }, objects_are rest all.1)
