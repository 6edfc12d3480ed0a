-- The laws of entries and of families.
use Rattle.std.proofs.Common.{◌≡◌, ℕ, ◌^◌, ◌<◌, ◌≤◌, Bool, true, false, cond, ◌&&◌, eqb, ltb, leb, Option, Some, None, List, refl, sym, ap, subst, ◌∙◌, arith}
use Rattle.std.proofs.lemmas.Bool.{eqb-true, eqb-false, eq-eqb, ne_eqb, lt-ltb, le-leb, leb-true, ltb-true, and_parts}
use Rattle.der.specs.Tags as tag
use Rattle.origins.specs.Prefix.{address_bits, IsPrefix}
use Rattle.der.specs.Form.{Front, IsWhole, IsFront}
use Rattle.der.specs.Forms.{sole, after, both, only, maybe, many, tested, OnSomeOf}
use Rattle.der.specs.Leaves.{number, are_same}
use Rattle.der.specs.laws.LeafLaws.{number-law, same-lists}
use Rattle.der.specs.laws.FormLaws.{leaf-law, within-law}
use Rattle.der.specs.laws.FrameLaws.{sole-law}
use Rattle.der.specs.laws.SequenceLaws.{after-law, both-law, only-law}
use Rattle.der.specs.laws.ChoiceLaws.{maybe-law}
use Rattle.der.specs.laws.ListLaws.{many-law}
use Rattle.der.specs.laws.ValueLaws.{through-law, tested-law}
use Rattle.payloads.specs.Prefixes.{prefix, IsPrefixOf}
use Rattle.payloads.specs.laws.PrefixLaws.{prefix-law, let_through}
use Rattle.payloads.specs.RoaFormats.{Entry, IsEntry, entry_parts, entry_with, entry_of, IsEntryOf, entry_content, entry, family_bytes, family_in, family_number, has_some, family}

-- ---- entries

entry-back : (e : Entry) → IsEntry e → (b : Bool) → eqb e.max e.len ≡ b
    → entry_of (e.v6, e.address, e.len) (cond b None (Some e.max)) ≡ Some e
unfolding entry_of
entry-back e is true same = ap (λ (m : ℕ). Some (entry_with (e.v6, e.address, e.len) m))
    (sym (eqb-true e.max e.len same))
entry-back e is false differs =
    let apart = eqb-false e.max e.len differs in
    let above : ltb e.len e.max ≡ true =
    lt-ltb e.len e.max (omega (arith, is.maximum.at_least, apart)) in
    let within : leb e.max (address_bits e.v6) ≡ true =
    le-leb e.max (address_bits e.v6) is.maximum.at_most in
    rw (above, within) refl

-- The parts of an entry whose maximum is another than its length.
abbrev parts_by : Entry → Bool → (Bool × ℕ × ℕ) × Option ℕ
parts_by e b = ((e.v6, e.address, e.len), cond b None (Some e.max))

entry-there : (x : Bool × ℕ × ℕ) (o : Option ℕ) (e : Entry) → IsPrefix x.0 x.1 x.2
    → entry_of x o ≡ Some e → ((e.v6 ≡ x.0) × IsEntry e) × (entry_parts e ≡ (x, o))
unfolding entry_of
entry-there x None e is h =
    let p = let_through true (entry_with x x.2) e h in
    subst (λ (z : Entry). ((z.v6 ≡ x.0) × IsEntry z) × (entry_parts z ≡ (x, None))) p.1 (
      (
        refl,
        record
            { prefix = is; maximum = record { at_least = omega arith; at_most = is.short } },
      ),
      ap (parts_by (entry_with x x.2)) (eq-eqb x.2 x.2 refl),
    )
entry-there x (Some max) e is h =
    let p = let_through (ltb x.2 max && leb max (address_bits x.0)) (entry_with x max) e h in
    let q = and_parts (ltb x.2 max) (leb max (address_bits x.0)) p.0 in
    let above : x.2 < max = ltb-true x.2 max q.0 in
    let within : max ≤ address_bits x.0 = leb-true max (address_bits x.0) q.1 in
    subst (λ (z : Entry). ((z.v6 ≡ x.0) × IsEntry z) × (entry_parts z ≡ (x, Some max))) p.1 (
      (
        refl,
        record
            { prefix = is; maximum = record { at_least = omega (arith, above); at_most = within } },
      ),
      ap (parts_by (entry_with x max)) (ne_eqb max x.2 (λ e. omega (arith, e, above))),
    )

pub entry_content-law : (v6 : Bool) → IsWhole (entry_content v6)
entry_content-law v6 = through-law (both (prefix v6) (maybe (only number)))
    (λ x. entry_of x.0 x.1) entry_parts (IsEntryOf v6)
    (both-law (prefix v6) (maybe (only number)) (prefix-law v6)
    (maybe-law (only number) (only-law number number-law) (λ n good. number-law.some n good)))
    (record { back = back; there = there })
  where
    small : (m : ℕ) (x : Bool × ℕ × ℕ) → m ≤ address_bits x.0 → m < 2 ^ 64
    small m (true, a, l) le = omega (arith, le)
    small m (false, a, l) le = omega (arith, le)

    fits : (b : Bool) (m : ℕ) → m < 2 ^ 64 → OnSomeOf (λ n. n < 2 ^ 64) (cond b None (Some m))
    fits true m le = tt
    fits false m le = le

    back : (e : Entry) → IsEntryOf v6 e
        → ((IsPrefixOf v6 (e.v6, e.address, e.len))
        × OnSomeOf (λ n. n < 2 ^ 64) (entry_parts e).1)
        × (entry_of (entry_parts e).0 (entry_parts e).1 ≡ Some e)
    back e good = (
      (
        (good.0, good.1.prefix),
        fits (eqb e.max e.len) e.max
            (small e.max (e.v6, e.address, e.len) good.1.maximum.at_most),
      ),
      entry-back e good.1 (eqb e.max e.len) refl,
    )

    there : (x : (Bool × ℕ × ℕ) × Option ℕ) (e : Entry)
        → IsPrefixOf v6 x.0 × OnSomeOf (λ n. n < 2 ^ 64) x.1 → entry_of x.0 x.1 ≡ Some e
        → IsEntryOf v6 e × (entry_parts e ≡ x)
    there x e good h =
        let t = entry-there x.0 x.1 e good.0.1 h in
        ((t.0.0 ∙ good.0.0, t.0.1), t.1)

pub entry-law : (v6 : Bool) → IsFront (entry v6)
entry-law v6 = within-law tag.sequence (entry_content v6) (entry_content-law v6)

-- ---- families

pub family_number-law : IsFront family_number
family_number-law =
    within-law tag.octet_string _
    (leaf-law (λ (v6 : Bool). Unit {0}) family_bytes family_in (record {
      again = λ v6 good input. again v6;
      taken = λ v6 bytes input e. (
        tt,
        taken bytes (are_same bytes (family_bytes false)) (are_same bytes (family_bytes true))
            v6 refl refl e,
      );
    }))
  where
    again : (v6 : Bool) → family_in (family_bytes v6) ≡ Some v6
    again true = refl
    again false = refl

    taken : (bytes : List ℕ) (a b v6 : Bool) → are_same bytes (family_bytes false) ≡ a
        → are_same bytes (family_bytes true) ≡ b
        → cond a (Some false) (cond b (Some true) None) ≡ Some v6 → bytes ≡ family_bytes v6
    taken bytes true b v6 first second e = same-lists bytes (family_bytes false) first
        ∙ ap family_bytes (let_through true false v6 e).1
    taken bytes false b v6 first second e =
        let p = let_through b true v6 e in
        same-lists bytes (family_bytes true) (second ∙ p.0) ∙ ap family_bytes p.1

pub family-law : {A : Type 0} (f : Bool → Front A) → ((v6 : Bool) → IsFront (f v6))
    → IsFront (family f)
unfolding family
family-law f laws =
    within-law tag.sequence
    (after family_number (λ v6. sole tag.sequence (tested (many (f v6)) has_some)))
    (after-law family_number (λ v6. sole tag.sequence (tested (many (f v6)) has_some))
    family_number-law
    (λ v6 good. sole-law tag.sequence (tested (many (f v6)) has_some)
    (tested-law (many (f v6)) has_some (many-law (f v6) (laws v6)))))
