-- The laws of formats of single elements.
use Rattle.std.proofs.Common.{◌≡◌, ℕ, ◌<◌, ◌^◌, Bool, true, false, ◌&&◌, cond, eqb, ltb, Option, Some, None, List, [], ◌∷◌, length, Result, Ok, Err, refl, sym, ap, ◌∙◌, suc, subst}
use Rattle.std.specs.Result.{result_ok}
use Rattle.std.proofs.lemmas.Bool.{eq-eqb, eqb-true, and_parts, and_from}
use Rattle.der.specs.Tags as tag
use Rattle.der.specs.Spelling.{unsigned_content, AreBits}
use Rattle.der.specs.Grammar.{AreBytes}
use Rattle.der.specs.Reading.{number_of, bits_of}
use Rattle.der.specs.laws.ContentLaws.{number-again, number-taken, bits_of-again, content-bits}
use Rattle.der.specs.declared.fault.DerFault.{DerFault}
use Rattle.der.specs.Form.{IsWhole, IsFront}
use Rattle.der.specs.Forms.{content}
use Rattle.der.specs.laws.FormLaws.{leaf-law, content-law, within-law}
use Rattle.der.specs.laws.ValueLaws.{tested-law, tested_front-law}
use Rattle.der.specs.Leaves.{number_in, number_content, number, short_number, bits_in, bits_content, bits, octets, fixed, are_same, exactly, constant, octets_in, octet_bits}

found : {A : Type 0} (r : Result A DerFault) (x : A) → result_ok r ≡ Some x → r ≡ Ok x
found {A = A} (Ok y) x e = ap (λ (v : A). Ok v) (same y x e)
  where
    same : (a b : A) → Some a ≡ Some b → a ≡ b
    same a b e = cc
found (Err d) x e = absurd cc

pub number_content-law : IsWhole number_content
unfolding number_in
number_content-law = leaf-law (λ n. n < 2 ^ 64) unsigned_content number_in (record {
  again = λ n good input. ap result_ok (number-again 0 n good);
  taken = λ n bytes input e. number-taken 0 bytes n input.bytes (found (number_of 0 bytes) n e);
})

pub number-law : IsFront number
number-law = within-law tag.integer number_content number_content-law

pub short_number-law : IsFront short_number
short_number-law = tested_front-law number (λ n. ltb n (2 ^ 32)) number-law

pub bits_content-law : IsWhole bits_content
unfolding bits_in
bits_content-law = leaf-law (λ (x : ℕ × List ℕ). AreBits x.0 x.1 × AreBytes x.1) (λ x. x.0 ∷ x.1) bits_in (record {
  again = λ x good input. ap result_ok (bits_of-again 0 x.0 x.1 good.0);
  taken = λ x bytes input e.
      let t = content-bits 0 bytes x (found (bits_of 0 bytes) x e) in
      let fits : AreBytes (x.0 ∷ x.1) = subst AreBytes t.0 input.bytes in
      ((t.1, λ i. fits (suc i)), t.0);
})

pub bits-law : IsFront bits
bits-law = within-law tag.bit_string bits_content bits_content-law

pub octets-law : IsFront octets
octets-law = within-law tag.octet_string content content-law

pub fixed-law : (count : ℕ) → IsWhole (fixed count)
fixed-law count = tested-law content (λ bytes. eqb (length bytes) count) content-law

pub same-self : (bytes : List ℕ) → are_same bytes bytes ≡ true
same-self [] = refl
same-self (b ∷ bytes) = and_from _ _ (eq-eqb b b refl) (same-self bytes)

pub same-lists : (a b : List ℕ) → are_same a b ≡ true → a ≡ b
same-lists [] [] e = refl
same-lists [] (b ∷ bs) e = absurd cc
same-lists (a ∷ more) [] e = absurd cc
same-lists (a ∷ more) (b ∷ bs) e =
    let p = and_parts (eqb a b) (are_same more bs) e in
    ap (λ (x : ℕ). x ∷ more) (eqb-true a b p.0) ∙ ap (λ (l : List ℕ). b ∷ l) (same-lists more bs p.1)

abbrev here : Option (Unit {0})
here = Some tt

abbrev nowhere : Option (Unit {0})
nowhere = None

is-true : (b : Bool) (x : Unit {0}) → cond b here nowhere ≡ Some x → b ≡ true
is-true true x e = refl
is-true false x e = absurd cc

pub exactly-law : (bytes : List ℕ) → IsWhole (exactly bytes)
exactly-law bytes = leaf-law (λ (x : Unit {0}). Unit {0}) (λ x. bytes) (λ other. cond (are_same other bytes) here nowhere) (record {
  again = λ x good input. rw (same-self bytes) refl;
  taken = λ x other input e. (tt, same-lists other bytes (is-true (are_same other bytes) x e));
})

pub constant-law : (tag : ℕ) (bytes : List ℕ) → IsFront (constant tag bytes)
constant-law tag bytes = within-law tag (exactly bytes) (exactly-law bytes)

pub octet_bits-law : (count : ℕ) → IsWhole (octet_bits count)
octet_bits-law count = leaf-law (λ (bytes : List ℕ). length bytes ≡ count) (λ bytes. 0 ∷ bytes) (octets_in count) (record {
  again = λ bytes good input. rw (eq-eqb (length bytes) count good) refl;
  taken = λ x bytes input e. taken bytes x e;
})
  where
    passed : (b : Bool) (rest x : List ℕ) → cond b (Some rest) None ≡ Some x → (b ≡ true) × (rest ≡ x)
    passed true rest x e = (refl, cc)
    passed false rest x e = absurd cc

    taken : (bytes x : List ℕ) → octets_in count bytes ≡ Some x → (length x ≡ count) × (bytes ≡ 0 ∷ x)
    taken [] x e = absurd cc
    taken (unused ∷ bytes) x e =
        let p = passed (eqb unused 0 && eqb (length bytes) count) bytes x e in
        let q = and_parts (eqb unused 0) (eqb (length bytes) count) p.0 in
        (ap length (sym p.1) ∙ eqb-true (length bytes) count q.1, ap (λ (u : ℕ). u ∷ bytes) (eqb-true unused 0 q.0) ∙ ap (λ (l : List ℕ). 0 ∷ l) p.1)
