-- The first line and the lines of objects and changes are read exactly.
use Rattle.std.proofs.Common.{unwrap_or, ◌≡◌, ℕ, true, false, List, [], ◌∷◌, ◌++◌, ◌⊎◌, inl, inr, Option, Some, None, refl, sym, ap, ◌∙◌, append_assoc, if◌then◌else◌, codes}
use Rattle.std.proofs.lemmas.List.{append-nil}
use Rattle.pub_set.specs.Changes.{uri_of}
use Rattle.pub_set.specs.declared.objects.Object.{Object}
use Rattle.pub_set.specs.declared.steps.Change.{Change}
use Rattle.pub_set.specs.declared.steps.Change.TheVariants.{Put, Withdraw}
use Rattle.rrdp_text.specs.Reading.{begins}
use Rattle.rrdp_text.specs.Template.{opening_in, content_in, hash_in, object_in, replaced_in, placed_in, put_in, withdraw_in, change_in, quote, opens}
use Rattle.rrdp_text.specs.Texts.{head, opening, opening_behind, hash_text, content_text, object_text, change_text}
use Rattle.rrdp_text.specs.Values.{AreBytes, IsHash, IsOpening}
use Rattle.rrdp_text.proofs.Exact.{Exact, literal_then, behind, done, either, same, Begins}
use Rattle.rrdp_text.proofs.FieldLaws.{field_exact}
use Rattle.rrdp_text.proofs.FieldKinds.{uri_field, hash_field, serial_field, session_field, content_field, IsUriAbove}

pub opening_exact : (name : List ℕ) → Exact (λ (v : List ℕ × ℕ). IsOpening v.0 v.1) (λ v. opening name v.0 v.1) (opening_in (head name))
unfolding opening_in opening_behind
opening_exact name = same
    (literal_then (head name) (behind (λ v. v.0) (field_exact quote session_field refl) (λ id _.
    literal_then (codes " serial=\"") (behind (λ v. v.1) (field_exact quote serial_field refl) (λ number _.
    literal_then (codes ">\n") (done (id, number))) (λ number v good. ap (λ (w : List ℕ × ℕ). w.1) good)))
    (λ id v good. ap (λ (w : List ℕ × ℕ). w.0) good.1)))
    (λ v good. (record { uuid = good.0; fits = good.1.0 }, simp (append_assoc, append-nil)))
    (λ v also. (also.uuid, (also.fits, refl)))

pub content_exact : Exact AreBytes content_text content_in
unfolding content_in content_text
content_exact = same
    (literal_then (codes ">") (behind (λ b. b) (field_exact opens content_field refl) (λ bytes _.
    literal_then (codes "/publish>\n") (done bytes)) (λ bytes v good. good)))
    (λ v good. (good.0, simp (append_assoc, append-nil)))
    (λ v also. (also, refl))

pub hash_exact : Exact IsHash hash_text hash_in
unfolding hash_in hash_text
hash_exact = same (literal_then (codes " hash=\"") (field_exact quote hash_field refl)) (λ h good. (good, simp append_assoc)) (λ h also. also)

-- ---- lines of objects

pub record IsObjectBehind (previous : List ℕ) (o : Object) : Type 0 where
  pub uri : IsUriAbove previous o.uri
  pub bytes : AreBytes o.bytes

pub object_exact : (previous : List ℕ) → Exact (IsObjectBehind previous) object_text (object_in previous)
unfolding object_in object_text
object_exact previous = same
    (literal_then (codes "  <publish uri=\"") (behind (λ (o : Object). o.uri) (field_exact quote (uri_field previous) refl) (λ uri _.
    behind (λ (o : Object). o.bytes) content_exact (λ bytes _. done (record { uri = uri; bytes = bytes }))
    (λ bytes o good. ap (λ (x : Object). x.bytes) good))
    (λ uri o good. ap (λ (x : Object). x.uri) good.1)))
    (λ o good. (record { uri = good.0; bytes = good.1.0 }, simp (append_assoc, append-nil)))
    (λ o also. (also.uri, (also.bytes, refl)))

pub object_begins : (previous : List ℕ) → Begins true 32 (IsObjectBehind previous) object_text
unfolding object_text
object_begins previous o good rest = refl

-- ---- lines of changes

pair_is : (v : Option (List ℕ) × List ℕ) (o : Option (List ℕ)) → v.0 ≡ o → v ≡ (o, v.1)
pair_is v o e = ap (λ (x : Option (List ℕ)). (x, v.1)) e

-- the hash and the content of a put
abbrev IsReplaced : Option (List ℕ) × List ℕ → Type 0
IsReplaced v = IsHash (unwrap_or v.0 []) × AreBytes v.1 × (v.0 ≡ Some (unwrap_or v.0 []))

abbrev IsPlaced : Option (List ℕ) × List ℕ → Type 0
IsPlaced v = AreBytes v.1 × (v.0 ≡ None)

abbrev put_tail : Option (List ℕ) × List ℕ → List ℕ
put_tail v = elim (v.0) [ None ↦ content_text v.1 | Some h ↦ hash_text h ++ content_text v.1 ]

put_tail_some : (v : Option (List ℕ) × List ℕ) (h : List ℕ) → v.0 ≡ Some h → put_tail v ≡ hash_text h ++ content_text v.1
put_tail_some v h e = rw e refl

put_tail_none : (v : Option (List ℕ) × List ℕ) → v.0 ≡ None → put_tail v ≡ content_text v.1
put_tail_none v e = rw e refl

replaced_exact : Exact IsReplaced put_tail replaced_in
unfolding replaced_in
replaced_exact = same
    (behind (λ (v : Option (List ℕ) × List ℕ). unwrap_or v.0 []) hash_exact (λ h _.
    behind (λ (v : Option (List ℕ) × List ℕ). v.1) content_exact (λ bytes _. done (Some h, bytes))
    (λ bytes v good. ap (λ (x : Option (List ℕ) × List ℕ). x.1) good))
    (λ h v good. ap (λ (x : Option (List ℕ) × List ℕ). unwrap_or x.0 []) good.1))
    (λ v good.
    let some : v.0 ≡ Some (unwrap_or v.0 []) = ap (λ (x : Option (List ℕ) × List ℕ). x.0) good.1.1 in
    ((good.0, good.1.0, some), simp append-nil (sym (put_tail_some v (unwrap_or v.0 []) some))))
    (λ v also. (also.0, (also.1, pair_is v (Some (unwrap_or v.0 [])) also.2)))

placed_exact : Exact IsPlaced put_tail placed_in
unfolding placed_in
placed_exact = same
    (behind (λ (v : Option (List ℕ) × List ℕ). v.1) content_exact (λ bytes _. done (None, bytes))
    (λ bytes v good. ap (λ (x : Option (List ℕ) × List ℕ). x.1) good))
    (λ v good.
    let none : v.0 ≡ None = ap (λ (x : Option (List ℕ) × List ℕ). x.0) good.1 in
    ((good.0, none), append-nil (content_text v.1) ∙ sym (put_tail_none v none)))
    (λ v also. (also.0, pair_is v None also.1))

replaced_begins : Begins true 32 IsReplaced put_tail
unfolding hash_text
replaced_begins v good rest = rw (put_tail_some v (unwrap_or v.0 []) good.2) refl

placed_begins : Begins false 32 IsPlaced put_tail
unfolding content_text
placed_begins v good rest = rw (put_tail_none v good.1) refl

parts_exact : Exact (λ v. IsReplaced v ⊎ IsPlaced v) put_tail (λ s. if begins 32 s then replaced_in s else placed_in s)
parts_exact = either 32 replaced_exact placed_exact replaced_begins placed_begins

-- a change behind one at another URI
abbrev IsPutBehind : List ℕ → Change → Type 0
IsPutBehind previous (Put uri bytes None) = IsUriAbove previous uri × AreBytes bytes
IsPutBehind previous (Put uri bytes (Some digest)) = IsUriAbove previous uri × IsHash digest × AreBytes bytes
IsPutBehind previous (Withdraw uri digest) = ⊥

abbrev IsWithdrawBehind : List ℕ → Change → Type 0
IsWithdrawBehind previous (Put uri bytes replaces) = ⊥
IsWithdrawBehind previous (Withdraw uri digest) = IsUriAbove previous uri × IsHash digest

-- a line behind its first bracket
abbrev line_tail : Change → List ℕ
line_tail (Put uri bytes replaces) = codes "publish uri=\"" ++ (uri ++ (codes "\"" ++ put_tail (replaces, bytes)))
line_tail (Withdraw uri digest) = codes "withdraw uri=\"" ++ (uri ++ (codes "\"" ++ (hash_text digest ++ codes "/>\n")))

abbrev parts_of : Change → Option (List ℕ) × List ℕ
parts_of (Put uri bytes replaces) = (replaces, bytes)
parts_of (Withdraw uri digest) = (Some digest, [])

abbrev hash_of : Change → List ℕ
hash_of (Put uri bytes replaces) = []
hash_of (Withdraw uri digest) = digest

put_to : (previous : List ℕ) (c : Change)
    → IsUriAbove previous (uri_of c) × ((IsReplaced (parts_of c) ⊎ IsPlaced (parts_of c)) × (c ≡ Put (uri_of c) (parts_of c).1 (parts_of c).0))
    → IsPutBehind previous c × (codes "publish uri=\"" ++ ((uri_of c ++ (quote ∷ [])) ++ (put_tail (parts_of c) ++ [])) ≡ line_tail c)
put_to previous (Put uri bytes None) good = elim good.1.0 [
  | inl replaced ↦ cc replaced.2
  | inr placed ↦ ((good.0, placed.0), simp (append_assoc, append-nil))
]
put_to previous (Put uri bytes (Some digest)) good = elim good.1.0 [
  | inl replaced ↦ ((good.0, replaced.0, replaced.1), simp (append_assoc, append-nil))
  | inr placed ↦ cc placed.1
]
put_to previous (Withdraw uri digest) good = let bad = good.1.1 in cc bad

put_from : (previous : List ℕ) (c : Change) → IsPutBehind previous c
    → IsUriAbove previous (uri_of c) × ((IsReplaced (parts_of c) ⊎ IsPlaced (parts_of c)) × (c ≡ Put (uri_of c) (parts_of c).1 (parts_of c).0))
put_from previous (Put uri bytes None) also = (also.0, (inr (also.1, refl), refl))
put_from previous (Put uri bytes (Some digest)) also = (also.0, (inl (also.1, also.2, refl), refl))
put_from previous (Withdraw uri digest) also = absurd also

put_exact : (previous : List ℕ) → Exact (IsPutBehind previous) line_tail (put_in previous)
unfolding put_in
put_exact previous = same
    (literal_then (codes "publish uri=\"") (behind uri_of (field_exact quote (uri_field previous) refl) (λ uri _.
    behind parts_of parts_exact (λ parts _. done (Put uri parts.1 parts.0)) (λ parts c good. ap parts_of good))
    (λ uri c good. ap uri_of good.1)))
    (put_to previous) (put_from previous)

withdraw_to : (previous : List ℕ) (c : Change)
    → IsUriAbove previous (uri_of c) × (IsHash (hash_of c) × (c ≡ Withdraw (uri_of c) (hash_of c)))
    → IsWithdrawBehind previous c × (codes "withdraw uri=\"" ++ ((uri_of c ++ (quote ∷ [])) ++ (hash_text (hash_of c) ++ (codes "/>\n" ++ []))) ≡ line_tail c)
withdraw_to previous (Put uri bytes replaces) good = let bad = good.1.1 in cc bad
withdraw_to previous (Withdraw uri digest) good = ((good.0, good.1.0), simp (append_assoc, append-nil))

withdraw_from : (previous : List ℕ) (c : Change) → IsWithdrawBehind previous c
    → IsUriAbove previous (uri_of c) × (IsHash (hash_of c) × (c ≡ Withdraw (uri_of c) (hash_of c)))
withdraw_from previous (Put uri bytes replaces) also = absurd also
withdraw_from previous (Withdraw uri digest) also = (also.0, (also.1, refl))

withdraw_exact : (previous : List ℕ) → Exact (IsWithdrawBehind previous) line_tail (withdraw_in previous)
unfolding withdraw_in
withdraw_exact previous = same
    (literal_then (codes "withdraw uri=\"") (behind uri_of (field_exact quote (uri_field previous) refl) (λ uri _.
    behind hash_of hash_exact (λ h _. literal_then (codes "/>\n") (done (Withdraw uri h))) (λ h c good. ap hash_of good))
    (λ uri c good. ap uri_of good.1)))
    (withdraw_to previous) (withdraw_from previous)

put_begins : (previous : List ℕ) → Begins true 112 (IsPutBehind previous) line_tail
put_begins previous (Put uri bytes replaces) good rest = refl
put_begins previous (Withdraw uri digest) good rest = absurd good

withdraw_begins : (previous : List ℕ) → Begins false 112 (IsWithdrawBehind previous) line_tail
withdraw_begins previous (Put uri bytes replaces) good rest = absurd good
withdraw_begins previous (Withdraw uri digest) good rest = refl

abbrev pub IsChangeBehind : List ℕ → Change → Type 0
IsChangeBehind previous (Put uri bytes None) = IsUriAbove previous uri × AreBytes bytes
IsChangeBehind previous (Put uri bytes (Some digest)) = IsUriAbove previous uri × IsHash digest × AreBytes bytes
IsChangeBehind previous (Withdraw uri digest) = IsUriAbove previous uri × IsHash digest

change_to : (previous : List ℕ) (c : Change) → IsPutBehind previous c ⊎ IsWithdrawBehind previous c
    → IsChangeBehind previous c × (codes "  <" ++ line_tail c ≡ change_text c)
unfolding change_text
change_to previous (Put uri bytes None) good = elim good [ inl put ↦ (put, simp append_assoc) | inr bad ↦ absurd bad ]
change_to previous (Put uri bytes (Some digest)) good = elim good [ inl put ↦ (put, simp append_assoc) | inr bad ↦ absurd bad ]
change_to previous (Withdraw uri digest) good = elim good [ inl bad ↦ absurd bad | inr withdraw ↦ (withdraw, simp append_assoc) ]

change_from : (previous : List ℕ) (c : Change) → IsChangeBehind previous c → IsPutBehind previous c ⊎ IsWithdrawBehind previous c
change_from previous (Put uri bytes None) also = inl also
change_from previous (Put uri bytes (Some digest)) also = inl also
change_from previous (Withdraw uri digest) also = inr also

pub change_exact : (previous : List ℕ) → Exact (IsChangeBehind previous) change_text (change_in previous)
unfolding change_in
change_exact previous = same
    (literal_then (codes "  <") (either 112 (put_exact previous) (withdraw_exact previous) (put_begins previous) (withdraw_begins previous)))
    (change_to previous) (change_from previous)

pub change_begins : (previous : List ℕ) → Begins true 32 (IsChangeBehind previous) change_text
unfolding change_text
change_begins previous (Put uri bytes None) good rest = refl
change_begins previous (Put uri bytes (Some digest)) good rest = refl
change_begins previous (Withdraw uri digest) good rest = refl
