-- Checks, and what calls tell that ask no signer.
use Rattle.std.proofs.Common.{◌≡◌, ℕ, Bool, true, false, List, [], ◌∷◌, Option, None, Some, Result, Ok, Err, refl, sym, ap, subst, ◌∙◌}
use Rattle.std.specs.Prelude.{if◌then◌else◌, string_bytes, IfOk, IfSome}
use Rattle.std.specs.Option.{option_map}
use Rattle.std.specs.Str.{bytes_eq}
use Rattle.sha2.specs.Sha256.{sha256}
use Rattle.pub_set.specs.Changes.{Contents}
use Rattle.rp_rules.specs.Certificates.{File, listed_bytes}
use Rattle.rp_rules.specs.declared.rules.Rule.{Rule}
use Rattle.rp_rules.specs.declared.rules.Rule.TheVariants as rule
use Rattle.rp_rules.specs.Checks.{Refused as Refusal, Checked, Test, ◌>>=◌, refused, tested, found}
use Rattle.rp_audit.specs.declared.refusal.AuditRefused.{AuditRefused}
use Rattle.rp_audit.specs.declared.refusal.AuditRefused.TheVariants.{Refused, Unreached, SignerFault, Memory}
use Rattle.rp_audit.specs.inner.Told.{IsRefusal, Tells, kept, read_as}

-- ---- checks one after another

pub bind_ok : {A B : Type 0} (m : Checked A) (f : A → Checked B) (x : A) → m ≡ Ok x → (m >>= f) ≡ f x
bind_ok {A} {B} m f x e = ap (λ (k : Checked A). k >>= f) e

pub bind_err : {A B : Type 0} (m : Checked A) (f : A → Checked B) (c : Refusal) → m ≡ Err c → (m >>= f) ≡ Err c
bind_err {A} {B} m f c e = ap (λ (k : Checked A). k >>= f) e

pub bind_assoc : {A B C : Type 0} (m : Checked A) (f : A → Checked B) (g : B → Checked C) → (m >>= (λ x. f x >>= g)) ≡ ((m >>= f) >>= g)
bind_assoc (Ok x) f g = refl
bind_assoc (Err c) f g = refl

-- ---- tests

if_ok : {A : Type 0} (b : Bool) (m : Checked (Unit {0})) (n : Checked A) (c : Refusal) (x : A) → (m ≡ Ok tt → n ≡ Ok x) → (if b then m else Err c) ≡ Ok tt → (if b then n else Err c) ≡ Ok x
if_ok true m n c x goes e = goes e
if_ok false m n c x goes e = cc

if_err : {A : Type 0} (b : Bool) (m : Checked (Unit {0})) (n : Checked A) (c d : Refusal) → (m ≡ Err d → n ≡ Err d) → (if b then m else Err c) ≡ Err d → (if b then n else Err c) ≡ Err d
if_err true m n c d goes e = goes e
if_err false m n c d goes e = cc

-- What is tested is given where each rule is kept.
pub tested_ok : {A : Type 0} (uri : List ℕ) (tests : List Test) (x : A) → kept uri tests ≡ Ok tt → tested uri tests x ≡ Ok x
tested_ok uri [] x e = refl
tested_ok uri (t ∷ ts) x e = if_ok t.1 (kept uri ts) (tested uri ts x) (record { uri = uri; rule = t.0 }) x (tested_ok uri ts x) e

pub tested_err : {A : Type 0} (uri : List ℕ) (tests : List Test) (x : A) (d : Refusal) → kept uri tests ≡ Err d → tested uri tests x ≡ Err d
tested_err uri [] x d e = cc
tested_err uri (t ∷ ts) x d e = if_err t.1 (kept uri ts) (tested uri ts x) (record { uri = uri; rule = t.0 }) d (tested_err uri ts x d) e

-- ---- what is told

pub refusal_tells : {A B : Type 0} (view : A → B) (m : Checked B) (uri : List ℕ) (rule : Rule) (e : AuditRefused) → m ≡ refused uri rule → IsRefusal uri rule e → Tells view m (Err e)
refusal_tells view m uri rule (Refused text broken) is told = cc
refusal_tells view m uri rule (Unreached text) is told = told
refusal_tells view m uri rule (SignerFault n) is told = told
refusal_tells view m uri rule Memory is told = tt

pub memory_tells : {A B : Type 0} (view : A → B) (m : Checked B) (e : AuditRefused) → e ≡ Memory → Tells view m (Err e)
memory_tells view m e is = subst (λ (f : AuditRefused). Tells view m (Err f)) (sym is) tt

-- What ended the first check ends all.
pub tells_stop : {A B C D : Type 0} (v : A → B) (w : C → D) (m : Checked B) (n : Checked D) (e : AuditRefused) → ((c : Refusal) → m ≡ Err c → n ≡ Err c) → Tells v m (Err e) → Tells w n (Err e)
tells_stop v w m n (Refused text broken) goes told = goes (record { uri = string_bytes text; rule = broken }) told
tells_stop v w m n (Unreached text) goes told = told
tells_stop v w m n (SignerFault k) goes told = told
tells_stop v w m n Memory goes told = tt

pub found_tells : {A B : Type 0} (view : A → B) (uri : List ℕ) (rule : Rule) (o : Option A) (r : Result A AuditRefused) → Tells (λ x. x) (found uri rule o) r → Tells view (found uri rule (option_map view o)) r
found_tells view uri rule (Some x) (Ok y) told = cc
found_tells view uri rule (Some x) (Err (Refused text broken)) told = cc
found_tells view uri rule (Some x) (Err (Unreached text)) told = told
found_tells view uri rule (Some x) (Err (SignerFault n)) told = told
found_tells view uri rule (Some x) (Err Memory) told = tt
found_tells view uri rule None (Ok y) told = cc
found_tells view uri rule None (Err (Refused text broken)) told = cc
found_tells view uri rule None (Err (Unreached text)) told = told
found_tells view uri rule None (Err (SignerFault n)) told = told
found_tells view uri rule None (Err Memory) told = tt

pub found_such : {A : Type 0} (uri : List ℕ) (rule : Rule) (o : Option A) (P : A → Type 0) (r : Result A AuditRefused) → Tells (λ x. x) (found uri rule o) r → IfSome o P → IfOk r P
found_such {A} uri rule (Some x) P (Ok y) told has = let same : x ≡ y = cc in subst P same has
found_such uri rule None P (Ok y) told has = absurd cc
found_such uri rule o P (Err e) told has = tt

-- What the bytes say is read.
pub shaped_tells : {A B : Type 0} (view : A → B) (m : Checked (List ℕ)) (bytes uri : List ℕ) (read : List ℕ → Option B) (o : Option A) (r : Result A AuditRefused)
    → m ≡ Ok bytes → option_map view o ≡ read bytes → Tells (λ x. x) (found uri rule.Shape o) r → Tells view (read_as m uri read) r
shaped_tells {A} {B} view m bytes uri read o r is same told =
    let e : read_as m uri read ≡ found uri rule.Shape (option_map view o) =
    bind_ok m (λ b. found uri rule.Shape (read b)) bytes is ∙ ap (λ (p : Option B). found uri rule.Shape p) (sym same) in
    subst (λ (k : Checked B). Tells view k r) (sym e) (found_tells view uri rule.Shape o r told)

pub shaped_stops : {A B V : Type 0} (v : V → List ℕ) (view : A → B) (m : Checked (List ℕ)) (uri : List ℕ) (read : List ℕ → Option B) (e : AuditRefused) → Tells v m (Err e) → Tells view (read_as m uri read) (Err e)
shaped_stops v view m uri read e told = tells_stop v view m (read_as m uri read) e (λ c is. bind_err m (λ b. found uri rule.Shape (read b)) c is) told

-- ---- the bytes of a listed file

pub listed_unfound : {V W : Type 0} (v : V → List ℕ) (w : W → List ℕ) (held : Contents) (uri : List ℕ) (file : File) (e : AuditRefused) → Tells v (found uri rule.Missing (held uri)) (Err e) → Tells w (listed_bytes held uri file) (Err e)
unfolding listed_bytes
listed_unfound v w held uri file e told =
    let f : List ℕ → Checked (List ℕ) = λ b. tested uri ((rule.Hash, bytes_eq (sha256 b) file.1) ∷ []) b in
    tells_stop v w (found uri rule.Missing (held uri)) (listed_bytes held uri file) e (λ c is. bind_err (found uri rule.Missing (held uri)) f c is) told

pub listed_same : (held : Contents) (uri : List ℕ) (file : File) (bytes : List ℕ) → found uri rule.Missing (held uri) ≡ Ok bytes → bytes_eq (sha256 bytes) file.1 ≡ true → listed_bytes held uri file ≡ Ok bytes
unfolding listed_bytes
listed_same held uri file bytes is same =
    let f : List ℕ → Checked (List ℕ) = λ b. tested uri ((rule.Hash, bytes_eq (sha256 b) file.1) ∷ []) b in
    bind_ok (found uri rule.Missing (held uri)) f bytes is ∙ ap (λ (b : Bool). tested uri ((rule.Hash, b) ∷ []) bytes) same

pub listed_other : {W : Type 0} (w : W → List ℕ) (held : Contents) (uri : List ℕ) (file : File) (bytes : List ℕ) (e : AuditRefused) → found uri rule.Missing (held uri) ≡ Ok bytes → bytes_eq (sha256 bytes) file.1 ≡ false
    → IsRefusal uri rule.Hash e → Tells w (listed_bytes held uri file) (Err e)
unfolding listed_bytes
listed_other w held uri file bytes e is other told =
    let f : List ℕ → Checked (List ℕ) = λ b. tested uri ((rule.Hash, bytes_eq (sha256 b) file.1) ∷ []) b in
    let nay : listed_bytes held uri file ≡ refused uri rule.Hash =
    bind_ok (found uri rule.Missing (held uri)) f bytes is ∙ ap (λ (b : Bool). tested uri ((rule.Hash, b) ∷ []) bytes) other in
    refusal_tells w (listed_bytes held uri file) uri rule.Hash e nay told
