-- What calls answer that ask signers.
use Rattle.std.proofs.Common.{◌≡◌, ℕ, Bool, true, false, List, [], ◌∷◌, Option, Result, Ok, Err, refl, sym, ap, subst, ◌∙◌}
use Rattle.std.specs.Prelude.{if◌then◌else◌, string_bytes}
use Rattle.signer_api.specs.State.{SignerState}
use Rattle.signer_ring.specs.Ring.{AllTell}
use Rattle.rp_rules.specs.declared.rules.Rule.{Rule}
use Rattle.rp_rules.specs.declared.rules.Rule.TheVariants as rule
use Rattle.rp_rules.specs.Checks.{Refused as Refusal, Checked, Test, ◌>>=◌, refused, tested, found}
use Rattle.rp_audit.specs.declared.refusal.AuditRefused.{AuditRefused}
use Rattle.rp_audit.specs.declared.refusal.AuditRefused.TheVariants.{Refused, Unreached, SignerFault, Memory}
use Rattle.rp_audit.specs.inner.Told.{Tells, Answers, Gives, IsAnswer, kept, read_as, answered}
use Rattle.rp_audit.proofs.Checking.{bind_ok, bind_err, bind_assoc, tested_ok, tested_err}

-- ---- one call after another

-- A refusal, or a fault, of the first part is one of the whole.
pub answers_stop : {A B C D : Type 0} (P : A → Checked B → Type 0) (Q : C → Checked D → Type 0) (m : List SignerState → Checked B) (n : List SignerState → Checked D) (old new : List SignerState) (e : AuditRefused)
    → ((c : Refusal) → m old ≡ Err c → n old ≡ Err c) → Answers P m (Err e) old new → Answers Q n (Err e) old new
answers_stop P Q m n old new (Refused text broken) goes told = (told.0, λ all. goes (record { uri = string_bytes text; rule = broken }) (told.1 all))
answers_stop P Q m n old new (Unreached text) goes told = told
answers_stop P Q m n old new (SignerFault k) goes told = told
answers_stop P Q m n old new Memory goes told = told

-- Behind calls that left the signers as they were.
pub answers_behind : {A B : Type 0} (P : A → Checked B → Type 0) (n : List SignerState → Checked B) (r : Result A AuditRefused) (old mid new : List SignerState) → mid ≡ old → Answers P n r mid new → Answers P n r old new
answers_behind P n r old mid new same told = subst (λ (s : List SignerState). Answers P n r s new) same told

pub memory_answers : {A B : Type 0} (P : A → Checked B → Type 0) (n : List SignerState → Checked B) (old new : List SignerState) (e : AuditRefused) → e ≡ Memory → new ≡ old → Answers P n (Err e) old new
memory_answers P n old new e is same = subst (λ (f : AuditRefused). Answers P n (Err f) old new) (sym is) same

-- A call that asks no signer ended it.
pub tells_answers : {A B C D : Type 0} (v : A → B) (P : C → Checked D → Type 0) (m : Checked B) (n : List SignerState → Checked D) (old new : List SignerState) (e : AuditRefused)
    → new ≡ old → ((c : Refusal) → (c.rule ≡ rule.Signature → AllTell old) → m ≡ Err c → n old ≡ Err c) → Tells v m (Err e) → Answers P n (Err e) old new
tells_answers v P m n old new (Refused text broken) same goes told = (same, λ all. goes (record { uri = string_bytes text; rule = broken }) all told)
tells_answers v P m n old new (Unreached text) same goes told = told
tells_answers v P m n old new (SignerFault k) same goes told = absurd told
tells_answers v P m n old new Memory same goes told = same

-- The same check, written otherwise.
pub answers_same : {A B : Type 0} (P : A → Checked B → Type 0) (m n : List SignerState → Checked B) (r : Result A AuditRefused) (old new : List SignerState) → m old ≡ n old → Answers P n r old new → Answers P m r old new
answers_same {A} {B} P m n (Ok x) old new e told = (told.0, subst (λ (k : Checked B). P x k) (sym e) told.1)
answers_same P m n (Err (Refused text broken)) old new e told = (told.0, λ all. e ∙ told.1 all)
answers_same P m n (Err (Unreached text)) old new e told = told
answers_same P m n (Err (SignerFault k)) old new e told = told
answers_same P m n (Err Memory) old new e told = told

-- ---- the answer on a signature, and the other tests

unless_yes : (uri : List ℕ) (r : Rule) (signed vouched : Bool) (rest : List Test) → (signed ≡ true → vouched ≡ true)
    → kept uri ((r, signed) ∷ rest) ≡ Ok tt → kept uri ((r, vouched) ∷ rest) ≡ Ok tt
unless_yes uri r true vouched rest implied e = ap (λ (b : Bool). kept uri ((r, b) ∷ rest)) (implied refl) ∙ e
unless_yes uri r false vouched rest implied e = cc

same_yes : (a b : Bool) → (let f : Bool → Checked Bool = λ c. Ok c in f a) ≡ (let f : Bool → Checked Bool = λ c. Ok c in f b) → a ≡ b
same_yes a b e = cc

err_same : (a b : Refusal) → (let f : Refusal → Checked (Unit {0}) = λ r. Err r in f a) ≡ (let f : Refusal → Checked (Unit {0}) = λ r. Err r in f b) → a ≡ b
err_same a b e = cc

-- A yes is right, and a no refuses by the rule of signatures.
agreed : (uri : List ℕ) (signed vouched : Bool) (rest : List Test) (c : Refusal) (old : List SignerState) → IsAnswer old signed (Ok vouched) → (c.rule ≡ rule.Signature → AllTell old)
    → kept uri ((rule.Signature, signed) ∷ rest) ≡ Err c → vouched ≡ signed
agreed uri true vouched rest c old answer all broken = same_yes vouched true (answer.some refl)
agreed uri false vouched rest c old answer all broken =
    let is : rule.Signature ≡ c.rule = ap (λ (r : Refusal). r.rule) (err_same (record { uri = uri; rule = rule.Signature }) c broken) in
    same_yes vouched false (answer.all (all (sym is)))

-- ---- an object: its bytes are read, its first test is on a signature, and then it is given

abbrev pub object_of : {A B : Type 0} → Checked (List ℕ) → List ℕ → (List ℕ → Option A) → (List SignerState → A → Bool) → (A → List Test) → (A → B) → List SignerState → Checked B
object_of bytes uri read vouched rest give signers =
    bytes >>= (λ b. found uri rule.Shape (read b) >>= (λ a. tested uri ((rule.Signature, vouched signers a) ∷ rest a) (give a)))

whole_err : {A B : Type 0} (bytes : Checked (List ℕ)) (uri : List ℕ) (read : List ℕ → Option A) (f : A → Checked B) (c : Refusal)
    → read_as bytes uri read ≡ Err c → (bytes >>= (λ b. found uri rule.Shape (read b) >>= f)) ≡ Err c
whole_err bytes uri read f c e = bind_assoc bytes (λ b. found uri rule.Shape (read b)) f ∙ bind_err (read_as bytes uri read) f c e

whole_ok : {A B : Type 0} (bytes : Checked (List ℕ)) (uri : List ℕ) (read : List ℕ → Option A) (f : A → Checked B) (a : A)
    → read_as bytes uri read ≡ Ok a → (bytes >>= (λ b. found uri rule.Shape (read b) >>= f)) ≡ f a
whole_ok bytes uri read f a e = bind_assoc bytes (λ b. found uri rule.Shape (read b)) f ∙ bind_ok (read_as bytes uri read) f a e

-- It can't be read.
pub object_unread : {A B V X : Type 0} (view : V → A) (P : X → Checked B → Type 0) (bytes : Checked (List ℕ)) (uri : List ℕ) (read : List ℕ → Option A) (vouched : List SignerState → A → Bool) (rest : A → List Test) (give : A → B)
    (old : List SignerState) (e : AuditRefused) → Tells view (read_as bytes uri read) (Err e) → Answers P (object_of bytes uri read vouched rest give) (Err e) old old
object_unread view P bytes uri read vouched rest give old e told =
    tells_answers view P (read_as bytes uri read) (object_of bytes uri read vouched rest give) old old e refl
    (λ c all is. whole_err bytes uri read (λ a. tested uri ((rule.Signature, vouched old a) ∷ rest a) (give a)) c is) told

-- No signer refuses: it fails.
pub object_unasked : {B X : Type 0} (P : X → Checked B → Type 0) (n : List SignerState → Checked B) (answer : List SignerState → Bool) (start old new : List SignerState) (e : AuditRefused)
    → Answers (IsAnswer start) (λ s. Ok (answer s)) (Err e) old new → Answers P n (Err e) old new
object_unasked {B} {X} P n answer start old new e told =
    let none : (c : Refusal) → (let f : Bool → Checked Bool = λ b. Ok b in f (answer old)) ≡ Err c → n old ≡ Err c = λ c is. cc in
    answers_stop (IsAnswer start) P (λ s. Ok (answer s)) n old new e none told

-- A rule is broken.
pub object_broken : {A B V X U : Type 0} (view : V → A) (w : U → Unit {0}) (P : X → Checked B → Type 0) (bytes : Checked (List ℕ)) (uri : List ℕ) (read : List ℕ → Option A) (vouched : List SignerState → A → Bool) (rest : A → List Test) (give : A → B)
    (old new : List SignerState) (x : V) (signed : Bool) (tests : List Test) (e : AuditRefused)
    → read_as bytes uri read ≡ Ok (view x) → new ≡ old → IsAnswer old signed (Ok (vouched old (view x)))
    → tests ≡ (rule.Signature, signed) ∷ rest (view x) → Tells w (kept uri tests) (Err e) → Answers P (object_of bytes uri read vouched rest give) (Err e) old new
object_broken {A} {B} {V} {X} {U} view w P bytes uri read vouched rest give old new x signed tests e is same answer are told =
    let f : A → Checked B = λ a. tested uri ((rule.Signature, vouched old a) ∷ rest a) (give a) in
    let goes : ((c : Refusal) → (c.rule ≡ rule.Signature → AllTell old) → kept uri tests ≡ Err c → object_of bytes uri read vouched rest give old ≡ Err c) = λ c all broken.
    let yea : vouched old (view x) ≡ signed = agreed uri signed (vouched old (view x)) (rest (view x)) c old answer all (ap (λ (ts : List Test). kept uri ts) (sym are) ∙ broken) in
    let here : kept uri ((rule.Signature, vouched old (view x)) ∷ rest (view x)) ≡ Err c =
    ap (λ (b : Bool). kept uri ((rule.Signature, b) ∷ rest (view x))) yea ∙ (ap (λ (ts : List Test). kept uri ts) (sym are) ∙ broken) in
    whole_ok bytes uri read f (view x) is ∙ tested_err uri ((rule.Signature, vouched old (view x)) ∷ rest (view x)) (give (view x)) c here in
    tells_answers w P (kept uri tests) (object_of bytes uri read vouched rest give) old new e same goes told

-- It is accepted.
pub object_given : {A B V : Type 0} (view : V → A) (bytes : Checked (List ℕ)) (uri : List ℕ) (read : List ℕ → Option A) (vouched : List SignerState → A → Bool) (rest : A → List Test) (give : A → B)
    (old : List SignerState) (x : V) (signed : Bool) (tests : List Test)
    → read_as bytes uri read ≡ Ok (view x) → IsAnswer old signed (Ok (vouched old (view x)))
    → tests ≡ (rule.Signature, signed) ∷ rest (view x) → kept uri tests ≡ Ok tt → object_of bytes uri read vouched rest give old ≡ Ok (give (view x))
object_given {A} {B} {V} view bytes uri read vouched rest give old x signed tests is answer are all =
    let f : A → Checked B = λ a. tested uri ((rule.Signature, vouched old a) ∷ rest a) (give a) in
    let yea : (signed ≡ true → vouched old (view x) ≡ true) = λ s. same_yes (vouched old (view x)) true (answer.some s) in
    let here : kept uri ((rule.Signature, signed) ∷ rest (view x)) ≡ Ok tt = ap (λ (ts : List Test). kept uri ts) (sym are) ∙ all in
    whole_ok bytes uri read f (view x) is
    ∙ tested_ok uri ((rule.Signature, vouched old (view x)) ∷ rest (view x)) (give (view x)) (unless_yes uri rule.Signature signed (vouched old (view x)) (rest (view x)) yea here)
