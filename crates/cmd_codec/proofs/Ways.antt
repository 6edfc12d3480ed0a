-- Going over fields, one after another.
use Rattle.std.proofs.Common.{◌≡◌, ℕ, ◌<◌, ◌≤◌, Bool, true, false, List, ◌++◌, ◌+◌, length, take, drop, refl, sym, ap, subst, ◌∙◌, append_assoc, arith, take-append-drop, length-append}
use Rattle.std.proofs.Math.Seq.{take-append_seam, drop-append_seam}
use Rattle.std.specs.Prelude.{nat_le}
use Rattle.std.proofs.lemmas.Bool.Decides.{nat_tests}
use Rattle.cmd_codec.specs.declared.faults.RecordFault.{RecordFault}
use Rattle.cmd_codec.specs.declared.faults.RecordFault.TheVariants.{BadRecord, Memory}
use Rattle.cmd_codec.specs.Fault.{Place, Way, and_then, further, field}
use Rattle.cmd_codec.specs.Fault.Way.{Behind, BadAt}
use Rattle.cmd_codec.specs.Outcome.{IsFaultOf, Passes}

le_true : (a b : ℕ) → a ≤ b → nat_le a b ≡ true
le_true a b h = grind (arith, nat_tests)

le_false : (a b : ℕ) → b < a → nat_le a b ≡ false
le_false a b h = grind (arith, nat_tests)

pub field_good : (size : ℕ) (rule : List ℕ → Bool) (place : Place) → size ≤ length place.left → rule (take size place.left) ≡ true → field size rule place ≡ Behind (further size place)
unfolding field
field_good size rule place long good = rw (le_true size (length place.left) long, good) refl

-- a field that isn't whole
pub field_short : (size : ℕ) (rule : List ℕ → Bool) (place : Place) (fault : RecordFault) → fault ≡ BadRecord place.at → length place.left < size → IsFaultOf (field size rule place) fault
unfolding field
field_short size rule place fault is short =
    let bad : field size rule place ≡ BadAt place.at = rw (le_false size (length place.left) short) refl in
    subst (λ (f : RecordFault). IsFaultOf (field size rule place) f) (sym is) bad

-- a field outside its rule
pub field_broken : (size : ℕ) (rule : List ℕ → Bool) (place : Place) (fault : RecordFault) → fault ≡ BadRecord place.at → size ≤ length place.left → rule (take size place.left) ≡ false
    → IsFaultOf (field size rule place) fault
unfolding field
field_broken size rule place fault is long broken =
    let bad : field size rule place ≡ BadAt place.at = rw (le_true size (length place.left) long, broken) refl in
    subst (λ (f : RecordFault). IsFaultOf (field size rule place) f) (sym is) bad

-- a good field
pub passes_field : (size : ℕ) (rule : List ℕ → Bool) (old new : Place) (text : List ℕ) → size ≤ length old.left → rule (take size old.left) ≡ true → new ≡ further size old
    → text ≡ take size old.left → Passes text (field size rule) old new
passes_field size rule old new text long good is text_is = record {
  behind = field_good size rule old long good ∙ ap (λ (p : Place). Behind p) (sym is);
  spelled = sym (take-append-drop size old.left) ∙ (λ i. sym text_is i ++ (sym is i).left);
}

-- what follows a good way
pub behind_later : (way : Way) (next : Place → Way) (mid new : Place) → way ≡ Behind mid → next mid ≡ Behind new → and_then way next ≡ Behind new
behind_later way next mid new first later = ap (λ (w : Way). and_then w next) first ∙ later

pub fault_first : (way : Way) (next : Place → Way) (fault : RecordFault) → IsFaultOf way fault → IsFaultOf (and_then way next) fault
fault_first way next (BadRecord at) bad = ap (λ (w : Way). and_then w next) bad
fault_first way next Memory bad = tt

pub fault_later : (way : Way) (next : Place → Way) (mid : Place) (fault : RecordFault) → way ≡ Behind mid → IsFaultOf (next mid) fault → IsFaultOf (and_then way next) fault
fault_later way next mid (BadRecord at) first bad = ap (λ (w : Way). and_then w next) first ∙ bad
fault_later way next mid Memory first bad = tt

-- the same fault of a way that goes alike
pub fault_alike : (way other : Way) (fault : RecordFault) → way ≡ other → IsFaultOf other fault → IsFaultOf way fault
fault_alike way other (BadRecord at) same bad = same ∙ bad
fault_alike way other Memory same bad = tt

pub spelled_then : (a b : List ℕ) (old mid new : Place) → old.left ≡ a ++ mid.left → mid.left ≡ b ++ new.left → old.left ≡ a ++ b ++ new.left
spelled_then a b old mid new first later = first ∙ ap (λ (t : List ℕ). a ++ t) later ∙ sym (append_assoc a b new.left)

-- a field at the front
pub field_at : (size : ℕ) (rule : List ℕ → Bool) (at : ℕ) (text rest : List ℕ) → length text ≡ size → rule text ≡ true
    → field size rule (record { at = at; left = text ++ rest }) ≡ Behind (record { at = at + size; left = rest })
field_at size rule at text rest is good =
    let long : size ≤ length (text ++ rest) = omega (arith, length-append text rest, is) in
    let front : take size (text ++ rest) ≡ text = ap (λ (n : ℕ). take n (text ++ rest)) (sym is) ∙ take-append_seam text rest in
    let back : drop size (text ++ rest) ≡ rest = ap (λ (n : ℕ). drop n (text ++ rest)) (sym is) ∙ drop-append_seam text rest in
    field_good size rule (record { at = at; left = text ++ rest }) long (ap rule front ∙ good) ∙ (λ i. Behind (record { at = at + size; left = back i }))
