-- Changes that are carried out while they are read.
use Rattle.std.proofs.Common.{◌≡◌, ℕ, suc, ◌-◌, ◌&&◌, length, Bool, true, false, cond, List, [], ◌∷◌, ◌++◌, Option, Some, None, refl, sym, ap, subst, ◌∙◌, append_assoc, append-nil, arith, inl, inr}
use Rattle.std.specs.Prelude.{Err}
use Rattle.std.specs.List.{slice_get}
use Rattle.std.specs.Option.{option_map}
use Rattle.std.specs.Ordering.{is_lt}
use Rattle.std.specs.declared.cmp.Ordering.TheVariants.{Less}
use Rattle.std.proofs.lemmas.Bool.{and_parts, and_from, false≢true}
use Rattle.sha2.specs.Sha256.{sha256}
use Rattle.pub_set.specs.declared.steps.Change.{Change}
use Rattle.pub_set.specs.declared.steps.Change.TheVariants.{Put, Withdraw}
use Rattle.pub_set.specs.Objects.{uri_cmp, AllAbove}
use Rattle.pub_set.specs.Changes.{Contents, uri_of, left_by, after, after_all}
use Rattle.pub_set.specs.laws.UriLaws.{other_below}
use Rattle.record_forms.specs.Form.{AreBytes}
use Rattle.record_forms.specs.Outcome.{Gives}
use Rattle.record_forms.specs.Forms.{◌>>=◌, so_many}
use Rattle.record_forms.specs.laws.ByteLaws.{bind-some, bytes-rest, same-some, some-of}
use Rattle.record_forms.specs.declared.fault.ReadFault.{ReadFault}
use Rattle.record_forms.specs.declared.fault.ReadFault.TheVariants.{Bad, Memory}
use Rattle.press_records.specs.Changes.{RawChange, raw_changes, put_over, withdrawn_over, change_told, changes, uris_rise_behind, uris_rise}
use Rattle.press_records.specs.inner.Taking.{AreTaken, AreNone}
use Rattle.press_records.specs.laws.ChangeLaws.{changes-law}
use Rattle.press_records.specs.laws.RiseLaws.{above-behind, tail-rises}

-- ---- what was changed before

last-above : (uri : List ℕ) (all : List Change) (change : Change) → AllAbove uri_of (all ++ change ∷ []) uri
    → uri_cmp uri (uri_of change) ≡ Less
last-above uri [] change above = above.0
last-above uri (first ∷ all) change above = last-above uri all change above.1

-- Where URIs rise, nothing was done before at that of a change.
pub untouched : (held : Contents) (done more : List Change) (change : Change) → uris_rise (done ++ (more ++ change ∷ [])) ≡ true
    → after_all held done (uri_of change) ≡ held (uri_of change)
untouched held [] more change up = refl
untouched held (first ∷ done) more change up =
    let above = above-behind (uri_of first) (done ++ (more ++ change ∷ [])) up in
    let less = last-above (uri_of first) (done ++ more) change
    (subst (λ (l : List Change). AllAbove uri_of l (uri_of first)) (sym (append_assoc done more (change ∷ []))) above) in
    untouched (after held first) done more change (tail-rises (uri_of first) (done ++ (more ++ change ∷ [])) up)
    ∙ ap (λ (b : Bool). cond b (left_by first) (held (uri_of change))) (other_below (uri_of first) (uri_of change) less)

-- ---- one change over other contents

withdrawn-uri : (uri : List ℕ) (there : Option (List ℕ)) (y : Change)
    → option_map (λ bytes. Withdraw uri (sha256 bytes)) there ≡ some-of y → uri ≡ uri_of y
withdrawn-uri uri (Some bytes) y e = ap uri_of (same-some (Withdraw uri (sha256 bytes)) y e)
withdrawn-uri uri None y e = absurd cc

abbrev told_rest : Contents → RawChange × List ℕ → Option (Change × List ℕ)
told_rest held x = change_told held x.0 >>= (λ y. Some (y, x.1))

read-raw : (held other : Contents) (r : Option (RawChange × List ℕ)) (change : Change) (rest : List ℕ)
    → held (uri_of change) ≡ other (uri_of change) → (r >>= told_rest held) ≡ some-of (change, rest) → (r >>= told_rest other) ≡ some-of (change, rest)
read-raw held other None change rest same e = absurd cc
read-raw held other (Some (inl put, left)) change rest same e =
    let is : put_over held put ≡ change = ap (λ (y : Change × List ℕ). y.0) (same-some {A = Change × List ℕ} (put_over held put, left) (change, rest) e) in
    let at : put.0 ≡ uri_of change = ap uri_of is in
    let there : other put.0 ≡ held put.0 = ap other at ∙ sym same ∙ ap held (sym at) in
    ap (λ (o : Option (List ℕ)). some-of {A = Change × List ℕ} (Put put.0 put.1 (option_map sha256 o), left)) there ∙ e
read-raw held other (Some (inr uri, left)) change rest same e =
    let a = bind-some (withdrawn_over held uri) (λ y. Some (y, left)) (change, rest) e in
    let is : a.0 ≡ change = ap (λ (y : Change × List ℕ). y.0) (same-some {A = Change × List ℕ} (a.0, left) (change, rest) a.2) in
    let at : uri ≡ uri_of change = withdrawn-uri uri (held uri) a.0 a.1 ∙ ap uri_of is in
    let there : other uri ≡ held uri = ap other at ∙ sym same ∙ ap held (sym at) in
    ap (λ (o : Option (List ℕ)). option_map (λ bytes. Withdraw uri (sha256 bytes)) o >>= (λ y. some-of {A = Change × List ℕ} (y, left))) there ∙ e

-- What is read over some contents is read over others that have the same at its URI.
pub read-same : (held other : Contents) (bytes rest : List ℕ) (change : Change) → held (uri_of change) ≡ other (uri_of change)
    → (changes held).read bytes ≡ Some (change, rest) → (changes other).read bytes ≡ Some (change, rest)
unfolding changes
read-same held other bytes rest change same e = read-raw held other (raw_changes.read bytes) change rest same e

-- ---- URIs that rise

front-behind : (uri : List ℕ) (all : List Change) (change : Change) (more : List Change) → uris_rise_behind uri (all ++ change ∷ more) ≡ true
    → uris_rise_behind uri (all ++ change ∷ []) ≡ true
front-behind uri [] change more e =
    and_from (is_lt (uri_cmp uri (uri_of change))) true (and_parts (is_lt (uri_cmp uri (uri_of change))) (uris_rise_behind (uri_of change) more) e).0 refl
front-behind uri (first ∷ all) change more e =
    let p = and_parts (is_lt (uri_cmp uri (uri_of first))) (uris_rise_behind (uri_of first) (all ++ change ∷ more)) e in
    and_from (is_lt (uri_cmp uri (uri_of first))) (uris_rise_behind (uri_of first) (all ++ change ∷ [])) p.0 (front-behind (uri_of first) all change more p.1)

pub front-rises : (all : List Change) (change : Change) (more : List Change) → uris_rise (all ++ change ∷ more) ≡ true
    → uris_rise (all ++ change ∷ []) ≡ true
front-rises [] change more e = refl
front-rises (first ∷ all) change more e = front-behind (uri_of first) all change more e

is-last : (one other : Change) → some-of one ≡ some-of other → one ≡ other
is-last one other e = same-some one other e

and-true : (b : Bool) → (b && true) ≡ b
and-true true = refl
and-true false = refl

last-behind : (uri : List ℕ) (first : Change) (rest : List Change) (last change : Change) → slice_get (first ∷ rest) (length rest) ≡ Some last
    → uris_rise_behind uri (first ∷ rest) ≡ true
    → uris_rise_behind (uri_of first) (rest ++ change ∷ []) ≡ is_lt (uri_cmp (uri_of last) (uri_of change))
last-behind uri first [] last change at up =
    and-true (is_lt (uri_cmp (uri_of first) (uri_of change)))
    ∙ ap (λ (c : Change). is_lt (uri_cmp (uri_of c) (uri_of change))) (is-last first last at)
last-behind uri first (second ∷ rest) last change at up =
    let p = and_parts (is_lt (uri_cmp uri (uri_of first))) (uris_rise_behind (uri_of first) (second ∷ rest)) up in
    let q = and_parts (is_lt (uri_cmp (uri_of first) (uri_of second))) (uris_rise_behind (uri_of second) rest) p.1 in
    ap (λ (b : Bool). b && uris_rise_behind (uri_of second) (rest ++ change ∷ [])) q.0
    ∙ last-behind (uri_of first) second rest last change at p.1

-- Whether one more rises is told by the last one.
pub rises-last : (all : List Change) (last change : Change) → slice_get all (length all - 1) ≡ Some last → uris_rise all ≡ true
    → uris_rise (all ++ change ∷ []) ≡ is_lt (uri_cmp (uri_of last) (uri_of change))
rises-last [] last change at up = absurd cc
rises-last (first ∷ []) last change at up =
    and-true (is_lt (uri_cmp (uri_of first) (uri_of change)))
    ∙ ap (λ (c : Change). is_lt (uri_cmp (uri_of c) (uri_of change))) (is-last first last at)
rises-last (first ∷ (second ∷ rest)) last change at up =
    let place : length (first ∷ (second ∷ rest)) - 1 ≡ suc (length rest) = omega arith in
    let there : slice_get (first ∷ (second ∷ rest)) (suc (length rest)) ≡ Some last =
    subst (λ (i : ℕ). slice_get (first ∷ (second ∷ rest)) i ≡ Some last) place at in
    let q = and_parts (is_lt (uri_cmp (uri_of first) (uri_of second))) (uris_rise_behind (uri_of second) rest) up in
    ap (λ (b : Bool). b && uris_rise_behind (uri_of second) (rest ++ change ∷ [])) q.0
    ∙ last-behind (uri_of first) second rest last change there up

last-there : (first : Change) (rest : List Change) → slice_get (first ∷ rest) (length rest) ≡ None → ⊥
last-there first [] e = absurd cc
last-there first (second ∷ rest) e = last-there second rest e

-- Behind none one alone rises.
pub rises-first : (all : List Change) (change : Change) → slice_get all (length all - 1) ≡ None → uris_rise (all ++ change ∷ []) ≡ true
rises-first [] change at = refl
rises-first (first ∷ rest) change at =
    let place : length (first ∷ rest) - 1 ≡ length rest = omega arith in
    absurd (last-there first rest (subst (λ (i : ℕ). slice_get (first ∷ rest) i ≡ None) place at))

-- ---- carried out in parts

pub after-more : (held : Contents) (done more : List Change) → after_all held (done ++ more) ≡ after_all (after_all held done) more
after-more held [] more = refl
after-more held (change ∷ done) more = after-more (after held change) done more

-- ---- so far

abbrev behind : List Change → Option (List Change × List ℕ) → Option (List Change × List ℕ)
behind told r = r >>= (λ ys. Some (told ++ ys.0, ys.1))

-- So many are left of those that were to be read, of which the batch isn't carried out.
pub record AreSoFar (held : Contents) (count : ℕ) (start : List ℕ) (told : List Change) (left : ℕ)
    (rest : List ℕ) (batch : List Change) (now : Contents) : Type 0 where
  pub read : so_many (changes held).read count start ≡ behind told (so_many (changes held).read left rest)
  pub rise : uris_rise told ≡ true
  pub bytes : AreBytes rest
  pub done : List Change
  pub split : told ≡ done ++ batch
  pub led : now ≡ after_all held done

behind-none : (r : Option (List Change × List ℕ)) → r ≡ behind [] r
behind-none (Some ys) = refl
behind-none None = refl

pub at-first : (held : Contents) (count : ℕ) (start : List ℕ) → AreBytes start → AreSoFar held count start [] count start [] held
at-first held count start are = record {
  read = behind-none (so_many (changes held).read count start);
  rise = refl;
  bytes = are;
  done = [];
  split = refl;
  led = refl;
}

abbrev next_of : Contents → ℕ → Change × List ℕ → Option (List Change × List ℕ)
next_of held left x = so_many (changes held).read left x.1 >>= (λ xs. Some (x.0 ∷ xs.0, xs.1))

one : (held : Contents) (left : ℕ) (rest : List ℕ) → so_many (changes held).read (suc left) rest ≡ ((changes held).read rest >>= next_of held left)
unfolding so_many
one held left rest = refl

behind-one : (told : List Change) (change : Change) (r : Option (List Change × List ℕ))
    → behind told (r >>= (λ ys. Some (change ∷ ys.0, ys.1))) ≡ behind (told ++ change ∷ []) r
behind-one told change (Some ys) = ap (λ (l : List Change). some-of {A = List Change × List ℕ} (l, ys.1)) (sym (append_assoc told (change ∷ []) ys.0))
behind-one told change None = refl

-- One more is read over what stands now.
pub one-more : (held : Contents) (count : ℕ) (start : List ℕ) (told : List Change) (left : ℕ) (rest : List ℕ) (batch : List Change) (now : Contents)
    (change : Change) (more : List ℕ) → AreSoFar held count start told (suc left) rest batch now → (changes now).read rest ≡ Some (change, more)
    → uris_rise (told ++ change ∷ []) ≡ true
    → AreSoFar held count start (told ++ change ∷ []) left more (batch ++ change ∷ []) now
one-more held count start told left rest batch now change more so_far read up =
    let split : told ++ change ∷ [] ≡ so_far.done ++ (batch ++ change ∷ []) =
    ap (λ (l : List Change). l ++ change ∷ []) so_far.split ∙ append_assoc so_far.done batch (change ∷ []) in
    let there : now (uri_of change) ≡ held (uri_of change) =
    ap (λ (c : Contents). c (uri_of change)) so_far.led ∙ untouched held so_far.done batch change (ap uris_rise (sym split) ∙ up) in
    let first : (changes held).read rest ≡ Some (change, more) = read-same now held rest more change there read in
    let taken = (changes-law held).taken change rest more so_far.bytes first in
    record {
      read = so_far.read ∙ ap (behind told) (one held left rest) ∙ ap (λ (r : Option (Change × List ℕ)). behind told (r >>= next_of held left)) first
          ∙ behind-one told change (so_many (changes held).read left more);
      rise = up;
      bytes = bytes-rest ((changes held).spelling change) more (subst AreBytes taken.1 so_far.bytes);
      done = so_far.done;
      split = split;
      led = so_far.led;
    }

-- The batch was carried out.
pub carried : (held : Contents) (count : ℕ) (start : List ℕ) (told : List Change) (left : ℕ) (rest : List ℕ) (batch : List Change)
    (now new : Contents) → AreSoFar held count start told left rest batch now → new ≡ after_all now batch
    → AreSoFar held count start told left rest [] new
carried held count start told left rest batch now new so_far led = record {
  read = so_far.read;
  rise = so_far.rise;
  bytes = so_far.bytes;
  done = told;
  split = sym (append-nil told);
  led = led ∙ ap (λ (c : Contents). after_all c batch) so_far.led ∙ sym (after-more held so_far.done batch)
      ∙ ap (after_all held) (sym so_far.split);
}

-- All were read.
pub at-last : (held : Contents) (count : ℕ) (start : List ℕ) (told : List Change) (rest : List ℕ) (batch : List Change) (now : Contents)
    → AreSoFar held count start told 0 rest batch now → so_many (changes held).read count start ≡ Some (told, rest)
unfolding so_many
at-last held count start told rest batch now so_far =
    so_far.read ∙ ap (λ (l : List Change). some-of {A = List Change × List ℕ} (l, rest)) (append-nil told)

-- Were all there, the next one would be: over what stands now, too, and its URI would rise.
pub record IsNextOf (held now : Contents) (told : List Change) (rest : List ℕ) : Type 0 where
  pub change : Change
  pub more : List ℕ
  pub read : (changes now).read rest ≡ Some (change, more)
  pub rise : uris_rise (told ++ change ∷ []) ≡ true

pub next-there : (held : Contents) (count : ℕ) (start : List ℕ) (told : List Change) (left : ℕ) (rest : List ℕ) (batch : List Change) (now : Contents)
    → AreSoFar held count start told (suc left) rest batch now
    → (all : List Change) (end : List ℕ) → so_many (changes held).read count start ≡ Some (all, end) → uris_rise all ≡ true
    → IsNextOf held now told rest
next-there held count start told left rest batch now so_far all end is up =
    let a = bind-some (so_many (changes held).read (suc left) rest) (λ ys. Some (told ++ ys.0, ys.1)) (all, end) (sym so_far.read ∙ is) in
    let b = bind-some ((changes held).read rest) (next_of held left) a.0 (sym (one held left rest) ∙ a.1) in
    let c = bind-some (so_many (changes held).read left b.0.1) (λ xs. Some (b.0.0 ∷ xs.0, xs.1)) a.0 b.2 in
    let change = b.0.0 in
    let whole : told ++ change ∷ c.0.0 ≡ all =
    ap (λ (l : List Change). told ++ l) (ap (λ (y : List Change × List ℕ). y.0) (same-some {A = List Change × List ℕ} (change ∷ c.0.0, c.0.1) a.0 c.2))
    ∙ ap (λ (y : List Change × List ℕ). y.0) (same-some {A = List Change × List ℕ} (told ++ a.0.0, a.0.1) (all, end) a.2) in
    let rise : uris_rise (told ++ change ∷ []) ≡ true = front-rises told change c.0.0 (ap uris_rise whole ∙ up) in
    let split : told ++ change ∷ [] ≡ so_far.done ++ (batch ++ change ∷ []) =
    ap (λ (l : List Change). l ++ change ∷ []) so_far.split ∙ append_assoc so_far.done batch (change ∷ []) in
    let there : held (uri_of change) ≡ now (uri_of change) =
    sym (ap (λ (c : Contents). c (uri_of change)) so_far.led ∙ untouched held so_far.done batch change (ap uris_rise (sym split) ∙ rise)) in
    record {
      change = change;
      more = b.0.1;
      read = read-same held now rest b.0.1 change there b.1;
      rise = rise;
    }

-- ---- as the loop has them

one-left : (held : Contents) (count : ℕ) (start : List ℕ) (told : List Change) (left n : ℕ) (rest : List ℕ) (batch : List Change) (now : Contents)
    → left ≡ suc n → AreSoFar held count start told left rest batch now → AreSoFar held count start told (suc n) rest batch now
one-left held count start told left n rest batch now is so_far = subst (λ (k : ℕ). AreSoFar held count start told k rest batch now) is so_far

pub one-further : (held : Contents) (count : ℕ) (start : List ℕ) (told told_then : List Change) (left n : ℕ) (rest : List ℕ) (batch batch_then : List Change)
    (now : Contents) (change : Change) (more : List ℕ) → left ≡ suc n → AreSoFar held count start told left rest batch now
    → (changes now).read rest ≡ Some (change, more) → uris_rise (told ++ change ∷ []) ≡ true
    → told_then ≡ told ++ change ∷ [] → batch_then ≡ batch ++ change ∷ [] → AreSoFar held count start told_then n more batch_then now
one-further held count start told told_then left n rest batch batch_then now change more is so_far read up told_is batch_is =
    subst (λ (t : List Change). AreSoFar held count start t n more batch_then now) (sym told_is)
    (subst (λ (b : List Change). AreSoFar held count start (told ++ change ∷ []) n more b now) (sym batch_is)
    (one-more held count start told n rest batch now change more (one-left held count start told left n rest batch now is so_far) read up))

none-some : (r : Option (Change × List ℕ)) (x : Change × List ℕ) → r ≡ None → r ≡ Some x → ⊥
none-some r x none some = absurd cc

-- It stops where none is read, or its URI doesn't rise.
pub stopped-by : {X : Type 0} (view : X → Change × List ℕ) (held : Contents) (count : ℕ) (start : List ℕ) (told : List Change) (left n : ℕ) (rest : List ℕ)
    (batch : List Change) (now : Contents) (fault : ReadFault) → left ≡ suc n → AreSoFar held count start told left rest batch now
    → Gives view (Err fault) ((changes now).read rest) → AreNone held count start fault
stopped-by view held count start told left n rest batch now Bad is so_far none = λ all end read up.
    let next = next-there held count start told n rest batch now (one-left held count start told left n rest batch now is so_far) all end read up in
    none-some ((changes now).read rest) (next.change, next.more) none next.read
stopped-by view held count start told left n rest batch now Memory is so_far none = tt

pub unrisen : (held : Contents) (count : ℕ) (start : List ℕ) (told : List Change) (left n : ℕ) (rest : List ℕ) (batch : List Change) (now : Contents)
    (change : Change) (more : List ℕ) → left ≡ suc n → AreSoFar held count start told left rest batch now
    → (changes now).read rest ≡ Some (change, more) → uris_rise (told ++ change ∷ []) ≡ false
    → (all : List Change) (end : List ℕ) → so_many (changes held).read count start ≡ Some (all, end) → uris_rise all ≡ true → ⊥
unrisen held count start told left n rest batch now change more is so_far read falls all end whole up =
    let next = next-there held count start told n rest batch now (one-left held count start told left n rest batch now is so_far) all end whole up in
    let same : next.change ≡ change =
    ap (λ (y : Change × List ℕ). y.0) (same-some {A = Change × List ℕ} (next.change, next.more) (change, more) (sym next.read ∙ read)) in
    false≢true (sym falls ∙ ap (λ (c : Change). uris_rise (told ++ c ∷ [])) (sym same) ∙ next.rise)

pub all-taken : (held : Contents) (count : ℕ) (start : List ℕ) (told : List Change) (left : ℕ) (rest : List ℕ) (batch : List Change) (now new : Contents)
    → left ≡ 0 → AreSoFar held count start told left rest batch now → new ≡ after_all now batch → AreTaken held count start told rest new
unfolding carried
all-taken held count start told left rest batch now new is so_far led =
    let ended = subst (λ (k : ℕ). AreSoFar held count start told k rest batch now) is so_far in
    record {
      read = at-last held count start told rest batch now ended;
      rise = so_far.rise;
      led = (carried held count start told left rest batch now new so_far led).led;
    }
