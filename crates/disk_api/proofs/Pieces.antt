-- A write in pieces: what it does to the bytes and to the images, and how time goes on.
use Rattle.std.proofs.Common.{◌≡◌, inl, inr, ⊎_elim, ℕ, ◌+◌, ◌-◌, ◌≤◌, max, Option, None, Some, List, [], ◌∷◌, ◌++◌, length, take, drop, refl, sym, ◌∙◌, ap, subst, arith, append_assoc, length-append, length-drop, append-nil, add-zero, add_assoc, IfSome, OnErr, Result, Ok, Err, ◌<◌, ◌^◌}
use Rattle.std.proofs.lemmas.List.{take_at, drop_at, take-take, drop-drop, take-append-drop, length-take, drop_all, take-append-le, drop-append-le}
use Rattle.std.proofs.lemmas.Bool.{cases_lt}
use Rattle.std.specs.Option.{option_map}
use Rattle.disk_api.specs.Content.{overwritten, Torn, BothKnown, Gives}
use Rattle.disk_api.specs.Images.{Stays, Follows, Reaches, Keeps, Elapses}
use Rattle.disk_api.specs.Faults.{CountsFaults, CountsStops}
use Rattle.disk_api.specs.declared.disk.DiskStop.{DiskStop}
use Rattle.disk_api.specs.laws.MemoryLaws.{torn_whole}
use Rattle.host_calls.specs.Rise.{HasRisen}
use Rattle.host_calls.specs.declared.CallFault.{CallFault}
use Rattle.host_calls.specs.declared.CallFault.TheVariants.{Interrupted, Memory, Failed}
use Rattle.host_calls.specs.Faults.{CountsAnswer}
use Rattle.disk_api.proofs.Same.{torn_same}

pub torn_wider : (p n q m : ℕ) (a b : List ℕ) → q ≤ p → p + n ≤ q + m → Torn p n a b → Torn q m a b
torn_wider p n q m a b front back torn =
    let k : ℕ = (q + m) - (p + n) in
    let far : p + n + k ≡ q + m = omega (arith, back) in
    record {
      before = sym (take-take q p b front) ∙ ap (λ (l : List ℕ). take q l) torn.before ∙ take-take q p a front;
      after = ap (λ i. drop i b) (sym far) ∙ sym (drop-drop k (p + n) b) ∙ ap (λ (l : List ℕ). drop k l) torn.after ∙ drop-drop k (p + n) a ∙ ap (λ i. drop i a) far;
      no_shorter = torn.no_shorter;
      no_longer = omega (arith, torn.no_longer, back);
    }

pub torn_twice : (p n : ℕ) (a b c : List ℕ) → Torn p n a b → Torn p n b c → Torn p n a c
torn_twice p n a b c first second = record {
  before = second.before ∙ first.before;
  after = second.after ∙ first.after;
  no_shorter = omega (arith, first.no_shorter, second.no_shorter);
  no_longer = omega (arith, first.no_longer, second.no_longer);
}

-- the front of one list and the back of one that isn't longer
take_front : (c a : List ℕ) (i : ℕ) → length a ≤ length c → take i (take i c ++ drop i a) ≡ take i c
take_front c a i short = elim (cases_lt (length c) i) [
  | inl lt ↦
      let none : drop i a ≡ [] = drop_all i a (omega (arith, short, lt)) in
      ap (λ (l : List ℕ). take i (take i c ++ l)) none ∙ ap (λ (l : List ℕ). take i l) (append-nil (take i c)) ∙ take-take i i c (omega arith)
  | inr ge ↦ take_at (take i c) (drop i a) i (omega (arith, length-take i c, ge))
]

drop_front : (c a : List ℕ) (i : ℕ) → length a ≤ length c → drop i (take i c ++ drop i a) ≡ drop i a
drop_front c a i short = elim (cases_lt (length c) i) [
  | inl lt ↦
      let none : drop i a ≡ [] = drop_all i a (omega (arith, short, lt)) in
      drop_all i (take i c ++ drop i a) (omega (arith, length-append (take i c) (drop i a), length-take i c, length-drop i a, short, lt)) ∙ sym none
  | inr ge ↦ drop_at (take i c) (drop i a) i (omega (arith, length-take i c, ge))
]

-- a write that is cut short is one that is cut short in its front, and then one in the rest
pub torn_split : (p m n : ℕ) (a c : List ℕ) → Torn p (m + n) a c → (b : List ℕ) × Torn p m a b × Torn (p + m) n b c
torn_split p m n a c torn =
    let front : List ℕ = take (p + m) c in
    let back : List ℕ = drop (p + m) a in
    let b : List ℕ = front ++ back in
    let front_len : length front ≡ length c - (length c - (p + m)) = omega (arith, length-take (p + m) c) in
    let back_len : length back ≡ length a - (p + m) = length-drop (p + m) a in
    let len : length b ≡ length front + length back = length-append front back in
    let take_b : take (p + m) b ≡ take (p + m) c = take_front c a (p + m) torn.no_shorter in
    let drop_b : drop (p + m) b ≡ drop (p + m) a = drop_front c a (p + m) torn.no_shorter in (
      b,
      record {
        before = sym (take-take p (p + m) b (omega arith)) ∙ ap (λ (l : List ℕ). take p l) take_b ∙ take-take p (p + m) c (omega arith) ∙ torn.before;
        after = drop_b;
        no_shorter = omega (arith, len, front_len, back_len, torn.no_shorter);
        no_longer = omega (arith, len, front_len, back_len, torn.no_longer, torn.no_shorter);
      },
      record {
        before = sym take_b;
        after = ap (λ i. drop i c) (add_assoc p m n) ∙ torn.after ∙ ap (λ i. drop i a) (sym (add_assoc p m n)) ∙ sym (drop-drop n (p + m) a) ∙ ap (λ (l : List ℕ). drop n l) (sym drop_b) ∙ drop-drop n (p + m) b;
        no_shorter = omega (arith, len, front_len, back_len, torn.no_shorter);
        no_longer = omega (arith, len, front_len, back_len, torn.no_longer, torn.no_shorter);
      },
    )

-- a write of the first bytes and then of the rest
pub in_pieces : (p n : ℕ) (bytes x : List ℕ) → p ≤ length x → n ≤ length bytes
    → overwritten (p + n) (drop n bytes) (overwritten p (take n bytes) x) ≡ overwritten p bytes x
in_pieces p n bytes x place within =
    let start : List ℕ = take p x ++ take n bytes in
    let tail : List ℕ = drop (p + length (take n bytes)) x in
    let some : length (take n bytes) ≡ n = omega (arith, length-take n bytes, within) in
    let start_len : length start ≡ p + n = omega (arith, length-append (take p x) (take n bytes), length-take p x, some, place) in
    let rest : ℕ = length (drop n bytes) in
    let whole : n + rest ≡ length bytes = omega (arith, length-drop n bytes, within) in
    let front : take (p + n) (start ++ tail) ≡ start = take_at start tail (p + n) start_len in
    let back : drop (p + n + rest) (start ++ tail) ≡ drop (p + length bytes) x =
    sym (drop-drop rest (p + n) (start ++ tail)) ∙ ap (λ (l : List ℕ). drop rest l) (drop_at start tail (p + n) start_len)
    ∙ drop-drop rest (p + length (take n bytes)) x ∙ ap (λ i. drop i x) (omega (arith, some, whole)) in
    ap (λ (l : List ℕ). l ++ drop n bytes ++ drop (p + n + rest) (start ++ tail)) front
    ∙ ap (λ (l : List ℕ). start ++ drop n bytes ++ l) back
    ∙ ap (λ (l : List ℕ). l ++ drop (p + length bytes) x) (append_assoc (take p x) (take n bytes) (drop n bytes) ∙ ap (λ (l : List ℕ). take p x ++ l) (take-append-drop n bytes))

-- a write of nothing
pub none_written : (p n : ℕ) (bytes x : List ℕ) → length bytes ≤ n → overwritten p (drop n bytes) x ≡ x
none_written p n bytes x all =
    ap (λ (l : List ℕ). overwritten p l x) (drop_all n bytes all) ∙ ap (λ (l : List ℕ). l ++ drop (p + 0) x) (append-nil (take p x)) ∙ ap (λ i. take p x ++ drop i x) (add-zero p) ∙ take-append-drop p x

-- what is written over a range doesn't tell what a write that was cut short left there
pub over_torn : (p : ℕ) (bytes a b : List ℕ) → Torn p (length bytes) a b → overwritten p bytes b ≡ overwritten p bytes a
over_torn p bytes a b torn = ap (λ (l : List ℕ). l ++ bytes ++ drop (p + length bytes) b) torn.before ∙ ap (λ (l : List ℕ). take p a ++ bytes ++ l) torn.after

-- how far a write has come: writing the rest gives what was to be written
pub record HasWritten (at : ℕ) (bytes : List ℕ) (done : ℕ) (old now : List ℕ) : Type 0 where
  pub rest : overwritten (at + done) (drop done bytes) now ≡ overwritten at bytes old
  pub torn : Torn at (length bytes) old now
  pub place : at + done ≤ length now

pub written_more : (at : ℕ) (bytes : List ℕ) (done n : ℕ) (old now : List ℕ) → done + n ≤ length bytes → HasWritten at bytes done old now
    → HasWritten at bytes (done + n) old (overwritten (at + done) (take n (drop done bytes)) now)
written_more at bytes done n old now within so_far =
    let rest : List ℕ = drop done bytes in
    let fits : n ≤ length rest = omega (arith, length-drop done bytes, within) in
    let some : length (take n rest) ≡ n = omega (arith, length-take n rest, fits) in
    let p : ℕ = at + done in
    let new : List ℕ = overwritten p (take n rest) now in
    let whole : Torn p (length (take n rest)) now new = torn_whole p (take n rest) now so_far.place in
    let len : length new ≡ length (take p now ++ take n rest) + length (drop (p + length (take n rest)) now) = length-append (take p now ++ take n rest) (drop (p + length (take n rest)) now) in
    record {
      rest = ap (λ i. overwritten i (drop (done + n) bytes) new) (sym (add_assoc at done n)) ∙ ap (λ (l : List ℕ). overwritten (p + n) l new) (sym (drop-drop n done bytes)) ∙ in_pieces p n rest now so_far.place fits ∙ so_far.rest;
      torn = torn_twice at (length bytes) old now new so_far.torn (torn_wider p (length (take n rest)) at (length bytes) now new (omega arith) (omega (arith, some, within)) whole);
      place = omega (arith, len, length-append (take p now) (take n rest), length-take p now, so_far.place, some);
    }

pub torn_more : (at : ℕ) (bytes : List ℕ) (done : ℕ) (old now new : List ℕ) → done ≤ length bytes → HasWritten at bytes done old now
    → Torn (at + done) (length (drop done bytes)) now new → HasWritten at bytes done old new
torn_more at bytes done old now new within so_far torn = record {
  rest = over_torn (at + done) (drop done bytes) now new torn ∙ so_far.rest;
  torn = torn_twice at (length bytes) old now new so_far.torn (torn_wider (at + done) (length (drop done bytes)) at (length bytes) now new (omega arith) (omega (arith, length-drop done bytes, within)) torn);
  place = omega (arith, so_far.place, torn.no_shorter);
}

pub written_start : (at : ℕ) (bytes old : List ℕ) → at ≤ length old → HasWritten at bytes 0 old old
written_start at bytes old place = record {
  rest = ap (λ i. overwritten i bytes old) (add-zero at);
  torn = torn_same at (length bytes) old;
  place = omega arith;
}

-- the same where the bytes are known
module _ (R : List ℕ → List ℕ → Type 0) where
  pub both_if : (Q : List ℕ → Type 0) → ((a b : List ℕ) → R a b → Q b) → (o n : Option (List ℕ)) → BothKnown R o n → IfSome n Q
  both_if Q f None n is = subst (λ (v : Option (List ℕ)). IfSome v Q) (sym is) tt
  both_if Q f (Some a) n known = subst (λ (v : Option (List ℕ)). IfSome v Q) (sym known.1) (f a known.0 known.2)

  pub both_map : (S : List ℕ → List ℕ → Type 0) (f : List ℕ → List ℕ) → ((a b : List ℕ) → R a b → S a (f b)) → (o m n : Option (List ℕ)) → BothKnown R o m → n ≡ option_map f m → BothKnown S o n
  both_map S f step None m n is maps = maps ∙ ap (option_map f) is
  both_map S f step (Some a) m n known maps = (f known.0, maps ∙ ap (option_map f) known.1, step a known.0 known.2)

  pub both_then : (Q S : List ℕ → List ℕ → Type 0) → ((a b c : List ℕ) → R a b → Q b c → S a c) → (o m n : Option (List ℕ)) → BothKnown R o m → BothKnown Q m n → BothKnown S o n
  both_then Q S step None m n is more = subst (λ (v : Option (List ℕ)). BothKnown Q v n) is more
  both_then Q S step (Some a) m n known more =
      let from : BothKnown Q (Some known.0) n = subst (λ (v : Option (List ℕ)). BothKnown Q v n) known.1 more in
      (from.0, from.1, step a known.0 from.0 known.2 from.2)

  pub both_from : ((a : List ℕ) → R a a) → (o : Option (List ℕ)) → BothKnown R o o
  both_from same None = refl
  both_from same (Some a) = (a, refl, same a)

  pub both_equal : (f : List ℕ → List ℕ) → ((a b : List ℕ) → R a b → b ≡ f a) → (o n : Option (List ℕ)) → BothKnown R o n → n ≡ option_map f o
  both_equal f step None n is = is
  both_equal f step (Some a) n known = known.1 ∙ ap Some (step a known.0 known.2)

-- a run of calls: time goes on
pub time_none : (t : ℕ) (since : ℕ → List ℕ → Type 0) (images : List ℕ → Type 0) → Elapses t t since since images
time_none t since images = record { later = omega arith; nothing_else = λ s c le left. inl left; keeps = λ s c le left. left }

pub time_more : (t u v : ℕ) (a b d : ℕ → List ℕ → Type 0) (mid new : List ℕ → Type 0) → Elapses t u a b mid → Keeps mid new → Elapses u v b d new → Elapses t v a d new
time_more t u v a b d mid new first keeps second = record {
  later = omega (arith, first.later, second.later);
  nothing_else = λ s c le left. ⊎_elim (λ past. ⊎_elim (λ before. inl before) (λ now. inr (keeps c now)) (first.nothing_else s c le past)) (λ now. inr now) (second.nothing_else s c (omega (arith, le, first.later)) left);
  keeps = λ s c le past. second.keeps s c (omega (arith, le, first.later)) (first.keeps s c le past);
}

-- Calls that were interrupted, so that nothing was read.
pub record IsUntouched {F : Type 0} (content : F → Option (List ℕ)) (may_leave : F → List ℕ → Type 0) (moment : F → ℕ) (left_since : F → ℕ → List ℕ → Type 0) (fault_count : F → ℕ) (old now : F) (before after : List ℕ) : Type 0 where
  pub stays : Stays (content old) (content now) (may_leave old) (may_leave now)
  pub time : Elapses (moment old) (moment now) (left_since old) (left_since now) (may_leave now)
  pub counted : fault_count now ≡ fault_count old
  pub buffer : IfSome (content old) (λ _. after ≡ before)

-- where the bytes are known, they are so at each later call
pub if_known : (Q : List ℕ → Type 0) (P R : Type 0) → (o m : Option (List ℕ)) → m ≡ o → IfSome o (λ _. P) → ((bytes : List ℕ) → P → R → Q bytes) → IfSome m (λ _. R) → IfSome o Q
if_known Q P R None m same was step is = tt
if_known Q P R (Some bytes) m same was step is = step bytes was (subst (λ (v : Option (List ℕ)). IfSome v (λ _. R)) same is)

pub gives_again : (at n : ℕ) (before between after : List ℕ) (o m : Option (List ℕ)) → m ≡ o → IfSome o (λ _. between ≡ before)
    → IfSome m (λ bytes. Gives bytes at n between after) → IfSome o (λ bytes. Gives bytes at n before after)
gives_again at n before between after None m same kept gives = tt
gives_again at n before between after (Some bytes) m same kept gives =
    subst (λ (l : List ℕ). Gives bytes at n l after) kept (subst (λ (v : Option (List ℕ)). IfSome v (λ b. Gives b at n between after)) same gives)

module _ {F : Type 0} (content : F → Option (List ℕ)) (may_leave : F → List ℕ → Type 0) (moment : F → ℕ) (left_since : F → ℕ → List ℕ → Type 0) (fault_count : F → ℕ) where
  pub untouched_start : (old : F) (bytes : List ℕ) → IsUntouched content may_leave moment left_since fault_count old old bytes bytes
  untouched_start old bytes = record {
    stays = record { content = refl; adds_none = λ c left. left; drops_none = λ c left. left };
    time = time_none (moment old) (left_since old) (may_leave old);
    counted = refl;
    buffer = elim (content old) as (λ v. IfSome v (λ _. bytes ≡ bytes)) [ None ↦ tt | Some b ↦ refl ];
  }

  pub stays_more : (old now new : F) (before between : List ℕ) → IsUntouched content may_leave moment left_since fault_count old now before between
      → Stays (content now) (content new) (may_leave now) (may_leave new) → Stays (content old) (content new) (may_leave old) (may_leave new)
  stays_more old now new before between so_far stays = record {
    content = stays.content ∙ so_far.stays.content;
    adds_none = λ c left. so_far.stays.adds_none c (stays.adds_none c left);
    drops_none = λ c left. stays.drops_none c (so_far.stays.drops_none c left);
  }

  pub stays_time : (old now new : F) (before between : List ℕ) → IsUntouched content may_leave moment left_since fault_count old now before between
      → Stays (content now) (content new) (may_leave now) (may_leave new) → Elapses (moment now) (moment new) (left_since now) (left_since new) (may_leave new)
      → Elapses (moment old) (moment new) (left_since old) (left_since new) (may_leave new)
  stays_time old now new before between so_far stays time =
      time_more (moment old) (moment now) (moment new) (left_since old) (left_since now) (left_since new) (may_leave now) (may_leave new) so_far.time stays.drops_none time

  pub untouched_more : (old now new : F) (before between after : List ℕ) → IsUntouched content may_leave moment left_since fault_count old now before between
      → Stays (content now) (content new) (may_leave now) (may_leave new) → Elapses (moment now) (moment new) (left_since now) (left_since new) (may_leave new)
      → fault_count new ≡ fault_count now → IfSome (content now) (λ _. after ≡ between) → IsUntouched content may_leave moment left_since fault_count old new before after
  untouched_more old now new before between after so_far stays time counted buffer = record {
    stays = stays_more old now new before between so_far stays;
    time = stays_time old now new before between so_far stays time;
    counted = counted ∙ so_far.counted;
    buffer = if_known (λ _. after ≡ before) (between ≡ before) (after ≡ between) (content old) (content now) so_far.stays.content so_far.buffer (λ bytes was is. is ∙ was) buffer;
  }

-- what the count shows of an answer
pub count_at_ok : {T : Type 0} (before after patience left : ℕ) (value : T) → CountsAnswer before after patience left (Ok value) → after ≡ before
count_at_ok before after patience left value counts = counts.0

pub count_at_interrupted : (before after patience left : ℕ) (fault : CallFault) → fault ≡ Interrupted → CountsAnswer {T = ℕ} before after patience left (Err fault) → (after ≡ before) × (left < patience)
count_at_interrupted before after patience left fault is counts =
    let known : (after ≡ before) × (patience ≡ left + 1) = subst (λ (f : CallFault). CountsAnswer {T = ℕ} before after patience left (Err f)) is counts in
    let used = known.1 in
    (known.0, omega (arith, used))

pub count_at_memory : (before after patience left : ℕ) (fault : CallFault) → fault ≡ Memory → CountsAnswer {T = ℕ} before after patience left (Err fault) → HasRisen before after
count_at_memory before after patience left fault is counts = subst (λ (f : CallFault). CountsAnswer {T = ℕ} before after patience left (Err f)) is counts

pub count_at_failed : (before after patience left : ℕ) (fault : CallFault) → fault ≡ Failed → CountsAnswer {T = ℕ} before after patience left (Err fault) → HasRisen before after
count_at_failed before after patience left fault is counts = subst (λ (f : CallFault). CountsAnswer {T = ℕ} before after patience left (Err f)) is counts

rises : (before after : ℕ) → HasRisen before after → before ≤ after
rises before after (inl lt) = omega arith
rises before after (inr (was, is)) = omega arith

pub fault_counted : {T : Type 0} {result : Result T DiskStop} → (first before after : ℕ) → before ≡ first → HasRisen before after → CountsFaults first after result
fault_counted first before after same risen =
    let now : HasRisen first after = subst (λ b. HasRisen b after) same risen in
    record { later = rises first after now; fault = λ is. now }

pub stop_counted : {T : Type 0} {result : Result T DiskStop} → (first before after : ℕ) → before ≡ first → HasRisen before after → CountsStops first after result
stop_counted {T} {result} first before after same risen =
    let now : HasRisen first after = subst (λ b. HasRisen b after) same risen in
    record { later = rises first after now; stop = elim result as (λ r. OnErr r (HasRisen first after)) [ Ok x ↦ tt | Err e ↦ now ] }

-- A write that has come so far.
pub record IsWriting {F : Type 0} (content : F → Option (List ℕ)) (may_leave : F → List ℕ → Type 0) (moment : F → ℕ) (left_since : F → ℕ → List ℕ → Type 0) (fault_count : F → ℕ) (at : ℕ) (bytes : List ℕ) (done : ℕ) (old now : F) : Type 0 where
  pub within : done ≤ length bytes
  pub fits : 0 < done → at + length bytes < 2 ^ 64
  pub known : BothKnown (HasWritten at bytes done) (content old) (content now)
  pub images : Follows (Torn at (length bytes)) (may_leave old) (may_leave now)
  pub each_image : Reaches (Torn at done) (may_leave old) (may_leave now)
  pub time : Elapses (moment old) (moment now) (left_since old) (left_since now) (may_leave now)
  pub counted : fault_count now ≡ fault_count old

known_start : (at : ℕ) (bytes : List ℕ) (o : Option (List ℕ)) → IfSome o (λ old. at ≤ length old) → BothKnown (HasWritten at bytes 0) o o
known_start at bytes None place = refl
known_start at bytes (Some old) place = (old, refl, written_start at bytes old place)

-- a write of no bytes leaves what was there
torn_none : (at : ℕ) (a b : List ℕ) → Torn at 0 a b → b ≡ a
torn_none at a b torn = sym (take-append-drop at b) ∙ ap (λ (l : List ℕ). l ++ drop at b) torn.before ∙ ap (λ (l : List ℕ). take at a ++ l) (ap (λ i. drop i b) (sym (add-zero at)) ∙ torn.after ∙ ap (λ i. drop i a) (add-zero at)) ∙ take-append-drop at a

module _ {F : Type 0} (content : F → Option (List ℕ)) (may_leave : F → List ℕ → Type 0) (moment : F → ℕ) (left_since : F → ℕ → List ℕ → Type 0) (fault_count : F → ℕ) (at : ℕ) (bytes : List ℕ) where
  pub writing_start : (old : F) → IfSome (content old) (λ b. at ≤ length b) → IsWriting content may_leave moment left_since fault_count at bytes 0 old old
  writing_start old place = record {
    within = omega arith;
    fits = λ lt. omega arith;
    known = known_start at bytes (content old) place;
    images = λ c left. (c, left, torn_same at (length bytes) c);
    each_image = λ d c left torn. subst (may_leave old) (sym (torn_none at d c torn)) left;
    time = time_none (moment old) (left_since old) (may_leave old);
    counted = refl;
  }

  pub writing_place : (done : ℕ) (old now : F) → IsWriting content may_leave moment left_since fault_count at bytes done old now → IfSome (content now) (λ b. at + done ≤ length b)
  writing_place done old now so_far = both_if (HasWritten at bytes done) (λ b. at + done ≤ length b) (λ a b has. has.place) (content old) (content now) so_far.known

  pub writing_keeps : (done : ℕ) (old now : F) → IsWriting content may_leave moment left_since fault_count at bytes done old now → Keeps (may_leave old) (may_leave now)
  writing_keeps done old now so_far c left = so_far.each_image c c left (torn_same at done c)

  pub images_more : (done n : ℕ) (old now new : F) → done + n ≤ length bytes → IsWriting content may_leave moment left_since fault_count at bytes done old now
      → Follows (Torn (at + done) n) (may_leave now) (may_leave new) → Follows (Torn at (length bytes)) (may_leave old) (may_leave new)
  images_more done n old now new within so_far follows c left =
      let (d, is_now, torn) = follows c left in
      let (e, is_old, before) = so_far.images d is_now in
      (e, is_old, torn_twice at (length bytes) e d c before (torn_wider (at + done) n at (length bytes) d c (omega arith) (omega (arith, within)) torn))

  -- some of the rest was written
  pub writing_more : (done n : ℕ) (old now new : F) → n ≤ length (drop done bytes) → IsWriting content may_leave moment left_since fault_count at bytes done old now
      → at + done + length (drop done bytes) < 2 ^ 64
      → content new ≡ option_map (overwritten (at + done) (take n (drop done bytes))) (content now)
      → Follows (Torn (at + done) (length (drop done bytes))) (may_leave now) (may_leave new) → Reaches (Torn (at + done) n) (may_leave now) (may_leave new)
      → Elapses (moment now) (moment new) (left_since now) (left_since new) (may_leave new) → fault_count new ≡ fault_count now
      → IsWriting content may_leave moment left_since fault_count at bytes (done + n) old new
  writing_more done n old now new some so_far end written follows reaches time counted =
      let rest : length (drop done bytes) ≡ length bytes - done = length-drop done bytes in
      let within : done + n ≤ length bytes = omega (arith, rest, some, so_far.within) in
      let whole : done + length (drop done bytes) ≤ length bytes = omega (arith, rest, so_far.within) in
      let keeps : Keeps (may_leave now) (may_leave new) = λ c left. reaches c c left (torn_same (at + done) n c) in
      record {
        within = within;
        fits = λ lt. omega (arith, rest, end, so_far.within);
        known = both_map (HasWritten at bytes done) (HasWritten at bytes (done + n)) (overwritten (at + done) (take n (drop done bytes))) (λ a b has. written_more at bytes done n a b within has) (content old) (content now) (content new) so_far.known written;
        images = images_more done (length (drop done bytes)) old now new whole so_far follows;
        each_image = λ d c left torn.
            let (e, first, second) = torn_split at done n d c torn in
            reaches e c (so_far.each_image d e left first) second;
        time = time_more (moment old) (moment now) (moment new) (left_since old) (left_since now) (left_since new) (may_leave now) (may_leave new) so_far.time keeps time;
        counted = counted ∙ so_far.counted;
      }

  -- a call failed, and some of the rest may be written
  pub writing_torn : (done : ℕ) (old now new : F) → IsWriting content may_leave moment left_since fault_count at bytes done old now
      → BothKnown (Torn (at + done) (length (drop done bytes))) (content now) (content new)
      → Follows (Torn (at + done) (length (drop done bytes))) (may_leave now) (may_leave new) → Keeps (may_leave now) (may_leave new)
      → Elapses (moment now) (moment new) (left_since now) (left_since new) (may_leave new) → fault_count new ≡ fault_count now
      → IsWriting content may_leave moment left_since fault_count at bytes done old new
  writing_torn done old now new so_far torn follows keeps time counted =
      let rest : length (drop done bytes) ≡ length bytes - done = length-drop done bytes in
      let whole : done + length (drop done bytes) ≤ length bytes = omega (arith, rest, so_far.within) in
      record {
        within = so_far.within;
        fits = so_far.fits;
        known = both_then (HasWritten at bytes done) (Torn (at + done) (length (drop done bytes))) (HasWritten at bytes done) (λ a b d has more. torn_more at bytes done a b d so_far.within has more) (content old) (content now) (content new) so_far.known torn;
        images = images_more done (length (drop done bytes)) old now new whole so_far follows;
        each_image = λ d c left piece. keeps c (so_far.each_image d c left piece);
        time = time_more (moment old) (moment now) (moment new) (left_since old) (left_since now) (left_since new) (may_leave now) (may_leave new) so_far.time keeps time;
        counted = counted ∙ so_far.counted;
      }

  pub writing_ends : (done : ℕ) (old now : F) → length bytes ≤ done → IsWriting content may_leave moment left_since fault_count at bytes done old now
      → content now ≡ option_map (overwritten at bytes) (content old)
  writing_ends done old now all so_far =
      both_equal (HasWritten at bytes done) (overwritten at bytes) (λ a b has. sym (none_written (at + done) done bytes b all) ∙ has.rest) (content old) (content now) so_far.known

  pub writing_reaches : (done : ℕ) (old now : F) → length bytes ≤ done → IsWriting content may_leave moment left_since fault_count at bytes done old now
      → Reaches (Torn at (length bytes)) (may_leave old) (may_leave now)
  writing_reaches done old now all so_far =
      let same : done ≡ length bytes = omega (arith, all, so_far.within) in
      subst (λ n. Reaches (Torn at n) (may_leave old) (may_leave now)) same so_far.each_image

  -- a call failed for good
  pub known_torn : (done : ℕ) (old now new : F) → IsWriting content may_leave moment left_since fault_count at bytes done old now
      → BothKnown (Torn (at + done) (length (drop done bytes))) (content now) (content new) → BothKnown (Torn at (length bytes)) (content old) (content new)
  known_torn done old now new so_far torn =
      both_then (HasWritten at bytes done) (Torn (at + done) (length (drop done bytes))) (Torn at (length bytes)) (λ a b d has more. (torn_more at bytes done a b d so_far.within has more).torn) (content old) (content now) (content new) so_far.known torn

  pub images_torn : (done : ℕ) (old now new : F) → IsWriting content may_leave moment left_since fault_count at bytes done old now
      → Follows (Torn (at + done) (length (drop done bytes))) (may_leave now) (may_leave new) → Follows (Torn at (length bytes)) (may_leave old) (may_leave new)
  images_torn done old now new so_far follows =
      images_more done (length (drop done bytes)) old now new (omega (arith, length-drop done bytes, so_far.within)) so_far follows

-- a read into the front of a buffer
pub gives_front : (bytes : List ℕ) (at n most : ℕ) (old new : List ℕ) → Gives bytes at n (take most old) new → n ≤ length (take most old) → length new ≡ length (take most old)
    → (0 < length old → 0 < most) → Gives bytes at n old (new ++ drop most old)
gives_front bytes at n most old new gives within len some = record {
  put = take-append-le n new (drop most old) (omega (arith, within, len)) ∙ gives.put;
  rest = drop-append-le n new (drop most old) (omega (arith, within, len)) ∙ ap (λ (l : List ℕ). l ++ drop most old) gives.rest ∙ sym (drop-append-le n (take most old) (drop most old) within) ∙ ap (λ (l : List ℕ). drop n l) (take-append-drop most old);
  there = gives.there;
  some = λ there is. gives.some there (omega (arith, length-take most old, some is, is));
}

-- a shorter write is one in the range of a longer one
pub follows_wider : (at n m : ℕ) (before after : List ℕ → Type 0) → n ≤ m → Follows (Torn at n) before after → Follows (Torn at m) before after
follows_wider at n m before after le follows c left =
    let (d, was, torn) = follows c left in
    (d, was, torn_wider at n at m d c (omega arith) (omega (arith, le)) torn)
