-- Bytes that are read one after another, and what a line spells.
use Rattle.std.proofs.Common.{Bool, cond, ◌≡◌, ◌≢◌, ◌<◌, ◌≤◌, ◌+◌, ◌-◌, ◌*◌, ℕ, List, [], ◌∷◌, ◌++◌, length, take, drop, set, true, false, nat_eq, refl, sym, ◌∙◌, ap, subst, Option, Some, None, append_assoc, arith, length-append, length-take-le}
use Rattle.std.specs.Prelude.{IfSome, Result, Ok, Err, codes}
use Rattle.std.specs.Result.{result_unwrap_or}
use Rattle.hex.specs.declared.error.FromHexError.{FromHexError}
use Rattle.std.specs.Io.KnownBytes.{Appends, Consumes, Keeps}
use Rattle.host_calls.specs.Rise.{HasRisen}
use Rattle.std.proofs.lemmas.List.{take_more_set, take-append-drop, take_at, drop_at, take-take, drop-take}
use Rattle.std.proofs.lemmas.List.Elements.{All-head, All-tail, All-push, All-append, All-cons, All-nil, All-weaker}
use Rattle.std.specs.Cmp.Lexicographic.{pointwise, same_text}
use Rattle.hex.specs.Hex.{encode_lower, is_hex_digit, IsBytes, decode_sized, lower_digits}
use Rattle.hex.proofs.HexLemmas.{decode_sized-encode_lower, IsOk-decode_sized, length-encode_with}
use Rattle.signer_api.specs.declared.values.PublicKey.{PublicKey}
use Rattle.signer_line.specs.Lines.{key_line, fed, NoFeed}
use Rattle.signer_line.specs.Answers.{Answered, IsAnswer, answer_line, told, heard_of}
use Rattle.signer_line.specs.declared.answer.Answer as code
use Rattle.signer_line.specs.Answers.Answered.{Key, Signature, Once, Checked, Dropped}
use Rattle.signer_line.specs.Meetings.{Comes}
use Rattle.signer_line.specs.Streams.{NoByte, NoLine, NoHello, RightOr, Unheard, Breaks}
use Rattle.signer_line.specs.declared.inbox.Stop.{Stop}
use Rattle.signer_line.specs.declared.inbox.Stop.TheVariants.{Broken, Ended, TooLong}

-- one reading after another
pub consumes_more : (a b c : Option (List ℕ)) (xs ys : List ℕ) → Consumes a b xs → Consumes b c ys → Consumes a c (xs ++ ys)
consumes_more None b c xs ys first second = tt
consumes_more (Some u) None c xs ys first second = absurd first
consumes_more (Some u) (Some v) None xs ys first second = absurd second
consumes_more (Some u) (Some v) (Some w) xs ys first second =
    first ∙ ap (λ (rest : List ℕ). xs ++ rest) second ∙ sym (append_assoc xs ys w)

-- one byte more is kept
pub consumes_kept : (a b c : Option (List ℕ)) (bytes : List ℕ) (n byte : ℕ) → n < length bytes → Consumes a b (take n bytes) → Consumes b c (byte ∷ [])
    → Consumes a c (take (n + 1) (set bytes n byte))
consumes_kept a b c bytes n byte low first second =
    rw (take_more_set bytes n byte low) (consumes_more a b c (take n bytes) (byte ∷ []) first second)

pub whole_kept : (bytes : List ℕ) (n byte : ℕ) → n < length bytes → NoFeed (take n bytes) → byte ≢ 10 → NoFeed (take (n + 1) (set bytes n byte))
whole_kept bytes n byte low before other =
    rw (take_more_set bytes n byte low) (All-push (λ b. b ≢ 10) (take n bytes) byte before other)

-- the longest line and its line feed
pub consumes_line : (a b c : Option (List ℕ)) (bytes : List ℕ) (n m byte : ℕ) → Consumes a b (take n bytes) → n ≡ m → Consumes b c (byte ∷ []) → byte ≡ 10
    → Consumes a c (fed (take m bytes))
consumes_line a b c bytes n m byte first same second feed =
    let front : Consumes a b (take m bytes) = subst (λ (k : ℕ). Consumes a b (take k bytes)) same first in
    let back : Consumes b c (10 ∷ []) = subst (λ (x : ℕ). Consumes b c (x ∷ [])) feed second in
    consumes_more a b c (take m bytes) (10 ∷ []) front back

-- a key that a line spells
pub key_spelled : (o : Option PublicKey) (bytes line : List ℕ) → IfSome o (λ key. key.bytes ≡ bytes) → line ≡ key_line bytes → IfSome o (λ key. line ≡ key_line key.bytes)
key_spelled None bytes line is spells = tt
key_spelled (Some key) bytes line is spells = spells ∙ ap key_line (sym is)

pub parts_spelled : (line digits front back signature : List ℕ) → line ≡ 111 ∷ 110 ∷ 99 ∷ 101 ∷ 32 ∷ digits → digits ≡ front ++ back → back ≡ 32 ∷ signature
    → line ≡ 111 ∷ 110 ∷ 99 ∷ 101 ∷ 32 ∷ (front ++ (32 ∷ []) ++ signature)
parts_spelled line digits front back signature a b c =
    let whole : digits ≡ front ++ (32 ∷ []) ++ signature = b ∙ ap (λ (rest : List ℕ). front ++ rest) c ∙ sym (append_assoc front (32 ∷ []) signature) in
    a ∙ ap (λ (rest : List ℕ). 111 ∷ 110 ∷ 99 ∷ 101 ∷ 32 ∷ rest) whole

-- what is left behind a word at the front
pub stripped : (n : ℕ) (xs word rest : List ℕ) → pointwise nat_eq (take n xs) word ≡ true → rest ≡ drop n xs → xs ≡ word ++ rest
stripped n xs word rest same is =
    sym (take-append-drop n xs)
    ∙ ap (λ (front : List ℕ). front ++ drop n xs) (same_text (take n xs) word (sym same))
    ∙ ap (λ (back : List ℕ). word ++ back) (sym is)

-- Two lines that the same bytes begin with are one line.
pub same_line : (a b r s : List ℕ) → NoFeed a → NoFeed b → a ++ 10 ∷ r ≡ b ++ 10 ∷ s → a ≡ b
same_line [] [] r s whole_a whole_b same = refl
same_line [] (y ∷ ys) r s whole_a whole_b same = absurd (All-head (λ b. b ≢ 10) y ys whole_b (cc (sym same)))
same_line (x ∷ xs) [] r s whole_a whole_b same = absurd (All-head (λ b. b ≢ 10) x xs whole_a (cc same))
same_line (x ∷ xs) (y ∷ ys) r s whole_a whole_b same =
    let heads : x ≡ y = cc same in
    let tails : xs ++ 10 ∷ r ≡ ys ++ 10 ∷ s = cc same in
    let rest : xs ≡ ys = same_line xs ys r s (All-tail (λ b. b ≢ 10) x xs whole_a) (All-tail (λ b. b ≢ 10) y ys whole_b) tails in
    rw (heads, rest) refl

-- A part without a line feed ends before the first one.
pub part_is_short : (part line r ys : List ℕ) → NoFeed part → line ++ 10 ∷ r ≡ part ++ ys → length part ≤ length line
part_is_short [] line r ys whole same = omega arith
part_is_short (x ∷ xs) [] r ys whole same = absurd (All-head (λ b. b ≢ 10) x xs whole (cc (sym same)))
part_is_short (x ∷ xs) (y ∷ line) r ys whole same =
    let tails : line ++ 10 ∷ r ≡ xs ++ ys = cc same in
    let rest = part_is_short xs line r ys (All-tail (λ b. b ≢ 10) x xs whole) tails in
    omega (arith, rest)

-- No digit is a line feed.
digit_no_feed : (c : ℕ) → is_hex_digit c ≡ true → c ≢ 10
digit_no_feed c digit same = cc (sym digit ∙ ap is_hex_digit same)

pub digits_no_feed : (bytes : List ℕ) → IsBytes bytes → NoFeed (encode_lower bytes)
digits_no_feed bytes are =
    let decoded = decode_sized-encode_lower bytes (length bytes) refl are in
    let digits = (IsOk-decode_sized (encode_lower bytes) (length bytes)).0 (rw decoded refl) in
    All-weaker (λ c. is_hex_digit c ≡ true) (λ b. b ≢ 10) digit_no_feed (encode_lower bytes) digits.1

-- a reading of nothing behind another
pub consumes_still : (a b c : Option (List ℕ)) (xs : List ℕ) → Consumes a b xs → Keeps b c → Consumes a c xs
consumes_still None b c xs first second = tt
consumes_still (Some u) None c xs first second = absurd first
consumes_still (Some u) (Some v) None xs first second = absurd second
consumes_still (Some u) (Some v) (Some w) xs first second = first ∙ ap (λ (rest : List ℕ). xs ++ rest) (sym second)

-- why no line comes behind a part of one
pub no_line : (stop : Stop) (n m k : ℕ) (a b c : Option (List ℕ)) (part : List ℕ) → Consumes a b part → NoFeed part → m ≡ n → NoByte stop m k b c
    → NoLine stop n k a c
no_line Broken n m k a b c part read whole same risen = subst (λ (i : ℕ). HasRisen i k) same risen
no_line Ended n m k a b c part read whole same end =
    (end.0 ∙ same, (part, whole, consumes_still a b c part read end.1, end.2))
no_line TooLong n m k a b c part read whole same none = absurd none

pub too_long : (n m k : ℕ) (a b c : Option (List ℕ)) (bytes : List ℕ) (i byte : ℕ) → i ≡ 1058 → length bytes ≡ 1058 → Consumes a b (take i bytes) → NoFeed (take i bytes)
    → m ≡ n → Consumes b c (byte ∷ []) → byte ≢ 10 → k ≡ m → NoLine TooLong n k a c
too_long n m k a b c bytes i byte all long read whole same one other still = (
  still ∙ same,
  (
    take i bytes ++ byte ∷ [],
    All-push (λ b. b ≢ 10) (take i bytes) byte whole other,
    omega (arith, length-append (take i bytes) (byte ∷ []), length-take-le i bytes (omega arith)),
    consumes_more a b c (take i bytes) (byte ∷ []) read one,
  ),
)

-- why no hello comes behind what was passed over
pub no_hello : (stop : Stop) (n m k : ℕ) (a b c : Option (List ℕ)) → m ≡ n → NoByte stop m k b c → NoHello stop n k a c
no_hello Broken n m k a b c same risen = subst (λ (i : ℕ). HasRisen i k) same risen
no_hello Ended n m k a b c same end = (end.0 ∙ same, end.2)
no_hello TooLong n m k a b c same none = absurd none

-- What lower-case digits spell is read back.
pub read_back : (digits : List ℕ) (n : ℕ) (bytes : List ℕ) → length bytes ≡ n → IsBytes bytes → digits ≡ encode_lower bytes → decode_sized digits n ≡ Ok bytes
read_back digits n bytes long are spelled = rw spelled (decode_sized-encode_lower bytes n long are)

pub read_back_fails : (T : Type 0) (digits : List ℕ) (n : ℕ) (bytes : List ℕ) (e : FromHexError) → length bytes ≡ n → IsBytes bytes → digits ≡ encode_lower bytes → decode_sized digits n ≡ Err e → T
read_back_fails T digits n bytes e long are spelled fails = cc (sym fails ∙ read_back digits n bytes long are spelled)

pub read_back_same : (digits : List ℕ) (n : ℕ) (bytes given : List ℕ) → length bytes ≡ n → IsBytes bytes → digits ≡ encode_lower bytes → decode_sized digits n ≡ Ok given → given ≡ bytes
read_back_same digits n bytes given long are spelled gives =
    ap (λ (r : Result (List ℕ) FromHexError). result_unwrap_or r []) (sym gives ∙ read_back digits n bytes long are spelled)

-- the digits of a key and of a signature, in a line that has both
pub once_both : (line digits front rest back key signature : List ℕ) → digits ≡ drop 5 line → front ≡ take 540 digits → rest ≡ drop 540 digits → back ≡ drop 1 rest
    → length key ≡ 540 → line ≡ 111 ∷ 110 ∷ 99 ∷ 101 ∷ 32 ∷ (key ++ (32 ∷ signature)) → (front ≡ key) × (back ≡ signature)
once_both line digits front rest back key signature a b c d long spelled =
    let behind : digits ≡ key ++ (32 ∷ signature) = a ∙ ap (λ (xs : List ℕ). drop 5 xs) spelled in (
      b ∙ ap (λ (xs : List ℕ). take 540 xs) behind ∙ take_at key (32 ∷ signature) 540 long,
      d ∙ ap (λ (xs : List ℕ). drop 1 xs) (c ∙ ap (λ (xs : List ℕ). drop 540 xs) behind ∙ drop_at key (32 ∷ signature) 540 long),
    )

pub no_blank : (line digits rest key signature : List ℕ) → digits ≡ drop 5 line → rest ≡ drop 540 digits → length key ≡ 540
    → line ≡ 111 ∷ 110 ∷ 99 ∷ 101 ∷ 32 ∷ (key ++ (32 ∷ signature)) → pointwise nat_eq (take 1 rest) (32 ∷ []) ≡ false → ⊥
no_blank line digits rest key signature a c long spelled other =
    let behind : digits ≡ key ++ (32 ∷ signature) = a ∙ ap (λ (xs : List ℕ). drop 5 xs) spelled in
    let is : rest ≡ 32 ∷ signature = c ∙ ap (λ (xs : List ℕ). drop 540 xs) behind ∙ drop_at key (32 ∷ signature) 540 long in
    let same : true ≡ false = subst (λ (xs : List ℕ). pointwise nat_eq (take 1 xs) (32 ∷ []) ≡ false) is other in
    cc same

pub digits_long : (bytes : List ℕ) (n : ℕ) → length bytes ≡ n → length (encode_lower bytes) ≡ 2 * n
digits_long bytes n long = omega (arith, length-encode_with lower_digits bytes)

pub none_some : (T : Type 0) (x : T) → ◌≡◌ {A = Option T} None (Some x) → ⊥
none_some T x h = cc h

pub some_same : (T : Type 0) (x y : T) → ◌≡◌ {A = Option T} (Some x) (Some y) → x ≡ y
some_same T x y h = cc h

-- one writing after another
pub sent_more : (a b c : Option (List ℕ)) (bytes : List ℕ) (at n : ℕ) → Appends a b (take at bytes) → Appends b c (take n (drop at bytes)) → Appends a c (take (at + n) bytes)
sent_more None b c bytes at n first second = tt
sent_more (Some u) None c bytes at n first second = absurd first
sent_more (Some u) (Some v) None bytes at n first second = absurd second
sent_more (Some u) (Some v) (Some w) bytes at n first second =
    let whole : take at bytes ++ take n (drop at bytes) ≡ take (at + n) bytes =
    ap (λ (xs : List ℕ). xs ++ take n (drop at bytes)) (sym (take-take at (at + n) bytes (omega arith)))
    ∙ ap (λ (xs : List ℕ). take at (take (at + n) bytes) ++ xs) (sym (drop-take at n bytes))
    ∙ take-append-drop at (take (at + n) bytes) in
    second ∙ ap (λ (xs : List ℕ). xs ++ take n (drop at bytes)) first ∙ append_assoc u (take at bytes) (take n (drop at bytes))
    ∙ ap (λ (xs : List ℕ). u ++ xs) whole

-- no line feed, as a test
abbrev no_feed : List ℕ → Bool
no_feed [] = true
no_feed (x ∷ xs) = cond (nat_eq x 10) false (no_feed xs)

tested : (x : ℕ) (xs : List ℕ) (is : Bool) → nat_eq x 10 ≡ is → cond is false (no_feed xs) ≡ true → (x ≢ 10) × (no_feed xs ≡ true)
tested x xs true same none = absurd (cc none)
tested x xs false same none = (λ e. cc (sym same ∙ ap (λ (y : ℕ). nat_eq y 10) e), none)

whole_word : (xs : List ℕ) → no_feed xs ≡ true → NoFeed xs
whole_word [] none = All-nil (λ b. b ≢ 10)
whole_word (x ∷ xs) none =
    let parts = tested x xs (nat_eq x 10) refl none in
    All-cons (λ b. b ≢ 10) x xs parts.0 (whole_word xs parts.1)

-- An answer is one line, and no longer than the longest.
pub answer_whole : (answer : Answered) → IsAnswer answer → NoFeed (answer_line answer)
answer_whole (Key key) is = All-append (λ b. b ≢ 10) (codes "key ") (encode_lower key) (whole_word (codes "key ") refl) (digits_no_feed key is.1)
answer_whole (Signature signature) is =
    All-append (λ b. b ≢ 10) (codes "signature ") (encode_lower signature) (whole_word (codes "signature ") refl) (digits_no_feed signature is.1)
answer_whole (Once key signature) is =
    All-append (λ b. b ≢ 10) (codes "once ") (encode_lower key ++ (codes " " ++ encode_lower signature)) (whole_word (codes "once ") refl)
    (All-append (λ b. b ≢ 10) (encode_lower key) (codes " " ++ encode_lower signature) (digits_no_feed key is.1)
    (All-append (λ b. b ≢ 10) (codes " ") (encode_lower signature) (whole_word (codes " ") refl) (digits_no_feed signature is.3)))
answer_whole (Checked true) is = whole_word (codes "yes") refl
answer_whole (Checked false) is = whole_word (codes "no") refl
answer_whole Dropped is = whole_word (codes "done") refl

pub answer_short : (answer : Answered) → IsAnswer answer → length (answer_line answer) ≤ 1058
answer_short (Key key) is = omega (arith, length-append (codes "key ") (encode_lower key), digits_long key 270 is.0.whole)
answer_short (Signature signature) is = omega (arith, length-append (codes "signature ") (encode_lower signature), digits_long signature 256 is.0)
answer_short (Once key signature) is =
    let back = digits_long signature 256 is.2 in
    let front = digits_long key 270 is.0.whole in
    let ends = length-append (codes " ") (encode_lower signature) in
    let middle = length-append (encode_lower key) (codes " " ++ encode_lower signature) in
    omega (arith, back, front, ends, middle, length-append (codes "once ") (encode_lower key ++ (codes " " ++ encode_lower signature)))
answer_short (Checked true) is = omega arith
answer_short (Checked false) is = omega arith
answer_short Dropped is = omega arith

feeds_apart : (line rest : List ℕ) → fed line ++ rest ≡ line ++ 10 ∷ rest
feeds_apart line rest = append_assoc line (10 ∷ []) rest

-- A line that comes and spells an answer is read as that answer.
pub line_comes : (left new : Option (List ℕ)) (line coming : List ℕ) → NoFeed coming → Comes left coming → Consumes left new (fed line) → NoFeed line → line ≡ coming
line_comes None new line coming one comes read whole = absurd (none_some _ _ comes.1)
line_comes (Some xs) None line coming one comes read whole = absurd read
line_comes (Some xs) (Some ys) line coming one comes read whole =
    let is : xs ≡ fed coming ++ comes.0 = some_same _ _ _ comes.1 in
    same_line line coming ys comes.0 whole one (sym (feeds_apart line ys) ∙ sym read ∙ is ∙ feeds_apart coming comes.0)

-- Where a short line comes, none is missed but for a call that failed.
pub line_missed : (stop : Stop) (n k : ℕ) (left new : Option (List ℕ)) (coming : List ℕ) → length coming ≤ 1058 → Comes left coming → NoLine stop n k left new → HasRisen n k
line_missed Broken n k left new coming short comes missed = missed
line_missed Ended n k None new coming short comes missed = absurd (none_some _ _ comes.1)
line_missed Ended n k (Some xs) None coming short comes missed = absurd missed.1.2
line_missed Ended n k (Some xs) (Some ys) coming short comes missed =
    let part = missed.1.0 in
    let is : xs ≡ fed coming ++ comes.0 = some_same _ _ _ comes.1 in
    let same : coming ++ 10 ∷ comes.0 ≡ part ++ ys = sym (feeds_apart coming comes.0) ∙ sym is ∙ missed.1.2 in
    let low = part_is_short part coming comes.0 ys missed.1.1 same in
    let size = ap length same in
    let none = ap length missed.1.3 in
    absurd (omega (arith, low, size, none, length-append coming (10 ∷ comes.0), length-append part ys))
line_missed TooLong n k None new coming short comes missed = absurd (none_some _ _ comes.1)
line_missed TooLong n k (Some xs) None coming short comes missed = absurd missed.1.3
line_missed TooLong n k (Some xs) (Some ys) coming short comes missed =
    let part = missed.1.0 in
    let is : xs ≡ fed coming ++ comes.0 = some_same _ _ _ comes.1 in
    let same : coming ++ 10 ∷ comes.0 ≡ part ++ ys = sym (feeds_apart coming comes.0) ∙ sym is ∙ missed.1.3 in
    let low = part_is_short part coming comes.0 ys missed.1.1 same in
    absurd (omega (arith, low, missed.1.2, short))

pub sent_part : (a b c : Option (List ℕ)) (bytes : List ℕ) (at n : ℕ) → n ≤ length bytes - at → Appends a b (take at bytes)
    → Appends b c (take n (take (length bytes - at) (drop at bytes))) → Appends a c (take (at + n) bytes)
sent_part a b c bytes at n low first second =
    sent_more a b c bytes at n first (subst (Appends b c) (take-take n (length bytes - at) (drop at bytes) low) second)

-- what was heard, where the answer is right or a call failed
pub heard_right : (E : Type 0) (broken : Type 0) (r : Result code.Answer E) (a b : Answered) → RightOr broken (λ given. told given ≡ a) r → heard_of r ≡ Some b → b ≡ a
heard_right E broken (Ok x) a b right heard = sym (some_same _ _ _ heard) ∙ right
heard_right E broken (Err e) a b right heard = absurd (none_some _ _ heard)

pub heard_broken : (E : Type 0) (broken : Type 0) (r : Result code.Answer E) (a : Answered) → RightOr broken (λ given. told given ≡ a) r → (heard_of r ≡ Some a → false ≡ true) → broken
heard_broken E broken (Ok x) a right other = cc (other (ap (λ (answer : Answered). Some answer) right))
heard_broken E broken (Err e) a right other = right

pub unheard_kept : (step : Bool) (a b c d e f : ℕ) (old new after : Option (List ℕ)) → e ≡ b → f ≡ d → after ≡ new → Unheard step (Breaks a b c d) old new
    → Unheard step (Breaks a e c f) old after
unheard_kept step a b c d e f old new after from to left unheard = rw (from, to, left) unheard

pub key_same : (a b : List ℕ) → Key a ≡ Key b → a ≡ b
key_same a b h = cc h

pub signature_same : (a b : List ℕ) → Signature a ≡ Signature b → a ≡ b
signature_same a b h = cc h

pub once_same : (a b c d : List ℕ) → Once a b ≡ Once c d → (a ≡ c) × (b ≡ d)
once_same a b c d h = (cc h, cc h)

pub check_same : (a b : Bool) → Checked a ≡ Checked b → a ≡ b
check_same a b h = cc h
