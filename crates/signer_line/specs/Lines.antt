-- The lines that go to a signer and come back, without their line feeds. Bytes stand in lower-case hex.
use Rattle.std.specs.Prelude.{◌≢◌, List, ◌++◌, ℕ, codes, Bool, true, false, All}
use Rattle.hex.specs.Hex.{encode_lower}
use Rattle.signer_line.specs.declared.request.Request.{Request}
use Rattle.signer_line.specs.declared.request.Request.TheVariants.{Make, Sign, Once, Check, Discard}

-- A blank and bytes in hex.
abbrev pub spaced : List ℕ → List ℕ
spaced bytes = codes " " ++ encode_lower bytes

-- What is asked: a key, a signature, a signature under a key that isn't kept, whether a signature is
-- vouched, and that a key be dropped.
abbrev pub make_request : List ℕ
make_request = codes "make"

abbrev pub sign_request : List ℕ → List ℕ → List ℕ
sign_request key digest = codes "sign" ++ spaced key ++ spaced digest

abbrev pub once_request : List ℕ → List ℕ
once_request digest = codes "once" ++ spaced digest

abbrev pub check_request : List ℕ → List ℕ → List ℕ → List ℕ
check_request key digest signature = codes "check" ++ spaced key ++ spaced digest ++ spaced signature

abbrev pub drop_request : List ℕ → List ℕ
drop_request key = codes "drop" ++ spaced key

abbrev pub request_line : Request → List ℕ
request_line Make = make_request
request_line (Sign key digest) = sign_request key.now.bytes digest.now.bytes
request_line (Once digest) = once_request digest.now.bytes
request_line (Check key digest signature) = check_request key.now.bytes digest.now.bytes signature.now.bytes
request_line (Discard key) = drop_request key.now.bytes

-- What answers it.
abbrev pub key_line : List ℕ → List ℕ
key_line key = codes "key" ++ spaced key

abbrev pub signature_line : List ℕ → List ℕ
signature_line signature = codes "signature" ++ spaced signature

abbrev pub once_line : List ℕ → List ℕ → List ℕ
once_line key signature = codes "once" ++ spaced key ++ spaced signature

abbrev pub check_line : Bool → List ℕ
check_line true = codes "yes"
check_line false = codes "no"

abbrev pub drop_line : List ℕ
drop_line = codes "done"

-- A line and its line feed.
abbrev pub fed : List ℕ → List ℕ
fed line = line ++ codes "\n"

-- what opens a meeting, and answers it: a word of 16 bytes
abbrev pub hello_line : List ℕ → List ℕ
hello_line word = codes "hello" ++ spaced word

-- no line feed stands in it
abbrev pub NoFeed : List ℕ → Type 0
NoFeed bytes = All (λ b. b ≢ 10) bytes
