-- The texts that are printed for the replies' tokens.
use Rattle.std.proofs.Common.{ℕ, ◌≡◌, List, [], ◌∷◌, ◌++◌, append_assoc, append-nil, sym, codes, decimal}
use Rattle.json.specs.Token.{Token}
use Rattle.json.specs.Print.{print, print_from, escape_byte, quoted}
use Rattle.json_api.specs.Reply.{refusal_spelling}
use Rattle.json_api.specs.inner.Tokens.{refusal_tokens}

regroup-7 : (a b c d e f g : List ℕ) → (((((a ++ b) ++ c) ++ d) ++ e) ++ f) ++ g ≡ a ++ (b ++ (c ++ (d ++ (e ++ (f ++ g)))))
regroup-7 a b c d e f g = simp append_assoc

pub print-refusal : (code : ℕ) (detail refused : List ℕ) → print (refusal_tokens code detail refused) ≡ refusal_spelling code detail refused
unfolding print_from escape_byte
print-refusal code detail refused =
    sym (regroup-7 (codes "{\"code\":") (decimal code) (codes ",\"detail\":") (quoted detail) (codes ",\"refused\":") (quoted refused) (codes "}"))

-- tokens that are appended one by one
pub appended-2 : (ts : List Token) (a b : Token) → ts ++ a ∷ [] ++ b ∷ [] ≡ ts ++ a ∷ b ∷ []
appended-2 ts a b = append_assoc ts (a ∷ []) (b ∷ [])

pub appended-members : (ts : List Token) (a : Token) (xs ys zs : List Token) (b : Token)
    → ts ++ a ∷ [] ++ xs ++ ys ++ zs ++ b ∷ [] ≡ ts ++ a ∷ (xs ++ ys ++ zs ++ b ∷ [])
appended-members ts a xs ys zs b = simp append_assoc

pub print-string : (t : List ℕ) → print (Token.string t ∷ []) ≡ quoted t
unfolding print_from
print-string t = append-nil (quoted t)

-- the pieces of the reply to a publication, one after another
pub pieces-published : (old moment objects origins serial : List ℕ)
    → old ++ codes "{\"moment\":" ++ moment ++ codes ",\"objects\":" ++ objects ++ codes ",\"origins\":" ++ origins
    ++ codes ",\"reply\":\"published\",\"serial\":" ++ serial ++ codes "}"
    ≡ old ++ (codes "{\"moment\":" ++ moment ++ codes ",\"objects\":" ++ objects ++ codes ",\"origins\":" ++ origins
    ++ codes ",\"reply\":\"published\",\"serial\":" ++ serial ++ codes "}")
pieces-published old moment objects origins serial = simp append_assoc

-- those of a reply whose one number comes last
pub pieces-last : (old front number : List ℕ)
    → old ++ front ++ number ++ codes "}" ≡ old ++ (front ++ number ++ codes "}")
pieces-last old front number = simp append_assoc
