-- A kept name and its text.
use Rattle.std.specs.Str.{IsUtf8}
use Rattle.std.proofs.lemmas.Bool.Decides.{nat_tests}
use Rattle.std.proofs.lemmas.Str.{IsUtf8-from_ascii}
use Rattle.std.proofs.lemmas.Str.Ascii.{IsAscii-from_all}
use Rattle.std.proofs.Common.{◌<◌, true, ◌≡◌, ℕ, ◌-◌, List, ◌++◌, length, take, drop, replicate, sym, ap, subst, arith}
use Rattle.std.proofs.Math.Seq.{take-append_seam}
use Rattle.std.proofs.lemmas.List.{drop-replicate, length-append}
use Rattle.names.specs.Name.{IsName, IsPaddedName, padded, is_name_byte}

pub kept_of : (text : List ℕ) → IsName text → IsPaddedName (padded text) (length text)
kept_of text h =
    let zeros = replicate (64 - length text) 0 in
    let front : take (length text) (padded text) ≡ text = take-append_seam text zeros in
    let long = length-append text zeros in
    record {
      within = rw long (omega arith);
      name = subst IsName (sym front) h;
      filled = ap padded (sym front);
    }

pub zeros_behind : (text : List ℕ) → text ++ drop (length text) (replicate 64 0) ≡ padded text
zeros_behind text = ap (λ zeros. text ++ zeros) (drop-replicate (length text) 64 0)

below_128 : (c : ℕ) → is_name_byte c ≡ true → c < 128
below_128 c is = grind (arith, nat_tests)

pub utf8_of : (text : List ℕ) → IsName text → IsUtf8 text
utf8_of text h = IsUtf8-from_ascii text (IsAscii-from_all text (λ k d within. below_128 _ (h.plain k d within)))
