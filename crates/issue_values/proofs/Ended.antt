-- How URIs end.
use Rattle.std.specs.Prelude.{codes}
use Rattle.std.proofs.Common.{◌≡◌, ℕ, ◌+◌, ◌-◌, ◌<◌, List, ◌++◌, length, get_or, ap, ◌∙◌, arith}
use Rattle.std.proofs.lemmas.List.{length-append, get_or-append-add}
use Rattle.hex.specs.Hex.{encode_lower}
use Rattle.key_ids.specs.Uris.{Bases, anchor_uri, folder_of, cert_uri, crl_uri, manifest_uri}
use Rattle.origins.specs.declared.Origin.{Origin}
use Rattle.origins.specs.Origin.{origin_text}
use Rattle.issue_values.specs.Publishers.{roa_uri}
use Rattle.issue_values.specs.UriEndings.{last_byte}

last-behind : (xs ys : List ℕ) → 0 < length ys → last_byte (xs ++ ys) ≡ last_byte ys
last-behind xs ys some =
    let long : length (xs ++ ys) ≡ length xs + length ys = length-append xs ys in
    let place : length (xs ++ ys) - 1 ≡ length xs + (length ys - 1) = omega (arith, long, some) in
    ap (λ (n : ℕ). get_or (xs ++ ys) n 0) place ∙ get_or-append-add xs ys (length ys - 1) 0

-- A file of a folder ends as its name does.
last-file : (folder stem ending : List ℕ) → 0 < length ending → last_byte (folder ++ (stem ++ ending)) ≡ last_byte ending
last-file folder stem ending some =
    let long = length-append stem ending in
    last-behind folder (stem ++ ending) (omega (arith, long, some)) ∙ last-behind stem ending some

pub ends-anchor : (site : Bases) → last_byte (anchor_uri site) ≡ 114
ends-anchor site = last-behind site.rsync (codes "ta.cer") (omega arith)

pub ends-cer : (site : Bases) (name key : List ℕ) → last_byte (cert_uri site name key) ≡ 114
ends-cer site name key = last-file (folder_of site name) (encode_lower key) (codes ".cer") (omega arith)

pub ends-roa : (site : Bases) (name : List ℕ) (origin : Origin) → last_byte (roa_uri site name origin) ≡ 97
ends-roa site name origin = last-file (folder_of site name) (encode_lower (origin_text origin)) (codes ".roa") (omega arith)

pub ends-crl : (site : Bases) (name key : List ℕ) → last_byte (crl_uri site name key) ≡ 108
ends-crl site name key = last-file (folder_of site name) (encode_lower key) (codes ".crl") (omega arith)

pub ends-mft : (site : Bases) (name key : List ℕ) → last_byte (manifest_uri site name key) ≡ 116
ends-mft site name key = last-file (folder_of site name) (encode_lower key) (codes ".mft") (omega arith)
