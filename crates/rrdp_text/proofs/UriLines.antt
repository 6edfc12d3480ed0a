-- The lines of URIs, made of texts.
use Rattle.std.proofs.Common.{◌≡◌, ℕ, refl, ap, map, List, [], ◌∷◌, ◌++◌}
use Rattle.std.specs.Prelude.{String}
use Rattle.std.specs.List.{flat_map}
use Rattle.std.specs.String.{string_bytes}
use Rattle.std.specs.declared.alloc.Global.{Global}
use Rattle.rrdp_text.specs.Locator.{uri_lines}

pub lines_of : (uris : List (String Global)) → flat_map (λ (uri : String Global). string_bytes uri ++ 10 ∷ []) uris ≡ uri_lines (map string_bytes uris)
unfolding uri_lines
lines_of [] = refl
lines_of (uri ∷ uris) = ap (λ (rest : List ℕ). (string_bytes uri ++ 10 ∷ []) ++ rest) (rest_of uris)
  where
    rest_of : (us : List (String Global))
        → flat_map (λ (u : String Global). string_bytes u ++ 10 ∷ []) us ≡ flat_map (λ (u : List ℕ). u ++ 10 ∷ []) (map string_bytes us)
    rest_of [] = refl
    rest_of (u ∷ us) = ap (λ (rest : List ℕ). (string_bytes u ++ 10 ∷ []) ++ rest) (rest_of us)
