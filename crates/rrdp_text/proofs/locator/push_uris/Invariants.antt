use Rattle.std.proofs.Common.{◌≡◌, ◌++◌, ◌∷◌, [], take}
use Rattle.std.specs.List.{flat_map}
use Rattle.std.specs.String.{string_bytes}
use Rattle.rrdp_text.proofs.locator.push_uris.Given as goal

abbrev pub invariant-loop-uri : goal.invariant-loop-uri
invariant-loop-uri l = string_bytes l.out ≡ string_bytes l.fn.out ++ flat_map (λ uri. string_bytes uri ++ 10 ∷ []) (take l.uri-index l.uris)
