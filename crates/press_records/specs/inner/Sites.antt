-- The repository that two texts are the bases of.
use Rattle.std.specs.Prelude.{◌≡◌, ⊤, ℕ, List, Result, Ok, Err}
use Rattle.key_ids.specs.Uris.{Bases}
use Rattle.key_ids.specs.Base.{IsBase, rsync_scheme, https_scheme}
use Rattle.record_forms.specs.declared.fault.ReadFault.{ReadFault}
use Rattle.record_forms.specs.declared.fault.ReadFault.TheVariants.{Bad, Memory}

-- The repository of these bases; or they aren't bases, or memory ran out.
abbrev pub IsSiteOf : List ℕ → List ℕ → Result Bases ReadFault → Type 0
IsSiteOf rsync rrdp (Ok site) =
    (site ≡ record { rsync = rsync; rrdp = rrdp })
    × IsBase rsync_scheme rsync × IsBase https_scheme rrdp
IsSiteOf rsync rrdp (Err Bad) = IsBase rsync_scheme rsync → IsBase https_scheme rrdp → ⊥
IsSiteOf rsync rrdp (Err Memory) = ⊤
