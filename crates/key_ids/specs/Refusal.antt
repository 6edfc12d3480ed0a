-- Why two texts are not the bases of a repository.
use Rattle.std.specs.Prelude.{ℕ, List}
use Rattle.key_ids.specs.declared.site.SiteFault.{SiteFault}
use Rattle.key_ids.specs.declared.site.SiteFault.TheVariants.{BadRsync, BadRrdp, Memory}
use Rattle.key_ids.specs.Base.{IsBase, rsync_scheme, https_scheme}

-- That is the first thing amiss with them. Memory says nothing of them.
abbrev pub IsRefusal : List ℕ → List ℕ → SiteFault → Type 0
IsRefusal rsync rrdp BadRsync = ¬ IsBase rsync_scheme rsync
IsRefusal rsync rrdp BadRrdp = IsBase rsync_scheme rsync × (¬ IsBase https_scheme rrdp)
IsRefusal rsync rrdp Memory = Unit
