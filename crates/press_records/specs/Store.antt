-- The first record of a press's journal: whose store it is.
use Rattle.std.specs.Prelude.{ℕ, List}
use Rattle.key_ids.specs.Base.{IsBase, rsync_scheme, https_scheme}
use Rattle.record_forms.specs.Form.{Form, Spells}
use Rattle.record_forms.specs.Forms.{both, marked, plain, sized}
use Rattle.press_records.specs.declared.store.StoreRecord.{StoreRecord}

-- The session identifier of RRDP (RFC 8182 section 3.3.1), in 16 bytes, and the bases of the
-- repository, its rsync folder and the https folder of its RRDP files.
abbrev pub Store : Type 0
Store = List ℕ × (List ℕ × List ℕ)

-- 0; the version 1 in two bytes; the session; the texts of the bases, each with its length.
unfoldable pub stores : Form Store
stores = marked 0 (marked 0 (marked 1 (both (plain 16) (both sized sized))))

-- The bases are those of a repository.
pub record AreBases (x : Store) : Type 0 where
  pub rsync : IsBase rsync_scheme x.1.0
  pub rrdp : IsBase https_scheme x.1.1

-- The bytes are the record of this store.
pub record IsStoreRecord (x : Store) (bytes : List ℕ) : Type 0 where
  pub bases : AreBases x
  pub spelled : Spells stores x bytes

abbrev pub store_value : StoreRecord → Store
store_value whole = (whole.session, (whole.site.rsync, whole.site.rrdp))
