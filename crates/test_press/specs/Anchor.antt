-- The work of the trust anchor's edition, and what is there before it.
use Rattle.std.specs.Prelude.{ℕ, List, [], ◌∷◌, map, Option, None, Some}
use Rattle.origins.specs.declared.Origin.{Origin}
use Rattle.res_sets.specs.declared.holdings.Resources.{Resources}
use Rattle.signer_api.specs.declared.values.PublicKey.{PublicKey}
use Rattle.key_roll.specs.declared.rows.KeyRow.{KeyRow}
use Rattle.key_roll.specs.declared.rows.Role.TheVariants.{Current}
use Rattle.key_roll.specs.declared.work.Work.{Work}
use Rattle.key_roll.specs.declared.work.NewKey.{NewKey}
use Rattle.key_roll.specs.declared.work.RoaWork.{RoaWork}
use Rattle.key_roll.specs.declared.work.KeyName.{KeyName}
use Rattle.key_roll.specs.declared.work.KeyName.TheVariants.{Fresh}

-- The new key, of the first signer.
abbrev pub anchor_name : KeyName
anchor_name = Fresh 0

abbrev pub anchor_key : NewKey
anchor_key = record { desk = 0; signer = 0; role = Current; since = 0; done = 0 }

abbrev pub roa_under : Origin → RoaWork
roa_under origin = record { issuer = anchor_name; origin = origin }

-- Its certificate, ROAs of these origins, its CRL and manifest.
abbrev pub anchor_work : ℕ → Resources → List Origin → Work
anchor_work moment held origins = record {
  moment = moment;
  new_keys = anchor_key ∷ [];
  roles = [];
  certs = record { subject = anchor_name; issuer = anchor_name; held = held } ∷ [];
  roas = map roa_under origins;
  points = record { key = anchor_name } ∷ [];
  withdrawn = [];
  dropped = [];
}

-- A live key that signed nothing yet.
abbrev pub unused_row : PublicKey → KeyRow
unused_row key = record {
  desk = 0;
  signer = 0;
  role = Current;
  key = key;
  next_serial = 1;
  number = 0;
  this_update = 0;
  since = 0;
  done = 0;
  revoked = [];
}

abbrev pub unused_rows : Option PublicKey → List KeyRow
unused_rows None = []
unused_rows (Some key) = unused_row key ∷ []
