-- The making of an edition's new keys (RFC 6489 section 2).
use Rattle.std.specs.Prelude.{◌≡◌, ℕ, Bool, true, false, List, [], ◌∷◌, ◌++◌, map, ◌⊎◌}
use Rattle.std.specs.List.{list_any}
use Rattle.std.specs.Str.{bytes_eq}
use Rattle.signer_api.specs.State.{SignerState, CountsFault}
use Rattle.signer_ring.specs.Ring.{ChangesOne}
use Rattle.signer_ring.specs.Calls.{Call, after_call, after_calls}
use Rattle.signer_ring.specs.Calls.Call.{Makes}
use Rattle.key_roll.specs.declared.rows.KeyRow.{KeyRow}
use Rattle.key_roll.specs.declared.work.NewKey.{NewKey}
use Rattle.issue_keys.specs.declared.fault.MakeFault.{MakeFault}
use Rattle.issue_keys.specs.declared.fault.MakeFault.TheVariants.{SignerFault, KeyClash, Memory}
use Rattle.issue_keys.specs.Keys.{id_of, fresh_row, AreBegun, AreFresh}

-- The call that made a key.
abbrev pub making : KeyRow → Call
making row = Makes row.signer row.key.bytes

-- One of the identifiers is that one.
abbrev pub clashes : List (List ℕ) → List ℕ → Bool
clashes ids id = list_any (λ other. bytes_eq other id) ids

-- No key has one of the identifiers, nor that of a key before it.
abbrev pub AreApart : List (List ℕ) → List KeyRow → Type 0
AreApart ids [] = Unit {0}
AreApart ids (row ∷ rows) =
    (clashes ids (id_of row) ≡ false) × AreApart (ids ++ id_of row ∷ []) rows

-- The signers made these keys, one after another, and did nothing else. None has the identifier
-- of a live key or of another one.
pub record AreMade
    (new_keys : List NewKey) (rows : List KeyRow) (old new : List SignerState)
    (fresh : List KeyRow) : Type 0 where
  pub keys : AreFresh new_keys fresh
  pub apart : AreApart (map id_of rows) fresh
  pub signers : new ≡ after_calls old (map making fresh)

-- ---- why it stopped

-- The signer counted a fault after some of the keys were made, and nothing else changed.
pub record IsKeyFault
    (new_keys : List NewKey) (rows : List KeyRow) (old new : List SignerState) (signer : ℕ)
    : Type 0 where
  pub made : List KeyRow
  pub keys : AreBegun new_keys made
  pub apart : AreApart (map id_of rows) made
  pub fault : ChangesOne signer CountsFault (after_calls old (map making made)) new

-- The key that was made last has the identifier of a live key or of one made before it. No other
-- one does.
pub record IsClash
    (new_keys : List NewKey) (rows : List KeyRow) (old new : List SignerState) (id : List ℕ)
    : Type 0 where
  pub before : List KeyRow
  pub last : KeyRow
  pub keys : AreBegun new_keys (before ++ last ∷ [])
  pub apart : AreApart (map id_of rows) before
  pub clash : clashes (map id_of rows ++ map id_of before) (id_of last) ≡ true
  pub identifier : id ≡ id_of last
  pub signers : new ≡ after_calls old (map making (before ++ last ∷ []))

-- Memory ran out before a key was made, or after some.
pub record IsShort (new_keys : List NewKey) (old new : List SignerState) : Type 0 where
  pub made : List KeyRow
  pub keys : (made ≡ []) ⊎ AreBegun new_keys made
  pub signers : new ≡ after_calls old (map making made)

abbrev pub IsKeyStop :
    List NewKey → List KeyRow → List SignerState → List SignerState → MakeFault → Type 0
IsKeyStop new_keys rows old new (SignerFault signer) = IsKeyFault new_keys rows old new signer
IsKeyStop new_keys rows old new (KeyClash id) = IsClash new_keys rows old new id.bytes
IsKeyStop new_keys rows old new Memory = IsShort new_keys old new

-- ---- one key

-- It was made, and its row is this one.
pub record IsOneMade (new : NewKey) (old after : List SignerState) (row : KeyRow) : Type 0 where
  pub made : row ≡ fresh_row new row.key
  pub signers : after ≡ after_call old (making row)

-- Why its making stopped, where those identifiers are there.
abbrev pub IsOneStop :
    NewKey → (List ℕ → Bool) → List SignerState → List SignerState → MakeFault → Type 0
IsOneStop new has old after (SignerFault signer) = ChangesOne signer CountsFault old after
IsOneStop new has old after (KeyClash id) =
    (row : KeyRow) × IsOneMade new old after row × (id.bytes ≡ id_of row)
    × (has (id_of row) ≡ true)
IsOneStop new has old after Memory = (after ≡ old) ⊎ ((row : KeyRow) × IsOneMade new old after row)
