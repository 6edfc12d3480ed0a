-- What a text can say (RFC 8182 section 3.5).
use Rattle.std.specs.Prelude.{◌≡◌, ℕ, ◌^◌, ◌<◌, true, List, length, All, slice_index, None, Some}
use Rattle.std.specs.List.{list_all, AllByRecursion}
use Rattle.std.specs.List.Sorted.{IsStrictlySortedBy}
use Rattle.std.specs.Ordering.{on}
use Rattle.pub_set.specs.Objects.{uri_cmp}
use Rattle.pub_set.specs.Changes.{uri_of}
use Rattle.pub_set.specs.declared.objects.Object.{Object}
use Rattle.pub_set.specs.declared.steps.Change.{Change}
use Rattle.pub_set.specs.declared.steps.Change.TheVariants.{Put, Withdraw}
use Rattle.rrdp_text.specs.Fields.{is_uri_byte}

-- Each number is a byte.
abbrev pub AreBytes : List ℕ → Type 0
AreBytes bytes = (i : ℕ) → slice_index bytes i < 256

-- A session identifier.
pub record IsUuid (u : List ℕ) : Type 0 where
  pub size : length u ≡ 16
  pub bytes : All (λ b. b < 256) u

-- A SHA-256 hash (RFC 8182 section 3.5.1.3).
pub record IsHash (h : List ℕ) : Type 0 where
  pub size : length h ≡ 32
  pub bytes : AreBytes h

-- A URI that needs no escape: one byte or more of letters, digits and `-._~/:`.
pub record IsUri (uri : List ℕ) : Type 0 where
  pub stands : 0 < length uri
  pub bytes : list_all is_uri_byte uri ≡ true

pub record IsObject (o : Object) : Type 0 where
  pub uri : IsUri o.uri
  pub bytes : AreBytes o.bytes

abbrev pub IsChange : Change → Type 0
IsChange (Put uri bytes None) = IsUri uri × AreBytes bytes
IsChange (Put uri bytes (Some hash)) = IsUri uri × IsHash hash × AreBytes bytes
IsChange (Withdraw uri hash) = IsUri uri × IsHash hash

-- The first line's values.
pub record IsOpening (session : List ℕ) (serial : ℕ) : Type 0 where
  pub uuid : IsUuid session
  pub fits : serial < 2 ^ 64

-- Objects by rising URI, each URI once.
pub record AreObjects (objects : List Object) : Type 0 where
  pub ascending : IsStrictlySortedBy (on (λ o. o.uri) uri_cmp) objects
  pub each : AllByRecursion IsObject objects

-- Changes by rising URI, each URI once.
pub record AreChanges (changes : List Change) : Type 0 where
  pub ascending : IsStrictlySortedBy (on uri_of uri_cmp) changes
  pub each : AllByRecursion IsChange changes
