-- Parts, and parts one after another.
use Rattle.std.proofs.Common.{◌≡◌, ℕ, ◌<◌, ◌^◌, List, [], ◌∷◌, ◌++◌, length, refl, sym, ap, subst, ◌∙◌}
use Rattle.std.specs.Prelude.{Option, Some, Result, Ok, Err, MatchResult, IfOk}
use Rattle.authority_book.specs.declared.commands.Command.{Command}
use Rattle.authority_book.specs.declared.commands.Command.TheVariants.{Add, UpdateRoas}
use Rattle.std.specs.List.{flat_map, AllByRecursion}
use Rattle.names.specs.Name.{IsName}
use Rattle.origins.specs.declared.Origin.{Origin}
use Rattle.res_sets.specs.declared.numbers.Family.{Family}
use Rattle.res_sets.specs.declared.numbers.Family.TheVariants.{Asn, V4, V6}
use Rattle.res_sets.specs.declared.holdings.Resources.{Resources}
use Rattle.res_sets.specs.Sets.{RangeSet, IsCanonical}
use Rattle.cmd_codec.specs.declared.faults.RecordFault.{RecordFault}
use Rattle.cmd_codec.specs.Spelling.{Part, IsSound, IsRecordable, granted, row, bytes_32, origin_spelling, range_spelling, part_spelling}
use Rattle.cmd_codec.specs.Spelling.Part.{TheNumber, TheName, TheOrigins, TheRanges}
use Rattle.cmd_codec.specs.Fault.{Place, Way, Kind, field, front_32, is_any, is_name_length, is_name_text, origin_fields, range_fields, part, parts, parts_if, kinds_of, grant_kinds}
use Rattle.cmd_codec.specs.Fault.Kind.{NumberPart, NamePart, OriginsPart, RangesPart}
use Rattle.cmd_codec.specs.Outcome.{IsFaultOf, Passes, Reads, ReadsParts, ReadsRow}
use Rattle.cmd_codec.proofs.Ways.{behind_later, fault_first, fault_later, fault_alike, spelled_then}

pub bad_name : (old : Place) (fault : RecordFault) → IsFaultOf (field 4 is_name_length old) fault → IsFaultOf (part NamePart old) fault
unfolding part
bad_name old fault bad = fault_first (field 4 is_name_length old) (field (front_32 old.left) is_name_text) fault bad

pub name_read : (old mid new : Place) (n : ℕ) (r : Result (List ℕ) RecordFault) → n ≡ front_32 old.left → Passes (bytes_32 n) (field 4 is_name_length) old mid
    → MatchResult r (λ name. IsName name × (length name ≡ n) × Passes name (field n is_name_text) mid new) (IsFaultOf (field n is_name_text mid))
    → Reads (λ name. TheName name) (part NamePart) old new r
unfolding part part_spelling
name_read old mid new n (Ok name) n_is first (is, size, then) = (
  is,
  record {
    behind = behind_later (field 4 is_name_length old) (field (front_32 old.left) is_name_text) mid new first.behind
        (ap (λ (k : ℕ). field k is_name_text mid) (sym n_is) ∙ then.behind);
    spelled = spelled_then (bytes_32 (length name)) name old mid new
        (first.spelled ∙ ap (λ (k : ℕ). bytes_32 k ++ mid.left) (sym size)) then.spelled;
  },
)
name_read old mid new n (Err fault) n_is first bad =
    fault_later (field 4 is_name_length old) (field (front_32 old.left) is_name_text) mid fault first.behind
    (subst (λ (k : ℕ). IsFaultOf (field k is_name_text mid) fault) n_is bad)

pub bad_origins_count : (old : Place) (fault : RecordFault) → IsFaultOf (field 4 is_any old) fault → IsFaultOf (part OriginsPart old) fault
unfolding part
bad_origins_count old fault bad = fault_first (field 4 is_any old) (origin_fields (front_32 old.left)) fault bad

pub bad_origins : (old mid : Place) (n : ℕ) (fault : RecordFault) → n ≡ front_32 old.left → Passes (bytes_32 n) (field 4 is_any) old mid → IsFaultOf (origin_fields n mid) fault
    → IsFaultOf (part OriginsPart old) fault
unfolding part
bad_origins old mid n fault n_is first bad =
    fault_later (field 4 is_any old) (origin_fields (front_32 old.left)) mid fault first.behind
    (subst (λ (k : ℕ). IsFaultOf (origin_fields k mid) fault) n_is bad)

pub origins_read : (old mid new : Place) (n : ℕ) (items : List Origin) → n < 2 ^ 32 → n ≡ front_32 old.left → Passes (bytes_32 n) (field 4 is_any) old mid
    → length items ≡ n → Passes (flat_map origin_spelling items) (origin_fields n) mid new
    → IsSound (TheOrigins items) × Passes (part_spelling (TheOrigins items)) (part OriginsPart) old new
unfolding part part_spelling
origins_read old mid new n items small n_is first size then = (
  subst (λ (k : ℕ). k < 2 ^ 32) (sym size) small,
  record {
    behind = behind_later (field 4 is_any old) (origin_fields (front_32 old.left)) mid new first.behind (ap (λ (k : ℕ). origin_fields k mid) (sym n_is) ∙ then.behind);
    spelled = spelled_then (bytes_32 (length items)) (flat_map origin_spelling items) old mid new (first.spelled ∙ ap (λ (k : ℕ). bytes_32 k ++ mid.left) (sym size)) then.spelled;
  },
)

pub bad_ranges_count : (family : Family) (old : Place) (fault : RecordFault) → IsFaultOf (field 4 is_any old) fault → IsFaultOf (part (RangesPart family) old) fault
unfolding part
bad_ranges_count family old fault bad = fault_first (field 4 is_any old) (range_fields family (front_32 old.left) 0) fault bad

pub ranges_read : (family : Family) (old mid new : Place) (n : ℕ) (r : Result RangeSet RecordFault) → n < 2 ^ 32 → n ≡ front_32 old.left → Passes (bytes_32 n) (field 4 is_any) old mid
    → MatchResult r (λ set. (set.family ≡ family) × (length set.ranges ≡ n) × IsCanonical set × Passes (flat_map range_spelling set.ranges) (range_fields family n 0) mid new)
    (IsFaultOf (range_fields family n 0 mid))
    → Reads (λ set. TheRanges set) (part (RangesPart family)) old new r
unfolding part part_spelling
ranges_read family old mid new n (Ok set) small n_is first (family_is, size, canonical, then) = (
  (canonical, subst (λ (k : ℕ). k < 2 ^ 32) (sym size) small),
  record {
    behind = behind_later (field 4 is_any old) (range_fields family (front_32 old.left) 0) mid new first.behind (ap (λ (k : ℕ). range_fields family k 0 mid) (sym n_is) ∙ then.behind);
    spelled = spelled_then (bytes_32 (length set.ranges)) (flat_map range_spelling set.ranges) old mid new (first.spelled ∙ ap (λ (k : ℕ). bytes_32 k ++ mid.left) (sym size)) then.spelled;
  },
)
ranges_read family old mid new n (Err fault) small n_is first bad =
    fault_later (field 4 is_any old) (range_fields family (front_32 old.left) 0) mid fault first.behind
    (subst (λ (k : ℕ). IsFaultOf (range_fields family k 0 mid) fault) n_is bad)

-- No parts, and one part before others.
pub no_parts : (place : Place) → Passes [] (parts []) place place
no_parts place = record { behind = refl; spelled = refl }

pub part_then : (kind : Kind) (kinds : List Kind) (one : Part) (rest : List Part) (old mid new : Place) → Passes (part_spelling one) (part kind) old mid
    → Passes (flat_map part_spelling rest) (parts kinds) mid new → Passes (flat_map part_spelling (one ∷ rest)) (parts (kind ∷ kinds)) old new
part_then kind kinds one rest old mid new first later = record {
  behind = behind_later (part kind old) (parts kinds) mid new first.behind later.behind;
  spelled = spelled_then (part_spelling one) (flat_map part_spelling rest) old mid new first.spelled later.spelled;
}

pub bad_part : (kind : Kind) (kinds : List Kind) (old : Place) (fault : RecordFault) → IsFaultOf (part kind old) fault → IsFaultOf (parts (kind ∷ kinds) old) fault
bad_part kind kinds old fault bad = fault_first (part kind old) (parts kinds) fault bad

pub bad_later : (kind : Kind) (kinds : List Kind) (old mid : Place) (text : List ℕ) (fault : RecordFault) → Passes text (part kind) old mid → IsFaultOf (parts kinds mid) fault
    → IsFaultOf (parts (kind ∷ kinds) old) fault
bad_later kind kinds old mid text fault first bad = fault_later (part kind old) (parts kinds) mid fault first.behind bad

pub number_passes : (n : ℕ) (way : Place → Way) (old new : Place) → Passes (part_spelling (TheNumber n)) way old new → Passes (bytes_32 n) way old new
unfolding part_spelling
number_passes n way old new passes = passes

number_part : (text : List ℕ) (old new : Place) → Passes text (field 4 is_any) old new → Passes text (part NumberPart) old new
unfolding part
number_part text old new passes = record { behind = passes.behind; spelled = passes.spelled }

number_bad : (old : Place) (fault : RecordFault) → IsFaultOf (field 4 is_any old) fault → IsFaultOf (part NumberPart old) fault
unfolding part
number_bad old fault bad = bad

pub family_read : (family : Family) (n : ℕ) (old new : Place) (r : Result RangeSet RecordFault)
    → MatchResult r (λ set. (set.family ≡ family) × (length set.ranges ≡ n) × IsCanonical set × Passes (flat_map range_spelling set.ranges) (range_fields family n 0) old new)
    (IsFaultOf (range_fields family n 0 old))
    → IfOk r (λ set. set.family ≡ family)
family_read family n old new (Ok set) is = is.0
family_read family n old new (Err fault) is = tt

-- one part alone
pub part_alone : (kind : Kind) (one : Part) (old new : Place) → Passes (part_spelling one) (part kind) old new → Passes (flat_map part_spelling (one ∷ [])) (parts (kind ∷ [])) old new
part_alone kind one old new passes = part_then kind [] one [] old new new passes (no_parts new)

-- a command's row
pub row_read : (command : Command) (first : ℕ) (kinds : List Kind) (old new : Place) → (row command).0 ≡ first → kinds_of first ≡ Some kinds → IsRecordable command
    → Passes (flat_map part_spelling (row command).1) (parts kinds) old new → ReadsRow first old new (Ok command)
row_read command first kinds old new is known recordable passes = (
  is,
  recordable,
  record { behind = ap (λ (o : Option (List Kind)). parts_if o old) known ∙ passes.behind; spelled = passes.spelled },
)

pub row_bad : (first : ℕ) (kinds : List Kind) (old new : Place) (fault : RecordFault) → kinds_of first ≡ Some kinds → IsFaultOf (parts kinds old) fault → ReadsRow first old new (Err fault)
row_bad first kinds old new fault known bad =
    fault_alike (parts_if (kinds_of first) old) (parts kinds old) fault (ap (λ (o : Option (List Kind)). parts_if o old) known) bad

pub add_read : (old mid new : Place) (name : List ℕ) (n : ℕ) → IsName name → n < 2 ^ 32 → Passes (part_spelling (TheName name)) (part NamePart) old mid
    → Passes (part_spelling (TheNumber n)) (field 4 is_any) mid new → ReadsRow 1 old new (Ok (Add name n))
add_read old mid new name n is fits first then =
    row_read (Add name n) 1 (NamePart ∷ NumberPart ∷ []) old new refl refl (is, (fits, tt))
    (part_then NamePart (NumberPart ∷ []) (TheName name) (TheNumber n ∷ []) old mid new first (part_alone NumberPart (TheNumber n) mid new (number_part (part_spelling (TheNumber n)) mid new then)))

pub add_bad_name : (old new : Place) (fault : RecordFault) → IsFaultOf (part NamePart old) fault → ReadsRow 1 old new (Err fault)
add_bad_name old new fault bad = row_bad 1 (NamePart ∷ NumberPart ∷ []) old new fault refl (bad_part NamePart (NumberPart ∷ []) old fault bad)

pub add_bad_signer : (old mid new : Place) (text : List ℕ) (fault : RecordFault) → Passes text (part NamePart) old mid → IsFaultOf (field 4 is_any mid) fault → ReadsRow 1 old new (Err fault)
add_bad_signer old mid new text fault first bad =
    row_bad 1 (NamePart ∷ NumberPart ∷ []) old new fault refl (bad_later NamePart (NumberPart ∷ []) old mid text fault first (bad_part NumberPart [] mid fault (number_bad mid fault bad)))

pub roas_read : (old mid new : Place) (added removed : List Origin) → length added < 2 ^ 32 → length removed < 2 ^ 32 → Passes (part_spelling (TheOrigins added)) (part OriginsPart) old mid
    → Passes (part_spelling (TheOrigins removed)) (part OriginsPart) mid new → ReadsRow 7 old new (Ok (UpdateRoas added removed))
roas_read old mid new added removed few fewer first then =
    row_read (UpdateRoas added removed) 7 (OriginsPart ∷ OriginsPart ∷ []) old new refl refl (few, (fewer, tt))
    (part_then OriginsPart (OriginsPart ∷ []) (TheOrigins added) (TheOrigins removed ∷ []) old mid new first (part_alone OriginsPart (TheOrigins removed) mid new then))

pub roas_bad_added : (old new : Place) (fault : RecordFault) → IsFaultOf (part OriginsPart old) fault → ReadsRow 7 old new (Err fault)
roas_bad_added old new fault bad = row_bad 7 (OriginsPart ∷ OriginsPart ∷ []) old new fault refl (bad_part OriginsPart (OriginsPart ∷ []) old fault bad)

pub roas_bad_removed : (old mid new : Place) (text : List ℕ) (fault : RecordFault) → Passes text (part OriginsPart) old mid → IsFaultOf (part OriginsPart mid) fault → ReadsRow 7 old new (Err fault)
roas_bad_removed old mid new text fault first bad =
    row_bad 7 (OriginsPart ∷ OriginsPart ∷ []) old new fault refl (bad_later OriginsPart (OriginsPart ∷ []) old mid text fault first (bad_part OriginsPart [] mid fault bad))

-- What a holder is granted: three sets.
pub grant_read : (old one two new : Place) (asn v4 v6 : RangeSet) → IsSound (TheRanges asn) → IsSound (TheRanges v4) → IsSound (TheRanges v6)
    → Passes (part_spelling (TheRanges asn)) (part (RangesPart Asn)) old one → Passes (part_spelling (TheRanges v4)) (part (RangesPart V4)) one two
    → Passes (part_spelling (TheRanges v6)) (part (RangesPart V6)) two new
    → AllByRecursion IsSound (TheRanges asn ∷ TheRanges v4 ∷ TheRanges v6 ∷ []) × Passes (flat_map part_spelling (TheRanges asn ∷ TheRanges v4 ∷ TheRanges v6 ∷ [])) (parts grant_kinds) old new
grant_read old one two new asn v4 v6 a b d first then last = (
  (a, (b, (d, tt))),
  part_then (RangesPart Asn) (RangesPart V4 ∷ RangesPart V6 ∷ []) (TheRanges asn) (TheRanges v4 ∷ TheRanges v6 ∷ []) old one new first
      (part_then (RangesPart V4) (RangesPart V6 ∷ []) (TheRanges v4) (TheRanges v6 ∷ []) one two new then (part_alone (RangesPart V6) (TheRanges v6) two new last)),
)

pub grant_bad_asn : (old : Place) (fault : RecordFault) → IsFaultOf (part (RangesPart Asn) old) fault → IsFaultOf (parts grant_kinds old) fault
grant_bad_asn old fault bad = bad_part (RangesPart Asn) (RangesPart V4 ∷ RangesPart V6 ∷ []) old fault bad

pub grant_bad_v4 : (old one : Place) (a : List ℕ) (fault : RecordFault) → Passes a (part (RangesPart Asn)) old one → IsFaultOf (part (RangesPart V4) one) fault → IsFaultOf (parts grant_kinds old) fault
grant_bad_v4 old one a fault first bad =
    bad_later (RangesPart Asn) (RangesPart V4 ∷ RangesPart V6 ∷ []) old one a fault first (bad_part (RangesPart V4) (RangesPart V6 ∷ []) one fault bad)

pub grant_bad_v6 : (old one two : Place) (a b : List ℕ) (fault : RecordFault) → Passes a (part (RangesPart Asn)) old one → Passes b (part (RangesPart V4)) one two
    → IsFaultOf (part (RangesPart V6) two) fault → IsFaultOf (parts grant_kinds old) fault
grant_bad_v6 old one two a b fault first then bad =
    bad_later (RangesPart Asn) (RangesPart V4 ∷ RangesPart V6 ∷ []) old one a fault first
    (bad_later (RangesPart V4) (RangesPart V6 ∷ []) one two b fault then (bad_part (RangesPart V6) [] two fault bad))

-- A child and what it is granted.
pub child_read : (old mid new : Place) (child : List ℕ) (grant : Resources) → IsSound (TheName child) → Passes (part_spelling (TheName child)) (part NamePart) old mid
    → ReadsParts grant_kinds granted mid new (Ok grant)
    → AllByRecursion IsSound (TheName child ∷ granted grant) × Passes (flat_map part_spelling (TheName child ∷ granted grant)) (parts (NamePart ∷ grant_kinds)) old new
child_read old mid new child grant is first (sound, then) = ((is, sound), part_then NamePart grant_kinds (TheName child) (granted grant) old mid new first then)

pub child_bad_name : (old : Place) (fault : RecordFault) → IsFaultOf (part NamePart old) fault → IsFaultOf (parts (NamePart ∷ grant_kinds) old) fault
child_bad_name old fault bad = bad_part NamePart grant_kinds old fault bad

pub child_bad_grant : (old mid : Place) (text : List ℕ) (fault : RecordFault) → Passes text (part NamePart) old mid → IsFaultOf (parts grant_kinds mid) fault → IsFaultOf (parts (NamePart ∷ grant_kinds) old) fault
child_bad_grant old mid text fault first bad = bad_later NamePart grant_kinds old mid text fault first bad
