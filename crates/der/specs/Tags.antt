-- Tags by name (X.690 section 8.1.2). A tag in brackets is of the context, and constructed but where
-- it is said to be primitive.
use Rattle.std.specs.Prelude.{ℕ}

abbrev pub boolean : ℕ
boolean = 0x01

abbrev pub integer : ℕ
integer = 0x02

abbrev pub bit_string : ℕ
bit_string = 0x03

abbrev pub octet_string : ℕ
octet_string = 0x04

abbrev pub null : ℕ
null = 0x05

abbrev pub object_identifier : ℕ
object_identifier = 0x06

abbrev pub printable_string : ℕ
printable_string = 0x13

abbrev pub ia5_string : ℕ
ia5_string = 0x16

abbrev pub utc_time : ℕ
utc_time = 0x17

abbrev pub generalized_time : ℕ
generalized_time = 0x18

abbrev pub sequence : ℕ
sequence = 0x30

abbrev pub set_of : ℕ
set_of = 0x31

-- [0], primitive
abbrev pub primitive_0 : ℕ
primitive_0 = 0x80

-- [6], primitive
abbrev pub primitive_6 : ℕ
primitive_6 = 0x86

-- [0]
abbrev pub context_0 : ℕ
context_0 = 0xa0

-- [3]
abbrev pub context_3 : ℕ
context_3 = 0xa3
