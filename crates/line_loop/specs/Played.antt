-- What is seen of a reader and a writer in memory.
use Rattle.std.specs.Prelude.{ℕ, List, drop}
use Rattle.line_loop.specs.declared.played.PlayedReader.{PlayedReader}
use Rattle.line_loop.specs.declared.played.PlayedWriter.{PlayedWriter}

-- the bytes that a reader will still give
abbrev pub reader_left : PlayedReader → List ℕ
reader_left reader = drop reader.at reader.bytes.items

-- the bytes that a writer has taken
abbrev pub writer_bytes : PlayedWriter → List ℕ
writer_bytes writer = writer.bytes.items
