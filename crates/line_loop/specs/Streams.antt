-- What ends over streams are over.
use Rattle.line_loop.specs.declared.streams.SourceOver.{SourceOver}
use Rattle.line_loop.specs.declared.streams.SinkOver.{SinkOver}
use Rattle.line_loop.specs.declared.host_streams.HostReader.{HostReader}
use Rattle.line_loop.specs.declared.host_streams.HostWriter.{HostWriter}
use Rattle.host_calls.specs.declared.tally.Tally.{Tally}

abbrev pub source_reader : {C : Type 0} → SourceOver C → C
source_reader source = source.from

abbrev pub sink_writer : {C : Type 0} → SinkOver C → C
sink_writer sink = sink.to

abbrev pub host_reader : {R : Type 0} → HostReader R → R
host_reader reader = reader.from

abbrev pub reader_tally : {R : Type 0} → HostReader R → Tally
reader_tally reader = reader.tally

abbrev pub host_writer : {W : Type 0} → HostWriter W → W
host_writer writer = writer.to

abbrev pub writer_tally : {W : Type 0} → HostWriter W → Tally
writer_tally writer = writer.tally
