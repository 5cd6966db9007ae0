-- Sources and sinks in memory.
use Rattle.std.specs.Prelude.{ℕ, List, drop}
use Rattle.pot_doubles.specs.declared.calls.Calls.{Calls}
use Rattle.pot_doubles.specs.declared.streams.MemSink.{MemSink}
use Rattle.pot_doubles.specs.declared.streams.MemSource.{MemSource}

-- the bytes that a source has left
abbrev pub left_of : MemSource → List ℕ
left_of s = drop s.at s.bytes.items

-- its calls so far
abbrev pub source_calls : MemSource → Calls
source_calls s = s.calls

-- the bytes that were written to a sink
abbrev pub written_to : MemSink → List ℕ
written_to s = s.written.items

-- its calls so far
abbrev pub sink_calls : MemSink → Calls
sink_calls s = s.calls
