-- What contracts see of a sink in memory.
use Rattle.std.specs.Prelude.{ℕ, List, Some}
use Rattle.xsearch_words.specs.declared.calls.Calls.{Calls}
use Rattle.xsearch_words.specs.declared.memory_sink.MemorySink.{MemorySink}
use Rattle.xsearch_words.specs.Sink.{SinkState}

-- the bytes gone out
abbrev pub bytes_of : MemorySink → List ℕ
bytes_of sink = sink.out

-- the calls so far, and those that are to fail
abbrev pub calls_of : MemorySink → Calls
calls_of sink = sink.calls

-- the count of faults
abbrev pub faults_of : MemorySink → ℕ
faults_of sink = sink.faults

-- what it tells
abbrev pub state_of : MemorySink → SinkState
state_of sink = record {
  out = Some (bytes_of sink);
  faults = faults_of sink;
  calls =
      (calls_of sink).made;
}
