-- What contracts see of a sink in memory whose calls don't fail.
use Rattle.std.specs.Prelude.{ℕ, List, Some}
use Rattle.xsearch_words.specs.declared.sure_sink.SureSink.{SureSink}
use Rattle.xsearch_words.specs.Sink.{SinkState}

-- the bytes gone out
abbrev pub bytes_of : SureSink → List ℕ
bytes_of sink = sink.out

-- what it tells
abbrev pub state_of : SureSink → SinkState
state_of sink = record { out = Some (bytes_of sink); faults = 0; calls = sink.calls }
