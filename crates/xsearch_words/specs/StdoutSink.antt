-- What contracts see of the sink over the standard output.
use Rattle.std.specs.Prelude.{ℕ, None}
use Rattle.xsearch_words.specs.declared.stdout_sink.StdoutSink.{StdoutSink}
use Rattle.xsearch_words.specs.Sink.{SinkState}

-- the count of faults
abbrev pub faults_of : {R : Type 0} → StdoutSink R → ℕ
faults_of sink = sink.faults

-- what it tells: nothing of what went out
abbrev pub state_of : {R : Type 0} → StdoutSink R → SinkState
state_of sink = record { out = None; faults = sink.faults; calls = sink.calls }
